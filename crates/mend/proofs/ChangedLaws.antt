-- The whole catalog after a row came or went: the links, the directory and the first demanded rows, one after the other. Assumes nothing.
use Prim.Native.Nat.{ℕ, ◌+◌}
use native.Mathlib.Omega.{arith}
use mathlib.Core.Path.{◌≡◌}
use mathlib.Core.List.{List}
use Rattle.model.specs.Scheme.{Scheme}
use Rattle.model.specs.Database.{Database}
use Rattle.catalog.specs.Catalog.{first_in, heads_in, starts_in, Directory, Links, Indexed, Catalogued}
use Rattle.mend.specs.Changing.{Relinked}
use Rattle.mend.specs.Values.{Redirected}
use Rattle.mend.specs.Resetting.{Redemanded}
use Rattle.mend.proofs.RelinkLaws.{part-kept, directory-kept}
use Rattle.mend.proofs.ResetLaws.{links-kept}

-- after the links
module _ (G : Database) (xs ys : List ℕ) (x : Relinked G xs ys) where
  pub relinked-directory : (D : Database) (keys : List ℕ) → Directory D keys (heads_in xs) (starts_in xs) → Directory D keys (heads_in ys) (starts_in ys)
  relinked-directory D keys d = directory-kept D keys xs ys (λ z l. x.behind z (omega arith)) d

  pub relinked-starts : starts_in ys ≡ starts_in xs
  relinked-starts = part-kept 16384 65 xs ys (λ i l. x.behind (16384 + i) (omega arith))

  pub relinked-firsts : first_in ys ≡ first_in xs
  relinked-firsts = part-kept 4096 8192 xs ys (λ i l. x.behind (4096 + i) (omega arith))

-- after the directory
module _ (G : Database) (keys xs ys : List ℕ) (x : Redirected G keys xs ys) where
  pub redirected-links : (D : Database) → Links D xs → Links D ys
  redirected-links D l = links-kept D xs ys x.long (λ z h. x.before z (omega arith)) l

  pub redirected-firsts : first_in ys ≡ first_in xs
  redirected-firsts = part-kept 4096 8192 xs ys (λ i l. x.before (4096 + i) (omega arith))

-- both
pub indexed-both : (D : Database) (catalog keys : List ℕ) → Links D catalog → Directory D keys (heads_in catalog) (starts_in catalog) → Indexed D catalog keys
indexed-both D catalog keys l d = record { links = l; directory = d }

-- after the first demanded rows
pub redemanded-all : (S : Scheme) (G : Database) (keys xs ys : List ℕ) → Indexed G xs keys → Redemanded S G xs ys → Catalogued S G ys keys
redemanded-all S G keys xs ys i x =
    record { demands = x.demands; index = record { links = x.demands.links; directory = directory-kept G keys xs ys x.behind i.directory } }
