-- The parts of a catalog: what stands in one, and what a store of a whole part leaves of it and of the others. Assumes nothing.
use Prim.Native.Nat.{ℕ, ◌+◌, ◌≤◌, ◌<◌}
use native.Mathlib.Omega.{arith}
use mathlib.Core.Path.{◌≡◌, refl, sym, ap, ◌∙◌}
use mathlib.Core.List.{List, ◌++◌}
use lib.ListN.{length, get_or, take, drop}
use lib.Seq.{sets, sets-eq, take-length}
use borrow.Rule.Slice.PartMut.{put_mid}
use Rattle.std.proofs.lemmas.Slice.{put_mid-paste}
use Rattle.finite.proofs.Tables.{length-tab, tab-at, tab-of, tab-same}
use Rattle.finite.proofs.Stores.{sets_below, sets-above, sets-at}
use Rattle.catalog.specs.Catalog.{part}

module _ (a n : ℕ) where
  pub part-long : (xs : List ℕ) → length (part a n xs) ≡ n
  unfolding part
  part-long xs = length-tab n _

  pub part_at : (xs : List ℕ) (i : ℕ) → i < n → get_or (part a n xs) i 0 ≡ get_or xs (a + i) 0
  unfolding part
  part_at xs i l = tab-at 0 n (λ j. get_or xs (a + j) 0) i l

  -- the part is stored
  pub part-stored : (xs vs : List ℕ) → length vs ≡ n → a + n ≤ length xs → part a n (sets xs a vs) ≡ vs
  unfolding part
  part-stored xs vs e l = sym (tab-of 0 n _ vs e (λ i h. sym (sets-at 0 xs a vs i (omega arith) (omega arith))))

  -- another part is
  pub part-before : (xs vs : List ℕ) (b : ℕ) → a + n ≤ b → part a n (sets xs b vs) ≡ part a n xs
  unfolding part
  part-before xs vs b l = tab-same n _ _ (λ i h. sets_below 0 xs b vs (a + i) (omega arith))

  pub part-behind : (xs vs : List ℕ) (b : ℕ) → b + length vs ≤ a → part a n (sets xs b vs) ≡ part a n xs
  unfolding part
  part-behind xs vs b l = tab-same n _ _ (λ i h. sets-above 0 xs b vs (a + i) (omega arith))

-- a slice is written over, from place a on
pub put-sets : (a k : ℕ) (xs ys : List ℕ) → a + length ys ≤ length xs → length ys ≡ k → put_mid a k xs ys ≡ sets xs a ys
put-sets a k xs ys o e =
    put_mid-paste a k xs ys ys (length ys) refl e refl ∙ ap (λ (zs : List ℕ). take a xs ++ zs ++ drop (a + length ys) xs) (take-length ys) ∙ sym (sets-eq ys xs a o)
