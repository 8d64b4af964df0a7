-- The directory in the catalog's array: read from it, and stored back. Assumes nothing.
use Prim.Native.Nat.{ℕ, ◌+◌, ◌≤◌}
use native.Mathlib.Omega.{arith}
use mathlib.Core.Path.{◌≡◌, sym, ap, subst, ◌∙◌}
use mathlib.Core.List.{List}
use lib.ListN.{length, get_or}
use Rattle.std.specs.List.{between}
use Rattle.std.proofs.lemmas.List.Edits.{length-between, get_or-between}
use Rattle.finite.proofs.Stores.{sets_below}
use Rattle.finite.proofs.Tables.{tab-of}
use Rattle.model.specs.Database.{Database}
use Rattle.catalog.specs.Catalog.{part, heads_in, starts_in, Stored, Directory}
use Rattle.mend.specs.Values.{Redirected}
use Rattle.catalog.proofs.PartLaws.{part-stored, part-before}

pub fetched : (D : Database) (keys catalog heads starts : List ℕ) → heads ≡ heads_in catalog → starts ≡ starts_in catalog
    → Directory D keys (heads_in catalog) (starts_in catalog) → Directory D keys heads starts
fetched D keys catalog heads starts e f d =
    subst (λ (h : List ℕ). Directory D keys h starts) (sym e) (subst (λ (s : List ℕ). Directory D keys (heads_in catalog) s) (sym f) d)

-- a slice of the array is the part from place a on
pub part-between : (a n : ℕ) (xs ys : List ℕ) → a + n ≤ length xs → ys ≡ between a (a + n) xs → ys ≡ part a n xs
unfolding part
part-between a n xs ys l e =
    tab-of 0 n _ ys (ap length e ∙ length-between xs a (a + n) l ∙ omega arith) (λ i h. ap (λ (zs : List ℕ). get_or zs i 0) e ∙ get_or-between xs a (a + n) i 0 (omega arith))

module _ (catalog heads starts : List ℕ) (long : length catalog ≡ 16449) (e : heads ≡ between 12288 16384 catalog) (f : starts ≡ between 16384 16449 catalog) where
  pub fetched-starts : starts ≡ starts_in catalog
  fetched-starts = part-between 16384 65 catalog starts (omega (arith, long)) f

  pub fetched-between : (D : Database) (keys : List ℕ) → Directory D keys (heads_in catalog) (starts_in catalog) → Directory D keys heads starts
  fetched-between D keys d = fetched D keys catalog heads starts (part-between 12288 4096 catalog heads (omega (arith, long)) e) fetched-starts d

module _ (c₀ c₁ c₂ heads starts : List ℕ) (long : length c₀ ≡ 16449) (s₁ : Stored 12288 heads c₀ c₁) (s₂ : Stored 16384 starts c₁ c₂) where
  pub redirected : (D : Database) (keys : List ℕ) → Directory D keys heads starts → Redirected D keys c₀ c₂
  redirected D keys d =
      record {
        directory =
            subst (λ (h : List ℕ). Directory D keys h (starts_in c₂)) (sym heads-back)
            (subst (λ (s : List ℕ). Directory D keys heads s) (sym starts-back) d);
        long = s₂.long ∙ s₁.long;
        before = λ x l. ap (λ (ys : List ℕ). get_or ys x 0) s₂.is ∙ sets_below 0 c₁ 16384 starts x (omega arith) ∙ ap (λ (ys : List ℕ). get_or ys x 0) s₁.is
            ∙ sets_below 0 c₀ 12288 heads x l;
      }
    where
      heads-back : heads_in c₂ ≡ heads
      heads-back =
          ap heads_in s₂.is ∙ part-before 12288 4096 c₁ starts 16384 (omega arith) ∙ ap heads_in s₁.is ∙ part-stored 12288 4096 c₀ heads d.heads-long (omega arith)

      starts-back : starts_in c₂ ≡ starts
      starts-back = ap starts_in s₂.is ∙ part-stored 16384 65 c₁ starts d.starts-long (omega (arith, s₁.long))
