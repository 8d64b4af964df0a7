-- A step of a load by a walk from one row that has the value to the next: when the walk stands at r, the rows below r have been passed.
-- Assumes nothing.
use Prim.Native.Nat.{ℕ, ◌+◌, ◌≤◌, ◌<◌}
use native.Mathlib.Decide.{dec_lt}
use native.Mathlib.Omega.{arith}
use mathlib.Core.Path.{◌≡◌, sym, ap, subst, ◌∙◌}
use mathlib.Core.Logic.{⊎_elim}
use mathlib.Core.Bool.{true, ◌||◌, or-true, and-eq-true_iff}
use mathlib.Core.List.{List}
use borrow.Author.Tests.{ltb-true, eqb-true, eq-eqb}
use lib.Dec.{eqb, ltb}
use lib.ListN.{length}
use Rattle.finite.proofs.Bools.{clash, or_cases, or_left, bool-ext}
use Rattle.model.specs.Cache.{RowSet}
use Rattle.model.specs.Rounds.{level}
use Rattle.finite.specs.Finite.{first_from}
use Rattle.catalog.specs.Hits.{Hit}
use Rattle.finite.proofs.First.{First, first-from}
use Rattle.catalog.proofs.HitLaws.{first-hit}
use Rattle.load.specs.Queue.{added, Listed, Grown}
use Rattle.load.proofs.QueueLaws.{below, below_all, grown-none, grown-same, grown-again}

below-is : (b : ℕ) (P : RowSet) (x : ℕ) → below b P x ≡ true → (x < b) × (P x ≡ true)
unfolding below
below-is b P x t = let f = (and-eq-true_iff (ltb x b) (P x)).0 t in (ltb-true x b f.0, f.1)

is_below : (b : ℕ) (P : RowSet) (x : ℕ) → x < b → P x ≡ true → below b P x ≡ true
is_below b P x l h = below_all b P x l ∙ h

-- the rows below the next one of P after r: those below r, and r
below_next : (P : RowSet) (r s : ℕ) → First 512 P (r + 1) s → P r ≡ true → (x : ℕ) → below r P x || eqb x r ≡ below s P x
below_next P r s f h x = bool-ext (below r P x || eqb x r) (below s P x) (λ t. ⊎_elim earlier here (or_cases (below r P x) (eqb x r) t)) back
  where
    earlier : below r P x ≡ true → below s P x ≡ true
    earlier t = let b = below-is r P x t in is_below s P x (omega (arith, b.0, f.start)) b.1

    here : eqb x r ≡ true → below s P x ≡ true
    here t = let e = eqb-true x r t in is_below s P x (omega (arith, f.start)) (ap P e ∙ h)

    later : x < s → P x ≡ true → Dec (x < r) → Dec (r < x) → below r P x || eqb x r ≡ true
    later l t (yes a) b = sym (or_left (below r P x) (eqb x r) (is_below r P x a t))
    later l t (no a) (yes b) = clash t (f.none x (omega arith) l)
    later l t (no a) (no b) = let e : x ≡ r = omega arith in rw (eq-eqb x r e) (or-true (below r P x))

    back : below s P x ≡ true → below r P x || eqb x r ≡ true
    back t = let b = below-is s P x t in later b.0 b.1 (dec_lt x r) (dec_lt r x)

-- the walk has given its rows below r their level, and stands at r
pub record Walking (n : ℕ) (P : RowSet) (L q : List ℕ) (end r : ℕ) (L' q' : List ℕ) (end' : ℕ) : Type 0 where
  pub stands : Hit P r
  pub grown : Grown n (below r P) L q end L' q' end'

module _ (n : ℕ) (P : RowSet) (L q : List ℕ) (end r : ℕ) where
  pub walk_start : length L ≡ 512 → Listed (added L) q end → r ≡ first_from 512 P 0 → Walking n P L q end r L q end
  walk_start e u f = record { stands = first-hit P 0 r f; grown = grown-none n L q end (below r P) e u none }
    where
      first : First 512 P 0 r
      first = subst (First 512 P 0) (sym f) (first-from 512 P 0 (omega arith))

      none : (x : ℕ) → x < 512 → below r P x ≡ true → 0 < level L x
      none x l t = let b = below-is r P x t in clash b.1 (first.none x (omega arith) b.0)

  module _ (L' q' : List ℕ) (end' : ℕ) (w : Walking n P L q end r L' q' end') where
    pub walk-next : (s : ℕ) (L'' q'' : List ℕ) (end'' : ℕ) → 0 < n → r < 512 → Grown n (λ x. eqb x r) L' q' end' L'' q'' end'' → s ≡ first_from 512 P (r + 1) →
        Walking n P L q end s L'' q'' end''
    walk-next s L'' q'' end'' o l g f =
        record {
          stands = first-hit P (r + 1) s f;
          grown =
              grown-same n _ L q end L'' q'' end'' (grown-again n (below r P) (λ x. eqb x r) L q end L' q' end' L'' q'' end'' o w.grown g) (below s P)
              (λ x k. below_next P r s (subst (First 512 P (r + 1)) (sym f) (first-from 512 P (r + 1) (omega arith))) (w.stands.here l) x);
        }

    pub walk_end : 512 ≤ r → Grown n P L q end L' q' end'
    walk_end h = grown-same n _ L q end L' q' end' w.grown P (λ x k. below_all r P x (omega arith))
