-- A count of the cached rows among those that have a value, from one to the next. Assumes nothing.
use Prim.Native.Nat.{ℕ, ◌+◌, ◌≤◌, ◌<◌}
use native.Mathlib.Omega.{arith}
use mathlib.Core.Path.{◌≡◌, sym, ap, ◌∙◌}
use mathlib.Core.Bool.{true, false, ◌&&◌}
use mathlib.Core.List.{List}
use borrow.Author.Tests.{eq-eqb, ne_eqb}
use lib.ListN.{get_or}
use Rattle.finite.specs.Finite.{count, first_from}
use Rattle.finite.proofs.Bools.{and_left, both}
use Rattle.finite.proofs.Counting.{count-end, count-le}
use Rattle.model.specs.Cell.{Cell}
use Rattle.model.specs.Scheme.{Column}
use Rattle.model.specs.Database.{Database, has}
use Rattle.model.specs.Cache.{RowSet}
use Rattle.model.specs.Probe.{cached_rows}
use Rattle.model.specs.Runs.{marked}
use Rattle.catalog.specs.Hits.{Hit}
use Rattle.catalog.proofs.HitLaws.{first-hit}
use Rattle.finite.proofs.Walks.{count-first, count-next-hit, count-next-miss, only-right}

-- a row is cached whose mark is 1, and none whose mark is another
module _ (m : List ℕ) (r : ℕ) where
  pub mark-cached : get_or m r 0 ≡ 1 → marked m r ≡ true
  unfolding marked
  mark-cached h = eq-eqb (get_or m r 0) 1 h

  pub mark-other : (get_or m r 0 ≡ 1 → ⊥) → marked m r ≡ false
  unfolding marked
  mark-other h = ne_eqb (get_or m r 0) 1 h

-- the count stands at r, and has found n below
pub record Counting (D : Database) (X : RowSet) (k : Column) (v : Cell) (r n : ℕ) : Type 0 where
  pub stands : Hit (has D k v) r
  pub found : n ≡ count r (λ i. X i && has D k v i)

module _ (D : Database) (X : RowSet) (k : Column) (v : Cell) (r : ℕ) where
  pub counting-start : r ≡ first_from 512 (has D k v) 0 → Counting D X k v r 0
  counting-start e =
      record {
        stands = first-hit (has D k v) 0 r e;
        found = count-first (has D k v) (λ i. X i && has D k v i) (λ i. only-right (has D k v) X i) r e;
      }

  module _ (n : ℕ) (w : Counting D X k v r n) where
    -- no more than the rows below
    pub counting-few : n ≤ 512
    counting-few = omega (arith, w.found, count-le r (λ i. X i && has D k v i), w.stands.bound)

    module _ (l : r < 512) (s : ℕ) (e : s ≡ first_from 512 (has D k v) (r + 1)) (m : ℕ) where
      -- row r is cached
      pub counting-hit : m ≡ n + 1 → X r ≡ true → Counting D X k v s m
      counting-hit f h =
          record {
            stands = first-hit (has D k v) (r + 1) s e;
            found =
                f ∙ count-next-hit (has D k v) (λ i. X i && has D k v i) (λ i. only-right (has D k v) X i) r s l e n w.found (both h (w.stands.here l));
          }

      -- row r is not cached
      pub counting-miss : m ≡ n → X r ≡ false → Counting D X k v s m
      counting-miss f h =
          record {
            stands = first-hit (has D k v) (r + 1) s e;
            found =
                f ∙ count-next-miss (has D k v) (λ i. X i && has D k v i) (λ i. only-right (has D k v) X i) r s l e n w.found (and_left (X r) (has D k v r) h);
          }

-- in a database of 512 row numbers: there is none left
pub counting-end : (D : Database) → D.size ≡ 512 → (X : RowSet) (k : Column) (v : Cell) (r n : ℕ) → Counting D X k v r n → 512 ≤ r → n ≡ cached_rows D X k v
unfolding cached_rows
counting-end D z X k v r n w h =
    count-end n r 512 (λ i. X i && has D k v i) w.stands.bound h w.found ∙ ap (λ (m : ℕ). count m (λ i. X i && has D k v i)) (sym z)
