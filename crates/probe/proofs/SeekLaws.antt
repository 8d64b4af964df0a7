-- A search among the rows that have a value, from one to the next, for one that is cached. Assumes nothing.
use Prim.Native.Nat.{ℕ, ◌+◌, ◌≤◌, ◌<◌}
use mathlib.Core.Path.{◌≡◌, sym, ap, ◌∙◌}
use mathlib.Core.Bool.{true, false, ◌&&◌}
use Rattle.finite.specs.Finite.{any, first_from}
use Rattle.finite.proofs.Bools.{and_left, both}
use Rattle.finite.proofs.Search.{any-hit, any-end}
use Rattle.model.specs.Cell.{Cell}
use Rattle.model.specs.Scheme.{Column}
use Rattle.model.specs.Database.{Database, has}
use Rattle.model.specs.Cache.{RowSet}
use Rattle.model.specs.Probe.{seen}
use Rattle.catalog.specs.Hits.{Hit}
use Rattle.catalog.proofs.HitLaws.{first-hit}
use Rattle.finite.proofs.Walks.{any-first, any_next, only-right}

-- the search stands at r, and has found none below
pub record Seeking (D : Database) (X : RowSet) (k : Column) (v : Cell) (r : ℕ) : Type 0 where
  pub stands : Hit (has D k v) r
  pub none : any r (λ i. X i && has D k v i) ≡ false

module _ (D : Database) (X : RowSet) (k : Column) (v : Cell) (r : ℕ) where
  pub seek-start : r ≡ first_from 512 (has D k v) 0 → Seeking D X k v r
  seek-start e =
      record {
        stands = first-hit (has D k v) 0 r e;
        none = any-first (has D k v) (λ i. X i && has D k v i) (λ i. only-right (has D k v) X i) r e;
      }

  -- row r is not cached
  pub seek-next : Seeking D X k v r → r < 512 → X r ≡ false → (s : ℕ) → s ≡ first_from 512 (has D k v) (r + 1) → Seeking D X k v s
  seek-next w l h s e =
      record {
        stands = first-hit (has D k v) (r + 1) s e;
        none = any_next (has D k v) (λ i. X i && has D k v i) (λ i. only-right (has D k v) X i) r s l e w.none (and_left (X r) (has D k v r) h);
      }

-- in a database of 512 row numbers: row r is cached, and there is none left
module _ (D : Database) (z : D.size ≡ 512) (X : RowSet) (k : Column) (v : Cell) (r : ℕ) (w : Seeking D X k v r) where
  all-rows : any 512 (λ i. X i && has D k v i) ≡ seen D X k v
  unfolding seen
  all-rows = ap (λ (n : ℕ). any n (λ i. X i && has D k v i)) (sym z)

  pub seek_found : r < 512 → X r ≡ true → true ≡ seen D X k v
  seek_found l h = any-hit 512 r (λ i. X i && has D k v i) l (both h (w.stands.here l)) ∙ all-rows

  pub seek-end : 512 ≤ r → false ≡ seen D X k v
  seek-end h = any-end 512 r (λ i. X i && has D k v i) w.stands.bound h w.none ∙ all-rows
