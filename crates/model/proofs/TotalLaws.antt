-- Totals: row sets with the same lists have the same total, and a total depends on the rows of its row set alone. Assumes nothing.
use Prim.Native.Nat.{ℕ, zero, suc, ◌≤◌, ◌<◌}
use native.Mathlib.Omega.{arith}
use mathlib.Core.Path.{◌≡◌, ap, ◌∙◌}
use mathlib.Core.Bool.{true, and-eq-true_iff}
use mathlib.Core.List.{List, [], ◌∷◌, ◌++◌}
use borrow.Author.Tests.{ltb-true}
use lib.Dec.{ltb}
use lib.ListN.{length, get_or, length-map}
use Rattle.finite.specs.Sums.{sum_over}
use Rattle.finite.proofs.Sums.{over-same}
use Rattle.model.specs.Cell.{Cell, amount}
use Rattle.model.specs.Scheme.{Column, Scheme}
use Rattle.model.specs.Database.{Database}
use Rattle.model.specs.Cache.{RowSet}
use Rattle.model.specs.Query.{Join, Query, joins_of, joins_fit, fitting, total_over, position_tables, position_fits}
use Rattle.model.proofs.QueryLaws.{SameOn, fitting-reads}
use Rattle.model.proofs.ListLaws.{Continues, Fitting, fitting-exactly}

-- ---- the rows of a fitting list

continues-chosen : (S : Scheme) (D : Database) (X : RowSet) (rs : List ℕ) (js : List Join) (xs : List ℕ) → Continues S D X rs js xs → (p : ℕ) →
    p < length js → X (get_or xs p 0) ≡ true
unfolding Continues
continues-chosen S D X rs [] xs c p h = absurd (omega arith)
continues-chosen S D X rs (j ∷ js) [] c p h = absurd c
continues-chosen S D X rs (j ∷ js) (x ∷ xs) c zero h = c.0
continues-chosen S D X rs (j ∷ js) (x ∷ xs) c (suc p) h = continues-chosen S D X (rs ++ (x ∷ [])) js xs c.2 p (omega arith)

-- the row at each position is one of X
pub fitting-chosen : (S : Scheme) (D : Database) (X : RowSet) (k : Column) (v : Cell) (js : List Join) (xs : List ℕ) → Fitting S D X k v js xs → (p : ℕ) →
    p ≤ length js → X (get_or xs p 0) ≡ true
unfolding Fitting
fitting-chosen S D X k v js [] f p h = absurd f
fitting-chosen S D X k v js (x ∷ xs) f zero h = f.0
fitting-chosen S D X k v js (x ∷ xs) f (suc p) h = continues-chosen S D X (x ∷ []) js xs f.2 p (omega arith)

-- ---- totals

pub total-lists : (S : Scheme) (D : Database) (X Y : RowSet) (k : Column) (v : Cell) (js : List Join) → fitting S D X k v js ≡ fitting S D Y k v js →
    (p c : ℕ) → total_over S D X k v js p c ≡ total_over S D Y k v js p c
unfolding total_over
total-lists S D X Y k v js e p c = ap (sum_over (λ rs. amount (D.cell (get_or rs p 0) c))) e

-- the total depends on the rows of X alone
pub total-reads : (S : Scheme) {X : RowSet} {D E : Database} → SameOn X D E → (k : Column) (v : Cell) (js : List Join) →
    joins_fit S (k.table ∷ []) js ≡ true → (p c : ℕ) → p ≤ length js → total_over S D X k v js p c ≡ total_over S E X k v js p c
unfolding total_over
total-reads S {X} {D} {E} A k v js w p c h =
    over-same (λ rs. amount (D.cell (get_or rs p 0) c)) (λ rs. amount (E.cell (get_or rs p 0) c)) (fitting S D X k v js)
    (λ xs m. ap amount (A.cell (get_or xs p 0) c (fitting-chosen S D X k v js xs ((fitting-exactly S D X k v js xs).0 m) p h))) ∙
    ap (sum_over (λ rs. amount (E.cell (get_or rs p 0) c))) (fitting-reads S A k v js w)

-- a position that is there is 0 or a join's
pub position-within : (S : Scheme) (q : Query) (p c : ℕ) → position_fits S q p c ≡ true → p ≤ length (joins_of q)
unfolding position_fits
position-within S q p c e =
    omega (
      arith,
      ltb-true p (length (position_tables S q)) ((and-eq-true_iff (ltb p (length (position_tables S q))) _).0 e).0,
      length-map (joins_of q) (λ j. (S.constraint j.constraint).target.table),
    )
