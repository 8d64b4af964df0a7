-- How long each command is written, and the whole design; and where each row begins. Assumes nothing.
use Prim.Native.Nat.{ℕ, zero, suc, ◌+◌, ◌*◌, ◌≤◌}
use native.Mathlib.Omega.{arith}
use mathlib.Core.Path.{◌≡◌, refl, sym, ap, ap₂, ◌∙◌}
use mathlib.Core.Logic.{⊎_elim}
use mathlib.Core.Bool.{Bool, true, false, cond, ◌&&◌}
use mathlib.Core.List.{List, [], ◌∷◌, ◌++◌, append-nil}
use borrow.Author.Tests.{lt-ltb, ltb-true, ltb-false}
use lib.Dec.{ltb}
use lib.ListN.{length, length-append}
use Rattle.finite.specs.Finite.{count, collect}
use Rattle.finite.proofs.Bools.{dec}
use Rattle.finite.proofs.Counting.{count-le, count-start, count-suc}
use Rattle.finite.proofs.Collecting.{collect-same, length-pieces}
use Rattle.state.specs.Cells.{Cells}
use Rattle.state.specs.declared.design.Table.{Table}
use Rattle.state.specs.declared.design.Constraint.{Constraint}
use Rattle.state.specs.declared.design.Filling.{Filling}
use Rattle.state.specs.declared.design.Design.{Design}
use Rattle.state.specs.Design.{table_at, constraint_at, filling_at}
use Rattle.state.specs.Meaning.{cell_at, database_of}
use Rattle.command.specs.Bytes.{u32_bytes}
use Rattle.format.specs.Writing.{table_bytes, constraint_bytes, filling_bytes, cells_bytes, is_issued, row_bytes, design_bytes, place_after, row_place, end_place, Dense}
use Rattle.format.proofs.RowText.{row_width, length-numbers, row-text, row-issued, length-text}

pub length-u32 : (v : ℕ) → length (u32_bytes v) ≡ 4
unfolding u32_bytes
length-u32 v = refl

pub length-table : (t : Table) → length (table_bytes t) ≡ 3
unfolding table_bytes
length-table t = refl

pub length-constraint : (c : Constraint) → length (constraint_bytes c) ≡ 5
unfolding constraint_bytes
length-constraint c = refl

pub length-filling : (f : Filling) → length (filling_bytes f) ≡ 11
unfolding filling_bytes u32_bytes
length-filling f = refl

pub length-cells : (cells : Cells) (r : ℕ) → length (cells_bytes cells r) ≡ 32
unfolding cells_bytes
length-cells cells r = length-numbers (λ c. (cell_at cells r c).number)

pub length-row : (cells : Cells) (tables : List ℕ) (r : ℕ) → length (row_bytes cells tables r) ≡ row_width (is_issued cells r)
length-row cells tables r = ap length (row-text cells tables r) ∙ length-text _ _ _ ∙ ap row_width (sym (row-issued cells r))

pub length-rows : (cells : Cells) (tables : List ℕ) (n : ℕ) → length (collect n (λ _. true) (row_bytes cells tables)) ≡ 34 * n + 8 * count n (is_issued cells)
unfolding collect count
length-rows cells tables zero = omega arith
length-rows cells tables (suc n) =
    let h = length-rows cells tables n in
    let k = length-append (collect n (λ _. true) (row_bytes cells tables)) (row_bytes cells tables n) in
    let e = length-row cells tables n in
    omega arith

-- of those that pass a test
pub length-left : (cells : Cells) (tables : List ℕ) (p : ℕ → Bool) (n : ℕ)
    → length (collect n p (row_bytes cells tables)) ≡ 34 * count n p + 8 * count n (λ r. p r && is_issued cells r)
unfolding collect count
length-left cells tables p zero = omega arith
length-left cells tables p (suc n) = go (p n) (length-left cells tables p n)
  where
    go : (b : Bool) → length (collect n p (row_bytes cells tables)) ≡ 34 * count n p + 8 * count n (λ r. p r && is_issued cells r)
        → length (collect n p (row_bytes cells tables) ++ cond b (row_bytes cells tables n) [])
        ≡ 34 * (count n p + cond b 1 0) + 8 * (count n (λ r. p r && is_issued cells r) + cond (b && is_issued cells n) 1 0)
    go true h = omega (arith, h, length-append (collect n p (row_bytes cells tables)) (row_bytes cells tables n), length-row cells tables n)
    go false h = omega (arith, h, ap length (append-nil (collect n p (row_bytes cells tables))))

-- the design with the bytes rs of its rows
abbrev pub framed : Design → List ℕ → List ℕ
framed d rs =
    collect d.tables (λ _. true) (λ i. table_bytes (table_at d i)) ++
    (collect d.constraints (λ _. true) (λ i. constraint_bytes (constraint_at d i)) ++
    (collect d.fillings (λ _. true) (λ i. filling_bytes (filling_at d i)) ++
    (rs ++ (5 ∷ []))))

length-framed : (d : Design) (rs : List ℕ) → length (framed d rs) ≡ 3 * d.tables + 5 * d.constraints + 11 * d.fillings + length rs + 1
length-framed d rs =
    let ts = collect d.tables (λ _. true) (λ i. table_bytes (table_at d i)) in
    let cs = collect d.constraints (λ _. true) (λ i. constraint_bytes (constraint_at d i)) in
    let fs = collect d.fillings (λ _. true) (λ i. filling_bytes (filling_at d i)) in
    omega (
      arith,
      length-append ts (cs ++ (fs ++ (rs ++ (5 ∷ [])))),
      length-append cs (fs ++ (rs ++ (5 ∷ []))),
      length-append fs (rs ++ (5 ∷ [])),
      length-append rs (5 ∷ []),
      length-pieces 3 (λ i. table_bytes (table_at d i)) (λ i. length-table _) d.tables,
      length-pieces 5 (λ i. constraint_bytes (constraint_at d i)) (λ i. length-constraint _) d.constraints,
      length-pieces 11 (λ i. filling_bytes (filling_at d i)) (λ i. length-filling _) d.fillings,
    )

pub length-design : (d : Design) (cells : Cells) (tables : List ℕ) → length (design_bytes d cells tables) ≡ end_place d cells tables + 1
unfolding design_bytes end_place
length-design d cells tables =
    let live = (database_of cells tables).live in
    omega (arith, length-framed d (collect 512 live (row_bytes cells tables)), length-left cells tables live 512)

-- ---- rows without gaps

-- just the numbers below n pass
collect-below : (f : ℕ → List ℕ) (m n : ℕ) → n ≤ m → collect m (λ r. ltb r n) f ≡ collect n (λ _. true) f
unfolding collect
collect-below f zero n l = let e : 0 ≡ n = omega arith in ap (λ (k : ℕ). collect k (λ _. true) f) e
collect-below f (suc m) n l =
    ⊎_elim
    (λ (e : ltb m n ≡ true). let h : n ≡ suc m = let b = ltb-true m n e in omega arith in
    collect-same (suc m) (λ r. ltb r n) (λ _. true) f f (λ r k. lt-ltb r n (omega arith)) (λ r k z. refl) ∙ ap (λ (k : ℕ). collect k (λ _. true) f) (sym h))
    (λ (e : ltb m n ≡ false). ap (λ (b : Bool). collect m (λ r. ltb r n) f ++ cond b (f m) []) e ∙ append-nil (collect m (λ r. ltb r n) f) ∙
    collect-below f m n (ltb-false m n e)) (dec (ltb m n))

module _ (d : Design) (n : ℕ) (cells : Cells) (tables : List ℕ) (h : Dense n cells tables) where
  pub bytes-dense : design_bytes d cells tables ≡ framed d (collect n (λ _. true) (row_bytes cells tables))
  unfolding design_bytes
  bytes-dense =
      ap (framed d)
      (collect-same 512 (database_of cells tables).live (λ r. ltb r n) (row_bytes cells tables) (row_bytes cells tables) h.live (λ r l e. refl) ∙
      collect-below (row_bytes cells tables) 512 n h.most)

  pub length-dense : length (design_bytes d cells tables) ≡ row_place d cells n + 1
  unfolding row_place
  length-dense = omega (arith, ap length bytes-dense, length-framed d (collect n (λ _. true) (row_bytes cells tables)), length-rows cells tables n)

-- ---- where a row's command begins

-- m of the first r rows are issued
pub place_of : (d : Design) (cells : Cells) (r m : ℕ) → m ≡ count r (is_issued cells) → place_after d r m ≡ row_place d cells r
unfolding row_place
place_of d cells r m e = ap (place_after d r) e

-- and of all numbers m have a row, k of these an issue
pub place_end : (d : Design) (cells : Cells) (tables : List ℕ) (m k : ℕ) → m ≡ count 512 (database_of cells tables).live
    → k ≡ count 512 (λ r. (database_of cells tables).live r && is_issued cells r) → place_after d m k ≡ end_place d cells tables
unfolding end_place
place_end d cells tables m k e f = ap₂ (place_after d) e f

-- before the first row there are tables, constraints and fillings alone; behind a row's command the next begins
pub place-first : (d : Design) (cells : Cells) → 3 * d.tables + 5 * d.constraints + 11 * d.fillings ≡ row_place d cells 0
unfolding row_place
place-first d cells = let k = count-start (is_issued cells) in omega arith

pub place-more : (d : Design) (cells : Cells) (r i w : ℕ) → i ≡ row_place d cells r → w ≡ row_width (is_issued cells r) → i + w ≡ row_place d cells (r + 1)
unfolding row_place
place-more d cells r i w e f = let k = count-suc r (is_issued cells) in omega arith

-- where the END stands, at the most
pub place-most : (d : Design) (m k : ℕ) → d.tables ≤ 8 → d.constraints ≤ 16 → d.fillings ≤ 8 → m ≤ 512 → k ≤ 512 → place_after d m k ≤ 21696
place-most d m k a b c l g = omega arith

-- n rows of which m are issued, where the code says so
pub issued-most : (m n : ℕ) (p : ℕ → Bool) → m ≡ count n p → m ≤ n
issued-most m n p e = let k = count-le n p in omega arith

pub length_most : (d : Design) (cells : Cells) (tables : List ℕ) → d.tables ≤ 8 → d.constraints ≤ 16 → d.fillings ≤ 8 → length (design_bytes d cells tables) ≤ 21697
unfolding end_place
length_most d cells tables a b c =
    let live = (database_of cells tables).live in
    omega (arith, length-design d cells tables, place-most d _ _ a b c (count-le 512 live) (count-le 512 (λ r. live r && is_issued cells r)))
