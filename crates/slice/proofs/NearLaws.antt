-- The rows that a constraint demands of a row are those that have its value in the target: where the constraint's first row is known, so is whether there is one. Assumes
-- nothing.
use Prim.Native.Nat.{ℕ, ◌<◌}
use native.Mathlib.Omega.{arith}
use mathlib.Core.Path.{◌≡◌, refl, sym, ap, subst, ◌∙◌}
use mathlib.Core.Bool.{Bool, true, false, not, ◌&&◌}
use mathlib.Core.List.{List}
use borrow.Author.Tests.{eq-eqb, ne_eqb, lt-ltb}
use lib.Dec.{eqb, ltb}
use lib.ListN.{get_or}
use Rattle.finite.specs.Finite.{any, first_from, tab}
use Rattle.finite.proofs.Tables.{tab-at}
use Rattle.finite.proofs.Bools.{both, cond-true}
use Rattle.model.specs.Cell.{Cell, blank}
use Rattle.model.specs.Database.{Database, has}
use Rattle.model.specs.Missing as Model
use Rattle.model.specs.Rounds.{leads}
use Rattle.model.proofs.MissingLoops.{first_any}
use Rattle.state.specs.Cells.{Cells}
use Rattle.state.specs.declared.cell.Cell as Declared-cell
use Rattle.state.specs.declared.design.Constraint.{Constraint}
use Rattle.state.specs.declared.design.Design.{Design}
use Rattle.state.specs.Design.{constraint_at, no_constraint}
use Rattle.state.specs.Meaning.{cell_of, cell_at, column_of, free_table, scheme_of, database_of}
use Rattle.slice.specs.Fetches.{Ends}
use Rattle.slice.proofs.LackLaws.{row-there}

below : (d : Design) (i : ℕ) → i < d.constraints → i < (scheme_of d).constraints
unfolding scheme_of
below d i n = n

module _ (d : Design) (cells : Cells) (tables : List ℕ) (r i : ℕ) (v : Declared-cell.Cell) (l : r < 512) (p : (constraint_at d i).source.place < 8)
    (t : (constraint_at d i).source.table < 8) (e : get_or tables r 0 ≡ (constraint_at d i).source.table) (f : v ≡ cell_at cells r (constraint_at d i).source.place) where
  abbrev D : Database
  D = database_of cells tables

  live : ltb r 512 && not (eqb (get_or tables r 0) free_table) ≡ true
  live = both (lt-ltb r 512 l) (ap not (ne_eqb (get_or tables r 0) free_table (λ q. omega (arith, q, e, t))))

  leads-has : (x : ℕ) → leads (database_of cells tables) ((scheme_of d).constraint i) r x ≡ has (database_of cells tables) (column_of (constraint_at d i).target) (cell_of v) x
  unfolding leads scheme_of database_of
  leads-has x =
      let k = column_of (constraint_at d i).target in
      let a : Cell = (database_of cells tables).cell r (constraint_at d i).source.place in
      let h : Bool = has (database_of cells tables) k a x in
      ap (λ (b : Bool). b && (eqb (get_or tables r 0) (constraint_at d i).source.table && h)) live ∙
      ap (λ (b : Bool). b && h) (eq-eqb _ _ e) ∙
      ap (λ (y : Cell). has (database_of cells tables) k y x) (sym (ap cell_of f ∙ sym (cond-true (ltb (constraint_at d i).source.place 8) (cell_of (cell_at cells r (constraint_at d i).source.place)) blank (lt-ltb _ 8 p))))

  pub demanded-any : ltb (first_from 512 (leads (database_of cells tables) ((scheme_of d).constraint i) r) 0) 512 ≡
      any (database_of cells tables).size (has (database_of cells tables) (column_of (constraint_at d i).target) (cell_of v))
  unfolding database_of
  demanded-any = first_any 512 (leads D ((scheme_of d).constraint i) r) ∙ (λ j. any 512 (λ x. leads-has x j))

  -- so whether the value is the only one, found by the constraint's first row
  only-is : {b : Bool} → i < d.constraints →
      (i < (scheme_of d).constraints → b ≡ (scheme_of d).unique (column_of (constraint_at d i).target) && ltb (first_from 512 (leads (database_of cells tables) ((scheme_of d).constraint i) r) 0) 512) →
      b ≡ (scheme_of d).unique (column_of (constraint_at d i).target) && any (database_of cells tables).size (has (database_of cells tables) (column_of (constraint_at d i).target) (cell_of v))
  only-is n h = h (below d i n) ∙ ap (λ (x : Bool). (scheme_of d).unique (column_of (constraint_at d i).target) && x) demanded-any

-- the same of a constraint c that was read before, which ends at a unique column if `sole`
pub link-there : (d : Design) (cells : Cells) (tables : List ℕ) (fs : List Model.Fetch) (r i : ℕ) (v : Declared-cell.Cell) (c : Constraint) (sole b : Bool) {l : Model.Lack} →
    c ≡ constraint_at d i → r < 512 → (constraint_at d i).source.place < 8 → (constraint_at d i).source.table < 8 → i < d.constraints → get_or tables r 0 ≡ c.source.table →
    v ≡ cell_at cells r c.source.place → sole ≡ (scheme_of d).unique (column_of c.target) →
    (i < (scheme_of d).constraints → b ≡ sole && ltb (first_from 512 (leads (database_of cells tables) ((scheme_of d).constraint i) r) 0) 512) →
    (b ≡ (scheme_of d).unique (column_of c.target) && any (database_of cells tables).size (has (database_of cells tables) (column_of c.target) (cell_of v)) →
    l ≡ Model.lack_of (scheme_of d) (database_of cells tables) fs (column_of c.target) (cell_of v)) →
    l ≡ Model.link_lack (scheme_of d) (database_of cells tables) fs r i
link-there d cells tables fs r i v c sole b {l} e h p t n a f s o k =
    subst
    (λ (x : Constraint). get_or tables r 0 ≡ x.source.table → v ≡ cell_at cells r x.source.place → sole ≡ (scheme_of d).unique (column_of x.target) →
    (b ≡ (scheme_of d).unique (column_of x.target) && any (database_of cells tables).size (has (database_of cells tables) (column_of x.target) (cell_of v)) →
    l ≡ Model.lack_of (scheme_of d) (database_of cells tables) fs (column_of x.target) (cell_of v)) →
    l ≡ Model.link_lack (scheme_of d) (database_of cells tables) fs r i)
    (sym e) there a f s k
  where
    there : get_or tables r 0 ≡ (constraint_at d i).source.table → v ≡ cell_at cells r (constraint_at d i).source.place →
        sole ≡ (scheme_of d).unique (column_of (constraint_at d i).target) →
        (b ≡ (scheme_of d).unique (column_of (constraint_at d i).target) && any (database_of cells tables).size (has (database_of cells tables) (column_of (constraint_at d i).target) (cell_of v)) →
        l ≡ Model.lack_of (scheme_of d) (database_of cells tables) fs (column_of (constraint_at d i).target) (cell_of v)) →
        l ≡ Model.link_lack (scheme_of d) (database_of cells tables) fs r i
    there a f s k =
        row-there d cells tables fs r i v p a f
        (k (only-is d cells tables r i v h p t a f n
        (λ m. o m ∙ ap (λ (x : Bool). x && ltb (first_from 512 (leads (database_of cells tables) ((scheme_of d).constraint i) r) 0) 512) s)))

-- a constraint, and whether it ends at a unique column, as they are read
pub ends_at : (d : Design) (cs : List Constraint) (soles : List Bool) (i : ℕ) → Ends d cs soles → i < 16 →
    (get_or cs i no_constraint ≡ constraint_at d i) × (get_or soles i false ≡ (scheme_of d).unique (column_of (get_or cs i no_constraint).target))
ends_at d cs soles i w h =
    let e = ap (λ (xs : List Constraint). get_or xs i no_constraint) w.same in
    (e, w.sole i h ∙ sym (ap (λ (x : Constraint). (scheme_of d).unique (column_of x.target)) e))

pub ends-made : (d : Design) (soles : List Bool) → soles ≡ tab 16 (λ i. (scheme_of d).unique (column_of (constraint_at d i).target)) → Ends d d.constraint soles
ends-made d soles e =
    record {
      same = refl;
      sole = λ i h. ap (λ (xs : List Bool). get_or xs i false) e ∙ tab-at false 16 (λ i. (scheme_of d).unique (column_of (constraint_at d i).target)) i h;
    }
