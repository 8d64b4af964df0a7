-- What the code answers for one command: the three answers, and each command of `admitted`. Assumes nothing.
use Prim.Native.Nat.{ℕ, ◌+◌}
use native.Mathlib.Omega.{arith}
use mathlib.Core.Path.{◌≡◌, refl, sym, ap, subst, ◌∙◌}
use mathlib.Core.Bool.{Bool, true, false, not, ◌&&◌}
use mathlib.Core.List.{List}
use mathlib.Core.Logic.{◌⊎◌, inl, inr}
use Rattle.std.specs.Prelude.{Result, Ok, Err}
use lib.Dec.{leb}
use lib.ListN.{get_or, set}
use lib.Seq.{get_or-set_other}
use Rattle.finite.specs.Finite.{tab}
use Rattle.finite.proofs.Bools.{both, and_left, and_right}
use Rattle.state.specs.Cells.{Cells}
use Rattle.state.specs.declared.operation.Operation.{Operation}
use Rattle.state.specs.declared.design.Table as State-table
use Rattle.state.specs.declared.design.Constraint as State-constraint
use Rattle.state.specs.declared.design.Filling as State-filling
use Rattle.state.specs.Meaning.{cell_in, scheme_of, database_of}
use Rattle.state.specs.Lawful.{table_fits, constraint_fits, filling_fits, row_fits}
use Rattle.command.specs.declared.command.Command.{Command}
use Rattle.command.specs.declared.command.Command.TheVariants.{Table, Constraint, Filling, Row, End, Operate, Put, Remove, Unknown, Short}
use Rattle.command.specs.Commands.{row_cell_at, row_issue_at}
use Rattle.format.specs.declared.reading.Progress.{Progress}
use Rattle.format.specs.declared.reading.Progress.TheVariants.{On, Complete}
use Rattle.format.specs.declared.reading.SoFar.{SoFar}
use Rattle.format.specs.Reading.{Draft, draft, Advanced, refused_if, advanced, needless, redesigned, with_table, with_constraint, with_filling, with_row}
use Rattle.format.specs.Reading.Advanced.{on, complete, refused}
use Rattle.format.specs.Kinds.{count_of, most_of, is_late, order_cause}
use Rattle.format.specs.Admitting.{admitted, outcome_of, Kept, Advances}
use Rattle.format.proofs.CellsLaws.{put_row, put-below}
use Rattle.format.proofs.KindLaws.{item, item_refused, item-wrong, item-right}
use Rattle.format.proofs.AdvancedLaws.{not_on, not-complete, on_same, on-complete}

-- ---- the three answers

module _ (p : Draft) (s : List ℕ) (i : ℕ) (c : Command) (o : Result Progress ℕ) (r : SoFar) (cells : Cells) (tables : List ℕ) where
  pub advances-refused : (n : ℕ) → o ≡ Err n → r ≡ record { design = p.design; rows = p.rows } → admitted p s i c ≡ refused n
      → Kept p.rows p.cells p.tables cells tables → Advances p s i c o r cells tables
  advances-refused n f g e k =
      record {
        outcome = f ∙ sym (ap outcome_of e);
        goes = λ q h. absurd (not_on n q (sym e ∙ h));
        whole = λ h. absurd (not-complete n (sym e ∙ h));
        stays = λ m h. (ap (λ (x : SoFar). x.design) g, ap (λ (x : SoFar). x.rows) g);
        kept = k;
      }

  pub advances-complete : o ≡ Ok Complete → p ≡ draft r.design r.rows cells tables → admitted p s i c ≡ complete → Advances p s i c o r cells tables
  advances-complete f k e =
      record {
        outcome = f ∙ sym (ap outcome_of e);
        goes = λ q h. absurd (on-complete q (sym h ∙ e));
        whole = λ h. k;
        stays = λ m h. absurd (not-complete m (sym h ∙ e));
        kept = record { cell = λ x l. ap (λ (q : Draft). cell_in q.cells x) (sym k); table = λ n l. ap (λ (q : Draft). get_or q.tables n 0) (sym k) };
      }

  pub advances-on : o ≡ Ok On → admitted p s i c ≡ on (draft r.design r.rows cells tables)
      → Kept p.rows p.cells p.tables cells tables → Advances p s i c o r cells tables
  advances-on f e k =
      record {
        outcome = f ∙ sym (ap outcome_of e);
        goes = λ q h. on_same q (draft r.design r.rows cells tables) (sym h ∙ e);
        whole = λ h. absurd (on-complete (draft r.design r.rows cells tables) (sym e ∙ h));
        stays = λ m h. absurd (not_on m (draft r.design r.rows cells tables) (sym h ∙ e));
        kept = k;
      }

-- the rows before a row that is put in, and all rows where none is
pub kept-all : (n : ℕ) (cells : Cells) (tables : List ℕ) → Kept n cells tables cells tables
kept-all n cells tables = record { cell = λ x l. refl; table = λ r l. refl }

-- the cells with the row whose command stands at place i
abbrev pub row_cells : Cells → ℕ → List ℕ → ℕ → Cells
row_cells cells n s i = put_row cells n (tab 8 (row_cell_at s i)) (tab 8 (row_issue_at s i))

pub kept_put : (n t i : ℕ) (cells : Cells) (tables s : List ℕ) (cells' : Cells) → cells' ≡ row_cells cells n s i → Kept n cells tables cells' (set tables n t)
kept_put n t i cells tables s cells' e =
    record {
      cell = λ x l. ap (λ (zs : Cells). cell_in zs x) e ∙ put-below cells n (tab 8 (row_cell_at s i)) (tab 8 (row_issue_at s i)) x l;
      table = λ r l. get_or-set_other tables n r t 0 (λ (q : r ≡ n). omega arith);
    }

-- a command that is known
pub advances-as : (p : Draft) (s : List ℕ) (i : ℕ) (c k : Command) (o : Result Progress ℕ) (r : SoFar) (cells : Cells) (tables : List ℕ) → c ≡ k → Advances p s i k o r cells tables → Advances p s i c o r cells tables
advances-as p s i c k o r cells tables e t = subst (λ (x : Command). Advances p s i x o r cells tables) (sym e) t

-- ---- a command of each kind is an item

module _ (p : Draft) (s : List ℕ) (i : ℕ) where
  pub table-item : (t : State-table.Table) → admitted p s i (Table t) ≡ item p.design p.rows 0x01 (table_fits t) (redesigned p (with_table p.design t))
  unfolding admitted advanced item is_late most_of count_of
  table-item t = refl

  pub constraint-item : (c : State-constraint.Constraint)
      → admitted p s i (Constraint c) ≡ item p.design p.rows 0x02 (constraint_fits p.design p.design.constraints c) (redesigned p (with_constraint p.design c))
  unfolding admitted advanced item is_late most_of count_of
  constraint-item c = refl

  pub filling-item : (f : State-filling.Filling)
      → admitted p s i (Filling f) ≡ item p.design p.rows 0x03 (filling_fits p.design p.design.fillings f) (redesigned p (with_filling p.design f))
  unfolding admitted advanced item is_late most_of count_of
  filling-item f = refl

-- a ROW with the draft q that has it: causes 3 and 4, then a needless 0x07 and a row that does not fit
module _ (p : Draft) (s : List ℕ) (i t k : ℕ) (e : k ≡ order_cause p.design p.rows 0x04) where
  fits : Draft → Bool
  fits q = row_fits (scheme_of q.design) (database_of q.cells q.tables) p.rows

  row-item : (q : Draft) → q ≡ with_row p s i t → admitted p s i (Row t) ≡ item p.design p.rows 0x04 (not (needless s i) && fits q) q
  unfolding admitted item is_late most_of count_of fits
  row-item q h =
      let r = with_row p s i t in
      ap (refused_if (leb 512 p.rows) 4) (one-cause (needless s i) (fits r) (on r)) ∙
      ap (λ (x : Draft). item p.design p.rows 0x04 (not (needless s i) && fits x) x) (sym h)
    where
      one-cause : (a b : Bool) (x : Advanced) → refused_if a 5 (refused_if (not b) 5 x) ≡ refused_if (not (not a && b)) 5 x
      one-cause true b x = refl
      one-cause false b x = refl

  pub row-late : (k ≡ 0 → ⊥) → admitted p s i (Row t) ≡ refused k
  row-late n = row-item (with_row p s i t) refl ∙ item_refused p.design p.rows 0x04 k (not (needless s i) && fits (with_row p s i t)) (with_row p s i t) e n

  module _ (none : k ≡ 0) where
    pub row-needless : needless s i ≡ true → admitted p s i (Row t) ≡ refused 5
    row-needless n =
        let q = with_row p s i t in
        row-item q refl ∙ item-wrong p.design p.rows 0x04 k (not (needless s i) && fits q) q e none (and_left (not (needless s i)) (fits q) (ap not n))

    module _ (q : Draft) (h : q ≡ with_row p s i t) where
      pub row-unfit : row_fits (scheme_of q.design) (database_of q.cells q.tables) p.rows ≡ false → admitted p s i (Row t) ≡ refused 5
      unfolding fits
      row-unfit f = row-item q h ∙ item-wrong p.design p.rows 0x04 k (not (needless s i) && fits q) q e none (and_right (not (needless s i)) (fits q) f)

      pub row-taken : needless s i ≡ false → row_fits (scheme_of q.design) (database_of q.cells q.tables) p.rows ≡ true
          → admitted p s i (Row t) ≡ on q
      unfolding fits
      row-taken n f = row-item q h ∙ item-right p.design p.rows 0x04 k (not (needless s i) && fits q) q e none q (both (ap not n) f) refl

-- the row put in, with the cells that the code has made
pub row_put : (p : Draft) (s : List ℕ) (i t : ℕ) (cells : Cells) → cells ≡ row_cells p.cells p.rows s i
    → draft p.design (p.rows + 1) cells (set p.tables p.rows t) ≡ with_row p s i t
unfolding with_row
row_put p s i t cells e = ap (λ (l : Cells). draft p.design (p.rows + 1) l (set p.tables p.rows t)) e

-- ---- an operation or a change of the rows in a design, a command that is none, and END

module _ (p : Draft) (s : List ℕ) (i : ℕ) where
  pub late-refused : (c : Command) → ((o : Operation) × (c ≡ Operate o)) ⊎ (((r : ℕ) × (t : ℕ) × (c ≡ Put r t)) ⊎ ((r : ℕ) × (c ≡ Remove r))) → admitted p s i c ≡ refused 3
  unfolding admitted advanced
  late-refused c (inl h) = rw h.1 refl
  late-refused c (inr (inl h)) = rw h.2 refl
  late-refused c (inr (inr h)) = rw h.1 refl

  pub unknown-refused : admitted p s i Unknown ≡ refused 2
  unfolding admitted advanced
  unknown-refused = refl

  pub short-refused : admitted p s i Short ≡ refused 1
  unfolding admitted advanced
  short-refused = refl

  pub end-admitted : admitted p s i End ≡ complete
  unfolding admitted advanced
  end-admitted = refl
