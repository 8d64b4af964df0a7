-- What the tests of a design say, both ways, and what the layers above use of a lawful design. Assumes nothing.
use Prim.Native.Nat.{ℕ, ◌≤◌, ◌<◌}
use native.Mathlib.Nat.{lt_of_lt_of_le}
use native.Mathlib.Decide.{dec_lt}
use native.Mathlib.Omega.{arith}
use mathlib.Core.Path.{◌≡◌, sym, ap, ◌∙◌}
use mathlib.Core.Bool.{true, false, and-eq-true_iff}
use borrow.Author.Tests.{ltb-true, lt-ltb, leb-true, le-leb, eqb-true, eq-eqb, ne_eqb}
use lib.Dec.{lit<}
use Rattle.finite.proofs.Bools.{both, clash, refute}
use Rattle.finite.proofs.Search.{none_before, not-before}
use Rattle.model.specs.Cell.{Cell, numberless}
use Rattle.model.specs.Scheme as Model
use Rattle.model.specs.Scheme.{ColumnOf, Scheme, is_column, same_column, candidate}
use Rattle.model.specs.Demand.{FillingsApart}
use Rattle.model.proofs.DatabaseLaws.{same-column, same-column-self}
use Rattle.state.specs.declared.design.Table.{Table}
use Rattle.state.specs.declared.design.Column.{Column}
use Rattle.state.specs.declared.design.Constraint.{Constraint}
use Rattle.state.specs.declared.design.Filling.{Filling}
use Rattle.state.specs.declared.design.Design.{Design}
use Rattle.state.specs.Design.{no_table, no_column, no_constraint, no_filling, constraint_at, filling_at, InRange}
use Rattle.state.specs.Meaning.{column_of, filling_of, scheme_of}
use Rattle.state.specs.Lawful.{table_fits, zero_table, zero_column, same_constraint, constraint_fits, zero_constraint}
use Rattle.state.specs.Lawful.{filling_fits, zero_filling, counts_fit, lawful_design}
use Rattle.state.proofs.Arrays.{Sized}
use Rattle.state.proofs.Places.{in_array, used-at, unused-at, all-places}
use Rattle.lawful.specs.Parts.{tables_lawful, constraints_lawful, fillings_lawful}
use Rattle.lawful.specs.LawfulState.{LawfulTable, LawfulConstraint, LawfulFilling, LawfulDesign}

-- ---- columns

pub column-says : (S : Scheme) (k : Model.Column) → is_column S k ≡ true → ColumnOf S k
unfolding is_column
column-says S k e = let h = (and-eq-true_iff _ _).0 e in record { table = ltb-true _ _ h.0; place = ltb-true _ _ h.1 }

pub column-if : {S : Scheme} {k : Model.Column} → ColumnOf S k → is_column S k ≡ true
unfolding is_column
column-if c = both (lt-ltb _ _ c.table) (lt-ltb _ _ c.place)

-- the model's column and the design's
columns-same : (j k : Column) → column_of j ≡ column_of k → j ≡ k
columns-same j k e = ap (λ (m : Model.Column). record { table = m.table; place = m.place }) e

pub different-columns : (j k : Column) → same_column (column_of j) (column_of k) ≡ false → j ≡ k → ⊥
different-columns j k e p = clash (ap (λ (m : Column). same_column (column_of j) (column_of m)) (sym p) ∙ same-column-self (column_of j)) e

pub columns-differ : (j k : Column) → (j ≡ k → ⊥) → same_column (column_of j) (column_of k) ≡ false
columns-differ j k h = refute _ (λ e. h (columns-same j k (same-column (column_of j) (column_of k) e)))

pub zero-column : (k : Column) → zero_column k ≡ true → k ≡ no_column
unfolding zero_column
zero-column k e = let h = (and-eq-true_iff _ _).0 e in λ i. record { table = eqb-true k.table 0 h.0 i; place = eqb-true k.place 0 h.1 i }

column-zero : (k : Column) → k ≡ no_column → zero_column k ≡ true
unfolding zero_column
column-zero k e = both (eq-eqb _ _ (ap (λ (m : Column). m.table) e)) (eq-eqb _ _ (ap (λ (m : Column). m.place) e))

-- ---- tables

pub table-says : (t : Table) → table_fits t ≡ true → LawfulTable t
unfolding table_fits
table-says t e =
    let h = (and-eq-true_iff _ _).0 e in
    let g = (and-eq-true_iff _ _).0 h.1 in
    record { some = leb-true _ _ h.0; most = leb-true _ _ g.0; bits = ltb-true _ _ g.1 }

pub table-if : {t : Table} → LawfulTable t → table_fits t ≡ true
unfolding table_fits
table-if l = both (le-leb _ _ l.some) (both (le-leb _ _ l.most) (lt-ltb _ _ l.bits))

pub zero-table : (t : Table) → zero_table t ≡ true → t ≡ no_table
unfolding zero_table
zero-table t e = let h = (and-eq-true_iff _ _).0 e in λ i. record { columns = eqb-true t.columns 0 h.0 i; unique = eqb-true t.unique 0 h.1 i }

table-zero : (t : Table) → t ≡ no_table → zero_table t ≡ true
unfolding zero_table
table-zero t e = both (eq-eqb _ _ (ap (λ (m : Table). m.columns) e)) (eq-eqb _ _ (ap (λ (m : Table). m.unique) e))

-- ---- constraints

same-constraint : (a b : Constraint) → same_constraint a b ≡ true → a ≡ b
unfolding same_constraint
same-constraint a b e =
    let h = (and-eq-true_iff _ _).0 e in
    λ i. record {
      source = columns-same a.source b.source (same-column _ _ h.0) i;
      target = columns-same a.target b.target (same-column _ _ h.1) i;
    }

same-constraint-self : (a : Constraint) → same_constraint a a ≡ true
unfolding same_constraint
same-constraint-self a = both (same-column-self _) (same-column-self _)

module _ (d : Design) (n : ℕ) (c : Constraint) where
  pub constraint-says : constraint_fits d n c ≡ true → LawfulConstraint d c × ((i : ℕ) → i < n → constraint_at d i ≡ c → ⊥)
  unfolding constraint_fits
  constraint-says e =
      let h = (and-eq-true_iff _ _).0 e in
      let g = (and-eq-true_iff _ _).0 h.1 in (
        record { source = column-says _ _ h.0; target = column-says _ _ g.0 },
        λ i l p. clash (ap (λ (a : Constraint). same_constraint a c) p ∙ same-constraint-self c)
            (none_before n (λ j. same_constraint (constraint_at d j) c) g.1 i l),
      )

  pub constraint-if : LawfulConstraint d c → ((i : ℕ) → i < n → constraint_at d i ≡ c → ⊥) → constraint_fits d n c ≡ true
  unfolding constraint_fits
  constraint-if l h =
      both (column-if l.source)
      (both (column-if l.target) (not-before n _ (λ i b. refute _ (λ e. h i b (same-constraint _ _ e)))))

pub zero-constraint : (c : Constraint) → zero_constraint c ≡ true → c ≡ no_constraint
unfolding zero_constraint
zero-constraint c e = let h = (and-eq-true_iff _ _).0 e in λ i. record { source = zero-column c.source h.0 i; target = zero-column c.target h.1 i }

constraint-zero : (c : Constraint) → c ≡ no_constraint → zero_constraint c ≡ true
unfolding zero_constraint
constraint-zero c e = both (column-zero _ (ap (λ (m : Constraint). m.source) e)) (column-zero _ (ap (λ (m : Constraint). m.target) e))

-- ---- fillings

module _ (d : Design) (n : ℕ) (f : Filling) where
  pub filling-says : filling_fits d n f ≡ true → LawfulFilling d f × ((i : ℕ) → i < n → (filling_at d i).column ≡ f.column → ⊥)
  unfolding filling_fits
  filling-says e =
      let h = (and-eq-true_iff _ _).0 e in
      let g = (and-eq-true_iff _ _).0 h.1 in
      let k = (and-eq-true_iff _ _).0 g.1 in (
        record { column = column-says _ _ h.0; low = leb-true _ _ g.0; high = leb-true _ _ k.0 },
        λ i l. different-columns _ _ (none_before n (λ j. same_column (column_of (filling_at d j).column) (column_of f.column)) k.1 i l),
      )

  pub filling-if : LawfulFilling d f → ((i : ℕ) → i < n → (filling_at d i).column ≡ f.column → ⊥) → filling_fits d n f ≡ true
  unfolding filling_fits
  filling-if l h =
      both (column-if l.column)
      (both (le-leb _ _ l.low)
      (both (le-leb _ _ l.high) (not-before n _ (λ i b. columns-differ _ _ (h i b)))))

pub zero-filling : (f : Filling) → zero_filling f ≡ true → f ≡ no_filling
unfolding zero_filling
zero-filling f e =
    let h = (and-eq-true_iff _ _).0 e in
    let g = (and-eq-true_iff _ _).0 h.1 in
    λ i. record { column = zero-column f.column h.0 i; low = eqb-true f.low 0 g.0 i; high = eqb-true f.high 0 g.1 i }

filling-zero : (f : Filling) → f ≡ no_filling → zero_filling f ≡ true
unfolding zero_filling
filling-zero f e =
    both (column-zero _ (ap (λ (m : Filling). m.column) e))
    (both (eq-eqb _ _ (ap (λ (m : Filling). m.low) e)) (eq-eqb _ _ (ap (λ (m : Filling). m.high) e)))

-- ---- the whole design

pub design-says : (d : Design) → lawful_design d ≡ true → LawfulDesign d
unfolding lawful_design counts_fit
design-says d e =
    let p = (and-eq-true_iff (counts_fit d) _).0 e in
    let h = (and-eq-true_iff (tables_lawful d) _).0 p.1 in
    let g = (and-eq-true_iff (constraints_lawful d) (fillings_lawful d)).0 h.1 in
    let q = (and-eq-true_iff _ _).0 p.0 in
    let o = (and-eq-true_iff _ _).0 q.1 in
    let a : d.tables ≤ 8 = leb-true _ _ q.0 in
    let b : d.constraints ≤ 16 = leb-true _ _ o.0 in
    let c : d.fillings ≤ 8 = leb-true _ _ o.1 in
    record {
      tables = a;
      constraints = b;
      fillings = c;
      table = λ t l. table-says _ (used-at 8 _ _ _ h.0 t (lt_of_lt_of_le l a) l);
      constraint = λ i l. (constraint-says d i _ (used-at 16 _ _ _ g.0 i (lt_of_lt_of_le l b) l)).0;
      filling = λ f l. (filling-says d f _ (used-at 8 _ _ _ g.1 f (lt_of_lt_of_le l c) l)).0;
      constraint_once = λ i j l m. (constraint-says d j _ (used-at 16 _ _ _ g.0 j (lt_of_lt_of_le m b) m)).1 i l;
      filling_once = λ i j l m. (filling-says d j _ (used-at 8 _ _ _ g.1 j (lt_of_lt_of_le m c) m)).1 i l;
      table_rest = λ t l m. zero-table _ (unused-at 8 _ _ _ h.0 t l m);
      constraint_rest = λ i l m. zero-constraint _ (unused-at 16 _ _ _ g.0 i l m);
      filling_rest = λ f l m. zero-filling _ (unused-at 8 _ _ _ g.1 f l m);
    }

pub design-if : {d : Design} → LawfulDesign d → lawful_design d ≡ true
unfolding lawful_design counts_fit
design-if {d} l =
    both (both (le-leb _ _ l.tables) (both (le-leb _ _ l.constraints) (le-leb _ _ l.fillings)))
    (both (all-places 8 _ _ _ (λ t _ h. table-if (l.table t h)) (λ t b h. table-zero _ (l.table_rest t b h)))
    (both (all-places 16 _ _ _ (λ j _ h. constraint-if d j _ (l.constraint j h) (λ i b. l.constraint_once i j b h))
    (λ j b h. constraint-zero _ (l.constraint_rest j b h)))
    (all-places 8 _ _ _ (λ g _ h. filling-if d g _ (l.filling g h) (λ f b. l.filling_once f g b h)) (λ g b h. filling-zero _ (l.filling_rest g b h)))))

-- ---- what the layers above use

-- a column that exists lies below 8, and so does its table
place-below : {d : Design} (k : Column) → LawfulDesign d → ColumnOf (scheme_of d) (column_of k) → k.place < 8
unfolding scheme_of
place-below k l c = omega (arith, c.place, (l.table k.table c.table).most)

table_below : {d : Design} (k : Column) → LawfulDesign d → ColumnOf (scheme_of d) (column_of k) → k.table < 8
unfolding scheme_of
table_below k l c = omega (arith, c.table, l.tables)

pub in-range : (d : Design) → Sized d → lawful_design d ≡ true → InRange d
in-range d z e =
    let l = design-says d e in
    record {
      tables = l.tables;
      constraints = l.constraints;
      fillings = l.fillings;
      source = in_array d.constraint no_constraint 16 d.constraints (λ c. c.source.place < 8) z.constraint
          (λ i h. place-below _ l (l.constraint i h).source) l.constraint_rest (lit< tt);
      target = in_array d.constraint no_constraint 16 d.constraints (λ c. c.target.place < 8) z.constraint
          (λ i h. place-below _ l (l.constraint i h).target) l.constraint_rest (lit< tt);
      column = in_array d.filling no_filling 8 d.fillings (λ f. f.column.place < 8) z.filling
          (λ f h. place-below _ l (l.filling f h).column) l.filling_rest (lit< tt);
      source-table = in_array d.constraint no_constraint 16 d.constraints (λ c. c.source.table < 8) z.constraint
          (λ i h. table_below _ l (l.constraint i h).source) l.constraint_rest (lit< tt);
      target-table = in_array d.constraint no_constraint 16 d.constraints (λ c. c.target.table < 8) z.constraint
          (λ i h. table_below _ l (l.constraint i h).target) l.constraint_rest (lit< tt);
      column-table = in_array d.filling no_filling 8 d.fillings (λ f. f.column.table < 8) z.filling
          (λ f h. table_below _ l (l.filling f h).column) l.filling_rest (lit< tt);
    }

-- a candidate has a number
pub low-full : (d : Design) → lawful_design d ≡ true → (f : ℕ) → f < d.fillings → (v : Cell) → candidate (filling_of (filling_at d f)) v ≡ true →
    numberless v ≡ false
unfolding candidate numberless
low-full d e f l v c =
    let h : (filling_at d f).low ≤ v.number = leb-true _ _ ((and-eq-true_iff _ _).0 c).0 in
    let g = ((design-says d e).filling f l).low in
    ne_eqb v.number 0 (λ z. omega arith)

-- no two fillings of a lawful design have one column
pub fillings-apart : (d : Design) → lawful_design d ≡ true → FillingsApart (scheme_of d)
unfolding FillingsApart scheme_of
fillings-apart d e k f g a b = order (dec_lt f g) (dec_lt g f)
  where
    same : column_of (filling_at d f).column ≡ column_of (filling_at d g).column
    same = same-column _ k a.column ∙ sym (same-column _ k b.column)

    order : Dec (f < g) → Dec (g < f) → f ≡ g
    order (yes l) m = absurd ((design-says d e).filling_once f g l b.below (columns-same _ _ same))
    order (no l) (yes m) = absurd ((design-says d e).filling_once g f m a.below (sym (columns-same _ _ same)))
    order (no l) (no m) = omega arith
