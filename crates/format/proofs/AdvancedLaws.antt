-- What a draft takes, and what it then is: the refusals of a command in order. Assumes nothing.
use Prim.Native.Nat.{ℕ, ◌<◌}
use native.Mathlib.Omega.{arith}
use mathlib.Core.Path.{◌≡◌, refl, sym, ap, ◌∙◌}
use mathlib.Core.Bool.{Bool, true, false, not, ◌||◌, and-eq-true_iff}
use mathlib.Core.List.{List}
use borrow.Author.Tests.{ltb-false, leb-false, lt-leb, not-true, not-false}
use lib.Dec.{leb, ltb}
use Rattle.finite.proofs.Bools.{clash, both}
use Rattle.state.specs.declared.design.Design.{Design}
use Rattle.state.specs.declared.design.Table as State-table
use Rattle.state.specs.declared.design.Constraint as State-constraint
use Rattle.state.specs.declared.design.Filling as State-filling
use Rattle.state.specs.Meaning.{scheme_of, database_of}
use Rattle.state.specs.Lawful.{table_fits, constraint_fits, filling_fits, row_fits, repeats}
use Rattle.command.specs.declared.command.Command.{Command}
use Rattle.command.specs.declared.command.Command.TheVariants.{Table, Constraint, Filling, Row, End, Operate, Put, Remove, Unknown, Short}
use Rattle.format.specs.Reading.{Draft, Advanced, refused_if, advanced, row_advanced, redesigned, with_table, with_constraint, with_filling, with_row, needless, after_tables, after_constraints, after_fillings}
use Rattle.format.specs.Reading.Advanced.{on, complete, refused}
use Rattle.format.proofs.LawfulLaws.{row_test}

-- ---- the three answers differ

pub not_on : (n : ℕ) (q : Draft) → refused n ≡ on q → ⊥
not_on n q e = let z : ◌≡◌ {A = ℕ} 0 1 = cc in omega arith

pub not-complete : (n : ℕ) → refused n ≡ complete → ⊥
not-complete n e = let z : ◌≡◌ {A = ℕ} 0 1 = cc in omega arith

pub on-complete : (q : Draft) → on q ≡ complete → ⊥
on-complete q e = let z : ◌≡◌ {A = ℕ} 0 1 = cc in omega arith

pub on_same : (p q : Draft) → on p ≡ on q → p ≡ q
on_same p q e = cc

-- ---- the refusals in order

pub unless-on : (b : Bool) (n : ℕ) (t : Advanced) (q : Draft) → refused_if b n t ≡ on q → (b ≡ false) × (t ≡ on q)
unless-on true n t q e = absurd (not_on n q e)
unless-on false n t q e = (refl, e)

-- a cause that does not apply
pub unless-off : (b : Bool) (n : ℕ) (t : Advanced) → b ≡ false → refused_if b n t ≡ t
unless-off true n t e = clash refl e
unless-off false n t e = refl

unless-complete : (b : Bool) (n : ℕ) (t : Advanced) → (t ≡ complete → ⊥) → refused_if b n t ≡ complete → ⊥
unless-complete true n t h e = not-complete n e
unless-complete false n t h e = h e

module _ (a b c : Bool) (k m n : ℕ) (p : Draft) where
  pub all_three : (q : Draft) → refused_if a k (refused_if b m (refused_if c n (on p))) ≡ on q → (a ≡ false) × (b ≡ false) × (c ≡ false) × (p ≡ q)
  all_three q e =
      let x = unless-on a k (refused_if b m (refused_if c n (on p))) q e in
      let y = unless-on b m (refused_if c n (on p)) q x.1 in
      let z = unless-on c n (on p) q y.1 in
      (x.0, y.0, z.0, on_same p q z.1)

  never : refused_if a k (refused_if b m (refused_if c n (on p))) ≡ complete → ⊥
  never = unless-complete a k (refused_if b m (refused_if c n (on p))) (unless-complete b m (refused_if c n (on p)) (unless-complete c n (on p) (on-complete p)))

pub none : (a b c : Bool) (k m n : ℕ) (t : Advanced) → a ≡ false → b ≡ false → c ≡ false → refused_if a k (refused_if b m (refused_if c n t)) ≡ t
none true b c k m n t p q r = clash refl p
none false true c k m n t p q r = clash refl q
none false false true k m n t p q r = clash refl r
none false false false k m n t p q r = refl

-- ---- nothing of a later kind has been read

zero-count : (n : ℕ) → ltb 0 n ≡ false → n ≡ 0
zero-count n e = let h = ltb-false 0 n e in omega arith

or-none : (a b : Bool) → a || b ≡ false → (a ≡ false) × (b ≡ false)
or-none true b e = clash refl e
or-none false b e = (refl, e)

neither : (a b : Bool) → a ≡ false → b ≡ false → a || b ≡ false
neither true b p q = clash refl p
neither false b p q = q

pub after-tables : (d : Design) (n : ℕ) → after_tables d n ≡ false → (d.constraints ≡ 0) × (d.fillings ≡ 0) × (n ≡ 0)
after-tables d n e =
    let x = or-none (ltb 0 d.constraints) (ltb 0 d.fillings || ltb 0 n) e in
    let y = or-none (ltb 0 d.fillings) (ltb 0 n) x.1 in
    (zero-count _ x.0, zero-count _ y.0, zero-count _ y.1)

pub after-constraints : (d : Design) (n : ℕ) → after_constraints d n ≡ false → (d.fillings ≡ 0) × (n ≡ 0)
after-constraints d n e = let y = or-none (ltb 0 d.fillings) (ltb 0 n) e in (zero-count _ y.0, zero-count _ y.1)

pub after-fillings : (n : ℕ) → after_fillings n ≡ false → n ≡ 0
after-fillings n e = zero-count n e

-- ---- each command that is read

pub record AddedTable (p q : Draft) (t : State-table.Table) : Type 0 where
  pub constraints : p.design.constraints ≡ 0
  pub fillings : p.design.fillings ≡ 0
  pub rows : p.rows ≡ 0
  pub room : p.design.tables < 8
  pub fits : table_fits t ≡ true
  pub is : redesigned p (with_table p.design t) ≡ q

pub record AddedConstraint (p q : Draft) (c : State-constraint.Constraint) : Type 0 where
  pub fillings : p.design.fillings ≡ 0
  pub rows : p.rows ≡ 0
  pub room : p.design.constraints < 16
  pub fits : constraint_fits p.design p.design.constraints c ≡ true
  pub is : redesigned p (with_constraint p.design c) ≡ q

pub record AddedFilling (p q : Draft) (f : State-filling.Filling) : Type 0 where
  pub rows : p.rows ≡ 0
  pub room : p.design.fillings < 8
  pub fits : filling_fits p.design p.design.fillings f ≡ true
  pub is : redesigned p (with_filling p.design f) ≡ q

-- q is the draft with the row put in
pub record AddedRow (p q r : Draft) : Type 0 where
  pub room : p.rows < 512
  pub fits : row_test (scheme_of q.design) (database_of q.cells q.tables) p.rows ≡ true
  pub is : q ≡ r

module _ (p q : Draft) (s : List ℕ) (i : ℕ) where
  pub added-table : (t : State-table.Table) → advanced p s i (Table t) ≡ on q → AddedTable p q t
  unfolding advanced
  added-table t e =
      let x = all_three (after_tables p.design p.rows) (leb 8 p.design.tables) (not (table_fits t)) 3 4 5 (redesigned p (with_table p.design t)) q e in
      let y = after-tables p.design p.rows x.0 in
      record { constraints = y.0; fillings = y.1; rows = y.2; room = leb-false _ _ x.1; fits = not-false _ x.2; is = x.3 }

  pub added-constraint : (c : State-constraint.Constraint) → advanced p s i (Constraint c) ≡ on q → AddedConstraint p q c
  unfolding advanced
  added-constraint c e =
      let x = all_three (after_constraints p.design p.rows) (leb 16 p.design.constraints) (not (constraint_fits p.design p.design.constraints c)) 3 4 5 (redesigned p (with_constraint p.design c)) q e in
      let y = after-constraints p.design p.rows x.0 in
      record { fillings = y.0; rows = y.1; room = leb-false _ _ x.1; fits = not-false _ x.2; is = x.3 }

  pub added-filling : (f : State-filling.Filling) → advanced p s i (Filling f) ≡ on q → AddedFilling p q f
  unfolding advanced
  added-filling f e =
      let x = all_three (after_fillings p.rows) (leb 8 p.design.fillings) (not (filling_fits p.design p.design.fillings f)) 3 4 5 (redesigned p (with_filling p.design f)) q e in
      record { rows = after-fillings p.rows x.0; room = leb-false _ _ x.1; fits = not-false _ x.2; is = x.3 }

  pub added-row : (t : ℕ) → advanced p s i (Row t) ≡ on q → (needless s i ≡ false) × AddedRow p (with_row p s i t) q
  unfolding advanced row_advanced
  added-row t e =
      let r = with_row p s i t in
      let S = scheme_of r.design in
      let D = database_of r.cells r.tables in
      let n = p.rows in
      let y = unless-on (leb 512 n) 4 (refused_if (needless s i) 5 (refused_if (not (row_fits S D n)) 5 (refused_if (repeats S D n) 6 (on r)))) q e in
      let x = all_three (needless s i) (not (row_fits S D n)) (repeats S D n) 5 5 6 r q y.1 in
      (x.0, record { room = leb-false _ _ y.0; fits = both (not-false (row_fits S D n) x.1) (ap not x.2); is = x.3 })

  -- ... and what is read so

  pub adds-table : (t : State-table.Table) → AddedTable p q t → advanced p s i (Table t) ≡ on q
  unfolding advanced
  adds-table t h =
      none (after_tables p.design p.rows) (leb 8 p.design.tables) (not (table_fits t)) 3 4 5 (on (redesigned p (with_table p.design t)))
      (neither (ltb 0 p.design.constraints) (ltb 0 p.design.fillings || ltb 0 p.rows) (ap (ltb 0) h.constraints)
      (neither (ltb 0 p.design.fillings) (ltb 0 p.rows) (ap (ltb 0) h.fillings) (ap (ltb 0) h.rows)))
      (lt-leb 8 p.design.tables h.room) (ap not h.fits) ∙ ap on h.is

  pub adds-constraint : (c : State-constraint.Constraint) → AddedConstraint p q c → advanced p s i (Constraint c) ≡ on q
  unfolding advanced
  adds-constraint c h =
      none (after_constraints p.design p.rows) (leb 16 p.design.constraints) (not (constraint_fits p.design p.design.constraints c)) 3 4 5
      (on (redesigned p (with_constraint p.design c)))
      (neither (ltb 0 p.design.fillings) (ltb 0 p.rows) (ap (ltb 0) h.fillings) (ap (ltb 0) h.rows))
      (lt-leb 16 p.design.constraints h.room) (ap not h.fits) ∙ ap on h.is

  pub adds-filling : (f : State-filling.Filling) → AddedFilling p q f → advanced p s i (Filling f) ≡ on q
  unfolding advanced
  adds-filling f h =
      none (after_fillings p.rows) (leb 8 p.design.fillings) (not (filling_fits p.design p.design.fillings f)) 3 4 5
      (on (redesigned p (with_filling p.design f)))
      (ap (ltb 0) h.rows) (lt-leb 8 p.design.fillings h.room) (ap not h.fits) ∙ ap on h.is

  pub adds-row : (t : ℕ) → needless s i ≡ false → AddedRow p (with_row p s i t) q → advanced p s i (Row t) ≡ on q
  unfolding advanced row_advanced
  adds-row t e h =
      let r = with_row p s i t in
      let S = scheme_of r.design in
      let D = database_of r.cells r.tables in
      let n = p.rows in
      let x = (and-eq-true_iff (row_fits S D n) (not (repeats S D n))).0 h.fits in
      unless-off (leb 512 n) 4 _ (lt-leb 512 n h.room) ∙
      none (needless s i) (not (row_fits S D n)) (repeats S D n) 5 5 6 (on r) e (ap not x.0) (not-true (repeats S D n) x.1) ∙ ap on h.is

-- ---- END alone completes a design

pub only_end : (p : Draft) (s : List ℕ) (i : ℕ) (c : Command) → advanced p s i c ≡ complete → c ≡ End
unfolding advanced row_advanced
only_end p s i (Table t) e = absurd (never (after_tables p.design p.rows) (leb 8 p.design.tables) (not (table_fits t)) 3 4 5 (redesigned p (with_table p.design t)) e)
only_end p s i (Constraint c) e =
    absurd (never (after_constraints p.design p.rows) (leb 16 p.design.constraints) (not (constraint_fits p.design p.design.constraints c)) 3 4 5 (redesigned p (with_constraint p.design c)) e)
only_end p s i (Filling f) e =
    absurd (never (after_fillings p.rows) (leb 8 p.design.fillings) (not (filling_fits p.design p.design.fillings f)) 3 4 5 (redesigned p (with_filling p.design f)) e)
only_end p s i (Row t) e =
    let r = with_row p s i t in
    let S = scheme_of r.design in
    let D = database_of r.cells r.tables in
    let n = p.rows in
    absurd (unless-complete (leb 512 n) 4 _ (never (needless s i) (not (row_fits S D n)) (repeats S D n) 5 5 6 r) e)
only_end p s i End e = refl
only_end p s i (Operate o) e = absurd (not-complete 3 e)
only_end p s i (Put r t) e = absurd (not-complete 3 e)
only_end p s i (Remove r) e = absurd (not-complete 3 e)
only_end p s i Unknown e = absurd (not-complete 2 e)
only_end p s i Short e = absurd (not-complete 1 e)

pub end-completes : (p : Draft) (s : List ℕ) (i : ℕ) → advanced p s i End ≡ complete
unfolding advanced
end-completes p s i = refl

pub end_on : (p : Draft) (s : List ℕ) (i : ℕ) (q : Draft) → advanced p s i End ≡ on q → ⊥
end_on p s i q e = on-complete q (sym e ∙ end-completes p s i)
