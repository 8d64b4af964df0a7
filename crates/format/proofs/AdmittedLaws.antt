-- A command read without a look at cause 6, beside the definition's: the same, but for a row that repeats a value. Assumes nothing.
use Prim.Native.Nat.{ℕ, ◌<◌}
use mathlib.Core.Path.{◌≡◌, refl, sym, ap, subst, ◌∙◌}
use mathlib.Core.Bool.{Bool, true, false, not}
use mathlib.Core.List.{List}
use borrow.Author.Tests.{leb-false}
use lib.Dec.{leb}
use Rattle.state.specs.Meaning.{scheme_of, database_of}
use Rattle.state.specs.Lawful.{row_fits}
use Rattle.command.specs.declared.command.Command.{Command}
use Rattle.command.specs.declared.command.Command.TheVariants.{Table, Constraint, Filling, Row, End, Operate, Put, Remove, Unknown, Short}
use Rattle.command.specs.Commands.{command_at}
use Rattle.format.specs.Reading.{Draft, Advanced, refused_if, needless, advanced, row_advanced, with_row}
use Rattle.format.specs.Reading.Advanced.{on, refused}
use Rattle.format.specs.Admitting.{admitted, again}
use Rattle.format.proofs.AdvancedLaws.{not_on, unless-off, all_three, none}
use Rattle.format.proofs.ReadingLaws.{Whole, whole-or}

-- ---- no row

pub no-row : (p : Draft) (s : List ℕ) (i : ℕ) (c : Command) → ((t : ℕ) → c ≡ Row t → ⊥) → admitted p s i c ≡ advanced p s i c
unfolding admitted
no-row p s i (Row t) h = absurd (h t refl)
no-row p s i (Table t) h = refl
no-row p s i (Constraint c) h = refl
no-row p s i (Filling f) h = refl
no-row p s i End h = refl
no-row p s i (Operate o) h = refl
no-row p s i (Put r t) h = refl
no-row p s i (Remove r) h = refl
no-row p s i Unknown h = refl
no-row p s i Short h = refl

pub admitted-whole : (s : List ℕ) (i : ℕ) (p q : Draft) → admitted p s i (command_at s i) ≡ on q → Whole s i
admitted-whole s i p q e = whole-or s i (λ n h k. not_on n q (sym (h p) ∙ sym (no-row p s i (command_at s i) k) ∙ e))

-- ---- a row

-- causes 4 and 5 of a row, and cause 6 behind them
stopped : (a m b c : Bool) (q : Draft) (r : Advanced) → ((x : Draft) → on x ≡ r → ⊥) → refused_if a 4 (refused_if m 5 (refused_if b 5 (on q))) ≡ r
    → refused_if a 4 (refused_if m 5 (refused_if b 5 (refused_if c 6 (on q)))) ≡ r
stopped true m b c q r never e = e
stopped false true b c q r never e = e
stopped false false true c q r never e = e
stopped false false false c q r never e = absurd (never q e)

-- a row that is admitted, and q the draft with it: the definition goes on with q, or refuses the row with cause 6 because it repeats a value
pub record Admitted (p : Draft) (s : List ℕ) (i t : ℕ) (q : Draft) : Type 0 where
  pub room : p.rows < 512
  pub needed : needless s i ≡ false
  pub is : with_row p s i t ≡ q
  pub once : again q.design q.cells q.tables p.rows ≡ false → advanced p s i (Row t) ≡ on q
  pub twice : again q.design q.cells q.tables p.rows ≡ true → advanced p s i (Row t) ≡ refused 6

pub row-admitted : (p : Draft) (s : List ℕ) (i t : ℕ) (q : Draft) → admitted p s i (Row t) ≡ on q → Admitted p s i t q
unfolding admitted advanced row_advanced
row-admitted p s i t q e =
    let x = with_row p s i t in
    let n = p.rows in
    let a = leb 512 n in
    let b = not (row_fits (scheme_of x.design) (database_of x.cells x.tables) n) in
    let c = again x.design x.cells x.tables n in
    let m = needless s i in
    let y = all_three a m b 4 5 5 x q e in
    let go : (t : Advanced) → refused_if a 4 (refused_if m 5 (refused_if b 5 t)) ≡ t = λ t. none a m b 4 5 5 t y.0 y.1 y.2 in
    subst (Admitted p s i t) y.3
    (record {
      room = leb-false 512 n y.0;
      needed = y.1;
      is = refl;
      once = λ h. go (refused_if c 6 (on x)) ∙ unless-off c 6 (on x) h;
      twice = λ h. go (refused_if c 6 (on x)) ∙ ap (λ (z : Bool). refused_if z 6 (on x)) h;
    })

-- ---- where the reading stops, the definition's stops alike

pub stops : (p : Draft) (s : List ℕ) (i : ℕ) (c : Command) (r : Advanced) → ((x : Draft) → on x ≡ r → ⊥) → admitted p s i c ≡ r → advanced p s i c ≡ r
unfolding admitted advanced row_advanced
stops p s i (Row t) r never e =
    let x = with_row p s i t in
    let n = p.rows in
    stopped (leb 512 n) (needless s i) (not (row_fits (scheme_of x.design) (database_of x.cells x.tables) n))
    (again x.design x.cells x.tables n) x r never e
stops p s i (Table t) r never e = e
stops p s i (Constraint c) r never e = e
stops p s i (Filling f) r never e = e
stops p s i End r never e = e
stops p s i (Operate o) r never e = e
stops p s i (Put k t) r never e = e
stops p s i (Remove k) r never e = e
stops p s i Unknown r never e = e
stops p s i Short r never e = e
