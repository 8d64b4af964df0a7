-- The first pass over a design beside the definition's reading. As long as no row has repeated a value, what is left to read is what the whole reads
-- as. Once a row has, the whole is refused with cause 6 at that row's command, which begins where the row would be written: the place reached is
-- where the next row would be. Assumes nothing.
use Prim.Native.Nat.{ℕ, suc, ◌+◌, ◌-◌, ◌*◌, ◌≤◌, ◌<◌}
use native.Mathlib.Omega.{arith}
use mathlib.Core.Path.{◌≡◌, refl, sym, ap, ap₂, subst, ◌∙◌}
use mathlib.Core.Bool.{Bool, true, false, not}
use mathlib.Core.List.{List}
use mathlib.Core.Logic.{⊎_elim}
use lib.Dec.{eqb}
use lib.ListN.{length, set}
use Rattle.finite.proofs.Search.{below_suc, any_same}
use Rattle.finite.proofs.Counting.{count_same}
use Rattle.model.specs.Scheme.{Scheme}
use Rattle.model.specs.Database.{Database}
use Rattle.state.specs.Cells.{Cells}
use Rattle.state.specs.declared.cell.Cell.{Cell}
use Rattle.state.specs.declared.design.Design.{Design}
use Rattle.state.specs.Design.{empty_design}
use Rattle.state.specs.Meaning.{scheme_of, database_of}
use Rattle.state.specs.Lawful.{repeats}
use Rattle.lawful.proofs.DesignLaws.{in-range}
use Rattle.command.specs.declared.command.Command.{Command}
use Rattle.command.specs.declared.command.Command.TheVariants.{Row}
use Rattle.format.specs.declared.verdict.Verdict.{Verdict}
use Rattle.format.specs.declared.verdict.Verdict.TheVariants.{Accepted, Refused}
use Rattle.std.specs.Prelude.{Result, Ok, Err}
use Rattle.format.specs.declared.reading.Progress.{Progress}
use Rattle.format.specs.declared.reading.Progress.TheVariants.{On, Complete}
use Rattle.format.specs.declared.reading.SoFar.{SoFar}
use Rattle.format.specs.declared.reading.Stop.{Stop}
use Rattle.command.specs.Bytes.{byte_at}
use Rattle.command.specs.Commands.{width_of, command_at}
use Rattle.format.specs.Reading.{Draft, draft, Advanced, advanced, with_table, with_constraint, with_filling, with_row, needless, DesignRead, read_from}
use Rattle.format.specs.Reading.Advanced.{on, complete, refused}
use Rattle.format.specs.Reading.DesignRead.{accepted, refused_at}
use Rattle.format.specs.Admitting.{admitted, outcome_of, Kept, Advances, again, None, Earliest, read_as, Stopped}
use Rattle.format.specs.Writing.{is_issued, place_after, row_place}
use Rattle.command.proofs.CommandLaws.{RowByte}
use Rattle.format.proofs.RowText.{row_width, width-tells}
use Rattle.format.proofs.Lengths.{place-first, place-more}
use Rattle.format.proofs.Items.{new-issued}
use Rattle.format.proofs.LawfulLaws.{whole, SameRow, same_row, live_same, repeats-same}
use Rattle.format.proofs.Seen.{Seen, seen-table, seen-constraint, seen-filling, seen-row, seen_end, seen-refused, seen}
use Rattle.format.proofs.Seen.{table-no-row, constraint-no-row, filling-no-row}
use Rattle.format.proofs.AdvancedLaws.{not_on, on-complete, end_on, added-table, added-constraint, added-filling}
use Rattle.format.proofs.ReadingLaws.{read_all, all-on, all-complete, all-refused, Whole, Ends, advanced-complete}
use Rattle.format.proofs.AdvancesLaws.{kept_put}
use Rattle.format.proofs.AdmittedLaws.{no-row, Admitted, row-admitted, admitted-whole, stops}
use Rattle.format.proofs.Reached.{Sizes, Fitting, fit-table, fit-constraint, fit-filling, fit_row, fit-empty}

-- ---- rows that stay as they are repeat what they repeated

pub kept_again : (S : Scheme) (n : ℕ) (cells : Cells) (tables : List ℕ) (cells' : Cells) (tables' : List ℕ) → Kept n cells tables cells' tables' → (r : ℕ) → r < n
    → repeats S (database_of cells' tables') r ≡ repeats S (database_of cells tables) r
kept_again S n cells tables cells' tables' k r h =
    let D : Database = database_of cells' tables' in
    let E : Database = database_of cells tables in
    let same : (q : ℕ) → q < n → SameRow D E q = λ q g. same_row cells' cells tables' tables q (k.table q g) (λ c b. k.cell (8 * q + c) (omega arith)) in
    repeats-same S D E r (same r h) (λ q g. same q (omega arith)) (λ q g. live_same cells' cells tables' tables q (k.table q (omega arith)))

-- ... and are written where they were
pub kept-place : (d : Design) (n : ℕ) (cells : Cells) (tables : List ℕ) (cells' : Cells) (tables' : List ℕ) → Kept n cells tables cells' tables' → (r : ℕ) → r ≤ n
    → row_place d cells' r ≡ row_place d cells r
unfolding row_place is_issued
kept-place d n cells tables cells' tables' k r l =
    ap (place_after d r)
    (count_same r (is_issued cells') (is_issued cells)
    (λ q h. any_same 8 _ _ (λ c b. ap (λ (v : Cell). not (eqb v.issue 0)) (k.cell (8 * q + c) (omega arith)))))

-- ---- the place reached

abbrev twice_in : Draft → ℕ → Bool
twice_in p = again p.design p.cells p.tables

-- the pass over a script s that reads as w has come to the draft p and to place i
pub record Along (s : List ℕ) (w : DesignRead) (p : Draft) (i : ℕ) : Type 0 where
  pub fitting : Fitting p
  pub place : i ≡ row_place p.design p.cells p.rows
  pub once : None p.rows (twice_in p) → w ≡ read_all s p i
  pub twice : (q : ℕ) → Earliest p.rows (twice_in p) q → w ≡ refused_at 6 (row_place p.design p.cells q)

-- before the first row there are tables, constraints and fillings alone
abbrev items_length : Design → ℕ
items_length d = 3 * d.tables + 5 * d.constraints + 11 * d.fillings

place-early : (d : Design) (n : ℕ) (cells : Cells) → n ≡ 0 → row_place d cells n ≡ items_length d
place-early d n cells e = ap (row_place d cells) e ∙ sym (place-first d cells)

pub along-start : (s : List ℕ) (cells : Cells) (tables : List ℕ) (d : Design) → d ≡ empty_design → length cells.numbers ≡ 4096 → length cells.issues ≡ 4096
    → length tables ≡ 512 → Along s (read_from (suc (length s)) s (draft empty_design 0 cells tables) 0) (draft d 0 cells tables) 0
unfolding read_all empty_design
along-start s cells tables d e a c b =
    subst (λ (x : Design). Along s (read_from (suc (length s)) s (draft empty_design 0 cells tables) 0) (draft x 0 cells tables) 0) (sym e)
    (record { fitting = fit-empty cells tables a c b; place = sym (place-early empty_design 0 cells refl); once = λ _. start; twice = λ q h. absurd (none q h) })
  where
    start : read_from (suc (length s)) s (draft empty_design 0 cells tables) 0 ≡ read_all s (draft empty_design 0 cells tables) 0
    start = let z : length s ≡ length s - 0 = omega arith in ap (λ (n : ℕ). read_from (suc n) s (draft empty_design 0 cells tables) 0) z

    none : (q : ℕ) → Earliest 0 (twice_in (draft empty_design 0 cells tables)) q → ⊥
    none q h = omega (arith, h.below)

-- ---- a command that is admitted

module _ (s : List ℕ) (w : DesignRead) (p : Draft) (i : ℕ) (a : Along s w p i) (q : Draft) where
  -- before the first row
  along-early : p.rows ≡ 0 → q.rows ≡ 0 → Fitting q → width_of (byte_at s i) + items_length p.design ≡ items_length q.design
      → advanced p s i (command_at s i) ≡ on q → Along s w q (i + width_of (byte_at s i))
  along-early z y f wider e =
      record {
        fitting = f;
        place = let k = a.place in let m = place-early p.design p.rows p.cells z in let n = place-early q.design q.rows q.cells y in omega arith;
        once = λ _. a.once (λ r l. absurd (omega arith)) ∙ all-on s p i q e;
        twice = λ r h. absurd (omega (arith, h.below));
      }

  -- a row
  along-row : (t : ℕ) → command_at s i ≡ Row t → Admitted p s i t q → q.rows ≡ p.rows + 1
      → ((r : ℕ) → r < p.rows → twice_in q r ≡ twice_in p r) → ((r : ℕ) → r ≤ p.rows → row_place q.design q.cells r ≡ row_place p.design p.cells r)
      → i + width_of (byte_at s i) ≡ row_place q.design q.cells q.rows → Along s w q (i + width_of (byte_at s i))
  along-row t c h more same begins next =
      record {
        fitting = subst Fitting h.is (fit_row p a.fitting s i t h.room);
        place = next;
        once = λ none. a.once (λ r l. sym (same r l) ∙ none r (omega arith)) ∙ all-on s p i q (ap (advanced p s i) c ∙ h.once (none n (omega arith)));
        twice = λ r g. ⊎_elim (here r g) (before r g) (below_suc (let z = g.below in omega arith));
      }
    where
      n : ℕ
      n = p.rows

      before : (r : ℕ) → Earliest q.rows (twice_in q) r → r < n → w ≡ refused_at 6 (row_place q.design q.cells r)
      before r g l =
          a.twice r (record { below = l; here = sym (same r l) ∙ g.here; before = λ j k. sym (same j (omega arith)) ∙ g.before j k }) ∙
          ap (refused_at 6) (sym (begins r (omega arith)))

      here : (r : ℕ) → Earliest q.rows (twice_in q) r → r ≡ n → w ≡ refused_at 6 (row_place q.design q.cells r)
      here r g e =
          let z : i ≡ row_place q.design q.cells r = a.place ∙ sym (begins n (omega arith)) ∙ ap (row_place q.design q.cells) (sym e) in
          let f : advanced p s i (command_at s i) ≡ refused 6 = ap (advanced p s i) c ∙ h.twice (subst (λ (x : ℕ). twice_in q x ≡ true) e g.here) in
          a.once (λ j l. sym (same j l) ∙ g.before j (omega arith)) ∙ all-refused s p i 6 f ∙ ap (refused_at 6) z

-- the rows before a row that is put in
row_same : (p : Draft) (s : List ℕ) (i t r : ℕ) → r < p.rows → twice_in (with_row p s i t) r ≡ twice_in p r
unfolding with_row
row_same p s i t r l =
    let n = p.rows in
    kept_again (scheme_of p.design) n p.cells p.tables _ _ (kept_put n t i p.cells p.tables s _ refl) r l

-- they begin where they began
row-begins : (p : Draft) (s : List ℕ) (i t r : ℕ) → r ≤ p.rows → row_place (with_row p s i t).design (with_row p s i t).cells r ≡ row_place p.design p.cells r
unfolding with_row row_place
row-begins p s i t r l =
    kept-place p.design p.rows p.cells p.tables _ (set p.tables p.rows t) (kept_put p.rows t i p.cells p.tables s _ refl) r l

-- and the next row's command would begin behind this one's
row_next : (p : Draft) → Fitting p → (s : List ℕ) (i t w : ℕ) → p.rows < 512 → RowByte (byte_at s i) w → needless s i ≡ false
    → i ≡ row_place p.design p.cells p.rows → i + w ≡ row_place (with_row p s i t).design (with_row p s i t).cells (p.rows + 1)
row_next p f s i t w l b n e =
    place-more (with_row p s i t).design (with_row p s i t).cells p.rows i w (e ∙ sym (row-begins p s i t p.rows (omega arith)))
    (width-tells s i w b n ∙
    ap row_width (sym (new-issued p s i t (omega (arith, f.sizes.cells)) (omega (arith, f.sizes.issues)) (omega (arith, f.sizes.tables)))))

row_more : (p : Draft) (s : List ℕ) (i t : ℕ) → (with_row p s i t).rows ≡ p.rows + 1
unfolding with_row
row_more p s i t = refl

along-admitted : (s : List ℕ) (w : DesignRead) (p : Draft) (i : ℕ) → Along s w p i → (q : Draft) → admitted p s i (command_at s i) ≡ on q
    → Along s w q (i + width_of (byte_at s i))
unfolding admitted with_table with_constraint with_filling
along-admitted s w p i a q e = go (seen s i)
  where
    early : ((t : ℕ) → command_at s i ≡ Row t → ⊥) → p.rows ≡ 0 → q.rows ≡ 0 → Fitting q
        → width_of (byte_at s i) + items_length p.design ≡ items_length q.design → Along s w q (i + width_of (byte_at s i))
    early k z y f m = along-early s w p i a q z y f m (sym (no-row p s i (command_at s i) k) ∙ e)

    -- the draft x is q
    wider : {x : Draft} → x ≡ q → width_of (byte_at s i) + items_length p.design ≡ items_length x.design → width_of (byte_at s i) + items_length p.design ≡ items_length q.design
    wider e h = h ∙ ap (λ (y : Draft). items_length y.design) e

    no_more : {x : Draft} → x ≡ q → x.rows ≡ 0 → q.rows ≡ 0
    no_more e z = sym (ap (λ (y : Draft). y.rows) e) ∙ z

    go : Seen s i (command_at s i) (width_of (byte_at s i)) → Along s w q (i + width_of (byte_at s i))
    go (seen-table b u f c) =
        let h = added-table p q s i _ (ap (admitted p s i) (sym c) ∙ e) in
        early (λ t g. absurd (table-no-row _ t (sym c ∙ g))) h.rows (no_more h.is h.rows) (subst Fitting h.is (fit-table p a.fitting q _ h))
        (wider h.is (omega arith))
    go (seen-constraint b u f c) =
        let h = added-constraint p q s i _ (ap (admitted p s i) (sym c) ∙ e) in
        early (λ t g. absurd (constraint-no-row _ t (sym c ∙ g))) h.rows (no_more h.is h.rows) (subst Fitting h.is (fit-constraint p a.fitting q _ h))
        (wider h.is (omega arith))
    go (seen-filling b u f c) =
        let h = added-filling p q s i _ (ap (admitted p s i) (sym c) ∙ e) in
        early (λ t g. absurd (filling-no-row _ t (sym c ∙ g))) h.rows (no_more h.is h.rows) (subst Fitting h.is (fit-filling p a.fitting q _ h))
        (wider h.is (omega arith))
    go (seen-row b f c) =
        let t = byte_at s (i + 1) in
        let h = row-admitted p s i t q (ap (admitted p s i) (sym c) ∙ e) in
        let more : q.rows ≡ p.rows + 1 = sym (ap (λ (y : Draft). y.rows) h.is) ∙ row_more p s i t in
        along-row s w p i a q t c h more
        (λ r l. sym (ap (λ (y : Draft). twice_in y r) h.is) ∙ row_same p s i t r l)
        (λ r l. sym (ap (λ (y : Draft). row_place y.design y.cells r) h.is) ∙ row-begins p s i t r l)
        (row_next p a.fitting s i t (width_of (byte_at s i)) h.room b h.needed a.place ∙
        ap₂ (λ (y : Draft) (n : ℕ). row_place y.design y.cells n) h.is (sym more))
    go (seen_end b u f c) = absurd (end_on p s i q (ap (admitted p s i) (sym c) ∙ e))
    go (seen-refused n h k) = absurd (not_on n q (sym (h p) ∙ sym (no-row p s i (command_at s i) k) ∙ e))

-- ---- one turn of the loop: the command c at place i, read into the draft p, with the answer r

-- the cause, if the answer is a refusal
abbrev pub cause_of : Result Progress ℕ → ℕ
cause_of (Err n) = n
cause_of (Ok On) = 0
cause_of (Ok Complete) = 0

-- no refusal
pub no-cause : (o : Result Progress ℕ) → ((n : ℕ) → o ≡ Err n → ⊥) → 0 ≡ cause_of o
no-cause (Ok On) h = refl
no-cause (Ok Complete) h = refl
no-cause (Err n) h = absurd (h n refl)

-- neither complete nor going on
pub is-cause : (o : Result Progress ℕ) → (o ≡ Ok Complete → ⊥) → (o ≡ Ok On → ⊥) → o ≡ Err (cause_of o)
is-cause (Ok On) h g = absurd (g refl)
is-cause (Ok Complete) h g = absurd (h refl)
is-cause (Err n) h g = refl

on-is : (t : Advanced) → outcome_of t ≡ Ok On → (q : Draft) × (t ≡ on q)
on-is (on q) e = (q, refl)
on-is complete e = absurd (let z : ◌≡◌ {A = ℕ} 0 1 = cc in omega arith)
on-is (refused n) e = absurd (let z : ◌≡◌ {A = ℕ} 0 1 = cc in omega arith)

complete-is : (t : Advanced) → outcome_of t ≡ Ok Complete → t ≡ complete
complete-is (on q) e = absurd (let z : ◌≡◌ {A = ℕ} 0 1 = cc in omega arith)
complete-is complete e = refl
complete-is (refused n) e = absurd (let z : ◌≡◌ {A = ℕ} 0 1 = cc in omega arith)

cause-is : (t : Advanced) (n : ℕ) → outcome_of t ≡ Err n → t ≡ refused n
cause-is (on q) n e = absurd (let z : ◌≡◌ {A = ℕ} 0 1 = cc in omega arith)
cause-is complete n e = absurd (let z : ◌≡◌ {A = ℕ} 0 1 = cc in omega arith)
cause-is (refused m) n e = let z : m ≡ n = cc in ap refused z

module _ (s : List ℕ) (w : DesignRead) (p : Draft) (i : ℕ) (a : Along s w p i) (c : Command) (o : Result Progress ℕ) (r : SoFar) (cells : Cells) (tables : List ℕ)
    (at : c ≡ command_at s i) (t : Advances p s i c o r cells tables) where
  told : (x : Result Progress ℕ) → o ≡ x → outcome_of (admitted p s i (command_at s i)) ≡ x
  told x e = ap (λ (k : Command). outcome_of (admitted p s i k)) (sym at) ∙ sym t.outcome ∙ e

  -- it goes on
  pub on-whole : o ≡ Ok On → Whole s i
  on-whole e = let q = on-is (admitted p s i (command_at s i)) (told (Ok On) e) in admitted-whole s i p q.0 q.1

  pub along-on : o ≡ Ok On → (u : ℕ) → u ≡ width_of (byte_at s i) → Along s w (draft r.design r.rows cells tables) (i + u)
  along-on e u f =
      let q = on-is (admitted p s i (command_at s i)) (told (Ok On) e) in
      subst (λ (k : ℕ). Along s w (draft r.design r.rows cells tables) (i + k)) (sym f)
      (subst (λ (x : Draft). Along s w x (i + width_of (byte_at s i))) (t.goes q.0 (ap (admitted p s i) at ∙ q.1)) (along-admitted s w p i a q.0 q.1))

  -- it stops
  stopped-at : (v : Verdict) → read_all s p i ≡ read_as v (draft p.design p.rows cells tables) → Stopped w (record { verdict = v; design = p.design; rows = p.rows }) cells tables
  stopped-at v e =
      record {
        most = a.fitting.most;
        range = in-range p.design (record { table = z.table; constraint = z.constraint; filling = z.filling }) (whole p.design a.fitting.design);
        once = λ none. a.once (λ q l. sym (same q l) ∙ none q l) ∙ e;
        twice = λ q h. a.twice q
            (record { below = h.below; here = sym (same q h.below) ∙ h.here; before = λ j l. sym (same j (omega (arith, h.below))) ∙ h.before j l }) ∙
            ap (refused_at 6) (sym (kept-place p.design p.rows p.cells p.tables cells tables t.kept q (omega (arith, h.below))));
      }
    where
      z : Sizes p
      z = a.fitting.sizes

      same : (q : ℕ) → q < p.rows → again p.design cells tables q ≡ twice_in p q
      same q l = kept_again (scheme_of p.design) p.rows p.cells p.tables cells tables t.kept q l

  -- with the design and the rows that the code has left
  left : (v : Verdict) → r.design ≡ p.design → r.rows ≡ p.rows → Stopped w (record { verdict = v; design = p.design; rows = p.rows }) cells tables
      → Stopped w (record { verdict = v; design = r.design; rows = r.rows }) cells tables
  left v e f h =
      subst (λ (x : Stop). Stopped w x cells tables) (ap₂ (λ (d : Design) (n : ℕ). let z : Stop = record { verdict = v; design = d; rows = n } in z) (sym e) (sym f)) h

  completed : o ≡ Ok Complete → admitted p s i (command_at s i) ≡ complete
  completed e = complete-is (admitted p s i (command_at s i)) (told (Ok Complete) e)

  pub complete-ends : o ≡ Ok Complete → Ends s i
  complete-ends e = advanced-complete s i p (stops p s i (command_at s i) complete on-complete (completed e))

  pub along-complete : o ≡ Ok Complete → Stopped w (record { verdict = Accepted (i + 1); design = r.design; rows = r.rows }) cells tables
  along-complete e =
      let g = t.whole (ap (admitted p s i) at ∙ completed e) in
      left (Accepted (i + 1)) (sym (ap (λ (y : Draft). y.design) g)) (sym (ap (λ (y : Draft). y.rows) g))
      (stopped-at (Accepted (i + 1))
      (all-complete s p i (stops p s i (command_at s i) complete on-complete (completed e)) ∙ ap (λ (m : ℕ). accepted p (i + m)) (complete-ends e).width ∙
      ap₂ (λ (xs : Cells) (ys : List ℕ). accepted (draft p.design p.rows xs ys) (i + 1)) (ap (λ (y : Draft). y.cells) g) (ap (λ (y : Draft). y.tables) g)))

  pub along-refused : (m : ℕ) → o ≡ Err m → Stopped w (record { verdict = Refused m i; design = r.design; rows = r.rows }) cells tables
  along-refused m e =
      let f = cause-is (admitted p s i (command_at s i)) m (told (Err m) e) in
      let g = t.stays m (ap (admitted p s i) at ∙ f) in
      left (Refused m i) g.0 g.1
      (stopped-at (Refused m i) (all-refused s p i m (stops p s i (command_at s i) (refused m) (λ x h. not_on m x (sym h)) f)))
