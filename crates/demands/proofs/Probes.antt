-- Demand 3 of each probe, in the form of 01: for a column of the design and a value other than blank the probe is not refused, and it is a yes exactly when the value
-- is complete in every lawful database from which the same rows would have been cached. Assumes nothing.
use Prim.Native.Nat.{ℕ, ◌^◌, ◌≤◌, ◌<◌}
use native.Mathlib.Omega.{arith}
use mathlib.Core.Path.{◌≡◌, refl, sym, ap, subst, ◌∙◌}
use mathlib.Core.Bool.{Bool, true, false, ◌&&◌}
use mathlib.Core.List.{List}
use mathlib.Core.Logic.{◌↔◌, ◌⊎◌, inl, inr, ⊎_elim}
use borrow.Author.Tests.{eq-eqb, ltb-false}
use lib.Dec.{ltb}
use lib.ListN.{length, take}
use Rattle.finite.specs.Finite.{count}
use Rattle.finite.proofs.Bools.{dec, clash}
use Rattle.finite.proofs.Counting.{count_same}
use Rattle.model.specs.Cell.{Cell, Fits, numberless}
use Rattle.model.specs.Scheme.{Column, Scheme, ColumnOf}
use Rattle.model.specs.Database.{Database, has}
use Rattle.model.specs.Cache.{RowSet}
use Rattle.model.specs.Probe as Probe
use Rattle.model.specs.Probe.{cached_rows}
use Rattle.model.proofs.DatabaseLaws.{has-Has, Has-has}
use Rattle.model.specs.Holding.{held_in}
use Rattle.model.specs.Runs.{ask, probe, marked}
use Rattle.model.specs.Answers.{Answer, ground, sent, or_answer, ground_of, Yes}
use Rattle.model.specs.Demand.{Unrefused}
use Rattle.state.specs.declared.cell.Cell as State-cell
use Rattle.state.specs.declared.design.Column as State-column
use Rattle.state.specs.declared.operation.Operation.TheVariants as O
use Rattle.state.specs.Meaning.{cell_of, column_of, scheme_of}
use Rattle.state.specs.Lent.{State, sound, answer_at}
use Rattle.lawful.proofs.RowsLaws.{Stored}
use Rattle.command.specs.declared.command.Command.TheVariants.{Operate}
use Rattle.command.specs.Commands.{command_at}
use Rattle.format.specs.Reading.{Draft, cells_after, most_bytes}
use Rattle.format.specs.Reading.DesignRead.{accepted}
use Rattle.format.proofs.Small.{Small}
use Rattle.run.specs.Moments.{Action, Moment, tables_at}
use Rattle.script.specs.Step.{Outputs, Stepped, operated, step_at}
use Rattle.run.specs.Runs.{left_from, rooms_in, moment_with, moment_at}
use Rattle.script.specs.JustRead.{Buffers, reading_of, just_read}
use Rattle.model.proofs.SameRows.{SameRows, same_back, has_same}
use Rattle.run.proofs.Tracking.{Tracks, same, point}
use Rattle.run.proofs.ExactProbes.{answer-is, answer-exact}
use Rattle.script.proofs.JustRead.{into-parts}
use Rattle.run.proofs.WholeRun.{accepted-short, part}
use Rattle.demands.proofs.Runs.{RowsGiven, called}
use Rattle.demands.specs.Actions.{state_after_all}
use Rattle.demands.specs.Queried.{cache_at}
use Rattle.demands.specs.Settled.{Settled}
use Rattle.demands.proofs.Queries.{groundless-if, groundless-says}
use Rattle.demands.proofs.Stepping.{operate-step}
use Rattle.demands.proofs.Operands.{probe-fits}

-- what a probe that has its operands answers is a yes or "sent", and no refusal
ground-either : (g n : ℕ) → Yes (ground_of g n) ⊎ (ground_of g n ≡ sent)
ground-either g n =
    ⊎_elim (λ (q : ltb 0 g ≡ true). inl (g, n, ap (λ (b : Bool). or_answer b (ground g n) sent) q))
    (λ (q : ltb 0 g ≡ false). inr (ap (λ (b : Bool). or_answer b (ground g n) sent) q))
    (dec (ltb 0 g))

ground-unrefused : (x : Answer) → Yes x ⊎ (x ≡ sent) → Unrefused x
ground-unrefused x (inl y) n e = let g = y.0 in let r = y.1 in let f : x ≡ ground g r = y.2 in let z : ◌≡◌ {A = ℕ} 0 1 = cc in omega arith
ground-unrefused x (inr y) n e = let z : ◌≡◌ {A = ℕ} 0 1 = cc in omega arith

-- a value other than blank, as its type has it
value-fits : (v : Cell) → v.number < 2 ^ 32 → v.issue < 2 ^ 8 → numberless v ≡ false → Fits v
unfolding numberless
value-fits v n i full = record { number = n; issue = i; full = λ z. clash (eq-eqb v.number 0 z) full }

-- "sent" is the answer without a ground
ground-sent : (g n : ℕ) → (ground_of g n ≡ sent) ↔ (g ≡ 0)
ground-sent g n = (
  λ e. ⊎_elim (λ (q : ltb 0 g ≡ true). absurd (let y : ground g n ≡ sent = sym (ap (λ (b : Bool). or_answer b (ground g n) sent) q) ∙ e in let z : ◌≡◌ {A = ℕ} 0 1 = cc in omega arith))
      (λ (q : ltb 0 g ≡ false). omega (arith, ltb-false 0 g q))
      (dec (ltb 0 g)),
  λ z. ap (λ (a : ℕ). ground_of a n) z,
)

-- as many cached rows have a value in databases with the same rows
rows_same : {D E : Database} → SameRows D E → (X : RowSet) (k : Column) (v : Cell) → cached_rows D X k v ≡ cached_rows E X k v
unfolding cached_rows
rows_same {D} {E} w X k v =
    ap (λ (n : ℕ). count n (λ r. X r && has D k v r)) w.size ∙
    count_same E.size _ _ (λ r l. ap (λ (b : Bool). X r && b) (alike (has D k v r) (has E k v r) (λ a. Has-has (has_same w (has-Has D k v r a)))
    (λ a. Has-has (has_same (same_back w) (has-Has E k v r a)))))
  where
    alike : (a b : Bool) → (a ≡ true → b ≡ true) → (b ≡ true → a ≡ true) → a ≡ b
    alike true b f g = sym (f refl)
    alike false true f g = g refl
    alike false false f g = refl

-- at a moment of a run
module _ (p : Draft) (b : Buffers) (m : Moment) (e : State) (t : Tracks p b m e) where
  abbrev S : Scheme
  S = scheme_of p.design

  abbrev X : RowSet
  X = marked (take 512 e.marks)

  pub settled : (k : Column) (v : Cell) → ColumnOf (scheme_of p.design) k → Fits v → numberless v ≡ false → (x : Answer) → x ≡ answer_at e (ask (probe k v)) →
      Settled p m e k v x
  settled k v c f n x h =
      let at = point p b m e t in
      let g = Probe.probe S (tables_at m) (held_in S m.held) X k v in
      let rows = Probe.cached_rows (tables_at m) X k v in
      let is : x ≡ ground_of g rows = h ∙ answer-is p b m e t.standing at k v c n ∙ ap (ground_of g) (sym (rows_same (same p b m e t) X k v)) in
      let either : Yes x ⊎ (x ≡ sent) = subst (λ (y : Answer). Yes y ⊎ (y ≡ sent)) (sym is) (ground-either g rows) in
      record {
        unrefused = ground-unrefused x either;
        either = either;
        rule = is;
        backend = (
          λ y. groundless-if S (tables_at m) (cache_at m e) k v ((ground-sent g rows).0 (sym is ∙ y)),
          λ y. is ∙ (ground-sent g rows).1 (groundless-says S (tables_at m) (cache_at m e) k v y),
        );
        exact = answer-exact p b m e t.standing at k v c n f x h;
      }

-- a PROBE that stands at a place of a script that is not over-long, on a sound state
pub probe-step : (e : State) (out : Outputs) (script : List ℕ) (j : ℕ) (k : State-column.Column) (v : State-cell.Cell) → sound e ≡ true → length script ≤ most_bytes →
    command_at script j ≡ Operate (O.Probe k v) → (step_at e out script j).answer ≡ answer_at e (ask (probe (column_of k) (cell_of v)))
unfolding operated
probe-step e out script j k v s l c = ap (λ (r : Stepped). r.answer) (operate-step e out script j (O.Probe k v) s l c)

-- A design just read. A script is bytes, a number is below 2 ^ 32 and an issue below 2 ^ 8, as their types say.
module _ (script : List ℕ) (small : Small script) (b : Buffers) (p : Draft) (i : ℕ) (read : reading_of script b ≡ accepted p i)
    (stored : Stored (cells_after (accepted p i) b.cells)) where
  -- THEOREM. Demand 3: a probe, in a column of the design and for a value other than blank (02, Req 06: "one whose number isn't 0"), says yes exactly when the value is
  -- complete in every lawful database, of any number of rows, from which the same rows would have been cached; 01: "The lowest that applies is the answer, a yes; if none
  -- does, "sent"". Behind any list of calls. The value is a u32 number with a u8 issue, as its type says
  pub calls-settled : (acts : List Action) → RowsGiven acts → (k : Column) (v : Cell) → ColumnOf (scheme_of p.design) k → v.number < 2 ^ 32 → v.issue < 2 ^ 8 →
      numberless v ≡ false →
      Settled p (moment_with p acts) (state_after_all (just_read (accepted p i) b) acts) k v (answer_at (state_after_all (just_read (accepted p i) b) acts) (ask (probe k v)))
  calls-settled acts g k v c small-number small-issue full =
      settled p b (moment_with p acts) _ (called script small b p i read stored acts g) k v c (value-fits v small-number small-issue full) full _ refl

  -- THEOREM: the same of the steps of a script: behind its first n commands, the next step is asked for any place j where a PROBE stands
  pub steps-settled : (n j : ℕ) (out : Outputs) (k : State-column.Column) (v : State-cell.Cell) → command_at script j ≡ Operate (O.Probe k v) →
      ColumnOf (scheme_of p.design) (column_of k) → numberless (cell_of v) ≡ false →
      Settled p (moment_at n script p (rooms_in b) i) (left_from n script (just_read (accepted p i) b) b.outputs i).state (column_of k) (cell_of v)
      (step_at (left_from n script (just_read (accepted p i) b) b.outputs i).state out script j).answer
  steps-settled n j out k v c f full =
      let t = part script small b p i read stored n in
      settled p b (moment_at n script p (rooms_in b) i) _ t (column_of k) (cell_of v) f (probe-fits script small.at j k v c full) full _
      (probe-step _ out script j k v t.sound (accepted-short script p i (into-parts script b p i read).1) c)
