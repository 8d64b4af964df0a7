-- A probe behind a run: its answer on the state that the run has left, and that a yes is exact (demand 3). Assumes nothing.
use Prim.Native.Nat.{ℕ}
use native.Mathlib.Omega.{arith}
use mathlib.Core.Path.{◌≡◌, refl, ap, ◌∙◌}
use mathlib.Core.Bool.{true, false}
use borrow.Author.Tests.{eq-eqb}
use mathlib.Core.List.{List}
use denote.Laws.{Is}
use denote.Struct.Declared.{row}
use mir.Val.{Val}
use Rattle.finite.proofs.Bools.{clash}
use Rattle.model.specs.Cell.{Cell, Fits, numberless}
use Rattle.model.specs.Scheme.{Column}
use Rattle.model.specs.Runs.{ask, probe}
use Rattle.model.specs.Answers.{Answer, refused}
use Rattle.state.specs.declared.cell.Cell as State-cell
use Rattle.state.specs.declared.design.Design.{Design}
use Rattle.state.specs.Meaning.{cell_of, scheme_of}
use Rattle.state.specs.HeldWords.{words_held}
use Rattle.state.specs.Lent.{State, lent, sound, answer_at}
use Rattle.state.specs.contracts.cell.Cell.{the_type}
use Rattle.format.specs.declared.verdict.Verdict.TheVariants.{Accepted, Refused}
use Rattle.format.specs.Reading.{Draft, DesignRead, verdict_of, design_of}
use Rattle.format.specs.Reading.DesignRead.{accepted, refused_at}
use Rattle.format.proofs.Small.{Small}
use Rattle.run.specs.declared.outcome.Run.{Run}
use Rattle.run.specs.Runs.{actions_at, rooms_in, beginning, moment_by, Ran, ProbedAfter}
use Rattle.script.specs.JustRead.{Buffers, reading_of}
use Rattle.run.proofs.Begun.{begins}
use Rattle.run.proofs.Tracking.{stands_from}
use Rattle.run.proofs.ExactProbes.{answer-exact}

-- a cell that a function owns has a u32 and a u8, and fits if it has a number
pub cell-fits : (v : State-cell.Cell) (vs : List Val) → Is (row the_type) v vs → numberless (cell_of v) ≡ false → Fits (cell_of v)
unfolding numberless
cell-fits v vs g n =
    record { number = g.1.1.0.1; issue = g.1.1.1.0.1; full = λ e. absurd (clash (eq-eqb v.number 0 e) n) }

-- the state that a run with an accepted design p leaves
abbrev left_behind : Draft → Buffers → List ℕ → State
left_behind p a h = lent p.design a.cells a.tables a.marks (words_held h)

module _ (script : List ℕ) (b a : Buffers) (h h' : List ℕ) (r : Run) (ran : Ran script b a h h' r) where
  -- the design is refused, and so is the probe
  pub refused-probed : (n place : ℕ) → r.verdict ≡ Refused n place → (k : Column) (v : Cell) → ProbedAfter script b a h h' r k v (refused n)
  refused-probed n place q k v =
      record {
        ran = ran;
        refused = λ m i e. ap refused (let z : n ≡ m = cc (ran.verdict ∙ ap verdict_of e) in z);
        answer = λ p i e. absurd (let z : ◌≡◌ {A = ℕ} 0 1 = cc (ran.verdict ∙ ap verdict_of e) in omega arith);
        exact = λ p i e. absurd (let z : ◌≡◌ {A = ℕ} 0 1 = cc (ran.verdict ∙ ap verdict_of e) in omega arith);
      }

  -- the design is accepted
  module _ (j : ℕ) (q : r.verdict ≡ Accepted j) where
    design-is : (p : Draft) (i : ℕ) → reading_of script b ≡ accepted p i → r.design ≡ p.design
    design-is p i e = ran.design ∙ ap design_of e

    -- what is left is sound
    pub behind-sound : sound (lent r.design a.cells a.tables a.marks (words_held h')) ≡ true
    behind-sound = go (reading_of script b) refl
      where
        go : (R : DesignRead) → reading_of script b ≡ R → sound (lent r.design a.cells a.tables a.marks (words_held h')) ≡ true
        go (accepted p i) e =
            ap (λ (d : Design). sound (lent d a.cells a.tables a.marks (words_held h'))) (design-is p i e) ∙ (ran.accepted p i e).point.sound
        go (refused_at n i) e = absurd (let z : ◌≡◌ {A = ℕ} 0 1 = cc (ran.verdict ∙ ap verdict_of e) in omega arith)

    pub accepted-probed : Small script → (k : Column) (v : Cell) → (numberless v ≡ false → Fits v) → (x : Answer) →
        x ≡ answer_at (lent r.design a.cells a.tables a.marks (words_held h')) (ask (probe k v)) → ProbedAfter script b a h h' r k v x
    accepted-probed small k v f x y =
        record {
          ran = ran;
          refused = λ n i e. absurd (let z : ◌≡◌ {A = ℕ} 0 1 = cc (ran.verdict ∙ ap verdict_of e) in omega arith);
          answer = answered;
          exact = λ p i e c full.
              answer-exact p b (moment_by script p (rooms_in b) i) (left_behind p a h')
              (stands_from (scheme_of p.design) (beginning p) (begins script small b p i e) (actions_at script (rooms_in b) i)) (ran.accepted p i e).point
              k v c full (f full) x (answered p i e);
        }
      where
        answered : (p : Draft) (i : ℕ) → reading_of script b ≡ accepted p i → x ≡ answer_at (left_behind p a h') (ask (probe k v))
        answered p i e = y ∙ ap (λ (d : Design). answer_at (lent d a.cells a.tables a.marks (words_held h')) (ask (probe k v))) (design-is p i e)
