-- A probe at a point of a run, of a column of the design for a value other than blank: it answers a ground exactly if the value is complete in every lawful database from
-- which the same rows would have been cached (demand 3). Assumes nothing.
use Prim.Native.Nat.{ℕ}
use native.Mathlib.Nat.{pos_of_ne-zero}
use native.Mathlib.Omega.{arith}
use mathlib.Core.Path.{◌≡◌, sym, ap, subst, ◌∙◌}
use mathlib.Core.Bool.{Bool, false}
use mathlib.Core.Logic.{◌↔◌, ◌≢◌}
use borrow.Author.Tests.{lt-ltb}
use lib.ListN.{take}
use Rattle.model.specs.Cell.{Cell, Fits, numberless}
use Rattle.model.specs.Scheme.{Column, Scheme, ColumnOf}
use Rattle.model.specs.Database.{Database}
use Rattle.model.specs.Cache.{RowSet, Held}
use Rattle.model.specs.Probe as Probe
use Rattle.model.specs.Holding.{Holding, held_in}
use Rattle.model.specs.Runs.{ask, probe, marked}
use Rattle.model.specs.Answers.{Answer, ground, sent, or_answer, ground_of, Yes}
use Rattle.model.specs.Effects.{answer}
use Rattle.model.proofs.QueryLaws.{probe-reads}
use Rattle.state.specs.declared.design.Design.{Design}
use Rattle.state.specs.Meaning.{scheme_of, holding_of}
use Rattle.state.specs.Lent.{State, database, cache, answer_at}
use Rattle.state.specs.Changes.{Rows, rows_in, tables_of}
use Rattle.lawful.proofs.DesignLaws.{column-if}
use Rattle.lawful.proofs.HeldLaws.{holding-back}
use Rattle.lawful.proofs.SoundState.{answer-at}
use Rattle.model.proofs.Answering.{probe-full}
use Rattle.format.specs.Reading.{Draft}
use Rattle.run.specs.Moments.{Moment, tables_at}
use Rattle.script.specs.JustRead.{Buffers}
use Rattle.run.specs.Runs.{Point, CompleteInAll}
use Rattle.model.proofs.SameRows.{SameRows, same-on}
use Rattle.script.proofs.LongerRows.{longer-same}
use Rattle.run.proofs.Tracking.{Standing, beyond}

-- a probe's answer is a yes exactly if it has a ground
ground-says : (n m : ℕ) → Yes (ground_of n m) ↔ (n ≢ 0)
ground-says n m = (
  λ y z. let e : sent ≡ ground y.0 y.1 = ap (λ (x : ℕ). ground_of x m) (sym z) ∙ y.2 in let f : ◌≡◌ {A = ℕ} 0 1 = cc in omega arith,
  λ h. (n, m, ap (λ (b : Bool). or_answer b (ground n m) sent) (lt-ltb 0 n (pos_of_ne-zero h))),
)

module _ (p : Draft) (b : Buffers) (m : Moment) (e : State) (standing : Standing (scheme_of p.design) m) (at : Point p b m e) where
  abbrev S : Scheme
  S = scheme_of p.design

  abbrev D : Database
  D = database e

  abbrev H : Held
  H = held_in S m.held

  abbrev X : RowSet
  X = marked (take 512 e.marks)

  -- the state has the moment's rows
  same : SameRows (tables_at m) D
  same =
      subst (λ (R : Rows). SameRows (tables_at m) (tables_of R)) (λ i. rows_in (sym at.cells i) (sym at.tables i))
      (longer-same m.rows (beyond b) standing.sized)

  holding-is : holding_of e.held ≡ m.held
  holding-is = ap holding_of at.held ∙ holding-back m.held standing.fits

  module _ (k : Column) (v : Cell) where
    -- the state's answer is the model's, with the design's scheme
    answered : answer_at e (ask (probe k v)) ≡ answer S D (cache e) (ask (probe k v))
    answered = answer-at e at.sound (ask (probe k v)) ∙ ap (λ (d : Design). answer (scheme_of d) D (cache e) (ask (probe k v))) at.design

    -- the ground over the moment's tables
    ground-is : Probe.probe S D H X k v ≡ Probe.probe S (tables_at m) H X k v
    ground-is = sym (probe-reads S H (same-on S same X at.demand3.smallest.meets.rows) k v)

    -- a probe of a column of the design for a value other than blank
    module _ (c : ColumnOf S k) (full : numberless v ≡ false) where
      pub answer-is : answer_at e (ask (probe k v)) ≡ ground_of (Probe.probe S (tables_at m) H X k v) (Probe.cached_rows D X k v)
      answer-is =
          answered ∙ sym (probe-full S D (cache e) k v (column-if c) full) ∙
          ap (λ (h : Holding). ground_of (Probe.probe S D (held_in S h) X k v) (Probe.cached_rows D X k v)) holding-is ∙
          ap (λ (g : ℕ). ground_of g (Probe.cached_rows D X k v)) ground-is

      pub answer-exact : Fits v → (x : Answer) → x ≡ answer_at e (ask (probe k v)) → Yes x ↔ CompleteInAll p m X k v
      answer-exact f x h =
          let here = at.demand3.probes k c v f full in (
            λ y. here.0 ((ground-says _ _).0 (y.0, y.1, sym (h ∙ answer-is) ∙ y.2)),
            λ all. let y = (ground-says _ _).1 (here.1 all) in (y.0, y.1, h ∙ answer-is ∙ y.2),
          )
