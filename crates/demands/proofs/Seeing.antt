-- Where all constraints and fillings that end at a table end at one column of it, a probe of a value that a cached row has in that column answers ground 1 or 2 (02,
-- Req 13): in every sound state, behind any list of calls on a design just read, and at every point of a script's run. Assumes nothing.
use Prim.Native.Nat.{ℕ, ◌≤◌, ◌<◌}
use mathlib.Core.Path.{◌≡◌, sym, ap, subst, ◌∙◌}
use mathlib.Core.Bool.{true, false}
use mathlib.Core.List.{List}
use mathlib.Core.Logic.{◌⊎◌, inl, inr, ⊎_elim}
use borrow.Author.Tests.{ltb-true, ltb-false, eqb-true, eq-eqb}
use lib.Dec.{ltb}
use Rattle.finite.proofs.Bools.{dec, clash, both}
use Rattle.model.specs.Cell.{Cell, Fits, is_blank, numberless}
use Rattle.model.specs.Scheme.{Column, Scheme, ColumnOf}
use Rattle.model.specs.Database.{Database, Has, Lawful}
use Rattle.model.specs.Probe as Probe
use Rattle.model.specs.Runs.{ask, probe, marked}
use Rattle.model.specs.Answers.{ground_of}
use Rattle.model.specs.Seeing.{OneColumn}
use Rattle.model.proofs.CellLaws.{blank-is, equal-same, equal-full}
use Rattle.model.proofs.SeeingLaws.{seeing-enough}
use Rattle.state.specs.Meaning.{scheme_of, holding_of}
use Rattle.state.specs.Lent.{State, scheme, database, cache, sound}
use Rattle.lawful.proofs.DesignLaws.{column-if}
use Rattle.lawful.proofs.HeldLaws.{holding-fits}
use Rattle.lawful.proofs.RowsLaws.{Stored, lawful-database}
use Rattle.lawful.proofs.SoundState.{parts, sound-smallest, answer-at}
use Rattle.model.proofs.Answering.{probe-full}
use Rattle.format.specs.Reading.{Draft, cells_after}
use Rattle.format.specs.Reading.DesignRead.{accepted}
use Rattle.format.proofs.Small.{Small}
use Rattle.run.specs.Moments.{Action, Moment, tables_at}
use Rattle.script.specs.JustRead.{Buffers, reading_of}
use Rattle.demands.specs.Seeing.{LowGround, SeenAnswered, CallsSeen, PointsSeen}
use Rattle.model.proofs.SameRows.{has_same}
use Rattle.run.proofs.Tracking.{Tracks, same}
use Rattle.run.proofs.WholeRun.{part}
use Rattle.demands.proofs.Runs.{RowsGiven, called}

-- ---- a row that has a value in a column

module _ (S : Scheme) (D : Database) (lawful : Lawful S D) (k : Column) (v : Cell) (r : ℕ) (h : Has D k v r) where
  -- the column is one of the design's
  seen-column : ColumnOf S k
  seen-column =
      record {
        table = subst (λ (t : ℕ). t < S.tables) h.table (lawful.tables r h.live);
        place = inside (dec (ltb k.place (S.columns k.table)));
      }
    where
      inside : (ltb k.place (S.columns k.table) ≡ true) ⊎ (ltb k.place (S.columns k.table) ≡ false) → k.place < S.columns k.table
      inside (inl q) = ltb-true _ _ q
      inside (inr q) =
          clash
          (ap is_blank (lawful.blanks r k.place h.live (subst (λ (t : ℕ). S.columns t ≤ k.place) (sym h.table) (ltb-false _ _ q))) ∙ blank-is)
          (equal-full _ v h.value)

  -- and the value has a number
  seen-full : numberless v ≡ false
  unfolding numberless is_blank
  seen-full =
      let w : D.cell r k.place ≡ v = equal-same _ v h.value in
      let f = subst Fits w (lawful.cells r k.place h.live) in
      ⊎_elim (λ (q : numberless v ≡ true).
      clash (both q (eq-eqb v.issue 0 (f.full (eqb-true v.number 0 q)))) (ap is_blank (sym w) ∙ equal-full _ v h.value))
      (λ (q : numberless v ≡ false). q)
      (dec (numberless v))

-- ---- any sound state

-- THEOREM: in a sound state (numbers are u32 and issues u8) a probe of a value seen in such a column answers ground 1 or 2
pub seen-answers : (e : State) → sound e ≡ true → Stored e.cells → (k : Column) → OneColumn (scheme e) k → SeenAnswered (database e) e k
seen-answers e s u k one = record { ground = low }
  where
    lawful : Lawful (scheme e) (database e)
    lawful = lawful-database e.design e.cells e.tables (parts e s).rows u

    low : (r : ℕ) (v : Cell) → marked (cache e).marks r ≡ true → Has (database e) k v r → LowGround e k v
    low r v x h =
        let S = scheme e in
        let D = database e in
        let X = marked (cache e).marks in
        let n = Probe.cached_rows D X k v in
        let at = answer-at e s (ask (probe k v)) ∙ sym (probe-full S D (cache e) k v (column-if (seen-column S D lawful k v r h)) (seen-full S D lawful k v r h)) in (
          n,
          ⊎_elim (λ g. inl (at ∙ ap (λ (a : ℕ). ground_of a n) g)) (λ g. inr (at ∙ ap (λ (a : ℕ). ground_of a n) g))
              (seeing-enough S D (holding_of e.held) (holding-fits e.design e.held (parts e s).held) X (sound-smallest e s) k one r v x h),
        )

-- ---- runs

-- at a moment of a run
tracked : (p : Draft) (b : Buffers) (m : Moment) (e : State) → Tracks p b m e → (k : Column) → OneColumn (scheme_of p.design) k → SeenAnswered (tables_at m) e k
tracked p b m e t k one =
    record {
      ground = λ r v x h.
          (seen-answers e t.sound t.stored k (subst (λ (S : Scheme). OneColumn S k) (sym (ap scheme_of t.design)) one)).ground r v x
          (has_same (same p b m e t) h);
    }

-- A design just read. A script is bytes, a number is below 2 ^ 32 and an issue below 2 ^ 8, as their types say.
module _ (script : List ℕ) (small : Small script) (b : Buffers) (p : Draft) (i : ℕ) (e : reading_of script b ≡ accepted p i)
    (stored : Stored (cells_after (accepted p i) b.cells)) where
  -- THEOREM: behind any list of calls
  pub calls_seen : (acts : List Action) → RowsGiven acts → CallsSeen p i b acts
  calls_seen acts g = record { seen = tracked p b _ _ (called script small b p i e stored acts g) }

  -- THEOREM: at every point of a script's run
  pub points-seen : PointsSeen script p i b
  points-seen = record { seen = λ n. tracked p b _ _ (part script small b p i e stored n) }
