-- What a REFER, and a load of a range, answers in an even design: of T tables no more than 2 T − 1 later rounds, whatever the rows (02, Req 01; Req 10: "The even
-- design's bound on rounds covers ranges"). Assumes nothing.
use Prim.Native.Nat.{ℕ, ◌-◌, ◌*◌, ◌≤◌}
use native.Mathlib.Omega.{arith}
use mathlib.Core.Path.{◌≡◌, refl, ap, ◌∙◌}
use mathlib.Core.Bool.{Bool, true, false, not}
use borrow.Author.Tests.{eq-eqb, ne_eqb}
use lib.Dec.{eqb, ltb}
use lib.ListN.{get_or}
use Rattle.finite.proofs.Bools.{clash}
use Rattle.model.specs.Cell.{numberless}
use Rattle.model.specs.Scheme.{Scheme, candidate}
use Rattle.model.specs.Database.{Database, Lawful}
use Rattle.model.specs.Rounds.{later_rounds}
use Rattle.model.specs.Even.{Even}
use Rattle.model.specs.Ranges.{Range, is_range, only_candidates}
use Rattle.model.specs.Holding.{Pair, holds, has_room, covers_range, has_range_room}
use Rattle.model.specs.Runs.{refer, refer_range, marked, Cache, refer_levels, range_levels}
use Rattle.model.specs.Answers.{Answer, loaded, held, no_candidate, refused, shown, unless, or_answer}
use Rattle.model.specs.Effects.{effect, answer}
use Rattle.model.proofs.Closed.{constraints-closed}
use Rattle.model.proofs.Loads.{one-wants}
use Rattle.model.proofs.RangesHeld.{range-wants}
use Rattle.model.proofs.EvenRounds.{even-rounds}
use Rattle.model.proofs.RunLaws.{Sound}

-- an answer with another word is no load
other : {A : Type 0} (a : Answer) {x y : ℕ} → eqb (shown a).word 0 ≡ false → a ≡ loaded x y → A
unfolding shown
other a f e = clash (ap (λ (b : Answer). eqb (shown b).word 0) e ∙ eq-eqb 0 0 refl) f

-- a load stands behind the causes, and behind the other answers
behind : (a b c d e : Bool) (x y : ℕ) {rows rounds : ℕ} →
    unless a 5 (unless b 9 (or_answer c no_candidate (or_answer d held (unless e 8 (loaded x y))))) ≡ loaded rows rounds → y ≡ rounds
unfolding shown
behind true b c d e x y q = other (refused 5) (ne_eqb 7 0 (λ z. omega arith)) q
behind false true c d e x y q = other (refused 9) (ne_eqb 7 0 (λ z. omega arith)) q
behind false false true d e x y q = other no_candidate (ne_eqb 2 0 (λ z. omega arith)) q
behind false false false true e x y q = other held (ne_eqb 1 0 (λ z. omega arith)) q
behind false false false false true x y q = other (refused 8) (ne_eqb 7 0 (λ z. omega arith)) q
behind false false false false false x y q = ap (λ (w : Answer). get_or (shown w).numbers 1 0) q

module _ {S : Scheme} {D : Database} (lawful : Lawful S D) (even : Even S) (c : Cache) (sound : Sound S D c) (p : Pair) where
  pub refer-rounds : later_rounds D (refer_levels S D (marked c.marks) p) ≤ 2 * S.tables - 1
  unfolding refer_levels
  refer-rounds =
      even-rounds lawful even (constraints-closed sound.meets.rows sound.meets.constraints) (λ r e. ((one-wants D _ _).wanted r e).has.live)

  -- THE BOUND, of the answer itself
  pub refer-bound : (rows rounds : ℕ) → answer S D c (refer p) ≡ loaded rows rounds → rounds ≤ 2 * S.tables - 1
  unfolding effect
  refer-bound rows rounds e =
      let r : later_rounds D (refer_levels S D (marked c.marks) p) ≡ rounds =
      behind (not (ltb p.filling S.fillings)) (numberless p.value) (not (candidate (S.filling p.filling) p.value)) (holds c.held p)
      (not (has_room c.held)) _ _ e in
      omega (arith, refer-rounds)

module _ {S : Scheme} {D : Database} (lawful : Lawful S D) (even : Even S) (c : Cache) (sound : Sound S D c) (r : Range) where
  pub range-rounds : later_rounds D (range_levels S D (marked c.marks) r) ≤ 2 * S.tables - 1
  unfolding range_levels
  range-rounds =
      even-rounds lawful even (constraints-closed sound.meets.rows sound.meets.constraints) (λ s e. ((range-wants S D r).wanted s e).has.live)

  -- THE BOUND, of a load of a range
  pub range-bound : (rows rounds : ℕ) → answer S D c (refer_range r) ≡ loaded rows rounds → rounds ≤ 2 * S.tables - 1
  unfolding effect
  range-bound rows rounds e =
      let n : later_rounds D (range_levels S D (marked c.marks) r) ≡ rounds =
      behind (not (is_range S r)) false (not (only_candidates S r)) (covers_range c.held r) (not (has_range_room c.held r)) _ _ e in
      omega (arith, range-rounds)
