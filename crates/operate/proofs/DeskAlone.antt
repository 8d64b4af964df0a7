-- What a desk's REFER, and its load of a range, is answered on a sound state comes from the design and the desk's own pairs and ranges, but for rows and rounds
-- (02, Req 07 and 10). Assumes nothing.
use Prim.Native.Nat.{ℕ}
use mathlib.Core.Path.{◌≡◌, ap, subst}
use mathlib.Core.Bool.{true}
use mathlib.Core.Logic.{◌↔◌}
use Rattle.model.specs.Scheme.{Scheme}
use Rattle.model.specs.Ranges.{Range}
use Rattle.model.specs.Holding.{Pair}
use Rattle.model.specs.Runs.{refer, refer_range}
use Rattle.model.specs.Answers.{refused}
use Rattle.model.specs.Effects.{answer}
use Rattle.model.specs.Desks.{SameDesk, SameButRows}
use Rattle.model.proofs.DeskAlone.{desk-alone, desk-alone-range, refused-alike}
use Rattle.state.specs.Meaning.{scheme_of, holding_of}
use Rattle.state.specs.Lent.{State, scheme, database, cache, sound, answer_at}
use Rattle.lawful.proofs.SoundState.{answer-at}

module _ (s t : State) (e : sound s ≡ true) (f : sound t ≡ true) (design : s.design ≡ t.design)
    (d : SameDesk (holding_of s.held) (holding_of t.held)) where
  -- THEOREM, of `perform`: two sound states of one design with one desk named and the same pairs and ranges of its own, whatever the others hold
  pub perform-alone : (p : Pair) → SameButRows (answer_at s (refer p)) (answer_at t (refer p))
  perform-alone p =
      rw (answer-at s e (refer p), answer-at t f (refer p))
      (subst (λ (S : Scheme). SameButRows (answer (scheme s) (database s) (cache s) (refer p)) (answer S (database t) (cache t) (refer p)))
      (ap scheme_of design) (desk-alone (scheme s) (database s) (database t) (cache s) (cache t) d p))

  -- "what other desks hold never decides whether a desk's REFER is refused"
  pub perform-refused : (p : Pair) (n : ℕ) → (answer_at s (refer p) ≡ refused n) ↔ (answer_at t (refer p) ≡ refused n)
  perform-refused p = refused-alike (perform-alone p)

  -- the same of a range
  pub perform-range-alone : (r : Range) → SameButRows (answer_at s (refer_range r)) (answer_at t (refer_range r))
  perform-range-alone r =
      rw (answer-at s e (refer_range r), answer-at t f (refer_range r))
      (subst (λ (S : Scheme). SameButRows (answer (scheme s) (database s) (cache s) (refer_range r)) (answer S (database t) (cache t) (refer_range r)))
      (ap scheme_of design) (desk-alone-range (scheme s) (database s) (database t) (cache s) (cache t) d r))

  pub perform-range-refused : (r : Range) (n : ℕ) → (answer_at s (refer_range r) ≡ refused n) ↔ (answer_at t (refer_range r) ≡ refused n)
  perform-range-refused r = refused-alike (perform-range-alone r)
