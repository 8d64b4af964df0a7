-- What a REFER, and the holding of a range, answers on a sound state of an even design: of T tables no more than 2 T − 1 later rounds (02, Req 01 and 10). Assumes
-- nothing.
use Prim.Native.Nat.{ℕ, ◌-◌, ◌*◌, ◌≤◌}
use mathlib.Core.Path.{◌≡◌, sym, ◌∙◌}
use mathlib.Core.Bool.{true, and-eq-true_iff}
use Rattle.model.specs.Even.{Even}
use Rattle.model.specs.Ranges.{Range}
use Rattle.model.specs.Holding.{Pair}
use Rattle.model.specs.Runs.{refer, refer_range}
use Rattle.model.specs.Answers.{loaded}
use Rattle.model.proofs.EvenRefers.{refer-bound, range-bound}
use Rattle.state.specs.Meaning.{scheme_of}
use Rattle.state.specs.Lent.{State, scheme, cache, long_enough, lawful, sound, answer_at}
use Rattle.lawful.proofs.RowsLaws.{Stored}
use Rattle.lawful.proofs.LawfulState.{lawful-says}
use Rattle.lawful.proofs.SoundState.{answer-at}

-- THE BOUND, of `perform`: the cells that are lent are u32s, as their type says
pub perform-bound : (s : State) → sound s ≡ true → Stored s.cells → Even (scheme s) → (p : Pair) (rows rounds : ℕ) →
    answer_at s (refer p) ≡ loaded rows rounds → rounds ≤ 2 * s.design.tables - 1
unfolding scheme_of
perform-bound s e u even p rows rounds h =
    let l = lawful-says s u ((and-eq-true_iff (long_enough s) (lawful s)).0 e).1 in
    refer-bound l.rows.database even (cache s) l.smallest p rows rounds (sym (answer-at s e (refer p)) ∙ h)

-- "The even design's bound on rounds covers ranges"
pub perform-range-bound : (s : State) → sound s ≡ true → Stored s.cells → Even (scheme s) → (r : Range) (rows rounds : ℕ) →
    answer_at s (refer_range r) ≡ loaded rows rounds → rounds ≤ 2 * s.design.tables - 1
unfolding scheme_of
perform-range-bound s e u even r rows rounds h =
    let l = lawful-says s u ((and-eq-true_iff (long_enough s) (lawful s)).0 e).1 in
    range-bound l.rows.database even (cache s) l.smallest r rows rounds (sym (answer-at s e (refer_range r)) ∙ h)
