-- What the loops of `state::answer::members` keep.
use mathlib.Core.Path.{◌≡◌}
use Rattle.state.specs.Meaning.{shown_of}
use Rattle.state.proofs.AnswerLaws.{members_below}
use Rattle.state.proofs.answer.members.Given as goal

abbrev pub invariant-loop-e : goal.invariant-loop-e
invariant-loop-e l = l.s ≡ shown_of (record { word = l.word; numbers = members_below l.mask l.e })
