-- `operate::inspecting::inspect_lawful` meets its contract: what the operation's own function gives. Assumes nothing.
use mathlib.Core.Path.{refl}
use Rattle.model.specs.Effects.{reply}
use Rattle.state.proofs.Arrays.{sized}
use Rattle.state.proofs.HeldWords.{words-sized}
use Rattle.lawful.proofs.Asked.{sound-range}
use Rattle.operate.proofs.Inspected.{not-inspecting}
use Rattle.operate.proofs.Performed.{ask-performs, ask-writes, even-answers, knot-answers, in-case}
use Rattle.operate.proofs.inspecting.inspect_lawful.Goals as goal

pub evenness-requires : goal.evenness-requires
evenness-requires c = let b = c in sound-range _ b.requires.0 (sized b.args.design _ b.well_formed.1.0)

pub smallest_knot-requires : goal.smallest_knot-requires
smallest_knot-requires c = let b = c in sound-range _ b.requires.0 (sized b.args.design _ b.well_formed.1.0)

pub returns-in-Evenness : goal.returns-in-Evenness
unfolding reply
returns-in-Evenness c = λ w i. let b = c in in-case _ _ _ _ _ _ _ _ _ _ _ c.in-Evenness.is
    (ask-performs _ b.requires.0 _ _ (words-sized b.args.held.now) _ refl _ (even-answers _ b.requires.0 _ c.evenness.ensures))

pub returns-in-SmallestKnot : goal.returns-in-SmallestKnot
unfolding reply
returns-in-SmallestKnot c = λ w i. let b = c in in-case _ _ _ _ _ _ _ _ _ _ _ c.in-SmallestKnot.is
    (ask-performs _ b.requires.0 _ _ (words-sized b.args.held.now) _ refl _ (knot-answers _ b.requires.0 _ c.smallest_knot.ensures))

pub returns-in-Opener : goal.returns-in-Opener
unfolding reply
returns-in-Opener c = λ w i. let b = c in in-case _ _ _ _ _ _ _ _ _ _ _ c.in-Opener.is
    (ask-performs _ b.requires.0 _ _ (words-sized b.args.held.now) _ refl _ c.opener_lawful.ensures)

pub returns-in-Reason : goal.returns-in-Reason
returns-in-Reason c = λ w i. let b = c in in-case _ _ _ _ _ _ _ _ _ _ _ c.in-Reason.is
    (ask-writes _ b.requires.0 _ _ (words-sized b.args.held.now) _ _ _ c.reason_lawful.ensures)

pub returns-in_default : goal.returns-in_default
returns-in_default c = λ w i. absurd (not-inspecting c.args.op c.in_default.not-Evenness c.in_default.not-SmallestKnot c.in_default.not-Opener c.in_default.not-Reason i)
