-- `sizes::sizing::query_words` meets its contract: causes 5 and 9, then the lists, "sent", or the reference. Assumes nothing.
use native.Mathlib.Omega.{arith}
use mathlib.Core.Path.{sym, ap, ◌∙◌}
use lib.ListN.{length}
use Rattle.state.proofs.Arrays.{sized}
use Rattle.state.proofs.HeldWords.{words-sized}
use Rattle.lawful.proofs.Asked.{sound-range, sound-marks, sound-tidy, sound-bounded, sound-fillings}
use Rattle.query.proofs.PlanLaws.{column_fits}
use Rattle.operate.proofs.QueryLists.{sound-place}
use Rattle.operate.proofs.QuerySteps.{filling-byte}
use Rattle.sizes.proofs.QuerySizes.{given-misfit, given-numberless}
use Rattle.sizes.proofs.SizeSteps.{listed-taken, sent-taken, refers-pair, referred-taken}
use Rattle.sizes.proofs.sizing.query_words.Goals as goal
use Rattle.sizes.proofs.sizing.query_words.Goals.{then-not-operands_fit-via-then-not-operands_fit, then-not-operands_fit-via-else-not-operands_fit+then-is_numberless}

pub operands_fit-requires : goal.operands_fit-requires
operands_fit-requires c = let s = c in sound-range _ s.requires.0 (sized s.args.design _ s.well_formed.0)

pub returns-then-not-operands_fit : goal.returns-then-not-operands_fit
returns-then-not-operands_fit c = let s = c in elim c.then-not-operands_fit.branch [
  | then-not-operands_fit-via-then-not-operands_fit w ↦ sym (ap length (given-misfit _ s.requires.0 s.args.q (sym c.operands_fit.ensures ∙ w.if-not-operands_fit.true) _).1)
  | then-not-operands_fit-via-else-not-operands_fit+then-is_numberless w ↦
      sym (ap length (given-numberless _ s.requires.0 s.args.q (sym c.operands_fit.ensures ∙ w.if-not-operands_fit.false) (sym w.is_numberless.ensures ∙ w.if-is_numberless.true) _).1)
]

pub overflow_cast-v : goal.overflow_cast-v
overflow_cast-v c = omega (arith, filling-byte _ c.requires.0 c.args.q _ c.filling_for.ensures)

pub search-found-requires : goal.search-found-requires
search-found-requires c = let s = c in
    let f = (sym c.operands_fit.ensures ∙ c.if-not-operands_fit.false) in
    let r = sound-range _ s.requires.0 (sized s.args.design _ s.well_formed.0) in record {
      in_range = (
        r,
        sound-marks _ s.requires.0,
        sound-bounded _ s.requires.0 (words-sized s.args.held.now),
        column_fits _ s.args.q r f,
        sound-place _ s.requires.0 s.args.q f,
      );
      indexed = (_, s.requires.1.index);
    }

pub listed_words-requires : goal.listed_words-requires
listed_words-requires c = let s = c in
    let f = (sym c.operands_fit.ensures ∙ c.if-not-operands_fit.false) in (
      sound-range _ s.requires.0 (sized s.args.design _ s.well_formed.0),
      sound-place _ s.requires.0 s.args.q f,
      f,
      sound-marks _ s.requires.0,
      (_, s.requires.1),
    )

pub returns-then-g-ne0 : goal.returns-then-g-ne0
returns-then-g-ne0 c = let s = c in
    listed-taken _ s.requires.0 s.args.q (sym c.operands_fit.ensures ∙ c.if-not-operands_fit.false) (sym c.is_numberless.ensures ∙ c.if-is_numberless.false) _ (c.search-found.ensures _ s.requires.1.index).0
    (record { number = c.note_types.ensures.numbers; issue = c.note_types.ensures.issues }) c.if-g-ne0.true _ (c.listed_words.ensures _ s.requires.1)

pub filling_for-requires : goal.filling_for-requires
filling_for-requires c = sound-fillings _ c.requires.0

pub takes-requires : goal.takes-requires
takes-requires c = let s = c in (sound-fillings _ s.requires.0, (sound-tidy _ s.requires.0).few)

pub returns-then-not-takes : goal.returns-then-not-takes
returns-then-not-takes c = let s = c in
    sent-taken _ s.requires.0 s.args.q (sym c.operands_fit.ensures ∙ c.if-not-operands_fit.false) (sym c.is_numberless.ensures ∙ c.if-is_numberless.false) _ (c.search-found.ensures _ s.requires.1.index).0 c.if-g-ne0.false _ c.filling_for.ensures
    (sym c.takes.ensures ∙ c.if-not-takes.true)

pub referred_words-requires : goal.referred_words-requires
referred_words-requires c = let s = c in record {
  held_value = (s.requires.0, s.requires.1, s.requires.2);
  referring = refers-pair _ s.requires.0 s.args.q (sym c.operands_fit.ensures ∙ c.if-not-operands_fit.false) (sym c.is_numberless.ensures ∙ c.if-is_numberless.false) _ (c.search-found.ensures _ s.requires.1.index).0 c.if-g-ne0.false _ c.filling_for.ensures
      (sym c.takes.ensures ∙ c.if-not-takes.false);
}

pub returns : goal.returns
returns c = let s = c in
    referred-taken _ s.requires.0 s.args.q (sym c.operands_fit.ensures ∙ c.if-not-operands_fit.false) (sym c.is_numberless.ensures ∙ c.if-is_numberless.false) _ (c.search-found.ensures _ s.requires.1.index).0 c.if-g-ne0.false _ c.filling_for.ensures
    (sym c.takes.ensures ∙ c.if-not-takes.false) _ c.referred_words.ensures
