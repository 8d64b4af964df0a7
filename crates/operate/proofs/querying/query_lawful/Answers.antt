-- `operate::querying::query_lawful` meets its contract: the causes in their order, then the answer, "sent", or the reference. Assumes nothing.
use native.Mathlib.Omega.{arith}
use mathlib.Core.Path.{sym, ◌∙◌}
use mathlib.Core.List.{[]}
use Rattle.model.proofs.Demand2.{fits-operands}
use Rattle.state.proofs.Arrays.{sized}
use Rattle.state.proofs.HeldWords.{words-sized}
use Rattle.lawful.proofs.Asked.{sound-range, sound-backed, sound-marks, sound-tidy, sound-bounded, sound-fillings}
use Rattle.lawful.proofs.SoundState.{parts}
use Rattle.query.proofs.PlanLaws.{column_fits}
use Rattle.operate.proofs.QueryLists.{sound-place}
use Rattle.operate.proofs.QueryCases.{query-misfit, query-numberless}
use Rattle.operate.proofs.QuerySteps.{filling-byte, step-drawn, step-sent, step-refers}
use Rattle.operate.proofs.querying.query_lawful.Goals as goal

pub output_fits-requires : goal.output_fits-requires
output_fits-requires c = let s = c in sound-range _ s.requires.0 (sized s.args.design _ s.well_formed.0)

pub returns-then-not-output_fits : goal.returns-then-not-output_fits
returns-then-not-output_fits c = let s = c in
    (query-misfit _ s.requires.0 (words-sized s.args.held.now) _ _ _ (sym (c.output_fits.ensures _) ∙ c.if-not-output_fits.true), s.requires.2)

pub returns-then-is_numberless : goal.returns-then-is_numberless
returns-then-is_numberless c = let s = c in
    (query-numberless _ s.requires.0 (words-sized s.args.held.now) _ _ _ (sym (c.output_fits.ensures _) ∙ c.if-not-output_fits.false) (sym c.is_numberless.ensures ∙ c.if-is_numberless.true), s.requires.2)

pub search-found-requires : goal.search-found-requires
search-found-requires c = let s = c in
    let f = fits-operands _ _ _ (sym (c.output_fits.ensures 0) ∙ c.if-not-output_fits.false) in
    let r = sound-range _ s.requires.0 (sized s.args.design _ s.well_formed.0) in record {
      in_range = (
        r,
        sound-marks _ s.requires.0,
        sound-bounded _ s.requires.0 (words-sized s.args.held.now),
        column_fits _ s.args.q r f,
        sound-place _ s.requires.0 s.args.q f,
      );
      indexed = (_, s.requires.1.index);
    }

pub draw-requires : goal.draw-requires
draw-requires c = let s = c in
    let f = sym (c.output_fits.ensures _) ∙ c.if-not-output_fits.false in record {
      in_range = (
        sound-range _ s.requires.0 (sized s.args.design _ s.well_formed.0),
        sound-place _ s.requires.0 s.args.q (fits-operands _ _ _ (sym (c.output_fits.ensures 0) ∙ c.if-not-output_fits.false)),
        sound-backed _ s.requires.0,
        s.requires.1,
        sound-marks _ s.requires.0,
      );
      d_value = ((parts _ s.requires.0).design, f);
    }

pub returns-then-g-ne0 : goal.returns-then-g-ne0
returns-then-g-ne0 c = let s = c in (
  step-drawn _ s.requires.0 _ s.args.q _ (sym (c.output_fits.ensures _) ∙ c.if-not-output_fits.false) (sym c.is_numberless.ensures ∙ c.if-is_numberless.false) _
      (c.search-found.ensures _ s.requires.1.index).0 (words-sized s.args.held.now) (record { number = c.note_types.ensures.numbers; issue = c.note_types.ensures.issues }) c.if-g-ne0.true _ _ c.draw.ensures,
  s.requires.2,
)

pub filling_for-requires : goal.filling_for-requires
filling_for-requires c = sound-fillings _ c.requires.0

pub overflow_cast-v : goal.overflow_cast-v
overflow_cast-v c = omega (arith, filling-byte _ c.requires.0 c.args.q _ c.filling_for.ensures)

pub takes-requires : goal.takes-requires
takes-requires c = (sound-fillings _ c.requires.0, (sound-tidy _ c.requires.0).few)

pub returns-then-not-takes : goal.returns-then-not-takes
returns-then-not-takes c = let s = c in (
  step-sent _ s.requires.0 _ s.args.q _ (sym (c.output_fits.ensures _) ∙ c.if-not-output_fits.false) (sym c.is_numberless.ensures ∙ c.if-is_numberless.false) _ (c.search-found.ensures _ s.requires.1.index).0
      c.if-g-ne0.false _ c.filling_for.ensures (words-sized s.args.held.now) (sym c.takes.ensures ∙ c.if-not-takes.true),
  s.requires.2,
)

pub refer_and_draw-requires : goal.refer_and_draw-requires
refer_and_draw-requires c = let s = c in record {
  held_value = (s.requires.0, s.requires.1, s.requires.2);
  referring = step-refers _ s.requires.0 [] s.args.q _ (sym (c.output_fits.ensures _) ∙ c.if-not-output_fits.false) (sym c.is_numberless.ensures ∙ c.if-is_numberless.false) _ (c.search-found.ensures _ s.requires.1.index).0
      c.if-g-ne0.false _ c.filling_for.ensures (sym c.takes.ensures ∙ c.if-not-takes.false);
}
