-- `operate::querying::refer_and_draw` meets its contract: the reference on a copy, then cause 11 or 13, or the copy for the marks. Assumes nothing.
use native.Mathlib.Omega.{arith}
use Prim.Native.Nat.{ℕ}
use mathlib.Core.Path.{sym, ap, ◌∙◌}
use mathlib.Core.List.{List, ◌++◌}
use lib.ListN.{drop}
use lib.Seq.{length-take-le}
use Rattle.model.proofs.Demand2.{fits-operands}
use Rattle.state.proofs.Arrays.{sized}
use Rattle.state.proofs.HeldWords.{words-sized}
use Rattle.lawful.proofs.Asked.{sound-range, sound-backed, sound-marks}
use Rattle.lawful.proofs.SoundState.{parts}
use Rattle.operate.proofs.QueryLists.{sound-place}
use Rattle.operate.proofs.ReadyLaws.{ready}
use Rattle.operate.proofs.Referred.{copied-sound, marks-long, left_alone, taken-over}
use Rattle.operate.proofs.querying.refer_and_draw.Goals as goal

pub slice_bounds-copy_from_slice-end-2 : goal.slice_bounds-copy_from_slice-end-2
slice_bounds-copy_from_slice-end-2 c = sound-marks _ c.requires.held_value.0

pub slice_bounds-copy_from_slice-end-3 : goal.slice_bounds-copy_from_slice-end-3
slice_bounds-copy_from_slice-end-3 c = sym (length-take-le 512 c.args.marks.now (sound-marks _ c.requires.held_value.0))

pub copy_from_slice-requires : goal.copy_from_slice-requires
copy_from_slice-requires c = sym (length-take-le 512 c.args.marks.now (sound-marks _ c.requires.held_value.0))

pub refer_lawful-requires : goal.refer_lawful-requires
refer_lawful-requires c = let s = c in record { whole = s.requires.held_value.2; by_index = (_, _, ready _ _ _ _ _ _ _ (copied-sound _ s.requires.held_value.0 _ c.copy_from_slice.ensures.after) s.requires.held_value.1) }

pub draw-answer-requires : goal.draw-answer-requires
draw-answer-requires c = let s = c in record {
  in_range = (
    sound-range _ s.requires.held_value.0 (sized s.args.design _ s.well_formed.0),
    sound-place _ s.requires.held_value.0 s.args.q (fits-operands _ _ _ s.requires.referring.fit),
    sound-backed _ s.requires.held_value.0,
    s.requires.held_value.1,
    omega (
      arith,
      marks-long _ s.requires.held_value.0 _ c.copy_from_slice.ensures.after (record { number = c.note_types.ensures.numbers; issue = c.note_types.ensures.issues }) s.args.q s.args.v _ s.requires.referring _ _ _ (c.refer_lawful.ensures.1 _ _ (ready _ _ _ _ _ _ _ (copied-sound _ s.requires.held_value.0 _ c.copy_from_slice.ensures.after) s.requires.held_value.1)),
    ),
  );
  d_value = ((parts _ s.requires.held_value.0).design, s.requires.referring.fit);
}

pub returns-then-is_refusal : goal.returns-then-is_refusal
returns-then-is_refusal c = let s = c in (
  left_alone _ s.requires.held_value.0 _ c.copy_from_slice.ensures.after (record { number = c.note_types.ensures.numbers; issue = c.note_types.ensures.issues }) s.args.q s.args.v _ s.requires.referring _ _ _ (c.refer_lawful.ensures.1 _ _ (ready _ _ _ _ _ _ _ (copied-sound _ s.requires.held_value.0 _ c.copy_from_slice.ensures.after) s.requires.held_value.1)) _ _ _
      c.draw-answer.ensures (words-sized s.args.held.now) (sym c.is_refusal.ensures ∙ c.if-is_refusal.true),
  s.requires.held_value.2,
)

pub slice_bounds-copy_from_slice-end-4 : goal.slice_bounds-copy_from_slice-end-4
slice_bounds-copy_from_slice-end-4 c = sound-marks _ c.requires.held_value.0

pub returns : goal.returns
returns c = let s = c in (
  taken-over _ s.requires.held_value.0 _ c.copy_from_slice.ensures.after (record { number = c.note_types.ensures.numbers; issue = c.note_types.ensures.issues }) s.args.q s.args.v _ s.requires.referring _ _ _ (c.refer_lawful.ensures.1 _ _ (ready _ _ _ _ _ _ _ (copied-sound _ s.requires.held_value.0 _ c.copy_from_slice.ensures.after) s.requires.held_value.1)) _ _ _
      c.draw-answer.ensures (words-sized s.args.held.now) (sym c.is_refusal.ensures ∙ c.if-is_refusal.false) _ (ap (λ (x : List ℕ). x ++ drop 512 c.args.marks.now) c.copy_from_slice-2.ensures.after),
  c.refer_lawful.ensures.0,
)
