-- `sizes::sizing::referred_words` meets its contract: the reference on a copy, and the words of the copy's lists. Assumes nothing.
use native.Mathlib.Omega.{arith}
use mathlib.Core.Path.{sym, ap, ◌∙◌}
use mathlib.Core.List.{List}
use Prim.Native.Nat.{ℕ}
use lib.ListN.{length}
use lib.Seq.{length-take-le}
use Rattle.model.specs.Query.{words_of}
use Rattle.model.proofs.Demand2.{fits-operands}
use Rattle.state.proofs.Arrays.{sized}
use Rattle.lawful.proofs.Asked.{sound-range, sound-marks}
use Rattle.operate.proofs.QueryLists.{sound-place}
use Rattle.operate.proofs.ReadyLaws.{ready}
use Rattle.operate.proofs.Referred.{copied-sound, marks-long, lists-full}
use Rattle.sizes.proofs.sizing.referred_words.Goals as goal

pub slice_bounds-copy_from_slice-end-2 : goal.slice_bounds-copy_from_slice-end-2
slice_bounds-copy_from_slice-end-2 c = sym (length-take-le 512 c.args.marks.now (sound-marks _ c.requires.held_value.0))

pub copy_from_slice-requires : goal.copy_from_slice-requires
copy_from_slice-requires c = sym (length-take-le 512 c.args.marks.now (sound-marks _ c.requires.held_value.0))

pub refer_lawful-requires : goal.refer_lawful-requires
refer_lawful-requires c = let s = c in record { whole = s.requires.held_value.2; by_index = (_, _, ready _ _ _ _ _ _ _ (copied-sound _ s.requires.held_value.0 _ c.copy_from_slice.ensures.after) s.requires.held_value.1) }

pub listed_words-requires : goal.listed_words-requires
listed_words-requires c = let s = c in
    let f = fits-operands _ _ _ s.requires.referring.fit in (
      sound-range _ s.requires.held_value.0 (sized s.args.design _ s.well_formed.0),
      sound-place _ s.requires.held_value.0 s.args.q f,
      f,
      omega (
        arith,
        marks-long _ s.requires.held_value.0 _ c.copy_from_slice.ensures.after
            (record { number = c.note_types.ensures.numbers; issue = c.note_types.ensures.issues })
            s.args.q s.args.v _ s.requires.referring _ _ _ (c.refer_lawful.ensures.1 _ _ (ready _ _ _ _ _ _ _ (copied-sound _ s.requires.held_value.0 _ c.copy_from_slice.ensures.after) s.requires.held_value.1)),
      ),
      (_, s.requires.held_value.1),
    )

pub returns : goal.returns
returns c = let s = c in
    c.listed_words.ensures _ s.requires.held_value.1 ∙
    ap (λ (ls : List (List ℕ)). length (words_of ls))
    (lists-full _ s.requires.held_value.0 _ c.copy_from_slice.ensures.after
    (record { number = c.note_types.ensures.numbers; issue = c.note_types.ensures.issues })
    s.args.q s.args.v _ s.requires.referring _ _ _ (c.refer_lawful.ensures.1 _ _ (ready _ _ _ _ _ _ _ (copied-sound _ s.requires.held_value.0 _ c.copy_from_slice.ensures.after) s.requires.held_value.1)))
