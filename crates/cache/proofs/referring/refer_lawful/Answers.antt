-- `cache::referring::refer_lawful` meets its contract: the causes in their order, then the load. Assumes nothing.
use native.Mathlib.Omega.{arith}
use mathlib.Core.Path.{sym, ◌∙◌}
use Rattle.state.proofs.Arrays.{sized}
use Rattle.state.proofs.HeldWords.{words-sized, holds-whole}
use Rattle.lawful.proofs.Asked.{sound-range, sound-marks, sound-fillings, sound-tidy}
use Rattle.cache.proofs.Steps.{refer-5, refer-9, refer-no-candidate, refer-already, refer-8, room-place, refer-load}
use Rattle.cache.proofs.referring.refer_lawful.Goals as goal

pub returns-then-design-f : goal.returns-then-design-f
returns-then-design-f c = let s = c in (s.requires.whole, λ k t y. refer-5 _ y.sound-is (words-sized s.args.held.now) _ c.if-design-f.true)

pub returns-then-is_numberless : goal.returns-then-is_numberless
returns-then-is_numberless c = let s = c in (s.requires.whole, λ k t y. refer-9 _ y.sound-is (words-sized s.args.held.now) _ c.if-design-f.false (sym c.is_numberless.ensures ∙ c.if-is_numberless.true))

pub offset_bounds-design-f : goal.offset_bounds-design-f
offset_bounds-design-f c = omega (arith, sound-fillings _ c.requires.by_index.2.sound-is, c.if-design-f.false)

pub bounds-design-f : goal.bounds-design-f
bounds-design-f c = omega (arith, sound-fillings _ c.requires.by_index.2.sound-is, c.if-design-f.false)

pub returns-then-not-is_candidate : goal.returns-then-not-is_candidate
returns-then-not-is_candidate c = let s = c in (s.requires.whole, λ k t y. refer-no-candidate _ y.sound-is (words-sized s.args.held.now) _ c.if-design-f.false (sym c.is_numberless.ensures ∙ c.if-is_numberless.false) (sym c.is_candidate.ensures ∙ c.if-not-is_candidate.true))

pub listed-requires : goal.listed-requires
listed-requires c = (sound-tidy _ c.requires.by_index.2.sound-is).few

pub returns-then-listed : goal.returns-then-listed
returns-then-listed c = let s = c in (s.requires.whole, λ k t y. refer-already _ y.sound-is (words-sized s.args.held.now) _ c.if-design-f.false (sym c.is_numberless.ensures ∙ c.if-is_numberless.false) (sym c.is_candidate.ensures ∙ c.if-not-is_candidate.false) (sym c.listed.ensures ∙ c.if-listed.true))

pub has_room-requires : goal.has_room-requires
has_room-requires c = (sound-tidy _ c.requires.by_index.2.sound-is).few

pub returns-then-not-has_room : goal.returns-then-not-has_room
returns-then-not-has_room c = let s = c in (s.requires.whole, λ k t y. refer-8 _ y.sound-is (words-sized s.args.held.now) _ c.if-design-f.false (sym c.is_numberless.ensures ∙ c.if-is_numberless.false) (sym c.is_candidate.ensures ∙ c.if-not-is_candidate.false) (sym c.listed.ensures ∙ c.if-listed.false) (sym c.has_room.ensures ∙ c.if-not-has_room.true))

pub mark_value-answer-requires : goal.mark_value-answer-requires
mark_value-answer-requires c = let s = c in let range = sound-range _ s.requires.by_index.2.sound-is (sized s.args.design _ s.well_formed.0) in record { in_range = (range, sound-marks _ s.requires.by_index.2.sound-is, range.column-table _, range.column _); catalogued = (_, s.requires.by_index.2.catalogued) }

pub append-requires : goal.append-requires
append-requires c = let s = c in (sound-tidy _ s.requires.by_index.2.sound-is, room-place _ s.requires.by_index.2.sound-is (sym c.has_room.ensures ∙ c.if-not-has_room.false), s.requires.whole)

pub returns : goal.returns
returns c = let s = c in (holds-whole _ _ c.append.ensures, λ k t y. refer-load _ y.sound-is (words-sized s.args.held.now) _ c.if-design-f.false (sym c.is_numberless.ensures ∙ c.if-is_numberless.false) (sym c.is_candidate.ensures ∙ c.if-not-is_candidate.false) (sym c.listed.ensures ∙ c.if-listed.false) (sym c.has_room.ensures ∙ c.if-not-has_room.false) _ _ _ (c.mark_value-answer.ensures _ y.catalogued) c.append.ensures.means)
