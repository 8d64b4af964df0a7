-- `cache::ranging::refer_range_lawful` meets its contract: the causes in their order, then the load. Assumes nothing.
use mathlib.Core.Path.{sym, ◌∙◌}
use Rattle.state.proofs.Arrays.{sized}
use Rattle.state.proofs.HeldWords.{words-sized, holds-whole}
use Rattle.lawful.proofs.Asked.{sound-range, sound-marks}
use Rattle.cache.proofs.RangeSteps.{desk-named, own-few, range-5, range-no-candidate, range-filling, range-already, range-8, range-load}
use Rattle.cache.proofs.ranging.refer_range_lawful.Goals as goal

pub returns-then-not-is_range : goal.returns-then-not-is_range
returns-then-not-is_range c = let s = c in (s.requires.whole, λ k t y. range-5 _ y.sound-is (words-sized s.args.held.now) _ (sym c.is_range.ensures ∙ c.if-not-is_range.true))

pub returns-then-not-only_candidates : goal.returns-then-not-only_candidates
returns-then-not-only_candidates c = let s = c in (s.requires.whole, λ k t y. range-no-candidate _ y.sound-is (words-sized s.args.held.now) _ (sym c.is_range.ensures ∙ c.if-not-is_range.false) (sym c.only_candidates.ensures ∙ c.if-not-only_candidates.true))

pub own_ranges-own-requires : goal.own_ranges-own-requires
own_ranges-own-requires c = desk-named _ c.requires.by_index.2.sound-is

pub covers-requires : goal.covers-requires
covers-requires c = own-few _ c.requires.by_index.2.sound-is _ c.own_ranges-own.ensures

pub returns-then-covers : goal.returns-then-covers
returns-then-covers c = let s = c in (s.requires.whole, λ k t y. range-already _ y.sound-is (words-sized s.args.held.now) _ (sym c.is_range.ensures ∙ c.if-not-is_range.false) (sym c.only_candidates.ensures ∙ c.if-not-only_candidates.false) _ c.own_ranges-own.ensures (sym c.covers.ensures ∙ c.if-covers.true))

pub joined-more-requires : goal.joined-more-requires
joined-more-requires c = own-few _ c.requires.by_index.2.sound-is _ c.own_ranges-own.ensures

pub returns-then-more-gt-RANGES : goal.returns-then-more-gt-RANGES
returns-then-more-gt-RANGES c = let s = c in (s.requires.whole, λ k t y. range-8 _ y.sound-is (words-sized s.args.held.now) _ (sym c.is_range.ensures ∙ c.if-not-is_range.false) (sym c.only_candidates.ensures ∙ c.if-not-only_candidates.false) _ c.own_ranges-own.ensures (sym c.covers.ensures ∙ c.if-covers.false) _ c.joined-more.ensures c.if-more-gt-RANGES.true)

pub bounds-design-f : goal.bounds-design-f
bounds-design-f c = let s = c in range-filling _ s.requires.by_index.2.sound-is (words-sized s.args.held.now) _ (sym c.is_range.ensures ∙ c.if-not-is_range.false)

pub mark_range-answer-requires : goal.mark_range-answer-requires
mark_range-answer-requires c = let s = c in let range = sound-range _ s.requires.by_index.2.sound-is (sized s.args.design _ s.well_formed.0) in record { in_range = (range, sound-marks _ s.requires.by_index.2.sound-is, range.column-table _, range.column _); catalogued = (_, s.requires.by_index.2.catalogued) }

pub set_own-requires : goal.set_own-requires
set_own-requires c = let s = c in (desk-named _ s.requires.by_index.2.sound-is, c.if-more-gt-RANGES.false, s.requires.whole)

pub returns : goal.returns
returns c = let s = c in (
  holds-whole _ _ c.set_own.ensures,
  λ k t y. range-load _ y.sound-is (words-sized s.args.held.now) _ (sym c.is_range.ensures ∙ c.if-not-is_range.false) (sym c.only_candidates.ensures ∙ c.if-not-only_candidates.false) _ c.own_ranges-own.ensures (sym c.covers.ensures ∙ c.if-covers.false) _ c.joined-more.ensures c.if-more-gt-RANGES.false _ _ _ (c.mark_range-answer.ensures _ y.catalogued) c.set_own.ensures.means,
)
