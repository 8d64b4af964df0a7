-- `cache::ranging::drop_range_lawful` meets its contract: the causes in their order, then the rows as they are where none has a value of the range, or the reload. Assumes nothing.
use mathlib.Core.Path.{sym, ◌∙◌}
use Rattle.state.proofs.Arrays.{sized}
use Rattle.state.proofs.HeldWords.{words-sized, holds-whole}
use Rattle.lawful.proofs.Asked.{sound-range, sound-marks}
use Rattle.cache.proofs.HeldShifts.{left-few}
use Rattle.cache.proofs.RangeSteps.{desk-named, own-few, drop-range-5, drop-range-10, range-left-bounded, range-left-covers, range-drop, range-filling, range-stays, span-empty}
use Rattle.cache.proofs.ranging.drop_range_lawful.Goals as goal

pub returns-then-not-is_range : goal.returns-then-not-is_range
returns-then-not-is_range c = let s = c in (s.requires.whole, λ k t y. drop-range-5 _ y.sound-is (words-sized s.args.held.now) _ (sym c.is_range.ensures ∙ c.if-not-is_range.true))

pub own_ranges-own-requires : goal.own_ranges-own-requires
own_ranges-own-requires c = desk-named _ c.requires.by_index.2.sound-is

pub has_range-requires : goal.has_range-requires
has_range-requires c = own-few _ c.requires.by_index.2.sound-is _ c.own_ranges-own.ensures

pub returns-then-not-has_range : goal.returns-then-not-has_range
returns-then-not-has_range c = let s = c in (s.requires.whole, λ k t y. drop-range-10 _ y.sound-is (words-sized s.args.held.now) _ (sym c.is_range.ensures ∙ c.if-not-is_range.false) _ c.own_ranges-own.ensures (sym c.has_range.ensures ∙ c.if-not-has_range.true))

pub removed-left-requires : goal.removed-left-requires
removed-left-requires c = own-few _ c.requires.by_index.2.sound-is _ c.own_ranges-own.ensures

pub set_own-requires : goal.set_own-requires
set_own-requires c = let s = c in (desk-named _ s.requires.by_index.2.sound-is, left-few _ _ _ (own-few _ s.requires.by_index.2.sound-is _ c.own_ranges-own.ensures) c.removed-left.ensures, s.requires.whole)

pub bounds-design-r : goal.bounds-design-r
bounds-design-r c = let s = c in range-filling _ s.requires.by_index.2.sound-is (words-sized s.args.held.now) _ (sym c.is_range.ensures ∙ c.if-not-is_range.false)

pub find_range-span-requires : goal.find_range-span-requires
find_range-span-requires c = let s = c in let range = sound-range _ s.requires.by_index.2.sound-is (sized s.args.design _ s.well_formed.0) in (range.column-table _, range.column _)

pub returns-then-span-eq0 : goal.returns-then-span-eq0
returns-then-span-eq0 c = let s = c in
    let w = words-sized s.args.held.now in
    let is = sym c.is_range.ensures ∙ c.if-not-is_range.false in
    let has = sym c.has_range.ensures ∙ c.if-not-has_range.false in (
      holds-whole _ _ c.set_own.ensures,
      λ k t y. range-stays _ y.sound-is w _ is _ c.own_ranges-own.ensures has _ c.removed-left.ensures _ c.set_own.ensures.means
          (span-empty (c.find_range-span.ensures _ y.catalogued.index.directory) c.if-span-eq0.true),
    )

pub mark_held-requires : goal.mark_held-requires
mark_held-requires c = let s = c in let is = (sym c.is_range.ensures ∙ c.if-not-is_range.false) in let has = (sym c.has_range.ensures ∙ c.if-not-has_range.false) in record {
  in_range = (
    sound-range _ s.requires.by_index.2.sound-is (sized s.args.design _ s.well_formed.0),
    sound-marks _ s.requires.by_index.2.sound-is,
    range-left-bounded _ s.requires.by_index.2.sound-is (words-sized s.args.held.now) _ is _ c.own_ranges-own.ensures has _ c.removed-left.ensures _ c.set_own.ensures.means,
  );
  catalogued = (_, s.requires.by_index.2.catalogued, range-left-covers _ s.requires.by_index.2.sound-is (words-sized s.args.held.now) _ is _ c.own_ranges-own.ensures has _ c.removed-left.ensures _ c.set_own.ensures.means);
}

pub returns : goal.returns
returns c = let s = c in
    let w = words-sized s.args.held.now in
    let is = sym c.is_range.ensures ∙ c.if-not-is_range.false in
    let has = sym c.has_range.ensures ∙ c.if-not-has_range.false in
    let means = c.set_own.ensures.means in (
      holds-whole _ _ c.set_own.ensures,
      λ k t y. range-drop _ y.sound-is w _ is _ c.own_ranges-own.ensures has _ c.removed-left.ensures _ means _ _
          (c.mark_held.ensures _ y.catalogued (range-left-covers _ y.sound-is w _ is _ c.own_ranges-own.ensures has _ c.removed-left.ensures _ means)),
    )
