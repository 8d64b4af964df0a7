-- `cache::dropping::drop_lawful` meets its contract: the causes in their order, then the rows as they are where none has the value, or the reload. Assumes nothing.
use native.Mathlib.Omega.{arith}
use mathlib.Core.Path.{sym, ap, ◌∙◌}
use Rattle.std.specs.Option.{is_some}
use Rattle.state.specs.HeldWords.{words_held}
use Rattle.state.proofs.Arrays.{sized}
use Rattle.state.proofs.HeldWords.{words-sized, holds-whole}
use Rattle.lawful.proofs.Asked.{sound-range, sound-marks, sound-fillings, sound-tidy}
use Rattle.cache.proofs.HeldRecord.{held-there, listed-some, without_is}
use Rattle.cache.proofs.Steps.{drop-5, drop-9, drop-10, left-bounded, left-covers, drop-load, drop-stays}
use Rattle.cache.proofs.dropping.drop_lawful.Goals as goal

pub returns-then-design-f : goal.returns-then-design-f
returns-then-design-f c = let s = c in (s.requires.whole, λ k t y. drop-5 _ y.sound-is (words-sized s.args.held.now) _ c.if-design-f.true)

pub returns-then-is_numberless : goal.returns-then-is_numberless
returns-then-is_numberless c = let s = c in (s.requires.whole, λ k t y. drop-9 _ y.sound-is (words-sized s.args.held.now) _ c.if-design-f.false (sym c.is_numberless.ensures ∙ c.if-is_numberless.true))

pub place-requires : goal.place-requires
place-requires c = (sound-tidy _ c.requires.by_index.2.sound-is).few

pub returns-in_default : goal.returns-in_default
returns-in_default c = let s = c in (s.requires.whole, λ k t y. drop-10 _ y.sound-is (words-sized s.args.held.now) _ c.if-design-f.false (sym c.is_numberless.ensures ∙ c.if-is_numberless.false) (sym (listed-some (words_held s.args.held.now) _ _ c.place.ensures) ∙ ap is_some c.in_default.is))

pub close_gap-requires : goal.close_gap-requires
close_gap-requires c = let s = c in let t = (sound-tidy _ s.requires.by_index.2.sound-is).few in let l = c.in-Some.ensures.1 in (omega (arith, l), t, omega (arith, t, l), s.requires.whole)

pub bounds-design-f : goal.bounds-design-f
bounds-design-f c = omega (arith, sound-fillings _ c.requires.by_index.2.sound-is, c.if-design-f.false)

pub find-first-requires : goal.find-first-requires
find-first-requires c = let s = c in let range = sound-range _ s.requires.by_index.2.sound-is (sized s.args.design _ s.well_formed.0) in (range.column-table _, range.column _)

pub returns-then-first-ge-ROWS : goal.returns-then-first-ge-ROWS
returns-then-first-ge-ROWS c = let s = c in
    let w = words-sized s.args.held.now in
    let full = sym c.is_numberless.ensures ∙ c.if-is_numberless.false in
    let l = c.in-Some.ensures.1 in
    let is = held-there (words_held s.args.held.now) _ _ c.in-Some.ensures.0 l in (
      holds-whole _ _ c.close_gap.ensures,
      λ k t y.
          let fewer = c.close_gap.ensures.means ∙ without_is _ (sound-tidy _ y.sound-is) w _ _ c.in-Some.ensures.0 l in
          drop-stays _ y.sound-is w _ c.if-design-f.false full is _ fewer _ (c.find-first.ensures _ y.catalogued.index.directory) c.if-first-ge-ROWS.true,
    )

pub mark_held-requires : goal.mark_held-requires
mark_held-requires c = let s = c in let full = (sym c.is_numberless.ensures ∙ c.if-is_numberless.false) in let l = c.in-Some.ensures.1 in
    let is = held-there (words_held s.args.held.now) _ _ c.in-Some.ensures.0 l in
    let fewer = c.close_gap.ensures.means ∙ without_is _ (sound-tidy _ s.requires.by_index.2.sound-is) (words-sized s.args.held.now) _ _ c.in-Some.ensures.0 l in record {
      in_range = (
        sound-range _ s.requires.by_index.2.sound-is (sized s.args.design _ s.well_formed.0),
        sound-marks _ s.requires.by_index.2.sound-is,
        left-bounded _ s.requires.by_index.2.sound-is (words-sized s.args.held.now) _ c.if-design-f.false full is _ fewer,
      );
      catalogued = (_, s.requires.by_index.2.catalogued, left-covers _ s.requires.by_index.2.sound-is (words-sized s.args.held.now) _ c.if-design-f.false full is _ fewer);
    }

pub returns : goal.returns
returns c = let s = c in
    let w = words-sized s.args.held.now in
    let full = sym c.is_numberless.ensures ∙ c.if-is_numberless.false in
    let l = c.in-Some.ensures.1 in
    let is = held-there (words_held s.args.held.now) _ _ c.in-Some.ensures.0 l in (
      holds-whole _ _ c.close_gap.ensures,
      λ k t y.
          let fewer = c.close_gap.ensures.means ∙ without_is _ (sound-tidy _ y.sound-is) w _ _ c.in-Some.ensures.0 l in
          drop-load _ y.sound-is w _ c.if-design-f.false full is _ fewer _ _
          (c.mark_held.ensures _ y.catalogued (left-covers _ y.sound-is w _ c.if-design-f.false full is _ fewer)),
    )
