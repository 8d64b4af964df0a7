-- `cache::probing::probe_lawful` meets its contract: the causes in their order, then the ground. Assumes nothing.
use mathlib.Core.Path.{sym, ◌∙◌}
use Rattle.state.proofs.HeldWords.{words-sized}
use Rattle.state.proofs.Arrays.{sized}
use Rattle.lawful.proofs.Asked.{sound-range, sound-marks, sound-bounded, sound-table, sound-column}
use Rattle.cache.proofs.ProbeSteps.{probe-5, probe-9, probe-sent, probe-ground}
use Rattle.cache.proofs.probing.probe_lawful.Goals as goal

pub returns-then-not-is_column : goal.returns-then-not-is_column
returns-then-not-is_column c = λ cells tables e x. probe-5 _ e _ _ (sym c.is_column.ensures ∙ c.if-not-is_column.true)

pub returns-then-is_numberless : goal.returns-then-is_numberless
returns-then-is_numberless c = λ cells tables e x.
    probe-9 _ e _ _ (sym c.is_column.ensures ∙ c.if-not-is_column.false) (sym c.is_numberless.ensures ∙ c.if-is_numberless.true)

pub search-found-requires : goal.search-found-requires
search-found-requires c = let s = c in
    let e = s.requires.2 in
    let k = sym c.is_column.ensures ∙ c.if-not-is_column.false in record {
      in_range = (
        sound-range _ e (sized s.args.design _ s.well_formed.0),
        sound-marks _ e,
        sound-bounded _ e (words-sized s.args.held.now),
        sound-table _ e _ k,
        sound-column _ e _ k,
      );
      indexed = (_, s.requires.3);
    }

pub returns-then-found-eq0 : goal.returns-then-found-eq0
returns-then-found-eq0 c = λ cells tables e x.
    let u = c.search-found.ensures _ x in
    probe-sent _ e _ _ (sym c.is_column.ensures ∙ c.if-not-is_column.false) (sym c.is_numberless.ensures ∙ c.if-is_numberless.false) _ _ u.0 u.1 c.if-found-eq0.true

pub returns : goal.returns
returns c = λ cells tables e x.
    let u = c.search-found.ensures _ x in
    probe-ground _ e _ _ (sym c.is_column.ensures ∙ c.if-not-is_column.false) (sym c.is_numberless.ensures ∙ c.if-is_numberless.false) _ _ u.0 u.1 c.if-found-eq0.false
