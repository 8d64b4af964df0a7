-- `probe::held::is_held_range` meets its contract: a search among the desks. Assumes nothing.
use Rattle.std.proofs.Common.{rules}
use borrow.Author.Tests.{tests}
use mathlib.Core.Path.{refl, sym, ◌∙◌}
use Rattle.std.proofs.lemmas.Iterator.{YieldsList-from_range}
use Rattle.finite.proofs.Ranges.{any_in-range}
use Rattle.model.specs.Ranges.{range_holds}
use Rattle.state.proofs.RangeLists.{ranges-any, some_at}
use Rattle.state.specs.Held.{ranges_at}
use Rattle.state.specs.HeldWords.{words_held}
use Rattle.state.specs.Meaning.{cell_of, column_of, scheme_of}
use Rattle.probe.proofs.held.is_held_range.Goals as goal

pub returns : goal.returns
returns c = let s = c.args in
    any_in-range 4 (λ x. some_at (λ q. range_holds (scheme_of s.d) q (column_of s.k) (cell_of s.v)) (ranges_at (words_held s.held.now) x))
    _ _ _ c.any.ensures.ran (YieldsList-from_range 0 4 4 (cc) refl) (λ x b q k. search (rules, tests)) ∙ sym (ranges-any _ (words_held s.held.now))
