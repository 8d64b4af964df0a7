-- `probe::held::is_held_value` meets its contract: a search among the held values. Assumes nothing.
use Rattle.std.proofs.Common.{rules}
use borrow.Author.Tests.{tests}
use native.Mathlib.Omega.{arith}
use mathlib.Core.Path.{sym, ◌∙◌}
use Rattle.std.proofs.lemmas.Iterator.{YieldsList-from_range}
use Rattle.finite.proofs.Ranges.{any_in-range}
use Rattle.state.specs.Held.{held_at}
use Rattle.state.specs.HeldWords.{words_held}
use Rattle.state.specs.Meaning.{cell_of, column_of, scheme_of, pair_of, values_of}
use Rattle.probe.proofs.GroundLaws.{pair_holds, held_any}
use Rattle.probe.proofs.held.is_held_value.Goals as goal

pub returns : goal.returns
unfolding values_of
returns c = let s = c.args in let n = (words_held s.held.now).count in
    any_in-range n (λ i. pair_holds (scheme_of s.d) (column_of s.k) (cell_of s.v) (pair_of (held_at (words_held s.held.now) i).pair))
    _ _ _ c.any.ensures.ran (YieldsList-from_range 0 n n (cc) (omega arith)) (λ x b q k. search (rules, tests)) ∙ sym (held_any _ _ _ _ _)
