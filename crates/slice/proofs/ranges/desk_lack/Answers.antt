-- `slice::ranges::desk_lack` meets its contract. Assumes nothing.
use Rattle.std.proofs.Common.{rules}
use native.Mathlib.Omega.{arith}
use mathlib.Core.Path.{sym, ap, ◌∙◌}
use Prim.Native.Nat.{ℕ}
use Rattle.std.proofs.lemmas.Iterator.{YieldsList-from_range}
use Rattle.model.specs.Missing as Model
use Rattle.model.proofs.MissingLoops.{lack-tab}
use Rattle.state.specs.Held.{range_at, ranges_at}
use Rattle.state.specs.HeldWords.{words_held}
use Rattle.state.specs.Meaning.{range_of, scheme_of, list_of}
use Rattle.slice.specs.Fetches.{fetches_in}
use Rattle.slice.proofs.FoundLaws.{lack_in-yields, lack_in-range}
use Rattle.slice.proofs.ranges.desk_lack.Goals as goal

pub returns : goal.returns
unfolding list_of
returns c = λ D x. let s = c in
    let g = Model.range_lack (scheme_of s.args.d) D (fetches_in s.args.words.now s.args.n) in
    let f = λ (j : ℕ). range_of (range_at (ranges_at (words_held s.args.held.now) s.args.e) j) in
    lack_in-yields (λ j. g (f j)) _ _ c.find_map.ensures.runs (YieldsList-from_range 0 s.range_count.result s.range_count.result (cc) (omega arith)) (λ i b q k. search (rules, x))
    ∙ lack_in-range _ _ ∙ ap (λ (m : ℕ). Model.lack_below m (λ j. g (f j))) c.range_count.ensures ∙ sym (lack-tab g _ f)
