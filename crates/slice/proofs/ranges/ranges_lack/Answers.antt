-- `slice::ranges::ranges_lack` meets its contract. Assumes nothing.
use Rattle.std.proofs.Common.{rules}
use mathlib.Core.Path.{refl, sym, ◌∙◌}
use Prim.Native.Nat.{ℕ}
use Rattle.std.proofs.lemmas.Iterator.{YieldsList-from_range}
use Rattle.model.specs.Missing as Model
use Rattle.model.proofs.MissingLoops.{lack-tab}
use Rattle.state.specs.Held.{ranges_at}
use Rattle.state.specs.HeldWords.{words_held}
use Rattle.state.specs.Meaning.{scheme_of, list_of, lists_of}
use Rattle.slice.specs.Fetches.{fetches_in}
use Rattle.slice.proofs.FoundLaws.{lack_in-yields, lack_in-range}
use Rattle.slice.proofs.LackLaws.{lack-all}
use Rattle.slice.proofs.ranges.ranges_lack.Goals as goal

pub returns : goal.returns
unfolding lists_of
returns c = λ D x. let s = c in
    let g = Model.lack_in (Model.range_lack (scheme_of s.args.d) D (fetches_in s.args.words.now s.args.n)) in
    let f = λ (j : ℕ). list_of (ranges_at (words_held s.args.held.now) j) in
    lack_in-yields (λ j. g (f j)) _ _ c.find_map.ensures.runs (YieldsList-from_range 0 4 4 (cc) refl) (λ i b q k. search (rules, x))
    ∙ lack_in-range _ _ ∙ sym (lack-all _ _ ∙ lack-tab g _ f)
