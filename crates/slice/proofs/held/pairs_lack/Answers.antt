-- `slice::held::pairs_lack` meets its contract. Assumes nothing.
use Rattle.std.proofs.Common.{rules}
use native.Mathlib.Omega.{arith}
use mathlib.Core.Path.{sym, ap, ◌∙◌}
use Prim.Native.Nat.{ℕ}
use Rattle.std.proofs.lemmas.Iterator.{YieldsList-from_range}
use Rattle.model.specs.Missing as Model
use Rattle.model.proofs.MissingLoops.{lack-tab}
use Rattle.state.specs.Held.{held_at}
use Rattle.state.specs.HeldWords.{words_held}
use Rattle.state.specs.Meaning.{owned_of, scheme_of, values_of}
use Rattle.slice.specs.Fetches.{fetches_in}
use Rattle.slice.proofs.FoundLaws.{lack_in-yields, lack_in-range}
use Rattle.slice.proofs.held.pairs_lack.Goals as goal

pub returns : goal.returns
unfolding values_of
returns c = λ D x. let s = c in
    let g = Model.pair_lack (scheme_of s.args.d) D (fetches_in s.args.words.now s.args.n) in
    let f = λ (j : ℕ). owned_of (held_at (words_held s.args.held.now) j) in
    lack_in-yields (λ j. g (f j)) _ _ c.find_map.ensures.runs (YieldsList-from_range 0 s.value_count.result s.value_count.result (cc) (omega arith)) (λ i b q k. search (rules, x))
    ∙ lack_in-range _ _ ∙ ap (λ (m : ℕ). Model.lack_below m (λ j. g (f j))) c.value_count.ensures ∙ sym (lack-tab g _ f)
