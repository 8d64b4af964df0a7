-- `sizes::sizing::listed_words` meets its contract: as many words as positions, of each list. Assumes nothing.
use Prim.Native.Nat.{ℕ, ◌+◌, ◌*◌}
use native.Mathlib.Omega.{arith}
use mathlib.Core.Path.{ap, ◌∙◌}
use Rattle.sizes.proofs.QuerySizes.{words-of, words-fit}
use Rattle.sizes.proofs.sizing.listed_words.Goals as goal

pub overflow_mul-result : goal.overflow_mul-result
overflow_mul-result c = let s = c in
    let e = ap (λ (n : ℕ). c.count_fitting-lists.result * (n + 1)) c.from.ensures in
    omega (arith, e, words-fit s.args.d s.args.q s.requires.2 s.requires.4.0 s.requires.4.1.demands.links.size_is _ _ (c.count_fitting-lists.ensures s.requires.4.0 s.requires.4.1))

pub returns : goal.returns
returns c = λ D x. let s = c in
    ap (λ (n : ℕ). c.count_fitting-lists.result * (n + 1)) c.from.ensures ∙
    words-of s.args.d s.args.q s.requires.2 D x.demands.links.size_is _ _ (c.count_fitting-lists.ensures D x)
