-- `even::weighing::pair_weight` meets its contract: one constraint, or two. Assumes nothing.
use mathlib.Core.Path.{◌∙◌}
use Prim.Native.Nat.{◌+◌}
use Rattle.even.proofs.KnotCode.{pair_one, pair-two}
use Rattle.even.proofs.weighing.pair_weight.Goals as goal

pub returns-then-i-j : goal.returns-then-i-j
returns-then-i-j c = c.weight_of.ensures ∙ pair_one _ _ c.if-i-j.true

pub returns : goal.returns
returns c = (λ x. c.weight_of-2.ensures x + c.weight_of-3.ensures x) ∙ pair-two _ _ c.if-i-j.false
