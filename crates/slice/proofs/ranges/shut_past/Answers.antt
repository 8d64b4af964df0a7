-- `slice::ranges::shut_past` meets its contract. Assumes nothing.
use mathlib.Core.Path.{sym, ◌∙◌}
use Rattle.slice.proofs.LackLaws.{shut_one, shut-span}
use native.Mathlib.Omega.{arith}
use Rattle.slice.proofs.ranges.shut_past.Goals as goal

pub returns-then-is_open : goal.returns-then-is_open
returns-then-is_open c = (tt, λ D x. sym (c.is_open.ensures D x) ∙ c.if-is_open.true)

pub returns-in_default : goal.returns-in_default
returns-in_default c = (omega arith, λ D x. shut_one _ _ _ _ _ (sym (c.is_open.ensures D x) ∙ c.if-is_open.false))

pub returns-then-x-f : goal.returns-then-x-f
returns-then-x-f c = (omega arith, λ D x. shut_one _ _ _ _ _ (sym (c.is_open.ensures D x) ∙ c.if-is_open.false))

pub returns : goal.returns
returns c = (omega (arith, c.in-Some.ensures.reaches), λ D x. shut-span _ _ _ _ _ _ c.in-Some.ensures c.if-x-f.false)
