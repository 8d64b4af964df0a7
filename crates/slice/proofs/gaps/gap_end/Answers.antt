-- `slice::gaps::gap_end` meets its contract. Assumes nothing.
use Rattle.slice.proofs.LackLaws.{gap-bare, gap-before, gap-begins, gap-part}
use native.Mathlib.Omega.{arith}
use Rattle.slice.proofs.gaps.gap_end.Goals as goal

pub returns-in_default : goal.returns-in_default
returns-in_default c = λ b e. gap-bare _ _ _ _ c.in_default.ensures b

pub returns-then-f-x : goal.returns-then-f-x
returns-then-f-x c = λ b e. absurd (omega (arith, gap-begins _ _ _ _ _ c.in-Some.ensures b e, c.if-f-x.true))

pub returns-then-high-f : goal.returns-then-high-f
returns-then-high-f c = λ b e. gap-before _ _ _ _ _ c.in-Some.ensures b c.if-high-f.true

pub returns : goal.returns
returns c = λ b e. gap-part _ _ _ _ _ c.in-Some.ensures b e c.if-high-f.false
