-- `format::repeating::unique_next` meets its contract. Assumes nothing.
use Prim.Native.Nat.{◌/◌, ◌%◌}
use native.Mathlib.Omega.{arith}
use Rattle.finite.proofs.Tables.{tab-at}
use Rattle.catalog.specs.Catalog.{next_of}
use mathlib.Core.Path.{sym, ◌∙◌}
use Rattle.format.proofs.RepeatLaws.{next-free, next-unique}
use Rattle.format.proofs.repeating.unique_next.Goals as goal

pub returns-then-not-is_unique : goal.returns-then-not-is_unique
returns-then-not-is_unique c = λ D y. next-free _ _ _ _ (sym c.is_unique.ensures ∙ c.if-not-is_unique.true)

pub next_row-requires : goal.next_row-requires
next_row-requires c = (omega arith, omega arith)

pub returns : goal.returns
returns c = λ D y.
    c.next_row.ensures D y ∙ sym (tab-at 0 4096 (λ z. next_of D (z / 8) (z % 8)) _ (omega arith)) ∙
    next-unique _ _ _ _ (sym c.is_unique.ensures ∙ c.if-not-is_unique.false)
