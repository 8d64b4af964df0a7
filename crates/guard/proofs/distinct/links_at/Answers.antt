-- `guard::distinct::links_at` meets its contract: the column is unique, and the link is a row. Assumes nothing.
use Prim.Native.Nat.{ℕ}
use mathlib.Core.Path.{◌∙◌, ap, sym}
use lib.Dec.{ltb}
use Rattle.catalog.specs.Catalog.{next_of}
use Rattle.finite.proofs.Bools.{and-go}
use Rattle.guard.proofs.distinct.links_at.Goals as goal

pub returns-then-has_bit : goal.returns-then-has_bit
returns-then-has_bit c = λ D x.
    and-go _ _ (sym c.has_bit.ensures ∙ c.if-has_bit.true) (ap (λ (n : ℕ). ltb n 512) (c.next_row.ensures D x ∙ ap (next_of D c.args.r) c.from.ensures))
