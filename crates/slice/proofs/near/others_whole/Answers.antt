-- `slice::near::others_whole` meets its contract. Assumes nothing.
use Rattle.finite.specs.Finite.{first_from}
use Rattle.model.specs.Rounds.{leads}
use mathlib.Core.Path.{ap}
use lib.Dec.{ltb}
use Prim.Native.Nat.{ℕ}
use Rattle.finite.proofs.Bools.{and-go}
use Rattle.slice.proofs.near.others_whole.Goals as goal

pub returns-then-sole : goal.returns-then-sole
returns-then-sole c = λ S D x l.
    let a = c.args in
    and-go a.sole (ltb (first_from 512 (leads D (S.constraint a.i) a.r) 0) 512) c.if-sole.true (ap (λ (n : ℕ). ltb n 512) (c.first_row.ensures S D x l))
