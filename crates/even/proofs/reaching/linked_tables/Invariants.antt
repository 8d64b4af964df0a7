-- What the loops of `even::reaching::linked_tables` keep.
use Rattle.even.specs.Reading.{Laid, linked_by}
use Rattle.model.specs.Even.{square}
use Rattle.model.specs.Scheme.{Scheme}
use mathlib.Core.Path.{◌≡◌}
use Prim.Native.Nat.{◌≤◌}
use mathlib.Core.Path.{◌≡◌}
use Prim.Native.Nat.{◌≤◌}
use Rattle.even.proofs.reaching.linked_tables.Given as goal

abbrev pub invariant-loop-i : goal.invariant-loop-i
invariant-loop-i l = (l.i ≤ l.n) × ((S : Scheme) → Laid S l.n l.constraint → l.m ≡ square (linked_by S l.i))
