-- Which operations inspect the design and the rows, and change nothing but text. Assumes nothing.
use Rattle.std.specs.Prelude.{Bool, true, false}
use Rattle.state.specs.declared.operation.Operation.{Operation}
use Rattle.state.specs.declared.operation.Operation.TheVariants as O

abbrev pub inspects : Operation → Bool
inspects (O.Refer v) = false
inspects (O.Drop v) = false
inspects (O.Probe k v) = false
inspects (O.Query q) = false
inspects O.Evenness = true
inspects (O.Total t) = false
inspects O.SmallestKnot = true
inspects (O.Name d) = false
inspects (O.Opener k v) = true
inspects (O.Reason r) = true
inspects (O.ReferRange r) = false
inspects (O.DropRange r) = false
