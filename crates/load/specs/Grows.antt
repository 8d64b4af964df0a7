-- A step of a load, on what it has reached. Assumes nothing.
use Rattle.std.specs.Prelude.{ℕ}
use Rattle.model.specs.Cache.{RowSet}
use Rattle.load.specs.declared.reached.Load.{Load}
use Rattle.load.specs.Queue.{Grown}

abbrev pub Grows : ℕ → RowSet → Load → Load → Type 0
Grows n P a b = Grown n P a.levels a.queue a.end b.levels b.queue b.end
