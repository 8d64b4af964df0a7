-- Demand 3, for every list of operations. Assumes nothing.
use mathlib.Core.Path.{◌≡◌}
use mathlib.Core.List.{List}
use Rattle.model.specs.Scheme.{Scheme}
use Rattle.model.specs.Database.{Database, Lawful}
use Rattle.model.specs.Cache.{Smallest}
use Rattle.model.specs.Holding.{nothing_held, held_in}
use Rattle.model.specs.Runs.{Operation, held_from, marked, Cache, empty_cache}
use Rattle.model.specs.Effects.{cache_from}
use Rattle.model.specs.Demand.{Demand3}
use Rattle.model.proofs.CellLaws.{numbered-full}
use Rattle.model.proofs.Exact.{exact}
use Rattle.model.proofs.RunLaws.{Sound, empty-sound, run_sound, run-held}

-- after any run from any sound cache the cached rows are the smallest set for what the run holds, and every probe is exact
pub demand3-from : {S : Scheme} {D : Database} → Lawful S D → (c : Cache) → Sound S D c → (os : List Operation) →
    Demand3 S D (held_from S D c.held os) (marked (cache_from S D c os).marks)
demand3-from {S} {D} lawful c s os = record { smallest = m; probes = λ k col v f n. exact lawful m col v f (numbered-full v n) }
  where
    m : Smallest S D (held_in S (held_from S D c.held os)) (marked (cache_from S D c os).marks)
    m = rw (run-held c os s) at (run_sound c os s)

-- demand 3: the same after any run from the empty cache
pub demand3 : {S : Scheme} {D : Database} → Lawful S D → (os : List Operation) →
    Demand3 S D (held_from S D nothing_held os) (marked (cache_from S D (empty_cache D) os).marks)
unfolding empty_cache
demand3 {S} {D} lawful os = demand3-from lawful (empty_cache D) (empty-sound S D) os

-- after a run the cache holds what the run holds, in order
pub run_holds : (S : Scheme) (D : Database) (os : List Operation) → (cache_from S D (empty_cache D) os).held ≡ held_from S D nothing_held os
unfolding empty_cache
run_holds S D os = run-held (empty_cache D) os (empty-sound S D)
