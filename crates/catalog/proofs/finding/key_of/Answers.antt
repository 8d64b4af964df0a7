-- `catalog::finding::key_of` meets its contract. Assumes nothing.
use native.Mathlib.Omega.{arith}
use Rattle.catalog.specs.Catalog.{key_of}
use Rattle.catalog.proofs.finding.key_of.Goals as goal

pub returns : goal.returns
unfolding key_of
returns c = (omega arith, omega arith)
