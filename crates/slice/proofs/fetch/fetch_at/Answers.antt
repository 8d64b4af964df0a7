-- `slice::fetch::fetch_at` meets its contract. Assumes nothing.
use mathlib.Core.Path.{refl}
use Rattle.slice.specs.Fetches.{fetch_at}
use Rattle.slice.proofs.fetch.fetch_at.Goals as goal

pub returns : goal.returns
unfolding fetch_at
returns c = refl
