-- `state::rows::is_live` meets its contract. Assumes nothing.
use native.Mathlib.Omega.{arith}
use mathlib.Core.Path.{sym}
use Rattle.state.proofs.RowLaws.{live_at}
use Rattle.state.proofs.rows.is_live.Goals as goal

pub returns : goal.returns
returns c = λ cells. sym (live_at cells _ _ (omega arith))
