-- `opener::turning::turned` meets its contract: each constraint is turned round. Assumes nothing.
use Rattle.std.proofs.Common.{rules}
use Rattle.finite.proofs.Tables.{tab-of}
use Rattle.state.specs.Design.{no_constraint}
use Rattle.opener.proofs.TurningLaws.{turned-made}
use Rattle.opener.proofs.turning.turned.Goals as goal

pub returns : goal.returns
returns c = let m = c.map.ensures.items in
    turned-made _ _ (tab-of no_constraint 16 _ _ m.long (λ i l. let w = m.at i no_constraint no_constraint l in search (rules, w.2)))
