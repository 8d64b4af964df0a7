-- `catalog::storing::store` meets its contract. Assumes nothing.
use native.Mathlib.Omega.{arith}
use lib.ListN.{length}
use mathlib.Core.Path.{ap, ◌∙◌}
use lib.Seq.{sets, length-sets}
use Rattle.catalog.proofs.PartLaws.{put-sets}
use Rattle.catalog.proofs.storing.store.Goals as goal

pub returns : goal.returns
returns c = let s = c in
    let n = ap length s.copy_from_slice.ensures.after in
    let e = put-sets s.args.at _ s.args.catalog.now _ (omega (arith, n, s.requires.0, s.requires.1)) (omega (arith, n)) ∙ ap (sets s.args.catalog.now s.args.at) s.copy_from_slice.ensures.after in
    record { is = e; long = ap length e ∙ length-sets s.args.catalog.now s.args.at s.args.xs.now }
