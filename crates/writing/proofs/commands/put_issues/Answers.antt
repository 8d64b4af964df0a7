-- `writing::commands::put_issues` meets its contract. Assumes nothing.
use Prim.Native.Nat.{◌+◌, ◌*◌}
use native.Mathlib.Omega.{arith}
use mathlib.Core.Path.{◌∙◌}
use lib.ListN.{get_or}
use Rattle.finite.proofs.Tables.{length-tab}
use Rattle.format.specs.Writing.{issues_bytes}
use Rattle.writing.proofs.WritingLaws.{part-stored, issues-copied}
use Rattle.writing.proofs.commands.put_issues.Goals as goal

pub returns : goal.returns
unfolding issues_bytes
returns c = λ numbers.
    part-stored c.args.out.now c.copy_from_slice.new.self _ c.args.at _ (issues-copied c.args.issues.now _ c.args.r c.copy_from_slice.ensures.after (omega arith))
    (length-tab 8 (λ j. get_or c.args.issues.now (8 * c.args.r + j) 0) ∙ omega arith) (omega arith)
