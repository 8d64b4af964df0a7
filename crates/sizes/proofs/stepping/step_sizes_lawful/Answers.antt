-- `script::sizing::step_sizes_lawful` meets its contract: nothing in a script that is too long, nothing but of an operation. Assumes nothing.
use mathlib.Core.Path.{sym, ◌∙◌}
use Rattle.sizes.proofs.StepSizes.{overlong-takes, other-takes, operation-takes}
use Rattle.sizes.proofs.stepping.step_sizes_lawful.Goals as goal

pub returns-then-script-gt-MOST_BYTES : goal.returns-then-script-gt-MOST_BYTES
returns-then-script-gt-MOST_BYTES c = (sym (overlong-takes _ _ _ c.if-script-gt-MOST_BYTES.true), sym (overlong-takes _ _ _ c.if-script-gt-MOST_BYTES.true))

pub returns-in_default : goal.returns-in_default
returns-in_default c = let l = c.if-script-gt-MOST_BYTES.false in
    (sym (other-takes _ _ _ l _ c.command_at-command.ensures c.in_default.not-Operate), sym (other-takes _ _ _ l _ c.command_at-command.ensures c.in_default.not-Operate))

pub returns : goal.returns
returns c = let l = c.if-script-gt-MOST_BYTES.false in
    let k = c.in-Operate.is in
    (c.sizes_lawful.ensures.0 ∙ sym (operation-takes _ _ _ l _ c.command_at-command.ensures _ k), c.sizes_lawful.ensures.1 ∙ sym (operation-takes _ _ _ l _ c.command_at-command.ensures _ k))
