-- `script::steps::carry_out` meets its contract, command by command. Assumes nothing.
use mathlib.Core.Path.{sym, ◌∙◌}
use Rattle.script.specs.Step.{carried}
use Rattle.script.proofs.Places.{put_whole}
use Rattle.script.proofs.StepCode.{operated-does, refusing-does, placed, in-case, late-does, as_read}
use Rattle.script.proofs.steps.carry_out.Goals as goal

pub put_at-requires : goal.put_at-requires
put_at-requires c = let s = c in record { held_value = (s.requires.0, s.requires.1); at_in_bounds = put_whole _ _ _ _ (sym c.in-Put.is ∙ c.command_at-command.ensures) }

pub returns-in-Operate : goal.returns-in-Operate
unfolding carried
returns-in-Operate c = let s = c in record { does = as_read _ _ _ _ _ c.place_after-after.ensures _ c.command_at-command.ensures _ _ _ (in-case _ _ _ _ _ _ _ _ _ _ c.in-Operate.is (operated-does _ _ _ _ _ _ _ _ _ c.perform_lawful-a.ensures.0 _ c.answering.ensures)); catalogued = (s.requires.1, c.perform_lawful-a.ensures.1) }

pub returns-in-Put : goal.returns-in-Put
unfolding carried
returns-in-Put c = let s = c in record { does = as_read _ _ _ _ _ c.place_after-after.ensures _ c.command_at-command.ensures _ _ _ (in-case _ _ _ _ _ _ _ _ _ _ c.in-Put.is (c.put_at.ensures.does _)); catalogued = (c.put_at.ensures.catalogued, s.requires.2) }

pub returns-in-Remove : goal.returns-in-Remove
unfolding carried
returns-in-Remove c = let s = c in record { does = as_read _ _ _ _ _ c.place_after-after.ensures _ c.command_at-command.ensures _ _ _ (in-case _ _ _ _ _ _ _ _ _ _ c.in-Remove.is (c.remove_at.ensures.does _)); catalogued = (c.remove_at.ensures.catalogued, s.requires.2) }

pub returns-in-Table : goal.returns-in-Table
returns-in-Table c = let s = c in record { does = as_read _ _ _ _ _ c.place_after-after.ensures _ c.command_at-command.ensures _ _ _ (late-does _ _ _ _ _ _ _ _ _ c.in-Table.is (refusing-does _ _ _ _ _ _ _ c.refusing.ensures)); catalogued = (s.requires.1, s.requires.2) }

pub returns-in-Unknown : goal.returns-in-Unknown
unfolding carried
returns-in-Unknown c = let s = c in record { does = as_read _ _ _ _ _ c.place_after-after.ensures _ c.command_at-command.ensures _ _ _ (in-case _ _ _ _ _ _ _ _ _ _ c.in-Unknown.is (refusing-does _ _ _ _ _ _ _ c.refusing-in-Unknown.ensures)); catalogued = (s.requires.1, s.requires.2) }

pub returns-in-Short : goal.returns-in-Short
unfolding carried
returns-in-Short c = let s = c in record { does = as_read _ _ _ _ _ c.place_after-after.ensures _ c.command_at-command.ensures _ _ _ (in-case _ _ _ _ _ _ _ _ _ _ c.in-Short.is (refusing-does _ _ _ _ _ _ _ (placed _ _ _ _ _ _ c.refusing-in-Short.ensures c.min.ensures))); catalogued = (s.requires.1, s.requires.2) }
