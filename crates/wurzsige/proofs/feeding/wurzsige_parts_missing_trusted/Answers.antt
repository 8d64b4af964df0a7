-- `wurzsige::feeding::wurzsige_parts_missing_trusted` meets its contract: the answer for the state that the words stand for. Assumes nothing.
use Rattle.wurzsige.proofs.Memories.{memory-design}
use Rattle.wurzsige.proofs.StepTaking.{ready-lawful}
use Rattle.wurzsige.proofs.FeedingLaws.{missing-ready}
use Rattle.wurzsige.proofs.feeding.wurzsige_parts_missing_trusted.Goals as goal

pub lawful_design_from-d-requires : goal.lawful_design_from-d-requires
lawful_design_from-d-requires c = let s = c in memory-design _ s.requires.ready.sound

pub missing_catalogued-next-requires : goal.missing_catalogued-next-requires
missing_catalogued-next-requires c = let s = c in let r = ready-lawful _ _ _ _ _ _ _ c.lawful_design_from-d.ensures s.requires.ready s.requires.held_len in (r.0, r.1)

pub returns : goal.returns
returns c = let s = c in missing-ready _ _ _ _ _ _ c.lawful_design_from-d.ensures s.requires.ready.sound _ _ _ c.missing_catalogued-next.ensures _ _ _ c.tell_next.ensures
