-- `wurzsige::stepping::wurzsige_parts_step_trusted` meets its contract: the step on the state that the words stand for. Assumes nothing.
use Rattle.wurzsige.proofs.Memories.{memory-design}
use Rattle.wurzsige.proofs.StepTaking.{ready-lawful, step-ready, step-taken}
use Rattle.wurzsige.proofs.stepping.wurzsige_parts_step_trusted.Goals as goal

pub lawful_design_from-d-requires : goal.lawful_design_from-d-requires
lawful_design_from-d-requires c = let s = c in memory-design _ s.requires.ready.sound

pub step_lawful-t-requires : goal.step_lawful-t-requires
step_lawful-t-requires c = let s = c in ready-lawful _ _ _ _ _ _ _ c.lawful_design_from-d.ensures s.requires.ready s.requires.held

pub returns : goal.returns
returns c = let s = c in
    record {
      taken = step-taken _ _ _ _ _ _ _ c.lawful_design_from-d.ensures s.requires.ready s.requires.held _ _ _ _ _ _ _ _ c.step_lawful-t.ensures.catalogued.1 _ c.step_lawful-t.ensures.does _ _ _ c.tell.ensures _ _ _
          c.tell_places.ensures;
      ready = step-ready _ _ _ _ _ _ _ c.lawful_design_from-d.ensures s.requires.ready s.requires.held _ _ _ _ _ _ _ _ c.step_lawful-t.ensures.catalogued.1 _ c.step_lawful-t.ensures.does _
          c.step_lawful-t.ensures.catalogued.0;
    }
