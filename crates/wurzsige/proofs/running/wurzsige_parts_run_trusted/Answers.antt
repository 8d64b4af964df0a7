-- `wurzsige::running::wurzsige_parts_run_trusted` meets its contract: the run on the state that the words stand for. Assumes nothing.
use Rattle.script.specs.Step.{outputs}
use Rattle.wurzsige.proofs.Memories.{memory-design}
use Rattle.wurzsige.proofs.StepTaking.{ready-lawful, run-made}
use Rattle.wurzsige.proofs.running.wurzsige_parts_run_trusted.Goals as goal

pub lawful_design_from-d-requires : goal.lawful_design_from-d-requires
lawful_design_from-d-requires c = let s = c in memory-design _ s.requires.ready.sound

pub run_lawful-requires : goal.run_lawful-requires
run_lawful-requires c = let s = c in ready-lawful _ _ _ _ _ _ _ c.lawful_design_from-d.ensures s.requires.ready s.requires.held

pub returns : goal.returns
returns c = let s = c in
    run-made _ _ _ _ _ _ _ c.lawful_design_from-d.ensures s.requires.ready s.requires.held (outputs s.args.words.now s.args.text.now) s.args.script.now s.args.at _ _ _ _ _
    c.run_lawful.ensures.catalogued.1 c.run_lawful.ensures.text_after _ c.run_lawful.ensures.catalogued.0
