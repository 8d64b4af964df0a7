-- `format::reading::read_commands` meets its contract: what is read so far stands to the whole as `Along` says. Assumes nothing.
use native.Mathlib.Omega.{arith}
use mathlib.Core.Path.{ap, ◌∙◌}
use Rattle.std.specs.Prelude.{Ok}
use Rattle.format.proofs.FirstPass.{along-start, on-whole, along-on, complete-ends, along-complete, along-refused}
use Rattle.format.proofs.reading.read_commands.Goals as goal
use Rattle.format.proofs.reading.read_commands.Goals.{in-Ok-Complete, in-Err}

pub loop-at-init : goal.loop-at-init
loop-at-init c = along-start _ _ _ _ c.empty.ensures c.requires.0 c.requires.1 c.requires.2

pub take-requires : goal.take-requires
take-requires c = let z = c.loop-at.invariant.fitting.sizes in (c.command_at-c.ensures, z.cells, z.issues, z.tables)

pub bounds-script-at : goal.bounds-script-at
bounds-script-at c = let w = on-whole _ _ _ _ c.loop-at.invariant _ _ _ _ _ c.command_at-c.ensures c.take.ensures (c.in-Ok-On.is ∙ ap Ok c.in-Ok-On.field-0-is) in
    omega (arith, w.some, w.fits)

pub overflow_add-at : goal.overflow_add-at
overflow_add-at c = let w = on-whole _ _ _ _ c.loop-at.invariant _ _ _ _ _ c.command_at-c.ensures c.take.ensures (c.in-Ok-On.is ∙ ap Ok c.in-Ok-On.field-0-is) in
    omega (arith, w.some, w.fits, c.width_of-at.ensures, c.well_formed.0.0)

pub loop-at-smaller : goal.loop-at-smaller
loop-at-smaller c = let w = on-whole _ _ _ _ c.loop-at.invariant _ _ _ _ _ c.command_at-c.ensures c.take.ensures (c.in-Ok-On.is ∙ ap Ok c.in-Ok-On.field-0-is) in
    omega (arith, w.some, w.fits, c.width_of-at.ensures)

pub loop-at-preserved : goal.loop-at-preserved
loop-at-preserved c = along-on _ _ _ _ c.loop-at.invariant _ _ _ _ _ c.command_at-c.ensures c.take.ensures (c.in-Ok-On.is ∙ ap Ok c.in-Ok-On.field-0-is) _ c.width_of-at.ensures

pub overflow_add-verdict : goal.overflow_add-verdict
overflow_add-verdict c = let e = complete-ends _ _ _ _ c.loop-at.invariant _ _ _ _ _ c.command_at-c.ensures c.take.ensures (c.in-Ok-Complete.is ∙ ap Ok c.in-Ok-Complete.field-0-is) in
    omega (arith, e.fits, c.well_formed.0.0)

pub returns : goal.returns
returns c = elim c.match-take.branch [
  | in-Ok-Complete w ↦ rw w.verdict-is
      (along-complete _ _ _ _ c.loop-at.invariant _ _ _ _ _ c.command_at-c.ensures c.take.ensures (w.in-Ok-Complete.is ∙ ap Ok w.in-Ok-Complete.field-0-is))
  | in-Err w ↦ rw w.verdict-is (along-refused _ _ _ _ c.loop-at.invariant _ _ _ _ _ c.command_at-c.ensures c.take.ensures _ w.in-Err.is)
]
