-- `run::runs::run_lawful` meets its contract: what is left to run leaves what the whole leaves, and the state stays sound and catalogued. Assumes nothing.
use native.Mathlib.Omega.{arith}
use mathlib.Core.Path.{refl, ◌∙◌}
use borrow.Author.Tests.{not-true, not-false}
use Rattle.state.specs.Cells.{cells_in}
use Rattle.state.specs.HeldWords.{words_held}
use Rattle.state.specs.Lent.{lent}
use Rattle.script.specs.Step.{outputs}
use Rattle.run.proofs.RunCode.{leaves-past, leaves_last, left-on, next_place, sound-on}
use Rattle.run.proofs.runs.run_lawful.Goals as goal

pub loop-i-init : goal.loop-i-init
loop-i-init c = (refl, refl, refl, refl, refl, refl, c.requires.0, refl, c.requires.1, c.requires.2)

pub step_lawful-t-requires : goal.step_lawful-t-requires
step_lawful-t-requires c = let v = c.loop-i.invariant in (v.6, v.8, v.9)

pub returns-then-not-t : goal.returns-then-not-t
returns-then-not-t c = record { text_after = leaves_last _ _ _ _ _ c.loop-i.invariant.7 c.loop-i-test.true _ _ _ c.step_lawful-t.ensures.does (not-true _ c.if-not-t.true); catalogued = (c.step_lawful-t.ensures.catalogued.0, c.step_lawful-t.ensures.catalogued.1) }

pub loop-i-smaller : goal.loop-i-smaller
loop-i-smaller c = let g = next_place _ _ _ _ _ c.loop-i.invariant.7 c.loop-i-test.true _ _ _ c.step_lawful-t.ensures.does (not-false _ c.if-not-t.false) in
    omega (arith, c.loop-i-test.true, g)

pub loop-i-preserved : goal.loop-i-preserved
loop-i-preserved c = let t = c.step_lawful-t in
    let v = c.loop-i.invariant in
    let w = c.loop-i-test.true in (
      t.auto.cells ∙ v.0,
      t.auto.issues ∙ v.1,
      t.auto.tables ∙ v.2,
      t.auto.marks ∙ v.3,
      t.auto.words ∙ v.4,
      t.auto.text ∙ v.5,
      sound-on _ _ _ _ _ v.7 w _ _ _ t.ensures.does v.6,
      left-on _ _ _ _ _ v.7 w _ _ _ t.ensures.does (not-false _ c.if-not-t.false),
      t.ensures.catalogued.0,
      t.ensures.catalogued.1,
    )

pub returns : goal.returns
returns c = let a = c.args in
    let l = c.loop-i in
    let s = lent a.design (cells_in l.cells l.issues) l.tables l.marks (words_held l.held) in
    record { text_after = leaves-past a.script.now s (outputs l.words l.text) l.i _ l.invariant.7 c.loop-i-test.false; catalogued = (l.invariant.8, l.invariant.9) }
