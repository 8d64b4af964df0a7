-- `opener::reading::value_in` meets its contract, test by test. Assumes nothing.
use native.Mathlib.Nat.{pos_of_ne-zero}
use mathlib.Core.Path.{refl}
use Rattle.model.proofs.RoundsLaws.{zero-unreached, level-reached}
use Rattle.state.specs.Meaning.{filling_of}
use Rattle.opener.proofs.ValueLaws.{value-unled, value-elsewhere, value_there, reads-chosen}
use Rattle.opener.proofs.reading.value_in.Goals as goal

pub returns-then-levels-r-eq0 : goal.returns-then-levels-r-eq0
returns-then-levels-r-eq0 c = value-unled _ _ _ _ _ c.requires.1 (zero-unreached _ _ c.if-levels-r-eq0.true)

pub returns-then-rows-r : goal.returns-then-rows-r
returns-then-rows-r c = value-elsewhere _ _ _ _ _ c.requires.1 c.if-rows-r.true

pub returns : goal.returns
returns c = reads-chosen (filling_of c.args.f) c.cell_at-w.result _ _ _ c.requires.3 c.is_candidate.ensures c.then_some.ensures
    (value_there _ _ _ (filling_of c.args.f) _ c.requires.1 (level-reached _ _ (pos_of_ne-zero c.if-levels-r-eq0.false)) c.if-rows-r.false _ c.cell_at-w.ensures _ refl)
