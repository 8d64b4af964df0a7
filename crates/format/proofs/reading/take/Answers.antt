-- `format::reading::take` meets its contract: each arm is one command of `advanced`. Assumes nothing.
use mathlib.Core.Path.{refl, sym, ◌∙◌}
use Rattle.format.proofs.Seen.{row-whole}
use Rattle.format.proofs.AdvancesLaws.{advances-as, advances-refused, advances-complete, kept-all, late-refused, unknown-refused, short-refused, end-admitted}
use Rattle.format.proofs.reading.take.Goals as goal

pub take_row-requires : goal.take_row-requires
take_row-requires c = let h = row-whole _ _ _ (sym c.requires.0 ∙ c.in-Row.is) in (h.0, h.1, c.requires.1, c.requires.2, c.requires.3)

pub returns-in-Table : goal.returns-in-Table
returns-in-Table c = advances-as _ _ _ _ _ _ _ _ _ c.in-Table.is (c.take_table.ensures _ _ _ _)

pub returns-in-Constraint : goal.returns-in-Constraint
returns-in-Constraint c = advances-as _ _ _ _ _ _ _ _ _ c.in-Constraint.is (c.take_constraint.ensures _ _ _ _)

pub returns-in-Filling : goal.returns-in-Filling
returns-in-Filling c = advances-as _ _ _ _ _ _ _ _ _ c.in-Filling.is (c.take_filling.ensures _ _ _ _)

pub returns-in-Row : goal.returns-in-Row
returns-in-Row c = advances-as _ _ _ _ _ _ _ _ _ c.in-Row.is c.take_row.ensures

pub returns-in-End : goal.returns-in-End
returns-in-End c = advances-as _ _ _ _ _ _ _ _ _ c.in-End.is (advances-complete _ _ _ _ _ _ _ _ refl refl (end-admitted _ _ _))

pub returns-in-Operate : goal.returns-in-Operate
returns-in-Operate c = advances-refused _ _ _ _ _ _ _ _ 3 refl refl (late-refused _ _ _ _ c.in-Operate.is) (kept-all _ _ _)

pub returns-in-Unknown : goal.returns-in-Unknown
returns-in-Unknown c = advances-as _ _ _ _ _ _ _ _ _ c.in-Unknown.is (advances-refused _ _ _ _ _ _ _ _ 2 refl refl (unknown-refused _ _ _) (kept-all _ _ _))

pub returns-in-Short : goal.returns-in-Short
returns-in-Short c = advances-as _ _ _ _ _ _ _ _ _ c.in-Short.is (advances-refused _ _ _ _ _ _ _ _ 1 refl refl (short-refused _ _ _) (kept-all _ _ _))
