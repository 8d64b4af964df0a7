-- `slice::rows::link_lack` meets its contract. Assumes nothing.
use mathlib.Core.Path.{sym, ap, ◌∙◌, subst}
use Rattle.state.specs.declared.design.Constraint.{Constraint}
use Prim.Native.Nat.{◌<◌}
use Rattle.state.specs.Cells.{cells_in}
use Rattle.state.specs.Meaning.{database_of, scheme_of}
use Rattle.slice.proofs.NearLaws.{link-there}
use Rattle.slice.proofs.LackLaws.{row_other}
use native.Mathlib.Omega.{arith}
use Rattle.slice.proofs.rows.link_lack.Goals as goal

pub returns-then-rows-r : goal.returns-then-rows-r
returns-then-rows-r c = λ x. row_other _ _ _ _ _ _ (λ h. c.if-rows-r.true (h ∙ sym (ap (λ (k : Constraint). k.source.table) c.requires.c_value.0)))

pub cell_at-v-requires : goal.cell_at-v-requires
cell_at-v-requires c = (c.requires.in_range.3, subst (λ (k : Constraint). k.source.place < 8) (sym c.requires.c_value.0) (c.requires.in_range.0.source _), c.requires.in_range.1.rows, c.requires.in_range.1.issued)

pub others_whole-only-requires : goal.others_whole-only-requires
others_whole-only-requires c = (c.requires.in_range.3, omega (arith, c.requires.in_range.4, c.requires.in_range.0.constraints))

pub near_lack-requires : goal.near_lack-requires
near_lack-requires c = (c.requires.in_range.2, omega (arith, c.requires.in_range.4, c.requires.in_range.0.constraints))

pub returns : goal.returns
returns c = λ x.
    let s = c in
    let B = database_of (cells_in s.args.rows.now.cells.now s.args.rows.now.issues.now) s.args.rows.now.tables.now in
    link-there _ _ _ _ _ _ _ _ _ _ s.requires.c_value.0 s.requires.in_range.3 (s.requires.in_range.0.source _) (s.requires.in_range.0.source-table _) s.requires.in_range.4 c.if-rows-r.false c.cell_at-v.ensures s.requires.c_value.1
    (c.others_whole-only.ensures (scheme_of s.args.d) B x) (c.near_lack.ensures (scheme_of s.args.d) B)
