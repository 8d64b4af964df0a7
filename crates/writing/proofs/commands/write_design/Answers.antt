-- `writing::commands::write_design` meets its contract: each kind goes behind the one before. Assumes nothing.
use native.Mathlib.Omega.{arith}
use Rattle.state.specs.Cells.{cells_in}
use Rattle.finite.proofs.Writing.{behind, wrote_one, wrote-long}
use Rattle.format.proofs.Lengths.{length_most}
use Rattle.writing.proofs.WritingLaws.{room-start, room-first, room_next, wrote-design}
use Rattle.writing.proofs.commands.write_design.Goals as goal

pub put_kind-a-requires : goal.put_kind-a-requires
put_kind-a-requires c = (
  c.requires.0,
  c.requires.1,
  room-first _ _ _ _ (room-start _ _ _ c.args.out.now c.requires.2),
)

pub put_kind-b-requires : goal.put_kind-b-requires
put_kind-b-requires c = (
  c.requires.0,
  c.requires.1,
  room-first _ _ _ _ (room_next _ _ _ _ (room-start _ _ _ _ c.requires.2) _ _ c.put_kind-a.ensures),
)

pub put_kind-c-requires : goal.put_kind-c-requires
put_kind-c-requires c = (
  c.requires.0,
  c.requires.1,
  room-first _ _ _ _ (room_next _ _ _ _ (room_next _ _ _ _ (room-start _ _ _ _ c.requires.2) _ _ c.put_kind-a.ensures) _ _ c.put_kind-b.ensures),
)

pub put_kind-e-requires : goal.put_kind-e-requires
put_kind-e-requires c = (
  c.requires.0,
  c.requires.1,
  room-first _ _ _ _ (room_next _ _ _ _ (room_next _ _ _ _ (room_next _ _ _ _ (room-start _ _ _ _ c.requires.2) _ _ c.put_kind-a.ensures) _ _ c.put_kind-b.ensures) _ _ c.put_kind-c.ensures),
)

pub bounds-out-e : goal.bounds-out-e
bounds-out-e c = let l = room-first _ _ _ _ (room_next _ _ _ _ (room_next _ _ _ _ (room_next _ _ _ _ (room_next _ _ _ _ (room-start _ _ _ _ c.requires.2) _ _ c.put_kind-a.ensures) _ _ c.put_kind-b.ensures) _ _ c.put_kind-c.ensures) _ _ c.put_kind-e.ensures) in
    omega arith

pub overflow_add-result : goal.overflow_add-result
overflow_add-result c = let d = c.args.d in
    let cells = cells_in c.args.rows.now.cells.now c.args.rows.now.issues.now in
    let tables = c.args.rows.now.tables.now in
    let w = wrote-design d cells tables _ _ _ (behind c.put_kind-a.ensures (behind c.put_kind-b.ensures (behind c.put_kind-c.ensures (behind c.put_kind-e.ensures (wrote_one _ _ 5))))) in
    let h = c.requires.0 in
    omega (arith, w.0, length_most d cells tables h.tables h.constraints h.fillings)

pub shape_of-out : goal.shape_of-out
shape_of-out c = wrote-long _ _ _ _ _ (behind c.put_kind-a.ensures (behind c.put_kind-b.ensures (behind c.put_kind-c.ensures (behind c.put_kind-e.ensures (wrote_one _ _ _)))))

pub returns : goal.returns
returns c = wrote-design _ _ _ _ _ _ (behind c.put_kind-a.ensures (behind c.put_kind-b.ensures (behind c.put_kind-c.ensures (behind c.put_kind-e.ensures (wrote_one _ _ _)))))
