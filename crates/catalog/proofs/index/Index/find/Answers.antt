-- `catalog::index::Index::find` meets its contract: a value that stands nowhere among the column's keys no row has. Assumes nothing.
use Prim.Native.Nat.{ℕ, ◌+◌}
use mathlib.Core.Path.{ap}
use Rattle.state.specs.Meaning.{cell_of}
use Rattle.catalog.proofs.Found.{find_none, find-hit, find-miss, start_by}
use Rattle.catalog.proofs.index.Index.find.Goals as goal

pub returns-then-to-gt-CELLS : goal.returns-then-to-gt-CELLS
returns-then-to-gt-CELLS c = λ D d. let s = c in find_none D _ _ _ d _ _ s.requires.0 s.requires.1 _ (start_by _ _ _ _ (ap (λ (n : ℕ). n + 1) c.number_of-i.ensures) c.start_at-to.ensures) _ c.if-to-gt-CELLS.true

pub returns-then-stands : goal.returns-then-stands
returns-then-stands c = λ D d.
    let s = c in
    find-hit D _ _ _ d _ _ s.requires.0 s.requires.1 _ (start_by _ _ _ _ (ap (λ (n : ℕ). n + 1) c.number_of-i.ensures) c.start_at-to.ensures) (cell_of s.args.v) _ c.key_of-x.ensures _ _ (start_by _ _ _ _ c.number_of-i.ensures c.start_at.ensures)
    c.seat-a.ensures _ c.stands.ensures _ c.head_at.ensures c.if-stands.true

pub returns : goal.returns
returns c = λ D d.
    let s = c in
    find-miss D _ _ _ d _ _ s.requires.0 s.requires.1 _ (start_by _ _ _ _ (ap (λ (n : ℕ). n + 1) c.number_of-i.ensures) c.start_at-to.ensures) (cell_of s.args.v) _ c.key_of-x.ensures _ _ (start_by _ _ _ _ c.number_of-i.ensures c.start_at.ensures)
    c.seat-a.ensures _ c.stands.ensures c.if-stands.false
