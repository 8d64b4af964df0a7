-- `demanding::nearest::note_nearest` meets its contract: row by row. Assumes nothing.
use Prim.Native.Nat.{ℕ, ◌+◌, ◌<◌}
use native.Mathlib.Omega.{arith}
use mathlib.Core.Path.{sym, subst, ap, ◌∙◌}
use lib.ListN.{get_or}
use Rattle.std.proofs.lemmas.List.{get_or-take, length-take}
use Rattle.finite.specs.Finite.{first_from}
use Rattle.model.specs.Rounds.{leads}
use Rattle.demanding.proofs.DemandingLaws.{Noting, noting-start, noting-skip, noting-from, noting-more, noting-done}
use Rattle.demanding.proofs.nearest.note_nearest.Goals as goal
use Rattle.demanding.proofs.nearest.note_nearest.Goals.{then-chosen-s, else-chosen-s}

pub loop-s-init : goal.loop-s-init
loop-s-init c = (omega arith, λ S D y x l e d. noting-start S D _ _ _ _ y _ _ c.requires.2 c.requires.0 d)

pub spread-requires : goal.spread-requires
spread-requires c = (c.requires.1, omega (arith, c.requires.0), c.requires.3)

pub loop-s-preserved : goal.loop-s-preserved
loop-s-preserved c = let a = c.args in let r = c.args.reached.now in let k = c.loop-s.s-index in
    let t : k < r.count = omega (arith, length-take r.count r.rows) in
    let row = get_or-take r.count r.rows k 0 t in (
      omega arith,
      λ S D y x l e d.
          let v = c.loop-s.invariant.1 S D y x l e d in
          let f = c.first_row-f.ensures S D x l ∙ ap (λ (s : ℕ). first_from 512 (leads D (S.constraint a.i) s) 0) (c.wide.ensures ∙ row) in
          elim c.if-chosen-s.branch [
            | then-chosen-s w ↦
                let h = sym c.chosen.ensures ∙ w.if-chosen-s.true ∙ row in
                subst (Noting S D a.levels.now a.i a.near.now _ y (get_or r.rows (k + 1) 0)) (sym w.near-is)
                (noting-more S D _ _ _ _ y _ _ c.requires.2 _ t _ v _ f h _
                (rw row at (w.spread.ensures D x.links _ _ e (noting-from S D _ _ _ _ y _ _ c.requires.2 _ t _ v _ f h) v.long)))
            | else-chosen-s w ↦
                subst (Noting S D a.levels.now a.i a.near.now _ y (get_or r.rows (k + 1) 0)) (sym w.near-is)
                (noting-skip S D _ _ _ _ y _ _ c.requires.2 _ t _ v _ f (λ q. w.if-chosen-s.false (c.chosen.ensures ∙ q ∙ sym row)))
          ],
    )

pub returns : goal.returns
returns c = let r = c.args.reached.now in
    λ S D x l e d.
    let y = c.nearest_by_first.ensures S D x l in
    noting-done S D _ _ _ _ y _ _ c.requires.2 _ _ c.loop-s.invariant.0 (omega (arith, c.loop-s-test.false, length-take r.count r.rows, c.requires.2.few)) d (c.loop-s.invariant.1 S D y x l e d)
