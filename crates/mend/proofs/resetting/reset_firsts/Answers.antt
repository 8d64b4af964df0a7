-- `mend::resetting::reset_firsts` meets its contract: nothing where the first row stands before r; else the rows before s that have the value are done. Assumes nothing.
use native.Mathlib.Omega.{arith}
use mathlib.Core.Path.{refl, sym, ap, ◌∙◌}
use Rattle.model.specs.Database.{has}
use Rattle.state.specs.Meaning.{cell_of, column_of, constraint_of}
use Rattle.catalog.specs.Catalog.{next_of}
use Rattle.catalog.proofs.CatalogLaws.{next-rises, next-from}
use Rattle.catalog.proofs.HitLaws.{first-hit}
use Rattle.mend.proofs.ResetLaws.{only_same, only_set, only-links, reset-start, reset-turn, reset-end, reset-before, reset-made}
use Rattle.mend.proofs.resetting.reset_firsts.Goals as goal

pub returns-then-h-r : goal.returns-then-h-r
returns-then-h-r c = let s = c in
    (only_same _ _, λ D x. reset-before D (constraint_of s.args.j) _ (cell_of s.args.v) _ _ _ (c.find-h.ensures D x.directory) c.if-h-r.true)

pub overflow_cast-first : goal.overflow_cast-first
overflow_cast-first c = omega (arith, (first-hit _ _ _ (c.find-h.ensures c.requires.indexed.0 c.requires.indexed.1.directory)).bound)

pub loop-s-init : goal.loop-s-init
loop-s-init c = (only_same _ _, λ D k v x q e. (first-hit _ _ _ e, reset-start _ _ _ _ _ e))

pub loop-s-smaller : goal.loop-s-smaller
loop-s-smaller c = omega (arith, next-rises c.requires.indexed.0 _ _ _ c.loop-s-test.true (c.next_row-n.ensures c.requires.indexed.0 (only-links _ _ _ _ c.loop-s.invariant.0 c.requires.indexed.1.links)))

pub loop-s-preserved : goal.loop-s-preserved
loop-s-preserved c = let i = c.loop-s.invariant in
    let t = c.loop-s-test.true in (
      only_set _ _ _ _ _ t i.0,
      λ D k v x q e.
          let y = i.1 D k v x q e in
          let n = next-from D k v _ (y.0.here t) _ (c.next_row-n.ensures D (only-links _ _ _ _ i.0 x.links) ∙ ap (next_of D _) (sym q)) in
          (first-hit _ _ _ n, reset-turn _ _ _ c.args.catalog.now _ _ _ t (omega (arith, i.0.long, x.links.long)) (y.0.here t) n y.1),
    )

pub returns : goal.returns
returns c = let i = c.loop-s.invariant in
    let s = c in
    (i.0, λ D x. reset-made D (constraint_of s.args.j) _ (cell_of s.args.v) _ _ _ (c.find-h.ensures D x.directory) c.if-h-r.false _ (reset-end (has D (column_of s.args.j.source) (cell_of s.args.v)) c.find-h.result _ s.args.catalog.now _ _ c.loop-s-test.false (i.1 D (column_of s.args.j.source) (cell_of s.args.v) x refl (c.find-s.ensures D x.directory)).1))
