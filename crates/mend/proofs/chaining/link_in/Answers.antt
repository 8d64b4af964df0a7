use native.Mathlib.Omega.{arith}
use mathlib.Core.Path.{refl}
use Rattle.state.specs.Meaning.{cell_of, column_of}
use Rattle.catalog.proofs.HitLaws.{first-hit}
use Rattle.mend.proofs.ChainLaws.{place_same, place_set, comes-first, comes-behind}
use Rattle.mend.proofs.chaining.link_in.Goals as goal

pub overflow_cast-catalog : goal.overflow_cast-catalog
overflow_cast-catalog c = omega (arith, (first-hit _ _ _ (c.find-h.ensures c.requires.linking.0 c.requires.linking.2.directory)).bound)

pub returns-then-r-h : goal.returns-then-r-h
returns-then-r-h c = let s = c in
    (place_set _ _ s.requires.r_bound.2 _ _ _ s.requires.r_bound.0 (place_same _ _), λ E F x. comes-first E F _ (column_of s.args.k) (cell_of s.args.v) _ _ s.requires.r_bound.2 s.requires.r_bound.3 _ (c.find-h.ensures E x.directory) x c.if-r-h.true)

pub returns : goal.returns
returns c = let s = c in
    (place_set _ _ s.requires.r_bound.2 _ _ _ (omega (arith, c.row_before-p.ensures.0)) (place_set _ _ s.requires.r_bound.2 _ _ _ s.requires.r_bound.0 (place_same _ _)), λ E F x. comes-behind E F _ (column_of s.args.k) (cell_of s.args.v) _ _ s.requires.r_bound.2 s.requires.r_bound.3 _ (c.find-h.ensures E x.directory) _ x (c.row_before-p.ensures.1 E _ _ x.chained refl (c.find-h.ensures E x.directory)))
