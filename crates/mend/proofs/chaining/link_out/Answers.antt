use native.Mathlib.Omega.{arith}
use mathlib.Core.Path.{refl}
use Rattle.state.specs.Meaning.{cell_of, column_of}
use Rattle.mend.proofs.ChainLaws.{place_same, place_set, goes_first, goes-behind}
use Rattle.mend.proofs.BesideLaws.{first-with}
use Rattle.mend.proofs.chaining.link_out.Goals as goal

pub returns-then-r-h : goal.returns-then-r-h
returns-then-r-h c = let s = c in
    (place_set _ _ s.requires.r_bound.2 _ _ _ s.requires.r_bound.0 (place_same _ _), λ E F x. goes_first E F _ (column_of s.args.k) (cell_of s.args.v) _ _ s.requires.r_bound.2 s.requires.r_bound.3 _ (c.find-h.ensures E x.directory) x c.if-r-h.true)

pub returns : goal.returns
returns c = let s = c in
    (place_set _ _ s.requires.r_bound.2 _ _ _ s.requires.r_bound.0 (place_set _ _ s.requires.r_bound.2 _ _ _ (omega (arith, c.row_before-p.ensures.0)) (place_same _ _)), λ E F x. goes-behind E F _ (column_of s.args.k) (cell_of s.args.v) _ _ s.requires.r_bound.2 s.requires.r_bound.3 _ (c.find-h.ensures E x.directory) _ x (c.row_before-p.ensures.1 F _ _ x.chained refl (first-with E F _ x.without _ _ _ (c.find-h.ensures E x.directory) c.if-r-h.false)))
