use mathlib.Core.Path.{sym, ◌∙◌}
use Rattle.mend.proofs.ChainLaws.{place_same}
use Rattle.mend.proofs.RelinkLaws.{blank-comes, linking}
use Rattle.mend.proofs.relinking.add_link.Goals as goal

pub returns-then-is_blank : goal.returns-then-is_blank
returns-then-is_blank c = let p = c.requires.r_bound in
    (place_same _ _, λ E w d y. blank-comes _ _ _ _ p.0 p.1 p.3 _ c.cell_at-v.ensures (sym c.is_blank.ensures ∙ c.if-is_blank.true) E w _ y)

pub link_in-requires : goal.link_in-requires
link_in-requires c = let p = c.requires.r_bound in
    record { r_bound = (p.0, p.3, p.1, p.4); linking = (c.requires.without.0, _, linking _ _ _ _ p.0 p.1 p.3 _ c.cell_at-v.ensures (sym c.is_blank.ensures ∙ c.if-is_blank.false) _ _ _ _ c.requires.without.1 c.requires.without.2 c.requires.without.3) }

pub returns : goal.returns
returns c = let p = c.requires.r_bound in
    (c.link_in.ensures.0, λ E w d y. c.link_in.ensures.1 E _ (linking _ _ _ _ p.0 p.1 p.3 _ c.cell_at-v.ensures (sym c.is_blank.ensures ∙ c.if-is_blank.false) _ _ _ _ w d y))
