-- `probe::grounds::ground` meets its contract: the grounds in their order. Assumes nothing.
use mathlib.Core.Path.{sym, ◌∙◌}
use Rattle.probe.proofs.GroundLaws.{probe-front, ground-first, ground-second, ground-third, ground-none}
use Rattle.probe.proofs.grounds.ground.Goals as goal

pub returns-then-is_held : goal.returns-then-is_held
returns-then-is_held c = λ D x.
    ground-first _ _ _ _ _ _ (sym c.is_held.ensures ∙ c.if-is_held.true) ∙
    probe-front D x.links.size_is c.args.marks.now _ _ _ _

pub returns-then-is_demanded : goal.returns-then-is_demanded
returns-then-is_demanded c = λ D x.
    ground-second _ _ _ _ _ _ (sym c.is_held.ensures ∙ c.if-is_held.false)
    (sym (c.is_demanded.ensures D x) ∙ c.if-is_demanded.true) ∙
    probe-front D x.links.size_is _ _ _ _ _

pub returns-then-is_uniquely_seen : goal.returns-then-is_uniquely_seen
returns-then-is_uniquely_seen c = λ D x.
    ground-third _ _ _ _ _ _ (sym c.is_held.ensures ∙ c.if-is_held.false)
    (sym (c.is_demanded.ensures D x) ∙ c.if-is_demanded.false)
    (sym (c.is_uniquely_seen.ensures D x) ∙ c.if-is_uniquely_seen.true) ∙
    probe-front D x.links.size_is _ _ _ _ _

pub returns : goal.returns
returns c = λ D x.
    ground-none _ _ _ _ _ _ (sym c.is_held.ensures ∙ c.if-is_held.false)
    (sym (c.is_demanded.ensures D x) ∙ c.if-is_demanded.false)
    (sym (c.is_uniquely_seen.ensures D x) ∙ c.if-is_uniquely_seen.false) ∙
    probe-front D x.links.size_is _ _ _ _ _
