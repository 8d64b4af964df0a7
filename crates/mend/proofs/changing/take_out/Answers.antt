-- `catalog::changing::take_out` meets its contract: the directory, the links, the demanded rows. Assumes nothing.
use mathlib.Core.Path.{◌∙◌}
use Rattle.mend.proofs.ChangedLaws.{relinked-directory, relinked-firsts, redirected-links, redirected-firsts, indexed-both, redemanded-all}
use Rattle.mend.proofs.changing.take_out.Goals as goal

pub drop_links-requires : goal.drop_links-requires
drop_links-requires c = let z = c.drop_values.ensures c.requires.without.0 c.requires.without.1 in
    record { r_bound = (c.requires.in_range.1, c.requires.in_range.2, c.requires.in_range.3); without = (c.requires.without.0, c.requires.without.1, z.directory, redirected-links _ _ _ _ z _ c.requires.catalogued.index.links) }

pub demands_out-requires : goal.demands_out-requires
demands_out-requires c = let z = c.drop_values.ensures c.requires.without.0 c.requires.without.1 in
    let y = c.drop_links.ensures c.requires.without.0 c.requires.without.1 z.directory (redirected-links _ _ _ _ z _ c.requires.catalogued.index.links) in
    record { in_range = (c.requires.in_range.0, c.requires.in_range.1, c.requires.in_range.2); without = (c.requires.without.0, c.requires.without.1, indexed-both _ _ _ y.links (relinked-directory _ _ _ y _ _ z.directory)) }

pub returns : goal.returns
returns c = λ E w.
    let z = c.drop_values.ensures E w in
    let y = c.drop_links.ensures E w z.directory (redirected-links _ _ _ _ z _ c.requires.catalogued.index.links) in
    let i = indexed-both _ _ _ y.links (relinked-directory _ _ _ y _ _ z.directory) in
    redemanded-all _ _ _ _ _ i (c.demands_out.ensures E w i (relinked-firsts _ _ _ y ∙ redirected-firsts _ _ _ _ z ∙ c.requires.catalogued.demands.first-is))
