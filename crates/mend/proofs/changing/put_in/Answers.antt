-- `catalog::changing::put_in` meets its contract: the links, the directory, the demanded rows; or all of it anew. Assumes nothing.
use Prim.Native.Nat.{ℕ}
use native.Mathlib.Omega.{arith}
use mathlib.Core.Path.{ap, ◌∙◌}
use mathlib.Core.List.{List}
use lib.ListN.{get_or}
use Rattle.mend.proofs.ChangedLaws.{relinked-directory, relinked-starts, relinked-firsts, redirected-links, redirected-firsts, indexed-both, redemanded-all}
use Rattle.mend.proofs.changing.put_in.Goals as goal

pub add_values-requires : goal.add_values-requires
add_values-requires c = let y = c.add_links.ensures c.requires.without.0 c.requires.without.1 c.requires.without.2.index.directory c.requires.without.2.index.links in
    record { r_bound = (c.requires.in_range.1, c.requires.in_range.2, c.requires.in_range.3, omega (arith, ap (λ (s : List ℕ). get_or s 64 0) (relinked-starts _ _ _ y), c.start_at.ensures, c.if-start_at-gt4088.false), y.links.long); without = (c.requires.without.0, c.requires.without.1, relinked-directory _ _ _ y _ _ c.requires.without.2.index.directory) }

pub demands_in-requires : goal.demands_in-requires
demands_in-requires c = let y = c.add_links.ensures c.requires.without.0 c.requires.without.1 c.requires.without.2.index.directory c.requires.without.2.index.links in
    let z = c.add_values.ensures c.requires.without.0 c.requires.without.1 (relinked-directory _ _ _ y _ _ c.requires.without.2.index.directory) in
    record { in_range = (c.requires.in_range.0, c.requires.in_range.1, c.requires.in_range.2); indexed = indexed-both _ _ _ (redirected-links _ _ _ _ z _ y.links) z.directory }

pub returns : goal.returns
returns c = let y = c.add_links.ensures c.requires.without.0 c.requires.without.1 c.requires.without.2.index.directory c.requires.without.2.index.links in
    let z = c.add_values.ensures c.requires.without.0 c.requires.without.1 (relinked-directory _ _ _ y _ _ c.requires.without.2.index.directory) in
    redemanded-all _ _ _ _ _ (indexed-both _ _ _ (redirected-links _ _ _ _ z _ y.links) z.directory) (c.demands_in.ensures c.requires.without.0 c.requires.without.1 (redirected-firsts _ _ _ _ z ∙ relinked-firsts _ _ _ y ∙ c.requires.without.2.demands.first-is))
