-- `cache::loads::mark_held` meets its contract: the load inside the marked rows, and the marks that it leaves. Assumes nothing.
use native.Mathlib.Omega.{arith}
use Rattle.state.specs.HeldWords.{words_held}
use Rattle.cache.proofs.LoadLaws.{dropped-is, held_same, rows-fewer, settled_is, within_count}
use Rattle.cache.proofs.loads.mark_held.Goals as goal

pub load_held-rows-requires : goal.load_held-rows-requires
load_held-rows-requires c = record { in_range = (c.requires.in_range.0, c.requires.in_range.2); catalogued = (c.requires.catalogued.0, c.requires.catalogued.1) }

pub settle-requires : goal.settle-requires
settle-requires c = (c.requires.in_range.1, (c.load_held-rows.ensures c.requires.catalogued.0 c.requires.catalogued.1 (within_count c.rows_marked-cached.ensures c.requires.catalogued.2)).long)

pub overflow_sub-result : goal.overflow_sub-result
overflow_sub-result c = let s = c in
    omega (arith, rows-fewer s.args.design s.requires.catalogued.0 s.requires.catalogued.1.demands.links.size_is (words_held s.args.held.now) _ _ (c.load_held-rows.ensures s.requires.catalogued.0 s.requires.catalogued.1 (within_count c.rows_marked-cached.ensures s.requires.catalogued.2)) _ _ c.rows_marked-cached.ensures s.requires.catalogued.2)

pub returns : goal.returns
returns c = λ D x v.
    let s = c in
    let z = x.demands.links.size_is in
    let h = words_held s.args.held.now in
    let u = c.load_held-rows.ensures D x (within_count c.rows_marked-cached.ensures v) in (
      dropped-is s.args.design D z h _ _ u _ _ c.rows_marked-cached.ensures v,
      settled_is s.args.design D z _ _ (held_same s.args.design D z h _ _ u) _ _ c.settle.ensures,
    )
