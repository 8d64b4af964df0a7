-- `cache::loads::mark_value` meets its contract: the load, and the marks that it leaves. Assumes nothing.
use Prim.Native.Nat.{ℕ}
use mathlib.Core.Path.{ap}
use mathlib.Core.List.{List}
use lib.ListN.{length-replicate}
use Rattle.model.specs.Rounds.{reached}
use Rattle.cache.proofs.LoadLaws.{load-long, loaded-is, settled_is, value-is}
use Rattle.cache.proofs.loads.mark_value.Goals as goal

pub load_value-grown-requires : goal.load_value-grown-requires
load_value-grown-requires c = record { in_range = (c.requires.in_range.0, c.requires.in_range.2, c.requires.in_range.3, c.requires.in_range.1, length-replicate {A = ℕ} 512 0); catalogued = c.requires.catalogued }

pub settle-requires : goal.settle-requires
settle-requires c = let s = c in (s.requires.in_range.1, load-long s.args.design s.requires.catalogued.0 s.requires.catalogued.1.demands.links.size_is _ _ _ (c.load_value-grown.ensures s.requires.catalogued.0 s.requires.catalogued.1).0)

pub returns : goal.returns
returns c = λ D x.
    let s = c in
    let z = x.demands.links.size_is in
    let u = c.load_value-grown.ensures D x in
    let L = value-is s.args.design D z _ _ _ _ u.0 in (
      loaded-is s.args.design D z _ _ _ _ L u.1 u.2,
      settled_is s.args.design D z _ _ (λ r l. ap (λ (K : List ℕ). reached K r) L) _ _ c.settle.ensures,
    )
