-- Caches whose marks are those of a reload: the smallest row set for what they hold. An operation keeps that. Assumes nothing.
use Prim.Native.Nat.{ℕ}
use mathlib.Core.Path.{◌≡◌, refl, sym, subst}
use mathlib.Core.Bool.{Bool, true, false, cond}
use mathlib.Core.List.{List}
use lib.Dec.{ltb}
use Rattle.model.specs.Scheme.{Scheme}
use Rattle.model.specs.Database.{Database}
use Rattle.model.specs.Rounds.{reached}
use Rattle.model.specs.Ranges.{Range}
use Rattle.model.specs.Holding.{desks, Pair, holds, with_pair, holds_range, with_range}
use Rattle.model.specs.Runs.{Operation, refer, drop, ask, query, name, refer_range, drop_range, taken, range_taken, pair_for, refers, marks, marked, Cache, reload_levels, referred, referred_range, at_desk}
use Rattle.model.specs.Effects.{effect, cache_after}
use Rattle.model.proofs.Loads.{one-smallest}
use Rattle.model.proofs.Marks.{marks-same}
use Rattle.model.proofs.RunLaws.{Sound, refer-smallest, range-smallest, held-smallest, reload-sound}

-- the marks are those of a load of all pairs from nothing
pub record Fresh (S : Scheme) (D : Database) (c : Cache) : Type 0 where
  pub reloaded : c.marks ≡ marks D (reached (reload_levels S D c.held))

-- such a cache is sound
pub fresh-sound : (S : Scheme) (D : Database) (c : Cache) → Fresh S D c → Sound S D c
fresh-sound S D c f = subst (λ (m : List ℕ). Sound S D (record { held = c.held; marks = m })) (sym f.reloaded) (reload-sound S D c.held)

cond-fresh : {S : Scheme} {D : Database} (b : Bool) (c e : Cache) → Fresh S D c → Fresh S D e → Fresh S D (cond b c e)
cond-fresh true c e m n = m
cond-fresh false c e m n = n

-- a load from the smallest set and a reload reach the same rows
refer-fresh : (S : Scheme) (D : Database) (c : Cache) (p : Pair) → Fresh S D c → Fresh S D (referred S D c p)
refer-fresh S D c p f =
    record { reloaded = marks-same D _ _ (λ r l. one-smallest (refer-smallest c p (fresh-sound S D c f)) (held-smallest S D (with_pair c.held p)) r) }

range-fresh : (S : Scheme) (D : Database) (c : Cache) (r : Range) → Fresh S D c → Fresh S D (referred_range S D c r)
range-fresh S D c r f =
    record { reloaded = marks-same D _ _ (λ s l. one-smallest (range-smallest c r (fresh-sound S D c f)) (held-smallest S D (with_range c.held r)) s) }

-- an operation leaves one
pub step-fresh : (S : Scheme) (D : Database) (c : Cache) (o : Operation) → Fresh S D c → Fresh S D (cache_after S D c o)
unfolding effect reload_levels
step-fresh S D c (refer p) f = cond-fresh (taken S c.held p) _ c (refer-fresh S D c p f) f
step-fresh S D c (drop p) f = cond-fresh (holds c.held p) _ c (record { reloaded = refl }) f
step-fresh S D c (ask q) f = f
step-fresh S D c (query q out) f = cond-fresh (refers S D c.held (marked c.marks) q out) _ c (refer-fresh S D c (pair_for S q) f) f
step-fresh S D c (name d) f = cond-fresh (ltb d desks) (at_desk c d) c (record { reloaded = f.reloaded }) f
step-fresh S D c (refer_range r) f = cond-fresh (range_taken S c.held r) _ c (range-fresh S D c r f) f
step-fresh S D c (drop_range r) f = cond-fresh (holds_range c.held r) _ c (record { reloaded = refl }) f
