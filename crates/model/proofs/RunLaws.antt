-- Runs of operations: what a cache holds is found from the rows, the operands and the words lent alone, and a cache that is the smallest row set for what it holds stays so. Assumes nothing.
use Prim.Native.Nat.{ℕ}
use mathlib.Core.Path.{◌≡◌, refl, sym, ap, ◌∙◌, fun_ext}
use mathlib.Core.Bool.{Bool, true, false, cond, ◌||◌, or-false, or_assoc, or_comm}
use mathlib.Core.List.{List, [], ◌∷◌, ◌++◌}
use lib.Dec.{ltb}
use Rattle.finite.specs.Finite.{tab}
use Rattle.model.specs.Cell.{Cell}
use Rattle.model.specs.Scheme.{Column, Scheme}
use Rattle.model.specs.Database.{Database}
use Rattle.model.specs.Cache.{RowSet, Smallest}
use Rattle.model.specs.Rounds.{reached}
use Rattle.model.specs.Ranges.{Range, some_range}
use Rattle.model.specs.Holding.{desks, Pair, Owned, Holding, mine, holds, with_pair, without_pair, holds_range, with_range, without_range, all_ranges, one, pairs_hold, pairs_want, ranges_hold, held_in, wanted}
use Rattle.model.specs.Runs.{Operation, refer, drop, ask, query, name, refer_range, drop_range, taken, range_taken, pair_for, refers, held_after, held_from, marked, Cache, empty_cache, refer_levels, range_levels, reload_levels, at_desk, reloaded}
use Rattle.model.specs.Effects.{effect, cache_after, cache_from}
use Rattle.model.proofs.Loads.{one-smallest, Wants, load-smallest, reload-smallest, none-smallest, none-wants, one-wants, both-want}
use Rattle.model.proofs.Marks.{marks-smallest}
use Rattle.model.proofs.RangesHeld.{range-more, range-wants, ranges-want}

-- ---- what is held

-- a pair put at the end holds one value more
pub held_more : (S : Scheme) (h : Holding) (p : Pair) →
    held_in S (with_pair h p) ≡ (λ k v. held_in S h k v || one (S.filling p.filling).column p.value k v)
unfolding pairs_hold
held_more S h p =
    fun_ext (λ k. fun_ext (λ v. ap (λ (b : Bool). b || ranges_hold S (all_ranges h.ranges) k v) (go h.values k v) ∙
    swap (pairs_hold S h.values k v) (one (S.filling p.filling).column p.value k v) (ranges_hold S (all_ranges h.ranges) k v)))
  where
    swap : (a b c : Bool) → (a || b) || c ≡ (a || c) || b
    swap a b c = or_assoc a b c ∙ ap (λ (x : Bool). a || x) (or_comm b c) ∙ sym (or_assoc a c b)

    go : (os : List Owned) (k : Column) (v : Cell) → pairs_hold S (os ++ (mine h p ∷ [])) k v ≡ (pairs_hold S os k v || one (S.filling p.filling).column p.value k v)
    go [] k v = or-false (one (S.filling p.filling).column p.value k v)
    go (o ∷ os) k v =
        ap (λ (b : Bool). one (S.filling o.pair.filling).column o.pair.value k v || b) (go os k v) ∙
        sym (or_assoc (one (S.filling o.pair.filling).column o.pair.value k v) (pairs_hold S os k v) (one (S.filling p.filling).column p.value k v))

-- the rows that held values want are those that have one of them
pairs-want : (S : Scheme) (D : Database) (os : List Owned) → Wants D (pairs_hold S os) (pairs_want S D os)
unfolding pairs_hold pairs_want
pairs-want S D [] = none-wants D
pairs-want S D (o ∷ os) = both-want (one-wants D (S.filling o.pair.filling).column o.pair.value) (pairs-want S D os)

pub held-wants : (S : Scheme) (D : Database) (h : Holding) → Wants D (held_in S h) (wanted S D h)
held-wants S D h = both-want (pairs-want S D h.values) (ranges-want S D (all_ranges h.ranges))

-- ---- what is cached

-- the cached rows are the smallest row set for what is held
abbrev pub Sound : Scheme → Database → Cache → Type 0
Sound S D c = Smallest S D (held_in S c.held) (marked c.marks)

-- the empty cache is sound
pub empty-sound : (S : Scheme) (D : Database) → Sound S D (empty_cache D)
unfolding empty_cache pairs_hold some_range all_ranges tab
empty-sound S D = marks-smallest (none-smallest S D)

-- a load of one more value gives the smallest set with it
pub refer-smallest : {S : Scheme} {D : Database} (c : Cache) (p : Pair) → Sound S D c →
    Smallest S D (held_in S (with_pair c.held p)) (reached (refer_levels S D (marked c.marks) p))
unfolding refer_levels
refer-smallest {S} {D} c p m = rw (held_more S c.held p) (load-smallest m (one-wants D (S.filling p.filling).column p.value))

-- so does a load of one more range
pub range-smallest : {S : Scheme} {D : Database} (c : Cache) (r : Range) → Sound S D c →
    Smallest S D (held_in S (with_range c.held r)) (reached (range_levels S D (marked c.marks) r))
unfolding range_levels
range-smallest {S} {D} c r m = rw (range-more S c.held r) (load-smallest m (range-wants S D r))

-- a reload gives the smallest set for whatever is held
pub held-smallest : (S : Scheme) (D : Database) (h : Holding) → Smallest S D (held_in S h) (reached (reload_levels S D h))
unfolding reload_levels
held-smallest S D h = reload-smallest (held-wants S D h)

cond-sound : {S : Scheme} {D : Database} (b : Bool) (d c : Cache) → Sound S D d → Sound S D c → Sound S D (cond b d c)
cond-sound true d c m n = m
cond-sound false d c m n = n

-- an operation leaves a sound cache sound
pub step-sound : {S : Scheme} {D : Database} (c : Cache) (o : Operation) → Sound S D c → Sound S D (cache_after S D c o)
unfolding effect
step-sound {S} c (refer p) m = cond-sound (taken S c.held p) _ c (marks-smallest (refer-smallest c p m)) m
step-sound {S} {D} c (drop p) m = cond-sound (holds c.held p) _ c (marks-smallest (held-smallest S D (without_pair c.held p))) m
step-sound c (ask q) m = m
step-sound {S} {D} c (query q out) m =
    cond-sound (refers S D c.held (marked c.marks) q out) _ c (marks-smallest (refer-smallest c (pair_for S q) m)) m
step-sound c (name d) m = cond-sound (ltb d desks) (at_desk c d) c m m
step-sound {S} c (refer_range r) m = cond-sound (range_taken S c.held r) _ c (marks-smallest (range-smallest c r m)) m
step-sound {S} {D} c (drop_range r) m = cond-sound (holds_range c.held r) _ c (marks-smallest (held-smallest S D (without_range c.held r))) m

-- so does a run
pub run_sound : {S : Scheme} {D : Database} (c : Cache) (os : List Operation) → Sound S D c → Sound S D (cache_from S D c os)
unfolding cache_from
run_sound c [] m = m
run_sound {S} {D} c (o ∷ os) m = run_sound (cache_after S D c o) os (step-sound c o m)

-- ---- a sound cache and the reload of what it holds

-- the marks of a reload make a sound cache
pub reload-sound : (S : Scheme) (D : Database) (h : Holding) → Sound S D (reloaded S D h)
reload-sound S D h = marks-smallest (held-smallest S D h)

-- the rows that a sound cache marks are those that a reload reaches
pub sound-reloaded : {S : Scheme} {D : Database} (c : Cache) → Sound S D c → (r : ℕ) → marked c.marks r ≡ reached (reload_levels S D c.held) r
sound-reloaded {S} {D} c m = one-smallest m (held-smallest S D c.held)

-- ---- what a run holds

held-cond : (b : Bool) (c d : Cache) → (cond b c d).held ≡ cond b c.held d.held
held-cond true c d = refl
held-cond false c d = refl

-- what an operation leaves held is found from the rows, the operands and the words lent alone
pub step-held : {S : Scheme} {D : Database} (c : Cache) (o : Operation) → Sound S D c → (cache_after S D c o).held ≡ held_after S D c.held o
unfolding effect held_after
step-held {S} c (refer p) m = held-cond (taken S c.held p) _ c
step-held c (drop p) m = held-cond (holds c.held p) _ c
step-held c (ask q) m = refl
step-held {S} {D} c (query q out) m =
    held-cond (refers S D c.held (marked c.marks) q out) _ c ∙
    ap (λ (X : RowSet). cond (refers S D c.held X q out) (with_pair c.held (pair_for S q)) c.held) (fun_ext (sound-reloaded c m))
step-held c (name d) m = held-cond (ltb d desks) (at_desk c d) c
step-held {S} c (refer_range r) m = held-cond (range_taken S c.held r) _ c
step-held c (drop_range r) m = held-cond (holds_range c.held r) _ c

-- so is what a run leaves held
pub run-held : {S : Scheme} {D : Database} (c : Cache) (os : List Operation) → Sound S D c → (cache_from S D c os).held ≡ held_from S D c.held os
unfolding cache_from held_from
run-held c [] m = refl
run-held {S} {D} c (o ∷ os) m =
    run-held (cache_after S D c o) os (step-sound c o m) ∙ ap (λ (h : Holding). held_from S D h os) (step-held c o m)
