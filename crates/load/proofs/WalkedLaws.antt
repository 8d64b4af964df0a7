-- Values that have been walked: none at first, a walk of one more, and what is left to do for one that has been walked. Assumes nothing.
use Prim.Native.Nat.{ℕ, ◌+◌, ◌*◌, ◌≤◌, ◌<◌}
use native.Mathlib.Decide.{dec_lt}
use native.Mathlib.Omega.{arith}
use mathlib.Core.Path.{◌≡◌, sym, ap, ◌∙◌}
use mathlib.Core.Logic.{⊎_elim}
use mathlib.Core.Bool.{Bool, true, false, cond}
use mathlib.Core.List.{List}
use lib.ListN.{length, get_or, set, replicate, length-replicate, get_or-replicate, get_or-eq_default}
use lib.Seq.{get_or-set_other}
use Rattle.finite.proofs.Bools.{same_number, clash}
use Rattle.model.specs.Database.{Database}
use Rattle.model.specs.Cache.{RowSet}
use Rattle.model.specs.Rounds.{level, or_else}
use Rattle.load.specs.Queue.{added, Listed, Grown}
use Rattle.load.specs.Walked.{Walked, alike, along}
use Rattle.load.proofs.AlongLaws.{along-alike, along-none}
use Rattle.load.proofs.RaisedLaws.{raised_at}
use Rattle.model.proofs.RoundsLaws.{or_else-kept}
use Rattle.load.proofs.QueueLaws.{grown-idle, grown-level, grown-none}

-- ---- a row that is demanded has a level after the step

or_else-some : (l m : ℕ) → 0 < m → 0 < or_else l m
or_else-some l m h = go (dec_lt 0 l)
  where
    go : Dec (0 < l) → 0 < or_else l m
    go (yes p) = omega (arith, or_else-kept l m p)
    go (no p) = let e : l ≡ 0 = omega arith in rw e h

grown-reached : (n : ℕ) (P : RowSet) (L q : List ℕ) (end : ℕ) (L' q' : List ℕ) (end' : ℕ) → 0 < n → Grown n P L q end L' q' end' → (s : ℕ) → s < 512 →
    P s ≡ true → 0 < level L' s
grown-reached n P L q end L' q' end' o g s l t =
    let e : level L' s ≡ or_else (level L s) n = ap (λ (K : List ℕ). level K s) g.levels ∙ raised_at L n P s l ∙ ap (λ (b : Bool). or_else (level L s) (cond b n 0)) t in
    omega (arith, e, or_else-some (level L s) n o)

-- ---- none has been walked

pub unwalked : (i : ℕ) → get_or (replicate 4096 false) i false ≡ false
unwalked i = go (dec_lt i 4096)
  where
    go : Dec (i < 4096) → get_or (replicate 4096 false) i false ≡ false
    go (yes b) = get_or-replicate 4096 i false false b
    go (no b) = get_or-eq_default (replicate 4096 false) false {n = i} (omega (arith, length-replicate {A = Bool} 4096 false))

pub walked_none : (D : Database) (L : List ℕ) → Walked D (replicate 4096 false) L
walked_none D L = record { levels = λ r p l t s m h. clash t (unwalked (8 * r + p)) }

-- ---- a walk along place p from r

module _ (D : Database) (p r n : ℕ) (L q : List ℕ) (end : ℕ) where
  -- it passes no row
  pub walk-empty : 512 ≤ r → length L ≡ 512 → Listed (added L) q end → Grown n (along D p r) L q end L q end
  walk-empty h e u = grown-idle n L q end (along D p r) e u (λ s l. along-none D p r h s)

  module _ (l : r < 512) (b : p < 8) (walked : List Bool) (w : Walked D walked L) where
    -- the value has been walked: a walk adds nothing
    pub walk-again : get_or walked (8 * r + p) false ≡ true → length L ≡ 512 → Listed (added L) q end → Grown n (along D p r) L q end L q end
    walk-again t e u = grown-none n L q end (along D p r) e u (λ s m h. w.levels r p b t s m (sym (along-alike D p r l s) ∙ h))

    -- it is walked now
    pub walk-marked : (L' q' : List ℕ) (end' : ℕ) → 0 < n → Grown n (along D p r) L q end L' q' end' → Walked D (set walked (8 * r + p) true) L'
    walk-marked L' q' end' o g =
        record { levels = λ x y c t s m h. ⊎_elim (here x y c s m h) (other x y c t s m h) (same_number (8 * x + y) (8 * r + p)) }
      where
        here : (x y : ℕ) → y < 8 → (s : ℕ) → s < 512 → alike D x y s ≡ true → 8 * x + y ≡ 8 * r + p → 0 < level L' s
        here x y c s m h e =
            let ex : x ≡ r = omega arith in
            let ey : y ≡ p = omega arith in
            let h' : alike D r p s ≡ true = rw (ex, ey) at h in
            grown-reached n (along D p r) L q end L' q' end' o g s m (along-alike D p r l s ∙ h')

        other : (x y : ℕ) → y < 8 → get_or (set walked (8 * r + p) true) (8 * x + y) false ≡ true → (s : ℕ) → s < 512 → alike D x y s ≡ true →
            (8 * x + y ≡ 8 * r + p → ⊥) → 0 < level L' s
        other x y c t s m h ne =
            let was = w.levels x y c (sym (get_or-set_other walked (8 * r + p) (8 * x + y) true false ne) ∙ t) s m h in
            omega (arith, was, grown-level n (along D p r) L q end L' q' end' g s m was)
