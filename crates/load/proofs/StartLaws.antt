-- Round 0, and what the later rounds ask of its levels. Assumes nothing.
use Prim.Native.Nat.{ℕ, zero, suc, ◌≤◌, ◌<◌}
use native.Mathlib.Decide.{dec_lt}
use native.Mathlib.Omega.{arith}
use mathlib.Core.Path.{◌≡◌, refl, sym, ap, ap₂, subst, ◌∙◌}
use mathlib.Core.Bool.{Bool, true, false, cond, ◌||◌}
use mathlib.Core.List.{List}
use lib.Dec.{ltb}
use lib.ListN.{length, replicate, get_or-replicate}
use Rattle.finite.specs.Finite.{any, tab}
use Rattle.finite.proofs.Search.{any-front}
use Rattle.finite.proofs.Tables.{length-tab, tab-at, tab-past, tab-same, replicate-tab}
use Rattle.model.specs.Scheme.{Scheme}
use Rattle.model.specs.Database.{Database, has}
use Rattle.model.specs.Cache.{RowSet}
use Rattle.model.specs.Rounds.{level, or_else, start, levels, load}
use Rattle.model.specs.Ranges.{has_range}
use Rattle.model.specs.Holding.{Owned, pairs_want, wanted}
use Rattle.state.specs.declared.held.Held.{Held}
use Rattle.state.specs.Meaning.{cell_of, owned_of, values_of, holding_of}
use Rattle.state.specs.Held.{held_at}
use Rattle.load.specs.Raised.{raised}
use Rattle.state.proofs.RangeLists.{ranges-any}
use Rattle.load.specs.Queue.{added, Listed}
use Rattle.load.specs.Ranges.{desks_want}
use Rattle.load.proofs.QueueLaws.{listed-none, not-added}

-- ---- what `close` asks of the levels, and what it gives on round 0

module _ (D : Database) (old seed : RowSet) where
  length-start : length (start D old seed) ≡ D.size
  unfolding start
  length-start = length-tab D.size _

  start-low : (r : ℕ) → level (start D old seed) r ≤ 2
  unfolding start
  start-low r = at_row (dec_lt r D.size)
    where
      low : (a b : Bool) (l : ℕ) → l ≡ cond a 1 (cond b 2 0) → l ≤ 2
      low true b l e = omega arith
      low false true l e = omega arith
      low false false l e = omega arith

      at_row : Dec (r < D.size) → level (start D old seed) r ≤ 2
      at_row (yes h) = low (old r) (seed r) _ (tab-at 0 D.size (λ i. cond (old i) 1 (cond (seed i) 2 0)) r h)
      at_row (no h) = omega (arith, tab-past {A = ℕ} 0 D.size (λ i. cond (old i) 1 (cond (seed i) 2 0)) r (omega arith))

-- the same in a database of 512 row numbers
module _ (D : Database) (z : D.size ≡ 512) (old seed : RowSet) (L : List ℕ) (e : L ≡ start D old seed) where
  pub started-long : length L ≡ 512
  started-long = ap length e ∙ length-start D old seed ∙ z

  pub started-low : (r : ℕ) → level L r ≤ 2
  started-low r = subst (λ (K : List ℕ). level K r ≤ 2) (sym e) (start-low D old seed r)

pub load_is : (S : Scheme) (D : Database) → D.size ≡ 512 → (old seed : RowSet) → levels S D (start D old seed) 512 ≡ load S D old seed
unfolding load
load_is S D z old seed = ap (levels S D (start D old seed)) (sym z)

-- ---- round 0 of a load of one value, over the levels L of the cached rows

module _ (old : RowSet) (L : List ℕ) (e : L ≡ tab 512 (λ r. cond (old r) 1 0)) where
  cached-at : (r : ℕ) → r < 512 → level L r ≡ cond (old r) 1 0
  cached-at r l = ap (λ (K : List ℕ). level K r) e ∙ tab-at 0 512 (λ i. cond (old i) 1 0) r l

  pub cached-long : length L ≡ 512
  cached-long = ap length e ∙ length-tab 512 _

  -- no row has been added
  pub cached-added : (q : List ℕ) → length q ≡ 512 → Listed (added L) q 0
  cached-added q l = listed-none (added L) q l (λ r h. not-added L r (low (old r) (level L r) (cached-at r h)))
    where
      low : (a : Bool) (l : ℕ) → l ≡ cond a 1 0 → l ≤ 1
      low true l e = omega arith
      low false l e = omega arith

  -- a step to level 2
  pub start-raised : (D : Database) → D.size ≡ 512 → (P seed : RowSet) (M : List ℕ) → M ≡ raised L 2 P → ((r : ℕ) → r < 512 → P r ≡ seed r) →
      M ≡ start D old seed
  unfolding start raised
  start-raised D z P seed M g h =
      g ∙ tab-same 512 _ _ (λ r l. ap₂ (λ (m : ℕ) (b : Bool). or_else m (cond b 2 0)) (cached-at r l) (h r l) ∙ one (old r) (seed r))
      ∙ ap (λ (n : ℕ). tab n (λ r. cond (old r) 1 (cond (seed r) 2 0))) (sym z)
    where
      one : (a b : Bool) → or_else (cond a 1 0) (cond b 2 0) ≡ cond a 1 (cond b 2 0)
      one true b = refl
      one false b = refl

-- ---- round 0 of a load of all held values

-- a row is wanted if it has one of the values in its filling's column
wanted-tab : (S : Scheme) (D : Database) (r n : ℕ) (f : ℕ → Owned) →
    pairs_want S D (tab n f) r ≡ any n (λ i. has D (S.filling (f i).pair.filling).column (f i).pair.value r)
unfolding pairs_want tab any
wanted-tab S D r zero f = refl
wanted-tab S D r (suc n) f =
    ap (λ (b : Bool). has D (S.filling (f 0).pair.filling).column (f 0).pair.value r || b) (wanted-tab S D r n (λ i. f (suc i))) ∙
    sym (any-front n (λ i. has D (S.filling (f i).pair.filling).column (f i).pair.value r))

wanted-any : (S : Scheme) (D : Database) (h : Held) (r : ℕ) →
    any h.count (λ i. has D (S.filling (held_at h i).pair.filling).column (cell_of (held_at h i).pair.value) r) || desks_want S D h r ≡
    wanted S D (holding_of h) r
unfolding values_of
wanted-any S D h r =
    ap₂ ◌||◌ (sym (wanted-tab S D r h.count (λ i. owned_of (held_at h i)))) (sym (ranges-any (λ q. has_range D (S.filling q.filling).column q r) h))

-- from nothing, by steps for the held values and ranges
pub start-all : (S : Scheme) (D : Database) → D.size ≡ 512 → (h : Held) (L : List ℕ) →
    L ≡ raised (replicate 512 0) 2
    (λ r. any h.count (λ i. has D (S.filling (held_at h i).pair.filling).column (cell_of (held_at h i).pair.value) r) || desks_want S D h r) →
    L ≡ start D (λ _. false) (wanted S D (holding_of h))
start-all S D z h L e =
    start-raised (λ _. false) (replicate 512 0) (replicate-tab 512 0) D z
    (λ r. any h.count (λ i. has D (S.filling (held_at h i).pair.filling).column (cell_of (held_at h i).pair.value) r) || desks_want S D h r)
    (wanted S D (holding_of h)) L e (λ r l. wanted-any S D h r)

-- no row has been added
pub none-added : (q : List ℕ) → length q ≡ 512 → Listed (added (replicate 512 0)) q 0
unfolding added
none-added q e = listed-none _ q e (λ r l. ap (ltb 1) (get_or-replicate {A = ℕ} 512 r 0 0 l))
