-- A round by the queue: the rows from `from` on are those of the round before, and what they demand is what the model's round adds. Assumes nothing.
use Prim.Native.Nat.{ℕ, suc, ◌+◌, ◌≤◌, ◌<◌}
use native.Mathlib.Decide.{dec_lt}
use native.Mathlib.Omega.{arith}
use mathlib.Core.Path.{◌≡◌, sym, ap, subst, ◌∙◌}
use mathlib.Core.Bool.{Bool, true, false, cond, ◌&&◌, and-eq-true_iff}
use mathlib.Core.List.{List}
use borrow.Author.Tests.{ltb-true, eqb-true, eq-eqb, leb-true, le-leb, lt-leb}
use lib.Dec.{eqb, leb}
use lib.ListN.{get_or}
use Rattle.finite.specs.Finite.{any, tab}
use Rattle.finite.proofs.Bools.{both, and_left, refute, bool-ext}
use Rattle.finite.proofs.Search.{any-true, any_found, any-refuted}
use Rattle.model.specs.Scheme.{Scheme}
use Rattle.model.specs.Database.{Database}
use Rattle.model.specs.Cache.{RowSet}
use Rattle.model.specs.Rounds.{level, or_else, demands, reached_from, next}
use Rattle.load.specs.Raised.{raised}
use Rattle.load.specs.Queue.{added, Listed, Grown, Front}
use Rattle.load.proofs.QueueLaws.{is-added, grown-level, listed-at}
use Rattle.load.proofs.RaisedLaws.{raised-same}

-- a row in the queue has been added
pub queue-level : (L q : List ℕ) (end i : ℕ) → Listed (added L) q end → i < end → 1 < level L (get_or q i 0)
unfolding added
queue-level L q end i u l = ltb-true 1 _ (u.is i l)

-- round 0
pub front-start : (L q : List ℕ) (end : ℕ) → Listed (added L) q end → ((r : ℕ) → level L r ≤ 2) → Front 2 L q 0 end
front-start L q end u h =
    record { order = omega arith; earlier = λ i l. absurd (omega arith); front = λ i l k. omega (arith, h (get_or q i 0), queue-level L q end i u k) }

-- nothing was added: no row has a level above 1
pub queue-empty : (L q : List ℕ) (end : ℕ) → Listed (added L) q end → end ≡ 0 → (r : ℕ) → r < 512 → level L r ≤ 1
queue-empty L q end u z r l = go (dec_lt 1 (level L r))
  where
    go : Dec (1 < level L r) → level L r ≤ 1
    go (yes h) = let f = listed-at _ _ _ u r l (is-added L r h) in absurd (omega (arith, f.1))
    go (no h) = omega arith

module _ (m : ℕ) (L q : List ℕ) (from end : ℕ) (u : Listed (added L) q end) (w : Front m L q from end) where
  -- a row of level m stands there
  pub front-there : 1 < m → (r : ℕ) → r < 512 → level L r ≡ m → (i : ℕ) × (from ≤ i) × (i < end) × (get_or q i 0 ≡ r)
  front-there o r l e =
      let f = listed-at _ _ _ u r l (is-added L r (omega arith)) in
      let x : level L (get_or q f.0 0) ≡ m = ap (level L) f.2 ∙ e in
      (f.0, from_on f.0 x (dec_lt f.0 from), f.1, f.2)
    where
      from_on : (i : ℕ) → level L (get_or q i 0) ≡ m → Dec (i < from) → from ≤ i
      from_on i x (yes k) = absurd (omega (arith, w.earlier i k))
      from_on i x (no k) = omega arith

  -- the front after a step to a higher level
  pub front-next : (n : ℕ) → m < n → (P : RowSet) (L' q' : List ℕ) (end' : ℕ) → Grown n P L q end L' q' end' → Front n L' q' end end'
  front-next n o P L' q' end' g = record { order = g.longer; earlier = λ i l. earlier i l (dec_lt i from); front = g.fresh }
    where
      same : (i : ℕ) → i < end → level L' (get_or q' i 0) ≡ level L (get_or q i 0)
      same i l =
          ap (level L') (g.kept i l) ∙ grown-level n P L q end L' q' end' g (get_or q i 0) (u.row i l) (omega (arith, queue-level L q end i u l))

      earlier : (i : ℕ) → i < end → Dec (i < from) → level L' (get_or q' i 0) < n
      earlier i l (yes k) = omega (arith, same i l, w.earlier i k)
      earlier i l (no k) = omega (arith, same i l, w.front i (omega arith) l)

pub front_at : (m n : ℕ) (L q : List ℕ) (from end : ℕ) → m ≡ n → Front m L q from end → Front n L q from end
front_at m n L q from end e w = subst (λ (k : ℕ). Front k L q from end) e w

-- ---- whether a round added a row

-- the queue has not grown: no row has the level
pub front-quiet : (m : ℕ) (L q : List ℕ) (from end : ℕ) → Listed (added L) q end → Front m L q from end → 1 < m → end ≡ from → any 512 (λ r. eqb (level L r) m) ≡ false
front-quiet m L q from end u w o e =
    any-refuted 512 (λ r. eqb (level L r) m)
    (λ r l. refute (eqb (level L r) m) (λ t. let f = front-there m L q from end u w o r l (eqb-true _ _ t) in omega (arith, f.1, f.2)))

-- it has
pub front-some : (m : ℕ) (L q : List ℕ) (from end : ℕ) → Listed (added L) q end → Front m L q from end → (end ≡ from → ⊥) → any 512 (λ r. eqb (level L r) m) ≡ true
front-some m L q from end u w ne =
    let l : from < end = omega (arith, ne, w.order) in
    any-true 512 (λ r. eqb (level L r) m) (get_or q from 0) (u.row from l) (eq-eqb _ _ (w.front from (omega arith) l))

-- ---- the round

-- place j, from `from` on, holds a row that demands row r
unfoldable pub asks : (ℕ → RowSet) → ℕ → List ℕ → ℕ → RowSet
asks d from q j r = leb from j && d (get_or q j 0) r

-- no place before `from` counts
pub asks_none : (d : ℕ → RowSet) (from : ℕ) (q : List ℕ) (r : ℕ) → any from (λ j. asks d from q j r) ≡ false
unfolding asks
asks_none d from q r = any-refuted from (λ j. leb from j && d (get_or q j 0) r) (λ j l. and_left (leb from j) _ (lt-leb from j l))

-- the row of place j
pub asks-here : (d : ℕ → RowSet) (from : ℕ) (q : List ℕ) (j : ℕ) → from ≤ j → (x : ℕ) → x ≡ get_or q j 0 → (r : ℕ) → d x r ≡ asks d from q j r
unfolding asks
asks-here d from q j l x e r = ap (λ (s : ℕ). d s r) e ∙ sym (ap (λ (b : Bool). b && d (get_or q j 0) r) (le-leb from j l))

module _ (S : Scheme) (D : Database) (z : D.size ≡ 512) (n : ℕ) (L q : List ℕ) (from end : ℕ) (u : Listed (added L) q end) (w : Front (n + 2) L q from end) where
  -- what the rows in the front demand is what the rows of round n demand
  asked : (r : ℕ) → any end (λ j. asks (demands S D) from q j r) ≡ reached_from S D n L r
  unfolding asks reached_from
  asked r = bool-ext _ _ there back ∙ ap (λ (m : ℕ). any m (λ s. eqb (level L s) (suc (suc n)) && demands S D s r)) (sym z)
    where
      there : any end (λ j. leb from j && demands S D (get_or q j 0) r) ≡ true → any 512 (λ s. eqb (level L s) (suc (suc n)) && demands S D s r) ≡ true
      there t =
          let f = any_found end (λ j. leb from j && demands S D (get_or q j 0) r) t in
          let b = (and-eq-true_iff (leb from f.0) (demands S D (get_or q f.0 0) r)).0 f.2 in
          let e = w.front f.0 (leb-true _ _ b.0) f.1 in
          any-true 512 (λ s. eqb (level L s) (suc (suc n)) && demands S D s r) (get_or q f.0 0) (u.row f.0 f.1)
          (both (eq-eqb (level L (get_or q f.0 0)) (suc (suc n)) (omega arith)) b.1)

      back : any 512 (λ s. eqb (level L s) (suc (suc n)) && demands S D s r) ≡ true → any end (λ j. leb from j && demands S D (get_or q j 0) r) ≡ true
      back t =
          let f = any_found 512 (λ s. eqb (level L s) (suc (suc n)) && demands S D s r) t in
          let b = (and-eq-true_iff (eqb (level L f.0) (suc (suc n))) (demands S D f.0 r)).0 f.2 in
          let x : level L f.0 ≡ suc (suc n) = eqb-true _ _ b.0 in
          let g = front-there (n + 2) L q from end u w (omega arith) f.0 f.1 (omega arith) in
          any-true end (λ j. leb from j && demands S D (get_or q j 0) r) g.0 g.2 (both (le-leb from g.0 g.1) (ap (λ (s : ℕ). demands S D s r) g.3 ∙ b.1))

  -- the round of the model
  pub front-round : (M : List ℕ) → M ≡ raised L (n + 3) (λ r. any end (λ j. asks (demands S D) from q j r)) → M ≡ next S D n L
  unfolding next raised
  front-round M e =
      let b : n + 3 ≡ suc (suc (suc n)) = omega arith in
      e ∙ raised-same L (n + 3) _ _ (λ r l. asked r) ∙ ap (λ (m : ℕ). raised L m (reached_from S D n L)) b
      ∙ ap (λ (m : ℕ). tab m (λ r. or_else (level L r) (cond (reached_from S D n L r) (suc (suc (suc n))) 0))) (sym z)
