-- A load ends with the smallest closed row set that has the rows cached before and the rows of round 0; its levels are distances; and it may
-- stop at the first round that adds nothing. Assumes nothing.
use Prim.Native.Nat.{ℕ, zero, suc, ◌+◌, ◌-◌, ◌≤◌, ◌<◌}
use native.Mathlib.Decide.{dec_lt}
use native.Mathlib.Nat.{eq-zero-or-pos, add-zero, add-suc}
use native.Mathlib.Omega.{arith}
use mathlib.Core.Path.{◌≡◌, refl, sym, ap, ap₂, ◌∙◌}
use mathlib.Core.Logic.{◌⊎◌, inl, inr, ⊎_elim}
use mathlib.Core.Bool.{Bool, true, false, cond, ◌&&◌, and-eq-true_iff}
use mathlib.Core.List.{List}
use borrow.Author.Tests.{eqb-true, eq-eqb, ltb-true, lt-ltb, le-ltb}
use lib.Dec.{eqb}
use lib.ListN.{length}
use lib.Seq.{ext_get_or}
use Rattle.finite.specs.Finite.{any, count}
use Rattle.finite.proofs.Bools.{both, dec, clash, refute}
use Rattle.finite.proofs.Search.{any-true, any_found, any_none}
use Rattle.finite.proofs.Counting.{count-le, count-more, count-prefix}
use Rattle.finite.proofs.Tables.{tab-at, tab-past, tab-same, length-tab}
use Rattle.model.specs.Scheme.{Scheme}
use Rattle.model.specs.Database.{Database}
use Rattle.model.specs.Cache.{RowSet, Inside}
use Rattle.model.specs.Rounds.{level, or_else, start, demands, reached_from, next, levels, reached, load, later_rounds}
use Rattle.model.proofs.Closed.{Demand, demands-Demand, Demand-demands, Closed}

-- a row is reached exactly if it has a level
pub reached-level : (L : List ℕ) (r : ℕ) → reached L r ≡ true → 0 < level L r
unfolding reached
reached-level L r e = ltb-true 0 (level L r) e

pub level-reached : (L : List ℕ) (r : ℕ) → 0 < level L r → reached L r ≡ true
unfolding reached
level-reached L r p = lt-ltb 0 (level L r) p

pub or_else-zero : (l : ℕ) → or_else l 0 ≡ l
or_else-zero zero = refl
or_else-zero (suc l) = refl

pub or_else-kept : (l m : ℕ) → 0 < l → or_else l m ≡ l
or_else-kept zero m h = absurd (omega arith)
or_else-kept (suc l) m h = refl

pub zero-unreached : (L : List ℕ) (r : ℕ) → level L r ≡ 0 → reached L r ≡ false
unfolding reached
zero-unreached L r z = le-ltb 0 (level L r) (omega arith)

-- The levels of a load are distances: 1 for a row cached before, 2 for the other rows of round 0, and for any other row that is reached one more
-- than the lowest level of a row that demands it.
pub record Distances (S : Scheme) (D : Database) (old seed : RowSet) (L : List ℕ) : Type 0 where
  pub olds : (r : ℕ) → old r ≡ true → level L r ≡ 1
  pub is-old : (r : ℕ) → level L r ≡ 1 → old r ≡ true
  pub seeds : (r : ℕ) → seed r ≡ true → (0 < level L r) × (level L r ≤ 2)
  pub is-seed : (r : ℕ) → level L r ≡ 2 → seed r ≡ true
  pub link : (r m : ℕ) → level L r ≡ suc (suc (suc m)) → (s : ℕ) × (level L s ≡ suc (suc m)) × Demand S D s r
  pub closed : (s r : ℕ) → 0 < level L s → Demand S D s r → (0 < level L r) × (level L r ≤ suc (level L s))

-- round n added no row
unfoldable pub Quiet : ℕ → List ℕ → Type 0
Quiet n L = (r : ℕ) → level L r ≡ suc (suc n) → ⊥

-- ---- round 0

module _ (D : Database) (old seed : RowSet) where
  start-at : (r : ℕ) → r < D.size → level (start D old seed) r ≡ cond (old r) 1 (cond (seed r) 2 0)
  unfolding start
  start-at r h = tab-at 0 D.size (λ i. cond (old i) 1 (cond (seed i) 2 0)) r h

  start-past : (r : ℕ) → D.size ≤ r → level (start D old seed) r ≡ 0
  unfolding start
  start-past r h = tab-past 0 D.size (λ i. cond (old i) 1 (cond (seed i) 2 0)) r h

  start-old : (r : ℕ) → r < D.size → old r ≡ true → level (start D old seed) r ≡ 1
  start-old r h e = start-at r h ∙ rw e

  start-seed : (r : ℕ) → r < D.size → seed r ≡ true → 0 < level (start D old seed) r
  start-seed r h e = rw (start-at r h, e) (go (old r))
    where
      go : (b : Bool) → 0 < cond b 1 2
      go true = omega arith
      go false = omega arith

  -- a row with a level: cached before, or of round 0
  start-cases : (r : ℕ) → 0 < level (start D old seed) r →
      ((old r ≡ true) × (level (start D old seed) r ≡ 1)) ⊎ ((seed r ≡ true) × (level (start D old seed) r ≡ 2))
  start-cases r p = at_row (dec_lt r D.size)
    where
      go : (a b : Bool) (l : ℕ) → l ≡ cond a 1 (cond b 2 0) → 0 < l → ((a ≡ true) × (l ≡ 1)) ⊎ ((b ≡ true) × (l ≡ 2))
      go true b l e q = inl (refl, e)
      go false true l e q = inr (refl, e)
      go false false l e q = absurd (omega arith)

      at_row : Dec (r < D.size) → ((old r ≡ true) × (level (start D old seed) r ≡ 1)) ⊎ ((seed r ≡ true) × (level (start D old seed) r ≡ 2))
      at_row (yes h) = go (old r) (seed r) (level (start D old seed) r) (start-at r h) p
      at_row (no h) = absurd (omega (arith, start-past r (omega arith)))

-- loads whose rows cached before and rows of round 0 agree row by row are the same
pub load_same : (S : Scheme) (D : Database) (old old' seed seed' : RowSet) → ((r : ℕ) → r < D.size → old r ≡ old' r) →
    ((r : ℕ) → r < D.size → seed r ≡ seed' r) → load S D old seed ≡ load S D old' seed'
unfolding load start
load_same S D old old' seed seed' h k =
    ap (λ (L : List ℕ). levels S D L D.size) (tab-same D.size _ _ (λ r l. ap₂ (λ (a b : Bool). cond a 1 (cond b 2 0)) (h r l) (k r l)))

-- ---- a later round

-- row r is added by a row of round n
record Added (S : Scheme) (D : Database) (n : ℕ) (L : List ℕ) (r : ℕ) : Type 0 where
  was : level L r ≡ 0
  now : level (next S D n L) r ≡ suc (suc (suc n))
  by : ℕ
  by_level : level L by ≡ suc (suc n)
  demand : Demand S D by r

module _ (S : Scheme) (D : Database) (n : ℕ) (L : List ℕ) where
  -- what a round leaves of a row's level
  pub next-at : (r : ℕ) → r < D.size → level (next S D n L) r ≡ or_else (level L r) (cond (reached_from S D n L r) (suc (suc (suc n))) 0)
  unfolding next
  next-at r h = tab-at 0 D.size (λ i. or_else (level L i) (cond (reached_from S D n L i) (suc (suc (suc n))) 0)) r h

  pub next_past : (r : ℕ) → D.size ≤ r → level (next S D n L) r ≡ 0
  unfolding next
  next_past r h = tab-past 0 D.size (λ i. or_else (level L i) (cond (reached_from S D n L i) (suc (suc (suc n))) 0)) r h

  -- a row keeps its level
  next-keeps : (r : ℕ) → r < D.size → 0 < level L r → level (next S D n L) r ≡ level L r
  next-keeps r h p = next-at r h ∙ or_else-kept (level L r) _ p

  -- a demanded row has a level
  next-adds : (s r : ℕ) → s < D.size → r < D.size → level L s ≡ suc (suc n) → Demand S D s r → 0 < level (next S D n L) r
  unfolding reached_from
  next-adds s r k h e d = rw (next-at r h, t) (go (level L r))
    where
      t : reached_from S D n L r ≡ true
      t = any-true D.size (λ i. eqb (level L i) (suc (suc n)) && demands S D i r) s k (both (eq-eqb _ _ e) (Demand-demands d))

      go : (l : ℕ) → 0 < or_else l (suc (suc (suc n)))
      go zero = omega arith
      go (suc l) = omega arith

  -- a row with a level had it, or is added
  next-cases : (r : ℕ) → 0 < level (next S D n L) r → (level (next S D n L) r ≡ level L r) ⊎ Added S D n L r
  unfolding reached_from
  next-cases r p = at_row (dec_lt r D.size)
    where
      added : level L r ≡ 0 → reached_from S D n L r ≡ true → level (next S D n L) r ≡ suc (suc (suc n)) → Added S D n L r
      added z t e =
          let f = any_found D.size (λ i. eqb (level L i) (suc (suc n)) && demands S D i r) t in
          let q = (and-eq-true_iff (eqb (level L f.0) (suc (suc n))) (demands S D f.0 r)).0 f.2 in
          record { was = z; now = e; by = f.0; by_level = eqb-true _ _ q.0; demand = demands-Demand S D f.0 r q.1 }

      go : (l : ℕ) (b : Bool) → level L r ≡ l → reached_from S D n L r ≡ b → level (next S D n L) r ≡ or_else l (cond b (suc (suc (suc n))) 0) →
          (level (next S D n L) r ≡ level L r) ⊎ Added S D n L r
      go zero true z t e = inr (added z t e)
      go zero false z t e = inl (e ∙ sym z)
      go (suc l) b z t e = inl (e ∙ sym z)

      at_row : Dec (r < D.size) → (level (next S D n L) r ≡ level L r) ⊎ Added S D n L r
      at_row (yes h) = go (level L r) (reached_from S D n L r) refl refl (next-at r h)
      at_row (no h) = absurd (omega (arith, next_past r (omega arith)))

-- the levels are one number for each row number
pub levels-length : (S : Scheme) (D : Database) (old seed : RowSet) (n : ℕ) → length (levels S D (start D old seed) n) ≡ D.size
unfolding levels start next
levels-length S D old seed zero = length-tab D.size _
levels-length S D old seed (suc n) = length-tab D.size _

-- ---- the invariant of the rounds

module _ (S : Scheme) (D : Database) (old seed : RowSet) where
  -- what holds of the levels when round n is done
  record Inv (n : ℕ) (L : List ℕ) : Type 0 where
    rows : (r : ℕ) → 0 < level L r → D.live r ≡ true
    bound : (r : ℕ) → level L r ≤ suc (suc n)
    -- levels 1 and 2: the rows cached before, and those of round 0
    olds : (r : ℕ) → old r ≡ true → level L r ≡ 1
    seeds : (r : ℕ) → seed r ≡ true → (0 < level L r) × (level L r ≤ 2)
    is-old : (r : ℕ) → level L r ≡ 1 → old r ≡ true
    is-seed : (r : ℕ) → level L r ≡ 2 → seed r ≡ true
    -- a later level: one of the level before demands the row
    link : (r m : ℕ) → level L r ≡ suc (suc (suc m)) → (s : ℕ) × (level L s ≡ suc (suc m)) × Demand S D s r
    -- what a row of an earlier round demands is there, at most one level later
    closed : (s r : ℕ) → 0 < level L s → level L s < suc (suc n) → Demand S D s r → (0 < level L r) × (level L r ≤ suc (level L s))
    least : (Y : RowSet) → Closed S D Y → Inside old Y → Inside seed Y → (r : ℕ) → 0 < level L r → Y r ≡ true

  inv-start : Closed S D old → Inside seed D.live → Inv 0 (start D old seed)
  inv-start C I =
      record {
        rows = λ r p. ⊎_elim (λ a. C.rows r a.0) (λ b. I r b.0) (start-cases D old seed r p);
        bound = two;
        olds = λ r a. start-old D old seed r (D.finite r (C.rows r a)) a;
        seeds = λ r b. (start-seed D old seed r (D.finite r (I r b)) b, two r);
        is-old = λ r e. ⊎_elim (λ a. a.0) (λ b. absurd (omega (arith, b.1))) (start-cases D old seed r (omega arith));
        is-seed = λ r e. ⊎_elim (λ a. absurd (omega (arith, a.1))) (λ b. b.0) (start-cases D old seed r (omega arith));
        link = λ r m e. absurd (let t = two r in omega arith);
        closed = λ s r p l d. ⊎_elim
            (λ a. let o = C.demanded s r a.0 d in let e = start-old D old seed r (D.finite r (C.rows r o)) o in omega arith)
            (λ b. absurd (omega (arith, b.1)))
            (start-cases D old seed s p);
        least = λ Y K i j r p. ⊎_elim (λ a. i r a.0) (λ b. j r b.0) (start-cases D old seed r p);
      }
    where
      two : (r : ℕ) → level (start D old seed) r ≤ 2
      two r =
          ⊎_elim (λ z. omega arith) (λ p. ⊎_elim (λ a. omega (arith, a.1)) (λ b. omega (arith, b.1)) (start-cases D old seed r p))
          (eq-zero-or-pos (level (start D old seed) r))

  module _ (n : ℕ) (L : List ℕ) (N : Inv n L) where
    -- a level stays
    stays : (r : ℕ) → 0 < level L r → level (next S D n L) r ≡ level L r
    stays r p = next-keeps S D n L r (D.finite r (N.rows r p)) p

    inv-next : Inv (suc n) (next S D n L)
    inv-next =
        record {
          rows = λ r p. ⊎_elim (λ e. N.rows r (omega arith)) (λ a. a.demand.target.live) (next-cases S D n L r p);
          bound = top;
          olds = λ r o. let p = N.olds r o in omega (arith, stays r (omega arith));
          seeds = λ r o. let p = N.seeds r o in omega (arith, stays r p.0);
          is-old = λ r e. ⊎_elim (λ h. N.is-old r (omega arith)) (λ a. absurd (omega (arith, a.now))) (next-cases S D n L r (omega arith));
          is-seed = λ r e. ⊎_elim (λ h. N.is-seed r (omega arith)) (λ a. absurd (omega (arith, a.now))) (next-cases S D n L r (omega arith));
          link = λ r m e. ⊎_elim
              (λ h. let f = N.link r m (omega arith) in (f.0, omega (arith, f.1, stays f.0 (omega (arith, f.1))), f.2))
              (λ a. (a.by, omega (arith, a.now, a.by_level, stays a.by (omega (arith, a.by_level))), a.demand))
              (next-cases S D n L r (omega arith));
          closed = λ s r p l d. ⊎_elim (λ e. kept s r p l d e (N.bound s)) (λ a. absurd (omega (arith, a.now))) (next-cases S D n L s p);
          least = λ Y K i j r p. ⊎_elim
              (λ e. N.least Y K i j r (omega arith))
              (λ a. K.demanded a.by r (N.least Y K i j a.by (omega (arith, a.by_level))) a.demand)
              (next-cases S D n L r p);
        }
      where
        top : (r : ℕ) → level (next S D n L) r ≤ suc (suc (suc n))
        top r =
            ⊎_elim (λ z. omega arith) (λ p. ⊎_elim (λ e. omega (arith, N.bound r)) (λ a. omega (arith, a.now)) (next-cases S D n L r p))
            (eq-zero-or-pos (level (next S D n L) r))

        kept : (s r : ℕ) → 0 < level (next S D n L) s → level (next S D n L) s < suc (suc (suc n)) → Demand S D s r →
            level (next S D n L) s ≡ level L s → level L s ≤ suc (suc n) →
            (0 < level (next S D n L) r) × (level (next S D n L) r ≤ suc (level (next S D n L) s))
        kept s r p l d e b = go (dec_lt (level L s) (suc (suc n)))
          where
            go : Dec (level L s < suc (suc n)) → (0 < level (next S D n L) r) × (level (next S D n L) r ≤ suc (level (next S D n L) s))
            go (yes h) = let q = N.closed s r (omega arith) h d in omega (arith, stays r q.0)
            go (no h) = let q = next-adds S D n L s r (D.finite s d.source.live) (D.finite r d.target.live) (omega arith) d in omega (arith, top r)

  -- ---- the last round

  quiet_next : (n : ℕ) (L : List ℕ) → Inv n L → Quiet n L → Quiet (suc n) (next S D n L)
  unfolding Quiet
  quiet_next n L N q r e = ⊎_elim (λ h. omega (arith, N.bound r)) (λ a. q a.by a.by_level) (next-cases S D n L r (omega arith))

  quiet? : (n : ℕ) (L : List ℕ) → Inv n L → Quiet n L ⊎ ((r : ℕ) × (level L r ≡ suc (suc n)))
  unfolding Quiet
  quiet? n L N = ⊎_elim
      (λ t. let f = any_found D.size (λ r. eqb (level L r) (suc (suc n))) t in inr (f.0, eqb-true _ _ f.2))
      (λ t. inl (λ r e. clash (eq-eqb _ _ e) (any_none D.size (λ i. eqb (level L i) (suc (suc n))) t r (D.finite r (N.rows r (omega arith))))))
      (dec (any D.size (λ r. eqb (level L r) (suc (suc n)))))

  module _ (C : Closed S D old) (I : Inside seed D.live) where
    inv : (n : ℕ) → Inv n (levels S D (start D old seed) n)
    unfolding levels
    inv zero = inv-start C I
    inv (suc n) = inv-next n (levels S D (start D old seed) n) (inv n)

    at-round : ℕ → List ℕ
    at-round n = levels S D (start D old seed) n

    rise : (n r : ℕ) → reached (at-round n) r ≡ true → reached (at-round (suc n)) r ≡ true
    unfolding at-round levels
    rise n r e =
        let p = reached-level (at-round n) r e in
        level-reached (at-round (suc n)) r (omega (arith, stays n (at-round n) (inv n) r p))

    -- as long as rounds add rows, each adds one
    grown : (n : ℕ) → Quiet n (at-round n) ⊎ (n < count D.size (reached (at-round n)))
    unfolding at-round levels
    grown zero = ⊎_elim inl (λ f. inr (some f.0 f.1)) (quiet? 0 (start D old seed) (inv 0))
      where
        some : (r : ℕ) → level (start D old seed) r ≡ 2 → 0 < count D.size (reached (start D old seed))
        some r e =
            let p = level-reached (start D old seed) r (omega arith) in
            let m = count-more D.size (λ _. false) (reached (start D old seed)) (λ i x. clash x refl) r (D.finite r ((inv 0).rows r (omega arith))) refl p in
            omega arith
    grown (suc n) =
        ⊎_elim (λ q. inl (quiet_next n (at-round n) (inv n) q))
        (λ c. ⊎_elim inl (λ f. inr (more c f.0 f.1)) (quiet? (suc n) (at-round (suc n)) (inv (suc n)))) (grown n)
      where
        more : n < count D.size (reached (at-round n)) → (r : ℕ) → level (at-round (suc n)) r ≡ suc (suc (suc n)) →
            suc n < count D.size (reached (at-round (suc n)))
        more c r e =
            let was : level (at-round n) r ≡ 0 = ⊎_elim (λ h. absurd (omega (arith, (inv n).bound r))) (λ a. a.was) (next-cases S D n (at-round n) r (omega arith)) in
            let m =
            count-more D.size (reached (at-round n)) (reached (at-round (suc n))) (rise n) r (D.finite r ((inv (suc n)).rows r (omega arith)))
            (zero-unreached (at-round n) r was) (level-reached (at-round (suc n)) r (omega arith)) in
            omega arith

    ended : Quiet D.size (at-round D.size)
    ended = ⊎_elim (λ q. q) (λ c. absurd (omega (arith, count-le D.size (reached (at-round D.size))))) (grown D.size)

    -- ---- the load

    pub load-bound : (s : ℕ) → level (load S D old seed) s < suc (suc D.size)
    unfolding load at-round Quiet
    load-bound s = let b = (inv D.size).bound s in let q : level (load S D old seed) s ≡ suc (suc D.size) → ⊥ = ended s in omega arith

    -- the levels of a load are distances
    pub load-distances : Distances S D old seed (load S D old seed)
    unfolding load
    load-distances =
        let i = inv D.size in
        record { olds = i.olds; is-old = i.is-old; seeds = i.seeds; is-seed = i.is-seed; link = i.link; closed = λ s r p. i.closed s r p (load-bound s) }

    -- the rows that a load reaches have all that they demand
    pub load-closed : Closed S D (reached (load S D old seed))
    unfolding load
    load-closed =
        record {
          rows = λ r e. (inv D.size).rows r (reached-level _ r e);
          demanded = λ s r e d. level-reached _ r (load-distances.closed s r (reached-level _ s e) d).0;
        }

    -- a load reaches the rows cached before and those of round 0
    pub load-starts : (r : ℕ) → (old r ≡ true) ⊎ (seed r ≡ true) → reached (load S D old seed) r ≡ true
    load-starts r o = level-reached _ r (⊎_elim (λ a. let e = load-distances.olds r a in omega arith) (λ b. (load-distances.seeds r b).0) o)

    -- and no row that is not in every closed row set with them
    pub load-least : (Y : RowSet) → Closed S D Y → Inside old Y → Inside seed Y → Inside (reached (load S D old seed)) Y
    unfolding load
    load-least Y K i j r e = (inv D.size).least Y K i j r (reached-level _ r e)

    -- ---- what a loop over the rounds finds

    -- a round that comes after one that added nothing changes nothing
    quiet_same : (n : ℕ) → Quiet n (at-round n) → at-round (suc n) ≡ at-round n
    unfolding Quiet at-round levels
    quiet_same n q = ext_get_or 0 _ _ (levels-length S D old seed (suc n) ∙ sym (levels-length S D old seed n)) (λ i h. ⊎_elim
        (λ z. ⊎_elim (λ y. z ∙ sym y) (λ y. stays n (at-round n) (inv n) i y) (eq-zero-or-pos (level (at-round n) i)))
        (λ y. ⊎_elim (λ e. e) (λ a. absurd (q a.by a.by_level)) (next-cases S D n (at-round n) i y))
        (eq-zero-or-pos (level (next S D n (at-round n)) i)))

    quiet-later : (n m : ℕ) → Quiet n (at-round n) → (Quiet (n + m) (at-round (n + m))) × (at-round (n + m) ≡ at-round n)
    unfolding at-round levels
    quiet-later n zero q = rw (add-zero n) (q, refl)
    quiet-later n (suc m) q =
        let h = quiet-later n m q in
        rw (add-suc n m) (quiet_next (n + m) (at-round (n + m)) (inv (n + m)) h.0, quiet_same (n + m) h.0 ∙ h.1)

    -- the levels after a round that added no row are those of the whole load
    pub load-early : (n : ℕ) → n ≤ D.size → Quiet n (levels S D (start D old seed) n) → load S D old seed ≡ levels S D (start D old seed) n
    unfolding load at-round
    load-early n h q = let e : n + (D.size - n) ≡ D.size = omega arith in rw e at (quiet-later n (D.size - n) q).1

    -- the answer's number of later rounds is R, where each of the first R later rounds added a row and the next did not
    pub rounds-counted : (R : ℕ) → ((n : ℕ) → n < R → (r : ℕ) × (level (load S D old seed) r ≡ suc (suc (suc n)))) →
        ((r : ℕ) → level (load S D old seed) r ≡ suc (suc (suc R)) → ⊥) →
        later_rounds D (load S D old seed) ≡ R
    unfolding later_rounds
    rounds-counted R some none = count-prefix D.size R p low full empty
      where
        at : ℕ → ℕ → Bool
        at n r = eqb (level (load S D old seed) r) (suc (suc (suc n)))

        p : ℕ → Bool
        p n = any D.size (at n)

        row : (r : ℕ) → 0 < level (load S D old seed) r → r < D.size
        row r h = D.finite r (load-closed.rows r (level-reached _ r h))

        low : R ≤ D.size
        low = ⊎_elim (λ z. omega arith) (λ h. let f = some (R - 1) (omega arith) in omega (arith, load-bound f.0, f.1)) (eq-zero-or-pos R)

        full : (n : ℕ) → n < R → p n ≡ true
        full n h = let f = some n h in any-true D.size (at n) f.0 (row f.0 (omega (arith, f.1))) (eq-eqb _ _ f.1)

        above : (m r : ℕ) → level (load S D old seed) r ≡ suc (suc (suc (R + m))) → ⊥
        above zero r e = none r (omega arith)
        above (suc m) r e = let f = load-distances.link r (suc (R + m)) (omega arith) in above m f.0 (omega (arith, f.1))

        empty : (n : ℕ) → R ≤ n → p n ≡ false
        empty n h =
            refute (p n) (λ t.
            let f = any_found D.size (at n) t in
            let e : level (load S D old seed) f.0 ≡ suc (suc (suc n)) = eqb-true _ _ f.2 in
            above (n - R) f.0 (omega arith))
