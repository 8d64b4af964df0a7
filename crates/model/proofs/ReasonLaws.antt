-- The reason for a row: each of its links is a true demand, no chain that explains the row is shorter, and none as long is lower (02, Req 08).
-- Assumes nothing.
use Prim.Native.Nat.{ℕ, zero, suc, ◌+◌, ◌≤◌, ◌<◌}
use native.Mathlib.Decide.{dec_lt}
use native.Mathlib.Omega.{arith}
use mathlib.Core.Path.{◌≡◌, refl, sym, ap, subst, ◌∙◌}
use mathlib.Core.Logic.{◌⊎◌, inl, inr, ⊎_elim}
use mathlib.Core.Bool.{true, false, ◌&&◌, and-eq-true_iff}
use mathlib.Core.List.{List}
use borrow.Author.Tests.{eqb-true, eq-eqb}
use lib.Dec.{eqb}
use Rattle.finite.specs.Finite.{any, lower_then, lowest_of}
use Rattle.finite.proofs.Bools.{both, clash, dec, order}
use Rattle.finite.proofs.Search.{any-true, any_found}
use Rattle.finite.proofs.First.{First, first-from}
use Rattle.finite.proofs.Lowest.{order-of, Lowest, lowest-is}
use Rattle.finite.proofs.Order.{lower-less, lower-same}
use Rattle.model.specs.Scheme.{Constraint, Scheme}
use Rattle.model.specs.Database.{Database}
use Rattle.model.specs.Rounds.{leads, demands, level, load}
use Rattle.model.specs.Holding.{Holding, wanted}
use Rattle.model.specs.Runs.{reload_levels, cached_for}
use Rattle.model.specs.Reason.{Origin, origin_count, origin_at, is_held, has_origin, lower_origin, Chain, by_held, by_constraint, Explains, links_of, lower_chain, is_link, last_constraint, last_row, chain_by, lowest_held, distance, reason_for}
use Rattle.model.proofs.Closed.{Demand, demands-Demand, Demand-demands, Closed}
use Rattle.model.proofs.OriginLaws.{lower-origins, lower-origin-neither, origin-at, at-origin, wanted-origin}
use Rattle.model.proofs.RunLaws.{held-wants}
use Rattle.model.proofs.RoundsLaws.{Distances, load-distances, load-bound, load-closed, reached-level, level-reached}

-- ---- the levels of a reload

-- The levels of a load from nothing of what is held, as distances: 2 for a row that has something held, and for any other row that is reached one more than the lowest
-- of a row that demands it. No row has level 1.
pub record Levels (S : Scheme) (D : Database) (h : Holding) (L : List ℕ) : Type 0 where
  pub held : (r i : ℕ) → i < origin_count h → has_origin S D r (origin_at h i) ≡ true → level L r ≡ 2
  pub some : (r : ℕ) → level L r ≡ 2 → any (origin_count h) (λ i. has_origin S D r (origin_at h i)) ≡ true
  pub none : (r : ℕ) → level L r ≡ 1 → ⊥
  pub link : (r n : ℕ) → level L r ≡ suc (suc (suc n)) → any S.constraints (λ i. any D.size (is_link S D L n r i)) ≡ true
  pub rows : (r : ℕ) → 0 < level L r → D.live r ≡ true
  pub near : (s r i : ℕ) → i < S.constraints → leads D (S.constraint i) s r ≡ true → 0 < level L s → (0 < level L r) × (level L r ≤ suc (level L s))
  pub bound : (r : ℕ) → level L r < suc (suc D.size)

-- a demand by a constraint
demand-by : (S : Scheme) (D : Database) (s r i : ℕ) → i < S.constraints → leads D (S.constraint i) s r ≡ true → Demand S D s r
unfolding demands
demand-by S D s r i l e = demands-Demand S D s r (any-true S.constraints (λ j. leads D (S.constraint j) s r) i l e)

pub reload-levels : (S : Scheme) (D : Database) (h : Holding) → Levels S D h (reload_levels S D h)
unfolding reload_levels is_link demands
reload-levels S D h =
    record {
      held = λ r i l e. two r (d.seeds r (wanted-origin h S D r ∙ any-true _ _ i l e));
      some = λ r e. sym (wanted-origin h S D r) ∙ d.is-seed r e;
      none = λ r e. clash (d.is-old r e) refl;
      link = linked;
      rows = λ r p. (load-closed S D (λ _. false) (wanted S D h) C I).rows r (level-reached _ r p);
      near = λ s r i l e p. d.closed s r p (demand-by S D s r i l e);
      bound = load-bound S D (λ _. false) (wanted S D h) C I;
    }
  where
    C : Closed S D (λ _. false)
    C = record { rows = λ r e. clash e refl; demanded = λ s r e q. clash e refl }

    I : (r : ℕ) → wanted S D h r ≡ true → D.live r ≡ true
    I r e = ((held-wants S D h).wanted r e).has.live

    d : Distances S D (λ _. false) (wanted S D h) (load S D (λ _. false) (wanted S D h))
    d = load-distances S D (λ _. false) (wanted S D h) C I

    two : (r : ℕ) → (0 < level (load S D (λ _. false) (wanted S D h)) r) × (level (load S D (λ _. false) (wanted S D h)) r ≤ 2) →
        level (load S D (λ _. false) (wanted S D h)) r ≡ 2
    two r p = let n : level (load S D (λ _. false) (wanted S D h)) r ≡ 1 → ⊥ = λ e. clash (d.is-old r e) refl in omega arith

    linked : (r n : ℕ) → level (load S D (λ _. false) (wanted S D h)) r ≡ suc (suc (suc n)) →
        any S.constraints (λ i. any D.size (λ s. eqb (level (load S D (λ _. false) (wanted S D h)) s) (suc (suc n)) && leads D (S.constraint i) s r)) ≡ true
    linked r n e =
        let f = d.link r n e in
        let q = any_found S.constraints (λ i. leads D (S.constraint i) f.0 r) (Demand-demands f.2) in
        any-true S.constraints _ q.0 q.1 (any-true D.size _ f.0 (D.finite f.0 f.2.source.live) (both (eq-eqb _ _ f.1) q.2))

-- ---- the link before a row that is n + 1 constraints away from something held

-- there is one
module _ (S : Scheme) (D : Database) (L : List ℕ) (n r : ℕ) (some : any S.constraints (λ i. any D.size (is_link S D L n r i)) ≡ true) where
  constraint-found : First S.constraints (λ i. any D.size (is_link S D L n r i)) 0 (last_constraint S D L n r)
  unfolding last_constraint
  constraint-found = first-from S.constraints (λ i. any D.size (is_link S D L n r i)) 0 (omega arith)

  pub constraint-within : last_constraint S D L n r < S.constraints
  constraint-within = go (dec_lt (last_constraint S D L n r) S.constraints)
    where
      go : Dec (last_constraint S D L n r < S.constraints) → last_constraint S D L n r < S.constraints
      go (yes l) = l
      go (no l) =
          let f = any_found S.constraints (λ i. any D.size (is_link S D L n r i)) some in
          clash f.2 (constraint-found.none f.0 (omega arith) (omega (arith, f.1)))

  row-found : First D.size (is_link S D L n r (last_constraint S D L n r)) 0 (last_row S D L n r)
  unfolding last_row
  row-found = first-from D.size (is_link S D L n r (last_constraint S D L n r)) 0 (omega arith)

  pub row_within : last_row S D L n r < D.size
  row_within = go (dec_lt (last_row S D L n r) D.size)
    where
      go : Dec (last_row S D L n r < D.size) → last_row S D L n r < D.size
      go (yes l) = l
      go (no l) =
          let f = any_found D.size (is_link S D L n r (last_constraint S D L n r)) (constraint-found.here constraint-within) in
          clash f.2 (row-found.none f.0 (omega arith) (omega (arith, f.1)))

  last-link : (level L (last_row S D L n r) ≡ suc (suc n)) × (leads D (S.constraint (last_constraint S D L n r)) (last_row S D L n r) r ≡ true)
  unfolding is_link
  last-link = let q = (and-eq-true_iff (eqb (level L (last_row S D L n r)) (suc (suc n))) _).0 (row-found.here row_within) in (eqb-true _ _ q.0, q.1)

  pub row-level : level L (last_row S D L n r) ≡ suc (suc n)
  row-level = last-link.0

  pub row-leads : leads D (S.constraint (last_constraint S D L n r)) (last_row S D L n r) r ≡ true
  row-leads = last-link.1

  -- no other link is lower
  module _ (j t : ℕ) (k : j < S.constraints) (m : t < D.size) (v : is_link S D L n r j t ≡ true) where
    pub constraint-lowest : last_constraint S D L n r ≤ j
    constraint-lowest = go (dec_lt j (last_constraint S D L n r))
      where
        go : Dec (j < last_constraint S D L n r) → last_constraint S D L n r ≤ j
        go (yes l) = clash (any-true D.size (is_link S D L n r j) t m v) (constraint-found.none j (omega arith) l)
        go (no l) = omega arith

    pub row-lowest : last_constraint S D L n r ≡ j → last_row S D L n r ≤ t
    row-lowest w = go (dec_lt t (last_row S D L n r))
      where
        go : Dec (t < last_row S D L n r) → last_row S D L n r ≤ t
        go (yes l) = clash v (subst (λ (i : ℕ). is_link S D L n r i t ≡ false) w (row-found.none t (omega arith) l))
        go (no l) = omega arith

-- ---- chains over such levels

-- a row that demands is a row
pub leads-live : (D : Database) (j : Constraint) (s r : ℕ) → leads D j s r ≡ true → D.live s ≡ true
unfolding leads
leads-live D j s r e = ((and-eq-true_iff (D.live s) _).0 e).0

-- of two chains the one that comes by the lower constraint, then from the lower row, then by the lower chain
either-lower : (i j s t : ℕ) (a c : Chain) → i ≤ j → (i ≡ j → s ≤ t) → (s ≡ t → (c ≡ a) ⊎ (lower_chain a c ≡ true)) →
    (by_constraint j t c ≡ by_constraint i s a) ⊎ (lower_chain (by_constraint i s a) (by_constraint j t c) ≡ true)
unfolding lower_chain
either-lower i j s t a c l m n = go (order i j)
  where
    by-row : i ≡ j → (s < t) ⊎ ((s ≡ t) ⊎ (t < s)) → (by_constraint j t c ≡ by_constraint i s a) ⊎ (lower_then i j (lower_then s t (lower_chain a c)) ≡ true)
    by-row e (inl q) = inr (lower-same i j _ e (lower-less s t _ q))
    by-row e (inr (inl q)) = ⊎_elim (λ w. inl (λ x. by_constraint (sym e x) (sym q x) (w x))) (λ w. inr (lower-same i j _ e (lower-same s t _ q w))) (n q)
    by-row e (inr (inr q)) = absurd (omega (arith, m e))

    go : (i < j) ⊎ ((i ≡ j) ⊎ (j < i)) → (by_constraint j t c ≡ by_constraint i s a) ⊎ (lower_then i j (lower_then s t (lower_chain a c)) ≡ true)
    go (inl q) = inr (lower-less i j _ q)
    go (inr (inl q)) = by-row q (order s t)
    go (inr (inr q)) = absurd (omega arith)

module _ (S : Scheme) (D : Database) (h : Holding) (L : List ℕ) (u : Levels S D h L) where
  -- a row that a chain explains is reached, in no more rounds than the chain has links
  chain-level : (r : ℕ) (c : Chain) → Explains S D h r c → (0 < level L r) × (level L r ≤ links_of c + 2)
  unfolding Explains links_of
  chain-level r (by_held o) e =
      let f = origin-at h o e.0 in
      let t = u.held r f.0 f.1 (ap (has_origin S D r) f.2 ∙ e.1) in
      omega arith
  chain-level r (by_constraint i s c) e =
      let q = chain-level s c e.2 in
      let p = u.near s r i e.0 e.1 q.0 in
      omega arith

  -- ---- the end of a chain

  module _ (r : ℕ) (e : level L r ≡ 2) where
    lowest-found : Lowest (λ i. has_origin S D r (origin_at h i)) (λ i j. lower_origin (origin_at h i) (origin_at h j)) (origin_count h)
        (lowest_of (origin_count h) (λ i. has_origin S D r (origin_at h i)) (λ i j. lower_origin (origin_at h i) (origin_at h j)))
    lowest-found = lowest-is _ _ (order-of lower_origin (origin_at h) lower-origins) (origin_count h) (u.some r e)

    origin-true : (is_held h (lowest_held S D h r) ≡ true) × (has_origin S D r (lowest_held S D h r) ≡ true)
    unfolding lowest_held
    origin-true = (at-origin h S D r _ lowest-found.bound lowest-found.passes, lowest-found.passes)

    origin-lowest : (o : Origin) → is_held h o ≡ true → has_origin S D r o ≡ true → (o ≡ lowest_held S D h r) ⊎ (lower_origin (lowest_held S D h r) o ≡ true)
    unfolding lowest_held
    origin-lowest o a b =
        let f = origin-at h o a in
        let q : lower_origin o (lowest_held S D h r) ≡ false =
        subst (λ (x : Origin). lower_origin x (lowest_held S D h r) ≡ false) f.2 (lowest-found.least f.0 f.1 (ap (has_origin S D r) f.2 ∙ b)) in
        ⊎_elim (λ t. inr t) (λ t. inl (lower-origin-neither o (lowest_held S D h r) q t)) (dec (lower_origin (lowest_held S D h r) o))

  -- ---- the chain

  chain-links : (origin : ℕ → Origin) (n r : ℕ) → links_of (chain_by S D L origin n r) ≡ n
  unfolding chain_by links_of
  chain-links origin zero r = refl
  chain-links origin (suc n) r = ap suc (chain-links origin n (last_row S D L n r))

  chain-true : (n r : ℕ) → level L r ≡ suc (suc n) → Explains S D h r (chain_by S D L (lowest_held S D h) n r)
  unfolding chain_by Explains
  chain-true zero r e = origin-true r e
  chain-true (suc n) r e = (
    constraint-within S D L n r (u.link r n e),
    row-leads S D L n r (u.link r n e),
    chain-true n (last_row S D L n r) (row-level S D L n r (u.link r n e)),
  )

  chain-lowest : (n r : ℕ) → level L r ≡ suc (suc n) → (c : Chain) → Explains S D h r c → links_of c ≡ n →
      (c ≡ chain_by S D L (lowest_held S D h) n r) ⊎ (lower_chain (chain_by S D L (lowest_held S D h) n r) c ≡ true)
  unfolding chain_by Explains links_of lower_chain is_link
  chain-lowest zero r e (by_held o) x k = ⊎_elim (λ q. inl (ap by_held q)) (λ t. inr t) (origin-lowest r e o x.0 x.1)
  chain-lowest zero r e (by_constraint j t c) x k = absurd (omega arith)
  chain-lowest (suc n) r e (by_held o) x k = absurd (omega arith)
  chain-lowest (suc n) r e (by_constraint j t c) x k =
      let q = chain-level t c x.2 in
      let p = u.near t r j x.0 x.1 q.0 in
      let a : level L t ≡ suc (suc n) = omega arith in
      let v = both (eq-eqb (level L t) (suc (suc n)) a) x.1 in
      let ih = chain-lowest n t a c x.2 (omega arith) in
      either-lower (last_constraint S D L n r) j (last_row S D L n r) t _ c
      (constraint-lowest S D L n r (u.link r n e) j t x.0 (D.finite t (leads-live D _ t r x.1)) v)
      (row-lowest S D L n r (u.link r n e) j t x.0 (D.finite t (leads-live D _ t r x.1)) v)
      (λ w. subst (λ (y : ℕ). (c ≡ chain_by S D L (lowest_held S D h) n y) ⊎ (lower_chain (chain_by S D L (lowest_held S D h) n y) c ≡ true)) (sym w) ih)

-- ---- the reason

module _ (S : Scheme) (D : Database) (h : Holding) (r : ℕ) where
  -- a row that is cached has level 2 at the least
  pub cached-level : cached_for S D h r ≡ true → level (reload_levels S D h) r ≡ suc (suc (distance S D h r))
  unfolding distance
  cached-level e =
      let p = reached-level (reload_levels S D h) r e in
      let n = (reload-levels S D h).none r in
      omega arith

  -- "Each link is a true demand in the full tables"
  pub reason-true : cached_for S D h r ≡ true → Explains S D h r (reason_for S D h r)
  unfolding reason_for
  reason-true e = chain-true S D h (reload_levels S D h) (reload-levels S D h) (distance S D h r) r (cached-level e)

  -- so the rows that are cached are those that a chain explains
  pub explained-cached : (c : Chain) → Explains S D h r c → cached_for S D h r ≡ true
  explained-cached c x = level-reached (reload_levels S D h) r (chain-level S D h (reload_levels S D h) (reload-levels S D h) r c x).0

  -- "The chain is a shortest one"
  pub reason-shortest : (c : Chain) → Explains S D h r c → links_of (reason_for S D h r) ≤ links_of c
  unfolding reason_for distance
  reason-shortest c x =
      omega (
        arith,
        chain-links S D h (reload_levels S D h) (reload-levels S D h) (lowest_held S D h) (distance S D h r) r,
        chain-level S D h (reload_levels S D h) (reload-levels S D h) r c x,
      )

  -- "among those take the lowest last constraint, then the lowest row it comes from, and so on back, then the lowest filling, value and issue"
  pub reason-lowest : (c : Chain) → Explains S D h r c → links_of c ≡ links_of (reason_for S D h r) →
      (c ≡ reason_for S D h r) ⊎ (lower_chain (reason_for S D h r) c ≡ true)
  unfolding reason_for
  reason-lowest c x k =
      chain-lowest S D h (reload_levels S D h) (reload-levels S D h) (distance S D h r) r (cached-level (explained-cached c x)) c x
      (k ∙ chain-links S D h (reload_levels S D h) (reload-levels S D h) (lowest_held S D h) (distance S D h r) r)
