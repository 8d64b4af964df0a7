-- When a load may stop before its rounds do: if the rows reached so far lie in a row set that has what its rows demand, and are as many as it has, then
-- no later round reaches another row. And what the rounds' end says of a whole load. Assumes nothing.
use Prim.Native.Nat.{ℕ, zero, suc, ◌+◌, ◌-◌, ◌≤◌, ◌<◌}
use native.Mathlib.Decide.{dec_lt}
use native.Mathlib.Nat.{eq-zero-or-pos}
use native.Mathlib.Omega.{arith}
use mathlib.Core.Path.{◌≡◌, refl, sym, ap, subst, ◌∙◌}
use mathlib.Core.Logic.{◌⊎◌, inl, inr, ⊎_elim}
use mathlib.Core.Bool.{Bool, true, false, cond, ◌&&◌, and-eq-true_iff}
use mathlib.Core.List.{List}
use borrow.Author.Tests.{lt-ltb, le-ltb, eqb-true}
use lib.Dec.{eqb, ltb}
use lib.ListN.{length}
use lib.Seq.{ext_get_or}
use Rattle.finite.specs.Finite.{count}
use Rattle.finite.proofs.Search.{any_found}
use Rattle.finite.proofs.Counting.{count-le, count-more, count_same}
use Rattle.finite.proofs.Tables.{tab-at, tab-past}
use Rattle.model.specs.Scheme.{Scheme}
use Rattle.model.specs.Database.{Database}
use Rattle.model.specs.Cache.{RowSet, Inside}
use Rattle.model.specs.Rounds.{level, or_else, start, demands, reached_from, next, levels, reached, load, added_rows, later_rounds}
use Rattle.model.proofs.RoundsLaws.{reached-level, level-reached, zero-unreached, levels-length}
use Rattle.load.specs.Queue.{added}
use Rattle.load.specs.Ended.{Enough, Ended, Covers, Within, Reaches}
use Rattle.model.proofs.RoundsLaws.{or_else-kept}
use Rattle.model.proofs.RoundsLaws.{next-at, next_past}
use Rattle.load.proofs.StartLaws.{load_is}

-- ---- a round

module _ (S : Scheme) (D : Database) (n : ℕ) (L : List ℕ) where
  -- a row set that has what its rows demand keeps the rows that the round adds
  next-inside : (X : RowSet) → ((s r : ℕ) → X s ≡ true → demands S D s r ≡ true → X r ≡ true) → Inside (reached L) X → Inside (reached (next S D n L)) X
  unfolding reached_from
  next-inside X closed i r t = at_row (dec_lt r D.size)
    where
      asked : reached_from S D n L r ≡ true → X r ≡ true
      asked e =
          let f = any_found D.size (λ s. eqb (level L s) (suc (suc n)) && demands S D s r) e in
          let b = (and-eq-true_iff (eqb (level L f.0) (suc (suc n))) (demands S D f.0 r)).0 f.2 in
          closed f.0 r (i f.0 (level-reached L f.0 (omega (arith, eqb-true (level L f.0) (suc (suc n)) b.0)))) b.1

      go : (l : ℕ) (b : Bool) (m : ℕ) → m ≡ or_else l (cond b (suc (suc (suc n))) 0) → 0 < m → (0 < l → X r ≡ true) → (b ≡ true → X r ≡ true) → X r ≡ true
      go zero true m e k f g = g refl
      go zero false m e k f g = absurd (omega arith)
      go (suc l) b m e k f g = f (omega arith)

      at_row : Dec (r < D.size) → X r ≡ true
      at_row (yes l) =
          go (level L r) (reached_from S D n L r) _ (next-at S D n L r l) (reached-level (next S D n L) r t) (λ h. i r (level-reached L r h)) asked
      at_row (no l) = absurd (omega (arith, reached-level (next S D n L) r t, next_past S D n L r (omega arith)))

  -- no row gets level 1
  next-fresh : ((r : ℕ) → level L r ≡ 1 → ⊥) → (r : ℕ) → level (next S D n L) r ≡ 1 → ⊥
  next-fresh h r e = at_row (dec_lt r D.size)
    where
      go : (l : ℕ) (b : Bool) → (l ≡ 1 → ⊥) → or_else l (cond b (suc (suc (suc n))) 0) ≡ 1 → ⊥
      go zero true k w = omega arith
      go zero false k w = omega arith
      go (suc l) b k w = k w

      at_row : Dec (r < D.size) → ⊥
      at_row (yes l) = go (level L r) (reached_from S D n L r) (h r) (sym (next-at S D n L r l) ∙ e)
      at_row (no l) = omega (arith, next_past S D n L r (omega arith))

-- ---- rounds

module _ (S : Scheme) (D : Database) (L : List ℕ) where
  -- a row keeps its level
  levels-kept : (n k r : ℕ) → r < D.size → 0 < level (levels S D L n) r → level (levels S D L (n + k)) r ≡ level (levels S D L n) r
  unfolding levels
  levels-kept n zero r l p = let a : n + 0 ≡ n = omega arith in rw a refl
  levels-kept n (suc k) r l p =
      let a : n + suc k ≡ suc (n + k) = omega arith in
      let ih = levels-kept n k r l p in
      rw a (next-at S D (n + k) (levels S D L (n + k)) r l ∙ or_else-kept (level (levels S D L (n + k)) r) _ (omega arith) ∙ ih)

  levels-fresh : ((r : ℕ) → level L r ≡ 1 → ⊥) → (n r : ℕ) → level (levels S D L n) r ≡ 1 → ⊥
  unfolding levels
  levels-fresh h zero = h
  levels-fresh h (suc n) = next-fresh S D n (levels S D L n) (levels-fresh h n)

  module _ (X : RowSet) (closed : (s r : ℕ) → X s ≡ true → demands S D s r ≡ true → X r ≡ true) (i : Inside (reached L) X) where
    levels-inside : (n : ℕ) → Inside (reached (levels S D L n)) X
    unfolding levels
    levels-inside zero = i
    levels-inside (suc n) = next-inside S D n (levels S D L n) X closed (levels-inside n)

    -- as many rows are reached as X has: the later rounds reach no other, so that all levels stay
    levels-enough : (n m : ℕ) → n ≤ m → count D.size X ≤ count D.size (reached (levels S D L n)) → (r : ℕ) → r < D.size →
        level (levels S D L n) r ≡ level (levels S D L m) r
    levels-enough n m o h r l =
        ⊎_elim (λ z. z ∙ sym (unreached z (eq-zero-or-pos (level (levels S D L m) r)))) (λ p. sym (kept p)) (eq-zero-or-pos (level (levels S D L n) r))
      where
        kept : 0 < level (levels S D L n) r → level (levels S D L m) r ≡ level (levels S D L n) r
        kept p = let a : n + (m - n) ≡ m = omega arith in subst (λ (k : ℕ). level (levels S D L k) r ≡ level (levels S D L n) r) a (levels-kept n (m - n) r l p)

        missing : reached (levels S D L m) r ≡ true → reached (levels S D L n) r ≡ false → ⊥
        missing t f = omega (arith, h, count-more D.size (reached (levels S D L n)) X (levels-inside n) r l f (levels-inside m r t))

        unreached : level (levels S D L n) r ≡ 0 → (level (levels S D L m) r ≡ 0) ⊎ (0 < level (levels S D L m) r) → level (levels S D L m) r ≡ 0
        unreached z (inl y) = y
        unreached z (inr p) = absurd (missing (level-reached (levels S D L m) r p) (zero-unreached (levels S D L n) r z))

-- ---- how a loop over the rounds ends

module _ (S : Scheme) (D : Database) (L : List ℕ) (most : ℕ) (M : List ℕ) (rows rounds : ℕ) (e : rows ≡ count 512 (added M)) where
  -- with a round that added nothing, or the last
  pub ended-whole : D.size ≡ 512 → (M ≡ levels S D L D.size) × (rounds ≡ later_rounds D M) → Ended S D L most M rows rounds
  ended-whole z p = record { size = e; end = inl (record { levels = p.0 ∙ ap (levels S D L) z; counted = p.1 }) }

  -- because enough rows are reached
  pub ended-enough : M ≡ levels S D L rounds → rounds ≤ 512 → most ≤ rows → Ended S D L most M rows rounds
  ended-enough i l h = record { size = e; end = inr (record { levels = i; early = l; reached = omega arith }) }

-- ---- what it says of a load

-- a load from nothing: no row has level 1, so that those with a level have been added
module _ (D : Database) (seed : RowSet) where
  start-at : (r : ℕ) → r < D.size → level (start D (λ _. false) seed) r ≡ cond (seed r) 2 0
  unfolding start
  start-at r l = tab-at 0 D.size (λ i. cond (seed i) 2 0) r l

  start-past : (r : ℕ) → D.size ≤ r → level (start D (λ _. false) seed) r ≡ 0
  unfolding start
  start-past r l = tab-past 0 D.size (λ i. cond (seed i) 2 0) r l

  start-fresh : (r : ℕ) → level (start D (λ _. false) seed) r ≡ 1 → ⊥
  start-fresh r e = at_row (dec_lt r D.size)
    where
      go : (b : Bool) (l : ℕ) → l ≡ cond b 2 0 → l ≡ 1 → ⊥
      go true l w k = omega arith
      go false l w k = omega arith

      at_row : Dec (r < D.size) → ⊥
      at_row (yes l) = go (seed r) _ (start-at r l) e
      at_row (no l) = omega (arith, start-past r (omega arith))

  start-inside : (X : RowSet) → Inside seed X → Inside (reached (start D (λ _. false) seed)) X
  start-inside X i r t = at_row (dec_lt r D.size)
    where
      go : (b : Bool) (l : ℕ) → l ≡ cond b 2 0 → 0 < l → (b ≡ true → X r ≡ true) → X r ≡ true
      go true l e k f = f refl
      go false l e k f = absurd (omega arith)

      at_row : Dec (r < D.size) → X r ≡ true
      at_row (yes l) = go (seed r) _ (start-at r l) (reached-level _ r t) (i r)
      at_row (no l) = absurd (omega (arith, reached-level _ r t, start-past r (omega arith)))

fresh_added : (M : List ℕ) → ((r : ℕ) → level M r ≡ 1 → ⊥) → (r : ℕ) → added M r ≡ reached M r
unfolding added reached
fresh_added M h r = go (dec_lt 1 (level M r)) (dec_lt 0 (level M r))
  where
    go : Dec (1 < level M r) → Dec (0 < level M r) → ltb 1 (level M r) ≡ ltb 0 (level M r)
    go (yes a) b = lt-ltb 1 (level M r) a ∙ sym (lt-ltb 0 (level M r) (omega arith))
    go (no a) (yes b) = absurd (h r (omega arith))
    go (no a) (no b) = le-ltb 1 (level M r) (omega arith) ∙ sym (le-ltb 0 (level M r) (omega arith))

-- a row set that covers the seed has the rows that the load reaches
pub load-covered : (S : Scheme) (D : Database) (seed X : RowSet) → Covers S D seed X → Inside (reached (load S D (λ _. false) seed)) X
unfolding load
load-covered S D seed X c = levels-inside S D (start D (λ _. false) seed) X c.closed (start-inside D seed X c.seeds) D.size

-- all row numbers are 512
pub within_all : (S : Scheme) (D : Database) (seed : RowSet) → Within S D seed 512
within_all S D seed =
    record { set = λ _. true; covers = record { closed = λ s r x y. refl; seeds = λ r e. refl }; few = count-le 512 (λ _. true) }

module _ (S : Scheme) (D : Database) (z : D.size ≡ 512) (L M : List ℕ) (rows rounds : ℕ) where
  -- there are no 513 rows: the load is whole
  pub ended-load : (old seed : RowSet) → L ≡ start D old seed → Ended S D L 513 M rows rounds →
      (M ≡ load S D old seed) × (rows ≡ added_rows D M) × (rounds ≡ later_rounds D M)
  unfolding added_rows added
  ended-load old seed e u =
      ⊎_elim (λ w. (w.levels ∙ ap (λ (K : List ℕ). levels S D K 512) e ∙ load_is S D z old seed, u.size ∙ ap (λ (n : ℕ). count n (added M)) (sym z), w.counted))
      (λ w. absurd (omega (arith, w.reached, count-le 512 (added M)))) u.end

  -- a load from nothing inside a row set that has no more than `most` rows: the levels are those of a whole load
  module _ (seed : RowSet) (most : ℕ) (e : L ≡ start D (λ _. false) seed) (x : Within S D seed most) where
    after : (n : ℕ) → M ≡ levels S D L n → M ≡ levels S D (start D (λ _. false) seed) n
    after n f = f ∙ ap (λ (K : List ℕ). levels S D K n) e

    fresh : (n : ℕ) → M ≡ levels S D L n → (r : ℕ) → added M r ≡ reached M r
    fresh n f = fresh_added M (λ i w. levels-fresh S D _ (start-fresh D seed) n i (sym (ap (λ (K : List ℕ). level K i) (after n f)) ∙ w))

    long : (n : ℕ) → M ≡ levels S D L n → length M ≡ 512
    long n f = ap length (after n f) ∙ levels-length S D (λ _. false) seed n ∙ z

    reaches : (n : ℕ) → M ≡ levels S D L n → rows ≡ count 512 (added M) →
        ((r : ℕ) → r < 512 → level (levels S D (start D (λ _. false) seed) n) r ≡ level (levels S D (start D (λ _. false) seed) 512) r) →
        Reaches M (load S D (λ _. false) seed) rows
    reaches n f s h =
        record {
          long = long n f;
          levels = ext_get_or 0 M (levels S D (start D (λ _. false) seed) 512) (long n f ∙ sym (levels-length S D (λ _. false) seed 512 ∙ z))
              (λ r l. ap (λ (K : List ℕ). level K r) (after n f) ∙ h r (omega (arith, long n f))) ∙ load_is S D z (λ _. false) seed;
          size = s ∙ count_same 512 _ _ (λ r l. fresh n f r);
        }

    pub ended-within : Ended S D L most M rows rounds → Reaches M (load S D (λ _. false) seed) rows
    ended-within u = ⊎_elim (λ w. reaches 512 w.levels u.size (λ r l. refl)) enough u.end
      where
        enough : Enough S D L most M rounds → Reaches M (load S D (λ _. false) seed) rows
        enough w =
            let s : count 512 (added M) ≡ count 512 (reached M) = count_same 512 _ _ (λ r l. fresh rounds w.levels r) in
            let c : count 512 x.set ≤ count 512 (reached (levels S D (start D (λ _. false) seed) rounds)) =
            subst (λ (K : List ℕ). count 512 x.set ≤ count 512 (reached K)) (after rounds w.levels) (omega (arith, x.few, w.reached)) in
            reaches rounds w.levels u.size
            (λ r l. levels-enough S D _ x.set x.covers.closed (start-inside D seed x.set x.covers.seeds) rounds 512 w.early
            (subst (λ (n : ℕ). count n x.set ≤ count n (reached (levels S D (start D (λ _. false) seed) rounds))) (sym z) c) r (omega (arith, z)))
