-- Where a loop over the rounds may stop, and what it has counted then. No closedness of the rows cached before is needed: that levels pass
-- 2 in no row at the start is enough. Assumes nothing.
use Prim.Native.Nat.{ℕ, zero, suc, ◌+◌, ◌-◌, ◌≤◌, ◌<◌}
use native.Mathlib.Decide.{dec_lt}
use native.Mathlib.Omega.{arith}
use mathlib.Core.Path.{◌≡◌, refl, sym, ap, subst, ◌∙◌}
use mathlib.Core.Bool.{Bool, true, false, cond, ◌&&◌}
use mathlib.Core.List.{List}
use borrow.Author.Tests.{eqb-true, eq-eqb, ne_eqb}
use lib.Dec.{eqb}
use lib.ListN.{length}
use Rattle.finite.specs.Finite.{any}
use Rattle.finite.proofs.Search.{any_found, any-true, any_none, any-refuted}
use Rattle.finite.proofs.Bools.{clash, and_left}
use Rattle.finite.proofs.Counting.{count-prefix}
use Rattle.finite.proofs.Tables.{length-tab, tab-of}
use Rattle.model.specs.Scheme.{Scheme}
use Rattle.model.specs.Database.{Database}
use Rattle.model.specs.Rounds.{level, or_else, demands, reached_from, next, levels, later_rounds}
use Rattle.model.proofs.RoundsLaws.{or_else-zero, or_else-kept, next-at, next_past}

-- some row below `size` has level m
unfoldable pub some_at : ℕ → List ℕ → ℕ → Bool
some_at size L m = any size (λ r. eqb (level L r) m)

pub some-at : (size : ℕ) → size ≡ 512 → (L : List ℕ) (m : ℕ) (b : Bool) → any 512 (λ r. eqb (level L r) m) ≡ b → some_at size L m ≡ b
unfolding some_at
some-at size z L m b h = ap (λ (k : ℕ). any k (λ r. eqb (level L r) m)) z ∙ h

module _ (S : Scheme) (D : Database) (n : ℕ) (L : List ℕ) where
  pub length-next : length (next S D n L) ≡ D.size
  unfolding next
  length-next = length-tab D.size _

  -- a round gives no level above its own
  next-top : ((r : ℕ) → level L r ≤ n + 2) → (r : ℕ) → level (next S D n L) r ≤ n + 3
  unfolding next
  next-top h r = at_row (dec_lt r D.size)
    where
      go : (l : ℕ) (b : Bool) (m : ℕ) → l ≤ n + 2 → m ≡ or_else l (cond b (suc (suc (suc n))) 0) → m ≤ n + 3
      go zero true m k e = omega arith
      go zero false m k e = omega arith
      go (suc l) b m k e = omega arith

      at_row : Dec (r < D.size) → level (next S D n L) r ≤ n + 3
      at_row (yes l) = go (level L r) (reached_from S D n L r) _ (h r) (next-at S D n L r l)
      at_row (no l) = omega (arith, next_past S D n L r (omega arith))

  -- a level that some row has stays
  next-some : (m : ℕ) → some_at D.size L (m + 3) ≡ true → some_at D.size (next S D n L) (m + 3) ≡ true
  unfolding some_at
  next-some m t =
      let f = any_found D.size (λ r. eqb (level L r) (m + 3)) t in
      let e : level L f.0 ≡ m + 3 = eqb-true _ _ f.2 in
      any-true D.size (λ r. eqb (level (next S D n L) r) (m + 3)) f.0 f.1
      (eq-eqb _ _ (next-at S D n L f.0 f.1 ∙ or_else-kept (level L f.0) _ (omega arith) ∙ e))

  -- a round after one that added nothing adds nothing
  pub next-same : length L ≡ D.size → ((r : ℕ) → r < D.size → level L r ≡ n + 2 → ⊥) → next S D n L ≡ L
  unfolding next reached_from
  next-same e q =
      sym (tab-of 0 D.size (λ r. or_else (level L r) (cond (reached_from S D n L r) (suc (suc (suc n))) 0)) L e
      (λ r l. sym (ap (λ (b : Bool). or_else (level L r) (cond b (suc (suc (suc n))) 0)) (none r) ∙ or_else-zero (level L r))))
    where
      none : (r : ℕ) → reached_from S D n L r ≡ false
      none r =
          any-refuted D.size (λ s. eqb (level L s) (suc (suc n)) && demands S D s r)
          (λ s k. and_left (eqb (level L s) (suc (suc n))) _ (ne_eqb _ _ (λ (w : level L s ≡ suc (suc n)). q s k (omega arith))))

-- ---- the loop

module _ (S : Scheme) (D : Database) (L : List ℕ) where
  -- n later rounds have run on L and each has added a row: M are the levels
  pub record Running (n : ℕ) (M : List ℕ) : Type 0 where
    pub long : length M ≡ D.size
    pub is : M ≡ levels S D L n
    pub top : (r : ℕ) → level M r ≤ n + 2
    pub added : (m : ℕ) → m < n → some_at D.size M (m + 3) ≡ true

  pub running-start : length L ≡ D.size → ((r : ℕ) → level L r ≤ 2) → Running 0 L
  unfolding levels
  running-start e h = record { long = e; is = refl; top = λ r. omega (arith, h r); added = λ m l. absurd (omega arith) }

  -- the rounds that added a row are counted, where no row has a higher level
  counted : (n : ℕ) (M : List ℕ) → n ≤ D.size → ((m : ℕ) → m < n → some_at D.size M (m + 3) ≡ true) → ((r : ℕ) → r < D.size → level M r ≤ n + 2) → n ≡ later_rounds D M
  unfolding later_rounds some_at
  counted n M l some top = sym (count-prefix D.size n (λ m. any D.size (λ r. eqb (level M r) (suc (suc (suc m))))) l full empty)
    where
      full : (m : ℕ) → m < n → any D.size (λ r. eqb (level M r) (suc (suc (suc m)))) ≡ true
      full m h = let a : m + 3 ≡ suc (suc (suc m)) = omega arith in subst (λ (k : ℕ). any D.size (λ r. eqb (level M r) k) ≡ true) a (some m h)

      empty : (m : ℕ) → n ≤ m → any D.size (λ r. eqb (level M r) (suc (suc (suc m)))) ≡ false
      empty m h = any-refuted D.size (λ r. eqb (level M r) (suc (suc (suc m)))) (λ r k. ne_eqb _ _ (λ (w : level M r ≡ suc (suc (suc m))). omega (arith, top r k)))

  -- after a round that added nothing no round adds anything
  quiet : (n : ℕ) (N : List ℕ) → length N ≡ D.size → N ≡ levels S D L n → ((r : ℕ) → r < D.size → level N r ≤ n + 1) → (k : ℕ) → levels S D L (n + k) ≡ N
  unfolding levels
  quiet n N long is top zero = let a : n + 0 ≡ n = omega arith in rw a (sym is)
  quiet n N long is top (suc k) =
      let a : n + suc k ≡ suc (n + k) = omega arith in
      rw a (ap (next S D (n + k)) (quiet n N long is top k) ∙ next-same S D (n + k) N long (λ r h w. omega (arith, top r h)))

  -- ... so a loop may stop there
  stopped : (n : ℕ) (N : List ℕ) → length N ≡ D.size → N ≡ levels S D L n → ((r : ℕ) → r < D.size → level N r ≤ n + 1) → n ≤ D.size → N ≡ levels S D L D.size
  stopped n N long is top l = let a : n + (D.size - n) ≡ D.size = omega arith in sym (quiet n N long is top (D.size - n)) ∙ ap (levels S D L) a

  -- round 0 added nothing
  pub running_none : length L ≡ D.size → ((r : ℕ) → r < D.size → level L r ≤ 1) → (L ≡ levels S D L D.size) × (0 ≡ later_rounds D L)
  unfolding levels
  running_none e h = (
    stopped 0 L e refl (λ r l. omega (arith, h r l)) (omega arith),
    counted 0 L (omega arith) (λ m l. absurd (omega arith)) (λ r l. omega (arith, h r l)),
  )

  module _ (n : ℕ) (M N : List ℕ) (u : Running n M) (e : N ≡ next S D n M) where
    long : length N ≡ D.size
    long = ap length e ∙ length-next S D n M

    is : N ≡ levels S D L (n + 1)
    unfolding levels
    is = let a : n + 1 ≡ suc n = omega arith in rw a (e ∙ ap (next S D n) u.is)

    top : (r : ℕ) → level N r ≤ n + 3
    top r = rw e (next-top S D n M u.top r)

    still : (m : ℕ) → m < n → some_at D.size N (m + 3) ≡ true
    still m l = rw e (next-some S D n M m (u.added m l))

    -- the round added a row
    pub running-next : some_at D.size N (n + 3) ≡ true → Running (n + 1) N
    running-next t = record { long = long; is = is; top = λ r. omega (arith, top r); added = λ m l. go m l (dec_lt m n) }
      where
        go : (m : ℕ) → m < n + 1 → Dec (m < n) → some_at D.size N (m + 3) ≡ true
        go m l (yes h) = still m h
        go m l (no h) = let a : n ≡ m = omega arith in rw a at t

    module _ (q : some_at D.size N (n + 3) ≡ false) where
      below : (r : ℕ) → r < D.size → level N r ≤ n + 2
      unfolding some_at
      below r h =
          let t : level N r ≡ n + 3 → ⊥ = λ w. clash (eq-eqb _ _ w) (any_none D.size (λ i. eqb (level N i) (n + 3)) q r h) in
          omega (arith, top r)

      -- a loop may stop at the first round that adds nothing
      pub running-stop : n < D.size → (N ≡ levels S D L D.size) × (n ≡ later_rounds D N)
      running-stop l = (stopped (n + 1) N long is (λ r h. omega (arith, below r h)) (omega arith), counted n N (omega arith) still below)

  -- it need not run more rounds than there are row numbers
  pub running-end : (n : ℕ) (M : List ℕ) → Running n M → n ≤ D.size → D.size ≤ n → (M ≡ levels S D L D.size) × (n ≡ later_rounds D M)
  running-end n M u l g =
      let a : n ≡ D.size = omega arith in
      (u.is ∙ ap (levels S D L) a, counted n M l u.added (λ r h. u.top r))
