-- Collecting and adding up under other numbers: where row r has the number `at r` elsewhere, what is collected of some rows by these numbers is what is collected
-- by their own, in the same order where the numbers rise, and adds up to the same in any order. Assumes nothing.
use Prim.Native.Nat.{ℕ, zero, suc, ◌+◌, ◌<◌}
use native.Mathlib.Omega.{arith}
use mathlib.Core.Path.{◌≡◌, refl, sym, ap, ap₂, ◌∙◌}
use mathlib.Core.Logic.{◌⊎◌, inl, inr, ⊎_elim}
use mathlib.Core.Bool.{Bool, true, false, cond, ◌&&◌, ◌||◌, or-false, and-eq-true_iff}
use mathlib.Core.List.{List, [], ◌∷◌, ◌++◌, map, append-nil}
use borrow.Author.Tests.{eqb-true, eq-eqb}
use lib.Dec.{eqb}
use lib.ListN.{length, get_or}
use Rattle.finite.specs.Finite.{any, count, collect}
use Rattle.finite.specs.Sums.{sum_over}
use Rattle.finite.proofs.Bools.{both, dec, refute}
use Rattle.finite.proofs.Search.{any-true, any_found, below_suc}
use Rattle.finite.proofs.Collecting.{collect-same, collect-none}
use Rattle.finite.proofs.Sums.{over-append, over-cond}

-- ---- in order

-- the last number that passes stands at the end
collect-last : {A : Type 0} (n : ℕ) (q : ℕ → Bool) (f : ℕ → List A) (i : ℕ) → i < n → q i ≡ true → ((s : ℕ) → i < s → q s ≡ false) →
    collect n q f ≡ collect i q f ++ f i
unfolding collect
collect-last zero q f i l e h = absurd (omega arith)
collect-last (suc n) q f i l e h = go (below_suc l) (λ k. collect-last n q f i k e h)
  where
    go : (i ≡ n) ⊎ (i < n) → (i < n → collect n q f ≡ collect i q f ++ f i) → collect n q f ++ cond (q n) (f n) [] ≡ collect i q f ++ f i
    go (inl x) ih = let t : q n ≡ true = rw x at e in rw (x, t)
    go (inr x) ih = rw (h n x, append-nil (collect n q f)) (ih x)

-- some number below m that passes p has the number s
abbrev pub numbered-so : (ℕ → ℕ) → (ℕ → Bool) → ℕ → ℕ → Bool
numbered-so at p m s = any m (λ r. p r && eqb (at r) s)

-- where the numbers rise, it is all one whether one collects by the old or by the new
pub collect-numbers : {A : Type 0} (at : ℕ → ℕ) (p : ℕ → Bool) (f : ℕ → List A) → ((r s : ℕ) → p r ≡ true → p s ≡ true → r < s → at r < at s) →
    (m n : ℕ) → ((r : ℕ) → r < m → p r ≡ true → at r < n) → collect n (numbered-so at p m) f ≡ collect m p (λ r. f (at r))
unfolding collect any
collect-numbers at p f up zero n low = collect-none n (numbered-so at p 0) f (λ r l. refl)
collect-numbers at p f up (suc m) n low = go (dec (p m)) (collect-numbers at p f up m)
  where
    go : (p m ≡ true) ⊎ (p m ≡ false) →
        ((k : ℕ) → ((r : ℕ) → r < m → p r ≡ true → at r < k) → collect k (numbered-so at p m) f ≡ collect m p (λ r. f (at r))) →
        collect n (numbered-so at p (suc m)) f ≡ collect m p (λ r. f (at r)) ++ cond (p m) (f (at m)) []
    go (inr e) ih =
        collect-same n (numbered-so at p (suc m)) (numbered-so at p m) f f
        (λ s l. ap (λ (b : Bool). numbered-so at p m s || (b && eqb (at m) s)) e ∙ or-false (numbered-so at p m s)) (λ s l t. refl) ∙
        ih n (λ r l. low r (omega arith)) ∙ sym (ap (λ (b : Bool). collect m p (λ r. f (at r)) ++ cond b (f (at m)) []) e ∙ append-nil (collect m p (λ r. f (at r))))
    go (inl e) ih =
        collect-last n (numbered-so at p (suc m)) f (at m) (low m (omega arith) e)
        (any-true (suc m) (λ r. p r && eqb (at r) (at m)) m (omega arith) (both e (eq-eqb (at m) (at m) refl))) above ∙
        ap (λ (xs : List _). xs ++ f (at m))
        (collect-same (at m) (numbered-so at p (suc m)) (numbered-so at p m) f f
        (λ s l. ap (λ (b : Bool). numbered-so at p m s || b) (refute (p m && eqb (at m) s) (λ t.
        let x = eqb-true (at m) s ((and-eq-true_iff (p m) _).0 t).1 in omega arith)) ∙ or-false (numbered-so at p m s)) (λ s l t. refl) ∙
        ih (at m) (λ r l t. up r m t e l)) ∙
        sym (ap (λ (b : Bool). collect m p (λ r. f (at r)) ++ cond b (f (at m)) []) e)
      where
        above : (s : ℕ) → at m < s → numbered-so at p (suc m) s ≡ false
        above s l = refute (numbered-so at p (suc m) s) (λ t.
            let g = any_found (suc m) (λ r. p r && eqb (at r) s) t in
            let q = (and-eq-true_iff (p g.0) (eqb (at g.0) s)).0 g.2 in
            let x = eqb-true (at g.0) s q.1 in
            ⊎_elim (λ y. let z = ap at y in omega arith) (λ y. let z = up g.0 m q.0 e y in omega arith) (below_suc g.1))

pub map-append : {A B : Type 0} (h : A → B) (xs ys : List A) → map h (xs ++ ys) ≡ map h xs ++ map h ys
map-append h [] ys = refl
map-append h (x ∷ xs) ys = ap (λ zs. h x ∷ zs) (map-append h xs ys)

pub collect-map : {A B : Type 0} (h : A → B) (n : ℕ) (p : ℕ → Bool) (g : ℕ → List A) → map h (collect n p g) ≡ collect n p (λ r. map h (g r))
unfolding collect
collect-map h zero p g = refl
collect-map h (suc n) p g = map-append h (collect n p g) (cond (p n) (g n) []) ∙ ap₂ ◌++◌ (collect-map h n p g) (go (p n))
  where
    go : (b : Bool) → map h (cond b (g n) []) ≡ cond b (map h (g n)) []
    go true = refl
    go false = refl

pub map_at : (at : ℕ → ℕ) (xs : List ℕ) (p : ℕ) → p < length xs → get_or (map at xs) p 0 ≡ at (get_or xs p 0)
map_at at [] p l = absurd (omega arith)
map_at at (x ∷ xs) zero l = refl
map_at at (x ∷ xs) (suc p) l = map_at at xs p (omega arith)

-- ---- adding up

module _ {A : Type 0} (w : A → ℕ) where
  -- what the numbers below n bring in that pass the test, added up
  abbrev sum : ℕ → (ℕ → Bool) → (ℕ → List A) → ℕ
  sum n p f = sum_over w (collect n p f)

  sum-suc : (n : ℕ) (p : ℕ → Bool) (f : ℕ → List A) → sum (suc n) p f ≡ sum n p f + cond (p n) (sum_over w (f n)) 0
  unfolding collect
  sum-suc n p f = over-append w (collect n p f) (cond (p n) (f n) []) ∙ ap (λ (m : ℕ). sum n p f + m) (over-cond w (p n) (f n))

  -- one number more passes
  sum_one : (n : ℕ) (p q : ℕ → Bool) (f : ℕ → List A) (i : ℕ) → i < n → p i ≡ false → q i ≡ true → ((s : ℕ) → (s ≡ i → ⊥) → q s ≡ p s) →
      sum n q f ≡ sum n p f + sum_over w (f i)
  sum_one zero p q f i l a b h = absurd (omega arith)
  sum_one (suc n) p q f i l a b h = go (below_suc l) (λ k. sum_one n p q f i k a b h)
    where
      go : (i ≡ n) ⊎ (i < n) → (i < n → sum n q f ≡ sum n p f + sum_over w (f i)) → sum (suc n) q f ≡ sum (suc n) p f + sum_over w (f i)
      go (inl e) ih =
          let x : p n ≡ false = rw e at a in
          let y : q n ≡ true = rw e at b in
          let z : sum n q f ≡ sum n p f = ap (sum_over w) (collect-same n q p f f (λ s l'. h s (λ (u : s ≡ i). omega arith)) (λ s l' t. refl)) in
          omega (
            arith,
            sum-suc n q f ∙ ap (λ (t : Bool). sum n q f + cond t (sum_over w (f n)) 0) y,
            sum-suc n p f ∙ ap (λ (t : Bool). sum n p f + cond t (sum_over w (f n)) 0) x,
            ap (λ (s : ℕ). sum_over w (f s)) e,
          )
      go (inr k) ih =
          omega (arith, sum-suc n q f ∙ ap (λ (t : Bool). sum n q f + cond t (sum_over w (f n)) 0) (h n (λ (u : n ≡ i). omega arith)), sum-suc n p f, ih k)

  -- where no two rows have one number elsewhere, it is all one whether one adds up by the old or by the new
  pub sum-numbers : (at : ℕ → ℕ) (p : ℕ → Bool) (f : ℕ → List A) → ((r s : ℕ) → p r ≡ true → p s ≡ true → at r ≡ at s → r ≡ s) →
      (m n : ℕ) → ((r : ℕ) → r < m → p r ≡ true → at r < n) → sum n (numbered-so at p m) f ≡ sum m p (λ r. f (at r))
  unfolding collect any
  sum-numbers at p f once zero n low = ap (sum_over w) (collect-none n (numbered-so at p 0) f (λ r l. refl))
  sum-numbers at p f once (suc m) n low = go (dec (p m)) (sum-numbers at p f once m n (λ r l. low r (omega arith)))
    where
      go : (p m ≡ true) ⊎ (p m ≡ false) → sum n (numbered-so at p m) f ≡ sum m p (λ r. f (at r)) →
          sum n (numbered-so at p (suc m)) f ≡ sum (suc m) p (λ r. f (at r))
      go (inr e) ih =
          omega (
            arith,
            ih,
            ap (sum_over w) (collect-same n (numbered-so at p (suc m)) (numbered-so at p m) f f
                (λ s l. ap (λ (b : Bool). numbered-so at p m s || (b && eqb (at m) s)) e ∙ or-false (numbered-so at p m s)) (λ s l t. refl)),
            sum-suc m p (λ r. f (at r)) ∙ ap (λ (t : Bool). sum m p (λ r. f (at r)) + cond t (sum_over w (f (at m))) 0) e,
          )
      go (inl e) ih =
          omega (
            arith,
            ih,
            sum_one n (numbered-so at p m) (numbered-so at p (suc m)) f (at m) (low m (omega arith) e) new
                (any-true (suc m) (λ r. p r && eqb (at r) (at m)) m (omega arith) (both e (eq-eqb (at m) (at m) refl)))
                (λ s d. ap (λ (b : Bool). numbered-so at p m s || b) (refute (p m && eqb (at m) s) (λ t. d (sym (eqb-true (at m) s ((and-eq-true_iff (p m) _).0 t).1)))) ∙ or-false (numbered-so at p m s)),
            sum-suc m p (λ r. f (at r)) ∙ ap (λ (t : Bool). sum m p (λ r. f (at r)) + cond t (sum_over w (f (at m))) 0) e,
          )
        where
          new : numbered-so at p m (at m) ≡ false
          new = refute (numbered-so at p m (at m)) (λ t.
              let g = any_found m (λ r. p r && eqb (at r) (at m)) t in
              let q = (and-eq-true_iff (p g.0) (eqb (at g.0) (at m))).0 g.2 in
              let x = once g.0 m q.0 e (eqb-true _ _ q.1) in
              omega (arith, g.1))

-- two ways to add up that agree on what each number brings in
pub sum_same : {A : Type 0} (w u : A → ℕ) (n : ℕ) (p : ℕ → Bool) (f g : ℕ → List A) → ((r : ℕ) → p r ≡ true → sum_over w (f r) ≡ sum_over u (g r)) →
    sum_over w (collect n p f) ≡ sum_over u (collect n p g)
unfolding collect sum_over
sum_same w u zero p f g h = refl
sum_same w u (suc n) p f g h =
    sum-suc w n p f ∙ ap₂ ◌+◌ (sum_same w u n p f g h) (go (p n) refl) ∙ sym (sum-suc u n p g)
  where
    go : (b : Bool) → p n ≡ b → cond b (sum_over w (f n)) 0 ≡ cond b (sum_over u (g n)) 0
    go true e = h n e
    go false e = refl

-- how many pass
pub count-sum : (n : ℕ) (p : ℕ → Bool) → count n p ≡ sum_over (λ (r : ℕ). 1) (collect n p (λ r. r ∷ []))
unfolding count collect sum_over
count-sum zero p = refl
count-sum (suc n) p = go (p n) (count-sum n p) (sum-suc (λ r. 1) n p (λ r. r ∷ []))
  where
    go : (b : Bool) → count n p ≡ sum_over (λ (r : ℕ). 1) (collect n p (λ r. r ∷ [])) →
        sum_over (λ (r : ℕ). 1) (collect n p (λ r. r ∷ []) ++ cond b (n ∷ []) []) ≡ sum_over (λ (r : ℕ). 1) (collect n p (λ r. r ∷ [])) + cond b 1 0 →
        count n p + cond b 1 0 ≡ sum_over (λ (r : ℕ). 1) (collect n p (λ r. r ∷ []) ++ cond b (n ∷ []) [])
    go b e h = omega (arith, e, h)
