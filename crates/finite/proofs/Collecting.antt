-- The laws of `collect`. Assumes nothing.
use Prim.Native.Nat.{ℕ, zero, suc, ◌+◌, ◌*◌, ◌≤◌, ◌<◌}
use native.Mathlib.Nat.{not-suc-le-zero, suc-mul}
use native.Mathlib.Numerals.{add-one}
use native.Mathlib.Omega.{arith}
use mathlib.Core.Path.{◌≡◌, refl, sym, ap, ap₂, ◌∙◌}
use mathlib.Core.Logic.{◌⊎◌, inl, inr, ⊎_elim}
use mathlib.Core.Bool.{Bool, true, false, cond}
use mathlib.Core.List.Memᴰ
use mathlib.Core.List.{List, [], ◌++◌, append-nil, Memᴰ}
use lib.ListN.{length, length-append}
use Rattle.finite.specs.Finite.{collect}
use Rattle.finite.proofs.Search.{below_suc}

-- two tests that pass alike, and equal results where they pass
pub collect-same : {A : Type 0} (n : ℕ) (p q : ℕ → Bool) (f g : ℕ → List A) → ((r : ℕ) → r < n → p r ≡ q r) → ((r : ℕ) → r < n → p r ≡ true → f r ≡ g r) → collect n p f ≡ collect n q g
unfolding collect
collect-same zero p q f g h k = refl
collect-same (suc n) p q f g h k =
    ap₂ ◌++◌ (collect-same n p q f g (λ r l. h r (omega arith)) (λ r l. k r (omega arith)))
    (ap (λ (b : Bool). cond b (f n) []) (h n (omega arith)) ∙ go (q n) (λ e. k n (omega arith) (h n (omega arith) ∙ e)))
  where
    go : (b : Bool) → (b ≡ true → f n ≡ g n) → cond b (f n) [] ≡ cond b (g n) []
    go true e = e refl
    go false e = refl

-- what each number brings in is the same
pub collect-blocks : {A : Type 0} (n : ℕ) (p q : ℕ → Bool) (f g : ℕ → List A) → ((r : ℕ) → r < n → cond (p r) (f r) [] ≡ cond (q r) (g r) []) → collect n p f ≡ collect n q g
unfolding collect
collect-blocks zero p q f g h = refl
collect-blocks (suc n) p q f g h = ap₂ ◌++◌ (collect-blocks n p q f g (λ r l. h r (omega arith))) (h n (omega arith))

pub collect-none : {A : Type 0} (n : ℕ) (p : ℕ → Bool) (f : ℕ → List A) → ((r : ℕ) → r < n → p r ≡ false) → collect n p f ≡ []
unfolding collect
collect-none zero p f h = refl
collect-none (suc n) p f h = rw (collect-none n p f (λ r l. h r (omega arith)), h n (omega arith))

-- ---- what is collected

chosen : {A : Type 0} {x : A} (b : Bool) (xs : List A) → Memᴰ x (cond b xs []) → (b ≡ true) × Memᴰ x xs
chosen true xs m = (refl, m)
chosen false xs m = absurd (Memᴰ.not-nil m)

-- whatever is collected comes from a number that passes
pub collect-from : {A : Type 0} {x : A} (n : ℕ) (p : ℕ → Bool) (f : ℕ → List A) → Memᴰ x (collect n p f) → (i : ℕ) × (i < n) × (p i ≡ true) × Memᴰ x (f i)
unfolding collect
collect-from zero p f m = absurd (Memᴰ.not-nil m)
collect-from {A = A} {x = x} (suc n) p f m =
    ⊎_elim (λ a. let q = collect-from {A = A} {x = x} n p f a in (q.0, omega (arith, q.1), q.2, q.3)) (λ b. let q = chosen (p n) (f n) b in (n, omega arith, q.0, q.1))
    (Memᴰ.append_cases (collect n p f) m)

-- whatever comes from a number that passes is collected
pub collect-has : {A : Type 0} {x : A} (n : ℕ) (p : ℕ → Bool) (f : ℕ → List A) (i : ℕ) → i < n → p i ≡ true → Memᴰ x (f i) → Memᴰ x (collect n p f)
unfolding collect
collect-has zero p f i l e m = absurd (not-suc-le-zero l)
collect-has {A} {x} (suc n) p f i l e m = go (below_suc l) (λ k. collect-has n p f i k e m)
  where
    go : (i ≡ n) ⊎ (i < n) → (i < n → Memᴰ x (collect n p f)) → Memᴰ x (collect n p f ++ cond (p n) (f n) [])
    go (inl q) ih = let e' : p n ≡ true = rw q at e in Memᴰ.append_right (collect n p f) (rw e' (rw q at m))
    go (inr k) ih = Memᴰ.append_left (cond (p n) (f n) []) (ih k)

-- ---- a loop that collects: its start, a number that passes, one that does not

module _ {A : Type 0} (f : ℕ → Bool) (g : ℕ → List A) where
  pub collect-start : [] ≡ collect 0 f g
  unfolding collect
  collect-start = refl

  pub collect-suc : (r : ℕ) → collect (r + 1) f g ≡ collect r f g ++ cond (f r) (g r) []
  unfolding collect
  collect-suc r = rw add-one

  module _ (r : ℕ) (xs : List A) (h : xs ≡ collect r f g) where
    pub collect-hit : f r ≡ true → xs ++ g r ≡ collect (r + 1) f g
    collect-hit e = ap (λ ys. ys ++ g r) h ∙ sym (collect-suc r ∙ ap (λ (b : Bool). collect r f g ++ cond b (g r) []) e)

    pub collect-miss : f r ≡ false → xs ≡ collect (r + 1) f g
    collect-miss e = h ∙ sym (collect-suc r ∙ ap (λ (b : Bool). collect r f g ++ cond b (g r) []) e ∙ append-nil (collect r f g))

-- ---- how much is collected

-- no number brings in more than m
pub collect-most : {A : Type 0} (n m : ℕ) (p : ℕ → Bool) (f : ℕ → List A) → ((i : ℕ) → length (f i) ≤ m) → length (collect n p f) ≤ n * m
unfolding collect
collect-most zero m p f h = omega arith
collect-most (suc n) m p f h = go (p n) (collect-most n m p f h)
  where
    go : (b : Bool) → length (collect n p f) ≤ n * m → length (collect n p f ++ cond b (f n) []) ≤ suc n * m
    go true k = omega (arith, length-append (collect n p f) (f n), h n, suc-mul n m)
    go false k = omega (arith, ap length (append-nil (collect n p f)), suc-mul n m)

-- ---- pieces of one length w

pub length-pieces : {A : Type 0} (w : ℕ) (f : ℕ → List A) → ((i : ℕ) → length (f i) ≡ w) → (n : ℕ) → length (collect n (λ _. true) f) ≡ w * n
unfolding collect
length-pieces w f even zero = omega arith
length-pieces w f even (suc n) = let h = length-pieces w f even n in let k = length-append (collect n (λ _. true) f) (f n) in let e = even n in omega arith
