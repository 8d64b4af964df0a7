-- Loops over the numbers below n that pass over numbers at which nothing happens. Assumes nothing.
use Prim.Native.Nat.{ℕ, zero, suc, ◌+◌, ◌-◌, ◌≤◌, ◌<◌}
use native.Mathlib.Decide.{dec_lt}
use native.Mathlib.Omega.{arith}
use mathlib.Core.Path.{◌≡◌, subst, ◌∙◌}
use mathlib.Core.Bool.{Bool, false, cond}
use mathlib.Core.List.{List}
use borrow.Author.Tests.{lt-ltb, le-ltb}
use lib.Dec.{ltb}
use Rattle.finite.specs.Finite.{any, count, collect}
use Rattle.finite.proofs.Search.{any-more}
use Rattle.finite.proofs.Counting.{count-miss}
use Rattle.finite.proofs.Tables.{Upto}
use Rattle.finite.proofs.Collecting.{collect-miss}

-- from i to j, if each number between takes it one further
pub onward : (P : ℕ → Type 0) (i j : ℕ) → i ≤ j → ((r : ℕ) → i ≤ r → r < j → P r → P (r + 1)) → P i → P j
onward P i j l h p = subst P (omega arith) (go (j - i) (λ r a b. h r a (omega arith)))
  where
    go : (n : ℕ) → ((r : ℕ) → i ≤ r → r < i + n → P r → P (r + 1)) → P (i + n)
    go zero k = subst P (omega arith) p
    go (suc n) k = subst P (omega arith) (k (i + n) (omega arith) (omega arith) (go n (λ r a b. k r a (omega arith))))

-- numbers that fail change nothing
module _ (f : ℕ → Bool) (i j : ℕ) (l : i ≤ j) (none : (r : ℕ) → i ≤ r → r < j → f r ≡ false) where
  pub any-skip : any i f ≡ false → any j f ≡ false
  any-skip = onward (λ n. any n f ≡ false) i j l (λ r a b e. any-more r f e (none r a b))

  pub count-skip : (n : ℕ) → n ≡ count i f → n ≡ count j f
  count-skip n = onward (λ m. n ≡ count m f) i j l (λ r a b e. count-miss n r f e (none r a b))

  pub collect-skip : {A : Type 0} (g : ℕ → List A) (xs : List A) → xs ≡ collect i f g → xs ≡ collect j f g
  collect-skip g xs = onward (λ m. xs ≡ collect m f g) i j l (λ r a b e. collect-miss f g r xs e (none r a b))

-- ... or keep their elements
pub upto_skip : {A : Type 0} (e : A) (n i j : ℕ) (new old : ℕ → A) (xs : List A) → Upto e n i new old xs → i ≤ j
    → ((r : ℕ) → i ≤ r → r < j → old r ≡ new r) → Upto e n j new old xs
upto_skip e n i j new old xs u l h = record { long = u.long; at = λ r a. u.at r a ∙ there r (dec_lt r i) (dec_lt r j) }
  where
    there : (r : ℕ) → Dec (r < i) → Dec (r < j) → cond (ltb r i) (new r) (old r) ≡ cond (ltb r j) (new r) (old r)
    there r (yes a) (yes b) = rw (lt-ltb r i a, lt-ltb r j b)
    there r (yes a) (no b) = absurd (omega arith)
    there r (no a) (yes b) = rw (le-ltb r i (omega arith), lt-ltb r j b) (h r (omega arith) b)
    there r (no a) (no b) = rw (le-ltb r i (omega arith), le-ltb r j (omega arith))
