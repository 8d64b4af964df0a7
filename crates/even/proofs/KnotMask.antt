-- A set's weight orders the sets, the smaller first and then one by one, and tells its mask, off which its members can be read. Assumes nothing.
use Prim.Native.Nat.{ℕ, zero, suc, ◌+◌, ◌-◌, ◌*◌, ◌/◌, ◌%◌, ◌^◌, ◌≤◌, ◌<◌}
use native.Mathlib.Nat.{zero-add, suc-add, add-mul, mul-one, mul_assoc, mul_left_comm, one-le-pow, pow-le-pow_right, pow-succ', div-one, div-div-eq-div-mul}
use native.Mathlib.Omega.{arith}
use mathlib.Core.Path.{◌≡◌, refl, sym, ap, ◌∙◌}
use mathlib.Core.Logic.{inl, inr}
use mathlib.Core.Bool.{Bool, true, false, cond, ◌&&◌}
use mathlib.Core.List.{List, [], ◌∷◌, ◌++◌, append-nil}
use borrow.Author.Tests.{eqb-true, eq-eqb, ne_eqb, le-ltb, lt-ltb}
use lib.Dec.{eqb, ltb}
use lib.ListN.{length}
use Rattle.finite.specs.Finite.{all, collect}
use Rattle.finite.proofs.Bools.{and_left}
use Rattle.finite.proofs.Collecting.{collect-same}
use Rattle.finite.proofs.Search.{all-at}
use Rattle.model.specs.Knot.{Rising, none, more, Before, lower, same}
use Rattle.model.proofs.KnotOrder.{Earlier}
use Rattle.state.specs.Meaning.{bit}
use Rattle.even.specs.Walks.{bit_of, weight_of, mask_in}
use Rattle.even.proofs.Walks.{Set, weight, cost}
use Rattle.even.proofs.KnotWeight.{members}

-- ---- bits and weights of the sixteen constraints

-- what a test finds of each number below 16 holds of it
sixteen-times : (f g : ℕ → ℕ) → all 16 (λ e. eqb (f e) (g e)) ≡ true → (e : ℕ) → e < 16 → f e ≡ g e
sixteen-times f g t e l = eqb-true _ _ (all-at 16 (λ e. eqb (f e) (g e)) t e l)

pub weighs : (e : ℕ) → e < 16 → weight_of e + bit_of e ≡ 65536
unfolding all
weighs = sixteen-times (λ e. weight_of e + bit_of e) (λ _. 65536) refl

-- twice a bit is the next higher one
twice : (e : ℕ) → e < 16 → 2 ^ (16 - e) ≡ 2 * bit_of e
unfolding all
twice = sixteen-times (λ e. 2 ^ (16 - e)) (λ e. 2 * bit_of e) refl

-- the bit of 0, moved to the right
pub moved : (e : ℕ) → e < 16 → 32768 / 2 ^ e ≡ bit_of e
unfolding all
moved = sixteen-times (λ e. 32768 / 2 ^ e) bit_of refl

some-bit : (k : ℕ) → 1 ≤ 2 ^ k
some-bit k = one-le-pow k 2 (omega arith)

-- ---- rising lists of numbers below 16

cost-bits : {i : ℕ} {ks : List ℕ} → Rising 16 i ks → cost weight_of ks + cost bit_of ks ≡ 65536 * length ks
unfolding cost
cost-bits none = refl
cost-bits (more k a b r) = omega (arith, cost-bits r, weighs k b)

-- the bits behind i come to less than the one before it
bits-low : {i : ℕ} {ks : List ℕ} → Rising 16 i ks → cost bit_of ks < 2 ^ (16 - i)
unfolding cost
bits-low {i} none = some-bit (16 - i)
bits-low {i} (more k a b r) =
    let h : 2 ^ (16 - k) ≤ 2 ^ (16 - i) = pow-le-pow_right (omega arith) (omega arith) in
    let g : 2 ^ (16 - suc k) ≡ bit_of k = ap (λ (x : ℕ). 2 ^ x) (omega arith) in
    omega (arith, bits-low r, twice k b)

-- the list that comes first has the higher mask
before-bits : {i j : ℕ} {ks ls : List ℕ} → Before ks ls → Rising 16 i ks → Rising 16 j ls → cost bit_of ls < cost bit_of ks
unfolding cost
before-bits (lower h) (more k a b r) (more l c d s) =
    let e : l ≤ l = omega arith in
    let p = bits-low (more l e d s) in
    let q : 2 ^ (16 - l) ≤ bit_of k = pow-le-pow_right (omega arith) (omega arith) in
    omega arith
before-bits (same e h) (more k a b r) (more l c d s) = let p = before-bits h r s in let q = ap bit_of e in omega arith

-- the list that comes earlier costs less
pub earlier-cheaper : {ks ls : List ℕ} → Rising 16 0 ks → Rising 16 0 ls → Earlier ks ls → cost weight_of ks < cost weight_of ls
earlier-cheaper r s (inl h) = omega (arith, cost-bits r, cost-bits s, bits-low s)
earlier-cheaper r s (inr h) = omega (arith, cost-bits r, cost-bits s, before-bits h.1 r s, h.0)

some-cost : {i : ℕ} {ks : List ℕ} → Rising 16 i ks → 0 < length ks → 0 < cost bit_of ks
unfolding cost
some-cost none l = absurd (omega arith)
some-cost (more k a b r) l = omega (arith, some-bit (15 - k))

-- the mask is read off the weight
pub mask_is : {ks : List ℕ} → Rising 16 0 ks → 0 < length ks → mask_in (cost weight_of ks) ≡ cost bit_of ks
mask_is r l = omega (arith, cost-bits r, bits-low r, some-cost r l)

-- all of them weigh less than 16 times 65,536
pub below-far : {ks : List ℕ} → Rising 16 0 ks → 0 < length ks → length ks ≤ 16 → cost weight_of ks < 1048576
below-far r l h = omega (arith, cost-bits r, some-cost r l)

-- ---- the digits of a mask

abbrev digit : Bool → ℕ
digit true = 1
digit false = 0

-- K's members below n as the digits of a number, constraint 0 the first
digits : Set → ℕ → ℕ
digits K zero = 0
digits K (suc n) = 2 * digits K n + digit (K n)

digit_low : (b : Bool) → digit b ≤ 1
digit_low true = omega arith
digit_low false = omega arith

-- the mask of a set is its sixteen digits
digits-weigh : (K : Set) (n : ℕ) → n ≤ 16 → weight bit_of n K ≡ digits K n * 2 ^ (16 - n)
unfolding weight digits
digits-weigh K zero l = refl
digits-weigh K (suc n) l =
    let a = digits-weigh K n (omega arith) in
    let b : 2 ^ (16 - suc n) ≡ bit_of n = ap (λ (x : ℕ). 2 ^ x) (omega arith) in
    ap (λ (x : ℕ). x + cond (K n) (bit_of n) 0) (a ∙ ap (λ (x : ℕ). digits K n * x) (twice n l)) ∙ next (digits K n) (bit_of n) (K n) ∙
    ap (λ (x : ℕ). (2 * digits K n + digit (K n)) * x) (sym b)
  where
    next : (d x : ℕ) (b : Bool) → d * (2 * x) + cond b x 0 ≡ (2 * d + digit b) * x
    next d x true = omega (arith, add-mul (2 * d) 1 x, mul_left_comm d 2 x, mul_assoc 2 d x)
    next d x false = omega (arith, add-mul (2 * d) 0 x, mul_left_comm d 2 x, mul_assoc 2 d x)

-- digits are taken off the end
digits-off : (K : Set) (j i : ℕ) → digits K (j + i) / 2 ^ j ≡ digits K i
unfolding digits
digits-off K zero i = ap (λ (x : ℕ). digits K x / 1) (zero-add i) ∙ div-one (digits K i)
digits-off K (suc j) i =
    ap (λ (x : ℕ). digits K x / 2 ^ suc j) (suc-add j i) ∙ ap (λ (x : ℕ). digits K (suc (j + i)) / x) (pow-succ' 2 j) ∙
    sym (div-div-eq-div-mul (digits K (suc (j + i))) 2 (2 ^ j)) ∙ ap (λ (x : ℕ). x / 2 ^ j) (half (digits K (j + i)) (K (j + i))) ∙ digits-off K j i
  where
    half : (d : ℕ) (b : Bool) → (2 * d + digit b) / 2 ≡ d
    half d b = omega (arith, digit_low b)

digit-bit : (d : ℕ) (b : Bool) → eqb ((2 * d + digit b) % 2) 1 ≡ b
digit-bit d true = eq-eqb ((2 * d + 1) % 2) 1 (omega arith)
digit-bit d false = ne_eqb ((2 * d + 0) % 2) 1 (λ (e : (2 * d + 0) % 2 ≡ 1). omega arith)

-- the bit of constraint e in the mask of a set
mask-bit : (K : Set) (e : ℕ) → e < 16 → bit (weight bit_of 16 K) (15 - e) ≡ K e
unfolding bit digits
mask-bit K e l =
    let a : weight bit_of 16 K ≡ digits K 16 = digits-weigh K 16 (omega arith) ∙ mul-one (digits K 16) in
    let c : ◌≡◌ {A = ℕ} 16 (15 - e + suc e) = omega arith in
    let b : digits K 16 / 2 ^ (15 - e) ≡ digits K (suc e) = ap (λ (x : ℕ). digits K x / 2 ^ (15 - e)) c ∙ digits-off K (15 - e) (suc e) in
    ap (λ (x : ℕ). eqb (x / 2 ^ (15 - e) % 2) 1) a ∙ ap (λ (x : ℕ). eqb (x % 2) 1) b ∙ digit-bit (digits K e) (K e)

-- ---- a set of numbers below n, of sixteen

module _ (n : ℕ) (few : n ≤ 16) (K : Set) where
  -- K below n
  below : Set
  below e = ltb e n && K e

  past : (e : ℕ) → n ≤ e → below e ≡ false
  unfolding below
  past e l = and_left _ _ (le-ltb e n l)

  inside : (e : ℕ) → e < n → below e ≡ K e
  unfolding below
  inside e l = ap (λ (b : Bool). b && K e) (lt-ltb e n l)

  weight-same : (w : ℕ → ℕ) (m : ℕ) → m ≤ n → weight w m below ≡ weight w m K
  unfolding weight
  weight-same w zero l = refl
  weight-same w (suc m) l = omega (arith, weight-same w m (omega arith), ap (λ (b : Bool). cond b (w m) 0) (inside m l))

  weight-past : (w : ℕ → ℕ) (k : ℕ) → weight w (k + n) below ≡ weight w n below
  unfolding weight
  weight-past w zero = ap (λ (x : ℕ). weight w x below) (zero-add n)
  weight-past w (suc k) =
      let z : weight w (suc (k + n)) below ≡ weight w n below = omega (arith, weight-past w k, ap (λ (b : Bool). cond b (w (k + n)) 0) (past (k + n) (omega arith))) in
      ap (λ (x : ℕ). weight w x below) (suc-add k n) ∙ z

  members-past : (k : ℕ) → members (k + n) below ≡ members n below
  unfolding collect
  members-past zero = ap (λ (x : ℕ). members x below) (zero-add n)
  members-past (suc k) =
      ap (λ (x : ℕ). members x below) (suc-add k n) ∙ ap (λ (b : Bool). members (k + n) below ++ cond b ((k + n) ∷ []) []) (past (k + n) (omega arith)) ∙
      append-nil (members (k + n) below) ∙ members-past k

  -- the members are read off the mask
  pub members-read : collect 16 (λ e. bit (weight bit_of n K) (15 - e)) (λ e. e ∷ []) ≡ members n K
  members-read =
      let c : ◌≡◌ {A = ℕ} 16 (16 - n + n) = omega arith in
      let m : weight bit_of n K ≡ weight bit_of 16 below =
      sym (ap (λ (x : ℕ). weight bit_of x below) c ∙ weight-past bit_of (16 - n) ∙ weight-same bit_of n (omega arith)) in
      collect-same 16 _ _ _ _ (λ e l. ap (λ (x : ℕ). bit x (15 - e)) m ∙ mask-bit below e l) (λ _ _ _. refl) ∙
      ap (λ (x : ℕ). members x below) c ∙ members-past (16 - n) ∙
      collect-same n _ _ _ _ inside (λ _ _ _. refl)
