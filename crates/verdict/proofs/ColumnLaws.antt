-- What the tests of a column say, test by test, and the word that they make. Assumes nothing.
use Prim.Native.Nat.{ℕ, ◌+◌, ◌*◌, ◌<◌, ◌≤◌}
use native.Mathlib.Omega.{arith}
use mathlib.Core.Path.{◌≡◌, refl, sym, ap, ◌∙◌}
use mathlib.Core.Bool.{Bool, true, false, not, ◌&&◌, ◌||◌}
use mathlib.Core.List.{List}
use Rattle.std.specs.Prelude.{Option, None, Some, MatchOption, IfSome, is_some, unwrap_or}
use borrow.Author.Tests.{le-ltb, lt-ltb}
use lib.Dec.{ltb}
use lib.ListN.{get_or}
use Rattle.finite.specs.Finite.{any, tab}
use Rattle.finite.proofs.Bools.{cond-true, cond-false}
use Rattle.finite.proofs.Tables.{tab-at}
use Rattle.model.proofs.MissingLoops.{first_any}
use Rattle.model.specs.Scheme.{Column, Scheme, is_column}
use Rattle.model.specs.Even.{reaches, square}
use Rattle.model.specs.Verdict.{fetches, can_cache, links_to, once_linked, lowest_link, once_unique, once_here, never, is_one_column}
use Rattle.even.specs.Reading.{at}
use Rattle.even.proofs.Turns.{square-at}
use Rattle.verdict.specs.Words.{flag, verdict_of}

-- what a search below n finds is below n
pub found-below : (n : ℕ) (r : Option ℕ) →
    MatchOption r ((k : ℕ) → 0 ≤ k → k < n → Unit {0}) (λ i. (0 ≤ i) × (i < n) × Unit {0} × ((k : ℕ) → 0 ≤ k → k < i → Unit {0})) → IfSome r (λ i. i < n)
found-below n None h = tt
found-below n (Some i) h = h.1

-- which tables reach which, and which can have a cached row, as arrays
pub reach-at : (S : Scheme) (m : List (List Bool)) (t u : ℕ) → m ≡ square (reaches S) → t < 8 → u < 8 → at m t u ≡ reaches S t u
reach-at S m t u e a b = ap (λ (x : List (List Bool)). at x t u) e ∙ square-at (reaches S) t u a b

pub can-at : (S : Scheme) (can : List Bool) (t : ℕ) → can ≡ tab 8 (can_cache S) → t < 8 → get_or can t false ≡ can_cache S t
can-at S can t e l = ap (λ (x : List Bool). get_or x t false) e ∙ tab-at false 8 (can_cache S) t l

-- ---- the word

-- the sum that the code adds up
abbrev pub total : Bool → Bool → ℕ → Bool → Bool → ℕ
total f l i u o = flag f 1 + flag l 2 + flag u 4 + flag (not f && not (l || u)) 8 + flag o 16 + 256 * i

-- a number below n, if there is one: that is less than n, and what it adds
some-below : (n : ℕ) (l : Option ℕ) → IfSome l (λ i. i < n) → (is_some l ≡ ltb (unwrap_or l n) n) × (unwrap_or l 0 ≡ flag (is_some l) (unwrap_or l n))
some-below n None h = (sym (le-ltb n n (omega arith)), refl)
some-below n (Some i) h = (sym (lt-ltb i n h), refl)

module _ (S : Scheme) (k : Column) where
  pub no-column : is_column S k ≡ false → 0 ≡ verdict_of S k
  unfolding verdict_of
  no-column e = sym (cond-false (is_column S k) _ 0 e)

  pub column-word : {f u o : Bool} (l : Option ℕ) {r : ℕ} → is_column S k ≡ true → f ≡ fetches S k →
      (unwrap_or l S.constraints ≡ lowest_link S k) × IfSome l (λ i. i < S.constraints) → u ≡ once_unique S k → o ≡ is_one_column S k →
      r ≡ total f (is_some l) (unwrap_or l 0) u o → r ≡ verdict_of S k
  unfolding verdict_of never once_here once_linked
  column-word {f} {u} {o} l c ef el eu eo h =
      h ∙ ap (λ (i : ℕ). total f (is_some l) i u o) some.1 ∙ ap (λ (b : Bool). total f b (flag b (unwrap_or l S.constraints)) u o) (some.0 ∙ is) ∙
      ap (λ (b : Bool). total b linked (flag linked (unwrap_or l S.constraints)) u o) ef ∙ ap (λ (j : ℕ). total (fetches S k) linked (flag linked j) u o) el.0 ∙
      ap (λ (b : Bool). total (fetches S k) linked (flag linked (lowest_link S k)) b o) eu ∙
      ap (λ (b : Bool). total (fetches S k) linked (flag linked (lowest_link S k)) (once_unique S k) b) eo ∙ sym (cond-true (is_column S k) _ 0 c)
    where
      linked : Bool
      linked = any S.constraints (links_to S k)

      some : (is_some l ≡ ltb (unwrap_or l S.constraints) S.constraints) × (unwrap_or l 0 ≡ flag (is_some l) (unwrap_or l S.constraints))
      some = some-below S.constraints l el.1

      is : ltb (unwrap_or l S.constraints) S.constraints ≡ linked
      is = ap (λ (j : ℕ). ltb j S.constraints) el.0 ∙ first_any S.constraints (links_to S k)
