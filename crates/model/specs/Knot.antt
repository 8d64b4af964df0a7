-- The smallest knot: "the fewest constraints which, kept without the others, are still uneven; among equals, the one whose rising numbers come first when
-- compared one by one" (02, Req 11). Assumes nothing.
use Rattle.std.specs.Prelude.{ℕ, zero, suc, ◌≤◌, ◌<◌, ◌≡◌, ◌⊎◌, Bool, cond, List, [], ◌∷◌, ◌++◌, map, ltb, length, get_or}
use Rattle.model.specs.Scheme.{Scheme}
use Rattle.model.specs.Even.{Uneven, lowest_uneven}

-- the scheme with these constraints alone, numbered anew: they are "kept without the others"
unfoldable pub kept : Scheme → List ℕ → Scheme
kept S ks =
    record {
      tables = S.tables;
      columns = S.columns;
      unique = S.unique;
      constraints = length ks;
      constraint = λ i. S.constraint (get_or ks i 0);
      fillings = S.fillings;
      filling = S.filling;
    }

-- kept without the others, they "are still uneven" (Req 01)
abbrev pub StillUneven : Scheme → List ℕ → Type 0
StillUneven S ks = (i : ℕ) × (j : ℕ) × Uneven (kept S ks) i j

-- a set of numbers below n, written "rising", from i on
pub data Rising (n : ℕ) : ℕ → List ℕ → Type 0 where
  none : {i : ℕ} → Rising n i []
  more : {i : ℕ} {ks : List ℕ} (k : ℕ) → i ≤ k → k < n → Rising n (suc k) ks → Rising n i (k ∷ ks)

-- "when compared one by one", the left list comes first: where the two first differ, it has the lower number
pub data Before : List ℕ → List ℕ → Type 0 where
  lower : {k l : ℕ} {ks ls : List ℕ} → k < l → Before (k ∷ ks) (l ∷ ls)
  same : {k l : ℕ} {ks ls : List ℕ} → k ≡ l → Before ks ls → Before (k ∷ ks) (l ∷ ls)

-- a set of the scheme's constraints
abbrev pub SetOf : Scheme → List ℕ → Type 0
SetOf S ks = Rising S.constraints 0 ks

-- the smallest knot
pub record Knot (S : Scheme) (ks : List ℕ) : Type 0 where
  pub rising : SetOf S ks
  pub uneven : StillUneven S ks
  -- "No smaller set is uneven"
  pub fewest : (ls : List ℕ) → SetOf S ls → StillUneven S ls → length ks ≤ length ls
  -- "among equals" it comes first
  pub first : (ls : List ℕ) → SetOf S ls → StillUneven S ls → length ks ≡ length ls → (ks ≡ ls) ⊎ Before ks ls

-- ---- the same as a search: all sets, the shortest first, those of one length one by one, and the first of them that is still uneven

-- the rising lists of n of the m numbers from i on, in the order in which they come when compared one by one
unfoldable pub choices : ℕ → ℕ → ℕ → List (List ℕ)
choices zero i m = [] ∷ []
choices (suc n) i zero = []
choices (suc n) i (suc m) = map (λ ks. i ∷ ks) (choices n (suc i) m) ++ choices (suc n) (suc i) m

-- those of at most n of the numbers below m, the shortest first
unfoldable pub in_order : ℕ → ℕ → List (List ℕ)
in_order zero m = choices 0 0 m
in_order (suc n) m = in_order n m ++ choices (suc n) 0 m

-- the first that passes the test; e if none does
unfoldable pub first_that : {A : Type 0} → (A → Bool) → A → List A → A
first_that p e [] = e
first_that p e (x ∷ xs) = cond (p x) x (first_that p e xs)

-- an uneven pair is found
unfoldable pub is_uneven_scheme : Scheme → Bool
is_uneven_scheme S = ltb (lowest_uneven S) S.constraints

unfoldable pub knot_of : Scheme → List ℕ
knot_of S = first_that (λ ks. is_uneven_scheme (kept S ks)) [] (in_order S.constraints S.constraints)
