-- What `find_map` over the numbers below n answers, where the closure gives the lack at each: the first. And what `map` makes of an array. Assumes nothing.
use Prim.Native.Nat.{ℕ, zero, suc, ◌+◌, ◌<◌, ◌≤◌}
use native.Mathlib.Omega.{arith}
use mathlib.Core.Path.{◌≡◌, refl, sym, ap, ap₂, subst, ◌∙◌}
use mathlib.Core.Logic.{◌⊎◌, inl, inr}
use mathlib.Core.Bool.{true}
use mathlib.Core.List.{List, [], ◌∷◌}
use denote.Param.Members.{Mut}
use lib.ListN.{get_or}
use Rattle.finite.proofs.Bools.{order}
use Rattle.finite.proofs.Tables.{tab-of}
use Rattle.std.specs.Array.{IsMapOf, MapsFrom}
use Rattle.std.specs.Prelude.{Option, None, Some, MatchOption, IfSome, IsSomeAnd, slice_get}
use Rattle.std.specs.Fn.{Called}
use Rattle.std.specs.Iterator.{AlwaysYields, Yields}
use Rattle.std.specs.Iterator.Runs.{Run, SomeRun, YieldsRun, AllItemsGive, IsFirstToGive}
use Rattle.std.specs.List.{range_with_len}
use Rattle.std.proofs.lemmas.Iterator.{YieldsList}
use Rattle.finite.specs.Finite.{tab}
use Rattle.model.specs.Missing as Model
use Rattle.model.proofs.MissingLoops.{lack-tab}
use Rattle.slice.specs.declared.fetch.Fetch.{Fetch}
use Rattle.slice.specs.Fetches.{fetch_of, as_lack}

module _ {S A B : Type 0} (steps : S → Option A → S → Type 0) (v : A → B) (h : B → Model.Lack) where
  -- none of the items lacks
  passes : (xs : List A) (all : List B) (s t : S) → AlwaysYields steps v s all → Yields steps s xs t → ((k : ℕ) → IfSome (slice_get xs k) (λ x. Model.nothing ≡ h (v x))) →
      (u : S) → steps t None u → Model.nothing ≡ Model.lack_in h all
  unfolding Model.lack_in
  passes [] [] s t e y b u w = refl
  passes [] (z ∷ all) s t e y b u w = absurd (e.0 u (subst (λ k. steps k None u) (sym y) w))
  passes (x ∷ xs) [] s t e y b u w = absurd (e x y.0 y.1)
  passes (x ∷ xs) (z ∷ all) s t e y b u w =
      let q = e.1 x y.0 y.1 in
      ap₂ Model.or_lack (b 0 ∙ ap h q.0) (passes xs all y.0 t q.1 y.2 (λ k. b (suc k)) u w)

  -- the item at place i does, and none before it
  stops : {g : Model.Fetch} (xs : List A) (all : List B) (s t : S) → AlwaysYields steps v s all → Yields steps s xs t → (i : ℕ) →
      ((k : ℕ) → k < i → IsSomeAnd (slice_get xs k) (λ x. Model.nothing ≡ h (v x))) → IsSomeAnd (slice_get xs i) (λ x. Model.lacks g ≡ h (v x)) →
      Model.lacks g ≡ Model.lack_in h all
  unfolding Model.lack_in
  stops [] all s t e y i b k = absurd k
  stops (x ∷ xs) [] s t e y i b k = absurd (e x y.0 y.1)
  stops (x ∷ xs) (z ∷ all) s t e y zero b k = ap (λ (l : Model.Lack). Model.or_lack l (Model.lack_in h all)) (k ∙ ap h (e.1 x y.0 y.1).0)
  stops (x ∷ xs) (z ∷ all) s t e y (suc i) b k =
      let q = e.1 x y.0 y.1 in
      ap₂ Model.or_lack (b 0 (omega arith) ∙ ap h q.0) (stops xs all y.0 t q.1 y.2 i (λ j l. b (suc j) (omega arith)) k)

if-some : {A : Type 0} {P Q : A → Type 0} (o : Option A) → ((x : A) → P x → Q x) → IfSome o P → IfSome o Q
if-some None m p = p
if-some (Some x) m p = m x p

some-and : {A : Type 0} {P Q : A → Type 0} (o : Option A) → ((x : A) → P x → Q x) → IsSomeAnd o P → IsSomeAnd o Q
some-and None m p = p
some-and (Some x) m p = m x p

-- the first lack of a list that an iterator goes through
pub lack_in-yields : {S A B F : Type 0} {steps : S → Option A → S → Type 0} {v : A → B} {g : Mut F (A × Unit {0}) (Option Fetch)} {s : S} {all : List B}
    (h : B → Model.Lack) (f : F) (r : Option Fetch)
    → SomeRun steps s (λ p. MatchOption r ((p.whole ≡ true) × AllItemsGive p g f None) (λ y. (i : ℕ) × (i < p.len) × (p.len ≡ i + 1) × IsFirstToGive p g f (Some y) None i))
    → YieldsList steps v s all
    → ((x : A) (o : Option Fetch) (q : F) → Called g f (x, tt) o q → (q ≡ f) × (as_lack o ≡ h (v x)))
    → as_lack r ≡ Model.lack_in h all
unfolding YieldsRun
lack_in-yields {S} {A} {B} {F} {steps} {v} {g} {s} {all} h f r d e k = go r d.2
  where
    p : Run steps
    p = d.0

    keeps : (a : A × Unit {0}) (o : Option Fetch) (q : F) → Called g f a o q → q ≡ f
    keeps a o q c = (k a.0 o q c).0

    runs : AlwaysYields steps v p.from all
    runs = subst (λ (j : S). AlwaysYields steps v j all) (sym d.1) e.runs

    go : (r : Option Fetch) → MatchOption r ((p.whole ≡ true) × AllItemsGive p g f None) (λ y. (i : ℕ) × (i < p.len) × (p.len ≡ i + 1) × IsFirstToGive p g f (Some y) None i) →
        as_lack r ≡ Model.lack_in h all
    go None m =
        let w = p.gave.0.2 m.0 in
        passes steps v h p.items all p.from p.gave.0.0 runs p.gave.0.1
        (λ i. subst (λ (o : Option A). IfSome o (λ x. Model.nothing ≡ h (v x))) (p.gave.1 i) (if-some (p.at i) (λ x c. (k x None f c).1) (m.1 keeps i))) w.0 w.1
    go (Some y) m =
        let w = m.3 keeps in
        stops steps v h p.items all p.from p.gave.0.0 runs p.gave.0.1 m.0
        (λ i l. subst (λ (o : Option A). IsSomeAnd o (λ x. Model.nothing ≡ h (v x))) (p.gave.1 i) (some-and (p.at i) (λ x c. (k x None f c).1) (w.1 i l)))
        (subst (λ (o : Option A). IsSomeAnd o (λ x. Model.lacks (fetch_of y) ≡ h (v x))) (p.gave.1 m.0) (some-and (p.at m.0) (λ x c. (k x (Some y) f c).1) w.0))

tab-range : (a n : ℕ) → range_with_len a n ≡ tab n (λ i. a + i)
unfolding tab
tab-range a zero = refl
tab-range a (suc n) = ap₂ ◌∷◌ (omega arith) (tab-range (a + 1) n ∙ (λ j. tab n (λ i. e i j)))
  where
    e : (i : ℕ) → a + 1 + i ≡ a + suc i
    e i = omega arith

-- the same of the numbers below n
pub lack_in-range : (n : ℕ) (h : ℕ → Model.Lack) → Model.lack_in h (range_with_len 0 n) ≡ Model.lack_below n h
lack_in-range n h = ap (Model.lack_in h) (tab-range 0 n) ∙ lack-tab h n (λ i. 0 + i) ∙ (λ j. Model.lack_below n (λ i. h (e i j)))
  where
    e : (i : ℕ) → 0 + i ≡ i
    e i = omega arith

-- ---- an array's elements, each under the same function

maps-at : {F A B : Type 0} {g : Mut F (A × Unit {0}) B} (h : A → B) (f : F) → ((x : A) (b : B) (q : F) → Called g f (x, tt) b q → (q ≡ f) × (b ≡ h x)) →
    (n i : ℕ) (xs : List A) (ys : List B) → MapsFrom g f xs ys i n → (k : ℕ) (d : A) (e : B) → i ≤ k → k < i + n → get_or ys k e ≡ h (get_or xs k d)
maps-at h f c zero i xs ys m k d e a b = absurd (omega arith)
maps-at {F} {A} {B} {g} h f c (suc n) i xs ys m k d e a b =
    go (order i k) (λ l. maps-at h f c n (i + 1) xs ys (subst (λ (p : F). MapsFrom g p xs ys (i + 1) n) s.0 m.6) k d e (omega arith) (omega arith))
  where
    s : (m.0 ≡ f) × (m.2 ≡ h m.1)
    s = c m.1 m.2 m.0 m.5

    go : (i < k) ⊎ ((i ≡ k) ⊎ (k < i)) → (i < k → get_or ys k e ≡ h (get_or xs k d)) → get_or ys k e ≡ h (get_or xs k d)
    go (inl l) r = r l
    go (inr (inl q)) r = subst (λ (j : ℕ). get_or ys j e ≡ h (get_or xs j d)) q (m.4.1 e ∙ s.1 ∙ ap h (sym (m.3.1 d)))
    go (inr (inr l)) r = absurd (omega arith)

pub map-tab : {F A B : Type 0} {g : Mut F (A × Unit {0}) B} (h : A → B) (d : A) (e : B) (n : ℕ) (f : F) (xs : List A) (ys : List B) → IsMapOf g f xs ys n →
    ((x : A) (b : B) (q : F) → Called g f (x, tt) b q → (q ≡ f) × (b ≡ h x)) → ys ≡ tab n (λ i. h (get_or xs i d))
map-tab h d e n f xs ys m c = tab-of e n (λ i. h (get_or xs i d)) ys m.long (λ i l. maps-at h f c n 0 xs ys m.each i d e (omega arith) (omega arith))
