-- What stands at a place of a list of numbers: a part of it, each of its numbers, and one of the pieces that were put one behind the other. Assumes nothing.
use Prim.Native.Nat.{ℕ, zero, suc, ◌+◌, ◌*◌, ◌≤◌, ◌<◌}
use native.Mathlib.Omega.{arith}
use mathlib.Core.Path.{◌≡◌, refl, sym, ap, ap₂, subst, ◌∙◌}
use mathlib.Core.Bool.{true}
use mathlib.Core.List.{List, [], ◌++◌, append-nil, append_assoc}
use mathlib.Core.Logic.{◌⊎◌, inl, inr}
use lib.ListN.{length, get_or, length-append, get_or-append}
use lib.Seq.{get_or-append-add}
use Rattle.finite.specs.Finite.{collect}
use Rattle.finite.proofs.Search.{below_suc}
use Rattle.finite.proofs.Collecting.{length-pieces}

-- the numbers x stand in s from place i on
pub record Stands (s : List ℕ) (i : ℕ) (x : List ℕ) : Type 0 where
  pub front : List ℕ
  pub behind : List ℕ
  pub is : s ≡ front ++ (x ++ behind)
  pub place : length front ≡ i

pub stands-first : (x rest : List ℕ) → Stands (x ++ rest) 0 x
stands-first x rest = record { front = []; behind = rest; is = refl; place = refl }

-- a part of what stands there
pub stands-part : (s x a y b : List ℕ) (i j : ℕ) → Stands s i x → x ≡ a ++ (y ++ b) → j ≡ i + length a → Stands s j y
stands-part s x a y b i j h e p =
    record {
      front = h.front ++ a;
      behind = b ++ h.behind;
      is =
          h.is ∙ ap (λ (l : List ℕ). h.front ++ (l ++ h.behind)) e ∙
          ap (λ (l : List ℕ). h.front ++ l) (append_assoc a (y ++ b) h.behind ∙ ap (λ (l : List ℕ). a ++ l) (append_assoc y b h.behind)) ∙
          sym (append_assoc h.front a (y ++ (b ++ h.behind)));
      place = length-append h.front a ∙ ap (λ (k : ℕ). k + length a) h.place ∙ sym p;
    }

module _ (s x : List ℕ) (i : ℕ) (h : Stands s i x) where
  pub stands-long : i + length x ≤ length s
  stands-long =
      omega (arith, ap length h.is ∙ length-append h.front (x ++ h.behind), length-append x h.behind, h.place)

  pub stands_at : (j : ℕ) → j < length x → get_or s (i + j) 0 ≡ get_or x j 0
  stands_at j l =
      ap₂ (λ (m : List ℕ) (k : ℕ). get_or m (k + j) 0) h.is (sym h.place) ∙ get_or-append-add h.front (x ++ h.behind) j 0 ∙ get_or-append x h.behind 0 j l

  pub stands_here : 0 < length x → get_or s i 0 ≡ get_or x 0 0
  stands_here l = let z : i ≡ i + 0 = omega arith in ap (λ (k : ℕ). get_or s k 0) z ∙ stands_at 0 l

-- one of the pieces that are collected
piece : (f : ℕ → List ℕ) (n k : ℕ) → k < n → (b : List ℕ) × (collect n (λ _. true) f ≡ collect k (λ _. true) f ++ (f k ++ b))
unfolding collect
piece f zero k l = absurd (let z : 1 ≤ 0 = omega arith in omega arith)
piece f (suc n) k l = go (below_suc l) (piece f n k)
  where
    go : (k ≡ n) ⊎ (k < n) → (k < n → (b : List ℕ) × (collect n (λ _. true) f ≡ collect k (λ _. true) f ++ (f k ++ b)))
        → (b : List ℕ) × (collect n (λ _. true) f ++ f n ≡ collect k (λ _. true) f ++ (f k ++ b))
    go (inl e) ih = ([], subst (λ (m : ℕ). collect n (λ _. true) f ++ f n ≡ collect m (λ _. true) f ++ (f m ++ [])) (sym e) (ap (λ (l : List ℕ). collect n (λ _. true) f ++ l) (sym (append-nil (f n)))))
    go (inr g) ih =
        let h = ih g in (
          h.0 ++ f n,
          ap (λ (l : List ℕ). l ++ f n) h.1 ∙ append_assoc (collect k (λ _. true) f) (f k ++ h.0) (f n) ∙
              ap (λ (l : List ℕ). collect k (λ _. true) f ++ l) (append_assoc (f k) h.0 (f n)),
        )

pub piece-at : (s : List ℕ) (i : ℕ) (f : ℕ → List ℕ) (n : ℕ) → Stands s i (collect n (λ _. true) f) → (k : ℕ) → k < n → (m : ℕ) → length (collect k (λ _. true) f) ≡ m
    → Stands s (i + m) (f k)
piece-at s i f n h k l m e = let x = piece f n k l in stands-part s _ (collect k (λ _. true) f) (f k) x.0 i (i + m) h x.1 (ap (λ (j : ℕ). i + j) (sym e))

-- of one length
pub stands-piece : (s : List ℕ) (i w : ℕ) (f : ℕ → List ℕ) → ((j : ℕ) → length (f j) ≡ w) → (n : ℕ) → Stands s i (collect n (λ _. true) f) → (k : ℕ) → k < n → Stands s (i + w * k) (f k)
stands-piece s i w f even n h k l = piece-at s i f n h k l (w * k) (length-pieces w f even k)
