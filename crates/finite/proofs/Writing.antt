-- The laws of writing into a lent buffer: nothing, one element, one text behind another, and loops that copy a text or write texts one behind the
-- other. Assumes nothing.
use Prim.Native.Nat.{ℕ, suc, ◌+◌, ◌≤◌, ◌<◌}
use native.Mathlib.Nat.{add-zero}
use native.Mathlib.Numerals.{add-one}
use native.Mathlib.Omega.{arith}
use mathlib.Core.Path.{◌≡◌, refl, sym, ap, subst, ◌∙◌}
use mathlib.Core.Bool.{true}
use mathlib.Core.List.{List, [], ◌∷◌, ◌++◌}
use lib.ListN.{length, get_or, take, set, length-append}
use lib.Seq.{sets, length-sets, take-suc}
use Rattle.finite.specs.Finite.{collect}
use Rattle.finite.specs.Writing.{Wrote}
use Rattle.finite.proofs.Collecting.{collect-start, collect-suc}

pub sets-append : {A : Type 0} (o : List A) (n : ℕ) (a b : List A) → sets (sets o n a) (n + length a) b ≡ sets o n (a ++ b)
sets-append o n [] b = ap (λ (k : ℕ). sets o k b) (add-zero n)
sets-append o n (x ∷ a) b =
    let e : n + suc (length a) ≡ suc n + length a = omega arith in
    ap (λ (k : ℕ). sets (sets (set o n x) (suc n) a) k b) e ∙ sets-append (set o n x) (suc n) a b

pub wrote_none : {A : Type 0} (o : List A) (n : ℕ) → Wrote o o n n []
wrote_none o n = record { next = sym (add-zero n); text = refl }

pub wrote_one : {A : Type 0} (o : List A) (n : ℕ) (x : A) → Wrote o (set o n x) n (n + 1) (x ∷ [])
wrote_one o n x = record { next = refl; text = refl }

-- one text behind another
pub wrote_then : {A : Type 0} (o o' o'' : List A) (n m z : ℕ) (a b : List A) → Wrote o o' n m a → Wrote o' o'' m z b → Wrote o o'' n z (a ++ b)
wrote_then o o' o'' n m z a b p q =
    record {
      next = omega (arith, p.next, q.next, length-append a b);
      text = q.text ∙ ap (λ (l : List _). sets l m b) p.text ∙ ap (λ (k : ℕ). sets (sets o n a) k b) p.next ∙ sets-append o n a b;
    }

-- the same where everything else can be read off
pub behind : {A : Type 0} {o o' o'' : List A} {n m z : ℕ} {a b : List A} → Wrote o o' n m a → Wrote o' o'' m z b → Wrote o o'' n z (a ++ b)
behind p q = wrote_then _ _ _ _ _ _ _ _ p q

-- a buffer keeps its length
pub wrote-long : {A : Type 0} (o o' : List A) (n z : ℕ) (w : List A) → Wrote o o' n z w → length o' ≡ length o
wrote-long o o' n z w p = ap length p.text ∙ length-sets o n w

-- how far a text of at most b elements reaches
pub reach : {A : Type 0} (o o' : List A) (n z : ℕ) (w : List A) (b : ℕ) → length w ≤ b → Wrote o o' n z w → z ≤ n + b
reach o o' n z w b h r = omega (arith, r.next)

-- what was written ends at z, wherever that is said to be, and is w, however that is put
pub wrote_as : {A : Type 0} (o o' : List A) (n z z' : ℕ) (w w' : List A) → z ≡ z' → w ≡ w' → Wrote o o' n z w → Wrote o o' n z' w'
wrote_as o o' n z z' w w' e f h = subst (λ (k : ℕ). Wrote o o' n k w') e (subst (λ (xs : List _). Wrote o o' n z xs) f h)

-- ---- a list t that is written element by element: one element more, the end

pub copied_more : {A : Type 0} (e : A) (o o' : List A) (n i : ℕ) (t : List A) → i < length t → Wrote o o' n (n + i) (take i t) →
    Wrote o (set o' (n + i) (get_or t i e)) n (n + (i + 1)) (take (i + 1) t)
copied_more e o o' n i t h w =
    wrote_as _ _ _ _ _ _ _ (omega arith) (sym (rw add-one (take-suc t i e h)))
    (wrote_then o o' (set o' (n + i) (get_or t i e)) n (n + i) (n + i + 1) (take i t) (get_or t i e ∷ []) w (wrote_one o' (n + i) (get_or t i e)))

pub copied-end : {A : Type 0} (o o' : List A) (n i m : ℕ) (t : List A) → i ≤ m → m ≤ i → Wrote o o' n (n + i) (take i t) →
    Wrote o o' n (n + m) (take m t)
copied-end o o' n i m t l g w = let e : i ≡ m = omega arith in subst (λ (k : ℕ). Wrote o o' n (n + k) (take k t)) e w

-- ---- a loop that writes f 0, f 1, .. one behind the other: its start, a turn, its end

pub written_none : {A : Type 0} (o : List A) (n : ℕ) (f : ℕ → List A) → Wrote o o n n (collect 0 (λ _. true) f)
written_none o n f = subst (λ (xs : List _). Wrote o o n n xs) (collect-start (λ _. true) f) (wrote_none o n)

pub written-more : {A : Type 0} (o o' o'' : List A) (n z z' i : ℕ) (f : ℕ → List A) → Wrote o o' n z (collect i (λ _. true) f) →
    Wrote o' o'' z z' (f i) → Wrote o o'' n z' (collect (i + 1) (λ _. true) f)
written-more o o' o'' n z z' i f p q = subst (λ (xs : List _). Wrote o o'' n z' xs) (sym (collect-suc (λ _. true) f i)) (wrote_then o o' o'' n z z' _ _ p q)

pub written-end : {A : Type 0} (o o' : List A) (n z i m : ℕ) (f : ℕ → List A) → i ≤ m → m ≤ i → Wrote o o' n z (collect i (λ _. true) f) →
    Wrote o o' n z (collect m (λ _. true) f)
written-end o o' n z i m f l g w = let e : i ≡ m = omega arith in subst (λ (k : ℕ). Wrote o o' n z (collect k (λ _. true) f)) e w
