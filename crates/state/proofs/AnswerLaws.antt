-- An answer as the report shows it: from the code's answer to the model's. Assumes nothing.
use Prim.Native.Nat.{ℕ, ◌+◌, ◌-◌, ◌≤◌, ◌<◌}
use native.Mathlib.Omega.{arith}
use mathlib.Core.Path.{◌≡◌, refl, sym, ap, subst, ◌∙◌}
use mathlib.Core.Logic.{◌⊎◌, ⊎_elim}
use mathlib.Core.Bool.{Bool, true, false, cond}
use mathlib.Core.List.{List, [], ◌∷◌, ◌++◌, append-nil}
use borrow.Author.Tests.{eq-eqb, ne_eqb}
use lib.Dec.{eqb}
use lib.ListN.{length, get_or, set, drop, replicate, length-append, length-replicate, length-set, length-drop, get_or-append, get_or-eq_default}
use lib.Seq.{get_or-set_same, get_or-set_other, get_or-append_right, get_or-drop}
use Rattle.std.proofs.lemmas.List.{get_or-replicate}
use types.Run.{OneOf}
use denote.Enum.Declared.{tag_of}
use Rattle.finite.specs.Finite.{collect}
use Rattle.finite.proofs.Bools.{order}
use Rattle.finite.proofs.Collecting.{collect-suc, collect-most}
use Rattle.finite.proofs.Sameness.{end-before, end-last, end-past}
use Rattle.finite.proofs.Tables.{length-tab, tab-at, tab-of}
use Rattle.model.specs.Answers as Model
use Rattle.state.specs.declared.answer.Answer.{Answer}
use Rattle.state.specs.declared.answer.Answer.TheVariants as A
use Rattle.state.specs.declared.answer.Shown.{Shown}
use Rattle.state.specs.contracts.answer.Answer.{the_type}
use Rattle.state.specs.Meaning.{bit, mask_members, answer_of, sixteen, shown_of}

-- the answer is b, and what is shown of it is t
pub shows-case : {s t : Shown} {a b : Answer} → s ≡ t → a ≡ b → t ≡ shown_of (Model.shown (answer_of b)) → s ≡ shown_of (Model.shown (answer_of a))
shows-case p q h = p ∙ h ∙ sym (ap (λ (x : Answer). shown_of (Model.shown (answer_of x))) q)

-- the numbers xs in an array of sixteen
pub filled : (xs : List ℕ) → length xs ≤ 16 → xs ++ drop (length xs) (replicate 16 0) ≡ sixteen xs
filled xs l =
    tab-of 0 16 (λ i. get_or xs i 0) _
    (length-append xs _ ∙ omega (arith, length-drop (length xs) (replicate {A = ℕ} 16 0), length-replicate {A = ℕ} 16 0))
    (λ i h.
    ⊎_elim (λ (q : i < length xs). get_or-append xs _ 0 i q)
    (λ (q : (i ≡ length xs) ⊎ (length xs < i)).
    get_or-append_right xs _ i 0 (⊎_elim (λ (e : i ≡ length xs). omega arith) (λ (e : length xs < i). omega arith) q) ∙ get_or-drop (length xs) (replicate 16 0) (i - length xs) 0 ∙
    get_or-replicate {A = ℕ} 16 (length xs + (i - length xs)) 0 0 (⊎_elim (λ (e : i ≡ length xs). omega arith) (λ (e : length xs < i). omega arith) q) ∙
    sym (get_or-eq_default xs 0 (⊎_elim (λ (e : i ≡ length xs). omega arith) (λ (e : length xs < i). omega arith) q)))
    (order i (length xs)))

-- ---- the members of a mask

-- those below e
abbrev pub members_below : ℕ → ℕ → List ℕ
members_below mask e = collect e (λ k. bit mask (15 - k)) (λ k. k ∷ [])

pub members-few : (mask e : ℕ) → length (members_below mask e) ≤ e
members-few mask e = omega (arith, collect-most e 1 (λ k. bit mask (15 - k)) (λ k. k ∷ []) (λ k. omega arith))

-- one more behind the others
sixteen-more : (xs : List ℕ) (e : ℕ) → length xs < 16 → set (sixteen xs) (length xs) e ≡ sixteen (xs ++ (e ∷ []))
sixteen-more xs e l =
    tab-of 0 16 (λ i. get_or (xs ++ (e ∷ [])) i 0) (set (sixteen xs) (length xs) e) (length-set (sixteen xs) (length xs) e ∙ length-tab 16 _)
    (λ i h.
    ⊎_elim
    (λ (q : i < length xs). get_or-set_other (sixteen xs) (length xs) i e 0 (λ p. omega arith) ∙ tab-at 0 16 _ i h ∙ sym (end-before eqb 0 xs e i q))
    (⊎_elim
    (λ (q : i ≡ length xs).
    ap (get_or (set (sixteen xs) (length xs) e) i) refl ∙
    (rw q (get_or-set_same (sixteen xs) (length xs) e 0 (omega (arith, length-tab 16 (λ j. get_or xs j 0))))) ∙ sym (end-last eqb 0 xs e i q))
    (λ (q : length xs < i).
    get_or-set_other (sixteen xs) (length xs) i e 0 (λ p. omega arith) ∙ tab-at 0 16 _ i h ∙ get_or-eq_default xs 0 (omega arith) ∙
    sym (end-past eqb 0 xs e i q)))
    (order i (length xs)))

pub members-more : (word mask e : ℕ) (s t : Shown) → e < 16 → s ≡ shown_of (record { word = word; numbers = members_below mask e }) →
    t ≡ cond (bit mask (15 - e)) (record { word = s.word; count = s.count + 1; numbers = set s.numbers s.count e }) s →
    t ≡ shown_of (record { word = word; numbers = members_below mask (e + 1) })
members-more word mask e s t l p q =
    q ∙ ap (λ (x : Shown). cond (bit mask (15 - e)) (record { word = x.word; count = x.count + 1; numbers = set x.numbers x.count e }) x) p ∙
    go (bit mask (15 - e)) ∙
    ap (λ (ns : List ℕ). shown_of (record { word = word; numbers = ns })) (sym (collect-suc (λ k. bit mask (15 - k)) (λ k. k ∷ []) e))
  where
    xs : List ℕ
    xs = members_below mask e

    go : (b : Bool) → cond b (record { word = word; count = length xs + 1; numbers = set (sixteen xs) (length xs) e }) (shown_of (record { word = word; numbers = xs })) ≡
        shown_of (record { word = word; numbers = xs ++ cond b (e ∷ []) [] })
    go true = λ x. record { word = word; count = sym (length-append xs (e ∷ [])) x; numbers = sixteen-more xs e (omega (arith, members-few mask e)) x }
    go false = ap (λ (ns : List ℕ). shown_of (record { word = word; numbers = ns })) (sym (append-nil xs))

pub members-end : (word mask e : ℕ) (s : Shown) → e ≤ 16 → 16 ≤ e → s ≡ shown_of (record { word = word; numbers = members_below mask e }) →
    s ≡ shown_of (record { word = word; numbers = mask_members mask })
members-end word mask e s a b p = let q : e ≡ 16 = omega arith in p ∙ ap (λ (k : ℕ). shown_of (record { word = word; numbers = members_below mask k })) q

-- an answer has at most sixteen numbers
pub few-numbers : (a : Answer) → length (Model.shown (answer_of a)).numbers ≤ 16
unfolding Model.shown
few-numbers (A.Loaded rows rounds) = omega arith
few-numbers A.Held = omega arith
few-numbers A.NoCandidate = omega arith
few-numbers (A.Dropped rows) = omega arith
few-numbers (A.Ground g rows) = omega arith
few-numbers A.Sent = omega arith
few-numbers (A.Lists n) = omega arith
few-numbers (A.Refused n) = omega arith
few-numbers A.Even = omega arith
few-numbers (A.Uneven i j) = omega arith
few-numbers (A.Total n) = omega arith
few-numbers (A.Knot mask) = members-few mask 16
few-numbers (A.Named d) = omega arith
few-numbers A.Open = omega arith
few-numbers (A.OpenedBy f n i) = omega arith
few-numbers A.NoOpener = omega arith
few-numbers A.Absent = omega arith
few-numbers (A.Explained n) = omega arith
few-numbers (A.Changed came went) = omega arith

pub shows-few : (s : Shown) (a : Answer) → s ≡ shown_of (Model.shown (answer_of a)) → s.count ≤ 16
shows-few s a h = omega (arith, few-numbers a, ap (λ (x : Shown). x.count) h)

-- the number of an answer's word is that of its case
pub word-tag : (a : Answer) → (Model.shown (answer_of a)).word ≡ tag_of the_type a
unfolding Model.shown
word-tag (A.Loaded rows rounds) = refl
word-tag A.Held = refl
word-tag A.NoCandidate = refl
word-tag (A.Dropped rows) = refl
word-tag (A.Ground g rows) = refl
word-tag A.Sent = refl
word-tag (A.Lists n) = refl
word-tag (A.Refused n) = refl
word-tag A.Even = refl
word-tag (A.Uneven i j) = refl
word-tag (A.Total n) = refl
word-tag (A.Knot mask) = refl
word-tag (A.Named d) = refl
word-tag A.Open = refl
word-tag (A.OpenedBy f n i) = refl
word-tag A.NoOpener = refl
word-tag A.Absent = refl
word-tag (A.Explained n) = refl
word-tag (A.Changed came went) = refl

-- so a match on the cases is a test of the word: the case is n, or one of the others
pub word-is : (a : Answer) (n : ℕ) → OneOf (n ∷ []) (tag_of the_type a) → true ≡ eqb (Model.shown (answer_of a)).word n
word-is a n e = sym (ap (λ (k : ℕ). eqb k n) (word-tag a) ∙ eq-eqb _ _ e)

pub word-other : (a : Answer) (n : ℕ) (others : List ℕ) → (OneOf others n → ⊥) → OneOf others (tag_of the_type a) → false ≡ eqb (Model.shown (answer_of a)).word n
word-other a n others m e = sym (ap (λ (k : ℕ). eqb k n) (word-tag a) ∙ ne_eqb _ _ (λ (q : tag_of the_type a ≡ n). m (subst (OneOf others) q e)))

-- ---- the tests of one case, on the others

pub lists-else : (a : Answer) → ((n : ℕ) → a ≡ A.Lists n → ⊥) → Model.has_lists (answer_of a) ≡ false
unfolding Model.has_lists Model.shown
lists-else (A.Lists n) h = absurd (h n refl)
lists-else a h = refl

pub refused-else : (a : Answer) → ((n : ℕ) → a ≡ A.Refused n → ⊥) → Model.is_refusal (answer_of a) ≡ false
unfolding Model.is_refusal Model.shown
refused-else (A.Refused n) h = absurd (h n refl)
refused-else a h = refl
