-- Causes 7 and 12 of a change, whichever it is. Assumes nothing.
use Prim.Native.Nat.{ℕ}
use mathlib.Core.Path.{◌≡◌, refl, sym, ap, subst, ◌∙◌}
use mathlib.Core.List.{List}
use Rattle.finite.proofs.Bools.{clash}
use Rattle.model.specs.Answers.{Answer, refused}
use Rattle.state.specs.Cells.{Cells}
use Rattle.state.specs.declared.design.Design.{Design}
use Rattle.state.specs.declared.held.Held.{Held}
use Rattle.state.specs.HeldWords.{first_words, words_held}
use Rattle.state.specs.Lent.{State, lent, cause_at, cause_of}
use Rattle.state.specs.Changes.{Change, Changed}
use Rattle.lawful.proofs.SoundChange.{change-cause, change-kept}
use Rattle.guard.proofs.CauseWords.{cause-record, own-means, own-clear}
use Rattle.change.specs.Replacing.{ChangedWords}

-- one applies: that is the answer, and the state stays
pub refused-changes : (s : State) (x : Change) (n : ℕ) → n ≡ cause_at s → (n ≡ 0 → ⊥) → Changed s x (refused n) s
refused-changes s x n e f =
    record { answer = ap refused e ∙ change-cause s (λ z. f (e ∙ z)) x; state = sym (change-kept s (λ z. f (e ∙ z)) x) }

-- the same of lent words, and of words of no record
pub refused-words : (s : State) (ws : List ℕ) (x : Change) (n : ℕ) → n ≡ cause_of s ws → (n ≡ 0 → ⊥) → ChangedWords s ws x (refused n) s
refused-words s ws x n e f = record { changed = λ b. refused-changes s x n (e ∙ cause-record s ws b) f; refused = λ b. (ap refused e, refl) }

-- none applies: the change is that of the record in the first words
pub changed-words : (d : Design) (cs : Cells) (ts ms ws own : List ℕ) → own ≡ first_words ws → (n : ℕ) → n ≡ cause_of (lent d cs ts ms (words_held ws)) ws → n ≡ 0 →
    (x : Change) (a : Answer) (cs' : Cells) (ts' ms' : List ℕ) → Changed (lent d cs ts ms (words_held own)) x a (lent d cs' ts' ms' (words_held own)) →
    ChangedWords (lent d cs ts ms (words_held ws)) ws x a (lent d cs' ts' ms' (words_held ws))
changed-words d cs ts ms ws own is n e z x a cs' ts' ms' w =
    record {
      changed = λ b. subst (λ (h : Held). Changed (lent d cs ts ms h) x a (lent d cs' ts' ms' h)) (own-means d cs ts ms ws own is) w;
      refused = λ b. clash (own-clear d cs ts ms ws own is n e z).words b;
    }
