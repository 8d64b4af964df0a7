-- What is told of a slice and of a design's columns, case by case. Assumes nothing.
use Prim.Native.Nat.{ℕ, ◌≤◌, ◌<◌}
use native.Mathlib.Omega.{arith}
use mathlib.Core.Path.{◌≡◌, refl, sym, ap, subst, ◌∙◌}
use mathlib.Core.Bool.{Bool, true, false, not, cond, ◌&&◌}
use mathlib.Core.List.{List, [], ◌∷◌}
use borrow.Author.Tests.{eq-eqb, ne_eqb, le-leb, lt-leb}
use lib.Dec.{eqb}
use lib.ListN.{length}
use Rattle.finite.proofs.Bools.{both, clash, and_right, cond-true, cond-false}
use Rattle.model.specs.Cell.{issued}
use Rattle.model.specs.Missing.{value, span}
use Rattle.state.specs.Cells.{Cells}
use Rattle.state.specs.declared.design.Design.{Design}
use Rattle.state.specs.HeldWords.{first_words, words_held}
use Rattle.state.specs.Lawful.{lawful_design}
use Rattle.state.specs.Lent.{State, lent}
use Rattle.state.specs.Meaning.{scheme_of}
use Rattle.words.specs.Words.{design_length, words_design, narrow_design}
use Rattle.verdict.specs.Words.{verdict_words, design_cause, words_after}
use Rattle.slice.specs.declared.fetch.Fetch.{Fetch}
use Rattle.slice.specs.declared.whole.Next.{Next}
use Rattle.slice.specs.Fetches.{column_in, fetch_of}
use Rattle.slice.specs.Replies.{Reply, reply_of, reply_in}
use Rattle.wurzsige.specs.Calls.{Memory, memory, state_in, sound_memory, memory_cause}
use Rattle.wurzsige.specs.Feeding.{fetch_words, missing_in, ReplyTold, design_cause_in, VerdictsTold}
use Rattle.wurzsige.proofs.Memories.{words-state, sound-cause}
use Rattle.wurzsige.proofs.StepTaking.{own-state, own-good}

-- ---- a fetch as words

pub fetch-words : (f : Fetch) (k : ℕ) → k ≡ cond (eqb f.kind 0) 0 1 → (k ∷ f.table ∷ f.column ∷ f.number ∷ f.end ∷ []) ≡ fetch_words (fetch_of f)
unfolding fetch_of
fetch-words f k e = ap (λ (n : ℕ). n ∷ f.table ∷ f.column ∷ f.number ∷ f.end ∷ []) e ∙ go (eqb f.kind 0)
  where
    go : (b : Bool) → (cond b 0 1 ∷ f.table ∷ f.column ∷ f.number ∷ f.end ∷ []) ≡
        fetch_words (cond b (value (column_in f) (issued f.number f.end)) (span (column_in f) f.number f.end))
    go true = refl
    go false = refl

-- what is told of an answer that the code has found to be y
pub told-as : (x y : Next) → x ≡ y → (k : ℕ) (f f' : List ℕ) → ReplyTold (reply_of y) k f f' → ReplyTold (reply_of x) k f f'
told-as x y e k f f' = subst (λ (z : Next). ReplyTold (reply_of z) k f f') (sym e)

-- ---- what must be fetched next

module _ (m : Memory) (words : List ℕ) (n : ℕ) where
  -- neither cause applies: what the state answers
  missing-sound : sound_memory m ≡ true → missing_in m words n ≡ reply_in (state_in m) words n
  unfolding missing_in
  missing-sound e = cond-true _ _ _ (eq-eqb _ 0 (sound-cause m e))

  pub missing-caused : (c : ℕ) → c ≡ memory_cause m → (c ≡ 0 → ⊥) → (f : List ℕ) → ReplyTold (missing_in m words n) c f f
  unfolding missing_in
  missing-caused c is z f =
      subst (λ (r : Reply). ReplyTold r c f f) (sym (cond-false _ _ _ (ne_eqb _ 0 (λ x. z (is ∙ x))))) (record { number = is; fetch = refl })

pub missing-ready : (ds hs : List ℕ) (cs : Cells) (ts ms : List ℕ) (d : Design) → d ≡ words_design ds → sound_memory (memory ds hs cs ts ms) ≡ true →
    (words : List ℕ) (n : ℕ) (r : Reply) → r ≡ reply_in (lent d cs ts ms (words_held hs)) words n → (k : ℕ) (f f' : List ℕ) → ReplyTold r k f f' →
    ReplyTold (missing_in (memory ds hs cs ts ms) words n) k f f'
missing-ready ds hs cs ts ms d e good words n r is k f f' =
    subst (λ (x : Reply). ReplyTold x k f f')
    (is ∙ ap (λ (s : State). reply_in s words n) (words-state ds hs cs ts ms d e) ∙ sym (missing-sound (memory ds hs cs ts ms) words n good))

-- the first words of what is held answer the same
pub missing-own : (ds hs own : List ℕ) (cs : Cells) (ts ms : List ℕ) → own ≡ first_words hs → sound_memory (memory ds hs cs ts ms) ≡ true →
    (words : List ℕ) (n k : ℕ) (f f' : List ℕ) → ReplyTold (missing_in (memory ds own cs ts ms) words n) k f f' → ReplyTold (missing_in (memory ds hs cs ts ms) words n) k f f'
missing-own ds hs own cs ts ms is good words n k f f' =
    subst (λ (x : Reply). ReplyTold x k f f')
    (missing-sound (memory ds own cs ts ms) words n (own-good ds hs own cs ts ms is good) ∙
    ap (λ (s : State). reply_in s words n) (own-state ds hs own cs ts ms is good) ∙ sym (missing-sound (memory ds hs cs ts ms) words n good))

-- ---- verdicts

module _ (ds v : List ℕ) where
  told-refused : (c : ℕ) → c ≡ design_cause_in ds → (c ≡ 0 → ⊥) → VerdictsTold ds c v v
  told-refused c is z = record { cause = is; verdicts = sym (cond-false _ _ _ (ne_eqb _ 0 (λ x. z (is ∙ x)))) }

  pub few-verdicts : length ds < design_length → VerdictsTold ds 7 v v
  unfolding design_cause_in
  few-verdicts l = told-refused 7 (sym (cond-true _ _ _ (ap not (lt-leb _ _ l)))) (λ x. omega arith)

  module _ (l : design_length ≤ length ds) where
    cause-long : design_cause_in ds ≡ cond (not (narrow_design ds && lawful_design (words_design ds))) 12 0
    unfolding design_cause_in
    cause-long = cond-false _ _ _ (ap not (le-leb _ _ l))

    pub wide-verdicts : narrow_design ds ≡ false → VerdictsTold ds 12 v v
    wide-verdicts e = told-refused 12 (sym (cause-long ∙ cond-true _ _ _ (go (narrow_design ds) (lawful_design (words_design ds)) e))) (λ x. omega arith)
      where
        go : (a b : Bool) → a ≡ false → not (a && b) ≡ true
        go false b e = refl
        go true b e = clash {b = true} refl e

    -- words of a design: what the verdicts of the design are
    pub design-verdicts : narrow_design ds ≡ true → (d : Design) → d ≡ words_design ds → (c : ℕ) (v' : List ℕ) → c ≡ design_cause d → v' ≡ words_after d v → VerdictsTold ds c v v'
    unfolding design_cause words_after
    design-verdicts n d is c v' p q =
        go (narrow_design ds) (lawful_design (words_design ds)) n refl
      where
        go : (a b : Bool) → a ≡ true → lawful_design (words_design ds) ≡ b → VerdictsTold ds c v v'
        go false b e f = clash {b = false} e refl
        go true true e f =
            let z : design_cause_in ds ≡ 0 = cause-long ∙ cond-false _ _ _ (ap not (both n f)) in
            let g : lawful_design d ≡ true = ap lawful_design is ∙ f in
            record {
              cause = p ∙ cond-true _ _ _ g ∙ sym z;
              verdicts = q ∙ cond-true _ _ _ g ∙ ap (λ (x : Design). verdict_words (scheme_of x)) is ∙ sym (cond-true _ _ _ (eq-eqb _ 0 z));
            }
        go true false e f =
            let z : design_cause_in ds ≡ 12 = cause-long ∙ cond-true _ _ _ (ap not (and_right (narrow_design ds) (lawful_design (words_design ds)) f)) in
            let g : lawful_design d ≡ false = ap lawful_design is ∙ f in
            record {
              cause = p ∙ cond-false _ _ _ g ∙ sym z;
              verdicts = q ∙ cond-false _ _ _ g ∙ sym (cond-false _ _ _ (ap (λ (x : ℕ). eqb x 0) z));
            }
