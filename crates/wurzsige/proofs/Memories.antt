-- Lent memory: what it says that neither cause 7 nor 12 applies, the cause as the code finds it part by part, and what a cause or none makes of whatever stands
-- behind these two in the order of causes. Assumes nothing.
use Prim.Native.Nat.{ℕ, ◌≤◌, ◌<◌}
use native.Mathlib.Omega.{arith}
use mathlib.Core.Path.{◌≡◌, refl, sym, ap, subst, ◌∙◌}
use mathlib.Core.Bool.{Bool, true, false, not, cond, ◌&&◌, and-eq-true_iff}
use mathlib.Core.List.{List}
use borrow.Author.Tests.{le-leb, lt-leb, leb-true}
use lib.Dec.{leb}
use lib.ListN.{length}
use Rattle.finite.proofs.Bools.{both, clash, and_left, and_right}
use Rattle.state.specs.Cells.{Cells}
use Rattle.state.specs.declared.design.Design.{Design}
use Rattle.state.specs.HeldWords.{held_length, long_held, words_held, narrow_held, first_words, Whole}
use Rattle.state.specs.Lawful.{lawful_design}
use Rattle.state.specs.Lent.{lent, long_enough, lawful, sound, cause_of}
use Rattle.lawful.proofs.SoundState.{parts}
use Rattle.state.proofs.LentWords.{first-means, first-whole}
use Rattle.script.specs.Step.{Outputs, refusing, step_at}
use Rattle.writing.specs.Writing.{bytes_of}
use Rattle.words.specs.Words.{design_length, words_design, narrow_design}
use Rattle.wurzsige.specs.Calls.{Memory, memory, state_in, long_words, long_memory, lawful_memory, sound_memory, memory_cause, Arrays, CatalogIn, step_in, write_cause}

-- the design that is read off the words makes the state that the memory stands for, and the catalog is of that design
pub words-state : (ds hs : List ℕ) (cs : Cells) (ts ms : List ℕ) (d : Design) → d ≡ words_design ds → lent d cs ts ms (words_held hs) ≡ state_in (memory ds hs cs ts ms)
words-state ds hs cs ts ms d e = λ x. lent (e x) cs ts ms (words_held hs)

pub words-cause : (ds hs : List ℕ) (cs : Cells) (ts ms : List ℕ) (d : Design) → d ≡ words_design ds →
    cause_of (lent d cs ts ms (words_held hs)) hs ≡ cause_of (state_in (memory ds hs cs ts ms)) hs
words-cause ds hs cs ts ms d e = λ x. cause_of (lent (e x) cs ts ms (words_held hs)) hs

-- so do the first words of what is held
pub own-words-state : (ds hs : List ℕ) (cs : Cells) (ts ms : List ℕ) (d : Design) (own : List ℕ) → d ≡ words_design ds → own ≡ first_words hs →
    lent d cs ts ms (words_held own) ≡ state_in (memory ds hs cs ts ms)
own-words-state ds hs cs ts ms d own e f = let g = ap words_held f ∙ first-means hs in λ x. lent (e x) cs ts ms (g x)

pub own-whole : (hs own : List ℕ) → own ≡ first_words hs → narrow_held hs ≡ true → Whole own
own-whole hs own f n = subst Whole (sym f) (first-whole hs n)

pub catalog-words : (k : Arrays) (cs : Cells) (ts : List ℕ) (d e : Design) → d ≡ e → CatalogIn k d cs ts → CatalogIn k e cs ts
catalog-words k cs ts d e p c = subst (λ (x : Design). CatalogIn k x cs ts) p c

-- the parts of what is asked for
pub record Parts (m : Memory) : Type 0 where
  pub design : design_length ≤ length m.design
  pub held : held_length ≤ length m.held
  pub design_narrow : narrow_design m.design ≡ true
  pub held_narrow : narrow_held m.held ≡ true
  pub state : sound (state_in m) ≡ true

-- the cause, by what applies
abbrev causes : Bool → Bool → ℕ
causes l g = cond (not l) 7 (cond (not g) 12 0)

abbrev narrow : Memory → Bool
narrow m = narrow_design m.design && narrow_held m.held

module _ (m : Memory) where
  pub memory-parts : sound_memory m ≡ true → Parts m
  unfolding long_memory lawful_memory
  memory-parts e =
      let a = (and-eq-true_iff (long_memory m) (lawful_memory m)).0 e in
      let l = (and-eq-true_iff (long_words m) (long_enough (state_in m))).0 a.0 in
      let w = (and-eq-true_iff (leb design_length (length m.design)) (long_held m.held)).0 l.0 in
      let g = (and-eq-true_iff (narrow m) (lawful (state_in m))).0 a.1 in
      let n = (and-eq-true_iff (narrow_design m.design) (narrow_held m.held)).0 g.0 in
      record {
        design = leb-true _ _ w.0;
        held = leb-true _ _ w.1;
        design_narrow = n.0;
        held_narrow = n.1;
        state = both l.1 g.1;
      }

  -- its design is lawful
  pub memory-design : sound_memory m ≡ true → (design_length ≤ length m.design) × (lawful_design (words_design m.design) ≡ true)
  memory-design e = let p = memory-parts e in (p.design, (parts (state_in m) p.state).design)

  pub from_parts : Parts m → sound_memory m ≡ true
  unfolding long_memory lawful_memory
  from_parts p =
      let s = (and-eq-true_iff (long_enough (state_in m)) (lawful (state_in m))).0 p.state in
      both (both (both (le-leb _ _ p.design) (le-leb _ _ p.held)) s.0) (both (both p.design_narrow p.held_narrow) s.1)

  -- ---- the cause

  pub long-words : design_length ≤ length m.design → held_length ≤ length m.held → long_words m ≡ true
  long-words a b = both (le-leb _ _ a) (le-leb _ _ b)

  pub short-design : length m.design < design_length → long_words m ≡ false
  short-design l = and_left (leb design_length (length m.design)) (long_held m.held) (lt-leb _ _ l)

  pub short-held : length m.held < held_length → long_words m ≡ false
  short-held l = and_right (leb design_length (length m.design)) (long_held m.held) (lt-leb _ _ l)

  pub few-design : length m.design < design_length → 7 ≡ memory_cause m
  unfolding memory_cause long_memory
  few-design l = go (long_words m) (long_enough (state_in m)) (lawful_memory m) (short-design l)
    where
      go : (w l g : Bool) → w ≡ false → 7 ≡ causes (w && l) g
      go false l g e = refl
      go true l g e = clash {b = true} refl e

  module _ (a : design_length ≤ length m.design) where
    -- the cause of the state and of what is held comes first
    pub caused-memory : (c : ℕ) → c ≡ cause_of (state_in m) m.held → (c ≡ 0 → ⊥) → c ≡ memory_cause m
    unfolding memory_cause long_memory lawful_memory cause_of
    caused-memory c p n =
        p ∙ go (leb design_length (length m.design)) (long_held m.held) (long_enough (state_in m)) (narrow_design m.design) (narrow_held m.held)
        (lawful (state_in m)) (le-leb _ _ a) (λ z. n (p ∙ z))
      where
        go : (w h l x y g : Bool) → w ≡ true → (causes (h && l) (y && g) ≡ 0 → ⊥) → causes (h && l) (y && g) ≡ causes ((w && h) && l) ((x && y) && g)
        go false h l x y g e f = clash {b = false} e refl
        go true false l x y g e f = refl
        go true true false x y g e f = refl
        go true true true true y g e f = refl
        go true true true false false g e f = refl
        go true true true false true false e f = refl
        go true true true false true true e f = absurd (f refl)

    -- then the words of the design
    narrow-memory : cause_of (state_in m) m.held ≡ 0 → memory_cause m ≡ causes true (narrow_design m.design)
    unfolding memory_cause long_memory lawful_memory cause_of
    narrow-memory p =
        go (leb design_length (length m.design)) (long_held m.held) (long_enough (state_in m)) (narrow_design m.design) (narrow_held m.held)
        (lawful (state_in m)) (le-leb _ _ a) p
      where
        go : (w h l x y g : Bool) → w ≡ true → causes (h && l) (y && g) ≡ 0 → causes ((w && h) && l) ((x && y) && g) ≡ causes true x
        go false h l x y g e f = clash {b = false} e refl
        go true false l x y g e f = absurd (omega (arith, f))
        go true true false x y g e f = absurd (omega (arith, f))
        go true true true x false g e f = absurd (omega (arith, f))
        go true true true x true false e f = absurd (omega (arith, f))
        go true true true true true true e f = refl
        go true true true false true true e f = refl

    pub wide-design : cause_of (state_in m) m.held ≡ 0 → narrow_design m.design ≡ false → 12 ≡ memory_cause m
    wide-design p n = sym (narrow-memory p ∙ ap (causes true) n)

    pub fine-memory : cause_of (state_in m) m.held ≡ 0 → narrow_design m.design ≡ true → 0 ≡ memory_cause m
    fine-memory p n = sym (narrow-memory p ∙ ap (causes true) n)

  pub cause-sound : memory_cause m ≡ 0 → sound_memory m ≡ true
  unfolding memory_cause
  cause-sound = go (long_memory m) (lawful_memory m)
    where
      go : (l g : Bool) → causes l g ≡ 0 → l && g ≡ true
      go false g e = absurd (omega (arith, e))
      go true false e = absurd (omega (arith, e))
      go true true e = refl

  pub sound-cause : sound_memory m ≡ true → memory_cause m ≡ 0
  unfolding memory_cause
  sound-cause = go (long_memory m) (lawful_memory m)
    where
      go : (l g : Bool) → l && g ≡ true → causes l g ≡ 0
      go true true e = refl
      go true false e = clash {b = false} e refl
      go false g e = clash {b = false} e refl

  pub cause-unsound : (memory_cause m ≡ 0 → ⊥) → sound_memory m ≡ false
  unfolding memory_cause
  cause-unsound = go (long_memory m) (lawful_memory m)
    where
      go : (l g : Bool) → (causes l g ≡ 0 → ⊥) → l && g ≡ false
      go false g n = refl
      go true false n = refl
      go true true n = absurd (n refl)

  -- ---- what stands behind it in the order of causes

  module _ {A : Type 0} (f : ℕ → A) (rest : A) where
    caused : (memory_cause m ≡ 0 → ⊥) → cond (not (long_memory m)) (f 7) (cond (not (lawful_memory m)) (f 12) rest) ≡ f (memory_cause m)
    unfolding memory_cause
    caused = go (long_memory m) (lawful_memory m)
      where
        go : (l g : Bool) → (causes l g ≡ 0 → ⊥) → cond (not l) (f 7) (cond (not g) (f 12) rest) ≡ f (causes l g)
        go false g n = refl
        go true false n = refl
        go true true n = absurd (n refl)

    uncaused : sound_memory m ≡ true → cond (not (long_memory m)) (f 7) (cond (not (lawful_memory m)) (f 12) rest) ≡ rest
    uncaused = go (long_memory m) (lawful_memory m)
      where
        go : (l g : Bool) → l && g ≡ true → cond (not l) (f 7) (cond (not g) (f 12) rest) ≡ rest
        go true true e = refl
        go true false e = clash {b = false} e refl
        go false g e = clash {b = false} e refl

  pub step-caused : (out : Outputs) (script : List ℕ) (i : ℕ) → (memory_cause m ≡ 0 → ⊥) →
      step_in m out script i ≡ refusing (state_in m) out (memory_cause m) 0 i false
  unfolding step_in
  step-caused out script i n = caused (λ c. refusing (state_in m) out c 0 i false) _ n

  pub step-uncaused : (out : Outputs) (script : List ℕ) (i : ℕ) → sound_memory m ≡ true → step_in m out script i ≡ step_at (state_in m) out script i
  unfolding step_in
  step-uncaused out script i e = uncaused (λ c. refusing (state_in m) out c 0 i false) _ e

  pub write-caused : (room : ℕ) → (memory_cause m ≡ 0 → ⊥) → write_cause m room ≡ memory_cause m
  unfolding write_cause
  write-caused room n = caused (λ c. c) _ n

  pub write-uncaused : (room : ℕ) → sound_memory m ≡ true → write_cause m room ≡ cond (leb (length (bytes_of (state_in m))) room) 0 7
  unfolding write_cause
  write-uncaused room e = uncaused (λ c. c) _ e
