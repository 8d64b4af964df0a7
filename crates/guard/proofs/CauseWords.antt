-- Causes 7 and 12 where what is held is lent as words. Assumes nothing.
use Prim.Native.Nat.{ℕ, ◌≤◌, ◌<◌}
use native.Mathlib.Omega.{arith}
use mathlib.Core.Path.{◌≡◌, refl, sym, ap, ap₂, subst, ◌∙◌}
use mathlib.Core.Bool.{Bool, true, false, not, cond, ◌&&◌}
use mathlib.Core.List.{List}
use mathlib.Core.Logic.{⊎_elim}
use borrow.Author.Tests.{le-leb, lt-leb, leb-true}
use lib.ListN.{length}
use Rattle.finite.proofs.Bools.{clash, dec, and-go, and-stop, and_right}
use Rattle.state.specs.Cells.{Cells}
use Rattle.state.specs.declared.design.Design.{Design}
use Rattle.state.specs.declared.held.Held.{Held}
use Rattle.state.specs.HeldWords.{held_length, long_held, narrow_held, record_in, first_words, words_held, Whole}
use Rattle.state.specs.Lawful.{lawful_held}
use Rattle.state.specs.Lent.{State, lent, long_enough, lawful, sound, cause_at, cause_of}
use Rattle.lawful.proofs.SoundState.{held-unlawful}
use Rattle.state.proofs.LentWords.{first-means, first-narrow, first-whole}

-- the cause, by what applies
abbrev causes : Bool → Bool → ℕ
causes long good = cond (not long) 7 (cond (not good) 12 0)

module _ (s : State) (ws : List ℕ) where
  -- of the words of a record they are those of the record
  pub cause-record : record_in ws ≡ true → cause_of s ws ≡ cause_at s
  unfolding cause_of cause_at record_in
  cause-record e = go (long_held ws) (narrow_held ws) e
    where
      go : (a b : Bool) → a && b ≡ true → causes (a && long_enough s) (b && lawful s) ≡ causes (long_enough s) (lawful s)
      go true true e = refl
      go true false e = clash {b = false} e refl
      go false b e = clash {b = false} e refl

  -- too few words, or rows
  pub cause-few : length ws < held_length → 7 ≡ cause_of s ws
  unfolding cause_of
  cause-few l = go (long_held ws) (lt-leb _ _ l)
    where
      go : (a : Bool) → a ≡ false → 7 ≡ causes (a && long_enough s) (narrow_held ws && lawful s)
      go false e = refl
      go true e = clash {b = true} refl e

  module _ (l : held_length ≤ length ws) where
    pub cause-short : long_enough s ≡ false → 7 ≡ cause_of s ws
    unfolding cause_of
    cause-short e = go (long_held ws) (long_enough s) e
      where
        go : (a b : Bool) → b ≡ false → 7 ≡ causes (a && b) (narrow_held ws && lawful s)
        go false b e = refl
        go true false e = refl
        go true true e = clash {b = true} refl e

    -- enough of both: whether they are a record's, and the state lawful
    pub cause-long : long_enough s ≡ true → cause_of s ws ≡ cond (not (narrow_held ws && lawful s)) 12 0
    unfolding cause_of
    cause-long e = go (long_held ws) (long_enough s) (le-leb _ _ l) e
      where
        go : (a b : Bool) → a ≡ true → b ≡ true → causes (a && b) (narrow_held ws && lawful s) ≡ cond (not (narrow_held ws && lawful s)) 12 0
        go true true e f = refl
        go true false e f = clash {b = false} f refl
        go false b e f = clash {b = false} e refl

  -- where neither applies, the state is sound, and the words are enough and narrow
  pub record Clear : Type 0 where
    pub sound : sound s ≡ true
    pub long : held_length ≤ length ws
    pub narrow : narrow_held ws ≡ true
    pub words : record_in ws ≡ true

  pub cause-clear : cause_of s ws ≡ 0 → Clear
  unfolding cause_of record_in
  cause-clear e =
      let p = go (long_held ws) (long_enough s) (narrow_held ws) (lawful s) e in
      record { sound = p.0; long = leb-true held_length (length ws) p.1; narrow = p.2; words = p.3 }
    where
      go : (w l n g : Bool) → causes (w && l) (n && g) ≡ 0 → (l && g ≡ true) × (w ≡ true) × (n ≡ true) × (w && n ≡ true)
      go true true true true z = (refl, refl, refl, refl)
      go true true true false z = absurd (omega (arith, z))
      go true true false g z = absurd (omega (arith, z))
      go true false n g z = absurd (omega (arith, z))
      go false l n g z = absurd (omega (arith, z))

-- ---- the record in the first words

module _ (d : Design) (cs : Cells) (ts ms ws own : List ℕ) (is : own ≡ first_words ws) where
  pub own-means : words_held own ≡ words_held ws
  own-means = ap words_held is ∙ first-means ws

  -- they decide whether the words are a record's, and whether the state is lawful
  pub first-lawful : narrow_held own && lawful (lent d cs ts ms (words_held own)) ≡ narrow_held ws && lawful (lent d cs ts ms (words_held ws))
  first-lawful = ap₂ (λ (b : Bool) (h : Held). b && lawful (lent d cs ts ms h)) (ap narrow_held is ∙ first-narrow ws) own-means

  -- where no cause applies, functions that ask for a sound state and whole words can be called with them
  module _ (c : ℕ) (e : c ≡ cause_of (lent d cs ts ms (words_held ws)) ws) (z : c ≡ 0) where
    pub own-clear : Clear (lent d cs ts ms (words_held ws)) ws
    own-clear = cause-clear (lent d cs ts ms (words_held ws)) ws (sym e ∙ z)

    pub own-sound : sound (lent d cs ts ms (words_held own)) ≡ true
    own-sound = ap (λ (h : Held). sound (lent d cs ts ms h)) own-means ∙ own-clear.sound

    pub own-whole : Whole own
    own-whole = subst Whole (sym is) (first-whole ws own-clear.narrow)

-- ---- the tests of cause 12 over words

-- words of no record, or an unlawful one
pub words-unlawful : (s : State) (ws : List ℕ) → narrow_held ws && lawful_held s.design s.held ≡ false → false ≡ narrow_held ws && lawful s
words-unlawful s ws e =
    ⊎_elim (λ (n : narrow_held ws ≡ true). and-go (narrow_held ws) (lawful s) n (held-unlawful s (subst (λ (b : Bool). b && lawful_held s.design s.held ≡ false) n e)))
    (λ (n : narrow_held ws ≡ false). and-stop (narrow_held ws) (lawful s) n) (dec (narrow_held ws))

-- something else is unlawful
pub words-other : (b : Bool) (ws : List ℕ) → false ≡ b → false ≡ narrow_held ws && b
words-other b ws e = sym (and_right (narrow_held ws) b (sym e))
