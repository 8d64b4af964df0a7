-- The answers, test by test. Assumes nothing.
use Prim.Native.Nat.{ℕ, ◌*◌, ◌/◌, ◌<◌, ◌≤◌}
use native.Mathlib.Omega.{arith}
use mathlib.Core.Path.{◌≡◌, sym, ap, ◌∙◌}
use mathlib.Core.Bool.{true, false, not}
use mathlib.Core.List.{List}
use borrow.Author.Tests.{eq-eqb, ne_eqb, le-leb, lt-leb}
use lib.Dec.{leb}
use lib.ListN.{length}
use Rattle.finite.proofs.Bools.{cond-true, cond-false}
use Rattle.model.specs.Missing as Model
use Rattle.state.specs.Cells.{Cells}
use Rattle.state.specs.declared.design.Design.{Design}
use Rattle.state.specs.declared.held.Held.{Held}
use Rattle.state.specs.HeldWords.{first_words, words_held}
use Rattle.state.specs.Lent.{State, lent, scheme, cause_of}
use Rattle.guard.proofs.CauseWords.{own-means}
use Rattle.slice.specs.Fetches.{fetches_in, fetches_fit}
use Rattle.slice.specs.Replies.{Reply, lack, refused, missing_at, reply_in, reply_at}

-- ---- a sound state

module _ (s : State) (words : List ℕ) (n : ℕ) where
  pub reply-short : length words / 5 < n → refused 7 ≡ reply_in s words n
  unfolding reply_in
  reply-short l = sym (cond-true _ _ _ (ap not (lt-leb (5 * n) (length words) (omega arith))))

  module _ (l : n ≤ length words / 5) where
    long : not (leb (5 * n) (length words)) ≡ false
    long = ap not (le-leb (5 * n) (length words) (omega arith))

    pub reply-unfit : fetches_fit (scheme s) words n ≡ false → refused 5 ≡ reply_in s words n
    unfolding reply_in
    reply-unfit f = sym (cond-false _ _ _ long ∙ cond-true _ _ _ (ap not f))

    reply-lack : fetches_fit (scheme s) words n ≡ true → lack (missing_at s (fetches_in words n)) ≡ reply_in s words n
    unfolding reply_in
    reply-lack f = sym (cond-false _ _ _ long ∙ cond-false _ _ _ (ap not f))

    pub reply-says : {l : Model.Lack} → fetches_fit (scheme s) words n ≡ true → l ≡ missing_at s (fetches_in words n) → lack l ≡ reply_in s words n
    reply-says f g = ap lack g ∙ reply-lack f

-- ---- whatever is lent

module _ (d : Design) (cs : Cells) (ts ms held words : List ℕ) (n c : ℕ) (e : c ≡ cause_of (lent d cs ts ms (words_held held)) held) where
  pub reply-cause : (c ≡ 0 → ⊥) → refused c ≡ reply_at (lent d cs ts ms (words_held held)) held words n
  unfolding reply_at
  reply-cause z = ap refused e ∙ sym (cond-false _ _ _ (ne_eqb _ 0 (λ x. z (e ∙ x))))

  -- no cause applies: what the first words answer
  pub reply-own : c ≡ 0 → (own : List ℕ) → own ≡ first_words held → (r : Reply) → r ≡ reply_in (lent d cs ts ms (words_held own)) words n →
      r ≡ reply_at (lent d cs ts ms (words_held held)) held words n
  unfolding reply_at
  reply-own z own is r h =
      h ∙ ap (λ (x : Held). reply_in (lent d cs ts ms x) words n) (own-means d cs ts ms held own is) ∙ sym (cond-true _ _ _ (eq-eqb _ 0 (sym e ∙ z)))
