-- Writing a design out from lent memory, and how much is to be lent, case by case: a cause of the memory, too few bytes, the bytes stored or the numbers told;
-- and what the design that is read off the words has for the code that writes it. Assumes nothing.
use Prim.Native.Nat.{ℕ, ◌≤◌, ◌<◌}
use native.Mathlib.Omega.{arith}
use mathlib.Core.Path.{◌≡◌, sym, ap, subst, ◌∙◌}
use mathlib.Core.Bool.{true, false}
use mathlib.Core.List.{List, [], ◌∷◌}
use borrow.Author.Tests.{le-leb, lt-leb, eq-eqb, ne_eqb}
use lib.Dec.{eqb, leb}
use lib.ListN.{length}
use lib.Seq.{sets}
use Rattle.finite.proofs.Bools.{cond-true, cond-false}
use Rattle.finite.proofs.Tables.{length-tab}
use Rattle.state.specs.Cells.{Cells}
use Rattle.state.specs.declared.design.Design.{Design}
use Rattle.state.specs.Design.{Backed, InRange}
use Rattle.state.proofs.Arrays.{Sized}
use Rattle.lawful.proofs.Asked.{sound-range, sound-backed}
use Rattle.format.specs.Writing.{design_bytes}
use Rattle.sizes.specs.StepSizes.{words_taken_at, text_taken_at}
use Rattle.writing.specs.Writing.{bytes_of}
use Rattle.words.specs.Words.{words_design}
use Rattle.wurzsige.specs.Calls.{Memory, memory, state_in, sound_memory, memory_cause, write_cause, DesignWritten, sizes_in, SizesTold}
use Rattle.wurzsige.proofs.Memories.{memory-parts, write-caused, write-uncaused}

-- ---- the cases

module _ (m : Memory) (out : List ℕ) (z : ℕ) where
  -- nothing is written where there is a cause
  unwritten : (c : ℕ) → write_cause m (length out) ≡ c → (c ≡ 0 → ⊥) → DesignWritten m c out out z z
  unwritten c is n =
      let e : eqb (write_cause m (length out)) 0 ≡ false = ap (λ (x : ℕ). eqb x 0) is ∙ ne_eqb c 0 n in
      record { cause = sym is; bytes = sym (cond-false _ (sets out 0 (bytes_of (state_in m))) out e); written = sym (cond-false _ (length (bytes_of (state_in m))) z e) }

  pub caused-written : (c : ℕ) → c ≡ memory_cause m → (c ≡ 0 → ⊥) → DesignWritten m c out out z z
  caused-written c is n = unwritten c (write-caused m (length out) (λ e. n (is ∙ e)) ∙ sym is) n

  pub cramped-written : sound_memory m ≡ true → length out < length (bytes_of (state_in m)) → DesignWritten m 7 out out z z
  cramped-written e l = unwritten 7 (write-uncaused m (length out) e ∙ cond-false (leb (length (bytes_of (state_in m))) (length out)) 0 7 (lt-leb _ _ l)) (λ z. absurd (omega (arith, z)))

  pub stored-written : sound_memory m ≡ true → length (bytes_of (state_in m)) ≤ length out → (out' : List ℕ) (z' : ℕ) → out' ≡ sets out 0 (bytes_of (state_in m)) →
      z' ≡ length (bytes_of (state_in m)) → DesignWritten m 0 out out' z z'
  stored-written e l out' z' p q =
      let is : write_cause m (length out) ≡ 0 =
      write-uncaused m (length out) e ∙ cond-true (leb (length (bytes_of (state_in m))) (length out)) 0 7 (le-leb _ _ l) in
      let b : eqb (write_cause m (length out)) 0 ≡ true = eq-eqb _ 0 is in
      record { cause = sym is; bytes = p ∙ sym (cond-true _ (sets out 0 (bytes_of (state_in m))) out b); written = q ∙ sym (cond-true _ (length (bytes_of (state_in m))) z b) }

-- ---- the design that is read off the words

words-design : (ds : List ℕ) → Sized (words_design ds)
unfolding words_design
words-design ds = record { table = length-tab 8 _; constraint = length-tab 16 _; filling = length-tab 8 _ }

module _ (ds hs : List ℕ) (cs : Cells) (ts ms : List ℕ) (d : Design) (dis : d ≡ words_design ds) (e : sound_memory (memory ds hs cs ts ms) ≡ true) where
  pub written-range : InRange d
  written-range = subst InRange (sym dis) (sound-range (state_in (memory ds hs cs ts ms)) (memory-parts _ e).state (words-design ds))

  pub written-backed : Backed cs ts
  written-backed = sound-backed (state_in (memory ds hs cs ts ms)) (memory-parts _ e).state

  pub written-bytes : design_bytes d cs ts ≡ bytes_of (state_in (memory ds hs cs ts ms))
  written-bytes = ap (λ (x : Design). design_bytes x cs ts) dis

-- ---- how much is to be lent

module _ (m : Memory) (script : List ℕ) (i : ℕ) (z : List ℕ) where
  pub caused-sizes : (c : ℕ) → c ≡ memory_cause m → (c ≡ 0 → ⊥) → SizesTold m script i c z z
  caused-sizes c is n =
      record { cause = is; sizes = sym (cond-false _ (sizes_in m script i) z (ap (λ (x : ℕ). eqb x 0) (sym is) ∙ ne_eqb c 0 n)) }

  pub told-sizes : memory_cause m ≡ 0 → (a b c : ℕ) → a ≡ length (bytes_of (state_in m)) → b ≡ words_taken_at (state_in m) script i →
      c ≡ text_taken_at (state_in m) script i → SizesTold m script i 0 z (a ∷ b ∷ c ∷ [])
  told-sizes e a b c p q r =
      record { cause = sym e; sizes = (λ x. p x ∷ q x ∷ r x ∷ []) ∙ sym (cond-true _ (sizes_in m script i) z (eq-eqb _ 0 e)) }
