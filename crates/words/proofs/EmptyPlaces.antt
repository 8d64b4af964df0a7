-- Places of a design that are read as far as they are in use: the others are empty, as they are in a lawful design. Assumes nothing.
use Prim.Native.Nat.{ℕ, zero, suc, ◌+◌, ◌*◌, ◌≤◌, ◌<◌}
use native.Mathlib.Omega.{arith}
use mathlib.Core.Path.{◌≡◌, sym, subst, ◌∙◌}
use mathlib.Core.Bool.{true, false, cond}
use mathlib.Core.List.{List}
use mathlib.Core.Logic.{⊎_elim}
use borrow.Author.Tests.{ltb-false}
use lib.Dec.{ltb}
use lib.ListN.{get_or}
use denote.Param.Members.{Mut}
use Rattle.std.specs.Fn.{Called}
use Rattle.std.specs.Array.{IsFromFnResult, IsFromFnResultFrom}
use Rattle.finite.proofs.Bools.{dec, same_number, cond-true, cond-false}
use Rattle.finite.proofs.Tables.{tab-at, tab-of}
use Rattle.state.specs.Design.{no_table, no_constraint, no_filling}
use Rattle.state.specs.HeldWords.{places_from, word_at}
use Rattle.state.specs.Lawful.{lawful_design}
use Rattle.lawful.specs.LawfulState.{LawfulDesign}
use Rattle.lawful.proofs.DesignLaws.{design-says}
use Rattle.words.specs.Words.{table_from, constraint_from, filling_from, EmptyFrom, words_design}

-- the first m places are read, and all others are empty: what a closure of the place makes, given that it is f at each call
module _ {F A : Type 0} {g : Mut F (ℕ × Unit {0}) A} (n a w : ℕ) (none : A) (from : List ℕ → ℕ → A) (ws : List ℕ) (m : ℕ) (f : F) (xs : List A)
    (rest : EmptyFrom n a w none from ws m)
    (made : (i : ℕ) (x : A) (q : F) → i < n → Called g f (i, tt) x q → (q ≡ f) × (x ≡ cond (ltb i m) (from ws (a + w * i)) none)) where
  place-at : (k i : ℕ) → IsFromFnResultFrom g f xs i k → i + k ≤ n → (j : ℕ) → i ≤ j → j < i + k → get_or xs j none ≡ from ws (a + w * j)
  place-at zero i r h j l u = absurd (omega arith)
  place-at (suc k) i (q, x, at, call, later) h j l u =
      let s = made i x q (omega arith) call in
      ⊎_elim
      (λ (e : j ≡ i). subst (λ (t : ℕ). get_or xs t none ≡ from ws (a + w * t)) (sym e) (at.1 none ∙ s.1 ∙ kept i (omega arith)))
      (λ (e : j ≡ i → ⊥). place-at k (i + 1) (subst (λ (p : F). IsFromFnResultFrom g p xs (i + 1) k) s.0 later) (omega arith) j (omega (arith, e)) (omega arith))
      (same_number j i)
    where
      kept : (t : ℕ) → t < n → cond (ltb t m) (from ws (a + w * t)) none ≡ from ws (a + w * t)
      kept t o =
          ⊎_elim (λ (e : ltb t m ≡ true). cond-true (ltb t m) _ _ e)
          (λ (e : ltb t m ≡ false). cond-false (ltb t m) _ _ e ∙ sym (rest t o (let h = ltb-false t m e in omega arith)))
          (dec (ltb t m))

  pub places-made : IsFromFnResult g f xs n → xs ≡ places_from n a w from ws
  places-made r = tab-of none n _ xs r.long (λ i l. place-at n 0 r.each (omega arith) i (omega arith) (omega arith))

-- no place is past the last
pub all_read : {A : Type 0} (n a w : ℕ) (none : A) (from : List ℕ → ℕ → A) (ws : List ℕ) → EmptyFrom n a w none from ws n
all_read n a w none from ws i l g = absurd (omega arith)

-- a lawful design has nothing in the places that are not in use
pub record EmptyPlaces (ws : List ℕ) (m n l : ℕ) : Type 0 where
  pub few-tables : m ≤ 8
  pub few-constraints : n ≤ 16
  pub few-fillings : l ≤ 8
  pub tables : EmptyFrom 8 3 2 no_table table_from ws m
  pub constraints : EmptyFrom 16 19 4 no_constraint constraint_from ws n
  pub fillings : EmptyFrom 8 83 4 no_filling filling_from ws l

pub lawful-empty : (ws : List ℕ) (m n l : ℕ) → lawful_design (words_design ws) ≡ true → m ≡ word_at ws 0 → n ≡ word_at ws 1 → l ≡ word_at ws 2 → EmptyPlaces ws m n l
unfolding words_design
lawful-empty ws m n l e p q r =
    record {
      few-tables = omega (arith, u.tables);
      few-constraints = omega (arith, u.constraints);
      few-fillings = omega (arith, u.fillings);
      tables = λ i h g. sym (tab-at no_table 8 (λ j. table_from ws (3 + 2 * j)) i h) ∙ u.table_rest i h (omega (arith, p));
      constraints = λ i h g. sym (tab-at no_constraint 16 (λ j. constraint_from ws (19 + 4 * j)) i h) ∙ u.constraint_rest i h (omega (arith, q));
      fillings = λ i h g. sym (tab-at no_filling 8 (λ j. filling_from ws (83 + 4 * j)) i h) ∙ u.filling_rest i h (omega (arith, r));
    }
  where
    u : LawfulDesign (words_design ws)
    u = design-says (words_design ws) e
