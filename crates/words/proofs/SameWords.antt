-- Words of a design are the words of what they stand for: storing that again changes nothing. So no two lists of words stand for one design. Assumes nothing.
use Prim.Native.Nat.{ℕ, ◌+◌, ◌*◌}
use native.Mathlib.Omega.{arith}
use mathlib.Core.Path.{◌≡◌, refl, sym, ap, ◌∙◌}
use mathlib.Core.Bool.{true, and-eq-true_iff}
use mathlib.Core.List.{List}
use lib.Seq.{sets}
use Rattle.finite.specs.Finite.{all}
use Rattle.finite.proofs.Search.{all-at}
use Rattle.state.specs.Design.{no_table, no_constraint, no_filling}
use Rattle.state.specs.HeldWords.{word_at, narrow_two}
use Rattle.state.proofs.WordPlaces.{two-kept, three-kept, four-kept, two_bytes, places-kept}
use Rattle.words.specs.Words.{table_words, constraint_words, filling_words, design_words, table_from, constraint_from, filling_from, words_design}
use Rattle.words.specs.Words.{narrow_constraint, narrow_design}
use Rattle.words.proofs.WordLaws.{stored-design}

module _ (l : List ℕ) where
  table_kept : (i : ℕ) → narrow_two l i ≡ true → sets l i (table_words (table_from l i)) ≡ l
  table_kept i e = let p = two_bytes l i e in two-kept l i _ _ p.0 p.1

  constraint-kept : (i : ℕ) → narrow_constraint l i ≡ true → sets l i (constraint_words (constraint_from l i)) ≡ l
  unfolding narrow_constraint
  constraint-kept i e =
      let h = (and-eq-true_iff (narrow_two l i) (narrow_two l (i + 2))).0 e in
      let p = two_bytes l i h.0 in let q = two_bytes l (i + 2) h.1 in
      four-kept l i _ _ _ _ p.0 p.1 q.0 (q.1 ∙ ap (word_at l) (omega arith))

  filling-kept : (i : ℕ) → narrow_two l i ≡ true → sets l i (filling_words (filling_from l i)) ≡ l
  filling-kept i e = let p = two_bytes l i e in four-kept l i _ _ _ _ p.0 p.1 refl refl

  -- THEOREM: storing again what they stand for changes nothing
  pub same-design-words : narrow_design l ≡ true → sets l 0 (design_words (words_design l)) ≡ l
  unfolding narrow_design words_design
  same-design-words e =
      let a = (and-eq-true_iff (all 8 (λ i. narrow_two l (3 + 2 * i))) _).0 e in
      let b = (and-eq-true_iff (all 16 (λ i. narrow_constraint l (19 + 4 * i))) _).0 a.1 in
      sym (stored-design (words_design l) l l l l l (sym (three-kept l 0 _ _ _ refl refl refl))
      (sym (places-kept l 8 3 2 no_table table_words table_from (λ t. refl) (λ i h. table_kept (3 + 2 * i) (all-at 8 _ a.0 i h))))
      (sym (places-kept l 16 19 4 no_constraint constraint_words constraint_from (λ c. refl) (λ i h. constraint-kept (19 + 4 * i) (all-at 16 _ b.0 i h))))
      (sym (places-kept l 8 83 4 no_filling filling_words filling_from (λ f. refl) (λ i h. filling-kept (83 + 4 * i) (all-at 8 _ b.1 i h)))))
