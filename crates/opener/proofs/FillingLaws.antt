-- The lowest filling that has a value, filling by filling. Assumes nothing.
use Prim.Native.Nat.{ℕ, ◌+◌, ◌≤◌, ◌<◌}
use native.Mathlib.Omega.{arith}
use mathlib.Core.Path.{◌≡◌, sym, ap, ◌∙◌}
use mathlib.Core.Bool.{Bool, true, false, not}
use mathlib.Core.List.{List}
use borrow.Author.Tests.{lt-ltb, le-ltb}
use lib.ListN.{get_or}
use Rattle.finite.specs.Finite.{first_from}
use Rattle.finite.proofs.First.{first-here, first-skip, first_past}
use Rattle.model.specs.Cell.{Cell, numberless}
use Rattle.model.specs.Scheme.{Column}
use Rattle.model.specs.Database.{Database}
use Rattle.model.specs.Cache.{RowSet}
use Rattle.model.specs.Answers.{opened_by, no_opener, or_answer}
use Rattle.state.specs.declared.design.Filling.{Filling}
use Rattle.state.specs.declared.design.Design.{Design}
use Rattle.state.specs.Design.{no_filling}
use Rattle.state.specs.Meaning.{filling_of, scheme_of}
use Rattle.opener.specs.Reading.{lowest_value, reading}

-- the lowest value of filling f, of a list of fillings
abbrev pub lowest_at : List Filling → Database → RowSet → Column → Cell → ℕ → Cell
lowest_at fillings D B k v f = lowest_value D B k v (filling_of (get_or fillings f no_filling))

abbrev pub passes : List Filling → Database → RowSet → Column → Cell → ℕ → Bool
passes fillings D B k v f = not (numberless (lowest_at fillings D B k v f))

module _ (d : Design) (D : Database) (B : RowSet) (k : Column) (v : Cell) (i : ℕ) where
  abbrev found : ℕ → ℕ
  found = first_from d.fillings (passes d.filling D B k v)

  abbrev low : ℕ → Cell
  low = lowest_at d.filling D B k v

  module _ (w : Cell) (e : w ≡ low i) where
    -- filling i has a value
    pub filling-here : found 0 ≡ found i → i < d.fillings → numberless w ≡ false → opened_by i w.number w.issue ≡ reading (scheme_of d) D B k v
    unfolding reading scheme_of
    filling-here h l n =
        let q : found 0 ≡ i = h ∙ first-here d.fillings (passes d.filling D B k v) i l (ap not (sym (ap numberless e) ∙ n)) in
        ap (λ (x : Cell). opened_by i x.number x.issue) e ∙
        sym (ap (λ (b : Bool). or_answer b (opened_by (found 0) (low (found 0)).number (low (found 0)).issue) no_opener) (lt-ltb (found 0) d.fillings (omega (arith, q))) ∙
        ap (λ (f : ℕ). opened_by f (low f).number (low f).issue) q)

    -- it has none
    pub filling_skip : numberless w ≡ true → found i ≡ found (i + 1)
    filling_skip n = first-skip d.fillings (passes d.filling D B k v) i (ap not (sym (ap numberless e) ∙ n))

  -- no filling has
  pub filling-none : found 0 ≡ found i → d.fillings ≤ i → no_opener ≡ reading (scheme_of d) D B k v
  unfolding reading scheme_of
  filling-none h l =
      sym (ap (λ (b : Bool). or_answer b (opened_by (found 0) (low (found 0)).number (low (found 0)).issue) no_opener)
      (le-ltb (found 0) d.fillings (omega (arith, h, first_past d.fillings (passes d.filling D B k v) i l))))
