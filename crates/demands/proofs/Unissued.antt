-- 02, Req 06: where there are no issues, the finer equality is document 01's, and completeness, constraints and unique columns say what they said. Assumes nothing.
use Prim.Native.Nat.{ℕ}
use mathlib.Core.Path.{◌≡◌, refl, sym, ap, ◌∙◌}
use mathlib.Core.Bool.{Bool, true, false, not, cond, ◌&&◌}
use mathlib.Core.List.{List}
use mathlib.Core.Logic.{◌↔◌}
use borrow.Author.Tests.{eq-eqb, ne_eqb}
use lib.Dec.{eqb, ltb}
use lib.ListN.{get_or}
use Rattle.finite.proofs.Bools.{clash, both}
use Rattle.model.specs.Cell.{Cell, numbered, blank, is_blank, equal}
use Rattle.model.specs.Scheme.{Column, Constraint}
use Rattle.model.specs.Database.{Database, Has}
use Rattle.model.specs.Cache.{RowSet, Complete, Holds}
use Rattle.model.proofs.CellLaws.{equal-full, equal-same}
use Rattle.state.specs.Cells.{Cells}
use Rattle.state.specs.Meaning.{cell_of, cell_at, database_of}
use Rattle.demands.specs.Unissued.{Unissued, EqualNumbers, HasNumber, CompleteNumber, HoldsNumbers, UniqueNumbers}

-- a cell without an issue is its number
number_is : (a : Cell) → a.issue ≡ 0 → a ≡ numbered a.number
number_is a e = λ i. record { number = a.number; issue = e i }

-- THEOREM. 02, Req 06: "two cells are equal only if both are, and blank is number 0 with issue 0"; 01: "a blank equals nothing, not even another blank. Two other cells are
-- equal if their numbers are." Of cells without issues the two say the same
pub equal-numbers : (a b : Cell) → a.issue ≡ 0 → b.issue ≡ 0 → (equal a b ≡ true) ↔ EqualNumbers a.number b.number
unfolding equal is_blank
equal-numbers a b p q = (
  λ e. (λ z. clash (both (eq-eqb a.number 0 z) (eq-eqb a.issue 0 p)) (equal-full a b e), ap (λ (c : Cell). c.number) (equal-same a b e)),
  λ e. both (ap (λ (x : Bool). not (x && eqb a.issue 0)) (ne_eqb a.number 0 e.0)) (both (eq-eqb _ _ e.1) (eq-eqb _ _ (p ∙ sym q))),
)

module _ (D : Database) (u : Unissued D) where
  -- THEOREM: a row has a value exactly if it has its number
  pub has-number : (k : Column) (v : Cell) (r : ℕ) → v.issue ≡ 0 → Has D k v r ↔ HasNumber D k v.number r
  has-number k v r z = (
    λ h. record { live = h.live; table = h.table; value = (equal-numbers _ v (u.cell r k.place) z).0 h.value },
    λ h. record { live = h.live; table = h.table; value = (equal-numbers _ v (u.cell r k.place) z).1 h.value },
  )

  -- THEOREM: a value is complete exactly if its number is
  pub complete-number : (X : RowSet) (k : Column) (v : Cell) → v.issue ≡ 0 → Complete D X k v ↔ CompleteNumber D X k v.number
  unfolding Complete
  complete-number X k v z = (λ c r h. c r ((has-number k v r z).1 h), λ c r h. c r ((has-number k v r z).0 h))

  -- THEOREM: a constraint holds exactly as document 01 says
  pub holds-numbers : (X : RowSet) (j : Constraint) → Holds D X j ↔ HoldsNumbers D X j
  unfolding Holds Complete
  holds-numbers X j = (
    λ h s x l t f r g.
        let n = (D.cell s j.source.place).number in
        h s (numbered n) x ((has-number j.source (numbered n) s refl).1 (record { live = l; table = t; value = (f, refl) })) r ((has-number j.target (numbered n) r refl).1 g),
    λ h s v x g r f.
        let same : D.cell s j.source.place ≡ v = equal-same _ v g.value in
        let z : v.issue ≡ 0 = ap (λ (c : Cell). c.issue) (sym same) ∙ u.cell s j.source.place in
        let a = (has-number j.source v s z).0 g in
        let b = (has-number j.target v r z).0 f in
        h s x a.live a.table a.value.0 r (record { live = b.live; table = b.table; value = (b.value.0, b.value.1 ∙ sym a.value.1) }),
  )

  -- THEOREM: and a column is unique exactly as it says
  pub unique-numbers : (k : Column) → ((v : Cell) (r s : ℕ) → Has D k v r → Has D k v s → r ≡ s) ↔ UniqueNumbers D k
  unique-numbers k = (
    λ h n r s a b. h (numbered n) r s ((has-number k (numbered n) r refl).1 a) ((has-number k (numbered n) s refl).1 b),
    λ h v r s a b.
        let z : v.issue ≡ 0 = ap (λ (c : Cell). c.issue) (sym (equal-same _ v a.value)) ∙ u.cell r k.place in
        h v.number r s ((has-number k v r z).0 a) ((has-number k v s z).0 b),
  )

-- THEOREM: rows whose issue bytes are all 0 are such a database
pub zero-issues : (cells : Cells) (tables : List ℕ) → ((i : ℕ) → get_or cells.issues i 0 ≡ 0) → Unissued (database_of cells tables)
unfolding database_of blank
zero-issues cells tables z = record { cell = λ r c. either (ltb c 8) (cell_of (cell_at cells r c)) (z _) }
  where
    either : (b : Bool) (a : Cell) → a.issue ≡ 0 → (cond b a (numbered 0)).issue ≡ 0
    either true a e = e
    either false a e = refl
