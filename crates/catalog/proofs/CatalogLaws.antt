-- A row that has a value, and its link: the next row that has the value. Assumes nothing.
use Prim.Native.Nat.{ℕ, ◌+◌, ◌<◌}
use mathlib.Core.Path.{◌≡◌, refl, sym, ap₂, subst, ◌∙◌}
use mathlib.Core.Bool.{true, false}
use Rattle.finite.specs.Finite.{first_from}
use Rattle.finite.proofs.Bools.{cond-true, cond-case, refute, clash}
use Rattle.finite.proofs.First.{first-same, first-after}
use Rattle.model.specs.Cell.{Cell, is_blank}
use Rattle.model.specs.Scheme as Model
use Rattle.model.specs.Database.{Database, has}
use Rattle.model.proofs.CellLaws.{equal-same}
use Rattle.model.proofs.DatabaseLaws.{has-Has, has-full}
use Rattle.catalog.specs.Catalog.{column_at, next_of}

module _ (D : Database) (k : Model.Column) (v : Cell) (r : ℕ) (h : has D k v r ≡ true) where
  -- it is a row of the table
  pub has-table : D.table r ≡ k.table
  has-table = (has-Has D k v r h).table

  -- its cell is the value
  pub has-cell : D.cell r k.place ≡ v
  has-cell = equal-same _ v (has-Has D k v r h).value

  -- the rows that have its cell in its column are those that have the value
  pub same_rows : (s : ℕ) → has D (column_at D r k.place) (D.cell r k.place) s ≡ has D k v s
  same_rows s = ap₂ (λ (t : ℕ) (c : Cell). has D (record { table = t; place = k.place }) c s) has-table has-cell

  -- its link is the next one of them
  pub next-has : next_of D r k.place ≡ first_from 512 (has D k v) (r + 1)
  unfolding next_of
  next-has = cond-true _ _ 512 (same_rows r ∙ h) ∙ first-same 512 _ _ (r + 1) (λ s _ _. same_rows s)

  -- ... as it is read
  pub next-from : (n : ℕ) → n ≡ next_of D r k.place → n ≡ first_from 512 (has D k v) (r + 1)
  next-from n e = e ∙ next-has

-- links rise, so that every walk ends
pub next-rises : (D : Database) (r c n : ℕ) → r < 512 → n ≡ next_of D r c → r < n
unfolding next_of
next-rises D r c n l e =
    subst (λ (x : ℕ). r < x) (sym e)
    (cond-case (λ x. r < x) (has D (column_at D r c) (D.cell r c) r) _ 512 (λ _. first-after 512 (has D (column_at D r c) (D.cell r c)) r _ l refl) (λ _. l))

-- nothing has a blank
pub has-no-blank : (D : Database) (k : Model.Column) (v : Cell) → is_blank v ≡ true → (r : ℕ) → has D k v r ≡ false
has-no-blank D k v z r = refute (has D k v r) (λ h. clash z (has-full (has-Has D k v r h)))
