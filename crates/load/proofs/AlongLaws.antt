-- The rows that a walk along the links passes: where it begins and goes on, and which rows they are where it begins at the first row that has a value,
-- or that a constraint demands. Assumes nothing.
use Prim.Native.Nat.{ℕ, ◌+◌, ◌≤◌, ◌<◌}
use native.Mathlib.Decide.{dec_lt}
use native.Mathlib.Omega.{arith}
use mathlib.Core.Path.{◌≡◌, refl, sym, ap, subst, ◌∙◌}
use mathlib.Core.Bool.{Bool, true, false, ◌&&◌, and-eq-true_iff}
use borrow.Author.Tests.{lt-ltb, le-ltb, ltb-true}
use lib.Dec.{eqb, ltb}
use Rattle.finite.proofs.Bools.{and_left}
use Rattle.model.specs.Cell.{Cell, blank}
use Rattle.model.specs.Scheme as Model
use Rattle.model.specs.Database.{Database, has}
use Rattle.model.specs.Rounds.{leads}
use Rattle.model.proofs.CellLaws.{blank-is}
use Rattle.finite.specs.Finite.{first_from}
use Rattle.catalog.specs.Catalog.{column_at, next_of}
use Rattle.finite.proofs.First.{First, first-from, first-same, first-none}
use Rattle.catalog.proofs.CatalogLaws.{next-from, same_rows, has-no-blank}
use Rattle.load.specs.Walked.{alike, Begins, along}

-- ---- the rows that it passes

module _ (D : Database) (p r : ℕ) where
  pub along-alike : r < 512 → (s : ℕ) → along D p r s ≡ alike D r p s
  unfolding along
  along-alike l s = ap (λ (b : Bool). b && alike D r p s) (lt-ltb r 512 l)

  pub along-none : 512 ≤ r → (s : ℕ) → along D p r s ≡ false
  unfolding along
  along-none h s = and_left (ltb r 512) (alike D r p s) (le-ltb r 512 h)

  along-start : (s : ℕ) → along D p r s ≡ true → r < 512
  unfolding along
  along-start s t = ltb-true r 512 ((and-eq-true_iff (ltb r 512) (alike D r p s)).0 t).0

  -- where it begins
  pub begins-first : Begins D p r → r ≡ first_from 512 (along D p r) 0
  begins-first b = go (dec_lt r 512)
    where
      go : Dec (r < 512) → r ≡ first_from 512 (along D p r) 0
      go (yes l) = b.first l ∙ first-same 512 (alike D r p) (along D p r) 0 (λ s _ _. sym (along-alike l s))
      go (no h) =
          let e : r ≡ 512 = omega (arith, b.bound) in
          e ∙ sym (first-none 512 (along D p r) 0 (λ s _ _. along-none (omega arith) s))

  -- where it goes on
  pub along-next : (x : ℕ) → along D p r x ≡ true → (n : ℕ) → n ≡ next_of D x p → n ≡ first_from 512 (along D p r) (x + 1)
  unfolding alike
  along-next x t n e =
      let s = along-start x t in
      next-from D (column_at D r p) (D.cell r p) x (sym (along-alike s x) ∙ t) n e ∙
      first-same 512 (alike D r p) (along D p r) (x + 1) (λ y _ _. sym (along-alike s y))

-- ---- from the first row that has a value, along its place

module _ (D : Database) (k : Model.Column) (v : Cell) (r : ℕ) (e : r ≡ first_from 512 (has D k v) 0) (p : ℕ) (at : p ≡ k.place) where
  first : First 512 (has D k v) 0 r
  first = subst (First 512 (has D k v) 0) (sym e) (first-from 512 (has D k v) 0 (omega arith))

  alike-has : r < 512 → (s : ℕ) → alike D r p s ≡ has D k v s
  unfolding alike
  alike-has l s = ap (λ (q : ℕ). has D (column_at D r q) (D.cell r q) s) at ∙ same_rows D k v r (first.here l) s

  pub begins-has : Begins D p r
  begins-has = record { bound = first.bound; first = λ l. e ∙ first-same 512 (has D k v) (alike D r p) 0 (λ s _ _. sym (alike-has l s)) }

  pub along-has : (s : ℕ) → s < 512 → along D p r s ≡ has D k v s
  along-has s m = go (dec_lt r 512)
    where
      go : Dec (r < 512) → along D p r s ≡ has D k v s
      go (yes l) = along-alike D p r l s ∙ alike-has l s
      go (no h) = along-none D p r (omega arith) s ∙ sym (first.none s (omega arith) (omega (arith, first.bound)))

-- ---- from the first row that a constraint demands

-- what a constraint demands of a row are the rows that have some value: the row's, or none
leads-cell : (D : Database) (j : Model.Constraint) (s : ℕ) → (v : Cell) × ((r : ℕ) → has D j.target v r ≡ leads D j s r)
unfolding leads
leads-cell D j s = go (D.live s) (eqb (D.table s) j.source.table) (D.cell s j.source.place)
  where
    go : (a b : Bool) (c : Cell) → (v : Cell) × ((r : ℕ) → has D j.target v r ≡ a && (b && has D j.target c r))
    go true true c = (c, λ r. refl)
    go true false c = (blank, has-no-blank D j.target blank blank-is)
    go false b c = (blank, has-no-blank D j.target blank blank-is)

module _ (D : Database) (j : Model.Constraint) (s r : ℕ) (e : r ≡ first_from 512 (leads D j s) 0) (p : ℕ) (at : p ≡ j.target.place) where
  first-target : r ≡ first_from 512 (has D j.target (leads-cell D j s).0) 0
  first-target = let f = leads-cell D j s in e ∙ first-same 512 (leads D j s) (has D j.target f.0) 0 (λ x _ _. sym (f.1 x))

  pub begins-leads : Begins D p r
  begins-leads = begins-has D j.target (leads-cell D j s).0 r first-target p at

  pub along-leads : (x : ℕ) → x < 512 → along D p r x ≡ leads D j s x
  along-leads x m =
      along-has D j.target (leads-cell D j s).0 r first-target p at x m ∙ (leads-cell D j s).1 x
