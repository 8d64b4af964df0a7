-- The values that are read, test by test. Assumes nothing.
use Prim.Native.Nat.{ℕ, ◌+◌, ◌≤◌, ◌<◌}
use native.Mathlib.Numerals.{add-one}
use native.Mathlib.Omega.{arith}
use mathlib.Core.Path.{◌≡◌, refl, sym, ap, ap₂, subst, ◌∙◌}
use mathlib.Core.Bool.{Bool, true, false, cond, ◌&&◌}
use mathlib.Core.List.{List}
use borrow.Author.Tests.{eq-eqb, ne_eqb, ltb-true}
use lib.Dec.{eqb, ltb}
use lib.ListN.{get_or}
use Rattle.std.specs.Prelude.{Option, None, Some}
use Rattle.std.specs.Bool.{then_some}
use Rattle.std.specs.declared.cmp.Ordering.TheVariants.{Less, Equal, Greater}
use Rattle.std.specs.Ordering.{nat_cmp, is_lt, is_some_and, partial_ordering_then}
use Rattle.finite.proofs.Bools.{clash, and_left, and_right, cond-true, cond-false}
use Rattle.model.specs.Cell.{Cell, blank, numberless}
use Rattle.model.specs.Scheme.{Column, same_column, Filling, candidate}
use Rattle.model.specs.Cache.{RowSet}
use Rattle.state.specs.declared.cell.Cell as State
use Rattle.state.specs.Cells.{Cells}
use Rattle.state.specs.Meaning.{cell_of, cell_at, database_of}
use Rattle.state.proofs.RowLaws.{cell-at}
use Rattle.opener.proofs.ReadingLaws.{candidate-numbered}
use Rattle.opener.specs.Reading.{Reads, is_before, lower, lowest_of, own_value, value_in, lowest_value}

-- ---- the order: pairs of numbers and issues, compared as the library does

pub pair-before : (n i m j : ℕ) → is_some_and is_lt (partial_ordering_then (Some (nat_cmp n m)) (Some (nat_cmp i j))) ≡ cond (eqb n m) (ltb i j) (ltb n m)
pair-before n i m j = go (ltb n m) (eqb n m) (ltb i j) (eqb i j) (λ h. ne_eqb n m (λ e. omega (arith, ltb-true n m h)))
  where
    go : (a b x y : Bool) → (a ≡ true → b ≡ false) →
        is_some_and is_lt (partial_ordering_then (Some (cond a Less (cond b Equal Greater))) (Some (cond x Less (cond y Equal Greater)))) ≡ cond b x a
    go true true x y h = clash refl (h refl)
    go true false x y h = refl
    go false true true y h = refl
    go false true false true h = refl
    go false true false false h = refl
    go false false x y h = refl

-- ---- the lower of two

module _ (a b : Cell) where
  pub lower-none : numberless a ≡ true → b ≡ lower a b
  unfolding lower
  lower-none h = sym (cond-true _ _ _ h)

  module _ (h : numberless a ≡ false) where
    pub lower_only : numberless b ≡ true → a ≡ lower a b
    unfolding lower
    lower_only g = sym (cond-false _ _ _ h ∙ cond-true _ _ _ g)

    module _ (g : numberless b ≡ false) where
      pub lower-new : is_before b a ≡ true → b ≡ lower a b
      unfolding lower
      lower-new l = sym (cond-false _ _ _ h ∙ cond-false _ _ _ g ∙ cond-true _ _ _ l)

      pub lower-old : is_before b a ≡ false → a ≡ lower a b
      unfolding lower
      lower-old l = sym (cond-false _ _ _ h ∙ cond-false _ _ _ g ∙ cond-false _ _ _ l)

-- ---- the lower of two that may be missing

blank-none : numberless blank ≡ true
unfolding numberless blank
blank-none = refl

module _ (a b : Option State.Cell) (x y : Cell) (p : Reads a x) (q : Reads b y) where
  pub reads-other : a ≡ None → Reads b (lower x y)
  reads-other e = subst (λ (z : Cell). Reads b z) (lower-none x y (ap numberless (subst (λ (o : Option State.Cell). Reads o x) e p) ∙ blank-none)) q

  module _ (u : State.Cell) (e : a ≡ Some u) where
    there-a : Reads (Some u) x
    there-a = subst (λ (o : Option State.Cell). Reads o x) e p

    pub reads-only : b ≡ None → Reads (Some u) (lower x y)
    reads-only f =
        subst (λ (z : Cell). Reads (Some u) z) (lower_only x y there-a.1 (ap numberless (subst (λ (o : Option State.Cell). Reads o y) f q) ∙ blank-none)) there-a

    module _ (v : State.Cell) (f : b ≡ Some v) where
      there-b : Reads (Some v) y
      there-b = subst (λ (o : Option State.Cell). Reads o y) f q

      before-is : is_before (cell_of v) (cell_of u) ≡ is_before y x
      before-is = ap₂ (λ (m n : Cell). is_before m n) there-b.0 there-a.0

      pub reads-new : is_before (cell_of v) (cell_of u) ≡ true → Reads (Some v) (lower x y)
      reads-new h = subst (λ (z : Cell). Reads (Some v) z) (lower-new x y there-a.1 there-b.1 (sym before-is ∙ h)) there-b

      pub reads-old : is_before (cell_of v) (cell_of u) ≡ false → Reads (Some u) (lower x y)
      reads-old h = subst (λ (z : Cell). Reads (Some u) z) (lower-old x y there-a.1 there-b.1 (sym before-is ∙ h)) there-a

pub reads-some : (r : Option State.Cell) (u : State.Cell) (w : Cell) → r ≡ Some u → Reads r w → (cell_of u ≡ w) × (numberless w ≡ false)
reads-some r u w e h = subst (λ (o : Option State.Cell). Reads o w) e h

pub reads-none : (r : Option State.Cell) (w : Cell) → r ≡ None → Reads r w → numberless w ≡ true
reads-none r w e h = ap numberless (subst (λ (o : Option State.Cell). Reads o w) e h) ∙ blank-none

-- ---- what a test chooses

pub reads-chosen : (F : Filling) (x : State.Cell) (r : Option State.Cell) (b : Bool) (w : Cell) → 1 ≤ F.low → b ≡ candidate F (cell_of x) → r ≡ then_some b x
    → cond (candidate F (cell_of x)) (cell_of x) blank ≡ w → Reads r w
reads-chosen F x r b w l e h f =
    subst (λ (z : Cell). Reads r z) f
    (subst (λ (o : Option State.Cell). Reads o (cond (candidate F (cell_of x)) (cell_of x) blank)) (sym (h ∙ ap (λ (c : Bool). then_some c x) e))
    (go (candidate F (cell_of x)) (candidate-numbered F (cell_of x) l)))
  where
    go : (c : Bool) → (c ≡ true → numberless (cell_of x) ≡ false) → Reads (then_some c x) (cond c (cell_of x) blank)
    go true m = (refl, m refl)
    go false m = refl

module _ (k : Column) (v : Cell) (F : Filling) where
  pub own-elsewhere : same_column F.column k ≡ false → own_value k v F ≡ blank
  unfolding own_value
  own-elsewhere h = cond-false _ v blank (and_left _ _ h)

  pub own-there : same_column F.column k ≡ true → (u : Cell) → u ≡ cond (candidate F v) v blank → u ≡ own_value k v F
  unfolding own_value
  own-there h u e = e ∙ sym (ap (λ (b : Bool). cond (b && candidate F v) v blank) h)

module _ (cells : Cells) (tables : List ℕ) (B : RowSet) (F : Filling) (r : ℕ) (l : F.column.place < 8) where
  abbrev there : Cell
  there = (database_of cells tables).cell r F.column.place

  pub value-unled : B r ≡ false → value_in (database_of cells tables) B F r ≡ blank
  unfolding value_in
  value-unled h = cond-false _ there blank (and_left _ _ h)

  pub value-elsewhere : (get_or tables r 0 ≡ F.column.table → ⊥) → value_in (database_of cells tables) B F r ≡ blank
  unfolding value_in database_of
  value-elsewhere h = cond-false _ there blank (and_right (B r) _ (and_left _ _ (ne_eqb _ _ h)))

  pub value_there : B r ≡ true → get_or tables r 0 ≡ F.column.table → (x : State.Cell) → x ≡ cell_at cells r F.column.place → (u : Cell) →
      u ≡ cond (candidate F (cell_of x)) (cell_of x) blank → u ≡ value_in (database_of cells tables) B F r
  unfolding value_in database_of
  value_there b t x e u h =
      h ∙ ap (λ (w : Cell). cond (candidate F w) w blank) (ap (λ (y : State.Cell). cell_of y) e ∙ sym (cell-at cells tables r F.column.place l)) ∙
      sym (ap₂ (λ (p q : Bool). cond (p && (q && candidate F there)) there blank) b (eq-eqb _ _ t))

-- ---- the lowest of many, value by value

pub reads-more : (a : Cell) (n : ℕ) (f : ℕ → Cell) (r : Option State.Cell) → Reads r (lower (lowest_of a n f) (f n)) → Reads r (lowest_of a (n + 1) f)
unfolding lowest_of
reads-more a n f r h = subst (λ (z : Cell). Reads r z) (ap (λ (x : ℕ). lowest_of a x f) (sym (add-one n))) h

pub reads-end : (cells : Cells) (tables : List ℕ) (B : RowSet) (k : Column) (v : Cell) (F : Filling) (n : ℕ) (r : Option State.Cell) → n ≤ 512 → 512 ≤ n →
    Reads r (lowest_of (own_value k v F) n (value_in (database_of cells tables) B F)) → Reads r (lowest_value (database_of cells tables) B k v F)
unfolding lowest_value database_of
reads-end cells tables B k v F n r s t h =
    let e : n ≡ 512 = omega arith in
    subst (λ (z : Cell). Reads r z) (ap (λ (y : ℕ). lowest_of (own_value k v F) y (value_in (database_of cells tables) B F)) e) h
