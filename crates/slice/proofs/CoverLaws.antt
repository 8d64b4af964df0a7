-- Which values a fetch has: the code's tests, and what they say for a value and for a span. Assumes nothing.
use Prim.Native.Nat.{ℕ, ◌≤◌}
use native.Mathlib.Omega.{arith}
use mathlib.Core.Path.{◌≡◌, refl, sym, ap, ◌∙◌}
use mathlib.Core.Logic.{⊎_elim}
use mathlib.Core.Bool.{Bool, true, false, not, cond, ◌&&◌, and-eq-true_iff}
use borrow.Author.Tests.{eqb-true, eq-eqb, ne_eqb, leb-true, le-leb}
use lib.Dec.{eqb, leb}
use Rattle.finite.proofs.Bools.{and-go, and-stop, both, clash, cond-true, cond-false, dec, refute}
use Rattle.model.specs.Cell.{Cell, issued, is_blank, equal}
use Rattle.model.specs.Missing as Model
use Rattle.model.specs.Scheme.{Column, same_column}
use Rattle.model.proofs.CellLaws.{equal-same, equal-full, equal-self}
use Rattle.model.proofs.DatabaseLaws.{same-column}
use Rattle.slice.specs.declared.fetch.Fetch.{Fetch}
use Rattle.slice.specs.Fetches.{column_in, fetch_of, value_fetch, span_of}

-- ---- a value's number and issue

module _ (a b : ℕ) (v : Cell) where
  pub value-blank : is_blank v ≡ true → false ≡ equal (issued a b) v
  value-blank e = sym (refute (equal (issued a b) v) (λ x. clash (ap is_blank (equal-same (issued a b) v x) ∙ e) (equal-full (issued a b) v x)))

  pub value-other : (a ≡ v.number → ⊥) → false ≡ equal (issued a b) v
  value-other n = sym (refute (equal (issued a b) v) (λ x. n (ap (λ (w : Cell). w.number) (equal-same (issued a b) v x))))

  pub value_same : (x : ℕ) → is_blank v ≡ false → a ≡ v.number → x ≡ v.issue → eqb b x ≡ equal (issued a b) v
  value_same x n e f =
      ⊎_elim
      (λ (t : eqb b v.issue ≡ true). ap (eqb b) f ∙ t ∙ sym (same t))
      (λ (t : eqb b v.issue ≡ false). ap (eqb b) f ∙ t ∙ sym (refute (equal (issued a b) v) (λ y.
      clash (eq-eqb b v.issue (ap (λ (w : Cell). w.issue) (equal-same (issued a b) v y))) t)))
      (dec (eqb b v.issue))
    where
      same : eqb b v.issue ≡ true → equal (issued a b) v ≡ true
      same t =
          let i = eqb-true b v.issue t in
          ap (λ (w : Cell). equal w v) (λ j. record { number = e j; issue = i j }) ∙ equal-self v n

-- ---- the code's tests

module _ (f : Fetch) (k : Column) (v : Cell) where
  -- by kind
  pub covers-is : Model.covers (fetch_of f) k v ≡
      same_column (column_in f) k && cond (eqb f.kind 0) (equal (issued f.number f.end) v) (eqb v.issue 0 && (leb f.number v.number && leb v.number f.end))
  unfolding fetch_of Model.covers
  covers-is = go (eqb f.kind 0)
    where
      go : (x : Bool) → Model.covers (cond x (Model.value (column_in f) (issued f.number f.end)) (Model.span (column_in f) f.number f.end)) k v ≡
          same_column (column_in f) k && cond x (equal (issued f.number f.end) v) (eqb v.issue 0 && (leb f.number v.number && leb v.number f.end))
      go true = refl
      go false = refl

  pub cover-table : (f.table ≡ k.table → ⊥) → false ≡ Model.covers (fetch_of f) k v
  unfolding same_column
  cover-table n = and-stop (same_column (column_in f) k) _ (sym (and-stop _ _ (ne_eqb f.table k.table n))) ∙ sym covers-is

  pub cover-place : f.table ≡ k.table → (f.column ≡ k.place → ⊥) → false ≡ Model.covers (fetch_of f) k v
  unfolding same_column
  cover-place e n = and-stop (same_column (column_in f) k) _ (sym (and-go _ _ (eq-eqb f.table k.table e) (sym (ne_eqb f.column k.place n)))) ∙ sym covers-is

  here : f.table ≡ k.table → f.column ≡ k.place → same_column (column_in f) k ≡ true
  unfolding same_column
  here e g = both (eq-eqb f.table k.table e) (eq-eqb f.column k.place g)

  pub cover-value : {r : Bool} → f.table ≡ k.table → f.column ≡ k.place → f.kind ≡ 0 → r ≡ equal (issued f.number f.end) v → r ≡ Model.covers (fetch_of f) k v
  cover-value e g z h = and-go (same_column (column_in f) k) _ (here e g) (h ∙ sym (cond-true _ _ _ (eq-eqb f.kind 0 z))) ∙ sym covers-is

  pub cover-span : {r : Bool} → f.table ≡ k.table → f.column ≡ k.place → (f.kind ≡ 0 → ⊥) →
      r ≡ eqb v.issue 0 && (leb f.number v.number && leb v.number f.end) → r ≡ Model.covers (fetch_of f) k v
  cover-span e g z h = and-go (same_column (column_in f) k) _ (here e g) (h ∙ sym (cond-false _ _ _ (ne_eqb f.kind 0 z))) ∙ sym covers-is

  -- ---- what they say

  -- a value's fetch that has v is v's
  pub value-says : f.kind ≡ 0 → Model.covers (fetch_of f) k v ≡ true → f ≡ value_fetch k v
  value-says z e =
      let q = (and-eq-true_iff (same_column (column_in f) k) _).0 (sym covers-is ∙ e) in
      let c = same-column (column_in f) k q.0 in
      let w = equal-same (issued f.number f.end) v (sym (cond-true _ _ _ (eq-eqb f.kind 0 z)) ∙ q.1) in
      λ i. record { kind = z i; table = (c i).table; column = (c i).place; number = (w i).number; end = (w i).issue }

-- a span has the number x of column k
pub record Spans (f : Fetch) (k : Column) (x : ℕ) : Type 0 where
  pub table : f.table ≡ k.table
  pub column : f.column ≡ k.place
  pub low : f.number ≤ x
  pub high : x ≤ f.end

module _ (f : Fetch) (k : Column) where
  between : (x : ℕ) → same_column (column_in f) k ≡ true → leb f.number x && leb x f.end ≡ true → Spans f k x
  between x s e =
      let c = same-column (column_in f) k s in
      let l = (and-eq-true_iff (leb f.number x) (leb x f.end)).0 e in
      record { table = ap (λ (j : Column). j.table) c; column = ap (λ (j : Column). j.place) c; low = leb-true _ _ l.0; high = leb-true _ _ l.1 }

  pub span-covers : (v : Cell) → 1 ≤ f.kind → Model.covers (fetch_of f) k v ≡ true → Spans f k v.number
  span-covers v z e =
      let q = (and-eq-true_iff (same_column (column_in f) k) _).0 (sym (covers-is f k v) ∙ e) in
      let p = (and-eq-true_iff (eqb v.issue 0) _).0 (sym (cond-false _ _ _ (ne_eqb f.kind 0 (λ y. omega arith))) ∙ q.1) in
      between v.number q.0 p.1

  spans-is : (x : ℕ) → Model.spans (fetch_of f) k x ≡ cond (eqb f.kind 0) false (same_column (column_in f) k && (leb f.number x && leb x f.end))
  unfolding fetch_of Model.spans
  spans-is x = go (eqb f.kind 0)
    where
      go : (b : Bool) → Model.spans (cond b (Model.value (column_in f) (issued f.number f.end)) (Model.span (column_in f) f.number f.end)) k x ≡
          cond b false (same_column (column_in f) k && (leb f.number x && leb x f.end))
      go true = refl
      go false = refl

  pub spans-say : (x : ℕ) → Model.spans (fetch_of f) k x ≡ true → (f.kind ≡ 0 → ⊥) × Spans f k x
  spans-say x e = (
    λ z. clash (sym (spans-is x) ∙ e) (cond-true _ _ _ (eq-eqb f.kind 0 z)),
    go (eqb f.kind 0) (sym (spans-is x) ∙ e),
  )
    where
      go : (b : Bool) → cond b false (same_column (column_in f) k && (leb f.number x && leb x f.end)) ≡ true → Spans f k x
      go true h = clash h refl
      go false h = let q = (and-eq-true_iff (same_column (column_in f) k) _).0 h in between x q.0 q.1

  pub says-span : (x : ℕ) → (f.kind ≡ 0 → ⊥) → Spans f k x → Model.spans (fetch_of f) k x ≡ true
  unfolding same_column
  says-span x z s =
      spans-is x ∙ cond-false _ _ _ (ne_eqb f.kind 0 z) ∙
      both (both (eq-eqb _ _ s.table) (eq-eqb _ _ s.column)) (both (le-leb _ _ s.low) (le-leb _ _ s.high))

  -- ---- whether it is a span of the column

  pub span-of : span_of f k ≡ true → (f.kind ≡ 0 → ⊥) × (f.table ≡ k.table) × (f.column ≡ k.place)
  unfolding span_of
  span-of e =
      let q = (and-eq-true_iff (not (eqb f.kind 0)) _).0 e in
      let p = (and-eq-true_iff (eqb f.table k.table) _).0 q.1 in
      (λ z. clash q.0 (ap not (eq-eqb f.kind 0 z)), eqb-true _ _ p.0, eqb-true _ _ p.1)

  pub of-span : (f.kind ≡ 0 → ⊥) → f.table ≡ k.table → f.column ≡ k.place → span_of f k ≡ true
  unfolding span_of
  of-span z t c = both (ap not (ne_eqb f.kind 0 z)) (both (eq-eqb _ _ t) (eq-eqb _ _ c))
