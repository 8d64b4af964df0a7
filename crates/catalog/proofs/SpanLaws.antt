-- The values of a range stand side by side among a column's falling keys. Assumes nothing.
use Prim.Native.Nat.{ℕ, ◌+◌, ◌-◌, ◌*◌, ◌%◌, ◌≤◌, ◌<◌}
use native.Mathlib.Decide.{dec_lt}
use native.Mathlib.Omega.{arith}
use mathlib.Core.Path.{◌≡◌, sym, ap, subst, ◌∙◌}
use mathlib.Core.Logic.{⊎_elim}
use mathlib.Core.Bool.{true, false, ◌&&◌, and-eq-true_iff}
use mathlib.Core.List.{List}
use borrow.Author.Tests.{eqb-true, eqb-false, eq-eqb, ne_eqb}
use lib.Dec.{eqb}
use lib.ListN.{get_or}
use Rattle.finite.specs.Finite.{any, first_from}
use Rattle.finite.proofs.Bools.{dec, both, bool-ext, clash, cond-true, cond-false}
use Rattle.finite.proofs.Search.{any_found, any-true}
use Rattle.finite.proofs.First.{first-none}
use Rattle.model.specs.Cell.{Cell, blank, is_blank, numbered}
use Rattle.model.specs.Scheme as Model
use Rattle.model.specs.Database.{Database, Has, has}
use Rattle.model.specs.Ranges.{Range, in_range, has_range}
use Rattle.model.proofs.CellLaws.{blank-is, equal-same, equal-self}
use Rattle.model.proofs.DatabaseLaws.{has-Has, has-full}
use Rattle.model.proofs.RangeLaws.{InRange, in-says, says-in}
use Rattle.catalog.specs.Catalog.{key_of, value_of, Falls, Lists, Directory}
use Rattle.catalog.specs.Listing.{Searched}
use Rattle.catalog.specs.Spans.{plain_value, Spanned}
use Rattle.catalog.proofs.CatalogLaws.{has-no-blank}
use Rattle.catalog.proofs.KeyLaws.{value-is}

-- ---- values of issue 0

pub plain-value : (x : ℕ) → x % 256 ≡ 0 → plain_value x ≡ value_of x
unfolding plain_value
plain-value x e = cond-true (eqb (x % 256) 0) (value_of x) blank (eq-eqb _ _ e)

pub plain-none : (x : ℕ) → (x % 256 ≡ 0 → ⊥) → plain_value x ≡ blank
unfolding plain_value
plain-none x n = cond-false (eqb (x % 256) 0) (value_of x) blank (ne_eqb _ _ n)

-- no row has the blank
pub none_first : (D : Database) (k : Model.Column) (x : ℕ) → (x % 256 ≡ 0 → ⊥) → 512 ≡ first_from 512 (has D k (plain_value x)) 0
none_first D k x n =
    sym (first-none 512 (has D k (plain_value x)) 0 (λ s _ _. ap (λ (v : Cell). has D k v s) (plain-none x n) ∙ has-no-blank D k blank blank-is s))

pub some_first : (D : Database) (k : Model.Column) (x r : ℕ) → x % 256 ≡ 0 → r ≡ first_from 512 (has D k (value_of x)) 0 →
    r ≡ first_from 512 (has D k (plain_value x)) 0
some_first D k x r e f = f ∙ ap (λ (v : Cell). first_from 512 (has D k v) 0) (sym (plain-value x e))

-- ---- column c of table t, between the places `from` and `to`; a is the seat of the highest key of the range, e of the one below the lowest

module _ (D : Database) (keys heads : List ℕ) (k : Model.Column) (q : Range) (from to : ℕ) (lists : Lists D k from to keys heads) (a e : ℕ)
    (A : Searched from to (256 * q.high) a a keys) (E : Searched from to (256 * q.low - 1) e e keys) where
  -- a row with a value of the range has it at a place between the two
  record Placed (s : ℕ) : Type 0 where
    at : ℕ
    start : a ≤ at
    end : at < e
    value : has D k (plain_value (get_or keys at 0)) s ≡ true

  placed : (s : ℕ) → has_range D k q s ≡ true → Placed s
  unfolding has_range has key_of
  placed s h =
      let p = (and-eq-true_iff (D.live s) _).0 h in
      let t = (and-eq-true_iff (eqb (D.table s) k.table) _).0 p.1 in
      let v = D.cell s k.place in
      let w = in-says q v t.1 in
      let y = both p.0 (both t.0 (equal-self v w.full)) in
      let f = lists.there s (omega arith) y in
      let x : get_or keys f.0 0 ≡ 256 * v.number = omega (arith, f.3, w.issue) in
      record {
        at = f.0;
        start = first f.0 x f.1 w (dec_lt f.0 a);
        end = last f.0 x f.1 f.2 w (dec_lt f.0 e);
        value = ap (λ (u : Cell). has D k u s) (plain-value _ (let z : get_or keys f.0 0 % 256 ≡ 0 = omega arith in z) ∙ value-is v _ (f.3, omega (arith, w.issue))) ∙ y;
      }
    where
      first : (i : ℕ) → get_or keys i 0 ≡ 256 * (D.cell s k.place).number → from ≤ i → InRange q (D.cell s k.place) → Dec (i < a) → a ≤ i
      first i x l w (yes m) = absurd (omega (arith, A.above i l m, w.high))
      first i x l w (no m) = omega arith

      last : (i : ℕ) → get_or keys i 0 ≡ 256 * (D.cell s k.place).number → from ≤ i → i < to → InRange q (D.cell s k.place) → Dec (i < e) → i < e
      last i x l g w (yes m) = m
      last i x l g w (no m) = absurd (omega (arith, E.below i (omega arith) g, lists.value i l g, w.low))

  -- and a value of issue 0 at such a place is one of the range
  unplaced : (s i : ℕ) → a ≤ i → i < e → has D k (plain_value (get_or keys i 0)) s ≡ true → has_range D k q s ≡ true
  unfolding has_range value_of
  unplaced s i l m h = ⊎_elim plain other (dec (eqb (get_or keys i 0 % 256) 0))
    where
      g : Has D k (plain_value (get_or keys i 0)) s
      g = has-Has D k (plain_value (get_or keys i 0)) s h

      low : 256 * q.low - 1 < get_or keys i 0
      low = E.above i (omega (arith, A.start)) m

      high : get_or keys i 0 ≤ 256 * q.high
      high = A.below i l (omega (arith, E.end))

      plain : eqb (get_or keys i 0 % 256) 0 ≡ true → D.live s && (eqb (D.table s) k.table && in_range q (D.cell s k.place)) ≡ true
      plain t =
          let z = eqb-true (get_or keys i 0 % 256) 0 t in
          let v : D.cell s k.place ≡ value_of (get_or keys i 0) = equal-same _ _ g.value ∙ plain-value (get_or keys i 0) z in
          both g.live
          (both (eq-eqb _ _ g.table)
          (ap (in_range q) v ∙ says-in q (value_of (get_or keys i 0))
          (record {
            full = subst (λ (u : Cell). is_blank u ≡ false) (plain-value (get_or keys i 0) z) (has-full g);
            issue = z;
            low = omega (arith, low);
            high = omega (arith, high);
          })))

      other : eqb (get_or keys i 0 % 256) 0 ≡ false → D.live s && (eqb (D.table s) k.table && in_range q (D.cell s k.place)) ≡ true
      other t = clash h (ap (λ (v : Cell). has D k v s) (plain-none (get_or keys i 0) (eqb-false _ _ t)) ∙ has-no-blank D k blank blank-is s)

  pub spanned : a ≤ e → Spanned D k q keys heads a (e - a)
  spanned l =
      record {
        bound = omega (arith, E.end, lists.bound);
        first = λ j m. lists.head (a + j) (omega (arith, A.start)) (omega (arith, E.end));
        rows = λ s. bool-ext (has_range D k q s) (any (e - a) (λ j. has D k (plain_value (get_or keys (a + j) 0)) s))
            (λ h. let p = placed s h in
            let i : a + (p.at - a) ≡ p.at = omega (arith, p.start) in
            any-true (e - a) _ (p.at - a) (omega (arith, p.start, p.end)) (subst (λ (n : ℕ). has D k (plain_value (get_or keys n 0)) s ≡ true) (sym i) p.value))
            (λ h. let f = any_found (e - a) (λ j. has D k (plain_value (get_or keys (a + j) 0)) s) h in
            unplaced s (a + f.0) (omega arith) (omega (arith, f.1)) f.2);
      }

  -- no row has a value of the range
  pub spanned-none : e < a → Spanned D k q keys heads 0 0
  spanned-none l =
      record {
        bound = omega arith;
        first = λ j m. absurd (omega arith);
        rows = λ s. bool-ext (has_range D k q s) (any 0 (λ j. has D k (plain_value (get_or keys (0 + j) 0)) s))
            (λ h. let p = placed s h in absurd (omega (arith, p.start, p.end)))
            (λ h. let f = any_found 0 (λ j. has D k (plain_value (get_or keys (0 + j) 0)) s) h in absurd (omega (arith, f.1)));
      }

-- ---- as the code finds it: column c of table t, whose keys of the range's ends are x and y

module _ (D : Database) (keys heads starts : List ℕ) (d : Directory D keys heads starts) (t c : ℕ) (p : t < 8) (r : c < 8) (q : Range) (to : ℕ)
    (z : to ≡ get_or starts (8 * t + c + 1) 0) where
  abbrev k : Model.Column
  k = record { table = t; place = c }

  pub span-long : 4096 < to → Spanned D k q keys heads 0 0
  span-long h = absurd (omega (arith, (d.column t c p r).bound))

  module _ (from : ℕ) (y : from ≡ get_or starts (8 * t + c) 0) (x a w e : ℕ) (high : x ≡ key_of (numbered q.high))
      (A : from ≤ to → Falls from to keys → Searched from to x a a keys) (low : w ≡ key_of (numbered q.low) - 1)
      (E : from ≤ to → Falls from to keys → Searched from to w e e keys) where
    lists : Lists D k from to keys heads
    lists =
        subst (λ (n : ℕ). Lists D k n to keys heads) (sym y)
        (subst (λ (n : ℕ). Lists D k (get_or starts (8 * t + c) 0) n keys heads) (sym z) (d.column t c p r))

    top : Searched from to (256 * q.high) a a keys
    unfolding key_of
    top = subst (λ (n : ℕ). Searched from to n a a keys) (let i : x ≡ 256 * q.high = omega (arith, high) in i) (A lists.order lists.falls)

    bottom : Searched from to (256 * q.low - 1) e e keys
    unfolding key_of
    bottom = subst (λ (n : ℕ). Searched from to n e e keys) (let i : w ≡ 256 * q.low - 1 = omega (arith, low) in i) (E lists.order lists.falls)

    pub span-some : a ≤ e → Spanned D k q keys heads a (e - a)
    span-some l = spanned D keys heads k q from to lists a e top bottom l

    pub span_none : e < a → Spanned D k q keys heads 0 0
    span_none l = spanned-none D keys heads k q from to lists a e top bottom l
