-- Answers as values, the loops that leave at the first lack, what the constraints demand, and gaps. Assumes nothing.
use Prim.Native.Nat.{ℕ, suc, ◌+◌, ◌-◌, ◌<◌, ◌≤◌}
use native.Mathlib.Omega.{arith}
use mathlib.Core.Path.{◌≡◌, refl, sym, ap, subst, ◌∙◌}
use mathlib.Core.Logic.{◌⊎◌, inl, inr, ⊎_elim}
use mathlib.Core.Bool.{Bool, true, false, not, cond, ◌||◌, or-true, or-false, ◌&&◌}
use mathlib.Core.List.{List, [], ◌∷◌}
use borrow.Author.Tests.{eq-eqb, ne_eqb, ltb-true, ltb-false, lt-ltb, le-leb, lt-leb, leb-true, leb-false}
use lib.Dec.{eqb, leb, ltb}
use lib.ListN.{get_or, take}
use lib.Seq.{get_or-take}
use Rattle.finite.specs.Finite.{any, first_from}
use Rattle.finite.proofs.Bools.{clash, cond-true, cond-false, dec, refute, or-second}
use Rattle.finite.proofs.First.{first-from, first-is, first-through, first-here, first_past, first-none}
use Rattle.model.specs.Cache.{RowSet}
use Rattle.model.specs.Cell.{Cell, blank, issued, numbered, is_blank}
use Rattle.model.specs.Database.{Database, has}
use Rattle.model.specs.Holding.{Holding, all_ranges}
use Rattle.model.specs.Missing as Model
use Rattle.model.specs.Ranges.{Range}
use Rattle.model.specs.Runs.{marked}
use Rattle.model.specs.Scheme.{Column, Scheme}
use Rattle.model.proofs.MissingLaws.{spanned-known}
use Rattle.model.proofs.MissingLoops.{first_any, lack-hit, lack-more, lack-end, lack-append}
use Rattle.state.specs.Cells.{Cells}
use Rattle.state.specs.declared.cell.Cell as Declared-cell
use Rattle.state.specs.declared.design.Design.{Design}
use Rattle.state.specs.Design.{constraint_at}
use Rattle.state.specs.Meaning.{cell_of, cell_at, column_of, scheme_of, database_of}
use Rattle.slice.specs.declared.fetch.Fetch.{Fetch}
use Rattle.std.specs.Bool.{then_some}
use Rattle.slice.specs.Fetches.{fetch_of, value_fetch, span_fetch, as_lack, IsNextSpan, IsShut, NextSpan}
use Rattle.std.specs.Prelude.{None}

-- ---- answers

pub value_of : (k : Column) (v : Cell) → fetch_of (value_fetch k v) ≡ Model.value k v
unfolding fetch_of
value_of k v = ap (λ (b : Bool). cond b (Model.value k v) (Model.span k v.number v.issue)) (eq-eqb 0 0 refl)

pub span-of : (k : Column) (a b : ℕ) → fetch_of (span_fetch k a b) ≡ Model.span k a b
unfolding fetch_of
span-of k a b = ap (λ (x : Bool). cond x (Model.value k (issued a b)) (Model.span k a b)) (ne_eqb 1 0 (λ (e : ◌≡◌ {A = ℕ} 1 0). omega arith))

pub below-any : (n r : ℕ) (p : ℕ → Bool) → n ≡ 512 → r ≡ first_from 512 p 0 → ltb r 512 ≡ any n p
below-any n r p e f = ap (λ (x : ℕ). ltb x 512) f ∙ first_any 512 p ∙ ap (λ (m : ℕ). any m p) (sym e)

module _ (S : Scheme) (D : Database) (fs : List Model.Fetch) (k : Column) (v : Cell) where
  pub only-known : S.unique k && any D.size (has D k v) ≡ true → true ≡ Model.known S D fs k v
  unfolding Model.known
  only-known e = sym (or-second (Model.is_fetched fs k v) _ e)

  pub fetched-known : {r : Bool} → S.unique k && any D.size (has D k v) ≡ false → r ≡ Model.is_fetched fs k v → r ≡ Model.known S D fs k v
  unfolding Model.known
  fetched-known e h = h ∙ sym (ap (λ (b : Bool). Model.is_fetched fs k v || b) e ∙ or-false (Model.is_fetched fs k v))

  pub open-blank : is_blank v ≡ true → false ≡ Model.is_open S D fs k v
  unfolding Model.is_open
  open-blank e = sym (ap (λ (b : Bool). not (b || Model.known S D fs k v)) e)

  pub open_full : {r : Bool} → is_blank v ≡ false → r ≡ Model.known S D fs k v → not r ≡ Model.is_open S D fs k v
  unfolding Model.is_open
  open_full e h = ap not h ∙ sym (ap (λ (b : Bool). not (b || Model.known S D fs k v)) e)

  pub value-lack : (b : Bool) (f : Fetch) → b ≡ Model.is_open S D fs k v → f ≡ value_fetch k v → as_lack (then_some b f) ≡ Model.lack_of S D fs k v
  unfolding Model.lack_of
  value-lack b f e g =
      ap (λ (x : Bool). as_lack (then_some x f)) e ∙ go (Model.is_open S D fs k v) ∙
      ap (λ (x : Model.Fetch). cond (Model.is_open S D fs k v) (Model.lacks x) Model.nothing) (ap fetch_of g ∙ value_of k v)
    where
      go : (x : Bool) → as_lack (then_some x f) ≡ cond x (Model.lacks (fetch_of f)) Model.nothing
      go true = refl
      go false = refl

-- ---- loops that leave at the first lack

module _ (f : ℕ → Model.Lack) where
  pub leaves : (n i : ℕ) {g : Model.Fetch} → i < n → Model.lack_below i f ≡ Model.nothing → Model.lacks g ≡ f i → Model.lacks g ≡ Model.lack_below n f
  leaves n i h e g = sym (lack-hit f n i h e (sym g))

  pub goes_on : (i : ℕ) → Model.lack_below i f ≡ Model.nothing → Model.nothing ≡ f i → Model.lack_below (i + 1) f ≡ Model.nothing
  goes_on i e g = lack-more f i e (sym g)

  pub ends : (n i : ℕ) → i ≤ n → n ≤ i → Model.lack_below i f ≡ Model.nothing → Model.nothing ≡ Model.lack_below n f
  ends n i a b e = sym (lack-end f n i a b e)

-- all desks' lists
pub lack-all : (g : Range → Model.Lack) (rss : List (List Range)) → Model.lack_in g (all_ranges rss) ≡ Model.lack_in (Model.lack_in g) rss
unfolding all_ranges Model.lack_in
lack-all g [] = refl
lack-all g (rs ∷ rss) = lack-append g rs (all_ranges rss) ∙ ap (Model.or_lack (Model.lack_in g rs)) (lack-all g rss)

-- ---- what the constraints demand of a row

module _ (d : Design) (cells : Cells) (tables : List ℕ) (fs : List Model.Fetch) (r i : ℕ) where
  pub row_other : (get_or tables r 0 ≡ (constraint_at d i).source.table → ⊥) → Model.nothing ≡ Model.link_lack (scheme_of d) (database_of cells tables) fs r i
  unfolding Model.link_lack scheme_of database_of
  row_other n = sym (cond-false _ _ _ (ne_eqb _ _ n))

  pub row-there : (v : Declared-cell.Cell) {l : Model.Lack} → (constraint_at d i).source.place < 8 → get_or tables r 0 ≡ (constraint_at d i).source.table →
      v ≡ cell_at cells r (constraint_at d i).source.place → l ≡ Model.lack_of (scheme_of d) (database_of cells tables) fs (column_of (constraint_at d i).target) (cell_of v) →
      l ≡ Model.link_lack (scheme_of d) (database_of cells tables) fs r i
  unfolding Model.link_lack scheme_of database_of
  row-there v p e f h =
      h ∙ ap (Model.lack_of (scheme_of d) (database_of cells tables) fs (column_of (constraint_at d i).target)) (ap cell_of f ∙ sym (cond-true _ _ blank (lt-ltb _ 8 p))) ∙
      sym (cond-true _ _ _ (eq-eqb _ _ e))

module _ (S : Scheme) (D : Database) (fs : List Model.Fetch) (r : ℕ) (m : List ℕ) where
  marks-at : r < 512 → marked (take 512 m) r ≡ eqb (get_or m r 0) 1
  unfolding marked
  marks-at l = ap (λ (x : ℕ). eqb x 1) (get_or-take 512 m r 0 l)

  pub marks-out : r < 512 → (get_or m r 0 ≡ 1 → ⊥) → Model.nothing ≡ Model.row_lack S D fs (marked (take 512 m)) r
  unfolding Model.row_lack
  marks-out l n = sym (cond-false _ _ _ (marks-at l ∙ ne_eqb (get_or m r 0) 1 n))

  pub marks-in : {l : Model.Lack} → r < 512 → get_or m r 0 ≡ 1 → l ≡ Model.lack_below S.constraints (Model.link_lack S D fs r) →
      l ≡ Model.row_lack S D fs (marked (take 512 m)) r
  unfolding Model.row_lack
  marks-in l e h = h ∙ sym (cond-true _ _ _ (marks-at l ∙ eq-eqb (get_or m r 0) 1 e))

-- ---- gaps

module _ (S : Scheme) (D : Database) (fs : List Model.Fetch) (k : Column) (x : ℕ) where
  pub shut_one : Model.is_open S D fs k (numbered x) ≡ false → IsShut S D fs k x (x + 1)
  shut_one e =
      record {
        order = omega arith;
        shut = λ z a b. let q : x ≡ z = omega arith in subst (λ (y : ℕ). Model.is_open S D fs k (numbered y) ≡ false) q e;
      }

  -- a number that a span has is known
  spanned-shut : (z : ℕ) → Model.is_spanned fs k z ≡ true → Model.is_open S D fs k (numbered z) ≡ false
  unfolding Model.is_open
  spanned-shut z e = ap not (ap (λ (b : Bool). is_blank (numbered z) || b) (spanned-known S D fs k z e) ∙ or-true (is_blank (numbered z)))

  pub shut-span : (f : Fetch) → IsNextSpan fs k x f → f.number ≤ x → IsShut S D fs k x (f.end + 1)
  shut-span f n b =
      let r = n.reaches in
      record { order = omega arith; shut = λ z a c. spanned-shut z (n.has z (omega arith) (omega arith)) }

  -- the walk along a range
  pub walk-hit : (high : ℕ) → x ≤ high → Model.is_open S D fs k (numbered x) ≡ true → x ≡ Model.first_open S D fs k high x
  unfolding Model.first_open
  walk-hit high l s = sym (first-here (suc high) _ x (omega arith) s)

  pub walk-on : (high y : ℕ) → x ≤ high → IsShut S D fs k x y → Model.first_open S D fs k high x ≡ Model.first_open S D fs k high y
  unfolding Model.first_open
  walk-on high y l s =
      ⊎_elim
      (λ (t : leb y (suc high) ≡ true). first-through (suc high) _ x y (omega (arith, s.order)) (leb-true _ _ t) (λ z a b. s.shut z a b))
      (λ (t : leb y (suc high) ≡ false).
      let m = leb-false y (suc high) t in
      first-none (suc high) _ x (λ z a b. s.shut z a (omega arith)) ∙ sym (first_past (suc high) _ y (omega arith)))
      (dec (leb y (suc high)))

  pub walk_end : (high : ℕ) → high < x → high + 1 ≡ Model.first_open S D fs k high x
  unfolding Model.first_open
  walk_end high l = omega (arith, first_past (suc high) (λ y. Model.is_open S D fs k (numbered y)) x (omega arith))

  pub walk-past : (high : ℕ) → high < x → high < Model.first_open S D fs k high x
  walk-past high l = omega (arith, walk_end high l)

-- where the gap ends in which x lies
module _ (fs : List Model.Fetch) (k : Column) (x high : ℕ) where
  -- no span from x on begins before high's end
  gap-whole : x ≤ high → ((z : ℕ) → x ≤ z → z < suc high → Model.is_spanned fs k z ≡ false) → high ≡ Model.gap_end fs k high x
  unfolding Model.gap_end
  gap-whole b h = omega (arith, first-none (suc high) (Model.is_spanned fs k) x h)

  pub gap-bare : NextSpan fs k x None → x ≤ high → high ≡ Model.gap_end fs k high x
  gap-bare n b = gap-whole b (λ z a c. n z a)

  module _ (f : Fetch) (n : IsNextSpan fs k x f) (b : x ≤ high) where
    pub gap-before : high < f.number → high ≡ Model.gap_end fs k high x
    gap-before h = gap-whole b (λ z a c. n.none z a (omega arith))

    -- a span that reaches x begins behind it
    pub gap-begins : Model.is_spanned fs k x ≡ false → x < f.number
    gap-begins e = ⊎_elim (λ (u : ltb x f.number ≡ true). ltb-true _ _ u)
        (λ (u : ltb x f.number ≡ false). clash (n.has x (ltb-false _ _ u) n.reaches) e) (dec (ltb x f.number))

    pub gap-part : Model.is_spanned fs k x ≡ false → f.number ≤ high → f.number - 1 ≡ Model.gap_end fs k high x
    unfolding Model.gap_end
    gap-part e c =
        let y = gap-begins e in
        ap (λ (m : ℕ). m - 1) (first-is (suc high) (Model.is_spanned fs k) x f.number (record {
          start = omega arith;
          bound = omega arith;
          none = λ z a d. n.none z a d;
          here = λ _. n.has f.number (omega arith) n.order;
        }))

-- a range's answer
module _ (fs : List Model.Fetch) (k : Column) (high x : ℕ) where
  pub range_none : high < x → Model.nothing ≡ Model.gap_lack fs k high x
  unfolding Model.gap_lack
  range_none l = sym (cond-false _ _ _ (lt-leb x high l))

  pub range-gap : (y : ℕ) (f : Fetch) → x ≤ high → f ≡ span_fetch k x y → y ≡ Model.gap_end fs k high x → Model.lacks (fetch_of f) ≡ Model.gap_lack fs k high x
  unfolding Model.gap_lack
  range-gap y f l e g =
      ap (λ (z : Model.Fetch). Model.lacks z) (ap fetch_of e ∙ span-of k x y) ∙ ap (λ (z : ℕ). Model.lacks (Model.span k x z)) g ∙ sym (cond-true _ _ _ (le-leb x high l))

-- ... where k is the filling's column and x the first open number
pub range-says : (S : Scheme) (D : Database) (fs : List Model.Fetch) (q : Range) (k : Column) (x : ℕ) {l : Model.Lack} → (S.filling q.filling).column ≡ k →
    x ≡ Model.first_open S D fs k q.high q.low → l ≡ Model.gap_lack fs k q.high x → l ≡ Model.range_lack S D fs q
unfolding Model.range_lack
range-says S D fs q k x e f h =
    h ∙ ap (Model.gap_lack fs k q.high) f ∙ ap (λ (j : Column). Model.gap_lack fs j q.high (Model.first_open S D fs j q.high q.low)) (sym e)

-- an open number lies in no span
pub open-unspanned : (S : Scheme) (D : Database) (fs : List Model.Fetch) (k : Column) (x : ℕ) → Model.is_open S D fs k (numbered x) ≡ true → Model.is_spanned fs k x ≡ false
open-unspanned S D fs k x e = refute (Model.is_spanned fs k x) (λ t. clash e (spanned-shut S D fs k x x t))

-- the first open number of a range is open
pub first-open : (S : Scheme) (D : Database) (fs : List Model.Fetch) (k : Column) (high low x : ℕ) → x ≡ Model.first_open S D fs k high low → x ≤ high →
    Model.is_open S D fs k (numbered x) ≡ true
unfolding Model.first_open
first-open S D fs k high low x e l = ap p e ∙ go (dec (leb low (suc high)))
  where
    p : ℕ → Bool
    p y = Model.is_open S D fs k (numbered y)

    go : (leb low (suc high) ≡ true) ⊎ (leb low (suc high) ≡ false) → p (first_from (suc high) p low) ≡ true
    go (inl t) = (first-from (suc high) p low (leb-true _ _ t)).here (omega (arith, e))
    go (inr t) = let m = leb-false low (suc high) t in absurd (omega (arith, e, first_past (suc high) p low (omega arith)))

-- ---- one after the other

module _ (S : Scheme) (cells : Cells) (tables : List ℕ) (h : Holding) (X : RowSet) (fs : List Model.Fetch) where
  abbrev pairs : Model.Lack
  pairs = Model.lack_in (Model.pair_lack S (database_of cells tables) fs) h.values

  abbrev ranges : Model.Lack
  ranges = Model.lack_in (Model.range_lack S (database_of cells tables) fs) (all_ranges h.ranges)

  abbrev rows : Model.Lack
  rows = Model.lack_below 512 (Model.row_lack S (database_of cells tables) fs X)

  whole : Model.or_lack pairs (Model.or_lack ranges rows) ≡ Model.missing S (database_of cells tables) h X fs
  unfolding Model.missing database_of
  whole = refl

  passed : {a b c : Model.Lack} → Model.nothing ≡ a → c ≡ b → c ≡ Model.or_lack a b
  passed {a} {b} e q = q ∙ ap (λ (x : Model.Lack). Model.or_lack x b) e

  hit : {a : Model.Lack} (b : Model.Lack) {g : Model.Fetch} → Model.lacks g ≡ a → Model.lacks g ≡ Model.or_lack a b
  hit b e = ap (λ (x : Model.Lack). Model.or_lack x b) e

  pub missing-pairs : {g : Model.Fetch} → Model.lacks g ≡ pairs → Model.lacks g ≡ Model.missing S (database_of cells tables) h X fs
  missing-pairs e = hit (Model.or_lack ranges rows) e ∙ whole

  pub missing-ranges : {g : Model.Fetch} → Model.nothing ≡ pairs → Model.lacks g ≡ ranges → Model.lacks g ≡ Model.missing S (database_of cells tables) h X fs
  missing-ranges e f = passed e (hit rows f) ∙ whole

  pub missing-rows : {l : Model.Lack} → Model.nothing ≡ pairs → Model.nothing ≡ ranges → l ≡ rows → l ≡ Model.missing S (database_of cells tables) h X fs
  missing-rows e f g = passed e (passed f g) ∙ whole
