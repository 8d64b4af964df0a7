-- Why a change is refused, along the order of the code's tests. Assumes nothing.
use Prim.Native.Nat.{ℕ, ◌≤◌, ◌<◌}
use native.Mathlib.Omega.{arith}
use mathlib.Core.Path.{◌≡◌, refl, sym, ap, ◌∙◌}
use mathlib.Core.Logic.{⊎_elim}
use mathlib.Core.Bool.{Bool, true, false, not, cond, and-eq-true_iff}
use borrow.Author.Tests.{lt-ltb, le-ltb, ltb-true, ltb-false, eqb-true, eqb-false}
use Rattle.std.proofs.Common.{rules}
use Rattle.std.specs.Prelude.{Option, None, Some}
use lib.Dec.{eqb, ltb}
use Rattle.finite.specs.Finite.{any, first_from}
use Rattle.finite.proofs.Bools.{dec, both, clash, refute, and-go, and_left, and_right, bool-ext}
use Rattle.finite.proofs.Search.{any_found, any-true}
use Rattle.finite.proofs.First.{first-from}
use Rattle.model.specs.Cell.{Cell}
use Rattle.model.specs.Scheme.{Column, Scheme}
use Rattle.model.specs.Database.{Database, has}
use Rattle.state.specs.declared.design.Design.{Design}
use Rattle.state.specs.declared.rows.Row.{Row}
use Rattle.state.specs.Meaning.{scheme_of}
use Rattle.state.specs.Lawful.{fits_table, stood_below}
use Rattle.state.specs.Changes.{Rows, put, remove, tables_of, row_cell, is_free, stands, change_cause}
use Rattle.change.specs.Replacing.{unless_zero}
use Rattle.lawful.proofs.SoundChange.{put_wrong, put-stands, remove-cause}
use Rattle.lawful.proofs.RowsLaws.{live_below}

-- a cause that is said to be n, where 0 stands for none
pub cause-given : (n w : ℕ) (r : Option ℕ) → r ≡ unless_zero n → r ≡ Some w → (w ≡ n) × (w ≡ 0 → ⊥)
cause-given n w r e f = go (eqb n 0) (λ h. eqb-false n 0 h) (sym e ∙ f)
  where
    go : (b : Bool) → (b ≡ false → n ≡ 0 → ⊥) → cond b None (Some n) ≡ Some w → (w ≡ n) × (w ≡ 0 → ⊥)
    go true h k = search rules
    go false h k = search (rules, h)

pub no-cause : (n : ℕ) (r : Option ℕ) → r ≡ unless_zero n → r ≡ None → 0 ≡ n
no-cause n r e f = go (eqb n 0) (λ h. eqb-true n 0 h) (sym e ∙ f)
  where
    go : (b : Bool) → (b ≡ true → n ≡ 0) → cond b None (Some n) ≡ None → 0 ≡ n
    go true h k = sym (h refl)
    go false h k = search rules

-- a search finds one of the n numbers just if one passes
pub first_any : (n : ℕ) (p : ℕ → Bool) → ltb (first_from n p 0) n ≡ any n p
first_any n p =
    let f = first-from n p 0 (omega arith) in
    bool-ext (ltb (first_from n p 0) n) (any n p) (λ e. any-true n p (first_from n p 0) (ltb-true _ n e) (f.here (ltb-true _ n e)))
    (λ e. let g = any_found n p e in lt-ltb (first_from n p 0) n (below (first_from n p 0) f.none g.0 g.1 g.2))
  where
    below : (m : ℕ) → ((s : ℕ) → 0 ≤ s → s < m → p s ≡ false) → (i : ℕ) → i < n → p i ≡ true → m < n
    below m h i l e =
        ⊎_elim (λ (q : ltb m n ≡ true). ltb-true m n q) (λ (q : ltb m n ≡ false). clash e (h i (omega arith) (omega (arith, ltb-false m n q)))) (dec (ltb m n))

-- column k is unique, and the search for the value v there, which is w, ended at row n
pub stood-found : (S : Scheme) (D : Database) (k : Column) (v w : Cell) (n : ℕ) → v ≡ w → S.unique k ≡ true → n ≡ first_from 512 (has D k v) 0 →
    ltb n 512 ≡ stood_below S D 512 k w
stood-found S D k v w n e u f =
    ap (λ (m : ℕ). ltb m 512) f ∙ first_any 512 (has D k v) ∙ ap (λ (y : Cell). any 512 (has D k y)) e ∙ and-go (S.unique k) (any 512 (has D k w)) u refl

module _ (R : Rows) (r : ℕ) where
  far-taken : 512 ≤ r → is_free R r ≡ false
  unfolding is_free
  far-taken h = and_left (ltb r 512) _ (le-ltb r 512 h)

  live-taken : (tables_of R).live r ≡ true → is_free R r ≡ false
  unfolding is_free
  live-taken e = and_right (ltb r 512) _ (ap not e)

  is-free : r < 512 → (tables_of R).live r ≡ false → is_free R r ≡ true
  unfolding is_free
  is-free l e = both (lt-ltb r 512 l) (ap not e)

module _ (S : Scheme) (R : Rows) (r : ℕ) where
  -- ---- a row that is put in

  module _ (x : Row) where
    pub put-far : 512 ≤ r → 5 ≡ change_cause S R (put r x)
    put-far h = put_wrong S R r x (and_left (is_free R r) _ (far-taken R r h))

    pub put-taken : (tables_of R).live r ≡ true → 5 ≡ change_cause S R (put r x)
    put-taken e = put_wrong S R r x (and_left (is_free R r) _ (live-taken R r e))

    pub put-unfit : fits_table S x.table (row_cell x) ≡ false → 5 ≡ change_cause S R (put r x)
    put-unfit e = put_wrong S R r x (and_right (is_free R r) _ e)

    module _ (l : r < 512) (e : (tables_of R).live r ≡ false) (f : fits_table S x.table (row_cell x) ≡ true) where
      pub put-twice : stands S R x ≡ true → 6 ≡ change_cause S R (put r x)
      put-twice h = put-stands S R r x (both (is-free R r l e) f) true h

      pub put-well : stands S R x ≡ false → 0 ≡ change_cause S R (put r x)
      put-well h = put-stands S R r x (both (is-free R r l e) f) false h

  -- ---- a row that is removed

  pub remove-far : 512 ≤ r → 5 ≡ change_cause S R (remove r)
  remove-far h = remove-cause S R r false (refute ((tables_of R).live r) (λ e. let l = live_below R.cells R.tables r e in omega arith))

  pub remove-free : (tables_of R).live r ≡ false → 5 ≡ change_cause S R (remove r)
  remove-free e = remove-cause S R r false e

  pub remove-well : (tables_of R).live r ≡ true → 0 ≡ change_cause S R (remove r)
  remove-well e = remove-cause S R r true e

-- a row that fits names a table
pub fit-table : (d : Design) (x : Row) → d.tables ≤ 8 → fits_table (scheme_of d) x.table (row_cell x) ≡ true → x.table < 8
unfolding scheme_of
fit-table d x h e = omega (arith, ltb-true x.table d.tables ((and-eq-true_iff (ltb x.table d.tables) _).0 e).0)
