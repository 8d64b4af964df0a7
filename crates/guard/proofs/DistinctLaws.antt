-- Rows that stand are lawful exactly if no row has a next row in a unique column. Assumes nothing.
use Prim.Native.Nat.{ℕ, ◌+◌, ◌≤◌, ◌<◌}
use native.Mathlib.Omega.{arith}
use mathlib.Core.Path.{◌≡◌, refl, sym, ap, subst, ◌∙◌}
use mathlib.Core.Logic.{⊎_elim}
use mathlib.Core.Bool.{true, false, not, ◌&&◌, and-eq-true_iff}
use mathlib.Core.List.{List}
use borrow.Author.Tests.{ltb-true, ltb-false, lt-ltb, not-true}
use lib.Dec.{ltb}
use lib.ListN.{get_or}
use Rattle.finite.proofs.Bools.{dec, both, clash, refute, bool-ext, order, cond-false}
use Rattle.finite.proofs.Search.{any-true, any_found, all-at, all_true}
use Rattle.model.specs.Cell.{Cell, is_blank}
use Rattle.model.specs.Scheme as Model
use Rattle.model.specs.Database.{Database, Has, has}
use Rattle.model.proofs.CellLaws.{blank-is, equal-full}
use Rattle.model.proofs.DatabaseLaws.{has-Has, Has-has}
use Rattle.state.specs.Cells.{Cells}
use Rattle.state.specs.declared.design.Design.{Design}
use Rattle.state.specs.Design.{table_at}
use Rattle.state.specs.Meaning.{scheme_of, database_of}
use Rattle.state.specs.Lawful.{lawful_rows}
use Rattle.lawful.specs.Parts.{rows_stand}
use Rattle.lawful.proofs.RowsLaws.{cell-past, unique-says, stand-lawful}
use Rattle.finite.specs.Finite.{first_from}
use Rattle.catalog.specs.Catalog.{column_at, next_of}
use Rattle.finite.proofs.First.{first-from}
use Rattle.catalog.proofs.CatalogLaws.{next-has}
use Rattle.guard.specs.Distinct.{linked_at, distinct}

module _ (d : Design) (cells : Cells) (tables : List ℕ) where
  abbrev D : Database
  D = database_of cells tables

  row_low : (r : ℕ) → D.live r ≡ true → r < 512
  unfolding database_of
  row_low r e = D.finite r e

  -- what the link of a cell says
  linked-at : (r c : ℕ) →
      linked_at (table_at d (get_or tables r 0)).unique D r c ≡ (scheme_of d).unique (column_at D r c) && ltb (next_of D r c) 512
  unfolding scheme_of database_of
  linked-at r c = refl

  -- row r has a value in its column c, and so has a later row
  abbrev Later : ℕ → ℕ → Type 0
  Later r c = (s : ℕ) × (r < s) × Has D (column_at D r c) (D.cell r c) r × Has D (column_at D r c) (D.cell r c) s

  -- a row that has a next row is such a row
  next-row : (r c : ℕ) → r < 512 → next_of D r c < 512 → Later r c
  unfolding next_of
  next-row r c l h = ⊎_elim there gone (dec (has D (column_at D r c) (D.cell r c) r))
    where
      gone : has D (column_at D r c) (D.cell r c) r ≡ false → Later r c
      gone f = absurd (omega (arith, h, cond-false _ (first_from 512 (has D (column_at D r c) (D.cell r c)) (r + 1)) 512 f))

      there : has D (column_at D r c) (D.cell r c) r ≡ true → Later r c
      there t =
          let s = first_from 512 (has D (column_at D r c) (D.cell r c)) (r + 1) in
          let e : next_of D r c ≡ s = next-has D (column_at D r c) (D.cell r c) r t in
          let f = first-from 512 (has D (column_at D r c) (D.cell r c)) (r + 1) (omega arith) in
          (s, omega (arith, f.start), has-Has D _ _ r t, has-Has D _ _ s (f.here (omega (arith, e, h))))

  -- lawful rows have none
  lawful-distinct : lawful_rows d cells tables ≡ true → distinct d tables D ≡ true
  unfolding distinct
  lawful-distinct e = all_true 512 _ (λ r l. ap not (refute _ (λ t.
      let f = any_found 8 (linked_at (table_at d (get_or tables r 0)).unique D r) t in
      let b = (and-eq-true_iff ((scheme_of d).unique (column_at D r f.0)) _).0 (sym (linked-at r f.0) ∙ f.2) in
      let s = next-row r f.0 l (ltb-true _ _ b.1) in
      let same = unique-says d cells tables e (column_at D r f.0) _ r s.0 b.0 s.2 s.3 in
      omega (arith, s.1))))

  module _ (q : distinct d tables D ≡ true) where
    -- of two rows with one value in a unique column the earlier has a next row
    never : (k : Model.Column) (v : Cell) (r s : ℕ) → (scheme_of d).unique k ≡ true → Has D k v r → Has D k v s → r < s → ⊥
    unfolding distinct
    never k v r s u a b o = ⊎_elim inside outside (dec (ltb k.place 8))
      where
        outside : ltb k.place 8 ≡ false → ⊥
        outside p = clash (ap is_blank (cell-past cells tables r k.place (ltb-false _ _ p)) ∙ blank-is) (equal-full _ v a.value)

        here : k ≡ column_at D r k.place
        here = λ i. record { table = sym a.table i; place = k.place }

        inside : ltb k.place 8 ≡ true → ⊥
        inside p =
            let l = row_low r a.live in
            let f = first-from 512 (has D k v) (r + 1) (omega arith) in
            let e : next_of D r k.place ≡ first_from 512 (has D k v) (r + 1) = next-has D k v r (Has-has a) in
            let m : first_from 512 (has D k v) (r + 1) ≤ s = ⊎_elim (λ (w : ltb s (first_from 512 (has D k v) (r + 1)) ≡ true).
            clash (Has-has b) (f.none s (omega arith) (ltb-true _ _ w))) (λ (w : ltb s (first_from 512 (has D k v) (r + 1)) ≡ false). ltb-false _ _ w)
            (dec (ltb s (first_from 512 (has D k v) (r + 1)))) in
            let z = row_low s b.live in
            clash (any-true 8 (linked_at (table_at d (get_or tables r 0)).unique D r) k.place (ltb-true _ _ p)
            (linked-at r k.place ∙
            both (subst (λ (j : Model.Column). (scheme_of d).unique j ≡ true) here u) (lt-ltb (next_of D r k.place) 512 (omega (arith, e, m, z)))))
            (not-true _ (all-at 512 _ q r l))

    unique : (k : Model.Column) (v : Cell) (r s : ℕ) → (scheme_of d).unique k ≡ true → Has D k v r → Has D k v s → r ≡ s
    unique k v r s u a b =
        ⊎_elim (λ (o : r < s). absurd (never k v r s u a b o))
        (λ o. ⊎_elim (λ (e : r ≡ s). e) (λ (p : s < r). absurd (never k v s r u b a p)) o) (order r s)

  -- rows that stand
  pub distinct-is : rows_stand d cells tables ≡ true → distinct d tables D ≡ lawful_rows d cells tables
  distinct-is e = bool-ext _ _ (λ q. stand-lawful d cells tables e (unique q)) lawful-distinct
