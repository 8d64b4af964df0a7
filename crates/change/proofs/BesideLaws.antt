-- The lent rows with a row and without it, as a change that isn't refused finds and leaves them. Assumes nothing.
use Prim.Native.Nat.{ℕ, ◌<◌}
use native.Mathlib.Omega.{arith}
use mathlib.Core.Path.{◌≡◌, refl, sym, ap, subst, ◌∙◌}
use mathlib.Core.Bool.{true, false, not, and-eq-true_iff}
use mathlib.Core.List.{List}
use borrow.Author.Tests.{ltb-true, not-true, eq-eqb}
use lib.Dec.{ltb}
use lib.ListN.{get_or}
use lib.Seq.{get_or-set_same}
use Rattle.model.specs.Scheme.{Scheme}
use Rattle.state.specs.declared.rows.Row.{Row}
use Rattle.state.specs.Design.{InRange, Backed}
use Rattle.state.specs.Meaning.{free_table, scheme_of}
use Rattle.state.specs.Lent.{State, scheme, sound}
use Rattle.state.specs.Changes.{put, remove, Rows, rows, tables_of, free_row, stored, is_free, change_cause}
use Rattle.lawful.proofs.RowsLaws.{lawful-stand, stand-table}
use Rattle.lawful.proofs.SoundChange.{put-free, remove-live}
use Rattle.lawful.proofs.SoundState.{parts}
use Rattle.lawful.proofs.StoredLaws.{RowSized, free-sized, table-other, live-other, cell_other, live_same, stored-backed}
use Rattle.catalog.specs.Catalog.{Catalogued}
use Rattle.mend.specs.Changing.{Without}
use Rattle.catalog.proofs.MakingLaws.{size-lent}

-- ---- a row is stored

module _ (R : Rows) (r : ℕ) (l : r < 512) (b : Backed R.cells R.tables) where
  -- at a number that was free
  pub stored-without : (x : Row) → RowSized x → (tables_of R).live r ≡ false → (R' : Rows) → R' ≡ stored R r x → Without (tables_of R) (tables_of R') r
  stored-without x z h R' e =
      subst (λ (T : Rows). Without (tables_of R) (tables_of T) r) (sym e)
      (record {
        bound = l;
        size-without = size-lent R.cells R.tables;
        size-with = size-lent (stored R r x).cells (stored R r x).tables;
        free = h;
        live = λ s ne. sym (live-other R r x z s ne);
        table = λ s ne. sym (table-other R r x z s ne);
        cell = λ s c ne. sym (cell_other R r x z s ne c);
      })

  pub stored-table : (x : Row) → x.table < 8 → (R' : Rows) → R' ≡ stored R r x → get_or R'.tables r 0 < 8
  unfolding stored
  stored-table x h R' e =
      subst (λ (T : Rows). get_or T.tables r 0 < 8) (sym e) (omega (arith, get_or-set_same R.tables r x.table 0 (omega (arith, b.members))))

  -- a number becomes free
  pub freed-without : Without (tables_of (stored R r free_row)) (tables_of R) r
  freed-without =
      record {
        bound = l;
        size-without = size-lent (stored R r free_row).cells (stored R r free_row).tables;
        size-with = size-lent R.cells R.tables;
        free = live_same R r free_row free-sized l b ∙ ap not (eq-eqb free_table free_table refl);
        live = λ s ne. live-other R r free_row free-sized s ne;
        table = λ s ne. table-other R r free_row free-sized s ne;
        cell = λ s c ne. cell_other R r free_row free-sized s ne c;
      }

  -- the buffers afterwards
  pub stored-backs : (x : Row) (R' : Rows) → R' ≡ stored R r x → Backed R'.cells R'.tables
  stored-backs x R' e = subst (λ (T : Rows). Backed T.cells T.tables) (sym e) (stored-backed R r x b)

  -- the rows afterwards, where x is what stands at a free number
  pub freed-rows : (x : Row) → x ≡ free_row → (R' : Rows) → R' ≡ stored R r x → R' ≡ stored R r free_row
  freed-rows x f R' e = e ∙ ap (stored R r) f

  pub freed-catalogued : (S : Scheme) (catalog keys : List ℕ) (R' : Rows) → R' ≡ stored R r free_row → Catalogued S (tables_of (stored R r free_row)) catalog keys
      → Catalogued S (tables_of R') catalog keys
  freed-catalogued S catalog keys R' e c = subst (λ (T : Rows). Catalogued S (tables_of T) catalog keys) (sym e) c

-- ---- a sound state, and a change that isn't refused

module _ (s : State) (e : sound s ≡ true) (d : InRange s.design) (r n : ℕ) (z : n ≡ 0) where
  -- the number is free, and the row's table is one of the eight
  pub put-asked : (x : Row) → n ≡ change_cause (scheme s) (rows s) (put r x) → (x.table < 8) × ((tables_of (rows s)).live r ≡ false)
  unfolding is_free scheme_of
  put-asked x f =
      let a = put-free (scheme s) (rows s) r x (sym f ∙ z) in (
        omega (arith, ltb-true x.table s.design.tables ((and-eq-true_iff (ltb x.table (scheme s).tables) _).0 a.1).0, d.tables),
        not-true ((tables_of (rows s)).live r) ((and-eq-true_iff (ltb r 512) _).0 a.0).1,
      )

  -- the row's table is one of the eight
  pub remove-asked : n ≡ change_cause (scheme s) (rows s) (remove r) → get_or s.tables r 0 < 8
  remove-asked f =
      stand-table s.design s.cells s.tables (lawful-stand s.design s.cells s.tables (parts s e).rows) d.tables r
      (remove-live (scheme s) (rows s) r (sym f ∙ z))
