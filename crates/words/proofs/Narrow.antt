-- A lawful design keeps to bytes where its words do. Assumes nothing.
use Prim.Native.Nat.{ℕ, ◌≤◌, ◌<◌}
use native.Mathlib.Nat.{lt_of_lt_of_le}
use native.Mathlib.Omega.{arith}
use mathlib.Core.Path.{◌≡◌, sym, subst}
use mathlib.Core.Bool.{true, false}
use mathlib.Core.Logic.{⊎_elim}
use borrow.Author.Tests.{ltb-true, ltb-false}
use lib.Dec.{ltb}
use lib.Pow.{pow_mono}
use Rattle.finite.proofs.Bools.{dec}
use Rattle.model.specs.Scheme.{ColumnOf}
use Rattle.state.specs.declared.design.Table.{Table}
use Rattle.state.specs.declared.design.Column.{Column}
use Rattle.state.specs.declared.design.Design.{Design}
use Rattle.state.specs.Design.{no_table, no_constraint, no_filling, table_at, constraint_at, filling_at}
use Rattle.state.specs.Meaning.{column_of, scheme_of}
use Rattle.state.specs.Lawful.{lawful_design}
use Rattle.lawful.specs.LawfulState.{LawfulTable, LawfulDesign}
use Rattle.lawful.proofs.DesignLaws.{design-says}
use Rattle.words.proofs.WordLaws.{NarrowTable, NarrowColumn, NarrowConstraint, NarrowFilling, NarrowDesign}

-- what holds of every place: it holds of the first m, and the rest are e
in-places : {A : Type 0} (f : ℕ → A) (e : A) (n m : ℕ) (P : A → Type 0) → ((i : ℕ) → i < m → P (f i)) → ((i : ℕ) → i < n → m ≤ i → f i ≡ e) → P e →
    (i : ℕ) → i < n → P (f i)
in-places f e n m P used rest none i l =
    ⊎_elim (λ (b : ltb i m ≡ true). used i (ltb-true i m b))
    (λ (b : ltb i m ≡ false). subst P (sym (rest i l (ltb-false i m b))) none) (dec (ltb i m))

narrow-table : (t : Table) → LawfulTable t → NarrowTable t
narrow-table t w = (omega (arith, w.most), lt_of_lt_of_le w.bits (pow_mono w.most))

narrow-column : (d : Design) → LawfulDesign d → (k : Column) → ColumnOf (scheme_of d) (column_of k) → NarrowColumn k
unfolding scheme_of
narrow-column d w k c = (omega (arith, c.table, w.tables), omega (arith, c.place, (w.table k.table c.table).most))

pub narrow-design : (d : Design) → lawful_design d ≡ true → NarrowDesign d
narrow-design d e =
    let w = design-says d e in
    record {
      table =
          in-places (table_at d) no_table 8 d.tables NarrowTable (λ i l. narrow-table _ (w.table i l)) w.table_rest (omega arith, omega arith);
      constraint =
          in-places (constraint_at d) no_constraint 16 d.constraints NarrowConstraint
          (λ i l. (narrow-column d w _ (w.constraint i l).source, narrow-column d w _ (w.constraint i l).target)) w.constraint_rest
          ((omega arith, omega arith), (omega arith, omega arith));
      filling =
          in-places (filling_at d) no_filling 8 d.fillings NarrowFilling
          (λ i l. narrow-column d w _ (w.filling i l).column) w.filling_rest (omega arith, omega arith);
    }
