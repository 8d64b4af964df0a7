-- Reading undoes writing and writing undoes reading. `read-written`: a lawful design with lawful rows that have no gaps, written, reads as itself, whatever
-- follows. `Written-Read`: an accepted script, up to the place after its END, is what its design is written as. `accepted-lawful`: what is accepted is
-- lawful and has no gaps; so a design with rows is lawful without gaps if and only if some script reads as it (`lawful-reads`). `read_left`: lawful rows with
-- gaps, written, read as `compact`, which is lawful, has no gaps, and is written as the same bytes. Assumes nothing.
use Prim.Native.Nat.{ℕ, suc, ◌-◌, ◌^◌, ◌≤◌}
use native.Mathlib.Omega.{arith}
use mathlib.Core.Path.{◌≡◌, refl, sym, ap, ap₂, subst, ◌∙◌}
use mathlib.Core.Bool.{true}
use mathlib.Core.Logic.{◌↔◌}
use mathlib.Core.List.{List, [], ◌++◌, append-nil}
use borrow.Author.Tests.{le-ltb}
use lib.Dec.{ltb}
use lib.ListN.{length}
use Rattle.finite.proofs.Bools.{cond-false}
use Rattle.finite.proofs.Tables.{length-tab}
use Rattle.state.specs.Cells.{Cells}
use Rattle.state.specs.declared.design.Design.{Design}
use Rattle.state.specs.Lawful.{lawful_design, lawful_rows}
use Rattle.state.proofs.Arrays.{Sized}
use Rattle.format.specs.Reading.{draft, empty_draft, read_from, read_design, most_bytes}
use Rattle.format.specs.Reading.DesignRead.{accepted, refused_at}
use Rattle.format.specs.Writing.{design_bytes, Dense, numbers_left, compact}
use Rattle.format.proofs.Lengths.{length_most, bytes-dense, length-dense}
use Rattle.format.proofs.LawfulLaws.{parts, row-parts}
use Rattle.format.proofs.ReadingLaws.{read_all}
use Rattle.format.proofs.Reached.{Sizes, accepted-lawful}
use Rattle.finite.proofs.Standing.{Stands, stands-first}
use Rattle.format.proofs.Small.{Small, small-design}
use Rattle.writing.proofs.ReadBack.{Numbers, reading}
use Rattle.writing.proofs.Compact.{left-small, compact-dense, compact-lawful, compact-written}

pub design-short : (d : Design) (cells : Cells) (tables : List ℕ) → lawful_design d ≡ true → length (design_bytes d cells tables) ≤ 21697
design-short d cells tables h = let p = parts d h in length_most d cells tables p.tables p.constraints p.fillings

module _ (d : Design) (k : ℕ) (cells : Cells) (tables : List ℕ) (h : lawful_design d ≡ true) (g : lawful_rows d cells tables ≡ true) (dense : Dense k cells tables)
    (z : Sizes (draft d k cells tables)) (n : Numbers d cells) where
  pub read-written : (rest : List ℕ) → length (design_bytes d cells tables ++ rest) ≤ 65536
      → read_design (design_bytes d cells tables ++ rest) ≡ accepted (draft d k cells tables) (length (design_bytes d cells tables))
  unfolding read_design read_all
  read-written rest l =
      let s = design_bytes d cells tables ++ rest in
      let e : length s - 0 ≡ length s = omega arith in
      cond-false (ltb most_bytes (length s)) (refused_at 4 0) (read_from (suc (length s)) s empty_draft 0) (le-ltb most_bytes (length s) l) ∙
      ap (λ (m : ℕ). read_from (suc m) s empty_draft 0) (sym e) ∙
      reading d k cells tables (parts d h) dense.most (row-parts d k cells tables g dense) z n s
      (subst (Stands s 0) (bytes-dense d k cells tables dense) (stands-first (design_bytes d cells tables) rest)) ∙
      ap (accepted (draft d k cells tables)) (sym (length-dense d k cells tables dense))

  pub read-written-alone : read_design (design_bytes d cells tables) ≡ accepted (draft d k cells tables) (length (design_bytes d cells tables))
  read-written-alone =
      let e = append-nil (design_bytes d cells tables) in
      let l = design-short d cells tables h in
      ap read_design (sym e) ∙ read-written [] (subst (λ (x : List ℕ). length x ≤ 65536) (sym e) (omega arith))

-- lawful without gaps is what some script reads as
pub lawful-reads : (d : Design) (k : ℕ) (cells : Cells) (tables : List ℕ) → Sizes (draft d k cells tables) → Numbers d cells
    → ((lawful_design d ≡ true) × (lawful_rows d cells tables ≡ true) × Dense k cells tables)
    ↔ ((s : List ℕ) × (i : ℕ) × Small s × (read_design s ≡ accepted (draft d k cells tables) i))
lawful-reads d k cells tables z n = (
  λ h. (design_bytes d cells tables, length (design_bytes d cells tables), small-design d cells tables n.issue h.0 h.1, read-written-alone d k cells tables h.0 h.1 h.2 z n),
  λ h. let a = accepted-lawful h.0 h.2 _ h.1 h.3 in (a.0, a.1, a.3),
)

-- ---- rows with gaps

module _ (d : Design) (cells : Cells) (tables : List ℕ) (h : lawful_design d ≡ true) (g : lawful_rows d cells tables ≡ true) (z : Sized d) (n : Numbers d cells) where
  sizes-left : Sizes (draft d (compact d cells tables).rows (compact d cells tables).cells (compact d cells tables).tables)
  unfolding compact
  sizes-left =
      record { table = z.table; constraint = z.constraint; filling = z.filling; cells = length-tab 4096 _; issues = length-tab 4096 _; tables = length-tab 512 _ }

  numbers-left : Numbers d (compact d cells tables).cells
  unfolding compact
  numbers-left =
      record { low = n.low; high = n.high; cell = left-small (numbers_left cells tables) cells.numbers (2 ^ 32) (omega arith) n.cell; issue = left-small (numbers_left cells tables) cells.issues (2 ^ 8) (omega arith) n.issue }

  is-left : draft d (compact d cells tables).rows (compact d cells tables).cells (compact d cells tables).tables ≡ compact d cells tables
  unfolding compact
  is-left = refl

  pub read_left : (rest : List ℕ) → length (design_bytes d cells tables ++ rest) ≤ 65536
      → read_design (design_bytes d cells tables ++ rest) ≡ accepted (compact d cells tables) (length (design_bytes d cells tables))
  read_left rest l =
      let c = compact d cells tables in
      let e = compact-written d cells tables h g in
      ap (λ (x : List ℕ). read_design (x ++ rest)) (sym e) ∙
      read-written d c.rows c.cells c.tables h (compact-lawful d cells tables h g) (compact-dense d cells tables h g) sizes-left numbers-left rest
      (subst (λ (x : List ℕ). length (x ++ rest) ≤ 65536) (sym e) l) ∙ ap₂ accepted is-left (ap length e)
