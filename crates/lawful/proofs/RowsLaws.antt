-- What the tests of the rows say, both ways: the lent rows are a lawful database, and numbers without a row have no cells. Assumes nothing.
use Prim.Native.Nat.{ℕ, ◌+◌, ◌*◌, ◌^◌, ◌≤◌, ◌<◌}
use native.Mathlib.Omega.{arith}
use mathlib.Core.Path.{◌≡◌, refl, sym, ap, subst, ◌∙◌}
use mathlib.Core.Logic.{⊎_elim}
use mathlib.Core.Bool.{Bool, true, false, not, ◌&&◌, and-eq-true_iff}
use mathlib.Core.List.{List}
use borrow.Author.Tests.{lt-ltb, le-ltb, ltb-true, ltb-false, eqb-true, eq-eqb, not-true}
use lib.Dec.{ltb}
use lib.ListN.{get_or}
use Rattle.finite.specs.Finite.{any}
use Rattle.finite.proofs.Bools.{dec, both, clash, refute, cond-true, cond-false}
use Rattle.finite.proofs.Search.{any-true, any_found, all-at, all_true}
use Rattle.model.specs.Cell.{Cell, Fits, blank, is_blank, numberless}
use Rattle.model.specs.Scheme.{Column, Scheme}
use Rattle.model.specs.Database.{Database, Has, has, Lawful}
use Rattle.model.proofs.CellLaws.{blank-fits, blank-is, is-blank, numbered-full, equal-same, equal-full, equal-self}
use Rattle.model.proofs.DatabaseLaws.{has-Has, Has-has, has-full}
use Rattle.state.specs.Cells.{Cells}
use Rattle.state.specs.declared.design.Design.{Design}
use Rattle.state.specs.Held.{no_cell}
use Rattle.state.specs.Meaning.{cell_of, cell_back, cell_at, scheme_of, database_of}
use Rattle.state.specs.Lawful.{cell_fits, row_fits, repeats_at, repeats, blank_row, lawful_rows}
use Rattle.state.proofs.RowLaws.{cell-at}
use Rattle.state.proofs.Places.{where-used, where-unused, all-where}
use Rattle.lawful.specs.LawfulState.{LawfulRows}
use Rattle.lawful.specs.Parts.{rows_stand}
use Rattle.lawful.proofs.RowTests.{fits-blank, fits-number}

-- ---- one cell

module _ (n c : ℕ) (a : Cell) where
  -- a cell without a number is blank
  numberless-says : cell_fits n c a ≡ true → numberless a ≡ true → is_blank a ≡ true
  unfolding cell_fits
  numberless-says e q = sym (cond-true (numberless a) _ _ q) ∙ e

  -- and one past the columns
  past-says : cell_fits n c a ≡ true → n ≤ c → is_blank a ≡ true
  past-says e h =
      ⊎_elim (numberless-says e) (λ (q : numberless a ≡ false). clash (fits-number n c a q ∙ e) (le-ltb c n h)) (dec (numberless a))

  -- so that none has an issue alone
  full-says : cell_fits n c a ≡ true → a.number ≡ 0 → a.issue ≡ 0
  unfolding numberless blank
  full-says e z = ap (λ (b : Cell). b.issue) (is-blank a (numberless-says e (eq-eqb a.number 0 z)))

  cell-if : Fits a → (n ≤ c → is_blank a ≡ true) → cell_fits n c a ≡ true
  unfolding numberless is_blank
  cell-if f h =
      ⊎_elim (λ (q : numberless a ≡ true). let z = eqb-true a.number 0 q in sym (fits-blank n c a (both q (eq-eqb a.issue 0 (f.full z)))))
      (λ (q : numberless a ≡ false). sym (fits-number n c a q) ∙
      ⊎_elim (λ (p : ltb c n ≡ true). p) (λ (p : ltb c n ≡ false). clash (h (ltb-false c n p)) (numbered-full a q)) (dec (ltb c n)))
      (dec (numberless a))

-- ---- one row of any database

module _ (S : Scheme) (D : Database) (r : ℕ) where
  fits-says : row_fits S D r ≡ true → (D.table r < S.tables) × ((c : ℕ) → c < 8 → cell_fits (S.columns (D.table r)) c (D.cell r c) ≡ true)
  unfolding row_fits
  fits-says e = let h = (and-eq-true_iff (ltb (D.table r) S.tables) _).0 e in (ltb-true _ _ h.0, all-at 8 _ h.1)

  fits-if : D.table r < S.tables → ((c : ℕ) → c < 8 → cell_fits (S.columns (D.table r)) c (D.cell r c) ≡ true) → row_fits S D r ≡ true
  unfolding row_fits
  fits-if t h = both (lt-ltb _ _ t) (all_true 8 _ h)

-- an earlier row with the same value in a unique column would be a repeat
no-repeat : (S : Scheme) (D : Database) (k : Column) (v : Cell) (r s : ℕ) → repeats S D s ≡ false → k.place < 8 → S.unique k ≡ true → r < s →
    Has D k v r → Has D k v s → ⊥
unfolding repeats repeats_at
no-repeat S D k v r s e p u l a b =
    clash
    (any-true 8 (repeats_at S D s) k.place p
    (both (subst (λ (m : Column). S.unique m ≡ true) here u)
    (any-true s _ r l
    (subst (λ (m : Column). has D m (D.cell s k.place) r ≡ true) here
    (subst (λ (w : Cell). has D k w r ≡ true) (sym (equal-same (D.cell s k.place) v b.value)) (Has-has a))))))
    e
  where
    here : k ≡ record { table = D.table s; place = k.place }
    here = λ i. record { table = sym b.table i; place = k.place }

-- a row of a database whose unique columns hold no value twice repeats none
repeats-none : (S : Scheme) (D : Database) (r : ℕ) → D.live r ≡ true →
    ((k : Column) (v : Cell) (s t : ℕ) → S.unique k ≡ true → Has D k v s → Has D k v t → s ≡ t) → repeats S D r ≡ false
unfolding repeats repeats_at
repeats-none S D r l h = refute _ (λ e. let f = any_found 8 (repeats_at S D r) e in found f.0 ((and-eq-true_iff _ _).0 f.2))
  where
    found : (c : ℕ) → (S.unique (record { table = D.table r; place = c }) ≡ true) ×
        (any r (has D (record { table = D.table r; place = c }) (D.cell r c)) ≡ true) → ⊥
    found c q =
        let k : Column = record { table = D.table r; place = c } in
        let g = any_found r (has D k (D.cell r c)) q.1 in
        let a = has-Has D k (D.cell r c) g.0 g.2 in
        let b : Has D k (D.cell r c) r = record { live = l; table = refl; value = equal-self (D.cell r c) (has-full a) } in
        let z = h k (D.cell r c) g.0 r q.0 a b in
        let m = g.1 in
        omega arith

-- ---- the lent rows

-- past the eighth cell a row is blank
pub cell-past : (cells : Cells) (tables : List ℕ) (r c : ℕ) → 8 ≤ c → (database_of cells tables).cell r c ≡ blank
unfolding database_of
cell-past cells tables r c h = cond-false (ltb c 8) _ _ (le-ltb c 8 h)

pub live_below : (cells : Cells) (tables : List ℕ) (r : ℕ) → (database_of cells tables).live r ≡ true → r < 512
unfolding database_of
live_below cells tables r e = (database_of cells tables).finite r e

module _ (d : Design) (cells : Cells) (tables : List ℕ) where
  -- the lent rows as a database
  abbrev rows : Database
  rows = database_of cells tables

  -- what a row that there is passes
  abbrev lawful_row : ℕ → Bool
  lawful_row r = row_fits (scheme_of d) rows r && not (repeats (scheme_of d) rows r)

  -- a cell is blank, in the database and in the buffer
  blank-says : (r c : ℕ) → c < 8 → is_blank (rows.cell r c) ≡ true → cell_at cells r c ≡ no_cell
  unfolding blank
  blank-says r c l e = ap cell_back (sym (cell-at cells tables r c l) ∙ is-blank (rows.cell r c) e)

  blank-if : (r c : ℕ) → c < 8 → cell_at cells r c ≡ no_cell → is_blank (rows.cell r c) ≡ true
  unfolding blank
  blank-if r c l e = ap is_blank (cell-at cells tables r c l ∙ ap cell_of e) ∙ blank-is

  blanks-are : (r : ℕ) → blank_row rows r ≡ true → (c : ℕ) → c < 8 → cell_at cells r c ≡ no_cell
  unfolding blank_row
  blanks-are r e c l = blank-says r c l (all-at 8 (λ b. is_blank (rows.cell r b)) e c l)

  blanks-if : (r : ℕ) → ((c : ℕ) → c < 8 → cell_at cells r c ≡ no_cell) → blank_row rows r ≡ true
  unfolding blank_row
  blanks-if r h = all_true 8 _ (λ c l. blank-if r c l (h c l))

  module _ (e : lawful_rows d cells tables ≡ true) where
    -- a row that there is
    row-says : (r : ℕ) → rows.live r ≡ true → (row_fits (scheme_of d) rows r ≡ true) × (repeats (scheme_of d) rows r ≡ false)
    unfolding lawful_rows
    row-says r l =
        let g = (and-eq-true_iff _ _).0 (where-used 512 rows.live lawful_row (blank_row rows) e r (live_below cells tables r l) l) in
        (g.0, not-true _ g.1)

    -- a number that has none
    rest-says : (r : ℕ) → r < 512 → rows.live r ≡ false → blank_row rows r ≡ true
    unfolding lawful_rows
    rest-says r l h = where-unused 512 rows.live lawful_row (blank_row rows) e r l h

    -- of two rows with one value in a unique column none comes before the other
    never-before : (k : Column) (v : Cell) (r s : ℕ) → (scheme_of d).unique k ≡ true → Has rows k v r → Has rows k v s → r < s → ⊥
    never-before k v r s u a b l =
        ⊎_elim (λ (q : ltb k.place 8 ≡ true). no-repeat (scheme_of d) rows k v r s (row-says s b.live).1 (ltb-true _ _ q) u l a b)
        (λ (q : ltb k.place 8 ≡ false).
        clash (ap is_blank (cell-past cells tables s k.place (ltb-false _ _ q)) ∙ blank-is) (equal-full _ v b.value))
        (dec (ltb k.place 8))

    pub unique-says : (k : Column) (v : Cell) (r s : ℕ) → (scheme_of d).unique k ≡ true → Has rows k v r → Has rows k v s → r ≡ s
    unique-says k v r s u a b =
        ⊎_elim (λ (q : ltb r s ≡ true). absurd (never-before k v r s u a b (ltb-true r s q)))
        (λ (q : ltb r s ≡ false). ⊎_elim (λ (p : ltb s r ≡ true). absurd (never-before k v s r u b a (ltb-true s r p)))
        (λ (p : ltb s r ≡ false). omega (arith, ltb-false r s q, ltb-false s r p)) (dec (ltb s r)))
        (dec (ltb r s))

    blanks-say : (r c : ℕ) → rows.live r ≡ true → (scheme_of d).columns (rows.table r) ≤ c → rows.cell r c ≡ blank
    blanks-say r c l h =
        ⊎_elim (λ (q : ltb c 8 ≡ true). is-blank (rows.cell r c) (past-says _ c _ ((fits-says (scheme_of d) rows r (row-says r l).0).1 c (ltb-true c 8 q)) h))
        (λ (q : ltb c 8 ≡ false). cell-past cells tables r c (ltb-false c 8 q))
        (dec (ltb c 8))

-- ---- lawful rows are those that stand and have no value twice in a unique column

module _ (d : Design) (cells : Cells) (tables : List ℕ) where
  pub lawful-stand : lawful_rows d cells tables ≡ true → rows_stand d cells tables ≡ true
  unfolding rows_stand
  lawful-stand e =
      all-where 512 (rows d cells tables).live _ (blank_row (rows d cells tables)) (λ r a b. (row-says d cells tables e r b).0) (rest-says d cells tables e)

  module _ (e : rows_stand d cells tables ≡ true) where
    pub stand-used : (r : ℕ) → r < 512 → (rows d cells tables).live r ≡ true → row_fits (scheme_of d) (rows d cells tables) r ≡ true
    unfolding rows_stand
    stand-used r l h = where-used 512 (rows d cells tables).live (row_fits (scheme_of d) (rows d cells tables)) (blank_row (rows d cells tables)) e r l h

    pub stand-unused : (r : ℕ) → r < 512 → (rows d cells tables).live r ≡ false → blank_row (rows d cells tables) r ≡ true
    unfolding rows_stand
    stand-unused r l h = where-unused 512 (rows d cells tables).live (row_fits (scheme_of d) (rows d cells tables)) (blank_row (rows d cells tables)) e r l h

    -- each row names a table
    pub stand-table : d.tables ≤ 8 → (r : ℕ) → (rows d cells tables).live r ≡ true → get_or tables r 0 < 8
    unfolding scheme_of database_of
    stand-table t r l = omega (arith, (fits-says (scheme_of d) (rows d cells tables) r (stand-used r (live_below cells tables r l) l)).0)

    pub stand-lawful : ((k : Column) (v : Cell) (r s : ℕ) → (scheme_of d).unique k ≡ true → Has (rows d cells tables) k v r →
        Has (rows d cells tables) k v s → r ≡ s) → lawful_rows d cells tables ≡ true
    unfolding lawful_rows
    stand-lawful h =
        all-where 512 (rows d cells tables).live (lawful_row d cells tables) (blank_row (rows d cells tables))
        (λ r a b. both (stand-used r a b) (ap not (repeats-none (scheme_of d) (rows d cells tables) r b h)))
        stand-unused

-- the lent numbers are u32 and the issues u8, as their types say
pub record Stored (cells : Cells) : Type 0 where
  pub number : (i : ℕ) → get_or cells.numbers i 0 < 2 ^ 32
  pub issue : (i : ℕ) → get_or cells.issues i 0 < 2 ^ 8

cells-fit : (d : Design) (cells : Cells) (tables : List ℕ) → lawful_rows d cells tables ≡ true → Stored cells → (r c : ℕ) → (rows d cells tables).live r ≡ true →
    Fits ((rows d cells tables).cell r c)
cells-fit d cells tables e u r c l =
    ⊎_elim (λ (q : ltb c 8 ≡ true). let k = ltb-true c 8 q in subst Fits (sym (cell-at cells tables r c k)) (inside k))
    (λ (q : ltb c 8 ≡ false). subst Fits (sym (cell-past cells tables r c (ltb-false c 8 q))) blank-fits)
    (dec (ltb c 8))
  where
    inside : c < 8 → Fits (cell_of (cell_at cells r c))
    inside k =
        record {
          number = u.number (8 * r + c);
          issue = u.issue (8 * r + c);
          full = full-says _ c _ (rw (cell-at cells tables r c k) at ((fits-says (scheme_of d) (rows d cells tables) r (row-says d cells tables e r l).0).1 c k));
        }

-- lawful rows are a lawful database
pub lawful-database : (d : Design) (cells : Cells) (tables : List ℕ) → lawful_rows d cells tables ≡ true → Stored cells →
    Lawful (scheme_of d) (database_of cells tables)
lawful-database d cells tables e u =
    record {
      cells = cells-fit d cells tables e u;
      tables = λ r l. (fits-says _ _ r (row-says d cells tables e r l).0).0;
      blanks = blanks-say d cells tables e;
      unique = unique-says d cells tables e;
    }

pub rows-say : (d : Design) (cells : Cells) (tables : List ℕ) → Stored cells → lawful_rows d cells tables ≡ true → LawfulRows d cells tables
rows-say d cells tables u e =
    record {
      database = lawful-database d cells tables e u;
      cell_rest = λ r c l b h. blanks-are d cells tables r (rest-says d cells tables e r l h) c b;
    }

pub rows-if : {d : Design} {cells : Cells} {tables : List ℕ} → LawfulRows d cells tables → lawful_rows d cells tables ≡ true
unfolding lawful_rows
rows-if {d} {cells} {tables} w =
    all-where 512 (rows d cells tables).live (lawful_row d cells tables) (blank_row (rows d cells tables)) (λ r a b. there r b)
    (λ r a b. blanks-if d cells tables r (λ c l. w.cell_rest r c a l b))
  where
    there : (r : ℕ) → (rows d cells tables).live r ≡ true →
        lawful_row d cells tables r ≡ true
    there r l =
        both
        (fits-if (scheme_of d) (rows d cells tables) r (w.database.tables r l)
        (λ c _. cell-if _ c _ (w.database.cells r c l) (λ h. ap is_blank (w.database.blanks r c l h) ∙ blank-is)))
        (ap not (repeats-none (scheme_of d) (rows d cells tables) r l w.database.unique))
