-- The state with which a run begins is sound: an accepted design with its rows is lawful, nothing is held, and no row is cached. Assumes nothing.
use Prim.Native.Nat.{ℕ, ◌+◌, ◌*◌, ◌^◌, ◌<◌}
use native.Mathlib.Omega.{arith}
use mathlib.Core.Path.{◌≡◌, refl, sym, ap, subst, ◌∙◌}
use mathlib.Core.Bool.{Bool, true, false}
use mathlib.Core.List.{List, [], ◌++◌}
use mathlib.Core.Logic.{⊎_elim}
use borrow.Author.Tests.{ltb-true, ltb-false}
use lib.Dec.{ltb, lit<}
use lib.ListN.{length, replicate, get_or, drop as past, length-append, get_or-append, get_or-eq_default}
use Rattle.finite.specs.Finite.{tab}
use Rattle.finite.proofs.Bools.{dec, cond-true, cond-false}
use Rattle.finite.proofs.Tables.{length-tab, tab-at}
use Rattle.model.specs.Scheme.{Scheme}
use Rattle.model.specs.Database.{Database}
use Rattle.model.specs.Ranges.{some_range}
use Rattle.model.specs.Holding.{desks, own_among, nothing_held, pairs_hold, all_ranges}
use Rattle.model.specs.Runs.{marks, empty_cache}
use Rattle.model.proofs.Loads.{one-smallest, none-smallest}
use Rattle.model.proofs.RunLaws.{held-smallest}
use Rattle.model.proofs.RangeLaws.{none}
use Rattle.model.proofs.RangesFit.{RangesFit, ListsFit}
use Rattle.model.proofs.HoldingLaws.{HoldingFits}
use Rattle.model.proofs.Fresh.{Fresh}
use Rattle.model.proofs.Marks.{marks-same}
use Rattle.state.specs.Cells.{Cells}
use Rattle.state.specs.declared.design.Design.{Design}
use Rattle.state.specs.declared.held.Held.{Held}
use Rattle.state.specs.Design.{empty_design}
use Rattle.state.specs.Held.{none_held}
use Rattle.state.specs.HeldWords.{words_held}
use Rattle.state.proofs.LentWords.{zero-none}
use Rattle.state.specs.Meaning.{scheme_of, database_of, values_of, list_of, list_back, lists_of, holding_of, held_of}
use Rattle.state.specs.Lawful.{lawful_design, lawful_rows, lawful_held}
use Rattle.state.specs.Lent.{State, lent, scheme, long_enough, sound}
use Rattle.state.specs.Changes.{Rows, rows_in, tables_of}
use Rattle.lawful.specs.LawfulState.{LawfulRows}
use Rattle.lawful.proofs.HeldLaws.{fit-held}
use Rattle.lawful.proofs.RowsLaws.{Stored, rows-say, rows-if}
use Rattle.lawful.proofs.SoundState.{Lengths, long-parts, from_parts, fresh-lawful}
use Rattle.format.specs.declared.verdict.DesignReading.{DesignReading}
use Rattle.format.specs.declared.verdict.Verdict.TheVariants.{Accepted}
use Rattle.format.specs.Reading.{Draft, DesignRead, read_design, read_into, verdict_of, cells_after, Leaves}
use Rattle.format.specs.Reading.DesignRead.{accepted, refused_at}
use Rattle.format.specs.Writing.{Dense}
use Rattle.format.proofs.Reached.{Sizes}
use Rattle.format.proofs.Small.{Small}
use Rattle.format.proofs.Reached.{accepted-lawful}
use Rattle.script.specs.JustRead.{Buffers, reading_of, just_read, longer, past_cells}
use Rattle.model.proofs.SameRows.{SameRows, lawful-same}
use Rattle.script.proofs.LongerRows.{RowsSized, extended, longer-cell, longer-same}

-- the record that holds nothing
pub none-held : none_held ≡ held_of nothing_held
unfolding none_held held_of list_back tab
none-held = refl

pub none-holding : holding_of none_held ≡ nothing_held
unfolding values_of lists_of list_of none_held tab
none-holding = refl

-- no range, for each desk
none-lists : (S : Scheme) → ListsFit S nothing_held.ranges
none-lists S =
    record {
      count = length-tab desks (λ _. []);
      lists = λ d l. subst (RangesFit S) (sym (tab-at [] desks (λ _. []) d l)) (record { few = omega arith; each = none; rising = none });
    }

pub none-fit : (S : Scheme) → HoldingFits S nothing_held
unfolding own_among
none-fit S =
    record {
      named = omega arith;
      values = record {
        desk = λ i l. absurd (omega arith);
        few = λ d l. omega arith;
        filling = λ i l. absurd (omega arith);
        value = λ i l. absurd (omega arith);
        once = λ i j l m. absurd (omega arith);
      };
      ranges = none-lists S;
    }

pub none-lawful : (d : Design) → lawful_held d none_held ≡ true
none-lawful d = subst (λ (h : Held). lawful_held d h ≡ true) (sym none-held) (fit-held d nothing_held (none-fit (scheme_of d)))

-- no row is in the smallest set for nothing held
pub empty-fresh : (S : Scheme) (D : Database) → Fresh S D (empty_cache D)
unfolding empty_cache pairs_hold all_ranges some_range tab
empty-fresh S D = record { reloaded = marks-same D _ _ (λ r l. one-smallest (none-smallest S D) (held-smallest S D nothing_held) r) }

module _ (cells : Cells) (tables : List ℕ) where
  -- nothing held and marks that are all 0 are the empty cache
  none-cache : record { held = holding_of none_held; marks = tab 512 (λ _. 0) } ≡ empty_cache (database_of cells tables)
  unfolding empty_cache marks database_of
  none-cache = λ i. record { held = none-holding i; marks = tab 512 (λ _. 0) }

  pub read-fresh : (S : Scheme) → Fresh S (database_of cells tables) (record { held = holding_of none_held; marks = tab 512 (λ _. 0) })
  read-fresh S = subst (Fresh S (database_of cells tables)) (sym none-cache) (empty-fresh S (database_of cells tables))

-- ---- an accepted design

-- what lies past the cells read does not matter
first_below : (m : ℕ) → 0 < m → (xs ys : List ℕ) → ((i : ℕ) → get_or (xs ++ ys) i 0 < m) → (i : ℕ) → get_or xs i 0 < m
first_below m z xs ys u i =
    ⊎_elim (λ (q : ltb i (length xs) ≡ true). subst (λ (n : ℕ). n < m) (get_or-append xs ys 0 i (ltb-true i (length xs) q)) (u i))
    (λ (q : ltb i (length xs) ≡ false). subst (λ (n : ℕ). n < m) (sym (get_or-eq_default xs 0 (ltb-false i (length xs) q))) z)
    (dec (ltb i (length xs)))

pub stored-first : (cells more : Cells) → Stored (longer cells more) → Stored cells
stored-first cells more u =
    record {
      number = first_below (2 ^ 32) (lit< tt) cells.numbers more.numbers u.number;
      issue = first_below (2 ^ 8) (lit< tt) cells.issues more.issues u.issue;
    }

-- rows that are lawful stay so in longer buffers
longer-lawful : (d : Design) (R O : Rows) → RowsSized R → Stored R.cells → lawful_rows d R.cells R.tables ≡ true →
    lawful_rows d (extended R O).cells (extended R O).tables ≡ true
longer-lawful d R O z u e =
    rows-if
    (record {
      database = lawful-same same w.database;
      cell_rest = λ r k l b h. sym (longer-cell R O z (8 * r + k) (omega arith)) ∙ w.cell_rest r k l b (same.live r ∙ h);
    })
  where
    w : LawfulRows d R.cells R.tables
    w = rows-say d R.cells R.tables u e

    same : SameRows (tables_of R) (tables_of (extended R O))
    same = longer-same R O z

-- a design is accepted only where the buffers are long enough
pub into-parts : (s : List ℕ) (b : Buffers) (p : Draft) (i : ℕ) → reading_of s b ≡ accepted p i →
    Lengths (lent empty_design b.cells b.tables b.marks none_held) × (read_design s ≡ accepted p i)
unfolding read_into
into-parts s b p i e =
    ⊎_elim (λ (q : long ≡ true). (long-parts _ q, sym (cond-true long _ _ q) ∙ e))
    (λ (q : long ≡ false). absurd (let z : ◌≡◌ {A = ℕ} 0 1 = cc (cond-false long (read_design s) (refused_at 7 0) q) in omega arith))
    (dec long)
  where
    long : Bool
    long = long_enough (lent empty_design b.cells b.tables b.marks none_held)

-- the rows that a draft has
pub draft-sized : (p : Draft) → Sizes p → RowsSized (rows_in p.cells p.tables)
draft-sized p z = record { numbers = z.cells; issues = z.issues; tables = z.tables }

module _ (s : List ℕ) (small : Small s) (b : Buffers) (p : Draft) (i : ℕ) (e : reading_of s b ≡ accepted p i)
    (u : Stored (cells_after (accepted p i) b.cells)) where
  pub read-sound : sound (just_read (accepted p i) b) ≡ true
  read-sound =
      from_parts start
      (record {
        long = begun-long;
        design = w.0;
        rows =
            longer-lawful p.design (rows_in p.cells p.tables) (rows_in (past_cells 4096 b.cells) (past 512 b.tables)) (draft-sized p z)
            (stored-first p.cells (past_cells 4096 b.cells) u) w.1;
        held = none-lawful p.design;
        marks =
            fresh-lawful p.design start.cells start.tables none_held (tab 512 (λ _. 0)) (past 512 b.marks)
            (read-fresh start.cells start.tables (scheme start));
      })
    where
      w : (lawful_design p.design ≡ true) × (lawful_rows p.design p.cells p.tables ≡ true) × Sizes p × Dense p.rows p.cells p.tables
      w = accepted-lawful s small p i (into-parts s b p i e).1

      z : Sizes p
      z = w.2

      start : State
      start = just_read (accepted p i) b

      begun-long : Lengths start
      begun-long =
          record {
            cells = omega (arith, length-append p.cells.numbers (past 4096 b.cells.numbers), z.cells);
            issues = omega (arith, length-append p.cells.issues (past 4096 b.cells.issues), z.issues);
            tables = omega (arith, length-append p.tables (past 512 b.tables), z.tables);
            marks = omega (arith, length-append (tab 512 (λ _. 0)) (past 512 b.marks), length-tab {A = ℕ} 512 (λ _. 0));
          }

-- ---- what reading leaves, with nothing held

module _ (script : List ℕ) (b : Buffers) (r : DesignReading) (cs : Cells) (ts ms : List ℕ)
    (read : Leaves (reading_of script b) r b.cells cs b.tables ts b.marks ms) where
  module _ (small : Small script) (stored : Stored cs) (j : ℕ) (v : r.verdict ≡ Accepted j) where
    -- the state behind the reading is the one just read
    pub start_is : (p : Draft) (i : ℕ) → reading_of script b ≡ accepted p i → lent r.design cs ts ms (words_held (replicate 358 0)) ≡ just_read (accepted p i) b
    start_is p i e = (λ x. lent (read.design x) (read.cells x) (read.tables x) (read.marks x) (zero-none x)) ∙ ap (λ (R : DesignRead). just_read R b) e

    pub stored_at : (p : Draft) (i : ℕ) → reading_of script b ≡ accepted p i → Stored (cells_after (accepted p i) b.cells)
    stored_at p i e = subst Stored (read.cells ∙ ap (λ (R : DesignRead). cells_after R b.cells) e) stored

    -- and it is sound
    pub start-sound : sound (lent r.design cs ts ms (words_held (replicate 358 0))) ≡ true
    start-sound = go (reading_of script b) refl
      where
        go : (R : DesignRead) → reading_of script b ≡ R → sound (lent r.design cs ts ms (words_held (replicate 358 0))) ≡ true
        go (accepted p i) e = ap sound (start_is p i e) ∙ read-sound script small b p i e (stored_at p i e)
        go (refused_at n i) e = absurd (let z : ◌≡◌ {A = ℕ} 0 1 = cc (read.verdict ∙ ap verdict_of e) in omega arith)
