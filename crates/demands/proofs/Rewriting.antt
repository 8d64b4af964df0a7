-- Writing a lent design out and reading it back, and reading a script and writing its design out, with whatever lies past the sizes of the buffers:
-- what the contracts of `writing::write` and `format::read_design` say together. Assumes nothing.
use Prim.Native.Nat.{ℕ, zero, suc, ◌+◌, ◌*◌, ◌≤◌, ◌<◌}
use native.Mathlib.Omega.{arith}
use mathlib.Core.Path.{◌≡◌, refl, sym, ap, subst, ◌∙◌}
use mathlib.Core.Bool.{Bool, true, false, not, cond}
use mathlib.Core.List.{List, [], ◌++◌, append-nil}
use mathlib.Core.Logic.{⊎_elim}
use borrow.Author.Tests.{le-leb, lt-leb, leb-true, leb-false}
use lib.Dec.{leb, ltb}
use lib.ListN.{length, take, drop as past, take-append-drop}
use lib.Seq.{length-take-le, take-append_seam, sets, sets-eq}
use Rattle.finite.specs.Finite.{collect}
use Rattle.finite.proofs.Bools.{dec, cond-true}
use Rattle.finite.proofs.Collecting.{collect-same}
use Rattle.finite.proofs.Tables.{length-tab}
use Rattle.state.specs.Cells.{cells_in}
use Rattle.state.specs.declared.cell.Cell.{Cell}
use Rattle.state.specs.declared.design.Design.{Design}
use Rattle.state.specs.Design.{empty_design}
use Rattle.state.specs.Held.{no_cell, none_held}
use Rattle.state.specs.Meaning.{cell_at}
use Rattle.state.specs.Lawful.{lawful_rows}
use Rattle.state.specs.Lent.{State, lent, database, long_enough, sound}
use Rattle.state.specs.Changes.{Rows, rows_in, rows, tables_of}
use Rattle.state.proofs.Arrays.{Sized}
use Rattle.lawful.specs.LawfulState.{LawfulRows}
use Rattle.lawful.proofs.RowsLaws.{Stored, rows-say, rows-if}
use Rattle.lawful.proofs.SoundState.{parts}
use Rattle.command.specs.declared.command.Command.{Command}
use Rattle.command.specs.declared.command.Command.TheVariants.{Unknown, Short}
use Rattle.command.specs.Bytes.{byte_at}
use Rattle.command.specs.Commands.{command_at, width_of}
use Rattle.format.specs.Reading.{Draft, draft, empty_draft, Advanced, on, complete, refused, advanced, DesignRead, read_on, read_from, read_design, read_into, cells_after, most_bytes}
use Rattle.format.specs.Reading.DesignRead.{accepted, refused_at}
use Rattle.format.specs.Writing.{row_bytes, design_bytes, Dense, compact}
use Rattle.format.proofs.RowText.{text_same, row-text}
use Rattle.writing.proofs.ReadBack.{Numbers}
use Rattle.format.proofs.ReadingLaws.{Whole}
use Rattle.format.proofs.Small.{Small}
use Rattle.writing.proofs.Compact.{compact-written}
use Rattle.writing.proofs.RoundTrip.{design-short, read-written-alone, read_left}
use Rattle.format.proofs.Reached.{written_read, accepted-lawful}
use Rattle.writing.specs.declared.outcome.Written.{Written}
use Rattle.writing.specs.declared.outcome.Written.TheVariants.{Bytes, Refused}
use Rattle.script.specs.JustRead.{Buffers, reading_of, just_read, first_cells, past_cells}
use Rattle.writing.specs.Writing.{bytes_of, written_at, stored_with, Writes}
use Rattle.model.proofs.SameRows.{SameRows, same_back, lawful-same}
use Rattle.script.proofs.LongerRows.{RowsSized, extended, longer-cell, longer-table, longer-same}
use Rattle.script.proofs.Places.{command-kinds}
use Rattle.guard.proofs.CausesFirst.{uncaused}
use Rattle.run.proofs.Tracking.{beyond}
use Rattle.script.proofs.JustRead.{stored-first, into-parts, draft-sized}
use Rattle.run.proofs.Begun.{begun}

-- ---- what is written depends on 4,096 cells and 512 row tables

module _ (R O : Rows) (z : RowsSized R) where
  row-front : (r : ℕ) → r < 512 → row_bytes (extended R O).cells (extended R O).tables r ≡ row_bytes R.cells R.tables r
  row-front r l =
      row-text (extended R O).cells (extended R O).tables r ∙
      text_same _ _ _ _ _ _ (sym (longer-table R O z r l)) (λ c m. ap (λ (a : Cell). a.number) (sym (longer-cell R O z (8 * r + c) (omega arith))))
      (λ c m. ap (λ (a : Cell). a.issue) (sym (longer-cell R O z (8 * r + c) (omega arith)))) ∙
      sym (row-text R.cells R.tables r)

  rows-front : collect 512 (tables_of (extended R O)).live (row_bytes (extended R O).cells (extended R O).tables)
      ≡ collect 512 (tables_of R).live (row_bytes R.cells R.tables)
  rows-front = collect-same 512 _ _ _ _ (λ r l. sym ((longer-same R O z).live r)) (λ r l t. row-front r l)

  pub bytes-front : (d : Design) → design_bytes d (extended R O).cells (extended R O).tables ≡ design_bytes d R.cells R.tables
  unfolding design_bytes
  bytes-front d = rw rows-front

-- ---- the rows of a sound state, in the first 4,096 cells and 512 row tables

module _ (s : State) (e : sound s ≡ true) (n : Numbers s.design s.cells) where
  abbrev pub front : Rows
  front = rows_in (first_cells 4096 s.cells) (take 512 s.tables)

  abbrev pub rest : Rows
  rest = rows_in (past_cells 4096 s.cells) (past 512 s.tables)

  pub front-sized : RowsSized front
  front-sized =
      record {
        numbers = length-take-le 4096 s.cells.numbers (parts s e).long.cells;
        issues = length-take-le 4096 s.cells.issues (parts s e).long.issues;
        tables = length-take-le 512 s.tables (parts s e).long.tables;
      }

  pub whole : extended front rest ≡ rows s
  whole =
      λ i. rows_in (cells_in (take-append-drop 4096 s.cells.numbers i) (take-append-drop 4096 s.cells.issues i)) (take-append-drop 512 s.tables i)

  pub same : SameRows (tables_of front) (database s)
  same = subst (λ (R : Rows). SameRows (tables_of front) (tables_of R)) whole (longer-same front rest front-sized)

  stored : Stored s.cells
  stored = record { number = n.cell; issue = n.issue }

  pub front-stored : Stored front.cells
  front-stored = stored-first front.cells rest.cells (subst (λ (R : Rows). Stored R.cells) (sym whole) stored)

  pub front-lawful : lawful_rows s.design front.cells front.tables ≡ true
  front-lawful =
      rows-if
      (record {
        database = lawful-same (same_back same) w.database;
        cell_rest = λ r c l m h.
            longer-cell front rest front-sized (8 * r + c) (omega arith) ∙
            subst (λ (R : Rows). cell_at R.cells r c ≡ no_cell) (sym whole) (w.cell_rest r c l m (sym (same.live r) ∙ h));
      })
    where
      w : LawfulRows s.design s.cells s.tables
      w = rows-say s.design s.cells s.tables stored (parts s e).rows

-- ---- what `writing::write` answers on a sound state, and leaves in its buffer

module _ (s : State) (e : sound s ≡ true) (before : List ℕ) (w : Written) (after : List ℕ) (x : Writes s w before after) where
  abbrev room-is : Bool
  room-is = leb (length (bytes_of s)) (length before)

  answer-is : written_at s (length before) ≡ cond (not room-is) (Refused 7) (Bytes (length (bytes_of s)))
  unfolding written_at
  answer-is = uncaused s Refused _ e

  -- with room: all bytes, and neither 7 nor 12
  written-room : length (bytes_of s) ≤ length before → (w ≡ Bytes (length (bytes_of s))) × (after ≡ bytes_of s ++ past (length (bytes_of s)) before)
  unfolding stored_with
  written-room l =
      let z : 0 + length (bytes_of s) ≡ length (bytes_of s) = omega arith in
      let a : written_at s (length before) ≡ Bytes (length (bytes_of s)) = answer-is ∙ ap (λ (b : Bool). cond (not b) (Refused 7) (Bytes (length (bytes_of s)))) (le-leb _ _ l) in (
        x.answer ∙ a,
        x.buffer ∙ ap (λ (v : Written). sets before 0 (stored_with v (bytes_of s))) a ∙ sets-eq (bytes_of s) before 0 (omega arith) ∙ ap (λ (n : ℕ). bytes_of s ++ past n before) z,
      )

  -- without: 7, and nothing is written
  written-cramped : length before < length (bytes_of s) → (w ≡ Refused 7) × (after ≡ before)
  unfolding stored_with
  written-cramped l =
      let a : written_at s (length before) ≡ Refused 7 = answer-is ∙ ap (λ (b : Bool). cond (not b) (Refused 7) (Bytes (length (bytes_of s)))) (lt-leb _ _ l) in
      (x.answer ∙ a, x.buffer ∙ ap (λ (v : Written). sets before 0 (stored_with v (bytes_of s))) a)

  -- so an answer of k bytes has them first in the buffer
  written-bytes : (k : ℕ) → w ≡ Bytes k → (k ≡ length (bytes_of s)) × (take k after ≡ bytes_of s)
  written-bytes k h =
      ⊎_elim (λ (q : room-is ≡ true).
      let y = written-room (leb-true _ _ q) in
      let z : Bytes k ≡ Bytes (length (bytes_of s)) = sym h ∙ y.0 in
      let n : k ≡ length (bytes_of s) = cc in
      (n, (λ j. take (n j) (y.1 j)) ∙ take-append_seam (bytes_of s) (past (length (bytes_of s)) before)))
      (λ (q : room-is ≡ false). absurd (let y : Bytes k ≡ Refused 7 = sym h ∙ (written-cramped (leb-false _ _ q)).0 in let z : ◌≡◌ {A = ℕ} 0 1 = cc in omega arith))
      (dec room-is)

-- ---- written, then read

-- a sound state, whose arrays and numbers are what their types say, and buffers that are long enough
module _ (s : State) (e : sound s ≡ true) (z : Sized s.design) (n : Numbers s.design s.cells) (b : Buffers)
    (long : long_enough (lent empty_design b.cells b.tables b.marks none_held) ≡ true) where
  -- the design, with the rows left numbered from 0 on
  abbrev pub left : Draft
  left = compact s.design s.cells s.tables

  -- THEOREM: a design written out reads back as the same, with the rows left
  pub write-reads : reading_of (bytes_of s) b ≡ accepted left (length (bytes_of s))
  unfolding read_into
  write-reads =
      let a = append-nil (bytes_of s) in
      cond-true _ _ _ long ∙ ap read_design (sym a) ∙
      read_left s.design s.cells s.tables (parts s e).design (parts s e).rows z n []
      (omega (arith, ap length a, design-short s.design s.cells s.tables (parts s e).design))

  left-sized : RowsSized (rows_in left.cells left.tables)
  unfolding compact
  left-sized = record { numbers = length-tab 4096 _; issues = length-tab 4096 _; tables = length-tab 512 _ }

  left-design : left.design ≡ s.design
  unfolding compact
  left-design = refl

  -- THEOREM: which is written as the same bytes
  pub write_again : bytes_of (just_read (accepted left (length (bytes_of s))) b) ≡ bytes_of s
  write_again =
      bytes-front (rows_in left.cells left.tables) (beyond b) left-sized left.design ∙
      ap (λ (d : Design). design_bytes d left.cells left.tables) left-design ∙
      compact-written s.design s.cells s.tables (parts s e).design (parts s e).rows

  -- ---- rows without gaps keep their numbers

  -- THEOREM: rows without gaps read back under the same numbers
  pub write-reads-dense : (k : ℕ) → Dense k s.cells s.tables →
      reading_of (bytes_of s) b ≡ accepted (draft s.design k (front s e n).cells (front s e n).tables) (length (bytes_of s))
  unfolding read_into
  write-reads-dense k dense =
      let F = front s e n in
      let f : bytes_of s ≡ design_bytes s.design F.cells F.tables =
      ap (λ (R : Rows). design_bytes s.design R.cells R.tables) (sym (whole s e n)) ∙ bytes-front F (rest s e n) (front-sized s e n) s.design in
      cond-true _ _ _ long ∙ ap read_design f ∙
      read-written-alone s.design k F.cells F.tables (parts s e).design (front-lawful s e n)
      (record { most = dense.most; live = λ r l. (same s e n).live r ∙ dense.live r l })
      (record { table = z.table; constraint = z.constraint; filling = z.filling; cells = (front-sized s e n).numbers; issues = (front-sized s e n).issues; tables = (front-sized s e n).tables })
      (record { low = n.low; high = n.high; cell = (front-stored s e n).number; issue = (front-stored s e n).issue }) ∙
      ap (λ (xs : List ℕ). accepted (draft s.design k F.cells F.tables) (length xs)) (sym f)

  -- ---- through `writing::write`

  -- THEOREM. A design written out reads back as the same: where `writing::write` answers with k bytes, the first k bytes of its buffer are read as the design with the rows
  -- left
  pub write-then-read : (w : Written) (before after : List ℕ) → Writes s w before after → (k : ℕ) → w ≡ Bytes k → reading_of (take k after) b ≡ accepted left k
  write-then-read w before after x k h =
      let y = written-bytes s e before w after x k h in
      ap (λ (l : List ℕ). reading_of l b) y.1 ∙ write-reads ∙ ap (accepted left) (sym y.0)

-- ---- read, then written

-- the place after END lies inside the script
module _ (script : List ℕ) where
  then-within : (go : Draft → ℕ → DesignRead) (p : Draft) (i w : ℕ) (t : Advanced) (q : Draft) (j : ℕ) → ((x : Draft) → go x (i + w) ≡ accepted q j → j ≤ length script) →
      i + w ≤ length script → read_on go p i w t ≡ accepted q j → j ≤ length script
  then-within go p i w (on x) q j h l e = h x e
  then-within go p i w complete q j h l e = let z : i + w ≡ j = cc in omega (arith, z, l)
  then-within go p i w (refused c) q j h l e = absurd (let z : ◌≡◌ {A = ℕ} 0 1 = cc in omega arith)

  read-within : (n : ℕ) (p : Draft) (i : ℕ) (q : Draft) (j : ℕ) → read_from n script p i ≡ accepted q j → j ≤ length script
  unfolding read_from advanced
  read-within zero p i q j e = absurd (let z : ◌≡◌ {A = ℕ} 0 1 = cc in omega arith)
  read-within (suc n) p i q j e =
      let c = command_at script i in
      let read : Command → DesignRead = λ (d : Command). read_on (read_from n script) p i (width_of (byte_at script i)) (advanced p script i d) in
      ⊎_elim (λ (x : c ≡ Short). absurd (let y : read Short ≡ accepted q j = ap read (sym x) ∙ e in let z : ◌≡◌ {A = ℕ} 0 1 = cc in omega arith))
      (⊎_elim (λ (x : c ≡ Unknown). absurd (let y : read Unknown ≡ accepted q j = ap read (sym x) ∙ e in let z : ◌≡◌ {A = ℕ} 0 1 = cc in omega arith))
      (λ (w : Whole script i). then-within (read_from n script) p i (width_of (byte_at script i)) (advanced p script i c) q j
      (λ y f. read-within n y (i + width_of (byte_at script i)) q j f) w.fits e))
      (command-kinds script i)

  accepted-within : (p : Draft) (i : ℕ) → read_design script ≡ accepted p i → i ≤ length script
  unfolding read_design
  accepted-within p i e = go (ltb most_bytes (length script)) e
    where
      go : (b : Bool) → cond b (refused_at 4 0) (read_from (suc (length script)) script empty_draft 0) ≡ accepted p i → i ≤ length script
      go true h = absurd (let z : ◌≡◌ {A = ℕ} 0 1 = cc in omega arith)
      go false h = read-within (suc (length script)) empty_draft 0 p i h

module _ (script : List ℕ) (small : Small script) (b : Buffers) (p : Draft) (i : ℕ) (e : reading_of script b ≡ accepted p i) where
  -- THEOREM: an accepted script is written back byte for byte, up to the END of its design, from whatever buffers it was read into
  pub read-writes : bytes_of (just_read (accepted p i) b) ≡ take i script
  read-writes =
      let r = (into-parts script b p i e).1 in
      bytes-front (rows_in p.cells p.tables) (beyond b) (draft-sized p (accepted-lawful script small p i r).2) p.design ∙ written_read script small p i r

  -- THEOREM: by `writing::write`: on the state just read, with room for i bytes, it answers with i bytes, and neither 7 nor 12, and they are the script's first i; what lies
  -- past them in the buffer is untouched. With less room it refuses with 7. The cells are u32 numbers with u8 issues, as their types say
  module _ (stored : Stored (cells_after (accepted p i) b.cells)) (w : Written) (before after : List ℕ) (x : Writes (just_read (accepted p i) b) w before after) where
    just-sound : sound (just_read (accepted p i) b) ≡ true
    just-sound = (begun script small b p i e stored).sound

    bytes-long : length (bytes_of (just_read (accepted p i) b)) ≡ i
    bytes-long = ap length read-writes ∙ length-take-le i script (accepted-within script p i (into-parts script b p i e).1)

    pub read-then-write : i ≤ length before → (w ≡ Bytes i) × (after ≡ take i script ++ past i before)
    read-then-write l =
        let s = just_read (accepted p i) b in
        let y = written-room s just-sound before w after x (omega (arith, bytes-long, l)) in
        (y.0 ∙ ap Bytes bytes-long, y.1 ∙ (λ j. read-writes j ++ past (bytes-long j) before))

    pub read-then-cramped : length before < i → (w ≡ Refused 7) × (after ≡ before)
    read-then-cramped l = written-cramped (just_read (accepted p i) b) just-sound before w after x (omega (arith, bytes-long, l))
