-- Each command as it is stored, and all of them one behind the other. Assumes nothing.
use Prim.Native.Nat.{ℕ, zero, suc, ◌+◌, ◌*◌, ◌≤◌, ◌<◌}
use native.Mathlib.Numerals.{add-one, add-two}
use native.Mathlib.Omega.{arith}
use mathlib.Core.Path.{◌≡◌, refl, sym, ap, subst, ◌∙◌}
use mathlib.Core.Logic.{⊎_elim}
use mathlib.Core.Bool.{true, false}
use mathlib.Core.List.{List, [], ◌∷◌, ◌++◌, append_assoc}
use borrow.Author.Tests.{ne_eqb}
use borrow.Rule.Slice.PartMut.{put_mid}
use lib.ListN.{length, get_or, set, length-append, take, drop}
use lib.Seq.{sets, sets-eq}
use Rattle.std.specs.List.{between}
use Rattle.std.proofs.lemmas.List.{drop-drop}
use Rattle.std.proofs.lemmas.List.Edits.{length-between, get_or-between}
use Rattle.finite.specs.Finite.{collect, tab}
use Rattle.finite.proofs.Tables.{tab-of}
use Rattle.finite.proofs.Search.{below_suc}
use Rattle.finite.proofs.Bools.{cond-true, cond-false}
use Rattle.finite.proofs.Collecting.{collect-blocks}
use Rattle.finite.specs.Writing.{Wrote}
use Rattle.finite.proofs.Writing.{wrote_none, wrote_as, wrote-long}
use Rattle.finite.proofs.Stores.{sets_then, stored-three, stored-five}
use Rattle.state.specs.Cells.{Cells}
use Rattle.state.specs.declared.design.Table.{Table}
use Rattle.state.specs.declared.design.Constraint.{Constraint}
use Rattle.state.specs.declared.design.Filling.{Filling}
use Rattle.state.specs.declared.design.Design.{Design}
use Rattle.state.specs.Design.{table_at, constraint_at, filling_at}
use Rattle.state.specs.Meaning.{database_of}
use Rattle.command.specs.Bytes.{u32_bytes}
use Rattle.format.specs.Kinds.{count_of}
use Rattle.format.specs.Writing.{table_bytes, constraint_bytes, filling_bytes, cells_bytes, issues_bytes, is_issued, row_bytes, design_bytes, row_at, item_bytes, kind_bytes}
use Rattle.format.proofs.RowText.{row_width}
use Rattle.format.proofs.Lengths.{length-u32, length-filling, length-cells, length-row}

-- ---- a part that is copied into

-- k bytes from place i on, which are those of ys
pub part-stored : (l xs ys : List ℕ) (i k : ℕ) → xs ≡ ys → length ys ≡ k → i + k ≤ length l → put_mid i k l xs ≡ sets l i ys
part-stored l xs ys i k e z h =
    ap (put_mid i k l) e ∙ ap (λ (zs : List ℕ). take i l ++ (ys ++ zs)) (drop-drop k i l ∙ ap (λ (n : ℕ). drop (i + n) l) (sym z)) ∙
    sym (append_assoc (take i l) ys (drop (i + length ys) l)) ∙ sym (sets-eq ys l i (omega arith))

-- the eight issues of a row, copied
pub issues-copied : (issues xs : List ℕ) (r : ℕ) → xs ≡ between (8 * r) (8 * r + 8) issues → 8 * r + 8 ≤ length issues →
    xs ≡ tab 8 (λ c. get_or issues (8 * r + c) 0)
issues-copied issues xs r e l =
    e ∙ tab-of 0 8 (λ c. get_or issues (8 * r + c) 0) (between (8 * r) (8 * r + 8) issues) (length-between issues (8 * r) (8 * r + 8) l ∙ omega arith)
    (λ c h. get_or-between issues (8 * r) (8 * r + 8) c 0 (omega arith))

-- ---- each command, as it is stored

pub wrote-table : (l : List ℕ) (i : ℕ) (t : Table) → Wrote l (set (set (set l i 1) (i + 1) t.columns) (i + 2) t.unique) i (i + 3) (table_bytes t)
unfolding table_bytes
wrote-table l i t = record { next = refl; text = stored-three l i 1 t.columns t.unique }

pub wrote-constraint : (l : List ℕ) (i : ℕ) (c : Constraint)
    → Wrote l (set (set (set (set (set l i 2) (i + 1) c.source.table) (i + 2) c.source.place) (i + 3) c.target.table) (i + 4) c.target.place) i (i + 5) (constraint_bytes c)
unfolding constraint_bytes
wrote-constraint l i c = record { next = refl; text = stored-five l i 2 c.source.table c.source.place c.target.table c.target.place }

pub wrote-filling : (l xs ys : List ℕ) (i : ℕ) (f : Filling)
    → xs ≡ sets (set (set (set l i 3) (i + 1) f.column.table) (i + 2) f.column.place) (i + 3) (u32_bytes f.low)
    → ys ≡ sets xs (i + 7) (u32_bytes f.high) → Wrote l ys i (i + 11) (filling_bytes f)
unfolding filling_bytes
wrote-filling l xs ys i f p q =
    let head : List ℕ = 3 ∷ f.column.table ∷ f.column.place ∷ [] in
    let e : xs ≡ sets (sets l i head) (i + 3) (u32_bytes f.low) = p ∙ ap (λ (m : List ℕ). sets m (i + 3) (u32_bytes f.low)) (stored-three l i 3 f.column.table f.column.place) in
    let g : xs ≡ sets l i (head ++ u32_bytes f.low) = e ∙ sets_then head (u32_bytes f.low) l i (i + 3) refl in
    record {
      next = ap (λ (n : ℕ). i + n) (sym (length-filling f));
      text =
          q ∙ ap (λ (m : List ℕ). sets m (i + 7) (u32_bytes f.high)) g ∙
          sets_then (head ++ u32_bytes f.low) (u32_bytes f.high) l i (i + 7) (let h = length-u32 f.low in omega arith);
    }

-- room for a row's command
module _ (cells : Cells) (tables : List ℕ) (r j n : ℕ) (h : j + length (row_bytes cells tables r) ≤ n) where
  pub room-plain : is_issued cells r ≡ false → j + 34 ≤ n
  room-plain e = let k = length-row cells tables r ∙ ap row_width e in omega arith

  pub room-issued : is_issued cells r ≡ true → j + 42 ≤ n
  room-issued e = let k = length-row cells tables r ∙ ap row_width e in omega arith

-- the front of a row's command: its byte, its table, its numbers
pub stored-front : (l xs : List ℕ) (i b t : ℕ) (cells : Cells) (r : ℕ) → xs ≡ sets (set (set l i b) (i + 1) t) (i + 2) (cells_bytes cells r)
    → xs ≡ sets l i (b ∷ t ∷ cells_bytes cells r)
stored-front l xs i b t cells r p = p ∙ rw (add-one i, add-two i)

module _ (l : List ℕ) (cells : Cells) (tables : List ℕ) (i r : ℕ) where
  pub wrote-plain : (xs : List ℕ) → is_issued cells r ≡ false → xs ≡ sets l i (4 ∷ get_or tables r 0 ∷ cells_bytes cells r) → Wrote l xs i (i + 34) (row_bytes cells tables r)
  unfolding row_bytes
  wrote-plain xs e p =
      let k = length-row cells tables r ∙ ap row_width e in
      record { next = omega arith; text = p ∙ ap (sets l i) (sym (cond-false (is_issued cells r) _ _ e)) }

  pub wrote-issued : (xs ys : List ℕ) → is_issued cells r ≡ true → xs ≡ sets l i (7 ∷ get_or tables r 0 ∷ cells_bytes cells r) → ys ≡ sets xs (i + 34) (issues_bytes cells r)
      → Wrote l ys i (i + 42) (row_bytes cells tables r)
  unfolding row_bytes
  wrote-issued xs ys e p q =
      let head : List ℕ = 7 ∷ get_or tables r 0 ∷ cells_bytes cells r in
      let k = length-row cells tables r ∙ ap row_width e in
      record {
        next = omega arith;
        text =
            q ∙ ap (λ (m : List ℕ). sets m (i + 34) (issues_bytes cells r)) p ∙
            sets_then head (issues_bytes cells r) l i (i + 34) (let h = length-cells cells r in omega arith) ∙
            ap (sets l i) (sym (cond-true (is_issued cells r) _ _ e));
      }

-- the row at number r, if there is one
pub wrote-absent : (o : List ℕ) (cells : Cells) (tables : List ℕ) (i r : ℕ) → (database_of cells tables).live r ≡ false → Wrote o o i i (row_at cells tables r)
wrote-absent o cells tables i r e = subst (Wrote o o i i) (sym (cond-false ((database_of cells tables).live r) (row_bytes cells tables r) [] e)) (wrote_none o i)

pub row-there : (cells : Cells) (tables : List ℕ) (r : ℕ) → (database_of cells tables).live r ≡ true → row_bytes cells tables r ≡ row_at cells tables r
row-there cells tables r e = sym (cond-true ((database_of cells tables).live r) (row_bytes cells tables r) [] e)

-- ---- a command of kind b

module _ (d : Design) (cells : Cells) (tables : List ℕ) (b i : ℕ) where
  pub table_is : b ≡ 1 → table_bytes (table_at d i) ≡ item_bytes d cells tables b i
  unfolding item_bytes
  table_is e = ap (λ (k : ℕ). item_bytes d cells tables k i) (sym e)

  pub constraint-is : b ≡ 2 → constraint_bytes (constraint_at d i) ≡ item_bytes d cells tables b i
  unfolding item_bytes
  constraint-is e = ap (λ (k : ℕ). item_bytes d cells tables k i) (sym e)

  pub filling-is : b ≡ 3 → filling_bytes (filling_at d i) ≡ item_bytes d cells tables b i
  unfolding item_bytes
  filling-is e = ap (λ (k : ℕ). item_bytes d cells tables k i) (sym e)

  pub row_is : (b ≡ 1 → ⊥) → (b ≡ 2 → ⊥) → (b ≡ 3 → ⊥) → row_at cells tables i ≡ item_bytes d cells tables b i
  unfolding item_bytes
  row_is h₁ h₂ h₃ = sym (rw (ne_eqb b 1 h₁, ne_eqb b 2 h₂, ne_eqb b 3 h₃))

-- a command w that takes k bytes
pub room-is : (w x : List ℕ) (k j n : ℕ) → w ≡ x → length w ≡ k → j + length x ≤ n → j + k ≤ n
room-is w x k j n e f h = let g = ap length e in omega arith

pub wrote-is : (o o' : List ℕ) (j z : ℕ) (w x : List ℕ) → w ≡ x → Wrote o o' j z w → Wrote o o' j z x
wrote-is o o' j z w x e h = wrote_as o o' j z z w x refl e h

-- ---- room for what is written piece by piece

piece-room : (f : ℕ → List ℕ) (n i : ℕ) → i < n → length (collect i (λ _. true) f) + length (f i) ≤ length (collect n (λ _. true) f)
unfolding collect
piece-room f zero i l = absurd (omega arith)
piece-room f (suc n) i l =
    let e = length-append (collect n (λ _. true) f) (f n) in
    ⊎_elim (λ (h : i ≡ n). let g : length (collect i (λ _. true) f) + length (f i) ≡ length (collect n (λ _. true) f) + length (f n) =
    ap (λ (k : ℕ). length (collect k (λ _. true) f) + length (f k)) h in omega arith)
    (λ (h : i < n). let g = piece-room f n i h in omega arith) (below_suc l)

-- the first i of n pieces are written: there is room for one more
pub next-room : (f : ℕ → List ℕ) (n i : ℕ) (o o' : List ℕ) (j z : ℕ) → i < n → j + length (collect n (λ _. true) f) ≤ length o
    → Wrote o o' j z (collect i (λ _. true) f) → z + length (f i) ≤ length o'
next-room f n i o o' j z l h r = omega (arith, piece-room f n i l, r.next, wrote-long o o' j z _ r)

-- the buffer has room for these pieces from place j on, one behind the other
unfoldable pub total : List (List ℕ) → ℕ
total [] = 0
total (w ∷ ws) = length w + total ws

pub record Room (o : List ℕ) (j : ℕ) (ws : List (List ℕ)) : Type 0 where
  pub fits : j + total ws ≤ length o

module _ (o : List ℕ) (j : ℕ) (w : List ℕ) (ws : List (List ℕ)) (h : Room o j (w ∷ ws)) where
  pub room-first : j + length w ≤ length o
  unfolding total
  room-first = omega (arith, h.fits)

  pub room_next : (o' : List ℕ) (z : ℕ) → Wrote o o' j z w → Room o' z ws
  unfolding total
  room_next o' z r = record { fits = omega (arith, h.fits, r.next, wrote-long o o' j z w r) }

-- ---- the whole design

module _ (d : Design) (cells : Cells) (tables : List ℕ) where
  abbrev kind : ℕ → List ℕ
  kind = kind_bytes d cells tables

  -- the four kinds one behind the other, then END
  by-kinds : kind 1 ++ (kind 2 ++ (kind 3 ++ (kind 4 ++ (5 ∷ [])))) ≡ design_bytes d cells tables
  unfolding design_bytes item_bytes count_of
  by-kinds =
      ap (λ (l : List ℕ). kind 1 ++ (kind 2 ++ (kind 3 ++ (l ++ (5 ∷ [])))))
      (collect-blocks 512 (λ _. true) (database_of cells tables).live (row_at cells tables) (row_bytes cells tables) (λ r l. refl))

  pub room-start : (o : List ℕ) → length (design_bytes d cells tables) ≤ length o → Room o 0 (kind 1 ∷ kind 2 ∷ kind 3 ∷ kind 4 ∷ (5 ∷ []) ∷ [])
  unfolding total
  room-start o h =
      record {
        fits =
            omega (
              arith,
              h,
              ap length by-kinds,
              length-append (kind 1) (kind 2 ++ (kind 3 ++ (kind 4 ++ (5 ∷ [])))),
              length-append (kind 2) (kind 3 ++ (kind 4 ++ (5 ∷ []))),
              length-append (kind 3) (kind 4 ++ (5 ∷ [])),
              length-append (kind 4) (5 ∷ []),
            );
      }

  pub wrote-design : (o o' : List ℕ) (z : ℕ) → Wrote o o' 0 z (kind 1 ++ (kind 2 ++ (kind 3 ++ (kind 4 ++ (5 ∷ [])))))
      → (z ≡ length (design_bytes d cells tables)) × (o' ≡ sets o 0 (design_bytes d cells tables))
  wrote-design o o' z r = (omega (arith, r.next, ap length by-kinds), r.text ∙ ap (sets o 0) by-kinds)
