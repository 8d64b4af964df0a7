-- Words of a design: how long they are, how they are stored part by part, and that they read back as what they stand for.
-- Assumes nothing.
use Prim.Native.Nat.{ℕ, ◌+◌, ◌≤◌, ◌<◌}
use native.Mathlib.Omega.{arith}
use mathlib.Core.Path.{◌≡◌, refl, sym, ap, ◌∙◌}
use mathlib.Core.List.{List, [], ◌∷◌, ◌++◌, append-nil}
use lib.ListN.{length, get_or, drop, length-append}
use lib.Seq.{sets, sets-eq}
use Rattle.finite.proofs.Stores.{sets_then}
use Rattle.state.specs.declared.design.Table.{Table}
use Rattle.state.specs.declared.design.Column.{Column}
use Rattle.state.specs.declared.design.Constraint.{Constraint}
use Rattle.state.specs.declared.design.Filling.{Filling}
use Rattle.state.specs.declared.design.Design.{Design}
use Rattle.state.specs.Design.{no_table, no_constraint, no_filling, table_at, constraint_at, filling_at}
use Rattle.state.specs.HeldWords.{word_at}
use Rattle.state.proofs.Arrays.{Sized}
use Rattle.finite.proofs.Standing.{Stands, stands-first, stands-part}
use Rattle.state.proofs.WordPlaces.{length-places, word_back, byte-back, places-back}
use Rattle.words.specs.Words.{table_words, constraint_words, filling_words, counts_words, tables_words, constraints_words, fillings_words, design_words}
use Rattle.words.specs.Words.{table_from, column_from, constraint_from, filling_from, tables_from, constraints_from, fillings_from, words_design}

-- ---- how long they are

length-tables : (ts : List Table) → length (tables_words ts) ≡ 16
length-tables = length-places 8 2 no_table table_words (λ t. refl)

length-constraints : (cs : List Constraint) → length (constraints_words cs) ≡ 64
length-constraints = length-places 16 4 no_constraint constraint_words (λ c. refl)

length-fillings : (fs : List Filling) → length (fillings_words fs) ≡ 32
length-fillings = length-places 8 4 no_filling filling_words (λ f. refl)

pub length-design : (d : Design) → length (design_words d) ≡ 115
unfolding design_words
length-design d =
    let b = tables_words d.table in let c = constraints_words d.constraint in let e = fillings_words d.filling in
    omega (
      arith,
      length-append (counts_words d) (b ++ (c ++ e)),
      length-append b (c ++ e),
      length-append c e,
      length-tables d.table,
      length-constraints d.constraint,
      length-fillings d.filling,
    )

-- ---- how they are stored

pub stored-design : (d : Design) (l x y z u : List ℕ) → x ≡ sets l 0 (counts_words d) → y ≡ sets x 3 (tables_words d.table) →
    z ≡ sets y 19 (constraints_words d.constraint) → u ≡ sets z 83 (fillings_words d.filling) → u ≡ sets l 0 (design_words d)
unfolding design_words
stored-design d l x y z u p q r s =
    let a = counts_words d in let b = tables_words d.table in let c = constraints_words d.constraint in let e = fillings_words d.filling in
    s ∙ ap (λ (m : List ℕ). sets m 83 e) r ∙ sets_then c e y 19 83 (omega (arith, length-constraints d.constraint)) ∙
    ap (λ (m : List ℕ). sets m 19 (c ++ e)) q ∙ sets_then b (c ++ e) x 3 19 (omega (arith, length-tables d.table)) ∙
    ap (λ (m : List ℕ). sets m 3 (b ++ (c ++ e))) p ∙ sets_then a (b ++ (c ++ e)) l 0 3 refl

-- ---- how they are read, part by part

pub design-is : (ws : List ℕ) (a b c : ℕ) (ts : List Table) (cs : List Constraint) (fs : List Filling) → a ≡ word_at ws 0 → ts ≡ tables_from ws →
    b ≡ word_at ws 1 → cs ≡ constraints_from ws → c ≡ word_at ws 2 → fs ≡ fillings_from ws →
    record { tables = a; table = ts; constraints = b; constraint = cs; fillings = c; filling = fs } ≡ words_design ws
unfolding words_design
design-is ws a b c ts cs fs p q r s t u =
    λ x. record { tables = p x; table = q x; constraints = r x; constraint = s x; fillings = t x; filling = u x }

-- ---- reading them back

-- the fields that are u8
abbrev pub NarrowTable : Table → Type 0
NarrowTable t = (t.columns < 256) × (t.unique < 256)

abbrev pub NarrowColumn : Column → Type 0
NarrowColumn k = (k.table < 256) × (k.place < 256)

abbrev pub NarrowConstraint : Constraint → Type 0
NarrowConstraint c = NarrowColumn c.source × NarrowColumn c.target

abbrev pub NarrowFilling : Filling → Type 0
NarrowFilling f = NarrowColumn f.column

pub record NarrowDesign (d : Design) : Type 0 where
  pub table : (i : ℕ) → i < 8 → NarrowTable (table_at d i)
  pub constraint : (i : ℕ) → i < 16 → NarrowConstraint (constraint_at d i)
  pub filling : (i : ℕ) → i < 8 → NarrowFilling (filling_at d i)

module _ (s : List ℕ) (i : ℕ) where
  table-back : (t : Table) → Stands s i (table_words t) → NarrowTable t → t ≡ table_from s i
  table-back t h n =
      λ x. record { columns = byte-back s _ i h 0 i (omega arith) (omega arith) n.0 x; unique = byte-back s _ i h 1 (i + 1) (omega arith) refl n.1 x }

  column-back : (k : Column) → Stands s i (k.table ∷ k.place ∷ []) → NarrowColumn k → k ≡ column_from s i
  column-back k h n =
      λ x. record { table = byte-back s _ i h 0 i (omega arith) (omega arith) n.0 x; place = byte-back s _ i h 1 (i + 1) (omega arith) refl n.1 x }

constraint-back : (s : List ℕ) (i : ℕ) (c : Constraint) → Stands s i (constraint_words c) → NarrowConstraint c → c ≡ constraint_from s i
constraint-back s i c h n =
    let j : Column → List ℕ = λ k. k.table ∷ k.place ∷ [] in
    let p = column-back s i c.source (stands-part s _ [] (j c.source) (j c.target) i i h refl (omega arith)) n.0 in
    let q = column-back s (i + 2) c.target (stands-part s _ (j c.source) (j c.target) [] i (i + 2) h refl refl) n.1 in
    λ x. record { source = p x; target = q x }

filling-back : (s : List ℕ) (i : ℕ) (f : Filling) → Stands s i (filling_words f) → NarrowFilling f → f ≡ filling_from s i
filling-back s i f h n =
    let k = f.column in
    let p = column-back s i k (stands-part s _ [] (k.table ∷ k.place ∷ []) (f.low ∷ f.high ∷ []) i i h refl (omega arith)) n in
    λ x. record {
      column = p x;
      low = word_back s _ i h 2 (i + 2) (omega arith) refl x;
      high = word_back s _ i h 3 (i + 3) (omega arith) refl x;
    }

-- each part of a design's words stands in its place
module _ (d : Design) (s : List ℕ) (h : Stands s 0 (design_words d)) where
  counts-stand : Stands s 0 (counts_words d)
  unfolding design_words
  counts-stand = stands-part s _ [] (counts_words d) _ 0 0 h refl refl

  pub tables-stand : Stands s 3 (tables_words d.table)
  unfolding design_words
  tables-stand = stands-part s _ (counts_words d) (tables_words d.table) _ 0 3 h refl refl

  later : Stands s 19 (constraints_words d.constraint ++ fillings_words d.filling)
  unfolding design_words
  later =
      let a = counts_words d in let b = tables_words d.table in let e = constraints_words d.constraint ++ fillings_words d.filling in
      stands-part s (b ++ e) b e [] 3 19
      (stands-part s _ a (b ++ e) [] 0 3 h (ap (λ (l : List ℕ). a ++ l) (sym (append-nil (b ++ e)))) refl)
      (ap (λ (l : List ℕ). b ++ l) (sym (append-nil e))) (omega (arith, length-tables d.table))

  pub constraints-stand : Stands s 19 (constraints_words d.constraint)
  constraints-stand = stands-part s _ [] (constraints_words d.constraint) (fillings_words d.filling) 19 19 later refl refl

  pub fillings-stand : Stands s 83 (fillings_words d.filling)
  fillings-stand =
      let c = constraints_words d.constraint in let e = fillings_words d.filling in
      stands-part s _ c e [] 19 83 later (ap (λ (l : List ℕ). c ++ l) (sym (append-nil e))) (omega (arith, length-constraints d.constraint))

  module _ (z : Sized d) (n : NarrowDesign d) where
    tables-back : d.table ≡ tables_from s
    tables-back = places-back 8 3 2 no_table table_words table_from NarrowTable (λ t. refl) table-back s d.table tables-stand z.table n.table

    constraints-back : d.constraint ≡ constraints_from s
    constraints-back =
        places-back 16 19 4 no_constraint constraint_words constraint_from NarrowConstraint (λ c. refl) constraint-back s d.constraint constraints-stand
        z.constraint n.constraint

    fillings-back : d.filling ≡ fillings_from s
    fillings-back =
        places-back 8 83 4 no_filling filling_words filling_from NarrowFilling (λ f. refl) filling-back s d.filling fillings-stand z.filling n.filling

    count-back : (j : ℕ) → j < 3 → get_or (counts_words d) j 0 ≡ word_at s j
    count-back j l = word_back s (counts_words d) 0 counts-stand j j l (omega arith)

    design-stands : words_design s ≡ d
    design-stands =
        sym (design-is s _ _ _ _ _ _ (count-back 0 (omega arith)) tables-back (count-back 1 (omega arith)) constraints-back (count-back 2 (omega arith))
        fillings-back)

module _ (d : Design) (z : Sized d) (n : NarrowDesign d) where
  pub design-back : (rest : List ℕ) → words_design (design_words d ++ rest) ≡ d
  design-back rest = design-stands d _ (stands-first (design_words d) rest) z n

  pub design-stored : (l : List ℕ) → 115 ≤ length l → words_design (sets l 0 (design_words d)) ≡ d
  design-stored l m = ap words_design (sets-eq (design_words d) l 0 (omega (arith, length-design d))) ∙ design-back (drop (0 + length (design_words d)) l)
