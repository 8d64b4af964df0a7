-- The words of a lawful design are words of one wherever they are stored. Assumes nothing.
use Prim.Native.Nat.{ℕ, ◌+◌, ◌≤◌}
use native.Mathlib.Omega.{arith}
use mathlib.Core.Path.{◌≡◌, refl, ap, ◌∙◌}
use mathlib.Core.Bool.{true}
use mathlib.Core.List.{List, [], ◌∷◌}
use lib.ListN.{length, drop}
use lib.Seq.{sets, sets-eq}
use Rattle.finite.proofs.Bools.{both}
use Rattle.state.specs.declared.design.Table.{Table}
use Rattle.state.specs.declared.design.Column.{Column}
use Rattle.state.specs.declared.design.Constraint.{Constraint}
use Rattle.state.specs.declared.design.Filling.{Filling}
use Rattle.state.specs.declared.design.Design.{Design}
use Rattle.state.specs.Design.{no_table, no_constraint, no_filling}
use Rattle.finite.proofs.Standing.{Stands, stands-first, stands-part}
use Rattle.state.specs.HeldWords.{narrow_two}
use Rattle.state.proofs.WordPlaces.{two-stand, places-narrow}
use Rattle.words.specs.Words.{table_words, constraint_words, filling_words, design_words, narrow_constraint, narrow_design}
use Rattle.words.proofs.WordLaws.{length-design, tables-stand, constraints-stand, fillings-stand}
use Rattle.words.proofs.WordLaws.{NarrowTable, NarrowConstraint, NarrowFilling, NarrowDesign}

table-narrow : (s : List ℕ) (i : ℕ) (t : Table) → Stands s i (table_words t) → NarrowTable t → narrow_two s i ≡ true
table-narrow s i t h n = two-stand s i _ _ h n.0 n.1

constraint-narrow : (s : List ℕ) (i : ℕ) (c : Constraint) → Stands s i (constraint_words c) → NarrowConstraint c → narrow_constraint s i ≡ true
unfolding narrow_constraint
constraint-narrow s i c h n =
    let j : Column → List ℕ = λ k. k.table ∷ k.place ∷ [] in
    both
    (two-stand s i _ _ (stands-part s _ [] (j c.source) (j c.target) i i h refl (omega arith)) n.0.0 n.0.1)
    (two-stand s (i + 2) _ _ (stands-part s _ (j c.source) (j c.target) [] i (i + 2) h refl refl) n.1.0 n.1.1)

filling-narrow : (s : List ℕ) (i : ℕ) (f : Filling) → Stands s i (filling_words f) → NarrowFilling f → narrow_two s i ≡ true
filling-narrow s i f h n =
    let k = f.column in
    two-stand s i _ _ (stands-part s _ [] (k.table ∷ k.place ∷ []) (f.low ∷ f.high ∷ []) i i h refl (omega arith)) n.0 n.1

design-stands : (d : Design) → NarrowDesign d → (s : List ℕ) → Stands s 0 (design_words d) → narrow_design s ≡ true
unfolding narrow_design
design-stands d n s h =
    both (places-narrow 8 3 2 no_table table_words narrow_two NarrowTable (λ t. refl) table-narrow s d.table (tables-stand d s h) n.table)
    (both
    (places-narrow 16 19 4 no_constraint constraint_words narrow_constraint NarrowConstraint (λ c. refl) constraint-narrow s d.constraint
    (constraints-stand d s h) n.constraint)
    (places-narrow 8 83 4 no_filling filling_words narrow_two NarrowFilling (λ f. refl) filling-narrow s d.filling (fillings-stand d s h) n.filling))

pub design-narrow : (d : Design) → NarrowDesign d → (l : List ℕ) → 115 ≤ length l → narrow_design (sets l 0 (design_words d)) ≡ true
design-narrow d n l m =
    ap narrow_design (sets-eq (design_words d) l 0 (omega (arith, length-design d))) ∙
    design-stands d n _ (stands-first (design_words d) (drop (0 + length (design_words d)) l))
