-- Storing a row among the lent rows. Assumes nothing.
use Prim.Native.Nat.{ℕ, ◌+◌, ◌-◌, ◌*◌, ◌≤◌}
use native.Mathlib.Omega.{arith}
use mathlib.Core.Path.{◌≡◌, refl, sym, ap, ◌∙◌}
use mathlib.Core.List.{List, ◌++◌}
use lib.ListN.{length, get_or, set, take, drop}
use lib.Seq.{sets}
use borrow.Rule.Slice.PartMut.{put_mid}
use Rattle.std.proofs.lemmas.List.{append_assoc}
use Rattle.std.proofs.lemmas.Slice.{put_mid-paste}
use Rattle.std.proofs.lemmas.List.Edits.{paste_all, sets-eq}
use Rattle.finite.specs.Finite.{tab}
use Rattle.finite.proofs.Tables.{tab-of}
use Rattle.state.specs.declared.rows.Row.{Row}
use Rattle.state.specs.Cells.{cells_in}
use Rattle.state.specs.Changes.{rows_in, stored}

-- a list is the table of its elements
pub tab-whole : (n : ℕ) (xs : List ℕ) → length xs ≡ n → tab n (λ i. get_or xs i 0) ≡ xs
tab-whole n xs l = sym (tab-of 0 n _ xs l (λ i h. refl))

-- eight cells vs from place a on, written over by a copy
pub row-stored : (xs ys vs : List ℕ) (a e : ℕ) → ys ≡ vs → length vs ≡ 8 → e ≡ a + 8 → a + 8 ≤ length xs → put_mid a (e - a) xs ys ≡ sets xs a vs
row-stored xs ys vs a e c l f h =
    put_mid-paste a (e - a) xs ys vs 8 c (omega (arith, f)) (sym l) ∙ paste_all xs a vs 8 (sym l) ∙ ap (λ (n : ℕ). take a xs ++ (vs ++ drop (a + n) xs)) (sym l) ∙ sym (append_assoc (take a xs) vs (drop (a + length vs) xs))
    ∙ sym (sets-eq vs xs a (omega (arith, l, h)))

-- the three buffers with a row stored in each
pub stored_is : (cells issues tables cells' issues' tables' : List ℕ) (r : ℕ) (x : Row) → cells' ≡ sets cells (8 * r) x.numbers →
    issues' ≡ sets issues (8 * r) x.issues → tables' ≡ set tables r x.table →
    rows_in (cells_in cells' issues') tables' ≡ stored (rows_in (cells_in cells issues) tables) r x
unfolding stored
stored_is cells issues tables cells' issues' tables' r x e f g = λ i. rows_in (cells_in (e i) (f i)) (g i)
