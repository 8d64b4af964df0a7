-- Lent cells by their two parts, numbers and issues, and one row's cells stored into both. Assumes nothing.
use Prim.Native.Nat.{ℕ, ◌+◌, ◌*◌, ◌≤◌, ◌<◌}
use native.Mathlib.Omega.{arith}
use mathlib.Core.Path.{◌≡◌}
use mathlib.Core.List.{List}
use mathlib.Core.Logic.{◌⊎◌, inl, inr, ⊎_elim}
use lib.ListN.{length, get_or}
use lib.Seq.{sets}
use Rattle.finite.proofs.Bools.{order}
use Rattle.finite.proofs.Stores.{sets_below, sets-above, sets-at}
use Rattle.state.specs.Cells.{Cells, cells_in}
use Rattle.state.specs.Meaning.{cell_in, cell_at}

-- two cells with one number and one issue
pub same-cell : (a b : Cells) (x y : ℕ) → get_or a.numbers x 0 ≡ get_or b.numbers y 0 → get_or a.issues x 0 ≡ get_or b.issues y 0 → cell_in a x ≡ cell_in b y
same-cell a b x y p q = λ i. record { number = p i; issue = q i }

pub same-cells : (a b : Cells) → a.numbers ≡ b.numbers → a.issues ≡ b.issues → a ≡ b
same-cells a b p q = λ i. record { numbers = p i; issues = q i }

-- the cells with the eight numbers xs and issues ys stored as row n's
abbrev pub put_row : Cells → ℕ → List ℕ → List ℕ → Cells
put_row cells n xs ys = cells_in (sets cells.numbers (8 * n) xs) (sets cells.issues (8 * n) ys)

module _ (cells : Cells) (n : ℕ) (xs ys : List ℕ) where
  pub put-below : (x : ℕ) → x < 8 * n → cell_in (put_row cells n xs ys) x ≡ cell_in cells x
  put-below x l =
      same-cell (put_row cells n xs ys) cells x x (sets_below 0 cells.numbers (8 * n) xs x l) (sets_below 0 cells.issues (8 * n) ys x l)

  module _ (a : length xs ≡ 8) (b : length ys ≡ 8) where
    pub put_other : (r : ℕ) → (r ≡ n → ⊥) → (c : ℕ) → c < 8 → cell_at (put_row cells n xs ys) r c ≡ cell_at cells r c
    put_other r ne c h = around (⊎_elim inl (λ (q : (r ≡ n) ⊎ (n < r)). ⊎_elim (λ (e : r ≡ n). absurd (ne e)) inr q) (order r n))
      where
        around : (r < n) ⊎ (n < r) → cell_at (put_row cells n xs ys) r c ≡ cell_at cells r c
        around (inl l) = put-below (8 * r + c) (omega arith)
        around (inr l) =
            same-cell (put_row cells n xs ys) cells (8 * r + c) (8 * r + c)
            (sets-above 0 cells.numbers (8 * n) xs (8 * r + c) (omega arith)) (sets-above 0 cells.issues (8 * n) ys (8 * r + c) (omega arith))

    pub put-at : 8 * n + 8 ≤ length cells.numbers → 8 * n + 8 ≤ length cells.issues → (c : ℕ) → c < 8
        → cell_at (put_row cells n xs ys) n c ≡ record { number = get_or xs c 0; issue = get_or ys c 0 }
    put-at u v c l =
        λ i. record {
          number = sets-at 0 cells.numbers (8 * n) xs c (omega arith) (omega arith) i;
          issue = sets-at 0 cells.issues (8 * n) ys c (omega arith) (omega arith) i;
        }
