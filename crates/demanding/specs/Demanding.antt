-- The rows that demand a row: of those of which a constraint demands it, the nearest, by levels. Assumes nothing.
use Rattle.std.specs.Prelude.{ℕ, ◌+◌, ◌*◌, ◌≤◌, ◌<◌, ◌≡◌, Bool, true, cond, List, eqb, leb, ltb, length, get_or}
use Rattle.finite.specs.Finite.{first_from}
use Rattle.model.specs.Scheme.{Scheme}
use Rattle.model.specs.Database.{Database}
use Rattle.model.specs.Rounds.{leads, level, reached}

-- b is the lowest of the rows of the lowest level among those that pass the test and have a level; 512 if there is none
pub record Nearest (L : List ℕ) (p : ℕ → Bool) (b : ℕ) : Type 0 where
  pub bound : b ≤ 512
  pub here : b < 512 → p b ≡ true
  pub levelled : b < 512 → 0 < level L b
  pub least : (s : ℕ) → s < 512 → p s ≡ true → 0 < level L s → (b < 512) × (level L b ≤ level L s) × (level L b ≡ level L s → b ≤ s)

-- row s in place of b, if it has a level, and there was none or the level is lower
unfoldable pub nearer_of : List ℕ → ℕ → ℕ → ℕ
nearer_of L b s = cond (eqb (level L s) 0) b (cond (leb 512 b) s (cond (ltb (level L s) (level L b)) s b))

-- the first row that constraint i demands of row s
abbrev pub first_by : Scheme → Database → ℕ → ℕ → ℕ
first_by S D i s = first_from 512 (leads D (S.constraint i) s) 0

-- for each row f, the nearest of those of which constraint i demands rows with f as the first
pub record ByFirst (S : Scheme) (D : Database) (L : List ℕ) (i : ℕ) (best : List ℕ) : Type 0 where
  pub long : length best ≡ 512
  pub at : (f : ℕ) → f < 512 → Nearest L (λ s. eqb (first_by S D i s) f) (get_or best f 0)

-- what stands at row f; 512 past the rows
unfoldable pub chosen_at : List ℕ → ℕ → ℕ
chosen_at best f = cond (ltb f 512) (get_or best f 0) 512

-- the first m elements are the rows that have a level, rising, and 512 stands behind them
pub record Rising (L : List ℕ) (m : ℕ) (rows : List ℕ) : Type 0 where
  pub few : m ≤ 512
  pub start : get_or rows 0 0 ≡ first_from 512 (reached L) 0
  pub below : (k : ℕ) → k < m → get_or rows k 0 < 512
  pub next : (k : ℕ) → k < m → get_or rows (k + 1) 0 ≡ first_from 512 (reached L) (get_or rows k 0 + 1)
  pub end : get_or rows m 0 ≡ 512

-- row b stands at place a + t for each row t that passes the test, and else what stood there
pub record Spread (p : ℕ → Bool) (b a : ℕ) (near near' : List ℕ) : Type 0 where
  pub long : length near' ≡ length near
  pub at : (t : ℕ) → t < 512 → get_or near' (a + t) 0 ≡ cond (p t) b (get_or near (a + t) 0)
  pub below : (x : ℕ) → x < a → get_or near' x 0 ≡ get_or near x 0
  pub above : (x : ℕ) → a + 512 ≤ x → get_or near' x 0 ≡ get_or near x 0

-- for each of the first n constraints and each row, the nearest of the rows of which the constraint demands it; 512 at the other places
pub record Demanding (S : Scheme) (D : Database) (L : List ℕ) (n : ℕ) (near : List ℕ) : Type 0 where
  pub long : length near ≡ 8192
  pub row : (i t : ℕ) → i < n → t < 512 → Nearest L (λ s. leads D (S.constraint i) s t) (get_or near (512 * i + t) 0)
  pub rest : (x : ℕ) → 512 * n ≤ x → x < 8192 → get_or near x 0 ≡ 512
