-- Loading in rounds (01, "REFER: .. Round 0 adds the uncached backend rows that have it in the filling's column. Each later round adds the
-- uncached rows that the constraints demand of the rows added in the round before"). The levels of a load are a list, one number for each
-- row number: 0 a row not reached, 1 a row cached before the load, 2 + n a row that round n adds. Assumes nothing.
use Rattle.std.specs.Prelude.{ℕ, zero, suc, Bool, cond, ◌&&◌, List, eqb, ltb, get_or}
use Rattle.finite.specs.Finite.{any, count, tab}
use Rattle.model.specs.Scheme.{Constraint, Scheme}
use Rattle.model.specs.Database.{Database, has}
use Rattle.model.specs.Cache.{RowSet}

-- constraint j demands row r of row s
unfoldable pub leads : Database → Constraint → ℕ → ℕ → Bool
leads D j s r = D.live s && (eqb (D.table s) j.source.table && has D j.target (D.cell s j.source.place) r)

-- some constraint demands row r of row s
unfoldable pub demands : Scheme → Database → ℕ → ℕ → Bool
demands S D s r = any S.constraints (λ i. leads D (S.constraint i) s r)

abbrev pub level : List ℕ → ℕ → ℕ
level L r = get_or L r 0

-- the first level if there is one, else the second
abbrev pub or_else : ℕ → ℕ → ℕ
or_else zero n = n
or_else (suc m) n = suc m

-- round 0: rows `old` are cached, and those of `seed` that are not are added
unfoldable pub start : Database → RowSet → RowSet → List ℕ
start D old seed = tab D.size (λ r. cond (old r) 1 (cond (seed r) 2 0))

-- a row that round n added demands row r
unfoldable pub reached_from : Scheme → Database → ℕ → List ℕ → ℕ → Bool
reached_from S D n L r = any D.size (λ s. eqb (level L s) (suc (suc n)) && demands S D s r)

-- round n + 1
unfoldable pub next : Scheme → Database → ℕ → List ℕ → List ℕ
next S D n L = tab D.size (λ r. or_else (level L r) (cond (reached_from S D n L r) (suc (suc (suc n))) 0))

-- the levels when round n is done
unfoldable pub levels : Scheme → Database → List ℕ → ℕ → List ℕ
levels S D L zero = L
levels S D L (suc n) = next S D n (levels S D L n)

-- the rows that have a level
unfoldable pub reached : List ℕ → RowSet
reached L r = ltb 0 (level L r)

-- a load, to the end: no load has more rounds than there are row numbers
unfoldable pub load : Scheme → Database → RowSet → RowSet → List ℕ
load S D old seed = levels S D (start D old seed) D.size

-- "The answer gives the rows added and the number of later rounds that added a row"
unfoldable pub added_rows : Database → List ℕ → ℕ
added_rows D L = count D.size (λ r. ltb 1 (level L r))

unfoldable pub later_rounds : Database → List ℕ → ℕ
later_rounds D L = count D.size (λ n. any D.size (λ r. eqb (level L r) (suc (suc (suc n)))))
