-- Why a row is cached: the chains of demands that end with a held value, and which of them is the row's reason (02, Req 08: "The chain is a shortest one;
-- among those take the lowest last constraint, then the lowest row it comes from, and so on back, then the lowest filling, value and issue"; Req 10). That the
-- reason is true, shortest and lowest is proved in `proofs/ReasonLaws.antt`. Assumes nothing.
use Rattle.std.specs.Prelude.{ℕ, zero, suc, ◌+◌, ◌-◌, ◌<◌, ◌≡◌, Bool, true, false, cond, ◌&&◌, List, eqb, ltb}
use Rattle.finite.specs.Finite.{any, first, lower_then, lowest_of}
use Rattle.model.specs.Cell.{lower_cell}
use Rattle.model.specs.Scheme.{Scheme}
use Rattle.model.specs.Database.{Database, has}
use Rattle.model.specs.Rounds.{leads, level}
use Rattle.model.specs.Ranges.{Range, has_range}
use Rattle.model.specs.Holding.{Pair, Holding, held_count, held_pair, some_holds, range_count, held_range, some_holds_range}
use Rattle.model.specs.Runs.{reload_levels}

-- ---- what a chain ends with

-- something held: a pair of filling and value, or a range
pub data Origin : Type 0 where
  by_value : Pair → Origin
  by_range : Range → Origin

-- one by one: how many, and each, the pairs first
abbrev pub origin_count : Holding → ℕ
origin_count h = held_count h + range_count h

unfoldable pub origin_at : Holding → ℕ → Origin
origin_at h i = cond (ltb i (held_count h)) (by_value (held_pair h i)) (by_range (held_range h (i - held_count h)))

-- by whatever desk: "The cached rows are the smallest set for all desks together" (02, Req 07)
unfoldable pub is_held : Holding → Origin → Bool
is_held h (by_value p) = some_holds h p
is_held h (by_range q) = some_holds_range h q

-- row r has the value, or one of the range's, in the filling's column
unfoldable pub has_origin : Scheme → Database → ℕ → Origin → Bool
has_origin S D r (by_value p) = has D (S.filling p.filling).column p.value r
has_origin S D r (by_range q) = has_range D (S.filling q.filling).column q r

-- "the lowest filling, value and issue"; "in one filling values go before ranges, then the lowest low, then high" (02, Req 10)
unfoldable pub lower_origin : Origin → Origin → Bool
lower_origin (by_value o) (by_value q) = lower_then o.filling q.filling (lower_cell o.value q.value)
lower_origin (by_value o) (by_range q) = lower_then o.filling q.filling true
lower_origin (by_range o) (by_value q) = lower_then o.filling q.filling false
lower_origin (by_range o) (by_range q) = lower_then o.filling q.filling (lower_then o.low q.low (ltb o.high q.high))

-- ---- chains

-- a row is cached by something held that it has, or by a constraint that demands it of a row, with that row's own chain behind it
pub data Chain : Type 0 where
  by_held : Origin → Chain
  by_constraint : ℕ → ℕ → Chain → Chain

-- "Each link is a true demand in the full tables": the chain explains row r
unfoldable pub Explains : Scheme → Database → Holding → ℕ → Chain → Type 0
Explains S D h r (by_held o) = (is_held h o ≡ true) × (has_origin S D r o ≡ true)
Explains S D h r (by_constraint i s c) = (i < S.constraints) × (leads D (S.constraint i) s r ≡ true) × Explains S D h s c

-- how many constraints it has
unfoldable pub links_of : Chain → ℕ
links_of (by_held o) = 0
links_of (by_constraint i s c) = suc (links_of c)

-- which of two chains of as many links is the lower: "the lowest last constraint, then the lowest row it comes from, and so on back"
unfoldable pub lower_chain : Chain → Chain → Bool
lower_chain (by_held o) (by_held q) = lower_origin o q
lower_chain (by_held o) (by_constraint j t e) = false
lower_chain (by_constraint i s c) (by_held q) = false
lower_chain (by_constraint i s c) (by_constraint j t e) = lower_then i j (lower_then s t (lower_chain c e))

-- ---- the reason

-- over the levels L of a load from nothing: 2 for a row that has something held, and one more with each constraint
module _ (S : Scheme) (D : Database) (L : List ℕ) where
  -- n constraints lie between row s and something held, and constraint i demands row r of row s
  unfoldable pub is_link : ℕ → ℕ → ℕ → ℕ → Bool
  is_link n r i s = eqb (level L s) (suc (suc n)) && leads D (S.constraint i) s r

  -- the lowest last constraint, and the lowest row it comes from
  unfoldable pub last_constraint : ℕ → ℕ → ℕ
  last_constraint n r = first S.constraints (λ i. any D.size (is_link n r i))

  unfoldable pub last_row : ℕ → ℕ → ℕ
  last_row n r = first D.size (is_link n r (last_constraint n r))

  -- the chain of row r, n constraints away from something held, where `origin` says with what the chain of a row that has something held ends
  unfoldable pub chain_by : (ℕ → Origin) → ℕ → ℕ → Chain
  chain_by origin zero r = by_held (origin r)
  chain_by origin (suc n) r = by_constraint (last_constraint n r) (last_row n r) (chain_by origin n (last_row n r))

-- the lowest held that row r has
unfoldable pub lowest_held : Scheme → Database → Holding → ℕ → Origin
lowest_held S D h r =
    origin_at h (lowest_of (origin_count h) (λ i. has_origin S D r (origin_at h i)) (λ i j. lower_origin (origin_at h i) (origin_at h j)))

-- how many constraints lie between row r and something held, at the least
unfoldable pub distance : Scheme → Database → Holding → ℕ → ℕ
distance S D h r = level (reload_levels S D h) r - 2

-- the reason for row r, which is cached
unfoldable pub reason_for : Scheme → Database → Holding → ℕ → Chain
reason_for S D h r = chain_by S D (reload_levels S D h) (lowest_held S D h) (distance S D h r) r
