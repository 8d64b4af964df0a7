-- The least weight of an uneven set of constraints, as the code finds it: the cheapest walks in rounds over the tables, and the cheapest pair with its walk
-- (02, Req 11). Assumes nothing.
use Rattle.std.specs.Prelude.{ℕ, zero, suc, ◌+◌, ◌-◌, ◌*◌, ◌%◌, ◌^◌, ◌<◌, min, ◌≡◌, Bool, not, cond, ◌&&◌, List, eqb, length, get_or}
use Rattle.model.specs.Scheme.{Constraint, Scheme}

abbrev pub source_of : Scheme → ℕ → ℕ
source_of S i = (S.constraint i).source.table

abbrev pub target_of : Scheme → ℕ → ℕ
target_of S i = (S.constraint i).target.table

-- constraint e's bit in a mask, in which constraint 0 has the highest of sixteen
abbrev pub bit_of : ℕ → ℕ
bit_of e = 2 ^ (15 - e)

-- what constraint e weighs. A set weighs 65,536 times its size less its mask: the smaller set weighs less, and among equals the one with the higher mask, whose
-- rising numbers come first
abbrev pub weight_of : ℕ → ℕ
weight_of e = 65536 - bit_of e

-- more than all sixteen weigh
abbrev pub far : ℕ
far = 1048576

-- the lowest of f 0, .. f (n - 1); `far` if none is lower
unfoldable pub lowest : ℕ → (ℕ → ℕ) → ℕ
lowest zero f = far
lowest (suc n) f = min (lowest n f) (f n)

-- the cost from t on along constraint i, where c is the cost from each table on
unfoldable pub onward : Scheme → (ℕ → ℕ) → ℕ → ℕ → ℕ
onward S c t i = cond (eqb (source_of S i) t) (weight_of i + c (target_of S i)) far

-- the least cost of a walk of at most m steps from table t to table u
unfoldable pub cheapest : Scheme → ℕ → ℕ → ℕ → ℕ
cheapest S u zero t = cond (eqb t u) 0 far
cheapest S u (suc m) t = min (cheapest S u m t) (lowest S.constraints (onward S (cheapest S u m) t))

-- a walk that comes to none of the eight tables twice has at most this many steps
abbrev pub most_steps : ℕ
most_steps = 7

-- two constraints count once if they are one
unfoldable pub pair_weight : ℕ → ℕ → ℕ
pair_weight i j = cond (eqb i j) (weight_of i) (weight_of i + weight_of j)

-- constraint b turns off at a's end: it starts at the table where a ends, at another column
unfoldable pub turns_off : Constraint → Constraint → Bool
turns_off a b = eqb a.target.table b.source.table && not (eqb a.target.place b.source.place)

-- the least weight of i, j and the walk back, where j turns off at i's end
unfoldable pub weight_with : Scheme → ℕ → ℕ → ℕ
weight_with S i j = cond (turns_off (S.constraint i) (S.constraint j)) (pair_weight i j + cheapest S (source_of S i) most_steps (target_of S j)) far

unfoldable pub weight_from : Scheme → ℕ → ℕ
weight_from S i = lowest S.constraints (weight_with S i)

-- the least weight of an uneven set; `far` for an even design
unfoldable pub knot_weight : Scheme → ℕ
knot_weight S = lowest S.constraints (weight_from S)

-- the mask of a set, read off its weight
abbrev pub mask_in : ℕ → ℕ
mask_in w = (65536 - w % 65536) % 65536

-- ---- the costs as an array, of walks from table t to table u at 8 * t + u

-- of the cheapest walks of at most m steps
pub record Cheap (S : Scheme) (m : ℕ) (costs : List ℕ) : Type 0 where
  pub long : length costs ≡ 64
  pub at : (t u : ℕ) → t < 8 → u < 8 → get_or costs (8 * t + u) 0 ≡ cheapest S u m t

-- `next` became next': walks from table s to a table below k may begin with a step to table t, which weighs w
pub record Stepped (costs next : List ℕ) (s t w k : ℕ) (next' : List ℕ) : Type 0 where
  pub long : length next' ≡ length next
  pub row : (u : ℕ) → u < k → get_or next' (8 * s + u) 0 ≡ min (get_or next (8 * s + u) 0) (w + get_or costs (8 * t + u) 0)
  pub others : (x u : ℕ) → u < 8 → ((x ≡ s) × (u < k) → ⊥) → get_or next' (8 * x + u) 0 ≡ get_or next (8 * x + u) 0
