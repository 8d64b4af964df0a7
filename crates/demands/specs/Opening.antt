-- What 02, Req 09 asks of its three answers, of what REFER and PROBE then answer. Assumes nothing.
use Rattle.std.specs.Prelude.{ℕ, ◌^◌, ◌<◌, ◌≡◌, Bool, true, false, ◌⊎◌}
use Rattle.model.specs.Cell.{Cell, issued}
use Rattle.model.specs.Scheme.{Column}
use Rattle.model.specs.Holding.{Pair, has_room}
use Rattle.model.specs.Opener.{opens_at}
use Rattle.model.specs.Runs.{ask, probe, refer}
use Rattle.model.specs.Answers.{Answer, sent, loaded, Yes}
use Rattle.state.specs.Meaning.{holding_of}
use Rattle.state.specs.Lent.{State, scheme, database, cache, answer_at, state_after}

abbrev pub pair_at : ℕ → ℕ → ℕ → Pair
pair_at f n i = record { filling = f; value = issued n i }

-- what a PROBE of v in column k answers behind a REFER of the pair
abbrev pub probed_behind : State → Column → Cell → Pair → Answer
probed_behind s k v p = answer_at (state_after s (refer p)) (ask (probe k v))

-- value n, issue i of filling f is a candidate, and with it held besides what is held the probe of v in column k has a ground, whether or not a desk has room for it
abbrev pub would_open : State → Column → Cell → ℕ → ℕ → ℕ → Bool
would_open s k v f n i = opens_at (scheme s) (database s) k v (cache s) f n i

-- "the lowest filling, then the lowest value, then issue": g, m, j come before f, n, i
abbrev pub ComesBefore : ℕ → ℕ → ℕ → ℕ → ℕ → ℕ → Type 0
ComesBefore g m j f n i = (g < f) ⊎ (((g ≡ f) × (m < n)) ⊎ ((g ≡ f) × (m ≡ n) × (j < i)))

-- the opener of v in column k, on the state s, is value n, issue i of filling f: the probe is sent; the reference of this one value, where the desk has room, is loaded and
-- makes the probe a ground; and no value that comes before it does
pub record OpenedBy (s : State) (k : Column) (v : Cell) (f n i : ℕ) : Type 0 where
  pub shut : answer_at s (ask (probe k v)) ≡ sent
  pub filling : f < (scheme s).fillings
  pub loads : has_room (holding_of s.held) ≡ true → (rows : ℕ) × (rounds : ℕ) × (answer_at s (refer (pair_at f n i)) ≡ loaded rows rounds)
  pub opens : has_room (holding_of s.held) ≡ true → Yes (probed_behind s k v (pair_at f n i))
  pub lowest : (g m j : ℕ) → m < 2 ^ 32 → j < 2 ^ 8 → ComesBefore g m j f n i → probed_behind s k v (pair_at g m j) ≡ sent
  -- "Desk limits are disregarded": were there room at any desk, this candidate would give the probe a ground, and none that comes before it would
  pub would : would_open s k v f n i ≡ true
  pub first : (g m j : ℕ) → g < (scheme s).fillings → m < 2 ^ 32 → j < 2 ^ 8 → ComesBefore g m j f n i → would_open s k v g m j ≡ false

-- there is none: the probe is sent, and is sent behind the reference of any value whatever, "among all numbers in all ranges"
pub record NothingOpens (s : State) (k : Column) (v : Cell) : Type 0 where
  pub shut : answer_at s (ask (probe k v)) ≡ sent
  pub none : (f n i : ℕ) → n < 2 ^ 32 → i < 2 ^ 8 → probed_behind s k v (pair_at f n i) ≡ sent
  -- nor would one, were there room
  pub would_not : (f n i : ℕ) → f < (scheme s).fillings → n < 2 ^ 32 → i < 2 ^ 8 → would_open s k v f n i ≡ false
