-- The value that would open a query (02, Req 09: "answers `open` if the probe has a ground; else the lowest filling, then the lowest value, then issue,
-- whose single reference would give one, printed as these three numbers; else `none`"). Assumes nothing.
use Rattle.std.specs.Prelude.{ℕ, ◌^◌, Bool, not, ◌&&◌, eqb}
use Rattle.finite.specs.Finite.{any, first}
use Rattle.model.specs.Cell.{Cell, issued}
use Rattle.model.specs.Scheme.{Column, candidate, Scheme}
use Rattle.model.specs.Database.{Database}
use Rattle.model.specs.Probe.{probe}
use Rattle.model.specs.Holding.{Pair, held_in}
use Rattle.model.specs.Runs.{marked, Cache, referred}

-- "the probe has a ground": v in column k, with this cache
unfoldable pub is_open : Scheme → Database → Column → Cell → Cache → Bool
is_open S D k v c = not (eqb (probe S D (held_in S c.held) (marked c.marks) k v) 0)

module _ (S : Scheme) (D : Database) (k : Column) (v : Cell) (c : Cache) where
  -- p is a candidate "whose single reference would give one": the probe has a ground once p is referred and nothing else. "Desk limits are
  -- disregarded": whether there is room for p is not asked
  unfoldable pub opens : Pair → Bool
  opens p = candidate (S.filling p.filling) p.value && is_open S D k v (referred S D c p)

  abbrev pub opens_at : ℕ → ℕ → ℕ → Bool
  opens_at f n i = opens (record { filling = f; value = issued n i })

  -- some value of filling f does, "among all numbers in all ranges": a number is a u32, an issue a u8
  abbrev pub number_opens : ℕ → ℕ → Bool
  number_opens f n = any (2 ^ 8) (opens_at f n)

  abbrev pub filling_opens : ℕ → Bool
  filling_opens f = any (2 ^ 32) (number_opens f)

  -- "the lowest filling", the number of fillings if there is none; "then the lowest value, then issue"
  unfoldable pub lowest_filling : ℕ
  lowest_filling = first S.fillings filling_opens

  unfoldable pub lowest_number : ℕ → ℕ
  lowest_number f = first (2 ^ 32) (number_opens f)

  unfoldable pub lowest_issue : ℕ → ℕ → ℕ
  lowest_issue f n = first (2 ^ 8) (opens_at f n)
