-- The probe and its three grounds (01, "PROBE: ground 1 if ..."; 003, section on probing), and how many cached rows stand behind a yes (02, Req 04).
-- Assumes nothing.
use Rattle.std.specs.Prelude.{ℕ, Bool, true, false, cond, ◌&&◌, eqb}
use Rattle.finite.specs.Finite.{any, count}
use Rattle.model.specs.Cell.{Cell}
use Rattle.model.specs.Scheme.{Column, same_column, Scheme}
use Rattle.model.specs.Database.{Database, has}
use Rattle.model.specs.Cache.{RowSet, Held}

-- a cached row has v in column k
unfoldable pub seen : Database → RowSet → Column → Cell → Bool
seen D X k v = any D.size (λ r. X r && has D k v r)

-- ground 2: "a constraint ends at that column and a cached row has the value in its source column"
unfoldable pub demanded : Scheme → Database → RowSet → Column → Cell → Bool
demanded S D X k v = any S.constraints (λ i. same_column (S.constraint i).target k && seen D X (S.constraint i).source v)

-- ground 3: "the column is unique and a cached row of that table has it there"
unfoldable pub uniquely_seen : Scheme → Database → RowSet → Column → Cell → Bool
uniquely_seen S D X k v = S.unique k && seen D X k v

-- "The lowest that applies is the answer": its number, 0 if none does
abbrev pub lowest : Bool → Bool → Bool → ℕ
lowest true b c = 1
lowest false true c = 2
lowest false false true = 3
lowest false false false = 0

-- the probe's answer: a ground, or 0 for "sent". Ground 1: v is held in column k
unfoldable pub probe : Scheme → Database → Held → RowSet → Column → Cell → ℕ
probe S D H X k v = lowest (H k v) (demanded S D X k v) (uniquely_seen S D X k v)

-- how many cached rows of k's table have v in column k (02, Req 04)
unfoldable pub cached_rows : Database → RowSet → Column → Cell → ℕ
cached_rows D X k v = count D.size (λ r. X r && has D k v r)

-- "Every yes .. shall carry how many cached rows of the probed table have the value in the probed column"; a "sent" carries none
unfoldable pub rows_behind : ℕ → Database → RowSet → Column → Cell → ℕ
rows_behind g D X k v = cond (eqb g 0) 0 (cached_rows D X k v)
