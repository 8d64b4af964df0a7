-- "A row set is any set of backend rows; it meets a link or a held value if the definitions above are true with its rows as the cached ones" (01, "Runs"): demand 3 with a
-- set as any predicate of row numbers, whether or not it can be computed. (In `model` a row set is a test.) Assumes nothing.
use Rattle.std.specs.Prelude.{ℕ, ◌<◌, ◌≡◌, ◌≢◌, true, false}
use Rattle.model.specs.Cell.{Cell, Fits, numberless}
use Rattle.model.specs.Scheme.{Column, Scheme, ColumnOf}
use Rattle.model.specs.Database.{Database, Has, Lawful}
use Rattle.model.specs.Cache.{RowSet, Held, Complete, Meets, Keeps}
use Rattle.model.specs.Holding.{Holding, held_in}
use Rattle.model.specs.Probe.{probe}

-- the set P of rows of D meets every constraint and every held value
pub record MeetsAll (S : Scheme) (D : Database) (H : Held) (P : ℕ → Type 0) : Type 0 where
  pub rows : (r : ℕ) → P r → D.live r ≡ true
  pub constraints : (i : ℕ) → i < S.constraints → (s : ℕ) (v : Cell) → P s → Has D (S.constraint i).source v s → (r : ℕ) → Has D (S.constraint i).target v r → P r
  pub values : (k : Column) (v : Cell) → H k v ≡ true → (r : ℕ) → Has D k v r → P r

-- the rows X meet them, and lie inside every set that does
pub record SmallestOfAll (S : Scheme) (D : Database) (H : Held) (X : RowSet) : Type 1 where
  pub meets : Meets S D H X
  pub least : (P : ℕ → Type 0) → MeetsAll S D H P → (r : ℕ) → X r ≡ true → P r

-- the databases that demand 3 quantifies over
pub record AlikeOfAll (S : Scheme) (D : Database) (H : Held) (X : RowSet) (E : Database) : Type 1 where
  pub lawful : Lawful S E
  pub keeps : Keeps D X E
  pub smallest : SmallestOfAll S E H X

-- DEMAND 3, of what is held and the rows that are cached
pub record Demand3OfAll (S : Scheme) (D : Database) (h : Holding) (X : RowSet) : Type 1 where
  pub smallest : SmallestOfAll S D (held_in S h) X
  pub yes : (k : Column) → ColumnOf S k → (v : Cell) → Fits v → numberless v ≡ false →
      probe S D (held_in S h) X k v ≢ 0 → (E : Database) → AlikeOfAll S D (held_in S h) X E → Complete E X k v
  pub only : (k : Column) → ColumnOf S k → (v : Cell) → Fits v → numberless v ≡ false →
      ((E : Database) → AlikeOfAll S D (held_in S h) X E → Complete E X k v) → probe S D (held_in S h) X k v ≢ 0
