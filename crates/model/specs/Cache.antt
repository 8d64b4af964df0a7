-- Row sets of a database, and which of them is the cache (003, definitions 2, 4 and 7). What is held reaches these definitions only as a
-- predicate on column and cell. Assumes nothing.
use Rattle.std.specs.Prelude.{ℕ, ◌<◌, ◌≡◌, Bool, true}
use Rattle.model.specs.Cell.{Cell}
use Rattle.model.specs.Scheme.{Column, Constraint, Scheme}
use Rattle.model.specs.Database.{Database, Has, Lawful}

-- a set of row numbers; "a row set is any set of backend rows"
abbrev pub RowSet : Type 0
RowSet = ℕ → Bool

abbrev pub Inside : RowSet → RowSet → Type 0
Inside X Y = (r : ℕ) → X r ≡ true → Y r ≡ true

-- which value is held in which column
abbrev pub Held : Type 0
Held = Column → Cell → Bool

-- 003, definition 2: the value v is complete in column k, with X as the cached rows
unfoldable pub Complete : Database → RowSet → Column → Cell → Type 0
Complete D X k v = (r : ℕ) → Has D k v r → X r ≡ true

-- 003, definition 4: the constraint holds, with X as the cached rows
unfoldable pub Holds : Database → RowSet → Constraint → Type 0
unfolding Complete
Holds D X j = (s : ℕ) (v : Cell) → X s ≡ true → Has D j.source v s → Complete D X j.target v

-- X is a row set of D that meets every constraint and every held value
pub record Meets (S : Scheme) (D : Database) (H : Held) (X : RowSet) : Type 0 where
  pub rows : Inside X D.live
  pub constraints : (i : ℕ) → i < S.constraints → Holds D X (S.constraint i)
  pub values : (k : Column) (v : Cell) → H k v ≡ true → Complete D X k v

-- "The cached rows are the smallest row set in which all constraints hold and all held values are complete": it lies inside every other
pub record Smallest (S : Scheme) (D : Database) (H : Held) (X : RowSet) : Type 0 where
  pub meets : Meets S D H X
  pub least : (Y : RowSet) → Meets S D H Y → Inside X Y

-- E has D's rows of X under their numbers
pub record Keeps (D : Database) (X : RowSet) (E : Database) : Type 0 where
  pub live : Inside X E.live
  pub table : (r : ℕ) → X r ≡ true → E.table r ≡ D.table r
  pub cell : (r c : ℕ) → X r ≡ true → E.cell r c ≡ D.cell r c

-- The databases that demand 3 quantifies over: lawful, with the cached rows under their numbers, and the same rows would have been cached from it.
-- Tables, constraints and fillings are the design's (the same S), and so are the held values (the same H).
pub record Alike (S : Scheme) (D : Database) (H : Held) (X : RowSet) (E : Database) : Type 0 where
  pub lawful : Lawful S E
  pub keeps : Keeps D X E
  pub smallest : Smallest S E H X
