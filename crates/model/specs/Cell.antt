-- A cell's value (01, "Tables, links and held values"; 02, Req 06: "A cell becomes a number u32 and an issue u8"). Everything else asks whether a cell is
-- blank or has no number, whether two are equal, which is the lower, whether one fits, and what one adds to a total; candidates go by the number
-- (`Scheme.antt`), a sentence shows number and issue (`Sentence.antt`), and a catalog orders values by both. Assumes nothing.
use Rattle.std.specs.Prelude.{ℕ, ◌<◌, ◌^◌, ◌≡◌, Bool, not, ◌&&◌, eqb, ltb}
use Rattle.finite.specs.Finite.{lower_then}

pub record Cell : Type 0 where
  pub number : ℕ
  pub issue : ℕ

-- a cell that can be stored: a u32 and a u8, and no issue on a blank
pub record Fits (a : Cell) : Type 0 where
  pub number : a.number < 2 ^ 32
  pub issue : a.issue < 2 ^ 8
  pub full : a.number ≡ 0 → a.issue ≡ 0

-- the cell with this number and issue
abbrev pub issued : ℕ → ℕ → Cell
issued n i = record { number = n; issue = i }

-- with issue 0, as "the old bytes mean"
abbrev pub numbered : ℕ → Cell
numbered n = issued n 0

-- "blank is number 0 with issue 0" (SQL null)
unfoldable pub blank : Cell
blank = numbered 0

-- what a cell adds to a total (02, Req 03: "blanks as 0"; Req 06: "totals add numbers alone")
unfoldable pub amount : Cell → ℕ
amount a = a.number

unfoldable pub is_blank : Cell → Bool
is_blank a = eqb a.number 0 && eqb a.issue 0

-- "value 0 in an operation is 9 with any issue, and demand 3's value other than blank is one whose number isn't 0"
unfoldable pub numberless : Cell → Bool
numberless a = eqb a.number 0

-- "a blank equals nothing, not even another blank"; "two cells are equal only if both are"
unfoldable pub equal : Cell → Cell → Bool
equal a b = not (is_blank a) && (eqb a.number b.number && eqb a.issue b.issue)

-- the lower of two values: by number, then by issue (02, Req 08: "the lowest filling, value and issue")
unfoldable pub lower_cell : Cell → Cell → Bool
lower_cell a b = lower_then a.number b.number (ltb a.issue b.issue)
