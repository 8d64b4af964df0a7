-- A column's values while its rows are put in, from the last row to the first. Assumes nothing.
use Rattle.std.specs.Prelude.{ℕ, ◌+◌, ◌*◌, ◌≤◌, ◌<◌, ◌≡◌, Bool, true, List, ◌⊎◌, eqb, length, get_or, set}
use Rattle.finite.specs.Finite.{count}
use Rattle.model.specs.Scheme as Model
use Rattle.model.specs.Database.{Database}
use Rattle.catalog.specs.Catalog.{next_of, Listed}

-- ---- places

-- of the falling keys from place `from` to place `to`, those before place a are above x, and those from place e on are not
pub record Searched (from to x a e : ℕ) (keys : List ℕ) : Type 0 where
  pub start : from ≤ a
  pub order : a ≤ e
  pub end : e ≤ to
  pub above : (i : ℕ) → from ≤ i → i < a → x < get_or keys i 0
  pub below : (i : ℕ) → e ≤ i → i < to → get_or keys i 0 ≤ x

-- the elements from place a to place m have moved one place on
pub record Moved (a m : ℕ) (xs ys : List ℕ) : Type 0 where
  pub long : length ys ≡ length xs
  pub below : (i : ℕ) → i < a → get_or ys i 0 ≡ get_or xs i 0
  pub moved : (i : ℕ) → a ≤ i → i < m → get_or ys (i + 1) 0 ≡ get_or xs i 0

-- ... and v stands at place a
pub record Opened (a m v : ℕ) (xs ys : List ℕ) : Type 0 where
  pub moves : Moved a m xs ys
  pub here : get_or ys a 0 ≡ v

-- ---- row r's value, with the key x, is entered into the keys from place `from` to place m; they end at `to` then, and the value's first row was `next`

-- x stands there
pub record Known (x r from m : ℕ) (keys heads keys' heads' : List ℕ) (to next : ℕ) : Type 0 where
  pub at : ℕ
  pub start : from ≤ at
  pub end : at < m
  pub here : get_or keys at 0 ≡ x
  pub keys-are : keys' ≡ keys
  pub heads-are : heads' ≡ set heads at r
  pub to_is : to ≡ m
  pub next-is : next ≡ get_or heads at 0

-- x is new
pub record New (x r from m : ℕ) (keys heads keys' heads' : List ℕ) (to next : ℕ) : Type 0 where
  pub at : ℕ
  pub seat : Searched from m x at at keys
  pub other : at < m → get_or keys at 0 ≡ x → ⊥
  pub keys-are : Opened at m x keys keys'
  pub heads-are : Opened at m r heads heads'
  pub to_is : to ≡ m + 1
  pub next-is : next ≡ 512

abbrev pub Entered : ℕ → ℕ → ℕ → ℕ → List ℕ → List ℕ → List ℕ → List ℕ → ℕ → ℕ → Type 0
Entered x r from m keys heads keys' heads' to next = Known x r from m keys heads keys' heads' to next ⊎ New x r from m keys heads keys' heads' to next

-- ---- rows

-- number s has row table t: it is a row of table t, if there is such a table
abbrev pub in_table : Database → ℕ → ℕ → Bool
in_table D t s = eqb (D.table s) t

-- row r is put in
pub record Put (D : Database) (k : Model.Column) (r from m : ℕ) (keys heads next : List ℕ) (to : ℕ) (keys' heads' next' : List ℕ) : Type 0 where
  pub listed : Listed D k r from to keys' heads'
  pub room : to + count r (in_table D k.table) ≤ m + count (r + 1) (in_table D k.table)
  pub keys-long : length keys' ≡ length keys
  pub heads-long : length heads' ≡ length heads
  pub next-long : length next' ≡ length next
  pub keys_kept : (i : ℕ) → i < from → get_or keys' i 0 ≡ get_or keys i 0
  pub heads-kept : (i : ℕ) → i < from → get_or heads' i 0 ≡ get_or heads i 0
  pub own : D.table r ≡ k.table → get_or next' (8 * r + k.place) 0 ≡ next_of D r k.place
  pub others : (s c : ℕ) → c < 8 → ((D.table r ≡ k.table) × (c ≡ k.place) × (s ≡ r) → ⊥) → get_or next' (8 * s + c) 0 ≡ get_or next (8 * s + c) 0

-- the rows from r on are in
pub record Added (D : Database) (k : Model.Column) (r from : ℕ) (keys heads next : List ℕ) (to : ℕ) (keys' heads' next' : List ℕ) : Type 0 where
  pub listed : Listed D k r from to keys' heads'
  pub room : to + count r (in_table D k.table) ≤ from + count 512 (in_table D k.table)
  pub keys-long : length keys' ≡ length keys
  pub heads-long : length heads' ≡ length heads
  pub next-long : length next' ≡ length next
  pub keys_kept : (i : ℕ) → i < from → get_or keys' i 0 ≡ get_or keys i 0
  pub heads-kept : (i : ℕ) → i < from → get_or heads' i 0 ≡ get_or heads i 0
  pub done : (s : ℕ) → r ≤ s → D.live s ≡ true → D.table s ≡ k.table → get_or next' (8 * s + k.place) 0 ≡ next_of D s k.place
  pub others : (s c : ℕ) → c < 8 → ((D.table s ≡ k.table) × (c ≡ k.place) → ⊥) → get_or next' (8 * s + c) 0 ≡ get_or next (8 * s + c) 0
