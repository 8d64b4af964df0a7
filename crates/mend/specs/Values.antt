-- The directory while a row's values come or go, column by column. Assumes nothing.
use Rattle.std.specs.Prelude.{ℕ, ◌+◌, ◌≤◌, ◌<◌, ◌≡◌, cond, List, ◌⊎◌, eqb, ltb, length, get_or, set}
use Rattle.model.specs.Database.{Database}
use Rattle.catalog.specs.Catalog.{Falls, Lists, heads_in, starts_in, Directory}
use Rattle.catalog.specs.Columns.{column_no}
use Rattle.catalog.specs.Listing.{Searched, Opened}

-- the columns below number n are listed of G, the others of D
pub record Changing (D G : Database) (n : ℕ) (keys heads starts : List ℕ) : Type 0 where
  pub keys-long : length keys ≡ 4096
  pub heads-long : length heads ≡ 4096
  pub starts-long : length starts ≡ 65
  pub done : (j : ℕ) → j < n → j < 64 → Lists G (column_no j) (get_or starts j 0) (get_or starts (j + 1) 0) keys heads
  pub rest : (j : ℕ) → n ≤ j → j < 64 → Lists D (column_no j) (get_or starts j 0) (get_or starts (j + 1) 0) keys heads

-- where each column begins, and that the keys of column n fall: what a search in it needs
pub record Seats (n : ℕ) (keys heads starts : List ℕ) : Type 0 where
  pub keys-long : length keys ≡ 4096
  pub heads-long : length heads ≡ 4096
  pub starts-long : length starts ≡ 65
  pub rises : (i j : ℕ) → i ≤ j → j < 65 → get_or starts i 0 ≤ get_or starts j 0
  pub end : get_or starts 64 0 ≤ 4096
  pub falls : Falls (get_or starts n 0) (get_or starts (n + 1) 0) keys

-- the columns behind number n begin one place on
pub record Raised (n : ℕ) (xs ys : List ℕ) : Type 0 where
  pub long : length ys ≡ length xs
  pub below : (j : ℕ) → j ≤ n → get_or ys j 0 ≡ get_or xs j 0
  pub above : (j : ℕ) → n < j → j < 65 → get_or ys j 0 ≡ get_or xs j 0 + 1

-- x stands at a place of column n
pub record Stands (x n at : ℕ) (keys starts : List ℕ) : Type 0 where
  pub start : get_or starts n 0 ≤ at
  pub end : at < get_or starts (n + 1) 0
  pub here : get_or keys at 0 ≡ x

-- ---- row r comes with the key x in column n

-- x stands there: its first row is r, if r stands before the first
pub record Met (x r n : ℕ) (keys heads starts keys' heads' starts' : List ℕ) : Type 0 where
  pub at : ℕ
  pub stands : Stands x n at keys starts
  pub keys-are : keys' ≡ keys
  pub heads-are : heads' ≡ set heads at (cond (ltb r (get_or heads at 0)) r (get_or heads at 0))
  pub starts-are : starts' ≡ starts

-- x is new: a place is opened for it, and all behind it moves one on
pub record Opens (x r n : ℕ) (keys heads starts keys' heads' starts' : List ℕ) : Type 0 where
  pub at : ℕ
  pub seat : Searched (get_or starts n 0) (get_or starts (n + 1) 0) x at at keys
  pub other : at < get_or starts (n + 1) 0 → get_or keys at 0 ≡ x → ⊥
  pub keys-are : Opened at (get_or starts 64 0) x keys keys'
  pub heads-are : Opened at (get_or starts 64 0) r heads heads'
  pub starts-are : Raised n starts starts'

abbrev pub Comes : ℕ → ℕ → ℕ → List ℕ → List ℕ → List ℕ → List ℕ → List ℕ → List ℕ → Type 0
Comes x r n keys heads starts keys' heads' starts' = Met x r n keys heads starts keys' heads' starts' ⊎ Opens x r n keys heads starts keys' heads' starts'

-- ---- row r goes, which has the key x in column n and the next row `next` there

-- another row has x
pub record Stays (x r n next : ℕ) (keys heads starts keys' heads' starts' : List ℕ) : Type 0 where
  pub at : ℕ
  pub stands : Stands x n at keys starts
  pub keys-are : keys' ≡ keys
  pub heads-are : heads' ≡ set heads at (cond (eqb (get_or heads at 0) r) next (get_or heads at 0))
  pub starts-are : starts' ≡ starts

-- none has: its place is closed, and all behind it moves back, so that the arrays before are those after with a place opened
pub record Closes (x r n next : ℕ) (keys heads starts keys' heads' starts' : List ℕ) : Type 0 where
  pub at : ℕ
  pub stands : Stands x n at keys starts
  pub first : get_or heads at 0 ≡ r
  pub last : 512 ≤ next
  pub keys-are : Opened at (get_or starts' 64 0) x keys' keys
  pub heads-are : Opened at (get_or starts' 64 0) r heads' heads
  pub starts-are : Raised n starts' starts

abbrev pub Goes : ℕ → ℕ → ℕ → ℕ → List ℕ → List ℕ → List ℕ → List ℕ → List ℕ → List ℕ → Type 0
Goes x r n next keys heads starts keys' heads' starts' = Stays x r n next keys heads starts keys' heads' starts' ⊎ Closes x r n next keys heads starts keys' heads' starts'

-- ---- the catalog's array

-- the directory is D's, and nothing before it is another
pub record Redirected (D : Database) (keys xs ys : List ℕ) : Type 0 where
  pub directory : Directory D keys (heads_in ys) (starts_in ys)
  pub long : length ys ≡ length xs
  pub before : (x : ℕ) → x < 12288 → get_or ys x 0 ≡ get_or xs x 0
