-- The fetches that were made as lent u32 words, five for each: 0 for a value or 1 for a span, table, column, then number and issue of the value, or first and last number
-- of the span. They stand in rising order, so that one is found by halving. Assumes nothing.
use Rattle.std.specs.Prelude.{Option, None, Some, ℕ, ◌+◌, ◌-◌, ◌*◌, ◌≤◌, ◌<◌, ◌≡◌, Bool, true, false, not, cond, ◌&&◌, List, eqb, leb, ltb, length, get_or}
use Rattle.finite.specs.Finite.{all, tab, lower_then}
use Rattle.model.specs.Cell.{Cell, issued, numbered}
use Rattle.model.specs.Scheme.{Column, Scheme, is_column}
use Rattle.model.specs.Database.{Database}
use Rattle.model.specs.Missing as Model
use Rattle.state.specs.declared.design.Constraint.{Constraint}
use Rattle.state.specs.declared.design.Design.{Design}
use Rattle.state.specs.Design.{constraint_at}
use Rattle.state.specs.Meaning.{column_of, scheme_of}
use Rattle.slice.specs.declared.fetch.Fetch.{Fetch}

-- ---- what they mean

abbrev pub column_in : Fetch → Column
column_in f = record { table = f.table; place = f.column }

unfoldable pub fetch_of : Fetch → Model.Fetch
fetch_of f = cond (eqb f.kind 0) (Model.value (column_in f) (issued f.number f.end)) (Model.span (column_in f) f.number f.end)

-- the fetch of one value, and of a span
abbrev pub value_fetch : Column → Cell → Fetch
value_fetch k v = record { kind = 0; table = k.table; column = k.place; number = v.number; end = v.issue }

abbrev pub span_fetch : Column → ℕ → ℕ → Fetch
span_fetch k low high = record { kind = 1; table = k.table; column = k.place; number = low; end = high }

-- number i of the words
unfoldable pub fetch_at : List ℕ → ℕ → Fetch
fetch_at ws i =
    record {
      kind = get_or ws (5 * i) 0;
      table = get_or ws (5 * i + 1) 0;
      column = get_or ws (5 * i + 2) 0;
      number = get_or ws (5 * i + 3) 0;
      end = get_or ws (5 * i + 4) 0;
    }

-- the first n
unfoldable pub fetches_in : List ℕ → ℕ → List Model.Fetch
fetches_in ws n = tab n (λ i. fetch_of (fetch_at ws i))

-- what an answer means
abbrev pub as_lack : Option Fetch → Model.Lack
as_lack None = Model.nothing
as_lack (Some f) = Model.lacks (fetch_of f)

-- ---- which are accepted

-- f stands before g, which is of the same kind and column: by number and issue; a span ends before the next one begins
unfoldable pub end_before : Fetch → Fetch → Bool
end_before f g = cond (eqb f.kind 0) (lower_then f.number g.number (ltb f.end g.end)) (ltb f.end g.number)

-- f stands before g: values before spans, then by table and column
unfoldable pub fetch_before : Fetch → Fetch → Bool
fetch_before f g = lower_then f.kind g.kind (lower_then f.table g.table (lower_then f.column g.column (end_before f g)))

-- the words name a column of the design, and a value with a number and an issue u8 there, or a span that isn't empty and begins above 0
unfoldable pub fetch_fits : Scheme → Fetch → Bool
fetch_fits S f = leb f.kind 1 && (is_column S (column_in f) && (leb 1 f.number && cond (eqb f.kind 0) (ltb f.end 256) (leb f.number f.end)))

-- fetch i stands behind the one before it
unfoldable pub is_behind : List ℕ → ℕ → Bool
is_behind ws i = cond (eqb i 0) true (fetch_before (fetch_at ws (i - 1)) (fetch_at ws i))

-- the first n fit and rise
unfoldable pub fetches_fit : Scheme → List ℕ → ℕ → Bool
fetches_fit S ws n = all n (λ i. fetch_fits S (fetch_at ws i) && is_behind ws i)

-- what the search by halves asks of them
pub record Ordered (ws : List ℕ) (n : ℕ) : Type 0 where
  pub long : 5 * n ≤ length ws
  pub kind : (i : ℕ) → i < n → (fetch_at ws i).kind ≤ 1
  pub rising : (i j : ℕ) → i < j → j < n → fetch_before (fetch_at ws i) (fetch_at ws j) ≡ true
  pub full : (i : ℕ) → i < n → 1 ≤ (fetch_at ws i).kind → (fetch_at ws i).number ≤ (fetch_at ws i).end

-- r is the first of them that doesn't stand before q; n if there is none
pub record Sought (ws : List ℕ) (n : ℕ) (q : Fetch) (r : ℕ) : Type 0 where
  pub bound : r ≤ n
  pub before : (i : ℕ) → i < r → fetch_before (fetch_at ws i) q ≡ true
  pub behind : r < n → fetch_before (fetch_at ws r) q ≡ false

-- ---- spans

-- f is a span of column k
unfoldable pub span_of : Fetch → Column → Bool
span_of f k = not (eqb f.kind 0) && (eqb f.table k.table && eqb f.column k.place)

-- f is the first span of column k that has x or a later number
pub record IsNextSpan (fs : List Model.Fetch) (k : Column) (x : ℕ) (f : Fetch) : Type 0 where
  pub reaches : x ≤ f.end
  pub order : f.number ≤ f.end
  pub has : (y : ℕ) → f.number ≤ y → y ≤ f.end → Model.is_spanned fs k y ≡ true
  pub none : (y : ℕ) → x ≤ y → y < f.number → Model.is_spanned fs k y ≡ false

-- if there is one
abbrev pub NextSpan : List Model.Fetch → Column → ℕ → Option Fetch → Type 0
NextSpan fs k x None = (y : ℕ) → x ≤ y → Model.is_spanned fs k y ≡ false
NextSpan fs k x (Some f) = IsNextSpan fs k x f

-- the numbers from x on and below y need no fetch in column k, x among them
pub record IsShut (S : Scheme) (D : Database) (fs : List Model.Fetch) (k : Column) (x y : ℕ) : Type 0 where
  pub order : x < y
  pub shut : (z : ℕ) → x ≤ z → z < y → Model.is_open S D fs k (numbered z) ≡ false

-- where there is no y, x itself must be fetched
abbrev pub Shut : Scheme → Database → List Model.Fetch → Column → ℕ → Option ℕ → Type 0
Shut S D fs k x None = Model.is_open S D fs k (numbered x) ≡ true
Shut S D fs k x (Some y) = IsShut S D fs k x y

-- x is the first number from low to high that must be fetched in column k, if there is one
abbrev pub FirstOpen : Scheme → Database → List Model.Fetch → Column → ℕ → ℕ → Option ℕ → Type 0
FirstOpen S D fs k high low None = high < Model.first_open S D fs k high low
FirstOpen S D fs k high low (Some x) = (x ≤ high) × (x ≡ Model.first_open S D fs k high low)

-- ---- constraints

-- the constraints of a design, and whether each ends at a unique column
pub record Ends (d : Design) (cs : List Constraint) (soles : List Bool) : Type 0 where
  pub same : cs ≡ d.constraint
  pub sole : (i : ℕ) → i < 16 → get_or soles i false ≡ (scheme_of d).unique (column_of (constraint_at d i).target)
