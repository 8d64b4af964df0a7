-- A catalog of the rows read is a catalog of the buffers that they are copied to: it says nothing of what lies past 512 rows. Assumes nothing.
use Prim.Native.Nat.{ℕ, ◌+◌, ◌*◌, ◌/◌, ◌%◌, ◌≤◌, ◌<◌}
use native.Mathlib.Decide.{dec_lt}
use native.Mathlib.Omega.{arith}
use mathlib.Core.Path.{◌≡◌, refl, sym, ap, ap₂, ◌∙◌}
use mathlib.Core.Bool.{Bool, true, false, not, cond, ◌&&◌}
use mathlib.Core.List.{List, ◌++◌}
use borrow.Author.Tests.{le-ltb}
use lib.Dec.{eqb, ltb}
use lib.ListN.{length, get_or, get_or-append}
use Rattle.finite.proofs.Bools.{clash, and_left}
use Rattle.finite.proofs.Tables.{tab-same}
use Rattle.model.specs.Cell.{Cell, equal}
use Rattle.model.specs.Scheme as Model
use Rattle.model.specs.Scheme.{Scheme}
use Rattle.model.specs.Database.{Database, has}
use Rattle.model.specs.Rounds.{leads}
use Rattle.state.specs.Cells.{Cells, cells_in}
use Rattle.state.specs.declared.design.Design.{Design}
use Rattle.state.specs.Meaning.{free_table, cell_in, scheme_of, database_of}
use Rattle.finite.specs.Finite.{first_from}
use Rattle.catalog.specs.Catalog.{column_at, next_of, demanded_first, key_of, value_of, Listed, Directory, heads_in, starts_in, Links, Catalogued}
use Rattle.format.proofs.CellsLaws.{same-cell}
use Rattle.format.proofs.LawfulLaws.{SameRow, same_row, live_same}

-- which rows have a value, as a test of any kind; and the rows that constraint j demands by it of a row that is live or not, with its table and cell
abbrev Test : Type 0
Test = Model.Column → Cell → ℕ → Bool

abbrev leading : Model.Constraint → Test → Bool → ℕ → Cell → ℕ → Bool
leading j h b t v r = b && (eqb t j.source.table && h j.target v r)

module _ (D E : Database) (live : (r : ℕ) → D.live r ≡ E.live r) (dead : (r : ℕ) → 512 ≤ r → D.live r ≡ false)
    (same : (r : ℕ) → r < 512 → SameRow D E r) where
  has-alike : (k : Model.Column) (v : Cell) (r : ℕ) → has D k v r ≡ has E k v r
  unfolding has
  has-alike k v r = go (dec_lt r 512)
    where
      go : Dec (r < 512) → has D k v r ≡ has E k v r
      go (yes l) = ap₂ ◌&&◌ (live r) (ap₂ (λ t x. eqb t k.table && equal x v) (same r l).table ((same r l).cell k.place))
      go (no l) = and_left (D.live r) _ (dead r (omega arith)) ∙ sym (and_left (E.live r) _ (sym (live r) ∙ dead r (omega arith)))

  has-none : (k : Model.Column) (v : Cell) (r : ℕ) → 512 ≤ r → has E k v r ≡ false
  unfolding has
  has-none k v r l = and_left (E.live r) _ (sym (live r) ∙ dead r l)

  -- as functions
  has-is : has D ≡ has E
  has-is = λ i k v r. has-alike k v r i

  next-alike : (r c : ℕ) → r < 512 → next_of D r c ≡ next_of E r c
  unfolding next_of
  next-alike r c l =
      ap (λ (h : Test).
      cond (h (column_at D r c) (D.cell r c) r) (first_from 512 (h (column_at D r c) (D.cell r c)) (r + 1)) 512) has-is ∙
      ap₂ (λ (t : ℕ) (v : Cell). cond (has E (record { table = t; place = c }) v r) (first_from 512 (has E (record { table = t; place = c }) v) (r + 1)) 512)
      (same r l).table ((same r l).cell c)

  leads-alike : (j : Model.Constraint) (s : ℕ) → s < 512 → leads D j s ≡ leads E j s
  unfolding leads
  leads-alike j s l =
      let v = D.cell s j.source.place in
      ap (λ (h : Test). leading j h (D.live s) (D.table s) v) has-is ∙ ap (λ (b : Bool). leading j (has E) b (D.table s) v) (live s) ∙
      ap₂ (leading j (has E) (E.live s)) (same s l).table ((same s l).cell j.source.place)

  first_alike : (S : Scheme) (i s : ℕ) → s < 512 → demanded_first S D i s ≡ demanded_first S E i s
  unfolding demanded_first
  first_alike S i s l = ap (λ (p : ℕ → Bool). cond (ltb i S.constraints) (first_from 512 p 0) 512) (leads-alike (S.constraint i) s l)

  directory-alike : (keys heads starts : List ℕ) → Directory D keys heads starts → Directory E keys heads starts
  directory-alike keys heads starts f =
      record {
        keys-long = f.keys-long;
        heads-long = f.heads-long;
        starts-long = f.starts-long;
        column = λ t c a b. listed (record { table = t; place = c }) _ _ (f.column t c a b);
      }
    where
      listed : (k : Model.Column) (from to : ℕ) → Listed D k 0 from to keys heads → Listed E k 0 from to keys heads
      listed k from to g =
          record {
            order = g.order;
            bound = g.bound;
            falls = g.falls;
            value = g.value;
            head = λ i a b. g.head i a b ∙ ap (λ (h : Test). first_from 512 (h k (value_of (get_or keys i 0))) 0) has-is;
            there = λ s a h. there s h (dec_lt s 512);
          }
        where
          there : (s : ℕ) → has E k (E.cell s k.place) s ≡ true → Dec (s < 512)
              → (i : ℕ) × (from ≤ i) × (i < to) × (get_or keys i 0 ≡ key_of (E.cell s k.place))
          there s h (yes l) =
              let e = (same s l).cell k.place in
              let y = g.there s (omega arith) (has-alike k (D.cell s k.place) s ∙ ap (λ (v : Cell). has E k v s) e ∙ h) in
              (y.0, y.1, y.2, y.3 ∙ ap key_of e)
          there s h (no l) = clash h (has-none k (E.cell s k.place) s (omega arith))

-- the first 512 rows of both are the same
pub catalogued-as : (d : Design) (cells : Cells) (tables : List ℕ) (cells' : Cells) (tables' catalog keys : List ℕ)
    → ((x : ℕ) → x < 4096 → cell_in cells' x ≡ cell_in cells x) → ((r : ℕ) → r < 512 → get_or tables' r 0 ≡ get_or tables r 0)
    → Catalogued (scheme_of d) (database_of cells tables) catalog keys → Catalogued (scheme_of d) (database_of cells' tables') catalog keys
unfolding database_of
catalogued-as d cells tables cells' tables' catalog keys a b f =
    record {
      demands = record {
        links = links;
        first-is = f.demands.first-is ∙ tab-same 8192 _ _ (λ x l. first_alike D E live (dead tables) same (scheme_of d) (x / 512) (x % 512) (omega arith));
      };
      index = record { links = links; directory = directory-alike D E live (dead tables) same keys (heads_in catalog) (starts_in catalog) f.index.directory };
    }
  where
    D : Database
    D = database_of cells tables

    E : Database
    E = database_of cells' tables'

    dead : (xs : List ℕ) (r : ℕ) → 512 ≤ r → ltb r 512 && not (eqb (get_or xs r 0) free_table) ≡ false
    dead xs r l = and_left (ltb r 512) _ (le-ltb r 512 l)

    live : (r : ℕ) → D.live r ≡ E.live r
    live r = at (dec_lt r 512)
      where
        at : Dec (r < 512) → D.live r ≡ E.live r
        at (yes l) = live_same cells cells' tables tables' r (sym (b r l))
        at (no l) = dead tables r (omega arith) ∙ sym (dead tables' r (omega arith))

    same : (r : ℕ) → r < 512 → SameRow D E r
    same r l = same_row cells cells' tables tables' r (sym (b r l)) (λ c h. sym (a (8 * r + c) (omega arith)))

    links : Links E catalog
    links = record {
      long = f.demands.links.long;
      size_is = refl;
      next-is = f.demands.links.next-is ∙ tab-same 4096 _ _ (λ x l. next-alike D E live (dead tables) same (x / 8) (x % 8) (omega arith));
    }

-- what is copied out
pub catalogued-copied : (d : Design) (cells : Cells) (tables more others rest catalog keys : List ℕ)
    → length cells.numbers ≡ 4096 → length cells.issues ≡ 4096 → length tables ≡ 512 → Catalogued (scheme_of d) (database_of cells tables) catalog keys
    → Catalogued (scheme_of d) (database_of (cells_in (cells.numbers ++ more) (cells.issues ++ others)) (tables ++ rest)) catalog keys
catalogued-copied d cells tables more others rest catalog keys a c b f =
    catalogued-as d cells tables (cells_in (cells.numbers ++ more) (cells.issues ++ others)) (tables ++ rest) catalog keys
    (λ x l. same-cell (cells_in (cells.numbers ++ more) (cells.issues ++ others)) cells x x
    (get_or-append cells.numbers more 0 x (omega arith)) (get_or-append cells.issues others 0 x (omega arith)))
    (λ r l. get_or-append tables rest 0 r (omega arith)) f
