-- A design with rows is lawful if and only if some script gives it, by its design commands and by 0x1D and 0x1E behind its END. Assumes nothing.
use Prim.Native.Nat.{ℕ, zero, suc, ◌+◌, ◌*◌, ◌≤◌, ◌<◌}
use native.Mathlib.Numerals.{add-one}
use native.Mathlib.Omega.{arith}
use mathlib.Core.Path.{◌≡◌, refl, sym, ap, subst, ◌∙◌}
use mathlib.Core.Bool.{Bool, true, false, not, cond}
use mathlib.Core.List.{List, [], ◌∷◌, ◌++◌}
use mathlib.Core.Logic.{◌↔◌, ⊎_elim}
use borrow.Author.Tests.{eqb-true, ne_eqb, ltb-true, lt-ltb, le-ltb}
use lib.Dec.{eqb, ltb, lit<}
use lib.ListN.{length, get_or, set, length-append}
use lib.Seq.{sets, set-get_or}
use Rattle.finite.specs.Finite.{tab, collect}
use Rattle.finite.proofs.Bools.{dec, clash, both, same_number, and_right, cond-true, cond-false}
use Rattle.finite.proofs.Tables.{length-tab, tab-at, tab-of, Upto, upto-here, upto-set, upto-keep, upto-end}
use Rattle.finite.proofs.Collecting.{collect-most}
use Rattle.model.specs.Cell as Model-cell
use Rattle.model.specs.Cell.{Fits, blank, is_blank, equal}
use Rattle.model.specs.Scheme.{Column, Scheme}
use Rattle.model.specs.Database.{Database, Has}
use Rattle.model.proofs.CellLaws.{blank-fits, blank-is, equal-full}
use Rattle.state.specs.declared.cell.Cell.{Cell}
use Rattle.state.specs.declared.design.Design.{Design}
use Rattle.state.specs.Cells.{Cells, cells_in}
use Rattle.state.specs.Design.{Backed}
use Rattle.state.specs.Held.{no_cell}
use Rattle.state.specs.Meaning.{cell_of, cell_at, free_table, scheme_of, database_of}
use Rattle.state.specs.Lawful.{lawful_design, lawful_rows}
use Rattle.state.specs.Changes.{Change, put, remove, Rows, rows_in, tables_of, row_of, stored, change_cause, rows_after}
use Rattle.lawful.specs.LawfulState.{LawfulRows}
use Rattle.lawful.proofs.DesignLaws.{design-says}
use Rattle.lawful.proofs.RowsLaws.{live_below, rows-say, rows-if}
use Rattle.lawful.proofs.StoredLaws.{RowSized, free-sized, put-lawful, removed-lawful}
use Rattle.lawful.proofs.SoundChange.{put-free, remove-cause, number-below, rows-changed, rows-unchanged}
use Rattle.command.specs.declared.command.Command.{Command}
use Rattle.command.specs.declared.command.Command.TheVariants.{Table, Constraint, Filling, Row, End, Operate, Put, Remove, Unknown, Short}
use Rattle.command.specs.Bytes.{byte_at}
use Rattle.command.specs.Commands.{command_at, width_of, put_row_at}
use Rattle.format.specs.Reading.{draft}
use Rattle.format.specs.Writing.{design_bytes, Dense}
use Rattle.format.proofs.Small.{small-design}
use Rattle.format.proofs.Reached.{Sizes}
use Rattle.writing.proofs.ReadBack.{Numbers}
use Rattle.writing.proofs.RoundTrip.{design-short, read-written}
use Rattle.format.proofs.Reached.{accepted-lawful}
use Rattle.run.specs.Moments.{Action, change, Moment, moment_after, moment_from}
use Rattle.script.specs.Step.{Rooms}
use Rattle.run.specs.Runs.{action_then, actions_from, beginning}
use Rattle.script.proofs.Places.{put-sized}
use Rattle.script.proofs.LongerRows.{RowsSized, sized-after}
use Rattle.demands.specs.Given.{GivenBy}
use Rattle.model.specs.Holding.{Holding, nothing_held}
use Rattle.demands.specs.Orders.{Order, removing, order_action, OrderFits, orders_bytes, orders_actions}
use Rattle.demands.proofs.Holdings.{behind, behind-append}
use Rattle.demands.proofs.Orders.{Within, within-one, within-append, AllFit, fit-more, orders-within, orders-long, actions-are}

-- ---- what a script gives is lawful

module _ (d : Design) (h : lawful_design d ≡ true) where
  abbrev S : Scheme
  S = scheme_of d

  record Fine (R : Rows) : Type 0 where
    lawful : lawful_rows d R.cells R.tables ≡ true
    sized : RowsSized R

  backed : (R : Rows) → RowsSized R → Backed R.cells R.tables
  backed R z = record { rows = omega (arith, z.numbers); issued = omega (arith, z.issues); members = omega (arith, z.tables) }

  stored-fine : (R : Rows) (x : Change) → RowSized (row_of x) → Fine R → change_cause S R x ≡ 0 → lawful_rows d (rows_after S R x).cells (rows_after S R x).tables ≡ true
  stored-fine R (put r x) z f e =
      let c = put-free S R r x e in
      subst (λ (T : Rows). lawful_rows d T.cells T.tables ≡ true) (sym (rows-changed S R (put r x) e))
      (put-lawful R r x z (number-below S R (put r x) e) (backed R f.sized) d (design-says d h).tables f.lawful c.1 c.2)
  stored-fine R (remove r) z f e =
      subst (λ (T : Rows). lawful_rows d T.cells T.tables ≡ true) (sym (rows-changed S R (remove r) e))
      (removed-lawful R r (number-below S R (remove r) e) (backed R f.sized) d f.lawful)

  changed-fine : (R : Rows) (x : Change) → RowSized (row_of x) → Fine R → Fine (rows_after S R x)
  changed-fine R x z f =
      ⊎_elim (λ (e : change_cause S R x ≡ 0). record { lawful = stored-fine R x z f e; sized = sized-after S R x f.sized })
      (λ (e : change_cause S R x ≡ 0 → ⊥). subst Fine (sym (rows-unchanged S R x e)) f)
      (same_number (change_cause S R x) 0)

  module _ (script : List ℕ) (rooms : Rooms) where
    then-fine : (i : ℕ) (rest : List Action) → ((m : Moment) → Fine m.rows → Fine (moment_from S m rest).rows) → (c : Command) (m : Moment) → Fine m.rows →
        Fine (moment_from S m (action_then script i c rooms rest)).rows
    unfolding moment_from moment_after
    then-fine i rest k (Operate op) m f = k _ f
    then-fine i rest k (Put r t) m f = k _ (changed-fine m.rows (put r (put_row_at script i)) (put-sized script i) f)
    then-fine i rest k (Remove r) m f = k _ (changed-fine m.rows (remove r) free-sized f)
    then-fine i rest k (Table t) m f = k m f
    then-fine i rest k (Constraint t) m f = k m f
    then-fine i rest k (Filling t) m f = k m f
    then-fine i rest k (Row t) m f = k m f
    then-fine i rest k End m f = k m f
    then-fine i rest k Unknown m f = f
    then-fine i rest k Short m f = f

    from-fine : (n i : ℕ) (m : Moment) → Fine m.rows → Fine (moment_from S m (actions_from n script rooms i)).rows
    unfolding actions_from moment_from
    from-fine zero i m f = f
    from-fine (suc n) i m f = then-fine i (actions_from n script rooms (i + width_of (byte_at script i))) (from-fine n (i + width_of (byte_at script i))) (command_at script i) m f

given-lawful : (d : Design) (cells : Cells) (tables : List ℕ) (h : Holding) (script : List ℕ) → GivenBy d cells tables h script → (lawful_design d ≡ true) × (lawful_rows d cells tables ≡ true)
given-lawful d cells tables h script g =
    let p = g.draft in
    let a = accepted-lawful script (record { at = g.bytes }) p g.place g.read in
    let z = a.2 in
    let none : Rooms = record { words = 0; bytes = 0 } in
    let f = from-fine p.design a.0 script none (length script) g.place (beginning p)
    (record { lawful = a.1; sized = record { numbers = z.cells; issues = z.issues; tables = z.tables } }) in (
      ap lawful_design (sym g.design) ∙ a.0,
      subst (λ (e : Design). lawful_rows e cells tables ≡ true) g.design
          (subst (λ (R : Rows). lawful_rows p.design R.cells R.tables ≡ true) (ap (λ (m : Moment). m.rows) (g.moment none)) f.lawful),
    )

positive-tables : (d : Design) → 0 < d.tables → 0 < (scheme_of d).tables
unfolding scheme_of
positive-tables d l = l

no-tables : (d : Design) → d.tables ≡ 0 → (t : ℕ) → t < (scheme_of d).tables → ⊥
unfolding scheme_of
no-tables d e t l = omega (arith, e, l)

-- ---- 0x1E, for each of a list of numbers

removals : List ℕ → List Order
removals [] = []
removals (n ∷ ns) = removing n ∷ removals ns

length-removals : (ns : List ℕ) → length (removals ns) ≡ length ns
unfolding removals
length-removals [] = refl
length-removals (n ∷ ns) = ap suc (length-removals ns)

removals-fit : (ns : List ℕ) → Within 65536 ns → (more : List Order) → AllFit more → AllFit (removals ns ++ more)
unfolding removals OrderFits
removals-fit [] w more f = f
removals-fit (n ∷ ns) w more f = fit-more (removing n) (removals ns ++ more) (w 0) (removals-fit ns (λ j. w (suc j)) more f)

-- the rows behind them
removed : Scheme → Rows → List ℕ → Rows
removed S R [] = R
removed S R (n ∷ ns) = removed S (rows_after S R (remove n)) ns

removed-append : (S : Scheme) (R : Rows) (xs ys : List ℕ) → removed S R (xs ++ ys) ≡ removed S (removed S R xs) ys
unfolding removed
removed-append S R [] ys = refl
removed-append S R (x ∷ xs) ys = removed-append S (rows_after S R (remove x)) xs ys

removed-moment : (S : Scheme) (ns : List ℕ) (m : Moment) → behind S m (removals ns) ≡ record { rows = removed S m.rows ns; held = m.held }
unfolding moment_from moment_after removals removed orders_actions order_action
removed-moment S [] m = refl
removed-moment S (n ∷ ns) m = removed-moment S ns (moment_after S m (change (remove n)))

-- ---- a design with rows without gaps, from which some are removed

-- `more` is what the script does behind that, by which k is held
module _ (d : Design) (cells : Cells) (tables : List ℕ) (h : lawful_design d ≡ true) (z : Sizes (draft d 0 cells tables)) (numbers : Numbers d cells) (more : List Order)
    (fit : AllFit more) (few-more : length more ≤ 200) (k : Holding)
    (gives : (m : Moment) → m.held ≡ nothing_held → behind (scheme_of d) m more ≡ record { rows = m.rows; held = k }) where
  given-from : (n : ℕ) (from : List ℕ) → length from ≡ 512 → lawful_rows d cells from ≡ true → Dense n cells from → (ns : List ℕ) → Within 65536 ns → length ns ≤ 512 →
      removed (scheme_of d) (rows_in cells from) ns ≡ rows_in cells tables → GivenBy d cells tables k (design_bytes d cells from ++ orders_bytes (removals ns ++ more))
  given-from n from long g dense ns w few is =
      let front = design_bytes d cells from in
      let os = removals ns ++ more in
      let s = front ++ orders_bytes os in
      let all : AllFit os = removals-fit ns w more fit in
      let count : length os ≤ 712 = omega (arith, length-append (removals ns) more, length-removals ns, few, few-more) in
      let wide = orders-long os in
      let size : length s ≤ 65536 = omega (arith, length-append front (orders_bytes os), design-short d cells from h, wide.1, count) in
      let S = scheme_of d in
      let m = beginning (draft d n cells from) in
      record {
        bytes = within-append 256 front (orders_bytes os) (small-design d cells from numbers.issue h g).at (orders-within os all);
        draft = draft d n cells from;
        place = length front;
        read =
            read-written d n cells from h g dense
            (record { table = z.table; constraint = z.constraint; filling = z.filling; cells = z.cells; issues = z.issues; tables = long }) numbers (orders_bytes os) size;
        design = refl;
        stored = record { number = numbers.cell; issue = numbers.issue };
        moment = λ rooms.
            ap (moment_from S m) (actions-are s rooms os all front refl (length s) (omega (arith, length-append front (orders_bytes os), wide.0))) ∙
            behind-append S m (removals ns) more ∙ ap (λ (x : Moment). behind S x more) (removed-moment S ns m) ∙ gives _ refl ∙
            (λ i. record { rows = is i; held = k });
      }

  -- ---- rows with gaps: a row of table 0 that is blank stands in each gap, and is removed again

  module _ (g : lawful_rows d cells tables ≡ true) where
    abbrev D : Database
    D = database_of cells tables

    rows : LawfulRows d cells tables
    rows = rows-say d cells tables (record { number = numbers.cell; issue = numbers.issue }) g

    is_gap : ℕ → Bool
    is_gap r = eqb (get_or tables r 0) free_table

    fill : ℕ → ℕ
    fill r = cond (eqb (get_or tables r 0) free_table) 0 (get_or tables r 0)

    filled : List ℕ
    filled = tab 512 fill

    gap-dead : (r : ℕ) → is_gap r ≡ true → D.live r ≡ false
    unfolding database_of is_gap
    gap-dead r e = and_right (ltb r 512) (not (eqb (get_or tables r 0) free_table)) (ap not e)

    row-live : (r : ℕ) → r < 512 → is_gap r ≡ false → D.live r ≡ true
    unfolding database_of is_gap
    row-live r l e = both (lt-ltb r 512 l) (ap not e)

    gap-cell : (r c : ℕ) → r < 512 → c < 8 → is_gap r ≡ true → cell_at cells r c ≡ no_cell
    gap-cell r c l b e = rows.cell_rest r c l b (gap-dead r e)

    fill-gap : (r : ℕ) → is_gap r ≡ true → fill r ≡ 0
    unfolding fill is_gap
    fill-gap r e = cond-true (eqb (get_or tables r 0) free_table) 0 (get_or tables r 0) e

    fill-row : (r : ℕ) → is_gap r ≡ false → fill r ≡ get_or tables r 0
    unfolding fill is_gap
    fill-row r e = cond-false (eqb (get_or tables r 0) free_table) 0 (get_or tables r 0) e

    fill-used : (r : ℕ) → eqb (fill r) free_table ≡ false
    unfolding fill is_gap
    fill-used r =
        ⊎_elim (λ (e : is_gap r ≡ true). ap (λ (t : ℕ). eqb t free_table) (fill-gap r e) ∙ ne_eqb 0 255 (λ z. omega (arith, z)))
        (λ (e : is_gap r ≡ false). ap (λ (t : ℕ). eqb t free_table) (fill-row r e) ∙ e)
        (dec (is_gap r))

    filled_at : (r : ℕ) → r < 512 → get_or filled r 0 ≡ fill r
    unfolding filled
    filled_at r l = tab-at 0 512 fill r l

    filled_live : (r : ℕ) → r < 512 → (database_of cells filled).live r ≡ true
    unfolding database_of
    filled_live r l = both (lt-ltb r 512 l) (ap (λ (t : ℕ). not (eqb t free_table)) (filled_at r l) ∙ ap not (fill-used r))

    filled-dense : Dense 512 cells filled
    filled-dense = record { most = omega arith; live = λ r l. filled_live r l ∙ sym (lt-ltb r 512 l) }

    gap-blank : (r c : ℕ) → r < 512 → is_gap r ≡ true → (database_of cells filled).cell r c ≡ blank
    unfolding database_of blank
    gap-blank r c l e =
        ⊎_elim (λ (q : ltb c 8 ≡ true). cond-true (ltb c 8) _ _ q ∙ ap cell_of (gap-cell r c l (ltb-true c 8 q) e)) (λ (q : ltb c 8 ≡ false). cond-false (ltb c 8) _ _ q)
        (dec (ltb c 8))

    same-cell : (r c : ℕ) → (database_of cells filled).cell r c ≡ D.cell r c
    unfolding database_of
    same-cell r c = refl

    module _ (some : 0 < d.tables) where
      abbrev E : Database
      E = database_of cells filled

      below : (r : ℕ) → E.live r ≡ true → r < 512
      below r l = live_below cells filled r l

      table_is : (r : ℕ) → r < 512 → E.table r ≡ fill r
      unfolding database_of
      table_is r l = filled_at r l

      table-was : (r : ℕ) → r < 512 → is_gap r ≡ false → E.table r ≡ D.table r
      unfolding database_of
      table-was r l e = filled_at r l ∙ fill-row r e

      -- a row that has a value is no gap
      valued : (k : Column) (v : Model-cell.Cell) (r : ℕ) → Has E k v r → is_gap r ≡ false
      valued k v r h =
          ⊎_elim (λ (e : is_gap r ≡ true). clash (ap is_blank (gap-blank r k.place (below r h.live) e) ∙ blank-is) (equal-full _ v h.value))
          (λ (e : is_gap r ≡ false). e)
          (dec (is_gap r))

      was : (k : Column) (v : Model-cell.Cell) (r : ℕ) → Has E k v r → Has D k v r
      was k v r h =
          let l = below r h.live in let e = valued k v r h in
          record {
            live = row-live r l e;
            table = sym (table-was r l e) ∙ h.table;
            value = subst (λ (a : Model-cell.Cell). equal a v ≡ true) (same-cell r k.place) h.value;
          }

      filled-lawful : lawful_rows d cells filled ≡ true
      filled-lawful =
          rows-if (record {
            database = record {
              cells = λ r c l. ⊎_elim (λ (e : is_gap r ≡ true). subst Fits (sym (gap-blank r c (below r l) e)) blank-fits)
                  (λ (e : is_gap r ≡ false). subst Fits (sym (same-cell r c)) (rows.database.cells r c (row-live r (below r l) e)))
                  (dec (is_gap r));
              tables = λ r l. ⊎_elim (λ (e : is_gap r ≡ true). subst (λ (t : ℕ). t < (scheme_of d).tables) (sym (table_is r (below r l) ∙ fill-gap r e)) positive)
                  (λ (e : is_gap r ≡ false). subst (λ (t : ℕ). t < (scheme_of d).tables) (sym (table-was r (below r l) e)) (rows.database.tables r (row-live r (below r l) e)))
                  (dec (is_gap r));
              blanks = λ r c l m. ⊎_elim (λ (e : is_gap r ≡ true). gap-blank r c (below r l) e)
                  (λ (e : is_gap r ≡ false). same-cell r c ∙ rows.database.blanks r c (row-live r (below r l) e)
                  (subst (λ (t : ℕ). (scheme_of d).columns t ≤ c) (table-was r (below r l) e) m))
                  (dec (is_gap r));
              unique = λ k v r q u a b. rows.database.unique k v r q u (was k v r a) (was k v q b);
            };
            cell_rest = λ r c l b e. clash (filled_live r l) e;
          })
        where
          positive : 0 < (scheme_of d).tables
          positive = positive-tables d some

    -- ---- the rows behind the first n numbers

    one : ℕ → List ℕ
    one r = r ∷ []

    gaps : ℕ → List ℕ
    gaps n = collect n is_gap one

    zeros-kept : (k : ℕ) (l : List ℕ) (i : ℕ) → ((c : ℕ) → c < k → get_or l (i + c) 0 ≡ 0) → sets l i (tab k (λ _. 0)) ≡ l
    unfolding tab
    zeros-kept zero l i f = refl
    zeros-kept (suc k) l i f =
        let e : get_or l i 0 ≡ 0 = ap (λ (j : ℕ). get_or l j 0) (omega arith) ∙ f 0 (omega arith) in
        ap (λ (x : List ℕ). sets x (suc i) (tab k (λ _. 0))) (ap (set l i) (sym e) ∙ set-get_or l i 0) ∙
        zeros-kept k l (suc i) (λ c m. ap (λ (j : ℕ). get_or l j 0) (omega arith) ∙ f (suc c) (omega arith))

    record At (n : ℕ) (R : Rows) : Type 0 where
      kept : R.cells ≡ cells
      upto : Upto 0 512 n (λ r. get_or tables r 0) fill R.tables

    start-at : At 0 (rows_in cells filled)
    unfolding filled
    start-at =
        record {
          kept = refl;
          upto = record { long = length-tab 512 fill; at = λ r l. filled_at r l ∙ sym (cond-false (ltb r 0) (get_or tables r 0) (fill r) (le-ltb r 0 (omega arith))) };
        }

    gap_at : (n : ℕ) → n < 512 → (R : Rows) → At n R → is_gap n ≡ true → At (n + 1) (rows_after (scheme_of d) R (remove n))
    unfolding database_of stored is_gap
    gap_at n l R a e =
        let here : get_or R.tables n 0 ≡ 0 = upto-here 0 512 n (λ r. get_or tables r 0) fill R.tables a.upto l ∙ fill-gap n e in
        let live : (tables_of R).live n ≡ true = both (lt-ltb n 512 l) (ap (λ (t : ℕ). not (eqb t free_table)) here ∙ ap not (ne_eqb 0 255 (λ q. omega (arith, q)))) in
        let cause : change_cause (scheme_of d) R (remove n) ≡ 0 = sym (remove-cause (scheme_of d) R n true live) in
        let zero_number : (c : ℕ) → c < 8 → get_or cells.numbers (8 * n + c) 0 ≡ 0 = λ c b. ap (λ (x : Cell). x.number) (gap-cell n c l b e) in
        let zero-issue : (c : ℕ) → c < 8 → get_or cells.issues (8 * n + c) 0 ≡ 0 = λ c b. ap (λ (x : Cell). x.issue) (gap-cell n c l b e) in
        subst (At (n + 1)) (sym (rows-changed (scheme_of d) R (remove n) cause))
        (record {
          kept =
              ap (λ (x : Cells). cells_in (sets x.numbers (8 * n) (tab 8 (λ _. 0))) (sets x.issues (8 * n) (tab 8 (λ _. 0)))) a.kept ∙
              (λ i. cells_in (zeros-kept 8 cells.numbers (8 * n) zero_number i) (zeros-kept 8 cells.issues (8 * n) zero-issue i));
          upto = upto-set 0 512 n (λ r. get_or tables r 0) fill R.tables a.upto l 255 (sym (eqb-true _ _ e));
        })

    rows_at : (n : ℕ) → n ≤ 512 → At n (removed (scheme_of d) (rows_in cells filled) (gaps n))
    unfolding gaps collect removed one
    rows_at zero l = start-at
    rows_at (suc n) l =
        let R = removed (scheme_of d) (rows_in cells filled) (gaps n) in
        let a : At n R = rows_at n (omega arith) in
        subst (λ (T : Rows). At (suc n) T) (sym (removed-append (scheme_of d) (rows_in cells filled) (gaps n) (cond (is_gap n) (n ∷ []) [])))
        (subst (λ (m : ℕ). At m (removed (scheme_of d) R (cond (is_gap n) (n ∷ []) []))) (add-one n)
        (⊎_elim (λ (e : is_gap n ≡ true). subst (λ (b : Bool). At (n + 1) (removed (scheme_of d) R (cond b (n ∷ []) []))) (sym e) (gap_at n (omega arith) R a e))
        (λ (e : is_gap n ≡ false). subst (λ (b : Bool). At (n + 1) (removed (scheme_of d) R (cond b (n ∷ []) []))) (sym e)
        (record { kept = a.kept; upto = upto-keep 0 512 n (λ r. get_or tables r 0) fill R.tables a.upto (omega arith) (fill-row n e) }))
        (dec (is_gap n))))

    gaps-small : (n : ℕ) → n ≤ 512 → Within 65536 (gaps n)
    unfolding gaps collect one
    gaps-small zero l = λ j. lit< tt
    gaps-small (suc n) l =
        within-append 65536 (gaps n) (cond (is_gap n) (n ∷ []) []) (gaps-small n (omega arith))
        (⊎_elim (λ (e : is_gap n ≡ true). subst (λ (b : Bool). Within 65536 (cond b (n ∷ []) [])) (sym e) (within-one 65536 n [] (omega arith) (λ j. lit< tt)))
        (λ (e : is_gap n ≡ false). subst (λ (b : Bool). Within 65536 (cond b (n ∷ []) [])) (sym e) (λ j. lit< tt))
        (dec (is_gap n)))

    gaps-few : length (gaps 512) ≤ 512
    unfolding gaps one
    gaps-few = omega (arith, collect-most 512 1 is_gap one (λ i. omega arith))

    with-gaps : 0 < d.tables → GivenBy d cells tables k (design_bytes d cells filled ++ orders_bytes (removals (gaps 512) ++ more))
    unfolding filled
    with-gaps some =
        let a = rows_at 512 (omega arith) in
        given-from 512 filled (length-tab 512 fill) (filled-lawful some) filled-dense (gaps 512) (gaps-small 512 (omega arith)) gaps-few
        (λ i. rows_in (a.kept i) ((upto-end 0 512 512 (λ r. get_or tables r 0) fill _ a.upto (omega arith) (omega arith) ∙
        sym (tab-of 0 512 (λ r. get_or tables r 0) tables z.tables (λ r l. refl))) i))

    -- a design without tables has no row
    without : d.tables ≡ 0 → GivenBy d cells tables k (design_bytes d cells tables ++ orders_bytes (removals [] ++ more))
    unfolding removed
    without none =
        given-from 0 tables z.tables g
        (record { most = omega arith; live = λ r l. dead r ∙ sym (le-ltb r 0 (omega arith)) })
        [] (λ j. lit< tt) (omega arith) refl
      where
        dead : (r : ℕ) → D.live r ≡ false
        dead r =
            ⊎_elim (λ (e : D.live r ≡ true). absurd (no-tables d none (D.table r) (rows.database.tables r e))) (λ (e : D.live r ≡ false). e) (dec (D.live r))

    -- with gaps or without
    pub some-script : (script : List ℕ) × GivenBy d cells tables k script
    some-script =
        ⊎_elim (λ (e : d.tables ≡ 0). (design_bytes d cells tables ++ orders_bytes (removals [] ++ more), without e))
        (λ (e : d.tables ≡ 0 → ⊥). (design_bytes d cells filled ++ orders_bytes (removals (gaps 512) ++ more), with-gaps (omega arith)))
        (same_number d.tables 0)

-- no commands
pub none-fit : AllFit []
none-fit = record { each = λ front behind o e. absurd (empty front behind o e) }
  where
    empty : (front behind : List Order) (o : Order) → [] ≡ front ++ (o ∷ behind) → ⊥
    empty [] behind o e = let z = ap length e in omega (arith, z)
    empty (x ∷ front) behind o e = let z = ap length e in omega (arith, z)

nothing-more : (S : Scheme) (m : Moment) → m.held ≡ nothing_held → behind S m [] ≡ record { rows = m.rows; held = nothing_held }
unfolding orders_actions moment_from
nothing-more S m e = λ i. record { rows = m.rows; held = e i }

-- THEOREM. 01, cause 12: "a design or rows that no script gives"; 02, Req 12: "Operation 0x1D .. puts a row in; 0x1E takes a row number and removes it .. A removed number can
-- be taken by a later row. From now on a free number has row table 255 and all else 0, after reading a design too, and gaps are lawful under 12." A design with rows is
-- lawful if and only if some script gives it. The arrays have their places, and the numbers are u32 and the issues u8, as their types say.
pub lawful-given : (d : Design) (cells : Cells) (tables : List ℕ) → Sizes (draft d 0 cells tables) → Numbers d cells →
    ((lawful_design d ≡ true) × (lawful_rows d cells tables ≡ true)) ↔ ((script : List ℕ) × GivenBy d cells tables nothing_held script)
lawful-given d cells tables z n = (
  λ h. some-script d cells tables h.0 z n [] none-fit (omega arith) nothing_held (nothing-more (scheme_of d)) h.1,
  λ g. given-lawful d cells tables nothing_held g.0 g.1,
)
