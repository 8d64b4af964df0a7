-- A state is sound if and only if a run of some script leaves it: its design, its rows, what each desk holds, and the marks. Assumes nothing.
use Prim.Native.Nat.{ℕ, suc, ◌+◌, ◌*◌, ◌^◌, ◌≤◌, ◌<◌}
use native.Mathlib.Omega.{arith}
use mathlib.Core.Path.{◌≡◌, refl, sym, ap, ap₂, subst, ◌∙◌}
use mathlib.Core.Bool.{true, and-eq-true_iff}
use mathlib.Core.List.{List, [], ◌∷◌, ◌++◌}
use mathlib.Core.Logic.{◌↔◌}
use borrow.Author.Tests.{leb-true}
use lib.Dec.{leb}
use lib.ListN.{length, drop as past, take-append-drop, length-append}
use lib.Seq.{get_or-drop}
use Rattle.finite.proofs.Bools.{cond-true}
use Rattle.finite.proofs.Tables.{length-tab, tab-at}
use Rattle.model.specs.Scheme.{Scheme, candidate}
use Rattle.model.specs.Ranges.{Range}
use Rattle.model.specs.Holding.{desks, Owned, no_owned, Holding, ranges_of}
use Rattle.model.proofs.RangeLaws.{Every, none, more, every_of}
use Rattle.model.proofs.HoldingLaws.{owned_at, HoldingFits, values-few}
use Rattle.state.specs.Cells.{Cells}
use Rattle.state.specs.Design.{empty_design}
use Rattle.state.specs.Held.{none_held, held_at}
use Rattle.state.specs.Meaning.{scheme_of, owned_of, values_of, holding_of, held_of}
use Rattle.state.specs.Lent.{State, lent, scheme, long_enough, sound}
use Rattle.state.specs.Changes.{Rows}
use Rattle.lawful.proofs.DesignLaws.{design-says}
use Rattle.lawful.proofs.HeldLaws.{held_back, holding-fits}
use Rattle.lawful.proofs.RowsLaws.{Stored}
use Rattle.lawful.proofs.SoundState.{parts, sound-fresh}
use Rattle.format.specs.Reading.{read_into, cells_after}
use Rattle.format.specs.Reading.DesignRead.{accepted}
use Rattle.run.specs.Moments.{Moment}
use Rattle.script.specs.Step as Step
use Rattle.run.specs.Runs.{left_from, rooms_in}
use Rattle.script.specs.JustRead.{Buffers, buffers, reading_of, just_read, longer, past_cells}
use Rattle.run.proofs.WholeRun.{part}
use Rattle.demands.specs.Orders.{Order, naming, referring, holding_range, OrderFits}
use Rattle.demands.specs.Given.{GivenBy, TypedState, LeftBySome}
use Rattle.demands.proofs.Runs.{points-hold}
use Rattle.demands.proofs.Rewriting.{front, front-sized, whole, front-stored, front-lawful}
use Rattle.demands.proofs.Orders.{within-append, AllFit, fit-first, fit-rest, fit-more}
use Rattle.demands.proofs.Holdings.{value_orders, range_orders, holding_orders, holding-reached}
use Rattle.demands.proofs.Given.{none-fit, some-script}

-- ---- the commands for what is held have operands of their widths, and are few

fit_append : (xs ys : List Order) → AllFit xs → AllFit ys → AllFit (xs ++ ys)
fit_append [] ys f g = g
fit_append (x ∷ xs) ys f g = fit-more x (xs ++ ys) (fit-first x xs f) (fit_append xs ys (fit-rest x xs f) g)

-- a value whose parts have their widths
record Narrow (o : Owned) : Type 0 where
  desk : o.desk < desks
  filling : o.pair.filling < 8
  number : o.pair.value.number < 2 ^ 32
  issue : o.pair.value.issue < 2 ^ 8

values-fit : (os : List Owned) → ((i : ℕ) → i < length os → Narrow (owned_at os i)) → AllFit (value_orders os)
unfolding value_orders OrderFits
values-fit [] h = none-fit
values-fit (o ∷ os) h =
    let n = h 0 (omega arith) in
    fit-more (naming o.desk) (referring o.pair ∷ value_orders os) (omega (arith, n.desk))
    (fit-more (referring o.pair) (value_orders os) (omega (arith, n.filling), n.number, n.issue) (values-fit os (λ i l. h (suc i) (omega arith))))

record NarrowRange (r : Range) : Type 0 where
  filling : r.filling < 8
  low : r.low < 2 ^ 32
  high : r.high < 2 ^ 32

ranges-fit : (d : ℕ) → d < desks → (rs : List Range) → Every NarrowRange rs → AllFit (range_orders d rs)
unfolding range_orders OrderFits
ranges-fit d l [] none = none-fit
ranges-fit d l (r ∷ rs) (more n e) =
    fit-more (naming d) (holding_range r ∷ range_orders d rs) (omega (arith, l)) (fit-more (holding_range r) (range_orders d rs) (omega (arith, n.filling), n.low, n.high) (ranges-fit d l rs e))

length-values : (os : List Owned) → length (value_orders os) ≡ 2 * length os
unfolding value_orders
length-values [] = refl
length-values (o ∷ os) = let e = length-values os in omega (arith, e)

length-ranges : (d : ℕ) (rs : List Range) → length (range_orders d rs) ≡ 2 * length rs
unfolding range_orders
length-ranges d [] = refl
length-ranges d (r ∷ rs) = let e = length-ranges d rs in omega (arith, e)

module _ (S : Scheme) (h : Holding) (f : HoldingFits S h) (few : S.fillings ≤ 8) (highs : (g : ℕ) → (S.filling g).high < 2 ^ 32)
    (issues : (i : ℕ) → i < length h.values → (owned_at h.values i).pair.value.issue < 2 ^ 8) where
  narrow : (i : ℕ) → i < length h.values → Narrow (owned_at h.values i)
  unfolding candidate
  narrow i l =
      let o = owned_at h.values i in
      let g = o.pair.filling in
      let c = (and-eq-true_iff (leb (S.filling g).low o.pair.value.number) _).0 (f.values.value i l) in
      let top = leb-true o.pair.value.number (S.filling g).high c.1 in
      let most = highs g in
      let fill = f.values.filling i l in
      record { desk = f.values.desk i l; filling = omega (arith, fill, few); number = omega (arith, top, most); issue = issues i l }

  narrow-ranges : (d : ℕ) → d < desks → Every NarrowRange (ranges_of h.ranges d)
  narrow-ranges d l =
      every_of (λ r g. let most = highs r.filling in
      record {
        filling = omega (arith, g.filling, few);
        low = omega (arith, g.full, g.high, most);
        high = omega (arith, g.high, most);
      }) (ranges_of h.ranges d) (f.ranges.lists d l).each

  orders-fit : AllFit (holding_orders h)
  unfolding holding_orders OrderFits
  orders-fit =
      let r : (d : ℕ) → d < desks → AllFit (range_orders d (ranges_of h.ranges d)) = λ d l. ranges-fit d l (ranges_of h.ranges d) (narrow-ranges d l) in
      let n = f.named in
      fit_append (value_orders h.values) _ (values-fit h.values narrow)
      (fit_append (range_orders 0 (ranges_of h.ranges 0)) _ (r 0 (omega arith)) (fit_append (range_orders 1 (ranges_of h.ranges 1)) _ (r 1 (omega arith))
      (fit_append (range_orders 2 (ranges_of h.ranges 2)) _ (r 2 (omega arith)) (fit_append (range_orders 3 (ranges_of h.ranges 3)) _ (r 3 (omega arith))
      (fit-more (naming h.desk) [] (omega (arith, n)) none-fit)))))

  orders-few : length (holding_orders h) ≤ 200
  unfolding holding_orders
  orders-few =
      let o : ℕ → List Order = λ (d : ℕ). range_orders d (ranges_of h.ranges d) in
      let z : List Order = naming h.desk ∷ [] in
      let l₀ = length-append (value_orders h.values) (o 0 ++ (o 1 ++ (o 2 ++ (o 3 ++ z)))) in
      let l₁ = length-append (o 0) (o 1 ++ (o 2 ++ (o 3 ++ z))) in
      let l₂ = length-append (o 1) (o 2 ++ (o 3 ++ z)) in
      let l₃ = length-append (o 2) (o 3 ++ z) in
      let l₄ = length-append (o 3) z in
      let v = length-values h.values in
      let w = values-few f.values in
      let a₀ = length-ranges 0 (ranges_of h.ranges 0) in
      let a₁ = length-ranges 1 (ranges_of h.ranges 1) in
      let a₂ = length-ranges 2 (ranges_of h.ranges 2) in
      let a₃ = length-ranges 3 (ranges_of h.ranges 3) in
      let b₀ = (f.ranges.lists 0 (omega arith)).few in
      let b₁ = (f.ranges.lists 1 (omega arith)).few in
      let b₂ = (f.ranges.lists 2 (omega arith)).few in
      let b₃ = (f.ranges.lists 3 (omega arith)).few in
      omega (arith, l₀, l₁, l₂, l₃, l₄, v, w, a₀, a₁, a₂, a₃, b₀, b₁, b₂, b₃)

-- ---- a sound state

-- cells that lie behind others
stored-longer : (a c : Cells) → Stored a → Stored c → Stored (longer a (past_cells 4096 c))
stored-longer a c s t =
    record {
      number = within-append (2 ^ 32) a.numbers (past 4096 c.numbers) s.number (λ j. subst (λ (n : ℕ). n < 2 ^ 32) (sym (get_or-drop 4096 c.numbers j 0)) (t.number (4096 + j)));
      issue = within-append (2 ^ 8) a.issues (past 4096 c.issues) s.issue (λ j. subst (λ (n : ℕ). n < 2 ^ 8) (sym (get_or-drop 4096 c.issues j 0)) (t.issue (4096 + j)));
    }

-- two sound states with the same design, rows and held values, and the same marks past the first 512, have the same marks
same-marks : (s : State) (ms : List ℕ) → sound s ≡ true → sound (lent s.design s.cells s.tables ms s.held) ≡ true → past 512 ms ≡ past 512 s.marks → ms ≡ s.marks
same-marks s ms e f p =
    let t = lent s.design s.cells s.tables ms s.held in
    sym (take-append-drop 512 ms) ∙ ap₂ ◌++◌ ((sound-fresh t f).reloaded ∙ sym (sound-fresh s e).reloaded) p ∙ take-append-drop 512 s.marks

module _ (s : State) (y : TypedState s) (e : sound s ≡ true) where
  abbrev S : Scheme
  S = scheme s

  abbrev h : Holding
  h = holding_of s.held

  fits : HoldingFits S h
  fits = holding-fits s.design s.held (parts s e).held

  few : S.fillings ≤ 8
  unfolding scheme_of
  few = (design-says s.design (parts s e).design).fillings

  highs : (g : ℕ) → (S.filling g).high < 2 ^ 32
  unfolding scheme_of
  highs g = y.numbers.high g

  issues : (i : ℕ) → i < length h.values → (owned_at h.values i).pair.value.issue < 2 ^ 8
  unfolding values_of
  issues i l =
      let c = s.held.count in
      let n : length h.values ≡ c = length-tab c _ in
      let m = values-few fits.values in
      subst (λ (o : Owned). o.pair.value.issue < 2 ^ 8) (sym (tab-at no_owned c (λ j. owned_of (held_at s.held j)) i (omega (arith, n, l)))) (y.issues i (omega (arith, l, m)))

  F : Rows
  F = front s e y.numbers

  given : (script : List ℕ) × GivenBy s.design F.cells F.tables h script
  unfolding F
  given =
      let z = front-sized s e y.numbers in
      let u = front-stored s e y.numbers in
      some-script s.design F.cells F.tables (parts s e).design
      (record { table = y.design.table; constraint = y.design.constraint; filling = y.design.filling; cells = z.numbers; issues = z.issues; tables = z.tables })
      (record { low = y.numbers.low; high = y.numbers.high; cell = u.number; issue = u.issue })
      (holding_orders h) (orders-fit S h fits few highs issues) (orders-few S h fits few highs issues) h (holding-reached S h fits) (front-lawful s e y.numbers)

  b : Buffers
  b = buffers s.cells s.tables s.marks (Step.outputs [] [])

  long : long_enough (lent empty_design s.cells s.tables s.marks none_held) ≡ true
  unfolding long_enough
  long = ((and-eq-true_iff (long_enough s) _).0 e).0

  reached : LeftBySome s
  unfolding read_into b F
  reached =
      let script = given.0 in
      let g = given.1 in
      let p = g.draft in
      let i = g.place in
      let read : reading_of script b ≡ accepted p i = cond-true _ _ _ long ∙ g.read in
      let stored : Stored (cells_after (accepted p i) b.cells) = stored-longer p.cells s.cells g.stored (record { number = y.numbers.cell; issue = y.numbers.issue }) in
      let t = part script (record { at = g.bytes }) b p i read stored (length script) in
      let is = g.moment (rooms_in b) in
      let l = (left_from (length script) script (just_read (accepted p i) b) b.outputs i).state in
      let design : l.design ≡ s.design = t.design ∙ g.design in
      let cells : l.cells ≡ s.cells =
      t.cells ∙ ap (λ (m : Moment). longer m.rows.cells (past_cells 4096 s.cells)) is ∙ ap (λ (R : Rows). R.cells) (whole s e y.numbers) in
      let tables : l.tables ≡ s.tables =
      t.tables ∙ ap (λ (m : Moment). m.rows.tables ++ past 512 s.tables) is ∙ ap (λ (R : Rows). R.tables) (whole s e y.numbers) in
      let held : l.held ≡ s.held = t.held ∙ ap (λ (m : Moment). held_of m.held) is ∙ held_back s.design s.held (parts s e).held y.held in
      let same : l ≡ lent s.design s.cells s.tables l.marks s.held = λ x. lent (design x) (cells x) (tables x) l.marks (held x) in
      let marks : l.marks ≡ s.marks = same-marks s l.marks e (subst (λ (v : State). sound v ≡ true) same t.sound) t.past in
      record {
        script = script;
        bytes = g.bytes;
        buffers = b;
        draft = p;
        place = i;
        read = read;
        stored = stored;
        left = same ∙ (λ x. lent s.design s.cells s.tables (marks x) s.held);
      }

-- THEOREM. 01, cause 12: "a design or rows that no script gives, unused places not 0, a held pair twice or no candidate, over 64 held, or marks that aren't 1 on exactly the
-- smallest set and 0 elsewhere"; 02, Req 07: "12 looks at pairs and limits desk by desk, and at a desk above 3"; Req 10: "a state with any other, with over 8 for a desk or
-- with one empty or not wholly of candidates is unlawful"; Req 12: "gaps are lawful under 12". Neither cause 7 nor 12 applies to a state if and only if a run of some script
-- leaves it, with its design, rows, held values and ranges of each desk, and marks.
pub sound-left : (s : State) → TypedState s → (sound s ≡ true) ↔ LeftBySome s
sound-left s y = (
  λ e. reached s y e,
  λ l. subst (λ (v : State). sound v ≡ true) l.left
      ((points-hold l.script (record { at = l.bytes }) l.buffers l.draft l.place l.read l.stored).point (length l.script)).sound,
)
