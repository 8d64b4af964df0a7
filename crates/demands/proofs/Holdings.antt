-- What a state may hold, some commands reach: naming a desk before each REFER and before each range gives any holding that fits, in its order. Assumes nothing.
use Prim.Native.Nat.{ℕ, zero, suc, ◌+◌, ◌<◌}
use native.Mathlib.Omega.{arith}
use mathlib.Core.Path.{◌≡◌, refl, sym, ap, ap₂, subst, ◌∙◌}
use mathlib.Core.Bool.{true, false, not, cond, ◌||◌, and-eq-true_iff}
use mathlib.Core.List.{List, [], ◌∷◌, ◌++◌, append-nil, append_assoc}
use mathlib.Core.Logic.{◌≢◌, ⊎_elim}
use borrow.Author.Tests.{eqb-true, eq-eqb, lt-ltb, le-leb, leb-true}
use lib.Dec.{eqb, leb, ltb}
use lib.ListN.{length, length-append, get_or-append}
use lib.Seq.{ext_get_or, get_or-append_seam}
use Rattle.finite.specs.Finite.{tab}
use Rattle.finite.specs.Sameness.{listed}
use Rattle.finite.proofs.Bools.{dec, both, cond-true}
use Rattle.model.specs.Scheme.{Scheme, candidate}
use Rattle.model.specs.Ranges.{Range, contains, joined}
use Rattle.model.specs.Holding.{desks, places, most_ranges, Owned, same_owned, own_among, Holding, nothing_held, with_desk, no_owned, with_pair, ranges_of, with_list, own_ranges, with_range}
use Rattle.model.specs.Runs.{taken, range_taken, held_after}
use Rattle.model.proofs.RangeLaws.{Before, before_on, says-before, Full, Rising, Every, none, one, more, every_of, RangeFits, fits-range, fits-candidates}
use Rattle.model.proofs.RangesHeld.{list-own, list-other, list_count}
use Rattle.model.proofs.RangesFit.{RangesFit}
use Rattle.model.proofs.HoldingLaws.{owned_at, own-end, ValuesFit, HoldingFits}
use Rattle.run.specs.Moments.{Action, Moment, moment_after, moment_from}
use Rattle.demands.specs.Orders.{Order, naming, referring, holding_range, order_action, orders_actions}

-- ---- lists of orders

pub actions-append : (xs ys : List Order) → orders_actions (xs ++ ys) ≡ orders_actions xs ++ orders_actions ys
unfolding orders_actions
actions-append [] ys = refl
actions-append (x ∷ xs) ys = ap (λ (l : List Action). order_action x ∷ l) (actions-append xs ys)

pub from-append : (S : Scheme) (m : Moment) (xs ys : List Action) → moment_from S m (xs ++ ys) ≡ moment_from S (moment_from S m xs) ys
unfolding moment_from
from-append S m [] ys = refl
from-append S m (x ∷ xs) ys = from-append S (moment_after S m x) xs ys

abbrev pub behind : Scheme → Moment → List Order → Moment
behind S m os = moment_from S m (orders_actions os)

pub behind-append : (S : Scheme) (m : Moment) (xs ys : List Order) → behind S m (xs ++ ys) ≡ behind S (behind S m xs) ys
behind-append S m xs ys = ap (moment_from S m) (actions-append xs ys) ∙ from-append S m (orders_actions xs) (orders_actions ys)

-- ---- the values, in order of reference

unfoldable pub value_orders : List Owned → List Order
value_orders [] = []
value_orders (o ∷ os) = naming o.desk ∷ referring o.pair ∷ value_orders os

-- a desk has as many in two lists together
none-own : (d : ℕ) → length (own_among d []) ≡ 0
unfolding own_among
none-own d = refl

own-append : (d : ℕ) (xs ys : List Owned) → length (own_among d (xs ++ ys)) ≡ length (own_among d xs) + length (own_among d ys)
own-append d xs [] = let e = ap (λ (l : List Owned). length (own_among d l)) (append-nil xs) in let z = none-own d in omega (arith, e, z)
own-append d xs (y ∷ ys) =
    let a = ap (λ (l : List Owned). length (own_among d l)) (append_assoc xs (y ∷ []) ys) in
    let b = own-append d (xs ++ (y ∷ [])) ys in
    let c = own-end d xs y in
    let e : length (own_among d (y ∷ ys)) ≡ length (own_among d (y ∷ [])) + length (own_among d ys) = own-append d (y ∷ []) ys in
    let f : length (own_among d (y ∷ [])) ≡ length (own_among d []) + cond (eqb y.desk d) 1 0 = own-end d [] y in
    let z = none-own d in
    omega (arith, a, b, c, e, f, z)

-- what fits, fits in front of more
prefix-fits : (S : Scheme) (xs ys : List Owned) → ValuesFit S (xs ++ ys) → ValuesFit S xs
prefix-fits S xs ys f =
    record {
      desk = λ i l. subst (λ (o : Owned). o.desk < desks) (at i l) (f.desk i (longer i l));
      few = λ d l. let n = own-append d xs ys in let m = f.few d l in omega (arith, n, m);
      filling = λ i l. subst (λ (o : Owned). o.pair.filling < S.fillings) (at i l) (f.filling i (longer i l));
      value = λ i l. subst (λ (o : Owned). candidate (S.filling o.pair.filling) o.pair.value ≡ true) (at i l) (f.value i (longer i l));
      once = λ i j l m. ap₂ same_owned (sym (at i (omega arith))) (sym (at j m)) ∙ f.once i j l (longer j m);
    }
  where
    at : (i : ℕ) → i < length xs → owned_at (xs ++ ys) i ≡ owned_at xs i
    at i l = get_or-append xs ys no_owned i l

    longer : (i : ℕ) → i < length xs → i < length (xs ++ ys)
    longer i l = omega (arith, length-append xs ys)

-- a value that none of the list is the same as is not listed
unlisted-if : (p : Owned) (os : List Owned) → ((i : ℕ) → i < length os → same_owned (owned_at os i) p ≡ false) → listed same_owned p os ≡ false
unfolding listed
unlisted-if p [] h = refl
unlisted-if p (o ∷ os) h = ap₂ ◌||◌ (h 0 (omega arith)) (unlisted-if p os (λ i l. h (suc i) (omega arith)))

-- the next value is taken at its desk
next-taken : (S : Scheme) (xs : List Owned) (y : Owned) (rss : List (List Range)) → ValuesFit S (xs ++ (y ∷ [])) →
    taken S (record { desk = y.desk; values = xs; ranges = rss }) y.pair ≡ true
unfolding taken
next-taken S xs y rss f =
    let n = length xs in
    let long : n < length (xs ++ (y ∷ [])) = omega (arith, length-append xs (y ∷ [])) in
    let here : owned_at (xs ++ (y ∷ [])) n ≡ y = get_or-append_seam xs y [] no_owned in
    let new : listed same_owned y xs ≡ false = unlisted-if y xs (λ i l. ap₂ same_owned (sym (get_or-append xs (y ∷ []) no_owned i l)) (sym here) ∙ f.once i n l long) in
    let desk : y.desk < desks = subst (λ (o : Owned). o.desk < desks) here (f.desk n long) in
    let own : ◌≡◌ {A = ℕ} (cond (eqb y.desk y.desk) 1 0) 1 = cond-true (eqb y.desk y.desk) 1 0 (eq-eqb y.desk y.desk refl) in
    let few : length (own_among y.desk xs) < places = let a = f.few y.desk desk in let b = own-end y.desk xs y in omega (arith, a, b, own) in
    both (lt-ltb _ _ (subst (λ (o : Owned). o.pair.filling < S.fillings) here (f.filling n long)))
    (both (subst (λ (o : Owned). candidate (S.filling o.pair.filling) o.pair.value ≡ true) here (f.value n long))
    (both (ap not new) (lt-ltb _ _ few)))

-- a moment with the same rows
pub record Holds-then (m m' : Moment) (os : List Owned) (rss : List (List Range)) : Type 0 where
  pub rows : m'.rows ≡ m.rows
  pub values : m'.held.values ≡ os
  pub ranges : m'.held.ranges ≡ rss

module _ (S : Scheme) where
  pub values-reached : (xs ys : List Owned) → ValuesFit S (xs ++ ys) → (m : Moment) → m.held.values ≡ xs → Holds-then m (behind S m (value_orders ys)) (xs ++ ys) m.held.ranges
  unfolding value_orders orders_actions order_action moment_from moment_after held_after
  values-reached xs [] f m e = record { rows = refl; values = e ∙ sym (append-nil xs); ranges = refl }
  values-reached xs (y ∷ ys) f m e =
      let snoc : (xs ++ (y ∷ [])) ++ ys ≡ xs ++ (y ∷ ys) = append_assoc xs (y ∷ []) ys in
      let whole : ValuesFit S ((xs ++ (y ∷ [])) ++ ys) = subst (ValuesFit S) (sym snoc) f in
      let front : ValuesFit S (xs ++ (y ∷ [])) = prefix-fits S (xs ++ (y ∷ [])) ys whole in
      let long : length xs < length (xs ++ (y ∷ [])) = omega (arith, length-append xs (y ∷ [])) in
      let desk : y.desk < desks = subst (λ (o : Owned). o.desk < desks) (get_or-append_seam xs y [] no_owned) (front.desk (length xs) long) in
      let h = m.held in
      let named : cond (ltb y.desk desks) (with_desk h y.desk) h ≡ with_desk h y.desk = cond-true (ltb y.desk desks) _ _ (lt-ltb _ _ desk) in
      let n : Moment = record { rows = m.rows; held = cond (ltb y.desk desks) (with_desk h y.desk) h } in
      let took : taken S n.held y.pair ≡ true =
      ap (λ (g : Holding). taken S g y.pair) (named ∙ (λ i. record { desk = y.desk; values = e i; ranges = h.ranges })) ∙ next-taken S xs y h.ranges front in
      let k : Moment = record { rows = m.rows; held = cond (taken S n.held y.pair) (with_pair n.held y.pair) n.held } in
      let is : k.held ≡ with_pair (with_desk h y.desk) y.pair = cond-true (taken S n.held y.pair) _ _ took ∙ ap (λ (g : Holding). with_pair g y.pair) named in
      let vals : k.held.values ≡ xs ++ (y ∷ []) = ap (λ (g : Holding). g.values) is ∙ ap (λ (l : List Owned). l ++ (y ∷ [])) e in
      let r = values-reached (xs ++ (y ∷ [])) ys whole k vals in
      record { rows = r.rows; values = r.values ∙ snoc; ranges = r.ranges ∙ ap (λ (g : Holding). g.ranges) is }

-- ---- the ranges of a desk, rising

unfoldable pub range_orders : ℕ → List Range → List Order
range_orders d [] = []
range_orders d (r ∷ rs) = naming d ∷ holding_range r ∷ range_orders d rs

-- the first of a rising list stands before all others
first-before : (q : Range) (zs : List Range) → Every Full zs → Rising (q ∷ zs) → Every (λ z. Before q z) zs
first-before q [] none one = none
first-before q (z ∷ zs) (more f a) (more b c) = more b (every_of (λ w k. before_on q z w f b k) zs (first-before z zs a c))

-- in a rising list, whatever stands in front of r stands before it
front-before : (xs : List Range) (r : Range) (ys : List Range) → Every Full (xs ++ (r ∷ ys)) → Rising (xs ++ (r ∷ ys)) → Every (λ q. Before q r) xs
front-before [] r ys f a = none
front-before (x ∷ xs) r ys (more g f) a = more (last xs (first-before x (xs ++ (r ∷ ys)) f a)) (front-before xs r ys f (rest x (xs ++ (r ∷ ys)) a))
  where
    last : {P : Range → Type 0} (zs : List Range) → Every P (zs ++ (r ∷ ys)) → P r
    last [] (more p e) = p
    last (z ∷ zs) (more p e) = last zs e

    rest : (q : Range) (qs : List Range) → Rising (q ∷ qs) → Rising qs
    rest q [] one = none
    rest q (z ∷ qs) (more b c) = c

-- a range behind all others is put at the end, and lies inside none of them
joined_end : (xs : List Range) (r : Range) → Every (λ q. Before q r) xs → joined r xs ≡ xs ++ (r ∷ [])
unfolding joined
joined_end [] r none = refl
joined_end (q ∷ qs) r (more b e) = cond-true _ _ _ (says-before q r b) ∙ ap (λ (l : List Range). q ∷ l) (joined_end qs r e)

outside : (q r : Range) → Full r → Before q r → contains q r ≡ false
unfolding contains
outside q r full b =
    ⊎_elim (λ (e : contains q r ≡ true).
    let x = (and-eq-true_iff (eqb q.filling r.filling) _).0 e in
    let y = (and-eq-true_iff (leb q.low r.low) (leb r.high q.high)).0 x.1 in
    let f = eqb-true q.filling r.filling x.0 in
    let h = leb-true r.high q.high y.1 in
    absurd (⊎_elim (λ l. omega (arith, f, l)) (λ l. omega (arith, h, full, l.1)) b))
    (λ (e : contains q r ≡ false). e)
    (dec (contains q r))

uncovered : (xs : List Range) (r : Range) → Full r → Every (λ q. Before q r) xs → listed contains r xs ≡ false
unfolding listed
uncovered [] r full none = refl
uncovered (q ∷ qs) r full (more b e) = ap₂ ◌||◌ (outside q r full b) (uncovered qs r full e)

every_here : {P : Range → Type 0} (xs : List Range) (r : Range) (ys : List Range) → Every P (xs ++ (r ∷ ys)) → P r
every_here [] r ys (more p e) = p
every_here (x ∷ xs) r ys (more p e) = every_here xs r ys e

-- a moment with the same rows and values, where desk d has the ranges rs and the others have theirs
pub record Ranges-then (m m' : Moment) (d : ℕ) (rs : List Range) : Type 0 where
  pub rows : m'.rows ≡ m.rows
  pub values : m'.held.values ≡ m.held.values
  pub count : length m'.held.ranges ≡ length m.held.ranges
  pub own : ranges_of m'.held.ranges d ≡ rs
  pub others : (e : ℕ) → d ≢ e → ranges_of m'.held.ranges e ≡ ranges_of m.held.ranges e

module _ (S : Scheme) (d : ℕ) (l : d < desks) where
  next-range : (xs : List Range) (r : Range) (ys : List Range) → RangesFit S (xs ++ (r ∷ ys)) → (h : Holding) → h.desk ≡ d → ranges_of h.ranges d ≡ xs →
      (range_taken S h r ≡ true) × (joined r (own_ranges h) ≡ xs ++ (r ∷ []))
  unfolding range_taken
  next-range xs r ys f h e o =
      let own : own_ranges h ≡ xs = ap (ranges_of h.ranges) e ∙ o in
      let fit : RangeFits S r = every_here xs r ys f.each in
      let before : Every (λ q. Before q r) xs = front-before xs r ys (every_of (λ q g. g.full) (xs ++ (r ∷ ys)) f.each) f.rising in
      let ends : joined r (own_ranges h) ≡ xs ++ (r ∷ []) = ap (joined r) own ∙ joined_end xs r before in
      let a = f.few in
      let b = length-append xs (r ∷ ys) in
      let c = ap length ends ∙ length-append xs (r ∷ []) in (
        both (fits-range S r fit)
            (both (fits-candidates S r fit)
            (both (ap not (ap (listed contains r) own ∙ uncovered xs r fit.full before)) (le-leb (length (joined r (own_ranges h))) most_ranges (omega (arith, a, b, c))))),
        ends,
      )

  pub ranges-reached : (xs ys : List Range) → RangesFit S (xs ++ ys) → (m : Moment) → d < length m.held.ranges → ranges_of m.held.ranges d ≡ xs →
      Ranges-then m (behind S m (range_orders d ys)) d (xs ++ ys)
  unfolding range_orders orders_actions order_action moment_from moment_after held_after
  ranges-reached xs [] f m z e = record { rows = refl; values = refl; count = refl; own = e ∙ sym (append-nil xs); others = λ a n. refl }
  ranges-reached xs (r ∷ rs) f m z e =
      let snoc : (xs ++ (r ∷ [])) ++ rs ≡ xs ++ (r ∷ rs) = append_assoc xs (r ∷ []) rs in
      let whole : RangesFit S ((xs ++ (r ∷ [])) ++ rs) = subst (RangesFit S) (sym snoc) f in
      let h = m.held in
      let named : cond (ltb d desks) (with_desk h d) h ≡ with_desk h d = cond-true (ltb d desks) _ _ (lt-ltb _ _ l) in
      let g : Holding = cond (ltb d desks) (with_desk h d) h in
      let took = next-range xs r rs f g (ap (λ (x : Holding). x.desk) named) (ap (λ (x : Holding). ranges_of x.ranges d) named ∙ e) in
      let k : Moment = record { rows = m.rows; held = cond (range_taken S g r) (with_range g r) g } in
      let is : k.held ≡ with_range g r = cond-true (range_taken S g r) _ _ took.0 in
      let lists : k.held.ranges ≡ with_list h.ranges d (xs ++ (r ∷ [])) =
      ap (λ (x : Holding). x.ranges) is ∙ (λ i. with_list (named i).ranges (named i).desk (took.1 i)) in
      let own : ranges_of k.held.ranges d ≡ xs ++ (r ∷ []) = ap (λ (x : List (List Range)). ranges_of x d) lists ∙ list-own h.ranges d _ in
      let count : length k.held.ranges ≡ length h.ranges = ap length lists ∙ list_count h.ranges d _ z in
      let t = ranges-reached (xs ++ (r ∷ [])) rs whole k (omega (arith, count, z)) own in
      record {
        rows = t.rows;
        values = t.values ∙ ap (λ (x : Holding). x.values) is ∙ ap (λ (x : Holding). x.values) named;
        count = t.count ∙ count;
        own = t.own ∙ snoc;
        others = λ a n. t.others a n ∙ ap (λ (x : List (List Range)). ranges_of x a) lists ∙ list-other h.ranges d a _ n;
      }

-- ---- all of it

last-named : (S : Scheme) (n : Moment) (h : Holding) → h.desk < desks → n.held.values ≡ h.values → n.held.ranges ≡ h.ranges →
    behind S n (naming h.desk ∷ []) ≡ record { rows = n.rows; held = h }
unfolding orders_actions order_action moment_from moment_after held_after
last-named S n h l a b =
    ap (λ (g : Holding). let k : Moment = record { rows = n.rows; held = g } in k) (cond-true (ltb h.desk desks) (with_desk n.held h.desk) n.held (lt-ltb _ _ l)) ∙
    (λ i. record { rows = n.rows; held = record { desk = h.desk; values = a i; ranges = b i } })

unfoldable pub holding_orders : Holding → List Order
holding_orders h =
    value_orders h.values ++ (range_orders 0 (ranges_of h.ranges 0) ++ (range_orders 1 (ranges_of h.ranges 1) ++
    (range_orders 2 (ranges_of h.ranges 2) ++ (range_orders 3 (ranges_of h.ranges 3) ++ (naming h.desk ∷ [])))))

-- THEOREM: whatever fits is held behind these commands, on any rows, where nothing was held before
pub holding-reached : (S : Scheme) (h : Holding) → HoldingFits S h → (m : Moment) → m.held ≡ nothing_held → behind S m (holding_orders h) ≡ record { rows = m.rows; held = h }
unfolding holding_orders tab
holding-reached S h f m e =
    let rs = ranges_of h.ranges in
    let lists = f.ranges.lists in
    let v = values-reached S [] h.values f.values m (ap (λ (x : Holding). x.values) e) in
    let m₁ = behind S m (value_orders h.values) in
    let empty : m₁.held.ranges ≡ tab desks (λ _. []) = v.ranges ∙ ap (λ (x : Holding). x.ranges) e in
    let long : length m₁.held.ranges ≡ 4 = ap length empty in
    let r₀ = ranges-reached S 0 (omega arith) [] (rs 0) (lists 0 (omega arith)) m₁ (omega (arith, long)) (ap (λ (x : List (List Range)). ranges_of x 0) empty) in
    let m₂ = behind S m₁ (range_orders 0 (rs 0)) in
    let l₂ : length m₂.held.ranges ≡ 4 = r₀.count ∙ long in
    let r₁ = ranges-reached S 1 (omega arith) [] (rs 1) (lists 1 (omega arith)) m₂ (omega (arith, l₂))
    (r₀.others 1 (λ z. omega (arith, z)) ∙ ap (λ (x : List (List Range)). ranges_of x 1) empty) in
    let m₃ = behind S m₂ (range_orders 1 (rs 1)) in
    let l₃ : length m₃.held.ranges ≡ 4 = r₁.count ∙ l₂ in
    let r₂ = ranges-reached S 2 (omega arith) [] (rs 2) (lists 2 (omega arith)) m₃ (omega (arith, l₃))
    (r₁.others 2 (λ z. omega (arith, z)) ∙ r₀.others 2 (λ z. omega (arith, z)) ∙ ap (λ (x : List (List Range)). ranges_of x 2) empty) in
    let m₄ = behind S m₃ (range_orders 2 (rs 2)) in
    let l₄ : length m₄.held.ranges ≡ 4 = r₂.count ∙ l₃ in
    let r₃ = ranges-reached S 3 (omega arith) [] (rs 3) (lists 3 (omega arith)) m₄ (omega (arith, l₄))
    (r₂.others 3 (λ z. omega (arith, z)) ∙ r₁.others 3 (λ z. omega (arith, z)) ∙ r₀.others 3 (λ z. omega (arith, z)) ∙
    ap (λ (x : List (List Range)). ranges_of x 3) empty) in
    let m₅ = behind S m₄ (range_orders 3 (rs 3)) in
    let l₅ : length m₅.held.ranges ≡ 4 = r₃.count ∙ l₄ in
    let at₀ : ranges_of m₅.held.ranges 0 ≡ rs 0 =
    r₃.others 0 (λ z. omega (arith, z)) ∙ r₂.others 0 (λ z. omega (arith, z)) ∙ r₁.others 0 (λ z. omega (arith, z)) ∙ r₀.own in
    let at₁ : ranges_of m₅.held.ranges 1 ≡ rs 1 = r₃.others 1 (λ z. omega (arith, z)) ∙ r₂.others 1 (λ z. omega (arith, z)) ∙ r₁.own in
    let at₂ : ranges_of m₅.held.ranges 2 ≡ rs 2 = r₃.others 2 (λ z. omega (arith, z)) ∙ r₂.own in
    let all : m₅.held.ranges ≡ h.ranges = four m₅.held.ranges h.ranges l₅ f.ranges.count at₀ at₁ at₂ r₃.own in
    let vals : m₅.held.values ≡ h.values = r₃.values ∙ r₂.values ∙ r₁.values ∙ r₀.values ∙ v.values in
    let rows : m₅.rows ≡ m.rows = r₃.rows ∙ r₂.rows ∙ r₁.rows ∙ r₀.rows ∙ v.rows in
    behind-append S m (value_orders h.values) _ ∙ behind-append S m₁ (range_orders 0 (rs 0)) _ ∙ behind-append S m₂ (range_orders 1 (rs 1)) _ ∙
    behind-append S m₃ (range_orders 2 (rs 2)) _ ∙ behind-append S m₄ (range_orders 3 (rs 3)) _ ∙ last m₅ vals all rows
  where
    four : (xss yss : List (List Range)) → length xss ≡ 4 → length yss ≡ 4 → ranges_of xss 0 ≡ ranges_of yss 0 → ranges_of xss 1 ≡ ranges_of yss 1 →
        ranges_of xss 2 ≡ ranges_of yss 2 → ranges_of xss 3 ≡ ranges_of yss 3 → xss ≡ yss
    four xss yss a b p q r s = ext_get_or [] xss yss (a ∙ sym b) (λ i l. at i (omega (arith, a, l)))
      where
        at : (i : ℕ) → i < 4 → ranges_of xss i ≡ ranges_of yss i
        at zero l = p
        at (suc zero) l = q
        at (suc (suc zero)) l = r
        at (suc (suc (suc zero))) l = s
        at (suc (suc (suc (suc i)))) l = absurd (omega arith)

    last : (n : Moment) → n.held.values ≡ h.values → n.held.ranges ≡ h.ranges → n.rows ≡ m.rows → behind S n (naming h.desk ∷ []) ≡ record { rows = m.rows; held = h }
    last n a b c = last-named S n h f.named a b ∙ (λ i. record { rows = c i; held = h })
