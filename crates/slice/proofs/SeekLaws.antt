-- What a search by halves finds, whether a value is fetched, and the next span of a column. Assumes nothing.
use Prim.Native.Nat.{ℕ, zero, suc, ◌+◌, ◌≤◌, ◌<◌}
use native.Mathlib.Omega.{arith}
use mathlib.Core.Path.{◌≡◌, refl, sym, ap, subst, ◌∙◌}
use mathlib.Core.Logic.{◌⊎◌, inl, inr, ⊎_elim}
use mathlib.Core.Bool.{Bool, true, false, ◌&&◌, ◌||◌, and-eq-true_iff}
use mathlib.Core.List.{List}
use borrow.Author.Tests.{ltb-true, ltb-false, lt-ltb, le-ltb}
use lib.Dec.{ltb}
use Rattle.finite.specs.Finite.{any}
use Rattle.finite.proofs.Bools.{bool-ext, both, clash, dec, or_cases, or-go, or_left, order, refute, same_number, or-second}
use Rattle.finite.proofs.Order.{lower-self}
use Rattle.finite.proofs.Search.{any-true, any_found, any-refuted}
use Rattle.model.specs.Cell.{Cell}
use Rattle.model.specs.Missing as Model
use Rattle.model.specs.Scheme.{Column}
use Rattle.model.proofs.MissingLoops.{some-tab}
use Rattle.catalog.specs.Halving.{Falling, Halved}
use Rattle.slice.specs.declared.fetch.Fetch.{Fetch}
use Rattle.std.specs.Prelude.{None}
use Rattle.std.specs.Bool.{then_some}
use Rattle.slice.specs.Fetches.{fetch_of, value_fetch, span_fetch, fetch_at, fetches_in, end_before, fetch_before, Ordered, Sought, span_of, IsNextSpan, NextSpan}
use Rattle.slice.proofs.OrderLaws.{same_kind, kinds, kind-less, table-less, column-less, before-end, end-less, less-end, before-trans}
use Rattle.slice.proofs.CoverLaws.{Spans, value-says, span-covers, spans-say, says-span, span-of, of-span}

-- ---- the search

module _ (ws : List ℕ) (n : ℕ) (q : Fetch) where
  -- whether fetch number i stands before q
  abbrev pub is_before : ℕ → Bool
  is_before i = fetch_before (fetch_at ws i) q

  pub before-falling : Ordered ws n → Falling 0 n is_before
  before-falling o i j a b l t = go (order i j)
    where
      go : (i < j) ⊎ ((i ≡ j) ⊎ (j < i)) → is_before i ≡ true
      go (inl x) = before-trans (fetch_at ws i) (fetch_at ws j) q (o.full j l) (o.rising i j x l) t
      go (inr (inl x)) = subst (λ (m : ℕ). is_before m ≡ true) (sym x) t
      go (inr (inr x)) = absurd (omega arith)

  pub halved-sought : (r : ℕ) → Halved 0 n is_before r r → Sought ws n q r
  halved-sought r h = record { bound = h.end; before = λ i l. h.holds i (omega arith) l; behind = λ l. h.fails r (omega arith) l }

-- the same fetch is sought
pub sought-as : {ws : List ℕ} {n i : ℕ} {p q : Fetch} → p ≡ q → Sought ws n p i → Sought ws n q i
sought-as {ws} {n} {i} e s = subst (λ (f : Fetch). Sought ws n f i) e s

-- ---- spans

some-kind : (n : ℕ) → (n ≡ 0 → ⊥) → 1 ≤ n
some-kind zero h = absurd (h refl)
some-kind (suc n) h = omega arith

module _ (ws : List ℕ) (n : ℕ) (o : Ordered ws n) (k : Column) (x i : ℕ) (s : Sought ws n (span_fetch k x x) i) where
  is_one : (m : ℕ) → m < n → ((fetch_at ws m).kind ≡ 0 → ⊥) → (fetch_at ws m).kind ≡ 1
  is_one m l z = omega (arith, some-kind (fetch_at ws m).kind z, o.kind m l)

  -- a span of the column before the one sought ends before x
  earlier : (m : ℕ) → m < n → m < i → ((fetch_at ws m).kind ≡ 0 → ⊥) → (fetch_at ws m).table ≡ k.table → (fetch_at ws m).column ≡ k.place → (fetch_at ws m).end < x
  earlier m l b z t c =
      let e = is_one m l z in
      end-less (fetch_at ws m) (span_fetch k x x) (omega arith) (before-end (fetch_at ws m) (span_fetch k x x) e t c ∙ s.before m b)

  -- the one sought is a span, and of the column if one behind it is, which begins behind it
  later : (m : ℕ) → m < n → i < m → ((fetch_at ws m).kind ≡ 0 → ⊥) → (fetch_at ws m).table ≡ k.table → (fetch_at ws m).column ≡ k.place →
      (span_of (fetch_at ws i) k ≡ true) × ((fetch_at ws i).end < (fetch_at ws m).number)
  later m l b z t c = first (kinds f g r)
    where
      f : Fetch
      f = fetch_at ws i

      g : Fetch
      g = fetch_at ws m

      q : Fetch
      q = span_fetch k x x

      r : fetch_before f g ≡ true
      r = o.rising i m b l

      stays : fetch_before f q ≡ false
      stays = s.behind (omega arith)

      g1 : g.kind ≡ 1
      g1 = is_one m l z

      first : (f.kind < g.kind) ⊎ (f.kind ≡ g.kind) → (span_of f k ≡ true) × (f.end < g.number)
      first (inl y) = clash (kind-less f q (omega (arith, g1))) stays
      first (inr y) = second (same_kind f g y r)
        where
          e : f.kind ≡ q.kind
          e = y ∙ g1

          second : (f.table < g.table) ⊎ ((f.table ≡ g.table) × ((f.column < g.column) ⊎ ((f.column ≡ g.column) × (end_before f g ≡ true)))) →
              (span_of f k ≡ true) × (f.end < g.number)
          second (inl y) = clash (table-less f q e (omega (arith, t))) stays
          second (inr (a, inl y)) = clash (column-less f q e (a ∙ t) (omega (arith, c))) stays
          second (inr (a, inr y)) = (of-span f k (λ w. omega (arith, e)) (a ∙ t) (y.0 ∙ c), end-less f g (omega (arith, e)) y.1)

  -- the only span that has x is the one sought
  pub at-span : (m : ℕ) → m < n → ((fetch_at ws m).kind ≡ 0 → ⊥) → Spans (fetch_at ws m) k x → m ≡ i
  at-span m l z h = go (order m i)
    where
      go : (m < i) ⊎ ((m ≡ i) ⊎ (i < m)) → m ≡ i
      go (inl b) = absurd (omega (arith, earlier m l b z h.table h.column, h.high))
      go (inr (inl b)) = b
      go (inr (inr b)) =
          let q = later m l b z h.table h.column in
          let p = span-of (fetch_at ws i) k q.0 in
          let e = is_one i (omega arith) p.0 in
          clash
          (sym (before-end (fetch_at ws i) (span_fetch k x x) e p.1 p.2) ∙ less-end (fetch_at ws i) (span_fetch k x x) (omega arith) (omega (arith, q.1, h.low)))
          (s.behind (omega arith))

  spanned : (y : ℕ) → Model.is_spanned (fetches_in ws n) k y ≡ any n (λ m. Model.spans (fetch_of (fetch_at ws m)) k y)
  unfolding fetches_in
  spanned y = some-tab (λ f. Model.spans f k y) n (λ m. fetch_of (fetch_at ws m))

  no_span : (y : ℕ) → ((m : ℕ) → m < n → ((fetch_at ws m).kind ≡ 0 → ⊥) → Spans (fetch_at ws m) k y → ⊥) → Model.is_spanned (fetches_in ws n) k y ≡ false
  no_span y h =
      spanned y ∙ any-refuted n _ (λ m l. refute (Model.spans (fetch_of (fetch_at ws m)) k y) (λ e. let q = spans-say (fetch_at ws m) k y e in h m l q.0 q.1))

  -- there is none from x on
  pub next-none : n ≤ i → NextSpan (fetches_in ws n) k x None
  next-none b = λ y a. no_span y (λ m l z p. absurd (omega (arith, earlier m l (omega arith) z p.table p.column, p.high)))

  module _ (l : i < n) where
    -- a span that has y is the one sought, which then begins at y or before
    lost : (y : ℕ) → x ≤ y → (span_of (fetch_at ws i) k ≡ true → y < (fetch_at ws i).number) → (m : ℕ) → m < n → ((fetch_at ws m).kind ≡ 0 → ⊥) →
        Spans (fetch_at ws m) k y → (m < i) ⊎ ((m ≡ i) ⊎ (i < m)) → ⊥
    lost y a h m d z p (inl c) = omega (arith, earlier m d c z p.table p.column, p.high)
    lost y a h m d z p (inr (inl c)) =
        let f = subst (λ (j : ℕ). ((fetch_at ws j).kind ≡ 0 → ⊥) × Spans (fetch_at ws j) k y) c (z, p) in
        omega (arith, h (of-span (fetch_at ws i) k f.0 f.1.table f.1.column), f.1.low)
    lost y a h m d z p (inr (inr c)) =
        let q = later m d c z p.table p.column in
        let u = span-of (fetch_at ws i) k q.0 in
        omega (arith, h q.0, q.1, p.low, o.full i l (omega (arith, is_one i l u.0)))

    reach : ((fetch_at ws i).kind ≡ 0 → ⊥) × ((fetch_at ws i).table ≡ k.table) × ((fetch_at ws i).column ≡ k.place) → x ≤ (fetch_at ws i).end
    reach p =
        let u = is_one i l p.0 in
        ⊎_elim
        (λ (t : ltb (fetch_at ws i).end x ≡ true).
        clash (sym (before-end (fetch_at ws i) (span_fetch k x x) u p.1 p.2) ∙ less-end (fetch_at ws i) (span_fetch k x x) (omega arith) (ltb-true _ _ t)) (s.behind l))
        (λ (t : ltb (fetch_at ws i).end x ≡ false). ltb-false _ _ t)
        (dec (ltb (fetch_at ws i).end x))

    next-is : span_of (fetch_at ws i) k ≡ true → IsNextSpan (fetches_in ws n) k x (fetch_at ws i)
    next-is t =
        let p = span-of (fetch_at ws i) k t in
        record {
          reaches = reach p;
          order = o.full i l (omega (arith, is_one i l p.0));
          has = λ y u w. spanned y ∙ any-true n _ i l (says-span (fetch_at ws i) k y p.0 (record { table = p.1; column = p.2; low = u; high = w }));
          none = λ y a h. no_span y (λ m d z q. lost y a (λ _. h) m d z q (order m i));
        }

    found : (b : Bool) → b ≡ span_of (fetch_at ws i) k → NextSpan (fetches_in ws n) k x (then_some b (fetch_at ws i))
    found true e = next-is (sym e)
    found false e = λ y a. no_span y (λ m d z q. lost y a (λ t. clash t (sym e)) m d z q (order m i))

    -- as the code makes it
    pub next-by : (b : Bool) (f : Fetch) → f ≡ fetch_at ws i → b ≡ span_of f k → NextSpan (fetches_in ws n) k x (then_some b f)
    next-by b f e h =
        subst (λ (g : Fetch). NextSpan (fetches_in ws n) k x (then_some b g)) (sym e) (found b (h ∙ ap (λ (g : Fetch). span_of g k) e))

-- ---- whether a value is fetched

-- a value doesn't stand before itself
value-apart : (k : Column) (v : Cell) → fetch_before (value_fetch k v) (value_fetch k v) ≡ true → ⊥
unfolding fetch_before end_before
value-apart k v h =
    clash h (lower-self 0 _ (lower-self k.table _ (lower-self k.place _ (lower-self v.number _ (le-ltb v.issue v.issue (omega arith))))))

abbrev pub has_at : List ℕ → Column → Cell → ℕ → Bool
has_at ws k v m = Model.covers (fetch_of (fetch_at ws m)) k v

module _ (ws : List ℕ) (n : ℕ) (o : Ordered ws n) (k : Column) (v : Cell) where
  -- the fetch that has it is the one that was sought, of the values or of the spans
  sought-value : (i m : ℕ) → Sought ws n (value_fetch k v) i → m < n → (fetch_at ws m).kind ≡ 0 → has_at ws k v m ≡ true → m ≡ i
  sought-value i m s l z h = go (order m i)
    where
      e : fetch_at ws m ≡ value_fetch k v
      e = value-says (fetch_at ws m) k v z h

      go : (m < i) ⊎ ((m ≡ i) ⊎ (i < m)) → m ≡ i
      go (inl x) = absurd (value-apart k v (subst (λ (f : Fetch). fetch_before f (value_fetch k v) ≡ true) e (s.before m x)))
      go (inr (inl x)) = x
      go (inr (inr x)) =
          clash (subst (λ (f : Fetch). fetch_before (fetch_at ws i) f ≡ true) e (o.rising i m x l)) (s.behind (omega arith))

  sought-span : (j m : ℕ) → Sought ws n (span_fetch k v.number v.number) j → m < n → ((fetch_at ws m).kind ≡ 0 → ⊥) → has_at ws k v m ≡ true → m ≡ j
  sought-span j m s l z h = at-span ws n o k v.number j s m l z (span-covers (fetch_at ws m) k v (some-kind (fetch_at ws m).kind z) h)

  pub fetched-is : (i j : ℕ) → Sought ws n (value_fetch k v) i → Sought ws n (span_fetch k v.number v.number) j →
      Model.is_fetched (fetches_in ws n) k v ≡ (ltb i n && has_at ws k v i) || (ltb j n && has_at ws k v j)
  unfolding fetches_in
  fetched-is i j s t = some-tab (λ f. Model.covers f k v) n (λ m. fetch_of (fetch_at ws m)) ∙ bool-ext (any n (has_at ws k v)) _ to from
    where
      found : (m x : ℕ) → m ≡ x → m < n → has_at ws k v m ≡ true → ltb x n && has_at ws k v x ≡ true
      found m x e l h = subst (λ (y : ℕ). ltb y n && has_at ws k v y ≡ true) e (both (lt-ltb m n l) h)

      to : any n (has_at ws k v) ≡ true → (ltb i n && has_at ws k v i) || (ltb j n && has_at ws k v j) ≡ true
      to e =
          let f = any_found n (has_at ws k v) e in
          ⊎_elim
          (λ z. sym (or_left (ltb i n && has_at ws k v i) (ltb j n && has_at ws k v j) (found f.0 i (sought-value i f.0 s f.1 z f.2) f.1 f.2)))
          (λ z. or-second (ltb i n && has_at ws k v i) (ltb j n && has_at ws k v j) (found f.0 j (sought-span j f.0 t f.1 z f.2) f.1 f.2))
          (same_number (fetch_at ws f.0).kind 0)

      hit : (x : ℕ) → ltb x n && has_at ws k v x ≡ true → any n (has_at ws k v) ≡ true
      hit x e = let q = (and-eq-true_iff (ltb x n) (has_at ws k v x)).0 e in any-true n (has_at ws k v) x (ltb-true x n q.0) q.1

      from : (ltb i n && has_at ws k v i) || (ltb j n && has_at ws k v j) ≡ true → any n (has_at ws k v) ≡ true
      from e = ⊎_elim (hit i) (hit j) (or_cases (ltb i n && has_at ws k v i) (ltb j n && has_at ws k v j) e)

  -- as the code makes it: p and q are the fetches that are sought
  pub fetched-by : {r a : Bool} (p q : Fetch) (i j : ℕ) → p ≡ value_fetch k v → q ≡ span_fetch k v.number v.number → Sought ws n p i → Sought ws n q j →
      a ≡ ltb i n && has_at ws k v i → a ≡ false → r ≡ ltb j n && has_at ws k v j → r ≡ Model.is_fetched (fetches_in ws n) k v
  fetched-by p q i j e f s t x z y =
      or-go _ _ (sym x ∙ z) y ∙ sym (fetched-is i j (sought-as e s) (sought-as f t))

-- a fetch that has the value
pub fetched-hit : (ws : List ℕ) (n i : ℕ) (k : Column) (v : Cell) → ltb i n && has_at ws k v i ≡ true → Model.is_fetched (fetches_in ws n) k v ≡ true
unfolding fetches_in
fetched-hit ws n i k v e =
    let q = (and-eq-true_iff (ltb i n) (has_at ws k v i)).0 e in
    some-tab (λ f. Model.covers f k v) n (λ m. fetch_of (fetch_at ws m)) ∙ any-true n (has_at ws k v) i (ltb-true i n q.0) q.1
