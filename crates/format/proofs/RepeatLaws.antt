-- The first row that repeats a value of an earlier row in a unique column is the lowest next row of a cell in such a column. Assumes nothing.
use Prim.Native.Nat.{ℕ, zero, suc, ◌+◌, ◌*◌, ◌/◌, ◌%◌, ◌≤◌, ◌<◌, min}
use native.Mathlib.Decide.{dec_lt}
use native.Mathlib.Omega.{arith}
use mathlib.Core.Path.{◌≡◌, refl, sym, ap, ap₂, ◌∙◌}
use mathlib.Core.Bool.{Bool, true, false, not, ◌&&◌, and-eq-true_iff}
use mathlib.Core.Logic.{◌⊎◌, inl, inr, ⊎_elim}
use mathlib.Core.List.{List}
use borrow.Author.Tests.{ltb-true, ltb-false, lt-ltb}
use lib.Dec.{eqb, ltb}
use lib.ListN.{get_or}
use Rattle.finite.specs.Finite.{any}
use Rattle.finite.proofs.Bools.{dec, clash, refute, both, cond-true, cond-false, cond-case}
use Rattle.finite.proofs.Search.{below_suc, any-true, any_found}
use Rattle.finite.proofs.Tables.{tab-at}
use Rattle.model.specs.Cell.{Cell}
use Rattle.model.specs.Scheme as Model
use Rattle.model.specs.Scheme.{Scheme}
use Rattle.model.specs.Database.{Database, has}
use Rattle.model.proofs.CellLaws.{equal-self}
use Rattle.model.proofs.DatabaseLaws.{has-Has, Has-has, has-full}
use Rattle.state.specs.Cells.{Cells}
use Rattle.state.specs.declared.design.Design.{Design}
use Rattle.state.specs.Meaning.{free_table, scheme_of, database_of}
use Rattle.state.specs.Lawful.{repeats_at, repeats}
use Rattle.finite.specs.Finite.{first_from}
use Rattle.catalog.specs.Catalog.{column_at, next_of, nexts}
use Rattle.finite.proofs.First.{first-from}
use Rattle.catalog.proofs.CatalogLaws.{has-table, has-cell, next-from}
use Rattle.std.specs.List.{fold, range_with_len}
use Rattle.format.specs.Admitting.{again, None, Earliest, unique_next, lower, lowest}

-- ---- the lowest of some numbers

lower-left : (a b : ℕ) → lower a b ≤ a
lower-left a b = cond-case (λ x. x ≤ a) (ltb b a) b a (λ e. let h = ltb-true b a e in omega arith) (λ e. omega arith)

lower-right : (a b : ℕ) → lower a b ≤ b
lower-right a b = cond-case (λ x. x ≤ b) (ltb b a) b a (λ e. omega arith) (ltb-false b a)

-- ... as `min` tells the lower of two, and as a fold takes them in turn
pub min-lower : (a b : ℕ) → min a b ≡ lower a b
min-lower a b = cond-case (λ x. min a b ≡ x) (ltb b a) b a (λ e. let h = ltb-true b a e in omega arith) (λ e. let h = ltb-false b a e in omega arith)

abbrev folded : (ℕ → ℕ) → ℕ → List ℕ → ℕ
folded f m xs = fold (λ r x. lower r (f x)) m xs

folded-last : (f : ℕ → ℕ) (m a n : ℕ) → folded f m (range_with_len a (suc n)) ≡ lower (folded f m (range_with_len a n)) (f (a + n))
folded-last f m a zero = ap (λ (k : ℕ). lower m (f k)) (omega arith)
folded-last f m a (suc n) = folded-last f (lower m (f a)) (a + 1) n
    ∙ ap (λ (k : ℕ). lower (folded f (lower m (f a)) (range_with_len (a + 1) n)) (f k)) (omega arith)

pub lowest-fold : (f : ℕ → ℕ) (n : ℕ) → fold (λ r x. lower r (f x)) 512 (range_with_len 0 n) ≡ lowest n f
unfolding lowest
lowest-fold f zero = refl
lowest-fold f (suc n) = folded-last f 512 0 n ∙ ap (λ (k : ℕ). lower (folded f 512 (range_with_len 0 n)) (f k)) (omega arith)
    ∙ ap (λ (r : ℕ). lower r (f n)) (lowest-fold f n)

lowest-under : (n : ℕ) (f : ℕ → ℕ) (i : ℕ) → i < n → lowest n f ≤ f i
unfolding lowest
lowest-under zero f i l = absurd (omega arith)
lowest-under (suc n) f i l =
    ⊎_elim (λ (e : i ≡ n). let h = lower-right (lowest n f) (f n) in let g : f i ≡ f n = ap f e in omega arith)
    (λ (k : i < n). let h = lower-left (lowest n f) (f n) in let g = lowest-under n f i k in omega arith) (below_suc l)

lowest-found : (n : ℕ) (f : ℕ → ℕ) → lowest n f < 512 → (i : ℕ) × (i < n) × (f i ≡ lowest n f)
unfolding lowest
lowest-found zero f l = absurd (omega arith)
lowest-found (suc n) f l = go (λ h. lowest-found n f h) (dec (ltb (f n) (lowest n f)))
  where
    go : (lowest n f < 512 → (i : ℕ) × (i < n) × (f i ≡ lowest n f)) → (ltb (f n) (lowest n f) ≡ true) ⊎ (ltb (f n) (lowest n f) ≡ false)
        → (i : ℕ) × (i < suc n) × (f i ≡ lower (lowest n f) (f n))
    go before (inl e) = (n, omega arith, sym (cond-true (ltb (f n) (lowest n f)) (f n) (lowest n f) e))
    go before (inr e) =
        let h = cond-false (ltb (f n) (lowest n f)) (f n) (lowest n f) e in
        let g = before (omega arith) in
        (g.0, (let k = g.1 in omega arith), g.2 ∙ sym h)

-- ---- a cell's next row in a unique column

module _ (d : Design) (tables next : List ℕ) (x : ℕ) where
  pub next-free : (scheme_of d).unique (record { table = get_or tables (x / 8) 0; place = x % 8 }) ≡ false → 512 ≡ unique_next d tables next x
  unfolding unique_next
  next-free e = sym (cond-false _ (get_or next x 0) 512 e)

  pub next-unique : (scheme_of d).unique (record { table = get_or tables (x / 8) 0; place = x % 8 }) ≡ true → get_or next x 0 ≡ unique_next d tables next x
  unfolding unique_next
  next-unique e = sym (cond-true _ (get_or next x 0) 512 e)

-- ---- repeated values

module _ (S : Scheme) (D : Database) (r c : ℕ) where
  -- row r repeats row q's value
  repeats-known : c < 8 → (k : Model.Column) (v : Cell) (q : ℕ) → k.place ≡ c → D.table r ≡ k.table → D.cell r c ≡ v
      → S.unique k ≡ true → q < r → has D k v q ≡ true → repeats S D r ≡ true
  unfolding repeats repeats_at
  repeats-known l k v q p t e u b h =
      any-true 8 (repeats_at S D r) c l
      (ap₂ (λ (y : ℕ) (w : Cell). S.unique (record { table = y; place = c }) && any r (has D (record { table = y; place = c }) w)) t e ∙
      ap (λ (y : ℕ). S.unique (record { table = k.table; place = y }) && any r (has D (record { table = k.table; place = y }) v)) (sym p) ∙
      both u (any-true r (has D k v) q b h))

  repeats-found : repeats_at S D r c ≡ true
      → (S.unique (column_at D r c) ≡ true) × (q : ℕ) × (q < r) × (has D (column_at D r c) (D.cell r c) q ≡ true)
  unfolding repeats_at
  repeats-found e =
      let a = (and-eq-true_iff (S.unique (column_at D r c)) (any r (has D (column_at D r c) (D.cell r c)))).0 e in
      let f = any_found r (has D (column_at D r c) (D.cell r c)) a.1 in
      (a.0, f.0, f.1, f.2)

-- a next row: the row has a value, and the next row has it too
next-says : (D : Database) (q c r : ℕ) → q < 512 → r < 512 → next_of D q c ≡ r
    → (has D (column_at D q c) (D.cell q c) q ≡ true) × (has D (column_at D q c) (D.cell q c) r ≡ true) × (q < r)
unfolding next_of
next-says D q c r a b e = go (dec (has D (column_at D q c) (D.cell q c) q))
  where
    p : ℕ → Bool
    p = has D (column_at D q c) (D.cell q c)

    go : (has D (column_at D q c) (D.cell q c) q ≡ true) ⊎ (has D (column_at D q c) (D.cell q c) q ≡ false)
        → (has D (column_at D q c) (D.cell q c) q ≡ true) × (has D (column_at D q c) (D.cell q c) r ≡ true) × (q < r)
    go (inr h) = absurd (let z = cond-false (p q) (first_from 512 p (q + 1)) 512 h in omega arith)
    go (inl h) =
        let z : first_from 512 p (q + 1) ≡ r = sym (cond-true (p q) (first_from 512 p (q + 1)) 512 h) ∙ e in
        let f = first-from 512 p (q + 1) (omega arith) in
        (h, ap p (sym z) ∙ f.here (omega arith), (let g = f.start in omega arith))

module _ (d : Design) (n : ℕ) (cells : Cells) (tables next : List ℕ) (few : n ≤ 512) (e : next ≡ nexts (database_of cells tables)) where
  abbrev D : Database
  D = database_of cells tables

  abbrev S : Scheme
  S = scheme_of d

  abbrev found : ℕ
  found = lowest (8 * n) (unique_next d tables next)

  found-repeats : found < 512 → again d cells tables found ≡ true
  unfolding unique_next database_of
  found-repeats l = go (lowest-found (8 * n) (unique_next d tables next) l)
    where
      go : (x : ℕ) × (x < 8 * n) × (unique_next d tables next x ≡ found) → again d cells tables found ≡ true
      go h = at (dec (S.unique (column_at D (x / 8) (x % 8))))
        where
          x : ℕ
          x = h.0

          at : (S.unique (column_at D (x / 8) (x % 8)) ≡ true) ⊎ (S.unique (column_at D (x / 8) (x % 8)) ≡ false) → again d cells tables found ≡ true
          at (inr u) = absurd (let z = cond-false (S.unique (column_at D (x / 8) (x % 8))) (get_or next x 0) 512 u in let y = h.2 in omega arith)
          at (inl u) =
              let b = h.1 in
              let z : next_of D (x / 8) (x % 8) ≡ found =
              sym (ap (λ (xs : List ℕ). get_or xs x 0) e ∙ tab-at 0 4096 (λ y. next_of D (y / 8) (y % 8)) x (omega arith)) ∙
              sym (cond-true (S.unique (column_at D (x / 8) (x % 8))) (get_or next x 0) 512 u) ∙ h.2 in
              let k = column_at D (x / 8) (x % 8) in
              let v = D.cell (x / 8) (x % 8) in
              let s = next-says D (x / 8) (x % 8) found (omega arith) l z in
              repeats-known S D found (x % 8) (omega arith) k v (x / 8) refl (has-table D k v found s.1) (has-cell D k v found s.1) u s.2 s.0

  none_before : (q : ℕ) → q < n → q < found → again d cells tables q ≡ false
  unfolding repeats database_of
  none_before q b l = refute (again d cells tables q) (λ h. go (any_found 8 (repeats_at S D q) h))
    where
      go : (c : ℕ) × (c < 8) × (repeats_at S D q c ≡ true) → ⊥
      go h = absurd (omega (arith, lowest-under (8 * n) (unique_next d tables next) (8 * j + c) (omega (arith, below, ab)), not-later, link))
        where
          c : ℕ
          c = h.0

          ab : c < 8
          ab = h.1

          a : (S.unique (column_at D q c) ≡ true) × (j : ℕ) × (j < q) × (has D (column_at D q c) (D.cell q c) j ≡ true)
          a = repeats-found S D q c h.2

          j : ℕ
          j = a.1

          below : j < q
          below = a.2

          has_j : has D (column_at D q c) (D.cell q c) j ≡ true
          has_j = a.3

          -- row j's table is row q's, so that number q has a row too
          t : D.table j ≡ D.table q
          t = has-table D (column_at D q c) (D.cell q c) j has_j

          taken : not (eqb (get_or tables j 0) free_table) ≡ true
          taken = ((and-eq-true_iff (ltb j 512) _).0 (has-Has D (column_at D q c) (D.cell q c) j has_j).live).1

          has-q : has D (column_at D q c) (D.cell q c) q ≡ true
          has-q =
              Has-has
              (record {
                live = both (lt-ltb q 512 (omega arith)) (ap (λ (t : ℕ). not (eqb t free_table)) (sym t) ∙ taken);
                table = refl;
                value = equal-self (D.cell q c) (has-full (has-Has D (column_at D q c) (D.cell q c) j has_j));
              })

          -- the next row of row j
          after : ℕ
          after = first_from 512 (has D (column_at D q c) (D.cell q c)) (j + 1)

          not-later : after ≤ q
          not-later = at (dec_lt q after)
            where
              at : Dec (q < after) → after ≤ q
              at (yes k) = clash has-q ((first-from 512 (has D (column_at D q c) (D.cell q c)) (j + 1) (omega (arith, below))).none q (omega (arith, below)) k)
              at (no k) = omega arith

          link : unique_next d tables next (8 * j + c) ≡ after
          link =
              let y : (8 * j + c) / 8 ≡ j = omega (arith, ab) in
              let z : (8 * j + c) % 8 ≡ c = omega (arith, ab) in
              sym (next-unique d tables next (8 * j + c)
              (ap₂ (λ (m n : ℕ). S.unique (record { table = get_or tables m 0; place = n })) y z ∙
              ap (λ (m : ℕ). S.unique (record { table = m; place = c })) t ∙ a.0)) ∙
              next-from D (column_at D q c) (D.cell q c) j has_j _
              (ap (λ (xs : List ℕ). get_or xs (8 * j + c) 0) e ∙ tab-at 0 4096 (λ y. next_of D (y / 8) (y % 8)) (8 * j + c) (omega (arith, below, ab)) ∙ ap₂ (next_of D) y z)

  pub found_none : (r : ℕ) → r ≡ found → n ≤ r → None n (again d cells tables)
  found_none r f h q l = none_before q l (omega arith)

  pub found_first : (r : ℕ) → r ≡ found → r < n → Earliest n (again d cells tables) r
  found_first r f h =
      record { below = h; here = ap (again d cells tables) f ∙ found-repeats (omega arith); before = λ q l. none_before q (omega arith) (omega arith) }
