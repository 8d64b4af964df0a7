-- All columns: they have room, a loop that lists one after the other, and the directory at its end. Assumes nothing.
use Prim.Native.Nat.{ℕ, zero, suc, ◌+◌, ◌*◌, ◌/◌, ◌%◌, ◌≤◌, ◌<◌}
use native.Mathlib.Nat.{suc-mul, mul-le-mul_right, add-zero}
use native.Mathlib.Numerals.{add-one}
use native.Mathlib.Omega.{arith}
use mathlib.Core.Path.{◌≡◌, refl, sym, ap, subst, ◌∙◌}
use mathlib.Core.Bool.{true, cond}
use mathlib.Core.List.{List}
use mathlib.Core.Logic.{◌⊎◌, inl, inr}
use borrow.Author.Tests.{lt-ltb, le-ltb, eq-eqb, ne_eqb}
use lib.Dec.{eqb, ltb}
use lib.ListN.{length, get_or, set, length-set}
use lib.Seq.{get_or-set_same, get_or-set_other}
use Rattle.finite.specs.Finite.{count}
use Rattle.finite.proofs.Bools.{same_number, order}
use Rattle.finite.proofs.Counting.{count-le, count_none}
use Rattle.model.specs.Database.{Database}
use Rattle.catalog.specs.Catalog.{next_of, Lists, Directory}
use Rattle.catalog.specs.Listing.{in_table, Added}
use Rattle.catalog.specs.Columns.{column_no, size_of, used, Columns}
use Rattle.catalog.proofs.ListedLaws.{listed_same}

-- ---- room

module _ (f : ℕ → ℕ) (t : ℕ) where
  -- a number below t + 1 is below t or t
  split : (x : ℕ) → cond (ltb x (t + 1)) 1 0 ≡ cond (ltb x t) 1 0 + cond (eqb x t) 1 0
  split x = go (order x t)
    where
      go : (x < t) ⊎ ((x ≡ t) ⊎ (t < x)) → cond (ltb x (t + 1)) 1 0 ≡ cond (ltb x t) 1 0 + cond (eqb x t) 1 0
      go (inl h) = rw (lt-ltb x (t + 1) (omega arith), lt-ltb x t h, ne_eqb x t (λ e. omega arith))
      go (inr (inl h)) = rw (lt-ltb x (t + 1) (omega arith), le-ltb x t (omega arith), eq-eqb x t h)
      go (inr (inr h)) = rw (le-ltb x (t + 1) (omega arith), le-ltb x t (omega arith), ne_eqb x t (λ e. omega arith))

  count-split : (n : ℕ) → count n (λ s. ltb (f s) (t + 1)) ≡ count n (λ s. ltb (f s) t) + count n (λ s. eqb (f s) t)
  unfolding count
  count-split zero = refl
  count-split (suc n) = omega (arith, count-split n, split (f n))

module _ (D : Database) where
  -- how many rows the tables below t have
  abbrev below : ℕ → ℕ
  below t = count 512 (λ s. ltb (D.table s) t)

  pub size_is : (t : ℕ) → size_of D t ≡ count 512 (in_table D t)
  unfolding size_of
  size_is t = refl

  below_next : (t : ℕ) → below (suc t) ≡ below t + size_of D t
  below_next t =
      ap below (sym (add-one t)) ∙ count-split (λ s. D.table s) t 512 ∙ ap (λ (n : ℕ). below t + n) (sym (size_is t))

  used-next : (n : ℕ) → used D (n + 1) ≡ used D n + size_of D (n / 8)
  unfolding used
  used-next n = rw add-one

  -- within a table
  used-in : (t i : ℕ) → i ≤ 8 → used D (8 * t + i) ≡ used D (8 * t) + i * size_of D t
  used-in t zero l = ap (used D) (add-zero (8 * t)) ∙ omega arith
  used-in t (suc i) l =
      let a : 8 * t + suc i ≡ 8 * t + i + 1 = omega arith in
      let b : (8 * t + i) / 8 ≡ t = omega arith in
      ap (used D) a ∙ used-next (8 * t + i) ∙ omega (arith, used-in t i (omega arith), ap (size_of D) b, suc-mul i (size_of D t))

  -- whole tables
  used-tables : (t : ℕ) → used D (8 * t) ≡ 8 * below t
  unfolding used
  used-tables zero = omega (arith, count_none 512 (λ s. ltb (D.table s) 0) (λ r l. le-ltb (D.table r) 0 (omega arith)))
  used-tables (suc t) =
      let a : 8 * suc t ≡ 8 * t + 8 = omega arith in
      ap (used D) a ∙ omega (arith, used-in t 8 (omega arith), used-tables t, below_next t)

  pub used-room : (n : ℕ) → n < 64 → used D n + size_of D (n / 8) ≤ 4096
  used-room n l =
      let t : ℕ = n / 8 in
      let i : ℕ = n % 8 in
      let a : n ≡ 8 * t + i = omega arith in
      omega (
        arith,
        ap (used D) a,
        used-in t i (omega arith),
        used-tables t,
        below_next t,
        suc-mul i (size_of D t),
        mul-le-mul_right {m = suc i} {n = 8} (size_of D t) (omega arith),
        count-le 512 (λ s. ltb (D.table s) (suc t)),
      )

-- ---- the loop

module _ (D : Database) where
  pub columns-start : (keys heads starts next : List ℕ) → length keys ≡ 4096 → length heads ≡ 4096 → length starts ≡ 65 → length next ≡ 4096
      → Columns D 0 0 keys heads (set starts 0 0) next
  columns-start keys heads starts next kl hl sl nl =
      record {
        keys-long = kl;
        heads-long = hl;
        starts-long = length-set starts 0 0 ∙ sl;
        next-long = nl;
        room = omega arith;
        last = get_or-set_same starts 0 0 0 (omega arith);
        ends = λ j l. ends j (omega arith);
        lists = λ j l. absurd (omega arith);
        linked = λ s c a b l. absurd (omega arith);
      }
    where
      ends : (j : ℕ) → j ≡ 0 → get_or (set starts 0 0) j 0 ≤ 0
      ends j e = omega (arith, ap (λ (z : ℕ). get_or (set starts 0 0) z 0) e, get_or-set_same starts 0 0 0 (omega arith))

  module _ (n m : ℕ) (keys heads starts next : List ℕ) (x : Columns D n m keys heads starts next) (l : n < 64) where
    -- as the next column's turn finds it
    pub columns-room : m + count 512 (in_table D (n / 8)) ≤ 4096
    columns-room = omega (arith, x.room, used-room D n l, size_is D (n / 8))

    module _ (m' : ℕ) (keys' heads' next' : List ℕ) (y : Added D (column_no n) 0 m keys heads next m' keys' heads' next') where
      abbrev starts' : List ℕ
      starts' = set starts (n + 1) m'

      at-end : get_or starts' (n + 1) 0 ≡ m'
      at-end = get_or-set_same starts (n + 1) m' 0 (omega (arith, x.starts-long))

      before : (j : ℕ) → j ≤ n → get_or starts' j 0 ≡ get_or starts j 0
      before j h = get_or-set_other starts (n + 1) j m' 0 (λ e. omega arith)

      -- the new column
      own : Lists D (column_no n) (get_or starts' n 0) (get_or starts' (n + 1) 0) keys' heads'
      own =
          subst (λ (z : ℕ). Lists D (column_no n) z (get_or starts' (n + 1) 0) keys' heads') (sym (before n (omega arith) ∙ x.last))
          (subst (λ (z : ℕ). Lists D (column_no n) m z keys' heads') (sym at-end) y.listed)

      -- an old one
      old : (j : ℕ) → j < n → Lists D (column_no j) (get_or starts' j 0) (get_or starts' (j + 1) 0) keys' heads'
      old j h =
          subst (λ (z : ℕ). Lists D (column_no j) z (get_or starts' (j + 1) 0) keys' heads') (sym (before j (omega arith)))
          (subst (λ (z : ℕ). Lists D (column_no j) (get_or starts j 0) z keys' heads') (sym (before (j + 1) (omega arith)))
          (listed_same D (column_no j) 0 (get_or starts j 0) (get_or starts (j + 1) 0) keys heads (x.lists j h) keys' heads'
          (λ i u. y.keys_kept i (omega (arith, x.ends (j + 1) (omega arith)))) (λ i u. y.heads-kept i (omega (arith, x.ends (j + 1) (omega arith))))))

      ends : (j : ℕ) → (j ≡ n + 1) ⊎ (j ≡ n + 1 → ⊥) → j ≤ n + 1 → get_or starts' j 0 ≤ m'
      ends j (inl e) h = omega (arith, ap (λ (z : ℕ). get_or starts' z 0) e, at-end)
      ends j (inr e) h = omega (arith, before j (omega (arith, e)), x.ends j (omega (arith, e)), y.listed.order)

      lists : (j : ℕ) → (j ≡ n) ⊎ (j ≡ n → ⊥) → j < n + 1 → Lists D (column_no j) (get_or starts' j 0) (get_or starts' (j + 1) 0) keys' heads'
      lists j (inl e) h = subst (λ (z : ℕ). Lists D (column_no z) (get_or starts' z 0) (get_or starts' (z + 1) 0) keys' heads') (sym e) own
      lists j (inr e) h = old j (omega (arith, e))

      linked : (s c : ℕ) → c < 8 → D.live s ≡ true → 8 * D.table s + c < n + 1 → (8 * D.table s + c ≡ n) ⊎ (8 * D.table s + c ≡ n → ⊥)
          → get_or next' (8 * s + c) 0 ≡ next_of D s c
      linked s c a b h (inl e) =
          let q : c ≡ n % 8 = omega arith in
          subst (λ (z : ℕ). get_or next' (8 * s + z) 0 ≡ next_of D s z) (sym q) (y.done s (omega arith) b (omega arith))
      linked s c a b h (inr e) = y.others s c a (λ w. e (omega (arith, w.0, w.1))) ∙ x.linked s c a b (omega (arith, e))

      pub columns-turn : Columns D (n + 1) m' keys' heads' (set starts (n + 1) m') next'
      columns-turn =
          record {
            keys-long = y.keys-long ∙ x.keys-long;
            heads-long = y.heads-long ∙ x.heads-long;
            starts-long = length-set starts (n + 1) m' ∙ x.starts-long;
            next-long = y.next-long ∙ x.next-long;
            room = omega (arith, x.room, y.room, used-next D n, size_is D (n / 8));
            last = at-end;
            ends = λ j h. ends j (same_number j (n + 1)) h;
            lists = λ j h. lists j (same_number j n) h;
            linked = λ s c a b h. linked s c a b h (same_number (8 * D.table s + c) n);
          }

  module _ (m : ℕ) (keys heads starts next : List ℕ) where
    pub columns-end : (n : ℕ) → n ≤ 64 → 64 ≤ n → Columns D n m keys heads starts next → Columns D 64 m keys heads starts next
    columns-end n a b x = let e : n ≡ 64 = omega arith in subst (λ (z : ℕ). Columns D z m keys heads starts next) e x

    pub columns-directory : Columns D 64 m keys heads starts next → Directory D keys heads starts
    columns-directory x = record { keys-long = x.keys-long; heads-long = x.heads-long; starts-long = x.starts-long; column = λ t c a b. column t c a b }
      where
        column : (t c : ℕ) → t < 8 → c < 8 → Lists D (record { table = t; place = c }) (get_or starts (8 * t + c) 0) (get_or starts (8 * t + c + 1) 0) keys heads
        column t c a b =
            let p : (8 * t + c) / 8 ≡ t = omega arith in
            let q : (8 * t + c) % 8 ≡ c = omega arith in
            subst (λ (z : ℕ). Lists D (record { table = t; place = z }) (get_or starts (8 * t + c) 0) (get_or starts (8 * t + c + 1) 0) keys heads) q
            (subst (λ (z : ℕ). Lists D (record { table = z; place = (8 * t + c) % 8 }) (get_or starts (8 * t + c) 0) (get_or starts (8 * t + c + 1) 0) keys heads) p
            (x.lists (8 * t + c) (omega arith)))
