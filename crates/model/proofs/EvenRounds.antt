-- Req 01: in an even design of T tables no load takes more than 2 T - 1 later rounds. A row of a late round stands at the end of a chain of demands.
-- In an even design a cycle of the chain carries one value through one column of each table, so a table is met at most twice. Assumes nothing.
use Prim.Native.Nat.{ℕ, zero, suc, ◌+◌, ◌*◌, ◌-◌, ◌≤◌, ◌<◌}
use native.Mathlib.Nat.{eq-or-lt_of_le, le_of_suc-le-suc, not-suc-le-zero}
use native.Mathlib.Omega.{arith}
use mathlib.Core.Path.{◌≡◌, refl, sym, ap, ◌∙◌, subst}
use mathlib.Core.Logic.{◌⊎◌, inl, inr}
use mathlib.Core.Bool.{Bool, true, false, cond}
use mathlib.Core.List.{List, [], ◌∷◌}
use borrow.Author.Tests.{eqb-true, eq-eqb}
use lib.Dec.{eqb}
use lib.ListN.{length}
use Rattle.model.specs.Cell.{Cell}
use Rattle.finite.specs.Finite.{any, count}
use Rattle.model.specs.Scheme.{Column, Scheme}
use Rattle.model.specs.Database.{Database, Has, Lawful}
use Rattle.model.specs.Cache.{RowSet, Inside}
use Rattle.model.specs.Rounds.{level, load, later_rounds}
use Rattle.model.specs.Even.{Reaches, here, along, Cyclic, Even}
use Rattle.finite.proofs.Bools.{dec}
use Rattle.finite.proofs.Search.{any_found}
use Rattle.finite.proofs.Counting.{count-le}
use Rattle.model.proofs.CellLaws.{equal-same}
use Rattle.model.proofs.Closed.{Closed}
use Rattle.model.proofs.ReachLaws.{reach-join}
use Rattle.model.proofs.RoundsLaws.{Distances, load-distances, load-closed, level-reached}

-- a row has one value in a column
pub one_value : {D : Database} {k : Column} {v w : Cell} {r : ℕ} → Has D k v r → Has D k w r → v ≡ w
one_value g h = sym (equal-same _ _ g.value) ∙ equal-same _ _ h.value

-- ---- reaching

module _ {S : Scheme} where
  reach-on : {t : ℕ} (i : ℕ) → i < S.constraints → Reaches S (S.constraint i).source.table t → Reaches S (S.constraint i).target.table t
  reach-on i l p = reach-join p (along i l refl (here refl))

-- ---- chains of demands

columns-meet : {S : Scheme} → Even S → {i j : ℕ} → Cyclic S i j → (S.constraint i).target ≡ (S.constraint j).source
unfolding Even
columns-meet even {i} {j} c = λ n. record { table = c.meet n; place = even i j c n }

module _ (S : Scheme) (D : Database) (L : List ℕ) where
  -- row b is demanded of row a by constraint i, through the value v, and is one level later
  record Step (i : ℕ) (v : Cell) (a b : ℕ) : Type 0 where
    exists : i < S.constraints
    source : Has D (S.constraint i).source v a
    target : Has D (S.constraint i).target v b
    from : 0 < level L a
    rise : level L b ≡ suc (level L a)

  -- steps from row p to row y: the first by i₀ and v₀, the last by i and v from row w
  data Trip (p i₀ : ℕ) (v₀ : Cell) : ℕ → ℕ → Cell → ℕ → Type 0 where
    first : {y : ℕ} → Step i₀ v₀ p y → Trip p i₀ v₀ y i₀ v₀ p
    more : {y i : ℕ} {v : Cell} {w z j : ℕ} {u : Cell} → Trip p i₀ v₀ y i v w → Step j u y z → Trip p i₀ v₀ z j u y

  module _ {p i₀ : ℕ} {v₀ : Cell} where
    last_step : {y i : ℕ} {v : Cell} {w : ℕ} → Trip p i₀ v₀ y i v w → Step i v w y
    last_step (first s) = s
    last_step (more t s) = s

    first-source : {y i : ℕ} {v : Cell} {w : ℕ} → Trip p i₀ v₀ y i v w → (i₀ < S.constraints) × Has D (S.constraint i₀).source v₀ p
    first-source (first s) = (s.exists, s.source)
    first-source (more t s) = first-source t

    -- the first row's table reaches the last step's source
    to_last : {y i : ℕ} {v : Cell} {w : ℕ} → Trip p i₀ v₀ y i v w → Reaches S (S.constraint i).source.table (D.table p)
    to_last (first s) = here s.source.table
    to_last (more t s) =
        let l = last_step t in
        subst (λ (n : ℕ). Reaches S n (D.table p)) (sym l.target.table ∙ s.source.table) (reach-on _ l.exists (to_last t))

    -- the first step's target reaches the last row's table
    to_end : {y i : ℕ} {v : Cell} {w : ℕ} → Trip p i₀ v₀ y i v w → Reaches S (D.table y) (S.constraint i₀).target.table
    to_end (first s) = here (sym s.target.table)
    to_end (more t s) =
        subst (λ (n : ℕ). Reaches S n (S.constraint i₀).target.table) (sym s.target.table)
        (reach-on _ s.exists (subst (λ (n : ℕ). Reaches S n (S.constraint i₀).target.table) s.source.table (to_end t)))

    module _ (even : Even S) where
      -- on a cycle each step carries the first one's value
      same-value : {y i : ℕ} {v : Cell} {w : ℕ} → Trip p i₀ v₀ y i v w → Reaches S (D.table p) (D.table y) → v ≡ v₀
      same-value (first s) back = refl
      same-value (more {y = y} {i = i} {v = v} {w = w} {j = j} {u = u} t s) back = sym (one_value (subst (λ (k : Column). Has D k v y) c l.target) s.source) ∙ same-value t (along j s.exists s.source.table onward)
        where
          l : Step i v w y
          l = last_step t

          onward : Reaches S (D.table p) (S.constraint j).target.table
          onward = subst (λ (n : ℕ). Reaches S (D.table p) n) s.target.table back

          c : (S.constraint i).target ≡ (S.constraint j).source
          c = columns-meet even (record { first = l.exists; second = s.exists; meet = sym l.target.table ∙ s.source.table; back = reach-join onward (to_last t) })

      -- back at the first row's table, the last step ends where the first began
      back-column : {y i : ℕ} {v : Cell} {w : ℕ} → Trip p i₀ v₀ y i v w → D.table y ≡ D.table p → (S.constraint i).target ≡ (S.constraint i₀).source
      back-column (first s) e =
          columns-meet even (record { first = s.exists; second = s.exists; meet = sym s.target.table ∙ e ∙ s.source.table; back = here (sym s.target.table ∙ e ∙ s.source.table) })
      back-column (more {j = j} t s) e =
          let f = first-source t in
          columns-meet even
          (record {
            first = s.exists;
            second = f.0;
            meet = sym s.target.table ∙ e ∙ f.1.table;
            back = subst (λ (n : ℕ). Reaches S n (S.constraint i₀).target.table) s.source.table (to_end t);
          })

      -- a table met a third time: the row would have come with the second
      thrice : {old seed : RowSet} → Distances S D old seed L → {q i : ℕ} {v : Cell} {w s j : ℕ} {u : Cell} {x : ℕ} → Trip p i₀ v₀ q i v w → Trip p i₀ v₀ s j u x →
          D.table q ≡ D.table p → D.table s ≡ D.table p → level L q < level L s → ⊥
      thrice d {q} {i} {v} {w} {s} {j} {u} {x} a b e f lt =
          let k = last_step a in
          let h : Has D (S.constraint i).target v s =
          rw (back-column b f ∙ sym (back-column a e), same-value b (here f) ∙ sym (same-value a (here e))) at (last_step b).target in
          let c = d.closed w s k.from (record { number = i; exists = k.exists; value = v; source = k.source; target = h }) in
          omega (arith, k.rise)

  -- a chain from a row of round 0: the last row, and the rows before it, the latest first
  data Chain : ℕ → List ℕ → Type 0 where
    base : {r : ℕ} → D.live r ≡ true → Chain r []
    up : {r : ℕ} {rows : List ℕ} {i : ℕ} {v : Cell} {s : ℕ} → Chain r rows → Step i v r s → Chain s (r ∷ rows)

  -- how many of the rows are of table t
  visits : ℕ → List ℕ → ℕ
  visits t [] = 0
  visits t (r ∷ rows) = cond (eqb (D.table r) t) 1 0 + visits t rows

  -- a row of table t before y
  record Back (t y : ℕ) : Type 0 where
    p : ℕ
    i₀ : ℕ
    v₀ : Cell
    i : ℕ
    v : Cell
    w : ℕ
    at : D.table p ≡ t
    trip : Trip p i₀ v₀ y i v w

  -- two rows of table t before s
  record Twice (t s : ℕ) : Type 0 where
    p : ℕ
    i₀ : ℕ
    v₀ : Cell
    q : ℕ
    i : ℕ
    v : Cell
    w : ℕ
    j : ℕ
    u : Cell
    x : ℕ
    at_p : D.table p ≡ t
    at-q : D.table q ≡ t
    later : level L q < level L s
    to-q : Trip p i₀ v₀ q i v w
    to-s : Trip p i₀ v₀ s j u x

  find-one : {s : ℕ} {rows : List ℕ} → Chain s rows → (t : ℕ) → 0 < visits t rows → Back t s
  unfolding visits
  find-one (base e) t h = absurd (omega arith)
  find-one (up {r = r} {rows = rows} {i = i} {v = v} {s = s} c k) t h = go (dec (eqb (D.table r) t)) (find-one c t)
    where
      go : (eqb (D.table r) t ≡ true) ⊎ (eqb (D.table r) t ≡ false) → (0 < visits t rows → Back t r) → Back t s
      go (inl e) ih = record { p = r; i₀ = i; v₀ = v; i = i; v = v; w = r; at = eqb-true _ _ e; trip = first k }
      go (inr e) ih =
          let g : 0 < 0 + visits t rows = rw e at h in
          let b = ih (omega arith) in
          record { p = b.p; i₀ = b.i₀; v₀ = b.v₀; i = i; v = v; w = r; at = b.at; trip = more b.trip k }

  find-two : {s : ℕ} {rows : List ℕ} → Chain s rows → (t : ℕ) → 1 < visits t rows → Twice t s
  unfolding visits
  find-two (base e) t h = absurd (omega arith)
  find-two (up {r = r} {rows = rows} {i = i} {v = v} {s = s} c k) t h = go (dec (eqb (D.table r) t)) (find-two c t)
    where
      go : (eqb (D.table r) t ≡ true) ⊎ (eqb (D.table r) t ≡ false) → (1 < visits t rows → Twice t r) → Twice t s
      go (inl e) ih =
          let g : 1 < 1 + visits t rows = rw e at h in
          let b = find-one c t (omega arith) in
          record {
            p = b.p;
            i₀ = b.i₀;
            v₀ = b.v₀;
            q = r;
            i = b.i;
            v = b.v;
            w = b.w;
            j = i;
            u = v;
            x = r;
            at_p = b.at;
            at-q = eqb-true _ _ e;
            later = omega (arith, k.rise);
            to-q = b.trip;
            to-s = more b.trip k;
          }
      go (inr e) ih =
          let g : 1 < 0 + visits t rows = rw e at h in
          let b = ih (omega arith) in
          record {
            p = b.p;
            i₀ = b.i₀;
            v₀ = b.v₀;
            q = b.q;
            i = b.i;
            v = b.v;
            w = b.w;
            j = i;
            u = v;
            x = r;
            at_p = b.at_p;
            at-q = b.at-q;
            later = omega (arith, k.rise, b.later);
            to-q = b.to-q;
            to-s = more b.to-s k;
          }

  -- a chain meets a table at most twice
  visits-le : Even S → {old seed : RowSet} → Distances S D old seed L → {s : ℕ} {rows : List ℕ} → Chain s rows → (t : ℕ) → visits t (s ∷ rows) ≤ 2
  unfolding visits
  visits-le even d {s = s} (base e) t = go (eqb (D.table s) t)
    where
      go : (b : Bool) → cond b 1 0 + 0 ≤ 2
      go true = omega arith
      go false = omega arith
  visits-le even d (up {r = r} {rows = rows} {s = s} c k) t = go (dec (eqb (D.table s) t)) (visits-le even d c t)
    where
      few : eqb (D.table s) t ≡ true → 1 < visits t (r ∷ rows) → ⊥
      few e h =
          let b = find-two (up c k) t h in
          thrice even d b.to-q b.to-s (b.at-q ∙ sym b.at_p) (eqb-true _ _ e ∙ sym b.at_p) b.later

      go : (eqb (D.table s) t ≡ true) ⊎ (eqb (D.table s) t ≡ false) → visits t (r ∷ rows) ≤ 2 → cond (eqb (D.table s) t) 1 0 + visits t (r ∷ rows) ≤ 2
      go (inl e) ih = let f : ¬ (1 < visits t (r ∷ rows)) = few e in rw e (omega arith)
      go (inr e) ih = rw e (omega arith)

  -- each row of round m + 1 ends a chain of m + 1 rows
  chain : {old seed : RowSet} → Distances S D old seed L → ((r : ℕ) → 0 < level L r → D.live r ≡ true) → (m r : ℕ) → level L r ≡ suc (suc m) → (rows : List ℕ) × Chain r rows × (length rows ≡ m)
  chain d live zero r e = ([], base (live r (omega arith)), refl)
  chain d live (suc m) r e =
      let f = d.link r m e in
      let g = chain d live m f.0 f.1 in
      (f.0 ∷ g.0, up g.1 (record { exists = f.2.exists; source = f.2.source; target = f.2.target; from = omega (arith, f.1); rise = omega (arith, f.1) }), ap suc g.2)

-- ---- counting

-- f 0 + .. + f (n - 1)
total : ℕ → (ℕ → ℕ) → ℕ
total zero f = 0
total (suc n) f = total n f + f n

total-le : (n : ℕ) (f : ℕ → ℕ) → ((t : ℕ) → f t ≤ 2) → total n f ≤ 2 * n
unfolding total
total-le zero f h = omega arith
total-le (suc n) f h = let a = total-le n f h in let b = h n in omega arith

total-add : (n : ℕ) (f g : ℕ → ℕ) → total n (λ t. f t + g t) ≡ total n f + total n g
unfolding total
total-add zero f g = refl
total-add (suc n) f g = let a = total-add n f g in omega arith

total-one : (n a : ℕ) → a < n → 1 ≤ total n (λ t. cond (eqb a t) 1 0)
unfolding total
total-one zero a h = absurd (not-suc-le-zero h)
total-one (suc n) a h = go (eq-or-lt_of_le (le_of_suc-le-suc h)) (total-one n a)
  where
    go : (a ≡ n) ⊎ (a < n) → (a < n → 1 ≤ total n (λ t. cond (eqb a t) 1 0)) → 1 ≤ total n (λ t. cond (eqb a t) 1 0) + cond (eqb a n) 1 0
    go (inl e) ih = rw (eq-eqb a n e) (omega arith)
    go (inr l) ih = let m = ih l in omega arith

chain-total : (S : Scheme) (D : Database) (L : List ℕ) → Lawful S D → {s : ℕ} {rows : List ℕ} → Chain S D L s rows → length (s ∷ rows) ≤ total S.tables (λ t. visits S D L t (s ∷ rows))
unfolding visits
chain-total S D L lawful {s} (base e) =
    let a = total-one S.tables (D.table s) (lawful.tables s e) in
    let b = total-add S.tables (λ t. cond (eqb (D.table s) t) 1 0) (λ t. 0) in
    omega arith
chain-total S D L lawful (up {r = r} {rows = rows} {s = s} c k) =
    let a = total-one S.tables (D.table s) (lawful.tables s k.target.live) in
    let b = total-add S.tables (λ t. cond (eqb (D.table s) t) 1 0) (λ t. visits S D L t (r ∷ rows)) in
    let h = chain-total S D L lawful c in
    omega arith

-- only numbers below b pass the test
count-below : (n b : ℕ) (p : ℕ → Bool) → ((i : ℕ) → p i ≡ true → i < b) → count n p ≤ b
unfolding count
count-below zero b p h = omega arith
count-below (suc n) b p h = go (p n) (h n) (count-below n b p h)
  where
    go : (x : Bool) → (x ≡ true → n < b) → count n p ≤ b → count n p + cond x 1 0 ≤ b
    go true g ih = let l = g refl in omega (arith, count-le n p)
    go false g ih = omega arith

-- ---- the bound

module _ {S : Scheme} {D : Database} (lawful : Lawful S D) (even : Even S) {old seed : RowSet} (C : Closed S D old) (I : Inside seed D.live) where
  -- no row of round m where m + 1 is above 2 T
  pub even-level : (r m : ℕ) → level (load S D old seed) r ≡ suc (suc m) → suc m ≤ 2 * S.tables
  even-level r m e =
      let d = load-distances S D old seed C I in
      let c = chain S D (load S D old seed) d (λ n p. (load-closed S D old seed C I).rows n (level-reached _ n p)) m r e in
      let a = chain-total S D (load S D old seed) lawful c.1 in
      let b = total-le S.tables (λ t. visits S D (load S D old seed) t (r ∷ c.0)) (visits-le S D (load S D old seed) even d c.1) in
      omega (arith, c.2)

  pub even-rounds : later_rounds D (load S D old seed) ≤ 2 * S.tables - 1
  unfolding later_rounds
  even-rounds =
      count-below D.size (2 * S.tables - 1) (λ n. any D.size (λ r. eqb (level (load S D old seed) r) (suc (suc (suc n)))))
      (λ n t. let f = any_found D.size (λ r. eqb (level (load S D old seed) r) (suc (suc (suc n)))) t in let l = even-level f.0 (suc n) (eqb-true _ _ f.2) in omega arith)
