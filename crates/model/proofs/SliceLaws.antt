-- A slice that is enough has the cached rows, grounds, lists and totals of the whole database; only then does it have its cached rows. Assumes nothing.
use Prim.Native.Nat.{ℕ, zero, suc, ◌≤◌, ◌<◌}
use native.Mathlib.Omega.{arith}
use mathlib.Core.Path.{◌≡◌, refl, sym, ap, ap₂, subst, ◌∙◌}
use mathlib.Core.Logic.{◌≢◌}
use mathlib.Core.Bool.{Bool, true, ◌&&◌, and-eq-true_iff}
use mathlib.Core.List.{List, [], ◌∷◌, ◌++◌, map}
use borrow.Author.Tests.{eqb-true, eq-eqb}
use lib.Dec.{eqb}
use lib.ListN.{length, get_or}
use Rattle.finite.specs.Finite.{collect}
use Rattle.finite.specs.Sums.{sum_over}
use Rattle.finite.proofs.Bools.{both, bool-ext}
use Rattle.finite.proofs.Search.{any-true, any_found, any_same}
use Rattle.finite.proofs.Collecting.{collect-same}
use Rattle.finite.proofs.Sums.{over-same, over_ones}
use Rattle.model.specs.Cell.{Cell, Fits, amount, equal}
use Rattle.model.specs.Scheme.{Column, Scheme, same_column}
use Rattle.model.specs.Database.{Database, Has, has, Lawful}
use Rattle.model.specs.Cache.{RowSet, Inside, Held, Complete, Holds, Meets, Smallest}
use Rattle.model.specs.Probe.{seen, demanded, uniquely_seen, lowest, probe, cached_rows}
use Rattle.model.specs.Query.{Join, joins_fit, join_value, extend, fitting, total_over}
use Rattle.model.specs.Slice.{Slice, InOrder, in_full, Here, Fetched, Enough}
use Rattle.model.proofs.DatabaseLaws.{has-Has, Has-has}
use Rattle.model.proofs.ProbeLaws.{seen-Seen, Seen-seen}
use Rattle.model.proofs.Exact.{probe-sound, alike_self}
use Rattle.model.proofs.QueryLaws.{Joins, joins-fit, target, choose, query-same}
use Rattle.model.proofs.ListLaws.{fitting-exactly, fitting-length}
use Rattle.model.proofs.TotalLaws.{fitting-chosen}
use Rattle.model.proofs.Numbering.{numbered-so, collect-numbers, map-append, collect-map, map_at, sum-numbers, sum_same, count-sum}

-- the rows chosen so far are of X, as many as there are tables
data Picked (X : RowSet) : List ℕ → List ℕ → Type 0 where
  none : Picked X [] []
  pick : {t r : ℕ} {ts rs : List ℕ} → X r ≡ true → Picked X ts rs → Picked X (t ∷ ts) (r ∷ rs)

picked_more : {X : RowSet} {ts rs : List ℕ} (t : ℕ) {r : ℕ} → Picked X ts rs → X r ≡ true → Picked X (ts ++ (t ∷ [])) (rs ++ (r ∷ []))
picked_more t none x = pick x none
picked_more t (pick y c) x = pick y (picked_more t c x)

picked-at : (at : ℕ → ℕ) {X : RowSet} {ts rs : List ℕ} → Picked X ts rs → (p : ℕ) → p < length ts →
    (X (get_or rs p 0) ≡ true) × (get_or (map at rs) p 0 ≡ at (get_or rs p 0))
picked-at at none p l = absurd (omega arith)
picked-at at (pick x c) zero l = (x, refl)
picked-at at (pick x c) (suc p) l = picked-at at c p (omega arith)

-- ---- rows here and there

-- a row set under B's numbers has just the rows that it has under D's
pub record InFull (at : ℕ → ℕ) (X : RowSet) (s : ℕ) : Type 0 where
  pub row : ℕ
  pub cached : X row ≡ true
  pub number : at row ≡ s

pub full-says : (at : ℕ → ℕ) (D : Database) (X : RowSet) (s : ℕ) → in_full at D X s ≡ true → InFull at X s
unfolding in_full
full-says at D X s e =
    let f = any_found D.size (λ r. X r && eqb (at r) s) e in
    let q = (and-eq-true_iff (X f.0) (eqb (at f.0) s)).0 f.2 in
    record { row = f.0; cached = q.0; number = eqb-true _ _ q.1 }

says-full : (D : Database) {at : ℕ → ℕ} {X : RowSet} {s : ℕ} → Inside X D.live → InFull at X s → in_full at D X s ≡ true
unfolding in_full
says-full D {at} {X} {s} ins f = any-true D.size (λ r. X r && eqb (at r) s) f.row (D.finite f.row (ins f.row f.cached)) (both f.cached (eq-eqb _ _ f.number))

pub at-full : (at : ℕ → ℕ) (D : Database) (X : RowSet) → Inside X D.live → (r : ℕ) → X r ≡ true → in_full at D X (at r) ≡ true
at-full at D X ins r x = says-full D ins (record { row = r; cached = x; number = refl })

module _ {at : ℕ → ℕ} {D B : Database} (P : Slice at D B) where
  -- a row has the same values in both
  pub has_there : {k : Column} {v : Cell} {r : ℕ} → Has D k v r → Has B k v (at r)
  has_there {k} {v} {r} h =
      record {
        live = P.live r h.live;
        table = P.table r h.live ∙ h.table;
        value = ap (λ (a : Cell). equal a v) (P.cell r k.place h.live) ∙ h.value;
      }

  pub has_here : {k : Column} {v : Cell} {r : ℕ} → D.live r ≡ true → Has B k v (at r) → Has D k v r
  has_here {k} {v} {r} l h =
      record {
        live = l;
        table = sym (P.table r l) ∙ h.table;
        value = ap (λ (a : Cell). equal a v) (sym (P.cell r k.place l)) ∙ h.value;
      }

  -- THEOREM: a slice of a lawful database is lawful
  pub slice-lawful : {S : Scheme} → Lawful S B → Lawful S D
  slice-lawful {S} w =
      record {
        cells = λ r c l. subst Fits (P.cell r c l) (w.cells (at r) c (P.live r l));
        tables = λ r l. subst (λ (t : ℕ). t < S.tables) (P.table r l) (w.tables (at r) (P.live r l));
        blanks = λ r c l h. sym (P.cell r c l) ∙ w.blanks (at r) c (P.live r l) (subst (λ (t : ℕ). S.columns t ≤ c) (sym (P.table r l)) h);
        unique = λ k v r s u g h. P.apart r s g.live h.live (w.unique k v (at r) (at s) u (has_there g) (has_there h));
      }

  -- ---- the smallest set

  -- a set that meets everything there meets everything here
  meets-here : {S : Scheme} {H : Held} (Y : RowSet) → Meets S B H Y → Meets S D H (λ r. D.live r && Y (at r))
  unfolding Holds Complete
  meets-here {S} {H} Y m =
      record {
        rows = λ r e. (part r e).0;
        constraints = λ i l s v e g r h. both h.live (m.constraints i l (at s) v (part s e).1 (has_there g) (at r) (has_there h));
        values = λ k v e r h. both h.live (m.values k v e (at r) (has_there h));
      }
    where
      part : (r : ℕ) → D.live r && Y (at r) ≡ true → (D.live r ≡ true) × (Y (at r) ≡ true)
      part r = (and-eq-true_iff (D.live r) (Y (at r))).0

  module _ {S : Scheme} {H : Held} {X : RowSet} where
    -- where the slice is enough, the cached rows meet everything there
    meets-there : Meets S D H X → Enough S at D B H X → Meets S B H (in_full at D X)
    unfolding Holds Complete Fetched
    meets-there m n =
        record {
          rows = λ s e. let f = full-says at D X s e in subst (λ (t : ℕ). B.live t ≡ true) f.number (P.live f.row (m.rows f.row f.cached));
          constraints = λ i l s v e g t h.
              let f = full-says at D X s e in
              let a = has_here (m.rows f.row f.cached) (subst (λ (u : ℕ). Has B (S.constraint i).source v u) (sym f.number) g) in
              let b = n.demanded i f.row v l f.cached a t h in
              cached b (λ q. m.constraints i l f.row v f.cached a b.row q) h;
          values = λ k v e t h. let b = n.held k v e t h in cached b (λ q. m.values k v e b.row q) h;
        }
      where
        -- a row of B that is here, where it is cached
        cached : {k : Column} {v : Cell} {t : ℕ} (b : Here at D t) → (Has D k v b.row → X b.row ≡ true) → Has B k v t → in_full at D X t ≡ true
        cached {k} {v} {t} b f h =
            says-full D m.rows
            (record { row = b.row; cached = f (has_here b.live (subst (λ (u : ℕ). Has B k v u) (sym b.number) h)); number = b.number })

    -- THEOREM: the smallest set of the slice is the smallest set of the database
    pub slice-smallest : Smallest S D H X → Enough S at D B H X → Smallest S B H (in_full at D X)
    slice-smallest m n =
        record {
          meets = meets-there m.meets n;
          least = λ Y w s e.
              let f = full-says at D X s e in
              subst (λ (t : ℕ). Y t ≡ true) f.number
              ((and-eq-true_iff (D.live f.row) (Y (at f.row))).0 (m.least (λ r. D.live r && Y (at r)) (meets-here Y w) f.row f.cached)).1;
        }

    -- THEOREM: and only where the slice is enough
    pub smallest-enough : Inside X D.live → Smallest S B H (in_full at D X) → Enough S at D B H X
    unfolding Holds Complete Fetched
    smallest-enough ins m =
        record {
          held = λ k v e s h. here s (m.meets.values k v e s h);
          demanded = λ i r v l x g s h. here s (m.meets.constraints i l (at r) v (at-full at D X ins r x) (has_there g) s h);
        }
      where
        here : (s : ℕ) → in_full at D X s ≡ true → Here at D s
        here s e = let f = full-says at D X s e in record { row = f.row; live = ins f.row f.cached; number = f.number }

  -- ---- the probe

  module _ {X : RowSet} (ins : Inside X D.live) where
    seen-there : (k : Column) (v : Cell) → seen B (in_full at D X) k v ≡ seen D X k v
    seen-there k v =
        bool-ext (seen B (in_full at D X) k v) (seen D X k v)
        (λ e. let s = seen-Seen B (in_full at D X) k v e in let f = full-says at D X s.row s.cached in
        Seen-seen (record { row = f.row; cached = f.cached; has = has_here (ins f.row f.cached) (subst (λ (u : ℕ). Has B k v u) (sym f.number) s.has) }))
        (λ e. let s = seen-Seen D X k v e in Seen-seen (record { row = at s.row; cached = at-full at D X ins s.row s.cached; has = has_there s.has }))

    -- THEOREM: the probing rule finds the same ground, for it reads cached rows and held values alone
    pub slice-ground : (S : Scheme) (H : Held) (k : Column) (v : Cell) → probe S B H (in_full at D X) k v ≡ probe S D H X k v
    unfolding probe demanded uniquely_seen
    slice-ground S H k v =
        ap₂ (lowest (H k v))
        (any_same S.constraints _ _ (λ i l. ap (λ (b : Bool). same_column (S.constraint i).target k && b) (seen-there (S.constraint i).source v)))
        (ap (λ (b : Bool). S.unique k && b) (seen-there k v))

    -- ---- lists

    -- a row can be chosen there exactly if it is one that can be chosen here
    choose-there : (k : Column) (v : Cell) (s : ℕ) → choose B (in_full at D X) k v s ≡ numbered-so at (choose D X k v) D.size s
    choose-there k v s =
        bool-ext (choose B (in_full at D X) k v s) (numbered-so at (choose D X k v) D.size s)
        (λ e. let q = (and-eq-true_iff (in_full at D X s) (has B k v s)).0 e in
        let f = full-says at D X s q.0 in
        let l = ins f.row f.cached in
        any-true D.size (λ r. choose D X k v r && eqb (at r) s) f.row (D.finite f.row l)
        (both (both f.cached (Has-has (has_here l (subst (λ (u : ℕ). Has B k v u) (sym f.number) (has-Has B k v s q.1))))) (eq-eqb _ _ f.number)))
        (λ e. let f = any_found D.size (λ r. choose D X k v r && eqb (at r) s) e in
        let q = (and-eq-true_iff (choose D X k v f.0) (eqb (at f.0) s)).0 f.2 in
        let c = (and-eq-true_iff (X f.0) (has D k v f.0)).0 q.0 in
        subst (λ (u : ℕ). choose B (in_full at D X) k v u ≡ true) (eqb-true (at f.0) s q.1)
        (both (at-full at D X ins f.0 c.0) (Has-has (has_there (has-Has D k v f.0 c.1)))))

    cached : (k : Column) (v : Cell) (r : ℕ) → choose D X k v r ≡ true → X r ≡ true
    cached k v r t = ((and-eq-true_iff (X r) (has D k v r)).0 t).0

    -- where the rows stand in the same order, what is collected of them there is what is collected here
    collect-there : InOrder at D → {A : Type 0} (h : A → A) (k : Column) (v : Cell) (f g : ℕ → List A) → ((r : ℕ) → X r ≡ true → f (at r) ≡ map h (g r)) →
        collect B.size (choose B (in_full at D X) k v) f ≡ map h (collect D.size (choose D X k v) g)
    collect-there up h k v f g e =
        collect-same B.size (choose B (in_full at D X) k v) (numbered-so at (choose D X k v) D.size) f f (λ s l. choose-there k v s) (λ s l t. refl) ∙
        collect-numbers at (choose D X k v) f (λ r s a b. up r s (ins r (cached k v r a)) (ins s (cached k v s b))) D.size B.size
        (λ r l a. B.finite (at r) (P.live r (ins r (cached k v r a)))) ∙
        collect-same D.size (choose D X k v) (choose D X k v) (λ r. f (at r)) (λ r. map h (g r)) (λ r l. refl) (λ r l t. e r (cached k v r t)) ∙
        sym (collect-map h D.size (choose D X k v) g)

    -- in any order it adds up to the same
    sum-there : {A : Type 0} (w u : A → ℕ) (k : Column) (v : Cell) (f g : ℕ → List A) → ((r : ℕ) → X r ≡ true → sum_over w (f (at r)) ≡ sum_over u (g r)) →
        sum_over w (collect B.size (choose B (in_full at D X) k v) f) ≡ sum_over u (collect D.size (choose D X k v) g)
    sum-there w u k v f g e =
        ap (sum_over w) (collect-same B.size (choose B (in_full at D X) k v) (numbered-so at (choose D X k v) D.size) f f (λ s l. choose-there k v s) (λ s l t. refl)) ∙
        sum-numbers w at (choose D X k v) f (λ r s a b. P.apart r s (ins r (cached k v r a)) (ins s (cached k v s b))) D.size B.size
        (λ r l a. B.finite (at r) (P.live r (ins r (cached k v r a)))) ∙
        sum_same w u D.size (choose D X k v) (λ r. f (at r)) g (λ r t. e r (cached k v r t))

    -- THEOREM: a yes has the same number of cached rows behind it
    pub slice_rows : (k : Column) (v : Cell) → cached_rows B (in_full at D X) k v ≡ cached_rows D X k v
    unfolding cached_rows sum_over
    slice_rows k v =
        count-sum B.size (choose B (in_full at D X) k v) ∙
        sum-there (λ r. 1) (λ r. 1) k v (λ r. r ∷ []) (λ r. r ∷ []) (λ r x. refl) ∙ sym (count-sum D.size (choose D X k v))

    module _ (S : Scheme) where
      -- the value that a join asks for is the same
      value_there : {ts rs : List ℕ} → Picked X ts rs → (j : Join) → Joins S ts j → join_value S B (map at rs) j ≡ join_value S D rs j
      unfolding join_value
      value_there {ts} {rs} c j w =
          let q = picked-at at c j.position w.position in
          ap (λ (r : ℕ). B.cell r (S.constraint j.constraint).source.place) q.1 ∙
          P.cell (get_or rs j.position 0) (S.constraint j.constraint).source.place (ins _ q.0)

      -- the ways to go on, those there
      abbrev on_there : List ℕ → List Join → ℕ → List (List ℕ)
      on_there rs js s = extend S B (in_full at D X) (rs ++ (s ∷ [])) js

      extend-there : InOrder at D → {ts rs : List ℕ} → Picked X ts rs → (js : List Join) → joins_fit S ts js ≡ true →
          extend S B (in_full at D X) (map at rs) js ≡ map (map at) (extend S D X rs js)
      unfolding extend
      extend-there up c [] w = refl
      extend-there up {ts} {rs} c (j ∷ js) w =
          let f = joins-fit S ts j js w in
          ap (λ (u : Cell). collect B.size (choose B (in_full at D X) (target S j) u) (on_there (map at rs) js)) (value_there c j f.0) ∙
          collect-there up (map at) (target S j) (join_value S D rs j) (on_there (map at rs) js) (λ r. extend S D X (rs ++ (r ∷ [])) js)
          (λ r x. ap (λ (l : List ℕ). extend S B (in_full at D X) l js) (sym (map-append at rs (r ∷ []))) ∙ extend-there up {ts = ts ++ ((target S j).table ∷ [])} {rs = rs ++ (r ∷ [])} (picked_more (target S j).table c x) js f.1)

      extend-sum : (w : List ℕ → ℕ) {ts rs : List ℕ} → Picked X ts rs → (js : List Join) → joins_fit S ts js ≡ true →
          sum_over w (extend S B (in_full at D X) (map at rs) js) ≡ sum_over (λ ys. w (map at ys)) (extend S D X rs js)
      unfolding extend sum_over
      extend-sum w c [] q = refl
      extend-sum w {ts} {rs} c (j ∷ js) q =
          let f = joins-fit S ts j js q in
          ap (λ (u : Cell). sum_over w (collect B.size (choose B (in_full at D X) (target S j) u) (on_there (map at rs) js))) (value_there c j f.0) ∙
          sum-there w (λ ys. w (map at ys)) (target S j) (join_value S D rs j) (on_there (map at rs) js) (λ r. extend S D X (rs ++ (r ∷ [])) js)
          (λ r x. ap (λ (l : List ℕ). sum_over w (extend S B (in_full at D X) l js)) (sym (map-append at rs (r ∷ []))) ∙ extend-sum w {ts = ts ++ ((target S j).table ∷ [])} {rs = rs ++ (r ∷ [])} (picked_more (target S j).table c x) js f.1)

      -- where the rows stand in the same order, the lists of the cached rows are the same lists in the same order
      fitting-there : InOrder at D → (k : Column) (v : Cell) (js : List Join) → joins_fit S (k.table ∷ []) js ≡ true →
          fitting S B (in_full at D X) k v js ≡ map (map at) (fitting S D X k v js)
      unfolding fitting
      fitting-there up k v js w =
          collect-there up (map at) k v (λ s. extend S B (in_full at D X) (s ∷ []) js) (λ r. extend S D X (r ∷ []) js) (λ r x. extend-there up (pick x none) js w)

      -- in any order they are the same lists: whatever is added up over them is
      pub fitting-sum : (w : List ℕ → ℕ) (k : Column) (v : Cell) (js : List Join) → joins_fit S (k.table ∷ []) js ≡ true →
          sum_over w (fitting S B (in_full at D X) k v js) ≡ sum_over (λ ys. w (map at ys)) (fitting S D X k v js)
      unfolding fitting
      fitting-sum w k v js q =
          sum-there w (λ ys. w (map at ys)) k v (λ s. extend S B (in_full at D X) (s ∷ []) js) (λ r. extend S D X (r ∷ []) js) (λ r x. extend-sum w (pick x none) js q)

-- ---- the theorems on a slice that is enough

module _ {at : ℕ → ℕ} {D B : Database} (P : Slice at D B) {S : Scheme} {H : Held} {X : RowSet} (w : Lawful S B) (m : Smallest S D H X) (n : Enough S at D B H X) where
  -- THEOREM: a yes means that the value is complete in the database
  pub slice-probe : (k : Column) (v : Cell) → probe S D H X k v ≢ 0 → Complete B (in_full at D X) k v
  slice-probe k v y =
      probe-sound S B H (in_full at D X) k v (λ z. y (sym (slice-ground P m.meets.rows S H k v) ∙ z)) B (alike_self w (slice-smallest P m n))

  module _ (k : Column) (v : Cell) (js : List Join) (fit : joins_fit S (k.table ∷ []) js ≡ true) (y : probe S D H X k v ≢ 0) where
    lists-full : fitting S B (in_full at D X) k v js ≡ fitting S B B.live k v js
    lists-full = query-same w (slice-smallest P m n) k v js fit (λ z. y (sym (slice-ground P m.meets.rows S H k v) ∙ z))

    -- THEOREM: with a ground at position 0, the lists from the full tables of the database are those of the cached rows, in order
    pub slice-lists : InOrder at D → fitting S B B.live k v js ≡ map (map at) (fitting S D X k v js)
    slice-lists up = sym lists-full ∙ fitting-there P m.meets.rows S up k v js fit

    -- THEOREM: without the order they are the same lists, each as often: whatever is added up over them is
    pub slice-sums : (u : List ℕ → ℕ) → sum_over u (fitting S B B.live k v js) ≡ sum_over (λ ys. u (map at ys)) (fitting S D X k v js)
    slice-sums u = ap (sum_over u) (sym lists-full) ∙ fitting-sum P m.meets.rows S u k v js fit

    -- THEOREM: so there are as many
    pub slice-count : length (fitting S B B.live k v js) ≡ length (fitting S D X k v js)
    slice-count = sym (over_ones (fitting S B B.live k v js)) ∙ slice-sums (λ ys. 1) ∙ over_ones (fitting S D X k v js)

    -- THEOREM: and their totals are the same
    pub slice-total : (p c : ℕ) → p ≤ length js → total_over S B B.live k v js p c ≡ total_over S D X k v js p c
    unfolding total_over
    slice-total p c h =
        slice-sums (λ rs. amount (B.cell (get_or rs p 0) c)) ∙
        over-same (λ rs. amount (B.cell (get_or (map at rs) p 0) c)) (λ rs. amount (D.cell (get_or rs p 0) c)) (fitting S D X k v js)
        (λ xs a. let f = (fitting-exactly S D X k v js xs).0 a in
        let x = fitting-chosen S D X k v js xs f p h in
        ap amount (ap (λ (r : ℕ). B.cell r c) (map_at at xs p (omega (arith, fitting-length S D X k v js xs f))) ∙ P.cell (get_or xs p 0) c (m.meets.rows _ x)))
