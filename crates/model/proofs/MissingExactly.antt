-- A database in which a fetch that lacks makes a difference: the slice and one row more, blank but for the fetch's first value. So nothing lacks exactly if the
-- slice is enough in every lawful database from which the same was fetched. Assumes nothing.
use Prim.Native.Nat.{ℕ, suc, ◌≤◌, ◌<◌}
use native.Mathlib.Omega.{arith}
use mathlib.Core.Path.{◌≡◌, refl, sym, ap, subst, ◌∙◌}
use mathlib.Core.Logic.{◌↔◌, ◌⊎◌, inl, inr, ⊎_elim}
use mathlib.Core.Bool.{Bool, true, false, cond, ◌&&◌, ◌||◌}
use mathlib.Core.List.{List, [], ◌∷◌}
use borrow.Author.Tests.{eqb-true, eq-eqb, ne_eqb, le-leb}
use lib.Dec.{eqb, leb}
use Rattle.finite.specs.Finite.{any}
use Rattle.finite.proofs.Bools.{both, clash, dec, or_cases, or_left, or-second}
use Rattle.finite.proofs.Search.{any-true}
use Rattle.model.specs.Cell.{Cell, Fits, blank, is_blank, equal}
use Rattle.model.specs.Scheme.{Column, same_column, Scheme, ColumnOf}
use Rattle.model.specs.Database.{Database, Has, has, Lawful}
use Rattle.model.specs.Cache.{RowSet, Inside, Held, Smallest}
use Rattle.model.specs.Holding.{Holding, held_in}
use Rattle.model.specs.Slice.{Slice, in_full, Here, Fetched, Enough}
use Rattle.model.specs.Missing.{Fetch, value, span, fetch_column, fetch_first, Fulfilled, AllFulfilled, covers, some_fetch, is_fetched, known, Needed, by_held, by_row, Lack, nothing, lacks, missing}
use Rattle.model.proofs.CellLaws.{blank-fits, blank-is, equal-same, equal-full, equal-self}
use Rattle.model.proofs.DatabaseLaws.{same-column-self, Has-has, has-full}
use Rattle.model.proofs.SliceLaws.{smallest-enough}
use Rattle.model.proofs.MissingLaws.{neither, Open, Lacking, nothing-enough, missing-needed}

-- ---- a database in which it makes a difference

-- D with one row more, of k's table, blank but for v in column k
module _ (D : Database) (k : Column) (v : Cell) where
  grown : Database
  grown =
      record {
        size = suc D.size;
        live = λ r. D.live r || eqb r D.size;
        table = λ r. cond (eqb r D.size) k.table (D.table r);
        cell = λ r c. cond (eqb r D.size) (cond (eqb c k.place) v blank) (D.cell r c);
        finite = λ r e. ⊎_elim (λ x. omega (arith, D.finite r x)) (λ x. omega (arith, eqb-true r D.size x)) (or_cases (D.live r) (eqb r D.size) e);
      }

  -- D's rows are its rows
  old : (r : ℕ) → D.live r ≡ true → eqb r D.size ≡ false
  old r l = ne_eqb r D.size (λ e. let f = D.finite r l in omega arith)

  grown-slice : Slice (λ r. r) D grown
  unfolding grown
  grown-slice =
      record {
        live = λ r l. sym (or_left (D.live r) _ l);
        table = λ r l. rw (old r l);
        cell = λ r c l. rw (old r l);
        apart = λ r s l m e. e;
      }

  grown-has : is_blank v ≡ false → Has grown k v D.size
  unfolding grown
  grown-has n =
      record {
        live = or-second (D.live D.size) _ (eq-eqb D.size D.size refl);
        table = rw (eq-eqb D.size D.size refl);
        value = rw (eq-eqb D.size D.size refl, eq-eqb k.place k.place refl) (equal-self v n);
      }

  -- a row with a value is a row of D with it, or the new one, and then the value is v in column k
  grown-only : {j : Column} {w : Cell} {s : ℕ} → Has grown j w s → (Has D j w s) ⊎ ((s ≡ D.size) × (j ≡ k) × (w ≡ v))
  unfolding grown
  grown-only {j} {w} {s} h = go (dec (eqb s D.size))
    where
      place : (b : Bool) → eqb j.place k.place ≡ b → equal (cond b v blank) w ≡ true → (j.place ≡ k.place) × (w ≡ v)
      place true e t = (eqb-true _ _ e, sym (equal-same v w t))
      place false e t = clash blank-is (equal-full blank w t)

      go : (eqb s D.size ≡ true) ⊎ (eqb s D.size ≡ false) → (Has D j w s) ⊎ ((s ≡ D.size) × (j ≡ k) × (w ≡ v))
      go (inl e) =
          let t : k.table ≡ j.table = sym (ap (λ (b : Bool). cond b k.table (D.table s)) e) ∙ h.table in
          let q = place (eqb j.place k.place) refl (sym (ap (λ (b : Bool). equal (cond b (cond (eqb j.place k.place) v blank) (D.cell s j.place)) w) e) ∙ h.value) in
          inr (eqb-true _ _ e, (λ i. record { table = sym t i; place = q.0 i }), q.1)
      go (inr e) =
          inl (record {
            live = ⊎_elim (λ x. x) (λ x. clash x e) (or_cases (D.live s) (eqb s D.size) h.live);
            table = sym (ap (λ (b : Bool). cond b k.table (D.table s)) e) ∙ h.table;
            value = sym (ap (λ (b : Bool). equal (cond b (cond (eqb j.place k.place) v blank) (D.cell s j.place)) w) e) ∙ h.value;
          })

  grown-lawful : {S : Scheme} → Lawful S D → ColumnOf S k → Fits v → (S.unique k ≡ true → (r : ℕ) → Has D k v r → ⊥) → Lawful S grown
  unfolding grown
  grown-lawful {S} l col fits new =
      record {
        cells = λ r c e. cells r c (dec (eqb r D.size)) e;
        tables = λ r e. tables r (dec (eqb r D.size)) e;
        blanks = λ r c e h. blanks r c (dec (eqb r D.size)) e h;
        unique = λ j w r s u g h. unique j w r s u (grown-only g) (grown-only h);
      }
    where
      was : (r : ℕ) → eqb r D.size ≡ false → D.live r || eqb r D.size ≡ true → D.live r ≡ true
      was r e x = ⊎_elim (λ y. y) (λ y. clash y e) (or_cases (D.live r) (eqb r D.size) x)

      cell : (b : Bool) → Fits (cond b v blank)
      cell true = fits
      cell false = blank-fits

      cells : (r c : ℕ) → (eqb r D.size ≡ true) ⊎ (eqb r D.size ≡ false) → D.live r || eqb r D.size ≡ true →
          Fits (cond (eqb r D.size) (cond (eqb c k.place) v blank) (D.cell r c))
      cells r c (inl e) x = rw e (cell (eqb c k.place))
      cells r c (inr e) x = let y = was r e x in rw e (l.cells r c y)

      tables : (r : ℕ) → (eqb r D.size ≡ true) ⊎ (eqb r D.size ≡ false) → D.live r || eqb r D.size ≡ true →
          cond (eqb r D.size) k.table (D.table r) < S.tables
      tables r (inl e) x = rw e col.table
      tables r (inr e) x = let y = was r e x in rw e (l.tables r y)

      blanks : (r c : ℕ) → (eqb r D.size ≡ true) ⊎ (eqb r D.size ≡ false) → D.live r || eqb r D.size ≡ true →
          S.columns (cond (eqb r D.size) k.table (D.table r)) ≤ c → cond (eqb r D.size) (cond (eqb c k.place) v blank) (D.cell r c) ≡ blank
      blanks r c (inl e) x h =
          let m : S.columns k.table ≤ c = rw e at h in
          let p = col.place in
          rw (e, ne_eqb c k.place (λ (z : c ≡ k.place). omega arith))
      blanks r c (inr e) x h = let y = was r e x in let m : S.columns (D.table r) ≤ c = rw e at h in rw e (l.blanks r c y m)

      unique : (j : Column) (w : Cell) (r s : ℕ) → S.unique j ≡ true → (Has D j w r) ⊎ ((r ≡ D.size) × (j ≡ k) × (w ≡ v)) →
          (Has D j w s) ⊎ ((s ≡ D.size) × (j ≡ k) × (w ≡ v)) → r ≡ s
      unique j w r s u (inl g) (inl h) = l.unique j w r s u g h
      unique j w r s u (inl g) (inr h) = absurd (new (rw h.1 at u) r (rw (h.1, h.2) at g))
      unique j w r s u (inr g) (inl h) = absurd (new (rw g.1 at u) s (rw (g.1, g.2) at h))
      unique j w r s u (inr g) (inr h) = g.0 ∙ sym h.0

  -- what was fetched is whole there too, where v isn't among it
  grown-whole : (fs : List Fetch) → is_fetched fs k v ≡ false → AllFulfilled (λ r. r) D grown fs
  unfolding AllFulfilled some_fetch Fulfilled Fetched covers
  grown-whole [] n = tt
  grown-whole (f ∷ fs) n = (whole-there f (neither (covers f k v) (is_fetched fs k v) n).0, grown-whole fs (neither (covers f k v) (is_fetched fs k v) n).1)
    where
      is-here : {j : Column} {w : Cell} {s : ℕ} → Has grown j w s → (j ≡ k → w ≡ v → ⊥) → Here (λ r. r) D s
      is-here {s = s} h no' = ⊎_elim (λ g. record { row = s; live = g.live; number = refl }) (λ q. absurd (no' q.1 q.2)) (grown-only h)

      whole-there : (f : Fetch) → covers f k v ≡ false → Fulfilled (λ r. r) D grown f
      whole-there (value j w) e = λ s h.
          is-here h (λ x y. clash (both (ap (λ (c : Column). same_column c k) x ∙ same-column-self k) (ap (λ (c : Cell). equal c v) y ∙ equal-self v (rw y at (has-full h)))) e)
      whole-there (span j low high) e = λ x a b s h.
          is-here h (λ y z.
          clash
          (both (ap (λ (c : Column). same_column c k) y ∙ same-column-self k)
          (both (ap (λ (c : Cell). eqb c.issue 0) (sym z))
          (both (ap (λ (c : Cell). leb low c.number) (sym z) ∙ le-leb _ _ a) (ap (λ (c : Cell). leb c.number high) (sym z) ∙ le-leb _ _ b))))
          e)

-- the database of which the slice isn't enough
pub record Counter (S : Scheme) (D : Database) (H : Held) (X : RowSet) (fs : List Fetch) : Type 0 where
  pub database : Database
  pub lawful : Lawful S database
  pub slice : Slice (λ r. r) D database
  pub whole : AllFulfilled (λ r. r) D database fs
  pub short : Enough S (λ r. r) D database H X → ⊥
  -- other rows would have been cached
  pub other : Smallest S database H (in_full (λ r. r) D X) → ⊥

-- THEOREM: of a value that is needed, is not blank and is not known there may be a row that the slice lacks, so that other rows would have been cached
pub open-counter : {S : Scheme} {D : Database} {H : Held} {X : RowSet} → Lawful S D → Inside X D.live → (fs : List Fetch) {k : Column} {v : Cell} →
    ColumnOf S k → Fits v → Needed S D H X k v → Open S D fs k v → Counter S D H X fs
unfolding known Fetched
open-counter {S} {D} {H} {X} lawful ins fs {k} {v} col fits need o =
    record {
      database = grown D k v;
      lawful = grown-lawful D k v lawful col fits (λ u r h. clash (any-true D.size (has D k v) r (D.finite r h.live) (Has-has h)) (second u parts.1));
      slice = grown-slice D k v;
      whole = grown-whole D k v fs parts.0;
      short = short;
      other = λ m. short (smallest-enough (grown-slice D k v) ins m);
    }
  where
    parts : (is_fetched fs k v ≡ false) × (S.unique k && any D.size (has D k v) ≡ false)
    parts = neither (is_fetched fs k v) _ o.unknown

    second : {a b : Bool} → a ≡ true → a && b ≡ false → b ≡ false
    second {a} {b} x e = sym (ap (λ (t : Bool). t && b) x) ∙ e

    lost : Fetched (λ r. r) D (grown D k v) k v → ⊥
    lost f = let q = f D.size (grown-has D k v o.full) in let l = D.finite q.row q.live in omega (arith, q.number)

    short : Enough S (λ r. r) D (grown D k v) H X → ⊥
    short n = go need
      where
        go : Needed S D H X k v → ⊥
        go (by_held e) = lost (n.held k v e)
        go (by_row i r l x h e) = lost (subst (λ (j : Column). Fetched (λ r. r) D (grown D k v) j v) e (n.demanded i r v l x h))

-- THEOREM: nothing lacks exactly if the slice is enough in every lawful database, of any number of rows, of which it is a slice and from which this was fetched.
-- What is held is to be values that can be stored, in columns of the design, and constraints are to end at columns of the design, as causes 5 and 12 have it
pub missing-exactly : {S : Scheme} {D : Database} → Lawful S D → (h : Holding) (X : RowSet) → Inside X D.live → (fs : List Fetch) →
    ((k : Column) (v : Cell) → held_in S h k v ≡ true → ColumnOf S k × Fits v) → ((i : ℕ) → i < S.constraints → ColumnOf S (S.constraint i).target) →
    (missing S D h X fs ≡ nothing) ↔
    ((at : ℕ → ℕ) (B : Database) → Slice at D B → Lawful S B → AllFulfilled at D B fs → Enough S at D B (held_in S h) X)
missing-exactly {S} {D} l h X ins fs stored ends = (λ e at B P w a. nothing-enough P w fs a h X ins e, λ f. go f (missing S D h X fs) refl)
  where
    go : ((at : ℕ → ℕ) (B : Database) → Slice at D B → Lawful S B → AllFulfilled at D B fs → Enough S at D B (held_in S h) X) →
        (m : Lack) → missing S D h X fs ≡ m → missing S D h X fs ≡ nothing
    go f nothing e = e
    go f (lacks g) e = absurd (short (q.needed _ _ q.begins))
      where
        q : Lacking S D fs (held_in S h) X g
        q = missing-needed S D fs h X ins e

        by : ColumnOf S (fetch_column g) × Fits (fetch_first g) → ⊥
        by p = let c = open-counter l ins fs p.0 p.1 (q.needed _ _ q.begins) q.first in c.short (f (λ r. r) c.database c.slice c.lawful c.whole)

        short : Needed S D (held_in S h) X (fetch_column g) (fetch_first g) → ⊥
        short (by_held x) = by (stored (fetch_column g) (fetch_first g) x)
        short (by_row i r b x t y) =
            by (subst (ColumnOf S) y (ends i b), subst Fits (equal-same _ (fetch_first g) t.value) (l.cells r (S.constraint i).source.place t.live))
