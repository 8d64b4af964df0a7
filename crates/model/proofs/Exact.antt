-- The probe is exact: it says yes exactly if the value is complete in every database from which the same rows would have been cached.
-- A yes is right by its ground. Where the probe says "sent" there is a database with the cached rows and one more row, blank but for the probed
-- cell, from which the same rows would have been cached and in which the value is not complete. Assumes nothing.
use Prim.Native.Nat.{ℕ, suc, ◌≤◌, ◌<◌}
use native.Mathlib.Omega.{arith}
use mathlib.Core.Path.{◌≡◌, refl, sym, ap, ◌∙◌, subst}
use mathlib.Core.Logic.{◌↔◌, ◌≢◌, ◌⊎◌, inl, inr, ⊎_elim}
use mathlib.Core.Bool.{true, false, cond, ◌&&◌, and-eq-true_iff}
use borrow.Author.Tests.{eqb-true, eq-eqb, ltb-true, lt-ltb}
use lib.Dec.{eqb, ltb}
use Rattle.finite.proofs.Bools.{both, dec, clash, refute}
use Rattle.model.specs.Cell.{Cell, Fits, blank, is_blank, equal}
use Rattle.model.specs.Scheme.{Column, Scheme, ColumnOf}
use Rattle.model.specs.Database.{Database, Has, Lawful}
use Rattle.model.specs.Cache.{RowSet, Inside, Held, Complete, Holds, Meets, Smallest, Keeps, Alike}
use Rattle.model.specs.Probe.{demanded, uniquely_seen, probe}
use Rattle.model.proofs.CellLaws.{blank-fits, blank-is, equal-same, equal-full, equal-self}
use Rattle.model.proofs.ProbeLaws.{Seen, seen-Seen, Seen-seen, Demanded, demanded-Demanded, Demanded-demanded, probe-yes, probe-sent}

-- the rows are numbered from 0 without a gap
abbrev pub Gapless : Database → Type 0
Gapless D = (r : ℕ) → r < D.size → D.live r ≡ true

-- ---- rows that two databases share

-- a row of X that has a value in D has it in E
kept : {D : Database} {X : RowSet} {E : Database} (K : Keeps D X E) {k : Column} {v : Cell} {r : ℕ} → X r ≡ true → Has D k v r → Has E k v r
kept K {k} {v} {r} x h =
    record {
      live = K.live r x;
      table = K.table r x ∙ h.table;
      value = ap (λ (a : Cell). equal a v) (K.cell r k.place x) ∙ h.value;
    }

-- if E has D's rows of X, then D has E's
keeps-back : {D : Database} {X : RowSet} {E : Database} → Keeps D X E → Inside X D.live → Keeps E X D
keeps-back K i = record { live = i; table = λ r x. sym (K.table r x); cell = λ r c x. sym (K.cell r c x) }

-- the database itself is one of those that demand 3 quantifies over
pub alike_self : {S : Scheme} {D : Database} {H : Held} {X : RowSet} → Lawful S D → Smallest S D H X → Alike S D H X D
alike_self l m = record { lawful = l; keeps = record { live = m.meets.rows; table = λ r x. refl; cell = λ r c x. refl }; smallest = m }

-- ---- a yes is right

module _ {S : Scheme} {D : Database} {H : Held} {X : RowSet} {E : Database} (A : Alike S D H X E) {k : Column} {v : Cell} where
  -- ground 1: a held value is complete in every such database
  pub held-complete : H k v ≡ true → Complete E X k v
  held-complete h = A.smallest.meets.values k v h

  -- ground 2: so is a value that a cached row has in the source column of a constraint that ends there
  pub demanded-complete : Demanded S D X k v → Complete E X k v
  unfolding Holds
  demanded-complete d =
      subst (λ (j : Column). Complete E X j v) d.ends
      (A.smallest.meets.constraints d.number d.exists d.source.row v d.source.cached (kept A.keeps d.source.cached d.source.has))

  -- ground 3: so is a value of a unique column that a cached row has there
  pub unique-complete : S.unique k ≡ true → Seen D X k v → Complete E X k v
  unfolding Complete
  unique-complete u s r h =
      subst (λ (n : ℕ). X n ≡ true) (A.lawful.unique k v s.row r u (kept A.keeps s.cached s.has) h) s.cached

-- a value that the probe says yes to is complete in every such database
pub probe-sound : (S : Scheme) (D : Database) (H : Held) (X : RowSet) (k : Column) (v : Cell) →
    (probe S D H X k v ≡ 0 → ⊥) → (E : Database) → Alike S D H X E → Complete E X k v
unfolding uniquely_seen
probe-sound S D H X k v y E A =
    ⊎_elim (held-complete A)
    (⊎_elim (λ d. demanded-complete A (demanded-Demanded S D X k v d))
    (λ p. let q = (and-eq-true_iff (S.unique k) _).0 p in unique-complete A q.0 (seen-Seen D X k v q.1)))
    (probe-yes S D H X k v y)

-- ---- a database in which a value without a ground is not complete

-- The rows X of D, and under the number `size` one more row of k's table, blank but for v in column k. The numbers below that have no row of X
-- have blank rows of that table, so that there is no gap.
module _ (D : Database) (X : RowSet) (inside : Inside X D.live) (k : Column) (v : Cell) where
  fresh : Database
  fresh =
      record {
        size = suc D.size;
        live = λ r. ltb r (suc D.size);
        table = λ r. cond (X r) (D.table r) k.table;
        cell = λ r c. cond (X r) (D.cell r c) (cond (eqb r D.size && eqb c k.place) v blank);
        finite = λ r e. ltb-true r (suc D.size) e;
      }

  fresh-gapless : Gapless fresh
  unfolding fresh
  fresh-gapless r h = lt-ltb r (suc D.size) h

  fresh_keeps : Keeps D X fresh
  unfolding fresh
  fresh_keeps =
      record {
        live = λ r x. let l = D.finite r (inside r x) in lt-ltb r (suc D.size) (omega arith);
        table = λ r x. rw x;
        cell = λ r c x. rw x;
      }

  fresh-table : (r : ℕ) → X r ≡ false → fresh.table r ≡ k.table
  unfolding fresh
  fresh-table r x = rw x

  fresh-cell : (r c : ℕ) → X r ≡ false → fresh.cell r c ≡ cond (eqb r D.size && eqb c k.place) v blank
  unfolding fresh
  fresh-cell r c x = rw x

  size-out : X D.size ≡ false
  size-out = refute (X D.size) (λ x. let l = D.finite D.size (inside D.size x) in omega arith)

  -- a cell of a row that is not cached: v, in column k of the last row, or blank
  fresh-cases : (r c : ℕ) → X r ≡ false → ((r ≡ D.size) × (c ≡ k.place) × (fresh.cell r c ≡ v)) ⊎ (fresh.cell r c ≡ blank)
  fresh-cases r c x = go (dec (eqb r D.size && eqb c k.place))
    where
      go : (eqb r D.size && eqb c k.place ≡ true) ⊎ (eqb r D.size && eqb c k.place ≡ false) →
          ((r ≡ D.size) × (c ≡ k.place) × (fresh.cell r c ≡ v)) ⊎ (fresh.cell r c ≡ blank)
      go (inl e) = let q = (and-eq-true_iff (eqb r D.size) (eqb c k.place)).0 e in inl (eqb-true _ _ q.0, eqb-true _ _ q.1, fresh-cell r c x ∙ rw e)
      go (inr e) = inr (fresh-cell r c x ∙ rw e)

  -- the last row has v in column k, and no row that is not cached has another value anywhere
  fresh-has : is_blank v ≡ false → Has fresh k v D.size
  fresh-has n =
      record {
        live = fresh-gapless D.size (unfold fresh in omega arith);
        table = fresh-table D.size size-out;
        value = ap (λ (a : Cell). equal a v) (fresh-cell D.size k.place size-out ∙ rw (eq-eqb D.size D.size refl, eq-eqb k.place k.place refl)) ∙ equal-self v n;
      }

  fresh-only : {j : Column} {w : Cell} {r : ℕ} → X r ≡ false → Has fresh j w r → (r ≡ D.size) × (j ≡ k) × (w ≡ v)
  fresh-only {j} {w} {r} x h = ⊎_elim
      (λ q. (q.0, λ i. record { table = t i; place = q.1 i }, sym (equal-same _ w h.value) ∙ q.2))
      (λ b. clash (ap is_blank b ∙ blank-is) (equal-full _ w h.value))
      (fresh-cases r j.place x)
    where
      t : j.table ≡ k.table
      t = sym h.table ∙ fresh-table r x

-- where the probe finds no ground, the same rows would have been cached from this database, and the value is not complete in it
module _ {S : Scheme} {D : Database} {H : Held} {X : RowSet} (lawful : Lawful S D) (smallest : Smallest S D H X)
    {k : Column} (column : ColumnOf S k) {v : Cell} (fits : Fits v)
    (not-held : H k v ≡ false) (not-demanded : demanded S D X k v ≡ false) (not-uniquely : uniquely_seen S D X k v ≡ false) where
  inside : Inside X D.live
  inside = smallest.meets.rows

  E : Database
  E = fresh D X inside k v

  keeps : Keeps D X E
  unfolding E
  keeps = fresh_keeps D X inside k v

  back : Keeps E X D
  back = keeps-back keeps inside

  only : {j : Column} {w : Cell} {r : ℕ} → X r ≡ false → Has E j w r → (r ≡ D.size) × (j ≡ k) × (w ≡ v)
  unfolding E
  only = fresh-only D X inside k v

  -- a cached row that has the last row's value gives ground 3
  shared : {j : Column} {w : Cell} {r s : ℕ} → S.unique j ≡ true → X r ≡ true → Has E j w r → X s ≡ false → Has E j w s → ⊥
  unfolding uniquely_seen
  shared {j} {w} {r} u x h y g =
      let o = only y g in
      let h' : Has D k v r = rw (o.1, o.2) at (kept back x h) in
      clash (both (rw o.1 at u) (Seen-seen (record { row = r; cached = x; has = h' }))) not-uniquely

  E-lawful : Lawful S E
  unfolding E
  E-lawful =
      record {
        cells = λ r c e. ⊎_elim
            (λ x. rw (keeps.cell r c x) (lawful.cells r c (inside r x)))
            (λ x. ⊎_elim (λ q. rw q.2 fits) (λ b. rw b blank-fits) (fresh-cases D X inside k v r c x))
            (dec (X r));
        tables = λ r e. ⊎_elim
            (λ x. rw (keeps.table r x) (lawful.tables r (inside r x)))
            (λ x. rw (fresh-table D X inside k v r x) column.table)
            (dec (X r));
        blanks = λ r c e l. ⊎_elim
            (λ x. keeps.cell r c x ∙ lawful.blanks r c (inside r x) (rw (keeps.table r x) at l))
            (λ x. ⊎_elim
            (λ q. let m : S.columns k.table ≤ c = rw (fresh-table D X inside k v r x) at l in let b = column.place in absurd (omega (arith, q.1)))
            (λ b. b)
            (fresh-cases D X inside k v r c x))
            (dec (X r));
        unique = λ j w r s u g h. ⊎_elim
            (λ x. ⊎_elim (λ y. lawful.unique j w r s u (kept back x g) (kept back y h)) (λ y. absurd (shared u x g y h)) (dec (X s)))
            (λ x. ⊎_elim (λ y. absurd (shared u y h x g)) (λ y. (only x g).0 ∙ sym (only y h).0) (dec (X s)))
            (dec (X r));
      }

  -- the last row is not demanded and not held, so the cached rows still meet everything
  E-meets : Meets S E H X
  unfolding Holds Complete
  E-meets =
      record {
        rows = keeps.live;
        constraints = λ i l s w x g r h. ⊎_elim (λ y. y)
            (λ y. let o = only y h in
            clash
            (Demanded-demanded (record { number = i; exists = l; ends = o.1; source = record { row = s; cached = x; has = rw o.2 at (kept back x g) } }))
            not-demanded)
            (dec (X r));
        values = λ j w e r h. ⊎_elim (λ y. y) (λ y. let o = only y h in clash (rw (o.1, o.2) at e) not-held) (dec (X r));
      }

  -- of a set that meets everything here, the cached rows in it meet everything in D
  E-least : (Y : RowSet) → Meets S E H Y → Inside X Y
  unfolding Holds Complete
  E-least Y m r x = ((and-eq-true_iff (X r) (Y r)).0 (smallest.least (λ n. X n && Y n) common r x)).1
    where
      part : (n : ℕ) → X n && Y n ≡ true → (X n ≡ true) × (Y n ≡ true)
      part n = (and-eq-true_iff (X n) (Y n)).0

      common : Meets S D H (λ n. X n && Y n)
      common =
          record {
            rows = λ n e. inside n (part n e).0;
            constraints = λ i l s w e g n h.
                let y = smallest.meets.constraints i l s w (part s e).0 g n h in
                both y (m.constraints i l s w (part s e).1 (kept keeps (part s e).0 g) n (kept keeps y h));
            values = λ j w e n h.
                let y = smallest.meets.values j w e n h in
                both y (m.values j w e n (kept keeps y h));
          }

  E-alike : Alike S D H X E
  E-alike = record { lawful = E-lawful; keeps = keeps; smallest = record { meets = E-meets; least = E-least } }

  refuted : is_blank v ≡ false → ((F : Database) → Gapless F → Alike S D H X F → Complete F X k v) → ⊥
  unfolding Complete E
  refuted full c =
      clash
      (c E (fresh-gapless D X inside k v) E-alike D.size (fresh-has D X inside k v full))
      (size-out D X inside k v)

-- ---- the probe is exact

module _ {S : Scheme} {D : Database} {H : Held} {X : RowSet} (lawful : Lawful S D) (smallest : Smallest S D H X)
    {k : Column} (column : ColumnOf S k) (v : Cell) (fits : Fits v) (full : is_blank v ≡ false) where
  -- the probe says yes exactly if the value is complete in every such database whose rows are numbered without a gap
  pub exact-gapless : probe S D H X k v ≢ 0 ↔ ((E : Database) → Gapless E → Alike S D H X E → Complete E X k v)
  exact-gapless =
      (λ y E g. probe-sound S D H X k v y E, λ c z. let n = probe-sent S D H X k v z in refuted lawful smallest column fits n.0 n.1 n.2 full c)

  -- the probe says yes exactly if the value is complete in every such database
  pub exact : probe S D H X k v ≢ 0 ↔ ((E : Database) → Alike S D H X E → Complete E X k v)
  exact = (probe-sound S D H X k v, λ c. exact-gapless.1 (λ E g. c E))
