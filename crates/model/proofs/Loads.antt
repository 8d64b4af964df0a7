-- Loads and smallest row sets: a load from the smallest set for what is held gives the one for what is held and one more value, a load from
-- nothing gives the one for any held values, and there is only one. Assumes nothing.
use Prim.Native.Nat.{ℕ}
use mathlib.Core.Path.{◌≡◌, refl, sym}
use mathlib.Core.Logic.{inl, inr, ⊎_elim}
use mathlib.Core.Bool.{Bool, true, false, ◌||◌, or-true, and-eq-true_iff}
use Rattle.finite.proofs.Bools.{both, clash, or_cases}
use Rattle.model.specs.Cell.{Cell, equal}
use Rattle.model.specs.Scheme.{Column, Scheme, same_column}
use Rattle.model.specs.Database.{Database, Has, has}
use Rattle.model.specs.Cache.{RowSet, Inside, Held, Complete, Holds, Meets, Smallest}
use Rattle.model.specs.Rounds.{reached, load}
use Rattle.model.specs.Holding.{one}
use Rattle.model.proofs.CellLaws.{equal-same, equal-self}
use Rattle.model.proofs.DatabaseLaws.{same-column, same-column-self, has-Has, Has-has, has-full}
use Rattle.model.proofs.Closed.{Closed, closed-constraints, constraints-closed}
use Rattle.model.proofs.RoundsLaws.{load-closed, load-starts, load-least}

-- there is one smallest row set
pub one-smallest : {S : Scheme} {D : Database} {H : Held} {X Y : RowSet} → Smallest S D H X → Smallest S D H Y → (r : ℕ) → X r ≡ Y r
one-smallest {X} {Y} a b r = go (X r) (Y r) (a.least Y b.meets r) (b.least X a.meets r)
  where
    go : (x y : Bool) → (x ≡ true → y ≡ true) → (y ≡ true → x ≡ true) → x ≡ y
    go true y f g = sym (f refl)
    go false true f g = g refl
    go false false f g = refl

-- ---- which rows held values want

-- row r has a value of H
pub record Hold (D : Database) (H : Held) (r : ℕ) : Type 0 where
  pub column : Column
  pub value : Cell
  pub held : H column value ≡ true
  pub has : Has D column value r

-- the rows `seed` are those that have a value of H
pub record Wants (D : Database) (H : Held) (seed : RowSet) : Type 0 where
  pub covers : (k : Column) (v : Cell) (r : ℕ) → H k v ≡ true → Has D k v r → seed r ≡ true
  pub wanted : (r : ℕ) → seed r ≡ true → Hold D H r

-- nothing is held
abbrev pub none : Held
none k v = false

-- where nothing is held no row is wanted
pub none-wants : (D : Database) → Wants D none (λ _. false)
none-wants D = record { covers = λ k v r e h. e; wanted = λ r e. clash e refl }

-- one value wants the rows that have it
pub one-wants : (D : Database) (k : Column) (v : Cell) → Wants D (one k v) (has D k v)
unfolding one
one-wants D k v =
    record {
      covers = λ j w r e h. let q = (and-eq-true_iff (same_column k j) (equal v w)).0 e in Has-has (rw (← same-column k j q.0, ← equal-same v w q.1) at h);
      wanted = λ r e. let h = has-Has D k v r e in record { column = k; value = v; held = both (same-column-self k) (equal-self v (has-full h)); has = h };
    }

-- what H and N hold together wants the rows of both
pub both-want : {D : Database} {H N : Held} {a b : RowSet} → Wants D H a → Wants D N b → Wants D (λ k v. H k v || N k v) (λ r. a r || b r)
both-want {D} {H} {N} {a} {b} m n =
    record {
      covers = λ k v r e h. ⊎_elim (λ x. rw (m.covers k v r x h)) (λ y. rw (n.covers k v r y h) (or-true (a r))) (or_cases (H k v) (N k v) e);
      wanted = λ r e. ⊎_elim
          (λ x. let q = m.wanted r x in record { column = q.column; value = q.value; held = rw q.held; has = q.has })
          (λ y. let q = n.wanted r y in record { column = q.column; value = q.value; held = rw q.held (or-true (H q.column q.value)); has = q.has })
          (or_cases (a r) (b r) e);
    }

-- ---- loads

-- a row set that meets everything is closed
meets-closed : {S : Scheme} {D : Database} {H : Held} {X : RowSet} → Meets S D H X → Closed S D X
meets-closed m = constraints-closed m.rows m.constraints

-- a load from the smallest row set for H, with the rows that N wants as round 0, gives the smallest for H and N together
pub load-smallest : {S : Scheme} {D : Database} {H N : Held} {X seed : RowSet} → Smallest S D H X → Wants D N seed →
    Smallest S D (λ k v. H k v || N k v) (reached (load S D X seed))
unfolding Complete
load-smallest {S} {D} {H} {N} {X} {seed} m w =
    record {
      meets = record {
        rows = (load-closed S D X seed C I).rows;
        constraints = closed-constraints (load-closed S D X seed C I);
        values = λ k v e r h. load-starts S D X seed C I r
            (⊎_elim (λ o. inl (m.meets.values k v o r h)) (λ n. inr (w.covers k v r n h)) (or_cases (H k v) (N k v) e));
      };
      least = λ Y n. load-least S D X seed C I Y (meets-closed n)
          (m.least Y (record { rows = n.rows; constraints = n.constraints; values = λ k v e. n.values k v (rw e) }))
          (λ r e. let q = w.wanted r e in n.values q.column q.value (rw q.held (or-true (H q.column q.value))) r q.has);
    }
  where
    C : Closed S D X
    C = meets-closed m.meets

    I : Inside seed D.live
    I r e = (w.wanted r e).has.live

-- where nothing is held the empty set is the smallest
pub none-smallest : (S : Scheme) (D : Database) → Smallest S D none (λ _. false)
unfolding Holds
none-smallest S D =
    record {
      meets = record { rows = λ r e. clash e refl; constraints = λ i l s v e. clash e refl; values = λ k v e. clash e refl };
      least = λ Y m r e. clash e refl;
    }

-- a load from nothing, with the rows that H wants as round 0, gives the smallest row set for H
pub reload-smallest : {S : Scheme} {D : Database} {H : Held} {seed : RowSet} → Wants D H seed → Smallest S D H (reached (load S D (λ _. false) seed))
reload-smallest {S} {D} w = load-smallest (none-smallest S D) w
