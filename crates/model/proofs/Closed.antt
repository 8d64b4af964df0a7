-- Closed row sets: a row set of a database meets every constraint exactly if it has what its rows demand. Assumes nothing.
use Prim.Native.Nat.{ℕ, ◌<◌}
use mathlib.Core.Path.{◌≡◌, sym, subst}
use mathlib.Core.Bool.{true, ◌&&◌, and-eq-true_iff}
use borrow.Author.Tests.{eqb-true, eq-eqb}
use lib.Dec.{eqb}
use Rattle.finite.proofs.Bools.{both}
use Rattle.finite.proofs.Search.{any-true, any_found}
use Rattle.model.specs.Cell.{Cell}
use Rattle.model.specs.Scheme.{Constraint, Scheme}
use Rattle.model.specs.Database.{Database, Has, has}
use Rattle.model.specs.Cache.{RowSet, Inside, Complete, Holds}
use Rattle.model.specs.Rounds.{leads, demands}
use Rattle.model.proofs.CellLaws.{equal-same, equal-self}
use Rattle.model.proofs.DatabaseLaws.{has-Has, Has-has, has-full}

-- row s demands row r: a constraint, and a value that s has in its source column and r in its target column
pub record Demand (S : Scheme) (D : Database) (s r : ℕ) : Type 0 where
  pub number : ℕ
  pub exists : number < S.constraints
  pub value : Cell
  pub source : Has D (S.constraint number).source value s
  pub target : Has D (S.constraint number).target value r

-- the test `demands` finds such a constraint
pub demands-Demand : (S : Scheme) (D : Database) (s r : ℕ) → demands S D s r ≡ true → Demand S D s r
unfolding demands leads
demands-Demand S D s r e =
    record {
      number = f.0;
      exists = f.1;
      value = v;
      source = record { live = a.0; table = eqb-true _ _ b.0; value = equal-self v (has-full t) };
      target = t;
    }
  where
    f : (i : ℕ) × (i < S.constraints) × (leads D (S.constraint i) s r ≡ true)
    f = any_found S.constraints (λ i. leads D (S.constraint i) s r) e

    j : Constraint
    j = S.constraint f.0

    v : Cell
    v = D.cell s j.source.place

    a : (D.live s ≡ true) × (eqb (D.table s) j.source.table && has D j.target v r ≡ true)
    a = (and-eq-true_iff (D.live s) _).0 f.2

    b : (eqb (D.table s) j.source.table ≡ true) × (has D j.target v r ≡ true)
    b = (and-eq-true_iff (eqb (D.table s) j.source.table) _).0 a.1

    t : Has D j.target v r
    t = has-Has D j.target v r b.1

-- ... if there is one
pub Demand-demands : {S : Scheme} {D : Database} {s r : ℕ} → Demand S D s r → demands S D s r ≡ true
unfolding demands leads
Demand-demands {S} {D} {s} {r} d =
    any-true S.constraints (λ i. leads D (S.constraint i) s r) d.number d.exists
    (both d.source.live (both (eq-eqb _ _ d.source.table) (Has-has t)))
  where
    j : Constraint
    j = S.constraint d.number

    t : Has D j.target (D.cell s j.source.place) r
    t = subst (λ (w : Cell). Has D j.target w r) (sym (equal-same _ _ d.source.value)) d.target

-- X is a row set of D that has what its rows demand
pub record Closed (S : Scheme) (D : Database) (X : RowSet) : Type 0 where
  pub rows : Inside X D.live
  pub demanded : (s r : ℕ) → X s ≡ true → Demand S D s r → X r ≡ true

-- a closed row set meets every constraint
pub closed-constraints : {S : Scheme} {D : Database} {X : RowSet} → Closed S D X → (i : ℕ) → i < S.constraints → Holds D X (S.constraint i)
unfolding Holds Complete
closed-constraints C i l s v x g r h = C.demanded s r x (record { number = i; exists = l; value = v; source = g; target = h })

-- a row set that meets every constraint is closed
pub constraints-closed : {S : Scheme} {D : Database} {X : RowSet} → Inside X D.live →
    ((i : ℕ) → i < S.constraints → Holds D X (S.constraint i)) → Closed S D X
unfolding Holds Complete
constraints-closed ins c = record { rows = ins; demanded = λ s r x d. c d.number d.exists s d.value x d.source r d.target }
