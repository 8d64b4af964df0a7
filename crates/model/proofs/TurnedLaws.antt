-- The constraints turned round: a row of G is among the smallest row set for what is held exactly if a wanted row leads on to a row of G. Assumes nothing.
use Prim.Native.Nat.{ℕ}
use mathlib.Core.Path.{◌≡◌, refl}
use mathlib.Core.Logic.{inr, ⊎_elim}
use mathlib.Core.Bool.{true, false, not, ◌&&◌, and-eq-true_iff}
use borrow.Author.Tests.{not-true}
use Rattle.finite.specs.Finite.{any}
use Rattle.finite.proofs.Bools.{both, dec, clash, refute}
use Rattle.finite.proofs.Search.{any_found, any_none}
use Rattle.model.specs.Scheme.{Scheme}
use Rattle.model.specs.Database.{Database}
use Rattle.model.specs.Cache.{RowSet, Inside, Held, Complete, Meets, Smallest}
use Rattle.model.specs.Turned.{turned, leads_on}
use Rattle.model.proofs.Closed.{Demand, Closed, constraints-closed, closed-constraints}
use Rattle.model.proofs.RoundsLaws.{load-closed, load-starts, load-least}
use Rattle.model.proofs.Loads.{Wants}

-- a demand, turned round and back
turn : {S : Scheme} {D : Database} {s r : ℕ} → Demand S D s r → Demand (turned S) D r s
unfolding turned
turn d = record { number = d.number; exists = d.exists; value = d.value; source = d.target; target = d.source }

turn-back : {S : Scheme} {D : Database} {s r : ℕ} → Demand (turned S) D r s → Demand S D s r
unfolding turned
turn-back d = record { number = d.number; exists = d.exists; value = d.value; source = d.target; target = d.source }

none-closed : (S : Scheme) (D : Database) → Closed S D (λ _. false)
none-closed S D = record { rows = λ r e. clash e refl; demanded = λ s r e d. clash e refl }

-- a row that is in both
pub record Common (X Y : RowSet) : Type 0 where
  pub row : ℕ
  pub first : X row ≡ true
  pub second : Y row ≡ true

-- where they have none in common
apart : {X Y : RowSet} → (Common X Y → ⊥) → (r : ℕ) → X r ≡ true → Y r ≡ false
apart {X} {Y} f r x = refute (Y r) (λ y. f (record { row = r; first = x; second = y }))

-- row sets that cannot be without one have one
find : (D : Database) (X Y : RowSet) → Inside X D.live → ((Common X Y → ⊥) → ⊥) → Common X Y
find D X Y i f = ⊎_elim found (λ t. absurd (f (missing t))) (dec (any D.size (λ r. X r && Y r)))
  where
    found : any D.size (λ r. X r && Y r) ≡ true → Common X Y
    found t =
        let g = any_found D.size (λ r. X r && Y r) t in
        let q = (and-eq-true_iff (X g.0) (Y g.0)).0 g.2 in
        record { row = g.0; first = q.0; second = q.1 }

    missing : any D.size (λ r. X r && Y r) ≡ false → Common X Y → ⊥
    missing t c = clash (both c.first c.second) (any_none D.size (λ r. X r && Y r) t c.row (D.finite c.row (i c.row c.first)))

-- rows that lead on are rows
pub leads-live : (S : Scheme) (D : Database) (G : RowSet) → Inside G D.live → Inside (leads_on S D G) D.live
unfolding leads_on
leads-live S D G inside = (load-closed (turned S) D (λ _. false) G (none-closed (turned S) D) inside).rows

-- X is the smallest row set for H, whose values the rows `seed` have
module _ {S : Scheme} {D : Database} {H : Held} {X seed : RowSet} (m : Smallest S D H X) (w : Wants D H seed) (G : RowSet) (inside : Inside G D.live) where
  abbrev B : RowSet
  B = leads_on S D G

  closed_x : Closed S D X
  closed_x = constraints-closed m.meets.rows m.meets.constraints

  closed_b : Closed (turned S) D B
  unfolding leads_on
  closed_b = load-closed (turned S) D (λ _. false) G (none-closed (turned S) D) inside

  starts_b : (r : ℕ) → G r ≡ true → B r ≡ true
  unfolding leads_on
  starts_b r g = load-starts (turned S) D (λ _. false) G (none-closed (turned S) D) inside r (inr g)

  seed-live : Inside seed D.live
  seed-live r e = (w.wanted r e).has.live

  -- X without the rows that lead on to G meets everything that X does, if no wanted row leads on
  abbrev Y : RowSet
  Y r = X r && not (B r)

  both-Y : (r : ℕ) → Y r ≡ true → (X r ≡ true) × (B r ≡ false)
  both-Y r e = let q = (and-eq-true_iff (X r) (not (B r))).0 e in (q.0, not-true (B r) q.1)

  closed_y : Closed S D Y
  closed_y =
      record {
        rows = λ r e. m.meets.rows r (both-Y r e).0;
        demanded = λ s r e d. let q = both-Y s e in
            both (closed_x.demanded s r q.0 d) (rw (refute (B r) (λ b. clash (closed_b.demanded r s b (turn d)) q.1)));
      }

  meets_y : (Common seed B → ⊥) → Meets S D H Y
  unfolding Complete
  meets_y f =
      record {
        rows = closed_y.rows;
        constraints = closed-constraints closed_y;
        values = λ k v h r g. both (m.meets.values k v h r g) (rw (apart f r (w.covers k v r h g)));
      }

  -- so a row of G is in X only if a wanted row leads on to one
  pub then-wanted : Common G X → Common seed B
  then-wanted c = find D seed B seed-live (λ f. clash (starts_b c.row c.first) (both-Y c.row (m.least Y (meets_y f) c.row c.second)).1)

  -- the live rows that X lacks are closed under the constraints turned round
  abbrev Z : RowSet
  Z r = D.live r && not (X r)

  out : (r : ℕ) → D.live r ≡ true → (X r ≡ true → ⊥) → Z r ≡ true
  out r l h = both l (rw (refute (X r) h))

  both-Z : (r : ℕ) → Z r ≡ true → (D.live r ≡ true) × (X r ≡ false)
  both-Z r e = let q = (and-eq-true_iff (D.live r) (not (X r))).0 e in (q.0, not-true (X r) q.1)

  closed_z : Closed (turned S) D Z
  closed_z =
      record {
        rows = λ r e. (both-Z r e).0;
        demanded = λ s r e d. let t = turn-back d in out r t.source.live (λ x. clash (closed_x.demanded r s x t) (both-Z s e).1);
      }

  -- so where X has no row of G, it has none that leads on to one
  unled : (Common G X → ⊥) → (r : ℕ) → B r ≡ true → X r ≡ false
  unfolding leads_on
  unled f r b =
      (both-Z r (load-least (turned S) D (λ _. false) G (none-closed (turned S) D) inside Z closed_z (λ n e. clash e refl)
      (λ n g. out n (inside n g) (λ x. f (record { row = n; first = g; second = x }))) r b)).1

  -- and a wanted row that leads on to G brings one of G with it
  pub then-cached : Common seed B → Common G X
  unfolding Complete
  then-cached c = find D G X inside (λ f.
      let q = w.wanted c.row c.first in
      clash (m.meets.values q.column q.value q.held c.row q.has) (unled f c.row c.second))
