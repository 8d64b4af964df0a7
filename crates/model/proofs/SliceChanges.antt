-- A slice that is enough may lose every row that isn't cached. One that grows keeps what was fetched whole, and so does a database that grows by rows that have no value
-- of what was fetched. Assumes nothing.
use Prim.Native.Nat.{ℕ}
use mathlib.Core.Path.{◌≡◌, sym, ap, subst, ◌∙◌}
use mathlib.Core.Bool.{true, ◌&&◌, and-eq-true_iff}
use mathlib.Core.List.{List, [], ◌∷◌}
use Rattle.finite.proofs.Bools.{both}
use Rattle.model.specs.Cell.{Cell, numbered}
use Rattle.model.specs.Scheme.{Column, Scheme}
use Rattle.model.specs.Database.{Database, Has}
use Rattle.model.specs.Cache.{RowSet, Held, Complete, Holds, Meets, Smallest}
use Rattle.model.specs.Slice.{Slice, Here, Fetched, Enough}
use Rattle.model.specs.Missing.{Fetch, value, span, Fulfilled, AllFulfilled}
use Rattle.model.proofs.SliceLaws.{has_here}

-- ---- the cached rows alone

-- the rows of X, under their numbers
pub only_rows : Database → RowSet → Database
only_rows D X =
    record {
      size = D.size;
      live = λ r. D.live r && X r;
      table = D.table;
      cell = D.cell;
      finite = λ r e. D.finite r ((and-eq-true_iff (D.live r) (X r)).0 e).0;
    }

module _ (D : Database) (X : RowSet) where
  has_all : {k : Column} {v : Cell} {r : ℕ} → Has (only_rows D X) k v r → Has D k v r
  unfolding only_rows
  has_all {r = r} h = record { live = ((and-eq-true_iff (D.live r) (X r)).0 h.live).0; table = h.table; value = h.value }

  has-only : {k : Column} {v : Cell} {r : ℕ} → X r ≡ true → Has D k v r → Has (only_rows D X) k v r
  unfolding only_rows
  has-only x h = record { live = both h.live x; table = h.table; value = h.value }

module _ {at : ℕ → ℕ} {D B : Database} (P : Slice at D B) {S : Scheme} {H : Held} {X : RowSet} (m : Smallest S D H X) where
  -- THEOREM: the cached rows alone are a slice, of which they are the smallest set
  pub only-slice : Slice at (only_rows D X) B
  unfolding only_rows
  only-slice =
      record {
        live = λ r e. P.live r (part r e);
        table = λ r e. P.table r (part r e);
        cell = λ r c e. P.cell r c (part r e);
        apart = λ r s e f. P.apart r s (part r e) (part s f);
      }
    where
      part : (r : ℕ) → D.live r && X r ≡ true → D.live r ≡ true
      part r e = ((and-eq-true_iff (D.live r) (X r)).0 e).0

  pub only-smallest : Smallest S (only_rows D X) H X
  unfolding Holds Complete only_rows
  only-smallest =
      record {
        meets = record {
          rows = λ r x. both (m.meets.rows r x) x;
          constraints = λ i l s v x g r h. m.meets.constraints i l s v x (has_all D X g) r (has_all D X h);
          values = λ k v e r h. m.meets.values k v e r (has_all D X h);
        };
        least = λ Y n r x. ((and-eq-true_iff (X r) (Y r)).0 (m.least (λ s. X s && Y s) (common Y n) r x)).1;
      }
    where
      common : (Y : RowSet) → Meets S (only_rows D X) H Y → Meets S D H (λ s. X s && Y s)
      common Y n =
          record {
            rows = λ r e. m.meets.rows r ((and-eq-true_iff (X r) (Y r)).0 e).0;
            constraints = λ i l s v e g r h.
                let p = (and-eq-true_iff (X s) (Y s)).0 e in
                let x = m.meets.constraints i l s v p.0 g r h in
                both x (n.constraints i l s v p.1 (has-only D X p.0 g) r (has-only D X x h));
            values = λ k v e r h. let x = m.meets.values k v e r h in both x (n.values k v e r (has-only D X x h));
          }

  -- THEOREM: and they are enough where the slice was
  pub only-enough : Enough S at D B H X → Enough S at (only_rows D X) B H X
  unfolding Fetched Holds Complete only_rows
  only-enough n =
      record {
        held = λ k v e s h. kept (n.held k v e s h) h (λ r g. m.meets.values k v e r g);
        demanded = λ i r v l x g s h. kept (n.demanded i r v l x (has_all D X g) s h) h (λ u k. m.meets.constraints i l r v x (has_all D X g) u k);
      }
    where
      kept : {k : Column} {v : Cell} {s : ℕ} → Here at D s → Has B k v s → ((r : ℕ) → Has D k v r → X r ≡ true) → Here at (only_rows D X) s
      kept {k} {v} q h f =
          record {
            row = q.row;
            live = both q.live (f q.row (has_here P q.live (subst (λ (u : ℕ). Has B k v u) (sym q.number) h)));
            number = q.number;
          }

-- ---- what was fetched

-- THEOREM: what was fetched stays whole in a larger slice E of the same database
pub grown-whole : (at bt : ℕ → ℕ) (D E B : Database) → ((r : ℕ) → D.live r ≡ true → Here bt E (at r)) → (fs : List Fetch) → AllFulfilled at D B fs → AllFulfilled bt E B fs
unfolding AllFulfilled Fulfilled Fetched
grown-whole at bt D E B m [] a = a
grown-whole at bt D E B m (f ∷ fs) a = (go f a.0, grown-whole at bt D E B m fs a.1)
  where
    more : (k : Column) (v : Cell) → Fetched at D B k v → Fetched bt E B k v
    more k v f s h = let q = f s h in subst (Here bt E) q.number (m q.row q.live)

    go : (f : Fetch) → Fulfilled at D B f → Fulfilled bt E B f
    go (value k v) x = more k v x
    go (span k low high) x = λ z l h. more k (numbered z) (x z l h)

-- a slice of a slice
pub slice-through : {at bt : ℕ → ℕ} {D B C : Database} → Slice at D B → Slice bt B C → Slice (λ r. bt (at r)) D C
slice-through {at} P Q =
    record {
      live = λ r l. Q.live (at r) (P.live r l);
      table = λ r l. Q.table (at r) (P.live r l) ∙ P.table r l;
      cell = λ r c l. Q.cell (at r) c (P.live r l) ∙ P.cell r c l;
      apart = λ r s l m e. P.apart r s l m (Q.apart (at r) (at s) (P.live r l) (P.live s m) e);
    }

-- THEOREM: and where the database B becomes C, of which B has every row with a value that was fetched: rows that come without such a value need not be told
pub through-whole : {at bt : ℕ → ℕ} {D B C : Database} → Slice at D B → Slice bt B C → (fs : List Fetch) → AllFulfilled at D B fs → AllFulfilled bt B C fs →
    AllFulfilled (λ r. bt (at r)) D C fs
unfolding AllFulfilled Fulfilled Fetched
through-whole P Q [] a b = a
through-whole {at} {bt} {D} {B} {C} P Q (f ∷ fs) a b = (go f a.0 b.0, through-whole P Q fs a.1 b.1)
  where
    both-fetched : (k : Column) (v : Cell) → Fetched at D B k v → Fetched bt B C k v → Fetched (λ r. bt (at r)) D C k v
    both-fetched k v f g s h =
        let u = g s h in
        let q = f u.row (has_here Q u.live (subst (λ (n : ℕ). Has C k v n) (sym u.number) h)) in
        record { row = q.row; live = q.live; number = ap bt q.number ∙ u.number }

    go : (f : Fetch) → Fulfilled at D B f → Fulfilled bt B C f → Fulfilled (λ r. bt (at r)) D C f
    go (value k v) x y = both-fetched k v x y
    go (span k low high) x y = λ z l h. both-fetched k (numbered z) (x z l h) (y z l h)
