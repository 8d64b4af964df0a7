-- The smallest row set where a row comes or goes, from the one before. Assumes nothing.
use Prim.Native.Nat.{ℕ}
use mathlib.Core.Path.{◌≡◌, refl, sym, ap, subst, ◌∙◌}
use mathlib.Core.Logic.{◌⊎◌, inl, inr, ⊎_elim}
use mathlib.Core.Bool.{Bool, true, false, not, ◌&&◌, ◌||◌, and-eq-true_iff, or-true}
use borrow.Author.Tests.{eq-eqb}
use lib.Dec.{eqb}
use Rattle.finite.proofs.Bools.{both, clash, dec, eq-not, ne-not, or_cases, or_left, refute, same_number}
use Rattle.model.specs.Cell.{Cell, equal}
use Rattle.model.specs.Scheme.{Column, Scheme}
use Rattle.model.specs.Database.{Database, Has}
use Rattle.model.specs.Cache.{RowSet, Inside, Held, Complete, Meets, Smallest}
use Rattle.model.proofs.Closed.{Demand, Closed, closed-constraints, constraints-closed}
use Rattle.finite.proofs.Bools.{or-second}
use Rattle.model.proofs.RoundsLaws.{load-closed, load-starts, load-least}
use Rattle.mend.specs.Changing.{Without}
use Rattle.change.proofs.OtherRows.{others, new_of, none-closed, reach}

-- row set X without row r
unfoldable pub but : RowSet → ℕ → RowSet
but X r s = X s && not (eqb s r)

module _ (X : RowSet) (r s : ℕ) where
  pub but-has : X s ≡ true → (s ≡ r → ⊥) → but X r s ≡ true
  unfolding but
  but-has x ne = both x (ne-not s r ne)

  pub but-says : but X r s ≡ true → (X s ≡ true) × (s ≡ r → ⊥)
  unfolding but
  but-says t = let a = (and-eq-true_iff (X s) (not (eqb s r))).0 t in (a.0, λ e. clash a.1 (eq-not s r e))

-- a row set that meets everything is closed
meets-closed : {S : Scheme} {D : Database} {H : Held} {Y : RowSet} → Meets S D H Y → Closed S D Y
meets-closed m = constraints-closed m.rows m.constraints

module _ {E F : Database} {r : ℕ} (w : Without E F r) where
  -- a row of the tables without r is another
  other : {s : ℕ} → E.live s ≡ true → s ≡ r → ⊥
  other l e = clash l (ap E.live e ∙ w.free)

  -- it has in one what it has in the other
  has-with : {k : Column} {v : Cell} {s : ℕ} → Has E k v s → Has F k v s
  has-with {k} {v} {s} h =
      let ne = other h.live in
      record {
        live = sym (w.live s ne) ∙ h.live;
        table = sym (w.table s ne) ∙ h.table;
        value = ap (λ (x : Cell). equal x v) (sym (w.cell s k.place ne)) ∙ h.value;
      }

  has-without : {k : Column} {v : Cell} {s : ℕ} → (s ≡ r → ⊥) → Has F k v s → Has E k v s
  has-without {k} {v} {s} ne h =
      record {
        live = w.live s ne ∙ h.live;
        table = w.table s ne ∙ h.table;
        value = ap (λ (x : Cell). equal x v) (w.cell s k.place ne) ∙ h.value;
      }

  demand-with : {S : Scheme} {s t : ℕ} → Demand S E s t → Demand S F s t
  demand-with d = record { number = d.number; exists = d.exists; value = d.value; source = has-with d.source; target = has-with d.target }

  demand-without : {S : Scheme} {s t : ℕ} → (s ≡ r → ⊥) → (t ≡ r → ⊥) → Demand S F s t → Demand S E s t
  demand-without a b d =
      record { number = d.number; exists = d.exists; value = d.value; source = has-without a d.source; target = has-without b d.target }

  module _ {S : Scheme} {H : Held} {X : RowSet} where
    -- row r goes: it isn't cached, or demands no other row
    pub goes-smallest : Smallest S F H X → (X r ≡ true → (t : ℕ) → Demand S F r t → t ≡ r) → Smallest S E H (but X r)
    unfolding Complete
    goes-smallest m q =
        record {
          meets = record {
            rows = λ s t. let a = but-says X r s t in w.live s a.1 ∙ m.meets.rows s a.0;
            constraints = closed-constraints (record {
              rows = λ s t. let a = but-says X r s t in w.live s a.1 ∙ m.meets.rows s a.0;
              demanded = λ s t x d. but-has X r t ((meets-closed m.meets).demanded s t (but-says X r s x).0 (demand-with d)) (other d.target.live);
            });
            values = λ k v e s h. but-has X r s (m.meets.values k v e s (has-with h)) (other h.live);
          };
          least = λ Y n s t. let a = but-says X r s t in least Y n s a.1 a.0;
        }
      where
        -- Y, and row r if it is cached
        with-r : RowSet → RowSet
        with-r Y s = X s && (Y s || eqb s r)

        is-r : (Y : RowSet) (s : ℕ) → X s ≡ true → s ≡ r → with-r Y s ≡ true
        is-r Y s x e = both x (ap (λ (b : Bool). Y s || b) (eq-eqb s r e) ∙ or-true (Y s))

        in-Y : (Y : RowSet) (s : ℕ) → X s ≡ true → Y s ≡ true → with-r Y s ≡ true
        in-Y Y s x y = both x (sym (or_left (Y s) (eqb s r) y))

        which : (Y : RowSet) (s : ℕ) → with-r Y s ≡ true → (s ≡ r → ⊥) → Y s ≡ true
        which Y s t ne = ⊎_elim (λ y. y) (λ e. clash (ne-not s r ne) (ap not e)) (or_cases (Y s) (eqb s r) ((and-eq-true_iff (X s) (Y s || eqb s r)).0 t).1)

        is-X : (Y : RowSet) (s : ℕ) → with-r Y s ≡ true → X s ≡ true
        is-X Y s t = ((and-eq-true_iff (X s) (Y s || eqb s r)).0 t).0

        least : (Y : RowSet) → Meets S E H Y → (s : ℕ) → (s ≡ r → ⊥) → X s ≡ true → Y s ≡ true
        least Y n s ne x = which Y s (m.least (with-r Y) meets s x) ne
          where
            to : (s t : ℕ) → with-r Y s ≡ true → Demand S F s t → (t ≡ r) ⊎ (t ≡ r → ⊥) → (s ≡ r) ⊎ (s ≡ r → ⊥) → X t ≡ true → with-r Y t ≡ true
            to s t a d (inl e) _ z = is-r Y t z e
            to s t a d (inr f) (inl e) z =
                absurd (f (q (subst (λ (i : ℕ). X i ≡ true) e (is-X Y s a)) t (subst (λ (i : ℕ). Demand S F i t) e d)))
            to s t a d (inr f) (inr e) z = in-Y Y t z ((meets-closed n).demanded s t (which Y s a e) (demand-without e f d))

            value : (k : Column) (v : Cell) → H k v ≡ true → (s : ℕ) → Has F k v s → X s ≡ true → (s ≡ r) ⊎ (s ≡ r → ⊥) → with-r Y s ≡ true
            value k v e s h z (inl f) = is-r Y s z f
            value k v e s h z (inr f) = in-Y Y s z (n.values k v e s (has-without f h))

            meets : Meets S F H (with-r Y)
            meets =
                record {
                  rows = λ s t. m.meets.rows s (is-X Y s t);
                  constraints = closed-constraints (record {
                    rows = λ s t. m.meets.rows s (is-X Y s t);
                    demanded = λ s t a d. to s t a d (same_number t r) (same_number s r) ((meets-closed m.meets).demanded s t (is-X Y s a) d);
                  });
                  values = λ k v e s h. value k v e s h (m.meets.values k v e s h) (same_number s r);
                }

    -- ---- row r comes: X is the smallest row set without it

    module _ (m : Smallest S E H X) where
      not-r : {s : ℕ} → X s ≡ true → s ≡ r → ⊥
      not-r {s} x = other (m.meets.rows s x)

      -- a row set that meets everything with row r has those rows
      pub comes-below : (Y : RowSet) → Meets S F H Y → Inside X Y
      unfolding Complete
      comes-below Y n s x = (but-says Y r s (m.least (but Y r) meets s x)).0
        where
          rows : Inside (but Y r) E.live
          rows s t = let a = but-says Y r s t in w.live s a.1 ∙ n.rows s a.0

          meets : Meets S E H (but Y r)
          meets =
              record {
                rows = rows;
                constraints = closed-constraints (record {
                  rows = rows;
                  demanded = λ s t y d. but-has Y r t ((meets-closed n).demanded s t (but-says Y r s y).0 (demand-with d)) (other d.target.live);
                });
                values = λ k v e s h. but-has Y r s (n.values k v e s (has-with h)) (other h.live);
              }

      live-with : Inside X F.live
      live-with s x = sym (w.live s (not-r x)) ∙ m.meets.rows s x

      -- what one of its rows demands is row r or one of its rows, and so is a row that has a held value
      demanded-with : (s t : ℕ) → X s ≡ true → Demand S F s t → (t ≡ r) ⊎ (t ≡ r → ⊥) → (t ≡ r) ⊎ (X t ≡ true)
      demanded-with s t x d (inl e) = inl e
      demanded-with s t x d (inr ne) = inr ((meets-closed m.meets).demanded s t x (demand-without (not-r x) ne d))

      valued-with : (k : Column) (v : Cell) → H k v ≡ true → (s : ℕ) → Has F k v s → (s ≡ r) ⊎ (s ≡ r → ⊥) → (s ≡ r) ⊎ (X s ≡ true)
      unfolding Complete
      valued-with k v e s h (inl q) = inl q
      valued-with k v e s h (inr ne) = inr (m.meets.values k v e s (has-without ne h))

      -- nothing calls for it
      pub comes-uncalled : ((k : Column) (v : Cell) → H k v ≡ true → Has F k v r → ⊥) → ((s : ℕ) → X s ≡ true → Demand S F s r → ⊥) → Smallest S F H X
      unfolding Complete
      comes-uncalled no_value no-demand =
          record {
            meets = record {
              rows = live-with;
              constraints = closed-constraints (record {
                rows = live-with;
                demanded = λ s t x d. ⊎_elim (λ e. absurd (no-demand s x (subst (λ (i : ℕ). Demand S F s i) e d))) (λ y. y) (demanded-with s t x d (same_number t r));
              });
              values = λ k v e s h. ⊎_elim (λ q. absurd (no_value k v e (subst (λ (i : ℕ). Has F k v i) q h))) (λ y. y) (valued-with k v e s h (same_number s r));
            };
            least = comes-below;
          }

      -- it is called for: what it leads to comes too
      module _ (seed : RowSet) (lives : F.live r ≡ true) (starts : seed r ≡ true) (seeds : (s : ℕ) → seed s ≡ true → (s ≡ r) ⊎ (X s ≡ true))
          (called : (Y : RowSet) → Meets S F H Y → Inside X Y → Y r ≡ true) where
        off : X r ≡ false
        off = refute (X r) (λ x. not-r x refl)

        -- the seed's new row is row r
        new_is : (s : ℕ) → new_of X seed s ≡ true → s ≡ r
        new_is s t =
            let a = (and-eq-true_iff (seed s) (not (X s))).0 t in
            ⊎_elim (λ e. e) (λ x. clash a.1 (ap not x)) (seeds s a.0)

        pub new-live : Inside (new_of X seed) (others F X).live
        new-live s t = subst (λ (i : ℕ). (others F X).live i ≡ true) (sym (new_is s t)) (both lives (ap not off))

        C : Closed S (others F X) (reach S F X seed)
        C = load-closed S (others F X) (λ _. false) (new_of X seed) (none-closed S (others F X)) new-live

        abbrev with-others : RowSet
        with-others s = X s || reach S F X seed s

        r-in : with-others r ≡ true
        r-in = or-second (X r) _ (load-starts S (others F X) (λ _. false) (new_of X seed) (none-closed S (others F X)) new-live r (inr (both starts (ap not off))))

        rows : Inside with-others F.live
        rows s t = ⊎_elim (live-with s) (λ z. ((and-eq-true_iff (F.live s) (not (X s))).0 (C.rows s z)).0) (or_cases (X s) (reach S F X seed s) t)

        -- a row of X, or row r
        one_of : (s : ℕ) → (s ≡ r) ⊎ (X s ≡ true) → with-others s ≡ true
        one_of s (inl e) = subst (λ (i : ℕ). with-others i ≡ true) (sym e) r-in
        one_of s (inr x) = sym (or_left (X s) (reach S F X seed s) x)

        further : (s t : ℕ) → reach S F X seed s ≡ true → Demand S F s t → (X t ≡ true) ⊎ (X t ≡ false) → with-others t ≡ true
        further s t z d (inl x) = one_of t (inr x)
        further s t z d (inr f) =
            or-second (X t) _ (C.demanded s t z (record {
              number = d.number;
              exists = d.exists;
              value = d.value;
              source = record { live = C.rows s z; table = d.source.table; value = d.source.value };
              target = record { live = both d.target.live (ap not f); table = d.target.table; value = d.target.value };
            }))

        pub comes-called : Smallest S F H with-others
        unfolding Complete
        comes-called =
            record {
              meets = record {
                rows = rows;
                constraints = closed-constraints (record {
                  rows = rows;
                  demanded = λ s t y d. ⊎_elim (λ x. one_of t (demanded-with s t x d (same_number t r))) (λ z. further s t z d (dec (X t)))
                      (or_cases (X s) (reach S F X seed s) y);
                });
                values = λ k v e s h. one_of s (valued-with k v e s h (same_number s r));
              };
              least = λ Y n s t. ⊎_elim (comes-below Y n s) (λ z. ((and-eq-true_iff (Y s) ((others F X).live s)).0 (inside Y n s z)).0) (or_cases (X s) (reach S F X seed s) t);
            }
          where
            inside : (Y : RowSet) → Meets S F H Y → Inside (reach S F X seed) (λ s. Y s && (others F X).live s)
            inside Y n =
                load-least S (others F X) (λ _. false) (new_of X seed) (none-closed S (others F X)) new-live (λ s. Y s && (others F X).live s)
                (record {
                  rows = λ s t. ((and-eq-true_iff (Y s) ((others F X).live s)).0 t).1;
                  demanded = λ s t y d. both ((meets-closed n).demanded s t ((and-eq-true_iff (Y s) ((others F X).live s)).0 y).0 (record {
                    number = d.number;
                    exists = d.exists;
                    value = d.value;
                    source = record { live = ((and-eq-true_iff (F.live s) (not (X s))).0 d.source.live).0; table = d.source.table; value = d.source.value };
                    target = record { live = ((and-eq-true_iff (F.live t) (not (X t))).0 d.target.live).0; table = d.target.table; value = d.target.value };
                  })) d.target.live;
                })
                (λ s e. clash e refl)
                (λ s t. both (subst (λ (i : ℕ). Y i ≡ true) (sym (new_is s t)) (called Y n (comes-below Y n))) (new-live s t))
