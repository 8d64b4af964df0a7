-- Marks and row sets: a row set of a database is the same as its list of marks. Assumes nothing.
use Prim.Native.Nat.{ℕ, zero, suc, ◌≤◌, ◌<◌}
use native.Mathlib.Decide.{dec_lt}
use native.Mathlib.Omega.{arith}
use mathlib.Core.Path.{◌≡◌, refl, sym, ap, ◌∙◌, subst, fun_ext}
use mathlib.Core.Bool.{Bool, true, false, cond}
use mathlib.Core.List.{List}
use borrow.Author.Tests.{eq-eqb, ne_eqb}
use lib.Dec.{eqb}
use lib.ListN.{length, get_or}
use Rattle.finite.proofs.Bools.{refute}
use Rattle.finite.proofs.Tables.{length-tab, tab-at, tab-past, tab-of, tab-same}
use Rattle.model.specs.Scheme.{Scheme}
use Rattle.model.specs.Database.{Database}
use Rattle.model.specs.Cache.{RowSet, Inside, Held, Smallest}
use Rattle.model.specs.Runs.{marks, marked}

-- there is one mark for each row number
pub length-marks : (D : Database) (X : RowSet) → length (marks D X) ≡ D.size
unfolding marks
length-marks D X = length-tab D.size _

-- row sets with the same rows have the same marks
pub marks-same : (D : Database) (X Y : RowSet) → ((r : ℕ) → r < D.size → X r ≡ Y r) → marks D X ≡ marks D Y
unfolding marks
marks-same D X Y h = tab-same D.size _ _ (λ r l. ap (λ (b : Bool). cond b 1 0) (h r l))

-- the marked rows are the rows of the set
pub marked-marks : (D : Database) (X : RowSet) → Inside X D.live → (r : ℕ) → marked (marks D X) r ≡ X r
unfolding marked marks
marked-marks D X i r = at_row (dec_lt r D.size)
  where
    go : (b : Bool) (l : ℕ) → l ≡ cond b 1 0 → eqb l 1 ≡ b
    go true l e = eq-eqb l 1 e
    go false l e = ne_eqb l 1 (omega arith)

    at_row : Dec (r < D.size) → marked (marks D X) r ≡ X r
    at_row (yes h) = go (X r) (get_or (marks D X) r 0) (tab-at 0 D.size (λ n. cond (X n) 1 0) r h)
    at_row (no h) =
        ne_eqb (get_or (marks D X) r 0) 1 (omega (arith, tab-past {A = ℕ} 0 D.size (λ n. cond (X n) 1 0) r (omega arith))) ∙
        sym (refute (X r) (λ x. let f = D.finite r (i r x) in omega arith))

-- the same, as an equation of row sets
pub marked-marks-is : (D : Database) (X : RowSet) → Inside X D.live → marked (marks D X) ≡ X
marked-marks-is D X i = fun_ext (marked-marks D X i)

-- a list with a 0 or a 1 for each row number is the marks of the rows that it marks
pub marks-marked : (D : Database) (m : List ℕ) → length m ≡ D.size → ((r : ℕ) → r < D.size → get_or m r 0 ≤ 1) → marks D (marked m) ≡ m
unfolding marks marked
marks-marked D m l h = sym (tab-of 0 D.size (λ r. cond (eqb (get_or m r 0) 1) 1 0) m l (λ r k. go (get_or m r 0) (h r k)))
  where
    go : (n : ℕ) → n ≤ 1 → n ≡ cond (eqb n 1) 1 0
    go zero k = refl
    go (suc zero) k = refl
    go (suc (suc n)) k = absurd (omega arith)

-- a smallest row set, read back from its marks
pub marks-smallest : {S : Scheme} {D : Database} {H : Held} {X : RowSet} → Smallest S D H X → Smallest S D H (marked (marks D X))
marks-smallest {S} {D} {H} {X} m = subst (λ (Y : RowSet). Smallest S D H Y) (sym (marked-marks-is D X m.meets.rows)) m
