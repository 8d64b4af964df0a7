-- A load beside cached rows is a load from nothing among the other rows. Assumes nothing.
use Prim.Native.Nat.{ℕ, zero, suc, ◌<◌}
use native.Mathlib.Omega.{arith}
use mathlib.Core.Path.{◌≡◌, refl, sym, ap, ap₂, ◌∙◌}
use mathlib.Core.Logic.{◌⊎◌, inl, inr}
use mathlib.Core.Bool.{Bool, true, false, not, cond, ◌&&◌, ◌||◌, and-eq-true_iff}
use mathlib.Core.List.{List}
use borrow.Author.Tests.{eqb-true, lt-ltb}
use lib.Dec.{eqb, ltb}
use Rattle.finite.proofs.Bools.{dec, clash, refute, and_left, and_right, cond-true, cond-false}
use Rattle.finite.proofs.Search.{any_same, any-refuted}
use Rattle.finite.proofs.Tables.{tab-at}
use Rattle.model.specs.Cell.{Cell, equal}
use Rattle.model.specs.Scheme.{Column, Constraint, Scheme}
use Rattle.model.specs.Database.{Database, has}
use Rattle.model.specs.Cache.{RowSet, Inside}
use Rattle.model.specs.Rounds.{leads, demands, level, or_else, start, reached_from, next, levels, reached, load}
use Rattle.model.proofs.Closed.{Closed}
use Rattle.model.proofs.RoundsLaws.{load-distances}
use Rattle.model.proofs.RoundsLaws.{next-at}

-- the rows of D but those of X
abbrev pub others : Database → RowSet → Database
others D X =
    record {
      size = D.size;
      live = λ s. D.live s && not (X s);
      table = D.table;
      cell = D.cell;
      finite = λ s l. D.finite s ((and-eq-true_iff (D.live s) (not (X s))).0 l).0;
    }

-- the rows of the seed but those of X
abbrev pub new_of : RowSet → RowSet → RowSet
new_of X seed s = seed s && not (X s)

pub none-closed : (S : Scheme) (D : Database) → Closed S D (λ _. false)
none-closed S D = record { rows = λ r e. clash e refl; demanded = λ s r e d. clash e refl }

module _ (S : Scheme) (D : Database) (X seed : RowSet) where
  live_same : (s : ℕ) → X s ≡ false → D.live s && not (X s) ≡ D.live s
  live_same s e = ap (λ (b : Bool). D.live s && not b) e ∙ go (D.live s)
    where
      go : (b : Bool) → b && true ≡ b
      go true = refl
      go false = refl

  has_same : (k : Column) (v : Cell) (t : ℕ) → X t ≡ false → has (others D X) k v t ≡ has D k v t
  unfolding has
  has_same k v t e = ap (λ (b : Bool). b && (eqb (D.table t) k.table && equal (D.cell t k.place) v)) (live_same t e)

  leads-same : (j : Constraint) (s t : ℕ) → X s ≡ false → X t ≡ false → leads D j s t ≡ leads (others D X) j s t
  unfolding leads
  leads-same j s t e f =
      ap₂ (λ (a b : Bool). a && (eqb (D.table s) j.source.table && b)) (sym (live_same s e)) (sym (has_same j.target (D.cell s j.source.place) t f))

  demands-same : (s t : ℕ) → X s ≡ false → X t ≡ false → demands S D s t ≡ demands S (others D X) s t
  unfolding demands
  demands-same s t e f = any_same S.constraints _ _ (λ i l. leads-same (S.constraint i) s t e f)

  -- a row of X demands nothing there
  demands-none : (s t : ℕ) → X s ≡ true → demands S (others D X) s t ≡ false
  unfolding demands leads
  demands-none s t e = any-refuted S.constraints _ (λ i l. and_left (D.live s && not (X s)) _ (and_right (D.live s) (not (X s)) (ap not e)))

  -- ---- the levels

  abbrev there : ℕ → List ℕ
  there n = levels S (others D X) (start (others D X) (λ _. false) (new_of X seed)) n

  abbrev here : ℕ → List ℕ
  here n = levels S D (start D X seed) n

  module _ (n : ℕ) (ih : (t : ℕ) → t < D.size → level (here n) t ≡ cond (X t) 1 (level (there n) t)) (t : ℕ) where
    asked : X t ≡ false → (s : ℕ) → s < D.size → (X s ≡ true) ⊎ (X s ≡ false) →
        eqb (level (here n) s) (suc (suc n)) && demands S D s t ≡ eqb (level (there n) s) (suc (suc n)) && demands S (others D X) s t
    asked f s l (inl e) =
        and_left (eqb (level (here n) s) (suc (suc n))) _ (refute _ (λ h. let a = eqb-true (level (here n) s) (suc (suc n)) h in let b = ih s l ∙ cond-true (X s) 1 _ e in omega arith))
        ∙ sym (and_right (eqb (level (there n) s) (suc (suc n))) _ (demands-none s t e))
    asked f s l (inr e) = ap₂ (λ (a : ℕ) (b : Bool). eqb a (suc (suc n)) && b) (ih s l ∙ cond-false (X s) 1 _ e) (demands-same s t e f)

    reached-same : X t ≡ false → reached_from S D n (here n) t ≡ reached_from S (others D X) n (there n) t
    unfolding reached_from
    reached-same f = any_same D.size _ _ (λ s l. asked f s l (dec (X s)))

    next-beside : t < D.size → (X t ≡ true) ⊎ (X t ≡ false) →
        or_else (level (here n) t) (cond (reached_from S D n (here n) t) (suc (suc (suc n))) 0) ≡ cond (X t) 1 (level (next S (others D X) n (there n)) t)
    next-beside l (inl e) =
        ap (λ (m : ℕ). or_else m (cond (reached_from S D n (here n) t) (suc (suc (suc n))) 0)) (ih t l ∙ cond-true (X t) 1 _ e) ∙ sym (cond-true (X t) 1 _ e)
    next-beside l (inr e) =
        ap₂ (λ (m : ℕ) (b : Bool). or_else m (cond b (suc (suc (suc n))) 0)) (ih t l ∙ cond-false (X t) 1 _ e) (reached-same e)
        ∙ sym (next-at S (others D X) n (there n) t l) ∙ sym (cond-false (X t) 1 _ e)

  pub levels-beside : (n t : ℕ) → t < D.size → level (here n) t ≡ cond (X t) 1 (level (there n) t)
  unfolding levels start
  levels-beside zero t l = tab-at 0 D.size _ t l ∙ go (X t) (seed t) ∙ ap (λ (m : ℕ). cond (X t) 1 m) (sym (tab-at 0 D.size _ t l))
    where
      go : (x s : Bool) → ◌≡◌ {A = ℕ} (cond x 1 (cond s 2 0)) (cond x 1 (cond (s && not x) 2 0))
      go true s = refl
      go false true = refl
      go false false = refl
  levels-beside (suc n) t l = next-at S D n (here n) t l ∙ next-beside n (levels-beside n) t l (dec (X t))

  -- ---- the load

  abbrev pub reach : RowSet
  reach = reached (load S (others D X) (λ _. false) (new_of X seed))

  pub load-joins : (t : ℕ) → t < D.size → reached (load S D X seed) t ≡ X t || reach t
  unfolding load reached
  load-joins t l = ap (ltb 0) (levels-beside D.size t l) ∙ go (X t)
    where
      go : (x : Bool) → ltb 0 (cond x 1 (level (there D.size) t)) ≡ x || ltb 0 (level (there D.size) t)
      go true = refl
      go false = refl

  -- a row is added exactly if it is reached and wasn't cached
  pub load-adds : Inside (new_of X seed) (others D X).live → (t : ℕ) → t < D.size → ltb 1 (level (load S D X seed) t) ≡ reached (load S D X seed) t && not (X t)
  unfolding load reached
  load-adds I t l =
      ap (ltb 1) (levels-beside D.size t l) ∙ go (X t) (level (there D.size) t) fresh ∙ ap (λ (m : ℕ). ltb 0 m && not (X t)) (sym (levels-beside D.size t l))
    where
      fresh : level (there D.size) t ≡ 1 → ⊥
      fresh e = clash ((load-distances S (others D X) (λ _. false) (new_of X seed) (none-closed S (others D X)) I).is-old t e) refl

      go : (x : Bool) (m : ℕ) → (m ≡ 1 → ⊥) → ltb 1 (cond x 1 m) ≡ ltb 0 (cond x 1 m) && not x
      go true m k = refl
      go false zero k = refl
      go false (suc zero) k = absurd (k refl)
      go false (suc (suc m)) k = lt-ltb 1 (suc (suc m)) (omega arith) ∙ sym (ap (λ (b : Bool). b && true) (lt-ltb 0 (suc (suc m)) (omega arith)))
