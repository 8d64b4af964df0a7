-- What the load's functions give over lent rows, in the words of specs/Loads.antt. Assumes nothing.
use Prim.Native.Nat.{ℕ, zero, suc, ◌+◌, ◌-◌, ◌≤◌, ◌<◌}
use native.Mathlib.Omega.{arith}
use mathlib.Core.Path.{◌≡◌, refl, sym, ap, ap₂, ◌∙◌}
use mathlib.Core.Bool.{Bool, true, false, not, cond, ◌&&◌}
use mathlib.Core.List.{List, ◌++◌}
use lib.ListN.{length, drop}
use Rattle.finite.specs.Finite.{count, tab}
use Rattle.finite.proofs.Bools.{clash}
use Rattle.finite.proofs.Counting.{count_same}
use Rattle.finite.proofs.Tables.{tab-same}
use Rattle.model.specs.Answers as Answers
use Rattle.model.specs.Cache.{RowSet, Inside}
use Rattle.model.specs.Scheme.{Scheme}
use Rattle.model.specs.Database.{Database, has}
use Rattle.model.specs.Ranges.{has_range}
use Rattle.model.specs.Rounds.{reached, load, added_rows, later_rounds}
use Rattle.model.specs.Holding.{wanted}
use Rattle.model.specs.Runs.{marks, marked, reload_levels}
use Rattle.model.proofs.RoundsLaws.{levels-length}
use Rattle.state.specs.declared.cell.Cell.{Cell}
use Rattle.state.specs.declared.design.Column.{Column}
use Rattle.state.specs.declared.design.Design.{Design}
use Rattle.state.specs.declared.held.Range.{Range}
use Rattle.state.specs.declared.held.Held.{Held}
use Rattle.state.specs.Meaning.{cell_of, column_of, range_of, scheme_of, holding_of}
use Rattle.load.specs.Ended.{Covers, Within, Reaches}
use Rattle.load.proofs.EndedLaws.{load-covered}
use Rattle.cache.specs.Loads.{value_levels, span_levels, held_levels, settled, gone_rows}

-- ---- counting

-- those that pass p and not q, where all that pass q pass p
count-rest : (n : ℕ) (p q : ℕ → Bool) → ((i : ℕ) → q i ≡ true → p i ≡ true) → count n q + count n (λ i. p i && not (q i)) ≡ count n p
unfolding count
count-rest zero p q h = refl
count-rest (suc n) p q h = go (p n) (q n) (h n) (count-rest n p q h)
  where
    go : (a b : Bool) → (b ≡ true → a ≡ true) → count n q + count n (λ i. p i && not (q i)) ≡ count n p →
        count n q + cond b 1 0 + (count n (λ i. p i && not (q i)) + cond (a && not b) 1 0) ≡ count n p + cond a 1 0
    go true true g e = omega (arith, e)
    go true false g e = omega (arith, e)
    go false true g e = clash (g refl) refl
    go false false g e = omega (arith, e)

-- ---- what a load may add

-- the rows that it may add are as many as they are
pub within_count : {S : Scheme} {D : Database} {seed X : RowSet} {n : ℕ} → n ≡ count 512 X → Covers S D seed X → Within S D seed n
within_count {X} e c = record { set = X; covers = c; few = omega arith }

module _ (d : Design) (D : Database) (z : D.size ≡ 512) where
  -- ---- a load of one value more

  pub value-is : (m : List ℕ) (k : Column) (v : Cell) (K : List ℕ) →
      K ≡ load (scheme_of d) D (marked m) (has D (column_of k) (cell_of v)) → K ≡ value_levels d D m k v
  unfolding value_levels
  value-is m k v K e = e

  -- and of one range more
  pub span-is : (m : List ℕ) (k : Column) (q : Range) (K : List ℕ) →
      K ≡ load (scheme_of d) D (marked m) (has_range D (column_of k) (range_of q)) → K ≡ span_levels d D m k q
  unfolding span_levels
  span-is m k q K e = e

  pub load-long : (m : List ℕ) (seed : RowSet) (K : List ℕ) → K ≡ load (scheme_of d) D (marked m) seed → length K ≡ 512
  unfolding load
  load-long m seed K e = ap length e ∙ levels-length (scheme_of d) D _ _ _ ∙ z

  pub loaded-is : (K L : List ℕ) (rows rounds : ℕ) → K ≡ L → rows ≡ added_rows D K → rounds ≡ later_rounds D K →
      Answers.loaded rows rounds ≡ Answers.loaded (added_rows D L) (later_rounds D L)
  loaded-is K L rows rounds e f g =
      ap₂ Answers.loaded (f ∙ ap (added_rows D) e) (g ∙ ap (later_rounds D) e)

  -- ---- what is read off levels K that reach the rows that the levels L do

  module _ (K L : List ℕ) (same : (r : ℕ) → r < 512 → reached K r ≡ reached L r) where
    pub settled_is : (m new : List ℕ) → new ≡ tab 512 (λ r. cond (reached K r) 1 0) ++ drop 512 m → new ≡ settled D L m
    unfolding settled marks
    settled_is m new f =
        f ∙ ap (λ (xs : List ℕ). xs ++ drop 512 m) (tab-same 512 _ _ (λ r l. ap (λ (b : Bool). cond b 1 0) (same r l))) ∙
        ap (λ (n : ℕ). tab n (λ r. cond (reached L r) 1 0) ++ drop 512 m) (sym z)

    gone-is : (m : List ℕ) → Inside (reached L) (marked m) → count 512 (reached K) + gone_rows D L m ≡ count 512 (marked m)
    unfolding gone_rows
    gone-is m i =
        ap (λ (n : ℕ). count 512 (reached K) + count n (λ r. marked m r && not (reached L r))) z ∙
        ap (λ (n : ℕ). n + count 512 (λ r. marked m r && not (reached L r))) (count_same 512 (reached K) (reached L) same) ∙
        count-rest 512 (marked m) (reached L) i

  -- ---- the load of all held values

  module _ (h : Held) (K : List ℕ) (rows : ℕ) (u : Reaches K (reload_levels (scheme_of d) D (holding_of h)) rows) where
    pub held_same : (r : ℕ) → r < 512 → reached K r ≡ reached (held_levels d D h) r
    unfolding held_levels
    held_same r l = ap (λ (J : List ℕ). reached J r) u.levels

    module _ (m : List ℕ) (cached : ℕ) (e : cached ≡ count 512 (marked m)) (c : Covers (scheme_of d) D (wanted (scheme_of d)
        D (holding_of h)) (marked m)) where
      all-marked : Inside (reached (held_levels d D h)) (marked m)
      unfolding held_levels reload_levels
      all-marked = load-covered (scheme_of d) D _ (marked m) c

      gone : count 512 (reached K) + gone_rows D (held_levels d D h) m ≡ count 512 (marked m)
      gone = gone-is K _ held_same m all-marked

      pub rows-fewer : rows ≤ cached
      rows-fewer = omega (arith, gone, u.size)

      pub dropped-is : Answers.dropped (cached - rows) ≡ Answers.dropped (gone_rows D (held_levels d D h) m)
      dropped-is = ap Answers.dropped (omega (arith, gone, u.size))
