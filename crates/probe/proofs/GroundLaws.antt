-- The grounds as searches below a count, and they and the count of cached rows over row sets that have the same rows. Assumes nothing.
use Prim.Native.Nat.{ℕ, zero, suc, ◌<◌}
use native.Mathlib.Omega.{arith}
use mathlib.Core.Path.{◌≡◌, refl, sym, ap, ap₂, ◌∙◌}
use mathlib.Core.Bool.{Bool, true, false, ◌&&◌, ◌||◌}
use mathlib.Core.List.{List}
use lib.Dec.{eqb}
use lib.ListN.{take}
use lib.Seq.{get_or-take}
use Rattle.finite.specs.Finite.{any, tab}
use Rattle.finite.proofs.Bools.{and_right}
use Rattle.finite.proofs.Search.{any_same, any-front}
use Rattle.finite.proofs.Counting.{count_same}
use Rattle.model.specs.Cell.{Cell, equal}
use Rattle.model.specs.Scheme.{Column, Scheme, same_column}
use Rattle.model.specs.Database.{Database, has}
use Rattle.model.specs.Cache.{RowSet, Held}
use Rattle.model.specs.Probe.{seen, demanded, uniquely_seen, lowest, probe, cached_rows}
use Rattle.model.specs.Ranges.{Range, in_range, range_holds}
use Rattle.model.specs.Holding.{Pair, Owned, one, pairs_hold}
use Rattle.model.specs.Runs.{marked}

-- ---- ground 1

-- pair p holds v in column k
abbrev pub pair_holds : Scheme → Column → Cell → Pair → Bool
pair_holds S k v p = one (S.filling p.filling).column p.value k v

pub held_any : (S : Scheme) (k : Column) (v : Cell) (n : ℕ) (f : ℕ → Owned) → pairs_hold S (tab n f) k v ≡ any n (λ i. pair_holds S k v (f i).pair)
unfolding pairs_hold tab any
held_any S k v zero f = refl
held_any S k v (suc n) f =
    ap (λ (b : Bool). pair_holds S k v (f 0).pair || b) (held_any S k v n (λ i. f (suc i))) ∙ sym (any-front n (λ i. pair_holds S k v (f i).pair))

and_last : (a b : Bool) → b ≡ true → a ≡ a && b
and_last true b h = sym h
and_last false b h = refl

-- one held value: the value, then the column
module _ (j k : Column) (w v : Cell) where
  pub one-other : equal w v ≡ false → false ≡ one j w k v
  unfolding one
  one-other e = sym (and_right (same_column j k) (equal w v) e)

  pub one-column : equal w v ≡ true → same_column j k ≡ one j w k v
  unfolding one
  one-column e = and_last (same_column j k) (equal w v) e

-- one held range in the same way
module _ (S : Scheme) (q : Range) (k : Column) (v : Cell) where
  pub range_other : in_range q v ≡ false → false ≡ range_holds S q k v
  unfolding range_holds
  range_other e = sym (and_right (same_column (S.filling q.filling).column k) (in_range q v) e)

  pub range-column : in_range q v ≡ true → same_column (S.filling q.filling).column k ≡ range_holds S q k v
  unfolding range_holds
  range-column e = and_last (same_column (S.filling q.filling).column k) (in_range q v) e

-- ---- grounds 2 and 3, and the count of cached rows, look at the row set below the database's size alone

module _ (D : Database) (X Y : RowSet) (h : (r : ℕ) → r < D.size → X r ≡ Y r) (v : Cell) where
  pub seen_same : (k : Column) → seen D X k v ≡ seen D Y k v
  unfolding seen
  seen_same k = any_same D.size _ _ (λ r l. ap (λ (b : Bool). b && has D k v r) (h r l))

  pub rows_same : (k : Column) → cached_rows D X k v ≡ cached_rows D Y k v
  unfolding cached_rows
  rows_same k = count_same D.size _ _ (λ r l. ap (λ (b : Bool). b && has D k v r) (h r l))

  module _ (S : Scheme) where
    demanded-same : (k : Column) → demanded S D X k v ≡ demanded S D Y k v
    unfolding demanded
    demanded-same k =
        any_same S.constraints _ _ (λ i l. ap (λ (b : Bool). same_column (S.constraint i).target k && b) (seen_same (S.constraint i).source))

    pub probe-same : (H : Held) (k : Column) → probe S D H X k v ≡ probe S D H Y k v
    unfolding probe uniquely_seen
    probe-same H k = ap₂ (λ (a b : Bool). lowest (H k v) a (S.unique k && b)) (demanded-same k) (seen_same k)

-- the marks of the numbers below n, whatever stands past them
pub marked-front : (m : List ℕ) (n r : ℕ) → r < n → marked m r ≡ marked (take n m) r
unfolding marked
marked-front m n r l = ap (λ (x : ℕ). eqb x 1) (sym (get_or-take n m r 0 l))

-- so a probe of a database of 512 row numbers looks at the first 512 marks alone
module _ (D : Database) (z : D.size ≡ 512) (m : List ℕ) where
  front : (r : ℕ) → r < D.size → marked m r ≡ marked (take 512 m) r
  front r l = marked-front m 512 r (omega (arith, z))

  pub probe-front : (S : Scheme) (H : Held) (k : Column) (v : Cell) → probe S D H (marked m) k v ≡ probe S D H (marked (take 512 m)) k v
  probe-front S H k v = probe-same D (marked m) (marked (take 512 m)) front v S H k

  -- ... and so does a count
  pub rows-front : (k : Column) (v : Cell) → cached_rows D (marked m) k v ≡ cached_rows D (marked (take 512 m)) k v
  rows-front k v = rows_same D (marked m) (marked (take 512 m)) front v k

-- ---- the lowest ground

module _ (S : Scheme) (D : Database) (H : Held) (X : RowSet) (k : Column) (v : Cell) where
  pub ground-first : H k v ≡ true → 1 ≡ probe S D H X k v
  unfolding probe
  ground-first h = sym (ap (λ (a : Bool). lowest a (demanded S D X k v) (uniquely_seen S D X k v)) h)

  module _ (h : H k v ≡ false) where
    pub ground-second : demanded S D X k v ≡ true → 2 ≡ probe S D H X k v
    unfolding probe
    ground-second g = sym (ap₂ (λ (a b : Bool). lowest a b (uniquely_seen S D X k v)) h g)

    module _ (g : demanded S D X k v ≡ false) where
      ground-last : probe S D H X k v ≡ lowest false false (uniquely_seen S D X k v)
      unfolding probe
      ground-last = ap₂ (λ (a b : Bool). lowest a b (uniquely_seen S D X k v)) h g

      pub ground-third : uniquely_seen S D X k v ≡ true → 3 ≡ probe S D H X k v
      ground-third f = sym (ground-last ∙ ap (lowest false false) f)

      pub ground-none : uniquely_seen S D X k v ≡ false → 0 ≡ probe S D H X k v
      ground-none f = sym (ground-last ∙ ap (lowest false false) f)
