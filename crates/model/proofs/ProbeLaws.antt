-- The tests of `specs/Probe.antt` say what they are named for, and a probe has a ground exactly if it is not "sent". Assumes nothing.
use Prim.Native.Nat.{ℕ, ◌<◌}
use mathlib.Core.Path.{◌≡◌, refl, ap, ◌∙◌}
use mathlib.Core.Logic.{◌⊎◌, inl, inr}
use mathlib.Core.Bool.{Bool, true, false, ◌&&◌, and-eq-true_iff}
use native.Mathlib.Omega.{arith}
use Rattle.finite.proofs.Bools.{both}
use Rattle.finite.proofs.Search.{any-true, any_found}
use Rattle.model.specs.Cell.{Cell}
use Rattle.model.specs.Scheme.{Column, Scheme, same_column}
use Rattle.model.specs.Database.{Database, Has, has}
use Rattle.model.specs.Cache.{RowSet, Held}
use Rattle.model.specs.Probe.{seen, demanded, uniquely_seen, lowest, probe}
use Rattle.model.proofs.DatabaseLaws.{same-column, same-column-self, has-Has, Has-has}

-- a cached row has the value
pub record Seen (D : Database) (X : RowSet) (k : Column) (v : Cell) : Type 0 where
  pub row : ℕ
  pub cached : X row ≡ true
  pub has : Has D k v row

-- the test `seen` finds a cached row with the value
pub seen-Seen : (D : Database) (X : RowSet) (k : Column) (v : Cell) → seen D X k v ≡ true → Seen D X k v
unfolding seen
seen-Seen D X k v e = record { row = f.0; cached = a.0; has = has-Has D k v f.0 a.1 }
  where
    f : (r : ℕ) × (r < D.size) × (X r && has D k v r ≡ true)
    f = any_found D.size (λ r. X r && has D k v r) e

    a : (X f.0 ≡ true) × (has D k v f.0 ≡ true)
    a = (and-eq-true_iff (X f.0) _).0 f.2

-- ... if there is one
pub Seen-seen : {D : Database} {X : RowSet} {k : Column} {v : Cell} → Seen D X k v → seen D X k v ≡ true
unfolding seen
Seen-seen {D} {X} {k} {v} s =
    any-true D.size (λ r. X r && has D k v r) s.row (D.finite s.row s.has.live) (both s.cached (Has-has s.has))

-- a constraint that ends at k, with a cached row that has v in its source column
pub record Demanded (S : Scheme) (D : Database) (X : RowSet) (k : Column) (v : Cell) : Type 0 where
  pub number : ℕ
  pub exists : number < S.constraints
  pub ends : (S.constraint number).target ≡ k
  pub source : Seen D X (S.constraint number).source v

-- the test `demanded` finds such a constraint
pub demanded-Demanded : (S : Scheme) (D : Database) (X : RowSet) (k : Column) (v : Cell) → demanded S D X k v ≡ true → Demanded S D X k v
unfolding demanded
demanded-Demanded S D X k v e =
    record { number = f.0; exists = f.1; ends = same-column _ k a.0; source = seen-Seen D X _ v a.1 }
  where
    f : (i : ℕ) × (i < S.constraints) × (same_column (S.constraint i).target k && seen D X (S.constraint i).source v ≡ true)
    f = any_found S.constraints (λ i. same_column (S.constraint i).target k && seen D X (S.constraint i).source v) e

    a : (same_column (S.constraint f.0).target k ≡ true) × (seen D X (S.constraint f.0).source v ≡ true)
    a = (and-eq-true_iff (same_column (S.constraint f.0).target k) _).0 f.2

-- ... if there is one
pub Demanded-demanded : {S : Scheme} {D : Database} {X : RowSet} {k : Column} {v : Cell} → Demanded S D X k v → demanded S D X k v ≡ true
unfolding demanded
Demanded-demanded {S} {D} {X} {k} {v} d =
    any-true S.constraints (λ i. same_column (S.constraint i).target k && seen D X (S.constraint i).source v) d.number d.exists
    (both (ap (λ (j : Column). same_column j k) d.ends ∙ same-column-self k) (Seen-seen d.source))

-- a yes has one of the three grounds
pub probe-yes : (S : Scheme) (D : Database) (H : Held) (X : RowSet) (k : Column) (v : Cell) →
    (probe S D H X k v ≡ 0 → ⊥) → (H k v ≡ true) ⊎ ((demanded S D X k v ≡ true) ⊎ (uniquely_seen S D X k v ≡ true))
unfolding probe
probe-yes S D H X k v = go (H k v) (demanded S D X k v) (uniquely_seen S D X k v)
  where
    go : (a b c : Bool) → (lowest a b c ≡ 0 → ⊥) → (a ≡ true) ⊎ ((b ≡ true) ⊎ (c ≡ true))
    go true b c n = inl refl
    go false true c n = inr (inl refl)
    go false false true n = inr (inr refl)
    go false false false n = absurd (n refl)

-- "sent" has no ground
pub probe-sent : (S : Scheme) (D : Database) (H : Held) (X : RowSet) (k : Column) (v : Cell) →
    probe S D H X k v ≡ 0 → (H k v ≡ false) × (demanded S D X k v ≡ false) × (uniquely_seen S D X k v ≡ false)
unfolding probe
probe-sent S D H X k v = go (H k v) (demanded S D X k v) (uniquely_seen S D X k v)
  where
    go : (a b c : Bool) → lowest a b c ≡ 0 → (a ≡ false) × (b ≡ false) × (c ≡ false)
    go true b c n = absurd (omega arith)
    go false true c n = absurd (omega arith)
    go false false true n = absurd (omega arith)
    go false false false n = (refl, refl, refl)
