-- Where all constraints and fillings that end at a table end at one column of it, a value that a cached row has in that column has ground 1 or 2 (02, Req 13). For
-- the cached rows of that table that have such a ground, with all cached rows of other tables, meet every constraint and held value; so they are all of the
-- smallest set. Assumes nothing.
use Prim.Native.Nat.{ℕ, ◌<◌}
use mathlib.Core.Path.{◌≡◌, refl, sym, ap, subst, ◌∙◌}
use mathlib.Core.Logic.{◌⊎◌, inl, inr, ⊎_elim}
use mathlib.Core.Bool.{Bool, true, false, not, ◌&&◌, ◌||◌, and-eq-true_iff}
use borrow.Author.Tests.{eqb-true, eq-eqb}
use lib.Dec.{eqb}
use Rattle.finite.proofs.Bools.{both, clash, dec, or_cases, or_left, or-second}
use Rattle.model.specs.Cell.{Cell}
use Rattle.model.specs.Scheme.{Column, Scheme}
use Rattle.model.specs.Database.{Database, Has}
use Rattle.model.specs.Cache.{RowSet, Held, Complete, Holds, Meets, Smallest}
use Rattle.model.specs.Holding.{Holding, held_in}
use Rattle.model.specs.Probe.{demanded, uniquely_seen, lowest, probe}
use Rattle.model.specs.Seeing.{OneColumn, SeeingEnough}
use Rattle.model.proofs.CellLaws.{equal-same}
use Rattle.model.proofs.DatabaseLaws.{same-column}
use Rattle.model.proofs.ProbeLaws.{Demanded-demanded}
use Rattle.model.proofs.HoldingLaws.{HoldingFits, held-from}

-- the lowest ground is 1 or 2 if one of these applies
low : (a b c : Bool) → a || b ≡ true → (lowest a b c ≡ 1) ⊎ (lowest a b c ≡ 2)
low true b c e = inl refl
low false true c e = inr refl
low false false c e = clash e refl

module _ (S : Scheme) (D : Database) (H : Held) (X : RowSet) (least : Smallest S D H X) (k : Column)
    (ends : (i : ℕ) → i < S.constraints → (S.constraint i).target.table ≡ k.table → (S.constraint i).target ≡ k)
    (held : (j : Column) (v : Cell) → H j v ≡ true → j.table ≡ k.table → j ≡ k) where
  -- ground 1 or 2
  grounded : Cell → Bool
  grounded v = H k v || demanded S D X k v

  -- the cached rows of other tables, and those of k's table whose value in k has such a ground
  with-ground : RowSet
  with-ground r = X r && (not (eqb (D.table r) k.table) || grounded (D.cell r k.place))

  -- a cached row is one of them if its value has a ground where its table is k's
  is_one : (r : ℕ) → X r ≡ true → (D.table r ≡ k.table → grounded (D.cell r k.place) ≡ true) → with-ground r ≡ true
  unfolding with-ground
  is_one r x f =
      both x (⊎_elim (λ (e : eqb (D.table r) k.table ≡ true). or-second (not (eqb (D.table r) k.table)) _ (f (eqb-true _ _ e)))
      (λ (e : eqb (D.table r) k.table ≡ false). sym (or_left (not (eqb (D.table r) k.table)) _ (ap not e)))
      (dec (eqb (D.table r) k.table)))

  cached : (r : ℕ) → with-ground r ≡ true → X r ≡ true
  unfolding with-ground
  cached r e = ((and-eq-true_iff (X r) _).0 e).0

  -- a row that has v in a column of k's table which is k has v in k
  in-column : {j : Column} {v : Cell} {r : ℕ} → Has D j v r → (j ≡ k) → D.cell r k.place ≡ v
  in-column {j} {v} {r} a e = ap (λ (i : Column). D.cell r i.place) (sym e) ∙ equal-same _ v a.value

  meets : Meets S D H with-ground
  unfolding Holds Complete grounded
  meets =
      record {
        rows = λ r e. least.meets.rows r (cached r e);
        constraints = λ i l s v e a r b.
            is_one r (least.meets.constraints i l s v (cached s e) a r b) (λ t.
            let q = ends i l (sym b.table ∙ t) in
            subst (λ (w : Cell). H k w || demanded S D X k w ≡ true) (sym (in-column b q))
            (or-second (H k v) _ (Demanded-demanded (record { number = i; exists = l; ends = q; source = record { row = s; cached = cached s e; has = a } }))));
        values = λ j v h r b.
            is_one r (least.meets.values j v h r b) (λ t.
            let q = held j v h (sym b.table ∙ t) in
            subst (λ (w : Cell). H k w || demanded S D X k w ≡ true) (sym (in-column b q))
            (sym (or_left (H k v) _ (subst (λ (i : Column). H i v ≡ true) q h))));
      }

  enough : SeeingEnough S D H X k
  unfolding with-ground grounded probe
  enough r v x a =
      let e = ((and-eq-true_iff (X r) _).0 (least.least with-ground meets r x)).1 in
      let g = ⊎_elim (λ (n : not (eqb (D.table r) k.table) ≡ true). clash n (ap not (eq-eqb _ _ a.table)))
      (λ (t : grounded (D.cell r k.place) ≡ true). t) (or_cases (not (eqb (D.table r) k.table)) _ e) in
      low (H k v) (demanded S D X k v) (uniquely_seen S D X k v) (subst (λ (w : Cell). H k w || demanded S D X k w ≡ true) (equal-same _ v a.value) g)

-- THEOREM: with what a desk can hold, seeing a value in such a column is enough
pub seeing-enough : (S : Scheme) (D : Database) (h : Holding) → HoldingFits S h → (X : RowSet) → Smallest S D (held_in S h) X → (k : Column) → OneColumn S k →
    SeeingEnough S D (held_in S h) X k
seeing-enough S D h fits X least k one =
    enough S D (held_in S h) X least k one.constraints (λ j v e t.
    let f = held-from S h fits j v e in
    let q = same-column _ j f.2 in
    sym q ∙ one.fillings f.0 f.1 (ap (λ (i : Column). i.table) q ∙ t))
