-- A sound state is one that the model's theorem about what lacks speaks of: what is held can be stored and stands in columns of the design, and its rows are a lawful
-- database. So nothing lacks exactly if the slice is enough, whatever the larger database. Assumes nothing.
use Prim.Native.Nat.{ℕ, suc, ◌<◌, ◌^◌}
use native.Mathlib.Omega.{arith}
use mathlib.Core.Path.{◌≡◌, refl, sym, subst}
use mathlib.Core.Logic.{◌↔◌, ⊎_elim}
use mathlib.Core.Bool.{true, ◌&&◌, and-eq-true_iff}
use mathlib.Core.List.{List, [], ◌∷◌}
use borrow.Author.Tests.{leb-true}
use lib.Dec.{leb}
use lib.ListN.{length}
use Rattle.finite.proofs.Bools.{clash, or_cases}
use Rattle.model.specs.Cell.{Cell, Fits, equal}
use Rattle.model.specs.Database.{Database}
use Rattle.model.specs.Holding.{Owned, held_in, one, pairs_hold, ranges_hold, all_ranges}
use Rattle.model.specs.Mirror.{EnoughFor}
use Rattle.model.specs.Missing as Model
use Rattle.model.specs.Ranges.{in_range, range_holds}
use Rattle.model.specs.Runs.{marked}
use Rattle.model.specs.Scheme.{Column, Scheme, same_column, ColumnOf, candidate}
use Rattle.model.proofs.CellLaws.{equal-same}
use Rattle.model.proofs.DatabaseLaws.{same-column}
use Rattle.model.proofs.HoldingLaws.{owned_at, HoldingFits, held-from}
use Rattle.model.proofs.MissingExactly.{missing-exactly}
use Rattle.model.proofs.RangeLaws.{in-says}
use Rattle.model.proofs.RangesFit.{all_fit, some-found}
use Rattle.state.specs.declared.design.Design.{Design}
use Rattle.state.specs.Design.{filling_at}
use Rattle.state.specs.Held.{held_at}
use Rattle.state.specs.Lawful.{lawful_design}
use Rattle.state.specs.Lent.{State, scheme, database, cache, sound}
use Rattle.state.specs.Meaning.{scheme_of, holding_of, values_of}
use Rattle.lawful.proofs.DesignLaws.{design-says}
use Rattle.lawful.proofs.HeldLaws.{holding-fits, values-at, length-values}
use Rattle.lawful.proofs.RowsLaws.{Stored, rows-say}
use Rattle.lawful.proofs.SoundState.{parts, sound-smallest}
use Rattle.slice.specs.Replies.{missing_at}
use Rattle.slice.specs.Fed.{Fed}
use Rattle.slice.proofs.Theorems.{nothing-lacks}

-- what the types of a state's parts say of its numbers
pub record Typed (s : State) : Type 0 where
  pub cells : Stored s.cells
  pub high : (f : ℕ) → (filling_at s.design f).high < 2 ^ 32
  pub issue : (i : ℕ) → i < s.held.count → (held_at s.held i).pair.value.issue < 2 ^ 8

-- a candidate of a lawful design can be stored
candidate-fits : (d : Design) → lawful_design d ≡ true → (f : ℕ) → f < d.fillings → (filling_at d f).high < 2 ^ 32 → (v : Cell) →
    candidate ((scheme_of d).filling f) v ≡ true → v.issue < 2 ^ 8 → Fits v
unfolding candidate scheme_of
candidate-fits d e f l t v c i =
    let q = (and-eq-true_iff (leb (filling_at d f).low v.number) (leb v.number (filling_at d f).high)).0 c in
    let a = leb-true (filling_at d f).low v.number q.0 in
    let b = leb-true v.number (filling_at d f).high q.1 in
    let g = ((design-says d e).filling f l).low in
    record { number = omega arith; issue = i; full = λ z. absurd (omega arith) }

-- what pairs hold is a value of one of them
pairs-fit : (S : Scheme) (os : List Owned) → ((i : ℕ) → i < length os → Fits (owned_at os i).pair.value) → (k : Column) (v : Cell) → pairs_hold S os k v ≡ true → Fits v
unfolding pairs_hold one
pairs-fit S [] h k v e = clash e refl
pairs-fit S (o ∷ os) h k v e =
    ⊎_elim
    (λ x. let q = (and-eq-true_iff (same_column (S.filling o.pair.filling).column k) (equal o.pair.value v)).0 x in
    subst Fits (equal-same o.pair.value v q.1) (h 0 (omega arith)))
    (pairs-fit S os (λ i l. h (suc i) (omega arith)) k v)
    (or_cases (same_column (S.filling o.pair.filling).column k && equal o.pair.value v) (pairs_hold S os k v) e)

module _ (s : State) (e : sound s ≡ true) (t : Typed s) where
  fits : HoldingFits (scheme s) (holding_of s.held)
  fits = holding-fits s.design s.held (parts s e).held

  below : {i : ℕ} → i < length (values_of s.held) → i < s.held.count
  below l = rw (length-values s.held) at l

  pair_fits : (i : ℕ) → i < length (values_of s.held) → Fits (owned_at (values_of s.held) i).pair.value
  unfolding scheme_of
  pair_fits i l =
      candidate-fits s.design (parts s e).design _ (fits.values.filling i l) (t.high _) _ (fits.values.value i l)
      (subst (λ (o : Owned). o.pair.value.issue < 2 ^ 8) (sym (values-at s.held i (below l))) (t.issue i (below l)))

  range-fits : (k : Column) (v : Cell) → ranges_hold (scheme s) (all_ranges (holding_of s.held).ranges) k v ≡ true → Fits v
  unfolding range_holds scheme_of
  range-fits k v x =
      let f = some-found (λ r. range_holds (scheme s) r k v) (all_ranges (holding_of s.held).ranges) (all_fit fits.ranges) x in
      let q = (and-eq-true_iff (same_column ((scheme s).filling f.0.filling).column k) (in_range f.0 v)).0 f.2 in
      let i = in-says f.0 v q.1 in
      record {
        number = omega (arith, i.high, f.1.high, t.high f.0.filling);
        issue = omega (arith, i.issue);
        full = λ z. absurd (omega (arith, i.low, f.1.some));
      }

  -- what is held can be stored, and stands in a column of the design
  pub held-stored : (k : Column) (v : Cell) → held_in (scheme s) (holding_of s.held) k v ≡ true → ColumnOf (scheme s) k × Fits v
  unfolding scheme_of
  held-stored k v x =
      let f = held-from (scheme s) (holding_of s.held) fits k v x in (
        subst (ColumnOf (scheme s)) (same-column _ k f.2) ((design-says s.design (parts s e).design).filling f.0 f.1).column,
        ⊎_elim (pairs-fit (scheme s) (values_of s.held) pair_fits k v) (range-fits k v)
            (or_cases (pairs_hold (scheme s) (values_of s.held) k v) (ranges_hold (scheme s) (all_ranges (holding_of s.held).ranges) k v) x),
      )

  -- THEOREM: nothing lacks exactly if the slice is enough in every lawful database, of any number of rows, from which the fetches were made
  pub missing-exact : (fs : List Model.Fetch) → (missing_at s fs ≡ Model.nothing) ↔ ((at : ℕ → ℕ) (B : Database) → Fed s at B fs → EnoughFor (scheme s) at (database s) B (cache s))
  unfolding missing_at scheme_of
  missing-exact fs =
      let q = missing-exactly (rows-say s.design s.cells s.tables t.cells (parts s e).rows).database (cache s).held (marked (cache s).marks)
      (λ r x. (sound-smallest s e).meets.rows r x) fs held-stored (λ i l. ((design-says s.design (parts s e).design).constraint i l).target) in (
        λ n at B f. nothing-lacks s e at B fs f n,
        λ h. q.1 (λ at B P w a. h at B (record { slice = P; lawful = w; fetched = a })),
      )
