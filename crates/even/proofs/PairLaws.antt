-- What the tests of two constraints say, test by test. Assumes nothing.
use Prim.Native.Nat.{ℕ, ◌+◌, ◌≤◌, ◌<◌}
use native.Mathlib.Omega.{arith}
use mathlib.Core.Path.{◌≡◌, sym, ap, ap₂, ◌∙◌}
use mathlib.Core.Bool.{Bool, true, not, ◌&&◌}
use mathlib.Core.List.{List}
use borrow.Author.Tests.{lt-ltb, le-ltb}
use lib.Dec.{eqb, ltb}
use lib.ListN.{get_or}
use Rattle.finite.specs.Finite.{first_from}
use Rattle.finite.proofs.First.{first-here, first-skip, first_past}
use Rattle.model.specs.Even.{is_uneven, reaches, square, uneven_from, lowest_uneven}
use Rattle.model.specs.Answers.{even, uneven, or_answer, even_answer}
use Rattle.state.specs.declared.design.Design.{Design}
use Rattle.model.specs.Scheme.{Scheme}
use Rattle.state.specs.declared.design.Constraint.{Constraint}
use Rattle.state.specs.Design.{no_constraint}
use Rattle.state.specs.Meaning.{scheme_of}
use Rattle.even.specs.Reading.{at, Laid}
use Rattle.even.proofs.Turns.{square-at}

module _ (S : Scheme) (n : ℕ) (cs : List Constraint) (l : Laid S n cs) where
  -- what the tests found, of an array of constraints
  pub uneven-read : (i j : ℕ) (m : List (List Bool)) → m ≡ square (reaches S) → (get_or cs j no_constraint).target.table < 8 → (get_or cs i no_constraint).source.table < 8 → (b : Bool) →
      b ≡ eqb (get_or cs i no_constraint).target.table (get_or cs j no_constraint).source.table &&
      (not (eqb (get_or cs i no_constraint).target.place (get_or cs j no_constraint).source.place) &&
      at m (get_or cs j no_constraint).target.table (get_or cs i no_constraint).source.table) → is_uneven S i j ≡ b
  unfolding is_uneven
  uneven-read i j m e p q b r =
      ap₂ (λ x y. eqb x.target.table y.source.table && (not (eqb x.target.place y.source.place) && reaches S y.target.table x.source.table)) (l.at i) (l.at j) ∙
      sym (r ∙ ap (λ (y : Bool). eqb (get_or cs i no_constraint).target.table (get_or cs j no_constraint).source.table &&
      (not (eqb (get_or cs i no_constraint).target.place (get_or cs j no_constraint).source.place) && y))
      (ap (λ (x : List (List Bool)). at x (get_or cs j no_constraint).target.table (get_or cs i no_constraint).source.table) e ∙ square-at (reaches S) _ _ p q))

  pub from_start : (i : ℕ) → uneven_from S i ≡ first_from n (is_uneven S i) 0
  from_start i = ap (λ (k : ℕ). first_from k (is_uneven S i) 0) l.count

-- ---- the lowest pair, row by row: i is the constraint that is looked at, and j the lowest with it

-- constraint k makes the design uneven with some other
abbrev pub passes : Design → ℕ → Bool
passes d k = ltb (uneven_from (scheme_of d) k) d.constraints

module _ (d : Design) (i j : ℕ) (e : j ≡ uneven_from (scheme_of d) i) where
  pub lowest-here : lowest_uneven (scheme_of d) ≡ first_from d.constraints (passes d) i → i < d.constraints → j < d.constraints →
      uneven i j ≡ even_answer (scheme_of d)
  unfolding even_answer scheme_of
  lowest-here h l m =
      let p : passes d i ≡ true = lt-ltb (uneven_from (scheme_of d) i) d.constraints (omega (arith, e)) in
      let q : lowest_uneven (scheme_of d) ≡ i = h ∙ first-here d.constraints (passes d) i l p in
      sym (ap (λ (b : Bool). or_answer b (uneven (lowest_uneven (scheme_of d)) (uneven_from (scheme_of d) (lowest_uneven (scheme_of d)))) even)
      (lt-ltb (lowest_uneven (scheme_of d)) d.constraints (omega (arith, q))) ∙ ap (λ (k : ℕ). uneven k (uneven_from (scheme_of d) k)) q ∙ ap (uneven i) (sym e))

  pub lowest-skip : d.constraints ≤ j → first_from d.constraints (passes d) i ≡ first_from d.constraints (passes d) (i + 1)
  lowest-skip m = first-skip d.constraints (passes d) i (le-ltb (uneven_from (scheme_of d) i) d.constraints (omega (arith, e)))

pub lowest-none : (d : Design) (i : ℕ) → lowest_uneven (scheme_of d) ≡ first_from d.constraints (passes d) i → d.constraints ≤ i → even ≡ even_answer (scheme_of d)
unfolding even_answer scheme_of
lowest-none d i h l =
    let q = first_past d.constraints (passes d) i l in
    sym (ap (λ (b : Bool). or_answer b (uneven (lowest_uneven (scheme_of d)) (uneven_from (scheme_of d) (lowest_uneven (scheme_of d)))) even) (le-ltb (lowest_uneven (scheme_of d)) d.constraints (omega (arith, h, q))))
