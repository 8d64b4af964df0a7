-- Reading an eight by eight array of bools, and an array of constraints. Assumes nothing.
use Rattle.std.specs.Prelude.{ℕ, ◌≡◌, Bool, true, false, cond, ◌&&◌, ◌||◌, List, [], eqb, ltb, get_or, set}
use Rattle.finite.specs.Finite.{any}
use Rattle.model.specs.Scheme.{Scheme}
use Rattle.state.specs.declared.design.Constraint.{Constraint}
use Rattle.state.specs.Design.{no_constraint}
use Rattle.state.specs.Meaning.{constraint_of}

abbrev pub at : List (List Bool) → ℕ → ℕ → Bool
at m t u = get_or (get_or m t []) u false

abbrev pub through_at : List (List Bool) → ℕ → ℕ → ℕ → Bool
through_at m k t u = at m t u || (at m t k && at m k u)

-- true at t and u, if both are below 8
unfoldable pub with_link : List (List Bool) → ℕ → ℕ → List (List Bool)
with_link m t u = cond (ltb t 8 && ltb u 8) (set m t (set (get_or m t []) u true)) m

-- table t is table u, or one of the first n constraints leads from t to u
unfoldable pub linked_by : Scheme → ℕ → ℕ → ℕ → Bool
linked_by S n t u = eqb t u || any n (λ i. eqb (S.constraint i).source.table t && eqb (S.constraint i).target.table u)

-- the scheme has n constraints, those of the array
pub record Laid (S : Scheme) (n : ℕ) (constraint : List Constraint) : Type 0 where
  pub count : S.constraints ≡ n
  pub at : (i : ℕ) → S.constraint i ≡ constraint_of (get_or constraint i no_constraint)
