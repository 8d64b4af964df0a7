-- Which tables reach which along constraints, and when a design is uneven (02, Req 01). Assumes nothing.
use Rattle.std.specs.Prelude.{ℕ, zero, suc, ◌≤◌, ◌<◌, ◌≡◌, ◌≢◌, Bool, not, ◌&&◌, ◌||◌, List, eqb, ltb}
use Rattle.finite.specs.Finite.{any, first, tab}
use Rattle.model.specs.Scheme.{Scheme}

-- table u can be reached from table t along constraints, "in no or more steps"
pub data Reaches (S : Scheme) (u : ℕ) : ℕ → Type 0 where
  here : {t : ℕ} → t ≡ u → Reaches S u t
  along : {t : ℕ} (i : ℕ) → i < S.constraints → t ≡ (S.constraint i).source.table → Reaches S u (S.constraint i).target.table → Reaches S u t

-- "constraints i and j exist where i ends and j starts at one table", and "j's target table reaches i's source table"
pub record Cyclic (S : Scheme) (i j : ℕ) : Type 0 where
  pub first : i < S.constraints
  pub second : j < S.constraints
  pub meet : (S.constraint i).target.table ≡ (S.constraint j).source.table
  pub back : Reaches S (S.constraint i).source.table (S.constraint j).target.table

-- "but at different columns": these make the design uneven
pub record Uneven (S : Scheme) (i j : ℕ) : Type 0 where
  pub cyclic : Cyclic S i j
  pub apart : (S.constraint i).target.place ≢ (S.constraint j).source.place

-- none do
unfoldable pub Even : Scheme → Type 0
Even S = (i j : ℕ) → Cyclic S i j → (S.constraint i).target.place ≡ (S.constraint j).source.place

-- "the lowest i and then the lowest j"
pub record LowestUneven (S : Scheme) (i j : ℕ) : Type 0 where
  pub uneven : Uneven S i j
  pub first : (k l : ℕ) → Uneven S k l → i ≤ k
  pub second : (l : ℕ) → Uneven S i l → j ≤ l

-- ---- the same as tests

-- table t is table u, or a constraint leads from t to u
unfoldable pub linked : Scheme → ℕ → ℕ → Bool
linked S t u = eqb t u || any S.constraints (λ i. eqb (S.constraint i).source.table t && eqb (S.constraint i).target.table u)

-- u is reached from t through tables below k alone
unfoldable pub reached_by : Scheme → ℕ → ℕ → ℕ → Bool
reached_by S zero t u = linked S t u
reached_by S (suc k) t u = reached_by S k t u || (reached_by S k t k && reached_by S k k u)

-- through any of the eight tables that there can be
unfoldable pub reaches : Scheme → ℕ → ℕ → Bool
reaches S t u = reached_by S 8 t u

abbrev pub square : (ℕ → ℕ → Bool) → List (List Bool)
square f = tab 8 (λ t. tab 8 (f t))

-- constraints i and j make the design uneven
unfoldable pub is_uneven : Scheme → ℕ → ℕ → Bool
is_uneven S i j =
    eqb (S.constraint i).target.table (S.constraint j).source.table &&
    (not (eqb (S.constraint i).target.place (S.constraint j).source.place) &&
    reaches S (S.constraint j).target.table (S.constraint i).source.table)

-- the lowest j with which i does; the number of constraints if there is none
abbrev pub uneven_from : Scheme → ℕ → ℕ
uneven_from S i = first S.constraints (is_uneven S i)

-- "the lowest i", which does with some j; the number of constraints if there is none
abbrev pub lowest_uneven : Scheme → ℕ
lowest_uneven S = first S.constraints (λ i. ltb (uneven_from S i) S.constraints)
