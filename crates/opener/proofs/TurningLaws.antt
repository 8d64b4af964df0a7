-- A design with its constraints turned round means the scheme with its constraints turned round. Assumes nothing.
use Prim.Native.Nat.{ℕ, ◌<◌}
use native.Mathlib.Decide.{dec_lt}
use native.Mathlib.Omega.{arith}
use mathlib.Core.Path.{◌≡◌, sym, ap, fun_ext, subst, ◌∙◌}
use mathlib.Core.List.{List}
use lib.ListN.{length, get_or-eq_default}
use Rattle.finite.specs.Finite.{tab}
use Rattle.finite.proofs.Tables.{tab-at, tab-past}
use Rattle.model.specs.Scheme as Model
use Rattle.model.specs.Turned.{turned}
use Rattle.state.specs.declared.design.Constraint.{Constraint}
use Rattle.state.specs.declared.design.Design.{Design}
use Rattle.state.specs.Design.{no_constraint, constraint_at, InRange}
use Rattle.state.specs.Meaning.{constraint_of, scheme_of}
use Rattle.opener.specs.Turning.{turned_constraint, turned_design}

-- the design made of turned constraints
pub turned-made : (d : Design) (cs : List Constraint) → cs ≡ tab 16 (λ i. turned_constraint (constraint_at d i)) →
    ◌≡◌ {A = Design} (record { tables = d.tables; table = d.table; constraints = d.constraints; constraint = cs; fillings = d.fillings; filling = d.filling }) (turned_design d)
unfolding turned_design
turned-made d cs e =
    ap (λ (xs : List Constraint). record { tables = d.tables; table = d.table; constraints = d.constraints; constraint = xs; fillings = d.fillings; filling = d.filling }) e

module _ (d : Design) (l : length d.constraint ≡ 16) where
  -- constraint i, turned round
  turned-at : (i : ℕ) → constraint_at (turned_design d) i ≡ turned_constraint (constraint_at d i)
  unfolding turned_design
  turned-at i = go (dec_lt i 16)
    where
      go : Dec (i < 16) → constraint_at (turned_design d) i ≡ turned_constraint (constraint_at d i)
      go (yes h) = tab-at no_constraint 16 (λ j. turned_constraint (constraint_at d j)) i h
      go (no h) =
          tab-past no_constraint 16 (λ j. turned_constraint (constraint_at d j)) i (omega arith) ∙
          sym (ap turned_constraint (get_or-eq_default d.constraint no_constraint (omega (arith, l))))

  pub turned-scheme : scheme_of (turned_design d) ≡ turned (scheme_of d)
  unfolding scheme_of turned turned_design
  turned-scheme =
      ap (λ (f : ℕ → Model.Constraint). record {
        tables = d.tables;
        columns = (scheme_of d).columns;
        unique = (scheme_of d).unique;
        constraints = d.constraints;
        constraint = f;
        fillings = d.fillings;
        filling = (scheme_of d).filling;
      }) (fun_ext (λ i. ap constraint_of (turned-at i)))

  pub turned-range : InRange d → InRange (turned_design d)
  unfolding turned_design
  turned-range r =
      record {
        tables = r.tables;
        constraints = r.constraints;
        fillings = r.fillings;
        source = λ i. subst (λ (j : Constraint). j.source.place < 8) (sym (turned-at i)) (r.target i);
        target = λ i. subst (λ (j : Constraint). j.target.place < 8) (sym (turned-at i)) (r.source i);
        column = r.column;
        source-table = λ i. subst (λ (j : Constraint). j.source.table < 8) (sym (turned-at i)) (r.target-table i);
        target-table = λ i. subst (λ (j : Constraint). j.target.table < 8) (sym (turned-at i)) (r.source-table i);
        column-table = r.column-table;
      }
