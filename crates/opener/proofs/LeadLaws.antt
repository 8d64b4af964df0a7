-- The load of the design with its constraints turned round is the load of the scheme with them turned round. Assumes nothing.
use Prim.Native.Nat.{ℕ}
use native.Mathlib.Omega.{arith}
use mathlib.Core.Path.{◌≡◌, refl, sym, ap, subst, ◌∙◌}
use mathlib.Core.Bool.{Bool, false}
use mathlib.Core.List.{List}
use lib.ListN.{length, get_or}
use Rattle.finite.specs.Finite.{tab}
use Rattle.finite.proofs.Tables.{tab-at}
use Rattle.model.specs.Cell.{Cell}
use Rattle.model.specs.Scheme.{Column, Scheme}
use Rattle.model.specs.Database.{Database}
use Rattle.model.specs.Rounds.{load}
use Rattle.model.specs.Turned.{turned, gives}
use Rattle.model.proofs.RoundsLaws.{load_same}
use Rattle.state.specs.declared.design.Design.{Design}
use Rattle.state.specs.Design.{InRange}
use Rattle.state.specs.Meaning.{scheme_of}
use Rattle.catalog.specs.Catalog.{Demands}
use Rattle.opener.specs.Turning.{turned_design}
use Rattle.opener.proofs.TurningLaws.{turned-scheme, turned-range}

module _ (d t : Design) (e : t ≡ turned_design d) where
  module _ (l : length d.constraint ≡ 16) where
    pub lead-range : InRange d → InRange t
    lead-range r = subst InRange (sym e) (turned-range d l r)

    -- what is demanded of the turned scheme's rows is demanded of the turned design's
    pub lead-demands : (D : Database) (catalog : List ℕ) → Demands (turned (scheme_of d)) D catalog → Demands (scheme_of t) D catalog
    lead-demands D catalog x = subst (λ (S : Scheme). Demands S D catalog) (sym (ap scheme_of e ∙ turned-scheme d l)) x

    pub lead-load : (D : Database) → D.size ≡ 512 → (k : Column) (v : Cell) (seed : List Bool) (L : List ℕ) → seed ≡ tab 512 (gives (scheme_of d) D k v) →
        L ≡ load (scheme_of t) D (λ _. false) (λ r. get_or seed r false) → L ≡ load (turned (scheme_of d)) D (λ _. false) (gives (scheme_of d) D k v)
    lead-load D z k v seed L s h =
        h ∙ ap (λ (S : Scheme). load S D (λ _. false) (λ r. get_or seed r false)) (ap scheme_of e ∙ turned-scheme d l) ∙
        load_same (turned (scheme_of d)) D (λ _. false) (λ _. false) (λ r. get_or seed r false) (gives (scheme_of d) D k v)
        (λ r m. refl) (λ r m. ap (λ (xs : List Bool). get_or xs r false) s ∙ tab-at false 512 (gives (scheme_of d) D k v) r (omega (arith, z)))
