-- Round 0 of a load of given rows from nothing. Assumes nothing.
use Prim.Native.Nat.{ℕ, ◌<◌}
use mathlib.Core.Path.{◌≡◌, refl, sym, subst}
use mathlib.Core.Bool.{Bool, true, false, ◌&&◌, and-eq-true_iff}
use mathlib.Core.List.{List}
use borrow.Author.Tests.{eq-eqb, eqb-true}
use lib.Dec.{eqb}
use lib.ListN.{get_or, replicate}
use Rattle.finite.specs.Finite.{any}
use Rattle.finite.proofs.Bools.{bool-ext, both}
use Rattle.finite.proofs.Search.{any_found, any-true}
use Rattle.finite.proofs.Tables.{replicate-tab}
use Rattle.model.specs.Database.{Database}
use Rattle.model.specs.Rounds.{start}
use Rattle.load.specs.Raised.{raised}
use Rattle.load.proofs.StartLaws.{start-raised}

-- row r is wanted by place j of the seed
abbrev pub seeds : List Bool → ℕ → ℕ → Bool
seeds seed j r = get_or seed j false && eqb r j

-- which it is by its own place alone
seeds-any : (seed : List Bool) (r : ℕ) → r < 512 → any 512 (λ j. seeds seed j r) ≡ get_or seed r false
seeds-any seed r l = bool-ext _ _
    (λ e. let f = any_found 512 (λ j. seeds seed j r) e in
    let q = (and-eq-true_iff (get_or seed f.0 false) (eqb r f.0)).0 f.2 in
    subst (λ (x : ℕ). get_or seed x false ≡ true) (sym (eqb-true r f.0 q.1)) q.0)
    (λ t. any-true 512 (λ j. seeds seed j r) r l (both t (eq-eqb r r refl)))

pub start-seeds : (D : Database) → D.size ≡ 512 → (seed : List Bool) (L : List ℕ) → L ≡ raised (replicate 512 0) 2 (λ r. any 512 (λ j. seeds seed j r)) →
    L ≡ start D (λ _. false) (λ r. get_or seed r false)
start-seeds D z seed L e =
    start-raised (λ _. false) (replicate 512 0) (replicate-tab 512 0) D z (λ r. any 512 (λ j. seeds seed j r)) (λ r. get_or seed r false) L e (seeds-any seed)
