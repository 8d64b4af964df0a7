-- Whether lent marks are those of the rows that a reload reaches. Assumes nothing.
use Prim.Native.Nat.{ℕ}
use mathlib.Core.Path.{◌≡◌, ap}
use mathlib.Core.Bool.{cond}
use mathlib.Core.List.{List}
use lib.Dec.{eqb}
use lib.ListN.{get_or}
use Rattle.finite.specs.Finite.{all}
use Rattle.finite.proofs.Search.{all_same}
use Rattle.model.specs.Rounds.{reached}
use Rattle.model.specs.Runs.{reload_levels}
use Rattle.state.specs.Cells.{Cells}
use Rattle.state.specs.declared.design.Design.{Design}
use Rattle.state.specs.declared.held.Held.{Held}
use Rattle.state.specs.Meaning.{scheme_of, database_of, holding_of}
use Rattle.state.specs.Lawful.{lawful_marks}
use Rattle.load.specs.Ended.{Reaches}

-- whether marks are those of the rows that are reached
pub agree-is : (d : Design) (cells : Cells) (tables : List ℕ) (h : Held) (K : List ℕ) (rows : ℕ) → Reaches K (reload_levels (scheme_of d) (database_of cells tables) (holding_of h)) rows →
    (m : List ℕ) → all 512 (λ r. eqb (get_or m r 0) (cond (reached K r) 1 0)) ≡ lawful_marks d cells tables h m
unfolding lawful_marks
agree-is d cells tables h K rows u m = all_same 512 _ _ (λ r l. ap (λ (J : List ℕ). eqb (get_or m r 0) (cond (reached J r) 1 0)) u.levels)
