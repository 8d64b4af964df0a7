-- `writing::lengths::design_length` meets its contract. Assumes nothing.
use Prim.Native.Nat.{ℕ, ◌+◌}
use native.Mathlib.Omega.{arith}
use mathlib.Core.List.{[]}
use mathlib.Core.Path.{sym, ap, ◌∙◌}
use Rattle.state.specs.Cells.{cells_in}
use Rattle.format.proofs.Lengths.{length-design, issued-most, place-most, place_end}
use Rattle.writing.proofs.lengths.design_length.Goals as goal

pub place_after-requires : goal.place_after-requires
place_after-requires c = (c.requires.0, issued-most _ _ _ (c.live_rows.ensures (cells_in [] [])), issued-most _ _ _ (c.live_issued_rows.ensures []))

pub overflow_add-result : goal.overflow_add-result
overflow_add-result c = let h = c.requires.0 in
    omega (arith, c.place_after.ensures, place-most c.args.d _ _ h.tables h.constraints h.fillings (issued-most _ _ _ (c.live_rows.ensures (cells_in [] []))) (issued-most _ _ _ (c.live_issued_rows.ensures [])))

pub returns : goal.returns
returns c = λ numbers. ap (λ (n : ℕ). n + 1) (c.place_after.ensures ∙ place_end _ _ _ _ _ (c.live_rows.ensures _) (c.live_issued_rows.ensures numbers)) ∙
    sym (length-design _ _ _)
