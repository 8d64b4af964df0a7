-- `reason::linking::demands_row` meets its contract: each early return is one step along the conjunction that `leads` is. Assumes nothing.
use mathlib.Core.Path.{sym, ap, ◌∙◌}
use borrow.Author.Tests.{not-true, not-false}
use Rattle.state.specs.declared.cell.Cell as State
use Rattle.reason.proofs.LinkLaws.{leads-apart, leads-absent, leads-elsewhere, leads-value}
use Rattle.reason.proofs.linking.demands_row.Goals as goal

pub returns-then-a-b : goal.returns-then-a-b
returns-then-a-b c = leads-apart _ _ _ _ _ c.requires.1 c.requires.2 c.requires.3
    (λ h. c.if-a-b.true (ap (λ (x : State.Cell). x.number) c.cell_at-a.ensures ∙ h ∙ sym (ap (λ (x : State.Cell). x.number) c.cell_at-b.ensures)))

pub returns-then-not-is_live : goal.returns-then-not-is_live
returns-then-not-is_live c = leads-absent _ _ _ _ _ c.requires.1 c.requires.2 c.requires.3 (sym (c.is_live.ensures _) ∙ not-true _ c.if-not-is_live.true-raw)

pub returns-then-rows-s : goal.returns-then-rows-s
returns-then-rows-s c = leads-elsewhere _ _ _ _ _ c.requires.1 c.requires.2 c.requires.3 (sym (c.is_live.ensures _) ∙ not-false _ c.if-not-is_live.false-raw) c.if-rows-s.true

pub returns : goal.returns
returns c = c.has.ensures ∙
    leads-value _ _ _ _ _ c.requires.1 c.requires.2 c.requires.3 (sym (c.is_live.ensures _) ∙ not-false _ c.if-not-is_live.false-raw) _ c.cell_at-a.ensures c.if-rows-s.false
