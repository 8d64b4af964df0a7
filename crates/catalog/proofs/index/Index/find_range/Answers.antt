-- `catalog::index::Index::find_range` meets its contract: the seats of the highest key and of the one below the lowest. Assumes nothing.
use Prim.Native.Nat.{ℕ, ◌+◌, ◌-◌}
use mathlib.Core.Path.{◌∙◌, ap}
use Rattle.catalog.proofs.Found.{start_by}
use Rattle.catalog.proofs.SpanLaws.{span-long, span_none, span-some}
use Rattle.state.specs.Meaning.{range_of}
use Rattle.catalog.proofs.index.Index.find_range.Goals as goal

pub returns-then-to-gt-CELLS : goal.returns-then-to-gt-CELLS
returns-then-to-gt-CELLS c = λ D d. let s = c in span-long D _ _ _ d _ _ s.requires.0 s.requires.1 (range_of s.args.q) _ (start_by _ _ _ _ (ap (λ (n : ℕ). n + 1) c.number_of-i.ensures) c.start_at-to.ensures) c.if-to-gt-CELLS.true

pub returns-then-e-a : goal.returns-then-e-a
returns-then-e-a c = λ D d.
    let s = c in
    span_none D _ _ _ d _ _ s.requires.0 s.requires.1 (range_of s.args.q) _ (start_by _ _ _ _ (ap (λ (n : ℕ). n + 1) c.number_of-i.ensures) c.start_at-to.ensures) _ (start_by _ _ _ _ c.number_of-i.ensures c.start_at-from.ensures) _ _ _ _ c.key_of.ensures.0 c.seat-a.ensures
    (c.saturating_sub.ensures ∙ ap (λ (n : ℕ). n - 1) c.key_of-2.ensures.0) c.seat-e.ensures c.if-e-a.true

pub returns : goal.returns
returns c = λ D d.
    let s = c in
    span-some D _ _ _ d _ _ s.requires.0 s.requires.1 (range_of s.args.q) _ (start_by _ _ _ _ (ap (λ (n : ℕ). n + 1) c.number_of-i.ensures) c.start_at-to.ensures) _ (start_by _ _ _ _ c.number_of-i.ensures c.start_at-from.ensures) _ _ _ _ c.key_of.ensures.0 c.seat-a.ensures
    (c.saturating_sub.ensures ∙ ap (λ (n : ℕ). n - 1) c.key_of-2.ensures.0) c.seat-e.ensures c.if-e-a.false
