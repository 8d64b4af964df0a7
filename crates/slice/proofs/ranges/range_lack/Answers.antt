-- `slice::ranges::range_lack` meets its contract. Assumes nothing.
use mathlib.Core.Path.{refl, sym, ap, ◌∙◌}
use Rattle.state.specs.declared.design.Filling.{Filling}
use Rattle.model.specs.Missing as Model
use Rattle.slice.specs.Fetches.{as_lack, fetches_in}
use Rattle.state.specs.declared.held.Range.{Range}
use Rattle.state.specs.Meaning.{column_of, range_of, scheme_of}
use Rattle.slice.proofs.LackLaws.{range_none, range-gap, range-says, open-unspanned, first-open}
use native.Mathlib.Omega.{arith}
use Rattle.slice.proofs.ranges.range_lack.Goals as goal

pub first_open-requires : goal.first_open-requires
first_open-requires c = let s = c in (omega (arith, ap (λ (f : Filling). f.column.table) c.filling_at.ensures, s.requires.0.column-table c.range_at-q.result.filling), omega (arith, ap (λ (f : Filling). f.column.place) c.filling_at.ensures, s.requires.0.column c.range_at-q.result.filling), s.requires.3)

pub returns-in_err-x : goal.returns-in_err-x
unfolding scheme_of
returns-in_err-x c = λ D i. ap as_lack c.from_residual.ensures ∙ range-says _ D _ _ _ _ (ap (λ (f : Filling). column_of f.column) (sym c.filling_at.ensures)) refl (range_none _ _ _ _ (c.in_err-x.ensures D i))
    ∙ ap (λ (q : Range). Model.range_lack (scheme_of c.args.d) D (fetches_in c.args.words.now c.args.n) (range_of q)) c.range_at-q.ensures

pub returns : goal.returns
unfolding scheme_of
returns c = λ D i. let f = c.in_ok-x.ensures D i in
    range-says _ D _ _ _ _ (ap (λ (f : Filling). column_of f.column) (sym c.filling_at.ensures)) f.1 (range-gap _ _ _ _ _ _ f.0 c.span_fetch.ensures (c.gap_end.ensures f.0 (open-unspanned _ D _ _ _ (first-open _ D _ _ _ _ _ f.1 f.0))))
    ∙ ap (λ (q : Range). Model.range_lack (scheme_of c.args.d) D (fetches_in c.args.words.now c.args.n) (range_of q)) c.range_at-q.ensures
