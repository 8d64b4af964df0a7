-- `slice::held::pair_lack` meets its contract. Assumes nothing.
use mathlib.Core.Path.{ap, ◌∙◌}
use Rattle.model.specs.Missing as Model
use Rattle.state.specs.declared.design.Filling.{Filling}
use Rattle.state.specs.declared.held.OwnedValue.{OwnedValue}
use Rattle.state.specs.Meaning.{cell_of, column_of, owned_of, scheme_of}
use Rattle.slice.specs.Fetches.{fetches_in}
use native.Mathlib.Omega.{arith}
use Rattle.slice.proofs.held.pair_lack.Goals as goal

pub lack_of-requires : goal.lack_of-requires
lack_of-requires c = let s = c in (omega (arith, ap (λ (f : Filling). f.column.table) c.filling_at-f.ensures, s.requires.0.column-table c.value_at-o.result.pair.filling), omega (arith, ap (λ (f : Filling). f.column.place) c.filling_at-f.ensures, s.requires.0.column c.value_at-o.result.pair.filling), s.requires.2)

pub returns : goal.returns
unfolding Model.pair_lack scheme_of
returns c = λ D x. let s = c in c.lack_of.ensures D x ∙ ap (λ (f : Filling). Model.lack_of (scheme_of s.args.d) D (fetches_in s.args.words.now s.args.n) (column_of f.column) (cell_of c.value_at-o.result.pair.value)) c.filling_at-f.ensures
    ∙ ap (λ (o : OwnedValue). Model.pair_lack (scheme_of s.args.d) D (fetches_in s.args.words.now s.args.n) (owned_of o)) c.value_at-o.ensures
