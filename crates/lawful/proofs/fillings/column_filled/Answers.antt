use native.Mathlib.Omega.{arith}
use Rattle.std.proofs.Common.{rules}
use borrow.Author.Tests.{tests}
use mathlib.Core.Path.{refl, ◌∙◌}
use lib.ListN.{take}
use Rattle.std.proofs.lemmas.Iterator.{YieldsList-from_slice}
use Rattle.std.proofs.lemmas.Iterator.Search.{any_from_yields_List}
use Rattle.model.specs.Scheme.{same_column}
use Rattle.state.specs.Design.{no_filling}
use Rattle.state.specs.Meaning.{column_of}
use Rattle.state.proofs.Arrays.{sized}
use Rattle.lawful.proofs.Fronts.{any-front}
use Rattle.lawful.proofs.fillings.column_filled.Goals as goal

pub returns : goal.returns
unfolding same_column
returns c = let d = c.args.d in
    any_from_yields_List (λ f. same_column (column_of f.column) (column_of c.args.k)) _ _ _ c.any.ensures.ran
    (YieldsList-from_slice (take c.args.n d.filling) (cc)) (λ x b q k. search (rules, tests)) ∙
    any-front no_filling _ _ (λ f. refl) c.args.n d.filling (omega (arith, (sized d _ c.well_formed.0).filling))
