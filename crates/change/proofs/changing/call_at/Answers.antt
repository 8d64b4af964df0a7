use Rattle.std.proofs.Common.{rules}
use mathlib.Core.Path.{◌≡◌}
use Rattle.std.proofs.lemmas.Iterator.{first_from_Range, serves_from_Range}
use mathlib.Core.Bool.{true, false}
use lib.ListN.{take}
use Rattle.model.specs.Runs.{marked}
use Rattle.state.specs.HeldWords.{words_held}
use Rattle.state.specs.Meaning.{holding_of, scheme_of}
use Rattle.change.specs.Replacing.{called_at}
use Rattle.change.proofs.Ranges.{found-below}
use Rattle.change.proofs.changing.call_at.Goals as goal

pub find-requires-clause-callable : goal.find-requires-clause-callable
find-requires-clause-callable c = serves_from_Range (λ x q k. search rules) (λ x low high. search rules)

pub returns : goal.returns
returns c D h =
    let p = called_at (scheme_of c.args.design) D (holding_of (words_held c.args.held.now)) (marked (take 512 c.args.marks.now)) c.args.x in
    found-below 8 _ _ _ (first_from_Range _ _ _ c.find.result (λ i. p i ≡ true) (λ i. p i ≡ false) c.find.ensures.ran (λ x q k. search rules) (λ x q k. search rules))
