-- `even::pairs::uneven_from` meets its contract. Assumes nothing.
use Prim.Native.Nat.{◌-◌}
use mathlib.Core.Path.{refl, sym, ◌∙◌}
use Rattle.std.proofs.Common.{rules}
use Rattle.std.proofs.lemmas.Iterator.{YieldsList-from_range}
use borrow.Author.Tests.{tests}
use Rattle.finite.proofs.Ranges.{first_in-range}
use Rattle.model.specs.Even.{is_uneven}
use Rattle.state.specs.Meaning.{scheme_of}
use Rattle.even.proofs.PairLaws.{uneven-read, from_start}
use Rattle.even.proofs.LinkLaws.{laid}
use Rattle.even.proofs.pairs.uneven_from.Goals as goal

pub returns : goal.returns
returns c = let s = c in
    let d = s.args.d in
    let n = d.constraints in
    c.unwrap_or.ensures ∙ first_in-range n (is_uneven (scheme_of d) s.args.i) 0 _ _ c.find.result c.find.ensures.ran (YieldsList-from_range 0 n (n - 0) (cc) refl)
    (λ j b q k. search (rules, tests, uneven-read _ _ _ (laid d) s.args.i j _ s.requires.2 (s.requires.0.target-table j) (s.requires.0.source-table s.args.i) _ refl))
    ∙ sym (from_start _ _ _ (laid d) _)
