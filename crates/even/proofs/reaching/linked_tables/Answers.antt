-- `even::reaching::linked_tables` meets its contract. Assumes nothing.
use Rattle.even.proofs.LinkLaws.{laid, links-none, links-more, links_end}
use Rattle.state.specs.Meaning.{scheme_of}
use mathlib.Core.Path.{sym, ◌∙◌}
use mathlib.Core.Path.{sym, ◌∙◌}
use native.Mathlib.Omega.{arith}
use Rattle.even.proofs.reaching.linked_tables.Goals as goal

pub loop-i-init : goal.loop-i-init
loop-i-init c = (omega arith, λ S l. c.alone-m.ensures ∙ links-none S)

pub loop-i-preserved : goal.loop-i-preserved
loop-i-preserved c = (omega arith, λ S l. links-more S _ _ l _ _ _ (c.loop-i.invariant.1 S l) c.with_link-next.ensures)

pub returns : goal.returns
returns c = let d = c.args.d in
    links_end (scheme_of d) _ _ _ (sym (laid d).count) c.loop-i.invariant.0 c.loop-i-test.false (c.loop-i.invariant.1 (scheme_of d) (laid d))
