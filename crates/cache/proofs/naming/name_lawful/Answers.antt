use mathlib.Core.Path.{sym, subst}
use Rattle.model.specs.Runs.{name}
use Rattle.model.specs.Answers.{named}
use Rattle.state.specs.declared.held.Held.{Held}
use Rattle.state.specs.HeldWords.{words_held}
use Rattle.state.specs.Lent.{lent, Answered}
use Rattle.state.proofs.HeldWords.{words-sized, holds-whole}
use Rattle.cache.proofs.NameSteps.{name-5, name-desk}
use Rattle.cache.proofs.naming.name_lawful.Goals as goal

pub returns-then-desk-ge-DESKS : goal.returns-then-desk-ge-DESKS
returns-then-desk-ge-DESKS c = let s = c in (λ d cells tables marks e. name-5 (lent d cells tables marks (words_held s.args.held.now)) e (words-sized s.args.held.now) _ c.if-desk-ge-DESKS.true, s.requires)

pub returns : goal.returns
returns c = let s = c in let h = words_held s.args.held.now in (λ d cells tables marks e. subst (λ (g : Held). Answered (lent d cells tables marks h) (name s.args.desk) (named s.args.desk) (lent d cells tables marks g)) (sym c.set_desk.ensures.means) (name-desk (lent d cells tables marks h) e (words-sized s.args.held.now) _ c.if-desk-ge-DESKS.false), holds-whole _ _ c.set_desk.ensures)
