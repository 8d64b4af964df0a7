-- `slice::whole::missing_catalogued` meets its contract. Assumes nothing.
use mathlib.Core.Path.{sym, ◌∙◌}
use Rattle.slice.proofs.ReplyLaws.{reply-short, reply-unfit, reply-says}
use native.Mathlib.Omega.{arith}
use Rattle.slice.proofs.whole.missing_catalogued.Goals as goal

pub returns-then-words-n : goal.returns-then-words-n
returns-then-words-n c = reply-short _ _ _ c.if-words-n.true

pub returns-then-not-fetches_fit : goal.returns-then-not-fetches_fit
returns-then-not-fetches_fit c = reply-unfit _ _ _ c.if-words-n.false (sym c.fetches_fit.ensures ∙ c.if-not-fetches_fit.true)

pub missing_lawful-requires : goal.missing_lawful-requires
missing_lawful-requires c = let s = c in (s.requires.0, s.requires.1, omega (arith, c.if-words-n.false), sym c.fetches_fit.ensures ∙ c.if-not-fetches_fit.false)

pub returns-in-Some : goal.returns-in-Some
returns-in-Some c = reply-says _ _ _ c.if-words-n.false (sym c.fetches_fit.ensures ∙ c.if-not-fetches_fit.false) c.in-Some.ensures

pub returns-in-None : goal.returns-in-None
returns-in-None c = reply-says _ _ _ c.if-words-n.false (sym c.fetches_fit.ensures ∙ c.if-not-fetches_fit.false) c.in-None.ensures
