-- `demanding::nearest::turn_firsts` meets its contract. Assumes nothing.
use Rattle.demanding.proofs.DemandingLaws.{turned-scheme-firsts}
use Rattle.catalog.proofs.MakingLaws.{stored_same}
use mathlib.Core.Path.{sym}
use mathlib.Core.Path.{sym}
use native.Mathlib.Omega.{arith}
use Rattle.demanding.proofs.nearest.turn_firsts.Goals as goal

pub demanding_rows-requires : goal.demanding_rows-requires
demanding_rows-requires c = (c.requires.0, (c.requires.1.0, c.requires.1.1.links))

pub slice_bounds-store-end : goal.slice_bounds-store-end
slice_bounds-store-end c = sym (c.demanding_rows.ensures c.requires.1.0 c.requires.1.1).long

pub store-requires : goal.store-requires
store-requires c = (omega (arith, (c.demanding_rows.ensures c.requires.1.0 c.requires.1.1).long), c.requires.1.1.links.long)

pub returns : goal.returns
returns c = λ D x. stored_same _ _ _ _ _ (turned-scheme-firsts D c.args.d _ (c.demanding_rows.ensures D x)) c.store.ensures
