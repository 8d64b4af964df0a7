-- `words::to_words::put_fillings` meets its contract: the places passed are stored. Assumes nothing.
use native.Mathlib.Omega.{arith}
use mathlib.Core.Path.{refl}
use Rattle.state.proofs.WordPlaces.{storing-start, storing-more, storing-end}
use Rattle.words.proofs.to_words.put_fillings.Goals as goal

pub loop-i-init : goal.loop-i-init
loop-i-init c = storing-start

pub loop-i-preserved : goal.loop-i-preserved
loop-i-preserved c = storing-more c.loop-i.invariant (omega arith) (λ x. refl) c.put_filling.ensures

pub returns : goal.returns
returns c = storing-end c.loop-i.invariant c.loop-i-test.false
