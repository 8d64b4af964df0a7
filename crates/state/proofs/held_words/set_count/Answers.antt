use Rattle.state.proofs.HeldStores.{count-stored}
use Rattle.state.proofs.held_words.set_count.Goals as goal

pub returns : goal.returns
returns c = count-stored c.args.held.now c.requires.1 _
