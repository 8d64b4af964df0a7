-- `wurzsige::opening::wurzsige_parts_open` meets its contract: the design is opened, and told of. Assumes nothing.
use Rattle.wurzsige.proofs.OpenTaking.{open-taken}
use Rattle.wurzsige.proofs.opening.wurzsige_parts_open.Goals as goal

pub returns : goal.returns
returns c = open-taken _ _ _ _ _ _ c.open_memory-r.ensures _ _ _ _ _ _ c.tell_reading.ensures
