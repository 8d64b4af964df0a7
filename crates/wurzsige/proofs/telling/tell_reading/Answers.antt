-- `wurzsige::telling::tell_reading` meets its contract: of an accepted design, and of a refused one. Assumes nothing.
use Rattle.wurzsige.proofs.OpenTelling.{accepted-told, refused-told}
use Rattle.wurzsige.proofs.telling.tell_reading.Goals as goal

pub returns-in-Accepted : goal.returns-in-Accepted
returns-in-Accepted c = accepted-told _ _ _ _ _ _ _ _ _ _ c.in-Accepted.is c.tell_counts.ensures c.tell_places.ensures

pub returns-in-Refused : goal.returns-in-Refused
returns-in-Refused c = refused-told _ _ _ _ _ _ _ _ _ _ _ c.in-Refused.is c.tell.ensures c.tell_places-in-Refused.ensures
