-- `wurzsige::feeding::tell_next` meets its contract, answer by answer. Assumes nothing.
use mathlib.Core.Path.{refl}
use Rattle.wurzsige.proofs.FeedingLaws.{told-as, fetch-words}
use Rattle.wurzsige.proofs.feeding.tell_next.Goals as goal

pub returns-in-Nothing : goal.returns-in-Nothing
returns-in-Nothing c = told-as _ _ c.in-Nothing.is _ _ _ (record { number = refl; fetch = refl })

pub returns-in-Lacks : goal.returns-in-Lacks
returns-in-Lacks c = told-as _ _ c.in-Lacks.is _ _ _ (record { number = refl; fetch = fetch-words _ _ c.kind_of.ensures })

pub returns-in-Refused : goal.returns-in-Refused
returns-in-Refused c = told-as _ _ c.in-Refused.is _ _ _ (record { number = refl; fetch = refl })
