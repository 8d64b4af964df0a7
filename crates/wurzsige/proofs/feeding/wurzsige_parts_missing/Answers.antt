-- `wurzsige::feeding::wurzsige_parts_missing` meets its contract: causes 7 and 12, then what is told of memory that is ready. Assumes nothing.
use mathlib.Core.Path.{sym, ◌∙◌}
use Rattle.wurzsige.proofs.Memories.{memory-parts, cause-sound}
use Rattle.wurzsige.proofs.StepTaking.{own-ready, own-long}
use Rattle.wurzsige.proofs.FeedingLaws.{missing-caused, missing-own}
use Rattle.wurzsige.proofs.feeding.wurzsige_parts_missing.Goals as goal

pub returns-then-why-ne0 : goal.returns-then-why-ne0
returns-then-why-ne0 c = missing-caused _ _ _ _ c.memory_cause-why.ensures.0 c.if-why-ne0.true _

pub first_words-own-requires : goal.first_words-own-requires
first_words-own-requires c = (memory-parts _ (cause-sound _ (sym c.memory_cause-why.ensures.0 ∙ c.if-why-ne0.false))).held

pub wurzsige_parts_missing_trusted-requires : goal.wurzsige_parts_missing_trusted-requires
wurzsige_parts_missing_trusted-requires c = let e = cause-sound _ (sym c.memory_cause-why.ensures.0 ∙ c.if-why-ne0.false) in record { ready = own-ready _ _ _ _ _ _ c.first_words-own.ensures e _ (c.memory_cause-why.ensures.1 c.if-why-ne0.false); held_len = own-long _ _ _ _ _ _ c.first_words-own.ensures e }

pub returns : goal.returns
returns c = missing-own _ _ _ _ _ _ c.first_words-own.ensures (cause-sound _ (sym c.memory_cause-why.ensures.0 ∙ c.if-why-ne0.false)) _ _ _ _ _ c.wurzsige_parts_missing_trusted.ensures
