-- `wurzsige::stepping::wurzsige_parts_step` meets its contract: causes 7 and 12, then the step on memory that is ready. Assumes nothing.
use mathlib.Core.Path.{sym, ◌∙◌}
use Rattle.wurzsige.proofs.Memories.{memory-parts, cause-sound}
use Rattle.wurzsige.proofs.StepTaking.{caused-taken, caused-catalogs, own-ready, own-long, own-refused, own-left-long, own-taken}
use Rattle.wurzsige.proofs.stepping.wurzsige_parts_step.Goals as goal

pub returns-then-why-ne0 : goal.returns-then-why-ne0
returns-then-why-ne0 c = record {
  taken = caused-taken _ _ _ _ _ c.memory_cause-why.ensures.0 c.if-why-ne0.true _ _ _ _ _ _ c.tell.ensures c.tell_places.ensures;
  catalogs = caused-catalogs _ _ _ _ _ c.memory_cause-why.ensures.0 c.if-why-ne0.true _;
}

pub first_words-own-requires : goal.first_words-own-requires
first_words-own-requires c = (memory-parts _ (cause-sound _ (sym c.memory_cause-why.ensures.0 ∙ c.if-why-ne0.false))).held

pub wurzsige_parts_step_trusted-word-requires : goal.wurzsige_parts_step_trusted-word-requires
wurzsige_parts_step_trusted-word-requires c = let e = cause-sound _ (sym c.memory_cause-why.ensures.0 ∙ c.if-why-ne0.false) in
    record {
      ready = own-ready _ _ _ _ _ _ c.first_words-own.ensures e _ (c.memory_cause-why.ensures.1 c.if-why-ne0.false);
      held = own-long _ _ _ _ _ _ c.first_words-own.ensures e;
    }

pub returns-then-word-eq-REFUSED : goal.returns-then-word-eq-REFUSED
returns-then-word-eq-REFUSED c = let t = own-refused _ _ _ _ _ _ c.first_words-own.ensures (cause-sound _ (sym c.memory_cause-why.ensures.0 ∙ c.if-why-ne0.false)) _ _ _ _ _ _ _ _ _ _ _ _ _ _ c.wurzsige_parts_step_trusted-word.ensures.taken c.if-word-eq-REFUSED.true _ in record { taken = t.0; catalogs = t.1 }

pub store_words-requires : goal.store_words-requires
store_words-requires c = let e = cause-sound _ (sym c.memory_cause-why.ensures.0 ∙ c.if-why-ne0.false) in
    (own-left-long _ _ _ _ _ _ c.first_words-own.ensures e _ _ _ _ _ _ _ _ _ _ _ _ _ _ c.wurzsige_parts_step_trusted-word.ensures.taken c.if-word-eq-REFUSED.false, (memory-parts _ e).held)

pub returns : goal.returns
returns c = let t = own-taken _ _ _ _ _ _ c.first_words-own.ensures (cause-sound _ (sym c.memory_cause-why.ensures.0 ∙ c.if-why-ne0.false)) _ _ _ _ _ _ _ _ _ _ _ _ _ _ c.wurzsige_parts_step_trusted-word.ensures.taken c.if-word-eq-REFUSED.false _ _
    c.wurzsige_parts_step_trusted-word.ensures.ready _ c.store_words.ensures in record { taken = t.0; catalogs = t.1 }
