-- A desk over a slice of a larger database, of what the exported library tells: where it told before an operation and after it that nothing lacks, the answer is the whole
-- database's, and the whole database's desk goes on as this one does. Nobody asked for it in documents 01 and 02. Assumes nothing.
use Prim.Native.Nat.{ℕ, ◌*◌, ◌≤◌, ◌<◌}
use native.Mathlib.Omega.{arith}
use mathlib.Core.Path.{◌≡◌, refl, sym, ap, subst, ◌∙◌}
use mathlib.Core.Bool.{Bool, true, false, not, cond}
use mathlib.Core.List.{List}
use borrow.Author.Tests.{eq-eqb}
use lib.Dec.{eqb, leb}
use lib.ListN.{length, get_or}
use Rattle.finite.proofs.Bools.{clash}
use Rattle.model.specs.Database.{Database}
use Rattle.model.specs.Mirror.{from_slice}
use Rattle.model.specs.Missing as Model
use Rattle.model.specs.Mirror.{EnoughFor}
use Rattle.model.specs.Runs.{Operation, Cache, reloaded}
use Rattle.model.specs.Effects.{answer, cache_after}
use Rattle.model.proofs.Fresh.{step-fresh}
use Rattle.model.proofs.RunLaws.{reload-sound}
use Rattle.model.proofs.MirrorLaws.{mirror-step}
use Rattle.state.specs.declared.operation.Operation as Command-operation
use Rattle.state.specs.Lent.{State, scheme, database, cache, sound, state_after}
use Rattle.lawful.proofs.DesignLaws.{fillings-apart}
use Rattle.lawful.proofs.RowsLaws.{Stored}
use Rattle.lawful.proofs.SoundState.{parts, sound-smallest, sound-after}
use Rattle.command.specs.declared.command.Command.TheVariants.{Operate}
use Rattle.command.specs.Commands.{command_at}
use Rattle.format.specs.Reading.{most_bytes}
use Rattle.script.specs.Step.{Outputs, rooms_of, operation_in}
use Rattle.script.proofs.StepLaws.{after-cache}
use Rattle.slice.specs.Fetches.{fetches_in, fetches_fit}
use Rattle.slice.specs.Replies.{Reply, lack, refused, missing_at, reply_in}
use Rattle.slice.specs.Fed.{Fed, full_cache}
use Rattle.slice.proofs.Theorems.{NothingLacks, nothing-lacks, slice-cached, slice-answers}
use Rattle.wurzsige.specs.Told.{design_word, answer_in}
use Rattle.wurzsige.specs.Calls.{Memory, state_in, memory_cause, Arrays, opening, OpenTaken}
use Rattle.wurzsige.specs.Feeding.{reply_number, missing_in, ReplyTold}
use Rattle.demands.specs.Calls.{Handed, Call, Steps, Calls}
use Rattle.demands.proofs.Library.{library-operates}

-- ---- the number 0

-- of words that are accepted it says that nothing lacks
in_words : (a b : Bool) (l : Model.Lack) → reply_number (cond (not a) (refused 7) (cond (not b) (refused 5) (lack l))) ≡ 0 → l ≡ Model.nothing
in_words false b l e = absurd (omega (arith, e))
in_words true false l e = absurd (omega (arith, e))
in_words true true Model.nothing e = refl
in_words true true (Model.lacks f) e = absurd (omega (arith, e))

of-memory : (b : Bool) (r : Reply) (k : ℕ) → eqb k 0 ≡ b → reply_number (cond b r (refused k)) ≡ 0 → reply_number r ≡ 0
of-memory true r k q e = e
of-memory false r k q e = clash (eq-eqb k 0 e) q

pub told-nothing : (m : Memory) (words : List ℕ) (n : ℕ) (f f' : List ℕ) → ReplyTold (missing_in m words n) 0 f f' → missing_at (state_in m) (fetches_in words n) ≡ Model.nothing
unfolding missing_in reply_in
told-nothing m words n f f' h =
    in_words (leb (5 * n) (length words)) (fetches_fit (scheme (state_in m)) words n) (missing_at (state_in m) (fetches_in words n))
    (of-memory (eqb (memory_cause m) 0) (reply_in (state_in m) words n) (memory_cause m) refl (sym h.number))

-- ---- the desk that has the whole database

-- THEOREM: where nothing lacks before an operation and after it, the whole database's desk, which holds the same, holds the same afterwards too, and has cached for it what
-- the whole database has. So a session goes on operation by operation; between two of them rows may be put in, and what is held stays
pub slice-follows : (s : State) (e : sound s ≡ true) (at : ℕ → ℕ) (B : Database) (fs : List Model.Fetch) → Fed s at B fs → (o : Operation) → NothingLacks s fs o →
    cache_after (scheme s) B (full_cache s B) o ≡ full_cache (state_after s o) B
slice-follows s e at B fs f o w =
    let behind : Fed (state_after s o) at B fs = record { slice = f.slice; lawful = f.lawful; fetched = f.fetched } in
    let is = after-cache s e o in
    let enough : EnoughFor (scheme s) at (database s) B (cache_after (scheme s) (database s) (cache s) o) =
    subst (EnoughFor (scheme s) at (database s) B) is (nothing-lacks (state_after s o) (sound-after s e o) at B fs behind w.behind) in
    let m = mirror-step f.slice f.lawful (fillings-apart s.design (parts s e).design) (sound-smallest s e) (reload-sound (scheme s) B (cache s).held)
    (slice-cached s e at B fs f w.before) o enough in
    let held : (cache_after (scheme s) B (full_cache s B) o).held ≡ (cache (state_after s o)).held = m.held ∙ sym (ap (λ (c : Cache). c.held) is) in
    let fresh = step-fresh (scheme s) B (full_cache s B) o (record { reloaded = refl }) in
    (λ i. record { held = (cache_after (scheme s) B (full_cache s B) o).held; marks = fresh.reloaded i }) ∙ ap (reloaded (scheme s) B) held

-- ---- the exported library

-- THEOREM. Behind a design that is opened and any list of calls, an operation by a step, plain or trusted, in a script that is not over-long, all but an opener and a reason: if
-- `wurzsige_parts_missing` or its trusted name told 0 of the memory before and of the memory after, for the `count` fetches in `words`, then the answer that is told is the
-- one over the whole of any lawful database in which these fetches were made whole
pub library-fed : (s : List ℕ) → ((j : ℕ) → get_or s j 0 < 256) → (m m₁ : Memory) (k k₁ : Arrays) (n₁ : ℕ) (ns₁ : List ℕ) (c₁ q₁ r₁ g₁ : ℕ) →
    OpenTaken (opening s m) n₁ ns₁ c₁ q₁ r₁ g₁ m m₁ k k₁ → n₁ ≡ design_word → Stored m₁.cells →
    (calls : List Call) (m₂ : Memory) (k₂ : Arrays) → Calls m₁ k₁ calls m₂ k₂ → (h : Handed) → length h.script ≤ most_bytes → (op : Command-operation.Operation) →
    command_at h.script h.place ≡ Operate op → from_slice (operation_in op (rooms_of h.out)) ≡ true →
    (n : ℕ) (ns : List ℕ) (c q r g : ℕ) (m₃ : Memory) (k₃ : Arrays) (out : Outputs) → Steps m₂ k₂ h n ns c q r g m₃ k₃ out →
    (words : List ℕ) (count : ℕ) (f f' f₃ f₃' : List ℕ) → ReplyTold (missing_in m₂ words count) 0 f f' → ReplyTold (missing_in m₃ words count) 0 f₃ f₃' →
    (at : ℕ → ℕ) (B : Database) → Fed (state_in m₂) at B (fetches_in words count) →
    answer_in n ns c ≡ answer (scheme (state_in m₂)) B (full_cache (state_in m₂) B) (operation_in op (rooms_of h.out))
library-fed s bytes m m₁ k k₁ n₁ ns₁ c₁ q₁ r₁ g₁ opened word stored calls m₂ k₂ x h short op at_place can n ns c q r g m₃ k₃ out taken words count f f' f₃ f₃' before behind at B fed =
    let a = library-operates s bytes m m₁ k k₁ n₁ ns₁ c₁ q₁ r₁ g₁ opened word stored calls m₂ k₂ x in
    let w = a.2 h short op at_place n ns c q r g m₃ k₃ out taken in
    w.0 ∙
    slice-answers (state_in m₂) a.0 at B (fetches_in words count) fed (operation_in op (rooms_of h.out)) can
    (record {
      before = told-nothing m₂ words count f f' before;
      behind = subst (λ (t : State). missing_at t (fetches_in words count) ≡ Model.nothing) w.1 (told-nothing m₃ words count f₃ f₃' behind);
    })
