-- What the exported library tells: demands 2 and 3 of each probe, query and total, and 02, Req 08 of each reason, behind any list of calls. Assumes nothing.
use Prim.Native.Nat.{ℕ, ◌≤◌, ◌<◌}
use mathlib.Core.Path.{◌≡◌, refl, sym, ap, subst, ◌∙◌}
use mathlib.Core.Bool.{false}
use mathlib.Core.List.{List}
use lib.ListN.{length, get_or}
use lib.Seq.{sets}
use Rattle.model.specs.Cell.{numberless}
use Rattle.model.specs.Scheme.{ColumnOf}
use Rattle.model.specs.Query.{Query}
use Rattle.model.specs.Reason.{Chain}
use Rattle.model.specs.Runs.{ask, reason, Output, query}
use Rattle.model.specs.Answers.{Answer, explained}
use Rattle.model.specs.Demand.{Unrefused}
use Rattle.state.specs.declared.cell.Cell as State-cell
use Rattle.state.specs.declared.design.Column as State-column
use Rattle.state.specs.declared.operation.Operation.{Operation}
use Rattle.state.specs.declared.operation.Operation.TheVariants as O
use Rattle.state.specs.Meaning.{cell_of, column_of, scheme_of}
use Rattle.state.specs.Lent.{State, text_at}
use Rattle.lawful.proofs.RowsLaws.{Stored}
use Rattle.command.specs.declared.command.Command.TheVariants.{Operate}
use Rattle.command.specs.Commands.{command_at}
use Rattle.format.specs.Reading.{Draft, most_bytes}
use Rattle.format.specs.Reading.DesignRead.{accepted}
use Rattle.run.specs.Moments.{operation, moment_after}
use Rattle.script.specs.Step.{Outputs, rooms_of, operation_in, Stepped, step_at}
use Rattle.run.specs.Runs.{moment_with}
use Rattle.script.proofs.JustRead.{into-parts}
use Rattle.wurzsige.specs.Told.{design_word, answer_in}
use Rattle.wurzsige.specs.Calls.{Memory, state_in, Arrays, step_in, opening, OpenTaken}
use Rattle.wurzsige.proofs.ToldLaws.{told-read}
use Rattle.wurzsige.proofs.Memories.{step-uncaused}
use Rattle.demands.specs.Calls.{Handed, Call, actions_of_all, Steps, Calls, lent_by}
use Rattle.demands.specs.Settled.{Settled}
use Rattle.demands.specs.Queried.{Queried}
use Rattle.demands.specs.Explained.{Explained}
use Rattle.demands.proofs.Operands.{probe-fits}
use Rattle.demands.proofs.Probes.{settled, probe-step}
use Rattle.demands.proofs.Queries.{step-queried}
use Rattle.demands.proofs.Reasons.{reason-explained, run-highs}
use Rattle.demands.proofs.Library.{opened-parts, library-at, steps-taken, step-means, library-operates}

-- THEOREM. Demands 2 and 3 of a probe (`Settled`). Behind a design that is opened and any list of calls, a step, plain or trusted, at a place where a PROBE of a column of
-- the design for a value other than blank stands, in
-- a script that is not over-long, tells an answer, which the caller reads off the number n, the numbers ns and their count c
pub library-settled : (s : List ℕ) → ((j : ℕ) → get_or s j 0 < 256) → (m m₁ : Memory) (k k₁ : Arrays) (n₁ : ℕ) (ns₁ : List ℕ) (c₁ q₁ r₁ g₁ : ℕ) →
    OpenTaken (opening s m) n₁ ns₁ c₁ q₁ r₁ g₁ m m₁ k k₁ → n₁ ≡ design_word → Stored m₁.cells →
    (p : Draft) × (i : ℕ) × (opening s m ≡ accepted p i) ×
    ((calls : List Call) (m₂ : Memory) (k₂ : Arrays) → Calls m₁ k₁ calls m₂ k₂ → (h : Handed) → length h.script ≤ most_bytes →
    (l : State-column.Column) (v : State-cell.Cell) → command_at h.script h.place ≡ Operate (O.Probe l v) → ColumnOf (scheme_of p.design) (column_of l) →
    numberless (cell_of v) ≡ false → (n : ℕ) (ns : List ℕ) (c q r g : ℕ) (m₃ : Memory) (k₃ : Arrays) (out : Outputs) →
    Steps m₂ k₂ h n ns c q r g m₃ k₃ out →
    Settled p (moment_with p (actions_of_all calls)) (state_in m₂) (column_of l) (cell_of v) (answer_in n ns c))
library-settled s bytes m m₁ k k₁ n₁ ns₁ c₁ q₁ r₁ g₁ opened word stored =
    let a = library-at s bytes m m₁ k k₁ n₁ ns₁ c₁ q₁ r₁ g₁ opened word stored in (
      a.0,
      a.1,
      a.2,
      λ calls m₂ k₂ x h short l v at f full n ns c q r g m₃ k₃ out taken.
          let y = (a.4 calls m₂ k₂ x).0 in
          settled a.0 (lent_by m) (moment_with a.0 (actions_of_all calls)) (state_in m₂) y.tracks (column_of l) (cell_of v) f
          (probe-fits h.script h.bytes h.place l v at full) full (answer_in n ns c)
          (told-read _ n ns c (steps-taken a.0 (lent_by m) m₂ k₂ _ y h n ns c q r g m₃ k₃ out taken).told.told ∙
          ap (λ (R : Stepped). R.answer) (step-uncaused m₂ h.out h.script h.place y.ready.sound) ∙
          probe-step (state_in m₂) h.out h.script h.place l v y.tracks.sound short at),
    )

-- THEOREM. Demand 2 of a query or a total (`Queried`). Behind a design that is opened and any list of calls, a step, plain or trusted, at a place where one stands, in a script that is not over-long: the answer is what the caller reads off n, ns and c, and the words are those that are lent to the step
pub library-queried : (s : List ℕ) → ((j : ℕ) → get_or s j 0 < 256) → (m m₁ : Memory) (k k₁ : Arrays) (n₁ : ℕ) (ns₁ : List ℕ) (c₁ q₁ r₁ g₁ : ℕ) →
    OpenTaken (opening s m) n₁ ns₁ c₁ q₁ r₁ g₁ m m₁ k k₁ → n₁ ≡ design_word → Stored m₁.cells →
    (p : Draft) × (i : ℕ) × (opening s m ≡ accepted p i) ×
    ((calls : List Call) (m₂ : Memory) (k₂ : Arrays) → Calls m₁ k₁ calls m₂ k₂ → (h : Handed) → length h.script ≤ most_bytes →
    (op : Operation) (q : Query) (o : Output) → command_at h.script h.place ≡ Operate op → operation_in op (rooms_of h.out) ≡ query q o →
    (n : ℕ) (ns : List ℕ) (c a r g : ℕ) (m₃ : Memory) (k₃ : Arrays) (out : Outputs) → Steps m₂ k₂ h n ns c a r g m₃ k₃ out → Unrefused (answer_in n ns c) →
    Queried p (moment_with p (actions_of_all calls)) (moment_after (scheme_of p.design) (moment_with p (actions_of_all calls)) (operation (query q o)))
    (state_in m₂) (state_in m₃) q o (answer_in n ns c) h.out.words out.words)
library-queried s bytes m m₁ k k₁ n₁ ns₁ c₁ q₁ r₁ g₁ opened word stored =
    let a = library-at s bytes m m₁ k k₁ n₁ ns₁ c₁ q₁ r₁ g₁ opened word stored in (
      a.0,
      a.1,
      a.2,
      λ calls m₂ k₂ x h short op q o at is n ns c d r g m₃ k₃ out taken u.
          let y = (a.4 calls m₂ k₂ x).0 in
          let b = lent_by m in
          let mo = moment_with a.0 (actions_of_all calls) in
          let R = step_at (state_in m₂) h.out h.script h.place in
          let w = steps-taken a.0 b m₂ k₂ mo y h n ns c d r g m₃ k₃ out taken in
          let same : step_in m₂ h.out h.script h.place ≡ R = step-uncaused m₂ h.out h.script h.place y.ready.sound in
          let answers : answer_in n ns c ≡ R.answer = told-read _ n ns c w.told.told ∙ ap (λ (Q : Stepped). Q.answer) same in
          let writes : out.words ≡ R.outputs.words = ap (λ (z : Outputs). z.words) w.outputs ∙ ap (λ (Q : Stepped). Q.outputs.words) same in
          let leaves : state_in m₃ ≡ R.state = step-means a.0 b m₂ k₂ mo y h n ns c d r g m₃ k₃ out taken in
          subst (λ (z : State × Answer × List ℕ). Queried a.0 mo (moment_after (scheme_of a.0.design) mo (operation (query q o))) (state_in m₂) z.0 q o z.1
          h.out.words z.2)
          (λ i. (sym leaves i, sym answers i, sym writes i))
          (step-queried a.0 b mo (state_in m₂) y.tracks h.out h.script h.place op q o short at is R refl (subst Unrefused answers u)),
    )

-- THEOREM. 02, Req 08 (`Explained`). Behind a design that is opened and any list of calls, a step, plain or trusted, at a place where a 0x18 stands, in a script that is
-- not over-long, that tells a reason of b bytes: the text that is lent to it has the sentence from its first byte on
pub library-explained : (s : List ℕ) → ((j : ℕ) → get_or s j 0 < 256) → (m m₁ : Memory) (k k₁ : Arrays) (n₁ : ℕ) (ns₁ : List ℕ) (c₁ q₁ r₁ g₁ : ℕ) →
    OpenTaken (opening s m) n₁ ns₁ c₁ q₁ r₁ g₁ m m₁ k k₁ → n₁ ≡ design_word → Stored m₁.cells →
    (calls : List Call) (m₂ : Memory) (k₂ : Arrays) → Calls m₁ k₁ calls m₂ k₂ → (h : Handed) → length h.script ≤ most_bytes → (r : ℕ) →
    command_at h.script h.place ≡ Operate (O.Reason r) →
    (n : ℕ) (ns : List ℕ) (c q x g : ℕ) (m₃ : Memory) (k₃ : Arrays) (out : Outputs) → Steps m₂ k₂ h n ns c q x g m₃ k₃ out → (b : ℕ) → answer_in n ns c ≡ explained b →
    (e : Chain) × (t : List ℕ) × Explained (state_in m₂) r b t e × (b ≤ length h.out.text) × (out.text ≡ sets h.out.text 0 t)
library-explained s bytes m m₁ k k₁ n₁ ns₁ c₁ q₁ r₁ g₁ opened word stored calls m₂ k₂ x h short r at n ns c q y g m₃ k₃ out taken b a =
    let l = library-at s bytes m m₁ k k₁ n₁ ns₁ c₁ q₁ r₁ g₁ opened word stored in
    let o = library-operates s bytes m m₁ k k₁ n₁ ns₁ c₁ q₁ r₁ g₁ opened word stored calls m₂ k₂ x in
    let w = o.2 h short (O.Reason r) at n ns c q y g m₃ k₃ out taken in
    let i = (into-parts s (lent_by m) l.0 l.1 (opened-parts s m l.0 l.1 l.2).2).1 in
    let z = reason-explained (state_in m₂) o.0 o.1 (run-highs s bytes l.0 l.1 i (lent_by m) _ _ (l.4 calls m₂ k₂ x).0.tracks) r (length h.out.text) b (sym w.0 ∙ a) in
    (z.0, text_at (state_in m₂) (ask (reason r (length h.out.text))), z.1, z.2, ap (λ (v : Outputs). v.text) w.2)
