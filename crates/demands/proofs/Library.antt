-- Demand 3 of any list of calls of the exported functions: what the memory means behind them is a state of the run that the actions in their scripts are. Assumes nothing.
use Prim.Native.Nat.{ℕ, ◌<◌, ◌≤◌}
use native.Mathlib.Omega.{arith}
use mathlib.Core.Path.{◌≡◌, refl, sym, ap, subst, ◌∙◌}
use mathlib.Core.Bool.{true, false, and-eq-true_iff}
use mathlib.Core.List.{List, [], ◌∷◌, ◌++◌}
use mathlib.Core.Logic.{⊎_elim}
use borrow.Author.Tests.{eqb-true, leb-true, ltb-true, ltb-false}
use lib.Dec.{ltb, leb}
use lib.ListN.{length, get_or}
use lib.Seq.{sets}
use Rattle.finite.proofs.Bools.{dec, cond-true, cond-false}
use Rattle.model.specs.Answers.{Answer, refused, shown, refused_word, is_refusal}
use Rattle.model.specs.Scheme.{Scheme}
use Rattle.state.specs.Held.{none_held}
use Rattle.state.specs.Meaning.{scheme_of}
use Rattle.state.specs.HeldWords.{held_length, long_held, held_words, words_held, narrow_held, Whole}
use Rattle.state.specs.declared.operation.Operation as Command-operation
use Rattle.state.specs.Lent.{State, lent, sound, answer_at, state_after}
use Rattle.state.specs.Changes.{put, remove}
use Rattle.state.proofs.Arrays.{HeldSized}
use Rattle.state.proofs.HeldWords.{words-sized}
use Rattle.state.proofs.LentWords.{stored-record, zero-whole, zero-none}
use Rattle.lawful.proofs.HeldLaws.{held-of-sized}
use Rattle.lawful.proofs.RowsLaws.{Stored}
use Rattle.lawful.proofs.StoredLaws.{free-sized, free-stored}
use Rattle.command.specs.declared.command.Command.{Command}
use Rattle.command.specs.declared.command.Command.TheVariants.{Table, Constraint, Filling, Row, End, Operate, Put, Remove, Unknown, Short}
use Rattle.command.specs.Commands.{command_at, put_row_at}
use Rattle.format.specs.Reading.{Draft, DesignRead, read_into, most_bytes}
use Rattle.format.specs.Reading.DesignRead.{accepted, refused_at}
use Rattle.format.proofs.Small.{Small}
use Rattle.format.proofs.Reached.{accepted-lawful}
use Rattle.run.specs.Moments.{Action, Moment, moment_from}
use Rattle.script.specs.Step.{Outputs, rooms_of, operation_in, outputs_after, Stepped, operated, changing, carried, step_at}
use Rattle.run.specs.Runs.{action_then, left_from, beginning, moment_with}
use Rattle.script.specs.JustRead.{Buffers, reading_of, just_read}
use Rattle.script.proofs.StepLaws.{step-carried, step-overlong}
use Rattle.run.proofs.RunLaws.{left-tracks}
use Rattle.script.proofs.Places.{put-sized, put-stored}
use Rattle.script.proofs.JustRead.{into-parts}
use Rattle.run.proofs.Begun.{begun}
use Rattle.run.proofs.Tracking.{Tracks, point, operated-tracks, changed-tracks}
use Rattle.script.proofs.Theorems.{refused-unchanged}
use Rattle.words.specs.Words.{design_length, design_words, words_design}
use Rattle.words.proofs.WordLaws.{design-stored}
use Rattle.words.proofs.Narrow.{narrow-design}
use Rattle.wurzsige.specs.Told.{Told, design_word, open_shown, open_next, answer_in}
use Rattle.wurzsige.specs.Calls.{Memory, state_in, long_words, Arrays, Ready, Catalogs, keeping, step_in, StepTaken, opening, memory_opened, is_refused, OpenTaken}
use Rattle.wurzsige.proofs.ToldLaws.{told-read}
use Rattle.wurzsige.proofs.Memories.{Parts, memory-parts, step-uncaused}
use Rattle.demands.specs.Actions.{state_behind, state_after_all, Called, actions_of_step, actions_of_run}
use Rattle.demands.specs.Calls.{Handed, Call, step, run, actions_of, actions_of_all, Steps, plain, trusted, Makes, one-step, all-steps, opens-refused, looks, Calls, none, next, lent_by}
use Rattle.demands.proofs.Holdings.{from-append}
use Rattle.demands.proofs.HeldBytes.{stored-means}
use Rattle.demands.proofs.Stepping.{operate-step, step-leaves, long-run, run-leaves}

-- an opening that is refused leaves the memory and the arrays
open-keeps : (script : List ℕ) (n : ℕ) (ns : List ℕ) (c p q g : ℕ) (m m' : Memory) (k k' : Arrays) → OpenTaken (opening script m) n ns c p q g m m' k k' →
    n ≡ refused_word → (m' ≡ m) × (k' ≡ k)
open-keeps script n ns c p q g m m' k k' t word = go (opening script m) refl
  where
    go : (w : DesignRead) → opening script m ≡ w → (m' ≡ m) × (k' ≡ k)
    go (accepted d i) e = absurd (let z : refused_word ≡ design_word = sym word ∙ t.told.told.number ∙ ap (λ (w : DesignRead). (open_shown w).word) e in omega (arith, z))
    go (refused_at a i) e = (t.memory ∙ ap (λ (w : DesignRead). memory_opened w m) e, t.catalogs.kept (ap is_refused e))

-- ---- the state that memory means

-- a refusal that is told
told-refused : (a : Answer) (n : ℕ) (ns : List ℕ) (k : ℕ) → Told (shown a) n ns k → is_refusal a ≡ true → a ≡ refused (get_or ns 0 0)
unfolding is_refusal
told-refused a n ns k t e = sym (told-read a n ns k t) ∙ ap (λ (x : ℕ). answer_in x ns k) (t.number ∙ eqb-true _ _ e)

module _ (p : Draft) (b : Buffers) where
  abbrev S : Scheme
  S = scheme_of p.design

  module _ (m : Memory) (fine : Parts m) (mo : Moment) (s : State) (t : Tracks p b mo s) where
    sized : HeldSized s.held
    sized = subst HeldSized (sym t.held) (held-of-sized mo.held)

    -- memory with a state of the run in it means that state
    pub kept-means : s.design ≡ words_design m.design → narrow_held (sets m.held 0 (held_words s.held)) ≡ true → state_in (keeping m s) ≡ s
    kept-means d n = let h = stored-means s.held sized m.held fine.held n in λ x. lent (sym d x) s.cells s.tables s.marks (h x)

  -- ---- one call

  -- one command
  command-tracks : (mo : Moment) (e : State) → Tracks p b mo e → (out : Outputs) (script : List ℕ) → Small script → (i j : ℕ) (c : Command) →
      Tracks p b (moment_from S mo (action_then script i c (rooms_of out) [])) (carried e out script i j c).state
  unfolding carried operated changing moment_from
  command-tracks mo e t out script small i j (Operate op) = operated-tracks p b mo e t _
  command-tracks mo e t out script small i j (Put r x) =
      changed-tracks p b mo e t (put r (put_row_at script i)) (record { sized = put-sized script i; stored = put-stored script small i })
  command-tracks mo e t out script small i j (Remove r) = changed-tracks p b mo e t (remove r) (record { sized = free-sized; stored = free-stored })
  command-tracks mo e t out script small i j (Table x) = t
  command-tracks mo e t out script small i j (Constraint x) = t
  command-tracks mo e t out script small i j (Filling x) = t
  command-tracks mo e t out script small i j (Row x) = t
  command-tracks mo e t out script small i j End = t
  command-tracks mo e t out script small i j Unknown = t
  command-tracks mo e t out script small i j Short = t

  moved : {m k : Moment} {e l : State} → m ≡ k → e ≡ l → Tracks p b k l → Tracks p b m e
  moved q r t = rw (q, r) t

  -- a step, over-long scripts too
  stepped-tracks : (mo : Moment) (e : State) → Tracks p b mo e → (h : Handed) →
      Tracks p b (moment_from S mo (actions_of (step h))) (step_at e h.out h.script h.place).state
  unfolding actions_of actions_of_step moment_from
  stepped-tracks mo e t h =
      ⊎_elim (λ (q : ltb most_bytes (length h.script) ≡ true).
      moved (ap (moment_from S mo) (cond-true (ltb most_bytes (length h.script)) [] _ q))
      (ap (λ (r : Stepped). r.state) (step-overlong e h.out h.script h.place t.sound (ltb-true _ _ q))) t)
      (λ (q : ltb most_bytes (length h.script) ≡ false).
      moved (ap (moment_from S mo) (cond-false (ltb most_bytes (length h.script)) [] _ q))
      (ap (λ (r : Stepped). r.state) (step-carried e h.out h.script h.place t.sound (ltb-false _ _ q)))
      (command-tracks mo e t h.out h.script (record { at = h.bytes }) h.place _ (command_at h.script h.place)))
      (dec (ltb most_bytes (length h.script)))

  -- a run, over-long scripts too
  ran-tracks : (mo : Moment) (e : State) → Tracks p b mo e → (h : Handed) →
      Tracks p b (moment_from S mo (actions_of (run h))) (left_from (length h.script) h.script e h.out h.place).state
  unfolding actions_of actions_of_run moment_from
  ran-tracks mo e t h =
      ⊎_elim (λ (q : ltb most_bytes (length h.script) ≡ true).
      moved (ap (moment_from S mo) (cond-true (ltb most_bytes (length h.script)) [] _ q)) (long-run e t.sound h.out h.script h.place (ltb-true _ _ q) (length h.script)) t)
      (λ (q : ltb most_bytes (length h.script) ≡ false).
      moved (ap (moment_from S mo) (cond-false (ltb most_bytes (length h.script)) [] _ q)) refl
      (left-tracks p b h.script (record { at = h.bytes }) (ltb-false _ _ q) (length h.script) mo e t h.out h.place))
      (dec (ltb most_bytes (length h.script)))

  -- ---- what memory means behind a call

  -- memory that means the state at a moment of the run, and is ready
  pub record Stands-at (m : Memory) (k : Arrays) (mo : Moment) : Type 0 where
    pub ready : Ready m k
    pub tracks : Tracks p b mo (state_in m)

  module _ (m : Memory) (k : Arrays) (mo : Moment) (at : Stands-at m k mo) where
    fine : Parts m
    fine = memory-parts m at.ready.sound

    -- another state of the run in it
    kept-state : (m' : Memory) (k' : Arrays) (mo' : Moment) (s : State) → m' ≡ keeping m s → Ready m' k' → Tracks p b mo' s → state_in m' ≡ s
    kept-state m' k' mo' s e r t =
        let d : s.design ≡ words_design m.design = t.design ∙ sym at.tracks.design in
        let n : narrow_held (sets m.held 0 (held_words s.held)) ≡ true = sym (ap (λ (x : Memory). narrow_held x.held) e) ∙ (memory-parts m' r.sound).held_narrow in
        ap state_in e ∙ kept-means m fine mo' s t d n

    module _ (h : Handed) (n : ℕ) (ns : List ℕ) (c q r g : ℕ) (m' : Memory) (out' : Outputs)
        (taken : StepTaken (step_in m h.out h.script h.place) n ns c q r g m m' out') where
      abbrev R : Stepped
      R = step_in m h.out h.script h.place

      R-at : R ≡ step_at (state_in m) h.out h.script h.place
      R-at = step-uncaused m h.out h.script h.place at.ready.sound

      R-tracks : Tracks p b (moment_from S mo (actions_of (step h))) R.state
      R-tracks = subst (λ (x : Stepped). Tracks p b (moment_from S mo (actions_of (step h))) x.state) (sym R-at) (stepped-tracks mo (state_in m) at.tracks h)

      -- a refusal leaves the memory, and the state that it means
      refused-memory : is_refusal R.answer ≡ true → m' ≡ m
      refused-memory e = taken.memory ∙ cond-true _ m _ e

      refused-state : is_refusal R.answer ≡ true → R.state ≡ state_in m
      refused-state e =
          let z : R.answer ≡ refused (get_or ns 0 0) = told-refused R.answer n ns c taken.told.told e in
          ap (λ (x : Stepped). x.state) R-at ∙
          (refused-unchanged (state_in m) (words-sized m.held) h.out h.script h.place (get_or ns 0 0) (sym (ap (λ (x : Stepped). x.answer) R-at) ∙ z)).state

      -- the memory that a step leaves means the state that the step leaves
      taken-means : (k' : Arrays) → Ready m' k' → state_in m' ≡ R.state
      taken-means k' y =
          ⊎_elim (λ (e : is_refusal R.answer ≡ true). ap state_in (refused-memory e) ∙ sym (refused-state e))
          (λ (e : is_refusal R.answer ≡ false). kept-state m' k' _ R.state (taken.memory ∙ cond-false _ m (keeping m R.state) e) y R-tracks)
          (dec (is_refusal R.answer))

      plain_ready : (k' : Arrays) → Catalogs (is_refusal R.answer) m' k k' → Ready m' k'
      plain_ready k' w =
          ⊎_elim (λ (e : is_refusal R.answer ≡ true). subst (Ready m') (sym (w.kept e)) (subst (λ (x : Memory). Ready x k) (sym (refused-memory e)) at.ready))
          (λ (e : is_refusal R.answer ≡ false). w.made e)
          (dec (is_refusal R.answer))

    module _ (h : Handed) (n : ℕ) (ns : List ℕ) (c q r g : ℕ) (m' : Memory) (k' : Arrays) (out' : Outputs) where
      pub steps-taken : Steps m k h n ns c q r g m' k' out' → StepTaken (step_in m h.out h.script h.place) n ns c q r g m m' out'
      steps-taken (plain t) = t.taken
      steps-taken (trusted y t) = t.taken

      pub steps-ready : Steps m k h n ns c q r g m' k' out' → Ready m' k'
      steps-ready (plain t) = plain_ready h n ns c q r g m' out' t.taken k' t.catalogs
      steps-ready (trusted y t) = t.ready

      -- THEOREM: what a step on such memory, plain or trusted, leaves in memory means the state that the step at that place leaves of the state before
      pub step-means : Steps m k h n ns c q r g m' k' out' → state_in m' ≡ (step_at (state_in m) h.out h.script h.place).state
      step-means s =
          taken-means h n ns c q r g m' out' (steps-taken s) k' (steps-ready s) ∙
          ap (λ (x : Stepped). x.state) (step-uncaused m h.out h.script h.place at.ready.sound)

      step-at : Steps m k h n ns c q r g m' k' out' → Stands-at m' k' (moment_from S mo (actions_of (step h)))
      step-at s =
          record {
            ready = steps-ready s;
            tracks = subst (Tracks p b (moment_from S mo (actions_of (step h)))) (sym (step-means s)) (stepped-tracks mo (state_in m) at.tracks h);
          }

    call_at : (c : Call) (m' : Memory) (k' : Arrays) → Makes m k c m' k' → Stands-at m' k' (moment_from S mo (actions_of c))
    unfolding actions_of moment_from
    call_at c m' k' (one-step h n ns d q r g _ _ out' s) = step-at h n ns d q r g m' k' out' s
    call_at c m' k' (all-steps h _ _ out' y made) =
        let t = ran-tracks mo (state_in m) at.tracks h in
        record { ready = made.ready; tracks = subst (Tracks p b _) (sym (kept-state m' k' _ _ made.memory made.ready t)) t }
    call_at c m' k' (opens-refused script n ns d q r g _ _ t w) =
        let z = open-keeps script n ns d q r g m m' k k' t w in
        subst (λ (x : Arrays). Stands-at m' x mo) (sym z.1) (subst (λ (x : Memory). Stands-at x k mo) (sym z.0) at)
    call_at c m' k' looks = at

    -- THEOREM: what a call leaves in memory means the state that its actions leave of the state before
    pub call-state : (c : Call) (m' : Memory) (k' : Arrays) → Makes m k c m' k' → state_in m' ≡ state_after_all (state_in m) (actions_of c)
    unfolding actions_of state_after_all
    call-state c m' k' (one-step h n ns d q r g _ _ out' s) = step-means h n ns d q r g m' k' out' s ∙ step-leaves (state_in m) h.out h.script h.place at.tracks.sound
    call-state c m' k' (all-steps h _ _ out' y made) =
        kept-state m' k' _ _ made.memory made.ready (ran-tracks mo (state_in m) at.tracks h) ∙ run-leaves (state_in m) h.out h.script h.place at.tracks.sound
    call-state c m' k' (opens-refused script n ns d q r g _ _ t w) = ap state_in (open-keeps script n ns d q r g m m' k k' t w).0
    call-state c m' k' looks = refl

  -- ---- any list of calls

  calls_at : {m : Memory} {k : Arrays} {cs : List Call} {e : Memory} {l : Arrays} → Calls m k cs e l → (mo : Moment) → Stands-at m k mo →
      Stands-at e l (moment_from S mo (actions_of_all cs))
  unfolding actions_of_all moment_from
  calls_at none mo at = at
  calls_at {e = e} {l} (next {m} {k} {c} {more} m' k' x rest) mo at =
      subst (Stands-at e l) (sym (from-append S mo (actions_of c) (actions_of_all more))) (calls_at rest (moment_from S mo (actions_of c)) (call_at m k mo at c m' k' x))

  state-append : (s : State) (xs ys : List Action) → state_after_all s (xs ++ ys) ≡ state_after_all (state_after_all s xs) ys
  unfolding state_after_all
  state-append s [] ys = refl
  state-append s (x ∷ xs) ys = state-append (state_behind s x) xs ys

  calls-state : {m : Memory} {k : Arrays} {cs : List Call} {e : Memory} {l : Arrays} → Calls m k cs e l → (mo : Moment) → Stands-at m k mo →
      state_in e ≡ state_after_all (state_in m) (actions_of_all cs)
  unfolding actions_of_all state_after_all
  calls-state none mo at = refl
  calls-state (next {m} {k} {c} {more} m' k' x rest) mo at =
      calls-state rest (moment_from S mo (actions_of c)) (call_at m k mo at c m' k' x) ∙
      ap (λ (s : State). state_after_all s (actions_of_all more)) (call-state m k mo at c m' k' x) ∙
      sym (state-append (state_in m) (actions_of c) (actions_of_all more))

-- ---- opening a design

-- the words of a record that holds nothing
none-back : words_held (held_words none_held) ≡ none_held
none-back = ap words_held (sym (zero-whole ∙ ap held_words zero-none)) ∙ zero-none

none-whole : Whole (held_words none_held)
none-whole = ap held_words (sym none-back)

-- a design is accepted only where the words are long enough, and as it is read
pub opened-parts : (script : List ℕ) (m : Memory) (p : Draft) (i : ℕ) → opening script m ≡ accepted p i →
    (design_length ≤ length m.design) × (held_length ≤ length m.held) × (reading_of script (lent_by m) ≡ accepted p i)
unfolding opening
opened-parts script m p i e =
    ⊎_elim (λ (q : long_words m ≡ true). let w = (and-eq-true_iff (leb design_length (length m.design)) (long_held m.held)).0 q in
    (leb-true _ _ w.0, leb-true _ _ w.1, sym (cond-true (long_words m) _ _ q) ∙ e))
    (λ (q : long_words m ≡ false).
    absurd (let z : ◌≡◌ {A = ℕ} 0 1 = cc (cond-false (long_words m) (read_into script m.cells m.tables m.marks) (refused_at 7 0) q) in omega arith))
    (dec (long_words m))

module _ (script : List ℕ) (bytes : (j : ℕ) → get_or script j 0 < 256) (m : Memory) (p : Draft) (i : ℕ) (e : opening script m ≡ accepted p i)
    (stored : Stored (memory_opened (accepted p i) m).cells) where
  start : Tracks p (lent_by m) (beginning p) (just_read (accepted p i) (lent_by m))
  start = begun script (record { at = bytes }) (lent_by m) p i (opened-parts script m p i e).2 stored

  -- THEOREM: the memory that opening an accepted design leaves means the state just read
  pub opened-means : state_in (memory_opened (accepted p i) m) ≡ just_read (accepted p i) (lent_by m)
  opened-means =
      let o = opened-parts script m p i e in
      let l = accepted-lawful script (record { at = bytes }) p i (into-parts script (lent_by m) p i o.2).1 in
      let z = l.2 in
      let d : words_design (sets m.design 0 (design_words p.design)) ≡ p.design =
      design-stored p.design (record { table = z.table; constraint = z.constraint; filling = z.filling }) (narrow-design p.design l.0) m.design o.0 in
      let h : words_held (sets m.held 0 (held_words none_held)) ≡ none_held =
      (stored-record m.held (held_words none_held) _ o.1 none-whole refl).0 ∙ none-back in
      let s : State = just_read (accepted p i) (lent_by m) in
      λ x. lent (d x) s.cells s.tables s.marks (h x)

-- a design that is opened, and any list of calls behind it
abbrev Behind : List ℕ → Memory → Memory → Arrays → ℕ → Type 0
Behind s m m₁ k₁ r =
    (p : Draft) × (i : ℕ) × (opening s m ≡ accepted p i) × (r ≡ i) ×
    ((calls : List Call) (m₂ : Memory) (k₂ : Arrays) → Calls m₁ k₁ calls m₂ k₂ →
    Stands-at p (lent_by m) m₂ k₂ (moment_with p (actions_of_all calls)) × (state_in m₂ ≡ state_after_all (just_read (accepted p i) (lent_by m)) (actions_of_all calls)))

pub library-at : (s : List ℕ) → ((j : ℕ) → get_or s j 0 < 256) → (m m₁ : Memory) (k k₁ : Arrays) (n : ℕ) (ns : List ℕ) (c q r g : ℕ) →
    OpenTaken (opening s m) n ns c q r g m m₁ k k₁ → n ≡ design_word → Stored m₁.cells → Behind s m m₁ k₁ r
library-at s bytes m m₁ k k₁ n ns c q r g taken word stored = go (opening s m) refl
  where
    go : (w : DesignRead) → opening s m ≡ w → Behind s m m₁ k₁ r
    go (refused_at a j) e = absurd (let z : design_word ≡ 7 = sym word ∙ taken.told.told.number ∙ ap (λ (w : DesignRead). (open_shown w).word) e in omega (arith, z))
    go (accepted p i) e =
        let left : m₁ ≡ memory_opened (accepted p i) m = taken.memory ∙ ap (λ (w : DesignRead). memory_opened w m) e in
        let full : Stored (memory_opened (accepted p i) m).cells = subst (λ (x : Memory). Stored x.cells) left stored in
        let means : state_in m₁ ≡ just_read (accepted p i) (lent_by m) = ap state_in left ∙ opened-means s bytes m p i e full in
        let at : Stands-at p (lent_by m) m₁ k₁ (beginning p) = record {
          ready = taken.catalogs.made (ap is_refused e);
          tracks = subst (Tracks p (lent_by m) (beginning p)) (sym means) (start s bytes m p i e full);
        } in (
          p,
          i,
          e,
          taken.told.placed.next ∙ ap open_next e,
          λ calls m₂ k₂ x. (
            calls_at p (lent_by m) x (beginning p) at,
            calls-state p (lent_by m) x (beginning p) at ∙ ap (λ (v : State). state_after_all v (actions_of_all calls)) means,
          ),
        )

-- THEOREM. 01, "Runs": "A run is any list of REFERs, DROPs and PROBEs with any operands, refused ones too. It starts from an accepted design just read: nothing held,
-- no row cached. Each call gets the design, rows, marks, held values and whatever else the state keeps as the call before left them .. Demand 3 is one statement
-- about the whole list, not one for each call." Of the exported library: a design is opened with script s in the memory m, which becomes m₁, and the number told is
-- the word of an accepted design. Then any list of calls, each with a script, a place and lent answers of its own, leaves memory m₂ that means a state of which
-- demand 3 holds at the moment that follows from the design and the operands. The scripts are bytes, and the cells u32 numbers with u8 issues, as their types say.
pub library-demand3 : (s : List ℕ) → ((j : ℕ) → get_or s j 0 < 256) → (m m₁ : Memory) (k k₁ : Arrays) (n : ℕ) (ns : List ℕ) (c q r g : ℕ) →
    OpenTaken (opening s m) n ns c q r g m m₁ k k₁ → n ≡ design_word → Stored m₁.cells →
    (p : Draft) × (i : ℕ) × (opening s m ≡ accepted p i) × (r ≡ i) ×
    ((calls : List Call) (m₂ : Memory) (k₂ : Arrays) → Calls m₁ k₁ calls m₂ k₂ →
    Called p (lent_by m) (actions_of_all calls) (state_in m₂) × Ready m₂ k₂ × (state_in m₂ ≡ state_after_all (just_read (accepted p i) (lent_by m)) (actions_of_all calls)))
library-demand3 s bytes m m₁ k k₁ n ns c q r g taken word stored =
    let a = library-at s bytes m m₁ k k₁ n ns c q r g taken word stored in (
      a.0,
      a.1,
      a.2,
      a.3,
      λ calls m₂ k₂ x. let y = a.4 calls m₂ k₂ x in
          (point a.0 (lent_by m) (moment_with a.0 (actions_of_all calls)) (state_in m₂) y.0.tracks, y.0.ready, y.1),
    )

-- THEOREM: what such calls answer and leave is what the theorems of this crate speak of. Behind a design that is opened and any list of calls, the memory means a sound
-- state; and a step, plain or trusted, tells the answer of the step at its place of its script on that state, an operation, a change of the rows or a faulty command,
-- and leaves the state, the words and the text that this step leaves
pub library-steps : (s : List ℕ) → ((j : ℕ) → get_or s j 0 < 256) → (m m₁ : Memory) (k k₁ : Arrays) (n₁ : ℕ) (ns₁ : List ℕ) (c₁ q₁ r₁ g₁ : ℕ) →
    OpenTaken (opening s m) n₁ ns₁ c₁ q₁ r₁ g₁ m m₁ k k₁ → n₁ ≡ design_word → Stored m₁.cells →
    (calls : List Call) (m₂ : Memory) (k₂ : Arrays) → Calls m₁ k₁ calls m₂ k₂ →
    (sound (state_in m₂) ≡ true) × Stored m₂.cells ×
    ((h : Handed) (n : ℕ) (ns : List ℕ) (c q r g : ℕ) (m₃ : Memory) (k₃ : Arrays) (out : Outputs) → Steps m₂ k₂ h n ns c q r g m₃ k₃ out →
    (answer_in n ns c ≡ (step_at (state_in m₂) h.out h.script h.place).answer) × (state_in m₃ ≡ (step_at (state_in m₂) h.out h.script h.place).state) ×
    (out ≡ (step_at (state_in m₂) h.out h.script h.place).outputs))
library-steps s bytes m m₁ k k₁ n₁ ns₁ c₁ q₁ r₁ g₁ opened word stored calls m₂ k₂ x =
    let a = library-at s bytes m m₁ k k₁ n₁ ns₁ c₁ q₁ r₁ g₁ opened word stored in
    let y = (a.4 calls m₂ k₂ x).0 in (
      y.tracks.sound,
      y.tracks.stored,
      λ h n ns c q r g m₃ k₃ out taken.
          let b = lent_by m in
          let mo = moment_with a.0 (actions_of_all calls) in
          let w = steps-taken a.0 b m₂ k₂ mo y h n ns c q r g m₃ k₃ out taken in
          let same = step-uncaused m₂ h.out h.script h.place y.ready.sound in (
            told-read _ n ns c w.told.told ∙ ap (λ (R : Stepped). R.answer) same,
            step-means a.0 b m₂ k₂ mo y h n ns c q r g m₃ k₃ out taken,
            w.outputs ∙ ap (λ (R : Stepped). R.outputs) same,
          ),
    )

-- THEOREM: where an operation stands at the place, in a script that is not over-long, these are its answer, and the state, the words and the text behind it
pub library-operates : (s : List ℕ) → ((j : ℕ) → get_or s j 0 < 256) → (m m₁ : Memory) (k k₁ : Arrays) (n₁ : ℕ) (ns₁ : List ℕ) (c₁ q₁ r₁ g₁ : ℕ) →
    OpenTaken (opening s m) n₁ ns₁ c₁ q₁ r₁ g₁ m m₁ k k₁ → n₁ ≡ design_word → Stored m₁.cells →
    (calls : List Call) (m₂ : Memory) (k₂ : Arrays) → Calls m₁ k₁ calls m₂ k₂ →
    (sound (state_in m₂) ≡ true) × Stored m₂.cells ×
    ((h : Handed) → length h.script ≤ most_bytes → (op : Command-operation.Operation) → command_at h.script h.place ≡ Operate op →
    (n : ℕ) (ns : List ℕ) (c q r g : ℕ) (m₃ : Memory) (k₃ : Arrays) (out : Outputs) → Steps m₂ k₂ h n ns c q r g m₃ k₃ out →
    (answer_in n ns c ≡ answer_at (state_in m₂) (operation_in op (rooms_of h.out))) × (state_in m₃ ≡ state_after (state_in m₂) (operation_in op (rooms_of h.out))) ×
    (out ≡ outputs_after (state_in m₂) (operation_in op (rooms_of h.out)) h.out))
unfolding operated
library-operates s bytes m m₁ k k₁ n₁ ns₁ c₁ q₁ r₁ g₁ opened word stored calls m₂ k₂ x =
    let a = library-steps s bytes m m₁ k k₁ n₁ ns₁ c₁ q₁ r₁ g₁ opened word stored calls m₂ k₂ x in (
      a.0,
      a.1,
      λ h short op at n ns c q r g m₃ k₃ out taken.
          let w = a.2 h n ns c q r g m₃ k₃ out taken in
          let done = operate-step (state_in m₂) h.out h.script h.place op a.0 short at in
          (w.0 ∙ ap (λ (R : Stepped). R.answer) done, w.1 ∙ ap (λ (R : Stepped). R.state) done, w.2 ∙ ap (λ (R : Stepped). R.outputs) done),
    )
