-- 02, Req 08 of what is answered and written. Assumes nothing.
use Prim.Native.Nat.{ℕ, ◌^◌, ◌≤◌, ◌<◌}
use native.Mathlib.Omega.{arith}
use mathlib.Core.Path.{◌≡◌, refl, sym, ap, subst, ◌∙◌}
use mathlib.Core.Bool.{Bool, true, false, not}
use mathlib.Core.List.{List, []}
use borrow.Author.Tests.{ltb-false}
use lib.Dec.{ltb}
use lib.ListN.{length, get_or}
use lib.Seq.{sets}
use Rattle.model.specs.Scheme.{Scheme}
use Rattle.model.specs.Database.{Database, Lawful}
use Rattle.model.specs.Holding.{Holding}
use Rattle.model.specs.Cache.{RowSet}
use Rattle.model.specs.Runs.{ask, reason, marked, Cache, cached_for}
use Rattle.model.specs.Reason.{is_held, by_value, by_range, has_origin, Chain, by_held, by_constraint, Explains, reason_for}
use Rattle.model.specs.Sentence.{reason_text}
use Rattle.model.specs.Answers.{Answer, absent, explained, unless, or_answer, shown, has_text, text_with, reason_answer}
use Rattle.model.specs.Effects.{effect, reply}
use Rattle.model.proofs.Marks.{marked-marks-is}
use Rattle.model.proofs.RunLaws.{held-smallest}
use Rattle.model.specs.Cell.{Fits}
use Rattle.model.proofs.CellLaws.{equal-same}
use Rattle.model.proofs.DatabaseLaws.{has-Has}
use Rattle.model.proofs.HoldingLaws.{HoldingFits, held-fits, some-range-fits}
use Rattle.model.proofs.ReasonLaws.{leads-live, reason-true, reason-shortest, reason-lowest}
use Rattle.model.proofs.SentenceLaws.{Writable, sentence-once, Counts, reasons-apart}
use Rattle.state.specs.declared.operation.Operation.TheVariants as O
use Rattle.state.specs.Design.{filling_at}
use Rattle.state.specs.Meaning.{scheme_of, database_of, holding_of}
use Rattle.state.specs.Lent.{State, scheme, database, cache, sound, answer_at, words_at, text_at}
use Rattle.lawful.proofs.DesignLaws.{design-says}
use Rattle.lawful.proofs.HeldLaws.{holding-fits}
use Rattle.lawful.proofs.RowsLaws.{Stored, lawful-database}
use Rattle.lawful.proofs.SoundState.{parts, sound-fresh, answer-at, words-at, text-at}
use Rattle.command.specs.declared.command.Command.TheVariants.{Operate}
use Rattle.command.specs.Commands.{command_at}
use Rattle.format.specs.Reading.{Draft, read_design, cells_after, most_bytes}
use Rattle.format.specs.Reading.DesignRead.{accepted}
use Rattle.format.proofs.Small.{Small}
use Rattle.state.specs.declared.design.Design.{Design}
use Rattle.run.specs.Moments.{Action, Moment}
use Rattle.run.specs.Runs.{left_from}
use Rattle.script.specs.JustRead.{Buffers, reading_of, just_read}
use Rattle.script.proofs.JustRead.{into-parts}
use Rattle.run.proofs.Tracking.{Tracks}
use Rattle.run.proofs.WholeRun.{accepted-short, part}
use Rattle.demands.proofs.Runs.{RowsGiven, called}
use Rattle.script.specs.Step.{Outputs, Stepped, operated, step_at}
use Rattle.demands.specs.Actions.{state_after_all}
use Rattle.demands.specs.Explained.{Explained}
use Rattle.demands.proofs.Stepping.{operate-step}
use Rattle.demands.proofs.Highs.{accepted-highs}

-- what it says that a reason is given
record Given (S : Scheme) (D : Database) (c : Cache) (r room n : ℕ) : Type 0 where
  live : D.live r ≡ true
  cached : marked c.marks r ≡ true
  enough : length (reason_text S D c.held r) ≤ room
  bytes : n ≡ length (reason_text S D c.held r)

given : (S : Scheme) (D : Database) (c : Cache) (r room n : ℕ) → reason_answer S D c r room ≡ explained n → Given S D c r room n
unfolding reason_answer
given S D c r room n = go (D.live r) (marked c.marks r) (ltb room (length (reason_text S D c.held r))) refl refl refl
  where
    go : (x y z : Bool) → D.live r ≡ x → marked c.marks r ≡ y → ltb room (length (reason_text S D c.held r)) ≡ z →
        unless (not x) 5 (or_answer (not y) absent (unless z 11 (explained (length (reason_text S D c.held r))))) ≡ explained n → Given S D c r room n
    go false y z a b d e = absurd (let w : ◌≡◌ {A = ℕ} 0 1 = cc in omega arith)
    go true false z a b d e = absurd (let w : ◌≡◌ {A = ℕ} 0 1 = cc in omega arith)
    go true true true a b d e = absurd (let w : ◌≡◌ {A = ℕ} 0 1 = cc in omega arith)
    go true true false a b d e = record { live = a; cached = b; enough = ltb-false _ _ d; bytes = cc }

-- In a sound state. Numbers are u32 and issues u8, as their types say.
module _ (s : State) (e : sound s ≡ true) (u : Stored s.cells) (highs : (f : ℕ) → (filling_at s.design f).high < 2 ^ 32) where
  abbrev S : Scheme
  S = scheme s

  abbrev D : Database
  D = database s

  counts : Counts S D
  unfolding scheme_of database_of
  counts =
      let w = design-says s.design (parts s e).design in
      record {
        constraints = omega (arith, w.constraints);
        fillings = omega (arith, w.fillings);
        rows = omega arith;
        candidates = λ f l. omega (arith, highs f);
      }

  -- the marked rows are those that are cached for what is held
  marked-is : marked (cache s).marks ≡ cached_for S D (holding_of s.held)
  marked-is =
      let Y = cached_for S D (holding_of s.held) in
      ap marked (sound-fresh s e).reloaded ∙ marked-marks-is D Y (held-smallest S D (holding_of s.held)).meets.rows

  module _ (r room n : ℕ) (a : answer_at s (ask (reason r room)) ≡ explained n) where
    replied : reason_answer S D (cache s) r room ≡ explained n
    unfolding effect reply
    replied = sym (answer-at s e (ask (reason r room))) ∙ a

    has : Given S D (cache s) r room n
    has = given S D (cache s) r room n replied

    text-is : text_at s (ask (reason r room)) ≡ reason_text S D (holding_of s.held) r
    unfolding effect reply text_with has_text shown
    text-is =
        text-at s e (ask (reason r room)) ∙ ap (λ (x : Answer). text_with x (reason_text S D (holding_of s.held) r)) replied

    -- THEOREM. 02, Req 08: "Report 0x18 with a row u16 prints .. The chain is a shortest one; among those take the lowest last constraint, then the lowest row it
    -- comes from, and so on back, then the lowest filling, value and issue. Each link is a true demand in the full tables, and two different chains never give one
    -- sentence." In a sound state, where a reason of n bytes is answered, there is a chain of which the text is the sentence.
    pub reason-explained : (c : Chain) × Explained s r n (text_at s (ask (reason r room))) c × (n ≤ room)
    unfolding reason_text
    reason-explained =
        let h = holding_of s.held in
        let t = reason-true S D h r (sym (ap (λ (X : RowSet). X r) marked-is) ∙ has.cached) in (
          reason_for S D h r,
          record {
            text = text-is;
            bytes = has.bytes ∙ sym (ap length text-is);
            live = has.live;
            cached = has.cached;
            demands = t;
            shortest = reason-shortest S D h r;
            lowest = reason-lowest S D h r;
            apart = λ q x l y z.
                reasons-apart S D h counts (lawful-database s.design s.cells s.tables (parts s e).rows u) (holding-fits s.design s.held (parts s e).held)
                q r x (reason_for S D h r) l has.live y t (z ∙ text-is);
          },
          omega (arith, has.enough, has.bytes),
        )

  -- THEOREM: the same of a step of a script that is not over-long, at a place where 0x18 stands: the bytes lent for text have the sentence from the first on, and all
  -- others are as they were
  pub reason-step : (out : Outputs) (script : List ℕ) (j r n : ℕ) → length script ≤ most_bytes → command_at script j ≡ Operate (O.Reason r) →
      (step_at s out script j).answer ≡ explained n →
      (c : Chain) × (t : List ℕ) × Explained s r n t c × (n ≤ length out.text) × ((step_at s out script j).outputs.text ≡ sets out.text 0 t) ×
      ((step_at s out script j).outputs.words ≡ out.words)
  unfolding operated effect
  reason-step out script j r n l at a =
      let done = operate-step s out script j (O.Reason r) e l at in
      let o = ask (reason r (length out.text)) in
      let x = reason-explained r (length out.text) n (sym (ap (λ (R : Stepped). R.answer) done) ∙ a) in (
        x.0,
        text_at s o,
        x.1,
        x.2,
        ap (λ (R : Stepped). R.outputs.text) done,
        ap (λ (R : Stepped). R.outputs.words) done ∙ ap (sets out.words 0) (none r (length out.text)),
      )
    where
      none : (r room : ℕ) → words_at s (ask (reason r room)) ≡ []
      none r room = words-at s e (ask (reason r room))

-- ---- two states

-- a chain that explains a row of a lawful database can be written
writable : (S : Scheme) (D : Database) (h : Holding) → Counts S D → Lawful S D → HoldingFits S h → (r : ℕ) (c : Chain) → Explains S D h r c → Writable c
unfolding Explains Writable is_held has_origin
writable S D h n lawful fits r (by_held (by_value o)) e =
    let v = has-Has D _ _ r e.1 in
    let q = subst Fits (equal-same _ o.value v.value) (lawful.cells r _ v.live) in
    let f = held-fits S h fits o e.0 in
    (omega (arith, n.fillings), omega (arith, q.number), omega (arith, q.issue))
writable S D h n lawful fits r (by_held (by_range q)) e =
    let f = some-range-fits S h fits q e.0 in
    let l = n.candidates q.filling f.filling in
    (omega (arith, n.fillings, f.filling), omega (arith, f.full, f.high), omega (arith, f.high))
writable S D h n lawful fits r (by_constraint i s c) e =
    (omega (arith, e.0, n.constraints), omega (arith, D.finite s (leads-live D _ s r e.1), n.rows), writable S D h n lawful fits s c e.2)

-- THEOREM. 02, Req 08: "two different chains never give one sentence". Two reasons that are given, of any rows in any two sound states, whatever their designs, have one text
-- only if they are of one row and by one chain
pub reasons-differ : (s : State) (e : sound s ≡ true) (u : Stored s.cells) (highs : (f : ℕ) → (filling_at s.design f).high < 2 ^ 32) →
    (t : State) (d : sound t ≡ true) (w : Stored t.cells) (tops : (f : ℕ) → (filling_at t.design f).high < 2 ^ 32) →
    (r q n m : ℕ) (text : List ℕ) (a b : Chain) → Explained s r n text a → Explained t q m text b → (r ≡ q) × (a ≡ b)
reasons-differ s e u highs t d w tops r q n m text a b x y =
    let i = counts s e u highs in
    let j = counts t d w tops in
    let k = (database s).finite r x.live in
    let l = (database t).finite q y.live in
    sentence-once r q a b (omega (arith, k, i.rows)) (omega (arith, l, j.rows))
    (writable (scheme s) (database s) (holding_of s.held) i (lawful-database s.design s.cells s.tables (parts s e).rows u) (holding-fits s.design s.held (parts s e).held) r a x.demands)
    (writable (scheme t) (database t) (holding_of t.held) j (lawful-database t.design t.cells t.tables (parts t d).rows w) (holding-fits t.design t.held (parts t d).held) q b y.demands)
    (sym x.text ∙ y.text)

-- ---- runs: the numbers of an accepted design are u32, as its script is bytes

pub run-highs : (script : List ℕ) → ((j : ℕ) → get_or script j 0 < 256) → (p : Draft) (i : ℕ) → read_design script ≡ accepted p i → (b : Buffers) (m : Moment) (e : State) →
    Tracks p b m e → (f : ℕ) → (filling_at e.design f).high < 2 ^ 32
run-highs script bytes p i read b m e t f = subst (λ (d : Design). (filling_at d f).high < 2 ^ 32) (sym t.design) (accepted-highs script bytes p i read f)

-- A design just read. A script is bytes, a number is below 2 ^ 32 and an issue below 2 ^ 8, as their types say.
module _ (script : List ℕ) (small : Small script) (b : Buffers) (p : Draft) (i : ℕ) (read : reading_of script b ≡ accepted p i)
    (stored : Stored (cells_after (accepted p i) b.cells)) where
  -- THEOREM: the same behind any list of calls
  pub calls-explained : (acts : List Action) → RowsGiven acts → (r room n : ℕ) →
      answer_at (state_after_all (just_read (accepted p i) b) acts) (ask (reason r room)) ≡ explained n →
      (c : Chain) × Explained (state_after_all (just_read (accepted p i) b) acts) r n (text_at (state_after_all (just_read (accepted p i) b) acts) (ask (reason r room))) c × (n ≤ room)
  calls-explained acts g r room n a =
      let t = called script small b p i read stored acts g in
      reason-explained _ t.sound t.stored (run-highs script small.at p i (into-parts script b p i read).1 b _ _ t) r room n a

  -- THEOREM: and of the steps of a script: behind its first k commands, the next step is asked for any place j where a 0x18 stands
  pub steps-explained : (k j : ℕ) (out : Outputs) (r n : ℕ) → command_at script j ≡ Operate (O.Reason r) →
      (step_at (left_from k script (just_read (accepted p i) b) b.outputs i).state out script j).answer ≡ explained n →
      (c : Chain) × (t : List ℕ) × Explained (left_from k script (just_read (accepted p i) b) b.outputs i).state r n t c × (n ≤ length out.text) ×
      ((step_at (left_from k script (just_read (accepted p i) b) b.outputs i).state out script j).outputs.text ≡ sets out.text 0 t) ×
      ((step_at (left_from k script (just_read (accepted p i) b) b.outputs i).state out script j).outputs.words ≡ out.words)
  steps-explained k j out r n at a =
      let t = part script small b p i read stored k in
      let w = (into-parts script b p i read).1 in
      reason-step _ t.sound t.stored (run-highs script small.at p i w b _ _ t) out script j r n (accepted-short script p i w) at a
