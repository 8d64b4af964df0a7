-- Demand 2 of each query and total, at every moment of a run, with the words lent, on the tables of that moment. Assumes nothing.
use Prim.Native.Nat.{ℕ, ◌+◌, ◌≤◌}
use native.Mathlib.Omega.{arith}
use mathlib.Core.Path.{◌≡◌, refl, sym, ap, subst, ◌∙◌}
use mathlib.Core.Bool.{Bool, true, false, not, and-eq-true_iff}
use mathlib.Core.List.{List, []}
use mathlib.Core.Logic.{◌≢◌}
use lib.ListN.{length, get_or, take}
use lib.Seq.{sets}
use Rattle.finite.specs.Sums.{sum_over}
use Rattle.model.specs.Cell.{Cell, numberless, amount}
use Rattle.model.specs.Scheme.{Column, Scheme}
use Rattle.model.specs.Database.{Database}
use Rattle.model.specs.Cache.{RowSet, Inside}
use Rattle.model.specs.Probe as Probe
use Rattle.model.specs.Probe.{lowest}
use Rattle.model.specs.Holding.{held_in}
use Rattle.model.specs.Query.{Query, joins_of, operands_fit, position_fits, fitting, words_of, full_lists, total_over, full_total}
use Rattle.model.specs.Runs as Runs
use Rattle.model.specs.Runs.{Output, as_lists, as_total, query, output_fits, within_limit, marked, Cache}
use Rattle.model.specs.Answers.{Answer, sent, lists, total, unless, or_answer, shown, has_lists, full_answer, limit_cause, is_answered, query_answer, written_with, query_words}
use Rattle.model.specs.Effects.{effect, cache_after}
use Rattle.model.specs.Demand.{Groundless, Unrefused, full_words, Demand2}
use Rattle.model.proofs.QueryLaws.{operands-joins, fitting-reads, probe-reads}
use Rattle.model.proofs.Demand2.{fits-operands}
use Rattle.state.specs.Meaning.{scheme_of, holding_of}
use Rattle.state.specs.Lent.{State, database, cache, answer_at, state_after, words_at}
use Rattle.lawful.proofs.HeldLaws.{holding-back}
use Rattle.lawful.proofs.RowsLaws.{Stored}
use Rattle.lawful.proofs.SoundState.{words-at}
use Rattle.state.specs.declared.operation.Operation.{Operation}
use Rattle.command.specs.declared.command.Command.TheVariants.{Operate}
use Rattle.command.specs.Bytes.{byte_at}
use Rattle.command.specs.Commands.{command_at, width_of}
use Rattle.format.specs.Reading.{Draft, cells_after, most_bytes}
use Rattle.format.specs.Reading.DesignRead.{accepted}
use Rattle.format.proofs.Small.{Small}
use Rattle.run.specs.Moments.{Action, operation, Moment, tables_at, moment_after}
use Rattle.script.specs.Step.{Outputs, rooms_of, operation_in, Stepped, operated, step_at}
use Rattle.run.specs.Runs.{left_from, rooms_in, moment_with, moment_at}
use Rattle.script.specs.JustRead.{Buffers, reading_of, just_read}
use Rattle.model.proofs.SameRows.{SameRows, same_back, same-on, lists-same, total-same}
use Rattle.script.proofs.StepLaws.{after-cache}
use Rattle.run.proofs.Tracking.{Tracks, same, point, operated-tracks}
use Rattle.demands.proofs.Demand2.{queried-exactly}
use Rattle.script.proofs.JustRead.{into-parts}
use Rattle.run.proofs.WholeRun.{accepted-short, part}
use Rattle.demands.proofs.Runs.{RowsGiven, called}
use Rattle.demands.specs.Actions.{state_after_all}
use Rattle.demands.specs.Queried.{cache_at, Queried}
use Rattle.demands.proofs.Stepping.{operate-step}

-- ---- no ground

none_of : (a b c : Bool) → lowest a b c ≡ 0 → (a ≡ false) × (b ≡ false) × (c ≡ false)
none_of true b c e = absurd (omega (arith, e))
none_of false true c e = absurd (omega (arith, e))
none_of false false true e = absurd (omega (arith, e))
none_of false false false e = (refl, refl, refl)

module _ (S : Scheme) (D : Database) (c : Cache) (k : Column) (v : Cell) where
  abbrev found : ℕ
  found = Probe.probe S D (held_in S c.held) (marked c.marks) k v

  pub groundless-if : found ≡ 0 → Groundless S D c k v
  unfolding Probe.probe
  groundless-if e = let n = none_of _ _ _ e in record { held = n.0; demanded = n.1; seen = n.2 }

  pub groundless-says : Groundless S D c k v → found ≡ 0
  unfolding Probe.probe
  groundless-says g = λ i. lowest (g.held i) (g.demanded i) (g.seen i)

-- ---- databases with the same rows

module _ (S : Scheme) {D E : Database} (w : SameRows D E) where
  groundless-same : (c : Cache) → Inside (marked c.marks) D.live → (k : Column) (v : Cell) → Groundless S D c k v → Groundless S E c k v
  groundless-same c i k v g =
      groundless-if S E c k v (sym (probe-reads S (held_in S c.held) (same-on S w (marked c.marks) i) k v) ∙ groundless-says S D c k v g)

  fitting-same : (X : RowSet) → Inside X D.live → (q : Query) → operands_fit S q ≡ true →
      fitting S D X q.column q.value (joins_of q) ≡ fitting S E X q.column q.value (joins_of q)
  fitting-same X i q f = fitting-reads S (same-on S w X i) q.column q.value (joins_of q) (operands-joins S q f)

  answer-same : (q : Query) (o : Output) → output_fits S q o ≡ true → full_answer S D q o ≡ full_answer S E q o
  unfolding full_answer output_fits
  answer-same q (as_lists room) f = ap (λ (ls : List (List ℕ)). lists (length ls)) (lists-same S w q f)
  answer-same q (as_total p c) f = let h = (and-eq-true_iff (operands_fit S q) (position_fits S q p c)).0 f in ap total (total-same S w q p c h.0 h.1)

  words_same : (q : Query) (o : Output) → output_fits S q o ≡ true → full_words S D q o ≡ full_words S E q o
  unfolding full_words output_fits
  words_same q (as_lists room) f = ap words_of (lists-same S w q f)
  words_same q (as_total p c) f = refl

-- ---- a query that isn't refused has its operands and a value, and one that is sent writes no word

pub unrefused-both : (S : Scheme) (D : Database) (c : Cache) (q : Query) (o : Output) → Unrefused (query_answer S D c q o) → (output_fits S q o ≡ true) × (numberless q.value ≡ false)
unfolding query_answer
unrefused-both S D c q o u = go (output_fits S q o) (numberless q.value) u
  where
    go : (a b : Bool) →
        Unrefused (unless (not a) 5 (unless b 9 (or_answer (not (is_answered S D c q)) sent (unless (not (within_limit S D q o)) (limit_cause o) (full_answer S D q o))))) →
        (a ≡ true) × (b ≡ false)
    go true false u = (refl, refl)
    go false b u = absurd (u 5 refl)
    go true true u = absurd (u 9 refl)

sent-writes : (S : Scheme) (D : Database) (c : Cache) (q : Query) (o : Output) → query_answer S D c q o ≡ sent → query_words S D c q o ≡ []
unfolding query_words written_with has_lists shown
sent-writes S D c q o e = ap (λ (a : Answer). written_with a (words_of (full_lists S D q))) e

-- ---- at a moment of a run

module _ (p : Draft) (b : Buffers) (m : Moment) (e : State) (t : Tracks p b m e) where
  abbrev S : Scheme
  S = scheme_of p.design

  cache-is : cache e ≡ cache_at m e
  cache-is = λ i. record { held = (ap holding_of t.held ∙ holding-back m.held t.standing.fits) i; marks = take 512 e.marks }

  inside : Inside (marked (take 512 e.marks)) (tables_at m).live
  inside = (point p b m e t).demand3.smallest.meets.rows

-- of every state of a run
module _ (p : Draft) (b : Buffers) (m : Moment) (e : State) (t : Tracks p b m e) (q : Query) (o : Output) (u : Unrefused (answer_at e (query q o))) where
  abbrev T : Database
  T = tables_at m

  abbrev D : Database
  D = database e

  abbrev Z : Scheme
  Z = scheme_of p.design

  abbrev m' : Moment
  m' = moment_after Z m (operation (query q o))

  abbrev e' : State
  e' = state_after e (query q o)

  abbrev c : Cache
  c = cache_at m e

  abbrev c' : Cache
  c' = cache_at m' e'

  abbrev x : Answer
  x = answer_at e (query q o)

  both-are : (x ≡ query_answer Z D c q o) × Demand2 Z D c q o
  both-are =
      subst (λ (y : Scheme × Cache). (x ≡ query_answer y.0 D y.1 q o) × Demand2 y.0 D y.1 q o)
      (λ i. (ap scheme_of t.design i, cache-is p b m e t i)) (queried-exactly e t.sound t.stored q o u)

  is : x ≡ query_answer Z D c q o
  is = both-are.0

  d : Demand2 Z D c q o
  d = both-are.1

  t' : Tracks p b m' e'
  t' = operated-tracks p b m e t (query q o)

  tables-stay : tables_at m' ≡ T
  unfolding moment_after
  tables-stay = refl

  after_is : cache_after Z D c (query q o) ≡ c'
  after_is =
      (λ i. cache_after (sym (ap scheme_of t.design) i) D (sym (cache-is p b m e t) i) (query q o)) ∙ sym (after-cache e t.sound (query q o)) ∙
      cache-is p b m' e' t'

  fits : output_fits Z q o ≡ true
  fits = (unrefused-both Z D c q o (subst Unrefused is u)).0

  w : SameRows T D
  w = same p b m e t

  inside-after : Inside (marked (take 512 e'.marks)) T.live
  inside-after = subst (λ (B : Database). Inside (marked (take 512 e'.marks)) B.live) tables-stay (inside p b m' e' t')

  live-too : (X : RowSet) → Inside X T.live → Inside X D.live
  live-too X h r y = sym (w.live r) ∙ h r y

  goes : x ≢ sent → query_answer Z D c q o ≢ sent
  goes n y = n (is ∙ y)

  words_are : words_at e (query q o) ≡ query_words Z D c q o
  unfolding effect
  words_are = words-at e t.sound (query q o) ∙ (λ i. query_words (ap scheme_of t.design i) D (cache-is p b m e t i) q o)

  lists-cached : x ≢ sent → full_lists Z T q ≡ fitting Z T (marked (take 512 e'.marks)) q.column q.value (joins_of q)
  lists-cached n =
      lists-same Z w q (fits-operands Z q o fits) ∙ d.cached (goes n) ∙
      ap (λ (y : Cache). fitting Z D (marked y.marks) q.column q.value (joins_of q)) after_is ∙
      sym (fitting-same Z w (marked (take 512 e'.marks)) inside-after q (fits-operands Z q o fits))

  pub queried : (ws : List ℕ) → Queried p m m' e e' q o x ws (sets ws 0 (words_at e (query q o)))
  unfolding full_total total_over full_lists
  queried ws =
      record {
        backend = (
          λ y. groundless-same Z (same_back w) c' (live-too _ inside-after) q.column q.value
              (subst (λ (a : Cache). Groundless Z D a q.column q.value) after_is (d.backend.0 (sym is ∙ y))),
          λ g. is ∙ d.backend.1 (subst (λ (a : Cache). Groundless Z D a q.column q.value) (sym after_is)
              (groundless-same Z w c' inside-after q.column q.value g)),
        );
        unreferred = (
          λ y. let z = d.unreferred.0 (sym is ∙ y) in
              (groundless-same Z (same_back w) c (live-too _ (inside p b m e t)) q.column q.value z.0, z.1),
          λ z. is ∙ d.unreferred.1 (groundless-same Z w c (inside p b m e t) q.column q.value z.0, z.1),
        );
        answer = λ n. is ∙ d.answer (goes n) ∙ sym (answer-same Z w q o fits);
        words = λ n. ap (sets ws 0) (words_are ∙ d.words (goes n) ∙ sym (words_same Z w q o fits));
        untouched = λ y. ap (sets ws 0) (words_are ∙ sent-writes Z D c q o (sym is ∙ y));
        cached = lists-cached;
        summed = λ n i k y. ap (sum_over (λ rs. amount (T.cell (get_or rs i 0) k))) (lists-cached n);
      }

-- ---- runs

-- a step that asks a query or a total, at a moment of a run
pub step-queried : (p : Draft) (b : Buffers) (m : Moment) (e : State) (t : Tracks p b m e) (out : Outputs) (script : List ℕ) (j : ℕ) (op : Operation) (q : Query) (o : Output) →
    length script ≤ most_bytes → command_at script j ≡ Operate op → operation_in op (rooms_of out) ≡ query q o → (r : Stepped) → r ≡ step_at e out script j →
    Unrefused r.answer → Queried p m (moment_after (scheme_of p.design) m (operation (query q o))) e r.state q o r.answer out.words r.outputs.words
unfolding operated
step-queried p b m e t out script j op q o l c is r at u =
    let done : r ≡ operated e out op j (j + width_of (byte_at script j)) = at ∙ operate-step e out script j op t.sound l c in
    let answers : r.answer ≡ answer_at e (query q o) = ap (λ (x : Stepped). x.answer) done ∙ ap (answer_at e) is in
    let leaves : r.state ≡ state_after e (query q o) = ap (λ (x : Stepped). x.state) done ∙ ap (state_after e) is in
    let writes : r.outputs.words ≡ sets out.words 0 (words_at e (query q o)) =
    ap (λ (x : Stepped). x.outputs.words) done ∙ ap (λ (y : Runs.Operation). sets out.words 0 (words_at e y)) is in
    subst (λ (y : State × Answer × List ℕ). Queried p m (moment_after (scheme_of p.design) m (operation (query q o))) e y.0 q o y.1 out.words y.2)
    (λ i. (sym leaves i, sym answers i, sym writes i)) (queried p b m e t q o (subst Unrefused answers u) out.words)

-- A design just read. A script is bytes, a number is below 2 ^ 32 and an issue below 2 ^ 8, as their types say.
module _ (script : List ℕ) (small : Small script) (b : Buffers) (p : Draft) (i : ℕ) (read : reading_of script b ≡ accepted p i)
    (stored : Stored (cells_after (accepted p i) b.cells)) where
  -- THEOREM. Demand 2: a question that isn't refused is sent if and only if the probing rule finds no ground; otherwise its list equals the list from the full tables, in
  -- order, and is read from cached rows only; 02, Req 02: "Demand 2, its probe as well as its match with the full tables, is judged on the cache
  -- after the reference, and runs may mix queries with loads, drops and probes"; Req 03: "The sum is the one over the full tables, and is read from cached rows
  -- only, in the sense that lists are"; Req 12: "What must hold at every point of a run is judged on the tables of that moment". Behind any list of calls, with any
  -- words lent
  pub calls-queried : (acts : List Action) → RowsGiven acts → (q : Query) (o : Output) → Unrefused (answer_at (state_after_all (just_read (accepted p i) b) acts) (query q o)) →
      (w : List ℕ) →
      Queried p (moment_with p acts) (moment_after (scheme_of p.design) (moment_with p acts) (operation (query q o))) (state_after_all (just_read (accepted p i) b) acts)
      (state_after (state_after_all (just_read (accepted p i) b) acts) (query q o)) q o (answer_at (state_after_all (just_read (accepted p i) b) acts) (query q o)) w
      (sets w 0 (words_at (state_after_all (just_read (accepted p i) b) acts) (query q o)))
  calls-queried acts g q o u w = queried p b (moment_with p acts) _ (called script small b p i read stored acts g) q o u w

  -- THEOREM: the same of the steps of a script: behind its first n commands, the next step is asked for any place j where a query or a total stands
  pub steps-queried : (n j : ℕ) (out : Outputs) (op : Operation) (q : Query) (o : Output) → command_at script j ≡ Operate op → operation_in op (rooms_of out) ≡ query q o →
      Unrefused (step_at (left_from n script (just_read (accepted p i) b) b.outputs i).state out script j).answer →
      Queried p (moment_at n script p (rooms_in b) i) (moment_after (scheme_of p.design) (moment_at n script p (rooms_in b) i) (operation (query q o)))
      (left_from n script (just_read (accepted p i) b) b.outputs i).state
      (step_at (left_from n script (just_read (accepted p i) b) b.outputs i).state out script j).state q o
      (step_at (left_from n script (just_read (accepted p i) b) b.outputs i).state out script j).answer out.words
      (step_at (left_from n script (just_read (accepted p i) b) b.outputs i).state out script j).outputs.words
  steps-queried n j out op q o c is u =
      step-queried p b (moment_at n script p (rooms_in b) i) _ (part script small b p i read stored n) out script j op q o
      (accepted-short script p i (into-parts script b p i read).1) c is _ refl u
