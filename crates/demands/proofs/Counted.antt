-- 02, Req 04 of what is answered: a probe and a query without joins have the same count. Assumes nothing.
use Prim.Native.Nat.{ℕ, zero, suc, ◌+◌, ◌^◌, ◌≤◌, ◌<◌}
use native.Mathlib.Omega.{arith}
use mathlib.Core.Path.{◌≡◌, refl, sym, ap, ap₂, subst, ◌∙◌}
use mathlib.Core.Bool.{Bool, true, false, not, cond, ◌&&◌, and-eq-true_iff}
use mathlib.Core.List.{List, [], ◌∷◌, ◌++◌, append_assoc}
use mathlib.Core.Logic.{◌≢◌, ⊎_elim}
use borrow.Author.Tests.{lt-ltb, eqb-true, ne_eqb, le-leb}
use lib.Dec.{eqb, ltb, lit<}
use lib.ListN.{length, get_or, take, length-append}
use Rattle.finite.specs.Finite.{count, collect}
use Rattle.finite.proofs.Bools.{dec, clash, or_left}
use Rattle.model.specs.Cell.{Cell, numberless, numbered, blank, amount}
use Rattle.model.specs.Scheme.{Column, Scheme, is_column}
use Rattle.model.specs.Database.{Database, has}
use Rattle.model.specs.Cache.{RowSet}
use Rattle.model.specs.Probe as Probe
use Rattle.model.specs.Probe.{cached_rows}
use Rattle.model.specs.Holding.{held_in}
use Rattle.model.specs.Query.{Query, operands_fit, extend, fitting, words_of, full_lists, joins_of, position_fits, total_over, full_total}
use Rattle.model.specs.Opener.{is_open}
use Rattle.model.specs.Runs.{ask, probe, as_lists, query, output_fits, within_limit, taken, pair_for, marked, Cache, Output, as_total}
use Rattle.model.specs.Answers.{Answer, sent, ground, lists, unless, or_answer, shown, Yes, query_ground, is_answered, full_answer, query_answer, has_lists, written_with, query_words, total}
use Rattle.model.specs.Effects.{effect}
use Rattle.model.specs.Demand.{Groundless, Unrefused}
use Rattle.model.proofs.CountedRows.{fitting-alone, lists-alone}
use Rattle.state.specs.Lent.{State, scheme, database, cache, sound, answer_at, state_after, words_at}
use Rattle.lawful.proofs.RowsLaws.{Stored, lawful-database}
use Rattle.lawful.proofs.SoundState.{parts, sound-smallest, answer-at, words-at, sound-after}
use Rattle.demands.proofs.Demand2.{carries, queried-exactly, counted-exactly}
use Rattle.script.proofs.StepLaws.{after-cache}
use Rattle.demands.proofs.Queries.{groundless-if, unrefused-both}
use Rattle.demands.proofs.Openers.{open-yes}
use Rattle.finite.proofs.Sums.{over-most}
use Rattle.finite.proofs.Counting.{count-le}
use Rattle.model.proofs.Demand2.{fits-operands}
use Rattle.state.specs.Meaning.{cell_of, cell_at, database_of}

-- ---- lists of one row each

words_append : (xs ys : List (List ℕ)) → words_of (xs ++ ys) ≡ words_of xs ++ words_of ys
unfolding words_of
words_append [] ys = refl
words_append (x ∷ xs) ys = ap (λ (zs : List ℕ). x ++ zs) (words_append xs ys) ∙ sym (append_assoc x (words_of xs) (words_of ys))

one_word : (n : ℕ) (p : ℕ → Bool) → length (words_of (collect n p (λ r. (r ∷ []) ∷ []))) ≡ count n p
unfolding collect count words_of
one_word zero p = refl
one_word (suc n) p =
    ap length (words_append (collect n p (λ r. (r ∷ []) ∷ [])) _) ∙ length-append (words_of (collect n p (λ r. (r ∷ []) ∷ []))) _ ∙
    ap₂ ◌+◌ (one_word n p) (one (p n))
  where
    one : (b : Bool) → length (words_of (cond b ((n ∷ []) ∷ []) [])) ≡ cond b 1 0
    one true = refl
    one false = refl

words-alone : (S : Scheme) (D : Database) (X : RowSet) (k : Column) (v : Cell) → length (words_of (fitting S D X k v [])) ≡ cached_rows D X k v
unfolding fitting extend cached_rows
words-alone S D X k v = one_word D.size (λ r. X r && has D k v r)

full-words-alone : (S : Scheme) (D : Database) (q : Query) → q.joins ≡ 0 → length (words_of (full_lists S D q)) ≡ length (full_lists S D q)
unfolding full_lists
full-words-alone S D q z =
    let X = D.live in
    ap (λ (n : ℕ). length (words_of (fitting S D X q.column q.value (take n q.pairs)))) z ∙ words-alone S D X q.column q.value ∙
    sym (fitting-alone S D X q.column q.value) ∙ ap (λ (n : ℕ). length (fitting S D X q.column q.value (take n q.pairs))) (sym z)

-- a question that none of its causes refuses, and that is not sent
goes : (a b y w : Bool) (n : ℕ) (x : Answer) → a ≡ true → b ≡ false → y ≡ true → w ≡ true → unless (not a) 5 (unless b 9 (or_answer (not y) sent (unless (not w) n x))) ≡ x
goes true false true true n x p q r t = refl
goes false b y w n x p q r t = clash {b = false} p refl
goes true true y w n x p q r t = clash {b = true} refl q
goes true false false w n x p q r t = clash {b = false} r refl
goes true false true false n x p q r t = clash {b = false} t refl

shut_none : (S : Scheme) (D : Database) (c : Cache) (k : Column) (v : Cell) → is_open S D k v c ≡ false → Probe.probe S D (held_in S c.held) (marked c.marks) k v ≡ 0
unfolding is_open
shut_none S D c k v a =
    ⊎_elim (λ (q : eqb found 0 ≡ true). eqb-true found 0 q) (λ (q : eqb found 0 ≡ false). clash (ap not q) a) (dec (eqb found 0))
  where
    found : ℕ
    found = Probe.probe S D (held_in S c.held) (marked c.marks) k v

module _ (s : State) (e : sound s ≡ true) (u : Stored s.cells) (q : Query) (z : q.joins ≡ 0) where
  abbrev S : Scheme
  S = scheme s

  abbrev D : Database
  D = database s

  abbrev c : Cache
  c = cache s

  -- THEOREM. 02, Req 04: "Every yes from the search through cached rows, ground 1's too, shall carry how many cached rows of the probed table have the value in the probed
  -- column .. Queries and totals stand on the same search and must agree with its count: a query without joins has exactly that many lists." Where a PROBE answers
  -- a ground with n rows, a QUERY of that column and value without joins, whose operands fit and for which n words are lent at the least, answers n lists on the
  -- same state, and writes n words
  pub probe-counts : (g n : ℕ) → answer_at s (ask (probe q.column q.value)) ≡ ground g n → operands_fit S q ≡ true → (room : ℕ) → n ≤ room →
      (answer_at s (query q (as_lists room)) ≡ lists n) × (length (words_at s (query q (as_lists room))) ≡ n)
  unfolding effect query_answer is_answered output_fits within_limit full_answer query_ground query_words written_with has_lists shown
  probe-counts g n h f room l =
      let x = carries S D c q.column q.value g n (sym (answer-at s e (ask (probe q.column q.value))) ∙ h) in
      let count : length (full_lists S D q) ≡ n =
      lists-alone (lawful-database s.design s.cells s.tables (parts s e).rows u) c (sound-smallest s e) q f x.ground z ∙ x.rows in
      let wide : length (words_of (full_lists S D q)) ≡ n = full-words-alone S D q z ∙ count in
      let answered : is_answered S D c q ≡ true = sym (or_left (not (eqb (query_ground S D c q) 0)) (taken S c.held (pair_for S q)) (ap not (ne_eqb _ 0 x.ground))) in
      let within : within_limit S D q (as_lists room) ≡ true = le-leb (length (words_of (full_lists S D q))) room (omega (arith, wide, l)) in
      let is : query_answer S D c q (as_lists room) ≡ lists (length (full_lists S D q)) = goes (operands_fit S q) (numberless q.value) (is_answered S D c q) _ 11 _ f x.full answered within in (
        answer-at s e (query q (as_lists room)) ∙ is ∙ ap lists count,
        ap length (words-at s e (query q (as_lists room)) ∙ ap (λ (a : Answer). written_with a (words_of (full_lists S D q))) is) ∙ wide,
      )

  -- behind a query or a total that is answered, the probe has a ground
  answered-yes : (o : Output) → Unrefused (answer_at s (query q o)) → answer_at s (query q o) ≢ sent → Yes (answer_at (state_after s (query q o)) (ask (probe q.column q.value)))
  unfolding operands_fit
  answered-yes o r f =
      let d = queried-exactly s e u q o r in
      let t = state_after s (query q o) in
      let w = unrefused-both S D c q o (subst Unrefused d.0 r) in
      let col : is_column S q.column ≡ true = ((and-eq-true_iff (is_column S q.column) _).0 (fits-operands S q o w.0)).0 in
      ⊎_elim (λ (a : is_open S D q.column q.value (cache t) ≡ true). open-yes t (sound-after s e (query q o)) q.column q.value col w.1 a)
      (λ (a : is_open S D q.column q.value (cache t) ≡ false).
      absurd (f (d.0 ∙ d.1.backend.1 (subst (λ (b : Cache). Groundless S D b q.column q.value) (after-cache s e (query q o))
      (groundless-if S D (cache t) q.column q.value (shut_none S D (cache t) q.column q.value a))))))
      (dec (is_open S D q.column q.value (cache t)))

  -- THEOREM: and where such a QUERY is answered with lists, referred first or not, a PROBE of the value, asked afterwards, is a yes that carries as many rows
  pub query-counts : (room : ℕ) → Unrefused (answer_at s (query q (as_lists room))) → answer_at s (query q (as_lists room)) ≢ sent →
      (g : ℕ) × (n : ℕ) × (answer_at s (query q (as_lists room)) ≡ lists n) × (answer_at (state_after s (query q (as_lists room))) (ask (probe q.column q.value)) ≡ ground g n)
  query-counts room r f =
      let y = answered-yes (as_lists room) r f in
      (y.0, y.1, counted-exactly s e u q room z r f y.0 y.1 y.2, y.2)

  -- ---- totals

  -- the cells are u32 numbers, so a total without joins is far below the limit
  cell_below : (r c : ℕ) → (D.cell r c).number < 2 ^ 32
  unfolding database_of blank
  cell_below r c = either (ltb c 8) (cell_of (cell_at s.cells r c)) (u.number _)
    where
      either : (b : Bool) (a : Cell) → a.number < 2 ^ 32 → (cond b a (numbered 0)).number < 2 ^ 32
      either true a e = e
      either false a e = lit< tt

  total-below : (i c : ℕ) → length (full_lists S D q) ≤ 512 → full_total S D q i c < 2 ^ 64
  unfolding full_total total_over full_lists amount
  total-below i c l =
      let t = over-most (λ rs. (D.cell (get_or rs i 0) c).number) (2 ^ 32) (full_lists S D q) (λ x m. let b = cell_below (get_or x i 0) c in omega (arith, b)) in
      omega (arith, t, l)

  few-rows : (X : RowSet) (k : Column) (v : Cell) → cached_rows D X k v ≤ 512
  unfolding cached_rows database_of
  few-rows X k v = count-le 512 (λ r. X r && has D k v r)

  -- THEOREM. 02, Req 04: "Queries and totals stand on the same search and must agree with its count". Where a PROBE answers a ground with n rows, a total of that column and
  -- value without joins, whose operands fit, is answered on the same state, and adds up n lists
  pub probe-totals : (g n : ℕ) → answer_at s (ask (probe q.column q.value)) ≡ ground g n → (i j : ℕ) → output_fits S q (as_total i j) ≡ true →
      (answer_at s (query q (as_total i j)) ≡ total (full_total S D q i j)) × (length (full_lists S D q) ≡ n)
  unfolding effect query_answer is_answered output_fits within_limit full_answer query_ground
  probe-totals g n h i j f =
      let x = carries S D c q.column q.value g n (sym (answer-at s e (ask (probe q.column q.value))) ∙ h) in
      let w = (and-eq-true_iff (operands_fit S q) (position_fits S q i j)).0 f in
      let rows = lists-alone (lawful-database s.design s.cells s.tables (parts s e).rows u) c (sound-smallest s e) q w.0 x.ground z in
      let few = few-rows (marked c.marks) q.column q.value in
      let answered : is_answered S D c q ≡ true = sym (or_left (not (eqb (query_ground S D c q) 0)) (taken S c.held (pair_for S q)) (ap not (ne_eqb _ 0 x.ground))) in
      let within : within_limit S D q (as_total i j) ≡ true = lt-ltb (full_total S D q i j) (2 ^ 64) (total-below i j (omega (arith, rows, few))) in (
        answer-at s e (query q (as_total i j)) ∙ goes (output_fits S q (as_total i j)) (numberless q.value) (is_answered S D c q) _ 13 _ f x.full answered within,
        rows ∙ x.rows,
      )

  -- THEOREM: and where such a total is answered, referred first or not, a PROBE of the value, asked afterwards, is a yes that carries as many rows as the lists that it adds up
  pub total-counts : (i j : ℕ) → Unrefused (answer_at s (query q (as_total i j))) → answer_at s (query q (as_total i j)) ≢ sent →
      (g : ℕ) × (answer_at (state_after s (query q (as_total i j))) (ask (probe q.column q.value)) ≡ ground g (length (full_lists S D q)))
  unfolding effect
  total-counts i j r f =
      let o = query q (as_total i j) in
      let d = queried-exactly s e u q (as_total i j) r in
      let t = state_after s o in
      let y = answered-yes (as_total i j) r f in
      let X = marked (cache t).marks in
      let k = carries (scheme t) (database t) (cache t) q.column q.value y.0 y.1 (sym (answer-at t (sound-after s e o) (ask (probe q.column q.value))) ∙ y.2) in
      let lists : full_lists S D q ≡ fitting S D X q.column q.value (joins_of q) =
      d.1.cached (λ v. f (d.0 ∙ v)) ∙ ap (λ (b : Cache). fitting S D (marked b.marks) q.column q.value (joins_of q)) (sym (after-cache s e o)) in
      let count : length (full_lists S D q) ≡ y.1 =
      ap length lists ∙ ap (λ (m : ℕ). length (fitting S D X q.column q.value (take m q.pairs))) z ∙ fitting-alone S D X q.column q.value ∙ k.rows in
      (y.0, y.2 ∙ ap (ground y.0) (sym count))
