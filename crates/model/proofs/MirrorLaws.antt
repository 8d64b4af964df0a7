-- A run over a slice that stays enough is the run over the whole database: the same is held, the same rows are cached, and probes, queries and totals answer the
-- same. A limit that a query passes in a slice it passes in the database, whatever the slice lacks. Assumes nothing.
use Prim.Native.Nat.{ℕ, zero, suc, ◌≤◌, ◌^◌}
use native.Mathlib.Omega.{arith}
use mathlib.Core.Path.{◌≡◌, refl, sym, ap, ap₂, subst, ◌∙◌, fun_ext}
use mathlib.Core.Logic.{◌≢◌, ⊎_elim}
use mathlib.Core.Bool.{Bool, true, false, not, cond, ◌&&◌, ◌||◌, and-false, or-true, and-eq-true_iff}
use mathlib.Core.List.{List, [], ◌∷◌, ◌++◌, map}
use borrow.Author.Tests.{ltb-false, le-ltb, leb-false, lt-leb}
use lib.Dec.{eqb, leb, ltb}
use lib.ListN.{length, get_or, length-append, length-map}
use Rattle.finite.specs.Finite.{collect}
use Rattle.finite.specs.Sums.{sum_over}
use Rattle.finite.proofs.Bools.{both, clash, dec, refute}
use Rattle.finite.proofs.Sums.{over-same, over_ones, over-append}
use Rattle.model.specs.Cell.{Cell, amount, numberless}
use Rattle.model.specs.Scheme.{Column, Scheme, is_column}
use Rattle.model.specs.Database.{Database, Lawful, has}
use Rattle.model.specs.Cache.{RowSet, Inside, Smallest}
use Rattle.model.specs.Probe as Probe
use Rattle.model.specs.Holding.{desks, Holding, with_desk, holds, with_pair, without_pair, holds_range, with_range, without_range, held_in}
use Rattle.model.specs.Query.{Join, Query, joins_of, joins_fit, operands_fit, position_fits, join_value, extend, fitting, words_of, full_lists, total_over, full_total}
use Rattle.model.specs.Runs.{probe, Output, as_lists, as_total, Operation, refer, drop, ask, query, name, refer_range, drop_range, taken, range_taken, pair_for, output_fits, within_limit, answerable, refers, marks, marked, Cache, empty_cache, reloaded}
use Rattle.model.specs.Answers.{Answer, sent, unless, or_answer, ground_of, query_ground, is_answered, full_answer, limit_cause, query_answer, query_words, shown, has_lists, written_with}
use Rattle.model.specs.Effects.{effect, cache_after, cache_from, reply}
use Rattle.model.specs.Demand.{FillingsApart, Unrefused, Demand2}
use Rattle.model.specs.Slice.{Slice, InOrder, in_full}
use Rattle.model.specs.Mirror.{Mirrors, EnoughFor, EnoughAlong}
use Rattle.model.proofs.ProbeLaws.{probe-sent}
use Rattle.model.proofs.QueryLaws.{choose, target, operands-joins}
use Rattle.model.proofs.ListLaws.{fitting-exactly, fitting-length}
use Rattle.model.proofs.TotalLaws.{fitting-chosen, position-within}
use Rattle.model.proofs.Loads.{one-smallest}
use Rattle.model.proofs.Marks.{marked-marks}
use Rattle.model.proofs.RunLaws.{Sound, empty-sound, step-sound, reload-sound}
use Rattle.model.proofs.Referring.{full-answers}
use Rattle.model.proofs.Demand2.{fits-operands, demand2}
use Rattle.model.proofs.Numbering.{map-append, map_at}
use Rattle.model.proofs.SliceLaws.{full-says, slice-lawful, slice-smallest, slice-ground, slice_rows, fitting-sum, slice-sums, slice-lists}

-- ---- fewer rows, fewer lists

module _ {A : Type 0} (u : A → ℕ) where
  sum_more : (n : ℕ) (p q : ℕ → Bool) (f g : ℕ → List A) → ((r : ℕ) → p r ≡ true → q r ≡ true) → ((r : ℕ) → sum_over u (f r) ≤ sum_over u (g r)) →
      sum_over u (collect n p f) ≤ sum_over u (collect n q g)
  unfolding collect sum_over
  sum_more zero p q f g h k = omega arith
  sum_more (suc n) p q f g h k = go (p n) (q n) (h n) (sum_more n p q f g h k)
    where
      go : (a b : Bool) → (a ≡ true → b ≡ true) → sum_over u (collect n p f) ≤ sum_over u (collect n q g) →
          sum_over u (collect n p f ++ cond a (f n) []) ≤ sum_over u (collect n q g ++ cond b (g n) [])
      go true true e m = omega (arith, k n, over-append u (collect n p f) (f n), over-append u (collect n q g) (g n))
      go true false e m = clash (e refl) refl
      go false b e m = omega (arith, over-append u (collect n p f) [], over-append u (collect n q g) (cond b (g n) []))

module _ (S : Scheme) (B : Database) (X Y : RowSet) (more : Inside X Y) (u : List ℕ → ℕ) where
  chosen_more : (k : Column) (v : Cell) (r : ℕ) → choose B X k v r ≡ true → choose B Y k v r ≡ true
  chosen_more k v r e = let q = (and-eq-true_iff (X r) (has B k v r)).0 e in both (more r q.0) q.1

  extend-more : (rs : List ℕ) (js : List Join) → sum_over u (extend S B X rs js) ≤ sum_over u (extend S B Y rs js)
  unfolding extend
  extend-more rs [] = omega arith
  extend-more rs (j ∷ js) =
      sum_more u B.size (choose B X (target S j) (join_value S B rs j)) (choose B Y (target S j) (join_value S B rs j))
      (λ r. extend S B X (rs ++ (r ∷ [])) js) (λ r. extend S B Y (rs ++ (r ∷ [])) js)
      (chosen_more (target S j) (join_value S B rs j)) (λ r. extend-more (rs ++ (r ∷ [])) js)

  fitting-more : (k : Column) (v : Cell) (js : List Join) → sum_over u (fitting S B X k v js) ≤ sum_over u (fitting S B Y k v js)
  unfolding fitting
  fitting-more k v js =
      sum_more u B.size (choose B X k v) (choose B Y k v) (λ r. extend S B X (r ∷ []) js) (λ r. extend S B Y (r ∷ []) js) (chosen_more k v) (λ r. extend-more (r ∷ []) js)

-- ---- limits

words-sum : (ls : List (List ℕ)) → length (words_of ls) ≡ sum_over length ls
unfolding words_of sum_over
words-sum [] = refl
words-sum (x ∷ xs) = omega (arith, length-append x (words_of xs), words-sum xs)

words-map : (at : ℕ → ℕ) (ls : List (List ℕ)) → words_of (map (map at) ls) ≡ map at (words_of ls)
unfolding words_of
words-map at [] = refl
words-map at (x ∷ xs) = ap (λ (ys : List ℕ). map at x ++ ys) (words-map at xs) ∙ sym (map-append at x (words_of xs))

module _ {at : ℕ → ℕ} {D B : Database} (P : Slice at D B) (S : Scheme) (q : Query) where
  -- what is added up over the lists from the slice's tables, under the database's numbers
  abbrev here : (List ℕ → ℕ) → ℕ
  here u = sum_over (λ ys. u (map at ys)) (full_lists S D q)

  abbrev there : (List ℕ → ℕ) → ℕ
  there u = sum_over u (full_lists S B q)

  words-here : length (words_of (full_lists S D q)) ≡ here length
  words-here = words-sum (full_lists S D q) ∙ over-same length (λ ys. length (map at ys)) (full_lists S D q) (λ ys m. sym (length-map ys at))

  total_here : (p c : ℕ) → p ≤ length (joins_of q) → full_total S D q p c ≡ here (λ rs. amount (B.cell (get_or rs p 0) c))
  unfolding full_total total_over full_lists
  total_here p c h =
      over-same (λ rs. amount (D.cell (get_or rs p 0) c)) (λ rs. amount (B.cell (get_or (map at rs) p 0) c)) (fitting S D D.live q.column q.value (joins_of q))
      (λ xs a. let f = (fitting-exactly S D D.live q.column q.value (joins_of q) xs).0 a in
      let x = fitting-chosen S D D.live q.column q.value (joins_of q) xs f p h in
      sym (ap amount (ap (λ (r : ℕ). B.cell r c) (map_at at xs p (omega (arith, fitting-length S D D.live q.column q.value (joins_of q) xs f))) ∙ P.cell (get_or xs p 0) c x)))

  total-there : (p c : ℕ) → full_total S B q p c ≡ there (λ rs. amount (B.cell (get_or rs p 0) c))
  unfolding full_total total_over full_lists
  total-there p c = refl

  position : (p c : ℕ) → output_fits S q (as_total p c) ≡ true → p ≤ length (joins_of q)
  unfolding output_fits
  position p c f = position-within S q p c ((and-eq-true_iff (operands_fit S q) (position_fits S q p c)).0 f).1

  -- the slice's lists are among the database's
  fewer-here : joins_fit S (q.column.table ∷ []) (joins_of q) ≡ true → (u : List ℕ → ℕ) → here u ≤ there u
  unfolding full_lists
  fewer-here f u =
      omega (
        arith,
        fitting-sum P (λ r l. l) S u q.column q.value (joins_of q) f,
        fitting-more S B (in_full at D D.live) B.live
            (λ s x. let g = full-says at D D.live s x in subst (λ (t : ℕ). B.live t ≡ true) g.number (P.live g.row g.cached))
            u q.column q.value (joins_of q),
      )

  -- THEOREM: what passes the limit in the slice passes it in the database
  pub slice-limit : (out : Output) → output_fits S q out ≡ true → within_limit S D q out ≡ false → within_limit S B q out ≡ false
  unfolding within_limit
  slice-limit (as_lists room) f e =
      let a = fewer-here (operands-joins S q (fits-operands S q (as_lists room) f)) length in
      lt-leb (length (words_of (full_lists S B q))) room (omega (arith, leb-false (length (words_of (full_lists S D q))) room e, words-here, words-sum (full_lists S B q)))
  slice-limit (as_total p c) f e =
      let a = fewer-here (operands-joins S q (fits-operands S q (as_total p c) f)) (λ rs. amount (B.cell (get_or rs p 0) c)) in
      le-ltb (full_total S B q p c) (2 ^ 64) (omega (arith, ltb-false (full_total S D q p c) (2 ^ 64) e, total_here p c (position p c f), total-there p c))

  -- where the lists are the same, the limit and the answer are
  module _ (same : (u : List ℕ → ℕ) → there u ≡ here u) where
    limit-same : (out : Output) → output_fits S q out ≡ true → within_limit S B q out ≡ within_limit S D q out
    unfolding within_limit
    limit-same (as_lists room) f = ap (λ (n : ℕ). leb n room) (words-sum (full_lists S B q) ∙ same length ∙ sym words-here)
    limit-same (as_total p c) f = ap (λ (n : ℕ). ltb n (2 ^ 64)) (total-there p c ∙ same (λ rs. amount (B.cell (get_or rs p 0) c)) ∙ sym (total_here p c (position p c f)))

    answer-same : (out : Output) → output_fits S q out ≡ true → full_answer S B q out ≡ full_answer S D q out
    unfolding full_answer
    answer-same (as_lists room) f = ap Answer.lists (sym (over_ones (full_lists S B q)) ∙ same (λ ys. 1) ∙ over_ones (full_lists S D q))
    answer-same (as_total p c) f = ap Answer.total (total-there p c ∙ same (λ rs. amount (B.cell (get_or rs p 0) c)) ∙ sym (total_here p c (position p c f)))

and_last : (a b : Bool) → b ≡ false → a && b ≡ false
and_last a b e = ap (λ (x : Bool). a && x) e ∙ and-false a

within_same : (n : ℕ) {x y : Answer} (a b : Bool) → a ≡ b → (b ≡ true → x ≡ y) → unless (not a) n x ≡ unless (not b) n y
within_same n {x} {y} a true e h = ap (λ (t : Bool). unless (not t) n x) e ∙ h refl
within_same n {x} {y} a false e h = ap (λ (t : Bool). unless (not t) n x) e

-- ---- mirrored caches

-- the rows as one row set
rows_same : {at : ℕ → ℕ} {D : Database} {c b : Cache} → Mirrors at D c b → marked b.marks ≡ in_full at D (marked c.marks)
rows_same M = fun_ext M.rows

module _ {at : ℕ → ℕ} {D B : Database} (P : Slice at D B) {S : Scheme} {c b : Cache} (s : Sound S D c) (M : Mirrors at D c b) where
  probe-same : (k : Column) (v : Cell) → Probe.probe S B (held_in S b.held) (marked b.marks) k v ≡ Probe.probe S D (held_in S c.held) (marked c.marks) k v
  probe-same k v =
      ap₂ (λ (h : Holding) (X : RowSet). Probe.probe S B (held_in S h) X k v) M.held (rows_same M) ∙ slice-ground P s.meets.rows S (held_in S c.held) k v

  -- THEOREM: a probe answers the same
  pub mirror-probe : (k : Column) (v : Cell) → (reply S B b (probe k v)).answer ≡ (reply S D c (probe k v)).answer
  unfolding reply
  mirror-probe k v =
      ap₂ (λ (g n : ℕ). unless (not (is_column S k)) 5 (unless (numberless v) 9 (ground_of g n))) (probe-same k v)
      (ap (λ (X : RowSet). Probe.cached_rows B X k v) (rows_same M) ∙ slice_rows P s.meets.rows k v)

  module _ (w : Lawful S B) (apart : FillingsApart S) (q : Query) (out : Output) (n : EnoughFor S at D B (cache_after S D c (query q out))) where
    abbrev after : Cache
    after = cache_after S D c (query q out)

    -- a query that is answered has the same lists
    answered-same : Unrefused (query_answer S D c q out) → query_answer S D c q out ≢ sent → operands_fit S q ≡ true → (query_ground S D after q ≢ 0) ×
        ((u : List ℕ → ℕ) → there P S q u ≡ here P S q u)
    unfolding query_ground full_lists
    answered-same u y f = (g, λ x. slice-sums P w t n q.column q.value (joins_of q) (operands-joins S q f) g x ∙ ap (sum_over (λ ys. x (map at ys))) (sym (d.cached y)))
      where
        d : Demand2 S D c q out
        d = demand2 (slice-lawful P w) apart c s q out u

        t : Sound S D after
        t = step-sound c (query q out) s

        g : query_ground S D after q ≢ 0
        g z = let p = probe-sent S D (held_in S after.held) (marked after.marks) q.column q.value z in y (d.backend.1 (record { held = p.0; demanded = p.1; seen = p.2 }))

    -- it passes all tests
    passes : output_fits S q out ≡ true → numberless q.value ≡ false → is_answered S D c q ≡ true → within_limit S D q out ≡ true → query_answer S D c q out ≡ full_answer S D q out
    unfolding query_answer
    passes f x a y = rw (f, x, a, y)

    answered-lists : output_fits S q out ≡ true → numberless q.value ≡ false → is_answered S D c q ≡ true → within_limit S D q out ≡ true →
        (u : List ℕ → ℕ) → there P S q u ≡ here P S q u
    answered-lists f x a y =
        let e = passes f x a y in
        (answered-same (λ i z. (full-answers S D q out).1 i (sym e ∙ z)) (λ z. (full-answers S D q out).0 (sym e ∙ z)) (fits-operands S q out f)).1

    -- the limit is the same for one that comes to it
    limit-there : output_fits S q out ≡ true → numberless q.value ≡ false → is_answered S D c q ≡ true → within_limit S B q out ≡ within_limit S D q out
    limit-there f x a =
        ⊎_elim (λ y. limit-same P S q (answered-lists f x a y) out f) (λ y. slice-limit P S q out f y ∙ sym y) (dec (within_limit S D q out))

    answered-there : is_answered S B b q ≡ is_answered S D c q
    unfolding is_answered query_ground
    answered-there = ap₂ (λ (g : ℕ) (h : Holding). not (eqb g 0) || taken S h (pair_for S q)) (probe-same q.column q.value) M.held

    -- THEOREM: a query answers the same, and is refused for the same cause
    pub mirror-query : query_answer S B b q out ≡ query_answer S D c q out
    unfolding query_answer
    mirror-query =
        ap (λ (t : Bool). unless (not (output_fits S q out)) 5 (unless (numberless q.value) 9
        (or_answer (not t) sent (unless (not (within_limit S B q out)) (limit_cause out) (full_answer S B q out))))) answered-there ∙
        go (output_fits S q out) (numberless q.value) (is_answered S D c q) (λ f x a.
        within_same (limit_cause out) (within_limit S B q out) (within_limit S D q out) (limit-there f x a) (λ y. answer-same P S q (answered-lists f x a y) out f))
      where
        go : (f x a : Bool) → (f ≡ true → x ≡ false → a ≡ true →
            unless (not (within_limit S B q out)) (limit_cause out) (full_answer S B q out) ≡ unless (not (within_limit S D q out)) (limit_cause out) (full_answer S D q out)) →
            unless (not f) 5 (unless x 9 (or_answer (not a) sent (unless (not (within_limit S B q out)) (limit_cause out) (full_answer S B q out)))) ≡
            unless (not f) 5 (unless x 9 (or_answer (not a) sent (unless (not (within_limit S D q out)) (limit_cause out) (full_answer S D q out))))
        go false x a h = refl
        go true true a h = refl
        go true false false h = refl
        go true false true h = h refl refl refl

    -- where the rows stand in the same order, one that is answered has the same lists in the same order
    lists-there : InOrder at D → Unrefused (query_answer S D c q out) → query_answer S D c q out ≢ sent → operands_fit S q ≡ true →
        full_lists S B q ≡ map (map at) (full_lists S D q)
    unfolding full_lists query_ground
    lists-there up u y f =
        slice-lists P w (step-sound c (query q out) s) n q.column q.value (joins_of q) (operands-joins S q f) (answered-same u y f).0 up ∙
        ap (map (map at)) (sym ((demand2 (slice-lawful P w) apart c s q out u).cached y))

    -- an answer with lists is no refusal and is not sent
    with-lists : has_lists (query_answer S D c q out) ≡ true → Unrefused (query_answer S D c q out) × (query_answer S D c q out ≢ sent) × (operands_fit S q ≡ true)
    unfolding has_lists shown query_answer
    with-lists e = (
      λ i z. clash e (ap has_lists z),
      λ z. clash e (ap has_lists z),
      fits-operands S q out
          (⊎_elim (λ x. x) (λ x. clash e (ap (λ (t : Bool). has_lists (unless (not t) 5 (unless (numberless q.value) 9
          (or_answer (not (is_answered S D c q)) sent (unless (not (within_limit S D q out)) (limit_cause out) (full_answer S D q out)))))) x)) (dec (output_fits S q out))),
    )

    -- THEOREM: and a query writes the same words, under the database's numbers
    pub mirror-words : InOrder at D → query_words S B b q out ≡ map at (query_words S D c q out)
    unfolding query_words written_with
    mirror-words up =
        ap (λ (a : Answer). cond (has_lists a) (words_of (full_lists S B q)) []) mirror-query ∙
        ⊎_elim
        (λ (e : has_lists (query_answer S D c q out) ≡ true).
        let l = with-lists e in
        rw e (ap words_of (lists-there up l.0 l.1 l.2) ∙ words-map at (full_lists S D q)))
        (λ (e : has_lists (query_answer S D c q out) ≡ false). rw e)
        (dec (has_lists (query_answer S D c q out)))

    -- it refers its pair there exactly if it does so here
    refers-there : refers S B b.held (marked b.marks) q out ≡ refers S D c.held (marked c.marks) q out
    unfolding refers answerable is_answered query_ground
    refers-there =
        ap₂ (λ (g : ℕ) (h : Holding). (output_fits S q out && (not (numberless q.value) && within_limit S B q out)) && (eqb g 0 && taken S h (pair_for S q)))
        (probe-same q.column q.value) M.held ∙
        go (output_fits S q out) (numberless q.value) (eqb (Probe.probe S D (held_in S c.held) (marked c.marks) q.column q.value) 0) (taken S c.held (pair_for S q))
        (within_limit S B q out) (within_limit S D q out) limit-there
      where
        go : (f x z t a d : Bool) → (f ≡ true → x ≡ false → not z || t ≡ true → a ≡ d) → (f && (not x && a)) && (z && t) ≡ (f && (not x && d)) && (z && t)
        go false x z t a d h = refl
        go true true z t a d h = refl
        go true false z false a d h = and_last a (z && false) (and-false z) ∙ sym (and_last d (z && false) (and-false z))
        go true false z true a d h = ap (λ (e : Bool). e && (z && true)) (h refl refl (or-true (not z)))

-- ---- runs

held-cond : (x : Bool) (c d : Cache) → (cond x c d).held ≡ cond x c.held d.held
held-cond true c d = refl
held-cond false c d = refl

module _ {at : ℕ → ℕ} {D B : Database} (P : Slice at D B) {S : Scheme} (w : Lawful S B) (apart : FillingsApart S) where
  -- what an operation leaves held is the same
  held-there : {c b : Cache} → Sound S D c → Mirrors at D c b → (o : Operation) → EnoughFor S at D B (cache_after S D c o) →
      (cache_after S B b o).held ≡ (cache_after S D c o).held
  unfolding effect
  held-there {c} {b} s M (refer p) n =
      held-cond (taken S b.held p) _ b ∙ ap (λ (h : Holding). cond (taken S h p) (with_pair h p) h) M.held ∙ sym (held-cond (taken S c.held p) _ c)
  held-there {c} {b} s M (drop p) n =
      held-cond (holds b.held p) _ b ∙ ap (λ (h : Holding). cond (holds h p) (without_pair h p) h) M.held ∙ sym (held-cond (holds c.held p) _ c)
  held-there s M (ask q) n = M.held
  held-there {c} {b} s M (query q out) n =
      held-cond (refers S B b.held (marked b.marks) q out) _ b ∙
      ap₂ (λ (x : Bool) (h : Holding). cond x (with_pair h (pair_for S q)) h) (refers-there P s M w apart q out n) M.held ∙
      sym (held-cond (refers S D c.held (marked c.marks) q out) _ c)
  held-there {c} {b} s M (name d) n =
      held-cond (ltb d desks) _ b ∙ ap (λ (h : Holding). cond (ltb d desks) (with_desk h d) h) M.held ∙ sym (held-cond (ltb d desks) _ c)
  held-there {c} {b} s M (refer_range r) n =
      held-cond (range_taken S b.held r) _ b ∙ ap (λ (h : Holding). cond (range_taken S h r) (with_range h r) h) M.held ∙ sym (held-cond (range_taken S c.held r) _ c)
  held-there {c} {b} s M (drop_range r) n =
      held-cond (holds_range b.held r) _ b ∙ ap (λ (h : Holding). cond (holds_range h r) (without_range h r) h) M.held ∙ sym (held-cond (holds_range c.held r) _ c)

  -- sound caches that hold the same, where the slice is enough, have the same rows cached
  sound-mirrors : {c b : Cache} → Sound S D c → Sound S B b → b.held ≡ c.held → EnoughFor S at D B c → Mirrors at D c b
  sound-mirrors {c} {b} s t e n =
      record {
        held = e;
        rows = one-smallest (subst (λ (h : Holding). Smallest S B (held_in S h) (marked b.marks)) e t) (slice-smallest P s n);
      }

  -- THEOREM: an operation leaves the same held and the same rows cached
  pub mirror-step : {c b : Cache} → Sound S D c → Sound S B b → Mirrors at D c b → (o : Operation) → EnoughFor S at D B (cache_after S D c o) →
      Mirrors at D (cache_after S D c o) (cache_after S B b o)
  mirror-step {c} {b} s t M o n = sound-mirrors (step-sound c o s) (step-sound b o t) (held-there s M o n) n

  -- THEOREM: so does a run, after each operation of which the slice is enough
  pub mirror-run : {c b : Cache} → Sound S D c → Sound S B b → Mirrors at D c b → (os : List Operation) → EnoughAlong S at D B c os →
      Mirrors at D (cache_from S D c os) (cache_from S B b os)
  unfolding cache_from EnoughAlong
  mirror-run s t M [] n = M
  mirror-run {c} {b} s t M (o ∷ os) n = mirror-run {c = cache_after S D c o} {b = cache_after S B b o} (step-sound c o s) (step-sound b o t) (mirror-step s t M o n.0) os n.1

  -- nothing is cached at first
  empty-mirrors : Mirrors at D (empty_cache D) (empty_cache B)
  unfolding empty_cache
  empty-mirrors =
      record {
        held = refl;
        rows = λ s. marked-marks B (λ _. false) (λ r e. clash e refl) s ∙ sym (refute (in_full at D (marked (marks D (λ _. false))) s) (λ e.
            let f = full-says at D (marked (marks D (λ _. false))) s e in clash f.cached (marked-marks D (λ _. false) (λ r x. clash x refl) f.row)));
      }

  -- THEOREM: a run from the empty cache over the slice is that over the database
  pub mirror-from-empty : (os : List Operation) → EnoughAlong S at D B (empty_cache D) os → Mirrors at D (cache_from S D (empty_cache D) os) (cache_from S B (empty_cache B) os)
  mirror-from-empty os n = mirror-run (empty-sound S D) (empty-sound S B) empty-mirrors os n

  -- THEOREM: another slice that is enough may take the place of this one: the cache that it loads for what is held mirrors the same cache of the database
  pub mirror-reload : {b : Cache} → Sound S B b → EnoughFor S at D B (reloaded S D b.held) → Mirrors at D (reloaded S D b.held) b
  mirror-reload {b} t n = sound-mirrors (reload-sound S D b.held) t refl n
