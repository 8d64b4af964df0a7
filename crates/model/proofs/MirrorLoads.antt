-- Loads and drops over a slice answer what they answer over the whole database: the same rows come in the same rounds, and the same rows go. For levels are distances
-- (`RoundsLaws.antt`), and a chain of demands from a row of the database that is cached lies in the slice. Assumes nothing.
use Prim.Native.Nat.{ℕ, zero, suc, ◌+◌, ◌≤◌, ◌<◌}
use native.Mathlib.Nat.{add-zero, add-suc, add_comm}
use native.Mathlib.Omega.{arith}
use mathlib.Core.Path.{◌≡◌, refl, sym, ap, ap₂, subst, ◌∙◌, fun_ext}
use mathlib.Core.Bool.{Bool, true, false, not, cond, ◌&&◌, ◌||◌, and-eq-true_iff}
use mathlib.Core.List.{List, [], ◌∷◌}
use borrow.Author.Tests.{eqb-true, eq-eqb, ltb-true, lt-ltb}
use lib.Dec.{eqb, ltb}
use Rattle.finite.specs.Finite.{any, count}
use Rattle.finite.specs.Sums.{sum_over}
use Rattle.finite.proofs.Bools.{both, bool-ext, clash, refute}
use Rattle.finite.proofs.Search.{any-true, any_found}
use Rattle.finite.proofs.Counting.{count_same}
use Rattle.model.specs.Cell.{Cell, numberless}
use Rattle.model.specs.Scheme.{Column, Scheme, candidate}
use Rattle.model.specs.Database.{Database, has, Lawful}
use Rattle.model.specs.Cache.{RowSet, Inside, Held, Smallest}
use Rattle.model.specs.Rounds.{level, reached, load, added_rows, later_rounds}
use Rattle.model.specs.Ranges.{Range, has_range, is_range, only_candidates}
use Rattle.model.specs.Holding.{Pair, Holding, holds, has_room, without_pair, holds_range, covers_range, has_range_room, without_range, held_in}
use Rattle.model.specs.Runs.{probe, evenness, smallest_knot, opener, reason, Operation, refer, drop, ask, query, name, refer_range, drop_range, taken, range_taken, marks, marked, Cache, referred, referred_range, reloaded, refer_levels, range_levels, reload_levels}
use Rattle.model.specs.Answers.{Answer, loaded, held, no_candidate, dropped, unless, or_answer}
use Rattle.model.specs.Effects.{effect, cache_after, reply, answer}
use Rattle.model.specs.Demand.{FillingsApart}
use Rattle.model.specs.Slice.{Slice, in_full, Enough}
use Rattle.model.specs.Mirror.{Mirrors, EnoughFor, from_slice}
use Rattle.model.proofs.Closed.{Demand, Closed, constraints-closed}
use Rattle.model.proofs.Loads.{one-smallest, Wants, load-smallest, one-wants}
use Rattle.model.proofs.Marks.{marked-marks-is}
use Rattle.model.proofs.RangesHeld.{range-more, range-wants}
use Rattle.model.proofs.RunLaws.{Sound, held_more, held-smallest}
use Rattle.model.proofs.MirrorLaws.{mirror-probe, mirror-query}
use Rattle.model.proofs.RoundsLaws.{Distances, reached-level, level-reached, load-bound, load-distances}
use Rattle.model.proofs.Numbering.{numbered-so, sum-numbers, sum_same, count-sum}
use Rattle.model.proofs.SliceLaws.{full-says, at-full, has_there, has_here, slice-smallest}

-- ---- counting under other numbers

-- past n none passes
count_past : (n m : ℕ) (p : ℕ → Bool) → ((i : ℕ) → n ≤ i → p i ≡ false) → count (n + m) p ≡ count n p
unfolding count
count_past n zero p h = ap (λ (k : ℕ). count k p) (add-zero n)
count_past n (suc m) p h =
    ap (λ (k : ℕ). count k p) (add-suc n m) ∙ omega (arith, count_past n m p h, ap (λ (b : Bool). count (n + m) p + cond b 1 0) (h (n + m) (omega arith)))

-- two bounds past which none passes
count-bounds : (n m : ℕ) (p : ℕ → Bool) → ((i : ℕ) → n ≤ i → p i ≡ false) → ((i : ℕ) → m ≤ i → p i ≡ false) → count n p ≡ count m p
count-bounds n m p h k = sym (count_past n m p h) ∙ ap (λ (j : ℕ). count j p) (add_comm n m) ∙ count_past m n p k

module _ {at : ℕ → ℕ} {D B : Database} (P : Slice at D B) where
  -- rows of the slice, counted there
  count-there : (p : ℕ → Bool) → Inside p D.live → (q : ℕ → Bool) → ((s : ℕ) → q s ≡ numbered-so at p D.size s) → count B.size q ≡ count D.size p
  unfolding sum_over
  count-there p ins q h =
      count_same B.size q (numbered-so at p D.size) (λ s l. h s) ∙ count-sum B.size (numbered-so at p D.size) ∙
      sum-numbers (λ r. 1) at p (λ r. r ∷ []) (λ r s a b. P.apart r s (ins r a) (ins s b)) D.size B.size (λ r l a. B.finite (at r) (P.live r (ins r a))) ∙
      sum_same (λ r. 1) (λ r. 1) D.size p (λ r. at r ∷ []) (λ r. r ∷ []) (λ r t. refl) ∙ sym (count-sum D.size p)

  -- a cached row is cached there exactly if it is here
  in-full : (X : RowSet) → Inside X D.live → (r : ℕ) → D.live r ≡ true → in_full at D X (at r) ≡ X r
  in-full X ins r l =
      bool-ext (in_full at D X (at r)) (X r)
      (λ e. let f = full-says at D X (at r) e in subst (λ (n : ℕ). X n ≡ true) (P.apart f.row r (ins f.row f.cached) l f.number) f.cached)
      (at-full at D X ins r)

  demand-there : {S : Scheme} {s r : ℕ} → Demand S D s r → Demand S B (at s) (at r)
  demand-there d = record { number = d.number; exists = d.exists; value = d.value; source = has_there P d.source; target = has_there P d.target }

  demand-here : {S : Scheme} {s r : ℕ} → D.live s ≡ true → D.live r ≡ true → Demand S B (at s) (at r) → Demand S D s r
  demand-here l m d = record { number = d.number; exists = d.exists; value = d.value; source = has_here P l d.source; target = has_here P m d.target }

  -- ---- levels

  module _ {S : Scheme} (old : RowSet) (seed seed' : RowSet) (C : Closed S D old) (C' : Closed S B (in_full at D old))
      (I : Inside seed D.live) (I' : Inside seed' B.live) (seeds : (r : ℕ) → D.live r ≡ true → seed' (at r) ≡ seed r)
      (same : (s : ℕ) → reached (load S B (in_full at D old) seed') s ≡ in_full at D (reached (load S D old seed)) s)
      (rows : Inside (reached (load S D old seed)) D.live) where
    abbrev here : List ℕ
    here = load S D old seed

    abbrev there : List ℕ
    there = load S B (in_full at D old) seed'

    dh : Distances S D old seed here
    dh = load-distances S D old seed C I

    dt : Distances S B (in_full at D old) seed' there
    dt = load-distances S B (in_full at D old) seed' C' I'

    -- a row with a level is the slice's
    alive : (r : ℕ) → 0 < level here r → D.live r ≡ true
    alive r p = rows r (level-reached here r p)

    -- and has one there
    level-there : (r : ℕ) → 0 < level here r → 0 < level there (at r)
    level-there r p = reached-level there (at r) (same (at r) ∙ at-full at D (reached here) rows r (level-reached here r p))

    level-here : (r : ℕ) → D.live r ≡ true → 0 < level there (at r) → 0 < level here r
    level-here r l p = reached-level here r (sym (in-full (reached here) rows r l) ∙ sym (same (at r)) ∙ level-reached there (at r) p)

    up : (m r : ℕ) → level here r ≡ suc m → level there (at r) ≤ suc m
    up zero r e = let o = dh.is-old r e in let q = dt.olds (at r) (at-full at D old C.rows r o) in omega arith
    up (suc zero) r e =
        let l = alive r (omega arith) in
        let q = dt.seeds (at r) (seeds r l ∙ dh.is-seed r e) in
        omega (arith, q.1)
    up (suc (suc m)) r e =
        let f = dh.link r m e in
        let i = up (suc m) f.0 f.1 in
        let q = dt.closed (at f.0) (at r) (level-there f.0 (omega (arith, f.1))) (demand-there f.2) in
        omega (arith, q.1)

    down : (m r : ℕ) → D.live r ≡ true → level there (at r) ≡ suc m → level here r ≤ suc m
    down zero r l e =
        let o = dt.is-old (at r) e in
        let q = dh.olds r (sym (in-full old C.rows r l) ∙ o) in
        omega arith
    down (suc zero) r l e = let q = dh.seeds r (sym (seeds r l) ∙ dt.is-seed (at r) e) in omega (arith, q.1)
    down (suc (suc m)) r l e =
        let f = dt.link (at r) m e in
        let g = full-says at D (reached here) f.0 (sym (same f.0) ∙ level-reached there f.0 (omega (arith, f.1))) in
        let k = rows g.row g.cached in
        let i = down (suc m) g.row k (ap (level there) g.number ∙ f.1) in
        let q = dh.closed g.row r (reached-level here g.row g.cached) (demand-here k l (subst (λ (s : ℕ). Demand S B s (at r)) (sym g.number) f.2)) in
        omega (arith, q.1)

    -- a row has the same level
    level-same : (r : ℕ) → D.live r ≡ true → level there (at r) ≡ level here r
    level-same r l = go (level here r) (level there (at r)) refl refl
      where
        go : (m n : ℕ) → level here r ≡ m → level there (at r) ≡ n → level there (at r) ≡ level here r
        go zero zero e f = f ∙ sym e
        go zero (suc n) e f = let q = level-here r l (omega arith) in absurd (omega arith)
        go (suc m) zero e f = let q = level-there r (omega arith) in absurd (omega arith)
        go (suc m) (suc n) e f = let a = up m r e in let b = down n r l f in omega arith

    -- a row with a level there is a row with it here
    level-says : (s : ℕ) → 0 < level there s → (r : ℕ) × (D.live r ≡ true) × (at r ≡ s) × (level here r ≡ level there s)
    level-says s p =
        let g = full-says at D (reached here) s (sym (same s) ∙ level-reached there s p) in
        let k = rows g.row g.cached in
        (g.row, k, g.number, sym (level-same g.row k) ∙ ap (level there) g.number)

    added-same : added_rows B there ≡ added_rows D here
    unfolding added_rows
    added-same =
        count-there (λ r. ltb 1 (level here r)) (λ r e. alive r (omega (arith, ltb-true 1 (level here r) e))) (λ s. ltb 1 (level there s)) (λ s.
        bool-ext (ltb 1 (level there s)) (numbered-so at (λ r. ltb 1 (level here r)) D.size s)
        (λ e. let p = ltb-true 1 (level there s) e in let q = level-says s (omega arith) in
        any-true D.size (λ r. ltb 1 (level here r) && eqb (at r) s) q.0 (D.finite q.0 q.1) (both (lt-ltb 1 (level here q.0) (omega (arith, q.3))) (eq-eqb _ _ q.2)))
        (λ e. let f = any_found D.size (λ r. ltb 1 (level here r) && eqb (at r) s) e in
        let q = (and-eq-true_iff (ltb 1 (level here f.0)) (eqb (at f.0) s)).0 f.2 in
        let p = ltb-true 1 (level here f.0) q.0 in
        lt-ltb 1 (level there s) (omega (arith, ap (level there) (eqb-true (at f.0) s q.1), level-same f.0 (alive f.0 (omega arith))))))

    rounds-same : later_rounds B there ≡ later_rounds D here
    unfolding later_rounds
    rounds-same =
        count_same B.size (λ n. any B.size (λ s. eqb (level there s) (suc (suc (suc n))))) (λ n. any D.size (λ r. eqb (level here r) (suc (suc (suc n))))) (λ n l. round n) ∙
        count-bounds B.size D.size (λ n. any D.size (λ r. eqb (level here r) (suc (suc (suc n)))))
        (λ n l. sym (round n) ∙ refute (any B.size (λ s. eqb (level there s) (suc (suc (suc n))))) (λ e.
        let f = any_found B.size (λ s. eqb (level there s) (suc (suc (suc n)))) e in
        omega (arith, eqb-true (level there f.0) (suc (suc (suc n))) f.2, load-bound S B (in_full at D old) seed' C' I' f.0)))
        (λ n l. refute (any D.size (λ r. eqb (level here r) (suc (suc (suc n))))) (λ e.
        let f = any_found D.size (λ r. eqb (level here r) (suc (suc (suc n)))) e in
        omega (arith, eqb-true (level here f.0) (suc (suc (suc n))) f.2, load-bound S D old seed C I f.0)))
      where
        round : (n : ℕ) → any B.size (λ s. eqb (level there s) (suc (suc (suc n)))) ≡ any D.size (λ r. eqb (level here r) (suc (suc (suc n))))
        round n =
            bool-ext (any B.size (λ s. eqb (level there s) (suc (suc (suc n))))) (any D.size (λ r. eqb (level here r) (suc (suc (suc n)))))
            (λ e. let f = any_found B.size (λ s. eqb (level there s) (suc (suc (suc n)))) e in
            let p = eqb-true (level there f.0) (suc (suc (suc n))) f.2 in
            let q = level-says f.0 (omega arith) in
            any-true D.size (λ r. eqb (level here r) (suc (suc (suc n)))) q.0 (D.finite q.0 q.1) (eq-eqb _ _ (q.3 ∙ p)))
            (λ e. let f = any_found D.size (λ r. eqb (level here r) (suc (suc (suc n)))) e in
            let p = eqb-true (level here f.0) (suc (suc (suc n))) f.2 in
            let l = alive f.0 (omega arith) in
            any-true B.size (λ s. eqb (level there s) (suc (suc (suc n)))) (at f.0) (B.finite (at f.0) (P.live f.0 l)) (eq-eqb _ _ (level-same f.0 l ∙ p)))

-- ---- answers

-- a load's answer by its tests
load-answer : (f n a h r : Bool) {x y : Answer} → (f ≡ true → a ≡ true → h ≡ false → r ≡ true → x ≡ y) →
    unless (not f) 5 (unless n 9 (or_answer (not a) no_candidate (or_answer h held (unless (not r) 8 x)))) ≡
    unless (not f) 5 (unless n 9 (or_answer (not a) no_candidate (or_answer h held (unless (not r) 8 y))))
load-answer false n a h r e = refl
load-answer true true a h r e = refl
load-answer true false false h r e = refl
load-answer true false true true r e = refl
load-answer true false true false false e = refl
load-answer true false true false true e = e refl refl refl refl

range-answer : (f a h r : Bool) {x y : Answer} → (f ≡ true → a ≡ true → h ≡ false → r ≡ true → x ≡ y) →
    unless (not f) 5 (or_answer (not a) no_candidate (or_answer h held (unless (not r) 8 x))) ≡ unless (not f) 5 (or_answer (not a) no_candidate (or_answer h held (unless (not r) 8 y)))
range-answer f a h r e = load-answer f false a h r e

drop-answer : (f n h : Bool) {x y : Answer} → (h ≡ true → x ≡ y) → unless (not f) 5 (unless n 9 (unless (not h) 10 x)) ≡ unless (not f) 5 (unless n 9 (unless (not h) 10 y))
drop-answer false n h e = refl
drop-answer true true h e = refl
drop-answer true false false e = refl
drop-answer true false true e = e refl

module _ {at : ℕ → ℕ} {D B : Database} (P : Slice at D B) {S : Scheme} {c b : Cache} (s : Sound S D c) (t : Sound S B b) (M : Mirrors at D c b) where
  -- the database's cache, by the slice's
  sound-there : Smallest S B (held_in S c.held) (in_full at D (marked c.marks))
  sound-there =
      subst (λ (Y : RowSet). Smallest S B (held_in S c.held) Y) (fun_ext M.rows) (subst (λ (h : Holding). Smallest S B (held_in S h) (marked b.marks)) M.held t)

  -- a load of what N holds more
  module _ {N : Held} {seed seed' : RowSet} (wants : Wants D N seed) (wants' : Wants B N seed') (seeds : (r : ℕ) → D.live r ≡ true → seed' (at r) ≡ seed r)
      (n : Enough S at D B (λ k v. held_in S c.held k v || N k v) (reached (load S D (marked c.marks) seed))) where
    loads-same : (added_rows B (load S B (in_full at D (marked c.marks)) seed') ≡ added_rows D (load S D (marked c.marks) seed)) ×
        (later_rounds B (load S B (in_full at D (marked c.marks)) seed') ≡ later_rounds D (load S D (marked c.marks) seed))
    loads-same =
        (added-same P (marked c.marks) seed seed' C C' I I' seeds same m.meets.rows, rounds-same P (marked c.marks) seed seed' C C' I I' seeds same m.meets.rows)
      where
        m : Smallest S D (λ k v. held_in S c.held k v || N k v) (reached (load S D (marked c.marks) seed))
        m = load-smallest s wants

        same : (x : ℕ) → reached (load S B (in_full at D (marked c.marks)) seed') x ≡ in_full at D (reached (load S D (marked c.marks) seed)) x
        same = one-smallest (load-smallest sound-there wants') (slice-smallest P m n)

        C : Closed S D (marked c.marks)
        C = constraints-closed s.meets.rows s.meets.constraints

        C' : Closed S B (in_full at D (marked c.marks))
        C' = constraints-closed sound-there.meets.rows sound-there.meets.constraints

        I : Inside seed D.live
        I r e = (wants.wanted r e).has.live

        I' : Inside seed' B.live
        I' r e = (wants'.wanted r e).has.live

  has_same : (k : Column) (v : Cell) (r : ℕ) → D.live r ≡ true → has B k v (at r) ≡ has D k v r
  unfolding has
  has_same k v r l = rw (P.live r l, P.table r l, P.cell r k.place l, l)

  range_same : (k : Column) (q : Range) (r : ℕ) → D.live r ≡ true → has_range B k q (at r) ≡ has_range D k q r
  unfolding has_range
  range_same k q r l = rw (P.live r l, P.table r l, P.cell r k.place l, l)

  -- what is read of a cache that was loaded
  read-marks : {H : Held} (Y : RowSet) → Inside Y D.live → Enough S at D B H (marked (marks D Y)) → Enough S at D B H Y
  read-marks {H} Y i n = subst (λ (Z : RowSet). Enough S at D B H Z) (marked-marks-is D Y i) n

  -- THEOREM: REFER answers the same
  pub mirror-refer : (p : Pair) → EnoughFor S at D B (cache_after S D c (refer p)) → answer S B b (refer p) ≡ answer S D c (refer p)
  unfolding effect taken refer_levels
  mirror-refer p n =
      ap₂ (λ (h : Holding) (Y : RowSet). by_refer h B Y) M.held (fun_ext M.rows) ∙
      load-answer (ltb p.filling S.fillings) (numberless p.value) (candidate (S.filling p.filling) p.value) (holds c.held p) (has_room c.held)
      (λ f a h r.
      let e = loads-same (one-wants D col p.value) (one-wants B col p.value) (has_same col p.value)
      (subst (λ (H : Held). Enough S at D B H (reached (load S D (marked c.marks) (has D col p.value)))) (held_more S c.held p)
      (read-marks (reached (load S D (marked c.marks) (has D col p.value))) (load-smallest s (one-wants D col p.value)).meets.rows
      (subst (λ (x : Bool). EnoughFor S at D B (cond x (referred S D c p) c)) (both f (both a (both (ap not h) r))) n))) in
      ap₂ loaded e.0 e.1)
    where
      col : Column
      col = (S.filling p.filling).column

      by_refer : Holding → Database → RowSet → Answer
      by_refer h E Y =
          unless (not (ltb p.filling S.fillings)) 5
          (unless (numberless p.value) 9
          (or_answer (not (candidate (S.filling p.filling) p.value)) no_candidate
          (or_answer (holds h p) held
          (unless (not (has_room h)) 8
          (let L = refer_levels S E Y p in loaded (added_rows E L) (later_rounds E L))))))

  -- THEOREM: a load of a range answers the same
  pub mirror-range : (q : Range) → EnoughFor S at D B (cache_after S D c (refer_range q)) → answer S B b (refer_range q) ≡ answer S D c (refer_range q)
  unfolding effect range_taken range_levels
  mirror-range q n =
      ap₂ (λ (h : Holding) (Y : RowSet). by_range h B Y) M.held (fun_ext M.rows) ∙
      range-answer (is_range S q) (only_candidates S q) (covers_range c.held q) (has_range_room c.held q)
      (λ f a h r.
      let e = loads-same (range-wants S D q) (range-wants S B q) (range_same col q)
      (subst (λ (H : Held). Enough S at D B H (reached (load S D (marked c.marks) (has_range D col q)))) (range-more S c.held q)
      (read-marks (reached (load S D (marked c.marks) (has_range D col q))) (load-smallest s (range-wants S D q)).meets.rows
      (subst (λ (x : Bool). EnoughFor S at D B (cond x (referred_range S D c q) c)) (both f (both a (both (ap not h) r))) n))) in
      ap₂ loaded e.0 e.1)
    where
      col : Column
      col = (S.filling q.filling).column

      by_range : Holding → Database → RowSet → Answer
      by_range h E Y =
          unless (not (is_range S q)) 5
          (or_answer (not (only_candidates S q)) no_candidate
          (or_answer (covers_range h q) held
          (unless (not (has_range_room h q)) 8
          (let L = range_levels S E Y q in loaded (added_rows E L) (later_rounds E L)))))

  -- the rows that go when h is held from then on
  went-same : (h : Holding) → Enough S at D B (held_in S h) (reached (reload_levels S D h)) →
      count B.size (λ x. in_full at D (marked c.marks) x && not (reached (reload_levels S B h) x)) ≡
      count D.size (λ r. marked c.marks r && not (reached (reload_levels S D h) r))
  went-same h n =
      count-there P (λ r. marked c.marks r && not (reached (reload_levels S D h) r)) (λ r e. s.meets.rows r ((and-eq-true_iff (marked c.marks r) _).0 e).0)
      (λ x. in_full at D (marked c.marks) x && not (reached (reload_levels S B h) x)) (λ x.
      bool-ext (in_full at D (marked c.marks) x && not (reached (reload_levels S B h) x))
      (numbered-so at (λ r. marked c.marks r && not (reached (reload_levels S D h) r)) D.size x)
      (λ e. let q = (and-eq-true_iff (in_full at D (marked c.marks) x) _).0 e in
      let f = full-says at D (marked c.marks) x q.0 in
      let l = s.meets.rows f.row f.cached in
      any-true D.size (λ r. (marked c.marks r && not (reached (reload_levels S D h) r)) && eqb (at r) x) f.row (D.finite f.row l)
      (both (both f.cached (ap not (sym (row f.row l)) ∙ ap (λ (y : ℕ). not (reached (reload_levels S B h) y)) f.number ∙ q.1)) (eq-eqb _ _ f.number)))
      (λ e. let f = any_found D.size (λ r. (marked c.marks r && not (reached (reload_levels S D h) r)) && eqb (at r) x) e in
      let q = (and-eq-true_iff (marked c.marks f.0 && not (reached (reload_levels S D h) f.0)) (eqb (at f.0) x)).0 f.2 in
      let a = (and-eq-true_iff (marked c.marks f.0) (not (reached (reload_levels S D h) f.0))).0 q.0 in
      let l = s.meets.rows f.0 a.0 in
      subst (λ (y : ℕ). in_full at D (marked c.marks) y && not (reached (reload_levels S B h) y) ≡ true) (eqb-true (at f.0) x q.1)
      (both (at-full at D (marked c.marks) s.meets.rows f.0 a.0) (ap not (row f.0 l) ∙ a.1))))
    where
      row : (r : ℕ) → D.live r ≡ true → reached (reload_levels S B h) (at r) ≡ reached (reload_levels S D h) r
      row r l =
          one-smallest (held-smallest S B h) (slice-smallest P (held-smallest S D h) n) (at r) ∙
          in-full P (reached (reload_levels S D h)) (held-smallest S D h).meets.rows r l

  -- THEOREM: DROP answers the same, of a value and of a range
  pub mirror-drop : (p : Pair) → EnoughFor S at D B (cache_after S D c (drop p)) → answer S B b (drop p) ≡ answer S D c (drop p)
  unfolding effect
  mirror-drop p n =
      ap₂ (λ (h : Holding) (Y : RowSet). by_drop h B Y) M.held (fun_ext M.rows) ∙
      drop-answer (ltb p.filling S.fillings) (numberless p.value) (holds c.held p) (λ h.
      ap dropped (went-same (without_pair c.held p) (read-marks (reached (reload_levels S D (without_pair c.held p))) (held-smallest S D (without_pair c.held p)).meets.rows
      (subst (λ (x : Bool). EnoughFor S at D B (cond x (reloaded S D (without_pair c.held p)) c)) h n))))
    where
      by_drop : Holding → Database → RowSet → Answer
      by_drop h E Y =
          unless (not (ltb p.filling S.fillings)) 5
          (unless (numberless p.value) 9
          (unless (not (holds h p)) 10
          (let L = reload_levels S E (without_pair h p) in dropped (count E.size (λ r. Y r && not (reached L r))))))

  pub mirror-drop-range : (q : Range) → EnoughFor S at D B (cache_after S D c (drop_range q)) → answer S B b (drop_range q) ≡ answer S D c (drop_range q)
  unfolding effect
  mirror-drop-range q n =
      ap₂ (λ (h : Holding) (Y : RowSet). by_drop h B Y) M.held (fun_ext M.rows) ∙
      drop-answer (is_range S q) false (holds_range c.held q) (λ h.
      ap dropped (went-same (without_range c.held q) (read-marks (reached (reload_levels S D (without_range c.held q))) (held-smallest S D (without_range c.held q)).meets.rows
      (subst (λ (x : Bool). EnoughFor S at D B (cond x (reloaded S D (without_range c.held q)) c)) h n))))
    where
      by_drop : Holding → Database → RowSet → Answer
      by_drop h E Y =
          unless (not (is_range S q)) 5
          (unless (not (holds_range h q)) 10
          (let L = reload_levels S E (without_range h q) in dropped (count E.size (λ r. Y r && not (reached L r)))))

-- THEOREM: every operation that can be answered from a slice answers the same
pub mirror-answer : {at : ℕ → ℕ} {D B : Database} → Slice at D B → {S : Scheme} → Lawful S B → FillingsApart S → {c b : Cache} → Sound S D c → Sound S B b →
    Mirrors at D c b → (o : Operation) → from_slice o ≡ true → EnoughFor S at D B (cache_after S D c o) → answer S B b o ≡ answer S D c o
unfolding effect from_slice
mirror-answer P w apart s t M (refer p) e n = mirror-refer P s t M p n
mirror-answer P w apart s t M (drop p) e n = mirror-drop P s t M p n
mirror-answer P w apart s t M (ask (probe k v)) e n = mirror-probe P s M k v
mirror-answer P w apart s t M (ask evenness) e n = unfold reply in refl
mirror-answer P w apart s t M (ask smallest_knot) e n = unfold reply in refl
mirror-answer P w apart s t M (ask (opener k v)) e n = clash refl (sym e)
mirror-answer P w apart s t M (ask (reason r room)) e n = clash refl (sym e)
mirror-answer P w apart s t M (query q out) e n = mirror-query P s M w apart q out n
mirror-answer P w apart s t M (name d) e n = refl
mirror-answer P w apart s t M (refer_range q) e n = mirror-range P s t M q n
mirror-answer P w apart s t M (drop_range q) e n = mirror-drop-range P s t M q n
