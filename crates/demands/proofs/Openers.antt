-- 02, Req 09 of what is answered, by what REFER and PROBE then answer. Assumes nothing.
use Prim.Native.Nat.{ℕ, ◌<◌, ◌^◌}
use native.Mathlib.Omega.{arith}
use mathlib.Core.Path.{◌≡◌, refl, sym, ap, subst, ◌∙◌}
use mathlib.Core.Bool.{Bool, true, false, not, ◌&&◌, and-eq-true_iff}
use mathlib.Core.Logic.{◌↔◌, ⊎_elim}
use borrow.Author.Tests.{eqb-true, eq-eqb, ne_eqb, ltb-true, ltb-false, lt-ltb}
use lib.Dec.{eqb, ltb}
use Rattle.finite.proofs.Bools.{dec, clash, both, cond-true, cond-false}
use Rattle.model.specs.Cell.{Cell, numberless, issued}
use Rattle.model.specs.Scheme.{Column, candidate, Scheme, is_column}
use Rattle.model.specs.Database.{Database}
use Rattle.model.specs.Probe as Probe
use Rattle.model.specs.Holding.{desks, Pair, holds, has_room, mine, held_in}
use Rattle.model.specs.Runs.{ask, probe, opener, refer, name, taken, marked, Cache, referred, at_desk, refer_levels}
use Rattle.model.specs.Rounds.{added_rows, later_rounds}
use Rattle.model.specs.Opener.{is_open, opens, opens_at}
use Rattle.model.specs.Answers.{Answer, refused, sent, ground, loaded, opened, opened_by, no_opener, unless, or_answer, ground_of, Yes, opener_answer}
use Rattle.model.specs.Effects.{effect, reply}
use Rattle.model.proofs.OpenerLaws.{open-answer, opened-says, none-says, lowest-says}
use Rattle.model.proofs.OpenerDesks.{desk-opens-alike, held-opens-nothing, pair_held}
use Rattle.state.specs.Meaning.{scheme_of}
use Rattle.state.specs.Lent.{State, scheme, database, cache, sound, answer_at, state_after}
use Rattle.lawful.proofs.DesignLaws.{low-full}
use Rattle.lawful.proofs.SoundState.{parts, sound-smallest, answer-at, sound-after}
use Rattle.model.proofs.Answering.{probe-full}
use Rattle.script.proofs.StepLaws.{after-cache}
use Rattle.demands.proofs.Demand2.{carries}
use Rattle.demands.specs.Opening.{pair_at, probed_behind, ComesBefore, OpenedBy, NothingOpens}

-- ---- a probe whose operands fit

module _ (t : State) (e : sound t ≡ true) (k : Column) (v : Cell) (col : is_column (scheme t) k ≡ true) (full : numberless v ≡ false) where
  abbrev pub found : ℕ
  found = Probe.probe (scheme t) (database t) (held_in (scheme t) (cache t).held) (marked (cache t).marks) k v

  abbrev pub behind : ℕ
  behind = Probe.cached_rows (database t) (marked (cache t).marks) k v

  probe-is : answer_at t (ask (probe k v)) ≡ ground_of found behind
  probe-is = answer-at t e (ask (probe k v)) ∙ sym (probe-full (scheme t) (database t) (cache t) k v col full)

  pub open-yes : is_open (scheme t) (database t) k v (cache t) ≡ true → Yes (answer_at t (ask (probe k v)))
  unfolding is_open
  open-yes o =
      ⊎_elim (λ (q : ltb 0 found ≡ true). (found, behind, probe-is ∙ ap (λ (b : Bool). or_answer b (ground found behind) sent) q))
      (λ (q : ltb 0 found ≡ false). clash o (ap not (zero found q)))
      (dec (ltb 0 found))
    where
      zero : (n : ℕ) → ltb 0 n ≡ false → eqb n 0 ≡ true
      zero n q = eq-eqb n 0 (omega (arith, ltb-false 0 n q))

  shut-sent : is_open (scheme t) (database t) k v (cache t) ≡ false → answer_at t (ask (probe k v)) ≡ sent
  unfolding is_open
  shut-sent o =
      ⊎_elim (λ (q : eqb found 0 ≡ true). probe-is ∙ ap (λ (n : ℕ). ground_of n behind) (eqb-true found 0 q))
      (λ (q : eqb found 0 ≡ false). clash (ap not q) o)
      (dec (eqb found 0))

-- ---- the answer to the question

asked : (S : Scheme) (D : Database) (c : Cache) (k : Column) (v : Cell) (a : Answer) → (reply S D c (opener k v)).answer ≡ a → ((n : ℕ) → a ≡ refused n → ⊥) →
    (is_column S k ≡ true) × (numberless v ≡ false) × (opener_answer S D c k v ≡ a)
unfolding reply
asked S D c k v a e n = go (is_column S k) (numberless v) refl refl e
  where
    go : (x y : Bool) → is_column S k ≡ x → numberless v ≡ y → unless (not x) 5 (unless y 9 (opener_answer S D c k v)) ≡ a →
        (is_column S k ≡ true) × (numberless v ≡ false) × (opener_answer S D c k v ≡ a)
    go false y p q h = absurd (n 5 (sym h))
    go true true p q h = absurd (n 9 (sym h))
    go true false p q h = (p, q, h)

-- a question with its operands is answered
passes : (a b : Bool) (x : Answer) → a ≡ true → b ≡ false → unless (not a) 5 (unless b 9 x) ≡ x
passes true false x p q = refl
passes false b x p q = clash {b = false} p refl
passes true true x p q = clash {b = true} refl q

module _ (s : State) (e : sound s ≡ true) (k : Column) (v : Cell) where
  abbrev S : Scheme
  S = scheme s

  abbrev D : Database
  D = database s

  abbrev c : Cache
  c = cache s

  parts-of : (a : Answer) → answer_at s (ask (opener k v)) ≡ a → ((n : ℕ) → a ≡ refused n → ⊥) → (is_column S k ≡ true) × (numberless v ≡ false) × (opener_answer S D c k v ≡ a)
  unfolding effect
  parts-of a h n = asked S D c k v a (sym (answer-at s e (ask (opener k v))) ∙ h) n

  module _ (col : is_column S k ≡ true) (full : numberless v ≡ false) (shut : is_open S D k v c ≡ false) where
    -- a pair that is taken is referred
    taken-after : (p : Pair) → taken S c.held p ≡ true → cache (state_after s (refer p)) ≡ referred S D c p
    unfolding effect
    taken-after p t = after-cache s e (refer p) ∙ cond-true (taken S c.held p) (referred S D c p) c t

    untaken-after : (p : Pair) → taken S c.held p ≡ false → cache (state_after s (refer p)) ≡ c
    unfolding effect
    untaken-after p t = after-cache s e (refer p) ∙ cond-false (taken S c.held p) (referred S D c p) c t

    -- one that does not open leaves the probe sent
    stays-shut : (p : Pair) → (p.filling < S.fillings → opens S D k v c p ≡ false) → probed_behind s k v p ≡ sent
    unfolding opens taken
    stays-shut p h =
        ⊎_elim (λ (t : taken S c.held p ≡ true).
        let a = (and-eq-true_iff (ltb p.filling S.fillings) _).0 t in
        let d = (and-eq-true_iff (candidate (S.filling p.filling) p.value) _).0 a.1 in
        shut-sent (state_after s (refer p)) (sound-after s e (refer p)) k v col full
        (ap (is_open S D k v) (taken-after p t) ∙ second (candidate (S.filling p.filling) p.value) _ d.0 (h (ltb-true _ _ a.0))))
        (λ (t : taken S c.held p ≡ false).
        shut-sent (state_after s (refer p)) (sound-after s e (refer p)) k v col full (ap (is_open S D k v) (untaken-after p t) ∙ shut))
        (dec (taken S c.held p))
      where
        second : (x y : Bool) → x ≡ true → x && y ≡ false → y ≡ false
        second true y p q = q
        second false y p q = clash {b = false} p refl

    -- one that opens, at a desk with room
    module _ (f n i : ℕ) (l : f < S.fillings) (o : opens_at S D k v c f n i ≡ true) (room : has_room c.held ≡ true) where
      abbrev p : Pair
      p = pair_at f n i

      cand : candidate (S.filling f) (issued n i) ≡ true
      unfolding opens
      cand = ((and-eq-true_iff (candidate (S.filling f) (issued n i)) _).0 o).0

      open-then : is_open S D k v (referred S D c p) ≡ true
      unfolding opens
      open-then = ((and-eq-true_iff (candidate (S.filling f) (issued n i)) _).0 o).1

      -- what is held opens nothing
      unheld : holds c.held p ≡ false
      unheld =
          ⊎_elim (λ (h : holds c.held p ≡ true). clash o (held-opens-nothing S D c (sound-smallest s e) k v shut p (pair_held S c.held (mine c.held p) h)))
          (λ (h : holds c.held p ≡ false). h)
          (dec (holds c.held p))

      takes : taken S c.held p ≡ true
      unfolding taken
      takes = both (lt-ltb f S.fillings l) (both cand (both (ap not unheld) room))

      numbered : numberless (issued n i) ≡ false
      unfolding scheme_of
      numbered = low-full s.design (parts s e).design f l (issued n i) cand

      refer-loads : (rows : ℕ) × (rounds : ℕ) × (answer_at s (refer p) ≡ loaded rows rounds)
      unfolding effect
      refer-loads =
          let L = refer_levels S D (marked c.marks) p in (
            added_rows D L,
            later_rounds D L,
            answer-at s e (refer p) ∙ rw (lt-ltb f S.fillings l, numbered, cand, unheld, room),
          )

      refer-opens : Yes (probed_behind s k v p)
      refer-opens = open-yes (state_after s (refer p)) (sound-after s e (refer p)) k v col full (ap (is_open S D k v) (taken-after p takes) ∙ open-then)

  -- THEOREM. 02, Req 09: "Operation 0x19 takes PROBE's operands with an issue byte at the end and answers `open` if the probe has a ground; else the lowest filling, then
  -- the lowest value, then issue, whose single reference would give one, printed as these three numbers; else `none`. Desk limits are disregarded. `none` means that
  -- no candidate, among all numbers in all ranges, would do."
  pub open-says : answer_at s (ask (opener k v)) ≡ opened → Yes (answer_at s (ask (probe k v)))
  open-says h =
      let x = parts-of opened h (λ n z. let w : ◌≡◌ {A = ℕ} 0 1 = cc in omega arith) in
      open-yes s e k v x.0 x.1 (opened-says S D c k v (sym x.2))

  -- THEOREM: and it is answered wherever the probe has one
  pub open-exactly : (answer_at s (ask (opener k v)) ≡ opened) ↔ Yes (answer_at s (ask (probe k v)))
  unfolding effect reply is_open
  open-exactly = (
    open-says,
    λ y. let x = carries S D c k v y.0 y.1 (sym (answer-at s e (ask (probe k v))) ∙ y.2) in
        answer-at s e (ask (opener k v)) ∙ passes (is_column S k) (numberless v) (opener_answer S D c k v) x.column x.full ∙
        sym (open-answer S D c k v (ap not (ne_eqb _ 0 x.ground))),
  )

  pub opened-by : (f n i : ℕ) → answer_at s (ask (opener k v)) ≡ opened_by f n i → OpenedBy s k v f n i
  opened-by f n i h =
      let x = parts-of (opened_by f n i) h (λ m z. let w : ◌≡◌ {A = ℕ} 0 1 = cc in omega arith) in
      let y = lowest-says S D c k v f n i (sym x.2) in
      let l = y.1 in
      let earlier : (g m j : ℕ) → m < 2 ^ 32 → j < 2 ^ 8 → ComesBefore g m j f n i → opens_at S D k v c g m j ≡ false =
      λ g m j a b q. ⊎_elim (λ r. l.fillings g m j r a b)
      (⊎_elim (λ r. subst (λ (u : ℕ). opens_at S D k v c u m j ≡ false) (sym r.0) (l.numbers m j r.1 b))
      (λ r. subst (λ (u : ℕ). opens_at S D k v c u m j ≡ false) (sym r.0)
      (subst (λ (u : ℕ). opens_at S D k v c f u j ≡ false) (sym r.1) (l.issues j r.2)))) q in
      record {
        shut = shut-sent s e k v x.0 x.1 y.0;
        filling = l.filling;
        loads = refer-loads x.0 x.1 y.0 f n i l.filling l.opens;
        opens = refer-opens x.0 x.1 y.0 f n i l.filling l.opens;
        lowest = λ g m j a b q. stays-shut x.0 x.1 y.0 (pair_at g m j) (λ z. earlier g m j a b q);
        would = l.opens;
        first = λ g m j z a b q. earlier g m j a b q;
      }

  pub none-opens : answer_at s (ask (opener k v)) ≡ no_opener → NothingOpens s k v
  none-opens h =
      let x = parts-of no_opener h (λ m z. let w : ◌≡◌ {A = ℕ} 0 1 = cc in omega arith) in
      let y = none-says S D c k v (sym x.2) in
      record {
        shut = shut-sent s e k v x.0 x.1 y.0;
        none = λ f n i a b. stays-shut x.0 x.1 y.0 (pair_at f n i) (λ l. y.1 f n i l a b);
        would_not = λ f n i l a b. y.1 f n i l a b;
      }

  -- "Desk limits are disregarded": whichever desk is named, the answer is the same; so the value that is answered opens the query at any desk with room
  pub opener-anywhere : (d : ℕ) → d < desks → answer_at (state_after s (name d)) (ask (opener k v)) ≡ answer_at s (ask (opener k v))
  unfolding effect reply
  opener-anywhere d l =
      answer-at (state_after s (name d)) (sound-after s e (name d)) (ask (opener k v)) ∙
      ap (λ (a : Cache). unless (not (is_column S k)) 5 (unless (numberless v) 9 (opener_answer S D a k v)))
      (after-cache s e (name d) ∙ cond-true (ltb d desks) (at_desk c d) c (lt-ltb d desks l)) ∙
      ap (λ (a : Answer). unless (not (is_column S k)) 5 (unless (numberless v) 9 a)) (desk-opens-alike S D c d k v) ∙
      sym (answer-at s e (ask (opener k v)))

-- THEOREM: so behind the naming of any desk the same value opens the query, where that desk has room; and where there is none, none does at any desk
module _ (s : State) (e : sound s ≡ true) (k : Column) (v : Cell) (d : ℕ) (l : d < desks) where
  pub opened-at-desk : (f n i : ℕ) → answer_at s (ask (opener k v)) ≡ opened_by f n i → OpenedBy (state_after s (name d)) k v f n i
  opened-at-desk f n i h = opened-by (state_after s (name d)) (sound-after s e (name d)) k v f n i (opener-anywhere s e k v d l ∙ h)

  pub none-at-desk : answer_at s (ask (opener k v)) ≡ no_opener → NothingOpens (state_after s (name d)) k v
  none-at-desk h = none-opens (state_after s (name d)) (sound-after s e (name d)) k v (opener-anywhere s e k v d l ∙ h)
