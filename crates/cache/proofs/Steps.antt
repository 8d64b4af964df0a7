-- From the tests of the code to what REFER and DROP on a sound state answer and leave. Assumes nothing.
use Prim.Native.Nat.{ℕ, ◌≤◌, ◌<◌}
use native.Mathlib.Omega.{arith}
use mathlib.Core.Path.{◌≡◌, refl, sym, ap, subst, ◌∙◌}
use mathlib.Core.Bool.{Bool, true, false, not, ◌&&◌}
use mathlib.Core.List.{List, ◌++◌}
use borrow.Author.Tests.{lt-ltb, le-ltb}
use lib.Dec.{ltb}
use lib.ListN.{take, drop as past, take-append-drop}
use Rattle.finite.specs.Finite.{count, first_from}
use Rattle.finite.proofs.Bools.{clash, refute}
use Rattle.finite.proofs.Counting.{count_same, count_none}
use Rattle.finite.proofs.First.{first-from}
use Rattle.model.specs.Cell.{numberless}
use Rattle.model.specs.Scheme.{candidate}
use Rattle.model.specs.Database.{has}
use Rattle.model.specs.Rounds.{reached, added_rows, later_rounds}
use Rattle.model.specs.Holding.{Holding, holds, has_room, with_pair, without_pair, wanted}
use Rattle.model.specs.Runs.{Operation, refer, drop, marks, marked, Cache, refer_levels, reload_levels, reloaded}
use Rattle.model.specs.Answers as Answers
use Rattle.model.specs.Answers.{Answer, loaded, dropped, refused}
use Rattle.model.specs.Effects.{answer}
use Rattle.model.proofs.HoldingLaws.{HoldingFits, room-few, fit-fewer, listed-fits, listed-candidate}
use Rattle.model.proofs.RoundsLaws.{load_same}
use Rattle.model.proofs.RunLaws.{sound-reloaded}
use Rattle.state.specs.declared.held.HeldValue.{HeldValue}
use Rattle.state.specs.declared.held.Held.{Held}
use Rattle.state.specs.Design.{filling_at}
use Rattle.state.specs.Held.{Bounded}
use Rattle.state.specs.Meaning.{cell_of, column_of, filling_of, scheme_of, database_of, pair_of, holding_of, held_of}
use Rattle.state.specs.Lawful.{lawful_held}
use Rattle.state.specs.Lent.{State, lent, scheme, database, cache, sound, Answered}
use Rattle.lawful.proofs.DesignLaws.{low-full}
use Rattle.state.proofs.Arrays.{HeldSized}
use Rattle.lawful.proofs.HeldLaws.{length-values, held-bounded, holding-fits, holding-back, held-of-sized, fit-held}
use Rattle.lawful.proofs.SoundState.{parts, sound-fresh, sound-smallest, after, answer-at, held-after, marks-after, unchanged}
use Rattle.probe.proofs.GroundLaws.{marked-front}
use Rattle.load.specs.Ended.{Covers}
use Rattle.cache.specs.Loads.{value_levels, held_levels, settled, gone_rows}
use Rattle.model.proofs.Answering.{Kept, refer-nowhere, refer-numberless, refer-none, refer-held, refer-full, refer-loads, refer-leaves, drop-nowhere, drop-numberless, drop-none, drop-drops, drop-leaves}
use Rattle.cache.proofs.Covered.{sound-covers, wanted-without}

module _ (s : State) (e : sound s ≡ true) where
  -- the parts that the operation leaves
  pub steps : (op : Operation) (a : Answer) (h : Held) (m : List ℕ) → a ≡ answer (scheme s) (database s) (cache s) op →
      h ≡ held_of (after s op).held → m ≡ (after s op).marks ++ past 512 s.marks → Answered s op a (lent s.design s.cells s.tables m h)
  steps op a h m p q r = record { answer = p ∙ sym (answer-at s e op); state = rw (q ∙ sym (held-after s e op), r ∙ sym (marks-after s e op)) refl }

  -- the operation leaves everything as it was
  pub stays : HeldSized s.held → (op : Operation) (a : Answer) → Kept (scheme s) (database s) (cache s) op a → Answered s op a s
  stays l op a k = record { answer = k.answers ∙ sym (answer-at s e op); state = sym (unchanged s e op l k.cache) }

  -- the filling exists
  exists : (v : HeldValue) → v.filling < s.design.fillings → ltb v.filling s.design.fillings ≡ true
  exists v f = lt-ltb v.filling s.design.fillings f

  pub held-fits : HoldingFits (scheme s) (holding_of s.held)
  held-fits = holding-fits s.design s.held (parts s e).held

  pub gone_same : (L : List ℕ) → gone_rows (database s) L s.marks ≡ count (database s).size (λ r. marked (take 512 s.marks) r && not (reached L r))
  unfolding gone_rows database_of
  gone_same L = count_same 512 _ _ (λ r l. ap (λ (x : Bool). x && not (reached L r)) (marked-front s.marks 512 r l))

  -- ---- what is left after a drop, whichever it is: the record h holds `rest`, which fits

  module _ (rest : Holding) (fits : HoldingFits (scheme s) rest) (h : Held) (q : h ≡ held_of rest) where
    -- it is lawful, so it can be reloaded
    pub left-of-bounded : Bounded h
    left-of-bounded =
        held-bounded s.design h (parts s e).design (subst (λ (g : Held). lawful_held s.design g ≡ true) (sym q) (fit-held s.design rest fits))
        (subst HeldSized (sym q) (held-of-sized rest))

    -- it holds what is left
    pub left-of-holding : holding_of h ≡ rest
    left-of-holding = ap holding_of q ∙ holding-back rest fits

    -- a load of what it holds is the reload of what is left
    pub reload-of : held_levels s.design (database s) h ≡ reload_levels (scheme s) (database s) rest
    unfolding held_levels
    reload-of = ap (reload_levels (scheme s) (database s)) left-of-holding

    -- where it wants the rows that are wanted already, they stay, and no row goes
    pub left-of-stays : ((r : ℕ) → r < 512 → wanted (scheme s) (database s) rest r ≡ wanted (scheme s) (database s) (holding_of s.held) r) →
        (let D = database_of s.cells s.tables in
        let L = held_levels s.design (database s) h in
        (dropped 0 ≡ dropped (gone_rows D L s.marks)) × (s.marks ≡ settled D L s.marks))
    unfolding settled reload_levels database_of
    left-of-stays w = (
      ap dropped (sym (gone_same _ ∙ count_none _ _ (λ r l. gone r))),
      sym (take-append-drop 512 s.marks) ∙ ap (λ (m : List ℕ). m ++ past 512 s.marks) ((sound-fresh s e).reloaded ∙ ap (λ (L : List ℕ). marks (database s) (reached L)) (sym same)),
    )
      where
        same : held_levels s.design (database s) h ≡ reload_levels (scheme s) (database s) (holding_of s.held)
        same = reload-of ∙ load_same (scheme s) (database s) _ _ _ _ (λ r l. refl) w

        both : (b : Bool) → b && not b ≡ false
        both true = refl
        both false = refl

        gone : (r : ℕ) → marked (take 512 s.marks) r && not (reached (held_levels s.design (database s) h) r) ≡ false
        gone r =
            ap (λ (b : Bool). b && not (reached (held_levels s.design (database s) h) r)) (sound-reloaded (cache s) (sound-smallest s e) r ∙ ap (λ (L : List ℕ). reached L r) (sym same)) ∙
            both (reached (held_levels s.design (database s) h) r)

  -- ---- REFER

  -- where the named desk has room, the record has a place
  pub room-place : has_room (holding_of s.held) ≡ true → s.held.count < 64
  room-place r = omega (arith, room-few (scheme s) (holding_of s.held) held-fits r, length-values s.held)

  module _ (l : HeldSized s.held) (v : HeldValue) where
    pub refer-5 : s.design.fillings ≤ v.filling → Answered s (refer (pair_of v)) (refused 5) s
    unfolding scheme_of
    refer-5 h = stays l _ _ (refer-nowhere _ _ _ (pair_of v) (le-ltb v.filling s.design.fillings h))

    module _ (f : v.filling < s.design.fillings) where
      pub refer-9 : numberless (cell_of v.value) ≡ true → Answered s (refer (pair_of v)) (refused 9) s
      unfolding scheme_of
      refer-9 b =
          stays l _ _ (refer-numberless _ _ _ (pair_of v) (exists v f) b
          (refute _ (λ k. clash b (low-full s.design (parts s e).design v.filling f (cell_of v.value) k))))

      module _ (b : numberless (cell_of v.value) ≡ false) where
        pub refer-no-candidate : candidate (filling_of (filling_at s.design v.filling)) (cell_of v.value) ≡ false →
            Answered s (refer (pair_of v)) Answers.no_candidate s
        unfolding scheme_of
        refer-no-candidate n = stays l _ _ (refer-none _ _ _ (pair_of v) (exists v f) b n)

        module _ (k : candidate (filling_of (filling_at s.design v.filling)) (cell_of v.value) ≡ true) where
          pub refer-already : holds (holding_of s.held) (pair_of v) ≡ true → Answered s (refer (pair_of v)) Answers.held s
          unfolding scheme_of
          refer-already n = stays l _ _ (refer-held _ _ _ (pair_of v) (exists v f) b k n)

          module _ (n : holds (holding_of s.held) (pair_of v) ≡ false) where
            pub refer-8 : has_room (holding_of s.held) ≡ false → Answered s (refer (pair_of v)) (refused 8) s
            unfolding scheme_of
            refer-8 r = stays l _ _ (refer-full _ _ _ (pair_of v) (exists v f) b k n r)

            -- the load beside all marks is the load beside the first 512
            levels-same : value_levels s.design (database s) s.marks (filling_at s.design v.filling).column v.value ≡
                refer_levels (scheme s) (database s) (marked (take 512 s.marks)) (pair_of v)
            unfolding value_levels refer_levels scheme_of database_of
            levels-same = load_same (scheme s) (database s) _ _ _ _ (λ r l. marked-front s.marks 512 r l) (λ r l. refl)

            pub refer-load : has_room (holding_of s.held) ≡ true → (a : Answer) (h : Held) (m : List ℕ) →
                (let D = database_of s.cells s.tables in
                let L = value_levels s.design (database s) s.marks (filling_at s.design v.filling).column v.value in
                (a ≡ loaded (added_rows D L) (later_rounds D L)) × (m ≡ settled D L s.marks)) →
                h ≡ held_of (with_pair (holding_of s.held) (pair_of v)) → Answered s (refer (pair_of v)) a (lent s.design s.cells s.tables m h)
            unfolding scheme_of settled
            refer-load r a h m w q =
                steps _ a h m
                (w.0 ∙ ap (λ (L : List ℕ). loaded (added_rows (database s) L) (later_rounds (database s) L)) levels-same ∙
                refer-loads (scheme s) (database s) (cache s) (pair_of v) (exists v f) b k n r)
                (q ∙ sym (ap (λ (c : Cache). held_of c.held) left))
                (w.1 ∙ ap (λ (L : List ℕ). marks (database s) (reached L) ++ past 512 s.marks) levels-same ∙
                sym (ap (λ (c : Cache). c.marks ++ past 512 s.marks) left))
              where
                left : after s (refer (pair_of v)) ≡
                    record {
                      held = with_pair (holding_of s.held) (pair_of v);
                      marks = marks (database s) (reached (refer_levels (scheme s) (database s) (marked (take 512 s.marks)) (pair_of v)));
                    }
                left = refer-leaves (scheme s) (database s) (cache s) (pair_of v) (exists v f) b k n r

  -- ---- DROP

  module _ (l : HeldSized s.held) (v : HeldValue) where
    pub drop-5 : s.design.fillings ≤ v.filling → Answered s (drop (pair_of v)) (refused 5) s
    unfolding scheme_of
    drop-5 h =
        stays l _ _ (drop-nowhere _ _ _ (pair_of v) (le-ltb v.filling s.design.fillings h)
        (refute _ (λ n. let g = listed-fits (scheme s) (holding_of s.held) held-fits (pair_of v) n in omega arith)))

    module _ (f : v.filling < s.design.fillings) where
      pub drop-9 : numberless (cell_of v.value) ≡ true → Answered s (drop (pair_of v)) (refused 9) s
      unfolding scheme_of
      drop-9 b =
          stays l _ _ (drop-numberless _ _ _ (pair_of v) (exists v f) b
          (refute _ (λ n. clash b (low-full s.design (parts s e).design v.filling f (cell_of v.value) (listed-candidate (scheme s) (holding_of s.held) held-fits (pair_of v) n)))))

      module _ (b : numberless (cell_of v.value) ≡ false) where
        pub drop-10 : holds (holding_of s.held) (pair_of v) ≡ false → Answered s (drop (pair_of v)) (refused 10) s
        unfolding scheme_of
        drop-10 n = stays l _ _ (drop-none _ _ _ (pair_of v) (exists v f) b n)

        module _ (n : holds (holding_of s.held) (pair_of v) ≡ true) (h : Held) (q : h ≡ held_of (without_pair (holding_of s.held) (pair_of v))) where
          abbrev rest : Holding
          rest = without_pair (holding_of s.held) (pair_of v)

          rest-fits : HoldingFits (scheme s) rest
          rest-fits = fit-fewer (scheme s) (holding_of s.held) held-fits (pair_of v)

          pub left-bounded : Bounded h
          left-bounded = left-of-bounded rest rest-fits h q

          -- the cached rows have what it wants
          pub left-covers : Covers (scheme s) (database s) (wanted (scheme s) (database s) (holding_of h)) (marked s.marks)
          left-covers =
              subst (λ (g : Holding). Covers (scheme s) (database s) (wanted (scheme s) (database s) g) (marked s.marks))
              (sym (left-of-holding rest rest-fits h q)) (sound-covers s e (pair_of v))

          reload-same : held_levels s.design (database s) h ≡ reload_levels (scheme s) (database s) rest
          reload-same = reload-of rest rest-fits h q

          pub drop-load : (a : Answer) (m : List ℕ) →
              (let D = database_of s.cells s.tables in
              let L = held_levels s.design (database s) h in
              (a ≡ dropped (gone_rows D L s.marks)) × (m ≡ settled D L s.marks)) →
              Answered s (drop (pair_of v)) a (lent s.design s.cells s.tables m h)
          unfolding scheme_of settled
          drop-load a m w =
              steps _ a h m
              (w.0 ∙ ap dropped (ap (λ (L : List ℕ). gone_rows (database s) L s.marks) reload-same ∙ gone_same _) ∙
              drop-drops (scheme s) (database s) (cache s) (pair_of v) (exists v f) b n)
              (q ∙ sym (ap (λ (c : Cache). held_of c.held) left))
              (w.1 ∙ ap (λ (L : List ℕ). marks (database s) (reached L) ++ past 512 s.marks) reload-same ∙
              sym (ap (λ (c : Cache). c.marks ++ past 512 s.marks) left))
            where
              left : after s (drop (pair_of v)) ≡ reloaded (scheme s) (database s) rest
              left = drop-leaves (scheme s) (database s) (cache s) (pair_of v) (exists v f) b n

          -- no row has the value: all rows stay
          pub drop-stays : (r : ℕ) → r ≡ first_from 512 (has (database s) (column_of (filling_at s.design v.filling).column) (cell_of v.value)) 0 → 512 ≤ r →
              Answered s (drop (pair_of v)) (dropped 0) (lent s.design s.cells s.tables s.marks h)
          unfolding scheme_of
          drop-stays r g k =
              let with = has (database s) (column_of (filling_at s.design v.filling).column) (cell_of v.value) in
              drop-load (dropped 0) s.marks
              (left-of-stays rest rest-fits h q (λ x l. wanted-without (scheme s) (database s) (holding_of s.held) x (pair_of v)
              ((first-from 512 with 0 (omega arith)).none x (omega arith) (omega (arith, g, k)))))
