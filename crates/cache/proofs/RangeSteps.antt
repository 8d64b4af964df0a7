-- From the tests of the code to what a load and a drop of a range on a sound state answer and leave. Assumes nothing.
use Prim.Native.Nat.{ℕ, ◌≤◌, ◌<◌}
use native.Mathlib.Omega.{arith}
use mathlib.Core.Path.{◌≡◌, refl, sym, ap, subst, ◌∙◌}
use mathlib.Core.Bool.{true, false, and-eq-true_iff}
use mathlib.Core.List.{List, ◌++◌}
use borrow.Author.Tests.{le-leb, lt-leb, ltb-true}
use lib.Dec.{leb, ltb}
use lib.ListN.{length, set, take, drop as past}
use Rattle.finite.specs.Sameness.{listed, remove}
use Rattle.finite.proofs.Bools.{clash, refute}
use Rattle.finite.proofs.Search.{any-refuted}
use Rattle.model.specs.Scheme.{Column}
use Rattle.model.specs.Database.{Database}
use Rattle.model.specs.Rounds.{reached, added_rows, later_rounds}
use Rattle.model.specs.Ranges as Model
use Rattle.model.specs.Ranges.{is_range, only_candidates, joined, same_range, contains, has_range}
use Rattle.model.specs.Holding.{most_ranges, Holding, own_ranges, covers_range, holds_range, has_range_room, with_ranges, without_range, wanted}
use Rattle.model.specs.Runs.{refer_range, drop_range, marks, marked, Cache, range_levels, reload_levels, referred_range, reloaded}
use Rattle.model.specs.Answers as Answers
use Rattle.model.specs.Answers.{Answer, loaded, dropped, refused}
use Rattle.model.proofs.RangeLaws.{fits-range}
use Rattle.model.proofs.RangesFit.{held-range-fits}
use Rattle.model.proofs.HoldingLaws.{HoldingFits, fit-without}
use Rattle.model.proofs.RoundsLaws.{load_same}
use Rattle.state.specs.declared.held.Range.{Range}
use Rattle.state.specs.declared.held.DeskRanges.{DeskRanges}
use Rattle.state.specs.declared.held.Held.{Held}
use Rattle.state.specs.Design.{filling_at}
use Rattle.state.specs.Held.{ranges_at, Bounded}
use Rattle.state.specs.Meaning.{column_of, range_of, list_of, list_back, scheme_of, database_of, holding_of, held_of}
use Rattle.state.specs.Lent.{State, lent, scheme, database, cache, sound, Answered}
use Rattle.state.proofs.Arrays.{HeldSized}
use Rattle.lawful.proofs.Asked.{sound-fillings}
use Rattle.lawful.proofs.HeldLaws.{held-tidy}
use Rattle.lawful.proofs.SoundState.{parts, after}
use Rattle.catalog.specs.Spans.{Spanned}
use Rattle.probe.proofs.GroundLaws.{marked-front}
use Rattle.load.specs.Ended.{Covers}
use Rattle.cache.specs.Loads.{span_levels, held_levels, settled, gone_rows}
use Rattle.model.proofs.RangeAnswers.{range-nowhere, range_none, range-held, range-full, range-loads, range-leaves, drop-range-nowhere, drop-range-none, drop-range-drops, drop-range-leaves}
use Rattle.cache.proofs.RangeRecord.{own-list, own_put}
use Rattle.cache.proofs.Covered.{sound-covers-range, wanted-without-range}
use Rattle.cache.proofs.Steps.{steps, stays, held-fits, gone_same, left-of-bounded, left-of-holding, left-of-stays, reload-of}

-- where a range's values have no place in the directory, no row has one
pub span-empty : {D : Database} {k : Column} {q : Model.Range} {keys heads : List ℕ} {from n : ℕ} → Spanned D k q keys heads from n → n ≡ 0 →
    (r : ℕ) → has_range D k q r ≡ false
span-empty {n} x z r = x.rows r ∙ any-refuted n _ (λ i l. absurd (omega (arith, z)))

module _ (s : State) (e : sound s ≡ true) where
  pub desk-named : s.held.desk < 4
  desk-named = (held-fits s e).named

  -- the named desk's ranges: at most 8
  module _ (own : DeskRanges) (o : own ≡ ranges_at s.held s.held.desk) where
    pub own-few : own.count ≤ 8
    own-few = subst (λ (u : DeskRanges). u.count ≤ 8) (sym o) ((held-tidy s.design s.held (parts s e).held).ranges s.held.desk desk-named).few

    own_is : own_ranges (holding_of s.held) ≡ list_of own
    own_is = own-list s.held desk-named ∙ ap list_of (sym o)

  module _ (z : HeldSized s.held) (q : Range) where
    -- the record with another list for the desk
    with-list : (rs : List Model.Range) (h : Held) (t : DeskRanges) → t ≡ list_back rs →
        h ≡ record { desk = s.held.desk; count = s.held.count; values = s.held.values; ranges = set s.held.ranges s.held.desk t } →
        h ≡ held_of (with_ranges (holding_of s.held) rs)
    with-list rs h t f g =
        g ∙ ap (λ (u : DeskRanges). record { desk = s.held.desk; count = s.held.count; values = s.held.values; ranges = set s.held.ranges s.held.desk u }) f ∙
        own_put s.held desk-named (held-tidy s.design s.held (parts s e).held) z rs

    -- ---- a load

    pub range-5 : is_range (scheme s) (range_of q) ≡ false → Answered s (refer_range (range_of q)) (refused 5) s
    range-5 h = stays s e z _ _ (range-nowhere _ _ _ (range_of q) h)

    module _ (f : is_range (scheme s) (range_of q) ≡ true) where
      pub range-no-candidate : only_candidates (scheme s) (range_of q) ≡ false → Answered s (refer_range (range_of q)) Answers.no_candidate s
      range-no-candidate n = stays s e z _ _ (range_none _ _ _ (range_of q) f n)

      -- its filling has a place in the design
      pub range-filling : q.filling < 8
      unfolding scheme_of is_range
      range-filling =
          let a = (and-eq-true_iff (ltb q.filling s.design.fillings) _).0 f in
          let l : q.filling < s.design.fillings = ltb-true _ _ a.0 in
          omega (arith, l, sound-fillings s e)

      module _ (k : only_candidates (scheme s) (range_of q) ≡ true) where
        module _ (own : DeskRanges) (o : own ≡ ranges_at s.held s.held.desk) where
          pub range-already : listed contains (range_of q) (list_of own) ≡ true → Answered s (refer_range (range_of q)) Answers.held s
          range-already n = stays s e z _ _ (range-held _ _ _ (range_of q) f k (ap (listed contains (range_of q)) (own_is own o) ∙ n))

          module _ (n : listed contains (range_of q) (list_of own) ≡ false) (t : DeskRanges) (j : t ≡ list_back (joined (range_of q) (list_of own))) where
            covers-not : covers_range (holding_of s.held) (range_of q) ≡ false
            covers-not = ap (listed contains (range_of q)) (own_is own o) ∙ n

            -- the record's count is the length of the list
            room-is : has_range_room (holding_of s.held) (range_of q) ≡ leb t.count most_ranges
            unfolding list_back
            room-is =
                ap (λ (rs : List Model.Range). leb (length (joined (range_of q) rs)) most_ranges) (own_is own o) ∙
                ap (λ (u : DeskRanges). leb u.count most_ranges) (sym j)

            pub range-8 : 8 < t.count → Answered s (refer_range (range_of q)) (refused 8) s
            range-8 m = stays s e z _ _ (range-full _ _ _ (range_of q) f k covers-not (room-is ∙ lt-leb _ _ m))

            -- the load beside all marks is the load beside the first 512
            levels-same : span_levels s.design (database s) s.marks (filling_at s.design q.filling).column q ≡
                range_levels (scheme s) (database s) (marked (take 512 s.marks)) (range_of q)
            unfolding span_levels range_levels scheme_of database_of
            levels-same = load_same (scheme s) (database s) _ _ _ _ (λ r l. marked-front s.marks 512 r l) (λ r l. refl)

            pub range-load : t.count ≤ 8 → (a : Answer) (h : Held) (m : List ℕ) →
                (let D = database_of s.cells s.tables in
                let L = span_levels s.design (database s) s.marks (filling_at s.design q.filling).column q in
                (a ≡ loaded (added_rows D L) (later_rounds D L)) × (m ≡ settled D L s.marks)) →
                h ≡ record { desk = s.held.desk; count = s.held.count; values = s.held.values; ranges = set s.held.ranges s.held.desk t } →
                Answered s (refer_range (range_of q)) a (lent s.design s.cells s.tables m h)
            unfolding settled
            range-load l a h m w g =
                steps s e _ a h m
                (w.0 ∙ ap (λ (L : List ℕ). loaded (added_rows (database s) L) (later_rounds (database s) L)) levels-same ∙
                range-loads (scheme s) (database s) (cache s) (range_of q) f k covers-not room)
                (with-list (joined (range_of q) (list_of own)) h t j g ∙
                ap (λ (rs : List Model.Range). held_of (with_ranges (holding_of s.held) (joined (range_of q) rs))) (sym (own_is own o)) ∙
                sym (ap (λ (c : Cache). held_of c.held) left))
                (w.1 ∙ ap (λ (L : List ℕ). marks (database s) (reached L) ++ past 512 s.marks) levels-same ∙
                sym (ap (λ (c : Cache). c.marks ++ past 512 s.marks) left))
              where
                room : has_range_room (holding_of s.held) (range_of q) ≡ true
                room = room-is ∙ le-leb _ _ l

                left : after s (refer_range (range_of q)) ≡ referred_range (scheme s) (database s) (cache s) (range_of q)
                left = range-leaves (scheme s) (database s) (cache s) (range_of q) f k covers-not room

    -- ---- a drop

    pub drop-range-5 : is_range (scheme s) (range_of q) ≡ false → Answered s (drop_range (range_of q)) (refused 5) s
    drop-range-5 h =
        stays s e z _ _ (drop-range-nowhere _ _ _ (range_of q) h
        (refute _ (λ n. clash (fits-range (scheme s) (range_of q) (held-range-fits (scheme s) (holding_of s.held) desk-named (held-fits s e).ranges (range_of q) n)) h)))

    module _ (f : is_range (scheme s) (range_of q) ≡ true) (own : DeskRanges) (o : own ≡ ranges_at s.held s.held.desk) where
      holds-is : holds_range (holding_of s.held) (range_of q) ≡ listed same_range (range_of q) (list_of own)
      holds-is = ap (listed same_range (range_of q)) (own_is own o)

      pub drop-range-10 : listed same_range (range_of q) (list_of own) ≡ false → Answered s (drop_range (range_of q)) (refused 10) s
      drop-range-10 n = stays s e z _ _ (drop-range-none _ _ _ (range_of q) f (holds-is ∙ n))

      module _ (n : listed same_range (range_of q) (list_of own) ≡ true) (t : DeskRanges) (j : t ≡ list_back (remove same_range (range_of q) (list_of own))) (h : Held)
          (g : h ≡ record { desk = s.held.desk; count = s.held.count; values = s.held.values; ranges = set s.held.ranges s.held.desk t }) where
        abbrev rest : Holding
        rest = without_range (holding_of s.held) (range_of q)

        left_is : h ≡ held_of rest
        left_is =
            with-list (remove same_range (range_of q) (list_of own)) h t j g ∙
            ap (λ (rs : List Model.Range). held_of (with_ranges (holding_of s.held) (remove same_range (range_of q) rs))) (sym (own_is own o))

        rest-fits : HoldingFits (scheme s) rest
        rest-fits = fit-without (scheme s) (holding_of s.held) (held-fits s e) (range_of q)

        pub range-left-bounded : Bounded h
        range-left-bounded = left-of-bounded s e rest rest-fits h left_is

        pub range-left-covers : Covers (scheme s) (database s) (wanted (scheme s) (database s) (holding_of h)) (marked s.marks)
        range-left-covers =
            subst (λ (k : Holding). Covers (scheme s) (database s) (wanted (scheme s) (database s) k) (marked s.marks))
            (sym (left-of-holding s e rest rest-fits h left_is)) (sound-covers-range s e (range_of q))

        pub range-drop : (a : Answer) (m : List ℕ) →
            (let D = database_of s.cells s.tables in
            let L = held_levels s.design (database s) h in
            (a ≡ dropped (gone_rows D L s.marks)) × (m ≡ settled D L s.marks)) →
            Answered s (drop_range (range_of q)) a (lent s.design s.cells s.tables m h)
        unfolding settled
        range-drop a m w =
            steps s e _ a h m
            (w.0 ∙ ap dropped (ap (λ (L : List ℕ). gone_rows (database s) L s.marks) same ∙ gone_same s e _) ∙
            drop-range-drops (scheme s) (database s) (cache s) (range_of q) f (holds-is ∙ n))
            (left_is ∙ sym (ap (λ (c : Cache). held_of c.held) left))
            (w.1 ∙ ap (λ (L : List ℕ). marks (database s) (reached L) ++ past 512 s.marks) same ∙
            sym (ap (λ (c : Cache). c.marks ++ past 512 s.marks) left))
          where
            same : held_levels s.design (database s) h ≡ reload_levels (scheme s) (database s) rest
            same = reload-of s e rest rest-fits h left_is

            left : after s (drop_range (range_of q)) ≡ reloaded (scheme s) (database s) rest
            left = drop-range-leaves (scheme s) (database s) (cache s) (range_of q) f (holds-is ∙ n)

        -- no row has a value of the range: all rows stay
        pub range-stays : ((r : ℕ) → has_range (database s) (column_of (filling_at s.design q.filling).column) (range_of q) r ≡ false) →
            Answered s (drop_range (range_of q)) (dropped 0) (lent s.design s.cells s.tables s.marks h)
        unfolding scheme_of
        range-stays w =
            range-drop (dropped 0) s.marks
            (left-of-stays s e rest rest-fits h left_is (λ r l. wanted-without-range (scheme s) (database s) (holding_of s.held) r (range_of q) (w r)))
