-- What a drop may rely on: over a sound state the cached rows have the rows that the values left want, and what their rows demand, so that a reload adds
-- no others. And where no row has what is dropped, what is left wants the same rows. Assumes nothing.
use Prim.Native.Nat.{ℕ, zero, suc}
use mathlib.Core.Path.{◌≡◌, refl, sym, ap, ap₂, ◌∙◌}
use mathlib.Core.Logic.{⊎_elim}
use mathlib.Core.Bool.{Bool, true, false, cond, ◌||◌, or-true, and-eq-true_iff}
use mathlib.Core.List.{List, [], ◌∷◌}
use borrow.Author.Tests.{eqb-true}
use lib.Dec.{eqb}
use lib.ListN.{take}
use Rattle.finite.specs.Sameness.{remove}
use Rattle.finite.proofs.Bools.{or_cases, or_left, or-second}
use Rattle.model.specs.Cell.{Cell}
use Rattle.model.specs.Scheme.{Scheme}
use Rattle.model.specs.Database.{Database, has}
use Rattle.model.specs.Cache.{RowSet, Inside, Complete, Meets}
use Rattle.model.specs.Ranges.{Range, same_range, some_range, has_range}
use Rattle.model.specs.Holding.{Pair, same_pair, Owned, same_owned, Holding, mine, without_pair, ranges_of, with_list, all_ranges, own_ranges, without_range, pairs_want, ranges_want, wanted, held_in}
use Rattle.model.specs.Runs.{marked}
use Rattle.model.proofs.CellLaws.{equal-same}
use Rattle.model.proofs.Closed.{Closed, demands-Demand, constraints-closed}
use Rattle.model.proofs.Fresh.{fresh-sound}
use Rattle.model.proofs.RangesHeld.{fewer-all, some-fewer, some-append}
use Rattle.model.proofs.HoldingLaws.{same_parts}
use Rattle.model.proofs.RangeLaws.{same-range}
use Rattle.model.proofs.RunLaws.{held-wants}
use Rattle.state.specs.Cells.{Cells}
use Rattle.state.specs.Meaning.{database_of, holding_of}
use Rattle.state.specs.Lent.{State, scheme, database, sound}
use Rattle.lawful.proofs.SoundState.{parts, lawful-fresh}
use Rattle.probe.proofs.GroundLaws.{marked-front}
use Rattle.load.specs.Ended.{Covers}

-- fewer pairs want fewer rows
want-fewer : (S : Scheme) (D : Database) (p : Owned) (ps : List Owned) → Inside (pairs_want S D (remove same_owned p ps)) (pairs_want S D ps)
unfolding pairs_want remove
want-fewer S D p [] r t = t
want-fewer S D p (q ∷ ps) r t = go (same_owned q p) (want-fewer S D p ps r) t
  where
    later : pairs_want S D ps r ≡ true → has D (S.filling q.pair.filling).column q.pair.value r || pairs_want S D ps r ≡ true
    later e = ap (λ (b : Bool). has D (S.filling q.pair.filling).column q.pair.value r || b) e ∙ or-true (has D (S.filling q.pair.filling).column q.pair.value r)

    go : (b : Bool) → (pairs_want S D (remove same_owned p ps) r ≡ true → pairs_want S D ps r ≡ true) →
        pairs_want S D (cond b ps (q ∷ remove same_owned p ps)) r ≡ true →
        has D (S.filling q.pair.filling).column q.pair.value r || pairs_want S D ps r ≡ true
    go true h e = later e
    go false h e =
        ⊎_elim (λ a. sym (or_left (has D (S.filling q.pair.filling).column q.pair.value r) (pairs_want S D ps r) a)) (λ a. later (h a))
        (or_cases (has D (S.filling q.pair.filling).column q.pair.value r) (pairs_want S D (remove same_owned p ps) r) e)

-- a row set that meets the constraints and what is held has the rows that this wants
meets-wanted : (S : Scheme) (D : Database) (h : Holding) (X : RowSet) → Meets S D (held_in S h) X → Inside (wanted S D h) X
unfolding Complete
meets-wanted S D h X m r t = let q = (held-wants S D h).wanted r t in m.values q.column q.value q.held r q.has

-- the same of marks, whatever lies past those of the rows
marks-cover : (S : Scheme) (cells : Cells) (tables m : List ℕ) (h k : Holding) →
    Meets S (database_of cells tables) (held_in S h) (marked (take 512 m)) →
    Inside (wanted S (database_of cells tables) k) (wanted S (database_of cells tables) h) →
    Covers S (database_of cells tables) (wanted S (database_of cells tables) k) (marked m)
unfolding database_of
marks-cover S cells tables m h k g f =
    record {
      closed = λ s r x d. let e = demands-Demand S D s r d in
          back r (C.demanded s r (sym (marked-front m 512 s (D.finite s e.source.live)) ∙ x) e);
      seeds = λ r t. back r (meets-wanted S D h (marked (take 512 m)) g r (f r t));
    }
  where
    D : Database
    D = database_of cells tables

    C : Closed S D (marked (take 512 m))
    C = constraints-closed g.rows g.constraints

    back : (r : ℕ) → marked (take 512 m) r ≡ true → marked m r ≡ true
    back r t = marked-front m 512 r (D.finite r (g.rows r t)) ∙ t

-- of a sound state, where k wants no row that isn't wanted
covers-fewer : (s : State) → sound s ≡ true → (k : Holding) → Inside (wanted (scheme s) (database s) k) (wanted (scheme s) (database s) (holding_of s.held)) →
    Covers (scheme s) (database s) (wanted (scheme s) (database s) k) (marked s.marks)
covers-fewer s e k f =
    marks-cover (scheme s) s.cells s.tables s.marks (holding_of s.held) k
    (fresh-sound (scheme s) (database s) _
    (lawful-fresh s.design s.cells s.tables s.held s.marks (parts s e).long.marks (parts s e).marks)).meets f

-- what is wanted without a pair, and without a range
pub sound-covers : (s : State) → sound s ≡ true → (p : Pair) →
    Covers (scheme s) (database s) (wanted (scheme s) (database s) (without_pair (holding_of s.held) p)) (marked s.marks)
sound-covers s e p =
    let h = holding_of s.held in
    covers-fewer s e (without_pair h p)
    (λ r t. ⊎_elim
    (λ a. sym (or_left (pairs_want (scheme s) (database s) h.values r) _ (want-fewer (scheme s) (database s) (mine h p) h.values r a)))
    (λ a. or-second (pairs_want (scheme s) (database s) h.values r) _ a)
    (or_cases (pairs_want (scheme s) (database s) (without_pair h p).values r) _ t))

pub sound-covers-range : (s : State) → sound s ≡ true → (q : Range) →
    Covers (scheme s) (database s) (wanted (scheme s) (database s) (without_range (holding_of s.held) q)) (marked s.marks)
sound-covers-range s e q =
    let h = holding_of s.held in
    covers-fewer s e (without_range h q)
    (λ r t. ⊎_elim
    (λ a. sym (or_left (pairs_want (scheme s) (database s) h.values r) _ a))
    (λ a. or-second (pairs_want (scheme s) (database s) h.values r) _
    (fewer-all _ h.ranges h.desk (remove same_range q (own_ranges h)) (some-fewer _ (own_ranges h) q) a))
    (or_cases (pairs_want (scheme s) (database s) h.values r) _ t))

-- ---- what no row has

-- the rows that have the pair's value in its filling's column
abbrev has_pair : Scheme → Database → Pair → RowSet
has_pair S D p = has D (S.filling p.filling).column p.value

same_rows : (S : Scheme) (D : Database) (p q : Owned) → same_owned q p ≡ true → (r : ℕ) → has_pair S D q.pair r ≡ has_pair S D p.pair r
unfolding same_pair
same_rows S D p q e r =
    let h = (and-eq-true_iff (eqb q.pair.filling p.pair.filling) _).0 (same_parts q p e).1 in
    ap₂ (λ (f : ℕ) (v : Cell). has D (S.filling f).column v r) (eqb-true _ _ h.0) (equal-same q.pair.value p.pair.value h.1)

-- where row r doesn't have the pair that goes, the others want it exactly if all did
want-others : (S : Scheme) (D : Database) (p : Owned) (ps : List Owned) (r : ℕ) → has_pair S D p.pair r ≡ false →
    pairs_want S D (remove same_owned p ps) r ≡ pairs_want S D ps r
unfolding pairs_want remove
want-others S D p [] r n = refl
want-others S D p (q ∷ ps) r n = go (same_owned q p) refl (want-others S D p ps r n)
  where
    go : (b : Bool) → same_owned q p ≡ b → pairs_want S D (remove same_owned p ps) r ≡ pairs_want S D ps r →
        pairs_want S D (cond b ps (q ∷ remove same_owned p ps)) r ≡ has_pair S D q.pair r || pairs_want S D ps r
    go true e h = ap (λ (b : Bool). b || pairs_want S D ps r) (sym (same_rows S D p q e r ∙ n))
    go false e h = ap (λ (b : Bool). has_pair S D q.pair r || b) h

-- the same of a range, in its desk's list
some-others : (p : Range → Bool) (rs : List Range) (q : Range) → p q ≡ false → some_range p (remove same_range q rs) ≡ some_range p rs
unfolding some_range remove
some-others p [] q n = refl
some-others p (x ∷ rs) q n = go (same_range x q) refl (some-others p rs q n)
  where
    go : (b : Bool) → same_range x q ≡ b → some_range p (remove same_range q rs) ≡ some_range p rs →
        some_range p (cond b rs (x ∷ remove same_range q rs)) ≡ p x || some_range p rs
    go true e h = ap (λ (b : Bool). b || some_range p rs) (sym (ap p (same-range x q e) ∙ n))
    go false e h = ap (λ (b : Bool). p x || b) h

-- and in the lists of all desks
all_others : (p : Range → Bool) (rss : List (List Range)) (d : ℕ) (rs : List Range) → some_range p rs ≡ some_range p (ranges_of rss d) →
    some_range p (all_ranges (with_list rss d rs)) ≡ some_range p (all_ranges rss)
unfolding with_list all_ranges some_range
all_others p [] zero rs h = some-append p rs [] ∙ ap (λ (b : Bool). b || some_range p []) h
all_others p [] (suc d) rs h = all_others p [] d rs h
all_others p (qs ∷ qss) zero rs h =
    some-append p rs (all_ranges qss) ∙ ap (λ (b : Bool). b || some_range p (all_ranges qss)) h ∙ sym (some-append p qs (all_ranges qss))
all_others p (qs ∷ qss) (suc d) rs h =
    some-append p qs (all_ranges (with_list qss d rs)) ∙ ap (λ (b : Bool). some_range p qs || b) (all_others p qss d rs h) ∙ sym (some-append p qs (all_ranges qss))

module _ (S : Scheme) (D : Database) (h : Holding) (r : ℕ) where
  -- what is wanted without a pair, and without a range, that row r doesn't have
  pub wanted-without : (p : Pair) → has_pair S D p r ≡ false → wanted S D (without_pair h p) r ≡ wanted S D h r
  wanted-without p n = ap (λ (b : Bool). b || ranges_want S D (all_ranges h.ranges) r) (want-others S D (mine h p) h.values r n)

  pub wanted-without-range : (q : Range) → has_range D (S.filling q.filling).column q r ≡ false → wanted S D (without_range h q) r ≡ wanted S D h r
  wanted-without-range q n =
      ap (λ (b : Bool). pairs_want S D h.values r || b)
      (all_others _ h.ranges h.desk (remove same_range q (own_ranges h)) (some-others (λ (x : Range). has_range D (S.filling x.filling).column x r) (own_ranges h) q n))
