-- Which single reference gives a ground, where there is none: one of the value itself in the probed column, or of a value that a row has which leads on to a
-- row that gives one. Assumes nothing.
use Prim.Native.Nat.{ℕ}
use mathlib.Core.Path.{◌≡◌, sym, ap, ◌∙◌}
use mathlib.Core.Logic.{◌↔◌, ◌≢◌, ◌⊎◌, inl, inr, ⊎_elim}
use mathlib.Core.Bool.{Bool, true, false, ◌&&◌, ◌||◌, and-eq-true_iff}
use borrow.Author.Tests.{eqb-false, not-true}
use Rattle.finite.specs.Finite.{any}
use Rattle.finite.proofs.Bools.{both, clash, or_cases, ne-not, or-second}
use Rattle.finite.proofs.Search.{any-true, any_found}
use Rattle.model.specs.Cell.{Cell}
use Rattle.model.specs.Scheme.{Column, candidate, Scheme, same_column}
use Rattle.model.specs.Database.{Database, has}
use Rattle.model.specs.Cache.{RowSet, Inside, Held}
use Rattle.model.specs.Probe.{demanded, uniquely_seen, probe}
use Rattle.model.specs.Holding.{Pair, with_pair, one, held_in, wanted}
use Rattle.model.specs.Runs.{Cache, marked, referred}
use Rattle.model.specs.Opener.{is_open, opens}
use Rattle.model.specs.Turned.{gives, leads_on}
use Rattle.model.proofs.DatabaseLaws.{same-column, same-column-self, has-Has, Has-has}
use Rattle.model.proofs.ProbeLaws.{Seen, seen-Seen, Seen-seen, Demanded, demanded-Demanded, Demanded-demanded, probe-yes, probe-sent}
use Rattle.model.proofs.Loads.{Wants, one-wants, both-want}
use Rattle.model.proofs.Marks.{marks-smallest}
use Rattle.model.proofs.RunLaws.{Sound, refer-smallest, held_more, held-wants}
use Rattle.model.proofs.TurnedLaws.{Common, then-cached, then-wanted}

-- ---- a ground, by a row that gives it

module _ (S : Scheme) (D : Database) (k : Column) (v : Cell) where
  -- constraint i ends at the column, and row r has the value in its source column
  abbrev demanded_by : ℕ → ℕ → Bool
  demanded_by r i = same_column (S.constraint i).target k && has D (S.constraint i).source v r

  -- by ground 2, or by ground 3
  gives-cases : (r : ℕ) → gives S D k v r ≡ true → (any S.constraints (demanded_by r) ≡ true) ⊎ ((S.unique k ≡ true) × (has D k v r ≡ true))
  unfolding gives
  gives-cases r e = ⊎_elim inl (λ b. inr ((and-eq-true_iff (S.unique k) _).0 b)) (or_cases (any S.constraints (demanded_by r)) (S.unique k && has D k v r) e)

  pub gives-inside : Inside (gives S D k v) D.live
  gives-inside r e = ⊎_elim
      (λ a. let f = any_found S.constraints (demanded_by r) a in
      (has-Has D (S.constraint f.0).source v r ((and-eq-true_iff (same_column (S.constraint f.0).target k) _).0 f.2).1).live)
      (λ b. (has-Has D k v r b.1).live)
      (gives-cases r e)

  demanded-gives : {X : RowSet} → Demanded S D X k v → Common (gives S D k v) X
  unfolding gives
  demanded-gives d =
      record {
        row = d.source.row;
        first = rw (any-true S.constraints (demanded_by d.source.row) d.number d.exists
            (both (ap (λ (j : Column). same_column j k) d.ends ∙ same-column-self k) (Has-has d.source.has)));
        second = d.source.cached;
      }

  unique-gives : {X : RowSet} → S.unique k ≡ true → Seen D X k v → Common (gives S D k v) X
  unfolding gives
  unique-gives u s =
      record {
        row = s.row;
        first = or-second (any S.constraints (demanded_by s.row)) (S.unique k && has D k v s.row) (both u (Has-has s.has));
        second = s.cached;
      }

  -- a cached row that gives a ground: there is one
  gives-ground : {X : RowSet} → Common (gives S D k v) X → (demanded S D X k v ≡ true) ⊎ (uniquely_seen S D X k v ≡ true)
  unfolding uniquely_seen
  gives-ground c = ⊎_elim
      (λ a. let f = any_found S.constraints (demanded_by c.row) a in
      let q = (and-eq-true_iff (same_column (S.constraint f.0).target k) _).0 f.2 in
      inl (Demanded-demanded (record { number = f.0; exists = f.1; ends = same-column _ k q.0; source = record { row = c.row; cached = c.second; has = has-Has D _ v c.row q.1 } })))
      (λ b. inr (both b.0 (Seen-seen (record { row = c.row; cached = c.second; has = has-Has D k v c.row b.1 }))))
      (gives-cases c.row c.first)

  -- the probe has a ground exactly if the value is held there or a cached row gives one
  pub probe-gives : (H : Held) (X : RowSet) → (probe S D H X k v ≢ 0) ↔ ((H k v ≡ true) ⊎ Common (gives S D k v) X)
  unfolding uniquely_seen
  probe-gives H X = (
    λ y. ⊎_elim inl (λ q. inr (⊎_elim (λ d. demanded-gives (demanded-Demanded S D X k v d)) (λ u. let p = (and-eq-true_iff (S.unique k) _).0 u in unique-gives p.0 (seen-Seen D X k v p.1)) q)) (probe-yes S D H X k v y),
    λ g z. let n = probe-sent S D H X k v z in
        ⊎_elim (λ h. clash h n.0) (λ c. ⊎_elim (λ d. clash d n.1) (λ u. clash u n.2) (gives-ground c)) g,
  )

  -- the same of a cache
  pub open_gives : (c : Cache) → (is_open S D k v c ≡ true) ↔ ((held_in S c.held k v ≡ true) ⊎ Common (gives S D k v) (marked c.marks))
  unfolding is_open
  open_gives c =
      let h = probe-gives (held_in S c.held) (marked c.marks) in
      (λ e. h.0 (eqb-false _ 0 (not-true _ e)), λ o. ne-not _ 0 (h.1 o))

-- ---- one more value

module _ (S : Scheme) (D : Database) (c : Cache) (sound : Sound S D c) (k : Column) (v : Cell) (shut : is_open S D k v c ≡ false) (p : Pair) where
  abbrev col : Column
  col = (S.filling p.filling).column

  -- the rows that lead on to one which gives a ground
  abbrev B : RowSet
  B = leads_on S D (gives S D k v)

  -- the rows that have what is held, and those that have p's value
  abbrev more : RowSet
  more r = wanted S D c.held r || has D col p.value r

  more-wants : Wants D (held_in S (with_pair c.held p)) more
  more-wants = rw (held_more S c.held p) (both-want (held-wants S D c.held) (one-wants D col p.value))

  more-holds : held_in S (with_pair c.held p) k v ≡ (held_in S c.held k v || one col p.value k v)
  more-holds = ap (λ (H : Held). H k v) (held_more S c.held p)

  sound_more : Sound S D (referred S D c p)
  sound_more = marks-smallest (refer-smallest c p sound)

  -- no row that has what is held leads on
  new : Common more B → Common (has D col p.value) B
  new q = ⊎_elim
      (λ a. clash ((open_gives S D k v c).1 (inr (then-cached sound (held-wants S D c.held) (gives S D k v) (gives-inside S D k v)
      (record { row = q.row; first = a; second = q.second })))) shut)
      (λ b. record { row = q.row; first = b; second = q.second })
      (or_cases (wanted S D c.held q.row) (has D col p.value q.row) q.first)

  -- THE OPENER THEOREM: a reference to p gives a ground exactly if p is the value itself in the probed column, or a row that has p's value in p's column leads
  -- on to one that gives a ground
  pub opens-exactly : (is_open S D k v (referred S D c p) ≡ true) ↔ ((one col p.value k v ≡ true) ⊎ Common (has D col p.value) B)
  opens-exactly = (
    λ y. ⊎_elim
        (λ h. ⊎_elim (λ o. clash ((open_gives S D k v c).1 (inl o)) shut) inl (or_cases (held_in S c.held k v) (one col p.value k v) (sym more-holds ∙ h)))
        (λ g. inr (new (then-wanted sound_more more-wants (gives S D k v) (gives-inside S D k v) g)))
        ((open_gives S D k v (referred S D c p)).0 y),
    λ o. (open_gives S D k v (referred S D c p)).1 (⊎_elim
        (λ h. inl (more-holds ∙ or-second (held_in S c.held k v) (one col p.value k v) h))
        (λ g. inr (then-cached sound_more more-wants (gives S D k v) (gives-inside S D k v)
        (record { row = g.row; first = or-second (wanted S D c.held g.row) (has D col p.value g.row) g.first; second = g.second })))
        o),
  )

  -- and it opens the query exactly if it is a candidate, too
  pub opens-cases : opens S D k v c p ≡ true → (candidate (S.filling p.filling) p.value ≡ true) × ((one col p.value k v ≡ true) ⊎ Common (has D col p.value) B)
  unfolding opens
  opens-cases e = let q = (and-eq-true_iff (candidate (S.filling p.filling) p.value) _).0 e in (q.0, opens-exactly.0 q.1)

  pub cases-open : candidate (S.filling p.filling) p.value ≡ true → (one col p.value k v ≡ true) ⊎ Common (has D col p.value) B → opens S D k v c p ≡ true
  unfolding opens
  cases-open a o = both a (opens-exactly.1 o)
