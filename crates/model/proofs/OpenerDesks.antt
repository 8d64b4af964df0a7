-- The desks and the value that would open a query: which desk is named decides nothing (02, Req 09: "Desk limits are disregarded"), and a value that some desk
-- holds, as a pair or in a range, opens none. Assumes nothing.
use Prim.Native.Nat.{ℕ, ◌^◌}
use mathlib.Core.Path.{◌≡◌, sym, ap, ◌∙◌, fun_ext}
use mathlib.Core.Logic.{inl, inr, ⊎_elim}
use mathlib.Core.Bool.{Bool, true, false, not, ◌&&◌, and-eq-true_iff}
use lib.Dec.{eqb, ltb}
use Rattle.finite.specs.Finite.{any, first}
use Rattle.finite.specs.Sameness.{listed}
use Rattle.finite.proofs.Bools.{both, clash, or_left, refute, or-second}
use Rattle.finite.proofs.Search.{any-true, any_found}
use Rattle.model.specs.Cell.{Cell, issued, equal}
use Rattle.model.specs.Scheme.{Column, same_column, candidate, Scheme}
use Rattle.model.specs.Database.{Database}
use Rattle.model.specs.Cache.{Held}
use Rattle.model.specs.Probe.{probe}
use Rattle.model.specs.Ranges.{Range, same_range, in_range, range_holds}
use Rattle.model.specs.Holding.{Pair, Owned, same_owned, Holding, with_desk, with_pair, all_ranges, range_count, held_range, some_holds_range, one, pairs_hold, held_in}
use Rattle.model.specs.Runs.{Cache, marked, referred, at_desk}
use Rattle.model.specs.Opener.{is_open, opens, lowest_filling, lowest_number, lowest_issue}
use Rattle.model.specs.Turned.{gives}
use Rattle.model.specs.Answers.{Answer, opened, opened_by, no_opener, or_answer, opener_answer}
use Rattle.model.proofs.CellLaws.{equal-same}
use Rattle.model.proofs.DatabaseLaws.{same-column, same-column-self, has-Has}
use Rattle.model.proofs.RangeLaws.{same-range}
use Rattle.model.proofs.RangesFit.{some-any}
use Rattle.model.proofs.Referring.{listed-held}
use Rattle.model.proofs.RunLaws.{Sound, held_more, held-wants}
use Rattle.model.proofs.TurnedLaws.{then-cached}
use Rattle.model.proofs.Opens.{gives-inside, open_gives, opens-cases}

-- ---- the desk that is named

more-anywhere : (S : Scheme) (h : Holding) (d : ℕ) (p : Pair) → held_in S (with_pair (with_desk h d) p) ≡ held_in S (with_pair h p)
more-anywhere S h d p = held_more S (with_desk h d) p ∙ sym (held_more S h p)

module _ (S : Scheme) (D : Database) (c : Cache) (d : ℕ) (k : Column) (v : Cell) where
  opens-anywhere : (p : Pair) → opens S D k v (at_desk c d) p ≡ opens S D k v c p
  unfolding opens is_open
  opens-anywhere p =
      ap (λ (H : Held). candidate (S.filling p.filling) p.value && not (eqb (probe S D H (marked (referred S D c p).marks) k v) 0)) (more-anywhere S c.held d p)

  -- the answer, from the pairs that open the query
  abbrev by : (Pair → Bool) → Answer
  by o =
      let at : ℕ → ℕ → ℕ → Bool = λ f n i. o (record { filling = f; value = issued n i }) in
      let f = first S.fillings (λ f. any (2 ^ 32) (λ n. any (2 ^ 8) (at f n))) in
      let n = first (2 ^ 32) (λ n. any (2 ^ 8) (at f n)) in
      or_answer (is_open S D k v c) opened (or_answer (ltb f S.fillings) (opened_by f n (first (2 ^ 8) (at f n))) no_opener)

  -- THEOREM: the answer is the same at every desk
  pub desk-opens-alike : opener_answer S D (at_desk c d) k v ≡ opener_answer S D c k v
  unfolding opener_answer lowest_filling lowest_number lowest_issue is_open
  desk-opens-alike = ap by (fun_ext opens-anywhere)

-- ---- values that are held

-- THEOREM: where the probe has no ground, a value that is held in its filling's column, whichever desk holds it and whether as a pair or in a range, opens nothing
pub held-opens-nothing : (S : Scheme) (D : Database) (c : Cache) → Sound S D c → (k : Column) (v : Cell) → is_open S D k v c ≡ false →
    (p : Pair) → held_in S c.held (S.filling p.filling).column p.value ≡ true → opens S D k v c p ≡ false
unfolding one
held-opens-nothing S D c sound k v shut p e = refute _ (λ t. ⊎_elim
    (λ h. let q = (and-eq-true_iff (same_column (S.filling p.filling).column k) (equal p.value v)).0 h in
    clash ((open_gives S D k v c).1 (inl (rw (same-column _ k q.0, equal-same p.value v q.1) at e))) shut)
    (λ g. clash ((open_gives S D k v c).1 (inr (then-cached sound (held-wants S D c.held) (gives S D k v) (gives-inside S D k v)
    (record {
      row = g.row;
      first = (held-wants S D c.held).covers _ p.value g.row e (has-Has D _ p.value g.row g.first);
      second = g.second;
    })))) shut)
    (opens-cases S D c sound k v shut p t).1)

-- a pair that some desk holds is one, and so is every value of a range that some desk holds
pub pair_held : (S : Scheme) (h : Holding) (o : Owned) → listed same_owned o h.values ≡ true →
    held_in S h (S.filling o.pair.filling).column o.pair.value ≡ true
pair_held S h o e =
    let k = (S.filling o.pair.filling).column in
    sym (or_left (pairs_hold S h.values k o.pair.value) _ (listed-held S h.values o k e (same-column-self k)))

pub range-held : (S : Scheme) (h : Holding) (r : Range) → some_holds_range h r ≡ true → (v : Cell) → in_range r v ≡ true →
    held_in S h (S.filling r.filling).column v ≡ true
unfolding some_holds_range range_holds
range-held S h r e v i =
    let k = (S.filling r.filling).column in
    let f = any_found (range_count h) (λ j. same_range (held_range h j) r) e in
    let q : Range → Bool = λ s. same_column (S.filling s.filling).column k && in_range s v in
    or-second (pairs_hold S h.values k v) _
    (some-any q (all_ranges h.ranges) ∙ any-true (range_count h) (λ j. q (held_range h j)) f.0 f.1 (ap q (same-range (held_range h f.0) r f.2) ∙ both (same-column-self k) i))
