-- What is held fits a scheme: one of four desks is named, each desk has at most 16 pairs of an existing filling and a candidate, none twice, and its ranges fit
-- (`RangesFit.antt`). It still fits when a REFER puts a pair at the end, when one goes, when a range is held or dropped, and when another desk is named; a listed
-- pair is one of them. What a desk is told of its own pairs comes from these alone. Assumes nothing.
use Prim.Native.Nat.{ℕ, zero, suc, ◌+◌, ◌≤◌, ◌<◌}
use native.Mathlib.Decide.{dec_lt}
use native.Mathlib.Numerals.{add-one}
use native.Mathlib.Omega.{arith}
use mathlib.Core.Path.{◌≡◌, refl, sym, ap, ap₂, subst, ◌∙◌}
use mathlib.Core.Logic.{◌⊎◌, inl, inr, ⊎_elim}
use mathlib.Core.Bool.{Bool, true, false, not, cond, ◌&&◌, ◌||◌, and-eq-true_iff}
use mathlib.Core.List.{List, [], ◌∷◌, ◌++◌}
use borrow.Author.Tests.{ltb-true, eqb-true, eq-eqb, ne_eqb, not-true}
use lib.Dec.{eqb, ltb}
use lib.ListN.{length, get_or}
use Rattle.finite.specs.Finite.{any, count, tab}
use Rattle.finite.specs.Sameness.{listed, place_of, remove}
use Rattle.finite.proofs.Bools.{both, clash, or_cases, same_number}
use Rattle.finite.proofs.Search.{any-front, any_found, any-start, any-true}
use Rattle.finite.proofs.Tables.{tab-more}
use Rattle.finite.proofs.Sameness.{end-length, end-before, end-last, unlisted-at, skip, skip-rises, skip-le, remove-none, remove-length, remove-at}
use Rattle.model.specs.Cell.{Cell, is_blank}
use Rattle.model.specs.Scheme.{Column, Scheme, candidate, same_column}
use Rattle.model.specs.Database.{Database, has}
use Rattle.model.specs.Holding.{desks, places, Pair, same_pair, Owned, same_owned, own_among, Holding, own_of, mine, held_count, held_pair, some_holds, holds, has_room, with_pair, without_pair, holds_range, without_range, all_ranges, range_count, held_range, some_holds_range, one, pairs_hold, pairs_want, ranges_hold, held_in}
pub use Rattle.model.specs.Holding.{no_owned}
use Rattle.model.specs.Cache.{RowSet}
use Rattle.model.specs.Ranges.{Range, same_range, range_holds}
use Rattle.model.specs.Probe as Probe
use Rattle.model.specs.Query.{Query}
use Rattle.model.specs.Runs.{Output, Operation, refer, drop, ask, query, name, refer_range, drop_range, taken, range_taken, cached_for, pair_for, answerable, refers, held_after}
use Rattle.model.proofs.CellLaws.{equal-same, equal-self}
use Rattle.model.proofs.RangeLaws.{same-range, RangeFits}
use Rattle.model.proofs.RangesFit.{ListsFit, all_fit, every-at, some-found, range-taken-says, lists-more, lists-fewer}

abbrev pub owned_at : List Owned → ℕ → Owned
owned_at os i = get_or os i no_owned

-- ---- a desk's own pairs

-- a value's own desk has one more of them
own-head : (d : ℕ) (o : Owned) (os : List Owned) → length (own_among d (o ∷ os)) ≡ cond (eqb o.desk d) 1 0 + length (own_among d os)
unfolding own_among
own-head d o os = go (eqb o.desk d)
  where
    go : (b : Bool) → length (cond b (o.pair ∷ own_among d os) (own_among d os)) ≡ cond b 1 0 + length (own_among d os)
    go true = omega arith
    go false = omega arith

pub own-end : (d : ℕ) (os : List Owned) (o : Owned) → length (own_among d (os ++ (o ∷ []))) ≡ length (own_among d os) + cond (eqb o.desk d) 1 0
unfolding own_among
own-end d [] o = omega (arith, own-head d o [])
own-end d (q ∷ qs) o = omega (arith, own-head d q (qs ++ (o ∷ [])), own-head d q qs, own-end d qs o)

-- they are as many as the values with this desk
pub own-count : (d n : ℕ) (f : ℕ → Owned) → length (own_among d (tab n f)) ≡ count n (λ i. eqb (f i).desk d)
unfolding count tab own_among
own-count d zero f = refl
own-count d (suc n) f =
    ap (λ (os : List Owned). length (own_among d os)) (ap (λ (m : ℕ). tab m f) (sym (add-one n)) ∙ tab-more n f) ∙ own-end d (tab n f) (f n) ∙
    ap (λ (m : ℕ). m + cond (eqb (f n).desk d) 1 0) (own-count d n f)

-- a value that goes makes them no more
own-fewer : (d : ℕ) (o : Owned) (os : List Owned) → length (own_among d (remove same_owned o os)) ≤ length (own_among d os)
unfolding remove
own-fewer d o [] = omega arith
own-fewer d o (q ∷ qs) = go (same_owned q o) (own-fewer d o qs)
  where
    go : (b : Bool) → length (own_among d (remove same_owned o qs)) ≤ length (own_among d qs) →
        length (own_among d (cond b qs (q ∷ remove same_owned o qs))) ≤ length (own_among d (q ∷ qs))
    go true h = omega (arith, own-head d q qs)
    go false h = omega (arith, own-head d q qs, own-head d q (remove same_owned o qs))

-- the desks together have all values
own-all : (os : List Owned) → ((i : ℕ) → i < length os → (owned_at os i).desk < desks) →
    length os ≡ length (own_among 0 os) + length (own_among 1 os) + length (own_among 2 os) + length (own_among 3 os)
unfolding own_among
own-all [] h = refl
own-all (o ∷ os) h =
    omega (arith, own-head 0 o os, own-head 1 o os, own-head 2 o os, own-head 3 o os, one_of o.desk (h 0 (omega arith)), own-all os (λ i l. h (suc i) (omega arith)))
  where
    one_of : (d : ℕ) → d < desks → cond (eqb d 0) 1 0 + cond (eqb d 1) 1 0 + cond (eqb d 2) 1 0 + cond (eqb d 3) 1 0 ≡ 1
    one_of zero l = refl
    one_of (suc zero) l = refl
    one_of (suc (suc zero)) l = refl
    one_of (suc (suc (suc zero))) l = refl
    one_of (suc (suc (suc (suc d)))) l = absurd (omega arith)

-- a pair is listed as one's own exactly if it is among one's own pairs
pub own-listed : (d : ℕ) (p : Pair) (os : List Owned) → listed same_owned (record { desk = d; pair = p }) os ≡ listed same_pair p (own_among d os)
unfolding listed own_among same_owned
own-listed d p [] = refl
own-listed d p (q ∷ qs) = go (eqb q.desk d) (own-listed d p qs)
  where
    go : (b : Bool) → listed same_owned (record { desk = d; pair = p }) qs ≡ listed same_pair p (own_among d qs) →
        (b && same_pair q.pair p) || listed same_owned (record { desk = d; pair = p }) qs ≡ listed same_pair p (cond b (q.pair ∷ own_among d qs) (own_among d qs))
    go true h = ap (λ (x : Bool). same_pair q.pair p || x) h
    go false h = h

-- ---- what fits

-- values of existing desks, at most 16 for each, of an existing filling and a candidate, none twice in a desk
pub record ValuesFit (S : Scheme) (os : List Owned) : Type 0 where
  pub desk : (i : ℕ) → i < length os → (owned_at os i).desk < desks
  pub few : (d : ℕ) → d < desks → length (own_among d os) ≤ places
  pub filling : (i : ℕ) → i < length os → (owned_at os i).pair.filling < S.fillings
  pub value : (i : ℕ) → i < length os → candidate (S.filling (owned_at os i).pair.filling) (owned_at os i).pair.value ≡ true
  pub once : (i j : ℕ) → i < j → j < length os → same_owned (owned_at os i) (owned_at os j) ≡ false

pub record HoldingFits (S : Scheme) (h : Holding) : Type 0 where
  pub named : h.desk < desks
  pub values : ValuesFit S h.values
  pub ranges : ListsFit S h.ranges

-- so there are at most 64
desks-few : (os : List Owned) → ((i : ℕ) → i < length os → (owned_at os i).desk < desks) → ((d : ℕ) → d < desks → length (own_among d os) ≤ places) → length os ≤ 64
desks-few os own few = omega (arith, own-all os own, few 0 (omega arith), few 1 (omega arith), few 2 (omega arith), few 3 (omega arith))

pub values-few : {S : Scheme} {os : List Owned} → ValuesFit S os → length os ≤ 64
values-few {S} {os} H = desks-few os H.desk H.few

-- what a REFER takes: the filling exists, the value is a candidate, the pair is new to the named desk, and that has room
record Taken (S : Scheme) (h : Holding) (p : Pair) : Type 0 where
  filling : p.filling < S.fillings
  value : candidate (S.filling p.filling) p.value ≡ true
  new : holds h p ≡ false
  room : length (own_of h.desk h) < places

taken-says : (S : Scheme) (h : Holding) (p : Pair) → taken S h p ≡ true → Taken S h p
unfolding taken
taken-says S h p e =
    let a = (and-eq-true_iff (ltb p.filling S.fillings) _).0 e in
    let b = (and-eq-true_iff (candidate (S.filling p.filling) p.value) _).0 a.1 in
    let c = (and-eq-true_iff (not (holds h p)) (has_room h)).0 b.1 in
    record { filling = ltb-true _ _ a.0; value = b.0; new = not-true _ c.0; room = ltb-true _ _ c.1 }

module _ (S : Scheme) (h : Holding) (H : HoldingFits S h) (p : Pair) where
  abbrev os : List Owned
  os = h.values

  abbrev o : Owned
  o = mine h p

  abbrev more : List Owned
  more = os ++ (o ∷ [])

  last : (i : ℕ) → i < length more → (i < length os → ⊥) → i ≡ length os
  last i l m = omega (arith, end-length same_owned no_owned os o)

  more-desk : (i : ℕ) → i < length more → (owned_at more i).desk < desks
  more-desk i l = go (dec_lt i (length os))
    where
      go : Dec (i < length os) → (owned_at more i).desk < desks
      go (yes k) = rw (end-before same_owned no_owned os o i k) (H.values.desk i k)
      go (no m) = rw (end-last same_owned no_owned os o i (last i l m)) H.named

  more-few : length (own_of h.desk h) < places → (d : ℕ) → d < desks → length (own_among d more) ≤ places
  more-few room d l = go (same_number h.desk d)
    where
      one-most : (b : Bool) → cond b 1 0 ≤ 1
      one-most true = omega arith
      one-most false = omega arith

      go : (h.desk ≡ d) ⊎ (h.desk ≡ d → ⊥) → length (own_among d more) ≤ places
      go (inl e) = subst (λ (x : ℕ). length (own_among x more) ≤ places) e (omega (arith, own-end h.desk os o, one-most (eqb h.desk h.desk), room))
      go (inr n) = omega (arith, own-end d os o ∙ ap (λ (b : Bool). length (own_among d os) + cond b 1 0) (ne_eqb h.desk d n), H.values.few d l)

  fit-more : Taken S h p → HoldingFits S (with_pair h p)
  fit-more t =
      record {
        named = H.named;
        values = record {
          desk = more-desk;
          few = more-few t.room;
          filling = λ i l. filling i l (dec_lt i (length os));
          value = λ i l. value i l (dec_lt i (length os));
          once = λ j i k l. once j i k l (dec_lt i (length os));
        };
        ranges = H.ranges;
      }
    where
      filling : (i : ℕ) → i < length more → Dec (i < length os) → (owned_at more i).pair.filling < S.fillings
      filling i l (yes k) = rw (end-before same_owned no_owned os o i k) (H.values.filling i k)
      filling i l (no m) = rw (end-last same_owned no_owned os o i (last i l m)) t.filling

      value : (i : ℕ) → i < length more → Dec (i < length os) → candidate (S.filling (owned_at more i).pair.filling) (owned_at more i).pair.value ≡ true
      value i l (yes k) = rw (end-before same_owned no_owned os o i k) (H.values.value i k)
      value i l (no m) = rw (end-last same_owned no_owned os o i (last i l m)) t.value

      once : (j i : ℕ) → j < i → i < length more → Dec (i < length os) → same_owned (owned_at more j) (owned_at more i) ≡ false
      once j i k l (yes m) = rw (end-before same_owned no_owned os o i m, end-before same_owned no_owned os o j (omega arith)) (H.values.once j i k m)
      once j i k l (no m) =
          rw (end-last same_owned no_owned os o i (last i l m), end-before same_owned no_owned os o j (omega (arith, last i l m))) (unlisted-at same_owned no_owned o os t.new j (omega (arith, last i l m)))

  abbrev gap : ℕ
  gap = place_of same_owned o os

  pub fit-fewer : HoldingFits S (without_pair h p)
  fit-fewer = go (dec_lt gap (length os))
    where
      gone : gap < length os → HoldingFits S (without_pair h p)
      gone m =
          record {
            named = H.named;
            values = record {
              desk = λ i l. rw (remove-at same_owned no_owned o os m i) (H.values.desk (skip gap i) (inside i l));
              few = λ d l. omega (arith, own-fewer d o os, H.values.few d l);
              filling = λ i l. rw (remove-at same_owned no_owned o os m i) (H.values.filling (skip gap i) (inside i l));
              value = λ i l. rw (remove-at same_owned no_owned o os m i) (H.values.value (skip gap i) (inside i l));
              once = λ j i k l. rw (remove-at same_owned no_owned o os m j, remove-at same_owned no_owned o os m i)
                  (H.values.once (skip gap j) (skip gap i) (skip-rises gap j i k) (inside i l));
            };
            ranges = H.ranges;
          }
        where
          inside : (i : ℕ) → i < length (remove same_owned o os) → skip gap i < length os
          inside i l = omega (arith, skip-le gap i, remove-length same_owned no_owned o os m)

      go : Dec (gap < length os) → HoldingFits S (without_pair h p)
      go (yes m) = gone m
      go (no m) = rw (remove-none same_owned no_owned o os (omega arith)) H

-- where the named desk has room there is a place: with one more, whatever it is, there are still at most 64
pub room-few : (S : Scheme) (h : Holding) → HoldingFits S h → has_room h ≡ true → length h.values < 64
room-few S h H r =
    let p = no_owned.pair in
    omega (arith, desks-few (more S h H p) (more-desk S h H p) (more-few S h H p (ltb-true _ _ r)), end-length same_owned no_owned h.values (mine h p))

cond-fit : {S : Scheme} (b : Bool) (h g : Holding) → (b ≡ true → HoldingFits S h) → HoldingFits S g → HoldingFits S (cond b h g)
cond-fit true h g f e = f refl
cond-fit false h g f e = e

-- a query that refers has its pair taken
refers-takes : (S : Scheme) (D : Database) (h : Holding) (X : RowSet) (q : Query) (out : Output) → refers S D h X q out ≡ true → taken S h (pair_for S q) ≡ true
unfolding refers
refers-takes S D h X q out e =
    let a = (and-eq-true_iff (answerable S D q out) _).0 e in
    ((and-eq-true_iff (eqb (Probe.probe S D (held_in S h) X q.column q.value) 0) (taken S h (pair_for S q))).0 a.1).1

-- what is left when a range goes fits
pub fit-without : (S : Scheme) (h : Holding) → HoldingFits S h → (r : Range) → HoldingFits S (without_range h r)
fit-without S h H r = record { named = H.named; values = H.values; ranges = lists-fewer S h H.named H.ranges r }

-- so what is held after an operation fits
pub step-fit : (S : Scheme) (D : Database) (h : Holding) (o : Operation) → HoldingFits S h → HoldingFits S (held_after S D h o)
unfolding held_after
step-fit S D h (refer p) H = cond-fit (taken S h p) _ h (λ e. fit-more S h H p (taken-says S h p e)) H
step-fit S D h (drop p) H = cond-fit (holds h p) _ h (λ e. fit-fewer S h H p) H
step-fit S D h (ask q) H = H
step-fit S D h (query q out) H =
    cond-fit (refers S D h (cached_for S D h) q out) _ h (λ e. fit-more S h H (pair_for S q) (taken-says S h (pair_for S q) (refers-takes S D h _ q out e))) H
step-fit S D h (name d) H = cond-fit (ltb d desks) _ h (λ e. record { named = ltb-true _ _ e; values = H.values; ranges = H.ranges }) H
step-fit S D h (refer_range r) H =
    cond-fit (range_taken S h r) _ h
    (λ e. record { named = H.named; values = H.values; ranges = lists-more S h H.named H.ranges r (range-taken-says S h r e) }) H
step-fit S D h (drop_range r) H = cond-fit (holds_range h r) _ h (λ e. fit-without S h H r) H

-- ---- a listed pair

-- it stands somewhere in the list
listed_at : (o : Owned) (os : List Owned) → listed same_owned o os ≡ true → (i : ℕ) × (i < length os) × (same_owned (owned_at os i) o ≡ true)
unfolding listed
listed_at o [] e = clash refl (sym e)
listed_at o (q ∷ qs) e = ⊎_elim (λ h. (0, omega arith, h)) (λ h. let f = listed_at o qs h in (suc f.0, omega (arith, f.1), f.2)) (or_cases
    (same_owned q o) (listed same_owned o qs) e)

-- the same pair, and the same desk
pub same_parts : (a b : Owned) → same_owned a b ≡ true → (a.desk ≡ b.desk) × (same_pair a.pair b.pair ≡ true)
unfolding same_owned
same_parts a b e = let q = (and-eq-true_iff (eqb a.desk b.desk) _).0 e in (eqb-true _ _ q.0, q.1)

module _ (S : Scheme) (h : Holding) (H : HoldingFits S h) (p : Pair) (e : holds h p ≡ true) where
  same-as : (i : ℕ) × (i < length h.values) × ((owned_at h.values i).pair.filling ≡ p.filling) × ((owned_at h.values i).pair.value ≡ p.value)
  unfolding same_pair
  same-as =
      let f = listed_at (mine h p) h.values e in
      let a = owned_at h.values f.0 in
      let q = (and-eq-true_iff (eqb a.pair.filling p.filling) _).0 (same_parts a (mine h p) f.2).1 in
      (f.0, f.1, eqb-true _ _ q.0, equal-same a.pair.value p.value q.1)

  pub listed-fits : p.filling < S.fillings
  listed-fits = let f = same-as in subst (λ (n : ℕ). n < S.fillings) f.2 (H.values.filling f.0 f.1)

  pub listed-candidate : candidate (S.filling p.filling) p.value ≡ true
  listed-candidate =
      let f = same-as in sym (ap₂ (λ (n : ℕ) (v : Cell). candidate (S.filling n) v) f.2 f.3) ∙ H.values.value f.0 f.1

-- ---- a held value

-- it is a value of a filling's column, so some filling ends at the column
pub held-from : (S : Scheme) (h : Holding) → HoldingFits S h → (k : Column) (v : Cell) → held_in S h k v ≡ true →
    (f : ℕ) × (f < S.fillings) × (same_column (S.filling f).column k ≡ true)
unfolding pairs_hold one range_holds
held-from S h H k v e =
    ⊎_elim (λ x. go h.values H.values.filling x)
    (λ x. let f = some-found (λ r. range_holds S r k v) (all_ranges h.ranges) (all_fit H.ranges) x in
    (f.0.filling, f.1.filling, ((and-eq-true_iff (same_column (S.filling f.0.filling).column k) _).0 f.2).0))
    (or_cases (pairs_hold S h.values k v) (ranges_hold S (all_ranges h.ranges) k v) e)
  where
    go : (os : List Owned) → ((i : ℕ) → i < length os → (owned_at os i).pair.filling < S.fillings) → pairs_hold S os k v ≡ true →
        (f : ℕ) × (f < S.fillings) × (same_column (S.filling f).column k ≡ true)
    go [] fits x = clash x refl
    go (o ∷ os) fits x =
        ⊎_elim (λ y. (o.pair.filling, fits 0 (omega arith), ((and-eq-true_iff (same_column (S.filling o.pair.filling).column k) _).0 y).0))
        (λ y. go os (λ i l. fits (suc i) (omega arith)) y)
        (or_cases (one (S.filling o.pair.filling).column o.pair.value k v) (pairs_hold S os k v) x)

-- ---- what is held, one by one, whatever its desk

-- the same pair
same-pair : (p q : Pair) → same_pair p q ≡ true → p ≡ q
unfolding same_pair
same-pair p q e =
    let h = (and-eq-true_iff (eqb p.filling q.filling) _).0 e in
    let v = equal-same p.value q.value h.1 in
    λ i. record { filling = eqb-true p.filling q.filling h.0 i; value = v i }

-- a pair that stands somewhere is held by some desk, unless its value is blank
pub at_held : (h : Holding) (i : ℕ) → i < held_count h → is_blank (held_pair h i).value ≡ false → some_holds h (held_pair h i) ≡ true
unfolding some_holds same_pair
at_held h i l n =
    any-true (held_count h) _ i l (both (eq-eqb (held_pair h i).filling (held_pair h i).filling refl) (equal-self (held_pair h i).value n))

-- a pair that some desk holds stands somewhere
pub held-at : (h : Holding) (p : Pair) → some_holds h p ≡ true → (i : ℕ) × (i < held_count h) × (held_pair h i ≡ p)
unfolding some_holds
held-at h p e = let f = any_found (held_count h) (λ i. same_pair (held_pair h i) p) e in (f.0, f.1, same-pair (held_pair h f.0) p f.2)

-- its filling exists
pub held-fits : (S : Scheme) (h : Holding) → HoldingFits S h → (p : Pair) → some_holds h p ≡ true → p.filling < S.fillings
held-fits S h H p e = let f = held-at h p e in subst (λ (q : Pair). q.filling < S.fillings) f.2 (H.values.filling f.0 f.1)

-- a range that some desk holds fits
pub some-range-fits : (S : Scheme) (h : Holding) → HoldingFits S h → (q : Range) → some_holds_range h q ≡ true → RangeFits S q
unfolding some_holds_range
some-range-fits S h H q e =
    let f = any_found (range_count h) (λ i. same_range (held_range h i) q) e in
    subst (RangeFits S) (same-range (held_range h f.0) q f.2) (every-at (all_ranges h.ranges) (all_fit H.ranges) f.0 f.1)

-- the rows that pairs want are those that have one of them
pub wanted-some : (S : Scheme) (D : Database) (h : Holding) (r : ℕ) →
    pairs_want S D h.values r ≡ any (held_count h) (λ i. has D (S.filling (held_pair h i).filling).column (held_pair h i).value r)
unfolding pairs_want
wanted-some S D h r = go h.values
  where
    go : (os : List Owned) → pairs_want S D os r ≡ any (length os) (λ i. has D (S.filling (owned_at os i).pair.filling).column (owned_at os i).pair.value r)
    go [] = sym (any-start _)
    go (o ∷ os) =
        ap (λ (b : Bool). has D (S.filling o.pair.filling).column o.pair.value r || b) (go os) ∙
        sym (any-front (length os) (λ i. has D (S.filling (owned_at (o ∷ os) i).pair.filling).column (owned_at (o ∷ os) i).pair.value r))
