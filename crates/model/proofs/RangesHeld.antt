-- What the ranges of all desks hold and which rows they want, and what becomes of that when one desk's list changes. Assumes nothing.
use Prim.Native.Nat.{ℕ, zero, suc, ◌<◌}
use native.Mathlib.Omega.{arith}
use mathlib.Core.Path.{◌≡◌, refl, sym, ap, ◌∙◌, fun_ext}
use mathlib.Core.Logic.{◌≢◌, ⊎_elim}
use mathlib.Core.Bool.{Bool, true, false, cond, ◌&&◌, ◌||◌, or-false, or_assoc, or_comm, and-eq-true_iff}
use mathlib.Core.List.{List, [], ◌∷◌, ◌++◌}
use borrow.Author.Tests.{eqb-true, eq-eqb}
use lib.Dec.{eqb}
use lib.ListN.{length}
use Rattle.finite.specs.Sameness.{remove}
use Rattle.finite.proofs.Bools.{both, or_cases, or_left, or-and, or-second}
use Rattle.model.specs.Cell.{Cell}
use Rattle.model.specs.Scheme.{Column, same_column, Scheme}
use Rattle.model.specs.Database.{Database, Has}
use Rattle.model.specs.Ranges.{Range, same_range, in_range, some_range, hull, joined, range_holds, has_range}
use Rattle.model.specs.Holding.{Holding, ranges_of, with_list, all_ranges, with_range, pairs_hold, ranges_hold, ranges_want, held_in}
use Rattle.model.proofs.CellLaws.{equal-same, equal-self}
use Rattle.model.proofs.DatabaseLaws.{same-column, same-column-self}
use Rattle.model.proofs.Loads.{Hold, Wants, none-wants, both-want}
use Rattle.model.proofs.RangeLaws.{in-says, Together, hull-in, joined-some}

-- ---- the desks' lists

-- a desk has the list that was put there
pub list-own : (rss : List (List Range)) (d : ℕ) (rs : List Range) → ranges_of (with_list rss d rs) d ≡ rs
unfolding with_list
list-own [] zero rs = refl
list-own [] (suc d) rs = list-own [] d rs
list-own (qs ∷ qss) zero rs = refl
list-own (qs ∷ qss) (suc d) rs = list-own qss d rs

-- and another the one that it had
pub list-other : (rss : List (List Range)) (d e : ℕ) (rs : List Range) → d ≢ e → ranges_of (with_list rss d rs) e ≡ ranges_of rss e
unfolding with_list
list-other [] zero zero rs n = absurd (n refl)
list-other [] zero (suc e) rs n = refl
list-other [] (suc d) zero rs n = refl
list-other [] (suc d) (suc e) rs n = list-other [] d e rs (λ q. n (ap suc q))
list-other (qs ∷ qss) zero zero rs n = absurd (n refl)
list-other (qs ∷ qss) zero (suc e) rs n = refl
list-other (qs ∷ qss) (suc d) zero rs n = refl
list-other (qs ∷ qss) (suc d) (suc e) rs n = list-other qss d e rs (λ q. n (ap suc q))

-- there are as many lists as before
pub list_count : (rss : List (List Range)) (d : ℕ) (rs : List Range) → d < length rss → length (with_list rss d rs) ≡ length rss
unfolding with_list
list_count [] d rs l = absurd (omega arith)
list_count (qs ∷ qss) zero rs l = refl
list_count (qs ∷ qss) (suc d) rs l = ap suc (list_count qss d rs (omega arith))

-- ---- ranges that pass a test, in all lists

pub some-append : (p : Range → Bool) (xs ys : List Range) → some_range p (xs ++ ys) ≡ some_range p xs || some_range p ys
unfolding some_range
some-append p [] ys = refl
some-append p (x ∷ xs) ys = ap (λ (b : Bool). p x || b) (some-append p xs ys) ∙ sym (or_assoc (p x) (some_range p xs) (some_range p ys))

module _ (p : Range → Bool) (h : (r q : Range) → Together r q → p (hull r q) ≡ p r || p q) where
  -- a range joined to one desk's list
  pub joined-all : (rss : List (List Range)) (d : ℕ) (r : Range) →
      some_range p (all_ranges (with_list rss d (joined r (ranges_of rss d)))) ≡ some_range p (all_ranges rss) || p r
  unfolding with_list all_ranges some_range joined
  joined-all [] zero r = or-false (p r)
  joined-all [] (suc d) r = joined-all [] d r
  joined-all (qs ∷ qss) zero r =
      some-append p (joined r qs) (all_ranges qss) ∙ ap (λ (b : Bool). b || some_range p (all_ranges qss)) (joined-some p h qs r) ∙
      or_assoc (p r) (some_range p qs) (some_range p (all_ranges qss)) ∙ or_comm (p r) _ ∙ ap (λ (b : Bool). b || p r) (sym (some-append p qs (all_ranges qss)))
  joined-all (qs ∷ qss) (suc d) r =
      some-append p qs (all_ranges (with_list qss d (joined r (ranges_of qss d)))) ∙ ap (λ (b : Bool). some_range p qs || b) (joined-all qss d r) ∙
      sym (or_assoc (some_range p qs) (some_range p (all_ranges qss)) (p r)) ∙ ap (λ (b : Bool). b || p r) (sym (some-append p qs (all_ranges qss)))

-- fewer ranges pass where all did
pub some-fewer : (p : Range → Bool) (rs : List Range) (r : Range) → some_range p (remove same_range r rs) ≡ true → some_range p rs ≡ true
unfolding some_range remove
some-fewer p [] r e = e
some-fewer p (q ∷ qs) r e = go (same_range q r) (some-fewer p qs r) e
  where
    go : (b : Bool) → (some_range p (remove same_range r qs) ≡ true → some_range p qs ≡ true) → some_range p (cond b qs (q ∷ remove same_range r qs)) ≡ true →
        p q || some_range p qs ≡ true
    go true h x = or-second (p q) (some_range p qs) x
    go false h x =
        ⊎_elim (λ y. sym (or_left (p q) (some_range p qs) y)) (λ y. or-second (p q) (some_range p qs) (h y)) (or_cases (p q) (some_range p (remove same_range r qs)) x)

-- so do those of all desks, where one desk has fewer
pub fewer-all : (p : Range → Bool) (rss : List (List Range)) (d : ℕ) (rs : List Range) → (some_range p rs ≡ true → some_range p (ranges_of rss d) ≡ true) →
    some_range p (all_ranges (with_list rss d rs)) ≡ true → some_range p (all_ranges rss) ≡ true
unfolding with_list all_ranges
fewer-all p [] zero rs h e =
    ⊎_elim h (λ x. x) (or_cases (some_range p rs) (some_range p []) (sym (some-append p rs []) ∙ e))
fewer-all p [] (suc d) rs h e = fewer-all p [] d rs h e
fewer-all p (qs ∷ qss) zero rs h e =
    some-append p qs (all_ranges qss) ∙
    ⊎_elim (λ x. sym (or_left (some_range p qs) _ (h x))) (λ x. or-second (some_range p qs) _ x)
    (or_cases (some_range p rs) (some_range p (all_ranges qss)) (sym (some-append p rs (all_ranges qss)) ∙ e))
fewer-all p (qs ∷ qss) (suc d) rs h e =
    some-append p qs (all_ranges qss) ∙
    ⊎_elim (λ x. sym (or_left (some_range p qs) _ x)) (λ x. or-second (some_range p qs) _ (fewer-all p qss d rs h x))
    (or_cases (some_range p qs) (some_range p (all_ranges (with_list qss d rs))) (sym (some-append p qs (all_ranges (with_list qss d rs))) ∙ e))

-- ---- what a range holds

hull-holds : (S : Scheme) (k : Column) (v : Cell) (r q : Range) → Together r q → range_holds S (hull r q) k v ≡ range_holds S r k v || range_holds S q k v
unfolding range_holds
hull-holds S k v r q t =
    let c : ℕ → Bool = λ f. same_column (S.filling f).column k in
    ap (λ (b : Bool). c r.filling && b) (hull-in r q t v) ∙ or-and (c r.filling) (in_range r v) (in_range q v) ∙
    ap (λ (f : ℕ). (c r.filling && in_range r v) || (c f && in_range q v)) (sym t.filling)

-- a range that is held from then on holds its values more
pub range-more : (S : Scheme) (h : Holding) (r : Range) → held_in S (with_range h r) ≡ (λ k v. held_in S h k v || range_holds S r k v)
range-more S h r =
    fun_ext (λ k. fun_ext (λ v.
    ap (λ (b : Bool). pairs_hold S h.values k v || b) (joined-all (λ q. range_holds S q k v) (hull-holds S k v) h.ranges h.desk r) ∙
    sym (or_assoc (pairs_hold S h.values k v) (ranges_hold S (all_ranges h.ranges) k v) (range_holds S r k v))))

-- it wants the rows that have one of them
pub range-wants : (S : Scheme) (D : Database) (r : Range) → Wants D (range_holds S r) (has_range D (S.filling r.filling).column r)
unfolding range_holds has_range
range-wants S D r = record { covers = covers; wanted = wanted }
  where
    col : Column
    col = (S.filling r.filling).column

    covers : (k : Column) (v : Cell) (s : ℕ) → same_column col k && in_range r v ≡ true → Has D k v s →
        D.live s && (eqb (D.table s) col.table && in_range r (D.cell s col.place)) ≡ true
    covers k v s e h =
        let q = (and-eq-true_iff (same_column col k) (in_range r v)).0 e in
        let j = same-column col k q.0 in
        both h.live
        (both (eq-eqb _ _ (h.table ∙ sym (ap (λ (c : Column). c.table) j)))
        (ap (λ (c : Column). in_range r (D.cell s c.place)) j ∙ ap (in_range r) (equal-same (D.cell s k.place) v h.value) ∙ q.1))

    wanted : (s : ℕ) → D.live s && (eqb (D.table s) col.table && in_range r (D.cell s col.place)) ≡ true →
        Hold D (λ k v. same_column col k && in_range r v) s
    wanted s e =
        let a = (and-eq-true_iff (D.live s) _).0 e in
        let b = (and-eq-true_iff (eqb (D.table s) col.table) _).0 a.1 in
        record {
          column = col;
          value = D.cell s col.place;
          held = both (same-column-self col) b.1;
          has = record { live = a.0; table = eqb-true _ _ b.0; value = equal-self (D.cell s col.place) (in-says r _ b.1).full };
        }

pub ranges-want : (S : Scheme) (D : Database) (rs : List Range) → Wants D (ranges_hold S rs) (ranges_want S D rs)
unfolding some_range
ranges-want S D [] = none-wants D
ranges-want S D (r ∷ rs) = both-want (range-wants S D r) (ranges-want S D rs)
