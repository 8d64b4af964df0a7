-- A desk's ranges in the held record: ranges put one behind the other, joining and removing turn by turn, and the record with other ranges for a desk.
-- Assumes nothing.
use Prim.Native.Nat.{ℕ, zero, suc, ◌+◌, ◌≤◌, ◌<◌}
use native.Mathlib.Numerals.{add-one}
use native.Mathlib.Omega.{arith}
use mathlib.Core.Path.{◌≡◌, refl, sym, ap, ap₂, subst, ◌∙◌}
use mathlib.Core.Logic.{◌⊎◌, inl, inr, ⊎_elim}
use mathlib.Core.Bool.{Bool, true, false, not, cond, ◌&&◌, ◌||◌, and-eq-true_iff}
use mathlib.Core.List.{List, [], ◌∷◌, ◌++◌, append_assoc, append-nil}
use lib.ListN.{length, get_or, set, drop, length-append, length-set, get_or-eq_default}
use lib.Seq.{drop-cons, get_or-set_same, get_or-set_other}
use Rattle.finite.specs.Finite.{any, tab}
use Rattle.finite.specs.Sameness.{listed, remove}
use Rattle.finite.proofs.Bools.{clash, order, same_number, cond-true, cond-false}
use Rattle.finite.proofs.Search.{any-front, any-start}
use Rattle.finite.proofs.Sameness.{end-before, end-last, end-past}
use Rattle.finite.proofs.Tables.{length-tab, tab-at, tab-of}
use Rattle.model.specs.Ranges as Model
use Rattle.model.specs.Ranges.{same_range, stands_before, hull, joined}
use Rattle.model.specs.Holding.{desks, ranges_of, with_list, own_ranges, with_ranges}
use Rattle.model.proofs.RangesHeld.{list-own, list-other}
use Rattle.state.specs.declared.held.Range.{Range}
use Rattle.state.specs.declared.held.DeskRanges.{DeskRanges}
use Rattle.state.specs.declared.held.Held.{Held}
use Rattle.state.specs.Held.{no_range, no_ranges, empty_ranges, range_at, ranges_at, Tidy}
use Rattle.state.specs.Meaning.{range_of, range_back, owned_back, list_of, list_back, lists_of, holding_of, held_of}
use Rattle.state.proofs.Arrays.{HeldSized}
use Rattle.lawful.proofs.HeldLaws.{length-values, lists_at, lists-kept}
use Rattle.lawful.proofs.RangeTests.{length-list, list_at}
use Rattle.cache.proofs.HeldRecord.{held-is, values-all}

-- ---- tests of the list

pub listed-tab : (same : Model.Range → Model.Range → Bool) (x : Model.Range) (n : ℕ) (f : ℕ → Model.Range) → listed same x (tab n f) ≡ any n (λ i. same (f i) x)
unfolding listed tab
listed-tab same x zero f = sym (any-start _)
listed-tab same x (suc n) f = ap (λ (b : Bool). same (f 0) x || b) (listed-tab same x n (λ i. f (suc i))) ∙ sym (any-front n (λ i. same (f i) x))

-- a loop over the places decides it
pub listed-any : (same : Model.Range → Model.Range → Bool) (x : Model.Range) (s : DeskRanges) →
    any s.count (λ i. same (range_of (range_at s i)) x) ≡ listed same x (list_of s)
unfolding list_of
listed-any same x s = sym (listed-tab same x s.count (λ i. range_of (range_at s i)))

-- ---- one more at the end

-- none yet
pub none-back : empty_ranges ≡ list_back []
unfolding list_back tab
none-back = refl

pub none-few : (s : DeskRanges) → s ≡ empty_ranges → s.count ≤ 0
none-few s e = subst (λ (t : DeskRanges). t.count ≤ 0) (sym e) (omega arith)

module _ (rs : List Model.Range) (q : Range) where
  places : List Range
  places = tab 8 (λ i. range_back (get_or rs i (range_of no_range)))

  later : (i : ℕ) → i < 8 → get_or (set places (length rs) q) i no_range ≡ range_back (get_or (rs ++ (range_of q ∷ [])) i (range_of no_range))
  unfolding places
  later i l = ⊎_elim
      (λ (k : i < length rs).
      get_or-set_other places (length rs) i q no_range (λ e. omega arith) ∙ tab-at no_range 8 _ i l ∙
      ap range_back (sym (end-before same_range (range_of no_range) rs (range_of q) i k)))
      (⊎_elim
      (λ (k : i ≡ length rs).
      rw k (get_or-set_same places (length rs) q no_range (omega (arith, length-tab 8 (λ j. range_back (get_or rs j (range_of no_range)))))) ∙
      ap range_back (sym (end-last same_range (range_of no_range) rs (range_of q) i k)))
      (λ (k : length rs < i).
      get_or-set_other places (length rs) i q no_range (λ e. omega arith) ∙ tab-at no_range 8 _ i l ∙
      ap range_back (get_or-eq_default rs (range_of no_range) (omega arith) ∙ sym (end-past same_range (range_of no_range) rs (range_of q) i k))))
      (order i (length rs))

  -- it has a place
  pub put-kept : (s : DeskRanges) → s ≡ list_back rs →
      ◌≡◌ {A = DeskRanges} (record { count = s.count + 1; list = set s.list s.count q }) (list_back (rs ++ (range_of q ∷ [])))
  unfolding list_back places
  put-kept s e =
      ap (λ (t : DeskRanges). record { count = t.count + 1; list = set t.list t.count q }) e ∙
      (λ i. record {
        count = sym (length-append rs (range_of q ∷ [])) i;
        list = tab-of no_range 8 _ (set places (length rs) q) (length-set places (length rs) q ∙ length-tab 8 _) later i;
      })

  -- it has none
  pub put-counted : (s : DeskRanges) → s ≡ list_back rs → 8 ≤ s.count →
      ◌≡◌ {A = DeskRanges} (record { count = s.count + 1; list = s.list }) (list_back (rs ++ (range_of q ∷ [])))
  unfolding list_back
  put-counted s e l =
      let n : 8 ≤ length rs = subst (λ (t : DeskRanges). 8 ≤ t.count) e l in
      ap (λ (t : DeskRanges). record { count = t.count + 1; list = t.list }) e ∙
      (λ i. record {
        count = sym (length-append rs (range_of q ∷ [])) i;
        list = tab-of no_range 8 (λ j. range_back (get_or (rs ++ (range_of q ∷ [])) j (range_of no_range))) (tab 8 (λ j. range_back (get_or rs j (range_of no_range)))) (length-tab 8 _)
            (λ j k. tab-at no_range 8 _ j k ∙ ap range_back (sym (end-before same_range (range_of no_range) rs (range_of q) j (omega arith)))) i;
      })

-- ---- from place to place

-- what is left from place i on
pub rest-cons : (s : DeskRanges) (i : ℕ) → i < s.count → drop i (list_of s) ≡ range_of (range_at s i) ∷ drop (i + 1) (list_of s)
rest-cons s i l =
    drop-cons (list_of s) i (range_of no_range) (omega (arith, length-list s)) ∙ ap₂ ◌∷◌ (list_at s i l) (ap (λ (n : ℕ). drop n (list_of s)) (sym (add-one i)))

pub rest-none : (s : DeskRanges) (i : ℕ) → i ≤ s.count → s.count ≤ i → drop i (list_of s) ≡ []
rest-none s i a b = past (list_of s) i (omega (arith, length-list s))
  where
    past : (rs : List Model.Range) (n : ℕ) → length rs ≤ n → drop n rs ≡ []
    past [] zero l = refl
    past [] (suc n) l = refl
    past (r ∷ rs) zero l = absurd (omega arith)
    past (r ∷ rs) (suc n) l = past rs n (omega arith)

-- the ranges so far, and what is still to come of `whole`
pub record Done (out : DeskRanges) (rest whole : List Model.Range) : Type 0 where
  pub so_far : List Model.Range
  pub record_is : out ≡ list_back so_far
  pub all : so_far ++ rest ≡ whole

pub done-start : (rs rest : List Model.Range) (out : DeskRanges) → out ≡ list_back rs → Done out rest (rs ++ rest)
done-start rs rest out e = record { so_far = rs; record_is = e; all = refl }

pub done_end : (out : DeskRanges) (rest whole : List Model.Range) → Done out rest whole → rest ≡ [] → out ≡ list_back whole
done_end out rest whole d e =
    d.record_is ∙ ap list_back (sym (append-nil d.so_far) ∙ ap (λ (rs : List Model.Range). d.so_far ++ rs) (sym e) ∙ d.all)

-- all that is left at once
pub done-out : (out : DeskRanges) (rest more whole : List Model.Range) (out' : DeskRanges) → Done out rest whole → rest ≡ more →
    ((rs : List Model.Range) → out ≡ list_back rs → out' ≡ list_back (rs ++ more)) → out' ≡ list_back whole
done-out out rest more whole out' d e f =
    f d.so_far d.record_is ∙ ap list_back (ap (λ (rs : List Model.Range). d.so_far ++ rs) (sym e) ∙ d.all)

-- one more
pub done_more : (out : DeskRanges) (q : Model.Range) (rest whole : List Model.Range) (out' : DeskRanges) → Done out (q ∷ rest) whole →
    ((rs : List Model.Range) → out ≡ list_back rs → out' ≡ list_back (rs ++ (q ∷ []))) → Done out' rest whole
done_more out q rest whole out' d f =
    record { so_far = d.so_far ++ (q ∷ []); record_is = f d.so_far d.record_is; all = append_assoc d.so_far (q ∷ []) rest ∙ d.all }

pub done-same : (out : DeskRanges) (rest more whole : List Model.Range) → Done out rest whole → rest ≡ more → Done out more whole
done-same out rest more whole d e = subst (λ (rs : List Model.Range). Done out rs whole) e d

-- ---- joining, turn by turn

module _ (r q : Model.Range) (qs : List Model.Range) where
  -- q stands behind r: what is left stays as it is
  pub join-behind : not (stands_before q r) && stands_before r q ≡ true → joined r (q ∷ qs) ≡ r ∷ q ∷ qs
  unfolding joined
  join-behind e =
      let t = (and-eq-true_iff (not (stands_before q r)) (stands_before r q)).0 e in
      cond-false (stands_before q r) _ _ (not_so (stands_before q r) t.0) ∙ cond-true (stands_before r q) _ _ t.1
    where
      not_so : (b : Bool) → not b ≡ true → b ≡ false
      not_so true x = clash refl (sym x)
      not_so false x = refl

  -- it stands before r, or the two become one
  pub join-turn : (b : Bool) → b ≡ stands_before q r → not (stands_before q r) && stands_before r q ≡ false →
      joined r (q ∷ qs) ≡ cond b (q ∷ []) [] ++ joined (cond b r (hull r q)) qs
  unfolding joined
  join-turn b e f = go b (stands_before q r) (stands_before r q) e f
    where
      go : (b x y : Bool) → b ≡ x → not x && y ≡ false →
          cond x (q ∷ joined r qs) (cond y (r ∷ q ∷ qs) (joined (hull r q) qs)) ≡ cond b (q ∷ []) [] ++ joined (cond b r (hull r q)) qs
      go true true y e f = refl
      go true false y e f = clash refl e
      go false true y e f = clash e refl
      go false false true e f = clash refl f
      go false false false e f = refl

-- a turn of the loop: q is put at the end if it stands before
pub done-join : (out : DeskRanges) (r q : Model.Range) (qs whole : List Model.Range) (b : Bool) (out' : DeskRanges) (r' : Model.Range) →
    Done out (joined r (q ∷ qs)) whole → b ≡ stands_before q r → not (stands_before q r) && stands_before r q ≡ false →
    ((rs : List Model.Range) → out ≡ list_back rs → out' ≡ list_back (cond b (rs ++ (q ∷ [])) rs)) → r' ≡ cond b r (hull r q) → Done out' (joined r' qs) whole
done-join out r q qs whole b out' r' d e f g h = go b (join-turn r q qs b e f) (g d.so_far d.record_is) h
  where
    go : (b : Bool) → joined r (q ∷ qs) ≡ cond b (q ∷ []) [] ++ joined (cond b r (hull r q)) qs → out' ≡ list_back (cond b (d.so_far ++ (q ∷ [])) d.so_far) →
        r' ≡ cond b r (hull r q) → Done out' (joined r' qs) whole
    go true x y z =
        record {
          so_far = d.so_far ++ (q ∷ []);
          record_is = y;
          all = append_assoc d.so_far (q ∷ []) (joined r' qs) ∙
              ap (λ (s : Model.Range). d.so_far ++ (q ∷ joined s qs)) z ∙ ap (λ (rs : List Model.Range). d.so_far ++ rs) (sym x) ∙ d.all;
        }
    go false x y z =
        record {
          so_far = d.so_far;
          record_is = y;
          all = ap (λ (s : Model.Range). d.so_far ++ joined s qs) z ∙ ap (λ (rs : List Model.Range). d.so_far ++ rs) (sym x) ∙ d.all;
        }

-- ---- removing, turn by turn

module _ (r q : Model.Range) (qs : List Model.Range) where
  pub remove-here : same_range q r ≡ true → remove same_range r (q ∷ qs) ≡ qs
  unfolding remove
  remove-here e = cond-true (same_range q r) _ _ e

  pub remove-later : same_range q r ≡ false → remove same_range r (q ∷ qs) ≡ q ∷ remove same_range r qs
  unfolding remove
  remove-later e = cond-false (same_range q r) _ _ e

pub remove-end : (r : Model.Range) → remove same_range r [] ≡ []
unfolding remove
remove-end r = refl

pub join-end : (r : Model.Range) → joined r [] ≡ r ∷ []
unfolding joined
join-end r = refl

-- ---- the record with other ranges for the named desk

module _ (h : Held) (named : h.desk < 4) where
  -- the named desk's list
  pub own-list : own_ranges (holding_of h) ≡ list_of (ranges_at h h.desk)
  own-list = lists_at h h.desk named

  pub own_put : Tidy h → HeldSized h → (rs : List Model.Range) →
      ◌≡◌ {A = Held} (record { desk = h.desk; count = h.count; values = h.values; ranges = set h.ranges h.desk (list_back rs) })
      (held_of (with_ranges (holding_of h) rs))
  own_put t z rs =
      held-is _ (with_ranges (holding_of h) rs) refl (sym (length-values h)) z.values (λ i k. ap owned_back (sym (values-all h t z.values i))) ranges
    where
      at : (x : ℕ) → x < 4 → (x ≡ h.desk) ⊎ (x ≡ h.desk → ⊥) →
          get_or (set h.ranges h.desk (list_back rs)) x no_ranges ≡ list_back (ranges_of (with_list (lists_of h) h.desk rs) x)
      at x l (inl e) =
          ap (λ (n : ℕ). get_or (set h.ranges h.desk (list_back rs)) n no_ranges) e ∙ get_or-set_same h.ranges h.desk (list_back rs) no_ranges (omega (arith, z.ranges)) ∙
          ap list_back (sym (list-own (lists_of h) h.desk rs) ∙ ap (ranges_of (with_list (lists_of h) h.desk rs)) (sym e))
      at x l (inr n) =
          get_or-set_other h.ranges h.desk x (list_back rs) no_ranges n ∙
          ap (λ (ss : List DeskRanges). get_or ss x no_ranges) (lists-kept h t z) ∙ tab-at no_ranges 4 _ x l ∙
          ap list_back (sym (list-other (lists_of h) h.desk x rs (λ e. n (sym e))))

      ranges : set h.ranges h.desk (list_back rs) ≡ tab desks (λ x. list_back (ranges_of (with_list (lists_of h) h.desk rs) x))
      ranges =
          tab-of no_ranges desks _ (set h.ranges h.desk (list_back rs)) (length-set h.ranges h.desk (list_back rs) ∙ z.ranges)
          (λ x l. at x l (same_number x h.desk))
