-- Joining and dropping ranges: a range joined to a list holds exactly its values and the list's, the list still rises and has gaps, and what a drop takes out of
-- it are exactly the range's values (02, Req 10). Assumes nothing.
use Prim.Native.Nat.{ℕ, ◌+◌, ◌≤◌, ◌<◌}
use native.Mathlib.Omega.{arith}
use mathlib.Core.Path.{◌≡◌, refl, sym, ap, ap₂, ◌∙◌}
use mathlib.Core.Logic.{◌⊎◌, inl, inr, ⊎_elim}
use mathlib.Core.Bool.{Bool, true, false, not, cond, ◌&&◌, ◌||◌, and-eq-true_iff, or_assoc, or-true}
use mathlib.Core.List.{List, [], ◌∷◌}
use borrow.Author.Tests.{leb-true, leb-false, le-leb, ltb-true, ltb-false, lt-ltb, eqb-true, eq-eqb, ne_eqb, not-true}
use lib.Dec.{eqb, leb, ltb}
use Rattle.finite.specs.Sameness.{listed, remove}
use Rattle.finite.proofs.Bools.{dec, both, clash, refute, bool-ext, or_cases, or_left, or-second, or-and, min_cases, max_cases}
use Rattle.finite.proofs.Order.{lower-less, lower-same, lower-cases, lower-neither}
use Rattle.model.specs.Cell.{Cell, numbered, is_blank}
use Rattle.model.specs.Scheme.{candidate, Scheme}
use Rattle.model.specs.Ranges.{Range, same_range, in_range, is_range, only_candidates, some_range, stands_before, hull, joined}

-- ---- a value of a range

-- it is no blank, its issue is 0, and its number lies between the ends
pub record InRange (r : Range) (v : Cell) : Type 0 where
  pub full : is_blank v ≡ false
  pub issue : v.issue ≡ 0
  pub low : r.low ≤ v.number
  pub high : v.number ≤ r.high

pub in-says : (r : Range) (v : Cell) → in_range r v ≡ true → InRange r v
unfolding in_range
in-says r v e =
    let a = (and-eq-true_iff (not (is_blank v)) _).0 e in
    let b = (and-eq-true_iff (eqb v.issue 0) _).0 a.1 in
    let c = (and-eq-true_iff (leb r.low v.number) (leb v.number r.high)).0 b.1 in
    record { full = not-true _ a.0; issue = eqb-true _ _ b.0; low = leb-true _ _ c.0; high = leb-true _ _ c.1 }

pub says-in : (r : Range) (v : Cell) → InRange r v → in_range r v ≡ true
unfolding in_range
says-in r v w = both (ap not w.full) (both (eq-eqb _ _ w.issue) (both (le-leb _ _ w.low) (le-leb _ _ w.high)))

-- ---- one before another, in words

abbrev pub Before : Range → Range → Type 0
Before a b = (a.filling < b.filling) ⊎ ((a.filling ≡ b.filling) × (a.high + 1 < b.low))

pub before-says : (a b : Range) → stands_before a b ≡ true → Before a b
unfolding stands_before
before-says a b e = ⊎_elim (λ h. inl h) (λ h. inr (h.0, ltb-true _ _ h.1)) (lower-cases a.filling b.filling (ltb (a.high + 1) b.low) e)

pub says-before : (a b : Range) → Before a b → stands_before a b ≡ true
unfolding stands_before
says-before a b (inl h) = lower-less a.filling b.filling _ h
says-before a b (inr q) = lower-same a.filling b.filling _ q.0 (lt-ltb _ _ q.1)

-- a range that is not empty
abbrev pub Full : Range → Type 0
Full r = r.low ≤ r.high

pub before_on : (a b c : Range) → Full b → Before a b → Before b c → Before a c
before_on a b c f (inl x) (inl y) = inl (omega arith)
before_on a b c f (inl x) (inr y) = inl (omega (arith, y.0))
before_on a b c f (inr x) (inl y) = inl (omega (arith, x.0))
before_on a b c f (inr x) (inr y) = inr (x.0 ∙ y.0, omega (arith, x.1, y.1))

-- ---- two ranges that overlap or touch

-- they are of one filling, and no value lies between them
pub record Together (r q : Range) : Type 0 where
  pub filling : q.filling ≡ r.filling
  pub low : r.low ≤ q.high + 1
  pub high : q.low ≤ r.high + 1

pub together : (r q : Range) → stands_before q r ≡ false → stands_before r q ≡ false → Together r q
unfolding stands_before
together r q a b =
    let n = lower-neither q.filling r.filling _ _ a b in
    record { filling = n.0; low = ltb-false (q.high + 1) r.low n.1; high = ltb-false (r.high + 1) q.low n.2 }

-- the lower low, and the higher high
pub record Spans (r q : Range) : Type 0 where
  pub low : ((hull r q).low ≡ r.low) ⊎ ((hull r q).low ≡ q.low)
  pub high : ((hull r q).high ≡ r.high) ⊎ ((hull r q).high ≡ q.high)
  pub low-own : (hull r q).low ≤ r.low
  pub low-other : (hull r q).low ≤ q.low
  pub high-own : r.high ≤ (hull r q).high
  pub high-other : q.high ≤ (hull r q).high

pub spans : (r q : Range) → Spans r q
spans r q =
    let a = min_cases r.low q.low in
    let b = max_cases r.high q.high in
    record {
      low = ⊎_elim (λ x. inl x.0) (λ x. inr x.0) a;
      high = ⊎_elim (λ x. inr x.0) (λ x. inl x.0) b;
      low-own = ⊎_elim (λ x. omega (arith, x.0)) (λ x. omega (arith, x.0, x.1)) a;
      low-other = ⊎_elim (λ x. omega (arith, x.0, x.1)) (λ x. omega (arith, x.0)) a;
      high-own = ⊎_elim (λ x. omega (arith, x.0, x.1)) (λ x. omega (arith, x.0)) b;
      high-other = ⊎_elim (λ x. omega (arith, x.0)) (λ x. omega (arith, x.0, x.1)) b;
    }

-- the values of both, and no other
pub hull-in : (r q : Range) → Together r q → (v : Cell) → in_range (hull r q) v ≡ in_range r v || in_range q v
hull-in r q t v = bool-ext (in_range (hull r q) v) (in_range r v || in_range q v) there back
  where
    s : Spans r q
    s = spans r q

    there : in_range (hull r q) v ≡ true → in_range r v || in_range q v ≡ true
    there e = go (dec (leb r.low v.number)) (dec (leb v.number r.high))
      where
        w : InRange (hull r q) v
        w = in-says (hull r q) v e

        other : q.low ≤ v.number → v.number ≤ q.high → in_range r v || in_range q v ≡ true
        other a b = or-second (in_range r v) (in_range q v) (says-in q v (record { full = w.full; issue = w.issue; low = a; high = b }))

        go : (leb r.low v.number ≡ true) ⊎ (leb r.low v.number ≡ false) →
            (leb v.number r.high ≡ true) ⊎ (leb v.number r.high ≡ false) → in_range r v || in_range q v ≡ true
        go (inl x) (inl y) =
            sym (or_left (in_range r v) (in_range q v) (says-in r v (record { full = w.full; issue = w.issue; low = leb-true _ _ x; high = leb-true _ _ y })))
        go (inl x) (inr y) =
            let z = leb-false v.number r.high y in
            other (omega (arith, t.high)) (⊎_elim (λ k. absurd (omega (arith, w.high, k))) (λ k. omega (arith, w.high, k)) s.high)
        go (inr x) y =
            let z = leb-false r.low v.number x in
            other (⊎_elim (λ k. absurd (omega (arith, w.low, k))) (λ k. omega (arith, w.low, k)) s.low) (omega (arith, t.low))

    back : in_range r v || in_range q v ≡ true → in_range (hull r q) v ≡ true
    back e = ⊎_elim
        (λ h. let w = in-says r v h in
        says-in (hull r q) v (record { full = w.full; issue = w.issue; low = omega (arith, s.low-own, w.low); high = omega (arith, s.high-own, w.high) }))
        (λ h. let w = in-says q v h in
        says-in (hull r q) v (record { full = w.full; issue = w.issue; low = omega (arith, s.low-other, w.low); high = omega (arith, s.high-other, w.high) }))
        (or_cases (in_range r v) (in_range q v) e)

-- ---- what a list of ranges holds

swap_or : (a b c : Bool) → a || (b || c) ≡ b || (a || c)
swap_or true b c = sym (or-true b)
swap_or false b c = refl

-- a test that a hull passes exactly if one of the two does: the list with the range in it passes it exactly if the range does or the list does
pub joined-some : (p : Range → Bool) → ((r q : Range) → Together r q → p (hull r q) ≡ p r || p q) → (rs : List Range) (r : Range) →
    some_range p (joined r rs) ≡ p r || some_range p rs
unfolding joined some_range
joined-some p h [] r = refl
joined-some p h (q ∷ qs) r = go (dec (stands_before q r)) (dec (stands_before r q)) (joined-some p h qs)
  where
    go : (stands_before q r ≡ true) ⊎ (stands_before q r ≡ false) → (stands_before r q ≡ true) ⊎ (stands_before r q ≡ false) →
        ((x : Range) → some_range p (joined x qs) ≡ p x || some_range p qs) →
        some_range p (cond (stands_before q r) (q ∷ joined r qs) (cond (stands_before r q) (r ∷ q ∷ qs) (joined (hull r q) qs))) ≡ p r || (p q || some_range p qs)
    go (inl x) y ih = rw x (ap (λ (b : Bool). p q || b) (ih r) ∙ swap_or (p q) (p r) (some_range p qs))
    go (inr x) (inl y) ih = rw (x, y) refl
    go (inr x) (inr y) ih =
        rw (x, y) (ih (hull r q) ∙ ap (λ (b : Bool). b || some_range p qs) (h r q (together r q x y)) ∙ or_assoc (p r) (p q) (some_range p qs))

-- v is a value of filling f that the range has
abbrev pub has : ℕ → Cell → Range → Bool
has f v r = eqb r.filling f && in_range r v

-- THEOREM: the list with the range in it holds exactly the values of the range and those of the list
pub joined-holds : (rs : List Range) (r : Range) (f : ℕ) (v : Cell) → some_range (has f v) (joined r rs) ≡ has f v r || some_range (has f v) rs
joined-holds rs r f v =
    joined-some (has f v)
    (λ a b t. ap (λ (c : Bool). eqb a.filling f && c) (hull-in a b t v) ∙ or-and (eqb a.filling f) (in_range a v) (in_range b v) ∙
    ap (λ (n : ℕ). (eqb a.filling f && in_range a v) || (eqb n f && in_range b v)) (sym t.filling))
    rs r

-- ---- rising, with gaps

-- "a desk's list rises by filling, then low, and has gaps within each filling"
pub data Rising : List Range → Type 0 where
  none : Rising []
  one : {r : Range} → Rising (r ∷ [])
  more : {r q : Range} {qs : List Range} → Before r q → Rising (q ∷ qs) → Rising (r ∷ q ∷ qs)

-- what holds of every range of a list
pub data Every (P : Range → Type 0) : List Range → Type 0 where
  none : Every P []
  more : {r : Range} {rs : List Range} → P r → Every P rs → Every P (r ∷ rs)

pub every_of : {P Q : Range → Type 0} → ((r : Range) → P r → Q r) → (rs : List Range) → Every P rs → Every Q rs
every_of f [] none = none
every_of f (r ∷ rs) (more p ps) = more (f r p) (every_of f rs ps)

pub hull-full : (r q : Range) → Full r → Full (hull r q)
hull-full r q f = let s = spans r q in omega (arith, s.low-own, s.high-own)

before-hull : (p r q : Range) → q.filling ≡ r.filling → Before p r → Before p q → Before p (hull r q)
before-hull p r q e (inl a) b = inl a
before-hull p r q e (inr a) (inl b) = absurd (omega (arith, a.0))
before-hull p r q e (inr a) (inr b) = inr (a.0, ⊎_elim (λ m. omega (arith, m, a.1)) (λ m. omega (arith, m, b.1)) (spans r q).low)

tail-rising : (p q : Range) (qs : List Range) → Full q → Before p q → Rising (q ∷ qs) → Rising (p ∷ qs)
tail-rising p q [] f b one = one
tail-rising p q (s ∷ qs) f b (more c d) = more (before_on p q s f b c) d

pub rest-rising : (q : Range) (qs : List Range) → Rising (q ∷ qs) → Rising qs
rest-rising q [] one = none
rest-rising q (s ∷ qs) (more c d) = d

-- behind a range p that stands before r and before the list
behind-rising : (rs : List Range) (p r : Range) → Full r → Every Full rs → Before p r → Rising (p ∷ rs) → Rising (p ∷ joined r rs)
unfolding joined
behind-rising [] p r fr a b c = more b one
behind-rising (q ∷ qs) p r fr (more fq a) b (more d e) = go (dec (stands_before q r)) (dec (stands_before r q)) (behind-rising qs)
  where
    go : (stands_before q r ≡ true) ⊎ (stands_before q r ≡ false) → (stands_before r q ≡ true) ⊎ (stands_before r q ≡ false) →
        ((x y : Range) → Full y → Every Full qs → Before x y → Rising (x ∷ qs) → Rising (x ∷ joined y qs)) →
        Rising (p ∷ cond (stands_before q r) (q ∷ joined r qs) (cond (stands_before r q) (r ∷ q ∷ qs) (joined (hull r q) qs)))
    go (inl x) y ih = rw x (more d (ih q r fr a (before-says q r x) e))
    go (inr x) (inl y) ih = rw (x, y) (more b (more (before-says r q y) e))
    go (inr x) (inr y) ih =
        rw (x, y) (ih p (hull r q) (hull-full r q fr) a (before-hull p r q (together r q x y).filling b d) (tail-rising p q qs fq d e))

-- THEOREM: the list with the range in it rises and has gaps
pub joined-rising : (rs : List Range) (r : Range) → Full r → Every Full rs → Rising rs → Rising (joined r rs)
unfolding joined
joined-rising [] r fr a c = one
joined-rising (q ∷ qs) r fr (more fq a) c = go (dec (stands_before q r)) (dec (stands_before r q)) (joined-rising qs)
  where
    go : (stands_before q r ≡ true) ⊎ (stands_before q r ≡ false) → (stands_before r q ≡ true) ⊎ (stands_before r q ≡ false) →
        ((y : Range) → Full y → Every Full qs → Rising qs → Rising (joined y qs)) →
        Rising (cond (stands_before q r) (q ∷ joined r qs) (cond (stands_before r q) (r ∷ q ∷ qs) (joined (hull r q) qs)))
    go (inl x) y ih = rw x (behind-rising qs q r fr a (before-says q r x) c)
    go (inr x) (inl y) ih = rw (x, y) (more (before-says r q y) c)
    go (inr x) (inr y) ih = rw (x, y) (ih (hull r q) (hull-full r q fr) a (rest-rising q qs c))

-- what holds of the range and of every range of the list, and of the hull of two that touch, holds of every range of the list with the range in it
pub joined-every : {P : Range → Type 0} → ((r q : Range) → Together r q → P r → P q → P (hull r q)) → (rs : List Range) (r : Range) → P r → Every P rs →
    Every P (joined r rs)
unfolding joined
joined-every h [] r p a = more p none
joined-every {P} h (q ∷ qs) r p (more b a) = go (dec (stands_before q r)) (dec (stands_before r q)) (joined-every h qs)
  where
    go : (stands_before q r ≡ true) ⊎ (stands_before q r ≡ false) → (stands_before r q ≡ true) ⊎ (stands_before r q ≡ false) →
        ((y : Range) → P y → Every P qs → Every P (joined y qs)) →
        Every P (cond (stands_before q r) (q ∷ joined r qs) (cond (stands_before r q) (r ∷ q ∷ qs) (joined (hull r q) qs)))
    go (inl x) y ih = rw x (more b (ih r p a))
    go (inr x) (inl y) ih = rw (x, y) (more p (more b a))
    go (inr x) (inr y) ih = rw (x, y) (ih (hull r q) (h r q (together r q x y) p b) a)

-- ---- a range that goes

pub same-range : (a b : Range) → same_range a b ≡ true → a ≡ b
unfolding same_range
same-range a b e =
    let p = (and-eq-true_iff (eqb a.filling b.filling) _).0 e in
    let q = (and-eq-true_iff (eqb a.low b.low) (eqb a.high b.high)).0 p.1 in
    λ i. record {
      filling = eqb-true a.filling b.filling p.0 i;
      low = eqb-true a.low b.low q.0 i;
      high = eqb-true a.high b.high q.1 i;
    }

pub same-range-self : (a : Range) → same_range a a ≡ true
unfolding same_range
same-range-self a = both (eq-eqb a.filling a.filling refl) (both (eq-eqb a.low a.low refl) (eq-eqb a.high a.high refl))

-- those that are left rise
behind-remove : (rs : List Range) (p r : Range) → Every Full rs → Rising (p ∷ rs) → Rising (p ∷ remove same_range r rs)
unfolding remove
behind-remove [] p r a c = c
behind-remove (q ∷ qs) p r (more fq a) (more d e) = go (same_range q r) (behind-remove qs q r a e)
  where
    go : (b : Bool) → Rising (q ∷ remove same_range r qs) → Rising (p ∷ cond b qs (q ∷ remove same_range r qs))
    go true ih = tail-rising p q qs fq d e
    go false ih = more d ih

pub remove-rising : (rs : List Range) (r : Range) → Every Full rs → Rising rs → Rising (remove same_range r rs)
unfolding remove
remove-rising [] r a c = none
remove-rising (q ∷ qs) r (more fq a) c = go (same_range q r)
  where
    go : (b : Bool) → Rising (cond b qs (q ∷ remove same_range r qs))
    go true = rest-rising q qs c
    go false = behind-remove qs q r a c

pub remove-every : {P : Range → Type 0} (rs : List Range) (r : Range) → Every P rs → Every P (remove same_range r rs)
unfolding remove
remove-every [] r none = none
remove-every {P} (q ∷ qs) r (more p a) = go (same_range q r) (remove-every qs r a)
  where
    go : (b : Bool) → Every P (remove same_range r qs) → Every P (cond b qs (q ∷ remove same_range r qs))
    go true ih = a
    go false ih = more p ih

-- a range and one that stands before it have no value in common
apart : (a b : Range) → Before a b → Full a → (f : ℕ) (v : Cell) → has f v a ≡ true → has f v b ≡ false
apart a b c w f v e = refute (has f v b) (λ g. go c ((and-eq-true_iff (eqb a.filling f) (in_range a v)).0 e) ((and-eq-true_iff (eqb b.filling f) (in_range b v)).0 g))
  where
    go : Before a b → (eqb a.filling f ≡ true) × (in_range a v ≡ true) → (eqb b.filling f ≡ true) × (in_range b v ≡ true) → ⊥
    go (inl x) y z = omega (arith, eqb-true a.filling f y.0, eqb-true b.filling f z.0)
    go (inr x) y z = omega (arith, x.1, (in-says a v y.1).high, (in-says b v z.1).low)

-- nor has a range with those that a range before it stands before
none-behind : (q : Range) (qs : List Range) → Every Full (q ∷ qs) → Rising (q ∷ qs) → (f : ℕ) (v : Cell) → has f v q ≡ true → some_range (has f v) qs ≡ false
unfolding some_range
none-behind q [] a c f v e = refl
none-behind q (s ∷ qs) (more fq (more fs a)) (more d r) f v e =
    ap₂ ◌||◌ (apart q s d fq f v e) (none-behind q qs (more fq a) (tail-rising q s qs fs d r) f v e)

and-not : (a b : Bool) → (a ≡ true → b ≡ false) → b ≡ (a || b) && not a
and-not true true h = clash refl (h refl)
and-not true false h = refl
and-not false true h = refl
and-not false false h = refl

or-not : (a b c : Bool) → (c ≡ true → a ≡ false) → a || (b && not c) ≡ (a || b) && not c
or-not true b true h = clash refl (h refl)
or-not true b false h = refl
or-not false b c h = refl

some-listed : (p : Range → Bool) (rs : List Range) (r : Range) → listed same_range r rs ≡ true → p r ≡ true → some_range p rs ≡ true
unfolding listed some_range
some-listed p [] r l e = clash l refl
some-listed p (q ∷ qs) r l e = ⊎_elim
    (λ h. sym (or_left (p q) (some_range p qs) (ap p (same-range q r h) ∙ e)))
    (λ h. or-second (p q) (some_range p qs) (some-listed p qs r h e))
    (or_cases (same_range q r) (listed same_range r qs) l)

-- THEOREM: without a range that it has, a list that rises and has gaps holds exactly its values but for the range's
pub removed-holds : (rs : List Range) (r : Range) → Every Full rs → Rising rs → listed same_range r rs ≡ true → (f : ℕ) (v : Cell) →
    some_range (has f v) (remove same_range r rs) ≡ some_range (has f v) rs && not (has f v r)
unfolding listed remove some_range
removed-holds [] r a c l f v = clash l refl
removed-holds (q ∷ qs) r (more fq a) c l f v = go (dec (same_range q r)) (λ m. removed-holds qs r a (rest-rising q qs c) m f v)
  where
    go : (same_range q r ≡ true) ⊎ (same_range q r ≡ false) →
        (listed same_range r qs ≡ true → some_range (has f v) (remove same_range r qs) ≡ some_range (has f v) qs && not (has f v r)) →
        some_range (has f v) (cond (same_range q r) qs (q ∷ remove same_range r qs)) ≡ (has f v q || some_range (has f v) qs) && not (has f v r)
    go (inl x) ih =
        rw x (and-not (has f v q) (some_range (has f v) qs) (none-behind q qs (more fq a) c f v) ∙
        ap (λ (s : Range). (has f v q || some_range (has f v) qs) && not (has f v s)) (same-range q r x))
    go (inr x) ih =
        let m : listed same_range r qs ≡ true = ap (λ (b : Bool). b || listed same_range r qs) (sym x) ∙ l in
        rw x (ap (λ (b : Bool). has f v q || b) (ih m) ∙
        or-not (has f v q) (some_range (has f v) qs) (has f v r)
        (λ e. refute (has f v q) (λ g. clash (some-listed (has f v) qs r m e) (none-behind q qs (more fq a) c f v g))))

-- ---- ranges of candidates

pub record RangeFits (S : Scheme) (r : Range) : Type 0 where
  pub filling : r.filling < S.fillings
  pub some : 1 ≤ r.low
  pub full : Full r
  pub low : (S.filling r.filling).low ≤ r.low
  pub high : r.high ≤ (S.filling r.filling).high

-- what the two tests of a range's operands say
pub range-fits : (S : Scheme) (r : Range) → is_range S r ≡ true → only_candidates S r ≡ true → RangeFits S r
unfolding is_range only_candidates candidate
range-fits S r e g =
    let a = (and-eq-true_iff (ltb r.filling S.fillings) _).0 e in
    let b = (and-eq-true_iff (leb 1 r.low) (leb r.low r.high)).0 a.1 in
    let c = (and-eq-true_iff (leb (S.filling r.filling).low r.low && leb r.low (S.filling r.filling).high) _).0 g in
    record {
      filling = ltb-true _ _ a.0;
      some = leb-true _ _ b.0;
      full = leb-true _ _ b.1;
      low = leb-true _ _ ((and-eq-true_iff (leb (S.filling r.filling).low r.low) _).0 c.0).0;
      high = leb-true _ _ ((and-eq-true_iff (leb (S.filling r.filling).low r.high) _).0 c.1).1;
    }

-- and back
pub fits-range : (S : Scheme) (r : Range) → RangeFits S r → is_range S r ≡ true
unfolding is_range
fits-range S r f = both (lt-ltb _ _ f.filling) (both (le-leb _ _ f.some) (le-leb _ _ f.full))

pub fits-candidates : (S : Scheme) (r : Range) → RangeFits S r → only_candidates S r ≡ true
unfolding only_candidates candidate
fits-candidates S r f =
    both (both (le-leb (S.filling r.filling).low r.low f.low) (le-leb r.low (S.filling r.filling).high (omega (arith, f.full, f.high))))
    (both (le-leb (S.filling r.filling).low r.high (omega (arith, f.low, f.full))) (le-leb r.high (S.filling r.filling).high f.high))

-- THEOREM: such a range is wholly of candidates, and one that isn't has a value that is none
pub candidates-all : (S : Scheme) (r : Range) → only_candidates S r ≡ true → (v : Cell) → in_range r v ≡ true → candidate (S.filling r.filling) v ≡ true
unfolding only_candidates candidate
candidates-all S r g v e =
    let c = (and-eq-true_iff (leb (S.filling r.filling).low r.low && leb r.low (S.filling r.filling).high) _).0 g in
    let l = leb-true (S.filling r.filling).low r.low ((and-eq-true_iff (leb (S.filling r.filling).low r.low) _).0 c.0).0 in
    let h = leb-true r.high (S.filling r.filling).high ((and-eq-true_iff (leb (S.filling r.filling).low r.high) _).0 c.1).1 in
    let w = in-says r v e in
    both (le-leb (S.filling r.filling).low v.number (omega (arith, w.low)))
    (le-leb v.number (S.filling r.filling).high (omega (arith, w.high)))

pub candidates-if : (S : Scheme) (r : Range) → is_range S r ≡ true → ((v : Cell) → in_range r v ≡ true → candidate (S.filling r.filling) v ≡ true) →
    only_candidates S r ≡ true
unfolding is_range only_candidates is_blank
candidates-if S r e h =
    let a = (and-eq-true_iff (ltb r.filling S.fillings) _).0 e in
    let b = (and-eq-true_iff (leb 1 r.low) (leb r.low r.high)).0 a.1 in
    let l = leb-true _ _ b.0 in
    let f = leb-true _ _ b.1 in
    both (h (numbered r.low) (says-in r (numbered r.low) (record { full = some r.low l; issue = refl; low = omega arith; high = f })))
    (h (numbered r.high) (says-in r (numbered r.high) (record { full = some r.high (omega arith); issue = refl; low = f; high = omega arith })))
  where
    some : (n : ℕ) → 1 ≤ n → is_blank (numbered n) ≡ false
    some n l = ap (λ (b : Bool). b && true) (ne_eqb n 0 (λ e. omega arith))

pub hull-fits : (S : Scheme) (r q : Range) → Together r q → RangeFits S r → RangeFits S q → RangeFits S (hull r q)
hull-fits S r q t a b =
    let s = spans r q in
    record {
      filling = a.filling;
      some = ⊎_elim (λ x. omega (arith, x, a.some)) (λ x. omega (arith, x, b.some)) s.low;
      full = hull-full r q a.full;
      low = ⊎_elim (λ x. omega (arith, x, a.low)) (λ x. omega (arith, x, ap (λ (n : ℕ). (S.filling n).low) t.filling, b.low)) s.low;
      high = ⊎_elim (λ x. omega (arith, x, a.high)) (λ x. omega (arith, x, ap (λ (n : ℕ). (S.filling n).high) t.filling, b.high)) s.high;
    }
