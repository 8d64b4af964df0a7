-- The held record and what it holds: each is found from the other, and what one more pair or one fewer does to both.
-- Assumes nothing.
use Prim.Native.Nat.{ℕ, ◌+◌, ◌-◌, ◌≤◌, ◌<◌}
use native.Mathlib.Decide.{dec_lt}
use native.Mathlib.Nat.{eq-or-lt_of_le}
use native.Mathlib.Omega.{arith}
use mathlib.Core.Path.{◌≡◌, refl, sym, ap, ap₂, ◌∙◌}
use mathlib.Core.Logic.{⊎_elim}
use mathlib.Core.Bool.{Bool, true, false, cond}
use mathlib.Core.List.{List, [], ◌∷◌, ◌++◌}
use borrow.Author.Tests.{lt-ltb, le-ltb}
use lib.Dec.{ltb}
use Rattle.std.specs.Prelude.{Option, None, Some}
use Rattle.std.specs.Option.{is_some}
use lib.ListN.{length, get_or, set, length-set, get_or-eq_default}
use lib.Seq.{get_or-set_same, get_or-set_other}
use Rattle.finite.specs.Finite.{tab}
use Rattle.finite.specs.Sameness.{place_of}
use Rattle.finite.proofs.Bools.{same_number, cond-false}
use Rattle.finite.proofs.Sameness.{listed-place, end-length, end-before, end-last, end-past, skip, skip-behind, remove-length, remove-at}
use Rattle.finite.proofs.Tables.{length-tab, tab-at, tab-of, Upto, upto-set, upto-end}
use Rattle.model.specs.Holding.{desks, Pair, same_owned, Holding, mine, holds, with_pair, without_pair, ranges_of}
use Rattle.model.proofs.HoldingLaws.{no_owned, owned_at}
use Rattle.state.specs.declared.held.HeldValue.{HeldValue}
use Rattle.state.specs.declared.held.OwnedValue.{OwnedValue}
use Rattle.state.specs.declared.held.Held.{Held}
use Rattle.state.specs.Held.{no_value, held_at, Tidy}
use Rattle.state.specs.Meaning.{pair_of, owned_of, owned_back, values_of, list_back, holding_of, held_of}
use Rattle.state.proofs.Arrays.{HeldSized}
use Rattle.lawful.proofs.HeldLaws.{length-values, values-at, lists-kept}
use Rattle.cache.specs.Places.{kept_at, Placed, without}

-- ---- the values of a record

-- a pair is held if its place is one of the record's
listed-is : (h : Held) (p : Pair) (at : ℕ) → at ≡ place_of same_owned (mine (holding_of h) p) (values_of h) → ltb at h.count ≡ holds (holding_of h) p
listed-is h p at e = ap₂ ltb e (sym (length-values h)) ∙ listed-place same_owned no_owned (mine (holding_of h) p) (values_of h)

pub held-there : (h : Held) (p : Pair) (at : ℕ) → at ≡ place_of same_owned (mine (holding_of h) p) (values_of h) → at < h.count → holds (holding_of h) p ≡ true
held-there h p at e l = sym (listed-is h p at e) ∙ lt-ltb at h.count l

held-nowhere : (h : Held) (p : Pair) (at : ℕ) → at ≡ place_of same_owned (mine (holding_of h) p) (values_of h) → h.count ≤ at → holds (holding_of h) p ≡ false
held-nowhere h p at e l = sym (listed-is h p at e) ∙ le-ltb at h.count l

pub listed-some : (h : Held) (p : Pair) (r : Option ℕ) → Placed h p r → is_some r ≡ holds (holding_of h) p
listed-some h p None e = sym (held-nowhere h p h.count e (omega arith))
listed-some h p (Some i) w = sym (held-there h p i w.0 w.1)

-- with unused places 0, what a place holds is known of every place
pub values-all : (h : Held) → Tidy h → length h.values ≡ 64 → (i : ℕ) → owned_at (values_of h) i ≡ owned_of (held_at h i)
values-all h t l i = go (dec_lt i h.count) (dec_lt i 64)
  where
    go : Dec (i < h.count) → Dec (i < 64) → owned_at (values_of h) i ≡ owned_of (held_at h i)
    go (yes k) m = values-at h i k
    go (no k) (yes m) = get_or-eq_default (values_of h) no_owned (omega (arith, length-values h)) ∙ ap owned_of (sym (t.unused i (omega arith) m))
    go (no k) (no m) = get_or-eq_default (values_of h) no_owned (omega (arith, length-values h)) ∙
        ap owned_of (sym (get_or-eq_default h.values no_value (omega arith)))

-- ---- a record with this desk, this count and these values holds this

pub held-is : (h : Held) (g : Holding) → h.desk ≡ g.desk → h.count ≡ length g.values → length h.values ≡ 64 →
    ((i : ℕ) → i < 64 → held_at h i ≡ owned_back (owned_at g.values i)) → h.ranges ≡ tab desks (λ x. list_back (ranges_of g.ranges x)) → h ≡ held_of g
unfolding held_of
held-is h g d n l at r =
    λ i. record { desk = d i; count = n i; values = tab-of no_value 64 (λ j. owned_back (owned_at g.values j)) h.values l at i; ranges = r i }

-- ---- one more

module _ (h : Held) (t : Tidy h) (room : h.count < 64) (z : HeldSized h) (p : HeldValue) where
  l : length h.values ≡ 64
  l = z.values

  -- the named desk's value
  abbrev v : OwnedValue
  v = record { desk = h.desk; pair = p }

  ends : (i : ℕ) → i < 64 → get_or (set h.values h.count v) i no_value ≡ owned_back (owned_at (values_of h ++ (owned_of v ∷ [])) i)
  ends i k = ⊎_elim
      (λ (e : i ≡ h.count). rw e (get_or-set_same h.values h.count v no_value (omega arith)) ∙ ap owned_back (sym (end-last same_owned no_owned (values_of h) (owned_of v) i (e ∙
      sym (length-values h)))))
      (λ (ne : i ≡ h.count → ⊥). get_or-set_other h.values h.count i v no_value ne ∙ other ne (dec_lt i h.count))
      (same_number i h.count)
    where
      above : (i ≡ h.count → ⊥) → h.count ≤ i → h.count < i
      above ne m = ⊎_elim (λ (e : h.count ≡ i). absurd (ne (sym e))) (λ (b : h.count < i). b) (eq-or-lt_of_le m)

      other : (i ≡ h.count → ⊥) → Dec (i < h.count) → held_at h i ≡ owned_back (owned_at (values_of h ++ (owned_of v ∷ [])) i)
      other ne (yes b) = ap owned_back (sym (end-before same_owned no_owned (values_of h) (owned_of v) i (omega (arith, length-values h)) ∙ values-at h i b))
      other ne (no b) = t.unused i (omega arith) k ∙ ap owned_back (sym (end-past same_owned no_owned (values_of h) (owned_of v) i (omega (
        arith,
        length-values h,
        above ne
            (omega arith),
      ))))

  pub append-is : ◌≡◌ {A = Held} (record { desk = h.desk; count = h.count + 1; values = set h.values h.count v; ranges = h.ranges }) (held_of (with_pair (holding_of h) (pair_of p)))
  append-is =
      held-is _ (with_pair (holding_of h) (pair_of p)) refl (omega (arith, length-values h, end-length same_owned no_owned (values_of h) (owned_of v)))
      (length-set h.values h.count v ∙ l) ends (lists-kept h t z)

-- ---- one fewer

-- the values behind the gap move up by one place, in place: those before place i have, and those from there on have not
module _ (h : Held) (gap : ℕ) where
  pub shift-start : length h.values ≡ 64 → Upto no_value 64 gap (kept_at h gap) (held_at h) h.values
  shift-start l = record { long = l; at = λ r k. go r (ltb r gap) }
    where
      go : (r : ℕ) (b : Bool) → held_at h r ≡ cond b (held_at h (cond b r (r + 1))) (held_at h r)
      go r true = refl
      go r false = refl

  module _ (i : ℕ) (values : List OwnedValue) (u : Upto no_value 64 i (kept_at h gap) (held_at h) values) (o : gap ≤ i) where
    pub shift-next : i + 1 < 64 → (v : OwnedValue) → v ≡ get_or values (i + 1) no_value → Upto no_value 64 (i + 1) (kept_at h gap) (held_at h) (set values i v)
    shift-next l v e =
        upto-set no_value 64 i _ _ values u (omega arith) v
        (e ∙ u.at (i + 1) l ∙ cond-false _ (kept_at h gap (i + 1)) (held_at h (i + 1)) (le-ltb (i + 1) i (omega arith)) ∙ sym (ap (held_at h) (skip-behind gap i o)))

    pub shift-end : length h.values ≡ 64 → (n : ℕ) → (n ≡ i) × (i ≡ 63) → set values n no_value ≡ tab 64 (kept_at h gap)
    shift-end l n z =
        ap (λ (m : ℕ). set values m no_value) z.0 ∙
        upto-end no_value 64 (i + 1) _ _ _
        (upto-set no_value 64 i _ _ values u (omega (arith, z.1)) no_value
        (sym (ap (held_at h) (skip-behind gap i o) ∙ get_or-eq_default h.values no_value (omega (arith, z.1))))) (omega (arith, z.1)) (omega (arith, z.1))

pub closed_is : (h : Held) (gap : ℕ) (values : List OwnedValue) → values ≡ tab 64 (kept_at h gap) →
    ◌≡◌ {A = Held} (record { desk = h.desk; count = h.count - 1; values = values; ranges = h.ranges }) (without h gap)
unfolding without
closed_is h gap values e = λ i. record { desk = h.desk; count = h.count - 1; values = e i; ranges = h.ranges }

-- the pair is at a place of the record: the value goes and the gap closes
pub without_is : (h : Held) → Tidy h → HeldSized h → (p : Pair) (at : ℕ) → at ≡ place_of same_owned (mine (holding_of h) p) (values_of h) → at < h.count →
    without h at ≡ held_of (without_pair (holding_of h) p)
unfolding without
without_is h t z p at e inside =
    held-is _ (without_pair (holding_of h) p) refl (omega (arith, remove-length same_owned no_owned (mine (holding_of h) p) (values_of h) inside', length-values h)) (length-tab 64 _)
    (λ i k. tab-at no_value 64 (kept_at h at) i k ∙
    ap owned_back (sym (remove-at same_owned no_owned (mine (holding_of h) p) (values_of h) inside' i ∙ rw (← e) (values-all h t z.values (skip at i)))))
    (lists-kept h t z)
  where
    inside' : place_of same_owned (mine (holding_of h) p) (values_of h) < length (values_of h)
    inside' = omega (arith, length-values h)
