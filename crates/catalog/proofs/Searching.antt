-- Where a value belongs among falling keys, and elements moved one place on. Assumes nothing.
use Prim.Native.Nat.{ℕ, ◌+◌, ◌≤◌, ◌<◌}
use mathlib.Core.Bool.{Bool}
use borrow.Author.Tests.{ltb-true, ltb-false, lt-ltb}
use lib.Dec.{ltb}
use native.Mathlib.Decide.{dec_lt}
use native.Mathlib.Omega.{arith}
use mathlib.Core.Path.{◌≡◌, subst, ◌∙◌}
use mathlib.Core.List.{List}
use lib.ListN.{length, get_or, set, length-set}
use lib.Seq.{get_or-set_same, get_or-set_other}
use Rattle.catalog.specs.Catalog.{Falls}
use Rattle.catalog.specs.Halving.{Falling, Halved}
use Rattle.catalog.specs.Listing.{Searched, Moved, Opened}

-- ---- where x belongs among the falling keys from place `from` to place `to`

-- whether the key at place k is above x
abbrev pub is_above : ℕ → List ℕ → ℕ → Bool
is_above x keys k = ltb x (get_or keys k 0)

module _ (from to x : ℕ) (keys : List ℕ) where
  pub above-falling : Falls from to keys → Falling from to (is_above x keys)
  above-falling f i j a b l t = lt-ltb x _ (go (dec_lt i j))
    where
      go : Dec (i < j) → x < get_or keys i 0
      go (yes h) = omega (arith, ltb-true x _ t, f i j a h l)
      go (no h) = let q : j ≡ i = omega arith in subst (λ (k : ℕ). x < get_or keys k 0) q (ltb-true x _ t)

  pub searched : (a : ℕ) → Halved from to (is_above x keys) a a → Searched from to x a a keys
  searched a h =
      record { start = h.start; order = h.order; end = h.end; above = λ i u v. ltb-true x _ (h.holds i u v); below = λ i u v. omega (arith, ltb-false x _ (h.fails i u v)) }

  -- x stands nowhere but at place a
  pub searched-only : (a : ℕ) → Falls from to keys → Searched from to x a a keys → (i : ℕ) → from ≤ i → i < to → get_or keys i 0 ≡ x → i ≡ a
  searched-only a f s i u v e = go (dec_lt i a) (dec_lt a i)
    where
      go : Dec (i < a) → Dec (a < i) → i ≡ a
      go (yes h) _ = absurd (omega (arith, s.above i u h))
      go (no h) (yes k) = absurd (omega (arith, f a i s.start k v, s.below a (omega arith) (omega arith)))
      go (no h) (no k) = omega arith

-- ---- moving

pub moved_open : (a m v : ℕ) (xs ys : List ℕ) → a < length xs → Moved a m xs ys → Opened a m v xs (set ys a v)
moved_open a m v xs ys l t =
    record {
      moves =
          record {
            long = length-set ys a v ∙ t.long;
            below = λ i h. get_or-set_other ys a i v 0 (λ q. omega arith) ∙ t.below i h;
            moved = λ i p q. get_or-set_other ys a (i + 1) v 0 (λ e. omega arith) ∙ t.moved i p q;
          };
      here = get_or-set_same ys a v 0 (omega (arith, t.long));
    }
