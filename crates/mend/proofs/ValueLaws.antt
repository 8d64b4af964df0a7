-- One value of a row that comes or goes, in the arrays of the directory: loops that close a place and count starts up or down, and what they leave. Assumes nothing.
use Prim.Native.Nat.{ℕ, ◌+◌, ◌-◌, ◌≤◌, ◌<◌}
use native.Mathlib.Omega.{arith}
use mathlib.Core.Path.{◌≡◌, refl, sym, ap, subst, ◌∙◌}
use mathlib.Core.Bool.{Bool, true, false, cond, ◌&&◌, and-eq-true_iff}
use mathlib.Core.List.{List}
use mathlib.Core.Logic.{◌⊎◌, inl, inr}
use Rattle.std.specs.Prelude.{min}
use Rattle.std.proofs.Common.{rules}
use borrow.Author.Tests.{tests, eqb-true, ltb-true}
use lib.Dec.{eqb, ltb}
use lib.ListN.{length, get_or, set, length-set}
use lib.Seq.{get_or-set_same, get_or-set_other}
use Rattle.finite.proofs.Bools.{same_number}
use Rattle.catalog.specs.Catalog.{Falls}
use Rattle.catalog.specs.Listing.{Searched, Moved, Opened}
use Rattle.mend.specs.Values.{Seats, Raised, Stands, Opens, Closes}
use Rattle.catalog.proofs.Searching.{searched-only, moved_open}
use Rattle.catalog.proofs.Found.{stands_here, stands-not}

-- the lower of two row numbers
pub lower_is : (h r : ℕ) → min h r ≡ cond (ltb r h) r h
lower_is h r = search (rules, tests)

-- ---- the elements behind place n and before place j have become f of what they were

pub record Mapped (f : ℕ → ℕ) (n j : ℕ) (xs ys : List ℕ) : Type 0 where
  pub long : length ys ≡ length xs
  pub outer : (i : ℕ) → (n < i → i < j → ⊥) → get_or ys i 0 ≡ get_or xs i 0
  pub inner : (i : ℕ) → n < i → i < j → get_or ys i 0 ≡ f (get_or xs i 0)

module _ (f : ℕ → ℕ) (n : ℕ) (xs : List ℕ) where
  pub mapped-start : Mapped f n (n + 1) xs xs
  mapped-start = record { long = refl; outer = λ i h. refl; inner = λ i a b. absurd (omega arith) }

  pub mapped-turn : (j : ℕ) (ys : List ℕ) (v : ℕ) → n < j → j < length xs → Mapped f n j xs ys → v ≡ f (get_or ys j 0) → Mapped f n (j + 1) xs (set ys j v)
  mapped-turn j ys v l b t e =
      record {
        long = length-set ys j v ∙ t.long;
        outer = λ i h. get_or-set_other ys j i v 0 (λ q. h (omega arith) (omega arith)) ∙ t.outer i (λ u w. h u (omega arith));
        inner = λ i u w. at i u w (same_number i j);
      }
    where
      at : (i : ℕ) → n < i → i < j + 1 → (i ≡ j) ⊎ (i ≡ j → ⊥) → get_or (set ys j v) i 0 ≡ f (get_or xs i 0)
      at i u w (inl q) =
          ap (λ (z : ℕ). get_or (set ys j v) z 0) q ∙ get_or-set_same ys j v 0 (omega (arith, t.long)) ∙ e ∙ ap f (t.outer j (λ c d. omega arith))
          ∙ ap (λ (z : ℕ). f (get_or xs z 0)) (sym q)
      at i u w (inr q) = get_or-set_other ys j i v 0 q ∙ t.inner i u (omega (arith, q))

pub raised-end : (n j : ℕ) (xs ys : List ℕ) → 65 ≤ j → Mapped (λ z. z + 1) n j xs ys → Raised n xs ys
raised-end n j xs ys l t = record { long = t.long; below = λ i h. t.outer i (λ u w. omega arith); above = λ i h b. t.inner i h (omega arith) }

pub sunk-end : (n j : ℕ) (xs ys : List ℕ) → 65 ≤ j → ((i : ℕ) → n < i → i < 65 → 0 < get_or xs i 0) → Mapped (λ z. z - 1) n j xs ys → Raised n ys xs
sunk-end n j xs ys l p t =
    record {
      long = sym t.long;
      below = λ i h. sym (t.outer i (λ u w. omega arith));
      above = λ i h b. omega (arith, t.inner i h (omega arith), p i h b);
    }

-- ---- the elements behind place a and before place j have moved one place back

pub record Closing (a j : ℕ) (xs ys : List ℕ) : Type 0 where
  pub long : length ys ≡ length xs
  pub below : (i : ℕ) → i < a → get_or ys i 0 ≡ get_or xs i 0
  pub moved : (i : ℕ) → a ≤ i → i + 1 < j → get_or ys i 0 ≡ get_or xs (i + 1) 0
  pub rest : (i : ℕ) → j ≤ i + 1 → get_or ys i 0 ≡ get_or xs i 0

pub closing-start : (a : ℕ) (xs : List ℕ) → Closing a (a + 1) xs xs
closing-start a xs = record { long = refl; below = λ i l. refl; moved = λ i u w. absurd (omega arith); rest = λ i l. refl }

pub closing-turn : (a j : ℕ) (xs ys : List ℕ) → a < j → j < length xs → Closing a j xs ys → Closing a (j + 1) xs (set ys (j - 1) (get_or ys j 0))
closing-turn a j xs ys l b t =
    record {
      long = length-set ys (j - 1) _ ∙ t.long;
      below = λ i h. get_or-set_other ys (j - 1) i _ 0 (λ q. omega arith) ∙ t.below i h;
      moved = λ i u w. at i u w (same_number i (j - 1));
      rest = λ i h. get_or-set_other ys (j - 1) i _ 0 (λ q. omega arith) ∙ t.rest i (omega arith);
    }
  where
    at : (i : ℕ) → a ≤ i → i + 1 < j + 1 → (i ≡ j - 1) ⊎ (i ≡ j - 1 → ⊥) → get_or (set ys (j - 1) (get_or ys j 0)) i 0 ≡ get_or xs (i + 1) 0
    at i u w (inl q) =
        let e : j ≡ i + 1 = omega arith in
        ap (λ (z : ℕ). get_or (set ys (j - 1) (get_or ys j 0)) z 0) q ∙ get_or-set_same ys (j - 1) _ 0 (omega (arith, t.long)) ∙ t.rest j (omega arith)
        ∙ ap (λ (z : ℕ). get_or xs z 0) e
    at i u w (inr q) = get_or-set_other ys (j - 1) i _ 0 q ∙ t.moved i u (omega (arith, q))

pub closing_end : (a j m : ℕ) (xs ys : List ℕ) → m ≤ j → Closing a j xs ys → Moved a (m - 1) ys xs
closing_end a j m xs ys l t = record { long = sym t.long; below = λ i h. sym (t.below i h); moved = λ i u w. sym (t.moved i u (omega arith)) }

-- ---- a value that goes

module _ (x n : ℕ) (keys heads starts : List ℕ) (l : n < 64) (s : Seats n keys heads starts) where
  -- it stands at its seat
  pub seat-stands : (a : ℕ) → Searched (get_or starts n 0) (get_or starts (n + 1) 0) x a a keys → (i : ℕ) → Stands x n i keys starts → Stands x n a keys starts
  seat-stands a q i t =
      let e = searched-only (get_or starts n 0) (get_or starts (n + 1) 0) x keys a s.falls q i t.start t.end t.here in
      subst (λ (z : ℕ). Stands x n z keys starts) e t

  -- ... before the end
  pub stands-before : (a : ℕ) → Stands x n a keys starts → a < get_or starts 64 0
  stands-before a t = omega (arith, t.end, s.rises (n + 1) 64 (omega arith) (omega arith))

  -- there are places before every later column
  pub starts-above : (a : ℕ) → Stands x n a keys starts → (j : ℕ) → n < j → j < 65 → 0 < get_or starts j 0
  starts-above a t j u w = omega (arith, t.end, s.rises (n + 1) j (omega arith) w)

  pub closed : (a r next : ℕ) → Stands x n a keys starts → get_or heads a 0 ≡ r → 512 ≤ next → (m : ℕ) → m ≡ get_or starts 64 0 → (keys' heads' starts' : List ℕ)
      → Moved a (m - 1) keys' keys → Moved a (m - 1) heads' heads → Raised n starts' starts → Closes x r n next keys heads starts keys' heads' starts'
  closed a r next t h g m o keys' heads' starts' p q u =
      let e : m - 1 ≡ get_or starts' 64 0 = omega (arith, o, u.above 64 (omega arith) (omega arith)) in
      record {
        at = a;
        stands = t;
        first = h;
        last = g;
        keys-are = record { moves = subst (λ (z : ℕ). Moved a z keys' keys) e p; here = t.here };
        heads-are = record { moves = subst (λ (z : ℕ). Moved a z heads' heads) e q; here = h };
        starts-are = u;
      }

-- ---- a search in column n, which begins at `from` and ends at `to`

module _ (x n : ℕ) (keys heads starts : List ℕ) (l : n < 64) (s : Seats n keys heads starts) (from to : ℕ) (f : from ≡ get_or starts n 0)
    (t : to ≡ get_or starts (n + 1) 0) where
  pub to-bound : to ≤ 4096
  to-bound = omega (arith, t, s.rises (n + 1) 64 (omega arith) (omega arith), s.end)

  module _ (a : ℕ) (q : from ≤ to → Falls from to keys → Searched from to x a a keys) where
    pub seat-at : Searched (get_or starts n 0) (get_or starts (n + 1) 0) x a a keys
    seat-at =
        subst (λ (z : ℕ). Searched z (get_or starts (n + 1) 0) x a a keys) f
        (subst (λ (z : ℕ). Searched from z x a a keys) t
        (q (omega (arith, f, t, s.rises n (n + 1) (omega arith) (omega arith)))
        (subst (λ (z : ℕ). Falls z to keys) (sym f) (subst (λ (z : ℕ). Falls (get_or starts n 0) z keys) (sym t) s.falls))))

    pub seat-end : a ≤ get_or starts 64 0
    seat-end = omega (arith, seat-at.end, s.rises (n + 1) 64 (omega arith) (omega arith))

    module _ (b : Bool) (e : b ≡ ltb a to && eqb (get_or keys a 0) x) where
      pub seat-met : b ≡ true → Stands x n a keys starts
      seat-met h =
          let u = stands_here b keys to a x e h in
          record { start = seat-at.start; end = omega (arith, t, u.0); here = u.1 }

      pub opens : (m r : ℕ) → m ≡ get_or starts 64 0 → m < 4096 → b ≡ false → (keys₁ heads₁ starts' : List ℕ) → Moved a m keys keys₁ → Moved a m heads heads₁
          → Raised n starts starts' → Opens x r n keys heads starts (set keys₁ a x) (set heads₁ a r) starts'
      opens m r w o h keys₁ heads₁ starts' p v u =
          record {
            at = a;
            seat = seat-at;
            other = λ i g. stands-not b keys to a x e h (omega (arith, t)) g;
            keys-are = subst (λ (z : ℕ). Opened a z x keys (set keys₁ a x)) w (moved_open a m x keys keys₁ (omega (arith, s.keys-long, seat-end)) p);
            heads-are = subst (λ (z : ℕ). Opened a z r heads (set heads₁ a r)) w (moved_open a m r heads heads₁ (omega (arith, s.heads-long, seat-end)) v);
            starts-are = u;
          }

-- no other row has it
pub alone-says : (b : Bool) (h r next : ℕ) → b ≡ eqb h r && ltb 511 next → b ≡ true → (h ≡ r) × (512 ≤ next)
alone-says b h r next e t =
    let q = (and-eq-true_iff (eqb h r) (ltb 511 next)).0 (sym e ∙ t) in
    (eqb-true h r q.0, ltb-true 511 next q.1)
