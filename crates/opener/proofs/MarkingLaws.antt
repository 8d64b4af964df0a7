-- Rows marked beside others: along the links, and constraint by constraint. Assumes nothing.
use Prim.Native.Nat.{ℕ, ◌+◌, ◌≤◌, ◌<◌}
use native.Mathlib.Decide.{dec_lt}
use native.Mathlib.Omega.{arith}
use mathlib.Core.Path.{◌≡◌, refl, sym, ap, subst, ◌∙◌}
use mathlib.Core.Logic.{◌⊎◌, inl, inr, ⊎_elim}
use mathlib.Core.Bool.{Bool, true, false, ◌&&◌, ◌||◌}
use mathlib.Core.List.{List}
use borrow.Author.Tests.{lt-ltb, ltb-true, ltb-false}
use lib.Dec.{ltb}
use lib.ListN.{length, get_or, set, length-set, replicate}
use lib.Seq.{get_or-set_same, get_or-set_other}
use Rattle.finite.specs.Finite.{any, first_from, tab}
use Rattle.finite.proofs.Bools.{dec, both, same_number, and_left, and_right, or-none, or-second}
use Rattle.finite.proofs.First.{first-from, first-after}
use Rattle.finite.proofs.Search.{any-start, any-suc}
use Rattle.finite.proofs.Tables.{tab-at, tab-of, replicate-tab}
use Rattle.catalog.specs.Hits.{Hit}
use Rattle.catalog.proofs.HitLaws.{first-hit}
use Rattle.opener.specs.Marking.{Marked}

and-whole : (a b : Bool) → b ≡ true → a && b ≡ a
and-whole true b e = e
and-whole false b e = refl

-- ---- along the links

module _ (p : ℕ → Bool) (seed : List Bool) where
  -- the rows below n that pass are marked
  pub record Marking (n : ℕ) (seed' : List Bool) : Type 0 where
    pub stands : Hit p n
    pub long : length seed' ≡ length seed
    pub at : (t : ℕ) → t < 512 → get_or seed' t false ≡ get_or seed t false || (p t && ltb t n)

  pub mark-none : (n : ℕ) → n ≡ first_from 512 p 0 → Marking n seed
  mark-none n e = record { stands = first-hit p 0 n e; long = refl; at = λ t l. sym (or-none (get_or seed t false) (p t && ltb t n) (not_yet t (dec (ltb t n)))) }
    where
      not_yet : (t : ℕ) → (ltb t n ≡ true) ⊎ (ltb t n ≡ false) → p t && ltb t n ≡ false
      not_yet t (inl q) = and_left (p t) (ltb t n) ((first-from 512 p 0 (omega arith)).none t (omega arith) (omega (arith, ltb-true t n q, e)))
      not_yet t (inr q) = and_right (p t) (ltb t n) q

  pub mark-more : (n : ℕ) (seed' : List Bool) → Marking n seed' → n < 512 → length seed ≡ 512 → (m : ℕ) → m ≡ first_from 512 p (n + 1) → Marking m (set seed' n true)
  mark-more n seed' x l z m e =
      record {
        stands = first-hit p (n + 1) m e;
        long = length-set seed' n true ∙ x.long;
        at = λ t k. ⊎_elim (here t) (other t k) (same_number t n);
      }
    where
      f : n < m
      f = first-after 512 p n m l e

      here : (t : ℕ) → t ≡ n → get_or (set seed' n true) t false ≡ get_or seed t false || (p t && ltb t m)
      here t q =
          subst (λ (y : ℕ). get_or (set seed' n true) y false ≡ get_or seed y false || (p y && ltb y m)) (sym q)
          (get_or-set_same seed' n true false (omega (arith, x.long)) ∙ sym (or-second (get_or seed n false) (p n && ltb n m) (both (x.stands.here l) (lt-ltb n m f))))

      same : (t : ℕ) → (t ≡ n → ⊥) → (ltb t m ≡ true) ⊎ (ltb t m ≡ false) → (ltb t n ≡ true) ⊎ (ltb t n ≡ false) → p t && ltb t n ≡ p t && ltb t m
      same t q (inl u) (inl v) = ap (λ (y : Bool). p t && y) (v ∙ sym u)
      same t q (inr u) (inr v) = ap (λ (y : Bool). p t && y) (v ∙ sym u)
      same t q (inr u) (inl v) = absurd (omega (arith, f, ltb-false t m u, ltb-true t n v))
      same t q (inl u) (inr v) =
          let z = (first-from 512 p (n + 1) (omega arith)).none t (after t q (ltb-false t n v)) (omega (arith, ltb-true t m u, e)) in
          and_left (p t) (ltb t n) z ∙ sym (and_left (p t) (ltb t m) z)
        where
          after : (t : ℕ) → (t ≡ n → ⊥) → n ≤ t → n + 1 ≤ t
          after t q g = go (dec_lt n t)
            where
              go : Dec (n < t) → n + 1 ≤ t
              go (yes y) = omega arith
              go (no y) = let z : t ≡ n = omega arith in absurd (q z)

      other : (t : ℕ) → t < 512 → (t ≡ n → ⊥) → get_or (set seed' n true) t false ≡ get_or seed t false || (p t && ltb t m)
      other t k q =
          get_or-set_other seed' n t true false q ∙ x.at t k ∙ ap (λ (y : Bool). get_or seed t false || y) (same t q (dec (ltb t m)) (dec (ltb t n)))

  pub mark-end : (n : ℕ) (seed' : List Bool) → 512 ≤ n → Marking n seed' → Marked p seed seed'
  mark-end n seed' h x =
      record {
        long = x.long;
        at = λ t l. x.at t l ∙ ap (λ (y : Bool). get_or seed t false || y) (and-whole (p t) (ltb t n) (lt-ltb t n (omega arith)));
      }

-- ---- a test that doesn't pass, and one that does

module _ (a : Bool) (p : ℕ → Bool) (seed : List Bool) where
  pub mark-not : (seed' : List Bool) → seed' ≡ seed → a ≡ false → Marked (λ r. a && p r) seed seed'
  mark-not seed' q e = subst (λ (s : List Bool). Marked (λ r. a && p r) seed s) (sym q) record { long = refl; at = λ t l. sym (or-none (get_or seed t false) (a && p t) (and_left a (p t) e)) }

  pub mark-all : (seed' seed'' : List Bool) → seed'' ≡ seed' → a ≡ true → Marked p seed seed' → Marked (λ r. a && p r) seed seed''
  mark-all seed' seed'' q e x = subst (λ (s : List Bool). Marked (λ r. a && p r) seed s) (sym q) record { long = x.long; at = λ t l. x.at t l ∙ ap (λ (b : Bool). get_or seed t false || (b && p t)) (sym e) }

-- ---- constraint by constraint

pub mark-start : (p : ℕ → ℕ → Bool) (r : ℕ) → r < 512 → get_or (replicate 512 false) r false ≡ any 0 (λ a. p a r)
mark-start p r l = ap (λ (xs : List Bool). get_or xs r false) (replicate-tab 512 false) ∙ tab-at false 512 (λ _. false) r l ∙ sym (any-start (λ a. p a r))

pub mark-next : (i : ℕ) (p : ℕ → ℕ → Bool) (seed seed' : List Bool) → ((r : ℕ) → r < 512 → get_or seed r false ≡ any i (λ a. p a r)) → Marked (p i) seed seed' →
    (r : ℕ) → r < 512 → get_or seed' r false ≡ any (i + 1) (λ a. p a r)
mark-next i p seed seed' h x r l = x.at r l ∙ ap (λ (b : Bool). b || p i r) (h r l) ∙ sym (any-suc i (λ a. p a r))

pub mark-last : (i n : ℕ) (p : ℕ → ℕ → Bool) (seed : List Bool) → i ≤ n → n ≤ i → ((r : ℕ) → r < 512 → get_or seed r false ≡ any i (λ a. p a r)) → (r : ℕ) → r < 512 →
    get_or seed r false ≡ any n (λ a. p a r)
mark-last i n p seed a b h r l = let e : i ≡ n = omega arith in h r l ∙ ap (λ (k : ℕ). any k (λ a. p a r)) e

-- both grounds
pub mark-both : (p q : ℕ → Bool) (seed seed' : List Bool) → length seed ≡ 512 → ((r : ℕ) → r < 512 → get_or seed r false ≡ p r) → Marked q seed seed' → seed' ≡ tab 512 (λ r. p r || q r)
mark-both p q seed seed' z h x =
    tab-of false 512 (λ r. p r || q r) seed' (x.long ∙ z) (λ r l. x.at r l ∙ ap (λ (b : Bool). b || q r) (h r l))
