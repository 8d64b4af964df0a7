-- The laws of the queue: a row that gets its level gets the next place, and steps to one level join. Assumes nothing.
use Prim.Native.Nat.{ℕ, ◌+◌, ◌≤◌, ◌<◌}
use native.Mathlib.Decide.{dec_lt}
use native.Mathlib.Omega.{arith}
use mathlib.Core.Path.{◌≡◌, refl, sym, ap, subst, ◌∙◌}
use mathlib.Core.Logic.{⊎_elim}
use mathlib.Core.Bool.{Bool, true, false, ◌&&◌, ◌||◌}
use mathlib.Core.List.{List}
use borrow.Author.Tests.{lt-ltb, le-ltb, eqb-true, eq-eqb}
use lib.Dec.{eqb, ltb}
use lib.ListN.{length, get_or, set, length-set}
use lib.Seq.{get_or-set_same, get_or-set_other}
use Rattle.finite.specs.Finite.{any, count}
use Rattle.finite.proofs.Bools.{same_number, clash}
use Rattle.finite.proofs.Search.{any-suc, any-true, any_found}
use Rattle.finite.proofs.Counting.{count-le, count_same, count_none, count-one}
use Rattle.model.specs.Cache.{RowSet}
use Rattle.model.specs.Rounds.{level}
use Rattle.load.specs.Raised.{raised}
use Rattle.load.specs.Queue.{added, Listed, Grown}
use Rattle.load.proofs.RaisedLaws.{raised-same, raised-none, raised-one, raised-again, raised-kept}

-- ---- the rows of P below b

unfoldable pub below : ℕ → RowSet → RowSet
below b P r = ltb r b && P r

module _ (b : ℕ) (P : RowSet) where
  pub below_all : (r : ℕ) → r < b → below b P r ≡ P r
  unfolding below
  below_all r l = ap (λ (t : Bool). t && P r) (lt-ltb r b l)

-- ---- rows in the queue

pub is-added : (L : List ℕ) (r : ℕ) → 1 < level L r → added L r ≡ true
unfolding added
is-added L r h = lt-ltb 1 (level L r) h

pub not-added : (L : List ℕ) (r : ℕ) → level L r ≤ 1 → added L r ≡ false
unfolding added
not-added L r h = le-ltb 1 (level L r) h

pub listed-none : (P : RowSet) (q : List ℕ) → length q ≡ 512 → ((r : ℕ) → r < 512 → P r ≡ false) → Listed P q 0
listed-none P q e h =
    record {
      long = e;
      size = sym (count_none 512 P h);
      row = λ i l. absurd (omega arith);
      is = λ i l. absurd (omega arith);
      there = λ r l t. clash t (h r l);
    }

module _ (P : RowSet) (q : List ℕ) (end : ℕ) (u : Listed P q end) where
  -- a place of each row
  pub listed-at : (r : ℕ) → r < 512 → P r ≡ true → (i : ℕ) × (i < end) × (get_or q i 0 ≡ r)
  listed-at r l t = let f = any_found end (λ i. eqb (get_or q i 0) r) (u.there r l t) in (f.0, f.1, eqb-true _ _ f.2)

  pub listed-most : end ≤ 512
  listed-most = omega (arith, u.size, count-le 512 P)

  pub listed_same : (Q : RowSet) → ((r : ℕ) → r < 512 → P r ≡ Q r) → Listed Q q end
  listed_same Q h =
      record {
        long = u.long;
        size = u.size ∙ count_same 512 P Q h;
        row = u.row;
        is = λ i l. sym (h (get_or q i 0) (u.row i l)) ∙ u.is i l;
        there = λ r l t. u.there r l (h r l ∙ t);
      }

  -- Q has one row more, which is put at the end
  module _ (Q : RowSet) (r : ℕ) (l : r < 512) (a : P r ≡ false) (b : Q r ≡ true) (h : (x : ℕ) → x < 512 → (x ≡ r → ⊥) → P x ≡ Q x) where
    more : count 512 Q ≡ end + 1
    more = count-one 512 P Q r l a b h ∙ ap (λ (n : ℕ). n + 1) (sym u.size)

    pub listed-room : end < 512
    listed-room = omega (arith, more, count-le 512 Q)

    place : get_or (set q end r) end 0 ≡ r
    place = get_or-set_same q end r 0 (omega (arith, listed-room, u.long))

    earlier : (i : ℕ) → i < end → get_or (set q end r) i 0 ≡ get_or q i 0
    earlier i k = get_or-set_other q end i r 0 (λ (e : i ≡ end). omega arith)

    last : (i : ℕ) → i < end + 1 → (i < end → ⊥) → get_or (set q end r) i 0 ≡ r
    last i k ne = let e : end ≡ i = omega arith in subst (λ (j : ℕ). get_or (set q end r) j 0 ≡ r) e place

    pub listed-put : Listed Q (set q end r) (end + 1)
    listed-put =
        record {
          long = length-set q end r ∙ u.long;
          size = sym more;
          row = λ i k. row i k (dec_lt i end);
          is = λ i k. is i k (dec_lt i end);
          there = there;
        }
      where
        row : (i : ℕ) → i < end + 1 → Dec (i < end) → get_or (set q end r) i 0 < 512
        row i k (yes m) = omega (arith, earlier i m, u.row i m)
        row i k (no m) = omega (arith, last i k m)

        old : (x : ℕ) → x < 512 → P x ≡ true → Q x ≡ true
        old x k t = sym (h x k (λ (e : x ≡ r). clash (subst (λ (y : ℕ). P y ≡ true) e t) a)) ∙ t

        is : (i : ℕ) → i < end + 1 → Dec (i < end) → Q (get_or (set q end r) i 0) ≡ true
        is i k (yes m) = ap Q (earlier i m) ∙ old (get_or q i 0) (u.row i m) (u.is i m)
        is i k (no m) = ap Q (last i k m) ∙ b

        there : (x : ℕ) → x < 512 → Q x ≡ true → any (end + 1) (λ i. eqb (get_or (set q end r) i 0) x) ≡ true
        there x k t = ⊎_elim (λ (e : x ≡ r). here end (omega arith) (place ∙ sym e)) (λ (ne : x ≡ r → ⊥). was (listed-at x k (h x k ne ∙ t))) (same_number x r)
          where
            here : (i : ℕ) → i < end + 1 → get_or (set q end r) i 0 ≡ x → any (end + 1) (λ i. eqb (get_or (set q end r) i 0) x) ≡ true
            here i l e = any-true (end + 1) (λ i. eqb (get_or (set q end r) i 0) x) i l (eq-eqb _ _ e)

            was : (i : ℕ) × (i < end) × (get_or q i 0 ≡ x) → any (end + 1) (λ i. eqb (get_or (set q end r) i 0) x) ≡ true
            was f = here f.0 (omega (arith, f.1)) (earlier f.0 f.1 ∙ f.2)

-- ---- a step

module _ (n : ℕ) (L q : List ℕ) (end : ℕ) where
  -- the demanded rows have levels
  pub grown-none : (P : RowSet) → length L ≡ 512 → Listed (added L) q end → ((r : ℕ) → r < 512 → P r ≡ true → 0 < level L r) → Grown n P L q end L q end
  grown-none P e u h =
      record {
        long = e;
        levels = raised-none L n P e h;
        queue = u;
        longer = omega arith;
        kept = λ i l. refl;
        fresh = λ i l k. absurd (omega arith);
      }

  -- none is
  pub grown-idle : (P : RowSet) → length L ≡ 512 → Listed (added L) q end → ((r : ℕ) → r < 512 → P r ≡ false) → Grown n P L q end L q end
  grown-idle P e u h = grown-none P e u (λ r l t. clash t (h r l))

  -- one row that has a level is
  pub grown-held : (s : ℕ) → length L ≡ 512 → Listed (added L) q end → (level L s ≡ 0 → ⊥) → Grown n (λ r. eqb r s) L q end L q end
  grown-held s e u ne = grown-none (λ r. eqb r s) e u (λ r l t. let w = eqb-true r s t in subst (λ (x : ℕ). 0 < level L x) (sym w) (omega (arith, ne)))

  -- one row without a level is
  module _ (s : ℕ) (e : length L ≡ 512) (u : Listed (added L) q end) (l : s < 512) (o : 1 < n) (z : level L s ≡ 0) where
    was : added L s ≡ false
    was = not-added L s (omega arith)

    now-level : level (set L s n) s ≡ n
    now-level = get_or-set_same L s n 0 (omega arith)

    is : added (set L s n) s ≡ true
    is = is-added (set L s n) s (omega (arith, now-level))

    others : (x : ℕ) → x < 512 → (x ≡ s → ⊥) → added L x ≡ added (set L s n) x
    unfolding added
    others x k ne = ap (ltb 1) (sym (get_or-set_other L s x n 0 ne))

    pub grown-room : end < 512
    grown-room = listed-room _ q end u (added (set L s n)) s l was is others

    put : get_or (set q end s) end 0 ≡ s
    put = get_or-set_same q end s 0 (omega (arith, grown-room, u.long))

    pub grown-one : Grown n (λ r. eqb r s) L q end (set L s n) (set q end s) (end + 1)
    grown-one =
        record {
          long = length-set L s n ∙ e;
          levels = raised-one L n s e l z;
          queue = listed-put _ q end u (added (set L s n)) s l was is others;
          longer = omega arith;
          kept = λ i k. get_or-set_other q end i s 0 (λ (w : i ≡ end). omega arith);
          fresh = λ i a b. let w : end ≡ i = omega arith in subst (λ (j : ℕ). level (set L s n) (get_or (set q end s) j 0) ≡ n) w (ap (level (set L s n)) put ∙ now-level);
        }

module _ (n : ℕ) (P : RowSet) (L q : List ℕ) (end : ℕ) (L' q' : List ℕ) (end' : ℕ) (g : Grown n P L q end L' q' end') where
  pub grown-same : (Q : RowSet) → ((r : ℕ) → r < 512 → P r ≡ Q r) → Grown n Q L q end L' q' end'
  grown-same Q h =
      record { long = g.long; levels = g.levels ∙ raised-same L n P Q h; queue = g.queue; longer = g.longer; kept = g.kept; fresh = g.fresh }

  -- a level that a row has stays
  pub grown-level : (r : ℕ) → r < 512 → 0 < level L r → level L' r ≡ level L r
  grown-level r l h = ap (λ (K : List ℕ). level K r) g.levels ∙ raised-kept L n P r l h

-- two steps to one level
pub grown-again : (n : ℕ) (P Q : RowSet) (L q : List ℕ) (end : ℕ) (L' q' : List ℕ) (end' : ℕ) (L'' q'' : List ℕ) (end'' : ℕ) → 0 < n →
    Grown n P L q end L' q' end' → Grown n Q L' q' end' L'' q'' end'' → Grown n (λ r. P r || Q r) L q end L'' q'' end''
grown-again n P Q L q end L' q' end' L'' q'' end'' o g f =
    record {
      long = f.long;
      levels = f.levels ∙ ap (λ (K : List ℕ). raised K n Q) g.levels ∙ raised-again L n P Q o;
      queue = f.queue;
      longer = omega (arith, g.longer, f.longer);
      kept = λ i l. f.kept i (omega (arith, g.longer)) ∙ g.kept i l;
      fresh = λ i a b. fresh i a b (dec_lt i end');
    }
  where
    fresh : (i : ℕ) → end ≤ i → i < end'' → Dec (i < end') → level L'' (get_or q'' i 0) ≡ n
    fresh i a b (no k) = f.fresh i (omega arith) b
    fresh i a b (yes k) =
        let x = get_or q' i 0 in
        let e : level L' x ≡ n = g.fresh i a k in
        ap (level L'') (f.kept i k) ∙ grown-level n Q L' q' end' L'' q'' end'' f x (g.queue.row i k) (omega arith) ∙ e

-- ---- a loop of steps: number j demands the rows of p j, and the numbers below i have been passed

module _ (n : ℕ) (p : ℕ → RowSet) (L q : List ℕ) (end : ℕ) where
  pub grown-start : (i : ℕ) → length L ≡ 512 → Listed (added L) q end → ((r : ℕ) → r < 512 → any i (λ j. p j r) ≡ false) →
      Grown n (λ r. any i (λ j. p j r)) L q end L q end
  grown-start i e u h = grown-idle n L q end _ e u h

  -- what number i demands is what a step has raised
  pub grown-turn : (i : ℕ) (L' q' : List ℕ) (end' : ℕ) (P : RowSet) (L'' q'' : List ℕ) (end'' : ℕ) → 0 < n → Grown n (λ r. any i (λ j. p j r)) L q end L' q' end' →
      Grown n P L' q' end' L'' q'' end'' → ((r : ℕ) → r < 512 → P r ≡ p i r) → Grown n (λ r. any (i + 1) (λ j. p j r)) L q end L'' q'' end''
  grown-turn i L' q' end' P L'' q'' end'' o g f h =
      grown-same n _ L q end L'' q'' end'' (grown-again n _ P L q end L' q' end' L'' q'' end'' o g f) _
      (λ r l. ap (λ (b : Bool). any i (λ j. p j r) || b) (h r l) ∙ sym (any-suc i (λ j. p j r)))

  pub grown-end : (i m : ℕ) (L' q' : List ℕ) (end' : ℕ) → i ≤ m → m ≤ i → Grown n (λ r. any i (λ j. p j r)) L q end L' q' end' →
      Grown n (λ r. any m (λ j. p j r)) L q end L' q' end'
  grown-end i m L' q' end' a b g = let e : i ≡ m = omega arith in subst (λ (k : ℕ). Grown n (λ r. any k (λ j. p j r)) L q end L' q' end') e g
