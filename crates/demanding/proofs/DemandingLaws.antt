-- The nearest of the rows that demand a row: found by the first row that they demand, and handed on along its links. Assumes nothing.
use Prim.Native.Nat.{ℕ, ◌+◌, ◌*◌, ◌/◌, ◌%◌, ◌≤◌, ◌<◌}
use native.Mathlib.Decide.{dec_lt}
use native.Mathlib.Omega.{arith}
use mathlib.Core.Path.{◌≡◌, refl, sym, ap, subst, ◌∙◌}
use mathlib.Core.Logic.{◌⊎◌, inl, inr, ⊎_elim}
use mathlib.Core.Bool.{Bool, true, false, cond, ◌&&◌, and-eq-true_iff}
use mathlib.Core.List.{List}
use borrow.Author.Tests.{eq-eqb, ne_eqb, eqb-true, lt-ltb, le-ltb, ltb-true, ltb-false, le-leb, lt-leb}
use lib.Dec.{eqb, leb, ltb}
use lib.ListN.{length, get_or, set, replicate, length-set, length-replicate}
use lib.Seq.{get_or-set_same, get_or-set_other}
use Rattle.finite.specs.Finite.{first_from}
use Rattle.finite.proofs.Bools.{dec, both, clash, refute, bool-ext, same_number, and_left, and_right, cond-true, cond-false}
use Rattle.finite.proofs.First.{first-from, first-same, first-is, first-after, first-here, first-skip, first_past}
use Rattle.finite.proofs.Tables.{tab-at, tab-of, replicate-tab, ltb_next}
use Rattle.model.specs.Cell.{Cell, equal}
use Rattle.model.specs.Scheme.{Constraint, Scheme}
use Rattle.model.specs.Database.{Database, has}
use Rattle.model.specs.Rounds.{leads, level, reached}
use Rattle.model.specs.Turned.{turned_round, turned}
use Rattle.model.proofs.CellLaws.{equal-same, equal-self}
use Rattle.model.proofs.DatabaseLaws.{has-Has, Has-has, has-full}
use Rattle.state.specs.declared.design.Design.{Design}
use Rattle.state.specs.Meaning.{scheme_of}
use Rattle.catalog.specs.Hits.{Hit}
use Rattle.catalog.specs.Catalog.{demanded_first, firsts}
use Rattle.demanding.specs.Demanding.{Nearest, nearer_of, first_by, ByFirst, chosen_at, Rising, Spread, Demanding}
use Rattle.catalog.proofs.HitLaws.{first-hit}

-- ---- the nearer of two

module _ (L : List ℕ) (b s : ℕ) where
  pub nearer-flat : level L s ≡ 0 → b ≡ nearer_of L b s
  unfolding nearer_of
  nearer-flat e = sym (cond-true (eqb (level L s) 0) _ _ (eq-eqb _ _ e))

  module _ (n : level L s ≡ 0 → ⊥) where
    past : nearer_of L b s ≡ cond (leb 512 b) s (cond (ltb (level L s) (level L b)) s b)
    unfolding nearer_of
    past = cond-false (eqb (level L s) 0) _ _ (ne_eqb _ _ n)

    pub nearer-new : 512 ≤ b → s ≡ nearer_of L b s
    nearer-new h = sym (past ∙ cond-true (leb 512 b) _ _ (le-leb 512 b h))

    pub nearer-lower : b < 512 → level L s < level L b → s ≡ nearer_of L b s
    nearer-lower h l = sym (past ∙ cond-false (leb 512 b) _ _ (lt-leb 512 b h) ∙ cond-true (ltb (level L s) (level L b)) _ _ (lt-ltb _ _ l))

    pub nearer-kept : b < 512 → level L b ≤ level L s → b ≡ nearer_of L b s
    nearer-kept h l = sym (past ∙ cond-false (leb 512 b) _ _ (lt-leb 512 b h) ∙ cond-false (ltb (level L s) (level L b)) _ _ (le-ltb _ _ l))

-- ---- the nearest that passes a test

module _ (L : List ℕ) where
  pub nearest-none : (p : ℕ → Bool) (b : ℕ) → b ≡ 512 → ((s : ℕ) → s < 512 → 0 < level L s → p s ≡ false) → Nearest L p b
  nearest-none p b e h =
      record {
        bound = omega arith;
        here = λ l. absurd (omega arith);
        levelled = λ l. absurd (omega arith);
        least = λ s l t u. clash t (h s l u);
      }

  pub nearest-same : (p q : ℕ → Bool) (b : ℕ) → ((s : ℕ) → s < 512 → 0 < level L s → p s ≡ q s) → Nearest L p b → Nearest L q b
  nearest-same p q b h x =
      record {
        bound = x.bound;
        here = λ l. sym (h b l (x.levelled l)) ∙ x.here l;
        levelled = x.levelled;
        least = λ s l t u. x.least s l (h s l u ∙ t) u;
      }

  -- among the rows below k, and one more
  module _ (p : ℕ → Bool) (k : ℕ) (l : k < 512) where
    abbrev below : ℕ → ℕ → Bool
    below n s = p s && ltb s n

    before-next : (s : ℕ) → (s ≡ k → ⊥) → below k s ≡ below (k + 1) s
    before-next s n =
        ⊎_elim (λ (h : s < k). ap (λ (x : Bool). p s && x) (lt-ltb s k h ∙ sym (lt-ltb s (k + 1) (omega arith))))
        (λ (h : k < s). ap (λ (x : Bool). p s && x) (le-ltb s k (omega arith) ∙ sym (le-ltb s (k + 1) (omega arith)))) (apart s n (dec_lt s k))
      where
        apart : (s : ℕ) → (s ≡ k → ⊥) → Dec (s < k) → (s < k) ⊎ (k < s)
        apart s n (yes h) = inl h
        apart s n (no h) = ⊎_elim (λ (e : s ≡ k). absurd (n e)) (λ (e : s ≡ k → ⊥). inr (more s e h)) (same_number s k)
          where
            more : (s : ℕ) → (s ≡ k → ⊥) → (s < k → ⊥) → k < s
            more s e h = go (dec_lt k s)
              where
                go : Dec (k < s) → k < s
                go (yes q) = q
                go (no q) = let z : s ≡ k = omega arith in absurd (e z)

    -- k doesn't pass
    pub nearest-skip : (b : ℕ) → p k ≡ false → Nearest L (below k) b → Nearest L (below (k + 1)) b
    nearest-skip b h x = nearest-same (below k) (below (k + 1)) b (λ s _ _. go s (same_number s k)) x
      where
        go : (s : ℕ) → (s ≡ k) ⊎ (s ≡ k → ⊥) → below k s ≡ below (k + 1) s
        go s (inl e) = let z : p s ≡ false = ap p e ∙ h in and_left (p s) (ltb s k) z ∙ sym (and_left (p s) (ltb s (k + 1)) z)
        go s (inr n) = before-next s n

    -- k passes
    module _ (h : p k ≡ true) (b : ℕ) (x : Nearest L (below k) b) where
      now : below (k + 1) k ≡ true
      now = both h (lt-ltb k (k + 1) (omega arith))

      -- a row that passes is k, or one before it
      split : (P : ℕ → Type 0) → P k → ((s : ℕ) → s < 512 → below k s ≡ true → 0 < level L s → P s) → (s : ℕ) → s < 512 → below (k + 1) s ≡ true → 0 < level L s → P s
      split P a q s m t u = ⊎_elim (λ (e : s ≡ k). subst P (sym e) a) (λ (n : s ≡ k → ⊥). q s m (before-next s n ∙ t) u) (same_number s k)

      abbrev Least : ℕ → ℕ → Type 0
      Least c s = (c < 512) × (level L c ≤ level L s) × (level L c ≡ level L s → c ≤ s)

      flat : level L k ≡ 0 → Nearest L (below (k + 1)) b
      flat e =
          record {
            bound = x.bound;
            here = λ m. let q = (and-eq-true_iff (p b) (ltb b k)).0 (x.here m) in both q.0 (lt-ltb b (k + 1) (omega (arith, ltb-true b k q.1)));
            levelled = x.levelled;
            least = λ s m t u. x.least s m (before-next s (λ z. omega (arith, ap (level L) z)) ∙ t) u;
          }

      new : 0 < level L k → 512 ≤ b → Nearest L (below (k + 1)) k
      new o g =
          record {
            bound = omega arith;
            here = λ _. now;
            levelled = λ _. o;
            least = split (Least k) (l, omega arith, λ _. omega arith) (λ s m t u. absurd (omega (arith, (x.least s m t u).0)));
          }

      lower : 0 < level L k → level L k < level L b → Nearest L (below (k + 1)) k
      lower o g =
          record {
            bound = omega arith;
            here = λ _. now;
            levelled = λ _. o;
            least = split (Least k) (l, omega arith, λ _. omega arith) (λ s m t u. let y = (x.least s m t u).1 in (l, omega arith, λ e. absurd (omega arith)));
          }

      kept : b < 512 → level L b ≤ level L k → Nearest L (below (k + 1)) b
      kept m g =
          let q = (and-eq-true_iff (p b) (ltb b k)).0 (x.here m) in
          let r = ltb-true b k q.1 in
          record {
            bound = x.bound;
            here = λ _. both q.0 (lt-ltb b (k + 1) (omega arith));
            levelled = x.levelled;
            least = split (Least b) (m, g, λ _. omega arith) x.least;
          }

      pub nearest-more : (c : ℕ) → c ≡ nearer_of L b k → Nearest L (below (k + 1)) c
      nearest-more c e = subst (Nearest L (below (k + 1))) (sym e) (go (same_number (level L k) 0) (dec_lt b 512) (dec_lt (level L k) (level L b)))
        where
          above : (level L k ≡ 0 → ⊥) → 0 < level L k
          above n = go (dec_lt 0 (level L k))
            where
              go : Dec (0 < level L k) → 0 < level L k
              go (yes q) = q
              go (no q) = let z : level L k ≡ 0 = omega arith in absurd (n z)

          go : (level L k ≡ 0) ⊎ (level L k ≡ 0 → ⊥) → Dec (b < 512) → Dec (level L k < level L b) → Nearest L (below (k + 1)) (nearer_of L b k)
          go (inl z) _ _ = subst (Nearest L (below (k + 1))) (nearer-flat L b k z) (flat z)
          go (inr n) (no m) _ = subst (Nearest L (below (k + 1))) (nearer-new L b k n (omega arith)) (new (above n) (omega arith))
          go (inr n) (yes m) (yes g) = subst (Nearest L (below (k + 1))) (nearer-lower L b k n m g) (lower (above n) g)
          go (inr n) (yes m) (no g) = subst (Nearest L (below (k + 1))) (nearer-kept L b k n m (omega arith)) (kept m (omega arith))

-- ---- the rows that have a level, one after the other

level-reached : (L : List ℕ) (s : ℕ) → 0 < level L s → reached L s ≡ true
unfolding reached
level-reached L s o = lt-ltb 0 (level L s) o

flat-reached : (L : List ℕ) (s : ℕ) → level L s ≡ 0 → reached L s ≡ false
unfolding reached
flat-reached L s e = le-ltb 0 (level L s) (omega arith)

-- a row that has a level is below k exactly if it is below the next row from k on
jump-same : (L : List ℕ) (k k' : ℕ) → k ≤ 512 → k' ≡ first_from 512 (reached L) k → (s : ℕ) → 0 < level L s → ltb s k ≡ ltb s k'
jump-same L k k' h e s o = go (dec_lt s k) (dec_lt s k')
  where
    go : Dec (s < k) → Dec (s < k') → ltb s k ≡ ltb s k'
    go (yes a) (yes b) = lt-ltb s k a ∙ sym (lt-ltb s k' b)
    go (no a) (no b) = le-ltb s k (omega arith) ∙ sym (le-ltb s k' (omega arith))
    go (yes a) (no b) = absurd (omega (arith, e, (first-from 512 (reached L) k h).start))
    go (no a) (yes b) = clash (level-reached L s o) ((first-from 512 (reached L) k h).none s (omega arith) (omega (arith, e)))

module _ (L : List ℕ) where
  -- e lists the first m rows that have a level, and then x
  abbrev listed : (ℕ → ℕ) → ℕ → ℕ → ℕ → ℕ
  listed e m x k = cond (eqb k m) x (e k)

  -- the rows below s have been passed, and m of them were listed
  pub record Listing (s m : ℕ) (rows : List ℕ) : Type 0 where
    pub long : length rows ≡ 513
    pub few : m ≤ s
    pub start : listed (λ k. get_or rows k 0) m (first_from 512 (reached L) s) 0 ≡ first_from 512 (reached L) 0
    pub below : (k : ℕ) → k < m → get_or rows k 0 < 512
    pub next : (k : ℕ) → k < m → listed (λ k. get_or rows k 0) m (first_from 512 (reached L) s) (k + 1) ≡ first_from 512 (reached L) (get_or rows k 0 + 1)

  pub listing_none : (rows : List ℕ) → length rows ≡ 513 → Listing 0 0 rows
  listing_none rows l =
      record {
        long = l;
        few = omega arith;
        start = cond-true (eqb 0 0) (first_from 512 (reached L) 0) (get_or rows 0 0) (eq-eqb 0 0 refl);
        below = λ k h. absurd (omega arith);
        next = λ k h. absurd (omega arith);
      }

  module _ (s m : ℕ) (rows : List ℕ) (x : Listing s m rows) (l : s < 512) where
    entry_old : (k : ℕ) → (k ≡ m → ⊥) → get_or (set rows m s) k 0 ≡ get_or rows k 0
    entry_old k n = get_or-set_other rows m k s 0 n

    entry_new : get_or (set rows m s) m 0 ≡ s
    entry_new = get_or-set_same rows m s 0 (omega (arith, x.long, x.few))

    entry-less : (k : ℕ) → k < m → k ≡ m → ⊥
    entry-less k h e = omega arith

    list-flat : level L s ≡ 0 → Listing (s + 1) m (set rows m s)
    list-flat e =
        record {
          long = length-set rows m s ∙ x.long;
          few = omega (arith, x.few);
          start = sym (same 0) ∙ x.start;
          below = λ k h. subst (λ (y : ℕ). y < 512) (sym (entry_old k (entry-less k h))) (x.below k h);
          next = λ k h. sym (same (k + 1)) ∙ x.next k h ∙ ap (λ (y : ℕ). first_from 512 (reached L) (y + 1)) (sym (entry_old k (entry-less k h)));
        }
      where
        same : (k : ℕ) → listed (λ k. get_or rows k 0) m (first_from 512 (reached L) s) k ≡ listed (λ k. get_or (set rows m s) k 0) m (first_from 512 (reached L) (s + 1)) k
        same k =
            ⊎_elim
            (λ (q : k ≡ m).
            cond-true (eqb k m) _ _ (eq-eqb k m q) ∙ first-skip 512 (reached L) s (flat-reached L s e) ∙ sym (cond-true (eqb k m) _ _ (eq-eqb k m q)))
            (λ (q : k ≡ m → ⊥). cond-false (eqb k m) _ _ (ne_eqb k m q) ∙ sym (entry_old k q) ∙ sym (cond-false (eqb k m) _ _ (ne_eqb k m q)))
            (same_number k m)

    list-more : (level L s ≡ 0 → ⊥) → Listing (s + 1) (m + 1) (set rows m s)
    list-more n =
        record {
          long = length-set rows m s ∙ x.long;
          few = omega (arith, x.few);
          start = sym (same 0 (omega arith)) ∙ x.start;
          below = λ k h. go-below k h (same_number k m);
          next = λ k h. go-next k h (same_number k m);
        }
      where
        o : 0 < level L s
        o = check (dec_lt 0 (level L s))
          where
            check : Dec (0 < level L s) → 0 < level L s
            check (yes q) = q
            check (no q) = let z : level L s ≡ 0 = omega arith in absurd (n z)

        here : first_from 512 (reached L) s ≡ s
        here = first-here 512 (reached L) s l (level-reached L s o)

        same : (k : ℕ) → k ≤ m → listed (λ k. get_or rows k 0) m (first_from 512 (reached L) s) k ≡ listed (λ k. get_or (set rows m s) k 0) (m + 1) (first_from 512 (reached L) (s + 1)) k
        same k h =
            ⊎_elim
            (λ (q : k ≡ m). cond-true (eqb k m) _ _ (eq-eqb k m q) ∙ here ∙ sym entry_new ∙ ap (λ (y : ℕ). get_or (set rows m s) y 0) (sym q))
            (λ (q : k ≡ m → ⊥). cond-false (eqb k m) _ _ (ne_eqb k m q) ∙ sym (entry_old k q))
            (same_number k m) ∙
            sym (cond-false (eqb k (m + 1)) _ _ (ne_eqb k (m + 1) (λ (q : k ≡ m + 1). omega arith)))

        lower : (k : ℕ) → k < m + 1 → (k ≡ m → ⊥) → k < m
        lower k h q = check (dec_lt k m)
          where
            check : Dec (k < m) → k < m
            check (yes y) = y
            check (no y) = let z : k ≡ m = omega arith in absurd (q z)

        go-below : (k : ℕ) → k < m + 1 → (k ≡ m) ⊎ (k ≡ m → ⊥) → get_or (set rows m s) k 0 < 512
        go-below k h (inl q) = subst (λ (y : ℕ). y < 512) (sym (ap (λ (y : ℕ). get_or (set rows m s) y 0) q ∙ entry_new)) l
        go-below k h (inr q) = subst (λ (y : ℕ). y < 512) (sym (entry_old k q)) (x.below k (lower k h q))

        go-next : (k : ℕ) → k < m + 1 → (k ≡ m) ⊎ (k ≡ m → ⊥) →
            listed (λ k. get_or (set rows m s) k 0) (m + 1) (first_from 512 (reached L) (s + 1)) (k + 1) ≡ first_from 512 (reached L) (get_or (set rows m s) k 0 + 1)
        go-next k h (inl q) =
            cond-true (eqb (k + 1) (m + 1)) _ _ (eq-eqb (k + 1) (m + 1) (omega arith)) ∙
            ap (λ (y : ℕ). first_from 512 (reached L) (y + 1)) (sym (ap (λ (y : ℕ). get_or (set rows m s) y 0) q ∙ entry_new))
        go-next k h (inr q) =
            sym (same (k + 1) (omega (arith, lower k h q))) ∙ x.next k (lower k h q) ∙ ap (λ (y : ℕ). first_from 512 (reached L) (y + 1)) (sym (entry_old k q))

    pub listing-more : (n : ℕ) → n ≡ cond (eqb (level L s) 0) m (m + 1) → Listing (s + 1) n (set rows m s)
    listing-more n e =
        ⊎_elim (λ (q : level L s ≡ 0). subst (λ (y : ℕ). Listing (s + 1) y (set rows m s)) (sym (e ∙ cond-true (eqb (level L s) 0) _ _ (eq-eqb _ _ q))) (list-flat q))
        (λ (q : level L s ≡ 0 → ⊥). subst (λ (y : ℕ). Listing (s + 1) y (set rows m s)) (sym (e ∙ cond-false (eqb (level L s) 0) _ _ (ne_eqb _ _ q))) (list-more q))
        (same_number (level L s) 0)

  pub listing-end : (s m : ℕ) (rows : List ℕ) → s ≤ 512 → 512 ≤ s → Listing s m rows → Rising L m (set rows m 512)
  listing-end s m rows a b x =
      record {
        few = omega (arith, x.few);
        start = sym (same 0) ∙ x.start;
        below = λ k h. subst (λ (y : ℕ). y < 512) (sym (old k h)) (x.below k h);
        next = λ k h. sym (same (k + 1)) ∙ x.next k h ∙ ap (λ (y : ℕ). first_from 512 (reached L) (y + 1)) (sym (old k h));
        end = get_or-set_same rows m 512 0 (omega (arith, x.long, x.few));
      }
    where
      old : (k : ℕ) → k < m → get_or (set rows m 512) k 0 ≡ get_or rows k 0
      old k h = get_or-set_other rows m k 512 0 (λ (q : k ≡ m). omega arith)

      same : (k : ℕ) → listed (λ k. get_or rows k 0) m (first_from 512 (reached L) s) k ≡ get_or (set rows m 512) k 0
      same k =
          ⊎_elim
          (λ (q : k ≡ m).
          cond-true (eqb k m) _ _ (eq-eqb k m q) ∙ first_past 512 (reached L) s b ∙ sym (get_or-set_same rows m 512 0 (omega (arith, x.long, x.few))) ∙
          ap (λ (y : ℕ). get_or (set rows m 512) y 0) (sym q))
          (λ (q : k ≡ m → ⊥). cond-false (eqb k m) _ _ (ne_eqb k m q) ∙ sym (get_or-set_other rows m k 512 0 q))
          (same_number k m)

-- ---- by the first row that is demanded

-- the rows below k have been looked at
pub record Looked (S : Scheme) (D : Database) (L : List ℕ) (i k : ℕ) (best : List ℕ) : Type 0 where
  pub long : length best ≡ 512
  pub at : (f : ℕ) → f < 512 → Nearest L (λ s. eqb (first_by S D i s) f && ltb s k) (get_or best f 0)

module _ (S : Scheme) (D : Database) (L : List ℕ) (i : ℕ) where
  pub looked-none : Looked S D L i 0 (replicate 512 512)
  looked-none =
      record {
        long = length-replicate {A = ℕ} 512 512;
        at = λ f l.
            nearest-none L _ _ (ap (λ (xs : List ℕ). get_or xs f 0) (replicate-tab 512 512) ∙ tab-at 0 512 (λ _. 512) f l)
            (λ s _ _. and_right (eqb (first_by S D i s) f) (ltb s 0) (le-ltb s 0 (omega arith)));
      }

  module _ (k : ℕ) (l : k < 512) (best : List ℕ) (x : Looked S D L i k best) (f : ℕ) (e : f ≡ first_by S D i k) where
    pub looked-skip : 512 ≤ f → Looked S D L i (k + 1) best
    looked-skip h =
        record {
          long = x.long;
          at = λ g m. nearest-skip L (λ s. eqb (first_by S D i s) g) k l _ (ne_eqb (first_by S D i k) g (λ (q : first_by S D i k ≡ g). omega (arith, q, e))) (x.at g m);
        }

    pub looked-more : f < 512 → (b : ℕ) → b ≡ nearer_of L (get_or best f 0) k → Looked S D L i (k + 1) (set best f b)
    looked-more h b q =
        record {
          long = length-set best f b ∙ x.long;
          at = λ g m.
              ⊎_elim
              (λ (z : g ≡ f).
              subst (λ (y : ℕ). Nearest L (λ s. eqb (first_by S D i s) y && ltb s (k + 1)) (get_or (set best f b) y 0)) (sym z)
              (subst (Nearest L (λ s. eqb (first_by S D i s) f && ltb s (k + 1))) (sym (get_or-set_same best f b 0 (omega (arith, x.long))))
              (nearest-more L (λ s. eqb (first_by S D i s) f) k l (eq-eqb _ _ (sym e)) (get_or best f 0) (x.at f h) b q)))
              (λ (z : g ≡ f → ⊥).
              subst (Nearest L (λ s. eqb (first_by S D i s) g && ltb s (k + 1))) (sym (get_or-set_other best f g b 0 z))
              (nearest-skip L (λ s. eqb (first_by S D i s) g) k l (get_or best g 0) (ne_eqb _ _ (λ y. z (sym y ∙ sym e))) (x.at g m)))
              (same_number g f);
        }

  -- over rows that have no level
  pub looked-jump : (k k' : ℕ) (best : List ℕ) → k ≤ 512 → k' ≡ first_from 512 (reached L) k → Looked S D L i k best → Looked S D L i k' best
  looked-jump k k' best h e x =
      record {
        long = x.long;
        at = λ f l. nearest-same L _ _ _ (λ s m o. ap (λ (b : Bool). eqb (first_by S D i s) f && b) (jump-same L k k' h e s o)) (x.at f l);
      }

  pub looked-end : (k : ℕ) (best : List ℕ) → 512 ≤ k → Looked S D L i k best → ByFirst S D L i best
  looked-end k best h x =
      record {
        long = x.long;
        at = λ f l. nearest-same L _ _ _ (λ s m _. whole (eqb (first_by S D i s) f) s m) (x.at f l);
      }
    where
      whole : (b : Bool) (s : ℕ) → s < 512 → b && ltb s k ≡ b
      whole b s m = ap (λ (y : Bool). b && y) (lt-ltb s k (omega arith)) ∙ and-true b
        where
          and-true : (b : Bool) → b && true ≡ b
          and-true true = refl
          and-true false = refl

-- over the rows that have a level, one after the other
module _ (S : Scheme) (D : Database) (L : List ℕ) (i m : ℕ) (rows : List ℕ) (r : Rising L m rows) where
  pub looked-start : Looked S D L i (get_or rows 0 0) (replicate 512 512)
  looked-start = looked-jump S D L i 0 (get_or rows 0 0) (replicate 512 512) (omega arith) r.start (looked-none S D L i)

  module _ (k : ℕ) (l : k < m) (best : List ℕ) (x : Looked S D L i (get_or rows k 0) best) (s : ℕ) (q : s ≡ get_or rows k 0) (f : ℕ) (e : f ≡ first_by S D i s) where
    here : Looked S D L i s best
    here = subst (λ (y : ℕ). Looked S D L i y best) (sym q) x

    low : s < 512
    low = omega (arith, q, r.below k l)

    on : (best' : List ℕ) → Looked S D L i (s + 1) best' → Looked S D L i (get_or rows (k + 1) 0) best'
    on best' z =
        looked-jump S D L i (s + 1) (get_or rows (k + 1) 0) best' (omega (arith, q, r.below k l))
        (r.next k l ∙ ap (λ (y : ℕ). first_from 512 (reached L) (y + 1)) (sym q)) z

    pub looked-past : 512 ≤ f → Looked S D L i (get_or rows (k + 1) 0) best
    looked-past h = on best (looked-skip S D L i s low best here f e h)

    pub looked-on : f < 512 → (b : ℕ) → b ≡ nearer_of L (get_or best f 0) s → Looked S D L i (get_or rows (k + 1) 0) (set best f b)
    looked-on h b z = on (set best f b) (looked-more S D L i s low best here f e h b z)

  pub looked-done : (k : ℕ) (best : List ℕ) → k ≤ m → m ≤ k → Looked S D L i (get_or rows k 0) best → ByFirst S D L i best
  looked-done k best a b x = let e : k ≡ m = omega arith in looked-end S D L i (get_or rows k 0) best (omega (arith, ap (λ (y : ℕ). get_or rows y 0) e, r.end)) x

-- ---- along the links

module _ (p : ℕ → Bool) (b a : ℕ) (near : List ℕ) where
  -- the rows below n that pass have been handed b
  pub record Handed (n : ℕ) (near' : List ℕ) : Type 0 where
    pub stands : Hit p n
    pub long : length near' ≡ length near
    pub at : (t : ℕ) → t < 512 → get_or near' (a + t) 0 ≡ cond (p t && ltb t n) b (get_or near (a + t) 0)
    pub below : (x : ℕ) → x < a → get_or near' x 0 ≡ get_or near x 0
    pub above : (x : ℕ) → a + 512 ≤ x → get_or near' x 0 ≡ get_or near x 0

  pub handed-none : (n : ℕ) → n ≡ first_from 512 p 0 → Handed n near
  handed-none n e =
      record {
        stands = first-hit p 0 n e;
        long = refl;
        at = λ t l. sym (cond-false (p t && ltb t n) b _ (not_yet t (dec (ltb t n))));
        below = λ x l. refl;
        above = λ x l. refl;
      }
    where
      not_yet : (t : ℕ) → (ltb t n ≡ true) ⊎ (ltb t n ≡ false) → p t && ltb t n ≡ false
      not_yet t (inl q) = and_left (p t) (ltb t n) ((first-from 512 p 0 (omega arith)).none t (omega arith) (omega (arith, ltb-true t n q, e)))
      not_yet t (inr q) = and_right (p t) (ltb t n) q

  pub handed-more : (n : ℕ) (near' : List ℕ) → Handed n near' → n < 512 → a + 512 ≤ length near → (m : ℕ) → m ≡ first_from 512 p (n + 1) →
      Handed m (set near' (a + n) b)
  handed-more n near' x l h m e =
      record {
        stands = first-hit p (n + 1) m e;
        long = length-set near' (a + n) b ∙ x.long;
        at = λ t k. ⊎_elim (here t) (other t k) (same_number t n);
        below = λ y k. get_or-set_other near' (a + n) y b 0 (λ q. omega arith) ∙ x.below y k;
        above = λ y k. get_or-set_other near' (a + n) y b 0 (λ q. omega arith) ∙ x.above y k;
      }
    where
      f : n < m
      f = first-after 512 p n m l e

      here : (t : ℕ) → t ≡ n → get_or (set near' (a + n) b) (a + t) 0 ≡ cond (p t && ltb t m) b (get_or near (a + t) 0)
      here t q =
          subst (λ (y : ℕ). get_or (set near' (a + n) b) (a + y) 0 ≡ cond (p y && ltb y m) b (get_or near (a + y) 0)) (sym q)
          (get_or-set_same near' (a + n) b 0 (omega (arith, x.long)) ∙ sym (cond-true (p n && ltb n m) b _ (both (x.stands.here l) (lt-ltb n m f))))

      same : (t : ℕ) → (t ≡ n → ⊥) → (ltb t m ≡ true) ⊎ (ltb t m ≡ false) → (ltb t n ≡ true) ⊎ (ltb t n ≡ false) → p t && ltb t n ≡ p t && ltb t m
      same t q (inl u) (inl v) = ap (λ (y : Bool). p t && y) (v ∙ sym u)
      same t q (inr u) (inr v) = ap (λ (y : Bool). p t && y) (v ∙ sym u)
      same t q (inr u) (inl v) = absurd (omega (arith, f, ltb-false t m u, ltb-true t n v))
      same t q (inl u) (inr v) =
          let z = (first-from 512 p (n + 1) (omega arith)).none t (after t q (ltb-false t n v)) (omega (arith, ltb-true t m u, e)) in
          and_left (p t) (ltb t n) z ∙ sym (and_left (p t) (ltb t m) z)
        where
          after : (t : ℕ) → (t ≡ n → ⊥) → n ≤ t → n + 1 ≤ t
          after t q g = go (dec_lt n t)
            where
              go : Dec (n < t) → n + 1 ≤ t
              go (yes y) = omega arith
              go (no y) = let z : t ≡ n = omega arith in absurd (q z)

      other : (t : ℕ) → t < 512 → (t ≡ n → ⊥) → get_or (set near' (a + n) b) (a + t) 0 ≡ cond (p t && ltb t m) b (get_or near (a + t) 0)
      other t k q =
          get_or-set_other near' (a + n) (a + t) b 0 (λ y. q (omega arith)) ∙ x.at t k ∙
          ap (λ (y : Bool). cond y b (get_or near (a + t) 0)) (same t q (dec (ltb t m)) (dec (ltb t n)))

  pub handed-end : (n : ℕ) (near' : List ℕ) → 512 ≤ n → Handed n near' → Spread p b a near near'
  handed-end n near' h x =
      record {
        long = x.long;
        at = λ t l. x.at t l ∙ ap (λ (y : Bool). cond y b (get_or near (a + t) 0)) (ap (λ (y : Bool). p t && y) (lt-ltb t n (omega arith)) ∙ and-true (p t));
        below = x.below;
        above = x.above;
      }
    where
      and-true : (b : Bool) → b && true ≡ b
      and-true true = refl
      and-true false = refl

-- ---- rows that demand a row in common demand the same rows

module _ (D : Database) (j : Constraint) where
  -- of which these are demanded, by the value
  pub leads-value : (s t : ℕ) → leads D j s t ≡ true → (u : ℕ) → leads D j s u ≡ has D j.target (D.cell s j.source.place) u
  unfolding leads
  leads-value s t e u =
      let a = (and-eq-true_iff (D.live s) _).0 e in
      let b = (and-eq-true_iff (eqb (D.table s) j.source.table) _).0 a.1 in
      ap (λ (x : Bool). x && (eqb (D.table s) j.source.table && has D j.target (D.cell s j.source.place) u)) a.0 ∙
      ap (λ (x : Bool). x && has D j.target (D.cell s j.source.place) u) b.0

  leads-alike : (r s t : ℕ) → leads D j r t ≡ true → leads D j s t ≡ true → (u : ℕ) → leads D j r u ≡ leads D j s u
  leads-alike r s t e h u =
      let a = has-Has D j.target _ t (sym (leads-value r t e t) ∙ e) in
      let b = has-Has D j.target _ t (sym (leads-value s t h t) ∙ h) in
      leads-value r t e u ∙ ap (λ (v : Cell). has D j.target v u) (sym (equal-same _ _ a.value) ∙ equal-same _ _ b.value) ∙ sym (leads-value s t h u)

  abbrev first : ℕ → ℕ
  first s = first_from 512 (leads D j s) 0

  -- the first one is demanded
  leads-first : (s f : ℕ) → first s ≡ f → f < 512 → leads D j s f ≡ true
  leads-first s f e l = subst (λ (x : ℕ). leads D j s x ≡ true) e ((first-from 512 (leads D j s) 0 (omega arith)).here (omega (arith, e)))

  -- a row has one if it demands any
  pub first_below : (s t : ℕ) → t < 512 → leads D j s t ≡ true → first s < 512
  first_below s t l e = go (dec_lt (first s) 512)
    where
      go : Dec (first s < 512) → first s < 512
      go (yes h) = h
      go (no h) = clash e ((first-from 512 (leads D j s) 0 (omega arith)).none t (omega arith) (omega arith))

  first_alike : (r s t : ℕ) → leads D j r t ≡ true → leads D j s t ≡ true → first r ≡ first s
  first_alike r s t e h = first-same 512 (leads D j r) (leads D j s) 0 (λ u _ _. leads-alike r s t e h u)

  -- of a row t that b demands: those that demand it are those with the same first row
  leads-by-first : (b f : ℕ) → first b ≡ f → f < 512 → (t : ℕ) → leads D j b t ≡ true → (s : ℕ) → leads D j s t ≡ eqb (first s) f
  leads-by-first b f e l t h s =
      bool-ext _ _ (λ q. eq-eqb _ _ (first_alike s b t q h ∙ e))
      (λ q. leads-alike s b f (leads-first s f (eqb-true _ _ q) l) (leads-first b f e l) t ∙ h)

  -- ---- the nearest rows below n have been noted for those that they demand

  module _ (L best : List ℕ) (y : (f : ℕ) → f < 512 → Nearest L (λ s. eqb (first s) f) (get_or best f 0)) where
    -- the nearest of the rows that demand the same rows as s
    abbrev chief : ℕ → ℕ
    chief s = chosen_at best (first s)

    chief-is : (s : ℕ) → first s < 512 → chief s ≡ get_or best (first s) 0
    unfolding chosen_at
    chief-is s l = cond-true (ltb (first s) 512) _ 512 (lt-ltb (first s) 512 l)

    chief-past : (s : ℕ) → 512 ≤ first s → chief s ≡ 512
    unfolding chosen_at
    chief-past s l = cond-false (ltb (first s) 512) (get_or best (first s) 0) 512 (le-ltb (first s) 512 l)

    -- it is one, and has a level, if one of them has
    chief-below : (s t : ℕ) → t < 512 → s < 512 → 0 < level L s → leads D j s t ≡ true → (chief s < 512) × (0 < level L (chief s)) × (first (chief s) ≡ first s)
    chief-below s t a b o e =
        let l = first_below s t a e in
        let x = y (first s) l in
        let m = (x.least s b (eq-eqb (first s) (first s) refl) o).0 in
        subst (λ (c : ℕ). (c < 512) × (0 < level L c) × (first c ≡ first s)) (sym (chief-is s l)) (m, x.levelled m, eqb-true _ _ (x.here m))

    module _ (a : ℕ) where
      pub record Noted (n : ℕ) (near : List ℕ) : Type 0 where
        pub at : (t : ℕ) → t < 512 → Nearest L (λ s. leads D j s t && ltb (chief s) n) (get_or near (a + t) 0)

      pub noted-none : (near : List ℕ) → ((t : ℕ) → t < 512 → get_or near (a + t) 0 ≡ 512) → Noted 0 near
      noted-none near h =
          record { at = λ t l. nearest-none L _ _ (h t l) (λ s _ _. and_right (leads D j s t) (ltb (chief s) 0) (le-ltb (chief s) 0 (omega arith))) }

      -- tests that differ at most where the row demands t
      noted-same : (n m : ℕ) (near : List ℕ) → ((t : ℕ) → t < 512 → (s : ℕ) → s < 512 → 0 < level L s → leads D j s t ≡ true → ltb (chief s) n ≡ ltb (chief s) m) →
          Noted n near → Noted m near
      noted-same n m near h x =
          record {
            at = λ t k.
                nearest-same L _ _ _ (λ s l o.
                ⊎_elim (λ (q : leads D j s t ≡ true). ap (λ (b : Bool). leads D j s t && b) (h t k s l o q))
                (λ (q : leads D j s t ≡ false). and_left (leads D j s t) (ltb (chief s) n) q ∙ sym (and_left (leads D j s t) (ltb (chief s) m) q))
                (dec (leads D j s t))) (x.at t k);
          }

      -- over rows that have no level
      pub noted-jump : (n m : ℕ) (near : List ℕ) → n ≤ 512 → m ≡ first_from 512 (reached L) n → Noted n near → Noted m near
      noted-jump n m near h e x = noted-same n m near (λ t k s l o q. jump-same L n m h e (chief s) (chief-below s t k l o q).1) x

      module _ (b : ℕ) (l : b < 512) (near : List ℕ) (x : Noted b near) where
        next-ltb : (c : ℕ) → (c ≡ b → ⊥) → ltb c b ≡ ltb c (b + 1)
        next-ltb c n = ltb_next c b n

        -- b is not the nearest of those with its first row
        pub noted-skip : (chief b ≡ b → ⊥) → Noted (b + 1) near
        noted-skip n =
            noted-same b (b + 1) near
            (λ t k s m o q. next-ltb (chief s) (λ e.
            let w = (chief-below s t k m o q).2 in
            n (ap (chosen_at best) (ap first (sym e) ∙ w) ∙ e))) x

        module _ (h : chief b ≡ b) where
          first-is-one : first b < 512
          first-is-one = check (dec_lt (first b) 512)
            where
              check : Dec (first b < 512) → first b < 512
              check (yes q) = q
              check (no q) = absurd (omega (arith, h, chief-past b (omega arith)))

          own : Nearest L (λ s. eqb (first s) (first b)) b
          own = subst (Nearest L (λ s. eqb (first s) (first b))) (sym (chief-is b first-is-one) ∙ h) (y (first b) first-is-one)

          -- it is noted for the rows that it demands
          pub noted_more : (near' : List ℕ) → Spread (has D j.target (D.cell b j.source.place)) b a near near' → Noted (b + 1) near'
          noted_more near' u = record { at = λ t k. go t k (dec (leads D j b t)) }
            where
              here : leads D j b (first b) ≡ true
              here = leads-first b (first b) refl first-is-one

              read : (t : ℕ) → t < 512 → get_or near' (a + t) 0 ≡ cond (leads D j b t) b (get_or near (a + t) 0)
              read t k = u.at t k ∙ ap (λ (q : Bool). cond q b (get_or near (a + t) 0)) (sym (leads-value b (first b) here t))

              go : (t : ℕ) → t < 512 → (leads D j b t ≡ true) ⊎ (leads D j b t ≡ false) → Nearest L (λ s. leads D j s t && ltb (chief s) (b + 1)) (get_or near' (a + t) 0)
              go t k (inl q) =
                  subst (Nearest L (λ s. leads D j s t && ltb (chief s) (b + 1))) (sym (read t k ∙ cond-true (leads D j b t) b _ q))
                  (nearest-same L (λ s. eqb (first s) (first b)) _ b (λ s _ _. sym (alike s)) own)
                where
                  by : (s : ℕ) → leads D j s t ≡ eqb (first s) (first b)
                  by s = leads-by-first b (first b) refl first-is-one t q s

                  alike : (s : ℕ) → leads D j s t && ltb (chief s) (b + 1) ≡ eqb (first s) (first b)
                  alike s =
                      bool-ext _ _ (λ w. sym (by s) ∙ ((and-eq-true_iff (leads D j s t) _).0 w).0)
                      (λ w. both (by s ∙ w) (lt-ltb (chief s) (b + 1) (omega (arith, ap (chosen_at best) (eqb-true (first s) (first b) w), h))))
              go t k (inr q) =
                  subst (Nearest L (λ s. leads D j s t && ltb (chief s) (b + 1))) (sym (read t k ∙ cond-false (leads D j b t) b _ q))
                  (nearest-same L (λ s. leads D j s t && ltb (chief s) b) _ _ (λ s m o. still s m o (dec (leads D j s t))) (x.at t k))
                where
                  still : (s : ℕ) → s < 512 → 0 < level L s → (leads D j s t ≡ true) ⊎ (leads D j s t ≡ false) →
                      leads D j s t && ltb (chief s) b ≡ leads D j s t && ltb (chief s) (b + 1)
                  still s m o (inl w) =
                      ap (λ (c : Bool). leads D j s t && c) (next-ltb (chief s) (λ e.
                      let z = (chief-below s t k m o w).2 in
                      clash (leads-alike b s (first b) here (leads-first s (first b) (sym z ∙ ap first e) first-is-one) t ∙ w) q))
                  still s m o (inr w) = and_left (leads D j s t) (ltb (chief s) b) w ∙ sym (and_left (leads D j s t) (ltb (chief s) (b + 1)) w)

          -- where the walk of these rows begins
          pub noted-from : first b ≡ first_from 512 (has D j.target (D.cell b j.source.place)) 0
          noted-from = first-same 512 (leads D j b) _ 0 (λ t _ _. leads-value b (first b) (leads-first b (first b) refl first-is-one) t)

      pub noted-end : (n : ℕ) (near : List ℕ) → 512 ≤ n → Noted n near → (t : ℕ) → t < 512 → Nearest L (λ s. leads D j s t) (get_or near (a + t) 0)
      noted-end n near h x t l =
          nearest-same L _ _ _ (λ s m o. bool-ext _ _ (λ q. ((and-eq-true_iff (leads D j s t) _).0 q).0)
          (λ q. both q (lt-ltb (chief s) n (omega (arith, (chief-below s t l m o q).0))))) (x.at t l)

-- ---- one constraint after the other

module _ (S : Scheme) (D : Database) (L : List ℕ) (i : ℕ) (near₀ best : List ℕ) (y : ByFirst S D L i best) where
  -- for constraint i, the nearest rows below n have been noted, and nothing else was
  pub record Noting (n : ℕ) (near : List ℕ) : Type 0 where
    pub long : length near ≡ 8192
    pub noted : Noted D (S.constraint i) L best y.at (512 * i) n near
    pub below : (x : ℕ) → x < 512 * i → get_or near x 0 ≡ get_or near₀ x 0
    pub above : (x : ℕ) → 512 * i + 512 ≤ x → get_or near x 0 ≡ get_or near₀ x 0

  noting-none : i < 16 → Demanding S D L i near₀ → Noting 0 near₀
  noting-none l x =
      record {
        long = x.long;
        noted = noted-none D (S.constraint i) L best y.at (512 * i) near₀ (λ t k. x.rest (512 * i + t) (omega arith) (omega arith));
        below = λ y k. refl;
        above = λ y k. refl;
      }

  noting-jump : (n m : ℕ) (near : List ℕ) → n ≤ 512 → m ≡ first_from 512 (reached L) n → Noting n near → Noting m near
  noting-jump n m near h e x =
      record { long = x.long; noted = noted-jump D (S.constraint i) L best y.at (512 * i) n m near h e x.noted; below = x.below; above = x.above }

  module _ (m : ℕ) (rows : List ℕ) (r : Rising L m rows) where
    pub noting-start : i < 16 → Demanding S D L i near₀ → Noting (get_or rows 0 0) near₀
    noting-start l x = noting-jump 0 (get_or rows 0 0) near₀ (omega arith) r.start (noting-none l x)

    module _ (k : ℕ) (l : k < m) (near : List ℕ) (x : Noting (get_or rows k 0) near) (f : ℕ) (e : f ≡ first_by S D i (get_or rows k 0)) where
      noting-on : (near' : List ℕ) → Noting (get_or rows k 0 + 1) near' → Noting (get_or rows (k + 1) 0) near'
      noting-on near' z = noting-jump (get_or rows k 0 + 1) (get_or rows (k + 1) 0) near' (omega (arith, r.below k l)) (r.next k l) z

      chief-read : chosen_at best f ≡ chosen_at best (first_by S D i (get_or rows k 0))
      chief-read = ap (chosen_at best) e

      pub noting-skip : (chosen_at best f ≡ get_or rows k 0 → ⊥) → Noting (get_or rows (k + 1) 0) near
      noting-skip n =
          noting-on near (record {
            long = x.long;
            noted = noted-skip D (S.constraint i) L best y.at (512 * i) (get_or rows k 0) (r.below k l) near x.noted (λ q. n (chief-read ∙ q));
            below = x.below;
            above = x.above;
          })

      module _ (h : chosen_at best f ≡ get_or rows k 0) where
        pub noting-from : f ≡ first_from 512 (has D (S.constraint i).target (D.cell (get_or rows k 0) (S.constraint i).source.place)) 0
        noting-from = e ∙ noted-from D (S.constraint i) L best y.at (512 * i) (get_or rows k 0) (r.below k l) near x.noted (sym chief-read ∙ h)

        pub noting-more : (near' : List ℕ) →
            Spread (has D (S.constraint i).target (D.cell (get_or rows k 0) (S.constraint i).source.place)) (get_or rows k 0) (512 * i) near near' → Noting (get_or rows (k + 1) 0) near'
        noting-more near' u =
            noting-on near' (record {
              long = u.long ∙ x.long;
              noted = noted_more D (S.constraint i) L best y.at (512 * i) (get_or rows k 0) (r.below k l) near x.noted (sym chief-read ∙ h) near' u;
              below = λ z k. u.below z k ∙ x.below z k;
              above = λ z k. u.above z k ∙ x.above z k;
            })

  pub noting-end : (n : ℕ) (near : List ℕ) → 512 ≤ n → Demanding S D L i near₀ → Noting n near → Demanding S D L (i + 1) near
  noting-end n near h d x =
      record {
        long = x.long;
        row = λ k t a b. go k t a b (same_number k i);
        rest = λ z a b. x.above z (omega arith) ∙ d.rest z (omega arith) b;
      }
    where
      go : (k t : ℕ) → k < i + 1 → t < 512 → (k ≡ i) ⊎ (k ≡ i → ⊥) → Nearest L (λ s. leads D (S.constraint k) s t) (get_or near (512 * k + t) 0)
      go k t a b (inl e) =
          subst (λ (y : ℕ). Nearest L (λ s. leads D (S.constraint y) s t) (get_or near (512 * y + t) 0)) (sym e)
          (noted-end D (S.constraint i) L best y.at (512 * i) n near h x.noted t b)
      go k t a b (inr e) =
          subst (Nearest L (λ s. leads D (S.constraint k) s t)) (sym (x.below (512 * k + t) (omega (arith, less k a e)))) (d.row k t (less k a e) b)
        where
          less : (k : ℕ) → k < i + 1 → (k ≡ i → ⊥) → k < i
          less k a e = check (dec_lt k i)
            where
              check : Dec (k < i) → k < i
              check (yes q) = q
              check (no q) = let z : k ≡ i = omega arith in absurd (e z)

pub noting-done : (S : Scheme) (D : Database) (L : List ℕ) (i : ℕ) (near₀ best : List ℕ) (y : ByFirst S D L i best) (m : ℕ) (rows : List ℕ) → Rising L m rows →
    (k : ℕ) (near : List ℕ) → k ≤ m → m ≤ k → Demanding S D L i near₀ → Noting S D L i near₀ best y (get_or rows k 0) near → Demanding S D L (i + 1) near
noting-done S D L i near₀ best y m rows r k near a b d x =
    let e : k ≡ m = omega arith in
    noting-end S D L i near₀ best y (get_or rows k 0) near (omega (arith, ap (λ (z : ℕ). get_or rows z 0) e, r.end)) d x

pub demanding-none : (S : Scheme) (D : Database) (L : List ℕ) → Demanding S D L 0 (replicate 8192 512)
demanding-none S D L =
    record {
      long = length-replicate {A = ℕ} 8192 512;
      row = λ i t l _. absurd (omega arith);
      rest = λ x _ l. ap (λ (xs : List ℕ). get_or xs x 0) (replicate-tab 8192 512) ∙ tab-at 0 8192 (λ _. 512) x l;
    }

pub demanding-end : (S : Scheme) (D : Database) (L : List ℕ) (i n : ℕ) (near : List ℕ) → i ≤ n → n ≤ i → Demanding S D L i near → Demanding S D L n near
demanding-end S D L i n near a b x = let e : i ≡ n = omega arith in subst (λ (k : ℕ). Demanding S D L k near) e x

-- ---- the constraints turned round: the first row that demands a row is the first that it demands

module _ (D : Database) where
  turned-there : (j : Constraint) (s t : ℕ) → leads D j s t ≡ true → leads D (turned_round j) t s ≡ true
  unfolding leads
  turned-there j s t e =
      let a = (and-eq-true_iff (D.live s) _).0 e in
      let b = (and-eq-true_iff (eqb (D.table s) j.source.table) _).0 a.1 in
      let w = has-Has D j.target _ t b.1 in
      let same = equal-same _ _ w.value in
      both w.live
      (both (eq-eqb _ _ w.table)
      (Has-has (record {
        live = a.0;
        table = eqb-true _ _ b.0;
        value = subst (λ (x : Cell). equal (D.cell s j.source.place) x ≡ true) (sym same) (equal-self _ (has-full w));
      })))

  leads-turned : (j : Constraint) (s t : ℕ) → leads D j s t ≡ leads D (turned_round j) t s
  leads-turned j s t = bool-ext _ _ (turned-there j s t) (turned-there (turned_round j) t s)

  -- where all rows have the same level, the nearest is the first
  nearest-first : (L : List ℕ) (p : ℕ → Bool) (b : ℕ) → ((s : ℕ) → s < 512 → level L s ≡ 1) → Nearest L p b → b ≡ first_from 512 p 0
  nearest-first L p b flat x =
      first-is 512 p 0 b
      (record {
        start = omega arith;
        bound = x.bound;
        none = λ s _ l. refute (p s) (λ q.
            let m : s < 512 = omega (arith, x.bound) in
            let y = x.least s m q (omega (arith, flat s m)) in
            omega (arith, y.2 (flat b y.0 ∙ sym (flat s m))));
        here = x.here;
      })

  pub turned-firsts : (S : Scheme) (L : List ℕ) (near : List ℕ) → ((s : ℕ) → s < 512 → level L s ≡ 1) → Demanding S D L S.constraints near → near ≡ firsts (turned S) D
  unfolding turned demanded_first
  turned-firsts S L near flat x =
      tab-of 0 8192 (λ y. demanded_first (turned S) D (y / 512) (y % 512)) near x.long (λ y l. go y l (dec_lt (y / 512) S.constraints))
    where
      go : (y : ℕ) → y < 8192 → Dec (y / 512 < S.constraints) → get_or near y 0 ≡ demanded_first (turned S) D (y / 512) (y % 512)
      go y l (yes h) =
          let e : 512 * (y / 512) + y % 512 ≡ y = omega arith in
          ap (λ (z : ℕ). get_or near z 0) (sym e) ∙ nearest-first L _ _ flat (x.row (y / 512) (y % 512) h (omega arith)) ∙
          first-same 512 _ _ 0 (λ s _ _. leads-turned (S.constraint (y / 512)) s (y % 512)) ∙
          sym (cond-true (ltb (y / 512) S.constraints) _ 512 (lt-ltb _ _ h))
      go y l (no h) = x.rest y (omega arith) l ∙ sym (cond-false (ltb (y / 512) S.constraints) _ 512 (le-ltb (y / 512) S.constraints (omega arith)))

pub ones-flat : (s : ℕ) → s < 512 → level (replicate 512 1) s ≡ 1
ones-flat s l = ap (λ (xs : List ℕ). get_or xs s 0) (replicate-tab 512 1) ∙ tab-at 0 512 (λ _. 1) s l

pub turned-scheme-firsts : (D : Database) (d : Design) (near : List ℕ) → Demanding (scheme_of d) D (replicate 512 1) d.constraints near → near ≡ firsts (turned (scheme_of d)) D
unfolding scheme_of
turned-scheme-firsts D d near x = turned-firsts D (scheme_of d) (replicate 512 1) near ones-flat x

-- ---- rows counted

module _ (m l : ℕ) where
  pub count-flat : l ≡ 0 → m ≡ cond (eqb l 0) m (m + 1)
  count-flat e = sym (cond-true (eqb l 0) m (m + 1) (eq-eqb l 0 e))

  pub count-more : (l ≡ 0 → ⊥) → m + 1 ≡ cond (eqb l 0) m (m + 1)
  count-more n = sym (cond-false (eqb l 0) m (m + 1) (ne_eqb l 0 n))
