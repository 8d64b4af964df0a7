-- Looking for the links of a row's chain: whether a constraint demands a row, the rows of each level, the lowest link from one row to the next, and the links
-- noted one after the other. Assumes nothing.
use Prim.Native.Nat.{ℕ, zero, suc, ◌+◌, ◌-◌, ◌≤◌, ◌<◌}
use native.Mathlib.Decide.{dec_lt}
use native.Mathlib.Omega.{arith}
use mathlib.Core.Path.{◌≡◌, refl, sym, ap, subst, ◌∙◌}
use mathlib.Core.Logic.{◌⊎◌, inl, inr, ⊎_elim}
use mathlib.Core.Bool.{true, false, cond, not, ◌&&◌, and-eq-true_iff}
use mathlib.Core.List.{List}
use borrow.Author.Tests.{eqb-true, eq-eqb, ne_eqb, lt-ltb, le-ltb, ltb-true, ltb-false}
use lib.Dec.{eqb, ltb}
use lib.ListN.{length, get_or, set, length-set, replicate, get_or-replicate}
use lib.Seq.{get_or-set_same, get_or-set_other}
use Rattle.finite.specs.Finite.{any, first, tab}
use Rattle.finite.proofs.Bools.{both, clash, refute, same_number, cond-true, cond-false, cond-case, and-go, and-stop, and_left, and_right}
use Rattle.finite.proofs.Tables.{tab-at}
use Rattle.finite.proofs.Search.{any-true, any_found, any-refuted}
use Rattle.finite.proofs.First.{First, first-from, first-is, first-here, first-skip, first-same, first_past}
use Rattle.model.specs.Cell as Model
use Rattle.model.specs.Cell.{equal, is_blank}
use Rattle.model.specs.Scheme.{Constraint, Scheme}
use Rattle.model.specs.Database.{Database, has}
use Rattle.model.specs.Rounds.{leads, level}
use Rattle.model.specs.Reason.{is_link, last_constraint, last_row}
use Rattle.state.specs.declared.cell.Cell as State
use Rattle.state.specs.declared.design.Constraint as State-constraint
use Rattle.state.specs.declared.design.Design.{Design}
use Rattle.state.specs.Cells.{Cells}
use Rattle.state.specs.Design.{InRange, no_constraint}
use Rattle.state.specs.Meaning.{cell_at, cell_of, constraint_of, database_of, scheme_of}
use Rattle.state.proofs.RowLaws.{has-at}
use Rattle.reason.specs.declared.linking.Link.{Link}
use Rattle.reason.specs.Links.{Below, Chained, Graded, LowestLink, Ranked, Traceable, lower_link, of_level}

-- ---- whether constraint j demands row r of row s

equal-apart : (a b : Model.Cell) → (a.number ≡ b.number → ⊥) → equal a b ≡ false
unfolding equal
equal-apart a b n =
    and_right (not (is_blank a)) (eqb a.number b.number && eqb a.issue b.issue)
    (and_left (eqb a.number b.number) (eqb a.issue b.issue) (ne_eqb a.number b.number n))

module _ (cells : Cells) (tables : List ℕ) (j : Constraint) (s r : ℕ) (l : r < 512) (p : j.source.place < 8) (q : j.target.place < 8) where
  abbrev B : Database
  B = database_of cells tables

  abbrev source : State.Cell
  source = cell_at cells s j.source.place

  leads-at : leads B j s r ≡ B.live s && (eqb (get_or tables s 0) j.source.table && has B j.target (cell_of source) r)
  unfolding leads database_of
  leads-at = rw (lt-ltb j.source.place 8 p)

  -- the numbers of the two cells differ
  pub leads-apart : (source.number ≡ (cell_at cells r j.target.place).number → ⊥) → false ≡ leads B j s r
  leads-apart n =
      let e = equal-apart (cell_of (cell_at cells r j.target.place)) (cell_of source) (λ h. n (sym h)) in
      let x = equal (cell_of (cell_at cells r j.target.place)) (cell_of source) in
      let y = eqb (get_or tables r 0) j.target.table in
      let z = has-at cells tables j.target (cell_of source) r l q ∙ and_right (B.live r) (y && x) (and_right y x e) in
      sym
      (leads-at ∙
      and_right (B.live s) (eqb (get_or tables s 0) j.source.table && has B j.target (cell_of source) r)
      (and_right (eqb (get_or tables s 0) j.source.table) (has B j.target (cell_of source) r) z))

  -- number s has no row
  pub leads-absent : B.live s ≡ false → false ≡ leads B j s r
  leads-absent h = and-stop _ _ h ∙ sym leads-at

  module _ (h : B.live s ≡ true) where
    -- it is of another table
    pub leads-elsewhere : (get_or tables s 0 ≡ j.source.table → ⊥) → false ≡ leads B j s r
    leads-elsewhere t = and-go _ _ h (and-stop _ _ (ne_eqb _ _ t)) ∙ sym leads-at

    -- row r has its value x or not
    pub leads-value : (x : State.Cell) → x ≡ source → get_or tables s 0 ≡ j.source.table → has B j.target (cell_of x) r ≡ leads B j s r
    leads-value x e t = ap (λ (y : State.Cell). has B j.target (cell_of y) r) e ∙ and-go _ _ h (and-go _ _ (eq-eqb _ _ t) refl) ∙ sym leads-at

-- ---- the rows of each level

-- the levels below m, row by row
pub below-made : (L : List ℕ) (m : ℕ) (K : List ℕ) → K ≡ tab 512 (λ s. cond (ltb (level L s) m) (level L s) 0) → Below L m K
below-made L m K e = record { at = λ s h. ap (λ (xs : List ℕ). get_or xs s 0) e ∙ tab-at 0 512 (λ s. cond (ltb (level L s) m) (level L s) 0) s h }

module _ (L : List ℕ) (m : ℕ) (K : List ℕ) (w : Below L m K) where
  -- a row of a level below m keeps it
  below-kept : (s : ℕ) → s < 512 → level L s < m → level K s ≡ level L s
  below-kept s h l = w.at s h ∙ cond-true (ltb (level L s) m) (level L s) 0 (lt-ltb (level L s) m l)

  -- and another has 0
  below_none : (s : ℕ) → s < 512 → m ≤ level L s → level K s ≡ 0
  below_none s h l = w.at s h ∙ cond-false (ltb (level L s) m) (level L s) 0 (le-ltb (level L s) m l)

  pub below-bound : (s : ℕ) → s < 512 → level K s < m + 1
  below-bound s h = go (dec_lt (level L s) m)
    where
      go : Dec (level L s < m) → level K s < m + 1
      go (yes l) = omega (arith, below-kept s h l)
      go (no l) = omega (arith, below_none s h (omega arith))

  -- the same rows have a level from 1 on and below m
  below-test : (l : ℕ) → 0 < l → l < m → (t : ℕ) → t < 512 → eqb (level K t) l ≡ eqb (level L t) l
  below-test l o g t h = go (dec_lt (level L t) m)
    where
      go : Dec (level L t < m) → eqb (level K t) l ≡ eqb (level L t) l
      go (yes x) = ap (λ (y : ℕ). eqb y l) (below-kept t h x)
      go (no x) =
          ne_eqb (level K t) l (λ e. omega (arith, below_none t h (omega arith))) ∙ sym (ne_eqb (level L t) l (λ e. omega arith))

  below-same : (l : ℕ) → 0 < l → l < m → (s : ℕ) → of_level K l s ≡ of_level L l s
  below-same l o g s = first-same 512 _ _ s (λ t _ h. below-test l o g t h)

  pub ranked-below : (n : ℕ) (heads next : List ℕ) → m ≤ n → Ranked K n heads next → Ranked L m heads next
  ranked-below n heads next f x = record { head = λ l o g. x.head l o (omega arith) ∙ below-same l o g 0; after = there }
    where
      there : (s : ℕ) → s < 512 → 0 < level L s → level L s < m → get_or next s 0 ≡ of_level L (level L s) (s + 1)
      there s h o g =
          let e = below-kept s h g in
          x.after s h (omega (arith, e)) (omega (arith, e)) ∙ ap (λ (l : ℕ). of_level K l (s + 1)) e ∙ below-same (level L s) o g (s + 1)

-- the rows from q on are listed
pub record RankedFrom (K : List ℕ) (q : ℕ) (heads next : List ℕ) : Type 0 where
  pub wide : length heads ≡ 514
  pub long : length next ≡ 512
  pub head : (l : ℕ) → 0 < l → l < 514 → get_or heads l 0 ≡ of_level K l q
  pub after : (s : ℕ) → q ≤ s → s < 512 → 0 < level K s → get_or next s 0 ≡ of_level K (level K s) (s + 1)

module _ (K : List ℕ) where
  pub ranked-none : (heads next : List ℕ) → length heads ≡ 514 → length next ≡ 512 → heads ≡ replicate 514 512 → RankedFrom K 512 heads next
  ranked-none heads next a b e =
      record {
        wide = a;
        long = b;
        head =
            λ l o g. ap (λ (xs : List ℕ). get_or xs l 0) e ∙ get_or-replicate 514 l 512 0 g ∙ sym (first_past 512 (λ t. eqb (level K t) l) 512 (omega arith));
        after = λ s h g o. absurd (omega arith);
      }

  -- the rows from s on are listed: that before them is row q
  module _ (s : ℕ) (f : 0 < s) (b : s ≤ 512) (heads next : List ℕ) (r : RankedFrom K s heads next) where
    abbrev q : ℕ
    q = s - 1

    h : q < 512
    h = omega arith

    x : RankedFrom K (q + 1) heads next
    x = let e : s ≡ s - 1 + 1 = omega arith in subst (λ (z : ℕ). RankedFrom K z heads next) e r

    -- it has no level
    pub ranked-past : level K q ≡ 0 → RankedFrom K q heads next
    ranked-past z =
        record {
          wide = x.wide;
          long = x.long;
          head = λ l o g. x.head l o g ∙ sym (first-skip 512 (λ t. eqb (level K t) l) q (ne_eqb (level K q) l (λ e. omega arith)));
          after = λ s a b o. there s a b o (same_number q s);
        }
      where
        there : (s : ℕ) → q ≤ s → s < 512 → 0 < level K s → (q ≡ s) ⊎ (q ≡ s → ⊥) → get_or next s 0 ≡ of_level K (level K s) (s + 1)
        there s a b o (inl e) = absurd (omega (arith, ap (level K) e))
        there s a b o (inr n) = x.after s (omega arith) b o

    -- it goes before the rows of its level
    module _ (l : ℕ) (e : l ≡ level K q) (o : 0 < l) (g : l < 514) where
      pub ranked-more : RankedFrom K q (set heads l q) (set next q (get_or heads l 0))
      ranked-more =
          record {
            wide = length-set heads l q ∙ x.wide;
            long = length-set next q (get_or heads l 0) ∙ x.long;
            head = λ m u v. first m u v (same_number m l);
            after = λ s a b c. behind s a b c (same_number s q);
          }
        where
          first : (m : ℕ) → 0 < m → m < 514 → (m ≡ l) ⊎ (m ≡ l → ⊥) → get_or (set heads l q) m 0 ≡ of_level K m q
          first m u v (inl w) =
              ap (λ (y : ℕ). get_or (set heads l q) y 0) w ∙ get_or-set_same heads l q 0 (omega (arith, x.wide)) ∙
              sym (first-here 512 (λ t. eqb (level K t) m) q h (eq-eqb _ _ (sym e ∙ sym w)))
          first m u v (inr n) =
              get_or-set_other heads l m q 0 n ∙ x.head m u v ∙
              sym (first-skip 512 (λ t. eqb (level K t) m) q (ne_eqb (level K q) m (λ w. n (sym w ∙ sym e))))

          behind : (s : ℕ) → q ≤ s → s < 512 → 0 < level K s → (s ≡ q) ⊎ (s ≡ q → ⊥) → get_or (set next q (get_or heads l 0)) s 0 ≡ of_level K (level K s) (s + 1)
          behind s a b c (inl w) =
              ap (λ (y : ℕ). get_or (set next q (get_or heads l 0)) y 0) w ∙ get_or-set_same next q (get_or heads l 0) 0 (omega (arith, x.long)) ∙ x.head l o g ∙
              (let u : l ≡ level K s = e ∙ ap (level K) (sym w) in let v : q + 1 ≡ s + 1 = omega arith in ap (λ (y : ℕ). of_level K y (q + 1)) u ∙ ap (of_level K (level K s)) v)
          behind s a b c (inr n) = get_or-set_other next q s (get_or heads l 0) 0 n ∙ x.after s (omega arith) b c

  pub ranked-end : (q : ℕ) (heads next : List ℕ) → q ≤ 0 → RankedFrom K q heads next → Ranked K 514 heads next
  ranked-end q heads next z x =
      let e : q ≡ 0 = omega arith in
      record { head = λ l o g. x.head l o g ∙ ap (of_level K l) e; after = λ s h o _. x.after s (omega arith) h o }

-- ---- from one row of a level to the next: the lowest link of row r, which is n + 1 constraints away from what is held

module _ (S : Scheme) (D : Database) (L : List ℕ) (n r : ℕ) where
  -- a link comes from a row n constraints away
  link-level : (i s : ℕ) → is_link S D L n r i s ≡ true → level L s ≡ n + 2
  unfolding is_link
  link-level i s e = omega (arith, eqb-true (level L s) (suc (suc n)) ((and-eq-true_iff (eqb (level L s) (suc (suc n))) (leads D (S.constraint i) s r)).0 e).0)

  link-leads : (i s : ℕ) → is_link S D L n r i s ≡ true → leads D (S.constraint i) s r ≡ true
  unfolding is_link
  link-leads i s e = ((and-eq-true_iff (eqb (level L s) (suc (suc n))) (leads D (S.constraint i) s r)).0 e).1

  leads-link : (i s : ℕ) → level L s ≡ n + 2 → leads D (S.constraint i) s r ≡ true → is_link S D L n r i s ≡ true
  unfolding is_link
  leads-link i s e h = both (eq-eqb (level L s) (suc (suc n)) (omega arith)) h

  -- there is none from the rows before the first of them
  pub lowest-none : (s t : ℕ) → s ≡ of_level L (n + 2) 0 → LowestLink S D L n r s S.constraints t
  lowest-none s t e =
      let f = first-from 512 (λ t. eqb (level L t) (n + 2)) 0 (omega arith) in
      record {
        few = omega arith;
        here = λ h. absurd (omega arith);
        least = λ j u a b c. clash (eq-eqb (level L u) (n + 2) (link-level j u c)) (f.none u (omega arith) (omega (arith, e)));
      }

  -- row s is of their level, and the next of it is t; the lowest so far is by constraint i, and x is the lowest below i that demands row r of row s
  module _ (s t i v x : ℕ) (h : s < 512) (e : level L s ≡ n + 2) (w : LowestLink S D L n r s i v) (f : t ≡ of_level L (n + 2) (s + 1))
      (y : x ≡ first i (λ j. leads D (S.constraint j) s r)) where
    found : First i (λ j. leads D (S.constraint j) s r) 0 x
    found = subst (First i (λ j. leads D (S.constraint j) s r) 0) (sym y) (first-from i (λ j. leads D (S.constraint j) s r) 0 (omega arith))

    onward : First 512 (λ u. eqb (level L u) (n + 2)) (s + 1) t
    onward = subst (First 512 (λ u. eqb (level L u) (n + 2)) (s + 1)) (sym f) (first-from 512 (λ u. eqb (level L u) (n + 2)) (s + 1) (omega arith))

    -- a link from a row below t comes from one below s, or from s
    before : (j u : ℕ) → u < t → is_link S D L n r j u ≡ true → (u < s) ⊎ (u ≡ s)
    before j u b c = go (dec_lt u s) (dec_lt s u)
      where
        go : Dec (u < s) → Dec (s < u) → (u < s) ⊎ (u ≡ s)
        go (yes l) g = inl l
        go (no l) (yes g) = clash (eq-eqb (level L u) (n + 2) (link-level j u c)) (onward.none u (omega arith) b)
        go (no l) (no g) = inr (omega arith)

    -- it is no lower
    pub lowest-kept : i ≤ x → LowestLink S D L n r t i v
    lowest-kept l =
        record {
          few = w.few;
          here = λ g. let z = w.here g in (omega (arith, z.0, onward.start), z.1);
          least = λ j u a b c. ⊎_elim (λ k. w.least j u a k c) (λ k. hit j u a c k) (before j u b c);
        }
      where
        hit : (j u : ℕ) → j < S.constraints → is_link S D L n r j u ≡ true → u ≡ s → (i ≤ j) × (i ≡ j → v ≤ u)
        hit j u a c k = go (dec_lt j i)
          where
            go : Dec (j < i) → (i ≤ j) × (i ≡ j → v ≤ u)
            go (yes g) = clash (subst (λ (z : ℕ). leads D (S.constraint j) z r ≡ true) k (link-leads j u c)) (found.none j (omega arith) (omega arith))
            go (no g) = (omega arith, λ q. let z = w.here (omega arith) in omega (arith, z.0))

    -- it is
    pub lowest-lower : x < i → LowestLink S D L n r t x s
    lowest-lower l =
        record {
          few = omega (arith, w.few);
          here = λ _. (omega (arith, onward.start), leads-link x s e (found.here l));
          least = λ j u a b c. ⊎_elim (λ k. let z = w.least j u a k c in (omega (arith, z.0), λ q. absurd (omega (arith, z.0)))) (λ k. hit j u c k) (before j u b c);
        }
      where
        hit : (j u : ℕ) → is_link S D L n r j u ≡ true → u ≡ s → (x ≤ j) × (x ≡ j → s ≤ u)
        hit j u c k = go (dec_lt j x)
          where
            go : Dec (j < x) → (x ≤ j) × (x ≡ j → s ≤ u)
            go (yes g) = clash (subst (λ (z : ℕ). leads D (S.constraint j) z r ≡ true) k (link-leads j u c)) (found.none j (omega arith) g)
            go (no g) = (omega arith, λ q. omega arith)

  -- from all rows there is one, and it is the last link
  module _ (z : D.size ≡ 512) (g : Graded S D L) (e : level L r ≡ n + 3) (t i v : ℕ) (h : 512 ≤ t) (b : t ≤ 512) (w : LowestLink S D L n r t i v) where
    some : any S.constraints (λ j. any D.size (is_link S D L n r j)) ≡ true
    some = g.link r n (omega arith)

    within : i < S.constraints
    within =
        let f = any_found S.constraints (λ j. any D.size (is_link S D L n r j)) some in
        let q = any_found D.size (is_link S D L n r f.0) f.2 in
        let m = w.least f.0 q.0 f.1 (omega (arith, q.1)) q.2 in
        omega (arith, m.0, f.1)

    pub lowest-constraint : i ≡ last_constraint S D L n r
    unfolding last_constraint
    lowest-constraint =
        first-is S.constraints (λ j. any D.size (is_link S D L n r j)) 0 i
        (record {
          start = omega arith;
          bound = w.few;
          none = λ j _ l. any-refuted D.size (is_link S D L n r j) (λ u k. refute (is_link S D L n r j u) (λ q. let m = w.least j u (omega (arith, w.few)) (omega (arith, k)) q in omega (arith, m.0)));
          here = λ k. let x = w.here k in any-true D.size (is_link S D L n r i) v (omega (arith, x.0)) x.1;
        })

    pub lowest-row : v ≡ last_row S D L n r
    unfolding last_row
    lowest-row =
        first-is D.size (is_link S D L n r i) 0 v
        (record {
          start = omega arith;
          bound = omega (arith, (w.here within).0);
          none = λ u _ l. refute (is_link S D L n r i u) (λ q. let m = w.least i u within (omega (arith, (w.here within).0)) q in omega (arith, m.1 refl));
          here = λ _. (w.here within).1;
        }) ∙ ap (λ (x : ℕ). first D.size (is_link S D L n r x)) lowest-constraint

-- the lower of the lowest so far and the one from row s, whichever it is
lowest-next : (S : Scheme) (D : Database) (L : List ℕ) (n r s t x : ℕ) (best k : Link) → k ≡ lower_link best x s → s < 512 → level L s ≡ n + 2 →
    LowestLink S D L n r s best.constraint best.row → t ≡ of_level L (n + 2) (s + 1) → x ≡ first best.constraint (λ j. leads D (S.constraint j) s r) →
    LowestLink S D L n r t k.constraint k.row
unfolding lower_link
lowest-next S D L n r s t x best k c h e w f y =
    subst (λ (m : Link). LowestLink S D L n r t m.constraint m.row) (sym c)
    (cond-case (λ (m : Link). LowestLink S D L n r t m.constraint m.row) (ltb x best.constraint) (record { constraint = x; row = s }) best
    (λ l. lowest-lower S D L n r s t best.constraint best.row x h e w f y (ltb-true x best.constraint l))
    (λ l. lowest-kept S D L n r s t best.constraint best.row x h e w f y (ltb-false x best.constraint l)))

-- the next row of a level
pub of-level : (L : List ℕ) (l s t : ℕ) → s ≤ 512 → t ≡ of_level L l s → (t ≤ 512) × (t < 512 → level L t ≡ l) × (s ≤ t)
of-level L l s t h e =
    let f = subst (First 512 (λ u. eqb (level L u) l) s) (sym e) (first-from 512 (λ u. eqb (level L u) l) s h) in
    (f.bound, λ g. eqb-true (level L t) l (f.here g), f.start)

module _ (L : List ℕ) (m : ℕ) (heads next : List ℕ) (x : Ranked L m heads next) where
  pub ranked-next : (l s t : ℕ) → s < 512 → level L s ≡ l → 0 < l → l < m → t ≡ get_or next s 0 → t ≡ of_level L l (s + 1)
  ranked-next l s t h e o g q = q ∙ x.after s h (omega arith) (omega arith) ∙ ap (λ (y : ℕ). of_level L y (s + 1)) e

  pub ranked-fewer : (k : ℕ) → k ≤ m → Ranked L k heads next
  ranked-fewer k h = record { head = λ l o g. x.head l o (omega arith); after = λ s b o g. x.after s b o (omega arith) }

-- the same of a design, whose constraints are cs
module _ (d : Design) (cs : List State-constraint.Constraint) (c : cs ≡ d.constraint) where
  pub places-within : InRange d → (i : ℕ) → ((get_or cs i no_constraint).source.place < 8) × ((get_or cs i no_constraint).target.place < 8)
  places-within w i =
      subst (λ (xs : List State-constraint.Constraint). ((get_or xs i no_constraint).source.place < 8) × ((get_or xs i no_constraint).target.place < 8)) (sym c) (w.source i, w.target i)

  module _ (D : Database) (L : List ℕ) (n r : ℕ) where
    pub design-none : (s : ℕ) (b : Link) → b.constraint ≡ d.constraints → s ≡ of_level L (n + 2) 0 → LowestLink (scheme_of d) D L n r s b.constraint b.row
    unfolding scheme_of
    design-none s b e f = subst (λ (i : ℕ). LowestLink (scheme_of d) D L n r s i b.row) (sym e) (lowest-none (scheme_of d) D L n r s b.row f)

    pub design-few : (s i v : ℕ) → LowestLink (scheme_of d) D L n r s i v → i ≤ d.constraints
    unfolding scheme_of
    design-few s i v w = w.few

    pub design-next : (s t x : ℕ) (best k : Link) → k ≡ lower_link best x s → s < 512 → level L s ≡ n + 2 →
        LowestLink (scheme_of d) D L n r s best.constraint best.row → t ≡ of_level L (n + 2) (s + 1) →
        x ≡ first best.constraint (λ j. leads D (constraint_of (get_or cs j no_constraint)) s r) → LowestLink (scheme_of d) D L n r t k.constraint k.row
    unfolding scheme_of
    design-next s t x best k e h l w f y =
        lowest-next (scheme_of d) D L n r s t x best k e h l w f
        (y ∙ ap (λ (xs : List State-constraint.Constraint). first best.constraint (λ j. leads D (constraint_of (get_or xs j no_constraint)) s r)) c)

pub scheme-count : (d : Design) → (scheme_of d).constraints ≡ d.constraints
unfolding scheme_of
scheme-count d = refl

-- what the links are read off, of a design
pub traceable : (d : Design) (D : Database) (L by from : List ℕ) (n r : ℕ) → InRange d → D.size ≡ 512 → Graded (scheme_of d) D L → level L r ≡ n + 2 →
    Chained (scheme_of d) D L by from n r → Traceable (scheme_of d) D L by from n r
traceable d D L by from n r w z g e x = record { few = omega (arith, scheme-count d, w.constraints); size_is = z; graded = g; away = e; links = x }

-- ---- the links noted one after the other

module _ (S : Scheme) (D : Database) (L : List ℕ) where
  chained-none : (by from : List ℕ) (k s : ℕ) → k ≤ 0 → Chained S D L by from k s
  unfolding Chained
  chained-none by from zero s h = tt
  chained-none by from (suc k) s h = absurd (omega arith)

  chained_more : (by from : List ℕ) (k s t : ℕ) → 0 < k → get_or by k 0 ≡ last_constraint S D L (k - 1) s → get_or from k 0 ≡ t → t ≡ last_row S D L (k - 1) s →
      Chained S D L by from (k - 1) t → Chained S D L by from k s
  unfolding Chained
  chained_more by from zero s t o a b c x = absurd (omega arith)
  chained_more by from (suc k) s t o a b c x =
      let e : suc k - 1 ≡ k = omega arith in
      let d = c ∙ ap (λ (m : ℕ). last_row S D L m s) e in (
        a ∙ ap (λ (m : ℕ). last_constraint S D L m s) e,
        b ∙ d,
        subst (Chained S D L by from k) d (subst (λ (m : ℕ). Chained S D L by from m t) e x),
      )

  pub chained-last : (by from : List ℕ) (k s : ℕ) → (k ≡ 0 → ⊥) → Chained S D L by from k s →
      (get_or by k 0 ≡ last_constraint S D L (k - 1) s) × (get_or from k 0 ≡ last_row S D L (k - 1) s) × Chained S D L by from (k - 1) (last_row S D L (k - 1) s)
  unfolding Chained
  chained-last by from zero s o x = absurd (o refl)
  chained-last by from (suc k) s o x =
      let e : k ≡ suc k - 1 = omega arith in
      subst (λ (m : ℕ). (get_or by (suc k) 0 ≡ last_constraint S D L m s) × (get_or from (suc k) 0 ≡ last_row S D L m s) × Chained S D L by from m (last_row S D L m s)) e x

-- the links of row r down to distance k are noted, and row s stands there: with the rest they are its chain
pub record Noted (S : Scheme) (D : Database) (L : List ℕ) (n r : ℕ) (by from : List ℕ) (k s : ℕ) : Type 0 where
  pub few : k ≤ n
  pub row : s < 512
  pub away : level L s ≡ k + 2
  pub wide : length by ≡ 512
  pub long : length from ≡ 512
  pub rest : (bs fs : List ℕ) → ((x : ℕ) → k < x → get_or bs x 0 ≡ get_or by x 0) → ((x : ℕ) → k < x → get_or fs x 0 ≡ get_or from x 0) →
      Chained S D L bs fs k s → Chained S D L bs fs n r

module _ (S : Scheme) (D : Database) (L : List ℕ) (n r : ℕ) where
  pub noted-start : (by from : List ℕ) → r < 512 → level L r ≡ n + 2 → length by ≡ 512 → length from ≡ 512 → Noted S D L n r by from n r
  noted-start by from h e a b = record { few = omega arith; row = h; away = e; wide = a; long = b; rest = λ bs fs u v x. x }

  module _ (by from : List ℕ) (k s : ℕ) (w : Noted S D L n r by from k s) where
    pub noted_more : (i t : ℕ) → 0 < k → k < 512 → i ≡ last_constraint S D L (k - 1) s → t ≡ last_row S D L (k - 1) s → t < 512 → level L t ≡ k - 1 + 2 →
        Noted S D L n r (set by k i) (set from k t) (k - 1) t
    noted_more i t o h a b c e =
        record {
          few = omega (arith, w.few);
          row = c;
          away = e;
          wide = length-set by k i ∙ w.wide;
          long = length-set from k t ∙ w.long;
          rest = λ bs fs u v x.
              w.rest bs fs
              (λ y l. u y (omega arith) ∙ get_or-set_other by k y i 0 (λ q. omega arith))
              (λ y l. v y (omega arith) ∙ get_or-set_other from k y t 0 (λ q. omega arith))
              (chained_more S D L bs fs k s t o
              (u k (omega arith) ∙ get_or-set_same by k i 0 (omega (arith, w.wide)) ∙ a)
              (v k (omega arith) ∙ get_or-set_same from k t 0 (omega (arith, w.long)))
              b x);
        }

    pub noted-end : k ≤ 0 → Chained S D L by from n r
    noted-end z = w.rest by from (λ x _. refl) (λ x _. refl) (chained-none S D L by from k s z)
