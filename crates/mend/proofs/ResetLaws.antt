-- The first rows that one constraint demands: a walk that stores one with each row of a value, and what a row that comes or goes leaves of them. Assumes nothing.
use Prim.Native.Nat.{ℕ, ◌+◌, ◌*◌, ◌/◌, ◌%◌, ◌≤◌, ◌<◌}
use native.Mathlib.Decide.{dec_lt}
use native.Mathlib.Omega.{arith}
use mathlib.Core.Path.{◌≡◌, refl, sym, ap, ap₂, subst, ◌∙◌}
use mathlib.Core.Bool.{Bool, true, false, cond, ◌&&◌, and-eq-true_iff}
use mathlib.Core.List.{List}
use mathlib.Core.Logic.{◌⊎◌, inl, inr}
use borrow.Author.Tests.{lt-ltb, le-ltb, eq-eqb, eqb-true}
use lib.Dec.{eqb, ltb}
use lib.ListN.{length, get_or, set, length-set}
use lib.Seq.{get_or-set_same, get_or-set_other}
use Rattle.finite.specs.Finite.{first_from}
use Rattle.finite.proofs.Bools.{dec, clash, refute, same_number, and_left, and_right, cond-true, cond-false}
use Rattle.finite.proofs.First.{first-none, first-same, first-from}
use Rattle.finite.proofs.Tables.{tab-at, tab-of, Upto, upto-set}
use Rattle.model.specs.Cell.{Cell}
use Rattle.model.specs.Scheme as Model
use Rattle.model.specs.Scheme.{Scheme}
use Rattle.model.specs.Database.{Database, has}
use Rattle.model.specs.Rounds.{leads}
use Rattle.model.proofs.CellLaws.{equal-self}
use Rattle.model.proofs.DatabaseLaws.{has-Has, Has-has, has-full}
use Rattle.state.specs.Cells.{Cells}
use Rattle.state.specs.declared.cell.Cell as State
use Rattle.state.specs.Meaning.{cell_of, cell_at, database_of}
use Rattle.state.proofs.RowLaws.{cell-at}
use Rattle.catalog.specs.Catalog.{demanded_first, firsts, part, first_in, Links, Indexed}
use Rattle.mend.specs.Changing.{Without}
use Rattle.mend.specs.Resetting.{Only, Firsts, Reset, Leads, Redemanded}
use Rattle.mend.proofs.BesideLaws.{first-near, has-beside, has-free}
use Rattle.catalog.proofs.CatalogLaws.{has-table, has-cell}
use Rattle.catalog.proofs.PartLaws.{part-long, part_at}
use Rattle.mend.proofs.RelinkLaws.{part-kept, directory-kept}
use Rattle.catalog.proofs.Rows.{table-at, elsewhere-at}
use Rattle.finite.proofs.Walks.{walk-upto}

-- ---- stores

-- an element of a part is stored
pub part-set : (a n : ℕ) (xs : List ℕ) (i v : ℕ) → i < n → a + n ≤ length xs → part a n (set xs (a + i) v) ≡ set (part a n xs) i v
unfolding part
part-set a n xs i v l b = sym (tab-of 0 n _ (set (part a n xs) i v) (length-set (part a n xs) i v ∙ part-long a n xs) (λ j h. at j h (same_number j i)))
  where
    at : (j : ℕ) → j < n → (j ≡ i) ⊎ (j ≡ i → ⊥) → get_or (set (part a n xs) i v) j 0 ≡ get_or (set xs (a + i) v) (a + j) 0
    at j h (inl e) =
        ap (λ (z : ℕ). get_or (set (part a n xs) i v) z 0) e ∙ get_or-set_same (part a n xs) i v 0 (omega (arith, part-long a n xs))
        ∙ sym (ap (λ (z : ℕ). get_or (set xs (a + i) v) (a + z) 0) e ∙ get_or-set_same xs (a + i) v 0 (omega arith))
    at j h (inr ne) =
        get_or-set_other (part a n xs) i j v 0 ne ∙ part_at a n xs j h ∙ sym (get_or-set_other xs (a + i) (a + j) v 0 (λ e. ne (omega arith)))

module _ (i : ℕ) (xs : List ℕ) where
  pub only_same : Only i xs xs
  only_same = record { long = refl; before = λ x l. refl; behind = λ x l. refl }

  pub only_set : (s v : ℕ) (ys : List ℕ) → s < 512 → Only i xs ys → Only i xs (set ys (4096 + 512 * i + s) v)
  only_set s v ys l o =
      record {
        long = length-set ys (4096 + 512 * i + s) v ∙ o.long;
        before = λ x h. get_or-set_other ys (4096 + 512 * i + s) x v 0 (λ e. omega arith) ∙ o.before x h;
        behind = λ x h. get_or-set_other ys (4096 + 512 * i + s) x v 0 (λ e. omega arith) ∙ o.behind x h;
      }

-- the links and the directory stay
module _ (D : Database) (xs ys : List ℕ) (long : length ys ≡ length xs) (before : (x : ℕ) → x < 4096 → get_or ys x 0 ≡ get_or xs x 0) where
  pub links-kept : Links D xs → Links D ys
  links-kept l = record { long = long ∙ l.long; size_is = l.size_is; next-is = part-kept 0 4096 xs ys (λ i h. before (0 + i) (omega arith)) ∙ l.next-is }

  pub indexed-kept : (keys : List ℕ) → ((x : ℕ) → 12288 ≤ x → get_or ys x 0 ≡ get_or xs x 0) → Indexed D xs keys → Indexed D ys keys
  indexed-kept keys behind x = record { links = links-kept x.links; directory = directory-kept D keys xs ys behind x.directory }

pub only-links : (D : Database) (i : ℕ) (xs ys : List ℕ) → Only i xs ys → Links D xs → Links D ys
only-links D i xs ys o l = links-kept D xs ys o.long (λ x h. o.before x (omega arith)) l

pub only-indexed : (D : Database) (i : ℕ) (xs ys keys : List ℕ) → i < 16 → Only i xs ys → Indexed D xs keys → Indexed D ys keys
only-indexed D i xs ys keys b o x = indexed-kept D xs ys o.long (λ z h. o.before z (omega arith)) keys (λ z h. o.behind z (omega arith)) x

-- ---- the walk along the rows that pass p: those below s have f

module _ (p : ℕ → Bool) (f a : ℕ) (xs : List ℕ) where
  abbrev new : ℕ → ℕ
  new t = cond (p t) f (get_or xs (a + t) 0)

  abbrev old : ℕ → ℕ
  old t = get_or xs (a + t) 0

  kept : (t : ℕ) → t < 512 → p t ≡ false → old t ≡ new t
  kept t _ e = sym (cond-false (p t) f (get_or xs (a + t) 0) e)

  pub reset-start : (s : ℕ) → s ≡ first_from 512 p 0 → Upto 0 512 s new old (part a 512 xs)
  reset-start s e =
      walk-upto p 0 s (omega arith) e 0 512 new old (part a 512 xs) kept
      (record { long = part-long a 512 xs; at = λ t l. part_at a 512 xs t l ∙ sym (cond-false (ltb t 0) (new t) (old t) (le-ltb t 0 (omega arith))) })

  pub reset-turn : (s n : ℕ) (ys : List ℕ) → s < 512 → a + 512 ≤ length ys → p s ≡ true → n ≡ first_from 512 p (s + 1) → Upto 0 512 s new old (part a 512 ys)
      → Upto 0 512 n new old (part a 512 (set ys (a + s) f))
  reset-turn s n ys l b h e u =
      walk-upto p (s + 1) n (omega arith) e 0 512 new old (part a 512 (set ys (a + s) f)) kept
      (subst (Upto 0 512 (s + 1) new old) (sym (part-set a 512 ys s f l b)) (upto-set 0 512 s new old (part a 512 ys) u l f (sym (cond-true (p s) f (get_or xs (a + s) 0) h))))

  pub reset-end : (s : ℕ) (ys : List ℕ) → 512 ≤ s → Upto 0 512 s new old (part a 512 ys) → (t : ℕ) → t < 512 → get_or ys (a + t) 0 ≡ cond (p t) f (get_or xs (a + t) 0)
  reset-end s ys g u t l = sym (part_at a 512 ys t l) ∙ u.at t l ∙ cond-true (ltb t s) (new t) (old t) (lt-ltb t s (omega arith))

module _ (D : Database) (j : Model.Constraint) (i : ℕ) (v : Cell) (r : ℕ) (xs : List ℕ) (f : ℕ) (e : f ≡ first_from 512 (has D j.target v) 0) where
  pub reset-before : f < r → Reset D j i v r xs xs
  reset-before l = record { before = λ _ t k. refl; at = λ g. absurd (omega arith) }

  pub reset-made : r ≤ f → (ys : List ℕ) → ((t : ℕ) → t < 512 → get_or ys (4096 + 512 * i + t) 0 ≡ cond (has D j.source v t) f (get_or xs (4096 + 512 * i + t) 0))
      → Reset D j i v r xs ys
  reset-made g ys h =
      record {
        before = λ l. absurd (omega arith);
        at = λ _ t l. h t l ∙ ap (λ (n : ℕ). cond (has D j.source v t) n (get_or xs (4096 + 512 * i + t) 0)) e;
      }

-- ---- what a constraint j demands of row s

module _ (j : Model.Constraint) (s : ℕ) where
  -- the row has v in the source column
  pub leads-value : (D : Database) (v : Cell) → has D j.source v s ≡ true → first_from 512 (leads D j s) 0 ≡ first_from 512 (has D j.target v) 0
  unfolding leads
  leads-value D v h = first-same 512 (leads D j s) (has D j.target v) 0 (λ r _ _. same r)
    where
      same : (r : ℕ) → D.live s && (eqb (D.table s) j.source.table && has D j.target (D.cell s j.source.place) r) ≡ has D j.target v r
      same r =
          ap (λ (b : Bool). b && (eqb (D.table s) j.source.table && has D j.target (D.cell s j.source.place) r)) (has-Has D j.source v s h).live
          ∙ ap (λ (b : Bool). b && has D j.target (D.cell s j.source.place) r) (eq-eqb _ _ (has-table D j.source v s h))
          ∙ ap (λ (a : Cell). has D j.target a r) (has-cell D j.source v s h)

  -- there is no row
  pub leads-none : (D : Database) → D.live s ≡ false → 512 ≡ first_from 512 (leads D j s) 0
  unfolding leads
  leads-none D h = sym (first-none 512 (leads D j s) 0 (λ r _ _. and_left (D.live s) _ h))

  -- where row r is not among what is demanded, it makes no difference
  module _ (E F : Database) (r : ℕ) (w : Without E F r) (ne : s ≡ r → ⊥) where
    abbrev v : Cell
    v = F.cell r j.target.place

    leads-beside : (q : ℕ) → (q ≡ r → ⊥) → leads E j s q ≡ leads F j s q
    unfolding leads
    leads-beside q nq =
        ap₂ (λ (b : Bool) (t : ℕ). b && (eqb t j.source.table && has E j.target (E.cell s j.source.place) q)) (w.live s ne) (w.table s ne)
        ∙ ap (λ (a : Cell). F.live s && (eqb (F.table s) j.source.table && has E j.target a q)) (w.cell s j.source.place ne)
        ∙ ap (λ (b : Bool). F.live s && (eqb (F.table s) j.source.table && b)) (has-beside E F r w j.target (F.cell s j.source.place) q nq)

    leads-free : leads E j s r ≡ false
    unfolding leads
    leads-free = and_right (E.live s) _ (and_right (eqb (E.table s) j.source.table) _ (has-free E F r w j.target _))

    leads-says : leads F j s r ≡ true → (F.table r ≡ j.target.table) × (has F j.source (F.cell r j.target.place) s ≡ true)
    unfolding leads
    leads-says h =
        let a = (and-eq-true_iff (F.live s) _).0 h in
        let b = (and-eq-true_iff (eqb (F.table s) j.source.table) _).0 a.1 in
        let g = has-Has F j.target (F.cell s j.source.place) r b.1 in
        let e = has-cell F j.target (F.cell s j.source.place) r b.1 in (
          g.table,
          subst (λ (u : Cell). has F j.source u s ≡ true) (sym e)
              (Has-has (record { live = a.0; table = eqb-true _ _ b.0; value = equal-self _ (has-full g) })),
        )

    pub leads-kept : (F.table r ≡ j.target.table → has F j.source (F.cell r j.target.place) s ≡ true → ⊥)
        → first_from 512 (leads E j s) 0 ≡ first_from 512 (leads F j s) 0
    leads-kept apart = first-same 512 (leads E j s) (leads F j s) 0 (λ q _ _. go q (same_number q r))
      where
        go : (q : ℕ) → (q ≡ r) ⊎ (q ≡ r → ⊥) → leads E j s q ≡ leads F j s q
        go q (inl e) =
            subst (λ (z : ℕ). leads E j s z ≡ leads F j s z) (sym e)
            (leads-free ∙ sym (refute (leads F j s r) (λ h. let x = leads-says h in apart x.0 x.1)))
        go q (inr nq) = leads-beside q nq

    -- nor where one that stands before it is
    module _ (D G : Database) (alike : (k : Model.Column) (u : Cell) (q : ℕ) → (q ≡ r → ⊥) → has G k u q ≡ has D k u q) where
      pub leads-near : has G j.source v s ≡ true → first_from 512 (has G j.target v) 0 < r → first_from 512 (leads D j s) 0 ≡ first_from 512 (leads G j s) 0
      leads-near h l =
          leads-value D v (sym (alike j.source v s ne) ∙ h)
          ∙ sym (first-near (has G j.target v) (has D j.target v) r (alike j.target v) 0 _ (omega arith) l w.bound
          ((first-from 512 (has G j.target v) 0 (omega arith)).here (omega (arith, w.bound))))
          ∙ sym (leads-value G v h)

-- ---- constraint j, number i: row r comes, or goes

module _ (E F : Database) (r : ℕ) (w : Without E F r) (j : Model.Constraint) (i : ℕ) (b : i < 16) (c₀ c₁ : List ℕ) (long : length c₁ ≡ 16449) where
  -- what is stored with r and left with the others, D before and G after
  module _ (D G : Database) (n : ℕ) (e : n ≡ first_from 512 (leads G j r) 0) (f : Firsts D j i c₀) (x : Leads G F j i r c₀ c₁)
      (keep : (s : ℕ) → (s ≡ r → ⊥) → (F.table r ≡ j.target.table → has F j.source (F.cell r j.target.place) s ≡ true → ⊥)
      → first_from 512 (leads D j s) 0 ≡ first_from 512 (leads G j s) 0)
      (alike : (s : ℕ) → (s ≡ r → ⊥) → has G j.source (F.cell r j.target.place) s ≡ has F j.source (F.cell r j.target.place) s)
      (near : (s : ℕ) → (s ≡ r → ⊥) → has G j.source (F.cell r j.target.place) s ≡ true
      → first_from 512 (has G j.target (F.cell r j.target.place)) 0 < r → first_from 512 (leads D j s) 0 ≡ first_from 512 (leads G j s) 0) where
    changed : Firsts G j i (set c₁ (4096 + 512 * i + r) n)
    changed = record { at = λ s l. go s l (same_number s r) }
      where
        other : (s : ℕ) → s < 512 → (s ≡ r → ⊥) → (F.table r ≡ j.target.table) ⊎ (F.table r ≡ j.target.table → ⊥)
            → (has G j.source (F.cell r j.target.place) s ≡ true) ⊎ (has G j.source (F.cell r j.target.place) s ≡ false)
            → get_or c₁ (4096 + 512 * i + s) 0 ≡ first_from 512 (leads G j s) 0
        other s l ne (inl t) h = go (dec_lt (first_from 512 (has G j.target (F.cell r j.target.place)) 0) r) h
          where
            go : Dec (first_from 512 (has G j.target (F.cell r j.target.place)) 0 < r)
                → (has G j.source (F.cell r j.target.place) s ≡ true) ⊎ (has G j.source (F.cell r j.target.place) s ≡ false)
                → get_or c₁ (4096 + 512 * i + s) 0 ≡ first_from 512 (leads G j s) 0
            go (yes k) (inl y) = (x.reset t).before k s l ∙ f.at s l ∙ near s ne y k
            go (yes k) (inr y) = (x.reset t).before k s l ∙ f.at s l ∙ keep s ne (λ _ z. clash (alike s ne ∙ z) y)
            go (no k) (inl y) = (x.reset t).at (omega arith) s l ∙ cond-true _ _ _ y ∙ sym (leads-value j s G (F.cell r j.target.place) y)
            go (no k) (inr y) = (x.reset t).at (omega arith) s l ∙ cond-false _ _ _ y ∙ f.at s l ∙ keep s ne (λ _ z. clash (alike s ne ∙ z) y)
        other s l ne (inr t) _ = x.same t s l ∙ f.at s l ∙ keep s ne (λ y _. t y)

        go : (s : ℕ) → s < 512 → (s ≡ r) ⊎ (s ≡ r → ⊥) → get_or (set c₁ (4096 + 512 * i + r) n) (4096 + 512 * i + s) 0 ≡ first_from 512 (leads G j s) 0
        go s l (inl q) =
            ap (λ (z : ℕ). get_or (set c₁ (4096 + 512 * i + r) n) (4096 + 512 * i + z) 0) q
            ∙ get_or-set_same c₁ (4096 + 512 * i + r) n 0 (omega (arith, w.bound)) ∙ e ∙ ap (λ (z : ℕ). first_from 512 (leads G j z) 0) (sym q)
        go s l (inr ne) =
            get_or-set_other c₁ (4096 + 512 * i + r) (4096 + 512 * i + s) n 0 (λ q. ne (omega arith))
            ∙ other s l ne (same_number (F.table r) j.target.table) (dec (has G j.source (F.cell r j.target.place) s))

  pub firsts-comes : (n : ℕ) → n ≡ first_from 512 (leads F j r) 0 → Firsts E j i c₀ → Leads F F j i r c₀ c₁ → Firsts F j i (set c₁ (4096 + 512 * i + r) n)
  firsts-comes n e f x =
      changed E F n e f x (λ s ne h. leads-kept j s E F r w ne h) (λ s ne. refl)
      (λ s ne h l. leads-near j s E F r w ne E F (λ k u q nq. sym (has-beside E F r w k u q nq)) h l)

  pub firsts-goes : Firsts F j i c₀ → Leads E F j i r c₀ c₁ → Firsts E j i (set c₁ (4096 + 512 * i + r) 512)
  firsts-goes f x =
      changed F E 512 (leads-none j r E w.free) f x (λ s ne h. sym (leads-kept j s E F r w ne h)) (λ s ne. has-beside E F r w j.source _ s ne)
      (λ s ne h l. leads-near j s E F r w ne F E (λ k u q nq. has-beside E F r w k u q nq) h l)

-- ---- as the code finds row r among the lent rows

module _ (D : Database) (cells : Cells) (tables : List ℕ) (j : Model.Constraint) (i r : ℕ) (xs : List ℕ) where
  pub leads-apart : (get_or tables r 0 ≡ j.target.table → ⊥) → Leads D (database_of cells tables) j i r xs xs
  leads-apart h = record { reset = λ e. absurd (elsewhere-at cells tables r j.target.table h e); same = λ _ s l. refl }

  pub leads-made : (ys : List ℕ) → j.target.place < 8 → (v : State.Cell) → v ≡ cell_at cells r j.target.place → get_or tables r 0 ≡ j.target.table
      → Reset D j i (cell_of v) r xs ys → Leads D (database_of cells tables) j i r xs ys
  leads-made ys q v e t x =
      record {
        reset = λ _. subst (λ (u : Cell). Reset D j i u r xs ys) (ap cell_of e ∙ sym (cell-at cells tables r j.target.place q)) x;
        same = λ ne. absurd (ne (table-at cells tables r j.target.table t));
      }

-- ---- all constraints of S: those below i are G's, the others D's

pub record Turning (S : Scheme) (D G : Database) (i : ℕ) (ys : List ℕ) : Type 0 where
  pub done : (a : ℕ) → a < i → a < 16 → (s : ℕ) → s < 512 → get_or ys (4096 + 512 * a + s) 0 ≡ demanded_first S G a s
  pub rest : (a : ℕ) → i ≤ a → a < 16 → (s : ℕ) → s < 512 → get_or ys (4096 + 512 * a + s) 0 ≡ demanded_first S D a s

-- nothing but demanded rows is another
pub record Beside (xs ys : List ℕ) : Type 0 where
  pub long : length ys ≡ length xs
  pub before : (x : ℕ) → x < 4096 → get_or ys x 0 ≡ get_or xs x 0
  pub behind : (x : ℕ) → 12288 ≤ x → get_or ys x 0 ≡ get_or xs x 0

pub beside-start : (xs : List ℕ) → Beside xs xs
beside-start xs = record { long = refl; before = λ x l. refl; behind = λ x l. refl }

pub beside-turn : (i : ℕ) (xs ys zs : List ℕ) → i < 16 → Beside xs ys → Only i ys zs → Beside xs zs
beside-turn i xs ys zs b t o =
    record {
      long = o.long ∙ t.long;
      before = λ x l. o.before x (omega arith) ∙ t.before x l;
      behind = λ x l. o.behind x (omega arith) ∙ t.behind x l;
    }

pub beside-indexed : (D : Database) (xs ys keys : List ℕ) → Beside xs ys → Indexed D xs keys → Indexed D ys keys
beside-indexed D xs ys keys t x = indexed-kept D xs ys t.long t.before keys t.behind x

module _ (S : Scheme) (D G : Database) where
  pub turning-start : (xs : List ℕ) → first_in xs ≡ firsts S D → Turning S D G 0 xs
  turning-start xs e = record { done = λ a h. absurd (omega arith); rest = λ a _ b s l. at a b s l }
    where
      at : (a : ℕ) → a < 16 → (s : ℕ) → s < 512 → get_or xs (4096 + 512 * a + s) 0 ≡ demanded_first S D a s
      at a b s l =
          let z : 4096 + 512 * a + s ≡ 4096 + (512 * a + s) = omega arith in
          let p : (512 * a + s) / 512 ≡ a = omega arith in
          let q : (512 * a + s) % 512 ≡ s = omega arith in
          ap (λ (y : ℕ). get_or xs y 0) z ∙ sym (part_at 4096 8192 xs (512 * a + s) (omega arith)) ∙ ap (λ (ys : List ℕ). get_or ys (512 * a + s) 0) e
          ∙ tab-at 0 8192 (λ y. demanded_first S D (y / 512) (y % 512)) (512 * a + s) (omega arith) ∙ ap₂ (demanded_first S D) p q

  module _ (i : ℕ) (ys : List ℕ) (t : Turning S D G i ys) (b : i < 16) (h : i < S.constraints) where
    -- constraint i's are D's
    pub turning-firsts : Firsts D (S.constraint i) i ys
    unfolding demanded_first
    turning-firsts = record { at = λ s l. t.rest i (omega arith) b s l ∙ cond-true (ltb i S.constraints) _ 512 (lt-ltb i S.constraints h) }

    -- ... and become G's
    pub turning-turn : (zs : List ℕ) → Only i ys zs → Firsts G (S.constraint i) i zs → Turning S D G (i + 1) zs
    unfolding demanded_first
    turning-turn zs o f =
        record {
          done = λ a u c s l. done a u c s l (same_number a i);
          rest = λ a u c s l. o.behind (4096 + 512 * a + s) (omega arith) ∙ t.rest a (omega arith) c s l;
        }
      where
        done : (a : ℕ) → a < i + 1 → a < 16 → (s : ℕ) → s < 512 → (a ≡ i) ⊎ (a ≡ i → ⊥)
            → get_or zs (4096 + 512 * a + s) 0 ≡ cond (ltb a S.constraints) (first_from 512 (leads G (S.constraint a) s) 0) 512
        done a u c s l (inl e) =
            subst (λ (z : ℕ). get_or zs (4096 + 512 * z + s) 0 ≡ cond (ltb z S.constraints) (first_from 512 (leads G (S.constraint z) s) 0) 512) (sym e)
            (f.at s l ∙ sym (cond-true (ltb i S.constraints) _ 512 (lt-ltb i S.constraints h)))
        done a u c s l (inr e) = o.before (4096 + 512 * a + s) (omega (arith, e)) ∙ t.done a (omega (arith, e)) c s l

  pub turning-end : (i : ℕ) (xs ys : List ℕ) → S.constraints ≤ i → Links G xs → Beside xs ys → Turning S D G i ys → Redemanded S G xs ys
  unfolding demanded_first
  turning-end i xs ys h k o t =
      record {
        demands =
            record {
              links = links-kept G xs ys o.long o.before k;
              first-is = tab-of 0 8192 (λ y. demanded_first S G (y / 512) (y % 512)) (first_in ys) (part-long 4096 8192 ys) (λ y l. at y l (dec_lt (y / 512) i));
            };
        behind = o.behind;
      }
    where
      at : (y : ℕ) → y < 8192 → Dec (y / 512 < i)
          → get_or (first_in ys) y 0 ≡ cond (ltb (y / 512) S.constraints) (first_from 512 (leads G (S.constraint (y / 512)) (y % 512)) 0) 512
      at y l (yes c) =
          let z : 4096 + y ≡ 4096 + 512 * (y / 512) + y % 512 = omega arith in
          part_at 4096 8192 ys y l ∙ ap (λ (x : ℕ). get_or ys x 0) z ∙ t.done (y / 512) c (omega arith) (y % 512) (omega arith)
      at y l (no c) =
          let z : 4096 + y ≡ 4096 + 512 * (y / 512) + y % 512 = omega arith in
          part_at 4096 8192 ys y l ∙ ap (λ (x : ℕ). get_or ys x 0) z ∙ t.rest (y / 512) (omega arith) (omega arith) (y % 512) (omega arith)
          ∙ cond-false (ltb (y / 512) S.constraints) _ 512 (le-ltb (y / 512) S.constraints (omega arith))
          ∙ sym (cond-false (ltb (y / 512) S.constraints) _ 512 (le-ltb (y / 512) S.constraints (omega arith)))
