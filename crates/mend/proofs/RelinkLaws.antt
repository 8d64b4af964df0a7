-- The next rows place by place, where a row comes or goes. Assumes nothing.
use Prim.Native.Nat.{ℕ, ◌+◌, ◌*◌, ◌/◌, ◌%◌, ◌≤◌, ◌<◌}
use native.Mathlib.Omega.{arith}
use mathlib.Core.Path.{◌≡◌, refl, sym, ap, subst, ◌∙◌}
use mathlib.Core.Bool.{true, false}
use mathlib.Core.List.{List}
use mathlib.Core.Logic.{◌⊎◌, inl, inr}
use lib.ListN.{length, get_or}
use Rattle.finite.proofs.Bools.{same_number}
use Rattle.finite.proofs.Tables.{tab-same, tab-of}
use Rattle.model.specs.Cell.{Cell, is_blank}
use Rattle.model.specs.Scheme as Model
use Rattle.model.specs.Database.{Database, has}
use Rattle.state.specs.Cells.{Cells}
use Rattle.state.specs.declared.cell.Cell as State
use Rattle.state.specs.Meaning.{cell_of, cell_at, database_of}
use Rattle.catalog.specs.Catalog.{next_of, part, next_in, heads_in, starts_in, Directory, Links}
use Rattle.mend.specs.Changing.{Without, Chained, Linking, Place, Relinked}
use Rattle.catalog.proofs.Entries.{link_at}
use Rattle.catalog.proofs.PartLaws.{part_at, part-long}
use Rattle.mend.proofs.BesideLaws.{next-blank}
use Rattle.catalog.proofs.Rows.{has-blank, blank-at, value-at, live_in}

-- ---- parts

-- a part whose elements stay
pub part-kept : (a n : ℕ) (xs ys : List ℕ) → ((i : ℕ) → i < n → get_or ys (a + i) 0 ≡ get_or xs (a + i) 0) → part a n ys ≡ part a n xs
unfolding part
part-kept a n xs ys h = tab-same n _ _ h

module _ (D : Database) (keys xs ys : List ℕ) (same : (x : ℕ) → 12288 ≤ x → get_or ys x 0 ≡ get_or xs x 0) where
  pub directory-kept : Directory D keys (heads_in xs) (starts_in xs) → Directory D keys (heads_in ys) (starts_in ys)
  directory-kept d =
      subst (λ (h : List ℕ). Directory D keys h (starts_in ys)) (sym (part-kept 12288 4096 xs ys (λ i l. same (12288 + i) (omega arith))))
      (subst (λ (s : List ℕ). Directory D keys (heads_in xs) s) (sym (part-kept 16384 65 xs ys (λ i l. same (16384 + i) (omega arith)))) d)

-- ---- all links

module _ (D : Database) (catalog : List ℕ) where
  pub links-chained : Links D catalog → (c : ℕ) → c < 8 → Chained D c catalog
  links-chained l c q = record { at = λ s b. at s b }
    where
      at : (s : ℕ) → s < 512 → get_or catalog (8 * s + c) 0 ≡ next_of D s c
      at s b = link_at D catalog l s c (get_or catalog (8 * s + c) 0) b q refl

  pub chained-links : length catalog ≡ 16449 → D.size ≡ 512 → ((c : ℕ) → c < 8 → Chained D c catalog) → Links D catalog
  chained-links long z h =
      record {
        long = long;
        size_is = z;
        next-is = tab-of 0 4096 (λ x. next_of D (x / 8) (x % 8)) (next_in catalog) (part-long 0 4096 catalog) (λ x l. at x l);
      }
    where
      at : (x : ℕ) → x < 4096 → get_or (next_in catalog) x 0 ≡ next_of D (x / 8) (x % 8)
      at x l =
          let e : 8 * (x / 8) + x % 8 ≡ 0 + x = omega arith in
          part_at 0 4096 catalog x l ∙ ap (λ (z : ℕ). get_or catalog z 0) (sym e) ∙ (h (x % 8) (omega arith)).at (x / 8) (omega arith)

-- ---- place by place: those below c are G's, the others D's

pub record Passing (D G : Database) (c : ℕ) (xs ys : List ℕ) : Type 0 where
  pub done : (a : ℕ) → a < c → Chained G a ys
  pub rest : (a : ℕ) → c ≤ a → a < 8 → Chained D a ys

pub record Kept (xs ys : List ℕ) : Type 0 where
  pub long : length ys ≡ length xs
  pub behind : (x : ℕ) → 4096 ≤ x → get_or ys x 0 ≡ get_or xs x 0

pub kept-start : (xs : List ℕ) → Kept xs xs
kept-start xs = record { long = refl; behind = λ x l. refl }

pub kept-turn : (c : ℕ) (xs ys zs : List ℕ) → Kept xs ys → Place c ys zs → Kept xs zs
kept-turn c xs ys zs t p = record { long = p.long ∙ t.long; behind = λ x l. p.behind x l ∙ t.behind x l }

pub kept-directory : (D : Database) (keys xs ys : List ℕ) → Kept xs ys → Directory D keys (heads_in xs) (starts_in xs) → Directory D keys (heads_in ys) (starts_in ys)
kept-directory D keys xs ys t d = directory-kept D keys xs ys (λ x l. t.behind x (omega arith)) d

-- another place's next rows stay
chained-other : (D : Database) (c a : ℕ) (ys zs : List ℕ) → Place c ys zs → a < 8 → (a ≡ c → ⊥) → Chained D a ys → Chained D a zs
chained-other D c a ys zs p q ne x = record { at = λ s l. p.other s a q ne ∙ x.at s l }

module _ (D G : Database) (xs : List ℕ) where
  pub passing-start : Links D xs → Passing D G 0 xs xs
  passing-start l = record { done = λ a h. absurd (omega arith); rest = λ a _ h. links-chained D xs l a h }

  pub passing-turn : (c : ℕ) (ys zs : List ℕ) → c < 8 → Passing D G c xs ys → Place c ys zs → Chained G c zs → Passing D G (c + 1) xs zs
  passing-turn c ys zs q t p x =
      record {
        done = λ a h. go a h (same_number a c);
        rest = λ a h b. chained-other D c a ys zs p b (λ e. omega arith) (t.rest a (omega arith) b);
      }
    where
      go : (a : ℕ) → a < c + 1 → (a ≡ c) ⊎ (a ≡ c → ⊥) → Chained G a zs
      go a h (inl e) = subst (λ (z : ℕ). Chained G z zs) (sym e) x
      go a h (inr ne) = chained-other G c a ys zs p (omega arith) ne (t.done a (omega (arith, ne)))

  pub passing-end : (c : ℕ) (ys : List ℕ) → 8 ≤ c → length xs ≡ 16449 → G.size ≡ 512 → Kept xs ys → Passing D G c xs ys → Relinked G xs ys
  passing-end c ys h long z t p =
      record { links = chained-links G ys (t.long ∙ long) z (λ a l. p.done a (omega arith)); behind = t.behind }

-- ---- row r among the lent rows: its cell c is blank, or has a value

module _ (cells : Cells) (tables : List ℕ) (r c : ℕ) (l : r < 512) (q : c < 8) (t : get_or tables r 0 < 8) (v : State.Cell) (w : v ≡ cell_at cells r c) where
  abbrev F : Database
  F = database_of cells tables

  -- in every column of its place
  pub none-blank : is_blank (cell_of v) ≡ true → (k : Model.Column) → k.place ≡ c → (u : Cell) → has F k u r ≡ false
  none-blank b k e u = has-blank F k.table k.place r (subst (λ (z : ℕ). is_blank (F.cell r z) ≡ true) (sym e) (blank-at cells tables r c q v w b)) u

  module _ (b : is_blank (cell_of v) ≡ true) (E : Database) (x : Without E F r) where
    pub blank-comes : (catalog : List ℕ) → Chained E c catalog → Chained F c catalog
    blank-comes catalog y = record { at = λ s h. y.at s h ∙ next-blank E F r x c (none-blank b) s }

    pub blank-goes : (catalog : List ℕ) → Chained F c catalog → Chained E c catalog
    blank-goes catalog y = record { at = λ s h. y.at s h ∙ sym (next-blank E F r x c (none-blank b) s) }

  pub has-own-value : is_blank (cell_of v) ≡ false → has F (record { table = get_or tables r 0; place = c }) (cell_of v) r ≡ true
  has-own-value b = value-at cells tables r c q v w (get_or tables r 0) l (live_in cells tables r (get_or tables r 0) l t refl) refl b

  pub linking : is_blank (cell_of v) ≡ false → (D E : Database) (catalog keys : List ℕ) → Without E F r → Directory E keys (heads_in catalog) (starts_in catalog) → Chained D c catalog
      → Linking D E F r (record { table = get_or tables r 0; place = c }) (cell_of v) catalog keys
  linking b D E catalog keys x d y = record { without = x; value = has-own-value b; directory = d; chained = y }
