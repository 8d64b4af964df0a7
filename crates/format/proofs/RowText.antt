-- A ROW's command by its parts: the table, eight numbers, eight issues. It is 0x07 exactly if an issue isn't 0, as written and as read. Assumes nothing.
use Prim.Native.Nat.{ℕ, zero, suc, ◌+◌, ◌*◌, ◌<◌}
use native.Mathlib.Omega.{arith}
use mathlib.Core.Path.{◌≡◌, refl, sym, ap, ap₂, ◌∙◌}
use mathlib.Core.Bool.{Bool, true, false, not, cond, ◌&&◌, ◌||◌}
use mathlib.Core.List.{List, ◌∷◌, ◌++◌}
use borrow.Author.Tests.{eq-eqb, ne_eqb}
use lib.Dec.{eqb}
use lib.ListN.{length, get_or, length-append}
use Rattle.finite.specs.Finite.{any, all, tab, collect}
use Rattle.finite.proofs.Bools.{clash, cond-true, cond-false}
use Rattle.finite.proofs.Search.{any_same, any-refuted}
use Rattle.finite.proofs.Tables.{length-tab, tab-same}
use Rattle.finite.proofs.Collecting.{collect-same, length-pieces}
use Rattle.state.specs.Cells.{Cells}
use Rattle.state.specs.Meaning.{cell_at}
use Rattle.command.specs.Bytes.{byte_at, u32_bytes}
use Rattle.command.specs.Commands.{row_issue_at}
use Rattle.format.specs.Reading.{needless}
use Rattle.format.specs.Writing.{cells_bytes, issues_bytes, is_issued, row_bytes}
use Rattle.command.proofs.CommandLaws.{RowByte, plain, issued, issue-plain}

-- one of eight issues isn't 0
abbrev pub any_issue : (ℕ → ℕ) → Bool
any_issue g = any 8 (λ c. not (eqb (g c) 0))

abbrev pub numbers_text : (ℕ → ℕ) → List ℕ
numbers_text f = collect 8 (λ _. true) (λ c. u32_bytes (f c))

unfoldable pub row_text : ℕ → (ℕ → ℕ) → (ℕ → ℕ) → List ℕ
row_text t f g = cond (any_issue g) (7 ∷ t ∷ (numbers_text f ++ tab 8 g)) (4 ∷ t ∷ numbers_text f)

-- ---- as it is written

module _ (t : ℕ) (f g : ℕ → ℕ) where
  pub text-issued : any_issue g ≡ true → row_text t f g ≡ 7 ∷ t ∷ (numbers_text f ++ tab 8 g)
  unfolding row_text
  text-issued e = cond-true (any_issue g) _ _ e

  pub text-plain : any_issue g ≡ false → row_text t f g ≡ 4 ∷ t ∷ numbers_text f
  unfolding row_text
  text-plain e = cond-false (any_issue g) _ _ e

pub text_same : (t u : ℕ) (f f' g g' : ℕ → ℕ) → t ≡ u → ((c : ℕ) → c < 8 → f c ≡ f' c) → ((c : ℕ) → c < 8 → g c ≡ g' c) → row_text t f g ≡ row_text u f' g'
unfolding row_text
text_same t u f f' g g' e h k =
    let a : numbers_text f ≡ numbers_text f' = collect-same 8 (λ _. true) (λ _. true) _ _ (λ c l. refl) (λ c l z. ap u32_bytes (h c l)) in
    let b : tab 8 g ≡ tab 8 g' = tab-same 8 g g' k in
    let i : any_issue g ≡ any_issue g' = any_same 8 _ _ (λ c l. ap (λ (x : ℕ). not (eqb x 0)) (k c l)) in
    ap (λ (x : Bool). cond x (7 ∷ t ∷ (numbers_text f ++ tab 8 g)) (4 ∷ t ∷ numbers_text f)) i ∙
    ap₂ (λ (x : ℕ) (l : List ℕ). cond (any_issue g') (7 ∷ x ∷ (l ++ tab 8 g)) (4 ∷ x ∷ l)) e a ∙
    ap (λ (l : List ℕ). cond (any_issue g') (7 ∷ u ∷ (numbers_text f' ++ l)) (4 ∷ u ∷ numbers_text f')) b

-- row r of the lent rows
pub row-text : (cells : Cells) (tables : List ℕ) (r : ℕ)
    → row_bytes cells tables r ≡ row_text (get_or tables r 0) (λ c. (cell_at cells r c).number) (λ c. (cell_at cells r c).issue)
unfolding row_bytes row_text is_issued cells_bytes issues_bytes
row-text cells tables r = refl

pub row-issued : (cells : Cells) (r : ℕ) → is_issued cells r ≡ any_issue (λ c. (cell_at cells r c).issue)
unfolding is_issued
row-issued cells r = refl

-- ---- its length

pub length-numbers : (f : ℕ → ℕ) → length (numbers_text f) ≡ 32
unfolding u32_bytes
length-numbers f = length-pieces 4 (λ c. u32_bytes (f c)) (λ c. refl) 8

-- 34 bytes, and 8 more with issues
abbrev pub row_width : Bool → ℕ
row_width b = 34 + 8 * cond b 1 0

pub length-text : (t : ℕ) (f g : ℕ → ℕ) → length (row_text t f g) ≡ row_width (any_issue g)
unfolding row_text
length-text t f g = go (any_issue g)
  where
    go : (b : Bool) → length (cond b (7 ∷ t ∷ (numbers_text f ++ tab 8 g)) (4 ∷ t ∷ numbers_text f)) ≡ row_width b
    go true = omega (arith, length-append (numbers_text f) (tab 8 g), length-numbers f, length-tab 8 g)
    go false = omega (arith, length-numbers f)

-- ---- as it is read

any-not-all : (n : ℕ) (p : ℕ → Bool) → any n (λ i. not (p i)) ≡ not (all n p)
unfolding any all
any-not-all zero p = refl
any-not-all (suc n) p = ap (λ (b : Bool). b || not (p n)) (any-not-all n p) ∙ go (all n p) (p n)
  where
    go : (a b : Bool) → not a || not b ≡ not (a && b)
    go true b = refl
    go false b = refl

module _ (s : List ℕ) (i : ℕ) where
  pub none-plain : (byte_at s i ≡ 7 → ⊥) → any_issue (row_issue_at s i) ≡ false
  none-plain n = any-refuted 8 _ (λ c l. ap (λ (x : ℕ). not (eqb x 0)) (issue-plain s i n c))

  pub some-issued : byte_at s i ≡ 7 → needless s i ≡ false → any_issue (row_issue_at s i) ≡ true
  unfolding needless
  some-issued e h = any-not-all 8 (λ c. eqb (row_issue_at s i c) 0) ∙ ap not (go (eqb (byte_at s i) 7) (all 8 (λ c. eqb (row_issue_at s i c) 0)) (eq-eqb (byte_at s i) 7 e) h)
    where
      go : (a b : Bool) → a ≡ true → a && b ≡ false → b ≡ false
      go true b p q = q
      go false b p q = clash p refl

  -- a ROW that is not needless is as wide as it is written
  pub width-tells : (w : ℕ) → RowByte (byte_at s i) w → needless s i ≡ false → w ≡ row_width (any_issue (row_issue_at s i))
  width-tells w (plain e f) h = f ∙ sym (ap row_width (none-plain (λ z. omega arith)))
  width-tells w (issued e f) h = f ∙ sym (ap row_width (some-issued e h))

  -- one with an issue, and a plain one, is not needless
  pub needed-plain : (byte_at s i ≡ 7 → ⊥) → needless s i ≡ false
  unfolding needless
  needed-plain n = ap (λ (b : Bool). b && all 8 (λ c. eqb (row_issue_at s i c) 0)) (ne_eqb (byte_at s i) 7 n)

  pub needed-issued : any_issue (row_issue_at s i) ≡ true → needless s i ≡ false
  unfolding needless
  needed-issued h = go (eqb (byte_at s i) 7) (all 8 (λ c. eqb (row_issue_at s i c) 0)) (sym (any-not-all 8 (λ c. eqb (row_issue_at s i c) 0)) ∙ h)
    where
      go : (a b : Bool) → not b ≡ true → a && b ≡ false
      go true true p = clash p refl
      go true false p = refl
      go false b p = refl
