-- One more command of a kind: causes 3 and 4, then what comes behind them. Assumes nothing.
use Prim.Native.Nat.{ℕ, ◌≤◌, ◌<◌}
use native.Mathlib.Omega.{arith}
use mathlib.Core.Path.{◌≡◌, refl, sym, ap, ◌∙◌}
use mathlib.Core.Bool.{Bool, true, false, not, cond}
use borrow.Author.Tests.{ne_eqb, le-leb, lt-leb, leb-false}
use lib.Dec.{leb}
use Rattle.state.specs.declared.design.Design.{Design}
use Rattle.state.specs.Design.{InRange}
use Rattle.format.specs.Reading.{Draft, Advanced, refused_if}
use Rattle.format.specs.Reading.Advanced.{on, refused}
use Rattle.format.specs.Kinds.{count_of, most_of, is_late, order_cause}

-- ---- the last kind

module _ (b : ℕ) (h₁ : b ≡ 1 → ⊥) (h₂ : b ≡ 2 → ⊥) (h₃ : b ≡ 3 → ⊥) where
  pub count-last : (d : Design) (n : ℕ) → n ≡ count_of d n b
  unfolding count_of
  count-last d n = sym (rw (ne_eqb b 1 h₁, ne_eqb b 2 h₂, ne_eqb b 3 h₃))

  pub most-last : 512 ≡ most_of b
  unfolding most_of
  most-last = sym (rw (ne_eqb b 1 h₁, ne_eqb b 2 h₂, ne_eqb b 3 h₃))

  pub late-last : (d : Design) (n : ℕ) → false ≡ is_late d n b
  unfolding is_late
  late-last d n = sym (rw (ne_eqb b 1 h₁, ne_eqb b 2 h₂, ne_eqb b 3 h₃))

-- ---- a number of a kind is one of its places; rows have any of the 512 numbers

module _ (d : Design) (h : InRange d) (b i : ℕ) (l : i < count_of d 512 b) where
  pub tables-few : b ≡ 1 → i < 8
  unfolding count_of
  tables-few e = omega (arith, l, ap (count_of d 512) e, h.tables)

  pub constraints-few : b ≡ 2 → i < 16
  unfolding count_of
  constraints-few e = omega (arith, l, ap (count_of d 512) e, h.constraints)

  pub fillings-few : b ≡ 3 → i < 8
  unfolding count_of
  fillings-few e = omega (arith, l, ap (count_of d 512) e, h.fillings)

  pub rows_few : (b ≡ 1 → ⊥) → (b ≡ 2 → ⊥) → (b ≡ 3 → ⊥) → i < 512
  rows_few h₁ h₂ h₃ = omega (arith, l, count-last b h₁ h₂ h₃ d 512)

-- ---- the causes in order

module _ (d : Design) (n b : ℕ) where
  pub order-late : is_late d n b ≡ true → 3 ≡ order_cause d n b
  unfolding order_cause
  order-late h = sym (rw h)

  module _ (h : is_late d n b ≡ false) where
    pub order-full : most_of b ≤ count_of d n b → 4 ≡ order_cause d n b
    unfolding order_cause
    order-full l = sym (rw (h, le-leb (most_of b) (count_of d n b) l))

    pub order-none : count_of d n b < most_of b → 0 ≡ order_cause d n b
    unfolding order_cause
    order-none l = sym (rw (h, lt-leb (most_of b) (count_of d n b) l))

-- none of the two: there is room for one more
pub order-room : (d : Design) (n b k : ℕ) → k ≡ order_cause d n b → k ≡ 0 → count_of d n b < most_of b
unfolding order_cause
order-room d n b k e none = go (is_late d n b) (leb (most_of b) (count_of d n b)) refl (sym e ∙ none)
  where
    go : (x y : Bool) → leb (most_of b) (count_of d n b) ≡ y → ◌≡◌ {A = ℕ} (cond x 3 (cond y 4 0)) 0 → count_of d n b < most_of b
    go true y g f = absurd (omega arith)
    go false true g f = absurd (omega arith)
    go false false g f = leb-false (most_of b) (count_of d n b) g

-- a command of kind b, read into a design with n rows: cause 3, 4 or 5, else the draft q, which has it
unfoldable pub item : Design → ℕ → ℕ → Bool → Draft → Advanced
item d n b fits q = refused_if (is_late d n b) 3 (refused_if (leb (most_of b) (count_of d n b)) 4 (refused_if (not fits) 5 (on q)))

module _ (d : Design) (n b k : ℕ) (fits : Bool) (q : Draft) (e : k ≡ order_cause d n b) where
  pub item_refused : (k ≡ 0 → ⊥) → item d n b fits q ≡ refused k
  unfolding item order_cause
  item_refused h = go (is_late d n b) (leb (most_of b) (count_of d n b)) e
    where
      go : (x y : Bool) → k ≡ cond x 3 (cond y 4 0) → refused_if x 3 (refused_if y 4 (refused_if (not fits) 5 (on q))) ≡ refused k
      go true y f = ap refused (sym f)
      go false true f = ap refused (sym f)
      go false false f = absurd (h f)

  module _ (none : k ≡ 0) where
    behind : (t : Advanced) → refused_if (not fits) 5 (on q) ≡ t → item d n b fits q ≡ t
    unfolding item order_cause
    behind t h = go (is_late d n b) (leb (most_of b) (count_of d n b)) (sym e ∙ none)
      where
        go : (x y : Bool) → ◌≡◌ {A = ℕ} (cond x 3 (cond y 4 0)) 0 → refused_if x 3 (refused_if y 4 (refused_if (not fits) 5 (on q))) ≡ t
        go true y f = absurd (omega arith)
        go false true f = absurd (omega arith)
        go false false f = h

    pub item-wrong : fits ≡ false → item d n b fits q ≡ refused 5
    item-wrong f = behind (refused 5) (ap (λ (x : Bool). refused_if (not x) 5 (on q)) f)

    pub item-right : (r : Draft) → fits ≡ true → q ≡ r → item d n b fits q ≡ on r
    item-right r f g = behind (on r) (ap (λ (x : Bool). refused_if (not x) 5 (on q)) f ∙ ap on g)
