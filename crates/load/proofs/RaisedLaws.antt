-- The laws of `raised`: steps of a load to one level join, and change no level that a row has. Assumes nothing.
use Prim.Native.Nat.{ℕ, zero, suc, ◌<◌}
use native.Mathlib.Omega.{arith}
use mathlib.Core.Path.{◌≡◌, refl, sym, ap, ap₂, subst, ◌∙◌}
use mathlib.Core.Logic.{⊎_elim}
use mathlib.Core.Bool.{Bool, true, false, cond, ◌||◌}
use mathlib.Core.List.{List}
use borrow.Author.Tests.{eq-eqb, ne_eqb}
use lib.Dec.{eqb}
use lib.ListN.{length, get_or, set, length-set}
use lib.Seq.{get_or-set_same, get_or-set_other}
use Rattle.finite.proofs.Bools.{dec, same_number}
use Rattle.finite.proofs.Tables.{tab-at, tab-of, tab-same}
use Rattle.model.specs.Cache.{RowSet}
use Rattle.model.specs.Rounds.{level, or_else}
use Rattle.model.proofs.RoundsLaws.{or_else-zero, or_else-kept}
use Rattle.load.specs.Raised.{raised}

-- ---- one row

twice : (l : ℕ) (a b : Bool) (n : ℕ) → 0 < n → or_else (or_else l (cond a n 0)) (cond b n 0) ≡ or_else l (cond (a || b) n 0)
twice zero true b n h = or_else-kept n (cond b n 0) h
twice zero false b n h = refl
twice (suc l) a b n h = refl

-- ---- all rows

module _ (L : List ℕ) (n : ℕ) where
  pub raised_at : (P : RowSet) (r : ℕ) → r < 512 → level (raised L n P) r ≡ or_else (level L r) (cond (P r) n 0)
  unfolding raised
  raised_at P r h = tab-at 0 512 (λ i. or_else (level L i) (cond (P i) n 0)) r h

  pub raised-same : (P Q : RowSet) → ((r : ℕ) → r < 512 → P r ≡ Q r) → raised L n P ≡ raised L n Q
  unfolding raised
  raised-same P Q h = tab-same 512 _ _ (λ r l. ap (λ (b : Bool). or_else (level L r) (cond b n 0)) (h r l))

  -- the demanded rows have levels
  pub raised-none : (P : RowSet) → length L ≡ 512 → ((r : ℕ) → r < 512 → P r ≡ true → 0 < level L r) → L ≡ raised L n P
  unfolding raised
  raised-none P e h = tab-of 0 512 (λ r. or_else (level L r) (cond (P r) n 0)) L e (λ r l. ⊎_elim (hit r l) (miss r) (dec (P r)))
    where
      hit : (r : ℕ) → r < 512 → P r ≡ true → level L r ≡ or_else (level L r) (cond (P r) n 0)
      hit r l t = sym (or_else-kept (level L r) _ (h r l t))

      miss : (r : ℕ) → P r ≡ false → level L r ≡ or_else (level L r) (cond (P r) n 0)
      miss r t = sym (ap (λ (b : Bool). or_else (level L r) (cond b n 0)) t ∙ or_else-zero (level L r))

  -- one row without a level is demanded
  pub raised-one : (s : ℕ) → length L ≡ 512 → s < 512 → level L s ≡ 0 → set L s n ≡ raised L n (λ r. eqb r s)
  unfolding raised
  raised-one s e l z =
      tab-of 0 512 (λ r. or_else (level L r) (cond (eqb r s) n 0)) (set L s n) (length-set L s n ∙ e) (λ r k. ⊎_elim (here r) (other r) (same_number r s))
    where
      here : (r : ℕ) → r ≡ s → get_or (set L s n) r 0 ≡ or_else (level L r) (cond (eqb r s) n 0)
      here r q =
          subst (λ (i : ℕ). get_or (set L s n) i 0 ≡ or_else (level L i) (cond (eqb i s) n 0)) (sym q)
          (get_or-set_same L s n 0 (omega arith) ∙ sym (ap₂ (λ (m : ℕ) (b : Bool). or_else m (cond b n 0)) z (eq-eqb s s refl)))

      other : (r : ℕ) → (r ≡ s → ⊥) → get_or (set L s n) r 0 ≡ or_else (level L r) (cond (eqb r s) n 0)
      other r q =
          get_or-set_other L s r n 0 q ∙ sym (ap (λ (b : Bool). or_else (level L r) (cond b n 0)) (ne_eqb r s q) ∙ or_else-zero (level L r))

  -- two steps to one level
  pub raised-again : (P Q : RowSet) → 0 < n → raised (raised L n P) n Q ≡ raised L n (λ r. P r || Q r)
  unfolding raised
  raised-again P Q p =
      tab-same 512 _ _
      (λ r l. ap (λ (m : ℕ). or_else m (cond (Q r) n 0)) (tab-at 0 512 (λ i. or_else (level L i) (cond (P i) n 0)) r l) ∙ twice (level L r) (P r) (Q r) n p)

  -- a level that a row has stays
  pub raised-kept : (P : RowSet) (r : ℕ) → r < 512 → 0 < level L r → level (raised L n P) r ≡ level L r
  raised-kept P r l h = raised_at P r l ∙ or_else-kept (level L r) _ h

-- the levels that a step began with, said otherwise
pub raised_on : (L M K : List ℕ) (n : ℕ) (P : RowSet) → L ≡ M → K ≡ raised L n P → K ≡ raised M n P
raised_on L M K n P e g = g ∙ ap (λ (X : List ℕ). raised X n P) e
