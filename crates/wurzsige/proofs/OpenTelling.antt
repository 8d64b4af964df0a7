-- What is told of a reading, from the verdict, the design and the count of rows that it gives. Assumes nothing.
use Prim.Native.Nat.{ℕ}
use native.Mathlib.Omega.{arith}
use mathlib.Core.Path.{◌≡◌, subst}
use mathlib.Core.Bool.{true, false}
use mathlib.Core.List.{List, [], ◌∷◌}
use Rattle.model.specs.Answers.{Shown, shown, refused}
use Rattle.state.specs.declared.design.Design.{Design}
use Rattle.format.specs.declared.verdict.Verdict.{Verdict}
use Rattle.format.specs.declared.verdict.Verdict.TheVariants.{Accepted, Refused}
use Rattle.format.specs.Reading.{DesignRead, verdict_of, design_of, rows_read}
use Rattle.format.specs.Reading.DesignRead.{accepted, refused_at}
use Rattle.wurzsige.specs.Told.{design_word, Told, Placed, OpenTold}

module _ (v : Verdict) (d : Design) (rows n : ℕ) (ns : List ℕ) (k p q m : ℕ) where
  pub accepted-told : (i : ℕ) → v ≡ Accepted i →
      Told (record { word = design_word; numbers = d.tables ∷ d.constraints ∷ d.fillings ∷ rows ∷ [] }) n ns k → Placed 0 i true p q m →
      (w : DesignRead) → v ≡ verdict_of w → d ≡ design_of w → rows ≡ rows_read w → OpenTold w n ns k p q m
  accepted-told i is told placed (refused_at c j) e f g = absurd (let z : ◌≡◌ {A = ℕ} 0 1 = cc (is, e) in omega arith)
  accepted-told i is told placed (accepted a j) e f g =
      let z : i ≡ j = cc (is, e) in
      record {
        told = subst (λ (x : Shown). Told x n ns k)
            (λ x. record { word = design_word; numbers = (f x).tables ∷ (f x).constraints ∷ (f x).fillings ∷ g x ∷ [] }) told;
        placed = subst (λ (x : ℕ). Placed 0 x true p q m) z placed;
      }

  pub refused-told : (c i : ℕ) → v ≡ Refused c i → Told (shown (refused c)) n ns k → Placed i 0 false p q m →
      (w : DesignRead) → v ≡ verdict_of w → d ≡ design_of w → rows ≡ rows_read w → OpenTold w n ns k p q m
  unfolding shown
  refused-told c i is told placed (accepted a j) e f g = absurd (let z : ◌≡◌ {A = ℕ} 0 1 = cc (is, e) in omega arith)
  refused-told c i is told placed (refused_at b j) e f g =
      let y : c ≡ b = cc (is, e) in
      let z : i ≡ j = cc (is, e) in
      record {
        told = subst (λ (x : ℕ). Told (shown (refused x)) n ns k) y told;
        placed = subst (λ (x : ℕ). Placed x 0 false p q m) z placed;
      }
