-- A part of a lent buffer that a text is copied over. Assumes nothing.
use Prim.Native.Nat.{ℕ, ◌+◌, ◌-◌, ◌≤◌}
use native.Mathlib.Omega.{arith}
use mathlib.Core.Path.{◌≡◌, sym, ap, ◌∙◌}
use mathlib.Core.List.{List, ◌++◌, append_assoc}
use borrow.Rule.Slice.PartMut.{put_mid}
use lib.ListN.{length, take, drop}
use lib.Seq.{sets-eq, drop-drop}
use Rattle.finite.specs.Writing.{Wrote}

-- the part from n up to z
pub copied : {A : Type 0} (o w : List A) (n z : ℕ) → z ≡ n + length w → z ≤ length o → Wrote o (put_mid n (z - n) o w) n z w
copied o w n z e h = record {
  next = e;
  text =
      ap (λ (l : List _). take n o ++ (w ++ l)) (drop-drop (z - n) n o ∙ ap (λ (k : ℕ). drop k o) (omega (arith, e))) ∙
      sym (append_assoc (take n o) w (drop (n + length w) o)) ∙ sym (sets-eq w o n (omega (arith, e, h)));
}
