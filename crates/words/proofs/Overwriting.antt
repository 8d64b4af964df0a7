-- A part of a list of words that others are copied over. Assumes nothing.
use Prim.Native.Nat.{ℕ, ◌+◌, ◌-◌, ◌≤◌}
use native.Mathlib.Omega.{arith}
use mathlib.Core.Path.{◌≡◌, sym, ap, ◌∙◌}
use mathlib.Core.List.{List, ◌++◌, append_assoc}
use borrow.Rule.Slice.PartMut.{put_mid}
use lib.ListN.{length, take, drop}
use lib.Seq.{sets, sets-eq, drop-drop}

-- the part from word i up to word z
pub overwritten : (ws vs : List ℕ) (i z : ℕ) → z ≡ i + length vs → z ≤ length ws → put_mid i (z - i) ws vs ≡ sets ws i vs
overwritten ws vs i z e h =
    ap (λ (l : List ℕ). take i ws ++ (vs ++ l)) (drop-drop (z - i) i ws ∙ ap (λ (k : ℕ). drop k ws) (omega (arith, e))) ∙
    sym (append_assoc (take i ws) vs (drop (i + length vs) ws)) ∙ sym (sets-eq vs ws i (omega (arith, e, h)))
