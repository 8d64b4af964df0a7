use native.Mathlib.Omega.{arith}
use mathlib.Core.Path.{◌≡◌, sym, ap₂, ◌∙◌}
use Prim.Native.Nat.{ℕ, ◌+◌}
use mathlib.Core.List.{List, ◌++◌}
use lib.ListN.{length, drop, length-take}
use lib.Seq.{sets-eq}
use Rattle.state.proofs.held_words.store_words.Goals as goal

pub copy_from_slice-requires : goal.copy_from_slice-requires
copy_from_slice-requires c = omega (arith, length-take 358 c.args.words.now)

pub returns : goal.returns
returns c = let a = c.args in
    let long : 358 ≡ 0 + length a.held.now = omega arith in
    ap₂ (λ (xs : List ℕ) (n : ℕ). xs ++ drop n a.words.now) c.copy_from_slice.ensures.after long ∙ sym (sets-eq a.held.now a.words.now 0 (omega arith))
