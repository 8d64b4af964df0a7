use mathlib.Core.Path.{ap, ◌∙◌}
use Prim.Native.Nat.{ℕ}
use mathlib.Core.List.{List, ◌++◌}
use lib.ListN.{length, drop, replicate}
use Rattle.state.proofs.AnswerLaws.{filled}
use Rattle.state.proofs.answer.words.Goals as goal

pub returns : goal.returns
returns c = let a = c.args in
    ap (λ (ns : List ℕ). record { word = a.word; count = length a.numbers.now; numbers = ns })
    (ap (λ (xs : List ℕ). xs ++ drop (length a.numbers.now) (replicate 16 0)) c.copy_from_slice.ensures.after ∙ filled a.numbers.now c.requires)
