-- `wurzsige::telling::tell` meets its contract: what is shown of the answer. Assumes nothing.
use mathlib.Core.Path.{ap}
use Rattle.state.specs.declared.answer.Shown.{Shown}
use Rattle.state.proofs.AnswerLaws.{few-numbers}
use Rattle.wurzsige.proofs.telling.tell.Goals as goal

pub returns : goal.returns
returns c = record {
  number = ap (λ (x : Shown). x.word) c.show-s.ensures;
  count = ap (λ (x : Shown). x.count) c.show-s.ensures;
  few = few-numbers c.args.answer;
  numbers = ap (λ (x : Shown). x.numbers) c.show-s.ensures;
}
