-- `script::steps::answering` meets its contract. Assumes nothing.
use mathlib.Core.Bool.{true}
use Rattle.script.proofs.steps.answering.Goals as goal

pub returns : goal.returns
returns c = λ i. record {
  answer = c.args.answer;
  place = c.place_of-place.ensures i;
  next = c.args.after;
  more = true;
}
