-- What a query is asked for in the code, what it draws from a set of lists, and what one that is referred first stands on (02, Req 02 and 03). Assumes
-- nothing.
use Rattle.std.specs.Prelude.{ℕ, ◌≡◌, true, false, List, get_or}
use Rattle.std.proofs.lemmas.List.Edits.{sets}
use Rattle.finite.specs.Sums.{sum_over}
use Rattle.model.specs.Cell.{numberless, amount}
use Rattle.model.specs.Database.{Database}
use Rattle.model.specs.Query.{words_of}
use Rattle.model.specs.Runs as Runs
use Rattle.model.specs.Runs.{as_lists, as_total, taken, pair_for, output_fits}
use Rattle.model.specs.Answers.{Answer, query_ground, written_with}
use Rattle.state.specs.declared.held.HeldValue.{HeldValue}
use Rattle.state.specs.declared.operation.Query.{Query}
use Rattle.state.specs.Meaning.{cell_of, holding_of, pair_of, query_of}
use Rattle.state.specs.Lent.{State, scheme, database, cache}
use Rattle.query.specs.Lists.{listed_answer, totalled_answer}
use Rattle.operate.specs.declared.output.Output.{Output}
use Rattle.operate.specs.declared.output.Output.TheVariants.{Lists, Total}

-- with `room` answer words lent
abbrev pub output_of : Output → ℕ → Runs.Output
output_of Lists room = as_lists room
output_of (Total p c) room = as_total p c

-- the answer that the lists ls of D give
unfoldable pub drawn : Database → List (List ℕ) → Runs.Output → Answer
drawn D ls (as_lists room) = listed_answer ls room
drawn D ls (as_total p c) = totalled_answer (sum_over (λ rs. amount (D.cell (get_or rs p 0) c)) ls)

-- the answer a is given, and the words lent, w before and w' after, are the lists' if it has lists
pub record Drawn (D : Database) (ls : List (List ℕ)) (out : Runs.Output) (w w' : List ℕ) (a : Answer) : Type 0 where
  pub answer : a ≡ drawn D ls out
  pub words : w' ≡ sets w 0 (written_with a (words_of ls))

-- neither 5 nor 9 applies, the probe has no ground, and a REFER would take the query's pair, which is v
pub record Referring (s : State) (q : Query) (out : Runs.Output) (v : HeldValue) : Type 0 where
  pub fit : output_fits (scheme s) (query_of q) out ≡ true
  pub full : numberless (cell_of q.value) ≡ false
  pub groundless : query_ground (scheme s) (database s) (cache s) (query_of q) ≡ 0
  pub pair : pair_of v ≡ pair_for (scheme s) (query_of q)
  pub taken : taken (scheme s) (holding_of s.held) (pair_of v) ≡ true
