-- `slice::fetched::covers_at` meets its contract. Assumes nothing.
use mathlib.Core.Path.{◌∙◌, ap}
use borrow.Author.Tests.{lt-ltb}
use Rattle.finite.proofs.Bools.{and-go}
use Rattle.model.specs.Missing.{covers}
use Rattle.state.specs.Meaning.{cell_of, column_of}
use Rattle.slice.specs.declared.fetch.Fetch.{Fetch}
use Rattle.slice.specs.Fetches.{fetch_of}
use Rattle.slice.proofs.fetched.covers_at.Goals as goal

pub returns-then-i-n : goal.returns-then-i-n
returns-then-i-n c = let s = c in and-go _ _ (lt-ltb _ _ c.if-i-n.true) (c.covers_value.ensures ∙ ap (λ (f : Fetch). covers (fetch_of f) (column_of s.args.k) (cell_of s.args.v)) c.fetch_at.ensures)
