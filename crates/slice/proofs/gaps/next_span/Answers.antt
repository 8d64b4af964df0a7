-- `slice::gaps::next_span` meets its contract. Assumes nothing.
use mathlib.Core.Path.{sym, subst}
use Rattle.std.specs.Prelude.{Option}
use Rattle.state.specs.Meaning.{column_of}
use Rattle.slice.specs.declared.fetch.Fetch.{Fetch}
use Rattle.slice.specs.Fetches.{NextSpan, fetches_in}
use Rattle.slice.proofs.SeekLaws.{sought-as, next-none, next-by}
use Rattle.slice.proofs.gaps.next_span.Goals as goal

pub returns-then-n-i : goal.returns-then-n-i
returns-then-n-i c = next-none _ _ c.requires _ _ _ (sought-as c.span_fetch.ensures (c.seek-i.ensures c.requires)) c.if-n-i.true

pub returns : goal.returns
returns c = let s = c in
    subst (λ (o : Option Fetch). NextSpan (fetches_in s.args.words.now s.args.n) (column_of s.args.k) s.args.x o) (sym s.then_some.ensures)
    (next-by _ _ s.requires _ _ _ (sought-as s.span_fetch.ensures (s.seek-i.ensures s.requires)) s.if-n-i.false _ _ s.fetch_at-f.ensures s.is_span_of.ensures)
