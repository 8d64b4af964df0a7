-- `opener::answering::opener_lawful` meets its contract: the causes in their order, then the ground, then what is read off. Assumes nothing.
use mathlib.Core.Path.{sym, ◌∙◌}
use borrow.Author.Tests.{not-true, not-false}
use Rattle.state.proofs.Arrays.{sized}
use Rattle.state.proofs.HeldWords.{words-sized}
use Rattle.lawful.proofs.Asked.{sound-range, sound-backed, sound-marks, sound-bounded, sound-table, sound-column}
use Rattle.opener.proofs.AskedLaws.{fillings-low, cell-small, opener-5, opener-9, opener-open, opener-read}
use Rattle.opener.proofs.answering.opener_lawful.Goals as goal

pub returns-then-not-is_column : goal.returns-then-not-is_column
returns-then-not-is_column c = opener-5 _ c.requires.held_value _ _ (sym c.is_column.ensures ∙ not-true _ c.if-not-is_column.true-raw)

pub returns-then-is_numberless : goal.returns-then-is_numberless
returns-then-is_numberless c = let k = sym c.is_column.ensures ∙ not-false _ c.if-not-is_column.false-raw in
    opener-9 _ c.requires.held_value _ _ k (sym c.is_numberless.ensures ∙ c.if-is_numberless.true)

pub search-found-requires : goal.search-found-requires
search-found-requires c = let s = c in
    let k = sym c.is_column.ensures ∙ not-false _ c.if-not-is_column.false-raw in record {
      in_range = (
        sound-range _ s.requires.held_value (sized s.args.design _ s.well_formed.0),
        sound-marks _ s.requires.held_value,
        sound-bounded _ s.requires.held_value (words-sized s.args.held.now),
        sound-table _ s.requires.held_value _ k,
        sound-column _ s.requires.held_value _ k,
      );
      indexed = (_, s.requires.catalogued.index);
    }

pub returns-then-found-ne0 : goal.returns-then-found-ne0
returns-then-found-ne0 c = let s = c in
    let k = sym c.is_column.ensures ∙ not-false _ c.if-not-is_column.false-raw in
    opener-open _ s.requires.held_value _ _ k (sym c.is_numberless.ensures ∙ c.if-is_numberless.false) _ (c.search-found.ensures _ s.requires.catalogued.index).0 c.if-found-ne0.true

pub leading_rows-requires : goal.leading_rows-requires
leading_rows-requires c = let s = c in
    let k = sym c.is_column.ensures ∙ not-false _ c.if-not-is_column.false-raw in
    record { in_range = (sound-range _ s.requires.held_value (sized s.args.design _ s.well_formed.0), sound-table _ s.requires.held_value _ k, sound-column _ s.requires.held_value _ k); catalogued = (_, s.requires.catalogued) }

pub lowest_opener-requires : goal.lowest_opener-requires
lowest_opener-requires c = let s = c in (sound-range _ s.requires.held_value (sized s.args.design _ s.well_formed.0), sound-backed _ s.requires.held_value, fillings-low _ s.requires.held_value)

pub returns : goal.returns
returns c = let s = c in
    let k = sym c.is_column.ensures ∙ not-false _ c.if-not-is_column.false-raw in
    opener-read _ s.requires.held_value _ _ k (sym c.is_numberless.ensures ∙ c.if-is_numberless.false) _ (c.search-found.ensures _ s.requires.catalogued.index).0 c.if-found-ne0.false
    (record { number = c.note_types.ensures.numbers; issue = c.note_types.ensures.issues })
    (cell-small s.args.v _ s.well_formed.1.1.1.1.1.1.0) _ (c.leading_rows.ensures _ s.requires.catalogued) _ c.lowest_opener.ensures
