-- `record::records::record_in` meets its contract: part by part. Assumes nothing.
use Rattle.std.proofs.Common.{rules}
use borrow.Author.Tests.{tests}
use Rattle.state.specs.Held.{no_value, no_ranges}
use Rattle.state.specs.HeldWords.{words_held}
use Rattle.finite.proofs.Made.{tab_from-fn}
use Rattle.record.proofs.RecordWords.{record_is, values-all-read, desks-all-read}
use Rattle.record.proofs.records.record_in.Goals as goal

pub returns : goal.returns
returns c =
    record_is (words_held c.args.held.now) _ _ _ _ c.named_desk.ensures c.value_count.ensures
    (values-all-read _ _ (tab_from-fn no_value _ c.from_fn.ensures.items (λ i y q l k. search (rules, tests))))
    (desks-all-read _ _ (tab_from-fn no_ranges _ c.from_fn-2.ensures.items (λ e y q l k. search (rules, tests))))
