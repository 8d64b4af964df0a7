-- `cache::values::place` meets its contract: a search among the held values. Assumes nothing.
use Rattle.std.proofs.Common.{rules}
use borrow.Author.Tests.{tests}
use mathlib.Core.Path.{◌≡◌}
use mathlib.Core.Bool.{true, false}
use Rattle.std.proofs.lemmas.Iterator.{first_from_Range}
use Rattle.state.specs.HeldWords.{words_held}
use Rattle.cache.proofs.HeldShifts.{is_at, placed_first}
use Rattle.cache.proofs.values.place.Goals as goal

pub returns : goal.returns
returns c = let h = words_held c.args.held.now in let v = c.args.v in let d = c.named_desk.result in
    placed_first h v d c.named_desk.ensures _ c.value_count.ensures c.find.result
    (first_from_Range _ _ _ c.find.result (λ i. is_at h v d i ≡ true) (λ i. is_at h v d i ≡ false) c.find.ensures.ran
    (λ x q k. search (rules, tests)) (λ x q k. search (rules, tests)))
