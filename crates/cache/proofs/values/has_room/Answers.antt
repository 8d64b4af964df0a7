use Prim.Native.Nat.{ℕ}
use mathlib.Core.Path.{ap, sym, ◌∙◌}
use lib.Dec.{ltb}
use Rattle.model.specs.Holding.{places}
use Rattle.state.specs.HeldWords.{words_held}
use Rattle.state.specs.Lawful.{own_count}
use Rattle.lawful.proofs.HeldLaws.{own_is}
use Rattle.cache.proofs.values.has_room.Goals as goal

pub returns : goal.returns
returns c = let h = words_held c.args.held.now in ap (λ (n : ℕ). ltb n places) (c.own_count.ensures ∙ ap (own_count h) c.named_desk.ensures ∙ sym (own_is h _))
