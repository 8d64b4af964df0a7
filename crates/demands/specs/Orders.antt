-- A few commands that stand behind the END of a design, with their bytes: 0x1E, which removes a row; 0x17, which names a desk; 0x20, REFER with an issue; and 0x1A, which
-- holds a range. With them every lawful state is reached (Given.antt). Assumes nothing.
use Rattle.std.specs.Prelude.{ℕ, ◌/◌, ◌%◌, ◌^◌, ◌<◌, List, [], ◌∷◌, ◌++◌}
use Rattle.model.specs.Ranges.{Range}
use Rattle.model.specs.Holding.{Pair}
use Rattle.model.specs.Runs as Runs
use Rattle.state.specs.Changes as Changes
use Rattle.command.specs.Bytes.{u32_bytes}
use Rattle.run.specs.Moments.{Action, operation, change}

pub data Order : Type 0 where
  removing : ℕ → Order
  naming : ℕ → Order
  referring : Pair → Order
  holding_range : Range → Order

unfoldable pub order_bytes : Order → List ℕ
order_bytes (removing n) = 0x1E ∷ n % 256 ∷ n / 256 ∷ []
order_bytes (naming d) = 0x17 ∷ d ∷ []
order_bytes (referring p) = 0x20 ∷ p.filling ∷ (u32_bytes p.value.number ++ (p.value.issue ∷ []))
order_bytes (holding_range r) = 0x1A ∷ r.filling ∷ (u32_bytes r.low ++ u32_bytes r.high)

unfoldable pub order_action : Order → Action
order_action (removing n) = change (Changes.remove n)
order_action (naming d) = operation (Runs.name d)
order_action (referring p) = operation (Runs.refer p)
order_action (holding_range r) = operation (Runs.refer_range r)

-- its operands have their widths
unfoldable pub OrderFits : Order → Type 0
OrderFits (removing n) = n < 2 ^ 16
OrderFits (naming d) = d < 2 ^ 8
OrderFits (referring p) = (p.filling < 2 ^ 8) × (p.value.number < 2 ^ 32) × (p.value.issue < 2 ^ 8)
OrderFits (holding_range r) = (r.filling < 2 ^ 8) × (r.low < 2 ^ 32) × (r.high < 2 ^ 32)

unfoldable pub orders_bytes : List Order → List ℕ
orders_bytes [] = []
orders_bytes (o ∷ os) = order_bytes o ++ orders_bytes os

unfoldable pub orders_actions : List Order → List Action
orders_actions [] = []
orders_actions (o ∷ os) = order_action o ∷ orders_actions os
