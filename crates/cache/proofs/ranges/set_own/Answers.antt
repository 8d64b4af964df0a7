use Prim.Native.Nat.{ℕ}
use mathlib.Core.Path.{ap}
use native.Mathlib.Omega.{arith}
use Rattle.state.specs.HeldWords.{words_held, with_ranges_at}
use Rattle.state.proofs.HeldWords.{holds_same}
use Rattle.cache.proofs.ranges.set_own.Goals as goal

pub set_ranges-requires : goal.set_ranges-requires
set_ranges-requires c = let p = c.requires in (omega (arith, c.named_desk-d.ensures, p.0), p.1, p.2)

pub returns : goal.returns
returns c = let s = c.args in holds_same _ _ c.set_ranges.ensures _ (ap (λ (d : ℕ). with_ranges_at (words_held s.held.now) d s.s) c.named_desk-d.ensures)
