-- A design that is accepted into lent buffers is a sound state with nothing held. Assumes nothing.
use Prim.Native.Nat.{ℕ}
use mathlib.Core.Path.{◌≡◌, subst}
use mathlib.Core.Bool.{true}
use mathlib.Core.List.{List, []}
use Rattle.state.specs.Cells.{Cells}
use Rattle.state.specs.declared.held.Held.{Held}
use Rattle.state.specs.Held.{none_held}
use Rattle.state.specs.Lent.{lent, sound}
use Rattle.state.proofs.LentWords.{zero-none}
use Rattle.lawful.proofs.RowsLaws.{Stored}
use Rattle.format.specs.declared.verdict.Verdict.TheVariants.{Accepted}
use Rattle.format.specs.declared.verdict.DesignReading.{DesignReading}
use Rattle.format.specs.Reading.{read_into, Leaves}
use Rattle.format.proofs.Small.{Small}
use Rattle.script.specs.Step.{outputs}
use Rattle.script.specs.JustRead.{buffers}
use Rattle.script.proofs.JustRead.{start-sound}

pub started : (script : List ℕ) (cs₀ : Cells) (ts₀ ms₀ : List ℕ) (r : DesignReading) (cs : Cells) (ts ms : List ℕ) → Leaves (read_into script cs₀ ts₀ ms₀) r cs₀ cs ts₀ ts ms₀ ms →
    Small script → Stored cs → (j : ℕ) → r.verdict ≡ Accepted j → sound (lent r.design cs ts ms none_held) ≡ true
started script cs₀ ts₀ ms₀ r cs ts ms read small stored j v =
    subst (λ (h : Held). sound (lent r.design cs ts ms h) ≡ true) zero-none (start-sound script (buffers cs₀ ts₀ ms₀ (outputs [] [])) r cs ts ms read small stored j v)
