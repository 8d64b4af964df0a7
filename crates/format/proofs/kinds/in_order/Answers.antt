-- `format::kinds::in_order` meets its contract: each early return is one cause. Assumes nothing.
use native.Mathlib.Omega.{arith}
use Prim.Native.Nat.{ℕ}
use mathlib.Core.Path.{◌≡◌, sym, ◌∙◌}
use Rattle.format.proofs.KindLaws.{order-late, order-full, order-none}
use Rattle.format.proofs.kinds.in_order.Goals as goal

pub returns-then-is_late : goal.returns-then-is_late
returns-then-is_late c = record {
  ordered = λ e. absurd (let z : ◌≡◌ {A = ℕ} 0 1 = cc in omega arith);
  refused = λ n e. let z : ◌≡◌ {A = ℕ} 3 n = cc in (sym z ∙ order-late _ _ _ (sym c.is_late.ensures ∙ c.if-is_late.true), λ y. omega arith);
}

pub returns-then-most_of-count_of : goal.returns-then-most_of-count_of
returns-then-most_of-count_of c = record {
  ordered = λ e. absurd (let z : ◌≡◌ {A = ℕ} 0 1 = cc in omega arith);
  refused = λ n e. let z : ◌≡◌ {A = ℕ} 4 n = cc in (sym z ∙ order-full _ _ _ (sym c.is_late.ensures ∙ c.if-is_late.false) (omega (arith, c.most_of.ensures, c.count_of.ensures)), λ y. omega arith);
}

pub returns : goal.returns
returns c = record {
  ordered = λ e. order-none _ _ _ (sym c.is_late.ensures ∙ c.if-is_late.false) (omega (arith, c.most_of.ensures, c.count_of.ensures));
  refused = λ n e. absurd (let z : ◌≡◌ {A = ℕ} 0 1 = cc in omega arith);
}
