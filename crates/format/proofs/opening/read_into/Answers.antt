-- `format::opening::read_into` meets its contract: a refusal writes no row, an accepted design is copied out. Assumes nothing.
use Prim.Native.Nat.{ℕ}
use native.Mathlib.Omega.{arith}
use mathlib.Core.Path.{ap, ◌∙◌}
use mathlib.Core.List.{List, ◌++◌}
use lib.ListN.{drop, replicate}
use lib.Seq.{length-take-le}
use Rattle.std.proofs.Common.{rules}
use Rattle.format.proofs.Lent.{from-none, leaves-refused, leaves-accepted}
use Rattle.format.proofs.Verdicts.{opens-refused, opens-copied}
use Rattle.format.proofs.opening.read_into.Goals as goal

pub returns-in_default : goal.returns-in_default
returns-in_default c = record {
  leaves = leaves-refused _ _ (from-none _ _) _ _ _ c.read_rows-reading.ensures.read _ _ _ _ _ c.in_default.is;
  opens = opens-refused _ _ _ _ c.in_default.is _ _ _ _;
}

pub copy_from_slice-requires : goal.copy_from_slice-requires
copy_from_slice-requires c = let l = length-take-le 4096 c.args.cells.now c.requires.0 in omega arith

pub copy_from_slice-requires-2 : goal.copy_from_slice-requires-2
copy_from_slice-requires-2 c = let l = length-take-le 4096 c.args.issues.now c.requires.1 in omega arith

pub copy_from_slice-requires-3 : goal.copy_from_slice-requires-3
copy_from_slice-requires-3 c = let l = length-take-le 512 c.args.tables.now c.requires.2 in omega arith

pub returns : goal.returns
returns c =
    let cells = ap (λ (l : List ℕ). l ++ drop 4096 c.args.cells.now) c.copy_from_slice.ensures.after in
    let issues = ap (λ (l : List ℕ). l ++ drop 4096 c.args.issues.now) c.copy_from_slice-2.ensures.after in
    let tables = ap (λ (l : List ℕ). l ++ drop 512 c.args.tables.now) c.copy_from_slice-3.ensures.after in
    let marks = ap (λ (l : List ℕ). l ++ drop 512 c.args.marks.now)
    (c.fill.ensures.after (λ y e. search rules) ∙ ap (λ (n : ℕ). replicate n 0) (length-take-le 512 c.args.marks.now c.requires.3)) in
    record {
      leaves = leaves-accepted _ _ (from-none _ _) _ _ _ c.read_rows-reading.ensures.read _ _ _ _ c.in-Accepted.is _ _ _ _ cells issues tables marks;
      opens = opens-copied _ _ _ _ _ _ c.read_rows-reading.ensures.opens (omega arith) (omega arith) (omega arith) _ _ _ _ _ _ cells issues tables;
    }
