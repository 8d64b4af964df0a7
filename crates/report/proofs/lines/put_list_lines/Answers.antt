-- `report::lines::put_list_lines` meets its contract. The invariant: the lists below i are written, in at most 11 bytes a number. Assumes nothing.
use Prim.Native.Nat.{◌*◌}
use native.Mathlib.Omega.{arith}
use Rattle.finite.proofs.Writing.{written_none, written-more, written-end}
use Rattle.report.specs.Report.{list_lines}
use Rattle.report.proofs.Lengths.{list-line-reach, list-within, list-next, part-long, part-line}
use Rattle.report.proofs.lines.put_list_lines.Goals as goal

pub loop-i-init : goal.loop-i-init
loop-i-init c = record { within = omega arith; room = omega arith; wrote = written_none _ _ _ }

pub put_list_line-z-requires : goal.put_list_line-z-requires
put_list_line-z-requires c =
    let h = list-within _ c.args.p _ c.loop-i-test.true in
    let e = part-long c.args.words.now (c.args.p * c.loop-i.i) c.args.p (omega (arith, h)) in
    (omega arith, omega (arith, h))

pub loop-i-preserved : goal.loop-i-preserved
loop-i-preserved c =
    let h = list-within _ c.args.p _ c.loop-i-test.true in
    let w = rw (part-line c.args.words.now (c.args.p * c.loop-i.i) c.args.p (omega (arith, h)) c.requires.0) at c.put_list_line-z.ensures in
    record {
      within = omega arith;
      room = omega (arith, list-next c.args.p c.loop-i.i, list-line-reach _ _ _ _ _ (λ k. (c.type_inv.words k).fits) _ _ c.requires.0 w);
      wrote = written-more _ _ _ _ _ _ _ _ c.loop-i.invariant.wrote w;
    }

pub returns : goal.returns
unfolding list_lines
returns c = written-end _ _ _ _ _ _ _ c.loop-i.invariant.within (omega arith) c.loop-i.invariant.wrote
