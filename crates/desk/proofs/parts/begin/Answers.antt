-- `desk::parts::begin` meets its contract: the first text, and what is left behind it, are the report. Assumes nothing.
use native.Mathlib.Omega.{arith}
use Rattle.desk.proofs.PartLaws.{begins, accepted-more, designed}
use Rattle.desk.proofs.parts.begin.Goals as goal

pub returns : goal.returns
returns c = record {
  begins = λ w. begins _ _ _ _ w _ _ _ _ c.read_catalogued-reading.ensures.leaves _ _ _ c.put_first.ensures
      (record { at = λ j. omega (arith, c.shared_slice_known-1.given j) })
      (record {
        number = λ j. omega (arith, c.slice_known-6-1.given j);
        issue = λ j. omega (arith, c.slice_known-7-1.given j);
      }) (omega (arith, c.requires));
  catalogued = λ m. let a = accepted-more _ _ _ _ _ _ _ c.put_first.ensures m in designed _ _ c.put_first.ensures.design _ _ _ (c.read_catalogued-reading.ensures.opens a.0 a.1);
}
