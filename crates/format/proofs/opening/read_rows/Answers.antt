-- `format::opening::read_rows` meets its contract: the first pass, the catalog, and cause 6 before the pass's own verdict. Assumes nothing.
use native.Mathlib.Omega.{arith}
use mathlib.Core.Path.{refl}
use Rattle.std.proofs.lemmas.Option.{MatchOption-at_none, MatchOption-at_some}
use Rattle.format.proofs.Verdicts.{refusal-at, rows-twice, rows-refused, rows-accepted}
use Rattle.format.proofs.opening.read_rows.Goals as goal

pub row_place-requires : goal.row_place-requires
row_place-requires c = let z = MatchOption-at_some _ _ _ c.in-Some.is (c.first_repeat.ensures _ c.build.ensures.demands.links) in
    (c.read_commands-stop.ensures.range, omega (arith, c.read_commands-stop.ensures.most, z.1), omega (arith, c.read_commands-stop.auto.issues, c.requires.1))

pub returns-in-Some : goal.returns-in-Some
returns-in-Some c = let z = MatchOption-at_some _ _ _ c.in-Some.is (c.first_repeat.ensures _ c.build.ensures.demands.links) in
    let p = rows-twice _ _ _ _ _ _ c.read_commands-stop.ensures c.build.ensures _ z.0 z.1 _
    (refusal-at _ _ _ c.refusal.ensures (c.row_place.ensures _)) in record { read = p.0; opens = p.1 }

pub returns-in-Refused : goal.returns-in-Refused
returns-in-Refused c = let l = MatchOption-at_none _ _ c.in_default.is (c.first_repeat.ensures _ c.build.ensures.demands.links) in
    let p = rows-refused _ _ _ _ _ _ c.read_commands-stop.ensures c.build.ensures _ refl l _ _ c.in-Refused.is _ c.refusal-in-Refused.ensures in
    record { read = p.0; opens = p.1 }

pub returns-in-Accepted : goal.returns-in-Accepted
returns-in-Accepted c = let l = MatchOption-at_none _ _ c.in_default.is (c.first_repeat.ensures _ c.build.ensures.demands.links) in
    let p = rows-accepted _ _ _ _ _ _ c.read_commands-stop.ensures c.build.ensures _ refl l _ c.in-Accepted.is in record { read = p.0; opens = p.1 }
