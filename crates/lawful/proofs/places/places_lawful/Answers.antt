use native.Mathlib.Omega.{arith}
use Rattle.std.proofs.Common.{rules}
use Rattle.std.proofs.lemmas.Iterator.{YieldsList-from_range}
use Rattle.finite.proofs.Ranges.{all_in-range}
use Rattle.state.specs.Lawful.{used_or}
use Rattle.lawful.proofs.places.places_lawful.Goals as goal

pub returns : goal.returns
returns g c = λ p q hp hq. let n = c.args.places in
    all_in-range n (λ i. used_or i c.args.count (p i) (q i)) _ _ _ c.all.ensures.ran (YieldsList-from_range 0 n n (cc) (omega arith))
    (λ x b f k. (search rules, search (rules, k.met.1, hp x, hq x)))
