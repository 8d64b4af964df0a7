-- `wurzsige::opening::open_memory` meets its contract: too few words, a refused design, an accepted one. Assumes nothing.
use native.Mathlib.Omega.{arith}
use Rattle.wurzsige.specs.Calls.{arrays}
use Rattle.wurzsige.proofs.OpenTaking.{few-design-opened, few-held-opened, refused-taken, accepted-design, accepted-taken}
use Rattle.wurzsige.proofs.opening.open_memory.Goals as goal

pub returns-then-design-lt-DESIGN_WORDS : goal.returns-then-design-lt-DESIGN_WORDS
returns-then-design-lt-DESIGN_WORDS c = few-design-opened _ _ _ _ _ _ _ c.short.ensures _ c.if-design-lt-DESIGN_WORDS.true

pub returns-then-held-lt-HELD_WORDS : goal.returns-then-held-lt-HELD_WORDS
returns-then-held-lt-HELD_WORDS c = few-held-opened _ _ _ _ _ _ _ c.short-then-held-lt-HELD_WORDS.ensures _ c.if-held-lt-HELD_WORDS.true

pub returns-in_default : goal.returns-in_default
returns-in_default c = let v = c.in_default.is in
    refused-taken _ _ _ _ _ _ c.if-design-lt-DESIGN_WORDS.false c.if-held-lt-HELD_WORDS.false _ _ _ _ c.read_catalogued-reading.ensures.leaves _ _ _ _ v (λ x. arrays (c.read_catalogued-reading.ensures.keeps.catalog _ _ v x) (c.read_catalogued-reading.ensures.keeps.keys _ _ v x))

pub put_design-requires : goal.put_design-requires
put_design-requires c = let w = accepted-design _ _ _ _ _ _ _ _ c.read_catalogued-reading.ensures.leaves _ c.in-Accepted.is (record { at = λ j. omega (arith, c.shared_slice_known-1.given j) }) in
    (omega (arith, c.if-design-lt-DESIGN_WORDS.false), w.tables, w.constraints, w.fillings)

pub returns : goal.returns
returns c = let v = c.in-Accepted.is in
    accepted-taken _ _ _ _ _ _ c.if-design-lt-DESIGN_WORDS.false c.if-held-lt-HELD_WORDS.false _ _ _ _ c.read_catalogued-reading.ensures.leaves _ _ _ v
    (record { at = λ j. omega (arith, c.shared_slice_known-1.given j) })
    (record { number = λ j. omega (arith, c.slice_known-7-1.given j); issue = λ j. omega (arith, c.slice_known-8-1.given j) })
    _ _ c.put_design.ensures c.store_words.ensures (c.read_catalogued-reading.ensures.opens _ v)
