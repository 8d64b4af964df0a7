-- 02, Req 01 and 11 of what is answered. Assumes nothing.
use Prim.Native.Nat.{ℕ, ◌-◌, ◌*◌, ◌≤◌}
use native.Mathlib.Omega.{arith}
use mathlib.Core.Path.{◌≡◌, sym, subst, ◌∙◌}
use mathlib.Core.Bool.{true}
use mathlib.Core.List.{List}
use mathlib.Core.Logic.{◌↔◌}
use lib.Dec.{eqb}
use Rattle.finite.specs.Sameness.{listed, remove}
use Rattle.model.specs.Even.{Even, LowestUneven}
use Rattle.model.specs.Knot.{kept, Knot}
use Rattle.model.specs.Holding.{Pair}
use Rattle.model.specs.Ranges.{Range}
use Rattle.model.specs.Runs.{ask, evenness, smallest_knot, refer, refer_range}
use Rattle.model.specs.Answers.{loaded, even, uneven, knot, even_answer, knot_answer}
use Rattle.model.specs.Effects.{effect, reply}
use Rattle.model.proofs.EvenLaws.{Few, even-answer, uneven-answer}
use Rattle.model.proofs.KnotLaws.{knot-even, knot-answer, knot-less}
use Rattle.state.specs.declared.design.Design.{Design}
use Rattle.state.specs.Meaning.{scheme_of}
use Rattle.state.specs.Lent.{State, scheme, sound, answer_at}
use Rattle.lawful.proofs.DesignLaws.{design-says}
use Rattle.lawful.proofs.RowsLaws.{Stored}
use Rattle.lawful.proofs.SoundState.{parts, answer-at}
use Rattle.operate.proofs.EvenBound.{perform-bound, perform-range-bound}

module _ (s : State) (e : sound s ≡ true) where
  -- a lawful design has at most eight tables
  few : Few (scheme s)
  unfolding scheme_of
  few i l = let w = design-says s.design (parts s e).design in omega (arith, (w.constraint i l).target.table, w.tables)

  even-at : answer_at s (ask evenness) ≡ even_answer (scheme s)
  unfolding effect reply
  even-at = answer-at s e (ask evenness)

  knot-at : answer_at s (ask smallest_knot) ≡ knot_answer (scheme s)
  unfolding effect reply
  knot-at = answer-at s e (ask smallest_knot)

  -- THEOREM. 02, Req 01: "A design is uneven if constraints i and j (perhaps the same one) exist where i ends and j starts at one table but at different columns, and j's
  -- target table reaches i's source table along constraints in no or more steps. It prints `even`, or `uneven` with the lowest i and then the lowest j."
  pub even-exactly : (answer_at s (ask evenness) ≡ even) ↔ Even (scheme s)
  even-exactly = let x = even-answer (scheme s) few in (λ h. x.0 (sym even-at ∙ h), λ h. even-at ∙ x.1 h)

  pub uneven-exactly : (i j : ℕ) → (answer_at s (ask evenness) ≡ uneven i j) ↔ LowestUneven (scheme s) i j
  uneven-exactly i j = let x = uneven-answer (scheme s) few i j in (λ h. x.0 (sym even-at ∙ h), λ h. even-at ∙ x.1 h)

  -- THEOREM. 02, Req 01: "In an even design of T tables no REFER takes more than (2 times T) − 1 later rounds, for every row table"; Req 10: "The even design's bound on
  -- rounds covers ranges." Where `even` is answered, every load that is answered on a sound state t with this design, whatever its rows, held values and marks
  pub even-bounds : answer_at s (ask evenness) ≡ even → (t : State) → sound t ≡ true → Stored t.cells → t.design ≡ s.design →
      ((p : Pair) (rows rounds : ℕ) → answer_at t (refer p) ≡ loaded rows rounds → rounds ≤ 2 * s.design.tables - 1) ×
      ((r : Range) (rows rounds : ℕ) → answer_at t (refer_range r) ≡ loaded rows rounds → rounds ≤ 2 * s.design.tables - 1)
  even-bounds h t f u d =
      let v : Even (scheme t) = subst (λ (x : Design). Even (scheme_of x)) (sym d) (even-exactly.0 h) in (
        λ p rows rounds a. subst (λ (x : Design). rounds ≤ 2 * x.tables - 1) d (perform-bound t f u v p rows rounds a),
        λ r rows rounds a. subst (λ (x : Design). rounds ≤ 2 * x.tables - 1) d (perform-range-bound t f u v r rows rounds a),
      )

  -- THEOREM. 02, Req 11: "Report 0x1C prints `knot` and, rising, the numbers of the fewest constraints which, kept without the others, are still uneven; among equals, the
  -- one whose rising numbers come first when compared one by one. It prints `even` for an even design. No smaller set is uneven, and taking any one constraint out
  -- of the printed set leaves an even one."
  pub knot-exactly : (ks : List ℕ) → (answer_at s (ask smallest_knot) ≡ knot ks) ↔ Knot (scheme s) ks
  knot-exactly ks = let x = knot-answer (scheme s) few ks in (λ h. x.0 (sym knot-at ∙ h), λ h. knot-at ∙ x.1 h)

  pub knot-none : (answer_at s (ask smallest_knot) ≡ even) ↔ Even (scheme s)
  knot-none = let x = knot-even (scheme s) few in (λ h. x.0 (sym knot-at ∙ h), λ h. knot-at ∙ x.1 h)

  pub knot-without : (ks : List ℕ) → answer_at s (ask smallest_knot) ≡ knot ks → (k : ℕ) → listed eqb k ks ≡ true → Even (kept (scheme s) (remove eqb k ks))
  knot-without ks h k l = knot-less (scheme s) few ((knot-exactly ks).0 h) k l
