-- The smallest knot is the set that the least weight tells: what the code answers is what document 02 asks for. Assumes nothing.
use Prim.Native.Nat.{ℕ, ◌≤◌, ◌<◌}
use native.Mathlib.Omega.{arith}
use mathlib.Core.Path.{◌≡◌, sym, ap, ◌∙◌}
use mathlib.Core.Logic.{◌⊎◌, inl, inr, ⊎_elim}
use mathlib.Core.Bool.{true, false}
use mathlib.Core.List.{List}
use lib.ListN.{length}
use Rattle.finite.proofs.Bools.{dec, order}
use Rattle.model.specs.Scheme.{Scheme}
use Rattle.model.specs.Knot.{kept, StillUneven, Rising, none, more, SetOf, Knot, is_uneven_scheme, knot_of}
use Rattle.model.specs.Answers.{even, knot, knot_answer}
use Rattle.model.proofs.EvenLaws.{Few}
use Rattle.model.proofs.KnotOrder.{rising-short, Earlier}
use Rattle.model.proofs.KnotLaws.{kept-uneven, knot-is, knot-answered, even-answered}
use Rattle.state.specs.declared.design.Design.{Design}
use Rattle.state.specs.Design.{InRange}
use Rattle.state.specs.Meaning.{scheme_of, mask_members}
use Rattle.even.specs.Walks.{weight_of, bit_of, far, knot_weight, mask_in}
use Rattle.even.proofs.Walks.{cost}
use Rattle.even.proofs.KnotWeight.{members, members-rising, members-cost, least-list, Lightest, found-list}
use Rattle.even.proofs.KnotMask.{earlier-cheaper, mask_is, below-far, members-read}

wider : {n m i : ℕ} {ks : List ℕ} → n ≤ m → Rising n i ks → Rising m i ks
wider h none = none
wider {n} {m} h (more k a b r) = let l : k < m = omega arith in more k a l (wider h r)

module _ (S : Scheme) (few : Few S) (small : S.constraints ≤ 16) where
  abbrev n : ℕ
  n = S.constraints

  -- an uneven set is not empty
  some : (ks : List ℕ) → StillUneven S ks → 0 < length ks
  unfolding kept
  some ks u = omega (arith, u.2.cyclic.first)

  -- of the smallest knot and another set that is still uneven, the first is the other or costs less
  knot-cheap : (ks ls : List ℕ) → Knot S ks → SetOf S ls → StillUneven S ls → (ks ≡ ls) ⊎ (cost weight_of ks < cost weight_of ls)
  knot-cheap ks ls k r u =
      let cheaper : Earlier ks ls → cost weight_of ks < cost weight_of ls = earlier-cheaper (wider small k.rising) (wider small r) in
      ⊎_elim (λ (l : length ks < length ls). inr (cheaper (inl l)))
      (⊎_elim (λ (l : length ks ≡ length ls). ⊎_elim inl (λ b. inr (cheaper (inr (l, b)))) (k.first ls r u l)) (λ (l : length ls < length ks). absurd (omega (arith, k.fewest ls r u))))
      (order (length ks) (length ls))

  module _ (f : Lightest S) where
    -- the members of the set that was found
    found : List ℕ
    found = members n f.set

    found-cost : cost weight_of found ≡ knot_weight S
    unfolding found
    found-cost = members-cost weight_of n f.set ∙ f.weighs

    found-rising : SetOf S found
    unfolding found
    found-rising = members-rising n f.set

    found-uneven : StillUneven S found
    unfolding found
    found-uneven = f.uneven

    -- are the smallest knot
    is-knot : (ks : List ℕ) → Knot S ks → ks ≡ found
    is-knot ks k =
        ⊎_elim (λ e. e) (λ l. absurd (omega (arith, l, found-cost, least-list S few ks k.rising k.uneven))) (knot-cheap ks found k found-rising found-uneven)

    -- and can be read off the weight
    found-read : mask_members (mask_in (knot_weight S)) ≡ found
    unfolding found
    found-read =
        ap (λ (w : ℕ). mask_members (mask_in w)) (sym found-cost) ∙
        ap mask_members (mask_is (wider small found-rising) (some found found-uneven) ∙ members-cost bit_of n f.set) ∙ members-read n small f.set

  -- THE ANSWER: a set weighs less than `far`, and the members of the mask are the smallest knot
  pub knot-told : knot_weight S < far → knot (mask_members (mask_in (knot_weight S))) ≡ knot_answer S
  knot-told l =
      let f = found-list S few l in
      let t = kept-uneven S few (found-rising f) (found-uneven f) in
      ap knot (found-read f ∙ sym (is-knot f (knot_of S) (knot-is S few t))) ∙ sym (knot-answered S few t)

  -- or none does, and the design is even
  pub even-told : far ≤ knot_weight S → even ≡ knot_answer S
  even-told l = sym (even-answered S few (go (dec (is_uneven_scheme S))))
    where
      go : (is_uneven_scheme S ≡ true) ⊎ (is_uneven_scheme S ≡ false) → is_uneven_scheme S ≡ false
      go (inr t) = t
      go (inl t) =
          let k = knot-is S few t in
          let r = wider small k.rising in
          absurd (omega (arith, least-list S few (knot_of S) k.rising k.uneven, below-far r (some (knot_of S) k.uneven) (omega (arith, rising-short r (omega arith)))))

-- the same of a design, and of the weight that the code found
module _ (d : Design) (range : InRange d) (w : ℕ) (is : w ≡ knot_weight (scheme_of d)) where
  few-tables : Few (scheme_of d)
  unfolding scheme_of
  few-tables i l = range.target-table i

  few-constraints : (scheme_of d).constraints ≤ 16
  unfolding scheme_of
  few-constraints = range.constraints

  pub told-knot : w < far → knot (mask_members (mask_in w)) ≡ knot_answer (scheme_of d)
  told-knot l = ap (λ (x : ℕ). knot (mask_members (mask_in x))) is ∙ knot-told (scheme_of d) few-tables few-constraints (omega (arith, is))

  pub told-even : far ≤ w → even ≡ knot_answer (scheme_of d)
  told-even l = even-told (scheme_of d) few-tables few-constraints (omega (arith, is))
