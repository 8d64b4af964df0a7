-- The tests of cause 12 say what `LawfulState` says, and nothing else. Assumes nothing.
use Prim.Native.Nat.{ℕ, zero, suc, ◌≤◌, ◌<◌}
use native.Mathlib.Omega.{arith}
use mathlib.Core.Path.{◌≡◌, sym, ap, fun_ext, ◌∙◌}
use mathlib.Core.Logic.{◌↔◌, ⊎_elim}
use mathlib.Core.Bool.{Bool, true, false, cond, and-eq-true_iff}
use mathlib.Core.List.{List}
use borrow.Author.Tests.{ltb-true, ltb-false, eqb-true, eq-eqb, ne_eqb}
use lib.Dec.{eqb, ltb}
use lib.ListN.{get_or, take, get_or-eq_default, length-take}
use lib.Seq.{get_or-take}
use Rattle.finite.proofs.Bools.{dec, both, refute}
use Rattle.finite.proofs.Search.{all-at, all_true}
use Rattle.model.specs.Cache.{RowSet, Smallest}
use Rattle.model.specs.Rounds.{reached}
use Rattle.model.specs.Holding.{held_in}
use Rattle.model.specs.Runs.{marked, reload_levels}
use Rattle.model.proofs.Loads.{one-smallest}
use Rattle.model.proofs.RunLaws.{held-smallest}
use Rattle.state.specs.Meaning.{holding_of, database_of}
use Rattle.state.specs.Lawful.{lawful_design, lawful_rows, lawful_held, lawful_marks}
use Rattle.state.specs.Lent.{State, scheme, database, lawful}
use Rattle.lawful.specs.LawfulState.{LawfulState}
use Rattle.lawful.proofs.DesignLaws.{design-says, design-if}
use Rattle.lawful.proofs.RowsLaws.{Stored, rows-say, rows-if}
use Rattle.lawful.proofs.HeldLaws.{held-says, held-if}

-- ---- marks

-- a mark says of one row whether it is in the set
mark-bit : (b : Bool) (n : ℕ) → n ≡ cond b 1 0 → (n ≤ 1) × (eqb n 1 ≡ b)
mark-bit true n e = (omega arith, eq-eqb n 1 e)
mark-bit false n e = (omega arith, ne_eqb n 1 (λ q. omega arith))

bit-mark : (b : Bool) (n : ℕ) → n ≤ 1 → eqb n 1 ≡ b → n ≡ cond b 1 0
bit-mark b zero l e = ap (λ (c : Bool). cond c 1 0) e
bit-mark b (suc zero) l e = ap (λ (c : Bool). cond c 1 0) e
bit-mark b (suc (suc n)) l e = absurd (omega arith)

-- the first 512 marks
module _ (m : List ℕ) where
  marked-at : (r : ℕ) → r < 512 → marked (take 512 m) r ≡ eqb (get_or m r 0) 1
  unfolding marked
  marked-at r l = ap (λ (n : ℕ). eqb n 1) (get_or-take 512 m r 0 l)

  marked-past : (r : ℕ) → 512 ≤ r → marked (take 512 m) r ≡ false
  unfolding marked
  marked-past r l = ap (λ (n : ℕ). eqb n 1) (get_or-eq_default (take 512 m) 0 (omega (arith, length-take 512 m)))

  -- marks that are 1 on exactly the rows of X, all of which are below 512
  marked-is : (X : RowSet) → ((r : ℕ) → X r ≡ true → r < 512) → ((r : ℕ) → r < 512 → get_or m r 0 ≡ cond (X r) 1 0) → marked (take 512 m) ≡ X
  marked-is X inside h =
      fun_ext (λ r. ⊎_elim (λ (q : ltb r 512 ≡ true). let l = ltb-true r 512 q in marked-at r l ∙ (mark-bit (X r) _ (h r l)).1)
      (λ (q : ltb r 512 ≡ false). let l = ltb-false r 512 q in marked-past r l ∙ sym (refute (X r) (λ x. let g = inside r x in omega arith)))
      (dec (ltb r 512)))

-- the rows that a load of all held values from nothing reaches
abbrev smallest_of : State → RowSet
smallest_of s = reached (reload_levels (scheme s) (database s) (holding_of s.held))

is-smallest : (s : State) → Smallest (scheme s) (database s) (held_in (scheme s) (holding_of s.held)) (smallest_of s)
is-smallest s = held-smallest (scheme s) (database s) (holding_of s.held)

below : (s : State) (r : ℕ) → smallest_of s r ≡ true → r < 512
unfolding database_of
below s r e = (database s).finite r ((is-smallest s).meets.rows r e)

module _ (s : State) (e : lawful_marks s.design s.cells s.tables s.held s.marks ≡ true) where
  mark-at : (r : ℕ) → r < 512 → get_or s.marks r 0 ≡ cond (smallest_of s r) 1 0
  unfolding lawful_marks
  mark-at r l = eqb-true _ _ (all-at 512 _ e r l)

  marks-bits : (r : ℕ) → r < 512 → get_or s.marks r 0 ≤ 1
  marks-bits r l = (mark-bit (smallest_of s r) _ (mark-at r l)).0

  marks-smallest : Smallest (scheme s) (database s) (held_in (scheme s) (holding_of s.held)) (marked (take 512 s.marks))
  marks-smallest = rw (marked-is s.marks (smallest_of s) (below s) mark-at) (is-smallest s)

marks-if : (s : State) → ((r : ℕ) → r < 512 → get_or s.marks r 0 ≤ 1) →
    Smallest (scheme s) (database s) (held_in (scheme s) (holding_of s.held)) (marked (take 512 s.marks)) →
    lawful_marks s.design s.cells s.tables s.held s.marks ≡ true
unfolding lawful_marks
marks-if s b w =
    all_true 512 _
    (λ r l. eq-eqb _ _ (bit-mark (smallest_of s r) _ (b r l) (sym (marked-at s.marks r l) ∙ one-smallest w (is-smallest s) r)))

-- ---- the whole

pub lawful-says : (s : State) → Stored s.cells → lawful s ≡ true → LawfulState s
unfolding lawful
lawful-says s u e =
    let p = (and-eq-true_iff (lawful_design s.design) _).0 e in
    let q = (and-eq-true_iff (lawful_rows s.design s.cells s.tables) _).0 p.1 in
    let h = (and-eq-true_iff (lawful_held s.design s.held) _).0 q.1 in
    record {
      design = design-says s.design p.0;
      rows = rows-say s.design s.cells s.tables u q.0;
      held = held-says s.design s.held p.0 h.0;
      marks = marks-bits s h.1;
      smallest = marks-smallest s h.1;
    }

pub lawful-if : {s : State} → LawfulState s → lawful s ≡ true
unfolding lawful
lawful-if {s} w = both (design-if w.design) (both (rows-if w.rows) (both (held-if (design-if w.design) w.held) (marks-if s w.marks w.smallest)))

-- cause 12 does not apply exactly to the states that are lawful in plain terms
pub lawful-is : (s : State) → Stored s.cells → lawful s ≡ true ↔ LawfulState s
lawful-is s u = (lawful-says s u, lawful-if)
