-- The lists that a step answers with have as many words as its QUERY has positions, each, and together no more than are lent. Assumes nothing.
use Prim.Native.Nat.{ℕ, suc, ◌+◌, ◌-◌, ◌*◌, ◌^◌, ◌≤◌, min}
use native.Mathlib.Omega.{arith}
use mathlib.Core.Path.{◌≡◌, refl, ap, subst, ◌∙◌}
use mathlib.Core.Bool.{Bool, true, false, not, cond, and-eq-true_iff}
use mathlib.Core.List.{List}
use borrow.Author.Tests.{leb-true, not-false}
use lib.Dec.{eqb, leb, ltb}
use lib.ListN.{length, length-take}
use Rattle.finite.proofs.Bools.{clash}
use Rattle.model.specs.Cell.{numberless}
use Rattle.model.specs.Scheme.{Scheme, is_column, candidate}
use Rattle.model.specs.Database.{Database}
use Rattle.model.specs.Probe
use Rattle.model.specs.Ranges.{Range, is_range, only_candidates}
use Rattle.model.specs.Holding.{desks, Pair, holds, has_room, holds_range, covers_range, has_range_room, held_in}
use Rattle.model.specs.Even.{lowest_uneven}
use Rattle.model.specs.Knot.{is_uneven_scheme}
use Rattle.model.specs.Opener.{is_open, lowest_filling}
use Rattle.model.specs.Sentence.{reason_text}
use Rattle.model.specs.Runs.{Question, probe, evenness, smallest_knot, opener, reason, as_lists, as_total, refer, drop, name, refer_range, drop_range, output_fits, within_limit, marked, Cache}
use Rattle.model.specs.Query as Q
use Rattle.model.specs.Query.{joins_of, operands_fit, words_of, full_lists, full_total, most_joins}
use Rattle.model.specs.Answers.{Answer, held, no_candidate, ground, sent, even, uneven, knot, named, opened, opened_by, no_opener, absent, even_answer, knot_answer, opener_answer, reason_answer, shown, has_lists, unless, or_answer, is_answered, full_answer, query_answer}
use Rattle.model.specs.Effects.{effect, reply, answer}
use Rattle.model.proofs.ListLaws.{fitting-words}
use Rattle.state.specs.declared.design.Table as State-table
use Rattle.state.specs.declared.design.Constraint as State-constraint
use Rattle.state.specs.declared.design.Filling as State-filling
use Rattle.state.specs.declared.operation.Operation.{Operation}
use Rattle.state.specs.declared.operation.Operation.TheVariants as O
use Rattle.state.specs.Lent.{State, scheme, database, cache, long_enough, lawful, guarded, answer_at}
use Rattle.state.specs.Changes.{Change, put, remove, change_cause, changed_answer, change_answer, rows, change_answer_at}
use Rattle.command.specs.declared.command.Command.TheVariants.{Table, Constraint, Filling, Row, End, Operate, Put, Remove, Unknown, Short}
use Rattle.command.specs.Bytes.{byte_at, u16_at}
use Rattle.command.specs.Commands.{column_at, value_at, held_value_at, range_at, query_at, total_at, operation_width, issued_at, operation_at, design_command_at, operands_at, command_at, width_of, put_row_at}
use Rattle.script.specs.Step.{Outputs, rooms_of, operation_in, Stepped, operated, changing, carried, step_at}
use Rattle.script.proofs.StepLaws.{step_by}
use Rattle.desk.specs.Printed.{lists_in, positions_at}

joins-few : (S : Scheme) (q : Q.Query) → operands_fit S q ≡ true → q.joins ≤ 4
unfolding operands_fit
joins-few S q h =
    let a = (and-eq-true_iff (is_column S q.column) _).0 h in
    leb-true q.joins most_joins ((and-eq-true_iff (leb q.joins most_joins) _).0 a.1).0

-- ---- answers, where a list has p words and `room` are lent

module _ (p room : ℕ) where
  -- the answer's lists fit
  abbrev pub Within : Answer → Type 0
  Within a = has_lists a ≡ true → lists_in a * p ≤ room

  -- behind a cause of refusal
  unless-within : (b : Bool) (n : ℕ) (a : Answer) → (b ≡ false → Within a) → Within (unless b n a)
  unfolding has_lists shown
  unless-within true n a f h = clash h refl
  unless-within false n a f h = f refl h

  or-within : (b : Bool) (a c : Answer) → Within a → Within c → Within (or_answer b a c)
  or-within true a c f g = f
  or-within false a c f g = g

  module _ (S : Scheme) (D : Database) (c : Cache) where
    refer-within : (x : Pair) → Within (answer S D c (refer x))
    unfolding effect has_lists shown
    refer-within x =
        unless-within (not (ltb x.filling S.fillings)) 5 _ (λ _. unless-within (numberless x.value) 9 _ (λ _.
        or-within (not (candidate (S.filling x.filling) x.value)) no_candidate _ (λ h. clash h refl)
        (or-within (holds c.held x) held _ (λ h. clash h refl)
        (unless-within (not (has_room c.held)) 8 _ (λ _ h. clash h refl)))))

    drop-within : (x : Pair) → Within (answer S D c (drop x))
    unfolding effect has_lists shown
    drop-within x =
        unless-within (not (ltb x.filling S.fillings)) 5 _ (λ _. unless-within (numberless x.value) 9 _ (λ _.
        unless-within (not (holds c.held x)) 10 _ (λ _ h. clash h refl)))

    question-within : (q : Question) → Within (reply S D c q).answer
    unfolding reply even_answer knot_answer opener_answer reason_answer has_lists shown
    question-within (probe k v) =
        let g = Probe.probe S D (held_in S c.held) (marked c.marks) k v in
        unless-within (not (is_column S k)) 5 _ (λ _. unless-within (numberless v) 9 _ (λ _. or-within (ltb 0 g) (ground g (Probe.cached_rows D (marked c.marks) k v)) sent (λ h. clash h refl) (λ h. clash h refl)))
    question-within evenness = or-within (ltb (lowest_uneven S) S.constraints) (uneven _ _) even (λ h. clash h refl) (λ h. clash h refl)
    question-within smallest_knot = or-within (is_uneven_scheme S) (knot _) even (λ h. clash h refl) (λ h. clash h refl)
    question-within (reason r bytes) =
        unless-within (not (D.live r)) 5 _ (λ _. or-within (not (marked c.marks r)) absent _ (λ h. clash h refl)
        (unless-within (ltb bytes (length (reason_text S D c.held r))) 11 _ (λ _ h. clash h refl)))
    question-within (opener k v) =
        unless-within (not (is_column S k)) 5 _ (λ _. unless-within (numberless v) 9 _ (λ _.
        or-within (is_open S D k v c) opened _ (λ h. clash h refl)
        (or-within (ltb (lowest_filling S D k v c) S.fillings) (opened_by _ _ _) no_opener (λ h. clash h refl) (λ h. clash h refl))))

    name-within : (d : ℕ) → Within (answer S D c (name d))
    unfolding effect has_lists shown
    name-within d = unless-within (not (ltb d desks)) 5 (named d) (λ _ h. clash h refl)

    load-within : (x : Range) → Within (answer S D c (refer_range x))
    unfolding effect has_lists shown
    load-within x =
        unless-within (not (is_range S x)) 5 _ (λ _. or-within (not (only_candidates S x)) no_candidate _ (λ h. clash h refl)
        (or-within (covers_range c.held x) held _ (λ h. clash h refl)
        (unless-within (not (has_range_room c.held x)) 8 _ (λ _ h. clash h refl))))

    unload-within : (x : Range) → Within (answer S D c (drop_range x))
    unfolding effect has_lists shown
    unload-within x =
        unless-within (not (is_range S x)) 5 _ (λ _. unless-within (not (holds_range c.held x)) 10 _ (λ _ h. clash h refl))

    module _ (q : Q.Query) (four : length q.pairs ≡ 4) (positions : q.joins + 1 ≡ p) where
      -- as many lists as there are
      all-within : operands_fit S q ≡ true → length (words_of (full_lists S D q)) ≤ room → length (full_lists S D q) * p ≤ room
      unfolding full_lists
      all-within fit l =
          let L = full_lists S D q in
          let joins : length (joins_of q) ≡ q.joins = length-take q.joins q.pairs ∙ ap (min q.joins) four ∙ at_most q.joins (joins-few S q fit) in
          subst (λ (k : ℕ). k ≤ room)
          (fitting-words S D D.live q.column q.value (joins_of q) ∙ ap (λ (k : ℕ). length L * suc k) joins ∙
          ap (λ (k : ℕ). length L * k) (one_more q.joins ∙ positions))
          l
        where
          at_most : (j : ℕ) → j ≤ 4 → min j 4 ≡ j
          at_most j l = omega arith

          one_more : (j : ℕ) → suc j ≡ j + 1
          one_more j = omega arith

      query-within : Within (query_answer S D c q (as_lists room))
      unfolding query_answer output_fits within_limit full_answer has_lists shown
      query-within =
          let n = length (words_of (full_lists S D q)) in
          unless-within (not (operands_fit S q)) 5 _ (λ fit. unless-within (numberless q.value) 9 _ (λ _.
          or-within (not (is_answered S D c q)) sent _ (λ h. clash h refl)
          (unless-within (not (leb n room)) 11 _ (λ l _.
          all-within (not-false (operands_fit S q) fit) (leb-true n room (not-false (leb n room) l))))))

    -- a total has no lists
    total-within : (q : Q.Query) (x y : ℕ) → Within (query_answer S D c q (as_total x y))
    unfolding query_answer within_limit full_answer has_lists shown
    total-within q x y =
        unless-within (not (output_fits S q (as_total x y))) 5 _ (λ _. unless-within (numberless q.value) 9 _ (λ _.
        or-within (not (is_answered S D c q)) sent _ (λ h. clash h refl)
        (unless-within (not (ltb (full_total S D q x y) (2 ^ 64))) 13 _ (λ _ h. clash h refl))))

-- ---- a step

module _ (s : State) (out : Outputs) (script : List ℕ) (i : ℕ) where
  abbrev Here : Answer → Type 0
  Here a = Within (positions_at script i) (length out.words) a

  guarded-within : (a : Answer) → Here a → Here (guarded s a)
  guarded-within a f = unless-within _ _ (not (long_enough s)) 7 _ (λ _. unless-within _ _ (not (lawful s)) 12 _ (λ _. f))

  -- a change of the rows has no lists
  change-within : (x : Change) → Here (change_answer_at s x)
  unfolding change_answer_at change_answer changed_answer has_lists shown
  change-within x = let n = change_cause (scheme s) (rows s) x in guarded-within _ (unless-within _ _ (not (eqb n 0)) n _ (λ _ h. clash h refl))

  -- the operation at place i of the byte b, whose value has the issue w
  issued-within : (b w : ℕ) → Here (answer_at s (operation_in (issued_at b script w i) (rooms_of out)))
  unfolding answer_at effect issued_at
  issued-within b w = go (eqb b 0x10) (eqb b 0x11) (eqb b 0x12) (eqb b 0x14) (eqb b 0x15) (eqb b 0x17) (eqb b 0x18) (eqb b 0x19) (eqb b 0x1A) (eqb b 0x1B) (eqb b 0x1C)
    where
      op : Bool → Bool → Bool → Bool → Bool → Bool → Bool → Bool → Bool → Bool → Bool → Operation
      op x y z v t d r o m n k =
          cond x (O.Refer (held_value_at script w i))
          (cond y (O.Drop (held_value_at script w i))
          (cond z (O.Probe (column_at script (i + 1)) (value_at script w (i + 3)))
          (cond v O.Evenness
          (cond t (O.Total (total_at script w i))
          (cond d (O.Name (byte_at script (i + 1)))
          (cond r (O.Reason (u16_at script (i + 1)))
          (cond o (O.Opener (column_at script (i + 1)) (value_at script (byte_at script (i + 7)) (i + 3)))
          (cond m (O.ReferRange (range_at script i))
          (cond n (O.DropRange (range_at script i))
          (cond k O.SmallestKnot
          (O.Query (query_at script w i))))))))))))

      go : (x y z v t d r o m n k : Bool) → Here (answer_at s (operation_in (op x y z v t d r o m n k) (rooms_of out)))
      go true y z v t d r o m n k = guarded-within _ (refer-within _ _ (scheme s) (database s) (cache s) _)
      go false true z v t d r o m n k = guarded-within _ (drop-within _ _ (scheme s) (database s) (cache s) _)
      go false false true v t d r o m n k = guarded-within _ (question-within _ _ (scheme s) (database s) (cache s) _)
      go false false false true t d r o m n k = guarded-within _ (question-within _ _ (scheme s) (database s) (cache s) _)
      go false false false false true d r o m n k = guarded-within _ (total-within _ _ (scheme s) (database s) (cache s) _ _ _)
      go false false false false false true r o m n k = guarded-within _ (name-within _ _ (scheme s) (database s) (cache s) (byte_at script (i + 1)))
      go false false false false false false true o m n k = guarded-within _ (question-within _ _ (scheme s) (database s) (cache s) _)
      go false false false false false false false true m n k = guarded-within _ (question-within _ _ (scheme s) (database s) (cache s) _)
      go false false false false false false false false true n k = guarded-within _ (load-within _ _ (scheme s) (database s) (cache s) _)
      go false false false false false false false false false true k = guarded-within _ (unload-within _ _ (scheme s) (database s) (cache s) _)
      go false false false false false false false false false false true = guarded-within _ (question-within _ _ (scheme s) (database s) (cache s) _)
      go false false false false false false false false false false false = guarded-within _ (query-within _ _ (scheme s) (database s) (cache s) _ refl refl)

  -- the operation at place i, whose byte is b
  operation-within : (b : ℕ) → Here (answer_at s (operation_in (operation_at b script i) (rooms_of out)))
  unfolding operation_at
  operation-within b = go (ltb b 0x20)
    where
      go : (x : Bool) → Here (answer_at s (operation_in (cond x (issued_at b script 0 i) (issued_at (b - 0x10) script (byte_at script (i + operation_width b - 1)) i)) (rooms_of out)))
      go true = issued-within b 0
      go false = issued-within (b - 0x10) (byte_at script (i + operation_width b - 1))

  -- the command at place i
  command-within : (j : ℕ) → Here (carried s out script i j (command_at script i)).answer
  unfolding command_at operands_at design_command_at carried operated changing has_lists shown
  command-within j =
      let b = byte_at script i in
      go (leb (length script) i) (eqb (width_of b) 0) (ltb (length script - i) (width_of b)) (ltb b 0x10)
      (eqb b 0x01) (eqb b 0x02) (eqb b 0x03) (eqb b 0x05) (eqb b 0x1D) (eqb b 0x1E) _ _ _ _ _ _ _ (operation-within b)
    where
      go : (x y z k p q r t u v : Bool) (a : State-table.Table) (c : State-constraint.Constraint) (f : State-filling.Filling) (m g n : ℕ) (op : Operation) →
          Here (answer_at s (operation_in op (rooms_of out))) →
          Here (carried s out script i j (cond x Short (cond y Unknown (cond z Short
          (cond k (cond p (Table a) (cond q (Constraint c) (cond r (Filling f) (cond t End (Row m))))) (cond u (Put g n) (cond v (Remove g) (Operate op)))))))).answer
      go true y z k p q r t u v a c f m g n op h = λ e. clash e refl
      go false true z k p q r t u v a c f m g n op h = λ e. clash e refl
      go false false true k p q r t u v a c f m g n op h = λ e. clash e refl
      go false false false true true q r t u v a c f m g n op h = λ e. clash e refl
      go false false false true false true r t u v a c f m g n op h = λ e. clash e refl
      go false false false true false false true t u v a c f m g n op h = λ e. clash e refl
      go false false false true false false false true u v a c f m g n op h = λ e. clash e refl
      go false false false true false false false false u v a c f m g n op h = λ e. clash e refl
      go false false false false p q r t true v a c f m g n op h = change-within (put g (put_row_at script i))
      go false false false false p q r t false true a c f m g n op h = change-within (remove g)
      go false false false false p q r t false false a c f m g n op h = h

  pub step-within : Within (positions_at script i) (length out.words) (step_at s out script i).answer
  unfolding has_lists shown
  step-within = step_by s out script i (λ (r : Stepped). Here r.answer) (λ n h. clash h refl) (λ _. command-within (i + width_of (byte_at script i)))
