-- What the steps of a whole script leave: the state at the moment that follows from the design and the operands. Assumes nothing.
use Prim.Native.Nat.{ℕ, zero, suc, ◌+◌, ◌≤◌, ◌<◌}
use native.Mathlib.Omega.{arith}
use mathlib.Core.Path.{◌≡◌, refl, sym, ap, subst, ◌∙◌}
use mathlib.Core.Bool.{Bool, true, false, cond}
use mathlib.Core.List.{List, []}
use mathlib.Core.Logic.{⊎_elim}
use borrow.Author.Tests.{leb-true, leb-false, le-leb, lt-leb}
use lib.Dec.{leb}
use lib.ListN.{length}
use lib.Seq.{length-sets}
use Rattle.finite.proofs.Bools.{dec, cond-true, cond-false}
use Rattle.model.specs.Scheme.{Scheme}
use Rattle.model.specs.Runs.{Operation}
use Rattle.state.specs.Meaning.{scheme_of}
use Rattle.state.specs.Lent.{State, sound, words_at, text_at}
use Rattle.state.specs.Changes.{put, remove}
use Rattle.lawful.proofs.StoredLaws.{free-sized, free-stored}
use Rattle.command.specs.declared.command.Command.{Command}
use Rattle.command.specs.declared.command.Command.TheVariants.{Table, Constraint, Filling, Row, End, Operate, Put, Remove, Unknown, Short}
use Rattle.command.specs.Bytes.{byte_at}
use Rattle.command.specs.Commands.{command_at, width_of, put_row_at}
use Rattle.format.specs.Reading.{Draft, most_bytes}
use Rattle.command.proofs.CommandLaws.{at-end}
use Rattle.format.proofs.Small.{Small}
use Rattle.run.specs.Moments.{Action, Moment, moment_from}
use Rattle.script.specs.Step.{Outputs, Rooms, rooms_of, operation_in, outputs_after, Stepped, operated, changing, carried, step_at}
use Rattle.run.specs.Runs.{action_then, actions_from, Left, leaving, left_from}
use Rattle.script.specs.JustRead.{Buffers}
use Rattle.script.proofs.Places.{put-sized, put-stored}
use Rattle.script.proofs.StepLaws.{step-carried, step-sound, step-on}
use Rattle.run.proofs.Tracking.{Tracks, operated-tracks, changed-tracks}

-- ---- one turn of `left_from`

-- what follows a step, with n more commands at the most
abbrev pub left_then : ℕ → List ℕ → Stepped → Left
left_then n script r = cond r.more (left_from n script r.state r.outputs r.next) (leaving r.state r.outputs)

module _ (script : List ℕ) (s : State) (out : Outputs) (i : ℕ) where
  pub left-past : (n : ℕ) → length script ≤ i → left_from n script s out i ≡ leaving s out
  unfolding left_from
  left-past zero l = refl
  left-past (suc n) l = cond-true (leb (length script) i) _ _ (le-leb _ _ l)

  pub left_step : (n : ℕ) → i < length script → left_from (suc n) script s out i ≡ left_then n script (step_at s out script i)
  unfolding left_from
  left_step n l = cond-false (leb (length script) i) _ _ (lt-leb _ _ l)

-- ---- enough turns

module _ (script : List ℕ) where
  then_same : (n m : ℕ) (r : Stepped) →
      (r.more ≡ true → left_from n script r.state r.outputs r.next ≡ left_from m script r.state r.outputs r.next) →
      left_then n script r ≡ left_then m script r
  then_same n m r f =
      ⊎_elim (λ (q : r.more ≡ true). cond-true r.more _ _ q ∙ f q ∙ sym (cond-true r.more _ _ q))
      (λ (q : r.more ≡ false). cond-false r.more _ _ q ∙ sym (cond-false r.more _ _ q))
      (dec r.more)

  -- any two numbers of turns that are enough lead to the same
  pub left-fuel : (n m : ℕ) (s : State) (out : Outputs) (i : ℕ) → length script ≤ n + i → length script ≤ m + i →
      left_from n script s out i ≡ left_from m script s out i
  left-fuel zero m s out i h k = left-past script s out i 0 (omega arith) ∙ sym (left-past script s out i m (omega arith))
  left-fuel (suc n) zero s out i h k = left-past script s out i (suc n) (omega arith) ∙ sym (left-past script s out i 0 (omega arith))
  left-fuel (suc n) (suc m) s out i h k =
      ⊎_elim (λ (q : leb (length script) i ≡ true). let l = leb-true (length script) i q in
      left-past script s out i (suc n) l ∙ sym (left-past script s out i (suc m) l))
      (λ (q : leb (length script) i ≡ false). let l = leb-false (length script) i q in let r = step_at s out script i in
      left_step script s out i n l ∙
      then_same n m r (λ e. let g = (step-on s out script i e).0 in
      left-fuel n m r.state r.outputs r.next (omega arith) (omega arith)) ∙
      sym (left_step script s out i m l))
      (dec (leb (length script) i))

-- ---- what a run leaves of the state

-- THEOREM: the steps leave a sound state sound
pub left-sound : (script : List ℕ) (n : ℕ) (s : State) → sound s ≡ true → (out : Outputs) (i : ℕ) → sound (left_from n script s out i).state ≡ true
unfolding left_from
left-sound script zero s e out i = e
left-sound script (suc n) s e out i =
    let r = step_at s out script i in
    let t = step-sound s out script i e in
    either (leb (length script) i) _ _ e (either r.more _ _ (left-sound script n r.state t r.outputs r.next) t)
  where
    either : (b : Bool) (x y : Left) → sound x.state ≡ true → sound y.state ≡ true → sound (cond b x y).state ≡ true
    either true x y h k = h
    either false x y h k = k

-- ---- a whole script

actions-past : (script : List ℕ) (rooms : Rooms) (i n : ℕ) → length script ≤ i → actions_from n script rooms i ≡ []
unfolding actions_from
actions-past script rooms i zero l = refl
actions-past script rooms i (suc n) l =
    ap (λ (c : Command). action_then script i c rooms (actions_from n script rooms (i + width_of (byte_at script i)))) (sym (at-end script i l))

-- as many words and bytes of text as were lent
pub rooms-after : (s : State) (o : Operation) (out : Outputs) → rooms_of (outputs_after s o out) ≡ rooms_of out
rooms-after s o out = λ x. record { words = length-sets out.words 0 (words_at s o) x; bytes = length-sets out.text 0 (text_at s o) x }

module _ (p : Draft) (b : Buffers) where
  abbrev S : Scheme
  S = scheme_of p.design

  moved : {m k : Moment} {e l : State} → m ≡ k → e ≡ l → Tracks p b k l → Tracks p b m e
  moved q r t = rw (q, r) t

  module _ (script : List ℕ) (small : Small script) (short : length script ≤ most_bytes) where
    -- a command and those behind it
    then-tracks : (n : ℕ) (m : Moment) (e : State) (t : Tracks p b m e) (out : Outputs) (i j : ℕ) (acts : List Action) →
        ((k : Moment) (l : State) → Tracks p b k l → (w : Outputs) → rooms_of w ≡ rooms_of out → Tracks p b (moment_from S k acts) (left_from n script l w j).state) →
        (c : Command) → Tracks p b (moment_from S m (action_then script i c (rooms_of out) acts)) (left_then n script (carried e out script i j c)).state
    unfolding carried operated changing moment_from
    then-tracks n m e t out i j acts h (Operate op) =
        let o = operation_in op (rooms_of out) in h _ _ (operated-tracks p b m e t o) _ (rooms-after e o out)
    then-tracks n m e t out i j acts h (Put r x) =
        h _ _ (changed-tracks p b m e t (put r (put_row_at script i)) (record { sized = put-sized script i; stored = put-stored script small i })) out refl
    then-tracks n m e t out i j acts h (Remove r) = h _ _ (changed-tracks p b m e t (remove r) (record { sized = free-sized; stored = free-stored })) out refl
    then-tracks n m e t out i j acts h (Table x) = h m e t out refl
    then-tracks n m e t out i j acts h (Constraint x) = h m e t out refl
    then-tracks n m e t out i j acts h (Filling x) = h m e t out refl
    then-tracks n m e t out i j acts h (Row x) = h m e t out refl
    then-tracks n m e t out i j acts h End = h m e t out refl
    then-tracks n m e t out i j acts h Unknown = t
    then-tracks n m e t out i j acts h Short = t

    -- n commands from place i on, refused ones too
    pub left-tracks : (n : ℕ) (m : Moment) (e : State) → Tracks p b m e → (out : Outputs) (i : ℕ) →
        Tracks p b (moment_from S m (actions_from n script (rooms_of out) i)) (left_from n script e out i).state
    unfolding actions_from left_from moment_from
    left-tracks zero m e t out i = t
    left-tracks (suc n) m e t out i =
        ⊎_elim (λ (q : leb (length script) i ≡ true). let l = leb-true (length script) i q in
        moved (ap (moment_from S m) (actions-past script (rooms_of out) i (suc n) l)) (ap (λ (x : Left). x.state) (left-past script e out i (suc n) l)) t)
        (λ (q : leb (length script) i ≡ false). let j = i + width_of (byte_at script i) in
        moved refl (ap (λ (x : Left). x.state) (left_step script e out i n (leb-false _ _ q) ∙
        ap (left_then n script) (step-carried e out script i t.sound short)))
        (then-tracks n m e t out i j (actions_from n script (rooms_of out) j)
        (λ k l u w r. subst (λ (rooms : Rooms). Tracks p b (moment_from S k (actions_from n script rooms j)) (left_from n script l w j).state) r (left-tracks n k l u w j))
        (command_at script i)))
        (dec (leb (length script) i))
