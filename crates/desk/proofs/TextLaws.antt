-- The report part by part: a step's lines and what follows them, any number of turns that is enough, and how far a part reaches. Assumes nothing.
use Prim.Native.Nat.{ℕ, zero, suc, ◌+◌, ◌-◌, ◌*◌, ◌^◌, ◌≤◌, ◌<◌}
use native.Mathlib.Omega.{arith}
use mathlib.Core.Path.{◌≡◌, refl, sym, ap, subst, ◌∙◌}
use mathlib.Core.Bool.{Bool, true, false, cond, ◌&&◌}
use mathlib.Core.List.{List, [], ◌++◌, append_assoc}
use mathlib.Core.Logic.{⊎_elim}
use borrow.Author.Tests.{leb-true, leb-false, le-leb, lt-leb, ltb-true, ltb-false}
use lib.Dec.{leb, ltb}
use lib.ListN.{length, get_or}
use Rattle.finite.specs.Writing.{Wrote}
use Rattle.finite.proofs.Bools.{dec, clash, cond-true, cond-false}
use Rattle.finite.proofs.Tables.{tab-at}
use Rattle.finite.proofs.Writing.{wrote_none, wrote_then, wrote_as}
use Rattle.model.specs.Answers.{Answer, shown, has_lists}
use Rattle.state.specs.declared.answer.Shown.{Shown}
use Rattle.state.specs.Meaning.{answer_of, shown_of}
use Rattle.state.specs.Lent.{State, sound}
use Rattle.report.specs.Report.{command_line, list_lines}
use Rattle.report.proofs.Lengths.{list-lines-reach}
use Rattle.script.specs.declared.outcome.Step.{Step}
use Rattle.script.specs.Step.{Outputs, Stepped, step_at, Does}
use Rattle.script.proofs.StepLaws.{step-on, step-sound}
use Rattle.desk.specs.declared.reporting.Progress.{Progress}
use Rattle.desk.specs.Printed.{lists_in, lists_text, positions_at, step_text, text_from, text_at, rest_of, Printed}
use Rattle.desk.proofs.ListsFit.{Within, step-within}

-- ---- answers

-- what is shown of the answer a is s: the first number is that of its lists
pub number-lists : (s : Shown) (a : Answer) (n : ℕ) → n ≡ get_or s.numbers 0 0 → s ≡ shown_of (shown a) → n ≡ lists_in a
number-lists s a n e f = e ∙ ap (λ (x : Shown). get_or x.numbers 0 0) f ∙ tab-at 0 16 (λ i. get_or (shown a).numbers i 0) 0 (omega arith)

module _ (a : Answer) (words : List ℕ) (p : ℕ) where
  -- an answer without lists, and one with lists
  pub no-lists : (o : List ℕ) (k : ℕ) → has_lists a ≡ false → Wrote o o k k (lists_text a words p)
  unfolding lists_text
  no-lists o k e = wrote_as o o k k k [] _ refl (sym (cond-false (has_lists a) _ _ e)) (wrote_none o k)

  module _ (o o' : List ℕ) (k z : ℕ) where
    pub these-lists : has_lists a ≡ true → (n : ℕ) → n ≡ lists_in a → Wrote o o' k z (list_lines words n p) → Wrote o o' k z (lists_text a words p)
    unfolding lists_text
    these-lists e n f = wrote_as o o' k z z _ _ refl (ap (λ (m : ℕ). list_lines words m p) f ∙ sym (cond-true (has_lists a) _ _ e))

    -- how far the lists reach, where they have 4,096 words at most
    pub lists-reach : ((i : ℕ) → get_or words i 0 < 2 ^ 32) → 1 ≤ p → (has_lists a ≡ true → lists_in a * p ≤ 4096) → Wrote o o' k z (lists_text a words p) →
        z ≤ k + 45056
    unfolding lists_text
    lists-reach small h few w =
        ⊎_elim
        (λ (e : has_lists a ≡ true).
        let r = list-lines-reach o o' k z words small (lists_in a) p h (wrote_as o o' k z z _ _ refl (cond-true (has_lists a) _ _ e) w) in
        omega (arith, r, few e))
        (λ (e : has_lists a ≡ false). let r = wrote_as o o' k z z _ [] refl (cond-false (has_lists a) _ _ e) w in omega (arith, r.next))
        (dec (has_lists a))

-- another way to say how many positions there are
pub lists_at : {o o' : List ℕ} {k z : ℕ} (a : Answer) (words : List ℕ) (p p' : ℕ) → p ≡ p' → Wrote o o' k z (lists_text a words p) → Wrote o o' k z (lists_text a words p')
lists_at {o} {o'} {k} {z} a words p p' e w = subst (λ (n : ℕ). Wrote o o' k z (lists_text a words n)) e w

-- ---- the lines from a place on

-- what follows a step, with n more commands at the most
abbrev text_then : ℕ → List ℕ → ℕ → Stepped → List ℕ
text_then n script number r = cond r.more (text_from n script r.state r.outputs (number + 1) r.next) []

module _ (script : List ℕ) (s : State) (outs : Outputs) (number i : ℕ) where
  -- no lines stand past the script's end
  pub text-past : (n : ℕ) → length script ≤ i → text_from n script s outs number i ≡ []
  unfolding text_from
  text-past zero l = refl
  text-past (suc n) l = cond-true (leb (length script) i) _ _ (le-leb _ _ l)

  text-step : (n : ℕ) → i < length script →
      text_from (suc n) script s outs number i ≡ step_text script i number (step_at s outs script i) ++ text_then n script number (step_at s outs script i)
  unfolding text_from
  text-step n l = cond-false (leb (length script) i) _ _ (lt-leb _ _ l)

module _ (script : List ℕ) where
  then_same : (n m number : ℕ) (r : Stepped) →
      (r.more ≡ true → text_from n script r.state r.outputs (number + 1) r.next ≡ text_from m script r.state r.outputs (number + 1) r.next) →
      text_then n script number r ≡ text_then m script number r
  then_same n m number r f =
      ⊎_elim (λ (q : r.more ≡ true). cond-true r.more _ _ q ∙ f q ∙ sym (cond-true r.more _ _ q))
      (λ (q : r.more ≡ false). cond-false r.more _ _ q ∙ sym (cond-false r.more _ _ q))
      (dec r.more)

  -- any two numbers of turns that are enough give the same lines
  text-fuel : (n m : ℕ) (s : State) (outs : Outputs) (number i : ℕ) → length script ≤ n + i → length script ≤ m + i →
      text_from n script s outs number i ≡ text_from m script s outs number i
  text-fuel zero m s outs number i h k = text-past script s outs number i 0 (omega arith) ∙ sym (text-past script s outs number i m (omega arith))
  text-fuel (suc n) zero s outs number i h k = text-past script s outs number i (suc n) (omega arith) ∙ sym (text-past script s outs number i 0 (omega arith))
  text-fuel (suc n) (suc m) s outs number i h k =
      ⊎_elim (λ (q : leb (length script) i ≡ true). let l = leb-true (length script) i q in
      text-past script s outs number i (suc n) l ∙ sym (text-past script s outs number i (suc m) l))
      (λ (q : leb (length script) i ≡ false). let l = leb-false (length script) i q in let r = step_at s outs script i in
      text-step script s outs number i n l ∙
      ap (λ (t : List ℕ). step_text script i number r ++ t)
      (then_same n m number r (λ e. let g = step-on s outs script i e in text-fuel n m r.state r.outputs (number + 1) r.next (omega arith) (omega arith))) ∙
      sym (text-step script s outs number i m l))
      (dec (leb (length script) i))

-- ---- one step

-- what is to be printed behind a step: nothing where reading stops or the script ends
module _ (script : List ℕ) (s : State) (outs : Outputs) (p : Progress) (more : p.more ≡ true) (below : p.at < length script) where
  abbrev r : Stepped
  r = step_at s outs script p.at

  turn : rest_of script s outs p ≡ step_text script p.at p.number r ++ text_then (length script) script p.number r
  unfolding rest_of
  turn =
      cond-true p.more _ _ more ∙ text-fuel script (length script) (suc (length script)) s outs p.number p.at (omega arith) (omega arith) ∙
      text-step script s outs p.number p.at (length script) below

  module _ (t : Step) (e : State) (w : Outputs) (d : Does r t e w) (q : Progress) (at : q.at ≡ t.next) (number : q.number ≡ p.number + 1)
      (on : q.more ≡ (t.more && ltb t.next (length script))) where
    -- the code's state and outs are the step's
    then-code : text_then (length script) script p.number r ≡ cond t.more (text_at script e w q.number q.at) []
    then-code = sym (λ x. cond (d.more x) (text_at script (d.state x) (d.outputs x) (number x) ((at ∙ d.next) x)) [])

    rest-code : (a b : Bool) → t.more ≡ a → ltb t.next (length script) ≡ b →
        cond t.more (text_at script e w q.number q.at) [] ≡ rest_of script e w q
    unfolding rest_of
    rest-code true true h f =
        cond-true t.more _ _ h ∙ sym (cond-true q.more _ _ (on ∙ ap (λ (b : Bool). b && ltb t.next (length script)) h ∙ f))
    rest-code true false h f =
        cond-true t.more _ _ h ∙
        text-past script e w q.number q.at (length script) (omega (arith, at, ltb-false t.next (length script) f)) ∙
        sym (cond-false q.more _ _ (on ∙ ap (λ (b : Bool). b && ltb t.next (length script)) h ∙ f))
    rest-code false b h f = cond-false t.more _ _ h ∙ sym (cond-false q.more _ _ (on ∙ ap (λ (b : Bool). b && ltb t.next (length script)) h))

    -- the step's lines
    abbrev lines : List ℕ
    lines = command_line p.number (answer_of t.answer) t.place w.text ++ lists_text (answer_of t.answer) w.words (positions_at script p.at)

    line_code : step_text script p.at p.number r ≡ lines
    unfolding step_text
    line_code =
        sym (λ x. command_line p.number (d.answer x) (d.place x) (d.outputs x).text ++
        lists_text (d.answer x) (d.outputs x).words (positions_at script p.at))

    -- and the rest
    pub step-printed : (o o' o'' : List ℕ) (z : ℕ) → Wrote o o' p.end z (command_line p.number (answer_of t.answer) t.place w.text) →
        Wrote o' o'' z q.end (lists_text (answer_of t.answer) w.words (positions_at script p.at)) → sound s ≡ true → Printed script s outs p o o'' e w q
    step-printed o o' o'' z a b h =
        record {
          part = lines;
          wrote = wrote_then o o' o'' p.end z q.end _ _ a b;
          whole = turn ∙ (λ x. line_code x ++ (then-code ∙ rest-code t.more (ltb t.next (length script)) refl refl) x);
          sound = ap sound d.state ∙ step-sound s outs script p.at h;
        }

  -- where a command follows, it stands further on, and its number has grown by one
  pub step-next : (t : Step) (s' : State) (w : Outputs) → Does r t s' w → (on : Bool) → on ≡ (t.more && ltb t.next (length script)) → on ≡ true → p.number ≤ p.at →
      (p.at < t.next) × (t.next < length script) × (p.number + 1 ≤ t.next)
  step-next t s' w d on e h l = go t.more (ltb t.next (length script)) refl refl
    where
      go : (a b : Bool) → t.more ≡ a → ltb t.next (length script) ≡ b → (p.at < t.next) × (t.next < length script) × (p.number + 1 ≤ t.next)
      go true true f g =
          let n = step-on s outs script p.at (sym d.more ∙ f) in
          (omega (arith, d.next, n), ltb-true t.next (length script) g, omega (arith, d.next, n, l))
      go true false f g = clash h (e ∙ ap (λ (b : Bool). b && ltb t.next (length script)) f ∙ g)
      go false b f g = clash h (e ∙ ap (λ (b : Bool). b && ltb t.next (length script)) f)

  -- the lists of a step fit
  pub step_fits : (t : Step) (s' : State) (w : Outputs) → Does r t s' w → Within (positions_at script p.at) (length outs.words) (answer_of t.answer)
  step_fits t s' w d = subst (Within (positions_at script p.at) (length outs.words)) (sym d.answer) (step-within s outs script p.at)

-- ---- part behind part

pub printed-then : (script : List ℕ) (s : State) (outs : Outputs) (p : Progress) (o o' : List ℕ) (e : State) (w : Outputs) (q : Progress) (o'' : List ℕ) (e' : State) (w' : Outputs) (z : Progress) →
    Printed script s outs p o o' e w q → Printed script e w q o' o'' e' w' z → Printed script s outs p o o'' e' w' z
printed-then script s outs p o o' e w q o'' e' w' z a b =
    record {
      part = a.part ++ b.part;
      wrote = wrote_then o o' o'' p.end q.end z.end a.part b.part a.wrote b.wrote;
      whole = a.whole ∙ ap (λ (t : List ℕ). a.part ++ t) b.whole ∙ sym (append_assoc a.part b.part _);
      sound = b.sound;
    }

-- ---- room

-- n lists of p words fit the words and the buffer
pub room_for : (n p p' words words' end z text room : ℕ) → p ≡ p' → n * p' ≤ words → words ≤ words' → words ≤ 4096 → z ≤ end + (391 + text) → text ≤ 16384 →
    end + 61840 ≤ room →
    (n * p ≤ words') × (z + 11 * (n * p) + 9 ≤ room)
room_for n p p' words words' end z text room e f l m a k b =
    let g : n * p ≤ words = subst (λ (x : ℕ). n * x ≤ words) (sym e) f in
    (omega arith, omega arith)

-- another way to say how many lists there are
pub same-room : (n m p words end room : ℕ) → n ≡ m → (m * p ≤ words) × (end + 11 * (m * p) + 9 ≤ room) → (n * p ≤ words) × (end + 11 * (n * p) + 9 ≤ room)
same-room n m p words end room e h = subst (λ (k : ℕ). (k * p ≤ words) × (end + 11 * (k * p) + 9 ≤ room)) (sym e) h

-- ---- turns

-- how many commands can follow at the most
pub turns : List ℕ → Progress → ℕ
turns script p = cond p.more (length script - p.at + 1) 0

-- a step leaves fewer
pub turns-less : (script : List ℕ) (p q : Progress) → p.more ≡ true → (q.more ≡ true → (p.at < q.at) × (q.at < length script)) → turns script q < turns script p
unfolding turns
turns-less script p q e f =
    let a : turns script p ≡ length script - p.at + 1 = cond-true p.more _ _ e in
    ⊎_elim (λ (h : q.more ≡ true). let b : turns script q ≡ length script - q.at + 1 = cond-true q.more _ _ h in omega (arith, a, b, (f h).0, (f h).1))
    (λ (h : q.more ≡ false). let b : turns script q ≡ 0 = cond-false q.more _ _ h in omega (arith, a, b))
    (dec q.more)

-- no more than there are bytes, and one
pub turns-few : (script : List ℕ) (p : Progress) → turns script p ≤ length script + 1
unfolding turns
turns-few script p =
    ⊎_elim (λ (h : p.more ≡ true). let b : turns script p ≡ length script - p.at + 1 = cond-true p.more _ _ h in omega (arith, b))
    (λ (h : p.more ≡ false). let b : turns script p ≡ 0 = cond-false p.more _ _ h in omega (arith, b))
    (dec p.more)
