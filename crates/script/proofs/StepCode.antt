-- What the parts of a step give, as the code makes them, and how they make up a step. Assumes nothing.
use Prim.Native.Nat.{ℕ, ◌+◌, ◌≤◌}
use mathlib.Core.Path.{◌≡◌, refl, sym, ap, subst, ◌∙◌}
use mathlib.Core.Bool.{Bool, true, false}
use mathlib.Core.List.{List}
use mathlib.Core.Logic.{◌⊎◌, inl, inr}
use lib.ListN.{length}
use lib.Seq.{sets}
use Rattle.model.specs.Answers as Model
use Rattle.state.specs.declared.answer.Answer.{Answer}
use Rattle.state.specs.declared.answer.Answer.TheVariants.{Refused}
use Rattle.state.specs.declared.held.Held.{Held}
use Rattle.state.specs.declared.operation.Operation.{Operation}
use Rattle.state.specs.declared.rows.Row.{Row}
use Rattle.state.specs.Cells.{Cells}
use Rattle.state.specs.Meaning.{answer_of}
use Rattle.state.specs.declared.design.Design.{Design}
use Rattle.state.specs.HeldWords.{first_words, words_held, Whole}
use Rattle.state.specs.Lent.{State, lent, sound, cause_at, cause_of, Performed}
use Rattle.state.specs.Changes.{Change, put, Changed}
use Rattle.state.specs.declared.design.Table as Tables
use Rattle.state.specs.declared.design.Constraint as Constraints
use Rattle.state.specs.declared.design.Filling as Fillings
use Rattle.command.specs.declared.command.Command.{Command}
use Rattle.command.specs.declared.command.Command.TheVariants as C
use Rattle.command.specs.Bytes.{byte_at}
use Rattle.command.specs.Commands.{width_of, command_at}
use Rattle.format.specs.Reading.{most_bytes}
use Rattle.script.specs.declared.outcome.Step.{Step}
use Rattle.script.specs.Step.{Outputs, outputs, rooms_of, operation_in, Stepped, place_of, refusing, operated, changing, carried, step_at, Does, DoesWords}
use Rattle.finite.proofs.Bools.{clash}
use Rattle.state.proofs.LentWords.{same-record-words, stored-record}
use Rattle.guard.proofs.CauseWords.{cause-record, own-means, own-clear}
use Rattle.script.proofs.StepLaws.{step-caused, step-carried}

-- ---- an operation

abbrev pub answered : Answer → ℕ → ℕ → Step
answered a i j = record { answer = a; place = place_of (answer_of a) i; next = j; more = true }

pub operated-does : (s : State) (out : Outputs) (op : Operation) (i j : ℕ) (a : Answer) (m : List ℕ) (h : Held) (w : Outputs) →
    Performed s out.words out.text (operation_in op (rooms_of out)) (answer_of a) (lent s.design s.cells s.tables m h) w.words w.text →
    (t : Step) → t ≡ answered a i j → Does (operated s out op i j) t (lent s.design s.cells s.tables m h) w
unfolding operated
operated-does s out op i j a m h w p t e =
    record {
      answer = ap (λ (x : Step). answer_of x.answer) e ∙ p.answered.answer;
      place = ap (λ (x : Step). x.place) e ∙ ap (λ b. place_of b i) p.answered.answer;
      next = ap (λ (x : Step). x.next) e;
      more = ap (λ (x : Step). x.more) e;
      state = p.answered.state;
      outputs = λ x. outputs (p.words x) (p.text x);
    }

-- ---- a change of the rows

pub changed-does : (s : State) (x : Change) (i j : ℕ) (a : Answer) (cs : Cells) (ts ms : List ℕ) →
    Changed s x (answer_of a) (lent s.design cs ts ms s.held) → (t : Step) → t ≡ answered a i j → (out : Outputs) →
    Does (changing s out x i j) t (lent s.design cs ts ms s.held) out
unfolding changing
changed-does s x i j a cs ts ms p t e out =
    record {
      answer = ap (λ (y : Step). answer_of y.answer) e ∙ p.answer;
      place = ap (λ (y : Step). y.place) e ∙ ap (λ b. place_of b i) p.answer;
      next = ap (λ (y : Step). y.next) e;
      more = ap (λ (y : Step). y.more) e;
      state = p.state;
      outputs = refl;
    }

-- the row is the one that a call has read
pub put-changed : (s : State) (r : ℕ) (x y : Row) → x ≡ y → (a : Model.Answer) (s' : State) → Changed s (put r x) a s' → Changed s (put r y) a s'
put-changed s r x y e a s' h = subst (λ (z : Row). Changed s (put r z) a s') e h

-- ---- refusals

abbrev pub refusal : ℕ → ℕ → ℕ → Bool → Step
refusal n place next more = record { answer = Refused n; place = place; next = next; more = more }

-- a refusal that changes nothing
pub refusing-does : (s : State) (out : Outputs) (n place next : ℕ) (more : Bool) (t : Step) →
    t ≡ refusal n place next more → Does (refusing s out n place next more) t s out
refusing-does s out n place next more t e =
    record {
      answer = ap (λ (z : Step). answer_of z.answer) e;
      place = ap (λ (z : Step). z.place) e;
      next = ap (λ (z : Step). z.next) e;
      more = ap (λ (z : Step). z.more) e;
      state = refl;
      outputs = refl;
    }

-- its place, found by a call
pub placed : (n p q next : ℕ) (more : Bool) (t : Step) → t ≡ refusal n p next more → p ≡ q → t ≡ refusal n q next more
placed n p q next more t e x = e ∙ ap (λ (z : ℕ). refusal n z next more) x

-- ---- the command at a place

-- what is done is what the command's case says
pub in-case : (s : State) (out : Outputs) (script : List ℕ) (i j : ℕ) (c d : Command) (t : Step) (s' : State) (w : Outputs) → c ≡ d →
    Does (carried s out script i j d) t s' w → Does (carried s out script i j c) t s' w
in-case s out script i j c d t s' w e h = rw e h

-- a command of a design, behind its END
pub late-does : (s : State) (out : Outputs) (script : List ℕ) (i j : ℕ) (c : Command) (t : Step) (s' : State) (w : Outputs) →
    ((x : Tables.Table) × (c ≡ C.Table x)) ⊎ (((x : Constraints.Constraint) × (c ≡ C.Constraint x)) ⊎ (((x : Fillings.Filling) × (c ≡ C.Filling x)) ⊎ (((x : ℕ) × (c ≡ C.Row x)) ⊎ (c ≡ C.End)))) →
    Does (refusing s out 3 i j true) t s' w → Does (carried s out script i j c) t s' w
unfolding carried
late-does s out script i j c t s' w (inl p) h = rw p.1 h
late-does s out script i j c t s' w (inr (inl p)) h = rw p.1 h
late-does s out script i j c t s' w (inr (inr (inl p))) h = rw p.1 h
late-does s out script i j c t s' w (inr (inr (inr (inl p)))) h = rw p.1 h
late-does s out script i j c t s' w (inr (inr (inr (inr e)))) h = rw e h

-- the command that stands there, as the code has read it
pub as_read : (s : State) (out : Outputs) (script : List ℕ) (i j : ℕ) → j ≡ i + width_of (byte_at script i) → (c : Command) → c ≡ command_at script i →
    (t : Step) (s' : State) (w : Outputs) → Does (carried s out script i j c) t s' w → Does (carried s out script i (i + width_of (byte_at script i)) (command_at script i)) t s' w
as_read s out script i j p c q t s' w h = rw (← p, ← q) h

-- the step on a sound state is the command's
pub step_is : (s : State) → sound s ≡ true → (out : Outputs) (script : List ℕ) (i : ℕ) → length script ≤ most_bytes → (t : Step) (s' : State) (w : Outputs) →
    Does (carried s out script i (i + width_of (byte_at script i)) (command_at script i)) t s' w → Does (step_at s out script i) t s' w
step_is s e out script i l t s' w h = rw (step-carried s out script i e l) h

pub step_case : (R Q : Stepped) (t : Step) (s' : State) (w : Outputs) → R ≡ Q → Does Q t s' w → Does R t s' w
step_case R Q t s' w e h = rw e h

-- causes 7 and 12
pub caused-does : (s : State) (out : Outputs) (script : List ℕ) (i c : ℕ) → c ≡ cause_at s → (c ≡ 0 → ⊥) → (t : Step) → t ≡ refusal c 0 i false →
    Does (step_at s out script i) t s out
caused-does s out script i c p n t e =
    step_case _ _ _ _ _ (step-caused s out script i (λ z. n (p ∙ z)) ∙ ap (λ (m : ℕ). refusing s out m 0 i false) (sym p))
    (refusing-does s out c 0 i false t e)

-- ---- whatever is lent, where what is held is lent as words

module _ (d : Design) (cs : Cells) (ts ms ws : List ℕ) (out : Outputs) (script : List ℕ) (i c : ℕ) (p : c ≡ cause_of (lent d cs ts ms (words_held ws)) ws) where
  abbrev s : State
  s = lent d cs ts ms (words_held ws)

  pub caused-words : (c ≡ 0 → ⊥) → (t : Step) → t ≡ refusal c 0 i false → DoesWords s ws out script i t s ws out
  caused-words n t e =
      record {
        done = λ b. (caused-does s out script i c (p ∙ cause-record s ws b) n t e, sym (same-record-words ws b));
        refused = λ b. (refusing-does s out _ 0 i false t (e ∙ ap (λ (m : ℕ). refusal m 0 i false) p), refl);
      }

  -- none applies: the step is that of the record in the first words, whose words are stored
  pub done-words : c ≡ 0 → (own : List ℕ) → own ≡ first_words ws → (t : Step) (cs' : Cells) (ts' ms' own' ws' : List ℕ) (out' : Outputs) →
      Does (step_at (lent d cs ts ms (words_held own)) out script i) t (lent d cs' ts' ms' (words_held own')) out' → Whole own' → ws' ≡ sets ws 0 own' →
      DoesWords s ws out script i t (lent d cs' ts' ms' (words_held ws')) ws' out'
  done-words z own is t cs' ts' ms' own' ws' out' does whole stored =
      let clear = own-clear d cs ts ms ws own is c p z in
      let back = stored-record ws own' ws' clear.long whole stored in
      record {
        done = λ b. (
          subst (λ (h : Held). Does (step_at s out script i) t (lent d cs' ts' ms' h) out') (sym back.0)
              (subst (λ (h : Held). Does (step_at (lent d cs ts ms h) out script i) t (lent d cs' ts' ms' (words_held own')) out') (own-means d cs ts ms ws own is) does),
          back.1,
        );
        refused = λ b. clash clear.words b;
      }
