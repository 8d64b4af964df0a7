-- What a step and a run leave, from what their parts give: the step on the state that the words stand for, its held values stored, its answer told.
-- Assumes nothing.
use Prim.Native.Nat.{ℕ, ◌<◌}
use native.Mathlib.Omega.{arith}
use mathlib.Core.Path.{◌≡◌, refl, sym, ap, subst, ◌∙◌}
use mathlib.Core.Bool.{Bool, true, false, cond}
use mathlib.Core.List.{List}
use mathlib.Core.Logic.{⊎_elim}
use borrow.Author.Tests.{eqb-true, eq-eqb, ne_eqb}
use lib.Dec.{eqb}
use lib.ListN.{length, get_or}
use lib.Seq.{sets, length-sets}
use Rattle.finite.proofs.Bools.{dec, clash, same_number, cond-true, cond-false}
use Rattle.finite.proofs.Tables.{length-tab}
use Rattle.model.specs.Answers.{Answer, refused, shown, is_refusal}
use Rattle.state.specs.Cells.{Cells}
use Rattle.state.specs.declared.design.Design.{Design}
use Rattle.state.specs.Meaning.{answer_of}
use Rattle.state.specs.Lent.{State, lent, sound}
use Rattle.state.proofs.HeldWords.{length-held, words-sized, stored-whole, whole_words, whole_long, whole-narrow}
use Rattle.state.proofs.LentWords.{means-same, narrow-same, first-means, first-narrow}
use Rattle.script.specs.declared.outcome.Step.{Step}
use Rattle.script.specs.Step.{Outputs, Stepped, refusing, step_at, Does}
use Rattle.run.specs.Runs.{Left, leaving, left_from}
use Rattle.script.proofs.StepLaws.{step-sound}
use Rattle.run.proofs.RunLaws.{left-sound}
use Rattle.script.proofs.Theorems.{Unchanged, refused-unchanged}
use Rattle.state.specs.HeldWords.{held_length, word_at, held_words, words_held, narrow_held, first_words, Whole}
use Rattle.words.specs.Words.{words_design}
use Rattle.wurzsige.specs.Told.{Told, Placed, StepTold, answer_in}
use Rattle.wurzsige.specs.Calls.{Memory, memory, state_in, sound_memory, memory_cause, Arrays, CatalogIn, Ready, Catalogs, keeping, step_in, memory_after, StepTaken, RunMade}
use Rattle.wurzsige.proofs.ToldLaws.{told-read}
use Rattle.wurzsige.proofs.StoredWords.{stored_at}
use Rattle.wurzsige.proofs.Memories.{words-state, Parts, memory-parts, from_parts, cause-sound, step-caused, step-uncaused}

-- ---- causes 7 and 12 of the memory

module _ (m : Memory) (out : Outputs) (script : List ℕ) (i c : ℕ) (is : c ≡ memory_cause m) (n : c ≡ 0 → ⊥) where
  R-refused : step_in m out script i ≡ refusing (state_in m) out c 0 i false
  R-refused = step-caused m out script i (λ z. n (is ∙ z)) ∙ ap (λ (x : ℕ). refusing (state_in m) out x 0 i false) (sym is)

  pub caused-taken : (w : ℕ) (ns : List ℕ) (k p q g : ℕ) → Told (shown (refused c)) w ns k → Placed 0 i false p q g →
      StepTaken (step_in m out script i) w ns k p q g m m out
  unfolding is_refusal shown
  caused-taken w ns k p q g told placed =
      subst (λ (R : Stepped). StepTaken R w ns k p q g m m out) (sym R-refused)
      (record { told = record { told = told; placed = placed }; memory = refl; outputs = refl })

  pub caused-catalogs : (a : Arrays) → Catalogs (is_refusal (step_in m out script i).answer) m a a
  unfolding is_refusal shown
  caused-catalogs a =
      subst (λ (R : Stepped). Catalogs (is_refusal R.answer) m a a) (sym R-refused) (record { made = λ e. clash {b = true} refl e; kept = λ e. refl })

-- ---- the arrays of a step that takes whatever is lent: word 7 says whether it was refused

module _ (R : Stepped) (n : ℕ) (ns : List ℕ) (c p q g : ℕ) (m m' : Memory) (out' : Outputs) (t : StepTaken R n ns c p q g m m' out') where
  word-refused : is_refusal R.answer ≡ eqb n 7
  unfolding is_refusal
  word-refused = ap (λ (x : ℕ). eqb x 7) (sym t.told.told.number)

  pub refused-catalogs : n ≡ 7 → (k : Arrays) → Catalogs (is_refusal R.answer) m' k k
  refused-catalogs e k = record { made = λ f. clash (word-refused ∙ eq-eqb n 7 e) f; kept = λ f. refl }

  pub taken-catalogs : (n ≡ 7 → ⊥) → (k k' : Arrays) → Ready m' k' → Catalogs (is_refusal R.answer) m' k k'
  taken-catalogs e k k' r = record { made = λ f. r; kept = λ f. clash f (word-refused ∙ ne_eqb n 7 e) }

-- ---- a step on memory that is ready

-- a refusal has word 7
told-refused : (a : Answer) (n : ℕ) (ns : List ℕ) (k : ℕ) → Told (shown a) n ns k → is_refusal a ≡ true → a ≡ refused (get_or ns 0 0)
unfolding is_refusal
told-refused a n ns k t e = sym (told-read a n ns k t) ∙ ap (λ (x : ℕ). answer_in x ns k) (t.number ∙ eqb-true _ _ e)

module _ (ds hs : List ℕ) (cs : Cells) (ts ms : List ℕ) (k : Arrays) (d : Design) (dis : d ≡ words_design ds) (ready : Ready (memory ds hs cs ts ms) k)
    (long : length hs ≡ held_length) where
  abbrev m : Memory
  m = memory ds hs cs ts ms

  -- the design that was read makes the state that the words stand for
  same : lent d cs ts ms (words_held hs) ≡ state_in m
  same = words-state ds hs cs ts ms d dis

  fine : Parts m
  fine = memory-parts m ready.sound

  whole : Whole hs
  whole = whole_words hs long fine.held_narrow

  pub ready-lawful : (sound (lent d cs ts ms (words_held hs)) ≡ true) × CatalogIn k d cs ts × Whole hs
  ready-lawful = (ap sound same ∙ fine.state, subst (λ (x : Design). CatalogIn k x cs ts) (sym dis) ready.catalog, whole)

  -- memory with another sound state in it is ready
  module _ (cs' : Cells) (ts' ms' hs' : List ℕ) (still : sound (lent d cs' ts' ms' (words_held hs')) ≡ true) (whole' : Whole hs') where
    -- its words stand where those of the state before stood
    stored : hs' ≡ sets hs 0 (held_words (words_held hs'))
    stored = whole' ∙ sym (stored-whole hs (held_words (words_held hs')) (long ∙ sym (length-held (words_held hs'))))

    kept-ready : (k' : Arrays) → CatalogIn k' d cs' ts' → Ready (memory ds hs' cs' ts' ms') k'
    kept-ready k' catalog =
        record {
          sound = from_parts (memory ds hs' cs' ts' ms') (record {
            design = fine.design;
            held = omega (arith, whole_long hs' whole');
            design_narrow = fine.design_narrow;
            held_narrow = whole-narrow hs' whole';
            state = ap sound (λ x. lent (sym dis x) cs' ts' ms' (words_held hs')) ∙ still;
          });
          catalog = subst (λ (x : Design). CatalogIn k' x cs' ts') dis catalog;
        }

  module _ (out : Outputs) (script : List ℕ) (i : ℕ) (cs' : Cells) (ts' ms' hs' : List ℕ) (ws' : Outputs) (whole' : Whole hs') where
    abbrev m' : Memory
    m' = memory ds hs' cs' ts' ms'

    -- ---- a step

    module _ (t : Step) (does : Does (step_at (lent d cs ts ms (words_held hs)) out script i) t (lent d cs' ts' ms' (words_held hs')) ws') where
      abbrev R : Stepped
      R = step_in m out script i

      R-at : R ≡ step_at (state_in m) out script i
      R-at = step-uncaused m out script i ready.sound

      R-is : step_at (lent d cs ts ms (words_held hs)) out script i ≡ R
      R-is = ap (λ (s : State). step_at s out script i) same ∙ sym R-at

      state-is : lent d cs' ts' ms' (words_held hs') ≡ R.state
      state-is = does.state ∙ ap (λ (Q : Stepped). Q.state) R-is

      R-sound : sound (lent d cs' ts' ms' (words_held hs')) ≡ true
      R-sound = ap sound (state-is ∙ ap (λ (Q : Stepped). Q.state) R-at) ∙ step-sound (state_in m) out script i fine.state

      pub step-ready : (k' : Arrays) → CatalogIn k' d cs' ts' → Ready m' k'
      step-ready = kept-ready cs' ts' ms' hs' R-sound whole'

      answer-is : answer_of t.answer ≡ R.answer
      answer-is = does.answer ∙ ap (λ (Q : Stepped). Q.answer) R-is

      module _ (n : ℕ) (ns : List ℕ) (c : ℕ) (told : Told (shown (answer_of t.answer)) n ns c) where
        -- a refusal leaves the memory as it was
        unchanged : is_refusal (answer_of t.answer) ≡ true → m' ≡ m
        unchanged e =
            let z : answer_of t.answer ≡ refused (get_or ns 0 0) = told-refused _ n ns c told e in
            let u : Unchanged (state_in m) out (step_at (state_in m) out script i) =
            refused-unchanged (state_in m) (words-sized hs) out script i (get_or ns 0 0) (sym (ap (λ (Q : Stepped). Q.answer) R-at) ∙ sym answer-is ∙ z) in
            let s : lent d cs' ts' ms' (words_held hs') ≡ state_in m = state-is ∙ ap (λ (Q : Stepped). Q.state) R-at ∙ u.state in
            let h : hs' ≡ hs = whole' ∙ ap (λ (v : State). held_words v.held) s ∙ sym whole in
            λ x. memory ds (h x) (ap (λ (v : State). v.cells) s x) (ap (λ (v : State). v.tables) s x) (ap (λ (v : State). v.marks) s x)

        -- any other answer leaves its state
        changed : m' ≡ keeping m R.state
        changed =
            let h = stored cs' ts' ms' hs' R-sound whole' ∙ ap (λ (v : State). sets hs 0 (held_words v.held)) state-is in
            λ x. memory ds (h x) (ap (λ (v : State). v.cells) state-is x) (ap (λ (v : State). v.tables) state-is x) (ap (λ (v : State). v.marks) state-is x)

        left : m' ≡ memory_after m R
        left =
            ⊎_elim (λ (e : is_refusal (answer_of t.answer) ≡ true). unchanged e ∙ sym (cond-true _ m _ (sym (ap is_refusal answer-is) ∙ e)))
            (λ (e : is_refusal (answer_of t.answer) ≡ false). changed ∙ sym (cond-false _ m _ (sym (ap is_refusal answer-is) ∙ e)))
            (dec (is_refusal (answer_of t.answer)))

        pub step-taken : (p q g : ℕ) → Placed t.place t.next t.more p q g → StepTaken R n ns c p q g m m' ws'
        step-taken p q g placed =
            record {
              told = record {
                told = subst (λ (a : Answer). Told (shown a) n ns c) answer-is told;
                placed = record {
                  place = placed.place ∙ does.place ∙ ap (λ (Q : Stepped). Q.place) R-is;
                  next = placed.next ∙ does.next ∙ ap (λ (Q : Stepped). Q.next) R-is;
                  more = placed.more ∙ ap (λ (b : Bool). cond b 1 0) (does.more ∙ ap (λ (Q : Stepped). Q.more) R-is);
                };
              };
              memory = left;
              outputs = does.outputs ∙ ap (λ (Q : Stepped). Q.outputs) R-is;
            }

    -- ---- a run

    module _ (left : leaving (lent d cs' ts' ms' (words_held hs')) ws' ≡ left_from (length script) script (lent d cs ts ms (words_held hs)) out i) where
      abbrev l : Left
      l = left_from (length script) script (state_in m) out i

      run-left : leaving (lent d cs' ts' ms' (words_held hs')) ws' ≡ l
      run-left = left ∙ ap (λ (s : State). left_from (length script) script s out i) same

      l-sound : sound (lent d cs' ts' ms' (words_held hs')) ≡ true
      l-sound = ap (λ (x : Left). sound x.state) run-left ∙ left-sound script (length script) (state_in m) fine.state out i

      pub run-made : (k' : Arrays) → CatalogIn k' d cs' ts' → RunMade l m m' k' ws'
      run-made k' catalog =
          let s = ap (λ (x : Left). x.state) run-left in
          let h = stored cs' ts' ms' hs' l-sound whole' ∙ ap (λ (v : State). sets hs 0 (held_words v.held)) s in
          record {
            memory = λ x. memory ds (h x) (ap (λ (v : State). v.cells) s x) (ap (λ (v : State). v.tables) s x) (ap (λ (v : State). v.marks) s x);
            outputs = ap (λ (x : Left). x.outputs) run-left;
            ready = kept-ready cs' ts' ms' hs' l-sound whole' k' catalog;
          }

-- ---- a step on whatever is lent, of which the first words of what is held are worked on

module _ (ds hs own : List ℕ) (cs : Cells) (ts ms : List ℕ) (is : own ≡ first_words hs) (good : sound_memory (memory ds hs cs ts ms) ≡ true) where
  abbrev whole-m : Memory
  whole-m = memory ds hs cs ts ms

  abbrev own-m : Memory
  own-m = memory ds own cs ts ms

  parts-of : Parts whole-m
  parts-of = memory-parts whole-m good

  pub own-state : state_in own-m ≡ state_in whole-m
  own-state = let e = ap words_held is ∙ first-means hs in λ x. lent (words_design ds) cs ts ms (e x)

  pub own-long : length own ≡ held_length
  own-long = ap length is ∙ length-tab held_length (word_at hs)

  pub own-good : sound_memory own-m ≡ true
  own-good =
      from_parts own-m (record {
        design = parts-of.design;
        held = omega (arith, own-long);
        design_narrow = parts-of.design_narrow;
        held_narrow = ap narrow_held is ∙ first-narrow hs ∙ parts-of.held_narrow;
        state = ap sound own-state ∙ parts-of.state;
      })

  pub own-ready : (k : Arrays) → CatalogIn k (words_design ds) cs ts → Ready own-m k
  own-ready k c = record { sound = own-good; catalog = c }

  own-step : (out : Outputs) (script : List ℕ) (i : ℕ) → step_in own-m out script i ≡ step_in whole-m out script i
  own-step out script i =
      step-uncaused own-m out script i own-good ∙ ap (λ (s : State). step_at s out script i) own-state ∙ sym (step-uncaused whole-m out script i good)

  module _ (out : Outputs) (script : List ℕ) (i n : ℕ) (ns : List ℕ) (c p q g : ℕ) (own' : List ℕ) (cs' : Cells) (ts' ms' : List ℕ) (out' : Outputs)
      (taken : StepTaken (step_in own-m out script i) n ns c p q g own-m (memory ds own' cs' ts' ms') out') where
    abbrev left-m : List ℕ → Memory
    left-m held = memory ds held cs' ts' ms'

    told-whole : StepTold (step_in whole-m out script i) n ns c p q g
    told-whole = subst (λ (R : Stepped). StepTold R n ns c p q g) (own-step out script i) taken.told

    outputs-whole : out' ≡ (step_in whole-m out script i).outputs
    outputs-whole = taken.outputs ∙ ap (λ (R : Stepped). R.outputs) (own-step out script i)

    refusal_is : is_refusal (step_in own-m out script i).answer ≡ eqb n 7
    refusal_is = word-refused (step_in own-m out script i) n ns c p q g own-m (left-m own') out' taken

    refusal-whole : is_refusal (step_in whole-m out script i).answer ≡ eqb n 7
    refusal-whole = ap (λ (R : Stepped). is_refusal R.answer) (sym (own-step out script i)) ∙ refusal_is

    -- refused: nothing is stored
    pub own-refused : n ≡ 7 → (k : Arrays) →
        StepTaken (step_in whole-m out script i) n ns c p q g whole-m (left-m hs) out' × Catalogs (is_refusal (step_in whole-m out script i).answer) (left-m hs) k k
    own-refused e k =
        let s = taken.memory ∙ cond-true _ own-m _ (refusal_is ∙ eq-eqb n 7 e) in
        let r : left-m hs ≡ whole-m = λ x. memory ds hs (ap (λ (m : Memory). m.cells) s x) (ap (λ (m : Memory). m.tables) s x) (ap (λ (m : Memory). m.marks) s x) in
        let t : StepTaken (step_in whole-m out script i) n ns c p q g whole-m (left-m hs) out' = record {
          told = told-whole;
          memory = r ∙ sym (cond-true _ whole-m _ (refusal-whole ∙ eq-eqb n 7 e));
          outputs = outputs-whole;
        } in
        (t, refused-catalogs (step_in whole-m out script i) n ns c p q g whole-m (left-m hs) out' t e k)

    -- any other answer: the words of the state that it leaves are stored
    module _ (e : n ≡ 7 → ⊥) where
      s-is : left-m own' ≡ keeping own-m (step_in own-m out script i).state
      s-is = taken.memory ∙ cond-false _ own-m _ (refusal_is ∙ ne_eqb n 7 e)

      own'-is : own' ≡ held_words (step_in whole-m out script i).state.held
      own'-is =
          let R = step_in own-m out script i in
          ap (λ (m : Memory). m.held) s-is ∙ stored-whole own (held_words R.state.held) (own-long ∙ sym (length-held R.state.held)) ∙
          ap (λ (Q : Stepped). held_words Q.state.held) (own-step out script i)

      pub own-left-long : length own' ≡ held_length
      own-left-long = ap length own'-is ∙ length-held (step_in whole-m out script i).state.held

    module _ (e : n ≡ 7 → ⊥) (k k' : Arrays) (ready' : Ready (left-m own') k') (hs' : List ℕ) (stored : hs' ≡ sets hs 0 own') where
      left_is : left-m hs' ≡ keeping whole-m (step_in whole-m out script i).state
      left_is =
          let h = stored ∙ ap (sets hs 0) (own'-is e) in
          let f = s-is e ∙ ap (λ (Q : Stepped). keeping own-m Q.state) (own-step out script i) in
          λ x. memory ds (h x) (ap (λ (m : Memory). m.cells) f x) (ap (λ (m : Memory). m.tables) f x) (ap (λ (m : Memory). m.marks) f x)

      -- what is stored is read as before
      at : (j : ℕ) → j < held_length → word_at hs' j ≡ word_at own' j
      at = stored_at hs own' hs' parts-of.held stored (own-left-long e)

      left-ready : Ready (left-m hs') k'
      left-ready =
          let p = memory-parts (left-m own') ready'.sound in
          let b : words_held hs' ≡ words_held own' = means-same hs' own' at in
          record {
            sound = from_parts (left-m hs') (record {
              design = p.design;
              held = omega (arith, parts-of.held, ap length stored, length-sets hs 0 own');
              design_narrow = p.design_narrow;
              held_narrow = narrow-same hs' own' at ∙ p.held_narrow;
              state = ap sound (λ x. lent (words_design ds) cs' ts' ms' (b x)) ∙ p.state;
            });
            catalog = ready'.catalog;
          }

      pub own-taken : StepTaken (step_in whole-m out script i) n ns c p q g whole-m (left-m hs') out' × Catalogs (is_refusal (step_in whole-m out script i).answer) (left-m hs') k k'
      own-taken =
          let t : StepTaken (step_in whole-m out script i) n ns c p q g whole-m (left-m hs') out' = record {
            told = told-whole;
            memory = left_is ∙ sym (cond-false _ whole-m _ (refusal-whole ∙ ne_eqb n 7 e));
            outputs = outputs-whole;
          } in
          (t, taken-catalogs (step_in whole-m out script i) n ns c p q g whole-m (left-m hs') out' t e k k' left-ready)

-- ---- what a refusal leaves

refused-outputs : (m : Memory) (out : Outputs) (script : List ℕ) (i : ℕ) (n : ℕ) → (step_in m out script i).answer ≡ refused n → (step_in m out script i).outputs ≡ out
refused-outputs m out script i n e =
    ⊎_elim
    (λ (z : memory_cause m ≡ 0). let r = step-uncaused m out script i (cause-sound m z) in
    ap (λ (Q : Stepped). Q.outputs) r ∙
    (refused-unchanged (state_in m) (words-sized m.held) out script i n (sym (ap (λ (Q : Stepped). Q.answer) r) ∙ e)).outputs)
    (λ (z : memory_cause m ≡ 0 → ⊥). ap (λ (Q : Stepped). Q.outputs) (step-caused m out script i z))
    (same_number (memory_cause m) 0)

-- THEOREM: a refused step leaves the memory and what is lent for answers as they were; that it leaves the arrays is `Catalogs`
pub refused-leaves : (m m' : Memory) (out out' : Outputs) (script : List ℕ) (i n : ℕ) (ns : List ℕ) (c p q g : ℕ) →
    StepTaken (step_in m out script i) n ns c p q g m m' out' → n ≡ 7 → (m' ≡ m) × (out' ≡ out)
refused-leaves m m' out out' script i n ns c p q g t e =
    let R = step_in m out script i in
    let r : is_refusal R.answer ≡ true = word-refused R n ns c p q g m m' out' t ∙ eq-eqb n 7 e in
    (t.memory ∙ cond-true _ m (keeping m R.state) r, t.outputs ∙ refused-outputs m out script i (get_or ns 0 0) (told-refused R.answer n ns c t.told.told r))
