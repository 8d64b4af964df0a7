-- From the tests of the code to what the question answers on a sound state. Assumes nothing.
use Prim.Native.Nat.{ℕ, ◌≤◌, ◌<◌}
use native.Mathlib.Omega.{arith}
use mathlib.Core.Path.{◌≡◌, sym, ap, ◌∙◌}
use mathlib.Core.Bool.{Bool, true, false, not}
use mathlib.Core.List.{List}
use lib.ListN.{take}
use denote.Laws.{Is}
use denote.Struct.Declared.{row}
use mir.Val.{Val}
use Rattle.finite.proofs.Bools.{ne-not, eq-not}
use Rattle.model.specs.Cell.{Cell, numberless}
use Rattle.model.specs.Scheme.{Column, is_column}
use Rattle.model.specs.Holding.{held_in}
use Rattle.model.specs.Rounds.{reached, load}
use Rattle.model.specs.Runs.{marked, ask, opener}
use Rattle.model.specs.Probe as Probe
use Rattle.model.specs.Opener.{is_open}
use Rattle.model.specs.Turned.{turned, gives, leads_on}
use Rattle.model.specs.Answers.{Answer, opened, refused, unless, opener_answer}
use Rattle.model.specs.Effects.{effect, reply}
use Rattle.model.proofs.OpenerLaws.{open-answer}
use Rattle.state.specs.declared.cell.Cell as State
use Rattle.state.specs.contracts.cell.Cell.{the_type}
use Rattle.state.specs.Meaning.{cell_of, holding_of, scheme_of}
use Rattle.state.specs.Design.{filling_at}
use Rattle.state.specs.Lent.{State as Lent, scheme, database, cache, sound, answer_at}
use Rattle.lawful.proofs.DesignLaws.{design-says}
use Rattle.lawful.proofs.RowsLaws.{Stored, lawful-database}
use Rattle.lawful.proofs.SoundState.{answer-at, parts, sound-smallest}
use Rattle.opener.specs.Reading.{reading}
use Rattle.opener.proofs.ReadingLaws.{Small, reading-is}

-- an operand is a u32 and a u8, as its type says
pub cell-small : (a : State.Cell) (vs : List Val) → Is (row the_type) a vs → Small (cell_of a)
cell-small a vs g = record { number = omega (arith, g); issue = omega (arith, g) }

-- candidates begin with 1
pub fillings-low : (s : Lent) → sound s ≡ true → (i : ℕ) → i < s.design.fillings → 1 ≤ (filling_at s.design i).low
unfolding scheme_of
fillings-low s e i l = ((design-says s.design (parts s e).design).filling i l).low

module _ (s : Lent) (e : sound s ≡ true) (k : Column) (v : Cell) where
  pub opener-5 : is_column (scheme s) k ≡ false → refused 5 ≡ answer_at s (ask (opener k v))
  unfolding effect reply
  opener-5 h =
      sym (ap (λ (b : Bool). unless (not b) 5 (unless (numberless v) 9 (opener_answer (scheme s) (database s) (cache s) k v))) h) ∙ sym (answer-at s e _)

  module _ (f : is_column (scheme s) k ≡ true) where
    past-5 : unless (numberless v) 9 (opener_answer (scheme s) (database s) (cache s) k v) ≡ answer_at s (ask (opener k v))
    unfolding effect reply
    past-5 =
        sym (ap (λ (b : Bool). unless (not b) 5 (unless (numberless v) 9 (opener_answer (scheme s) (database s) (cache s) k v))) f) ∙ sym (answer-at s e _)

    pub opener-9 : numberless v ≡ true → refused 9 ≡ answer_at s (ask (opener k v))
    opener-9 b = sym (ap (λ (x : Bool). unless x 9 (opener_answer (scheme s) (database s) (cache s) k v)) b) ∙ past-5

    module _ (b : numberless v ≡ false) (g : ℕ) (p : g ≡ Probe.probe (scheme s) (database s) (held_in (scheme s) (holding_of s.held)) (marked (take 512
        s.marks)) k v) where
      past-9 : opener_answer (scheme s) (database s) (cache s) k v ≡ answer_at s (ask (opener k v))
      past-9 = sym (ap (λ (x : Bool). unless x 9 (opener_answer (scheme s) (database s) (cache s) k v)) b) ∙ past-5

      pub opener-open : (g ≡ 0 → ⊥) → opened ≡ answer_at s (ask (opener k v))
      unfolding is_open
      opener-open m = open-answer (scheme s) (database s) (cache s) k v (ne-not _ 0 (λ z. m (p ∙ z))) ∙ past-9

      -- without a ground it is the answer read off the levels of the load along the constraints turned round
      pub opener-read : g ≡ 0 → Stored s.cells → Small v → (L : List ℕ) → L ≡ load (turned (scheme s)) (database s) (λ _. false) (gives (scheme s) (database s) k v) → (a : Answer) →
          a ≡ reading (scheme s) (database s) (reached L) k v → a ≡ answer_at s (ask (opener k v))
      unfolding is_open leads_on scheme_of
      opener-read z u small L l a h =
          h ∙ ap (λ (K : List ℕ). reading (scheme s) (database s) (reached K) k v) l ∙
          reading-is (scheme s) (database s) (cache s) (sound-smallest s e) k v (eq-not _ 0 (sym p ∙ z))
          (λ f n. ((design-says s.design (parts s e).design).filling f n).low) (lawful-database s.design s.cells s.tables (parts s e).rows u).cells small ∙ past-9
