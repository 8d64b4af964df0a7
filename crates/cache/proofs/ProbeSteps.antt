-- From the tests of the code to what a probe of a sound state answers. Assumes nothing.
use Prim.Native.Nat.{ℕ}
use native.Mathlib.Nat.{pos_of_ne-zero}
use native.Mathlib.Omega.{arith}
use mathlib.Core.Path.{◌≡◌, sym, ap, ◌∙◌}
use mathlib.Core.Bool.{Bool, true, false}
use borrow.Author.Tests.{lt-ltb, le-ltb}
use lib.ListN.{take}
use Rattle.model.specs.Cell.{Cell, numberless}
use Rattle.model.specs.Scheme.{Column, is_column}
use Rattle.model.specs.Holding.{held_in}
use Rattle.model.specs.Runs.{marked, ask, probe}
use Rattle.model.specs.Probe as Probe
use Rattle.model.specs.Answers.{ground, sent, refused, or_answer, ground_of}
use Rattle.state.specs.Meaning.{holding_of}
use Rattle.state.specs.Lent.{State, scheme, database, cache, sound, answer_at}
use Rattle.model.proofs.CountedRows.{rows-behind-yes}
use Rattle.lawful.proofs.SoundState.{answer-at}
use Rattle.model.proofs.Answering.{probe-nowhere, probe-numberless, probe-full}

module _ (s : State) (e : sound s ≡ true) (k : Column) (v : Cell) where
  pub probe-5 : is_column (scheme s) k ≡ false → refused 5 ≡ answer_at s (ask (probe k v))
  probe-5 h = probe-nowhere (scheme s) (database s) (cache s) k v h ∙ sym (answer-at s e _)

  module _ (f : is_column (scheme s) k ≡ true) where
    pub probe-9 : numberless v ≡ true → refused 9 ≡ answer_at s (ask (probe k v))
    probe-9 b = probe-numberless (scheme s) (database s) (cache s) k v f b ∙ sym (answer-at s e _)

    module _ (b : numberless v ≡ false) (g n : ℕ) (p : g ≡ Probe.probe (scheme s) (database s) (held_in (scheme s) (holding_of s.held)) (marked (take 512
        s.marks)) k v) (r : n ≡ Probe.rows_behind g (database s) (marked (take 512 s.marks)) k v) where
      abbrev rows : ℕ
      rows = Probe.cached_rows (database s) (marked (take 512 s.marks)) k v

      grounded : ground_of g rows ≡ answer_at s (ask (probe k v))
      grounded = ap (λ (x : ℕ). ground_of x rows) p ∙ probe-full (scheme s) (database s) (cache s) k v f b ∙ sym (answer-at s e _)

      pub probe-sent : g ≡ 0 → sent ≡ answer_at s (ask (probe k v))
      probe-sent z = sym (ap (λ (t : Bool). or_answer t (ground g rows) sent) (le-ltb 0 g (omega arith))) ∙ grounded

      pub probe-ground : (g ≡ 0 → ⊥) → ground g n ≡ answer_at s (ask (probe k v))
      probe-ground m =
          ap (ground g) (r ∙ sym (rows-behind-yes (database s) (marked (take 512 s.marks)) k v g m)) ∙
          sym (ap (λ (t : Bool). or_answer t (ground g rows) sent) (lt-ltb 0 g (pos_of_ne-zero m))) ∙ grounded
