-- Demand 2 of what the entry points answer, in every sound state: a probe or a query that isn't refused is sent exactly if there is no ground; else a
-- query's list is the one from the full tables, and that of the cached rows. Assumes nothing.
use Prim.Native.Nat.{ℕ}
use native.Mathlib.Omega.{arith}
use mathlib.Core.Path.{◌≡◌, refl, sym, ap, subst, ◌∙◌}
use mathlib.Core.Bool.{Bool, true, false, not}
use mathlib.Core.Logic.{◌↔◌, ◌≢◌}
use borrow.Author.Tests.{ltb-true}
use lib.Dec.{ltb}
use Rattle.model.specs.Cell.{Cell, numberless}
use Rattle.model.specs.Scheme.{Column, Scheme, is_column}
use Rattle.model.specs.Database.{Database, Lawful}
use Rattle.model.specs.Probe as Probe
use Rattle.model.specs.Probe.{cached_rows}
use Rattle.model.specs.Holding.{held_in}
use Rattle.model.specs.Runs.{ask, probe, Output, as_lists, query, marked, Cache}
use Rattle.model.specs.Query.{Query}
use Rattle.model.specs.Answers.{Answer, sent, ground, lists, unless, or_answer, query_answer}
use Rattle.model.specs.Effects.{effect, reply}
use Rattle.model.specs.Demand.{Groundless, Unrefused, FillingsApart, Demand2}
use Rattle.model.proofs.Demand2.{probe-sent-exactly, demand2}
use Rattle.model.proofs.CountedRows.{alone-lists}
use Rattle.state.specs.Lent.{State, scheme, database, cache, sound, answer_at, state_after}
use Rattle.lawful.proofs.RowsLaws.{Stored, lawful-database}
use Rattle.lawful.proofs.DesignLaws.{fillings-apart}
use Rattle.lawful.proofs.SoundState.{parts, sound-smallest, answer-at, sound-after}
use Rattle.script.proofs.StepLaws.{after-cache}

module _ (s : State) (e : sound s ≡ true) where
  -- THEOREM: `operate::perform` of a PROBE, and a PROBE of a script
  pub probed-exactly : (k : Column) (v : Cell) → Unrefused (answer_at s (ask (probe k v))) →
      (answer_at s (ask (probe k v)) ≡ sent) ↔ Groundless (scheme s) (database s) (cache s) k v
  unfolding effect
  probed-exactly k v u =
      subst (λ (a : Answer). (a ≡ sent) ↔ Groundless (scheme s) (database s) (cache s) k v) (sym at)
      (probe-sent-exactly (scheme s) (database s) (cache s) k v (subst Unrefused at u))
    where
      at : answer_at s (ask (probe k v)) ≡ (reply (scheme s) (database s) (cache s) (probe k v)).answer
      at = answer-at s e (ask (probe k v))

  -- THEOREM: `operate::perform` of a QUERY or a total, and one of a script: what is answered is the model's answer, and demand 2 holds of it. The cells are u32
  -- numbers.
  pub queried-exactly : Stored s.cells → (q : Query) (out : Output) → Unrefused (answer_at s (query q out)) →
      (answer_at s (query q out) ≡ query_answer (scheme s) (database s) (cache s) q out) × Demand2 (scheme s) (database s) (cache s) q out
  unfolding effect
  queried-exactly u q out n = (at, demand2 lawful apart (cache s) (sound-smallest s e) q out (subst Unrefused at n))
    where
      at : answer_at s (query q out) ≡ query_answer (scheme s) (database s) (cache s) q out
      at = answer-at s e (query q out)

      lawful : Lawful (scheme s) (database s)
      lawful = lawful-database s.design s.cells s.tables (parts s e).rows u

      -- no filling column twice
      apart : FillingsApart (scheme s)
      apart = fillings-apart s.design (parts s e).design

-- ---- how many rows stand behind a yes (02, Req 04)

-- what a yes says
pub record Carries (S : Scheme) (D : Database) (c : Cache) (k : Column) (v : Cell) (n : ℕ) : Type 0 where
  pub column : is_column S k ≡ true
  pub full : numberless v ≡ false
  pub ground : Probe.probe S D (held_in S c.held) (marked c.marks) k v ≢ 0
  pub rows : cached_rows D (marked c.marks) k v ≡ n

pub carries : (S : Scheme) (D : Database) (c : Cache) (k : Column) (v : Cell) (g n : ℕ) → (reply S D c (probe k v)).answer ≡ ground g n → Carries S D c k v n
unfolding reply
carries S D c k v g n e = go (is_column S k) (numberless v) (ltb 0 found) refl refl refl e
  where
    found : ℕ
    found = Probe.probe S D (held_in S c.held) (marked c.marks) k v

    go : (a b y : Bool) → is_column S k ≡ a → numberless v ≡ b → ltb 0 found ≡ y →
        unless (not a) 5 (unless b 9 (or_answer y (ground found (cached_rows D (marked c.marks) k v)) sent)) ≡ ground g n → Carries S D c k v n
    go false b y p q r h = absurd (let z : ◌≡◌ {A = ℕ} 0 1 = cc in omega arith)
    go true true y p q r h = absurd (let z : ◌≡◌ {A = ℕ} 0 1 = cc in omega arith)
    go true false false p q r h = absurd (let z : ◌≡◌ {A = ℕ} 0 1 = cc in omega arith)
    go true false true p q r h = record { column = p; full = q; ground = λ z. omega (arith, ltb-true 0 found r, z); rows = cc }

-- THEOREM: a QUERY without joins that is answered has exactly as many lists as a PROBE of its value, asked afterwards, carries rows
pub counted-exactly : (s : State) (e : sound s ≡ true) → Stored s.cells → (q : Query) (room : ℕ) → q.joins ≡ 0 → Unrefused (answer_at s (query q (as_lists room))) →
    answer_at s (query q (as_lists room)) ≢ sent → (g n : ℕ) → answer_at (state_after s (query q (as_lists room))) (ask (probe q.column q.value)) ≡ ground g n →
    answer_at s (query q (as_lists room)) ≡ lists n
unfolding effect
counted-exactly s e u q room z r f g n h =
    let o = query q (as_lists room) in
    let x = queried-exactly s e u q (as_lists room) r in
    let here = sym (answer-at (state_after s o) (sound-after s e o) (ask (probe q.column q.value))) ∙ h in
    x.0 ∙ alone-lists (scheme s) (database s) (cache s) q room x.1 z (λ y. f (x.0 ∙ y)) ∙
    ap (λ (c : Cache). lists (cached_rows (database s) (marked c.marks) q.column q.value)) (sym (after-cache s e o)) ∙
    ap lists (carries (scheme s) (database s) (cache (state_after s o)) q.column q.value g n here).rows
