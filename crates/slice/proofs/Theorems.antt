-- What the code's answers are worth: where `missing` says that nothing lacks, the cached rows and what every operation answers (but an opener, which is found from rows
-- that aren't cached, and a reason, whose sentence numbers rows) are those of the whole database, whichever lawful database the fetches were made in. Assumes nothing.
use Prim.Native.Nat.{ℕ, ◌*◌}
use native.Mathlib.Omega.{arith}
use mathlib.Core.Path.{◌≡◌, refl, sym, ap, subst, ◌∙◌}
use mathlib.Core.Bool.{Bool, true, false, not, cond}
use mathlib.Core.List.{List, map}
use borrow.Author.Tests.{eqb-true}
use lib.Dec.{eqb, leb}
use lib.ListN.{length, take, drop as past}
use lib.Seq.{take_at}
use Rattle.model.specs.Effects.{effect, answer, written}
use Rattle.model.specs.Database.{Database}
use Rattle.model.specs.Mirror.{Mirrors, EnoughFor, from_slice}
use Rattle.model.specs.Missing as Model
use Rattle.model.specs.Demand.{FillingsApart}
use Rattle.model.specs.Query.{Query}
use Rattle.model.specs.Slice.{InOrder}
use Rattle.model.specs.Runs.{Output, query, Operation, Cache, marked, reloaded}
use Rattle.model.proofs.Fresh.{step-fresh}
use Rattle.model.proofs.RunLaws.{reload-sound}
use Rattle.model.proofs.MirrorLaws.{mirror-words, mirror-reload}
use Rattle.model.proofs.MirrorLoads.{mirror-answer}
use Rattle.model.proofs.MissingLaws.{nothing-enough}
use Rattle.state.specs.Lent.{State, scheme, database, cache, sound, state_after, answer_at, words_at, cause_of}
use Rattle.state.specs.Meaning.{holding_of}
use Rattle.lawful.proofs.DesignLaws.{fillings-apart}
use Rattle.lawful.proofs.HeldLaws.{holding-back}
use Rattle.lawful.proofs.SoundState.{parts, sound-fresh, sound-smallest, fresh-long, after, after-fit, held-after, marks-after, answer-at, words-at, sound-after}
use Rattle.guard.proofs.CauseWords.{cause-clear}
use Rattle.slice.specs.Fetches.{fetches_in, fetches_fit}
use Rattle.slice.specs.Replies.{Reply, lack, refused, missing_at, reply_in, reply_at}
use Rattle.slice.specs.Fed.{Fed, full_cache}

-- ---- the state that an operation leaves

-- the cache that it leaves is the model's
after-cache : (s : State) → sound s ≡ true → (o : Operation) → cache (state_after s o) ≡ after s o
after-cache s e o =
    λ i. record { held = held i; marks = (ap (take 512) (marks-after s e o) ∙ take_at (after s o).marks (past 512 s.marks) 512 long) i }
  where
    long : length (after s o).marks ≡ 512
    long = fresh-long s.design s.cells s.tables (after s o) (step-fresh (scheme s) (database s) (cache s) o (sound-fresh s e))

    held : holding_of (state_after s o).held ≡ (after s o).held
    held = ap holding_of (held-after s e o) ∙ holding-back (after s o).held (after-fit s e o)

-- ---- where nothing lacks

module _ (s : State) (e : sound s ≡ true) (at : ℕ → ℕ) (B : Database) (fs : List Model.Fetch) (f : Fed s at B fs) where
  -- THEOREM: where nothing lacks, the slice is enough
  pub nothing-lacks : missing_at s fs ≡ Model.nothing → EnoughFor (scheme s) at (database s) B (cache s)
  unfolding missing_at
  nothing-lacks n =
      nothing-enough f.slice f.lawful fs f.fetched (cache s).held (marked (cache s).marks) (λ r x. (sound-smallest s e).meets.rows r x) n

  -- THEOREM: and the state holds and has cached what the whole database would: its rows, under their numbers there
  pub slice-cached : missing_at s fs ≡ Model.nothing → Mirrors at (database s) (cache s) (full_cache s B)
  slice-cached n =
      let p : cache s ≡ reloaded (scheme s) (database s) (cache s).held = λ i. record { held = (cache s).held; marks = (sound-fresh s e).reloaded i } in
      subst (λ (c : Cache). Mirrors at (database s) c (full_cache s B)) (sym p)
      (mirror-reload f.slice f.lawful (fillings-apart s.design (parts s e).design) (reload-sound (scheme s) B (cache s).held) (subst (EnoughFor (scheme s) at (database s) B) p (nothing-lacks n)))

-- what is asked of a step: nothing lacks before the operation, and nothing after it
pub record NothingLacks (s : State) (fs : List Model.Fetch) (o : Operation) : Type 0 where
  pub before : missing_at s fs ≡ Model.nothing
  pub behind : missing_at (state_after s o) fs ≡ Model.nothing

module _ (s : State) (e : sound s ≡ true) (at : ℕ → ℕ) (B : Database) (fs : List Model.Fetch) (f : Fed s at B fs) where
  enough-after : (o : Operation) → missing_at (state_after s o) fs ≡ Model.nothing → EnoughFor (scheme s) at (database s) B (after s o)
  enough-after o m =
      subst (EnoughFor (scheme s) at (database s) B) (after-cache s e o)
      (nothing-lacks (state_after s o) (sound-after s e o) at B fs (record { slice = f.slice; lawful = f.lawful; fetched = f.fetched }) m)

  apart : FillingsApart (scheme s)
  apart = fillings-apart s.design (parts s e).design

  -- THEOREM: then it answers what it would answer over the whole database: refusals, rows and rounds, rows that went, grounds, lists and totals
  pub slice-answers : (o : Operation) → from_slice o ≡ true → NothingLacks s fs o → answer_at s o ≡ answer (scheme s) B (full_cache s B) o
  slice-answers o g w =
      answer-at s e o ∙
      sym (mirror-answer f.slice f.lawful apart (sound-smallest s e) (reload-sound (scheme s) B (cache s).held) (slice-cached s e at B fs f w.before) o g
      (enough-after o w.behind))

  -- THEOREM: and a query writes the same words, under the database's numbers, where the slice has its rows in the database's order
  pub slice-words : InOrder at (database s) → (q : Query) (out : Output) → NothingLacks s fs (query q out) →
      written (scheme s) B (full_cache s B) (query q out) ≡ map at (words_at s (query q out))
  unfolding effect
  slice-words up q out w =
      mirror-words f.slice (sound-smallest s e) (slice-cached s e at B fs f w.before) f.lawful apart q out (enough-after (query q out) w.behind) up ∙
      ap (map at) (sym (words-at s e (query q out)))

-- ---- the entry point's answer

lack-not : {n : ℕ} {l : Model.Lack} → refused n ≡ lack l → ⊥
lack-not e = let z : ◌≡◌ {A = ℕ} 0 1 = cc in omega arith

same-lack : {l m : Model.Lack} → lack l ≡ lack m → l ≡ m
same-lack e = cc

-- THEOREM: where the entry point says that nothing lacks, the state is sound, the words are accepted, and nothing lacks
pub reply-nothing : (s : State) (held words : List ℕ) (n : ℕ) → reply_at s held words n ≡ lack Model.nothing →
    (sound s ≡ true) × (fetches_fit (scheme s) words n ≡ true) × (missing_at s (fetches_in words n) ≡ Model.nothing)
unfolding reply_at reply_in
reply-nothing s held words n h =
    let q = unrefused (eqb (cause_of s held) 0) (reply_in s words n) (cause_of s held) h in
    let f = fits (leb (5 * n) (length words)) (fetches_fit (scheme s) words n) (missing_at s (fetches_in words n)) q.1 in
    ((cause-clear s held (eqb-true _ 0 q.0)).sound, f.0, f.1)
  where
    unrefused : (b : Bool) (r : Reply) (k : ℕ) {l : Model.Lack} → cond b r (refused k) ≡ lack l → (b ≡ true) × (r ≡ lack l)
    unrefused true r k e = (refl, e)
    unrefused false r k e = absurd (lack-not e)

    fits : (a b : Bool) (m : Model.Lack) {l : Model.Lack} → cond (not a) (refused 7) (cond (not b) (refused 5) (lack m)) ≡ lack l → (b ≡ true) × (m ≡ l)
    fits false b m e = absurd (lack-not e)
    fits true false m e = absurd (lack-not e)
    fits true true m e = (refl, same-lack e)

-- THEOREM: if the entry point says of the states before and after an operation that nothing lacks, the operation answered what it answers over the whole database
pub missing-answers : (s : State) (held held' words : List ℕ) (n : ℕ) (o : Operation) → reply_at s held words n ≡ lack Model.nothing →
    reply_at (state_after s o) held' words n ≡ lack Model.nothing → from_slice o ≡ true → (at : ℕ → ℕ) (B : Database) → Fed s at B (fetches_in words n) →
    answer_at s o ≡ answer (scheme s) B (full_cache s B) o
missing-answers s held held' words n o x y g at B f =
    let a = reply-nothing s held words n x in
    let b = reply-nothing (state_after s o) held' words n y in
    slice-answers s a.0 at B (fetches_in words n) f o g (record { before = a.2; behind = b.2 })
