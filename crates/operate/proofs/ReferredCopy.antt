-- A REFER on a copy of the marks: the copy makes a sound state, and is left with the marks of the cache that has the pair. The lists of that cache
-- are those of the full tables. Assumes nothing.
use Prim.Native.Nat.{ℕ}
use native.Mathlib.Omega.{arith}
use mathlib.Core.Path.{◌≡◌, ap, subst, ◌∙◌}
use mathlib.Core.Bool.{true, false, and-eq-true_iff}
use mathlib.Core.List.{List, ◌++◌, append-nil}
use borrow.Author.Tests.{eq-eqb, eqb-true}
use lib.ListN.{length, take, drop_of_length-le}
use lib.Seq.{get_or-take, length-take-le, take-take}
use Rattle.finite.proofs.Bools.{cond-true}
use Rattle.finite.proofs.Search.{all-at, all_true}
use Rattle.model.specs.Cell.{numberless}
use Rattle.model.specs.Database.{Lawful}
use Rattle.model.specs.Holding.{Pair}
use Rattle.model.specs.Query.{Query, joins_of, operands_fit, fitting, full_lists}
use Rattle.model.specs.Runs.{refer, taken, pair_for, marked, Cache, referred}
use Rattle.model.specs.Effects.{effect, cache_after}
use Rattle.model.specs.Answers.{Answer}
use Rattle.model.proofs.QueryLaws.{query-lists}
use Rattle.model.proofs.Referring.{pair-ground}
use Rattle.model.proofs.RunLaws.{Sound, step-sound}
use Rattle.state.specs.declared.held.Held.{Held}
use Rattle.state.specs.Meaning.{holding_of, held_of}
use Rattle.state.specs.Lawful.{lawful_marks}
use Rattle.state.specs.Lent.{State, lent, scheme, database, cache, long_enough, lawful, sound, Answered}
use Rattle.lawful.proofs.RowsLaws.{Stored}
use Rattle.lawful.proofs.LawfulState.{lawful-says}
use Rattle.lawful.proofs.SoundState.{parts, from_parts, after, held-after, marks-after}

module _ (s : State) (e : sound s ≡ true) where
  -- the state with the copy in place of the marks
  abbrev pub copied : State
  copied = lent s.design s.cells s.tables (take 512 s.marks) s.held

  copy-long : length (take 512 s.marks) ≡ 512
  copy-long = length-take-le 512 s.marks (parts s e).long.marks

  pub copy-sound : sound copied ≡ true
  unfolding lawful_marks
  copy-sound =
      let p = parts s e in
      from_parts copied
      (record {
        long = record { cells = p.long.cells; issues = p.long.issues; tables = p.long.tables; marks = omega (arith, copy-long) };
        design = p.design;
        rows = p.rows;
        held = p.held;
        marks = all_true 512 _ (λ r l. eq-eqb _ _ (get_or-take 512 s.marks r 0 l ∙ eqb-true _ _ (all-at 512 _ p.marks r l)));
      })

  copy-cache : cache copied ≡ cache s
  copy-cache = ap (λ (m : List ℕ). record { held = holding_of s.held; marks = m }) (take-take 512 512 s.marks (omega arith))

  module _ (p : Pair) (t : taken (scheme s) (cache s).held p ≡ true) where
    abbrev then : Cache
    then = referred (scheme s) (database s) (cache s) p

    after_then : after copied (refer p) ≡ then
    unfolding effect
    after_then =
        ap (λ (c : Cache). cache_after (scheme s) (database s) c (refer p)) copy-cache ∙ cond-true (taken (scheme s) (cache s).held p) then (cache s) t

    module _ (a : Answer) (m : List ℕ) (h : Held) (w : Answered copied (refer p) a (lent s.design s.cells s.tables m h)) where
      pub copy-held : h ≡ held_of then.held
      copy-held =
          ap (λ (x : State). x.held) w.state ∙ held-after copied copy-sound (refer p) ∙ ap (λ (c : Cache). held_of c.held) after_then

      pub copy-marks : m ≡ then.marks
      copy-marks =
          ap (λ (x : State). x.marks) w.state ∙ marks-after copied copy-sound (refer p) ∙
          ap (λ (x : List ℕ). (after copied (refer p)).marks ++ x) (drop_of_length-le (take 512 s.marks) {i = 512} (omega (arith, copy-long))) ∙
          append-nil (after copied (refer p)).marks ∙ ap (λ (c : Cache). c.marks) after_then

    then-sound : Stored s.cells → Sound (scheme s) (database s) then
    unfolding effect
    then-sound u =
        subst (Sound (scheme s) (database s)) (cond-true (taken (scheme s) (cache s).held p) then (cache s) t)
        (step-sound (cache s) (refer p) (lawful-says s u ((and-eq-true_iff (long_enough s) (lawful s)).0 e).1).smallest)

  -- the lists of the cache with the query's pair are those of the full tables
  pub referred-lists : Stored s.cells → (q : Query) → operands_fit (scheme s) q ≡ true → numberless q.value ≡ false →
      taken (scheme s) (cache s).held (pair_for (scheme s) q) ≡ true →
      fitting (scheme s) (database s) (marked (referred (scheme s) (database s) (cache s) (pair_for (scheme s) q)).marks) q.column q.value (joins_of q) ≡
      full_lists (scheme s) (database s) q
  referred-lists u q f b t =
      query-lists lawful-rows (then (pair_for (scheme s) q) t) (then-sound (pair_for (scheme s) q) t u) q f
      (λ z. omega (arith, z, pair-ground (scheme s) (database s) (cache s) q t b))
    where
      lawful-rows : Lawful (scheme s) (database s)
      lawful-rows = (lawful-says s u ((and-eq-true_iff (long_enough s) (lawful s)).0 e).1).rows.database
