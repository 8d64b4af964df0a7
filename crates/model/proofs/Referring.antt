-- Queries that refer (02, Req 02 and 03): what a query leaves cached, case by case, and that its pair, once held, is a ground. Assumes nothing.
use Prim.Native.Nat.{ℕ, ◌≤◌, ◌<◌}
use native.Mathlib.Omega.{arith}
use mathlib.Core.Path.{◌≡◌, refl, sym, ap, ◌∙◌}
use mathlib.Core.Logic.{◌≢◌, ◌⊎◌, inl, inr, ⊎_elim}
use mathlib.Core.Bool.{Bool, true, false, not, ◌||◌, and-false, and-eq-true_iff, or-true}
use mathlib.Core.List.{List, [], ◌∷◌}
use borrow.Author.Tests.{eqb-true, eq-eqb, ne_eqb, ltb-true, ltb-false}
use lib.Dec.{eqb, ltb}
use Rattle.finite.specs.Sameness.{listed}
use Rattle.finite.proofs.Bools.{dec, both, clash, cond-true, cond-false, or_cases, or_left}
use Rattle.finite.proofs.First.{First, first-from}
use Rattle.model.specs.Cell.{numberless}
use Rattle.model.specs.Scheme.{Column, same_column, candidate, Scheme}
use Rattle.model.specs.Database.{Database}
use Rattle.model.specs.Cache.{Held}
use Rattle.model.specs.Probe as Probe
use Rattle.model.specs.Holding.{same_pair, Owned, same_owned, Holding, mine, holds, has_room, with_pair, one, pairs_hold, held_in}
use Rattle.model.specs.Query.{Query}
use Rattle.model.specs.Runs.{Output, as_lists, as_total, query, taken, filling_for, pair_for, output_fits, within_limit, answerable, refers, marked, Cache, referred}
use Rattle.model.specs.Effects.{effect, cache_after}
use Rattle.model.specs.Answers.{Answer, sent, refused, unless, or_answer, query_ground, is_answered, full_answer, limit_cause, query_answer}
use Rattle.model.specs.Demand.{FillingAt, FillingsApart, Unreferred, no_filling, no_candidate, full}
use Rattle.model.proofs.CellLaws.{numbered-full, equal-self}
use Rattle.model.proofs.HoldingLaws.{same_parts}
use Rattle.model.proofs.RunLaws.{held_more}

-- ---- the filling of a query's column

first-filling : (S : Scheme) (q : Query) → First S.fillings (λ f. same_column (S.filling f).column q.column) 0 (filling_for S q.column)
unfolding filling_for
first-filling S q = first-from S.fillings (λ f. same_column (S.filling f).column q.column) 0 (omega arith)

-- it is one of the fillings, or their number
pub filling-few : (S : Scheme) (k : Column) → filling_for S k ≤ S.fillings
unfolding filling_for
filling-few S k = (first-from S.fillings (λ f. same_column (S.filling f).column k) 0 (omega arith)).bound

filling-at : (S : Scheme) (q : Query) → filling_for S q.column < S.fillings → FillingAt S q.column (filling_for S q.column)
filling-at S q l = record { below = l; column = (first-filling S q).here l }

-- a pair that is taken is of a filling of the column, has a candidate, and there is room for it
record Takes (S : Scheme) (h : Holding) (q : Query) : Type 0 where
  filling : FillingAt S q.column (filling_for S q.column)
  value : candidate (S.filling (filling_for S q.column)) q.value ≡ true
  room : has_room h ≡ true

takes : (S : Scheme) (h : Holding) (q : Query) → taken S h (pair_for S q) ≡ true → Takes S h q
unfolding taken
takes S h q e =
    let a = (and-eq-true_iff (ltb (filling_for S q.column) S.fillings) _).0 e in
    let b = (and-eq-true_iff (candidate (S.filling (filling_for S q.column)) q.value) _).0 a.1 in
    record {
      filling = filling-at S q (ltb-true _ _ a.0);
      value = b.0;
      room = ((and-eq-true_iff (not (holds h (pair_for S q))) (has_room h)).0 b.1).1;
    }

-- a value that a desk holds is held in its filling's column
pub listed-held : (S : Scheme) (os : List Owned) (o : Owned) (k : Column) → listed same_owned o os ≡ true → same_column (S.filling o.pair.filling).column k ≡ true →
    pairs_hold S os k o.pair.value ≡ true
unfolding listed pairs_hold same_pair one
listed-held S [] o k e c = clash e refl
listed-held S (x ∷ xs) o k e c =
    ⊎_elim
    (λ (h : same_owned x o ≡ true).
    let a = (and-eq-true_iff (eqb x.pair.filling o.pair.filling) _).0 (same_parts x o h).1 in
    sym (or_left (one (S.filling x.pair.filling).column x.pair.value k o.pair.value) (pairs_hold S xs k o.pair.value)
    (both (ap (λ (f : ℕ). same_column (S.filling f).column k) (eqb-true _ _ a.0) ∙ c) a.1)))
    (λ (h : listed same_owned o xs ≡ true).
    ap (λ (b : Bool). one (S.filling x.pair.filling).column x.pair.value k o.pair.value || b) (listed-held S xs o k h c) ∙
    or-true (one (S.filling x.pair.filling).column x.pair.value k o.pair.value))
    (or_cases (same_owned x o) (listed same_owned o xs) e)

-- ---- why a query is not referred

module _ (S : Scheme) (h : Holding) (q : Query) where
  -- its pair is not taken, though its value is not held in its column
  pub untaken : held_in S h q.column q.value ≡ false → taken S h (pair_for S q) ≡ false → Unreferred S h q.column q.value
  unfolding taken
  untaken n e = filling (dec (ltb (filling_for S q.column) S.fillings))
    where
      room : (candidate (S.filling (filling_for S q.column)) q.value ≡ true) → ltb (filling_for S q.column) S.fillings ≡ true →
          (has_room h ≡ true) ⊎ (has_room h ≡ false) → (holds h (pair_for S q) ≡ true) ⊎ (holds h (pair_for S q) ≡ false) →
          Unreferred S h q.column q.value
      room c l (inr f) p = full f
      room c l (inl t) (inl y) =
          clash (sym (or_left (pairs_hold S h.values q.column q.value) _ (listed-held S h.values (mine h (pair_for S q)) q.column y ((first-filling S q).here (ltb-true _ _ l))))) n
      room c l (inl t) (inr y) = clash (both l (both c (both (ap not y) t))) e

      value : ltb (filling_for S q.column) S.fillings ≡ true →
          (candidate (S.filling (filling_for S q.column)) q.value ≡ true) ⊎ (candidate (S.filling (filling_for S q.column)) q.value ≡ false) →
          Unreferred S h q.column q.value
      value l (inl c) = room c l (dec (has_room h)) (dec (holds h (pair_for S q)))
      value l (inr c) = no_candidate (filling_for S q.column) (filling-at S q (ltb-true _ _ l)) c

      filling : (ltb (filling_for S q.column) S.fillings ≡ true) ⊎ (ltb (filling_for S q.column) S.fillings ≡ false) → Unreferred S h q.column q.value
      filling (inl l) = value l (dec (candidate (S.filling (filling_for S q.column)) q.value))
      filling (inr l) =
          no_filling (λ f at. clash at.column ((first-filling S q).none f (omega arith) (omega (arith, ltb-false (filling_for S q.column) S.fillings l, at.below))))

  -- and one for which there is such a reason has its pair not taken
  pub unreferred : FillingsApart S → Unreferred S h q.column q.value → taken S h (pair_for S q) ≡ true → ⊥
  unfolding FillingsApart
  unreferred apart (no_filling none) e = none (filling_for S q.column) (takes S h q e).filling
  unreferred apart (no_candidate f at c) e =
      clash (takes S h q e).value (ap (λ (g : ℕ). candidate (S.filling g) q.value) (apart q.column (filling_for S q.column) f (takes S h q e).filling at) ∙ c)
  unreferred apart (full f) e = clash (takes S h q e).room f

-- ---- what a query leaves

module _ (S : Scheme) (D : Database) (c : Cache) (q : Query) (out : Output) where
  abbrev refers_here : Bool
  refers_here = refers S D c.held (marked c.marks) q out

  kept : refers_here ≡ false → cache_after S D c (query q out) ≡ c
  unfolding effect
  kept e = cond-false refers_here _ c e

  -- one that is refused leaves the cache as it was
  pub refused-keeps : answerable S D q out ≡ false → cache_after S D c (query q out) ≡ c
  unfolding refers
  refused-keeps e = kept (rw e)

  -- so does one with a ground
  pub ground-keeps : (query_ground S D c q ≡ 0 → ⊥) → cache_after S D c (query q out) ≡ c
  unfolding refers query_ground
  ground-keeps g = kept (rw (ne_eqb (query_ground S D c q) 0 g) (and-false (answerable S D q out)))

  -- so does one whose pair is not taken
  pub untaken-keeps : taken S c.held (pair_for S q) ≡ false → cache_after S D c (query q out) ≡ c
  unfolding refers
  untaken-keeps e =
      kept (rw (e, and-false (eqb (Probe.probe S D (held_in S c.held) (marked c.marks) q.column q.value) 0)) (and-false (answerable S D q out)))

  -- any other refers its pair
  pub refers-pair : answerable S D q out ≡ true → query_ground S D c q ≡ 0 → taken S c.held (pair_for S q) ≡ true →
      cache_after S D c (query q out) ≡ referred S D c (pair_for S q)
  unfolding effect refers query_ground
  refers-pair a g t = cond-true refers_here _ c (both a (both (eq-eqb (query_ground S D c q) 0 g) t))

-- the pair that was referred is ground 1
pub pair-ground : (S : Scheme) (D : Database) (c : Cache) (q : Query) → taken S c.held (pair_for S q) ≡ true → numberless q.value ≡ false →
    query_ground S D (referred S D c (pair_for S q)) q ≡ 1
unfolding query_ground Probe.probe one
pair-ground S D c q t n = rw (held ∙ or-true (held_in S c.held q.column q.value))
  where
    held : held_in S (with_pair c.held (pair_for S q)) q.column q.value ≡ held_in S c.held q.column q.value || true
    held =
        ap (λ (H : Held). H q.column q.value) (held_more S c.held (pair_for S q)) ∙
        ap (λ (b : Bool). held_in S c.held q.column q.value || b) (both (takes S c.held q t).filling.column (equal-self q.value (numbered-full q.value n)))

-- ---- one that is refused

-- lists, and a total, are neither "sent" nor a refusal
pub full-answers : (S : Scheme) (D : Database) (q : Query) (out : Output) → (full_answer S D q out ≢ sent) × ((n : ℕ) → full_answer S D q out ≢ refused n)
unfolding full_answer
full-answers S D q (as_lists room) = (λ e. let z : ◌≡◌ {A = ℕ} 0 1 = cc in omega arith, λ n e. let z : ◌≡◌ {A = ℕ} 0 1 = cc in omega arith)
full-answers S D q (as_total p c) = (λ e. let z : ◌≡◌ {A = ℕ} 0 1 = cc in omega arith, λ n e. let z : ◌≡◌ {A = ℕ} 0 1 = cc in omega arith)

sent-unrefused : (n : ℕ) → ◌≢◌ {A = Answer} sent (refused n)
sent-unrefused n e = let z : ◌≡◌ {A = ℕ} 0 1 = cc in omega arith

-- it leaves the cache as it was: with 11 and with 13 the reference is undone
pub query-refused-keeps : (S : Scheme) (D : Database) (c : Cache) (q : Query) (out : Output) (n : ℕ) → query_answer S D c q out ≡ refused n →
    cache_after S D c (query q out) ≡ c
unfolding query_answer answerable
query-refused-keeps S D c q out n h =
    go (output_fits S q out) (numberless q.value) (is_answered S D c q) (within_limit S D q out) refl refl refl refl h
  where
    go : (f b y w : Bool) → output_fits S q out ≡ f → numberless q.value ≡ b → is_answered S D c q ≡ y → within_limit S D q out ≡ w →
        unless (not f) 5 (unless b 9 (or_answer (not y) sent (unless (not w) (limit_cause out) (full_answer S D q out)))) ≡ refused n →
        cache_after S D c (query q out) ≡ c
    go false b y w f₁ b₁ y₁ w₁ k = refused-keeps S D c q out (rw f₁)
    go true true y w f₁ b₁ y₁ w₁ k = refused-keeps S D c q out (rw (f₁, b₁))
    go true false y false f₁ b₁ y₁ w₁ k = refused-keeps S D c q out (rw (f₁, b₁, w₁))
    go true false false true f₁ b₁ y₁ w₁ k = absurd (sent-unrefused n k)
    go true false true true f₁ b₁ y₁ w₁ k = absurd ((full-answers S D q out).1 n k)
