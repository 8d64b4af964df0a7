-- The marks where a row goes that isn't cached, or that demands no row. Assumes nothing.
use Prim.Native.Nat.{ℕ, ◌+◌, ◌≤◌, ◌<◌}
use native.Mathlib.Decide.{dec_lt}
use native.Mathlib.Omega.{arith}
use mathlib.Core.Path.{◌≡◌, refl, sym, ap, ap₂, subst, ◌∙◌}
use mathlib.Core.Logic.{◌⊎◌, inl, inr}
use mathlib.Core.Bool.{Bool, true, false, not, cond, ◌&&◌}
use mathlib.Core.List.{List}
use borrow.Author.Tests.{eq-eqb, eqb-true, lt-ltb}
use lib.Dec.{eqb, ltb}
use lib.ListN.{length, get_or, set, length-set}
use lib.Seq.{get_or-set_same, get_or-set_other, drop-set-lt}
use Rattle.finite.specs.Finite.{any, count, first_from}
use Rattle.finite.proofs.Bools.{both, clash, refute, same_number, and_left, cond-true, cond-false}
use Rattle.finite.proofs.Counting.{count_none, count-one}
use Rattle.finite.proofs.First.{first-from}
use Rattle.finite.proofs.Search.{any_none, any-refuted, all-at}
use Rattle.model.specs.Scheme.{Scheme}
use Rattle.model.specs.Database.{Database}
use Rattle.model.specs.Cache.{RowSet, Smallest}
use Rattle.model.specs.Holding.{held_in}
use Rattle.model.specs.Rounds.{leads, demands}
use Rattle.model.specs.Runs.{marked, cached_for}
use Rattle.model.specs.Answers.{changed}
use Rattle.model.proofs.Closed.{Demand-demands}
use Rattle.model.proofs.RunLaws.{held-smallest}
use Rattle.state.specs.declared.design.Design.{Design}
use Rattle.state.specs.declared.held.Held.{Held}
use Rattle.state.specs.Design.{Backed}
use Rattle.state.specs.Meaning.{holding_of, scheme_of}
use Rattle.state.specs.Lawful.{lawful_marks}
use Rattle.state.specs.Lent.{State, scheme, database, sound}
use Rattle.state.specs.Changes.{Rows, tables_of, free_row, stored}
use Rattle.lawful.proofs.SoundState.{parts}
use Rattle.mend.specs.Changing.{Without}
use Rattle.change.specs.Replacing.{Marking, Leaving, Remarked}
use Rattle.change.proofs.SmallestLaws.{but, but-has, but-says, goes-smallest}
use Rattle.change.proofs.ReplaceLaws.{remarked-by, marks-at}
use Rattle.change.proofs.BesideLaws.{freed-without}

-- a row is marked exactly if it is cached
pub marking-marked : {S : Scheme} {D : Database} {h : Held} {m : List ℕ} → Marking S D h m → (s : ℕ) → s < 512 → marked m s ≡ cached_for S D (holding_of h) s
unfolding marked
marking-marked {S} {D} {h} x s l = ap (λ (n : ℕ). eqb n 1) (x.at s l) ∙ go (cached_for S D (holding_of h) s)
  where
    go : (b : Bool) → eqb (cond b 1 0) 1 ≡ b
    go true = refl
    go false = refl

pub not-both : (b : Bool) → b && not b ≡ false
not-both true = refl
not-both false = refl

module _ {S : Scheme} {E F : Database} {h : Held} {r : ℕ} {on : Bool} {m : List ℕ} (long : 512 ≤ length m) (x : Leaving S E F h r on m) where
  abbrev X : RowSet
  X = cached_for S F (holding_of h)

  abbrev Y : RowSet
  Y = but X r

  is : (s : ℕ) → s < 512 → marked m s ≡ X s
  is s l = marking-marked x.marking s l

  -- other rows are cached as before, and row r no more
  kept : (s : ℕ) → (s ≡ r → ⊥) → Y s ≡ X s
  kept s ne = go (X s) refl
    where
      go : (b : Bool) → X s ≡ b → Y s ≡ X s
      go true e = but-has X r s e ne ∙ sym e
      go false e = refute (Y s) (λ t. clash (but-says X r s t).0 e) ∙ sym e

  gone : Y r ≡ false
  gone = refute (Y r) (λ t. (but-says X r r t).1 refl)

  -- none comes
  none_came : count 512 (λ s. Y s && not (marked m s)) ≡ 0
  none_came = count_none 512 _ (λ s l. go s l (same_number s r))
    where
      go : (s : ℕ) → s < 512 → (s ≡ r) ⊎ (s ≡ r → ⊥) → Y s && not (marked m s) ≡ false
      go s l (inl e) = and_left (Y s) (not (marked m s)) (ap Y e ∙ gone)
      go s l (inr ne) = ap₂ (λ (a b : Bool). a && not b) (kept s ne) (is s l) ∙ not-both (X s)

  -- none but row r goes
  others-stay : (s : ℕ) → s < 512 → (s ≡ r → ⊥) → marked m s && not (Y s) ≡ false
  others-stay s l ne = ap₂ (λ (a b : Bool). a && not b) (is s l) (kept s ne) ∙ not-both (X s)

  smallest : (X r ≡ true → on ≡ false) → Smallest S E (held_in S (holding_of h)) Y
  smallest q =
      goes-smallest x.without (held-smallest S F (holding_of h))
      (λ c t d. clash (Demand-demands d) (x.last (q c) t (omega (arith, F.finite t d.target.live, x.without.size-with))))

  -- row r isn't cached: all marks stay
  pub leaving-uncached : (get_or m r 0 ≡ 1 → ⊥) → Remarked S E h m (changed 0 0) m
  leaving-uncached n =
      remarked-by x.without.size-without (smallest (λ c. absurd (n (x.marking.at r x.without.bound ∙ cond-true (X r) 1 0 c)))) (sym none_came)
      (sym (count_none 512 _ (λ s l. went s l (same_number s r))))
      (marks-at Y m m long (λ s l. x.marking.at s l ∙ ap (λ (b : Bool). cond b 1 0) (sym (all s (same_number s r)))) refl)
    where
      off : X r ≡ false
      off = refute (X r) (λ c. n (x.marking.at r x.without.bound ∙ cond-true (X r) 1 0 c))

      all : (s : ℕ) → (s ≡ r) ⊎ (s ≡ r → ⊥) → Y s ≡ X s
      all s (inl e) = ap Y e ∙ gone ∙ sym (ap X e ∙ off)
      all s (inr ne) = kept s ne

      went : (s : ℕ) → s < 512 → (s ≡ r) ⊎ (s ≡ r → ⊥) → marked m s && not (Y s) ≡ false
      went s l (inl e) = and_left (marked m s) (not (Y s)) (is s l ∙ ap X e ∙ off)
      went s l (inr ne) = others-stay s l ne

  -- it is, and demands no row: all marks but its own stay
  pub leaving-last : get_or m r 0 ≡ 1 → on ≡ false → Remarked S E h m (changed 0 1) (set m r 0)
  unfolding marked
  leaving-last c o =
      remarked-by x.without.size-without (smallest (λ _. o)) (sym none_came)
      (sym (count-one 512 (λ _. false) (λ s. marked m s && not (Y s)) r x.without.bound refl (both marks-r (ap not gone)) (λ s l ne. sym (others-stay s l ne)) ∙ ap (λ (n : ℕ). n + 1) (count_none 512 _ (λ s l. refl))))
      (marks-at Y m (set m r 0) (omega (arith, long, length-set m r 0)) (λ s l. at s l (same_number s r)) (drop-set-lt 512 m r 0 x.without.bound))
    where
      marks-r : marked m r ≡ true
      marks-r = eq-eqb (get_or m r 0) 1 c

      at : (s : ℕ) → s < 512 → (s ≡ r) ⊎ (s ≡ r → ⊥) → get_or (set m r 0) s 0 ≡ cond (Y s) 1 0
      at s l (inl e) =
          ap (λ (i : ℕ). get_or (set m r 0) i 0) e ∙ get_or-set_same m r 0 0 (omega (arith, long, x.without.bound)) ∙ sym (cond-false (Y s) 1 0 (ap Y e ∙ gone))
      at s l (inr ne) = get_or-set_other m r s 0 0 ne ∙ x.marking.at s l ∙ ap (λ (b : Bool). cond b 1 0) (sym (kept s ne))

-- ---- as the code finds it

-- no constraint finds a first row that it demands
none-demanded : (d : Design) (D : Database) (r : ℕ) → any d.constraints (λ i. ltb (first_from 512 (leads D ((scheme_of d).constraint i) r) 0) 512) ≡ false →
    (t : ℕ) → t < 512 → demands (scheme_of d) D r t ≡ false
unfolding demands scheme_of
none-demanded d D r e t l = any-refuted d.constraints _ (λ i k. refute _ (λ h. clash (found i h (dec_lt t (first i))) (any_none d.constraints _ e i k)))
  where
    first : ℕ → ℕ
    first i = first_from 512 (leads D ((scheme_of d).constraint i) r) 0

    found : (i : ℕ) → leads D ((scheme_of d).constraint i) r t ≡ true → Dec (t < first i) → ltb (first i) 512 ≡ true
    found i h (yes k) = clash h ((first-from 512 (leads D ((scheme_of d).constraint i) r) 0 (omega arith)).none t (omega arith) k)
    found i h (no k) = lt-ltb (first i) 512 (omega arith)

-- the lent rows R become R', where row r is free
pub leaves : (d : Design) {h : Held} {m : List ℕ} {on : Bool} (R : Rows) (r : ℕ) → r < 512 → Backed R.cells R.tables → (R' : Rows) → R' ≡ stored R r free_row →
    Marking (scheme_of d) (tables_of R) h m → on ≡ any d.constraints (λ i. ltb (first_from 512 (leads (tables_of R) ((scheme_of d).constraint i) r) 0) 512) →
    Leaving (scheme_of d) (tables_of R') (tables_of R) h r on m
leaves d R r l b R' e k o =
    record {
      without = subst (λ (T : Rows). Without (tables_of T) (tables_of R) r) (sym e) (freed-without R r l b);
      marking = k;
      last = λ f. none-demanded d (tables_of R) r (sym o ∙ f);
    }

-- the marks of a sound state
pub sound-marking : (s : State) → sound s ≡ true → Marking (scheme s) (database s) s.held s.marks
unfolding lawful_marks
sound-marking s e = record { at = λ r l. eqb-true _ _ (all-at 512 _ (parts s e).marks r l) }
