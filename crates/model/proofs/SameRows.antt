-- Two databases with the same rows under the same numbers: what is lawful, complete or smallest in one is so in the other, a probe has the same ground, and an
-- operation leaves the same held. Assumes nothing.
use Prim.Native.Nat.{ℕ, ◌^◌, ◌≤◌, ◌<◌}
use mathlib.Core.Path.{◌≡◌, refl, sym, ap, ap₂, subst, fun_ext, ◌∙◌}
use mathlib.Core.Bool.{Bool, true, false, not, cond, ◌&&◌, and-eq-true_iff}
use mathlib.Core.List.{List}
use lib.Dec.{eqb, leb, ltb}
use lib.ListN.{length}
use Rattle.model.specs.Cell.{Cell, Fits, numberless, equal}
use Rattle.model.specs.Scheme.{Column, Constraint, Scheme}
use Rattle.model.specs.Database.{Database, Has, has, Lawful}
use Rattle.model.specs.Cache.{RowSet, Inside, Held, Complete, Holds, Meets, Smallest}
use Rattle.model.specs.Probe.{probe}
use Rattle.model.specs.Holding.{Holding, with_pair, held_in}
use Rattle.model.specs.Query.{Query, joins_of, operands_fit, fitting, words_of, full_lists, total_over, full_total, position_fits}
use Rattle.model.specs.Runs.{Output, as_lists, as_total, Operation, refer, drop, ask, query, name, refer_range, drop_range, taken, cached_for, pair_for, output_fits, within_limit, answerable, refers, held_after}
use Rattle.model.proofs.Loads.{one-smallest}
use Rattle.model.proofs.RunLaws.{held-smallest}
use Rattle.model.proofs.QueryLaws.{SameOn, operands-joins, fitting-reads, probe-reads}
use Rattle.model.proofs.TotalLaws.{total-reads, position-within}

pub record SameRows (D E : Database) : Type 0 where
  pub size : D.size ≡ E.size
  pub live : (r : ℕ) → D.live r ≡ E.live r
  pub table : (r : ℕ) → D.live r ≡ true → D.table r ≡ E.table r
  pub cell : (r c : ℕ) → D.live r ≡ true → D.cell r c ≡ E.cell r c

pub same_back : {D E : Database} → SameRows D E → SameRows E D
same_back w =
    record {
      size = sym w.size;
      live = λ r. sym (w.live r);
      table = λ r l. sym (w.table r (w.live r ∙ l));
      cell = λ r c l. sym (w.cell r c (w.live r ∙ l));
    }

pub has_same : {D E : Database} {k : Column} {v : Cell} {r : ℕ} → SameRows D E → Has D k v r → Has E k v r
has_same {k = k} {v} {r} w h =
    record {
      live = sym (w.live r) ∙ h.live;
      table = sym (w.table r h.live) ∙ h.table;
      value = subst (λ (a : Cell). equal a v ≡ true) (w.cell r k.place h.live) h.value;
    }

-- two conjunctions whose first parts are the same, and whose second are if the first are true
pub and_same : (a b x y : Bool) → a ≡ b → (a ≡ true → x ≡ y) → a && x ≡ b && y
and_same true b x y e h = ap₂ ◌&&◌ e (h refl)
and_same false b x y e h = ap (λ (c : Bool). c && y) e

-- the same, of the test
pub has-test : {D E : Database} → SameRows D E → (k : Column) (v : Cell) (r : ℕ) → has D k v r ≡ has E k v r
unfolding has
has-test {D} {E} w k v r =
    and_same (D.live r) (E.live r) (eqb (D.table r) k.table && equal (D.cell r k.place) v) (eqb (E.table r) k.table && equal (E.cell r k.place) v)
    (w.live r) (λ l. ap₂ (λ (t : ℕ) (a : Cell). eqb t k.table && equal a v) (w.table r l) (w.cell r k.place l))

holds_same : {D E : Database} (X : RowSet) (j : Constraint) → SameRows D E → Holds D X j → Holds E X j
unfolding Holds Complete
holds_same X j w h s v x a r b = h s v x (has_same (same_back w) a) r (has_same (same_back w) b)

meets-same : {S : Scheme} {D E : Database} {H : Held} {X : RowSet} → SameRows D E → Meets S D H X → Meets S E H X
unfolding Complete
meets-same {S} {X = X} w m =
    record {
      rows = λ r x. sym (w.live r) ∙ m.rows r x;
      constraints = λ i l. holds_same X (S.constraint i) w (m.constraints i l);
      values = λ k v e r h. m.values k v e r (has_same (same_back w) h);
    }

pub smallest-same : {S : Scheme} {D E : Database} {H : Held} {X : RowSet} → SameRows D E → Smallest S D H X → Smallest S E H X
smallest-same w m = record { meets = meets-same w m.meets; least = λ Y n. m.least Y (meets-same (same_back w) n) }

pub lawful-same : {S : Scheme} {D E : Database} → SameRows D E → Lawful S D → Lawful S E
lawful-same {S} {D} {E} w m =
    record {
      cells = λ r c l. subst Fits (w.cell r c (there r l)) (m.cells r c (there r l));
      tables = λ r l. subst (λ (t : ℕ). t < S.tables) (w.table r (there r l)) (m.tables r (there r l));
      blanks = λ r c l h.
          sym (w.cell r c (there r l)) ∙ m.blanks r c (there r l) (subst (λ (t : ℕ). S.columns t ≤ c) (sym (w.table r (there r l))) h);
      unique = λ k v r s u a b. m.unique k v r s u (has_same (same_back w) a) (has_same (same_back w) b);
    }
  where
    there : (r : ℕ) → E.live r ≡ true → D.live r ≡ true
    there r l = w.live r ∙ l

-- ---- what an operation leaves held is the same in both

module _ (S : Scheme) {D E : Database} (w : SameRows D E) where
  -- they agree on any set of rows
  pub same-on : (X : RowSet) → Inside X D.live → SameOn X D E
  same-on X i =
      record { size = w.size; live = λ r x. w.live r; table = λ r x. w.table r (i r x); cell = λ r c x. w.cell r c (i r x) }

  -- so the same rows are cached,
  cached-same : (h : Holding) → cached_for S D h ≡ cached_for S E h
  cached-same h = fun_ext (one-smallest (smallest-same w (held-smallest S D h)) (held-smallest S E h))

  -- a probe has the same ground,
  ground-same : (h : Holding) (q : Query) →
      probe S D (held_in S h) (cached_for S D h) q.column q.value ≡ probe S E (held_in S h) (cached_for S E h) q.column q.value
  ground-same h q =
      probe-reads S (held_in S h) (same-on (cached_for S D h) (held-smallest S D h).meets.rows) q.column q.value ∙
      ap (λ (X : RowSet). probe S E (held_in S h) X q.column q.value) (cached-same h)

  -- and a query whose operands fit the same lists
  pub lists-same : (q : Query) → operands_fit S q ≡ true → full_lists S D q ≡ full_lists S E q
  unfolding full_lists
  lists-same q f =
      fitting-reads S (same-on D.live (λ r x. x)) q.column q.value (joins_of q) (operands-joins S q f) ∙
      ap (λ (X : RowSet). fitting S E X q.column q.value (joins_of q)) (fun_ext w.live)

  -- and the same totals, of a position that it has
  pub total-same : (q : Query) (p c : ℕ) → operands_fit S q ≡ true → position_fits S q p c ≡ true → full_total S D q p c ≡ full_total S E q p c
  unfolding full_total
  total-same q p c f h =
      total-reads S (same-on D.live (λ r x. x)) q.column q.value (joins_of q) (operands-joins S q f) p c (position-within S q p c h) ∙
      ap (λ (X : RowSet). total_over S E X q.column q.value (joins_of q) p c) (fun_ext w.live)

  within_same : (q : Query) (out : Output) → output_fits S q out ≡ true → within_limit S D q out ≡ within_limit S E q out
  unfolding within_limit output_fits
  within_same q (as_lists room) f = ap (λ (ls : List (List ℕ)). leb (length (words_of ls)) room) (lists-same q f)
  within_same q (as_total p c) f =
      let h = (and-eq-true_iff (operands_fit S q) (position_fits S q p c)).0 f in ap (λ (n : ℕ). ltb n (2 ^ 64)) (total-same q p c h.0 h.1)

  answerable-same : (q : Query) (out : Output) → answerable S D q out ≡ answerable S E q out
  unfolding answerable
  answerable-same q out = go (output_fits S q out) refl
    where
      go : (b : Bool) → output_fits S q out ≡ b → b && (not (numberless q.value) && within_limit S D q out) ≡ b && (not (numberless q.value) && within_limit S E q out)
      go true f = ap (λ (x : Bool). not (numberless q.value) && x) (within_same q out f)
      go false f = refl

  refers-same : (h : Holding) (q : Query) (out : Output) → refers S D h (cached_for S D h) q out ≡ refers S E h (cached_for S E h) q out
  unfolding refers
  refers-same h q out =
      ap₂ (λ (a : Bool) (g : ℕ). a && (eqb g 0 && taken S h (pair_for S q))) (answerable-same q out) (ground-same h q)

  pub held_same : (h : Holding) (o : Operation) → held_after S D h o ≡ held_after S E h o
  unfolding held_after
  held_same h (refer p) = refl
  held_same h (drop p) = refl
  held_same h (ask q) = refl
  held_same h (name d) = refl
  held_same h (refer_range r) = refl
  held_same h (drop_range r) = refl
  held_same h (query q out) = ap (λ (b : Bool). cond b (with_pair h (pair_for S q)) h) (refers-same h q out)
