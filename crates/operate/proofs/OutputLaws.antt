-- What a query is asked for, case by case: whether its operands fit, and what it draws from lists. Assumes nothing.
use Prim.Native.Nat.{ℕ, ◌^◌, ◌≤◌, ◌<◌}
use native.Mathlib.Decide.{dec_lt}
use native.Mathlib.Omega.{arith}
use mathlib.Core.Path.{◌≡◌, refl, sym, ap, ◌∙◌}
use mathlib.Core.Bool.{Bool, true, false, not, and-eq-true_iff}
use mathlib.Core.List.{List, []}
use borrow.Author.Tests.{ltb-true}
use lib.Dec.{ltb}
use lib.ListN.{length, get_or, get_or-eq_default}
use lib.Seq.{sets}
use Rattle.finite.proofs.Bools.{and-go, and-stop}
use Rattle.model.specs.Cell.{Cell}
use Rattle.model.specs.Scheme.{Column, Scheme}
use Rattle.model.specs.Database.{Database}
use Rattle.model.specs.Cache.{RowSet}
use Rattle.model.specs.Query.{Join, operands_fit, fitting, words_of, total_over, position_fits, position_tables}
use Rattle.model.specs.Runs.{output_fits}
use Rattle.model.specs.Answers.{Answer, total, unless, has_lists, shown, written_with}
use Rattle.model.proofs.TotalLaws.{position-within}
use Rattle.state.specs.declared.design.Design.{Design}
use Rattle.state.specs.declared.operation.Query.{Query}
use Rattle.state.specs.Design.{no_table, table_at}
use Rattle.state.specs.Meaning.{scheme_of, query_of}
use Rattle.state.specs.Lawful.{lawful_design}
use Rattle.state.proofs.Arrays.{Sized}
use Rattle.lawful.proofs.DesignLaws.{design-says}
use Rattle.query.specs.Lists.{totalled_answer, Listed}
use Rattle.query.proofs.PlanLaws.{number-of-joins}
use Rattle.operate.specs.declared.output.Output.{Output}
use Rattle.operate.specs.declared.output.Output.TheVariants.{Lists, Total}
use Rattle.operate.specs.Queries.{output_of, drawn, Drawn}

-- ---- the operands

module _ (d : Design) (q : Query) where
  pub misfit : operands_fit (scheme_of d) (query_of q) ≡ false → (o : Output) (room : ℕ) → false ≡ output_fits (scheme_of d) (query_of q) (output_of o room)
  unfolding output_fits
  misfit f Lists room = sym f
  misfit f (Total p c) room = and-stop _ _ f

  pub fit-lists : operands_fit (scheme_of d) (query_of q) ≡ true → (o : Output) → o ≡ Lists → (room : ℕ) →
      true ≡ output_fits (scheme_of d) (query_of q) (output_of o room)
  unfolding output_fits
  fit-lists f o e room = rw e (sym f)

  pub fit-total : operands_fit (scheme_of d) (query_of q) ≡ true → (o : Output) (p c : ℕ) → o ≡ Total p c → (b : Bool) →
      b ≡ position_fits (scheme_of d) (query_of q) p c → (room : ℕ) → b ≡ output_fits (scheme_of d) (query_of q) (output_of o room)
  unfolding output_fits
  fit-total f o p c e b h room = rw e (and-go _ _ f h)

  -- what a total asks for
  pub record Totals (p c : ℕ) : Type 0 where
    pub operands : operands_fit (scheme_of d) (query_of q) ≡ true
    pub position : p ≤ q.joins
    pub column : c < 8

  -- a table has at most eight columns, also one that is not there
  few-columns : lawful_design d ≡ true → Sized d → (t : ℕ) → (table_at d t).columns ≤ 8
  few-columns l z t = go (dec_lt t d.tables) (dec_lt t 8)
    where
      go : Dec (t < d.tables) → Dec (t < 8) → (table_at d t).columns ≤ 8
      go (yes h) k = ((design-says d l).table t h).most
      go (no h) (yes k) = omega (arith, ap (λ x. x.columns) ((design-says d l).table_rest t k (omega arith)))
      go (no h) (no k) = omega (arith, ap (λ x. x.columns) (get_or-eq_default d.table no_table {n = t} (omega (arith, z.table))))

  pub totals : lawful_design d ≡ true → Sized d → (o : Output) (p c room : ℕ) → o ≡ Total p c →
      output_fits (scheme_of d) (query_of q) (output_of o room) ≡ true → Totals p c
  unfolding output_fits position_fits scheme_of
  totals l z o p c room e h =
      let f = (and-eq-true_iff (operands_fit (scheme_of d) (query_of q)) (position_fits (scheme_of d) (query_of q) p c)).0 (rw e at h) in
      let g = (and-eq-true_iff (ltb p (length (position_tables (scheme_of d) (query_of q)))) _).0 f.1 in
      record {
        operands = f.0;
        position = omega (arith, position-within (scheme_of d) (query_of q) p c f.1, number-of-joins d q f.0);
        column = omega (arith, ltb-true c _ g.1, few-columns l z (get_or (position_tables (scheme_of d) (query_of q)) p 0));
      }

  -- and what lists ask for
  pub listed : (o : Output) (room : ℕ) → o ≡ Lists → output_fits (scheme_of d) (query_of q) (output_of o room) ≡ true → operands_fit (scheme_of d) (query_of q) ≡ true
  unfolding output_fits
  listed o room e h = rw e at h

-- ---- what is drawn

pub lists-drawn : (D : Database) (ls : List (List ℕ)) (w w' : List ℕ) (a : Answer) (o : Output) → o ≡ Lists → Listed ls w w' a →
    Drawn D ls (output_of o (length w)) w w' a
unfolding drawn
lists-drawn D ls w w' a o e l =
    rw e (record { answer = l.answer; words = l.words ∙ ap (λ (x : Answer). sets w 0 (written_with x (words_of ls))) (sym l.answer) })

total-silent : (n : ℕ) (ws : List ℕ) → written_with (totalled_answer n) ws ≡ []
unfolding written_with has_lists shown
total-silent n ws = go (ltb n (2 ^ 64))
  where
    go : (b : Bool) → written_with (unless (not b) 13 (total n)) ws ≡ []
    go true = refl
    go false = refl

pub total-drawn : (S : Scheme) (D : Database) (X : RowSet) (k : Column) (v : Cell) (js : List Join) (p c : ℕ) (w : List ℕ) (a : Answer) (o : Output) →
    o ≡ Total p c → a ≡ totalled_answer (total_over S D X k v js p c) → Drawn D (fitting S D X k v js) (output_of o (length w)) w w a
unfolding drawn total_over
total-drawn S D X k v js p c w a o e h =
    rw e
    (record {
      answer = h;
      words = sym (ap (λ (x : Answer). sets w 0 (written_with x (words_of (fitting S D X k v js)))) h ∙ ap (sets w 0) (total-silent (total_over S D X k v js p c) (words_of (fitting S D X k v js))));
    })
