-- What a whole run gives: a refused design leaves everything as it was, and behind an accepted one the steps leave what `Ran` says. Assumes nothing.
use Prim.Native.Nat.{ℕ}
use native.Mathlib.Omega.{arith}
use mathlib.Core.Path.{◌≡◌, refl, sym, ap, ap₂, ◌∙◌}
use mathlib.Core.List.{List}
use lib.ListN.{length, replicate}
use Rattle.state.specs.Cells.{Cells}
use Rattle.state.specs.declared.design.Design.{Design}
use Rattle.state.specs.HeldWords.{words_held, Whole}
use Rattle.state.specs.Lent.{State, lent}
use Rattle.lawful.proofs.RowsLaws.{Stored}
use Rattle.format.specs.declared.verdict.DesignReading.{DesignReading}
use Rattle.format.specs.declared.verdict.Verdict.TheVariants.{Accepted, Refused}
use Rattle.format.specs.Reading.{Draft, DesignRead, verdict_of, design_of, cells_after, tables_after, marks_after, Leaves}
use Rattle.format.specs.Reading.DesignRead.{accepted}
use Rattle.format.proofs.Small.{Small}
use Rattle.run.specs.Runs.{leaving, left_from, Ran}
use Rattle.script.specs.JustRead.{Buffers, buffers, reading_of, just_read}
use Rattle.script.proofs.JustRead.{start_is, stored_at}
use Rattle.run.proofs.WholeRun.{operated}

module _ (script : List ℕ) (b : Buffers) (r : DesignReading) (cs : Cells) (ts ms : List ℕ)
    (read : Leaves (reading_of script b) r b.cells cs b.tables ts b.marks ms) where
  -- the design is refused
  pub refused-ran : (ws : List ℕ) (n place : ℕ) → r.verdict ≡ Refused n place →
      Ran script b (buffers cs ts ms b.outputs) ws ws (record { verdict = r.verdict; design = r.design })
  refused-ran ws n place v =
      record {
        verdict = read.verdict;
        design = read.design;
        refused = λ m i e.
            record {
              held = refl;
              cells = read.cells ∙ ap (λ (R : DesignRead). cells_after R b.cells) e;
              tables = read.tables ∙ ap (λ (R : DesignRead). tables_after R b.tables) e;
              marks = read.marks ∙ ap (λ (R : DesignRead). marks_after R b.marks) e;
              outputs = refl;
            };
        whole = λ p i e. absurd (let z : ◌≡◌ {A = ℕ} 0 1 = cc (read.verdict ∙ ap verdict_of e) in omega arith);
        accepted = λ p i e. absurd (let z : ◌≡◌ {A = ℕ} 0 1 = cc (read.verdict ∙ ap verdict_of e) in omega arith);
      }

  module _ (small : Small script) (stored : Stored cs) (j : ℕ) (v : r.verdict ≡ Accepted j) where
    -- the steps leave the buffers a and the words h of what is held
    module _ (ws h : List ℕ) (full : Whole h) (a : Buffers)
        (left : leaving (lent r.design a.cells a.tables a.marks (words_held h)) a.outputs
        ≡ left_from (length script) script (lent r.design cs ts ms (words_held (replicate 358 0))) b.outputs j) where
      left_is : (p : Draft) (i : ℕ) → reading_of script b ≡ accepted p i →
          leaving (lent p.design a.cells a.tables a.marks (words_held h)) a.outputs ≡ left_from (length script) script (just_read (accepted p i) b) b.outputs i
      left_is p i e =
          let q : j ≡ i = cc (read.verdict ∙ ap verdict_of e) in
          ap (λ (d : Design). leaving (lent d a.cells a.tables a.marks (words_held h)) a.outputs) (sym (read.design ∙ ap design_of e)) ∙ left ∙
          ap₂ (λ (s : State) (k : ℕ). left_from (length script) script s b.outputs k) (start_is script b r cs ts ms read small stored j v p i e) q

      pub accepted-ran : Ran script b a ws h (record { verdict = Accepted j; design = r.design })
      accepted-ran =
          record {
            verdict = sym v ∙ read.verdict;
            design = read.design;
            refused = λ n i e. absurd (let z : ◌≡◌ {A = ℕ} 0 1 = cc (read.verdict ∙ ap verdict_of e) in omega arith);
            whole = λ p i e. full;
            accepted = λ p i e. operated script small b p i e (stored_at script b r cs ts ms read small stored j v p i e) a (words_held h) (left_is p i e);
          }
