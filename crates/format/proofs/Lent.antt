-- What the reader leaves in lent buffers, refusal by refusal, and with an accepted design. Assumes nothing.
use Prim.Native.Nat.{ℕ, suc, ◌≤◌, ◌<◌}
use native.Mathlib.Omega.{arith}
use mathlib.Core.Path.{◌≡◌, sym, ap, ap₂, subst, ◌∙◌}
use mathlib.Core.Bool.{Bool, false, ◌&&◌}
use mathlib.Core.List.{List, ◌++◌}
use borrow.Author.Tests.{le-leb, lt-leb, lt-ltb, le-ltb}
use lib.Dec.{leb, ltb}
use lib.ListN.{length, drop, replicate}
use Rattle.finite.proofs.Bools.{both, and_left, and_right, cond-true, cond-false}
use Rattle.finite.proofs.Tables.{replicate-tab}
use Rattle.state.specs.Cells.{Cells, cells_in}
use Rattle.state.specs.Design.{empty_design}
use Rattle.state.specs.Held.{none_held}
use Rattle.state.specs.Meaning.{free_table}
use Rattle.state.specs.Lent.{lent, long_enough}
use Rattle.format.specs.declared.verdict.DesignReading.{DesignReading}
use Rattle.format.specs.declared.verdict.Verdict.TheVariants.{Accepted, Refused}
use Rattle.format.specs.Reading.{Draft, draft, empty_draft, DesignRead, Read, Leaves, verdict_of, design_of, rows_read, cells_after, tables_after, marks_after, most_bytes, read_from, read_design, read_into}
use Rattle.format.specs.Reading.DesignRead.{accepted, refused_at}

-- ---- the arrays that the reading starts from

pub from-none : (n : ℕ) (s : List ℕ)
    → read_from n s (draft empty_design 0 (cells_in (replicate 4096 0) (replicate 4096 0)) (replicate 512 free_table)) 0 ≡ read_from n s empty_draft 0
unfolding empty_draft
from-none n s =
    ap₂ (λ (x y : List ℕ). read_from n s (draft empty_design 0 (cells_in x x) y) 0) (replicate-tab 4096 0) (replicate-tab 512 free_table)

-- ---- a refusal leaves everything

refused-is : (w : DesignRead) (n i : ℕ) → verdict_of w ≡ Refused n i → w ≡ refused_at n i
refused-is (accepted p j) n i e = absurd (let z : ◌≡◌ {A = ℕ} 0 1 = cc in omega arith)
refused-is (refused_at m j) n i e = let a : m ≡ n = cc in let b : j ≡ i = cc in ap₂ refused_at a b

accepted-is : (w : DesignRead) (j : ℕ) → verdict_of w ≡ Accepted j → (p : Draft) × (w ≡ accepted p j)
accepted-is (accepted p k) j e = let a : k ≡ j = cc in (p, ap (accepted p) a)
accepted-is (refused_at m k) j e = absurd (let z : ◌≡◌ {A = ℕ} 0 1 = cc in omega arith)

leaves_all : (w : DesignRead) (r : DesignReading) (cs : Cells) (ts ms : List ℕ) (n i : ℕ) → w ≡ refused_at n i → r ≡ record { verdict = Refused n i; design = empty_design; rows = 0 } → Leaves w r cs cs ts ts ms ms
leaves_all w r cs ts ms n i e f =
    record {
      verdict = ap (λ x. x.verdict) f ∙ sym (ap verdict_of e);
      design = ap (λ x. x.design) f ∙ sym (ap design_of e);
      count = ap (λ x. x.rows) f ∙ sym (ap rows_read e);
      cells = sym (ap (λ (x : DesignRead). cells_after x cs) e);
      tables = sym (ap (λ (x : DesignRead). tables_after x ts) e);
      marks = sym (ap (λ (x : DesignRead). marks_after x ms) e);
    }

module _ (v w : DesignRead) (same : v ≡ w) (r : DesignReading) (x : Cells) (y : List ℕ) (h : Read v r x y) (cs : Cells) (ts ms : List ℕ) where
  pub leaves-refused : (n i : ℕ) → r.verdict ≡ Refused n i → Leaves w r cs cs ts ts ms ms
  leaves-refused n i e =
      let k : v ≡ refused_at n i = refused-is v n i (sym h.verdict ∙ e) in
      leaves_all w r cs ts ms n i (sym same ∙ k)
      (ap₂ (λ a d. let z : DesignReading = record { verdict = a; design = d; rows = r.rows } in z) e (h.design ∙ ap design_of k) ∙
      ap (λ (m : ℕ). let z : DesignReading = record { verdict = Refused n i; design = empty_design; rows = m } in z) (h.count ∙ ap rows_read k))

  pub leaves-accepted : (j : ℕ) → r.verdict ≡ Accepted j → (ns is ts' ms' : List ℕ) → ns ≡ x.numbers ++ drop 4096 cs.numbers → is ≡ x.issues ++ drop 4096 cs.issues
      → ts' ≡ y ++ drop 512 ts → ms' ≡ replicate 512 0 ++ drop 512 ms → Leaves w r cs (cells_in ns is) ts ts' ms ms'
  leaves-accepted j e ns is ts' ms' a z b c =
      let k = accepted-is v j (sym h.verdict ∙ e) in
      let g : w ≡ accepted k.0 j = sym same ∙ k.1 in
      let q = h.rows k.0 j k.1 in
      record {
        verdict = h.verdict ∙ ap verdict_of same;
        design = h.design ∙ ap design_of same;
        count = h.count ∙ ap rows_read same;
        cells =
            ap₂ cells_in a z ∙ ap (λ (l : Cells). cells_in (l.numbers ++ drop 4096 cs.numbers) (l.issues ++ drop 4096 cs.issues)) q.0 ∙
            sym (ap (λ (u : DesignRead). cells_after u cs) g);
        tables = b ∙ ap (λ (l : List ℕ). l ++ drop 512 ts) q.1 ∙ sym (ap (λ (u : DesignRead). tables_after u ts) g);
        marks = c ∙ ap (λ (l : List ℕ). l ++ drop 512 ms) (replicate-tab 512 0) ∙ sym (ap (λ (u : DesignRead). marks_after u ms) g);
      }

-- ---- cause 7, then the script's length

module _ (s : List ℕ) (cs : Cells) (ts ms : List ℕ) where
  -- the four tests
  abbrev numbers_long : Bool
  numbers_long = leb 4096 (length cs.numbers)

  abbrev issues_long : Bool
  issues_long = leb 4096 (length cs.issues)

  abbrev tables_long : Bool
  tables_long = leb 512 (length ts)

  abbrev marks_long : Bool
  marks_long = leb 512 (length ms)

  too_short : numbers_long && (issues_long && (tables_long && marks_long)) ≡ false → (r : DesignReading) → r ≡ record { verdict = Refused 7 0; design = empty_design; rows = 0 }
      → Leaves (read_into s cs ts ms) r cs cs ts ts ms ms
  unfolding read_into long_enough
  too_short e r f =
      leaves_all (read_into s cs ts ms) r cs ts ms 7 0 (cond-false (long_enough (lent empty_design cs ts ms none_held)) (read_design s) (refused_at 7 0) e) f

  module _ (r : DesignReading) where
    pub short-cells : length cs.numbers < 4096 → r ≡ record { verdict = Refused 7 0; design = empty_design; rows = 0 } → Leaves (read_into s cs ts ms) r cs cs ts ts ms ms
    short-cells l = too_short (and_left numbers_long _ (lt-leb 4096 (length cs.numbers) l)) r

    pub short-issues : length cs.issues < 4096 → r ≡ record { verdict = Refused 7 0; design = empty_design; rows = 0 } → Leaves (read_into s cs ts ms) r cs cs ts ts ms ms
    short-issues l = too_short (and_right numbers_long _ (and_left issues_long _ (lt-leb 4096 (length cs.issues) l))) r

    pub short-tables : length ts < 512 → r ≡ record { verdict = Refused 7 0; design = empty_design; rows = 0 } → Leaves (read_into s cs ts ms) r cs cs ts ts ms ms
    short-tables l = too_short (and_right numbers_long _ (and_right issues_long _ (and_left tables_long _ (lt-leb 512 (length ts) l)))) r

    pub short-marks : length ms < 512 → r ≡ record { verdict = Refused 7 0; design = empty_design; rows = 0 } → Leaves (read_into s cs ts ms) r cs cs ts ts ms ms
    short-marks l = too_short (and_right numbers_long _ (and_right issues_long _ (and_right tables_long _ (lt-leb 512 (length ms) l)))) r

  module _ (a : 4096 ≤ length cs.numbers) (z : 4096 ≤ length cs.issues) (b : 512 ≤ length ts) (c : 512 ≤ length ms) where
    long-enough : read_into s cs ts ms ≡ read_design s
    unfolding read_into long_enough
    long-enough =
        cond-true (long_enough (lent empty_design cs ts ms none_held)) (read_design s) (refused_at 7 0)
        (both (le-leb 4096 (length cs.numbers) a) (both (le-leb 4096 (length cs.issues) z) (both (le-leb 512 (length ts) b) (le-leb 512 (length ms) c))))

    pub long-script : 65536 < length s → (r : DesignReading) → r ≡ record { verdict = Refused 4 0; design = empty_design; rows = 0 } → Leaves (read_into s cs ts ms) r cs cs ts ts ms ms
    unfolding read_design
    long-script l r f =
        leaves_all (read_into s cs ts ms) r cs ts ms 4 0
        (long-enough ∙ cond-true (ltb most_bytes (length s)) (refused_at 4 0) (read_from (suc (length s)) s empty_draft 0) (lt-ltb most_bytes (length s) l)) f

    pub read_through : length s ≤ 65536 → read_from (suc (length s)) s empty_draft 0 ≡ read_into s cs ts ms
    unfolding read_design
    read_through l = sym (long-enough ∙ cond-false (ltb most_bytes (length s)) (refused_at 4 0) (read_from (suc (length s)) s empty_draft 0) (le-ltb most_bytes (length s) l))

    pub leaves-through : (r : DesignReading) (cs' : Cells) (ts' ms' : List ℕ) → length s ≤ 65536 → Leaves (read_from (suc (length s)) s empty_draft 0) r cs cs' ts ts' ms ms' → Leaves (read_into s cs ts ms) r cs cs' ts ts' ms ms'
    leaves-through r cs' ts' ms' l h = subst (λ (w : DesignRead). Leaves w r cs cs' ts ts' ms ms') (read_through l) h
