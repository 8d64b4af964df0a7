-- The candidates of an accepted design are u32 numbers, as its operands are bytes. Assumes nothing.
use Prim.Native.Nat.{ℕ, zero, suc, ◌+◌, ◌-◌, ◌^◌, ◌<◌}
use native.Mathlib.Omega.{arith}
use mathlib.Core.Path.{◌≡◌, refl, sym, subst}
use mathlib.Core.Bool.{Bool, true, false, not, cond}
use mathlib.Core.List.{List}
use mathlib.Core.Logic.{⊎_elim}
use borrow.Author.Tests.{ltb-true, ltb-false}
use lib.Dec.{eqb, leb, ltb, lit<}
use lib.ListN.{length, get_or, set}
use lib.Seq.{set_out, get_or-set_same, get_or-set_other}
use Rattle.finite.proofs.Bools.{dec, same_number}
use Rattle.finite.proofs.Tables.{tab-at, tab-past}
use Rattle.state.specs.declared.design.Filling as State-filling
use Rattle.state.specs.Design.{no_filling, filling_at, empty_design}
use Rattle.state.specs.Meaning.{scheme_of, database_of}
use Rattle.state.specs.Lawful.{table_fits, constraint_fits, filling_fits, row_fits, repeats}
use Rattle.command.specs.declared.command.Command.{Command}
use Rattle.command.specs.declared.command.Command.TheVariants.{Table, Constraint, Filling, Row, End, Operate, Put, Remove, Unknown, Short}
use Rattle.command.specs.Bytes.{byte_at}
use Rattle.command.specs.Commands.{width_of, design_command_at, operands_at, command_at}
use Rattle.format.specs.Reading.{Draft, empty_draft, with_table, with_constraint, with_filling, with_row, Advanced, on, complete, refused, refused_if, after_tables, after_constraints, after_fillings, redesigned, needless, row_advanced, advanced, read_on, read_from, read_design, most_bytes}
use Rattle.format.specs.Reading.DesignRead.{accepted, refused_at}
use Rattle.demands.proofs.Operands.{either, u32-below}

-- ---- a FILLING that stands in a script

high_in : Command → ℕ
high_in (Filling f) = f.high
high_in (Table t) = 0
high_in (Constraint c) = 0
high_in (Row t) = 0
high_in End = 0
high_in (Operate o) = 0
high_in (Put r t) = 0
high_in (Remove r) = 0
high_in Unknown = 0
high_in Short = 0

module _ (s : List ℕ) (bytes : (j : ℕ) → get_or s j 0 < 256) where
  abbrev Low : Command → Type 0
  Low c = high_in c < 2 ^ 32

  command-low : (i : ℕ) → Low (command_at s i)
  unfolding command_at operands_at design_command_at high_in
  command-low i =
      let b = byte_at s i in
      let z : 0 < 2 ^ 32 = lit< tt in
      either Low (leb (length s) i) z
      (either Low (eqb (width_of b) 0) z
      (either Low (ltb (length s - i) (width_of b)) z
      (either Low (ltb b 0x10)
      (either Low (eqb b 0x01) z (either Low (eqb b 0x02) z (either Low (eqb b 0x03) (u32-below s bytes (i + 7)) (either Low (eqb b 0x05) z z))))
      (either Low (eqb b 0x1D) z (either Low (eqb b 0x1E) z z)))))

  -- ---- the design as far as it has been read

  abbrev Highs : List State-filling.Filling → Type 0
  Highs fs = (f : ℕ) → (get_or fs f no_filling).high < 2 ^ 32

  set-highs : (fs : List State-filling.Filling) (n : ℕ) (x : State-filling.Filling) → x.high < 2 ^ 32 → Highs fs → Highs (set fs n x)
  set-highs fs n x l h f =
      ⊎_elim (λ (e : f ≡ n).
      ⊎_elim (λ (q : ltb n (length fs) ≡ true).
      subst (λ (j : ℕ). (get_or (set fs n x) j no_filling).high < 2 ^ 32) (sym e)
      (subst (λ (y : State-filling.Filling). y.high < 2 ^ 32) (sym (get_or-set_same fs n x no_filling (ltb-true _ _ q))) l))
      (λ (q : ltb n (length fs) ≡ false). subst (λ (gs : List State-filling.Filling). (get_or gs f no_filling).high < 2 ^ 32) (sym (set_out fs n x (ltb-false _ _ q))) (h f))
      (dec (ltb n (length fs))))
      (λ (e : f ≡ n → ⊥). subst (λ (y : State-filling.Filling). y.high < 2 ^ 32) (sym (get_or-set_other fs n f x no_filling e)) (h f))
      (same_number f n)

  -- whatever a command reads on with has such candidates
  record Fine (t : Advanced) : Type 0 where
    then : (x : Draft) → t ≡ on x → Highs x.design.filling

  fine-if : (b : Bool) (n : ℕ) {t : Advanced} → Fine t → Fine (refused_if b n t)
  fine-if true n f = record { then = λ x e. absurd (let z : ◌≡◌ {A = ℕ} 0 1 = cc in omega arith) }
  fine-if false n f = f

  fine-on : (y : Draft) → Highs y.design.filling → Fine (on y)
  fine-on y h = record { then = λ x e. let z : y ≡ x = cc in subst (λ (q : Draft). Highs q.design.filling) z h }

  advanced-highs : (p : Draft) (i : ℕ) (c : Command) → Low c → Highs p.design.filling → Fine (advanced p s i c)
  unfolding advanced row_advanced with_table with_constraint with_filling with_row high_in
  advanced-highs p i (Table t) l h =
      fine-if (after_tables p.design p.rows) 3
      (fine-if (leb 8 p.design.tables) 4 (fine-if (not (table_fits t)) 5 (fine-on (redesigned p (with_table p.design t)) h)))
  advanced-highs p i (Constraint c) l h =
      fine-if (after_constraints p.design p.rows) 3
      (fine-if (leb 16 p.design.constraints) 4
      (fine-if (not (constraint_fits p.design p.design.constraints c)) 5 (fine-on (redesigned p (with_constraint p.design c)) h)))
  advanced-highs p i (Filling f) l h =
      fine-if (after_fillings p.rows) 3
      (fine-if (leb 8 p.design.fillings) 4
      (fine-if (not (filling_fits p.design p.design.fillings f)) 5
      (fine-on (redesigned p (with_filling p.design f)) (set-highs p.design.filling p.design.fillings f l h))))
  advanced-highs p i (Row t) l h =
      let q = with_row p s i t in
      let D = database_of q.cells q.tables in
      fine-if (leb 512 p.rows) 4
      (fine-if (needless s i) 5
      (fine-if (not (row_fits (scheme_of q.design) D p.rows)) 5
      (fine-if (repeats (scheme_of q.design) D p.rows) 6 (fine-on q h))))
  advanced-highs p i End l h = record { then = λ x e. absurd (let z : ◌≡◌ {A = ℕ} 0 1 = cc in omega arith) }
  advanced-highs p i (Operate o) l h = record { then = λ x e. absurd (let z : ◌≡◌ {A = ℕ} 0 1 = cc in omega arith) }
  advanced-highs p i (Put r t) l h = record { then = λ x e. absurd (let z : ◌≡◌ {A = ℕ} 0 1 = cc in omega arith) }
  advanced-highs p i (Remove r) l h = record { then = λ x e. absurd (let z : ◌≡◌ {A = ℕ} 0 1 = cc in omega arith) }
  advanced-highs p i Unknown l h = record { then = λ x e. absurd (let z : ◌≡◌ {A = ℕ} 0 1 = cc in omega arith) }
  advanced-highs p i Short l h = record { then = λ x e. absurd (let z : ◌≡◌ {A = ℕ} 0 1 = cc in omega arith) }

  read-highs : (n : ℕ) (p : Draft) (i : ℕ) → Highs p.design.filling → (q : Draft) (j : ℕ) → read_from n s p i ≡ accepted q j → Highs q.design.filling
  unfolding read_from
  read-highs zero p i h q j e = absurd (let z : ◌≡◌ {A = ℕ} 0 1 = cc in omega arith)
  read-highs (suc n) p i h q j e =
      then-highs (advanced p s i (command_at s i)) (advanced-highs p i (command_at s i) (command-low i) h).then (λ x g k. read-highs n x (i + width_of (byte_at s i)) g q j k) e
    where
      then-highs : (t : Advanced) → ((x : Draft) → t ≡ on x → Highs x.design.filling) →
          ((x : Draft) → Highs x.design.filling → read_from n s x (i + width_of (byte_at s i)) ≡ accepted q j → Highs q.design.filling) →
          read_on (read_from n s) p i (width_of (byte_at s i)) t ≡ accepted q j → Highs q.design.filling
      then-highs (on x) g k f = k x (g x refl) f
      then-highs complete g k f = let z : p ≡ q = cc in subst (λ (x : Draft). Highs x.design.filling) z h
      then-highs (refused m) g k f = absurd (let z : ◌≡◌ {A = ℕ} 0 1 = cc in omega arith)

  start-highs : Highs empty_draft.design.filling
  unfolding empty_draft empty_design
  start-highs f =
      ⊎_elim (λ (q : ltb f 8 ≡ true). subst (λ (y : State-filling.Filling). y.high < 2 ^ 32) (sym (tab-at no_filling 8 (λ _. no_filling) f (ltb-true f 8 q))) (lit< tt))
      (λ (q : ltb f 8 ≡ false). subst (λ (y : State-filling.Filling). y.high < 2 ^ 32) (sym (tab-past no_filling 8 (λ _. no_filling) f (ltb-false f 8 q))) (lit< tt))
      (dec (ltb f 8))

  pub accepted-highs : (p : Draft) (i : ℕ) → read_design s ≡ accepted p i → (f : ℕ) → (filling_at p.design f).high < 2 ^ 32
  unfolding read_design
  accepted-highs p i e = go (ltb most_bytes (length s)) e
    where
      go : (b : Bool) → cond b (refused_at 4 0) (read_from (suc (length s)) s empty_draft 0) ≡ accepted p i → Highs p.design.filling
      go true h = absurd (let z : ◌≡◌ {A = ℕ} 0 1 = cc in omega arith)
      go false h = read-highs (suc (length s)) empty_draft 0 start-highs p i h
