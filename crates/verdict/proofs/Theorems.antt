-- What a word says, part by part, and what it is worth: a lawful design is one that the model's theorems speak of. Assumes nothing.
use Prim.Native.Nat.{ℕ, ◌+◌, ◌*◌, ◌/◌, ◌%◌, ◌≤◌, ◌<◌, ◌^◌}
use native.Mathlib.Omega.{arith}
use mathlib.Core.Path.{◌≡◌, refl, sym, ◌∙◌}
use mathlib.Core.Logic.{◌↔◌}
use mathlib.Core.Bool.{Bool, true, false}
use mathlib.Core.List.{List}
use Rattle.finite.proofs.Bools.{clash, cond-true}
use Rattle.model.specs.Cell.{Cell}
use Rattle.model.specs.Database.{Database, Lawful}
use Rattle.model.specs.Runs.{Operation}
use Rattle.model.specs.Scheme.{Column, Scheme, ColumnOf, is_column}
use Rattle.model.specs.Seeing.{OneColumn}
use Rattle.model.specs.Verdict.{Proper, fetches, once_linked, lowest_link, once_unique, never, is_one_column}
use Rattle.model.proofs.VerdictLaws.{probe_then, never-exactly, one-column}
use Rattle.state.specs.declared.design.Design.{Design}
use Rattle.state.specs.Design.{filling_at}
use Rattle.state.specs.Lawful.{lawful_design}
use Rattle.state.specs.Meaning.{scheme_of}
use Rattle.lawful.proofs.DesignLaws.{design-says, column-if}
use Rattle.verdict.specs.Words.{flag, verdict_of}

-- ---- a word's parts

-- the flags of a word, and what lies above them
pub record Parts (a b c d e : Bool) (i w : ℕ) : Type 0 where
  pub one : w % 2 ≡ flag a 1
  pub two : w / 2 % 2 ≡ flag b 1
  pub four : w / 4 % 2 ≡ flag c 1
  pub eight : w / 8 % 2 ≡ flag d 1
  pub sixteen : w / 16 % 2 ≡ flag e 1
  pub rest : w / 256 ≡ i

-- a flag is at most 1, and counts n times
flag-most : (b : Bool) → flag b 1 ≤ 1
flag-most true = omega arith
flag-most false = omega arith

flag-times : (b : Bool) (n : ℕ) → flag b n ≡ n * flag b 1
flag-times true n = omega arith
flag-times false n = omega arith

sums : (a b c d e : Bool) (i w : ℕ) → w ≡ flag a 1 + flag b 2 + flag c 4 + flag d 8 + flag e 16 + 256 * i → Parts a b c d e i w
sums a b c d e i w h =
    let u = flag-most a in
    let v = flag-most b in
    let x = flag-most c in
    let y = flag-most d in
    let z = flag-most e in
    let q : w ≡ flag a 1 + 2 * flag b 1 + 4 * flag c 1 + 8 * flag d 1 + 16 * flag e 1 + 256 * i = omega (arith, flag-times b 2, flag-times c 4, flag-times d 8, flag-times e 16) in
    record { one = omega arith; two = omega arith; four = omega arith; eight = omega arith; sixteen = omega arith; rest = omega arith }

-- THEOREM: of a column's word each verdict can be read off: five bits, and above them the lowest constraint by which it is once linked
pub word-parts : (S : Scheme) (k : Column) → is_column S k ≡ true →
    Parts (fetches S k) (once_linked S k) (once_unique S k) (never S k) (is_one_column S k) (flag (once_linked S k) (lowest_link S k)) (verdict_of S k)
unfolding verdict_of
word-parts S k c = sums (fetches S k) (once_linked S k) (once_unique S k) (never S k) (is_one_column S k) (flag (once_linked S k) (lowest_link S k)) _ (cond-true (is_column S k) _ 0 c)

-- ---- what it is worth

-- a lawful design is proper; that a filling's last candidate is a u32 is what its type says
pub lawful-proper : (d : Design) → lawful_design d ≡ true → ((f : ℕ) → (filling_at d f).high < 2 ^ 32) → Proper (scheme_of d)
unfolding scheme_of
lawful-proper d e t =
    let l = design-says d e in
    record {
      tables = l.tables;
      source = λ i b. (l.constraint i b).source;
      target = λ i b. (l.constraint i b).target;
      filling = λ f b. (l.filling f b).column;
      low = λ f b. (l.filling f b).low;
      high = λ f b. (l.filling f b).high;
      stored = λ f b. t f;
    }

flag_true : (b : Bool) → (flag b 1 ≡ 1) ↔ (b ≡ true)
flag_true true = (λ e. refl, λ e. refl)
flag_true false = (λ e. absurd (omega arith), λ e. clash e refl)

module _ (d : Design) (e : lawful_design d ≡ true) (t : (f : ℕ) → (filling_at d f).high < 2 ^ 32) (k : Column) (c : ColumnOf (scheme_of d) k) where
  -- THEOREM: the word has 8 exactly if every probe of the column is sent, in every lawful database, of any number of rows, after every run
  pub word-never : (verdict_of (scheme_of d) k / 8 % 2 ≡ 1) ↔
      ((D : Database) → Lawful (scheme_of d) D → (os : List Operation) (v : Cell) → probe_then (scheme_of d) D os k v ≡ 0)
  word-never =
      let p = (word-parts (scheme_of d) k (column-if c)).eight in
      let q = never-exactly (lawful-proper d e t) k c in
      let r = flag_true (never (scheme_of d) k) in
      (λ h. q.0 (r.0 (sym p ∙ h)), λ h. p ∙ r.1 (q.1 h))

  -- THEOREM: it has 16 exactly if all constraints and fillings that end at the column's table end at the column, as Req 13 asks
  pub word-seeing : (verdict_of (scheme_of d) k / 16 % 2 ≡ 1) ↔ OneColumn (scheme_of d) k
  word-seeing =
      let p = (word-parts (scheme_of d) k (column-if c)).sixteen in
      let q = one-column (scheme_of d) k in
      let r = flag_true (is_one_column (scheme_of d) k) in
      (λ h. q.0 (r.0 (sym p ∙ h)), λ h. p ∙ r.1 (q.1 h))
