-- Sound states: what `sound` says in parts, and that an operation leaves a sound state. Assumes nothing.
use Prim.Native.Nat.{ℕ, ◌≤◌}
use native.Mathlib.Omega.{arith}
use mathlib.Core.Path.{◌≡◌, refl, sym, ap, ap₂, ◌∙◌}
use mathlib.Core.Bool.{Bool, true, false, not, cond, ◌&&◌, and-eq-true_iff}
use mathlib.Core.List.{List, [], ◌++◌}
use borrow.Author.Tests.{le-leb, leb-true, eq-eqb, eqb-true}
use lib.Dec.{leb}
use lib.ListN.{length, get_or, take, drop as past, length-append, get_or-append, take-append-drop}
use lib.Seq.{get_or-take, length-take-le}
use Rattle.finite.proofs.Bools.{both, and_left, and_right, cond-true, cond-false}
use Rattle.finite.proofs.Search.{all-at, all_true}
use Rattle.finite.proofs.Tables.{tab-at, tab-of}
use Rattle.model.specs.Answers.{Answer, refused, unless}
use Rattle.model.specs.Runs.{Operation, marks, Cache}
use Rattle.model.specs.Effects.{answer, written, text_of, cache_after}
use Rattle.model.proofs.Marks.{length-marks}
use Rattle.model.proofs.HoldingLaws.{HoldingFits, step-fit}
use Rattle.model.proofs.RunLaws.{Sound, step-held}
use Rattle.model.proofs.Fresh.{Fresh, fresh-sound, step-fresh}
use Rattle.state.specs.Cells.{Cells}
use Rattle.state.specs.declared.design.Design.{Design}
use Rattle.state.specs.declared.held.Held.{Held}
use Rattle.state.specs.Meaning.{scheme_of, database_of, holding_of, held_of, cache_of}
use Rattle.state.specs.Lawful.{lawful_design, lawful_rows, lawful_held, lawful_marks}
use Rattle.state.specs.Lent.{State, lent, scheme, database, cache, long_enough, lawful, sound, cause_at, guarded, state_after, answer_at, held_after_at, marks_after_at, words_at, text_at}
use Rattle.state.proofs.Arrays.{HeldSized}
use Rattle.lawful.proofs.HeldLaws.{held_back, holding-fits, holding-back, fit-held}

-- ---- the parts

pub record Lengths (s : State) : Type 0 where
  pub cells : 4096 ≤ length s.cells.numbers
  pub issues : 4096 ≤ length s.cells.issues
  pub tables : 512 ≤ length s.tables
  pub marks : 512 ≤ length s.marks

pub record Parts (s : State) : Type 0 where
  pub long : Lengths s
  pub design : lawful_design s.design ≡ true
  pub rows : lawful_rows s.design s.cells s.tables ≡ true
  pub held : lawful_held s.design s.held ≡ true
  pub marks : lawful_marks s.design s.cells s.tables s.held s.marks ≡ true

pub long-parts : (s : State) → long_enough s ≡ true → Lengths s
unfolding long_enough
long-parts s e =
    let a = (and-eq-true_iff (leb 4096 (length s.cells.numbers)) _).0 e in
    let i = (and-eq-true_iff (leb 4096 (length s.cells.issues)) _).0 a.1 in
    let b = (and-eq-true_iff (leb 512 (length s.tables)) _).0 i.1 in
    record { cells = leb-true _ _ a.0; issues = leb-true _ _ i.0; tables = leb-true _ _ b.0; marks = leb-true _ _ b.1 }

pub parts : (s : State) → sound s ≡ true → Parts s
unfolding lawful
parts s e =
    let a = (and-eq-true_iff (long_enough s) (lawful s)).0 e in
    let b = (and-eq-true_iff (lawful_design s.design) _).0 a.1 in
    let c = (and-eq-true_iff (lawful_rows s.design s.cells s.tables) _).0 b.1 in
    let d = (and-eq-true_iff (lawful_held s.design s.held) _).0 c.1 in
    record { long = long-parts s a.0; design = b.0; rows = c.0; held = d.0; marks = d.1 }

pub from_parts : (s : State) → Parts s → sound s ≡ true
unfolding long_enough lawful
from_parts s p =
    both (both (le-leb _ _ p.long.cells) (both (le-leb _ _ p.long.issues) (both (le-leb _ _ p.long.tables) (le-leb _ _ p.long.marks))))
    (both p.design (both p.rows (both p.held p.marks)))

-- a part that is not lawful, whatever those before it are
pub held-unlawful : (s : State) → lawful_held s.design s.held ≡ false → false ≡ lawful s
unfolding lawful
held-unlawful s e = sym (and_right (lawful_design s.design) _ (and_right (lawful_rows s.design s.cells s.tables) _ (and_left (lawful_held s.design s.held) _ e)))

-- ---- the marks

pub lawful-fresh : (d : Design) (cells : Cells) (tables : List ℕ) (h : Held) (m : List ℕ) → 512 ≤ length m → lawful_marks d cells tables h m ≡ true →
    Fresh (scheme_of d) (database_of cells tables) (cache_of h m)
unfolding lawful_marks marks database_of
lawful-fresh d cells tables h m l e =
    record { reloaded = tab-of 0 512 _ (take 512 m) (length-take-le 512 m l) (λ r k. get_or-take 512 m r 0 k ∙ eqb-true _ _ (all-at 512 _ e r k)) }

pub fresh-long : (d : Design) (cells : Cells) (tables : List ℕ) (c : Cache) → Fresh (scheme_of d) (database_of cells tables) c → length c.marks ≡ 512
unfolding database_of
fresh-long d cells tables c f = ap length f.reloaded ∙ length-marks (database_of cells tables) _

pub fresh-lawful : (d : Design) (cells : Cells) (tables : List ℕ) (h : Held) (m rest : List ℕ) →
    Fresh (scheme_of d) (database_of cells tables) (record { held = holding_of h; marks = m }) → lawful_marks d cells tables h (m ++ rest) ≡ true
unfolding lawful_marks marks database_of
fresh-lawful d cells tables h m rest f =
    all_true 512 _ (λ r k. eq-eqb _ _ (get_or-append m rest 0 r (omega (arith, fresh-long d cells tables _ f)) ∙
    ap (λ (xs : List ℕ). get_or xs r 0) f.reloaded ∙ tab-at 0 512 _ r k))

-- the cache of a sound state has the marks of a reload, and is the smallest row set for what it holds
module _ (s : State) (e : sound s ≡ true) where
  pub sound-fresh : Fresh (scheme s) (database s) (cache s)
  sound-fresh = lawful-fresh s.design s.cells s.tables s.held s.marks (parts s e).long.marks (parts s e).marks

  pub sound-smallest : Sound (scheme s) (database s) (cache s)
  sound-smallest = fresh-sound (scheme s) (database s) (cache s) sound-fresh

-- ---- an operation

-- the cache that it leaves
abbrev pub after : State → Operation → Cache
after s o = cache_after (scheme s) (database s) (cache s) o

module _ (s : State) (e : sound s ≡ true) (o : Operation) where
  after-fresh : Fresh (scheme s) (database s) (after s o)
  after-fresh = step-fresh (scheme s) (database s) (cache s) o (sound-fresh s e)

  pub after-fit : HoldingFits (scheme s) (after s o).held
  after-fit =
      rw (step-held (cache s) o (sound-smallest s e))
      (step-fit (scheme s) (database s) (holding_of s.held) o (holding-fits s.design s.held (parts s e).held))

  pub answer-at : answer_at s o ≡ answer (scheme s) (database s) (cache s) o
  unfolding answer_at
  answer-at =
      let p = (and-eq-true_iff (long_enough s) (lawful s)).0 e in
      ap₂ (λ (l g : Bool). unless (not l) 7 (unless (not g) 12 (answer (scheme s) (database s) (cache s) o))) p.0 p.1

  pub held-after : held_after_at s o ≡ held_of (after s o).held
  unfolding held_after_at
  held-after = cond-true (sound s) _ _ e

  pub marks-after : marks_after_at s o ≡ (after s o).marks ++ past 512 s.marks
  unfolding marks_after_at
  marks-after = cond-true (sound s) _ _ e

  -- the state afterwards is sound
  pub sound-after : sound (state_after s o) ≡ true
  sound-after =
      rw (held-after, marks-after)
      (from_parts (lent s.design s.cells s.tables ((after s o).marks ++ past 512 s.marks) (held_of (after s o).held))
      (record {
        long = record {
          cells = (parts s e).long.cells;
          issues = (parts s e).long.issues;
          tables = (parts s e).long.tables;
          marks = omega (
            arith,
            long,
            length-append (after s o).marks
                (past 512 s.marks),
          );
        };
        design = (parts s e).design;
        rows = (parts s e).rows;
        held = fit-held s.design (after s o).held after-fit;
        marks = fresh-lawful s.design s.cells s.tables (held_of (after s o).held) (after s o).marks (past 512 s.marks) fresh;
      }))
    where
      long : length (after s o).marks ≡ 512
      long = fresh-long s.design s.cells s.tables (after s o) after-fresh

      fresh : Fresh (scheme s) (database s) (record { held = holding_of (held_of (after s o).held); marks = (after s o).marks })
      fresh = rw (holding-back (after s o).held after-fit) after-fresh

  -- an operation that leaves the cache as it was leaves the state as it was
  pub unchanged : HeldSized s.held → after s o ≡ cache s → state_after s o ≡ s
  unchanged l k =
      rw (
        held-after ∙ ap (λ (c : Cache). held_of c.held) k ∙ held_back s.design s.held (parts s e).held l,
        marks-after ∙ ap (λ (c : Cache). c.marks ++ past 512 s.marks) k ∙ take-append-drop 512 s.marks,
      ) refl

  pub words-at : words_at s o ≡ written (scheme s) (database s) (cache s) o
  unfolding words_at
  words-at = cond-true (sound s) _ _ e

  pub text-at : text_at s o ≡ text_of (scheme s) (database s) (cache s) o
  unfolding text_at
  text-at = cond-true (sound s) _ _ e

-- ---- causes 7 and 12

-- the cause, by the two tests
abbrev cause_of : Bool → Bool → ℕ
cause_of a b = cond (not a) 7 (cond (not b) 12 0)

-- neither applies to a sound state alone
pub cause-none : (s : State) → cause_at s ≡ 0 → sound s ≡ true
unfolding cause_at
cause-none s e = go (long_enough s) (lawful s) e
  where
    go : (a b : Bool) → cause_of a b ≡ 0 → a && b ≡ true
    go true true z = refl
    go true false z = absurd (omega arith)
    go false b z = absurd (omega arith)

-- one does: that is the answer, and the operation changes and writes nothing
module _ (s : State) (n : (cause_at s ≡ 0 → ⊥)) where
  pub cause-unsound : sound s ≡ false
  unfolding cause_at
  cause-unsound = go (long_enough s) (lawful s) n
    where
      go : (a b : Bool) → (cause_of a b ≡ 0 → ⊥) → a && b ≡ false
      go true true m = absurd (m refl)
      go true false m = refl
      go false b m = refl

  pub cause-answer : (a : Answer) → refused (cause_at s) ≡ guarded s a
  unfolding cause_at
  cause-answer a = go (long_enough s) (lawful s) n
    where
      go : (x y : Bool) → (cause_of x y ≡ 0 → ⊥) → refused (cause_of x y) ≡ unless (not x) 7 (unless (not y) 12 a)
      go true true m = absurd (m refl)
      go true false m = refl
      go false y m = refl

  pub cause-state : (o : Operation) → state_after s o ≡ s
  unfolding held_after_at marks_after_at
  cause-state o = rw (
    cond-false (sound s) (held_of (after s o).held) s.held cause-unsound,
    cond-false (sound s) ((after s o).marks ++ past 512 s.marks) s.marks cause-unsound,
  ) refl

  pub cause-words : (o : Operation) → words_at s o ≡ []
  unfolding words_at
  cause-words o = cond-false (sound s) _ _ cause-unsound

  pub cause-text : (o : Operation) → text_at s o ≡ []
  unfolding text_at
  cause-text o = cond-false (sound s) _ _ cause-unsound
