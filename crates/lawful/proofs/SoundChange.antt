-- Rows that come and go: a change leaves a sound state, what it answers and leaves where it is refused and where it isn't, and what causes 7 and 12
-- leave. Assumes nothing.
use Prim.Native.Nat.{ℕ, ◌<◌}
use native.Mathlib.Omega.{arith}
use mathlib.Core.Path.{◌≡◌, refl, sym, ap, ap₂, subst, ◌∙◌}
use mathlib.Core.Logic.{⊎_elim}
use mathlib.Core.Bool.{Bool, true, false, not, cond, ◌&&◌, and-eq-true_iff}
use borrow.Author.Tests.{ltb-true, eq-eqb, ne_eqb, eqb-true, eqb-false}
use lib.Dec.{eqb, ltb}
use lib.ListN.{length, drop, length-append}
use Rattle.finite.proofs.Bools.{dec, both, and_left, and_right, cond-true, cond-false}
use Rattle.model.specs.Scheme.{Scheme}
use Rattle.model.specs.Answers.{refused, unless}
use Rattle.model.specs.Runs.{marks, cached_for}
use Rattle.model.proofs.Fresh.{Fresh}
use Rattle.state.specs.declared.rows.Row.{Row}
use Rattle.state.specs.Design.{Backed}
use Rattle.state.specs.Meaning.{holding_of}
use Rattle.state.specs.Lawful.{fits_table, lawful_rows}
use Rattle.state.specs.Lent.{State, scheme, cache, long_enough, lawful, sound, cause_at}
use Rattle.state.specs.Changes.{Change, put, remove, Rows, rows, tables_of, row_cell, number_of, row_of, stored, is_free, stands, change_cause, rows_after, changed_answer, change_answer, change_answer_at, changed_with, state_changed}
use Rattle.lawful.proofs.RowsLaws.{Stored, live_below}
use Rattle.lawful.proofs.DesignLaws.{design-says}
use Rattle.lawful.proofs.StoredLaws.{RowSized, RowStored, stored-backed, stored-stored, put-lawful, removed-lawful}
use Rattle.lawful.proofs.SoundState.{parts, from_parts, fresh-long, fresh-lawful, cause-unsound, cause-answer}
use Rattle.lawful.proofs.Asked.{sound-backed}

-- ---- why a change is refused, test by test

module _ (S : Scheme) (R : Rows) (r : ℕ) where
  module _ (x : Row) where
    pub put_wrong : is_free R r && fits_table S x.table (row_cell x) ≡ false → 5 ≡ change_cause S R (put r x)
    unfolding change_cause
    put_wrong e = sym (cond-true (not (is_free R r && fits_table S x.table (row_cell x))) 5 _ (ap not e))

    module _ (e : is_free R r && fits_table S x.table (row_cell x) ≡ true) where
      pub put-stands : (b : Bool) → stands S R x ≡ b → cond b 6 0 ≡ change_cause S R (put r x)
      unfolding change_cause
      put-stands b h =
          ap (λ (c : Bool). cond c 6 0) (sym h) ∙ sym (cond-false (not (is_free R r && fits_table S x.table (row_cell x))) 5 _ (ap not e))

    -- no cause applies
    pub put-free : change_cause S R (put r x) ≡ 0 → (is_free R r ≡ true) × (fits_table S x.table (row_cell x) ≡ true) × (stands S R x ≡ false)
    put-free e =
        ⊎_elim (λ (h : is_free R r && fits_table S x.table (row_cell x) ≡ true).
        let a = (and-eq-true_iff (is_free R r) _).0 h in
        (a.0, a.1, ⊎_elim (λ (k : stands S R x ≡ true). absurd (omega (arith, e, put-stands h true k))) (λ (k : stands S R x ≡ false). k) (dec (stands S R x))))
        (λ (h : is_free R r && fits_table S x.table (row_cell x) ≡ false). absurd (omega (arith, e, put_wrong h)))
        (dec (is_free R r && fits_table S x.table (row_cell x)))

  pub remove-cause : (b : Bool) → (tables_of R).live r ≡ b → cond b 0 5 ≡ change_cause S R (remove r)
  unfolding change_cause
  remove-cause b e = ap (λ (c : Bool). cond c 0 5) (sym e)

  pub remove-live : change_cause S R (remove r) ≡ 0 → (tables_of R).live r ≡ true
  remove-live e =
      ⊎_elim (λ (h : (tables_of R).live r ≡ true). h) (λ (h : (tables_of R).live r ≡ false). absurd (omega (arith, e, remove-cause false h))) (dec ((tables_of R).live r))

-- a change that isn't refused is of a number that there is
pub number-below : (S : Scheme) (R : Rows) (x : Change) → change_cause S R x ≡ 0 → number_of x < 512
unfolding is_free
number-below S R (put r x) e = ltb-true r 512 ((and-eq-true_iff (ltb r 512) _).0 (put-free S R r x e).0).0
number-below S R (remove r) e = live_below R.cells R.tables r (remove-live S R r e)

-- ---- the rows afterwards

module _ (S : Scheme) (R : Rows) (x : Change) where
  pub rows-changed : change_cause S R x ≡ 0 → rows_after S R x ≡ stored R (number_of x) (row_of x)
  unfolding rows_after
  rows-changed e = cond-true (eqb (change_cause S R x) 0) _ _ (eq-eqb _ _ e)

  pub rows-unchanged : (change_cause S R x ≡ 0 → ⊥) → rows_after S R x ≡ R
  unfolding rows_after
  rows-unchanged n = cond-false (eqb (change_cause S R x) 0) _ _ (ne_eqb _ _ n)

  -- what holds of the rows, and of those with the row stored, holds of the rows afterwards
  after-case : (P : Rows → Type 0) → P R → (change_cause S R x ≡ 0 → P (stored R (number_of x) (row_of x))) → P (rows_after S R x)
  after-case P p f =
      ⊎_elim (λ (e : eqb (change_cause S R x) 0 ≡ true). let z = eqb-true _ 0 e in subst P (sym (rows-changed z)) (f z))
      (λ (e : eqb (change_cause S R x) 0 ≡ false). subst P (sym (rows-unchanged (eqb-false _ 0 e))) p)
      (dec (eqb (change_cause S R x) 0))

  pub after-backed : Backed R.cells R.tables → Backed (rows_after S R x).cells (rows_after S R x).tables
  after-backed b = after-case (λ T. Backed T.cells T.tables) b (λ e. stored-backed R (number_of x) (row_of x) b)

  -- numbers stay u32 and issues u8
  pub after-stored : RowSized (row_of x) → RowStored (row_of x) → Backed R.cells R.tables → Stored R.cells → Stored (rows_after S R x).cells
  after-stored z v b u =
      after-case (λ T. Stored T.cells) u (λ e. stored-stored R (number_of x) (row_of x) z (number-below S R x e) b u v)

-- ---- a sound state

module _ (s : State) (x : Change) where
  -- a change that is refused leaves the state as it was
  pub state-refused : (change_cause (scheme s) (rows s) x ≡ 0 → ⊥) → state_changed s x ≡ s
  unfolding state_changed
  state-refused n =
      cond-false (sound s && eqb (change_cause (scheme s) (rows s) x) 0) _ s (and_right (sound s) _ (ne_eqb (change_cause (scheme s) (rows s) x) 0 n))

  -- and so does one of a state that isn't sound
  pub state-unsound : sound s ≡ false → state_changed s x ≡ s
  unfolding state_changed
  state-unsound e = cond-false (sound s && eqb (change_cause (scheme s) (rows s) x) 0) _ s (and_left (sound s) _ e)

  module _ (e : sound s ≡ true) where
    change-answer : change_answer_at s x ≡ change_answer (scheme s) (rows s) (cache s) x
    unfolding change_answer_at
    change-answer =
        let p = (and-eq-true_iff (long_enough s) (lawful s)).0 e in
        ap₂ (λ (l g : Bool). unless (not l) 7 (unless (not g) 12 (change_answer (scheme s) (rows s) (cache s) x))) p.0 p.1

    pub answer-refused : (change_cause (scheme s) (rows s) x ≡ 0 → ⊥) → change_answer_at s x ≡ refused (change_cause (scheme s) (rows s) x)
    unfolding change_answer
    answer-refused n =
        change-answer ∙
        ap (λ (b : Bool). unless (not b) (change_cause (scheme s) (rows s) x) (changed_answer (scheme s) (tables_of (rows_after (scheme s) (rows s) x)) (cache s)))
        (ne_eqb (change_cause (scheme s) (rows s) x) 0 n)

    module _ (z : change_cause (scheme s) (rows s) x ≡ 0) where
      pub answer-changed : change_answer_at s x ≡ changed_answer (scheme s) (tables_of (stored (rows s) (number_of x) (row_of x))) (cache s)
      unfolding change_answer
      answer-changed =
          change-answer ∙
          ap₂ (λ (b : Bool) (R : Rows). unless (not b) (change_cause (scheme s) (rows s) x) (changed_answer (scheme s) (tables_of R) (cache s)))
          (eq-eqb (change_cause (scheme s) (rows s) x) 0 z) (rows-changed (scheme s) (rows s) x z)

      pub state-changed : state_changed s x ≡ changed_with s (stored (rows s) (number_of x) (row_of x))
      unfolding state_changed
      state-changed =
          cond-true (sound s && eqb (change_cause (scheme s) (rows s) x) 0) _ s (both e (eq-eqb (change_cause (scheme s) (rows s) x) 0 z)) ∙
          ap (changed_with s) (rows-changed (scheme s) (rows s) x z)

-- with other rows, which are lawful, and their marks, a sound state stays sound
pub sound-with : (s : State) → sound s ≡ true → (R : Rows) → Backed R.cells R.tables → lawful_rows s.design R.cells R.tables ≡ true →
    sound (changed_with s R) ≡ true
unfolding changed_with
sound-with s e R b w =
    from_parts (changed_with s R)
    (record {
      long = record {
        cells = b.rows;
        issues = b.issued;
        tables = b.members;
        marks = omega (
          arith,
          long,
          length-append (marks (tables_of R) (cached_for (scheme s) (tables_of R) (holding_of s.held)))
              (drop 512 s.marks),
        );
      };
      design = (parts s e).design;
      rows = w;
      held = (parts s e).held;
      marks = fresh-lawful s.design R.cells R.tables s.held (marks (tables_of R) (cached_for (scheme s) (tables_of R) (holding_of s.held))) (drop 512 s.marks) fresh;
    })
  where
    fresh : Fresh (scheme s) (tables_of R) (record { held = holding_of s.held; marks = marks (tables_of R) (cached_for (scheme s) (tables_of R) (holding_of s.held)) })
    fresh = record { reloaded = refl }

    long : length (marks (tables_of R) (cached_for (scheme s) (tables_of R) (holding_of s.held))) ≡ 512
    long = fresh-long s.design R.cells R.tables _ fresh

-- a change that isn't refused leaves lawful rows
pub lawful-changed : (s : State) (x : Change) → sound s ≡ true → RowSized (row_of x) → change_cause (scheme s) (rows s) x ≡ 0 →
    lawful_rows s.design (stored (rows s) (number_of x) (row_of x)).cells (stored (rows s) (number_of x) (row_of x)).tables ≡ true
lawful-changed s (put r x) e z c =
    let f = put-free (scheme s) (rows s) r x c in
    put-lawful (rows s) r x z (number-below (scheme s) (rows s) (put r x) c) (sound-backed s e) s.design (design-says s.design (parts s e).design).tables
    (parts s e).rows f.1 f.2
lawful-changed s (remove r) e z c =
    removed-lawful (rows s) r (number-below (scheme s) (rows s) (remove r) c) (sound-backed s e) s.design (parts s e).rows

-- the state afterwards is sound
pub sound-changed : (s : State) (x : Change) → sound s ≡ true → RowSized (row_of x) → sound (state_changed s x) ≡ true
sound-changed s x e z =
    ⊎_elim (λ (h : eqb (change_cause (scheme s) (rows s) x) 0 ≡ true). let c = eqb-true _ 0 h in
    subst (λ (t : State). sound t ≡ true) (sym (state-changed s x e c))
    (sound-with s e (stored (rows s) (number_of x) (row_of x)) (stored-backed (rows s) (number_of x) (row_of x) (sound-backed s e)) (lawful-changed s x e z c)))
    (λ (h : eqb (change_cause (scheme s) (rows s) x) 0 ≡ false). subst (λ (t : State). sound t ≡ true) (sym (state-refused s x (eqb-false _ 0 h))) e)
    (dec (eqb (change_cause (scheme s) (rows s) x) 0))

-- numbers stay u32 and issues u8
pub cells-changed : (s : State) (x : Change) → RowSized (row_of x) → RowStored (row_of x) → Stored s.cells → Stored (state_changed s x).cells
unfolding changed_with
cells-changed s x z v u =
    ⊎_elim (λ (e : sound s ≡ true). ⊎_elim (λ (h : eqb (change_cause (scheme s) (rows s) x) 0 ≡ true). let c = eqb-true _ 0 h in
    subst (λ (t : State). Stored t.cells) (sym (state-changed s x e c))
    (stored-stored (rows s) (number_of x) (row_of x) z (number-below (scheme s) (rows s) x c) (sound-backed s e) u v))
    (λ (h : eqb (change_cause (scheme s) (rows s) x) 0 ≡ false). kept (state-refused s x (eqb-false _ 0 h)))
    (dec (eqb (change_cause (scheme s) (rows s) x) 0)))
    (λ (e : sound s ≡ false). kept (state-unsound s x e))
    (dec (sound s))
  where
    kept : state_changed s x ≡ s → Stored (state_changed s x).cells
    kept e = subst (λ (t : State). Stored t.cells) (sym e) u

-- ---- causes 7 and 12: that is the answer, and the change leaves the state as it was

module _ (s : State) (n : (cause_at s ≡ 0 → ⊥)) (x : Change) where
  pub change-cause : refused (cause_at s) ≡ change_answer_at s x
  unfolding change_answer_at
  change-cause = cause-answer s n (change_answer (scheme s) (rows s) (cache s) x)

  pub change-kept : state_changed s x ≡ s
  change-kept = state-unsound s x (cause-unsound s n)
