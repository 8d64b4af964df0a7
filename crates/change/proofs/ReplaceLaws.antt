-- What the steps of a change that isn't refused leave, as the code finds it. Assumes nothing.
use Prim.Native.Nat.{ℕ, ◌≤◌, ◌<◌}
use mathlib.Core.Path.{◌≡◌, sym, ap, ap₂, ◌∙◌}
use mathlib.Core.Bool.{Bool, true, not, cond, ◌&&◌}
use mathlib.Core.List.{List, ◌++◌}
use lib.Dec.{eqb}
use lib.ListN.{length, get_or, take, drop, take-append-drop}
use lib.Seq.{get_or-take, length-take-le}
use Rattle.finite.specs.Finite.{count, tab}
use Rattle.finite.proofs.Counting.{count_same}
use Rattle.finite.proofs.Tables.{tab-of, tab-same}
use Rattle.model.specs.Scheme.{Scheme}
use Rattle.model.specs.Database.{Database}
use Rattle.model.specs.Rounds.{reached}
use Rattle.model.specs.Cache.{RowSet, Smallest}
use Rattle.model.specs.Holding.{held_in}
use Rattle.model.specs.Runs.{marks, marked, cached_for, reload_levels}
use Rattle.model.specs.Answers.{Answer, changed, refused}
use Rattle.model.proofs.Loads.{one-smallest}
use Rattle.model.proofs.RunLaws.{held-smallest}
use Rattle.state.specs.declared.design.Design.{Design}
use Rattle.state.specs.declared.held.Held.{Held}
use Rattle.state.specs.declared.rows.Row.{Row}
use Rattle.state.specs.Design.{InRange, Backed}
use Rattle.state.specs.Held.{Bounded}
use Rattle.state.specs.Meaning.{holding_of, scheme_of}
use Rattle.state.specs.Lent.{State, lent, scheme, sound}
use Rattle.state.specs.Changes.{Change, Rows, rows, tables_of, number_of, row_of, stored, change_cause, changed_answer, changed_with, Changed}
use Rattle.state.proofs.Arrays.{Sized, HeldSized}
use Rattle.lawful.proofs.Asked.{sound-range, sound-backed, sound-marks, sound-bounded}
use Rattle.lawful.proofs.SoundChange.{number-below, answer-refused, state-refused, answer-changed, state-changed}
use Rattle.change.specs.Replacing.{Remarked, Replaced}

-- ---- counting over the 512 marks

marked-take : (m : List ℕ) (r : ℕ) → r < 512 → marked m r ≡ marked (take 512 m) r
unfolding marked
marked-take m r l = ap (λ (n : ℕ). eqb n 1) (sym (get_or-take 512 m r 0 l))

-- the levels K of the load from nothing, the rows that come and go by them, and the marks that they leave
pub remarked : (S : Scheme) (D : Database) → D.size ≡ 512 → (h : Held) (m K m' : List ℕ) (came went : ℕ) →
    K ≡ reload_levels S D (holding_of h) → came ≡ count 512 (λ r. reached K r && not (marked m r)) →
    went ≡ count 512 (λ r. marked m r && not (reached K r)) → m' ≡ tab 512 (λ r. cond (reached K r) 1 0) ++ drop 512 m →
    Remarked S D h m (changed came went) m'
unfolding changed_answer marks
remarked S D z h m K m' came went e f g k =
    record {
      answer =
          ap₂ changed
          (f ∙ count_same 512 _ _ (λ r l. ap₂ (λ (L : List ℕ) (b : Bool). reached L r && not b) e (marked-take m r l)))
          (g ∙ count_same 512 _ _ (λ r l. ap₂ (λ (L : List ℕ) (b : Bool). b && not (reached L r)) e (marked-take m r l)));
      marks =
          k ∙ ap (λ (L : List ℕ). tab 512 (λ r. cond (reached L r) 1 0) ++ drop 512 m) e ∙
          ap (λ (n : ℕ). tab n (λ r. cond (reached (reload_levels S D (holding_of h)) r) 1 0) ++ drop 512 m) (sym z);
    }

-- the same of any row set Y that is the smallest: there is no other
pub remarked-by : {S : Scheme} {D : Database} → D.size ≡ 512 → {h : Held} {m m' : List ℕ} {Y : RowSet} → Smallest S D (held_in S (holding_of h)) Y → {came went : ℕ} →
    came ≡ count 512 (λ r. Y r && not (marked m r)) → went ≡ count 512 (λ r. marked m r && not (Y r)) →
    m' ≡ tab 512 (λ r. cond (Y r) 1 0) ++ drop 512 m → Remarked S D h m (changed came went) m'
unfolding changed_answer marks
remarked-by {S} {D} z {h} {m} {m'} {Y} s f g k =
    record {
      answer =
          ap₂ changed
          (f ∙ count_same 512 _ _ (λ r l. ap₂ (λ (a b : Bool). a && not b) (same r) (marked-take m r l)))
          (g ∙ count_same 512 _ _ (λ r l. ap₂ (λ (a b : Bool). b && not a) (same r) (marked-take m r l)));
      marks =
          k ∙ ap (λ (xs : List ℕ). xs ++ drop 512 m) (tab-same 512 _ _ (λ r l. ap (λ (b : Bool). cond b 1 0) (same r))) ∙
          ap (λ (n : ℕ). tab n (λ r. cond (cached_for S D (holding_of h) r) 1 0) ++ drop 512 m) (sym z);
    }
  where
    same : (r : ℕ) → Y r ≡ cached_for S D (holding_of h) r
    same r = one-smallest s (held-smallest S D (holding_of h)) r

-- marks, one by one
pub marks-at : (Y : RowSet) (m m' : List ℕ) → 512 ≤ length m' → ((r : ℕ) → r < 512 → get_or m' r 0 ≡ cond (Y r) 1 0) → drop 512 m' ≡ drop 512 m →
    m' ≡ tab 512 (λ r. cond (Y r) 1 0) ++ drop 512 m
marks-at Y m m' l at past =
    sym (take-append-drop 512 m') ∙
    ap₂ (λ (xs ys : List ℕ). xs ++ ys) (tab-of 0 512 (λ r. cond (Y r) 1 0) (take 512 m') (length-take-le 512 m' l) (λ r k. get_or-take 512 m' r 0 k ∙ at r k)) past

-- the rows with one stored, and marked anew
pub replaced : (d : Design) (R R' : Rows) (h : Held) (m m' : List ℕ) (r : ℕ) (x : Row) (a : Answer) → R' ≡ stored R r x →
    Remarked (scheme_of d) (tables_of R') h m a m' → Replaced (lent d R.cells R.tables m h) r x a (lent d R'.cells R'.tables m' h)
unfolding changed_with
replaced d R R' h m m' r x a e w =
    record {
      answer = w.answer ∙ ap (λ (T : Rows). changed_answer (scheme_of d) (tables_of T) (record { held = holding_of h; marks = take 512 m })) e;
      state =
          ap (λ (n : List ℕ). lent d R'.cells R'.tables n h) w.marks ∙
          ap (λ (T : Rows). changed_with (lent d R.cells R.tables m h) T) e;
    }

-- ---- a change, by its cause n

module _ (s : State) (e : sound s ≡ true) (x : Change) (n : ℕ) (f : n ≡ change_cause (scheme s) (rows s) x) where
  -- it is refused
  pub changed-refused : (n ≡ 0 → ⊥) → Changed s x (refused n) s
  changed-refused g =
      record {
        answer = ap refused f ∙ sym (answer-refused s x e (λ z. g (f ∙ z)));
        state = sym (state-refused s x (λ z. g (f ∙ z)));
      }

  -- it isn't
  module _ (z : n ≡ 0) where
    pub replace-asked : Sized s.design → HeldSized s.held →
        (number_of x < 512) × InRange s.design × Bounded s.held × Backed s.cells s.tables × (512 ≤ length s.marks)
    replace-asked u v = (number-below (scheme s) (rows s) x (sym f ∙ z), sound-range s e u, sound-bounded s e v, sound-backed s e, sound-marks s e)

    pub changed-well : (a : Answer) (s' : State) → Replaced s (number_of x) (row_of x) a s' → Changed s x a s'
    changed-well a s' w =
        record { answer = w.answer ∙ sym (answer-changed s x e (sym f ∙ z)); state = w.state ∙ sym (state-changed s x e (sym f ∙ z)) }
