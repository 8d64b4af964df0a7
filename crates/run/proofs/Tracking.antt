-- The state at a moment of a run: it has the moment's rows and what is held then, and is sound. Operations and changes of the rows keep this; and it is what
-- demand 3 asks of that point. Assumes nothing.
use Prim.Native.Nat.{ℕ}
use mathlib.Core.Path.{◌≡◌, refl, sym, ap, subst, ◌∙◌}
use mathlib.Core.Bool.{true}
use mathlib.Core.List.{List, [], ◌∷◌, ◌++◌}
use mathlib.Core.Logic.{⊎_elim}
use lib.ListN.{length, take, drop as past, take-append-drop}
use lib.Seq.{drop_at}
use Rattle.finite.proofs.Bools.{same_number}
use Rattle.model.specs.Scheme.{Scheme}
use Rattle.model.specs.Database.{Lawful}
use Rattle.model.specs.Cache.{RowSet, Smallest}
use Rattle.model.specs.Rounds.{reached}
use Rattle.model.specs.Holding.{Holding, held_in}
use Rattle.model.specs.Runs.{Operation, held_after, marks, marked, cached_for, reload_levels}
use Rattle.model.proofs.CellLaws.{numbered-full}
use Rattle.model.proofs.Exact.{exact}
use Rattle.model.proofs.HoldingLaws.{HoldingFits, step-fit}
use Rattle.model.proofs.Marks.{length-marks, marked-marks-is}
use Rattle.model.proofs.RunLaws.{held-smallest, step-held}
use Rattle.state.specs.Meaning.{scheme_of, database_of, holding_of, held_of}
use Rattle.state.specs.Lent.{State, scheme, database, cache, sound, state_after}
use Rattle.state.specs.Changes.{Change, Rows, rows_in, rows, tables_of, row_of, number_of, stored, change_cause, rows_after, changed_with, state_changed}
use Rattle.lawful.proofs.HeldLaws.{holding-back}
use Rattle.lawful.proofs.RowsLaws.{Stored, lawful-database}
use Rattle.lawful.proofs.StoredLaws.{RowSized, RowStored}
use Rattle.lawful.proofs.SoundState.{parts, sound-fresh, sound-smallest, after, held-after, sound-after}
use Rattle.lawful.proofs.SoundChange.{rows-changed, rows-unchanged, state-refused, state-changed, sound-changed, cells-changed}
use Rattle.format.specs.Reading.{Draft}
use Rattle.run.specs.Moments.{Action, operation, change, Moment, tables_at, moment_after, moment_from}
use Rattle.script.specs.JustRead.{Buffers, longer, past_cells}
use Rattle.run.specs.Runs.{Point}
use Rattle.model.proofs.SameRows.{SameRows, same_back, smallest-same, lawful-same, held_same}
use Rattle.script.proofs.LongerRows.{RowsSized, extended, longer-same, rows_same, sized-after}
use Rattle.script.proofs.StepLaws.{after-past}

-- ---- moments

-- a moment has the sizes of a design just read, and what is held fits the scheme
pub record Standing (S : Scheme) (m : Moment) : Type 0 where
  pub sized : RowsSized m.rows
  pub fits : HoldingFits S m.held

module _ (S : Scheme) where
  pub stands_after : (m : Moment) → Standing S m → (a : Action) → Standing S (moment_after S m a)
  unfolding moment_after
  stands_after m t (operation o) = record { sized = t.sized; fits = step-fit S (tables_at m) m.held o t.fits }
  stands_after m t (change x) = record { sized = sized-after S m.rows x t.sized; fits = t.fits }

  pub stands_from : (m : Moment) → Standing S m → (acts : List Action) → Standing S (moment_from S m acts)
  unfolding moment_from
  stands_from m t [] = t
  stands_from m t (a ∷ more) = stands_from (moment_after S m a) (stands_after m t a) more

-- ---- the state at a moment

-- what lies past the rows in the buffers
abbrev pub beyond : Buffers → Rows
beyond b = rows_in (past_cells 4096 b.cells) (past 512 b.tables)

-- e is the state at the moment m of a run on the design p, which began with the buffers b
pub record Tracks (p : Draft) (b : Buffers) (m : Moment) (e : State) : Type 0 where
  pub design : e.design ≡ p.design
  pub held : e.held ≡ held_of m.held
  pub standing : Standing (scheme_of p.design) m
  pub cells : e.cells ≡ longer m.rows.cells (past_cells 4096 b.cells)
  pub tables : e.tables ≡ m.rows.tables ++ past 512 b.tables
  pub past : past 512 e.marks ≡ past 512 b.marks
  pub sound : sound e ≡ true
  -- numbers are u32 and issues u8
  pub stored : Stored e.cells

-- the marks of a sound state are those of the rows that they mark
marks-are : (s : State) → sound s ≡ true → s.marks ≡ marks (database s) (marked (take 512 s.marks)) ++ past 512 s.marks
marks-are s e = sym (ap (λ (m : List ℕ). m ++ past 512 s.marks) same ∙ take-append-drop 512 s.marks)
  where
    Y : RowSet
    Y = reached (reload_levels (scheme s) (database s) (holding_of s.held))

    first : take 512 s.marks ≡ marks (database s) Y
    first = (sound-fresh s e).reloaded

    cached : marked (take 512 s.marks) ≡ Y
    cached = ap marked first ∙ marked-marks-is (database s) Y (held-smallest (scheme s) (database s) (holding_of s.held)).meets.rows

    same : marks (database s) (marked (take 512 s.marks)) ≡ take 512 s.marks
    same = ap (marks (database s)) cached ∙ sym first

module _ (p : Draft) (b : Buffers) (m : Moment) (e : State) (t : Tracks p b m e) where
  abbrev S : Scheme
  S = scheme_of p.design

  abbrev X : RowSet
  X = marked (take 512 e.marks)

  rows_are : rows e ≡ extended m.rows (beyond b)
  rows_are = λ i. rows_in (t.cells i) (t.tables i)

  scheme-is : scheme e ≡ S
  scheme-is = ap scheme_of t.design

  holding-is : holding_of e.held ≡ m.held
  holding-is = ap holding_of t.held ∙ holding-back m.held t.standing.fits

  pub same : SameRows (tables_at m) (database e)
  same = subst (λ (R : Rows). SameRows (tables_at m) (tables_of R)) (sym rows_are) (longer-same m.rows (beyond b) t.standing.sized)

  -- ---- demand 3

  lawful : Lawful S (tables_at m)
  lawful =
      lawful-same (same_back same)
      (subst (λ (T : Scheme). Lawful T (database e)) scheme-is (lawful-database e.design e.cells e.tables (parts e t.sound).rows t.stored))

  least : Smallest S (tables_at m) (held_in S m.held) X
  least =
      smallest-same (same_back same)
      (subst (λ (h : Holding). Smallest S (database e) (held_in S h) X) holding-is
      (subst (λ (T : Scheme). Smallest T (database e) (held_in T (holding_of e.held)) X) scheme-is (sound-smallest e t.sound)))

  marks-at : e.marks ≡ marks (tables_at m) X ++ past 512 b.marks
  unfolding database_of marks
  marks-at = marks-are e t.sound ∙ ap (λ (ms : List ℕ). marks (tables_at m) X ++ ms) t.past

  pub point : Point p b m e
  point =
      record {
        held = t.held;
        cells = t.cells;
        tables = t.tables;
        marks = marks-at;
        demand3 = record { smallest = least; probes = λ k c v f n. exact lawful least c v f (numbered-full v n) };
        design = t.design;
        sound = t.sound;
      }

  -- ---- an operation

  operated-held : (o : Operation) → (after e o).held ≡ held_after S (tables_at m) m.held o
  operated-held o =
      step-held (cache e) o (sound-smallest e t.sound) ∙ (λ i. held_after (scheme-is i) (database e) (holding-is i) o) ∙
      sym (held_same S same m.held o)

  pub operated-tracks : (o : Operation) → Tracks p b (moment_after S m (operation o)) (state_after e o)
  unfolding moment_after
  operated-tracks o =
      record {
        design = t.design;
        held = held-after e t.sound o ∙ ap held_of (operated-held o);
        standing = stands_after S m t.standing (operation o);
        cells = t.cells;
        tables = t.tables;
        past = after-past e t.sound o ∙ t.past;
        sound = sound-after e t.sound o;
        stored = t.stored;
      }

-- ---- a change

-- the rows that a change leaves of a sound state, and what it does not touch
record Kept (s : State) (x : Change) (e : State) : Type 0 where
  design : e.design ≡ s.design
  held : e.held ≡ s.held
  rows : rows e ≡ rows_after (scheme s) (rows s) x
  past : past 512 e.marks ≡ past 512 s.marks

marks-long : (R : Rows) (Y : RowSet) → length (marks (tables_of R) Y) ≡ 512
unfolding database_of
marks-long R Y = length-marks (tables_of R) Y

changed-kept : (s : State) (x : Change) → change_cause (scheme s) (rows s) x ≡ 0 → Kept s x (changed_with s (stored (rows s) (number_of x) (row_of x)))
unfolding changed_with
changed-kept s x z =
    let R = stored (rows s) (number_of x) (row_of x) in
    let D = tables_of R in
    let Y = cached_for (scheme s) D (holding_of s.held) in
    record {
      design = refl;
      held = refl;
      rows = sym (rows-changed (scheme s) (rows s) x z);
      past = drop_at (marks D Y) (past 512 s.marks) 512 (marks-long R Y);
    }

kept : (s : State) → sound s ≡ true → (x : Change) → Kept s x (state_changed s x)
kept s e x =
    ⊎_elim (λ (z : change_cause (scheme s) (rows s) x ≡ 0). subst (Kept s x) (sym (state-changed s x e z)) (changed-kept s x z))
    (λ (n : change_cause (scheme s) (rows s) x ≡ 0 → ⊥). subst (Kept s x) (sym (state-refused s x n))
    (record { design = refl; held = refl; rows = sym (rows-unchanged (scheme s) (rows s) x n); past = refl }))
    (same_number (change_cause (scheme s) (rows s) x) 0)

-- a row has eight cells of u32 numbers and u8 issues, as its type says
pub record RowGiven (x : Change) : Type 0 where
  pub sized : RowSized (row_of x)
  pub stored : RowStored (row_of x)

module _ (p : Draft) (b : Buffers) (m : Moment) (e : State) (t : Tracks p b m e) (x : Change) (g : RowGiven x) where
  changed-rows : rows (state_changed e x) ≡ extended (rows_after (scheme_of p.design) m.rows x) (beyond b)
  changed-rows =
      (kept e t.sound x).rows ∙ (λ i. rows_after (scheme-is p b m e t i) (rows_are p b m e t i) x) ∙
      rows_same m.rows (beyond b) t.standing.sized (scheme_of p.design) x g.sized

  pub changed-tracks : Tracks p b (moment_after (scheme_of p.design) m (change x)) (state_changed e x)
  unfolding moment_after
  changed-tracks =
      let k = kept e t.sound x in
      record {
        design = k.design ∙ t.design;
        held = k.held ∙ t.held;
        standing = stands_after (scheme_of p.design) m t.standing (change x);
        cells = ap (λ (R : Rows). R.cells) changed-rows;
        tables = ap (λ (R : Rows). R.tables) changed-rows;
        past = k.past ∙ t.past;
        sound = sound-changed e x t.sound g.sized;
        stored = cells-changed e x g.sized g.stored t.stored;
      }
