-- A whole run: what the steps of a script leave of the state just read is what `Operated` says. Assumes nothing.
use Prim.Native.Nat.{ℕ, ◌≤◌}
use native.Mathlib.Omega.{arith}
use mathlib.Core.Path.{◌≡◌, sym, ap, subst}
use mathlib.Core.Bool.{true, false}
use mathlib.Core.List.{List}
use mathlib.Core.Logic.{⊎_elim}
use borrow.Author.Tests.{ltb-false}
use lib.Dec.{ltb}
use lib.ListN.{length}
use Rattle.finite.proofs.Bools.{dec, cond-true}
use Rattle.state.specs.declared.held.Held.{Held}
use Rattle.state.specs.Lent.{lent}
use Rattle.lawful.proofs.RowsLaws.{Stored}
use Rattle.format.specs.Reading.{Draft, read_design, cells_after, most_bytes}
use Rattle.format.specs.Reading.DesignRead.{accepted, refused_at}
use Rattle.format.proofs.Small.{Small}
use Rattle.run.specs.Runs.{Left, leaving, left_from, rooms_in, beginning, moment_at, Point, Operated}
use Rattle.script.specs.JustRead.{Buffers, reading_of, just_read}
use Rattle.run.proofs.Tracking.{Tracks, point}
use Rattle.script.proofs.JustRead.{into-parts}
use Rattle.run.proofs.Begun.{begun}
use Rattle.run.proofs.RunLaws.{left-tracks}

-- a script that is accepted is not over-long
pub accepted-short : (script : List ℕ) (p : Draft) (i : ℕ) → read_design script ≡ accepted p i → length script ≤ most_bytes
unfolding read_design
accepted-short script p i e =
    ⊎_elim (λ (q : ltb most_bytes (length script) ≡ true).
    absurd (let z : ◌≡◌ {A = ℕ} 0 1 = cc (cond-true (ltb most_bytes (length script)) (refused_at 4 0) _ q) in omega arith))
    (λ (q : ltb most_bytes (length script) ≡ false). ltb-false _ _ q)
    (dec (ltb most_bytes (length script)))

-- A design just read. A script is bytes, a number is below 2 ^ 32 and an issue below 2 ^ 8, as their types say.
module _ (script : List ℕ) (small : Small script) (b : Buffers) (p : Draft) (i : ℕ) (e : reading_of script b ≡ accepted p i)
    (stored : Stored (cells_after (accepted p i) b.cells)) where
  short : length script ≤ most_bytes
  short = accepted-short script p i (into-parts script b p i e).1

  start : Tracks p b (beginning p) (just_read (accepted p i) b)
  start = begun script small b p i e stored

  -- what n commands leave
  abbrev left_by : ℕ → Left
  left_by n = left_from n script (just_read (accepted p i) b) b.outputs i

  pub part : (n : ℕ) → Tracks p b (moment_at n script p (rooms_in b) i) (left_by n).state
  part n = left-tracks p b script small short n (beginning p) (just_read (accepted p i) b) start b.outputs i

  -- whatever the code leaves, if it is what the steps leave, it is what `Operated` says
  pub operated : (a : Buffers) (h : Held) → leaving (lent p.design a.cells a.tables a.marks h) a.outputs ≡ left_by (length script) →
      Operated script p i b a h
  operated a h q =
      record {
        point =
            subst (Point p b (moment_at (length script) script p (rooms_in b) i)) (sym (ap (λ (l : Left). l.state) q)) (point p b _ _ (part (length script)));
        outputs = ap (λ (l : Left). l.outputs) q;
      }
