-- The state with which a run begins is the one at its first moment. Assumes nothing.
use Prim.Native.Nat.{ℕ}
use mathlib.Core.Path.{◌≡◌, refl}
use mathlib.Core.List.{List}
use lib.ListN.{drop as past}
use lib.Seq.{drop_at}
use Rattle.finite.specs.Finite.{tab}
use Rattle.finite.proofs.Tables.{length-tab}
use Rattle.state.specs.Meaning.{scheme_of}
use Rattle.lawful.proofs.RowsLaws.{Stored}
use Rattle.format.specs.Reading.{Draft, cells_after}
use Rattle.format.specs.Reading.DesignRead.{accepted}
use Rattle.format.proofs.Small.{Small}
use Rattle.format.proofs.Reached.{accepted-lawful}
use Rattle.script.specs.JustRead.{Buffers, reading_of, just_read}
use Rattle.run.specs.Runs.{beginning}
use Rattle.run.proofs.Tracking.{Standing, Tracks}
use Rattle.script.proofs.JustRead.{none-held, none-fit, into-parts, draft-sized, read-sound}

-- the moment with which a run begins
pub begins : (script : List ℕ) → Small script → (b : Buffers) (p : Draft) (i : ℕ) → reading_of script b ≡ accepted p i → Standing (scheme_of p.design) (beginning p)
begins script small b p i e =
    record { sized = draft-sized p (accepted-lawful script small p i (into-parts script b p i e).1).2; fits = none-fit (scheme_of p.design) }

module _ (s : List ℕ) (small : Small s) (b : Buffers) (p : Draft) (i : ℕ) (e : reading_of s b ≡ accepted p i)
    (u : Stored (cells_after (accepted p i) b.cells)) where
  -- the state with which it begins is the one at that moment
  pub begun : Tracks p b (beginning p) (just_read (accepted p i) b)
  begun =
      record {
        design = refl;
        held = none-held;
        standing = begins s small b p i e;
        cells = refl;
        tables = refl;
        past = drop_at (tab 512 (λ _. 0)) (past 512 b.marks) 512 (length-tab {A = ℕ} 512 (λ _. 0));
        sound = read-sound s small b p i e u;
        stored = u;
      }
