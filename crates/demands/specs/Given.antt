-- What some script gives, by its design commands and by what stands behind its END (01, cause 12: "a design or rows that no script gives, unused places not 0, a held pair twice or
-- no candidate, over 64 held, or marks that aren't 1 on exactly the smallest set and 0 elsewhere"; 02, Req 07: "12 looks at pairs and limits desk by desk, and at a desk above 3";
-- Req 10: "a state with any other, with over 8 for a desk or with one empty or not wholly of candidates is unlawful"; Req 12: "gaps are lawful under 12"). Assumes nothing.
use Rattle.std.specs.Prelude.{ℕ, ◌^◌, ◌<◌, ◌≡◌, List, length, get_or}
use Rattle.model.specs.Holding.{Holding}
use Rattle.state.specs.declared.design.Design.{Design}
use Rattle.state.specs.Cells.{Cells}
use Rattle.state.specs.Held.{held_at}
use Rattle.state.specs.Lent.{State}
use Rattle.state.specs.Changes.{rows_in}
use Rattle.state.proofs.Arrays.{Sized, HeldSized}
use Rattle.lawful.proofs.RowsLaws.{Stored}
use Rattle.format.specs.Reading.{Draft, read_design, cells_after}
use Rattle.format.specs.Reading.DesignRead.{accepted}
use Rattle.writing.proofs.ReadBack.{Numbers}
use Rattle.script.specs.Step.{Rooms}
use Rattle.run.specs.Runs.{left_from, moment_at}
use Rattle.script.specs.JustRead.{Buffers, reading_of, just_read}

-- the script's design is d, and behind all that it has after END, whatever is lent for answers, the rows are these and this is held
pub record GivenBy (d : Design) (cells : Cells) (tables : List ℕ) (h : Holding) (script : List ℕ) : Type 0 where
  pub bytes : (j : ℕ) → get_or script j 0 < 256
  pub draft : Draft
  pub place : ℕ
  pub read : read_design script ≡ accepted draft place
  pub design : draft.design ≡ d
  -- the numbers of its rows are u32 and their issues u8
  pub stored : Stored draft.cells
  pub moment : (rooms : Rooms) → moment_at (length script) script draft rooms place ≡ record { rows = rows_in cells tables; held = h }

-- arrays have their places, numbers are u32 and issues u8, as the types of a lent state say
pub record TypedState (s : State) : Type 0 where
  pub design : Sized s.design
  pub numbers : Numbers s.design s.cells
  pub held : HeldSized s.held
  pub issues : (i : ℕ) → i < 64 → (held_at s.held i).pair.value.issue < 2 ^ 8

-- a run of some script, read into some buffers, leaves the state s
pub record LeftBySome (s : State) : Type 0 where
  pub script : List ℕ
  pub bytes : (j : ℕ) → get_or script j 0 < 256
  pub buffers : Buffers
  pub draft : Draft
  pub place : ℕ
  pub read : reading_of script buffers ≡ accepted draft place
  pub stored : Stored (cells_after (accepted draft place) buffers.cells)
  pub left : (left_from (length script) script (just_read (accepted draft place) buffers) buffers.outputs place).state ≡ s
