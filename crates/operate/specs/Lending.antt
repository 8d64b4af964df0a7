-- An operation on whatever is lent, where what is held is lent as words. Assumes nothing.
use Rattle.std.specs.Prelude.{ℕ, ◌≡◌, true, false, List}
use Rattle.std.proofs.lemmas.List.Edits.{sets}
use Rattle.model.specs.Runs.{Operation}
use Rattle.model.specs.Answers.{Answer, refused}
use Rattle.state.specs.HeldWords.{record_in, held_words}
use Rattle.state.specs.Lent.{State, cause_of, Performed}

-- the operation o on a state s whose held values are lent as the words h: where they are the words of a record, as of the record, whose words are stored from the
-- first on; otherwise it is refused by cause 7 or 12, and all stays
pub record PerformedWords (s : State) (h w t : List ℕ) (o : Operation) (a : Answer) (s' : State) (h' w' t' : List ℕ) : Type 0 where
  pub performed : record_in h ≡ true → Performed s w t o a s' w' t' × (h' ≡ sets h 0 (held_words s'.held))
  pub refused : record_in h ≡ false → (a ≡ refused (cause_of s h)) × (s' ≡ s) × (h' ≡ h) × (w' ≡ w) × (t' ≡ t)
