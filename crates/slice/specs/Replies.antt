-- What must be fetched next for a lent state, for whatever is lent: the refusal, or what the slice lacks. Assumes nothing.
use Rattle.std.specs.Prelude.{ℕ, ◌*◌, not, cond, List, eqb, leb, length}
use Rattle.model.specs.Missing as Model
use Rattle.model.specs.Runs.{marked}
use Rattle.state.specs.Lent.{State, scheme, database, cache, cause_of}
use Rattle.slice.specs.declared.whole.Next.{Next}
use Rattle.slice.specs.declared.whole.Next.TheVariants as N
use Rattle.slice.specs.Fetches.{fetch_of, fetches_in, fetches_fit}

pub data Reply : Type 0 where
  lack : Model.Lack → Reply
  refused : ℕ → Reply

abbrev pub reply_of : Next → Reply
reply_of N.Nothing = lack Model.nothing
reply_of (N.Lacks f) = lack (Model.lacks (fetch_of f))
reply_of (N.Refused n) = refused n

-- what a state's slice lacks
unfoldable pub missing_at : State → List Model.Fetch → Model.Lack
missing_at s fs = Model.missing (scheme s) (database s) (cache s).held (marked (cache s).marks) fs

-- the answer for a sound state and whatever fetches are lent: 7 for fewer than five words a fetch, 5 for words of no fetch or out of order, else what the slice lacks
unfoldable pub reply_in : State → List ℕ → ℕ → Reply
reply_in s words n =
    cond (not (leb (5 * n) (length words))) (refused 7)
    (cond (not (fetches_fit (scheme s) words n)) (refused 5)
    (lack (missing_at s (fetches_in words n))))

-- and for whatever is lent: causes 7 and 12 of the state, with what is held as words, first
unfoldable pub reply_at : State → List ℕ → List ℕ → ℕ → Reply
reply_at s held words n = cond (eqb (cause_of s held) 0) (reply_in s words n) (refused (cause_of s held))
