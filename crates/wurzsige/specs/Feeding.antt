-- What the exported functions tell of a slice and of a design's columns, for whatever is lent: what must be fetched next, and the verdicts. Assumes nothing.
use Rattle.std.specs.Prelude.{ℕ, ◌≡◌, not, cond, ◌&&◌, List, [], ◌∷◌, eqb, leb, length}
use Rattle.model.specs.Missing.{Fetch, value, span, nothing, lacks}
use Rattle.state.specs.Lawful.{lawful_design}
use Rattle.state.specs.Meaning.{scheme_of}
use Rattle.words.specs.Words.{design_length, words_design, narrow_design}
use Rattle.verdict.specs.Words.{verdict_words}
use Rattle.slice.specs.Replies.{Reply, lack, refused, reply_in}
use Rattle.wurzsige.specs.Calls.{Memory, state_in, memory_cause}

-- ---- what must be fetched next

-- a fetch as the five words that it is lent as
abbrev pub fetch_words : Fetch → List ℕ
fetch_words (value k v) = 0 ∷ k.table ∷ k.place ∷ v.number ∷ v.issue ∷ []
fetch_words (span k low high) = 1 ∷ k.table ∷ k.place ∷ low ∷ high ∷ []

-- the answer as a number: 0 if nothing lacks, 1 if a fetch does, else the cause of the refusal
abbrev pub reply_number : Reply → ℕ
reply_number (lack nothing) = 0
reply_number (lack (lacks f)) = 1
reply_number (refused c) = c

-- the five words afterwards: those of the fetch that lacks, else as they were
abbrev pub reply_words : Reply → List ℕ → List ℕ
reply_words (lack nothing) ws = ws
reply_words (lack (lacks f)) ws = fetch_words f
reply_words (refused c) ws = ws

-- the answer: causes 7 and 12 of the memory first
unfoldable pub missing_in : Memory → List ℕ → ℕ → Reply
missing_in m words n = cond (eqb (memory_cause m) 0) (reply_in (state_in m) words n) (refused (memory_cause m))

-- an answer r is told as the number k, and the words f become f'
pub record ReplyTold (r : Reply) (k : ℕ) (f f' : List ℕ) : Type 0 where
  pub number : k ≡ reply_number r
  pub fetch : f' ≡ reply_words r f

-- ---- verdicts

-- the cause: 7 for too few words, 12 for words of no design or one that no script gives; 0 if neither applies
unfoldable pub design_cause_in : List ℕ → ℕ
design_cause_in ds = cond (not (leb design_length (length ds))) 7 (cond (not (narrow_design ds && lawful_design (words_design ds))) 12 0)

-- the cause n; the 64 words, which become v', are the verdicts where there is none
pub record VerdictsTold (ds : List ℕ) (n : ℕ) (v v' : List ℕ) : Type 0 where
  pub cause : n ≡ design_cause_in ds
  pub verdicts : v' ≡ cond (eqb (design_cause_in ds) 0) (verdict_words (scheme_of (words_design ds))) v
