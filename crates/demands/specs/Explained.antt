-- What 02, Req 08 asks of a reason that is given. Assumes nothing.
use Rattle.std.specs.Prelude.{ℕ, ◌≤◌, ◌≡◌, true, List, ◌⊎◌, length}
use Rattle.model.specs.Reason.{Chain, Explains, links_of, lower_chain}
use Rattle.model.specs.Sentence.{sentence}
use Rattle.model.specs.Runs.{marked}
use Rattle.state.specs.Meaning.{holding_of}
use Rattle.state.specs.Lent.{State, scheme, database, cache}

-- the chain explains row r in the full tables of the state, with what is held there
abbrev pub ExplainsIn : State → ℕ → Chain → Type 0
ExplainsIn s r c = Explains (scheme s) (database s) (holding_of s.held) r c

-- on the state s a reason for row r is given as the text t, of n bytes: it is the sentence of the chain c
pub record Explained (s : State) (r n : ℕ) (t : List ℕ) (c : Chain) : Type 0 where
  pub text : t ≡ sentence r c
  pub bytes : n ≡ length t
  -- the number has a row, which is cached
  pub live : (database s).live r ≡ true
  pub cached : marked (cache s).marks r ≡ true
  -- "Each link is a true demand in the full tables"
  pub demands : ExplainsIn s r c
  -- "The chain is a shortest one"
  pub shortest : (e : Chain) → ExplainsIn s r e → links_of c ≤ links_of e
  -- "among those take the lowest last constraint, then the lowest row it comes from, and so on back, then the lowest filling, value and issue"
  pub lowest : (e : Chain) → ExplainsIn s r e → links_of e ≡ links_of c → (e ≡ c) ⊎ (lower_chain c e ≡ true)
  -- "two different chains never give one sentence"
  pub apart : (q : ℕ) (e : Chain) → (database s).live q ≡ true → ExplainsIn s q e → sentence q e ≡ t → (q ≡ r) × (e ≡ c)
