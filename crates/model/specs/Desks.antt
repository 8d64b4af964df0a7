-- What the other desks decide of a desk's REFER and of its load of a range (02, Req 07: "In a lawful state, what other desks hold never decides whether a desk's REFER is refused; it
-- may decide rows added, rounds and grounds"). Assumes nothing.
use Rattle.std.specs.Prelude.{ℕ, ◌≡◌}
use Rattle.model.specs.Holding.{Holding, own_of, own_ranges}
use Rattle.model.specs.Answers.{Answer, loaded}

-- one desk is named in both, and has the same pairs and the same ranges in both; what the other desks hold is free
pub record SameDesk (h g : Holding) : Type 0 where
  pub desk : h.desk ≡ g.desk
  pub own : own_of h.desk h ≡ own_of g.desk g
  pub ranges : own_ranges h ≡ own_ranges g

-- two answers that are the same but for rows added and rounds
pub data SameButRows : Answer → Answer → Type 0 where
  same : (a : Answer) → SameButRows a a
  loads : (rows rounds others turns : ℕ) → SameButRows (loaded rows rounds) (loaded others turns)
