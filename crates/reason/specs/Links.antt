-- What the search for a row's chain asks of the levels, and the chain's links in words, apart from what the chain ends with. Assumes nothing.
use Rattle.std.specs.Prelude.{ℕ, zero, suc, ◌+◌, ◌≤◌, ◌<◌, ◌≡◌, true, cond, List, [], ◌++◌, eqb, ltb, get_or}
use Rattle.finite.specs.Finite.{any, first_from}
use Rattle.model.specs.Scheme.{Scheme}
use Rattle.model.specs.Database.{Database}
use Rattle.model.specs.Rounds.{level}
use Rattle.model.specs.Reason.{is_link, last_constraint, last_row}
use Rattle.model.specs.Sentence.{link_text}
use Rattle.reason.specs.declared.linking.Link.{Link}

-- levels of a load from nothing: a row of a later level is demanded of one of the level before
pub record Graded (S : Scheme) (D : Database) (L : List ℕ) : Type 0 where
  pub rows : (r : ℕ) → 0 < level L r → D.live r ≡ true
  pub link : (r n : ℕ) → level L r ≡ suc (suc (suc n)) → any S.constraints (λ i. any D.size (is_link S D L n r i)) ≡ true

-- the levels below m, and 0 in place of the others
pub record Below (L : List ℕ) (m : ℕ) (K : List ℕ) : Type 0 where
  pub at : (s : ℕ) → s < 512 → level K s ≡ cond (ltb (level L s) m) (level L s) 0

-- the next row of level l, from row s on; 512 if there is none
abbrev pub of_level : List ℕ → ℕ → ℕ → ℕ
of_level L l s = first_from 512 (λ t. eqb (level L t) l) s

-- for each level from 1 on and below m the first of its rows, and for each row of such a level the next one of it
pub record Ranked (L : List ℕ) (m : ℕ) (heads next : List ℕ) : Type 0 where
  pub head : (l : ℕ) → 0 < l → l < m → get_or heads l 0 ≡ of_level L l 0
  pub after : (s : ℕ) → s < 512 → 0 < level L s → level L s < m → get_or next s 0 ≡ of_level L (level L s) (s + 1)

-- the link by constraint i from row s, if i is the lower
unfoldable pub lower_link : Link → ℕ → ℕ → Link
lower_link best i s = cond (ltb i best.constraint) (record { constraint = i; row = s }) best

-- constraint i and row s are the lowest link of row r, n + 1 constraints away from what is held, that comes from a row below t; i is the number of constraints
-- if there is none
pub record LowestLink (S : Scheme) (D : Database) (L : List ℕ) (n r t i s : ℕ) : Type 0 where
  pub few : i ≤ S.constraints
  pub here : i < S.constraints → (s < t) × (is_link S D L n r i s ≡ true)
  pub least : (j u : ℕ) → j < S.constraints → u < t → is_link S D L n r j u ≡ true → (i ≤ j) × (i ≡ j → s ≤ u)

module _ (S : Scheme) (D : Database) (L : List ℕ) where
  -- the row with something held with which the chain of row r, n constraints away from it, ends
  unfoldable pub root_by : ℕ → ℕ → ℕ
  root_by zero r = r
  root_by (suc n) r = root_by n (last_row S D L n r)

  -- the chain's links in words
  unfoldable pub links_text : ℕ → ℕ → List ℕ
  links_text zero r = []
  links_text (suc n) r = link_text (last_constraint S D L n r) (last_row S D L n r) ++ links_text n (last_row S D L n r)

  -- behind each distance from 1 to n stand the constraint and the row of the link there, of the chain of row r, n constraints away from what is held
  unfoldable pub Chained : List ℕ → List ℕ → ℕ → ℕ → Type 0
  Chained by from zero r = Unit
  Chained by from (suc n) r = (get_or by (suc n) 0 ≡ last_constraint S D L n r) × (get_or from (suc n) 0 ≡ last_row S D L n r) × Chained by from n (last_row S D L n r)

-- what the links of row r are read off, n constraints away from what is held
pub record Traceable (S : Scheme) (D : Database) (L by from : List ℕ) (n r : ℕ) : Type 0 where
  pub few : S.constraints ≤ 16
  pub size_is : D.size ≡ 512
  pub graded : Graded S D L
  pub away : level L r ≡ n + 2
  pub links : Chained S D L by from n r
