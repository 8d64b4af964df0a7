-- Operations and runs: what a list of operations leaves held, found from the scheme, the rows, the operands and the words lent alone, and what it leaves
-- cached (01, "Runs"; 02, Req 02, 07 and 10). Assumes nothing.
use Rattle.std.specs.Prelude.{ℕ, ◌^◌, Bool, false, not, cond, ◌&&◌, List, [], ◌∷◌, eqb, leb, ltb, length, get_or}
use Rattle.finite.specs.Finite.{first, tab}
use Rattle.model.specs.Cell.{Cell, numberless}
use Rattle.model.specs.Scheme.{Column, same_column, candidate, Scheme}
use Rattle.model.specs.Database.{Database, has}
use Rattle.model.specs.Cache.{RowSet}
use Rattle.model.specs.Probe
use Rattle.model.specs.Rounds.{reached, load}
use Rattle.model.specs.Ranges.{Range, is_range, only_candidates, has_range}
use Rattle.model.specs.Holding.{desks, Pair, Holding, nothing_held, with_desk, holds, has_room, with_pair, without_pair, holds_range, covers_range, has_range_room, with_range, without_range, held_in, wanted}
use Rattle.model.specs.Query.{Query, operands_fit, position_fits, words_of, full_lists, full_total}

-- a question, which changes nothing
pub data Question : Type 0 where
  probe : Column → Cell → Question
  -- whether the design is even
  evenness : Question
  -- its smallest knot
  smallest_knot : Question
  -- the value whose reference would give the probe a ground (02, Req 09)
  opener : Column → Cell → Question
  -- why a row is cached: its number, and how many bytes of text are lent (02, Req 08)
  reason : ℕ → ℕ → Question

-- what a query is asked for: its lists, with how many answer words are lent, or the total of a position's column (02, Req 03)
pub data Output : Type 0 where
  as_lists : ℕ → Output
  as_total : ℕ → ℕ → Output

-- REFER, DROP, a question, QUERY, naming a desk (02, Req 07), and holding and dropping a range (02, Req 10)
pub data Operation : Type 0 where
  refer : Pair → Operation
  drop : Pair → Operation
  ask : Question → Operation
  query : Query → Output → Operation
  name : ℕ → Operation
  refer_range : Range → Operation
  drop_range : Range → Operation

-- "REFER: if the filling exists, the value is a candidate, the pair isn't listed and fewer than 64 are, the pair goes to the end", where listed and room
-- go "by the pairs of the desk then named", of which fewer than 16 are to be listed (02, Req 07)
unfoldable pub taken : Scheme → Holding → Pair → Bool
taken S h p = ltb p.filling S.fillings && (candidate (S.filling p.filling) p.value && (not (holds h p) && has_room h))

-- a range is held from then on: its operands fit, it is wholly of candidates, it isn't inside a range of the desk, and leaves that no more than 8
unfoldable pub range_taken : Scheme → Holding → Range → Bool
range_taken S h r = is_range S r && (only_candidates S r && (not (covers_range h r) && has_range_room h r))

-- the levels of a load of one more value, of one more range, "its values all joining round 0", and of a load of all values from nothing, which a drop makes
unfoldable pub refer_levels : Scheme → Database → RowSet → Pair → List ℕ
refer_levels S D X p = load S D X (has D (S.filling p.filling).column p.value)

unfoldable pub range_levels : Scheme → Database → RowSet → Range → List ℕ
range_levels S D X r = load S D X (has_range D (S.filling r.filling).column r)

unfoldable pub reload_levels : Scheme → Database → Holding → List ℕ
reload_levels S D h = load S D (λ _. false) (wanted S D h)

-- the rows that are cached for what is held
abbrev pub cached_for : Scheme → Database → Holding → RowSet
cached_for S D h = reached (reload_levels S D h)

-- ---- queries that refer (02, Req 02 and 03)

-- the filling of a column, of which a lawful design has one at the most; the number of fillings if there is none
unfoldable pub filling_for : Scheme → Column → ℕ
filling_for S k = first S.fillings (λ f. same_column (S.filling f).column k)

-- the pair that a query refers: the filling of its column, and its value
abbrev pub pair_for : Scheme → Query → Pair
pair_for S q = record { filling = filling_for S q.column; value = q.value }

-- every operand names something, or is unused and 0 (cause 5)
unfoldable pub output_fits : Scheme → Query → Output → Bool
output_fits S q (as_lists room) = operands_fit S q
output_fits S q (as_total p c) = operands_fit S q && position_fits S q p c

-- the lists have no more words than are lent (cause 11); the total is not "above 2 to the power 64 less 1" (cause 13)
unfoldable pub within_limit : Scheme → Database → Query → Output → Bool
within_limit S D q (as_lists room) = leb (length (words_of (full_lists S D q))) room
within_limit S D q (as_total p c) = ltb (full_total S D q p c) (2 ^ 64)

-- neither 5 nor 9 nor 11 nor 13 refuses the query
unfoldable pub answerable : Scheme → Database → Query → Output → Bool
answerable S D q out = output_fits S q out && (not (numberless q.value) && within_limit S D q out)

-- "A QUERY without a ground whose column is a filling column and whose value is a candidate is now referred first": with h held and the rows X cached it
-- has no ground and its pair is taken, and it isn't refused ("With 11 the reference is undone"). A total "refers as Req 02's query does"
unfoldable pub refers : Scheme → Database → Holding → RowSet → Query → Output → Bool
refers S D h X q out = answerable S D q out && (eqb (Probe.probe S D (held_in S h) X q.column q.value) 0 && taken S h (pair_for S q))

-- ---- what is held

-- after an operation: a query's pair is found "by the definitions and not by what the program answers"
unfoldable pub held_after : Scheme → Database → Holding → Operation → Holding
held_after S D h (refer p) = cond (taken S h p) (with_pair h p) h
held_after S D h (drop p) = cond (holds h p) (without_pair h p) h
held_after S D h (ask q) = h
held_after S D h (query q out) = cond (refers S D h (cached_for S D h) q out) (with_pair h (pair_for S q)) h
held_after S D h (name d) = cond (ltb d desks) (with_desk h d) h
held_after S D h (refer_range r) = cond (range_taken S h r) (with_range h r) h
held_after S D h (drop_range r) = cond (holds_range h r) (without_range h r) h

-- after a run
unfoldable pub held_from : Scheme → Database → Holding → List Operation → Holding
held_from S D h [] = h
held_from S D h (o ∷ os) = held_from S D (held_after S D h o) os

-- ---- what is cached

-- marks: 1 for a cached row, 0 for another number
unfoldable pub marks : Database → RowSet → List ℕ
marks D X = tab D.size (λ r. cond (X r) 1 0)

unfoldable pub marked : List ℕ → RowSet
marked m r = eqb (get_or m r 0) 1

-- what a run changes: "the held values and marks and no other part of the state"
pub record Cache : Type 0 where
  pub held : Holding
  pub marks : List ℕ

unfoldable pub empty_cache : Database → Cache
empty_cache D = record { held = nothing_held; marks = marks D (λ _. false) }

-- a pair more is held, and loaded
abbrev pub referred : Scheme → Database → Cache → Pair → Cache
referred S D c p = record { held = with_pair c.held p; marks = marks D (reached (refer_levels S D (marked c.marks) p)) }

-- a range more is held, and loaded
abbrev pub referred_range : Scheme → Database → Cache → Range → Cache
referred_range S D c r = record { held = with_range c.held r; marks = marks D (reached (range_levels S D (marked c.marks) r)) }

-- another desk is named
abbrev pub at_desk : Cache → ℕ → Cache
at_desk c d = record { held = with_desk c.held d; marks = c.marks }

-- the smallest set for what is held, loaded from nothing
abbrev pub reloaded : Scheme → Database → Holding → Cache
reloaded S D h = record { held = h; marks = marks D (cached_for S D h) }
