-- What each operation does, by cases: its answer, the cache that it leaves, and the answer words and the text that it writes (01, "What the operations do"; 02).
-- Assumes nothing.
use Rattle.std.specs.Prelude.{ℕ, not, cond, ◌&&◌, List, [], ◌∷◌, ltb}
use Rattle.finite.specs.Finite.{count}
use Rattle.model.specs.Cell.{numberless}
use Rattle.model.specs.Scheme.{candidate, Scheme, is_column}
use Rattle.model.specs.Database.{Database}
use Rattle.model.specs.Probe
use Rattle.model.specs.Rounds.{added_rows, later_rounds, reached}
use Rattle.model.specs.Ranges.{is_range, only_candidates}
use Rattle.model.specs.Holding.{desks, holds, has_room, without_pair, holds_range, covers_range, has_range_room, without_range, held_in}
use Rattle.model.specs.Sentence.{reason_text}
use Rattle.model.specs.Runs.{Question, probe, evenness, smallest_knot, opener, reason, Operation, refer, drop, ask, query, name, refer_range, drop_range, taken, range_taken, pair_for, refers, marked, Cache, referred, referred_range, at_desk, reloaded, refer_levels, range_levels, reload_levels}
use Rattle.model.specs.Answers.{Answer, loaded, held, no_candidate, dropped, named, unless, or_answer, ground_of, even_answer, knot_answer, opener_answer, reason_answer, text_with, query_answer, query_words}

-- what a question answers, and the text that it writes with it
pub record Reply : Type 0 where
  pub answer : Answer
  pub text : List ℕ

unfoldable pub reply : Scheme → Database → Cache → Question → Reply
reply S D c (probe k v) =
    record {
      answer =
          unless (not (is_column S k)) 5
          (unless (numberless v) 9
          (ground_of (Probe.probe S D (held_in S c.held) (marked c.marks) k v) (Probe.cached_rows D (marked c.marks) k v)));
      text = [];
    }
reply S D c evenness = record { answer = even_answer S; text = [] }
reply S D c smallest_knot = record { answer = knot_answer S; text = [] }
reply S D c (opener k v) = record { answer = unless (not (is_column S k)) 5 (unless (numberless v) 9 (opener_answer S D c k v)); text = [] }
reply S D c (reason r room) = record { answer = reason_answer S D c r room; text = text_with (reason_answer S D c r room) (reason_text S D c.held r) }

-- what an operation does
pub record Effect : Type 0 where
  pub answer : Answer
  pub cache : Cache
  pub words : List ℕ
  pub text : List ℕ

unfoldable pub effect : Scheme → Database → Cache → Operation → Effect
effect S D c (refer p) =
    record {
      answer =
          unless (not (ltb p.filling S.fillings)) 5
          (unless (numberless p.value) 9
          (or_answer (not (candidate (S.filling p.filling) p.value)) no_candidate
          (or_answer (holds c.held p) held
          (unless (not (has_room c.held)) 8
          (let L = refer_levels S D (marked c.marks) p in loaded (added_rows D L) (later_rounds D L))))));
      cache = cond (taken S c.held p) (referred S D c p) c;
      words = [];
      text = [];
    }
effect S D c (drop p) =
    record {
      answer =
          unless (not (ltb p.filling S.fillings)) 5
          (unless (numberless p.value) 9
          (unless (not (holds c.held p)) 10
          (let L = reload_levels S D (without_pair c.held p) in dropped (count D.size (λ r. marked c.marks r && not (reached L r))))));
      cache = cond (holds c.held p) (reloaded S D (without_pair c.held p)) c;
      words = [];
      text = [];
    }
effect S D c (ask q) = record { answer = (reply S D c q).answer; cache = c; words = []; text = (reply S D c q).text }
effect S D c (query q out) =
    record {
      answer = query_answer S D c q out;
      cache = cond (refers S D c.held (marked c.marks) q out) (referred S D c (pair_for S q)) c;
      words = query_words S D c q out;
      text = [];
    }
-- "It refuses a desk above 3 with 5"
effect S D c (name d) = record { answer = unless (not (ltb d desks)) 5 (named d); cache = cond (ltb d desks) (at_desk c d) c; words = []; text = [] }
-- "They print as REFER and DROP do"; "not wholly of candidates answers "no candidate"; one inside a held range answers "held", both before 8"
effect S D c (refer_range r) =
    record {
      answer =
          unless (not (is_range S r)) 5
          (or_answer (not (only_candidates S r)) no_candidate
          (or_answer (covers_range c.held r) held
          (unless (not (has_range_room c.held r)) 8
          (let L = range_levels S D (marked c.marks) r in loaded (added_rows D L) (later_rounds D L)))));
      cache = cond (range_taken S c.held r) (referred_range S D c r) c;
      words = [];
      text = [];
    }
effect S D c (drop_range r) =
    record {
      answer =
          unless (not (is_range S r)) 5
          (unless (not (holds_range c.held r)) 10
          (let L = reload_levels S D (without_range c.held r) in dropped (count D.size (λ s. marked c.marks s && not (reached L s)))));
      cache = cond (holds_range c.held r) (reloaded S D (without_range c.held r)) c;
      words = [];
      text = [];
    }

abbrev pub answer : Scheme → Database → Cache → Operation → Answer
answer S D c o = (effect S D c o).answer

abbrev pub cache_after : Scheme → Database → Cache → Operation → Cache
cache_after S D c o = (effect S D c o).cache

-- the words and the text that an operation writes
abbrev pub written : Scheme → Database → Cache → Operation → List ℕ
written S D c o = (effect S D c o).words

abbrev pub text_of : Scheme → Database → Cache → Operation → List ℕ
text_of S D c o = (effect S D c o).text

-- the cache behind a run
unfoldable pub cache_from : Scheme → Database → Cache → List Operation → Cache
cache_from S D c [] = c
cache_from S D c (o ∷ os) = cache_from S D (cache_after S D c o) os
