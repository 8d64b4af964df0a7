-- What a call tells: of an answer the number of its word, the numbers behind the word in a lent buffer of sixteen, and how many they are, off which a
-- caller reads the answer again (proofs/ToldLaws.antt); the place of a refusal, the place after the command, and whether reading goes on; which version it is. Assumes nothing.
use Rattle.std.specs.Prelude.{ℕ, ◌≤◌, ◌≡◌, Bool, true, false, cond, List, [], ◌∷◌, eqb, length, get_or, take}
use Rattle.model.specs.Answers.{Answer, loaded, held, no_candidate, dropped, ground, sent, lists, refused, even, uneven, total, knot, named, opened, opened_by, no_opener, absent, explained, changed, Shown, shown, lists_word, refused_word, explained_word}
use Rattle.state.specs.Meaning.{sixteen}
use Rattle.format.specs.Reading.{DesignRead}
use Rattle.format.specs.Reading.DesignRead.{accepted, refused_at}
use Rattle.script.specs.Step.{Stepped}

-- version 0.2.0 of what is declared, as one number
abbrev pub version : ℕ
version = 512

-- the word's number n, the buffer ns and the count k tell what is shown
pub record Told (x : Shown) (n : ℕ) (ns : List ℕ) (k : ℕ) : Type 0 where
  pub number : n ≡ x.word
  pub count : k ≡ length x.numbers
  pub few : length x.numbers ≤ 16
  pub numbers : ns ≡ sixteen x.numbers

-- what is told beside it: the place i as p, the place after it j as q, and whether reading goes on, b, as m
pub record Placed (i j : ℕ) (b : Bool) (p q m : ℕ) : Type 0 where
  pub place : p ≡ i
  pub next : q ≡ j
  pub more : m ≡ cond b 1 0

-- ---- a step

pub record StepTold (R : Stepped) (n : ℕ) (ns : List ℕ) (k p q m : ℕ) : Type 0 where
  pub told : Told (shown R.answer) n ns k
  pub placed : Placed R.place R.next R.more p q m

-- ---- a design that is opened: how many tables, constraints, fillings and rows it has, behind a word of its own, and the place behind END; of one that
-- is refused the cause and its place

abbrev pub design_word : ℕ
design_word = 19

abbrev pub open_shown : DesignRead → Shown
open_shown (accepted d i) = record { word = design_word; numbers = d.design.tables ∷ d.design.constraints ∷ d.design.fillings ∷ d.rows ∷ [] }
open_shown (refused_at c i) = record { word = refused_word; numbers = c ∷ [] }

abbrev pub open_place : DesignRead → ℕ
open_place (accepted d i) = 0
open_place (refused_at c i) = i

abbrev pub open_next : DesignRead → ℕ
open_next (accepted d i) = i
open_next (refused_at c i) = 0

abbrev pub open_more : DesignRead → Bool
open_more (accepted d i) = true
open_more (refused_at c i) = false

pub record OpenTold (w : DesignRead) (n : ℕ) (ns : List ℕ) (k p q m : ℕ) : Type 0 where
  pub told : Told (open_shown w) n ns k
  pub placed : Placed (open_place w) (open_next w) (open_more w) p q m

-- ---- reading an answer off

-- the answer that a caller reads off them
abbrev pub answer_in : ℕ → List ℕ → ℕ → Answer
answer_in n ns k =
    cond (eqb n 0) (loaded (get_or ns 0 0) (get_or ns 1 0))
    (cond (eqb n 1) held
    (cond (eqb n 2) no_candidate
    (cond (eqb n 3) (dropped (get_or ns 0 0))
    (cond (eqb n 4) (ground (get_or ns 0 0) (get_or ns 1 0))
    (cond (eqb n 5) sent
    (cond (eqb n lists_word) (lists (get_or ns 0 0))
    (cond (eqb n 8) even
    (cond (eqb n 9) (uneven (get_or ns 0 0) (get_or ns 1 0))
    (cond (eqb n 10) (total (get_or ns 0 0))
    (cond (eqb n 11) (knot (take k ns))
    (cond (eqb n 12) (named (get_or ns 0 0))
    (cond (eqb n 13) opened
    (cond (eqb n 14) (opened_by (get_or ns 0 0) (get_or ns 1 0) (get_or ns 2 0))
    (cond (eqb n 15) no_opener
    (cond (eqb n 16) absent
    (cond (eqb n explained_word) (explained (get_or ns 0 0))
    (cond (eqb n 18) (changed (get_or ns 0 0) (get_or ns 1 0))
    (refused (get_or ns 0 0)))))))))))))))))))
