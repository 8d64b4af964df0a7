-- What the exported functions give and leave, for whatever is lent: the causes of the lent memory, and each word of it afterwards. Assumes nothing.
use Rattle.std.specs.Prelude.{ℕ, ◌≡◌, Bool, true, false, not, cond, ◌&&◌, List, [], ◌∷◌, eqb, leb, length}
use Rattle.std.proofs.lemmas.List.Edits.{sets}
use Rattle.model.specs.Answers.{is_refusal}
use Rattle.state.specs.Cells.{Cells}
use Rattle.state.specs.Held.{none_held}
use Rattle.state.specs.Lent.{State, lent, long_enough, lawful}
use Rattle.state.specs.declared.design.Design.{Design}
use Rattle.catalog.specs.Catalog.{Catalogued}
use Rattle.format.specs.declared.verdict.DesignReading.{DesignReading}
use Rattle.format.specs.Reading.{DesignRead, read_into, verdict_of, design_of, rows_read, cells_after, tables_after, marks_after}
use Rattle.format.specs.Reading.DesignRead.{accepted, refused_at}
use Rattle.script.specs.Step.{Outputs, Stepped, refusing, step_at}
use Rattle.run.specs.Runs.{Left}
use Rattle.sizes.specs.StepSizes.{words_taken_at, text_taken_at}
use Rattle.writing.specs.Writing.{bytes_of}
use Rattle.state.specs.HeldWords.{held_length, long_held, held_words, words_held, narrow_held}
use Rattle.state.specs.Meaning.{scheme_of, database_of}
use Rattle.words.specs.Words.{design_length, design_words, words_design, narrow_design}
use Rattle.wurzsige.specs.Told.{StepTold, OpenTold}

-- ---- what is lent

-- the words of a design and of what is held, the rows and the marks
pub record Memory : Type 0 where
  pub design : List ℕ
  pub held : List ℕ
  pub cells : Cells
  pub tables : List ℕ
  pub marks : List ℕ

abbrev pub memory : List ℕ → List ℕ → Cells → List ℕ → List ℕ → Memory
memory design held cells tables marks = record { design = design; held = held; cells = cells; tables = tables; marks = marks }

-- the state that it stands for
abbrev pub state_in : Memory → State
state_in m = lent (words_design m.design) m.cells m.tables m.marks (words_held m.held)

-- cause 7 does not apply: "Lent buffer too short", for the words as for the rows
abbrev pub long_words : Memory → Bool
long_words m = leb design_length (length m.design) && long_held m.held

unfoldable pub long_memory : Memory → Bool
long_memory m = long_words m && long_enough (state_in m)

-- cause 12 does not apply: the words are words of a design and of what is held, and the state that they stand for is lawful
unfoldable pub lawful_memory : Memory → Bool
lawful_memory m = (narrow_design m.design && narrow_held m.held) && lawful (state_in m)

abbrev pub sound_memory : Memory → Bool
sound_memory m = long_memory m && lawful_memory m

-- cause 7 or 12; 0 if neither applies
unfoldable pub memory_cause : Memory → ℕ
memory_cause m = cond (not (long_memory m)) 7 (cond (not (lawful_memory m)) 12 0)

-- the two arrays of a catalog
pub record Arrays : Type 0 where
  pub catalog : List ℕ
  pub keys : List ℕ

abbrev pub arrays : List ℕ → List ℕ → Arrays
arrays catalog keys = record { catalog = catalog; keys = keys }

-- they have the catalog of a design with lent rows
abbrev pub CatalogIn : Arrays → Design → Cells → List ℕ → Type 0
CatalogIn k d cells tables = Catalogued (scheme_of d) (database_of cells tables) k.catalog k.keys

-- what the trusted functions ask for: neither 7 nor 12, and the catalog of the rows. Opening a design leaves such memory, and so does every step (`OpenTaken`,
-- `StepTaken`, `RunMade`), so it holds from call to call of whoever keeps to memory that only these functions write
pub record Ready (m : Memory) (k : Arrays) : Type 0 where
  pub sound : sound_memory m ≡ true
  pub catalog : CatalogIn k (words_design m.design) m.cells m.tables

-- the arrays afterwards, k': as they were with a refusal, else such that m' is ready
pub record Catalogs (refused : Bool) (m' : Memory) (k k' : Arrays) : Type 0 where
  pub made : refused ≡ false → Ready m' k'
  pub kept : refused ≡ true → k' ≡ k

-- the memory with another state in it: its rows and marks, and the words of what it holds
abbrev pub keeping : Memory → State → Memory
keeping m s = memory m.design (sets m.held 0 (held_words s.held)) s.cells s.tables s.marks

-- ---- opening a design

-- the reading: cause 7 for the words before anything else; 12 is not looked at
unfoldable pub opening : List ℕ → Memory → DesignRead
opening script m = cond (long_words m) (read_into script m.cells m.tables m.marks) (refused_at 7 0)

abbrev pub is_refused : DesignRead → Bool
is_refused (accepted p i) = false
is_refused (refused_at c i) = true

-- the memory afterwards: with an accepted design it, its rows, and nothing held; else as it was
abbrev pub memory_opened : DesignRead → Memory → Memory
memory_opened (accepted p i) m =
    memory (sets m.design 0 (design_words p.design)) (sets m.held 0 (held_words none_held)) (cells_after (accepted p i) m.cells)
    (tables_after (accepted p i) m.tables) (marks_after (accepted p i) m.marks)
memory_opened (refused_at c i) m = m

-- the reading w gives r, and the memory m and the arrays k become m' and k'
pub record Opened (w : DesignRead) (r : DesignReading) (m m' : Memory) (k k' : Arrays) : Type 0 where
  pub verdict : r.verdict ≡ verdict_of w
  pub design : r.design ≡ design_of w
  pub count : r.rows ≡ rows_read w
  pub memory : m' ≡ memory_opened w m
  pub catalogs : Catalogs (is_refused w) m' k k'

-- it is told
pub record OpenTaken (w : DesignRead) (n : ℕ) (ns : List ℕ) (c p q g : ℕ) (m m' : Memory) (k k' : Arrays) : Type 0 where
  pub told : OpenTold w n ns c p q g
  pub memory : m' ≡ memory_opened w m
  pub catalogs : Catalogs (is_refused w) m' k k'

-- ---- a step

-- the step at place i: causes 7 and 12 of the memory first
unfoldable pub step_in : Memory → Outputs → List ℕ → ℕ → Stepped
step_in m out script i =
    cond (not (long_memory m)) (refusing (state_in m) out 7 0 i false)
    (cond (not (lawful_memory m)) (refusing (state_in m) out 12 0 i false)
    (step_at (state_in m) out script i))

-- the memory afterwards: as it was with a refusal
abbrev pub memory_after : Memory → Stepped → Memory
memory_after m R = cond (is_refusal R.answer) m (keeping m R.state)

-- the step R is told, and the memory m and what is lent for answers become m' and out'
pub record StepTaken (R : Stepped) (n : ℕ) (ns : List ℕ) (c p q g : ℕ) (m m' : Memory) (out' : Outputs) : Type 0 where
  pub told : StepTold R n ns c p q g
  pub memory : m' ≡ memory_after m R
  pub outputs : out' ≡ R.outputs

-- what the trusted functions ask for: memory that is ready, with the words of what is held and no others
pub record Trusts (m : Memory) (k : Arrays) : Type 0 where
  pub ready : Ready m k
  pub held : length m.held ≡ held_length

-- a step at place i by the plain name, on whatever is lent
pub record PlainStep (m : Memory) (k : Arrays) (out : Outputs) (script : List ℕ) (i n : ℕ) (ns : List ℕ) (c p q g : ℕ) (m' : Memory) (k' : Arrays) (out' : Outputs) : Type 0 where
  pub taken : StepTaken (step_in m out script i) n ns c p q g m m' out'
  pub catalogs : Catalogs (is_refusal (step_in m out script i).answer) m' k k'

-- one by the trusted name
pub record TrustedStep (m : Memory) (out : Outputs) (script : List ℕ) (i n : ℕ) (ns : List ℕ) (c p q g : ℕ) (m' : Memory) (k' : Arrays) (out' : Outputs) : Type 0 where
  pub taken : StepTaken (step_in m out script i) n ns c p q g m m' out'
  pub ready : Ready m' k'

-- ---- all steps from a place on

pub record RunMade (l : Left) (m m' : Memory) (k' : Arrays) (out' : Outputs) : Type 0 where
  pub memory : m' ≡ keeping m l.state
  pub outputs : out' ≡ l.outputs
  pub ready : Ready m' k'

-- ---- writing a design out

-- the cause, or 0: 7 and 12 of the memory, then 7 where `room` bytes are too few
unfoldable pub write_cause : Memory → ℕ → ℕ
write_cause m room =
    cond (not (long_memory m)) 7
    (cond (not (lawful_memory m)) 12
    (cond (leb (length (bytes_of (state_in m))) room) 0 7))

-- the cause n; the buffer and the number of bytes, which become out' and z', are written only where there is none
pub record DesignWritten (m : Memory) (n : ℕ) (out out' : List ℕ) (z z' : ℕ) : Type 0 where
  pub cause : n ≡ write_cause m (length out)
  pub bytes : out' ≡ cond (eqb (write_cause m (length out)) 0) (sets out 0 (bytes_of (state_in m))) out
  pub written : z' ≡ cond (eqb (write_cause m (length out)) 0) (length (bytes_of (state_in m))) z

-- ---- how much is to be lent

abbrev pub sizes_in : Memory → List ℕ → ℕ → List ℕ
sizes_in m script i = length (bytes_of (state_in m)) ∷ words_taken_at (state_in m) script i ∷ text_taken_at (state_in m) script i ∷ []

-- the cause n; the three numbers, which become z', are told only where there is none: the bytes that the written design has, and the words and the bytes of text
-- that the step at place i takes
pub record SizesTold (m : Memory) (script : List ℕ) (i n : ℕ) (z z' : List ℕ) : Type 0 where
  pub cause : n ≡ memory_cause m
  pub sizes : z' ≡ cond (eqb (memory_cause m) 0) (sizes_in m script i) z
