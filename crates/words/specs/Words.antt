-- A design as a list of 115 u32 words, the design that such a list stands for, and which lists are words of one: its three counts, then each table, constraint and
-- filling. (What is held as words: state's specs/HeldWords.antt.) Assumes nothing.
use Rattle.std.specs.Prelude.{ℕ, ◌+◌, ◌*◌, ◌≤◌, ◌<◌, ◌≡◌, Bool, ◌&&◌, List, [], ◌∷◌, ◌++◌}
use Rattle.finite.specs.Finite.{all}
use Rattle.state.specs.declared.design.Table.{Table}
use Rattle.state.specs.declared.design.Column.{Column}
use Rattle.state.specs.declared.design.Constraint.{Constraint}
use Rattle.state.specs.declared.design.Filling.{Filling}
use Rattle.state.specs.declared.design.Design.{Design}
use Rattle.state.specs.Design.{no_table, no_constraint, no_filling}
use Rattle.state.specs.HeldWords.{places_words, places_from, word_at, byte_of, narrow_two}

-- how many words a design takes
abbrev pub design_length : ℕ
design_length = 115

-- ---- to words

abbrev pub table_words : Table → List ℕ
table_words t = t.columns ∷ t.unique ∷ []

abbrev pub constraint_words : Constraint → List ℕ
constraint_words c = c.source.table ∷ c.source.place ∷ c.target.table ∷ c.target.place ∷ []

abbrev pub filling_words : Filling → List ℕ
filling_words f = f.column.table ∷ f.column.place ∷ f.low ∷ f.high ∷ []

abbrev pub counts_words : Design → List ℕ
counts_words d = d.tables ∷ d.constraints ∷ d.fillings ∷ []

abbrev pub tables_words : List Table → List ℕ
tables_words = places_words 8 no_table table_words

abbrev pub constraints_words : List Constraint → List ℕ
constraints_words = places_words 16 no_constraint constraint_words

abbrev pub fillings_words : List Filling → List ℕ
fillings_words = places_words 8 no_filling filling_words

unfoldable pub design_words : Design → List ℕ
design_words d = counts_words d ++ (tables_words d.table ++ (constraints_words d.constraint ++ fillings_words d.filling))

-- ---- from words

abbrev pub table_from : List ℕ → ℕ → Table
table_from ws i = record { columns = byte_of ws i; unique = byte_of ws (i + 1) }

abbrev pub column_from : List ℕ → ℕ → Column
column_from ws i = record { table = byte_of ws i; place = byte_of ws (i + 1) }

abbrev pub constraint_from : List ℕ → ℕ → Constraint
constraint_from ws i = record { source = column_from ws i; target = column_from ws (i + 2) }

abbrev pub filling_from : List ℕ → ℕ → Filling
filling_from ws i = record { column = column_from ws i; low = word_at ws (i + 2); high = word_at ws (i + 3) }

-- of n places of w words each, from word a on, those from place m on are empty
abbrev pub EmptyFrom : {A : Type 0} → ℕ → ℕ → ℕ → A → (List ℕ → ℕ → A) → List ℕ → ℕ → Type 0
EmptyFrom n a w none from ws m = (i : ℕ) → i < n → m ≤ i → from ws (a + w * i) ≡ none

abbrev pub tables_from : List ℕ → List Table
tables_from = places_from 8 3 2 table_from

abbrev pub constraints_from : List ℕ → List Constraint
constraints_from = places_from 16 19 4 constraint_from

abbrev pub fillings_from : List ℕ → List Filling
fillings_from = places_from 8 83 4 filling_from

unfoldable pub words_design : List ℕ → Design
words_design ws =
    record {
      tables = word_at ws 0;
      table = tables_from ws;
      constraints = word_at ws 1;
      constraint = constraints_from ws;
      fillings = word_at ws 2;
      filling = fillings_from ws;
    }

-- ---- which words are words of a design: one that stands for a u8 is below 256

unfoldable pub narrow_constraint : List ℕ → ℕ → Bool
narrow_constraint ws i = narrow_two ws i && narrow_two ws (i + 2)

-- a table, and a column, with which a filling begins, are two such words
unfoldable pub narrow_design : List ℕ → Bool
narrow_design ws =
    all 8 (λ i. narrow_two ws (3 + 2 * i)) && (all 16 (λ i. narrow_constraint ws (19 + 4 * i)) && all 8 (λ i. narrow_two ws (83 + 4 * i)))
