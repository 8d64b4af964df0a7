-- The verdicts on a design's columns as 64 numbers, column c of table t at place 8 * t + c (the model's `Verdict.antt` says what each part means). Assumes nothing.
use Rattle.std.specs.Prelude.{ℕ, ◌+◌, ◌*◌, ◌/◌, ◌%◌, Bool, cond, List}
use Rattle.finite.specs.Finite.{tab}
use Rattle.model.specs.Scheme.{Column, Scheme, is_column}
use Rattle.model.specs.Verdict.{fetches, once_linked, lowest_link, once_unique, never, is_one_column}
use Rattle.state.specs.declared.design.Design.{Design}
use Rattle.state.specs.Lawful.{lawful_design}
use Rattle.state.specs.Meaning.{scheme_of}

abbrev pub flag : Bool → ℕ → ℕ
flag b n = cond b n 0

-- 0 where there is no such column. Else the sum of 1 if a load can be asked for its values, 2 once linked, 4 once unique, 8 never, 16 where seeing is enough (02, Req 13),
-- and 256 times the lowest constraint by which it is once linked, if one does. A column has at least one of 1, 2, 4 and 8
unfoldable pub verdict_of : Scheme → Column → ℕ
verdict_of S k =
    cond (is_column S k)
    (flag (fetches S k) 1 + flag (once_linked S k) 2 + flag (once_unique S k) 4 + flag (never S k) 8 + flag (is_one_column S k) 16 +
    256 * flag (once_linked S k) (lowest_link S k))
    0

abbrev pub column_at : ℕ → Column
column_at i = record { table = i / 8; place = i % 8 }

unfoldable pub verdict_words : Scheme → List ℕ
verdict_words S = tab 64 (λ i. verdict_of S (column_at i))

-- cause 12 for a design that no script gives; 0 for any other
unfoldable pub design_cause : Design → ℕ
design_cause d = cond (lawful_design d) 0 12

-- the lent words afterwards: the verdicts, or what stood there where the design is refused
unfoldable pub words_after : Design → List ℕ → List ℕ
words_after d out = cond (lawful_design d) (verdict_words (scheme_of d)) out
