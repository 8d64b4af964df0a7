-- The four kinds of commands before a design's END, each by its byte: 0x01 TABLE, 0x02 CONSTRAINT, 0x03 FILLING, 0x04 ROW (0x07 too: it is "used among
-- the ROWs"). Assumes nothing.
use Rattle.std.specs.Prelude.{ℕ, Bool, false, cond, eqb, leb}
use Rattle.state.specs.declared.design.Design.{Design}
use Rattle.format.specs.Reading.{after_tables, after_constraints, after_fillings}

-- how many of a kind a design with n rows has, and how many it can have
unfoldable pub count_of : Design → ℕ → ℕ → ℕ
count_of d n b =
    cond (eqb b 0x01) d.tables
    (cond (eqb b 0x02) d.constraints
    (cond (eqb b 0x03) d.fillings
    n))

unfoldable pub most_of : ℕ → ℕ
most_of b =
    cond (eqb b 0x01) 8
    (cond (eqb b 0x02) 16
    (cond (eqb b 0x03) 8
    512))

-- something of a later kind has been read
unfoldable pub is_late : Design → ℕ → ℕ → Bool
is_late d n b =
    cond (eqb b 0x01) (after_tables d n)
    (cond (eqb b 0x02) (after_constraints d n)
    (cond (eqb b 0x03) (after_fillings n)
    false))

-- cause 3 or 4 of one more command of a kind, 0 if neither applies
unfoldable pub order_cause : Design → ℕ → ℕ → ℕ
order_cause d n b = cond (is_late d n b) 3 (cond (leb (most_of b) (count_of d n b)) 4 0)
