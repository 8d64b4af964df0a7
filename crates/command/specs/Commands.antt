-- The commands of a script: byte, operands, widths (01, "The script"; 02). Bytes below 0x10 are the design's, 0x1D and 0x1E change the rows, and the others are
-- the operations'; only this file maps bytes to operations. Assumes nothing.
use Rattle.std.specs.Prelude.{ℕ, ◌+◌, ◌-◌, ◌*◌, cond, List, eqb, leb, ltb, length}
use Rattle.finite.specs.Finite.{tab}
use Rattle.state.specs.declared.cell.Cell.{Cell}
use Rattle.state.specs.declared.design.Column.{Column}
use Rattle.state.specs.declared.held.HeldValue.{HeldValue}
use Rattle.state.specs.declared.held.Range.{Range}
use Rattle.state.specs.declared.rows.Row as State-row
use Rattle.state.specs.declared.operation.Join.{Join}
use Rattle.state.specs.declared.operation.Query.{Query}
use Rattle.state.specs.declared.operation.Total.{Total}
use Rattle.state.specs.declared.operation.Operation.{Operation}
use Rattle.state.specs.declared.operation.Operation.TheVariants as O
use Rattle.command.specs.declared.command.Command.{Command}
use Rattle.command.specs.declared.command.Command.TheVariants.{Table, Constraint, Filling, Row, End, Operate, Put, Remove, Unknown, Short}
use Rattle.command.specs.Bytes.{byte_at, u16_at, u32_at}

-- ---- widths: how many bytes the command with this byte takes, 0 if there is none

unfoldable pub design_width : ℕ → ℕ
design_width b =
    cond (eqb b 0x01) 3
    (cond (eqb b 0x02) 5
    (cond (eqb b 0x03) 11
    (cond (eqb b 0x04) 34
    (cond (eqb b 0x05) 1
    (cond (eqb b 0x07) 42 0)))))

unfoldable pub operation_width : ℕ → ℕ
operation_width b =
    cond (eqb b 0x10) 6
    (cond (eqb b 0x11) 6
    (cond (eqb b 0x12) 7
    (cond (eqb b 0x13) 16
    (cond (eqb b 0x14) 1
    (cond (eqb b 0x15) 18
    (cond (eqb b 0x17) 2
    (cond (eqb b 0x18) 3
    (cond (eqb b 0x19) 8
    (cond (eqb b 0x1A) 10
    (cond (eqb b 0x1B) 10
    (cond (eqb b 0x1C) 1
    (cond (eqb b 0x20) 7
    (cond (eqb b 0x21) 7
    (cond (eqb b 0x22) 8
    (cond (eqb b 0x23) 17
    (cond (eqb b 0x25) 19 0))))))))))))))))

-- 0x1D "takes a row number u16, table u8, eight cells and eight issues", 0x1E "takes a row number" (02, Req 12)
unfoldable pub width_of : ℕ → ℕ
width_of b = cond (ltb b 0x10) (design_width b) (cond (eqb b 0x1D) 44 (cond (eqb b 0x1E) 3 (operation_width b)))

-- ---- operands

abbrev pub column_at : List ℕ → ℕ → Column
column_at s i = record { table = byte_at s i; place = byte_at s (i + 1) }

-- the value whose number stands at place i, with the issue v
abbrev pub value_at : List ℕ → ℕ → ℕ → Cell
value_at s v i = record { number = u32_at s i; issue = v }

abbrev pub join_at : List ℕ → ℕ → Join
join_at s i = record { position = byte_at s i; constraint = byte_at s (i + 1) }

-- the filling and the value of the REFER or DROP at place i, whose issue is v
abbrev pub held_value_at : List ℕ → ℕ → ℕ → HeldValue
held_value_at s v i = record { filling = byte_at s (i + 1); value = value_at s v (i + 2) }

-- the operands of the range at place i: "filling u8, low u32, high u32" (02, Req 10)
abbrev pub range_at : List ℕ → ℕ → Range
range_at s i = record { filling = byte_at s (i + 1); low = u32_at s (i + 2); high = u32_at s (i + 6) }

-- the operands of the QUERY at place i, whose issue is v
abbrev pub query_at : List ℕ → ℕ → ℕ → Query
query_at s v i =
    record {
      column = column_at s (i + 1);
      value = value_at s v (i + 3);
      joins = byte_at s (i + 7);
      first = join_at s (i + 8);
      second = join_at s (i + 10);
      third = join_at s (i + 12);
      fourth = join_at s (i + 14);
    }

-- the operands of the total at place i: "QUERY's operands, then a position u8 and a column u8" (02, Req 03)
abbrev pub total_at : List ℕ → ℕ → ℕ → Total
total_at s v i = record { query = query_at s v i; position = byte_at s (i + 16); column = byte_at s (i + 17) }

-- the number of cell c of the ROW at place i, and its issue: "0x07 is ROW with eight issue bytes after the cells" (02, Req 06)
unfoldable pub row_cell_at : List ℕ → ℕ → ℕ → ℕ
row_cell_at s i c = u32_at s (i + 2 + 4 * c)

unfoldable pub row_issue_at : List ℕ → ℕ → ℕ → ℕ
row_issue_at s i c = cond (eqb (byte_at s i) 0x07) (byte_at s (i + 34 + c)) 0

-- the row of the 0x1D at place i, behind its number
unfoldable pub put_row_at : List ℕ → ℕ → State-row.Row
put_row_at s i =
    record {
      table = byte_at s (i + 3);
      numbers = tab 8 (λ c. u32_at s (i + 4 + 4 * c));
      issues = tab 8 (λ c. byte_at s (i + 36 + c));
    }

-- ---- the command whose byte is b, with its operands behind place i

unfoldable pub design_command_at : ℕ → List ℕ → ℕ → Command
design_command_at b s i =
    cond (eqb b 0x01) (Table (record { columns = byte_at s (i + 1); unique = byte_at s (i + 2) }))
    (cond (eqb b 0x02) (Constraint (record { source = column_at s (i + 1); target = column_at s (i + 3) }))
    (cond (eqb b 0x03) (Filling (record { column = column_at s (i + 1); low = u32_at s (i + 3); high = u32_at s (i + 7) }))
    (cond (eqb b 0x05) End
    (Row (byte_at s (i + 1))))))

-- the operation of the byte b, whose value has the issue v; 0x19 "takes PROBE's operands with an issue byte at the end" always (02, Req 09)
unfoldable pub issued_at : ℕ → List ℕ → ℕ → ℕ → Operation
issued_at b s v i =
    cond (eqb b 0x10) (O.Refer (held_value_at s v i))
    (cond (eqb b 0x11) (O.Drop (held_value_at s v i))
    (cond (eqb b 0x12) (O.Probe (column_at s (i + 1)) (value_at s v (i + 3)))
    (cond (eqb b 0x14) O.Evenness
    (cond (eqb b 0x15) (O.Total (total_at s v i))
    (cond (eqb b 0x17) (O.Name (byte_at s (i + 1)))
    (cond (eqb b 0x18) (O.Reason (u16_at s (i + 1)))
    (cond (eqb b 0x19) (O.Opener (column_at s (i + 1)) (value_at s (byte_at s (i + 7)) (i + 3)))
    (cond (eqb b 0x1A) (O.ReferRange (range_at s i))
    (cond (eqb b 0x1B) (O.DropRange (range_at s i))
    (cond (eqb b 0x1C) O.SmallestKnot
    (O.Query (query_at s v i))))))))))))

-- "Operations 0x20 to 0x23 are REFER, DROP, PROBE and QUERY with an issue byte at the end, 0x25 likewise for totals; the old bytes mean issue 0" (02, Req 06)
unfoldable pub operation_at : ℕ → List ℕ → ℕ → Operation
operation_at b s i = cond (ltb b 0x20) (issued_at b s 0 i) (issued_at (b - 0x10) s (byte_at s (i + operation_width b - 1)) i)

unfoldable pub operands_at : ℕ → List ℕ → ℕ → Command
operands_at b s i =
    cond (ltb b 0x10) (design_command_at b s i)
    (cond (eqb b 0x1D) (Put (u16_at s (i + 1)) (byte_at s (i + 3)))
    (cond (eqb b 0x1E) (Remove (u16_at s (i + 1)))
    (Operate (operation_at b s i))))

-- the command at place i: "command by command 2, 1 .." the byte is looked at first, then the length
unfoldable pub command_at : List ℕ → ℕ → Command
command_at s i =
    cond (leb (length s) i) Short
    (cond (eqb (width_of (byte_at s i)) 0) Unknown
    (cond (ltb (length s - i) (width_of (byte_at s i))) Short
    (operands_at (byte_at s i) s i)))
