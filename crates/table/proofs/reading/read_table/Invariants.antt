use Rattle.std.proofs.Common.{◌≡◌, drop}
use Rattle.table.specs.Reads.{read_on, read_table}
use Rattle.table.proofs.reading.read_table.Given as goal

-- what is left is read as the whole
abbrev pub invariant-loop-i : goal.invariant-loop-i
invariant-loop-i l = read_on l.head l.reading l.i (drop l.i l.rows) ≡ read_table l.head l.rows
