-- A fault that tells the line that was read tells a line of the text.
use Rattle.std.proofs.Common.{ℕ, ◌+◌, ◌≤◌, arith}
use Rattle.table_text.specs.declared.expected.TextFault.{TextFault}
use Rattle.table_text.specs.declared.expected.TextFault.TheVariants.{Line, Memory}
use Rattle.table_text.specs.LineNumbers.{Tells, TellsALine}

pub told_line : (most line : ℕ) (fault : TextFault) → 1 ≤ line → line ≤ most + 1 → Tells line fault → TellsALine most fault
told_line most line (Line other expected) some few same = (omega arith, omega arith)
told_line most line Memory some few same = tt
