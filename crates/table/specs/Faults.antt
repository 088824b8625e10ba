-- The number by which a table's refusal goes, and what it tells.
use Rattle.std.specs.Prelude.{ℕ}
use Rattle.table.specs.declared.fault.Fault.{Fault}
use Rattle.table.specs.declared.fault.Fault.TheVariants.{Head, Row}

-- 9: a table breaks a rule
abbrev pub refusal_number : Fault → ℕ
refusal_number Head = 9
refusal_number (Row n) = 9

-- the row that is told, counted from 1; 0 for a bad number of states, range or root
abbrev pub told : Fault → ℕ
told Head = 0
told (Row n) = n
