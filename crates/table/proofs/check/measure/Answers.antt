-- The reading's answer is the only one that the check may give, and its number is the width.
use Rattle.std.proofs.Common.{sym, subst}
use Rattle.table.specs.Steps.{verdict}
use Rattle.table.proofs.Making.{Measured, read_measured}
use Rattle.table.proofs.Verdicts.{checked_same}
use Rattle.table.proofs.check.measure.Goals as goal

pub returns-then-fits : goal.returns-then-fits
returns-then-fits c =
    let h = c.args.head in
    let rows = c.args.rows.now in
    let known : Measured h rows c.read_table.result =
    subst (λ r. Measured h rows r) (sym c.read_table.ensures) (read_measured h rows (sym c.if-fits.ensures))
    in
    record { checked = known.0; only = λ other. checked_same h rows (verdict c.read_table.result) other known.0; width = known.1 }
