use Rattle.std.proofs.Common.{arith}
use Rattle.table.proofs.Known.{steps_of, spells_of}
use Rattle.table.proofs.Parts.{part_none}
use Rattle.table.proofs.Ordered.{spells_sorted, spells_inside}
use Rattle.table.proofs.table.Table.rows_of.Goals as goal

pub rows_at-requires : goal.rows_at-requires
rows_at-requires c =
    let t = c.args.self.now in
    record { sorted = spells_sorted t.head t.rows.now (steps_of t) (spells_of t); small = omega (arith, (spells_of t).head_fits.few_states) }

pub returns-else-state-self : goal.returns-else-state-self
returns-else-state-self c =
    let t = c.args.self.now in
    part_none t.rows.now c.args.state (λ i l. omega (arith, spells_inside t.head t.rows.now (steps_of t) (spells_of t) i l))
