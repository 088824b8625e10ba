use Rattle.std.proofs.Common.{refl}
use Rattle.table.proofs.Known.{steps_of, spells_of}
use Rattle.table.proofs.Shown.{spells_lawful}
use Rattle.table.proofs.table.Table.lawful_range.Goals as goal

pub returns : goal.returns
returns c =
    let t = c.args.self.now in
    record { value = refl; lawful = spells_lawful t.head t.rows.now (steps_of t) (spells_of t) }
