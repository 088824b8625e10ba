use Rattle.table.proofs.Parts.{part_between}
use Rattle.table.proofs.part.rows_at.Goals as goal

pub returns : goal.returns
returns c = part_between c.args.rows.now c.args.state c.rows_below-before.result c.rows_below-end.result c.rows_below-before.ensures c.rows_below-end.ensures
