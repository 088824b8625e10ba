use Rattle.table.proofs.Parts.{reached_rising, split_splits}
use Rattle.table.proofs.part.rows_below.Goals as goal

pub returns : goal.returns
returns c = split_splits c.args.rows.now c.args.from c.split_passing.result (c.split_passing.ensures.split (reached_rising c.args.rows.now c.args.from c.requires))
