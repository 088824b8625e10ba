-- The steps of a state begin among its rows, and at most 64 leave it.
use Rattle.std.proofs.Common.{◌≡◌, ◌∙◌, arith}
use Rattle.table.specs.Views.{degree_of}
use Rattle.table.proofs.Known.{steps_of, spells_of}
use Rattle.table.proofs.Parts.{part_degree}
use Rattle.table.proofs.Shown.{spells_shows}
use Rattle.table.proofs.table.Table.step_count.Goals as goal

pub returns : goal.returns
returns c =
    let t = c.args.self.now in
    let s = c.args.state in
    let counted : c.count_passing.result ≡ degree_of t.rows.now s =
    c.count_passing.ensures.value
    ∙ part_degree t.rows.now s c.rows_of.result.before c.rows_of.result.rows.now c.rows_of.ensures
    in
    record { value = counted; few = omega (arith, counted, (spells_shows t.head t.rows.now (steps_of t) (spells_of t)).degree s, (spells_of t).steps_fit.few s) }
