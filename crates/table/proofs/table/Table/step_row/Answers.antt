-- What is chosen among the rows of the state is the step's row, counted from the table's first.
use Rattle.std.proofs.Common.{◌+◌, ◌<◌, length, sym, ap, ◌∙◌, arith, rules}
use Rattle.choose.proofs.Laws.{from_on, chosen_passes}
use Rattle.table.specs.Parts.{begins_in}
use Rattle.table.proofs.Parts.{part_chosen, part_within}
use Rattle.table.proofs.table.Table.step_row.Goals as goal

pub overflow_add-result : goal.overflow_add-result
overflow_add-result c =
    let part = c.rows_of-before.result in
    let chosen = c.choose_passing.ensures.value in
    let here = chosen_passes (begins_in part.rows.now) (length part.rows.now) c.args.step c.in_ok-i.i (sym chosen ∙ c.in_ok-i.was) in
    let inside : part.before + c.in_ok-i.i < length c.args.self.now.rows.now = omega (arith, part_within c.args.self.now.rows.now c.args.state part.before part.rows.now c.rows_of-before.ensures, here.below) in
    search rules

pub returns-in_err-i : goal.returns-in_err-i
returns-in_err-i c =
    let part = c.rows_of-before.result in
    let chosen = c.choose_passing.ensures.value in
    let none = sym (ap (from_on part.before) c.in_err-i.was) ∙ part_chosen c.args.self.now.rows.now c.args.state part.before part.rows.now c.rows_of-before.ensures c.args.step c.choose_passing.result chosen in
    search rules

pub returns : goal.returns
returns c =
    let part = c.rows_of-before.result in
    let chosen = c.choose_passing.ensures.value in
    sym (ap (from_on part.before) c.in_ok-i.was) ∙ part_chosen c.args.self.now.rows.now c.args.state part.before part.rows.now c.rows_of-before.ensures c.args.step c.choose_passing.result chosen
