use Rattle.std.proofs.Common.{rules}
use Rattle.table.proofs.Known.{begins_inside, lands_inside}
use Rattle.table.proofs.view.TableSource.landing.Goals as goal

pub offset_bounds-self-i : goal.offset_bounds-self-i
offset_bounds-self-i c = let within = begins_inside c.args.self.now c.args.state c.args.step c.in-Some.i c.in-Some.ensures in search rules

pub bounds-self-i : goal.bounds-self-i
bounds-self-i c = begins_inside c.args.self.now c.args.state c.args.step c.in-Some.i c.in-Some.ensures

pub offset_bounds-self-i-in-Some : goal.offset_bounds-self-i-in-Some
offset_bounds-self-i-in-Some c =
    let within = lands_inside c.args.self.now c.args.state c.args.step c.in-Some.i c.args.value c.rows_on.result c.in-Some.ensures c.if-value-self.false c.rows_on.ensures in
    search rules

pub bounds-self-i-in-Some : goal.bounds-self-i-in-Some
bounds-self-i-in-Some c = lands_inside c.args.self.now c.args.state c.args.step c.in-Some.i c.args.value c.rows_on.result c.in-Some.ensures c.if-value-self.false c.rows_on.ensures
