use Rattle.std.proofs.Common.{rules}
use Rattle.table.proofs.Known.{begins_inside}
use Rattle.table.proofs.view.TableSource.label.Goals as goal

pub offset_bounds-self-i : goal.offset_bounds-self-i
offset_bounds-self-i c = let within = begins_inside c.args.self.now c.args.state c.args.step c.in-Some.i c.in-Some.ensures in search rules

pub bounds-self-i : goal.bounds-self-i
bounds-self-i c = begins_inside c.args.self.now c.args.state c.args.step c.in-Some.i c.in-Some.ensures
