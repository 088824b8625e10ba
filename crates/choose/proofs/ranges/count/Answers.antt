use Rattle.std.proofs.Common.{rules}
use Rattle.choose.proofs.Passing.{callable_filter, counted_filter}
use Rattle.choose.proofs.ranges.count.Goals as goal

pub count-requires-clause-can : goal.count-requires-clause-can
count-requires-clause-can g c =
    (tt, tt, callable_filter g.P.Fn _ g.met.P.Fn.1.step_stays c.args.test c.args.bound _ _ (λ f a p. p) c.filter.ensures.closure c.filter.ensures.source c.requires)

pub returns-clause-value : goal.returns-clause-value
returns-clause-value g c = λ holds d.
    let counted = counted_filter g.P.Fn _ g.met.P.Fn.1.step_stays g.met.P.FnMut.1.post_iff c.args.test holds c.args.bound d c.filter.result c.filter.ensures.closure c.filter.ensures.source c.count.ensures.ran.0 c.count.ensures.ran.1 in
    search rules
