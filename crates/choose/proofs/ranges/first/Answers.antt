use Rattle.std.proofs.Common.{arith, rules}
use Rattle.std.proofs.lemmas.Iterator.{serves_from_Range}
use Rattle.choose.proofs.Passing.{chosen_find}
use Rattle.choose.proofs.ranges.first.Goals as goal

pub find-requires-clause-callable : goal.find-requires-clause-callable
find-requires-clause-callable g c =
    serves_from_Range (λ x q k. g.met.P.Fn.1.step_stays _ _ _ _ k.called) (λ x a b y e. c.requires y (omega (arith, e)))

pub returns : goal.returns
returns g c = λ holds d.
    chosen_find g.P.Fn _ g.met.P.Fn.1.step_stays g.met.P.FnMut.1.post_iff c.args.test holds c.args.bound d _ _ c.find.result (omega arith) (search rules) c.find.ensures.ran
