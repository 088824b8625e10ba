use Rattle.std.proofs.Common.{rules}
use borrow.Author.Tests.{tests}
use Rattle.choose.proofs.Passing.{chosen_fold, matches_so}
use Rattle.choose.proofs.ranges.nth.Goals as goal

pub returns : goal.returns
returns g c =
    let ran = c.try_fold.ensures.ran in
    chosen_fold (record { 0 = c.args.test }) (g.T.Test.holds c.args.test.now) c.args.bound c.args.k _ (λ left x q t. search (rules, tests)) ran.0 ran.1 (ran.2, ran.3) _ c.err.result ran.4 ran.5
    (matches_so ran.1 (λ e. search rules) (λ x e same. search (rules, tests)) ran.6)
