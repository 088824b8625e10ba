use Rattle.std.proofs.Common.{◌≡◌, ℕ, ◌-◌, ◌<◌, ◌≤◌, true, false}
use Rattle.choose.specs.Choice.{Rising}
use Rattle.choose.proofs.split_passing.Given as goal

abbrev pub invariant-loop-low : goal.invariant-loop-low
invariant-loop-low g l =
    (l.low ≤ l.high)
    × (l.high ≤ l.bound)
    × (Rising (g.P.Test.holds l.test) l.bound → (j : ℕ) → j < l.low → g.P.Test.holds l.test j ≡ false)
    × (Rising (g.P.Test.holds l.test) l.bound → (j : ℕ) → l.high ≤ j → j < l.bound → g.P.Test.holds l.test j ≡ true)

abbrev pub decreases-loop-low : goal.decreases-loop-low
decreases-loop-low g l = l.high - l.low
