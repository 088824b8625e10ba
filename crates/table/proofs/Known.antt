-- What is known of a table that was accepted: the steps that it spells, and that what it is asked for are rows of it.
use Rattle.std.proofs.Common.{◌≡◌, ℕ, ◌+◌, ◌<◌, cond, eqb, List, length, get_or, Some, sym, subst}
use Rattle.table.specs.declared.table.Table.{Table}
use Rattle.table.specs.Steps.{Step, Spells}
use Rattle.table.specs.Views.{no_row, step_row}
use Rattle.table.proofs.Readings.{well_formed_again}
use Rattle.table.proofs.Shown.{begin_within, landing_within}

pub steps_of : Table → List Step
steps_of t = (well_formed_again t.head t.rows.now t.accepted).0

pub spells_of : (t : Table) → Spells t.head t.rows.now (steps_of t)
unfolding steps_of
spells_of t = (well_formed_again t.head t.rows.now t.accepted).1

-- the row where a step begins
pub begins_inside : (t : Table) (s k i : ℕ) → Some i ≡ step_row t.rows.now s k → i < length t.rows.now
begins_inside t s k i found = begin_within t.rows.now s k i (sym found)

-- the row, n behind it, of its landing at a value
pub lands_inside : (t : Table) (s k i v n : ℕ) → Some i ≡ step_row t.rows.now s k → v < t.head.range → n ≡ cond (eqb (get_or t.rows.now i no_row).kind 2) v 0 → i + n < length t.rows.now
lands_inside t s k i v n found less far =
    let within = landing_within t.head t.rows.now (steps_of t) (spells_of t) s k i v (sym found) less in
    subst (λ m. i + m < length t.rows.now) (sym far) within
