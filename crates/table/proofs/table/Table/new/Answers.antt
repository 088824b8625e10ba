use Rattle.std.proofs.Common.{sym, subst}
use Rattle.table.specs.Steps.{WellFormed}
use Rattle.table.specs.Views.{Shows}
use Rattle.table.proofs.Making.{refused_unformed}
use Rattle.table.proofs.Shown.{spells_shows}
use Rattle.table.proofs.table.Table.new.Goals as goal

pub returns-in-Ok : goal.returns-in-Ok
returns-in-Ok c = record {
  accepted = λ well. c.accepted.ensures;
  refused = λ not. absurd (not c.in-Ok.ensures.checked);
  shows = λ steps known. subst (λ m. Shows c.args.head steps m) (sym c.accepted.ensures) (spells_shows c.args.head c.args.rows.now steps known);
}

pub returns-in-Err : goal.returns-in-Err
returns-in-Err c =
    let unformed : WellFormed c.args.head c.args.rows.now → ⊥ = refused_unformed c.args.head c.args.rows.now _ c.in-Err.ensures.checked in
    record {
      accepted = λ well. absurd (unformed well);
      refused = λ not. c.refused.ensures;
      shows = λ steps known. absurd (unformed (steps, known));
    }
