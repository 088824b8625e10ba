-- What is known of the answer that the check gives: its number is the width, and what it refuses is no table.
use Rattle.std.proofs.Common.{◌≡◌, ℕ, true, List, length, IfOk, Ok, Err, Result, sym, refl, ◌∙◌, arith}
use Rattle.table.specs.declared.fault.Fault.{Fault}
use Rattle.table.specs.declared.row.Head.{Head}
use Rattle.table.specs.declared.row.Row.{Row}
use Rattle.table.specs.Reads.{head_fits, read_table}
use Rattle.table.specs.Steps.{HeadFits, WellFormed, Checked, verdict, steps_at}
use Rattle.table.specs.Views.{degree_of, largest}
use Rattle.table.proofs.Largest.{largest_same}
use Rattle.table.proofs.Readings.{read_width, head_from_test}
use Rattle.table.proofs.Shown.{spells_shows}
use Rattle.table.proofs.Verdicts.{checked_ok, checked_err, checked_same}

-- what is known of an answer that has the width: the check may give it, and the width is the largest degree
abbrev pub Measured : Head → List Row → Result ℕ Fault → Type 0
Measured h rows r = Checked h rows (verdict r) × IfOk r (λ w. w ≡ largest (degree_of rows) h.states)

-- the width that was read is the largest degree
read_widest : (h : Head) (rows : List Row) (w : ℕ) → HeadFits h → read_table h rows ≡ Ok w → w ≡ largest (degree_of rows) h.states
read_widest h rows w fits read =
    let known = read_width h rows w fits read in
    known.2 ∙ largest_same (λ s. length (steps_at s known.0)) (degree_of rows) h.states (λ s. sym ((spells_shows h rows known.0 known.1).degree s))

-- so it is known of the reading, under a head that fits
pub read_measured : (h : Head) (rows : List Row) → head_fits h ≡ true → Measured h rows (read_table h rows)
read_measured h rows fits = go (read_table h rows) refl
  where
    head : HeadFits h
    head = head_from_test h fits

    go : (r : Result ℕ Fault) → read_table h rows ≡ r → Measured h rows r
    go (Ok w) e = (checked_ok h rows w head e, read_widest h rows w head e)
    go (Err fault) e = (checked_err h rows fault head e, tt)

-- what is refused is no table
pub refused_unformed : (h : Head) (rows : List Row) (fault : Fault) → Checked h rows (Err fault) → WellFormed h rows → ⊥
refused_unformed h rows fault so well =
    let same = checked_same h rows (Err fault) (Ok tt) so well in
    let z : ◌≡◌ {A = ℕ} 0 1 = cc in
    omega arith
