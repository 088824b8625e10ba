-- Rows that spell steps: how many steps a state has, where each stands, and what its rows answer.
use Rattle.std.proofs.Common.{◌≡◌, ℕ, zero, suc, ◌+◌, ◌<◌, ◌≤◌, cond, eqb, List, [], ◌∷◌, ◌++◌, length, get_or, Some, sym, refl, ap, ◌∙◌, subst, inl, inr, add-zero, add_assoc, zero-add, arith, length-append}
use Rattle.std.proofs.lemmas.List.{get_or_append_left, get_or-append-add}
use Rattle.std.proofs.lemmas.Bool.{cases_eq, eq-eqb, ne_eqb, cond-true, cond-false}
use Rattle.choose.proofs.Laws.{from_on}
use Rattle.source.specs.Labels.{is_receive, value_count}
use Rattle.source.specs.declared.label.Label.{Label}
use Rattle.source.specs.declared.label.Label.TheVariants.{Silent, Send, Receive}
use Rattle.table.specs.declared.row.Head.{Head}
use Rattle.table.specs.declared.row.Row.{Row}
use Rattle.table.specs.Steps.{Step, Each, StepFits, row_of, rows_of, spelling, steps_at}
use Rattle.table.specs.Views.{no_row, label_of, label_from, landing_from, step_row, degree_of, no_step, step_of}
use Rattle.choose.proofs.Elements.{counted, counted_append, picked_front, picked_back}
use Rattle.table.proofs.StepRows.{begins_of, row_to, row_label, row_receive, rows_length, rows_at, value_some, step_counted, step_picked, step_elsewhere}

-- the steps of a state: a step is one of them, or it is left out
pub steps_here : (s : ℕ) (step : Step) (rest : List Step) → step.from ≡ s → steps_at s (step ∷ rest) ≡ step ∷ steps_at s rest
steps_here s step rest e = cond-true (eqb step.from s) _ _ (eq-eqb step.from s e)

pub steps_other : (s : ℕ) (step : Step) (rest : List Step) → (step.from ≡ s → ⊥) → steps_at s (step ∷ rest) ≡ steps_at s rest
steps_other s step rest e = cond-false (eqb step.from s) _ _ (ne_eqb step.from s e)

-- what holds of each step holds of each one of a state
pub each_here : (P : Step → Type 0) (s : ℕ) (steps : List Step) → Each P steps → Each P (steps_at s steps)
each_here P s [] e = tt
each_here P s (step ∷ rest) e =
    elim (cases_eq step.from s) [
      | inl same ↦ subst (Each P) (sym (steps_here s step rest same)) (e.0, each_here P s rest e.1)
      | inr other ↦ subst (Each P) (sym (steps_other s step rest other)) (each_here P s rest e.1)
    ]

-- a state has as many steps as rows that begin one
pub degree_spelling : (h : Head) (steps : List Step) → 1 ≤ h.range → Each (StepFits h) steps → (s : ℕ) → degree_of (spelling steps) s ≡ length (steps_at s steps)
degree_spelling h [] some fits s = refl
degree_spelling h (step ∷ rest) some fits s =
    let more = degree_spelling h rest some fits.1 s in
    let both = counted_append (begins_of s) no_row (rows_of step) (spelling rest) in
    elim (cases_eq step.from s) [
      | inl same ↦
          let one : counted (begins_of s) no_row (rows_of step) ≡ 1 = subst (λ t. counted (begins_of t) no_row (rows_of step) ≡ 1) same (step_counted h.range step.from step.label step.landings some fits.0.landing_each) in
          omega (arith, ap length (steps_here s step rest same))
      | inr other ↦ omega (arith, step_elsewhere s step.from step.label step.landings other, ap length (steps_other s step rest other))
    ]

-- where step k of the state s stands among the rows: its first row, and a row for each of its landings
pub record Stands (rows : List Row) (s k : ℕ) (step : Step) : Type 0 where
  pub row : ℕ
  pub found : step_row rows s k ≡ Some row
  pub within : row + length step.landings ≤ length rows
  pub spelt : (j : ℕ) → j < length step.landings → get_or rows (row + j) no_row ≡ row_of step.from step.label j (get_or step.landings j 0)

-- it stands there too where rows follow, or come before
stands_front : (xs ys : List Row) (s k : ℕ) (step : Step) → k < degree_of xs s → Stands xs s k step → Stands (xs ++ ys) s k step
stands_front xs ys s k step less here = record {
  row = here.row;
  found = picked_front (begins_of s) no_row xs ys k less ∙ here.found;
  within = omega (arith, here.within, length-append xs ys);
  spelt = λ j l. get_or_append_left xs ys no_row (here.row + j) (omega (arith, here.within)) ∙ here.spelt j l;
}

stands_back : (xs ys : List Row) (s n k : ℕ) (step : Step) → degree_of xs s ≡ n → Stands ys s k step → Stands (xs ++ ys) s (n + k) step
stands_back xs ys s n k step passed here = record {
  row = length xs + here.row;
  found = ap (λ m. step_row (xs ++ ys) s (m + k)) (sym passed) ∙ picked_back (begins_of s) no_row xs ys k ∙ ap (from_on (length xs)) here.found;
  within = omega (arith, here.within, length-append xs ys);
  spelt = λ j l. ap (λ m. get_or (xs ++ ys) m no_row) (add_assoc (length xs) here.row j) ∙ get_or-append-add xs ys (here.row + j) no_row ∙ here.spelt j l;
}

-- a step's own rows
stands_alone : (h : Head) (step : Step) → 1 ≤ h.range → StepFits h step → Stands (rows_of step) step.from 0 step
stands_alone h step some fits = record {
  row = 0;
  found = step_picked h.range step.from step.label step.landings some fits.landing_each;
  within = omega (arith, rows_length step.from step.label 0 step.landings);
  spelt = λ j l. ap (λ m. get_or (rows_of step) m no_row) (zero-add j) ∙ rows_at step.from step.label 0 step.landings j l ∙ ap (λ m. row_of step.from step.label m (get_or step.landings j 0)) (zero-add j);
}

-- the steps of one state, of which the first stands in front
stands_next : (h : Head) (step : Step) (rows : List Row) (later : List Step) → 1 ≤ h.range → StepFits h step → ((k : ℕ) → k < length later → Stands rows step.from k (get_or later k no_step)) → (k : ℕ) → k < suc (length later) → Stands (rows_of step ++ rows) step.from k (get_or (step ∷ later) k no_step)
stands_next h step rows later some fits more zero less =
    let one = step_counted h.range step.from step.label step.landings some fits.landing_each in
    stands_front (rows_of step) rows step.from 0 step (omega arith) (stands_alone h step some fits)
stands_next h step rows later some fits more (suc k) less =
    let one = step_counted h.range step.from step.label step.landings some fits.landing_each in
    let next : 1 + k ≡ suc k = omega arith in
    subst (λ n. Stands (rows_of step ++ rows) step.from n (get_or later k no_step)) next (stands_back (rows_of step) rows step.from 1 k (get_or later k no_step) one (more k (omega arith)))

pub step_stands : (h : Head) (steps : List Step) → 1 ≤ h.range → Each (StepFits h) steps → (s k : ℕ) → k < length (steps_at s steps) → Stands (spelling steps) s k (step_of steps s k)
step_stands h [] some fits s k less = absurd (omega arith)
step_stands h (step ∷ rest) some fits s k less =
    let more : (k : ℕ) → k < length (steps_at s rest) → Stands (spelling rest) s k (step_of rest s k) = λ k l. step_stands h rest some fits.1 s k l in
    let rows = rows_of step ++ spelling rest in
    elim (cases_eq step.from s) [
      | inl same ↦
          let here = steps_here s step rest same in
          let moved = subst (λ t. (k : ℕ) → k < length (steps_at s rest) → Stands (spelling rest) t k (step_of rest s k)) (sym same) more in
          subst (λ t. Stands rows t k (step_of (step ∷ rest) s k)) same
          (subst (λ l. Stands rows step.from k (get_or l k no_step)) (sym here)
          (stands_next h step (spelling rest) (steps_at s rest) some fits.0 moved k (omega (arith, ap length here))))
      | inr other ↦
          let here = steps_other s step rest other in
          subst (λ l. Stands rows s k (get_or l k no_step)) (sym here)
          (subst (λ n. Stands rows s n (step_of rest s k)) (zero-add k)
          (stands_back (rows_of step) (spelling rest) s 0 k (step_of rest s k) (step_elsewhere s step.from step.label step.landings other) (more k (omega (arith, ap length here)))))
    ]

-- what a table answers of a step, by where it stands
module _ (h : Head) (rows : List Row) (s k : ℕ) (step : Step) (some : 1 ≤ h.range) (fits : StepFits h step) (here : Stands rows s k step) where
  landed : 1 ≤ length step.landings
  landed = omega (arith, fits.landing_each, value_some h.range step.label some)

  first_spelt : get_or rows here.row no_row ≡ row_of step.from step.label 0 (get_or step.landings 0 0)
  first_spelt = ap (λ n. get_or rows n no_row) (sym (add-zero here.row)) ∙ here.spelt 0 landed

  pub stands_label : label_from rows (step_row rows s k) ≡ step.label
  stands_label = ap (label_from rows) here.found ∙ ap label_of first_spelt ∙ row_label step.from step.label 0 (get_or step.landings 0 0)

  pub stands_receive : eqb (get_or rows here.row no_row).kind 2 ≡ is_receive step.label
  stands_receive = ap (λ (row : Row). eqb row.kind 2) first_spelt ∙ row_receive step.from step.label 0 (get_or step.landings 0 0)

  -- at a value of the range, the step has the landing that is asked for
  pub landing_there : (v : ℕ) → v < h.range → cond (is_receive step.label) v 0 < length step.landings
  landing_there v less = go step.label fits.landing_each
    where
      go : (l : Label) → length step.landings ≡ value_count h.range l → cond (is_receive l) v 0 < length step.landings
      go Silent e = omega arith
      go (Send c x) e = omega arith
      go (Receive c) e = omega arith

  pub stands_landing : (v : ℕ) → v < h.range → landing_from rows h.root v (step_row rows s k) ≡ get_or step.landings (cond (is_receive step.label) v 0) 0
  stands_landing v less =
      let j = cond (is_receive step.label) v 0 in
      ap (landing_from rows h.root v) here.found
      ∙ ap (λ b. (get_or rows (here.row + cond b v 0) no_row).to) stands_receive
      ∙ ap (λ (row : Row). row.to) (here.spelt j (landing_there v less))
      ∙ row_to step.from step.label j (get_or step.landings j 0)
