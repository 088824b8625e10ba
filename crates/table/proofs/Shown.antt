-- Rows that spell steps, as a table: it shows just these steps, and it is lawful.
use Rattle.std.proofs.Common.{◌≡◌, ℕ, ◌+◌, ◌<◌, ◌≤◌, false, cond, eqb, ltb, List, [], ◌∷◌, length, get_or, Some, sym, refl, ap, ◌∙◌, subst, inl, inr, arith}
use Rattle.std.proofs.lemmas.Bool.{cases_lt, cond-true, cond-false, lt-ltb, le-ltb, cond_both}
use Rattle.std.proofs.lemmas.Option.{same_Some}
use Rattle.choose.proofs.Laws.{chosen_passes, count_above}
use Rattle.source.specs.Labels.{Fits, is_receive}
use Rattle.source.specs.Meaning.{Lawful}
use Rattle.source.specs.declared.label.Label.TheVariants.{Silent}
use Rattle.table.specs.declared.row.Head.{Head}
use Rattle.table.specs.declared.row.Row.{Row}
use Rattle.table.specs.Steps.{Step, Each, HeadFits, StepFits, StepsFit, Spells, spelling, steps_at}
use Rattle.table.specs.Views.{no_row, begins_at, label_from, landing_from, largest, step_row, degree_of, table_meaning, no_step, step_of, Shows}
use Rattle.choose.proofs.Elements.{picked_none}
use Rattle.table.proofs.Largest.{largest_above, largest_met, largest_below}
use Rattle.table.proofs.Lists.{each_at}
use Rattle.table.proofs.StepPlaces.{steps_other, each_here, degree_spelling, Stands, step_stands, stands_label, stands_receive, landing_there, stands_landing}
use Rattle.table.proofs.StepRows.{begins_of}

-- no step leaves a state that there is not
pub no_steps_there : (h : Head) (steps : List Step) → Each (StepFits h) steps → (s : ℕ) → h.states ≤ s → length (steps_at s steps) ≡ 0
no_steps_there h [] fits s past = refl
no_steps_there h (step ∷ rest) fits s past = ap length (steps_other s step rest (λ e. omega (arith, fits.0.from_inside))) ∙ no_steps_there h rest fits.1 s past

-- what any table answers where there is no such step, or no such value
pub unstepped_label : (h : Head) (rows : List Row) (s k : ℕ) → degree_of rows s ≤ k → (table_meaning h rows).label s k ≡ Silent
unstepped_label h rows s k few = ap (label_from rows) (picked_none (begins_of s) no_row rows k few)

pub unstepped_lands : (h : Head) (rows : List Row) (s k v : ℕ) → degree_of rows s ≤ k → (table_meaning h rows).landing s k v ≡ h.root
unstepped_lands h rows s k v few =
    let b = ltb v h.range in
    let root = h.root in
    ap (λ o. cond b (landing_from rows root v o) root) (picked_none (begins_of s) no_row rows k few)
    ∙ cond_both b root root (λ to. to ≡ root) (λ e. refl) (λ e. refl)

pub unvalued_lands : (h : Head) (rows : List Row) (s k v : ℕ) → h.range ≤ v → (table_meaning h rows).landing s k v ≡ h.root
unvalued_lands h rows s k v past = cond-false (ltb v h.range) _ _ (le-ltb v h.range past)

-- the rows that steps spell show these steps, and no more
module _ (h : Head) (steps : List Step) (head : HeadFits h) (fit : StepsFit h steps) where
  some : 1 ≤ h.range
  some = head.some_value

  degree_is : (s : ℕ) → degree_of (spelling steps) s ≡ length (steps_at s steps)
  degree_is s = degree_spelling h steps some fit.each_fits s

  step_fits : (s k : ℕ) → k < length (steps_at s steps) → StepFits h (step_of steps s k)
  step_fits s k less = each_at (StepFits h) (steps_at s steps) k no_step (each_here (StepFits h) s steps fit.each_fits) less

  stands : (s k : ℕ) → k < length (steps_at s steps) → Stands (spelling steps) s k (step_of steps s k)
  stands s k less = step_stands h steps some fit.each_fits s k less

  width_above : (s : ℕ) → degree_of (spelling steps) s ≤ largest (degree_of (spelling steps)) h.states
  width_above s =
      elim (cases_lt s h.states) [
        | inl inside ↦ largest_above (degree_of (spelling steps)) h.states s inside
        | inr past ↦ omega (arith, degree_is s, no_steps_there h steps fit.each_fits s past)
      ]

  spelling_shows : Shows h steps (table_meaning h (spelling steps))
  spelling_shows = record {
    extent = refl;
    root = refl;
    range = refl;
    degree = degree_is;
    label = λ s k less. stands_label h (spelling steps) s k (step_of steps s k) some (step_fits s k less) (stands s k less);
    landing = λ s k v less inside. cond-true (ltb v h.range) _ _ (lt-ltb v h.range inside) ∙ stands_landing h (spelling steps) s k (step_of steps s k) some (step_fits s k less) (stands s k less) v inside;
    width_above = width_above;
    width_met = largest_met (degree_of (spelling steps)) h.states head.some_state;
  }

  few_below : (s k : ℕ) → length (steps_at s steps) ≤ k → degree_of (spelling steps) s ≤ k
  few_below s k few = omega (arith, degree_is s)

  label_fits : (s k : ℕ) → Fits h.range ((table_meaning h (spelling steps)).label s k)
  label_fits s k =
      elim (cases_lt k (length (steps_at s steps))) [
        | inl less ↦ subst (Fits h.range) (sym (spelling_shows.label s k less)) (step_fits s k less).label_fits
        | inr few ↦ subst (Fits h.range) (sym (unstepped_label h (spelling steps) s k (few_below s k few))) tt
      ]

  landing_inside : (s k v : ℕ) → (table_meaning h (spelling steps)).landing s k v < h.states
  landing_inside s k v =
      let root = head.root_inside in
      elim (cases_lt k (length (steps_at s steps))) [
        | inl less ↦
            elim (cases_lt v h.range) [
              | inl inside ↦
                  let step = step_of steps s k in
                  let fits = step_fits s k less in
                  let there = landing_there h (spelling steps) s k step some fits (stands s k less) v inside in
                  subst (λ to. to < h.states) (sym (spelling_shows.landing s k v less inside))
                  (each_at (λ to. to < h.states) step.landings (cond (is_receive step.label) v 0) 0 fits.landings_inside there)
              | inr past ↦ omega (arith, unvalued_lands h (spelling steps) s k v past)
            ]
        | inr few ↦ omega (arith, unstepped_lands h (spelling steps) s k v (few_below s k few))
      ]

  one_landing : (s k v w : ℕ) → is_receive ((table_meaning h (spelling steps)).label s k) ≡ false → v < h.range → w < h.range → (table_meaning h (spelling steps)).landing s k v ≡ (table_meaning h (spelling steps)).landing s k w
  one_landing s k v w single l m =
      elim (cases_lt k (length (steps_at s steps))) [
        | inl less ↦
            let step = step_of steps s k in
            let is : is_receive step.label ≡ false = ap is_receive (sym (spelling_shows.label s k less)) ∙ single in
            spelling_shows.landing s k v less l
            ∙ ap (λ b. get_or step.landings (cond b v 0) 0) is
            ∙ ap (λ b. get_or step.landings (cond b w 0) 0) (sym is)
            ∙ sym (spelling_shows.landing s k w less m)
        | inr few ↦
            let below = few_below s k few in
            unstepped_lands h (spelling steps) s k v below ∙ sym (unstepped_lands h (spelling steps) s k w below)
      ]

  spelling_lawful : Lawful (table_meaning h (spelling steps))
  spelling_lawful = record {
    some_state = head.some_state;
    few_states = omega (arith, head.few_states);
    root_inside = head.root_inside;
    some_value = head.some_value;
    few_values = head.few_values;
    narrow = largest_below (degree_of (spelling steps)) h.states 4096 (λ s. omega (arith, degree_is s, fit.few s));
    degree_within = width_above;
    label_fits = label_fits;
    landing_inside = landing_inside;
    one_landing = one_landing;
    no_state = λ s past. degree_is s ∙ no_steps_there h steps fit.each_fits s past;
    no_step = unstepped_label h (spelling steps);
    no_step_lands = unstepped_lands h (spelling steps);
    no_value_lands = unvalued_lands h (spelling steps);
  }

pub spells_shows : (h : Head) (rows : List Row) (steps : List Step) → Spells h rows steps → Shows h steps (table_meaning h rows)
spells_shows h rows steps known = subst (λ r. Shows h steps (table_meaning h r)) (sym known.spelt) (spelling_shows h steps known.head_fits known.steps_fit)

pub spells_lawful : (h : Head) (rows : List Row) (steps : List Step) → Spells h rows steps → Lawful (table_meaning h rows)
spells_lawful h rows steps known = subst (λ r. Lawful (table_meaning h r)) (sym known.spelt) (spelling_lawful h steps known.head_fits known.steps_fit)

-- the row where a step begins is a row, and so is the one that tells its landing at a value
pub begin_within : (rows : List Row) (s k i : ℕ) → step_row rows s k ≡ Some i → i < length rows
begin_within rows s k i found = (chosen_passes (begins_at rows s) (length rows) k i found).below

pub landing_within : (h : Head) (rows : List Row) (steps : List Step) → Spells h rows steps → (s k i v : ℕ) → step_row rows s k ≡ Some i → v < h.range → i + cond (eqb (get_or rows i no_row).kind 2) v 0 < length rows
landing_within h rows steps known s k i v found inside =
    let fit = known.steps_fit in
    let some = known.head_fits.some_value in
    let at = chosen_passes (begins_at rows s) (length rows) k i found in
    let less : k < length (steps_at s steps) = omega (arith, count_above (begins_at rows s) i (length rows) at.below at.passes, at.after, (spells_shows h rows steps known).degree s) in
    let step = step_of steps s k in
    let fits = step_fits h steps known.head_fits fit s k less in
    let here : Stands rows s k step = subst (λ r. Stands r s k step) (sym known.spelt) (stands h steps known.head_fits fit s k less) in
    let far : cond (eqb (get_or rows here.row no_row).kind 2) v 0 ≡ cond (is_receive step.label) v 0 = ap (λ b. cond b v 0) (stands_receive h rows s k step some fits here) in
    let within : here.row + cond (eqb (get_or rows here.row no_row).kind 2) v 0 < length rows = omega (arith, landing_there h rows s k step some fits here v inside, here.within) in
    subst (λ n. n + cond (eqb (get_or rows n no_row).kind 2) v 0 < length rows) (same_Some here.row i (sym here.found ∙ found)) within
