-- Rows that spell steps are sorted by the state that they leave, and each leaves a state.
use Rattle.std.proofs.Common.{◌≡◌, ℕ, ◌-◌, ◌<◌, ◌≤◌, List, [], ◌∷◌, ◌++◌, length, get_or, sym, refl, ap, ◌∙◌, subst, inl, inr, arith, length-append}
use Rattle.std.proofs.lemmas.List.{get_or_append_left, get_or-append_right}
use Rattle.std.proofs.lemmas.Bool.{cases_lt}
use Rattle.table.specs.declared.row.Head.{Head}
use Rattle.table.specs.declared.row.Row.{Row}
use Rattle.table.specs.Parts.{Sorted}
use Rattle.table.specs.Steps.{Step, Each, StepFits, Spells, InOrder, rows_of, spelling}
use Rattle.table.specs.Views.{no_row}
use Rattle.table.proofs.StepRows.{rows_leave}

-- what holds of the state that each step leaves holds of the state that each row leaves
pub rows_each : (P : ℕ → Type 0) (steps : List Step) → Each (λ step. P step.from) steps → (i : ℕ) → i < length (spelling steps) → P (get_or (spelling steps) i no_row).from
rows_each P [] each i less = absurd (omega arith)
rows_each P (step ∷ rest) each i less =
    let here = rows_of step in
    elim (cases_lt i (length here)) [
      | inl first ↦ subst (λ (row : Row). P row.from) (sym (get_or_append_left here (spelling rest) no_row i first)) (subst P (sym (rows_leave step.from step.label 0 step.landings i first)) each.0)
      | inr later ↦ subst (λ (row : Row). P row.from) (sym (get_or-append_right here (spelling rest) (length here) i no_row refl later)) (rows_each P rest each.1 (i - length here) (omega (arith, length-append here (spelling rest))))
    ]

-- rows that leave one state, in front of sorted rows that leave no smaller one
sorted_next : (f : ℕ) (xs ys : List Row) → ((i : ℕ) → i < length xs → (get_or xs i no_row).from ≡ f) → ((i : ℕ) → i < length ys → f ≤ (get_or ys i no_row).from) → Sorted ys → Sorted (xs ++ ys)
sorted_next f xs ys here above sorted i j l m =
    let total = length-append xs ys in
    let left : (n : ℕ) → n < length xs → (get_or (xs ++ ys) n no_row).from ≡ f = λ n less. ap (λ (row : Row). row.from) (get_or_append_left xs ys no_row n less) ∙ here n less in
    let right : (n : ℕ) → length xs ≤ n → (get_or (xs ++ ys) n no_row).from ≡ (get_or ys (n - length xs) no_row).from = λ n past. ap (λ (row : Row). row.from) (get_or-append_right xs ys (length xs) n no_row refl past) in
    elim (cases_lt i (length xs)) [
      | inl first ↦
          elim (cases_lt j (length xs)) [
            | inl too ↦ omega (arith, left i first, left j too)
            | inr past ↦ omega (arith, left i first, right j past, above (j - length xs) (omega arith))
          ]
      | inr past ↦ omega (arith, right i past, right j (omega arith), sorted (i - length xs) (j - length xs) (omega arith) (omega arith))
    ]

spelling_sorted : (steps : List Step) → InOrder steps → Sorted (spelling steps)
spelling_sorted [] order i j l m = absurd (omega arith)
spelling_sorted (step ∷ rest) order i j l m =
    sorted_next step.from (rows_of step) (spelling rest) (rows_leave step.from step.label 0 step.landings)
    (rows_each (λ from. step.from ≤ from) rest order.0) (λ a b x y. spelling_sorted rest order.1 a b x y) i j l m

pub spells_sorted : (h : Head) (rows : List Row) (steps : List Step) → Spells h rows steps → Sorted rows
spells_sorted h rows steps known = subst Sorted (sym known.spelt) (spelling_sorted steps known.steps_fit.in_order)

-- each row leaves a state
pub spells_inside : (h : Head) (rows : List Row) (steps : List Step) → Spells h rows steps → (i : ℕ) → i < length rows → (get_or rows i no_row).from < h.states
spells_inside h rows steps known =
    let inside = rows_each (λ from. from < h.states) steps (each_inside steps known.steps_fit.each_fits) in
    subst (λ r. (i : ℕ) → i < length r → (get_or r i no_row).from < h.states) (sym known.spelt) inside
  where
    each_inside : (steps : List Step) → Each (StepFits h) steps → Each (λ step. step.from < h.states) steps
    each_inside [] fits = tt
    each_inside (step ∷ rest) fits = (fits.0.from_inside, each_inside rest fits.1)
