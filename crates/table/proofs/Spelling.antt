-- Steps one after another: their rows, their order, and how many leave each state.
use Rattle.std.proofs.Common.{◌≡◌, ℕ, suc, ◌+◌, ◌<◌, ◌≤◌, eqb, List, [], ◌∷◌, ◌++◌, length, sym, refl, ap, ◌∙◌, inl, inr, append_assoc, add-zero, arith}
use Rattle.std.proofs.lemmas.List.{append-nil}
use Rattle.std.proofs.lemmas.Bool.{cases_eq, eq-eqb, ne_eqb, cond-true, cond-false}
use Rattle.source.specs.declared.label.Label.{Label}
use Rattle.table.specs.Steps.{Step, Each, InOrder, row_of, rows_from, rows_of, spelling, steps_at}
use Rattle.table.proofs.Lists.{each_append, each_back}

pub spelling_append : (xs ys : List Step) → spelling (xs ++ ys) ≡ spelling xs ++ spelling ys
spelling_append [] ys = refl
spelling_append (x ∷ xs) ys = ap (λ l. rows_of x ++ l) (spelling_append xs ys) ∙ sym (append_assoc (rows_of x) (spelling xs) (spelling ys))

pub spelling_push : (xs : List Step) (step : Step) → spelling (xs ++ step ∷ []) ≡ spelling xs ++ rows_of step
spelling_push xs step = spelling_append xs (step ∷ []) ∙ ap (λ l. spelling xs ++ l) (append-nil (rows_of step))

-- the rows of a step whose landings are given in two parts
pub rows_from_append : (from : ℕ) (label : Label) (v : ℕ) (tos more : List ℕ) → rows_from from label v (tos ++ more) ≡ rows_from from label v tos ++ rows_from from label (v + length tos) more
rows_from_append from label v [] more = ap (λ n. rows_from from label n more) (sym (add-zero v))
rows_from_append from label v (to ∷ rest) more =
    let e : suc v + length rest ≡ v + suc (length rest) = omega arith in
    ap (λ l. row_of from label v to ∷ l) (rows_from_append from label (suc v) rest more ∙ ap (λ n. rows_from from label (suc v) rest ++ rows_from from label n more) e)

-- one more step at the front: it leaves the state, or another
pub steps_at_here : (s : ℕ) (step : Step) (rest : List Step) → step.from ≡ s → length (steps_at s (step ∷ rest)) ≡ suc (length (steps_at s rest))
steps_at_here s step rest e = ap length (cond-true (eqb step.from s) (step ∷ steps_at s rest) (steps_at s rest) (eq-eqb step.from s e))

pub steps_at_other : (s : ℕ) (step : Step) (rest : List Step) → (step.from ≡ s → ⊥) → length (steps_at s (step ∷ rest)) ≡ length (steps_at s rest)
steps_at_other s step rest e = ap length (cond-false (eqb step.from s) (step ∷ steps_at s rest) (steps_at s rest) (ne_eqb step.from s e))

pub steps_at_append : (s : ℕ) (xs ys : List Step) → length (steps_at s (xs ++ ys)) ≡ length (steps_at s xs) + length (steps_at s ys)
steps_at_append s [] ys = omega arith
steps_at_append s (x ∷ xs) ys =
    let ih = steps_at_append s xs ys in
    elim (cases_eq x.from s) [
      | inl e ↦ omega (arith, steps_at_here s x xs e, steps_at_here s x (xs ++ ys) e)
      | inr e ↦ omega (arith, steps_at_other s x xs e, steps_at_other s x (xs ++ ys) e)
    ]

-- the same at the end
pub steps_at_push : (s : ℕ) (xs : List Step) (step : Step) → step.from ≡ s → length (steps_at s (xs ++ step ∷ [])) ≡ suc (length (steps_at s xs))
steps_at_push s xs step e = omega (arith, steps_at_append s xs (step ∷ []), steps_at_here s step [] e)

pub steps_at_pass : (s : ℕ) (xs : List Step) (step : Step) → (step.from ≡ s → ⊥) → length (steps_at s (xs ++ step ∷ [])) ≡ length (steps_at s xs)
steps_at_pass s xs step e = omega (arith, steps_at_append s xs (step ∷ []), steps_at_other s step [] e)

-- no step leaves a state above them all
pub steps_at_none : (s : ℕ) (xs : List Step) → Each (λ step. step.from < s) xs → length (steps_at s xs) ≡ 0
steps_at_none s [] b = refl
steps_at_none s (x ∷ xs) b = omega (arith, steps_at_other s x xs (λ e. omega arith), steps_at_none s xs b.1)

-- one more step that leaves no smaller state keeps the order
pub in_order_push : (xs : List Step) (step : Step) → InOrder xs → Each (λ before. before.from ≤ step.from) xs → InOrder (xs ++ step ∷ [])
in_order_push [] step o b = (tt, tt)
in_order_push (x ∷ xs) step o b = (each_append (λ later. x.from ≤ later.from) xs (step ∷ []) o.0 (b.0, tt), in_order_push xs step o.1 b.1)

-- and in order, those before a step leave no larger state
pub in_order_before : (xs : List Step) (step : Step) (rest : List Step) → InOrder (xs ++ step ∷ rest) → Each (λ before. before.from ≤ step.from) xs
in_order_before [] step rest o = tt
in_order_before (x ∷ xs) step rest o = ((each_back (λ later. x.from ≤ later.from) xs (step ∷ rest) o.0).0, in_order_before xs step rest o.1)
