-- How a reading stands to the steps that were read.
use Rattle.std.proofs.Common.{◌≡◌, ℕ, suc, ◌<◌, ◌≤◌, max, cond, eqb, ltb, ◌⊎◌, List, [], ◌∷◌, ◌++◌, length, Some, None, Option, sym, refl, ap, ◌∙◌, inl, inr, arith}
use Rattle.std.proofs.lemmas.Bool.{cases_eq, cases_lt, eq-eqb, ne_eqb, cond-true, cond-false}
use Rattle.std.proofs.lemmas.Option.{same_Some}
use Rattle.table.specs.declared.reading.Reading.{Reading}
use Rattle.table.specs.declared.reading.Receiving.{Receiving}
use Rattle.table.specs.declared.row.Head.{Head}
use Rattle.table.specs.declared.row.Row.{Row}
use Rattle.table.specs.Reads.{unread, follow}
use Rattle.table.specs.Steps.{Step, Each, StepFits, StepsFit, InOrder, steps_at}
use Rattle.table.proofs.Lists.{each_append, each_back, each_weaker}
use Rattle.table.proofs.Spelling.{steps_at_push, steps_at_pass, steps_at_none, in_order_push}

-- the reading after some rows, if each can follow
abbrev pub run : Head → Reading → List Row → Option Reading
run h r [] = Some r
run h r (row ∷ rows) = elim (follow h r row) [ None ↦ None | Some after ↦ run h after rows ]

pub run_some : (h : Head) (r after : Reading) (row : Row) (rows : List Row) → follow h r row ≡ Some after → run h r (row ∷ rows) ≡ run h after rows
run_some h r after row rows e = ap (λ (o : Option Reading). elim o as (λ _. Option Reading) [ None ↦ None | Some a ↦ run h a rows ]) e

pub run_none : (h : Head) (r : Reading) (row : Row) (rows : List Row) → follow h r row ≡ None → run h r (row ∷ rows) ≡ None
run_none h r row rows e = ap (λ (o : Option Reading). elim o as (λ _. Option Reading) [ None ↦ None | Some a ↦ run h a rows ]) e

-- rows in two parts: the second is read from where the first has led
pub run_append : (h : Head) (front rest : List Row) (r after : Reading) → run h r front ≡ Some after → run h r (front ++ rest) ≡ run h after rest
run_append h [] rest r after e = ap (λ x. run h x rest) (same_Some r after e)
run_append h (row ∷ front) rest r after e = go (follow h r row) refl (λ next. run_append h front rest next after)
  where
    go : (o : Option Reading) → follow h r row ≡ o → ((next : Reading) → run h next front ≡ Some after → run h next (front ++ rest) ≡ run h after rest) → run h r (row ∷ (front ++ rest)) ≡ run h after rest
    go None f ih = let e0 = run_none h r row front f in let z : ◌≡◌ {A = ℕ} 0 1 = cc in absurd (omega arith)
    go (Some next) f ih = run_some h r next row (front ++ rest) f ∙ ih next (sym (run_some h r next row front f) ∙ e)

-- how many steps of a state have begun, if it is the one being read
abbrev pub so_far : Reading → ℕ → ℕ
so_far r s = cond (eqb s r.from) r.steps 0

-- the reading after one more step has begun, with what is left of it to be read
abbrev pub opened : Reading → ℕ → Option Receiving → Reading
opened r from receive = record {
  from = from;
  steps = suc (so_far r from);
  receive = receive;
  widest = max r.widest (suc (so_far r from));
}

-- a receive on a channel that goes on with the value v
abbrev pub going_on : ℕ → ℕ → Option Receiving
going_on channel v = Some (record { channel = channel; next = v })

-- the same, where v may be past the last value: then nothing is left
abbrev pub up_to : Head → ℕ → ℕ → Option Receiving
up_to h channel v = cond (ltb v h.range) (going_on channel v) None

-- The reading after whole steps that fit: it is at the largest state that they leave, it has counted the
-- steps of that one, and its width is the most that leave one state.
pub record Closed (h : Head) (done : List Step) (r : Reading) : Type 0 where
  pub still : r.receive ≡ None
  pub fits : Each (StepFits h) done
  pub ordered : InOrder done
  pub few : (s : ℕ) → length (steps_at s done) ≤ 64
  pub within : Each (λ step. step.from ≤ r.from) done
  pub least : (s : ℕ) → Each (λ step. step.from ≤ s) done → r.from ≤ s
  pub counted : r.steps ≡ length (steps_at r.from done)
  pub above : (s : ℕ) → length (steps_at s done) ≤ r.widest
  pub met : (r.widest ≡ 0) ⊎ ((s : ℕ) × (s < h.states) × (length (steps_at s done) ≡ r.widest))

pub closed_none : (h : Head) → Closed h [] unread
closed_none h = record {
  still = refl;
  fits = tt;
  ordered = tt;
  few = λ s. omega arith;
  within = tt;
  least = λ s _. omega arith;
  counted = refl;
  above = λ s. omega arith;
  met = inl refl;
}

pub closed_fit : (h : Head) (done : List Step) (r : Reading) → Closed h done r → StepsFit h done
closed_fit h done r c = record { each_fits = c.fits; in_order = c.ordered; few = c.few }

-- what has been counted of a state that is still to come or being read
pub so_far_is : (h : Head) (done : List Step) (r : Reading) (s : ℕ) → Closed h done r → r.from ≤ s → so_far r s ≡ length (steps_at s done)
so_far_is h done r s c l =
    elim (cases_eq s r.from) [
      | inl same ↦ cond-true (eqb s r.from) r.steps 0 (eq-eqb s r.from same) ∙ c.counted ∙ ap (λ n. length (steps_at n done)) (sym same)
      | inr other ↦ cond-false (eqb s r.from) r.steps 0 (ne_eqb s r.from other) ∙ sym (steps_at_none s done (each_weaker (λ step. step.from ≤ r.from) (λ step. step.from < s) (λ step b. omega arith) done c.within))
    ]

-- one more step that fits, at the state being read or a later one, of which few have begun
pub closed_push : (h : Head) (done : List Step) (r : Reading) (step : Step) → Closed h done r → StepFits h step → r.from ≤ step.from → so_far r step.from < 64 → Closed h (done ++ step ∷ []) (opened r step.from None)
closed_push h done r step c f l room =
    let from = step.from in
    let soon : so_far r from ≡ length (steps_at from done) = so_far_is h done r from c l in
    let here = steps_at_push from done step refl in
    let before : Each (λ s. s.from ≤ from) done = each_weaker (λ s. s.from ≤ r.from) (λ s. s.from ≤ from) (λ s b. omega arith) done c.within in
    record {
      still = refl;
      fits = each_append (StepFits h) done (step ∷ []) c.fits (f, tt);
      ordered = in_order_push done step c.ordered before;
      few = λ s. elim (cases_eq from s) [ inl same ↦ rw (← same) (omega arith) | inr other ↦ omega (arith, steps_at_pass s done step other, c.few s) ];
      within = each_append (λ s. s.from ≤ from) done (step ∷ []) before (omega arith, tt);
      least = λ s b. (each_back (λ t. t.from ≤ s) done (step ∷ []) b).0;
      counted = omega arith;
      above = λ s. elim (cases_eq from s) [ inl same ↦ rw (← same) (omega arith) | inr other ↦ omega (arith, steps_at_pass s done step other, c.above s) ];
      met =
          elim (cases_lt r.widest (suc (so_far r from))) [
            | inl less ↦ inr (from, f.from_inside, omega arith)
            | inr least ↦
                elim c.met [
                  | inl none ↦ absurd (omega arith)
                  | inr m ↦
                      let other : from ≡ m.0 → ⊥ = λ e. let same = ap (λ n. length (steps_at n done)) e in omega (arith, m.2) in
                      inr (m.0, m.1, omega (arith, m.2, steps_at_pass m.0 done step other))
                ]
          ];
    }
