-- What a well-formed table is: a list of steps, written down as rows.
use Rattle.std.specs.Prelude.{◌≡◌, ℕ, zero, suc, ◌<◌, ◌≤◌, cond, ◌⊎◌, List, [], ◌∷◌, ◌++◌, length, take, Ok, Err, Result, ◌==◌}
use Rattle.source.specs.Labels.{Fits, value_count}
use Rattle.source.specs.declared.label.Label.{Label}
use Rattle.source.specs.declared.label.Label.TheVariants.{Silent, Send, Receive}
use Rattle.table.specs.declared.fault.Fault.{Fault}
use Rattle.table.specs.declared.fault.Fault.TheVariants.{Head as BadHead, Row as BadRow}
use Rattle.table.specs.declared.row.Head.{Head}
use Rattle.table.specs.declared.row.Row.{Row}

-- a step: the state that it leaves, its label, and where it leads at each of its values
pub record Step : Type 0 where
  pub from : ℕ
  pub label : Label
  pub landings : List ℕ

-- a step at one of its values, as a row: kind 0 is silent, with channel and value 0; 1 is a send; 2 is a receive
abbrev pub row_of : ℕ → Label → ℕ → ℕ → Row
row_of from Silent v to = record { from = from; kind = 0; channel = 0; value = 0; to = to }
row_of from (Send c x) v to = record { from = from; kind = 1; channel = c; value = x; to = to }
row_of from (Receive c) v to = record { from = from; kind = 2; channel = c; value = v; to = to }

-- the same at each value from v on, values rising
abbrev pub rows_from : ℕ → Label → ℕ → List ℕ → List Row
rows_from from label v [] = []
rows_from from label v (to ∷ rest) = row_of from label v to ∷ rows_from from label (suc v) rest

-- a step as rows: one row, or one for each value of a receive
abbrev pub rows_of : Step → List Row
rows_of step = rows_from step.from step.label 0 step.landings

-- steps as rows, one step after another
abbrev pub spelling : List Step → List Row
spelling [] = []
spelling (step ∷ rest) = rows_of step ++ spelling rest

-- the steps of one state, in their order
abbrev pub steps_at : ℕ → List Step → List Step
steps_at s [] = []
steps_at s (step ∷ rest) = cond (step.from == s) (step ∷ steps_at s rest) (steps_at s rest)

-- a property of each element of a list
abbrev pub Each : {A : Type 0} → (A → Type 0) → List A → Type 0
Each P [] = Unit {0}
Each P (x ∷ xs) = P x × Each P xs

-- 1 to 65,536 states, a range of 1 to 32, and a root that is a state
pub record HeadFits (h : Head) : Type 0 where
  pub some_state : 1 ≤ h.states
  pub few_states : h.states ≤ 65536
  pub some_value : 1 ≤ h.range
  pub few_values : h.range ≤ 32
  pub root_inside : h.root < h.states

-- a step leaves a state and leads to states, one for each value that its label has; its channel and its value are within their bounds
pub record StepFits (h : Head) (step : Step) : Type 0 where
  pub from_inside : step.from < h.states
  pub label_fits : Fits h.range step.label
  pub landing_each : length step.landings ≡ value_count h.range step.label
  pub landings_inside : Each (λ to. to < h.states) step.landings

-- no step leaves a smaller state than one before it
abbrev pub InOrder : List Step → Type 0
InOrder [] = Unit {0}
InOrder (step ∷ rest) = Each (λ later. step.from ≤ later.from) rest × InOrder rest

-- the steps of a well-formed table: in the order of the states that they leave, at most 64 from each
pub record StepsFit (h : Head) (steps : List Step) : Type 0 where
  pub each_fits : Each (StepFits h) steps
  pub in_order : InOrder steps
  pub few : (s : ℕ) → length (steps_at s steps) ≤ 64

-- rows that spell these steps, under a head that fits
pub record Spells (h : Head) (rows : List Row) (steps : List Step) : Type 0 where
  pub head_fits : HeadFits h
  pub steps_fit : StepsFit h steps
  pub spelt : rows ≡ spelling steps

-- a well-formed table: its rows spell some steps
abbrev pub WellFormed : Head → List Row → Type 0
WellFormed h rows = (steps : List Step) × Spells h rows steps

-- rows that can be continued to a well-formed table
abbrev pub Mendable : Head → List Row → Type 0
Mendable h rows = (more : List Row) × WellFormed h (rows ++ more)

-- Row n, counted from 1, is at fault: those before it can be continued and with it they no longer can;
-- or it is the last one, and all can be continued but are no whole table, since a receive is cut short.
abbrev pub RowFault : Head → List Row → ℕ → Type 0
RowFault h rows zero = ⊥
RowFault h rows (suc i) =
    (i < length rows)
    × Mendable h (take i rows)
    × ((Mendable h (take (suc i) rows) → ⊥) ⊎ ((length rows ≡ suc i) × Mendable h rows × (WellFormed h rows → ⊥)))

-- what the check answers: well-formed, or the first fault
abbrev pub Checked : Head → List Row → Result (Unit {0}) Fault → Type 0
Checked h rows (Ok _) = WellFormed h rows
Checked h rows (Err BadHead) = HeadFits h → ⊥
Checked h rows (Err (BadRow n)) = HeadFits h × RowFault h rows n

-- an answer that has more to say of a well-formed table, without it
abbrev pub verdict : {A : Type 0} → Result A Fault → Result (Unit {0}) Fault
verdict (Ok x) = Ok tt
verdict (Err fault) = Err fault
