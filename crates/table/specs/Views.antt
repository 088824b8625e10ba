-- A table as a source.
use Rattle.std.specs.Prelude.{◌≡◌, ℕ, zero, suc, ◌+◌, ◌<◌, ◌≤◌, max, Bool, cond, not, ◌&&◌, ◌||◌, List, [], length, slice_index_or, Some, None, Option, ◌==◌, nat_lt, slice_index}
use Rattle.choose.specs.Choice.{count, chosen}
use Rattle.source.specs.Labels.{is_receive}
use Rattle.source.specs.Meaning.{Meaning}
use Rattle.source.specs.declared.label.Label.{Label}
use Rattle.source.specs.declared.label.Label.TheVariants.{Silent, Send, Receive}
use Rattle.table.specs.declared.row.Head.{Head}
use Rattle.table.specs.declared.row.Row.{Row}
use Rattle.table.specs.Steps.{Step, steps_at}

-- what is read past the end of the rows
abbrev pub no_row : Row
no_row = record { from = 0; kind = 0; channel = 0; value = 0; to = 0 }

-- whether a row begins a step: all do but those of a receive at a value above 0
abbrev pub begins : Row → Bool
begins row = not (row.kind == 2) || row.value == 0

-- whether row i begins a step of the state s
abbrev pub begins_at : List Row → ℕ → ℕ → Bool
begins_at rows s i = begins (slice_index_or rows i no_row) && (slice_index_or rows i no_row).from == s

-- the label that a row tells
abbrev pub label_of : Row → Label
label_of row = cond (row.kind == 0) Silent (cond (row.kind == 1) (Send row.channel row.value) (Receive row.channel))

-- the label of the step that begins at a row, if there is one
abbrev pub label_from : List Row → Option ℕ → Label
label_from rows None = Silent
label_from rows (Some i) = label_of (slice_index_or rows i no_row)

-- where the step that begins at a row leads at a value: a receive has a row for each
abbrev pub landing_from : List Row → ℕ → ℕ → Option ℕ → ℕ
landing_from rows root v None = root
landing_from rows root v (Some i) = (slice_index_or rows (i + cond ((slice_index_or rows i no_row).kind == 2) v 0) no_row).to

-- the largest of the numbers f 0 to f (n - 1), or 0
abbrev pub largest : (ℕ → ℕ) → ℕ → ℕ
largest f zero = 0
largest f (suc n) = max (largest f n) (f n)

-- the row where step k of the state s begins
abbrev pub step_row : List Row → ℕ → ℕ → Option ℕ
step_row rows s k = chosen (begins_at rows s) (length rows) k

-- how many steps the state s has
abbrev pub degree_of : List Row → ℕ → ℕ
degree_of rows s = count (begins_at rows s) (length rows)

-- the answers of a table
abbrev pub table_meaning : Head → List Row → Meaning
table_meaning h rows = record {
  extent = h.states;
  root = h.root;
  range = h.range;
  width = largest (degree_of rows) h.states;
  degree = degree_of rows;
  label = λ s k. label_from rows (step_row rows s k);
  landing = λ s k v. cond (nat_lt v h.range) (landing_from rows h.root v (step_row rows s k)) h.root;
}

-- a step that stands for none
abbrev pub no_step : Step
no_step = record { from = 0; label = Silent; landings = [] }

-- step k of the state s
abbrev pub step_of : List Step → ℕ → ℕ → Step
step_of steps s k = slice_index_or (steps_at s steps) k no_step

-- A source that has exactly the given steps, in their order. The width is the largest degree.
pub record Shows (h : Head) (steps : List Step) (m : Meaning) : Type 0 where
  pub extent : m.extent ≡ h.states
  pub root : m.root ≡ h.root
  pub range : m.range ≡ h.range
  pub degree : (s : ℕ) → m.degree s ≡ length (steps_at s steps)
  pub label : (s k : ℕ) → k < length (steps_at s steps) → m.label s k ≡ (step_of steps s k).label
  pub landing : (s k v : ℕ) → k < length (steps_at s steps) → v < h.range → m.landing s k v ≡ slice_index (step_of steps s k).landings (cond (is_receive (step_of steps s k).label) v 0)
  pub width_above : (s : ℕ) → m.degree s ≤ m.width
  pub width_met : (s : ℕ) × (m.degree s ≡ m.width)
