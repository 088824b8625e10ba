-- What a source means: its answers to the seven questions; and the laws that they keep.
use Rattle.std.specs.Prelude.{◌≡◌, ℕ, ◌^◌, ◌<◌, ◌≤◌, false}
use Rattle.source.specs.declared.label.Label.{Label}
use Rattle.source.specs.declared.label.Label.TheVariants.{Silent}
use Rattle.source.specs.Labels.{Fits, is_receive}

-- the seven answers: four numbers, and three that depend on a state, on a step, on a value
pub record Meaning : Type 0 where
  pub extent : ℕ
  pub root : ℕ
  pub range : ℕ
  pub width : ℕ
  pub degree : ℕ → ℕ
  pub label : ℕ → ℕ → Label
  pub landing : ℕ → ℕ → ℕ → ℕ

-- all that a source owes
pub record Lawful (m : Meaning) : Type 0 where
  -- there are 1 to 2^30 states, and the root is one of them
  pub some_state : 1 ≤ m.extent
  pub few_states : m.extent ≤ 2 ^ 30
  pub root_inside : m.root < m.extent
  -- there are 1 to 32 values
  pub some_value : 1 ≤ m.range
  pub few_values : m.range ≤ 32
  -- no state has more steps than the width, which is at most 4096
  pub narrow : m.width ≤ 4096
  pub degree_within : (s : ℕ) → m.degree s ≤ m.width
  -- channels and sent values are within their bounds
  pub label_fits : (s k : ℕ) → Fits m.range (m.label s k)
  -- every landing is a state
  pub landing_inside : (s k v : ℕ) → m.landing s k v < m.extent
  -- a silent step and a send land at one state, whatever the value of the range
  pub one_landing : (s k v w : ℕ) → is_receive (m.label s k) ≡ false → v < m.range → w < m.range → m.landing s k v ≡ m.landing s k w
  -- what is answered where there is no such state, no such step, no such value
  pub no_state : (s : ℕ) → m.extent ≤ s → m.degree s ≡ 0
  pub no_step : (s k : ℕ) → m.degree s ≤ k → m.label s k ≡ Silent
  pub no_step_lands : (s k v : ℕ) → m.degree s ≤ k → m.landing s k v ≡ m.root
  pub no_value_lands : (s k v : ℕ) → m.range ≤ v → m.landing s k v ≡ m.root

-- the still source of a range: one state, no step
abbrev pub still : ℕ → Meaning
still range = record {
  extent = 1;
  root = 0;
  range = range;
  width = 0;
  degree = λ s. 0;
  label = λ s k. Silent;
  landing = λ s k v. 0;
}
