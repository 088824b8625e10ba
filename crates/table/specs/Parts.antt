-- The rows of one state: a part of the table, since rows are sorted by the state that they leave.
use Rattle.std.specs.Prelude.{◌≡◌, ℕ, ◌<◌, ◌≤◌, Bool, ◌&&◌, List, ◌++◌, length, slice_index_or, nat_le, nat_lt}
use Rattle.table.specs.declared.row.Row.{Row}
use Rattle.table.specs.Views.{begins, no_row}

-- whether row i leaves a state that is not below `from`
abbrev pub from_reached : List Row → ℕ → ℕ → Bool
from_reached rows from i = nat_lt i (length rows) && nat_le from (slice_index_or rows i no_row).from

-- whether row i begins a step
abbrev pub begins_in : List Row → ℕ → Bool
begins_in rows i = nat_lt i (length rows) && begins (slice_index_or rows i no_row)

-- no row leaves a smaller state than one before it
abbrev pub Sorted : List Row → Type 0
Sorted rows = (i j : ℕ) → i ≤ j → j < length rows → (slice_index_or rows i no_row).from ≤ (slice_index_or rows j no_row).from

-- the first n rows leave states below `from`, and the others do not
pub record Splits (rows : List Row) (from n : ℕ) : Type 0 where
  pub within : n ≤ length rows
  pub below : (i : ℕ) → i < n → (slice_index_or rows i no_row).from < from
  pub reached : (i : ℕ) → n ≤ i → i < length rows → from ≤ (slice_index_or rows i no_row).from

-- the rows that leave the state s, with the rows in front of them, `before` in number, and those behind them
pub record Part (rows : List Row) (s before : ℕ) (part : List Row) : Type 0 where
  pub front : List Row
  pub behind : List Row
  pub whole : rows ≡ front ++ (part ++ behind)
  pub in_front : length front ≡ before
  pub all_here : (i : ℕ) → i < length part → (slice_index_or part i no_row).from ≡ s
  pub none_in_front : (i : ℕ) → i < length front → (slice_index_or front i no_row).from < s
  pub none_behind : (i : ℕ) → i < length behind → s < (slice_index_or behind i no_row).from
