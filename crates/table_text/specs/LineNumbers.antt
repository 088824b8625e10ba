-- Which lines of a text are told. Lines are counted from 1.
use Rattle.std.specs.Prelude.{◌≡◌, ℕ, ◌+◌, ◌<◌, ◌≤◌, ◌⊎◌, List, [], ◌∷◌, ◌++◌, length, slice_index}
use Rattle.table_text.specs.declared.expected.TextFault.{TextFault}
use Rattle.table_text.specs.declared.expected.TextFault.TheVariants.{Line, Memory}

-- these are numbers of lines of a text with so many, and they rise
pub record RisingLines (most : ℕ) (numbers : List ℕ) : Type 0 where
  pub counted : (i : ℕ) → i < length numbers → 1 ≤ slice_index numbers i
  pub within : (i : ℕ) → i < length numbers → slice_index numbers i ≤ most
  pub rising : (i j : ℕ) → i < j → j < length numbers → slice_index numbers i < slice_index numbers j

-- the line that a fault tells is one of the text's, or the one behind its last
abbrev pub TellsALine : ℕ → TextFault → Type 0
TellsALine most (Line line expected) = (1 ≤ line) × (line ≤ most + 1)
TellsALine most Memory = Unit {0}

-- the line that a fault tells, if it tells one, is this one
abbrev pub Tells : ℕ → TextFault → Type 0
Tells line (Line other expected) = other ≡ line
Tells line Memory = Unit {0}

-- the number was added behind the others, or nothing was
abbrev pub AddsAtMost : ℕ → List ℕ → List ℕ → Type 0
AddsAtMost line before after = (after ≡ before) ⊎ (after ≡ before ++ line ∷ [])
