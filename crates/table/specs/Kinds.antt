-- The numbers by which rows tell their kind.
use Rattle.std.specs.Prelude.{◌≡◌, ℕ, ◌<◌, Result, MatchResult}
use Rattle.table.specs.declared.kind.Kind.{Kind}
use Rattle.table.specs.declared.kind.Kind.TheVariants.{Silent, Send, Receive}
use Rattle.table.specs.declared.kind.UnknownKind.{UnknownKind}

-- the number of a kind
abbrev pub kind_number : Kind → ℕ
kind_number Silent = 0
kind_number Send = 1
kind_number Receive = 2

-- the answer for a number is the kind that has it, or the number itself where no kind has it
abbrev pub Numbers : ℕ → Result Kind UnknownKind → Type 0
Numbers number r = MatchResult r (λ kind. kind_number kind ≡ number) (λ e. (e.0 ≡ number) × (2 < number))
