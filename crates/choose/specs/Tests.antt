-- Closures as tests of numbers.
use Rattle.std.specs.Prelude.{◌≡◌, ℕ, ◌<◌, Bool}
use Rattle.std.specs.Borrow.{Bor}
use denote.Param.Members.{Shared}

-- the test may be called at each number below the bound
abbrev pub Callable : {F : Type 0} → Shared F (Bor ℕ × Unit {0}) Bool → F → ℕ → Type 0
Callable g test bound = (x : Bor ℕ) → x.now < bound → g.pre test (x, tt)

-- below the bound, what the test answers is whether the number has the property
abbrev pub Decides : {F : Type 0} → Shared F (Bor ℕ × Unit {0}) Bool → F → ℕ → (ℕ → Bool) → Type 0
Decides g test bound holds = (x : Bor ℕ) (r : Bool) → x.now < bound → g.post test (x, tt) r → r ≡ holds x.now
