-- Counting and choosing among the numbers below a bound by a test.
use Rattle.std.specs.Prelude.{◌≡◌, ℕ, zero, suc, ◌<◌, ◌≤◌, Bool, true, false, cond, ◌&&◌, Some, None, Option, ◌==◌}

-- how many numbers below n pass
abbrev pub count : (ℕ → Bool) → ℕ → ℕ
count p zero = 0
count p (suc n) = cond (p n) (suc (count p n)) (count p n)

-- the number below n that passes after exactly k others
abbrev pub chosen : (ℕ → Bool) → ℕ → ℕ → Option ℕ
chosen p zero k = None
chosen p (suc n) k = cond (p n && count p n == k) (Some n) (chosen p n k)

-- i is below n and passes, after exactly k others
pub record Chosen (p : ℕ → Bool) (n k i : ℕ) : Type 0 where
  pub below : i < n
  pub passes : p i ≡ true
  pub after : count p i ≡ k

-- Choosing undoes counting. Whatever passes after exactly k others is what is chosen, and what is
-- chosen passes so; none is chosen exactly where no more than k pass.
pub record Undoes (p : ℕ → Bool) (n k : ℕ) (r : Option ℕ) : Type 0 where
  pub picks : (i : ℕ) → Chosen p n k i → r ≡ Some i
  pub picked : (i : ℕ) → r ≡ Some i → Chosen p n k i
  pub few : r ≡ None → count p n ≤ k
  pub none : count p n ≤ k → r ≡ None

-- i is the least number below n that passes
pub record Least (p : ℕ → Bool) (n i : ℕ) : Type 0 where
  pub below : i < n
  pub passes : p i ≡ true
  pub none_before : (j : ℕ) → j < i → p j ≡ false

-- the least number that passes, or none where none does
abbrev pub First : (ℕ → Bool) → ℕ → Option ℕ → Type 0
First p n None = (j : ℕ) → j < n → p j ≡ false
First p n (Some i) = Least p n i

-- below n, what passes stays passing
abbrev pub Rising : (ℕ → Bool) → ℕ → Type 0
Rising p n = (i j : ℕ) → i ≤ j → j < n → p i ≡ true → p j ≡ true

-- r splits the numbers below n: none below it passes, and all from it on pass
pub record Split (p : ℕ → Bool) (n r : ℕ) : Type 0 where
  pub within : r ≤ n
  pub fails : (j : ℕ) → j < r → p j ≡ false
  pub passes : (j : ℕ) → r ≤ j → j < n → p j ≡ true
