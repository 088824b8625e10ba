-- The largest of some numbers: it is one of them, and none is above it.
use Rattle.std.proofs.Common.{◌≡◌, ℕ, zero, suc, ◌<◌, ◌≤◌, ◌⊎◌, refl, ap, inl, inr, arith}
use Rattle.std.proofs.lemmas.Bool.{cases_lt, cases_eq}
use Rattle.table.specs.Views.{largest}

pub largest_above : (f : ℕ → ℕ) (n i : ℕ) → i < n → f i ≤ largest f n
largest_above f zero i l = absurd (omega arith)
largest_above f (suc n) i l =
    elim (cases_eq i n) [
      | inl same ↦ omega (arith, ap f same)
      | inr other ↦ omega (arith, largest_above f n i (omega arith))
    ]

pub largest_met : (f : ℕ → ℕ) (n : ℕ) → 1 ≤ n → (i : ℕ) × (f i ≡ largest f n)
largest_met f zero some = absurd (omega arith)
largest_met f (suc zero) some = (0, omega arith)
largest_met f (suc (suc n)) some =
    let before = largest_met f (suc n) (omega arith) in
    elim (cases_lt (largest f (suc n)) (f (suc n))) [
      | inl less ↦ (suc n, omega arith)
      | inr most ↦ (before.0, omega (arith, before.1))
    ]

pub largest_below : (f : ℕ → ℕ) (n b : ℕ) → ((i : ℕ) → f i ≤ b) → largest f n ≤ b
largest_below f zero b below = omega arith
largest_below f (suc n) b below = omega (arith, largest_below f n b below, below n)

pub largest_same : (f g : ℕ → ℕ) (n : ℕ) → ((i : ℕ) → f i ≡ g i) → largest f n ≡ largest g n
largest_same f g zero e = refl
largest_same f g (suc n) e = omega (arith, largest_same f g n e, e n)

-- so a bound of them all that one of them meets is the largest
pub largest_is : (f : ℕ → ℕ) (n w : ℕ) → ((s : ℕ) → f s ≤ w) → (w ≡ 0) ⊎ ((s : ℕ) × (s < n) × (f s ≡ w)) → w ≡ largest f n
largest_is f n w b (inl none) = omega (arith, largest_below f n w b)
largest_is f n w b (inr met) = omega (arith, largest_below f n w b, largest_above f n met.0 met.1, met.2)
