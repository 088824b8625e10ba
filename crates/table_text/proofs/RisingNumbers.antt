-- Line numbers that rise: one more line may add its number behind them.
use Rattle.std.proofs.Common.{◌≡◌, ℕ, ◌+◌, ◌<◌, ◌≤◌, List, [], ◌∷◌, ◌++◌, length, inl, inr, arith, length-append}
use Rattle.std.proofs.Math.Seq.{get_or-append_seam}
use Rattle.std.proofs.lemmas.Bool.{cases_lt}
use Rattle.std.proofs.lemmas.Grind.{common_steps}
use Rattle.std.proofs.lemmas.List.{get_or_append_left}
use Rattle.table_text.specs.LineNumbers.{RisingLines, AddsAtMost}

-- the same numbers are those of a longer text
pub rising_wider : (most more : ℕ) (numbers : List ℕ) → most ≤ more → RisingLines most numbers → RisingLines more numbers
rising_wider most more numbers l r = record {
  counted = r.counted;
  within = λ i m. omega (arith, r.within i m);
  rising = r.rising;
}

rising_push : (most : ℕ) (numbers : List ℕ) → RisingLines most numbers → RisingLines (most + 1) (numbers ++ (most + 1) ∷ [])
rising_push most numbers r = record {
  counted = λ i l. grind (arith, common_steps, r.counted, get_or-append_seam numbers (most + 1) [] 0);
  within = λ i l. grind (arith, common_steps, r.within, get_or-append_seam numbers (most + 1) [] 0);
  rising = λ i j l m.
      let before : i < length numbers = omega (arith, length-append numbers ((most + 1) ∷ [])) in
      let same = get_or_append_left numbers ((most + 1) ∷ []) 0 i before in
      elim (cases_lt j (length numbers)) [
        | inl front ↦ grind (arith, common_steps, same, r.rising i j l front)
        | inr back ↦ grind (arith, common_steps, same, r.within i before, get_or-append_seam numbers (most + 1) [] 0)
      ];
}

-- the next line adds its number at most
pub rising_adds : (most line : ℕ) (before after : List ℕ) → line ≡ most + 1 → RisingLines most before → AddsAtMost line before after → RisingLines (most + 1) after
rising_adds most line before after next r (inl same) = rw same (rising_wider most (most + 1) before (omega arith) r)
rising_adds most line before after next r (inr one) = rw (one, next) (rising_push most before r)
