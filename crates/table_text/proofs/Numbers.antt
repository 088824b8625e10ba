-- What `parse` reads of a word with no plus in front is the number that the word writes.
use Rattle.std.proofs.Common.{◌≡◌, ℕ, ◌^◌, ◌<◌, arith, true, List, length, get_or, Some, Ok, Err, Option, Result, refl, sym, ap, ◌∙◌, rules}
use Rattle.std.proofs.lemmas.Str.Parse.{IsNumeralModel, numerals_by_fold, parse_plain}
use Rattle.std.proofs.lemmas.Fmt.{digits_decimal, digits_value-decimal, decimal_nonempty}
use Rattle.std.specs.Fmt.{decimal}
use Rattle.std.proofs.lemmas.Grind.{common_steps}
use Rattle.std.specs.Result.{result_ok}
use Rattle.std.specs.Str.Parse.{digits_value, without_leading_plus}
use Rattle.std.specs.Str.{all_ascii_digits}
use Rattle.table_text.specs.Spelled.{ReadsValue}
use Rattle.table_text.specs.Words.{Parses, digits_after, number_of, value_of}

own : IsNumeralModel (λ ds. all_ascii_digits ds ≡ true) (digits_after 0)
own = numerals_by_fold (λ ds. all_ascii_digits ds ≡ true) (search rules) digits_after (search rules)

module _ {A : Type 0} (bits : ℕ) (value : ℕ → A) (word : List ℕ) where
  test_from : all_ascii_digits word ≡ true → 0 < length word → digits_after 0 word < 2 ^ bits → value_of bits value word ≡ Some (value (digits_after 0 word))
  test_from d some small = grind (arith, common_steps, d)

  pub parsed_value : {E : Type 0} (r : Result A E) → Parses bits value word r → (get_or word 0 0 ≡ 43 → ⊥) → result_ok r ≡ value_of bits value word
  parsed_value {E} (Ok x) h plain =
      let k = parse_plain own {E = E} bits word (Ok (digits_value 10 (without_leading_plus word))) (h.0, refl) plain in
      ap Some (h.1 ∙ ap value k.1) ∙ sym (test_from k.0.0 k.0.1 k.0.2)
  parsed_value {E} (Err e) h plain =
      let k = parse_plain own {E = E} bits word (Err e) h plain in
      grind (arith, common_steps, k)

-- the digits of a number write it
pub written_value : {A : Type 0} (bits : ℕ) (value : ℕ → A) (n : ℕ) → n < 2 ^ 64 → n < 2 ^ bits → value_of bits value (decimal n) ≡ Some (value n)
written_value bits value n wide small =
    let same : digits_after 0 (decimal n) ≡ n = digits_value-decimal own n wide in
    test_from bits value (decimal n) (digits_decimal own n wide) (decimal_nonempty n wide) (omega (arith, same, small)) ∙ ap (λ m. Some (value m)) same

pub written_number : (bits n : ℕ) → n < 2 ^ 64 → n < 2 ^ bits → number_of bits (decimal n) ≡ Some n
written_number bits n wide small = written_value bits (λ m. m) n wide small

-- so what is read of digits is their number
pub reads_value : {A : Type 0} (bits : ℕ) (value : ℕ → A) (word : List ℕ) (r : Option A) → ((n : ℕ) → n < 2 ^ bits → n < 2 ^ 64) → r ≡ value_of bits value word → ReadsValue bits value word r
reads_value bits value word r wide is n small same = is ∙ ap (value_of bits value) same ∙ written_value bits value n (wide n small) small
