-- How a row is spelled in words, numbers in decimal digits: such words are read as that row.
use Rattle.std.specs.Prelude.{◌≡◌, ℕ, zero, suc, ◌^◌, ◌<◌, List, [], ◌∷◌, Some, Ok, Option, Result, codes, decimal}
use Rattle.table.specs.declared.row.Row.{Row}
use Rattle.table_text.specs.declared.expected.Expected.{Expected}

-- the word of a kind
abbrev pub kind_word : ℕ → List ℕ
kind_word zero = codes "silent"
kind_word (suc zero) = codes "send"
kind_word (suc (suc n)) = codes "receive"

abbrev pub row_words : Row → List (List ℕ)
row_words row = decimal row.from ∷ kind_word row.kind ∷ decimal row.channel ∷ decimal row.value ∷ decimal row.to ∷ []

-- a row that can be spelled: its kind has a word, and its numbers have room
pub record Spellable (row : Row) : Type 0 where
  pub from : row.from < 2 ^ 32
  pub kind : row.kind < 3
  pub channel : row.channel < 2 ^ 8
  pub value : row.value < 2 ^ 8
  pub to : row.to < 2 ^ 32

-- the value of a number of so many bits is read from its digits
abbrev pub ReadsValue : {A : Type 0} → ℕ → (ℕ → A) → List ℕ → Option A → Type 0
ReadsValue bits value word r = (n : ℕ) → n < 2 ^ bits → word ≡ decimal n → r ≡ Some (value n)

-- a row is read from the words that spell it
abbrev pub ReadsRow : List (List ℕ) → Result Row Expected → Type 0
ReadsRow words r = (row : Row) → Spellable row → words ≡ row_words row → r ≡ Ok row
