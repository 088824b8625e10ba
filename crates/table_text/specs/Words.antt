-- What the words of a line say. A word is the list of its bytes.
use Rattle.std.specs.Prelude.{ℕ, ◌+◌, ◌-◌, ◌*◌, ◌^◌, cond, ◌&&◌, ◌<◌, List, [], ◌∷◌, map, length, Some, None, Ok, Err, codes, Option, Result, ok_or, option_map, nat_le, nat_lt, slice_index_or}
use Rattle.std.specs.Borrow.{Bor}
use Rattle.std.specs.Result.{OkIff}
use Rattle.std.specs.Str.{all_ascii_digits, bytes_eq}
use Rattle.std.specs.Str.Parse.{IsNumeral, digits_value, without_leading_plus}
use Rattle.table.specs.Kinds.{kind_number}
use Rattle.table.specs.declared.kind.Kind.{Kind as RowKind}
use Rattle.table.specs.declared.kind.Kind.TheVariants.{Silent, Send, Receive}
use Rattle.table.specs.declared.row.Row.{Row}
use Rattle.table_text.specs.declared.expected.Expected.{Expected}
use Rattle.table_text.specs.declared.expected.Expected.TheVariants.{From, Kind, Channel, Value, To, LineEnd}

-- the number that decimal digits write, behind the number n
abbrev pub digits_after : ℕ → List ℕ → ℕ
digits_after n [] = n
digits_after n (c ∷ cs) = digits_after (10 * n + (c - 48)) cs

-- what `parse` answers at a type of numbers of so many bits, whose value of a number n is `value n`: a plus may stand first
abbrev pub Parses : {A E : Type 0} → ℕ → (ℕ → A) → List ℕ → Result A E → Type 0
Parses bits value word r = OkIff r (IsNumeral 10 (without_leading_plus word) × (digits_value 10 (without_leading_plus word) < 2 ^ bits)) (value (digits_value 10 (without_leading_plus word)))

-- the value of the number that a word writes: one digit or more, and nothing else
abbrev pub value_of : {A : Type 0} → ℕ → (ℕ → A) → List ℕ → Option A
value_of bits value word = cond (nat_lt 0 (length word) && (all_ascii_digits word && nat_lt (digits_after 0 word) (2 ^ bits))) (Some (value (digits_after 0 word))) None

-- the number itself, as at u8 and u32
abbrev pub number_of : ℕ → List ℕ → Option ℕ
number_of bits word = value_of bits (λ n. n) word

-- the kind that a word names
abbrev pub named_kind : List ℕ → Option RowKind
named_kind word = cond (bytes_eq word (codes "silent")) (Some Silent) (cond (bytes_eq word (codes "send")) (Some Send) (cond (bytes_eq word (codes "receive")) (Some Receive) None))

-- the number of the kind that a word names
abbrev pub kind_of : List ℕ → Option ℕ
kind_of word = option_map kind_number (named_kind word)

-- the words of a line that refers to them
abbrev pub words_in : List (Bor (List ℕ)) → List (List ℕ)
words_in words = map (λ w. w.now) words

-- the word at a place, an empty one past the end
abbrev pub word_in : List (List ℕ) → ℕ → List ℕ
word_in words i = slice_index_or words i []

-- the value goes on, what was expected stays
abbrev pub and_then : {A B : Type 0} → Result A Expected → (A → Result B Expected) → Result B Expected
and_then (Ok x) f = f x
and_then (Err expected) f = Err expected

-- nothing, if the line has no more words than these
abbrev pub no_more : List (List ℕ) → ℕ → Result (Unit {0}) Expected
no_more words most = cond (nat_le (length words) most) (Ok tt) (Err LineEnd)

-- a line of a name and a number of so many bits: its value
abbrev pub set_value : {A : Type 0} → ℕ → (ℕ → A) → List ℕ → Expected → List (List ℕ) → Result A Expected
set_value bits value name expected words =
    cond (bytes_eq (word_in words 0) name)
    (and_then (ok_or (value_of bits value (word_in words 1)) expected) λ x.
    and_then (no_more words 2) λ _.
    Ok x)
    (Err expected)

-- the number itself, as at u8 and u32
abbrev pub setting_of : ℕ → List ℕ → Expected → List (List ℕ) → Result ℕ Expected
setting_of bits name expected words = set_value bits (λ n. n) name expected words

-- a line of five words: a row
abbrev pub row_of : List (List ℕ) → Result Row Expected
row_of words =
    and_then (ok_or (number_of 32 (word_in words 0)) From) λ from.
    and_then (ok_or (kind_of (word_in words 1)) Kind) λ kind.
    and_then (ok_or (number_of 8 (word_in words 2)) Channel) λ channel.
    and_then (ok_or (number_of 8 (word_in words 3)) Value) λ value.
    and_then (ok_or (number_of 32 (word_in words 4)) To) λ to.
    and_then (no_more words 5) λ _.
    Ok (record { from = from; kind = kind; channel = channel; value = value; to = to })
