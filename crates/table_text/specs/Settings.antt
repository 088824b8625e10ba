-- What one line after another says: the three settings in their order, and then rows.
use Rattle.std.specs.Prelude.{ℕ, List, Some, None, Ok, Err, codes, Option, Result}
use Rattle.table.specs.declared.row.Head.{Head}
use Rattle.table.specs.declared.row.Row.{Row}
use Rattle.table_text.specs.declared.expected.Expected.{Expected}
use Rattle.table_text.specs.declared.expected.Expected.TheVariants.{States as NoStates, Range as NoRange, Root as NoRoot}
use Rattle.table_text.specs.declared.text.Place.{Place}
use Rattle.table_text.specs.declared.text.Place.TheVariants.{States, Range, Root, Rows}
use Rattle.table_text.specs.Words.{and_then, setting_of, row_of}

-- the head, once it is whole, or the setting that is still to come first
abbrev pub head_at : Place → Result Head Expected
head_at States = Err NoStates
head_at (Range states) = Err NoRange
head_at (Root states range) = Err NoRoot
head_at (Rows head) = Ok head

-- a line that leads to another place, and may be a row
pub record Set : Type 0 where
  pub place : Place
  pub row : Option Row

-- what a line says at a place: it is one number more of the head, or a row, or not as expected
abbrev pub line_at : Place → List (List ℕ) → Result Set Expected
line_at States words = and_then (setting_of 32 (codes "states") NoStates words) λ states. Ok (record { place = Range states; row = None })
line_at (Range states) words = and_then (setting_of 8 (codes "range") NoRange words) λ range. Ok (record { place = Root states range; row = None })
line_at (Root states range) words = and_then (setting_of 32 (codes "root") NoRoot words) λ root. Ok (record { place = Rows (record { states = states; range = range; root = root }); row = None })
line_at (Rows head) words = and_then (row_of words) λ row. Ok (record { place = Rows head; row = Some row })

-- what is answered of such a line, and the place after it: where it is not as expected, the place stays
abbrev pub told_row : Result Set Expected → Result (Option Row) Expected
told_row (Ok set) = Ok set.row
told_row (Err expected) = Err expected

abbrev pub next_place : Place → Result Set Expected → Place
next_place place (Ok set) = set.place
next_place place (Err expected) = place
