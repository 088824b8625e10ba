-- The words that spell a row are read as that row.
use Rattle.std.proofs.Common.{◌≡◌, ℕ, zero, suc, ◌<◌, Some, Ok, refl, arith}
use Rattle.table.specs.declared.row.Row.{Row}
use Rattle.table_text.specs.Spelled.{kind_word, row_words, Spellable}
use Rattle.table_text.specs.Words.{kind_of, row_of}
use Rattle.table_text.proofs.Numbers.{written_number}

written_kind : (kind : ℕ) → kind < 3 → kind_of (kind_word kind) ≡ Some kind
written_kind zero l = refl
written_kind (suc zero) l = refl
written_kind (suc (suc zero)) l = refl
written_kind (suc (suc (suc n))) l = absurd (omega arith)

pub written_row : (row : Row) → Spellable row → row_of (row_words row) ≡ Ok row
written_row row s =
    rw (
      written_number 32 row.from (omega arith) s.from,
      written_kind row.kind s.kind,
      written_number 8 row.channel (omega arith) s.channel,
      written_number 8 row.value (omega arith) s.value,
      written_number 32 row.to (omega arith) s.to,
    )
