use Rattle.std.proofs.Common.{ap, ◌∙◌}
use Rattle.table_text.specs.Words.{row_of}
use Rattle.table_text.proofs.SpelledRows.{written_row}
use Rattle.table_text.proofs.line.Words.row.Goals as goal

pub returns-clause-spelled : goal.returns-clause-spelled
returns-clause-spelled c = λ row s same. c.five_words.ensures ∙ ap row_of same ∙ written_row row s
