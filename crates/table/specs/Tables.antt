-- What a table means, as its head and its rows say it.
use Rattle.source.specs.Meaning.{Meaning}
use Rattle.table.specs.Views.{table_meaning}
use Rattle.table.specs.declared.table.Table.{Table}

abbrev pub meaning_of : Table → Meaning
meaning_of t = table_meaning t.head t.rows.now
