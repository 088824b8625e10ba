-- The lines that have come are counted, and the numbers that are kept are of such lines.
use Rattle.std.proofs.Common.{◌≡◌, ◌≤◌, length}
use Rattle.std.specs.Str.Lines.{lines}
use Rattle.table_text.specs.LineNumbers.{RisingLines}
use Rattle.table_text.proofs.text.read_text.Given as goal

abbrev pub invariant-loop-before : goal.invariant-loop-before
invariant-loop-before l = record {
  come : l.count ≡ length l.yielded;
  within : l.count ≤ length (lines l.text);
  rising : RisingLines l.count l.reader.numbered.lines.items;
}
