use Rattle.std.proofs.Common.{◌≡◌, ◌+◌, ◌<◌, [], ◌∷◌, length, refl, arith, rules, length-append}
use Rattle.std.proofs.lemmas.Result.{err_from_is_err_and}
use Rattle.std.specs.Str.Lines.{lines}
use Rattle.table_text.specs.LineNumbers.{RisingLines}
use Rattle.table_text.proofs.CountedLines.{line_comes}
use Rattle.table_text.proofs.RisingNumbers.{rising_wider, rising_adds}
use Rattle.table_text.proofs.ToldLines.{told_line}
use Rattle.table_text.proofs.text.read_text.Goals as goal
use Rattle.table_text.proofs.text.read_text.Goals.{then-not-is_empty+in_ok-read, else-not-is_empty}

pub loop-before-preserved : goal.loop-before-preserved
loop-before-preserved c =
    let before = c.in-Some.before in
    let numbers = c.loop-before.reader.numbered.lines.items in
    let next : (before ≡ length c.loop-before.yielded) × (length c.loop-before.yielded < length (lines c.args.text.now)) = line_comes c.args.text.now c.into_iter-before-iterator.result (search rules) (search rules) c.loop-before.yielded c.loop-before.before-iterator c.loop-before.yielded_by c.next.new.self (before, c.in-Some.line) c.in-Some.ensures.steps in
    let kept : RisingLines before numbers = rising_wider c.loop-before.count before numbers (omega (arith, next.0, c.loop-before.invariant.come)) c.loop-before.invariant.rising in
    record {
      come = omega (arith, next.0, length-append c.loop-before.yielded ((before, c.in-Some.line) ∷ []));
      within = omega (arith, next.0, next.1);
      rising = elim c.if-not-is_empty.branch [
        | then-not-is_empty+in_ok-read w ↦ rw w.reader-is (rising_adds before (before + 1) numbers w.read.new.self.numbered.lines.items refl kept w.in_ok-read.ensures.lines)
        | else-not-is_empty w ↦ rw w.reader-is (rising_wider before (before + 1) numbers (omega arith) kept)
      ];
    }

pub returns-in_err-read-clause-told : goal.returns-in_err-read-clause-told
returns-in_err-read-clause-told c =
    let come = line_comes c.args.text.now c.into_iter-before-iterator.result (search rules) (search rules) c.loop-before.yielded c.loop-before.before-iterator c.loop-before.yielded_by c.next.new.self (c.in-Some.before, c.in-Some.line) c.in-Some.ensures.steps in
    let passed = err_from_is_err_and c.from_residual-in_err-read.result c.from_residual-in_err-read.ensures.1 in
    rw (passed.1, passed.2)
    (told_line (length (lines c.args.text.now)) (c.in-Some.before + 1) c.in_err-read.field-0.0 (omega arith) (omega (arith, come.0, come.1)) c.in_err-read.ensures.told)

pub returns-in-Ok-clause-rising : goal.returns-in-Ok-clause-rising
returns-in-Ok-clause-rising c = rising_wider _ _ _ c.loop-before.invariant.within c.loop-before.invariant.rising
