use Rattle.std.proofs.Common.{◌≡◌, None, ◌∙◌, arith, rules}
use Rattle.std.proofs.lemmas.Str.Pattern.{starts_char}
use Rattle.std.proofs.lemmas.Bool.{both_ways}
use Rattle.table_text.specs.Words.{value_of}
use Rattle.table_text.proofs.Numbers.{parsed_value, reads_value}
use Rattle.table_text.proofs.number.number.Goals as goal

pub returns : goal.returns
returns g c =
    let plus = starts_char 43 c.args.word.now c.starts_with.result c.starts_with.ensures.cases (omega arith) (omega arith) in
    let read : c.ok.result ≡ value_of g.N.Unsigned.bits g.N.Unsigned.value c.args.word.now = c.ok.ensures.value ∙ parsed_value g.N.Unsigned.bits g.N.Unsigned.value c.args.word.now c.parse.result (g.met.N.Unsigned.parses c.args.word.now c.parse.result c.parse.ensures.value) (λ e. both_ways c.starts_with.result c.if-starts_with.false (plus.1 e)) in
    record { value = read; spelled = reads_value g.N.Unsigned.bits g.N.Unsigned.value c.args.word.now c.ok.result g.N.Unsigned.small read }

pub returns-then-starts_with-clause-spelled : goal.returns-then-starts_with-clause-spelled
returns-then-starts_with-clause-spelled g c =
    let nothing : None ≡ value_of g.N.Unsigned.bits g.N.Unsigned.value c.args.word.now = search rules in
    reads_value g.N.Unsigned.bits g.N.Unsigned.value c.args.word.now None g.N.Unsigned.small nothing
