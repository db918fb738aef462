use Rattle.std.proofs.Common.{◌≡◌, [], rules}
use Rattle.json.specs.Json.{value}
use Rattle.json.specs.Lex.{tokens}
use Rattle.jc_json.proofs.Lines.{whole_nests}
use Rattle.jc_json.proofs.Reading.{whole_read}
use Rattle.jc_json.proofs.reader.read_all.Goals as goal

pub returns-clause-nests : goal.returns-clause-nests
returns-clause-nests c =
    let none : c.read.new.reader ≡ [] = search rules in
    let read = rw (c.of-reader.ensures, c.in_ok-tape.ensures.ok, none) at c.in_ok-value.ensures.ok in
    whole_nests c.args.text.now _ (whole_read (value 127 (tokens c.args.text.now)) _ read)
