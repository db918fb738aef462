use Rattle.std.proofs.Common.{[]}
use Rattle.std.specs.Option.{option_map_or}
use Rattle.jc_reap.specs.TtlLines.{entries_of}
use Rattle.jc_reap.proofs.TtlReading.{taken}
use Rattle.jc_reap.proofs.ttls.take_line.Goals as goal

pub returns-in_ok-add_given-in-Ok-clause-read : goal.returns-in_ok-add_given-in-Ok-clause-read
returns-in_ok-add_given-in-Ok-clause-read c =
    taken c.args.shape.now c.args.number c.args.ttls.now (option_map_or entries_of c.in-Ok.given []) c.add_given.new.ttls c.args.line.now
    c.in-Ok.ensures c.in_ok-add_given-in-Ok.ensures
