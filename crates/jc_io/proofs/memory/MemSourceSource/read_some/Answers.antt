-- The bytes that were copied are the front of what was left.
use Rattle.std.proofs.Common.{◌∙◌, ◌-◌, ap, arith, drop, length, take}
use Rattle.std.proofs.lemmas.List.{take_rest}
use Rattle.jc_io.proofs.Bytes.{copied_leave}
use Rattle.jc_io.proofs.memory.MemSourceSource.read_some.Goals as goal

pub returns-clause-bytes : goal.returns-clause-bytes
returns-clause-bytes c =
    let start = c.args.self.now.at in
    let whole = c.deref.result.now in
    copied_leave c.args.self.now.bytes.items (take (length whole - start) (drop start whole)) c.copy_front-count.new.to start c.copy_front-count.result c.args.self.now.most
    (take_rest whole start ∙ ap (drop start) c.deref.ensures.value) c.copy_front-count.ensures.copied (grind arith) (grind arith)
