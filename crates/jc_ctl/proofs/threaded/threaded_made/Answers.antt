-- A bad line is that of what was read.
use Rattle.std.proofs.Common.{◌≡◌, List, ℕ, Err, ap, refl, rules, subst}
use Rattle.jc_script.specs.Scripts.{BadLine, script_of}
use Rattle.jc_script.specs.declared.scripts.ScriptFault.{ScriptFault}
use Rattle.jc_ctl.proofs.AskedFacts.{bad-same}
use Rattle.jc_single.specs.RunEnds.{AtLine}
use Rattle.jc_ctl.proofs.threaded.threaded_made.Goals as goal

pub returns-in-Err-BadLine : goal.returns-in-Err-BadLine
returns-in-Err-BadLine g c =
    let bad : BadLine = record { number = c.in-Err-BadLine.number; cause = c.in-Err-BadLine.cause } in
    AtLine c.in-Ok.bytes.items bad
    (record { all = search rules; few = search rules; taken = record { most = search rules; none = λ unread. absurd unread } })
    (bad-same c.args.threads c.args.lock c.args.shape.now c.in-Ok.bytes.items bad
    (subst (λ (input : List ℕ). script_of c.args.shape.now input ≡ Err bad) c.deref.ensures.value
    (c.in-Err-BadLine.ensures.bad_line bad.number bad.cause (ap (λ (fault : ScriptFault). Err fault) c.in-Err-BadLine.field-0-is)))) refl
