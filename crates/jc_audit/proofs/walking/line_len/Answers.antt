use Rattle.std.proofs.Common.{◌∙◌, length, refl, sym}
use Rattle.jc_audit.proofs.TakeFacts.{begins_len, begins_not}
use Rattle.jc_audit.proofs.walking.line_len.Goals as goal

pub returns-then-begins_with : goal.returns-then-begins_with
returns-then-begins_with c =
    begins_len c.args.rest.now _ c.as_bytes-line.result.now (length c.as_bytes-line.result.now) (c.as_bytes-line.ensures.value ∙ c.in_ok-text.ensures) refl
    (sym c.begins_with.ensures ∙ c.if-begins_with.true)

pub returns : goal.returns
returns c =
    begins_not c.args.rest.now _ c.as_bytes-line.result.now (c.as_bytes-line.ensures.value ∙ c.in_ok-text.ensures)
    (sym c.begins_with.ensures ∙ c.if-begins_with.false)
