-- The lines of the events before the place that are not short.
use Rattle.std.proofs.Common.{string_bytes}
use Rattle.jc_lines.proofs.Texts.{Drafted}
use Rattle.jc_lines.proofs.drafts.draft_lines.Given as goal

abbrev pub invariant-loop-place : goal.invariant-loop-place
invariant-loop-place l = Drafted l.script l.events l.place (string_bytes l.long) l.ends.items
