-- The lines of the events before the place.
use Rattle.std.proofs.Common.{◌≡◌, map, string_bytes, take}
use Rattle.jc_lines.specs.Events.{event_lines}
use Rattle.jc_log.specs.Deeds.{deed}
use Rattle.jc_lines.proofs.reports.events_text.Given as goal

abbrev pub invariant-loop-place : goal.invariant-loop-place
invariant-loop-place l = string_bytes l.text ≡ event_lines 1 (map (deed l.script) (take l.place l.events))
