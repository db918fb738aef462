-- The lines of the events before the place went out, and those that were put together stand ahead.
use Rattle.std.proofs.Common.{◌≡◌, ◌+◌, ◌≤◌, drop, map, string_bytes, take}
use Rattle.std.specs.String.{string_capacity}
use Rattle.jc_log.specs.Deeds.{deed}
use Rattle.jc_lines.specs.Events.{event_lines}
use Rattle.jc_lines.specs.LongLines.{page_len}
use Rattle.jc_report.specs.Sent.{Sends}
use Rattle.jc_report.proofs.AheadFacts.{Ahead}
use Rattle.jc_report.proofs.drafted.send_lines.Given as goal

abbrev pub invariant-loop-place : goal.invariant-loop-place
invariant-loop-place g l = record {
  sends : Sends (g.K.Sink.held l.fn.sink) (string_bytes l.fn.page) (g.K.Sink.held l.sink) (string_bytes l.page)
      (event_lines 1 (map (deed l.lines.script.now) (take l.place l.events)));
  ahead : Ahead (l.place + 1) (map (deed l.lines.script.now) (drop l.place l.events)) l.taken.at l.taken.count l.lines.long.now
      l.lines.ends.now;
  room : page_len ≤ string_capacity l.page;
  later : g.K.Sink.faults l.fn.sink ≤ g.K.Sink.faults l.sink;
  not_finished : g.K.Sink.finished l.sink ≡ g.K.Sink.finished l.fn.sink;
}
