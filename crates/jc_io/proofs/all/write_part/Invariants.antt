-- The sink got the bytes up to `at`.
use Rattle.std.proofs.Common.{◌≡◌, ◌≤◌, ◌-◌, length, take}
use Rattle.std.specs.Io.KnownBytes.{Appends}
use Rattle.jc_io.proofs.all.write_part.Given as goal

abbrev pub invariant-writing : goal.invariant-writing
invariant-writing g l = record {
  within : l.at ≤ length l.bytes;
  written : Appends (g.K.Sink.held l.fn.sink) (g.K.Sink.held l.sink) (take l.at l.bytes);
  later : g.K.Sink.faults l.fn.sink ≤ g.K.Sink.faults l.sink;
  not_finished : g.K.Sink.finished l.sink ≡ g.K.Sink.finished l.fn.sink;
}

abbrev pub decreases-writing : goal.decreases-writing
decreases-writing g l = length l.bytes - l.at
