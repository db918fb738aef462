-- What was taken so far is what is kept, and more may come up to the limit.
use Rattle.std.proofs.Common.{◌≤◌, ◌<◌, ◌+◌, ◌-◌, vec_len}
use Rattle.std.specs.Io.KnownBytes.{Consumes}
use Rattle.jc_io.proofs.all.read_all.Given as goal

abbrev pub invariant-reading : goal.invariant-reading
invariant-reading g l = record {
  within : vec_len l.bytes ≤ l.limit;
  buffer : 0 < vec_len l.piece;
  kept : Consumes (g.S.Source.left l.fn.source) (g.S.Source.left l.source) l.bytes.items;
  later : g.S.Source.faults l.fn.source ≤ g.S.Source.faults l.source;
  turns : g.S.Source.calls l.source ≤ g.S.Source.calls l.fn.source + vec_len l.bytes;
}

abbrev pub decreases-reading : goal.decreases-reading
decreases-reading g l = l.limit + 1 - vec_len l.bytes
