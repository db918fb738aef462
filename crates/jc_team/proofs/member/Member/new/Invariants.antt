use Rattle.std.proofs.Common.{◌≡◌, replicate, None}
use Rattle.jc_team.proofs.member.Member.new.Given as goal

-- So many workers so far.
abbrev pub invariant-loop : goal.invariant-loop
invariant-loop l = record {
  registers : l.registers.items ≡ replicate l.counter None;
  faults : l.faults.items ≡ replicate l.counter None;
}
