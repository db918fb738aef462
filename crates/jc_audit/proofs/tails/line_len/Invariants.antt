use Rattle.std.proofs.Common.{◌≡◌, ◌+◌, drop}
use Rattle.jc_audit.specs.Tails.{line_len}
use Rattle.jc_audit.proofs.tails.line_len.Given as goal

-- So far no line feed has ended the line.
abbrev pub invariant-loop-i : goal.invariant-loop-i
invariant-loop-i l = l.i + line_len (drop l.i l.bytes) ≡ line_len l.bytes
