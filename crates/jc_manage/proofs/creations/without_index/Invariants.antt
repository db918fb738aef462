use Rattle.std.proofs.Common.{◌≡◌, replicate, None}
use Rattle.jc_manage.proofs.creations.without_index.Given as goal

-- So many pods so far.
abbrev pub invariant-loop : goal.invariant-loop
invariant-loop l = l.indexes ≡ replicate l.counter None
