-- The makers of the Jobs that the events so far made.
use Rattle.std.proofs.Common.{◌≡◌, reverse, take}
use Rattle.jc_types.specs.declared.numbers.Uid.{Uid}
use Rattle.jc_types.specs.Keys.{same_uid}
use Rattle.jc_log.specs.Tables.{at}
use Rattle.jc_reap.specs.Makers.{maker}
use Rattle.jc_reap.proofs.makers.makers.Given as goal

abbrev pub invariant-loop-past : goal.invariant-loop-past
invariant-loop-past l = (u : Uid) → at same_uid l.makers u ≡ maker l.commands (reverse (take l.past-index l.events)) u
