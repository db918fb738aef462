use Rattle.std.proofs.Common.{◌≡◌, take}
use Rattle.std.specs.Option.{option_or}
use Rattle.jc_types.specs.declared.numbers.Uid.{Uid}
use Rattle.jc_types.specs.Keys.{same_uid}
use Rattle.jc_log.specs.Tables.{at}
use Rattle.jc_verdicts.specs.Verdicts.{EndsAt, outcome_in}
use Rattle.jc_verdicts.proofs.rows.add_outcomes.Given as goal

-- The outcomes so far are those that were known, and else those of the rows before the index.
abbrev pub invariant-loop-row : goal.invariant-loop-row
invariant-loop-row l = record {
  outcomes : (u : Uid) → at same_uid l.known.entries u
      ≡ option_or (at same_uid l.fn.known.entries u) (outcome_in (take l.row-index l.rows) u);
  last : EndsAt l.last (at same_uid l.known.entries);
}
