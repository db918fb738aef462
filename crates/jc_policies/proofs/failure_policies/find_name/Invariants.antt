use Rattle.std.proofs.Common.{◌≡◌, drop}
use Rattle.jc_rows.specs.Templates.{is_among}
use Rattle.jc_policies.proofs.failure_policies.find_name.Given as goal

-- none of the names so far is the text
abbrev pub invariant-loop-name : goal.invariant-loop-name
invariant-loop-name l = is_among (drop l.name-index l.names) l.text ≡ is_among l.names l.text
