-- A letter and at most ten digits are a name.
use Rattle.std.proofs.Common.{rules}
use Rattle.std.proofs.lemmas.Fmt.{length-decimal-le}
use Rattle.jc_gen.proofs.generator.job_key.Goals as goal

pub from_string-name-requires-clause-short : goal.from_string-name-requires-clause-short
from_string-name-requires-clause-short c = search (rules, length-decimal-le 10)
