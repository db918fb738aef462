-- The examples, each of which computes.
use Rattle.std.proofs.Common.{refl}
use Rattle.jc_retries.proofs.laws.retries_are_worked_out.Goals as goal

pub returns : goal.returns
returns c = record { none = λ job pod. refl; two = λ job pod. refl; failed = λ job pod. refl; surplus = λ job pod. refl; let_go = λ job pod. refl; spent = λ job pod. refl }
