-- The examples, each of which computes.
use Rattle.std.proofs.Common.{refl}
use Rattle.jc_making.proofs.laws.small_jobs_are_worked_out.Goals as goal

pub returns : goal.returns
returns c = record {
  none = λ job pod. refl;
  two = λ job pod. refl;
  failed = λ job pod. refl;
  replaced = λ job pod. refl;
  succeeded = λ job pod. refl;
  indexed = λ job pod. refl;
  doubled = λ job pod. refl;
}
