-- Right and wrong statuses, worked out.
use Rattle.std.proofs.Common.{◌≡◌, ◌≤◌, ℕ, nat_lt, ◌&&◌, Bool, true, false, List, ap, arith, ltb-true, refl}
use Rattle.jc_types.specs.declared.objects.Entry.{Entry}
use Rattle.jc_types.specs.declared.objects.KeyNames.{KeyNames as Key}
use Rattle.jc_log.specs.Log.{job_in}
use Rattle.jc_plan.specs.Failures.{failing_in, failures_in}
use Rattle.jc_history.specs.Notes.{Note}
use Rattle.jc_history.specs.Registers.{backoff}
use Rattle.jc_coming.specs.Drafts.{next_quiet}
use Rattle.jc_coming.specs.Moments.{is_moment_of, is_moment_to_come}
use Rattle.jc_coming.proofs.laws.wrong_statuses_are_drafts.Goals as goal

none-passed : (now m : ℕ) (log : List Entry) (notes : List Note) (key : Key) → m ≤ now → is_moment_to_come now log notes key m ≡ false
none-passed now m log notes key late = by (nat_lt now m) refl
  where
    by : (b : Bool) → nat_lt now m ≡ b → is_moment_to_come now log notes key m ≡ false
    by true e = let ahead = ltb-true now m e in absurd (omega (arith, ahead, late))
    by false e = ap (λ b. b && is_moment_of (backoff key notes) m (job_in key log)) e

pub returns : goal.returns
unfolding next_quiet failing_in failures_in
returns c = record { right = λ job. refl; first = λ job. refl; second = λ job. refl; passed = none-passed }
