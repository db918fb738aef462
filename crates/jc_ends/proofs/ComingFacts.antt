-- What is still to come falls with each turn.
use Rattle.std.proofs.Common.{◌≡◌, ℕ, ◌<◌, List, ◌∷◌, ◌++◌, length, refl, sym, ap, ◌∙◌, subst, arith}
use Rattle.jc_types.specs.declared.objects.Entry.{Entry}
use Rattle.jc_types.specs.declared.objects.Entry.TheVariants.{JobPut}
use Rattle.jc_states.specs.declared.bases.Basis.{Basis}
use Rattle.jc_log.specs.Log.{job_in, pods_under}
use Rattle.jc_log.specs.Requests.{with_status}
use Rattle.jc_log.proofs.LogFacts.{upto-all}
use Rattle.jc_history.specs.Notes.{Note}
use Rattle.jc_calm.specs.SettleTurns.{SawAll, notes_of_nothing}
use Rattle.jc_coming.specs.Drafts.{statuses_to_come}
use Rattle.jc_coming.specs.Moments.{ShowsAll, keys_to_come, moments_to_come}
use Rattle.jc_coming.proofs.ClockFacts.{moments-fall, statuses-fall}
use Rattle.jc_coming.proofs.DraftFacts.{statuses-fewer}
use Rattle.jc_coming.proofs.KeyTurns.{due-fall, keys-fall, keys-stay}
use Rattle.jc_ends.proofs.FallFacts.{FallWithTurns}

-- A sync that saw the whole log shows all of it.
module _ (notes : List Note) (log : List Entry) (now : ℕ) (basis : Basis) (saw : SawAll notes log now basis) where
  shows-all : ShowsAll notes log basis
  shows-all = record {
    job = ap (λ (x : Basis). x.job) saw ∙ ap (job_in basis.key) (upto-all (length log) log (omega arith));
    pods = ap (λ (x : Basis). x.pods) saw ∙ ap (pods_under basis.key) (upto-all (length log) log (omega arith));
    backed_off = ap (λ (x : Basis). x.backoff) saw;
  }

  now-is : basis.now ≡ now
  now-is = ap (λ (x : Basis). x.now) saw

pub coming-falls : FallWithTurns statuses_to_come moments_to_come keys_to_come
coming-falls = record {
  written = λ notes log now basis job status saw this tidy creates marks let_goes releases first.
      let all = shows-all notes log now basis saw in
      subst (λ n. statuses_to_come n (JobPut (with_status log job status) ∷ log) < statuses_to_come n log) (now-is notes log now basis saw)
      (statuses-fewer log job basis status this (sym all.job ∙ this) all.pods tidy (record { creates = creates; marks = marks; let_goes = let_goes; releases = releases }) first);
  no_status = λ now later log. statuses-fall now later log;
  no_moment = λ now later log notes. moments-fall now later log notes;
  no_key = λ now later log notes le idle same. keys-stay now later log notes le same idle;
  due_key = λ now later log notes due le idle least come same. due-fall now later log notes le same idle due least come;
  same_moments = λ notes log now w basis. refl;
  one_key = λ notes log now w basis rest first saw unneeded.
      subst (λ n. keys_to_come n log (notes_of_nothing w basis now ++ notes) < keys_to_come n log notes) (now-is notes log now basis saw)
      (keys-fall w now log notes basis rest first (shows-all notes log now basis saw) unneeded);
}
