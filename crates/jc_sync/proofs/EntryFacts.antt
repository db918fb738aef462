-- The entries that requests on pods append.
use Rattle.std.proofs.Common.{◌≡◌, Bool, true, false, cond, List, ◌∷◌, length, Option, Some, None, refl, sym, ap, ◌∙◌, arith, true≢false}
use Rattle.jc_types.specs.declared.objects.Entry.{Entry}
use Rattle.jc_types.specs.declared.objects.Entry.TheVariants.{JobPut, JobGone, PodPut, PodGone}
use Rattle.jc_types.specs.declared.objects.Pod.{Pod}
use Rattle.jc_types.specs.declared.replies.Answer.{Answer}
use Rattle.jc_types.specs.declared.replies.Request.{Request}
use Rattle.jc_types.specs.declared.replies.Reply.TheVariants.{Stepped}
use Rattle.jc_log.specs.Requests.{pod_entry}
use Rattle.jc_log.specs.Deeds.{Deed}
use Rattle.jc_log.specs.Log.{Life, Never, Live, is_never, life}
use Rattle.jc_states.specs.Pods.{goes}
use Rattle.jc_log.specs.Writes.{IsOwned, Stored}
use Rattle.jc_ledger.specs.EventKinds.{AppendsNoEntry, IsWritten, pod_of}
use Rattle.jc_ledger.specs.Syncs.{began_of}
use Rattle.jc_ledger.specs.Tied.{StandsWithin}
use Rattle.jc_ledger.proofs.QuietFacts.{IfSome-absent}

-- A write of a pod puts it or takes it away.
pub pod_entry-pod : (pod : Pod) → pod_of (pod_entry pod) ≡ Some pod
pod_entry-pod pod = by (goes pod)
  where
    by : (b : Bool) → pod_of (cond b (PodGone pod) (PodPut pod)) ≡ Some pod
    by true = refl
    by false = refl

-- A pod that is there is not made.
pub not_never : {l : Life} {pod : Pod} → l ≡ Never → l ≡ Live pod → ⊥
not_never never live = true≢false (sym (ap is_never never) ∙ ap is_never live)

-- So the entry makes none.
pub owned-live : (log : List Entry) (e : Entry) (pod old : Pod) → pod_of e ≡ Some pod → life pod.uid log ≡ Live old → IsOwned log e
owned-live log (JobPut job) pod old is there = tt
owned-live log (JobGone job) pod old is there = tt
owned-live log (PodPut new) pod old is there = λ never. absurd (not_never never (ap (λ (p : Pod). life p.uid log) (same_pod is) ∙ there))
  where
    same_pod : Some new ≡ Some pod → new ≡ pod
    same_pod e = ap (λ (o : Option Pod). elim o [ None ↦ new | Some p ↦ p ]) e
owned-live log (PodGone gone) pod old is there = tt

-- A step's deed appended the entry.
pub written-by : (d : Deed) (log : List Entry) (e : Entry) (asked : Request) (given : Answer) → d.reply ≡ Stepped asked given → d.length.0 ≡ length (e ∷ log) → Stored (e ∷ log) → IsOwned log e → IsWritten d log e
written-by d log e asked given reply grown stored owned = record {
  grown = omega (arith, grown);
  began = ap began_of reply;
  allowed = record { writes = stored.0; owned = owned };
}

-- Or nothing.
pub quiet-by : (d : Deed) (log : List Entry) → began_of d.reply ≡ None → d.length.0 ≡ length log → AppendsNoEntry d log
quiet-by d log none still = record { still = still; within = IfSome-absent (began_of d.reply) (StandsWithin (length log)) none }
