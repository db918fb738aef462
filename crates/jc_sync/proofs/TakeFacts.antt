-- The releases and let-goes of a sync.
use Rattle.std.proofs.Common.{◌≡◌, ◌⊎◌, inl, inr, true, ◌&&◌, nat_le, List, ◌∷◌, ◌++◌, length, find, Option, Some, None, IsSomeAnd, refl, sym, ap, ◌∙◌, subst}
use Rattle.std.proofs.lemmas.Bool.{and_parts, leb-true}
use Rattle.jc_types.specs.declared.numbers.Uid.{Uid}
use Rattle.jc_types.specs.declared.numbers.Version.{Version}
use Rattle.jc_types.specs.declared.objects.Entry.{Entry}
use Rattle.jc_types.specs.declared.objects.Job.{Job}
use Rattle.jc_types.specs.declared.objects.Pod.{Pod}
use Rattle.jc_types.specs.declared.replies.Answer.{Answer}
use Rattle.jc_types.specs.declared.replies.Reply.TheVariants as reply
use Rattle.jc_types.specs.declared.replies.Request.{Request}
use Rattle.jc_types.specs.declared.replies.Request.TheVariants as request
use Rattle.jc_log.specs.Requests.{Answered, grown, pod_entry, without_finalizer, release_gives, let_go_gives, released}
use Rattle.jc_states.specs.Conditions.{has_target}
use Rattle.jc_log.specs.Deeds.{Deed}
use Rattle.jc_types.specs.Keys.{same_uid}
use Rattle.jc_log.specs.Log.{Live, life}
use Rattle.jc_states.specs.Owners.{is_foreign}
use Rattle.jc_states.specs.Pods.{is_tracked}
use Rattle.jc_states.specs.UidLists.{is_in}
use Rattle.jc_log.specs.Writes.{Stored}
use Rattle.jc_types.proofs.KeyFacts.{same_uid-eq}
use Rattle.jc_types.proofs.ListFacts.{find_passes}
use Rattle.jc_log.proofs.WriteFacts.{Stored-from_legal, life-uid}
use Rattle.jc_plan.specs.Accounts.{counted_in}
use Rattle.jc_plan.specs.Releases.{ReleasedPod, is_orphan}
use Rattle.jc_plan.specs.Statuses.{first_value}
use Rattle.jc_plan.proofs.OrderFacts.{released-seen}
use Rattle.jc_plan.proofs.ValueFacts.{first-fails}
use Rattle.jc_ledger.specs.declared.flights.Flight.{Flight}
use Rattle.jc_ledger.specs.EventKinds.{FinalizerWrite, TakesFinalizer, with_released}
use Rattle.jc_ledger.specs.Flights.{known, Flies}
use Rattle.jc_ledger.specs.Syncs.{began_of}
use Rattle.jc_ledger.specs.Tied.{Tied}
use Rattle.jc_ledger.proofs.DuePods.{IsDue, due_from}
use Rattle.jc_ledger.proofs.FrameFacts.{AllFly-one}
use Rattle.jc_ledger.proofs.OwnFacts.{basis-rises}
use Rattle.jc_ledger.proofs.QuietFacts.{IfSome-at, tied_quiet, tied_not_tracked}
use Rattle.jc_ledger.proofs.ReleaseFacts.{tied_released, tied_orphan, tied_let_go}
use Rattle.jc_ledger.proofs.SeenFacts.{known_since, saw}
use Rattle.jc_asks.specs.declared.asks.Ask.{Ask}
use Rattle.jc_sync.specs.SyncPlaces.{KnowsFirst, SeenActive}
use Rattle.jc_sync.proofs.ApiFacts.{ReleaseCases, Took, NotThere, release_cases, LetGoCases, LetGone, Other, Refused, let_go_cases}
use Rattle.jc_sync.proofs.EntryFacts.{owned-live, pod_entry-pod, quiet-by, written-by}
use Rattle.jc_sync.proofs.PlaceFacts.{IsReleaseAsk}
use Rattle.jc_sync.proofs.SeenFacts.{in_middle, own_contains}
use Rattle.jc_sync.proofs.StatusFacts.{counts-first}

-- ---- what a step that takes a finalizer gives

module _ (d : Deed) (past : List Deed) (log : List Entry) (front back : List Flight) (flight : Flight) (given : Answer)
    (t : Tied past log (front ++ flight ∷ back)) where
  stored : Stored log
  stored = Stored-from_legal log t.legal

  flies : Flies log flight
  flies = AllFly-one log front back flight t.flying

  -- What goes with the taking.
  abbrev taking_of : Pod → Pod → FinalizerWrite
  taking_of seen old = record { flight = flight; entry = pod_entry (without_finalizer log old); seen = seen; pod = without_finalizer log old; answer = given }

  -- A finalizer is taken from a pod that was seen.
  is_taken : (asked : Request) (seen old : Pod) → d.reply ≡ reply.Stepped asked given → find (λ (p : Pod). same_uid p.uid seen.uid) flight.basis.pods ≡ Some seen
      → life seen.uid log ≡ Live old → d.length.0 ≡ length (pod_entry (without_finalizer log old) ∷ log) → Stored (pod_entry (without_finalizer log old) ∷ log)
      → TakesFinalizer d log asked (taking_of seen old)
  is_taken asked seen old told is_seen there grew kept = record {
    written =
        written-by d log (pod_entry (without_finalizer log old)) asked given told grew kept
        (owned-live log (pod_entry (without_finalizer log old)) (without_finalizer log old) old (pod_entry-pod (without_finalizer log old))
        (ap (λ v. life v log) (life-uid seen.uid log old there) ∙ there));
    reply = told;
    is_seen = is_seen;
    is_pod = pod_entry-pod (without_finalizer log old);
    uid = life-uid seen.uid log old there;
    untracked = refl;
  }

  -- All that ties, with what the request gives the sync.
  abbrev Ties : Flight → Answered → Type 0
  Ties next a = d.length.0 ≡ length (grown log a.entry) → Stored (grown log a.entry) → Tied (d ∷ past) (grown log a.entry) (front ++ next ∷ back)

  -- ---- releases

  own_took : (seen old : Pod) → d.reply ≡ reply.Stepped (request.Release seen.uid) given → find (λ (p : Pod). same_uid p.uid seen.uid) flight.basis.pods ≡ Some seen
      → (job : Job) → flight.basis.job ≡ Some job → is_in seen.uid (counted_in job flight.basis.pods).releases ≡ true → KnowsFirst flight
      → life seen.uid log ≡ Live old → Ties (with_released flight seen.uid) (released log old)
  own_took seen old told is_seen job saw due knows there grew kept =
      tied_released d past log front back job (taking_of seen old) t (record {
        taken = is_taken (request.Release seen.uid) seen old told is_seen there grew kept;
        saw = saw;
        due = due;
        counted = counts-first flight job (known flight job) knows_it;
        target = λ fails. ap (λ s. has_target s.conditions) knows_it
            ∙ first-fails job flight.basis seen (own_contains job flight.basis.pods seen is_seen ends.own) (and_parts (is_tracked seen) _ ends.ends).0 fails;
      })
    where
      knows_it : known flight job ≡ first_value job flight.basis
      knows_it = IfSome-at flight.basis.job (λ j. known flight j ≡ first_value j flight.basis) job saw knows

      ends : IsDue job flight.basis.pods seen
      ends = due_from job flight.basis.pods seen (basis-rises log flight.basis flies.basis) is_seen due

  orphan_took : (seen old : Pod) → d.reply ≡ reply.Stepped (request.Release seen.uid) given → find (λ (p : Pod). same_uid p.uid seen.uid) flight.basis.pods ≡ Some seen
      → is_orphan flight.basis seen ≡ true → life seen.uid log ≡ Live old → Ties (with_released flight seen.uid) (released log old)
  orphan_took seen old told is_seen orphan there grew kept =
      let parts = and_parts (is_foreign flight.basis.job seen) (nat_le seen.version.0 flight.basis.jobs_at.0) (and_parts (is_tracked seen) (is_foreign flight.basis.job seen && nat_le seen.version.0 flight.basis.jobs_at.0) orphan).1 in
      tied_orphan d past log front back (taking_of seen old) t (record {
        taken = is_taken (request.Release seen.uid) seen old told is_seen there grew kept;
        foreign = parts.0;
        version = leb-true seen.version.0 flight.basis.jobs_at.0 parts.1;
      })

  release_took : (seen old : Pod) → d.reply ≡ reply.Stepped (request.Release seen.uid) given → find (λ (p : Pod). same_uid p.uid seen.uid) flight.basis.pods ≡ Some seen
      → IsSomeAnd flight.basis.job (λ job. is_in seen.uid (counted_in job flight.basis.pods).releases ≡ true) ⊎ (is_orphan flight.basis seen ≡ true)
      → KnowsFirst flight
      → life seen.uid log ≡ Live old → Ties (with_released flight seen.uid) (released log old)
  release_took seen old told is_seen (inl due) knows there = by flight.basis.job refl due
    where
      by : (o : Option Job) → flight.basis.job ≡ o → IsSomeAnd o (λ job. is_in seen.uid (counted_in job flight.basis.pods).releases ≡ true) → Ties (with_released flight seen.uid) (released log old)
      by None saw h = absurd h
      by (Some job) saw h = own_took seen old told is_seen job saw h knows there
  release_took seen old told is_seen (inr orphan) knows there = orphan_took seen old told is_seen orphan there

  -- A release of a pod that the plan has.
  pub release_ties : (u : Uid) (left : List Ask) → IsReleaseAsk flight u left → d.reply ≡ reply.Stepped (request.Release u) given → Ties (with_released flight u) (release_gives log u)
  release_ties u left ask told = by (release_gives log u) (release_cases log u)
    where
      pod : ReleasedPod flight.basis u
      pod = released-seen u flight.basis (basis-rises log flight.basis flies.basis) (sym (ap (is_in u) (sym ask.are)) ∙ in_middle u ask.made ask.rest)

      uid : pod.seen.uid ≡ u
      uid = same_uid-eq pod.seen.uid u (find_passes (λ (p : Pod). same_uid p.uid u) flight.basis.pods pod.seen pod.is_seen)

      is_seen : find (λ (p : Pod). same_uid p.uid pod.seen.uid) flight.basis.pods ≡ Some pod.seen
      is_seen = ap (λ v. find (λ (p : Pod). same_uid p.uid v) flight.basis.pods) uid ∙ pod.is_seen

      cause : IsSomeAnd flight.basis.job (λ job. is_in pod.seen.uid (counted_in job flight.basis.pods).releases ≡ true) ⊎ (is_orphan flight.basis pod.seen ≡ true)
      cause = subst (λ v. IsSomeAnd flight.basis.job (λ job. is_in v (counted_in job flight.basis.pods).releases ≡ true) ⊎ (is_orphan flight.basis pod.seen ≡ true)) (sym uid) pod.cause

      by : (a : Answered) → ReleaseCases log u a → Ties (with_released flight u) a
      by a (Took old there is) =
          subst (Ties (with_released flight u)) (sym is)
          (subst (λ v. Ties (with_released flight v) (released log old)) uid
          (release_took pod.seen old (told ∙ ap (λ v. reply.Stepped (request.Release v) given) (sym uid)) is_seen cause ask.knows (ap (λ v. life v log) uid ∙ there)))
      by a (NotThere lost is) =
          subst (Ties (with_released flight u)) (sym is)
          (λ still kept. tied_not_tracked d past log front back flight u t (record {
            quiet = quiet-by d log (ap began_of told) still;
            lost = lost (λ never. known_since pod.seen.uid flight.basis.pods_at.0 log stored pod.seen (saw log flight.basis pod.seen flies.basis is_seen).stood (ap (λ v. life v log) uid ∙ never));
          }))

  -- ---- let-goes

  -- A let-go of a pod that the plan has.
  pub let_go_ties : (u : Uid) (v : Version) → SeenActive flight.basis u v → d.reply ≡ reply.Stepped (request.LetGo u) given → Ties flight (let_go_gives log u v)
  let_go_ties u v active told = by (let_go_gives log u v) (let_go_cases log u v)
    where
      by : (a : Answered) → LetGoCases log u v a → Ties flight a
      by a (LetGone old there at is) =
          subst (Ties flight) (sym is)
          (λ grew kept. tied_let_go d past log front back old (taking_of active.seen old) t (record {
            taken =
                is_taken (request.LetGo active.seen.uid) active.seen old (told ∙ ap (λ w. reply.Stepped (request.LetGo w) given) (sym active.uid))
                (ap (λ w. find (λ (p : Pod). same_uid p.uid w) flight.basis.pods) active.uid ∙ active.is_seen) (ap (λ w. life w log) active.uid ∙ there) grew kept;
            active = active.active;
            there = ap (λ w. life w log) active.uid ∙ there;
            version = at ∙ sym active.version;
          }))
      by a (Other old there other is) = subst (Ties flight) (sym is) (λ still kept. tied_quiet d past log (front ++ flight ∷ back) t (quiet-by d log (ap began_of told) still))
      by a (Refused r is why) = subst (Ties flight) (sym is) (λ still kept. tied_quiet d past log (front ++ flight ∷ back) t (quiet-by d log (ap began_of told) still))
