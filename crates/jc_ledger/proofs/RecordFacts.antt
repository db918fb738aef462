-- The records of a ledger after a write.
use Rattle.std.proofs.Common.{◌≡◌, ℕ, ◌+◌, ◌≤◌, Bool, true, false, cond, ◌||◌, List, [], ◌∷◌, ◌++◌, length, map, filter, Option, Some, None, is_some, refl, sym, ap, ◌∙◌, arith, true≢false}
use Rattle.std.specs.List.{AllByRecursion as Each}
use Rattle.std.specs.Option.{option_or}
use Rattle.std.proofs.lemmas.Bool.{cond-true, cond-false}
use Rattle.std.proofs.lemmas.List.{length-append, length-map, map-append}
use Rattle.std.proofs.lemmas.List.Elements.{filter-append}
use Rattle.std.proofs.lemmas.List.Folds.{find-append}
use Rattle.jc_types.specs.declared.numbers.Uid.{Uid}
use Rattle.jc_types.specs.declared.objects.Job.{Job}
use Rattle.jc_types.specs.declared.objects.Pod.{Pod}
use Rattle.jc_types.specs.Keys.{same_uid}
use Rattle.jc_states.specs.UidLists.{is_in, uids_of}
use Rattle.jc_types.proofs.KeyFacts.{same_uid-eq}
use Rattle.jc_types.proofs.ListFacts.{filter-map}
use Rattle.jc_failpol.specs.declared.outcomes.Outcome.{Outcome}
use Rattle.jc_failpol.specs.declared.outcomes.Outcome.TheVariants.{Failed}
use Rattle.jc_failpol.specs.Outcomes.{outcome_of, same_outcome}
use Rattle.jc_ledger.specs.Ledger.{Record, failed_pods, record_of, recorded, judged_as}
use Rattle.jc_ledger.specs.Once.{IsJudged}

-- A record stays that of its UID.
pub record_of-old : (u : Uid) (records more : List Record) (r : Record) → record_of u records ≡ Some r → record_of u (records ++ more) ≡ Some r
record_of-old u records more r h =
    find-append (λ (x : Record). same_uid x.pod.uid u) records more ∙ ap (λ o. option_or o (record_of u more)) h

-- Where the UID has no record, it is looked for among the others.
record_of-more : (u : Uid) (records more : List Record) → record_of u records ≡ None → record_of u (records ++ more) ≡ record_of u more
record_of-more u records more h =
    find-append (λ (x : Record). same_uid x.pod.uid u) records more ∙ ap (λ o. option_or o (record_of u more)) h

-- What was judged stays so.
pub IsJudged-more : (u : Uid) (records more : List Record) (outcome : Outcome) (v w : ℕ) → v ≤ w → IsJudged records u outcome v → IsJudged (records ++ more) u outcome w
IsJudged-more u records more outcome v w le j =
    let by_then = j.by_then in
    record {
      found = j.found;
      is_found = record_of-old u records more j.found j.is_found;
      as_such = j.as_such;
      by_then = omega (arith, by_then, le);
    }

-- And so at later versions.
pub IsJudged-later : (u : Uid) (records : List Record) (outcome : Outcome) (v w : ℕ) → v ≤ w → IsJudged records u outcome v → IsJudged records u outcome w
IsJudged-later u records outcome v w le j =
    let by_then = j.by_then in
    record {
      found = j.found;
      is_found = j.is_found;
      as_such = j.as_such;
      by_then = omega (arith, by_then, le);
    }

-- The record of a UID after a write: an old one, or that of a pod that the write judges.
pub data Found (P : Pod → Type 0) (u : Uid) (records : List Record) (job : Job) (seen at : ℕ) (r : Record) : Type 0 where
  Old : record_of u records ≡ Some r → Found P u records job seen at r
  New : record_of u records ≡ None → (pod : Pod) → pod.uid ≡ u → P pod → r ≡ recorded job seen at pod → Found P u records job seen at r

-- A pod that the write judges, whose record it is.
record Judges (P : Pod → Type 0) (u : Uid) (job : Job) (seen at : ℕ) (r : Record) : Type 0 where
  pod : Pod
  uid : pod.uid ≡ u
  has : P pod
  is : r ≡ recorded job seen at pod

-- A record among the new ones is that of a pod that the write judges.
found_new : (P : Pod → Type 0) (u : Uid) (job : Job) (seen at : ℕ) (pods : List Pod) (r : Record) → Each P pods
    → record_of u (map (recorded job seen at) pods) ≡ Some r → Judges P u job seen at r
found_new P u job seen at [] r all h = absurd (true≢false (sym (ap is_some h)))
found_new P u job seen at (pod ∷ pods) r all h = by (found_new P u job seen at pods r all.1) (same_uid pod.uid u) refl h
  where
    by : (record_of u (map (recorded job seen at) pods) ≡ Some r → Judges P u job seen at r) → (b : Bool) → same_uid pod.uid u ≡ b
        → cond b (Some (recorded job seen at pod)) (record_of u (map (recorded job seen at) pods)) ≡ Some r → Judges P u job seen at r
    by ih true t g =
        record {
          pod = pod;
          uid = same_uid-eq pod.uid u t;
          has = all.0;
          is = sym (ap (λ (o : Option Record). elim o [ None ↦ recorded job seen at pod | Some x ↦ x ]) g);
        }
    by ih false t g = ih g

-- It is one of the two.
pub record_of-found : (P : Pod → Type 0) (u : Uid) (records : List Record) (job : Job) (seen at : ℕ) (pods : List Pod) (r : Record) → Each P pods
    → record_of u (records ++ map (recorded job seen at) pods) ≡ Some r → Found P u records job seen at r
record_of-found P u records job seen at pods r all h = by (record_of u records) refl
  where
    by : (o : Option Record) → record_of u records ≡ o → Found P u records job seen at r
    by None e =
        let one = found_new P u job seen at pods r all (sym (record_of-more u records (map (recorded job seen at) pods) e) ∙ h) in
        New e one.pod one.uid one.has one.is
    by (Some old) e = Old (e ∙ sym (record_of-old u records (map (recorded job seen at) pods) old e) ∙ h)

-- A UID without a record gets that of a pod that the write judges, if one has the UID.
judged_new : (u : Uid) (job : Job) (seen at : ℕ) (pods : List Pod) (outcome : Outcome)
    → Each (λ pod. outcome_of job.spec pod ≡ outcome) (filter (λ pod. same_uid pod.uid u) pods) → is_in u (uids_of pods) ≡ true
    → IsJudged (map (recorded job seen at) pods) u outcome at
judged_new u job seen at [] outcome all h = absurd (true≢false (sym h))
judged_new u job seen at (pod ∷ pods) outcome all h = by (judged_new u job seen at pods outcome) (same_uid pod.uid u) refl all h
  where
    by : (Each (λ p. outcome_of job.spec p ≡ outcome) (filter (λ p. same_uid p.uid u) pods) → is_in u (uids_of pods) ≡ true → IsJudged (map (recorded job seen at) pods) u outcome at)
        → (b : Bool) → same_uid pod.uid u ≡ b
        → Each (λ p. outcome_of job.spec p ≡ outcome) (cond b (pod ∷ filter (λ p. same_uid p.uid u) pods) (filter (λ p. same_uid p.uid u) pods))
        → (b || is_in u (uids_of pods)) ≡ true → IsJudged (map (recorded job seen at) (pod ∷ pods)) u outcome at
    by ih true t each g =
        record {
          found = recorded job seen at pod;
          is_found = cond-true (same_uid pod.uid u) (Some (recorded job seen at pod)) (record_of u (map (recorded job seen at) pods)) t;
          as_such = each.0;
          by_then = omega arith;
        }
    by ih false t each g =
        let j = ih each g in
        record {
          found = j.found;
          is_found = cond-false (same_uid pod.uid u) (Some (recorded job seen at pod)) (record_of u (map (recorded job seen at) pods)) t ∙ j.is_found;
          as_such = j.as_such;
          by_then = j.by_then;
        }

-- A UID without a record gets that of the first pod that the write judges under it.
pub IsJudged-new : (u : Uid) (records : List Record) (job : Job) (seen at : ℕ) (pods : List Pod) (outcome : Outcome)
    → record_of u records ≡ None → Each (λ pod. outcome_of job.spec pod ≡ outcome) (filter (λ pod. same_uid pod.uid u) pods)
    → is_in u (uids_of pods) ≡ true
    → IsJudged (records ++ map (recorded job seen at) pods) u outcome at
IsJudged-new u records job seen at pods outcome none all h =
    let j = judged_new u job seen at pods outcome all h in
    record {
      found = j.found;
      is_found = record_of-more u records (map (recorded job seen at) pods) none ∙ j.is_found;
      as_such = j.as_such;
      by_then = j.by_then;
    }

-- How many are judged so after a write.
pub judged_as-more : (outcome : Outcome) (records : List Record) (job : Job) (seen at : ℕ) (pods : List Pod)
    → length (judged_as outcome (records ++ map (recorded job seen at) pods)) ≡ length (judged_as outcome records) + length (filter (λ pod. same_outcome (outcome_of job.spec pod) outcome) pods)
judged_as-more outcome records job seen at pods =
    let test = λ (r : Record). same_outcome r.outcome outcome in
    let more = map (recorded job seen at) pods in
    let come = filter (λ pod. same_outcome (outcome_of job.spec pod) outcome) pods in
    ap length (filter-append test records more)
    ∙ length-append (judged_as outcome records) (judged_as outcome more)
    ∙ ap (λ n. length (judged_as outcome records) + n) (ap length (filter-map (recorded job seen at) test pods) ∙ length-map come (recorded job seen at))

-- The pods that were judged Failed after a write.
pub failed_pods-more : (records : List Record) (job : Job) (seen at : ℕ) (pods : List Pod)
    → failed_pods (records ++ map (recorded job seen at) pods) ≡ failed_pods records ++ filter (λ pod. same_outcome (outcome_of job.spec pod) Failed) pods
failed_pods-more records job seen at pods =
    let test = λ (r : Record). same_outcome r.outcome Failed in
    let more = map (recorded job seen at) pods in
    ap (map (λ (r : Record). r.pod)) (filter-append test records more)
    ∙ map-append (λ (r : Record). r.pod) (judged_as Failed records) (judged_as Failed more)
    ∙ ap (λ ps. failed_pods records ++ ps) (ap (map (λ (r : Record). r.pod)) (filter-map (recorded job seen at) test pods) ∙ unmade (filter (λ pod. same_outcome (outcome_of job.spec pod) Failed) pods))
  where
    unmade : (ps : List Pod) → map (λ (r : Record). r.pod) (map (recorded job seen at) ps) ≡ ps
    unmade [] = refl
    unmade (p ∷ ps) = ap (λ rest. p ∷ rest) (unmade ps)
