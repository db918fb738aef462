-- A ledger has at most as many records as the log has entries, and at most as many indexes.
use Rattle.std.proofs.Common.{◌≡◌, ℕ, suc, ◌<◌, ◌≤◌, Bool, true, false, cond, eqb, ◌||◌, nat_lt, List, [], ◌∷◌, map, length, Option, Some, None, IfSome, refl, sym, ap, ◌∙◌, subst, arith, eq-eqb, ne_eqb, true≢false}
use Rattle.std.specs.Cmp.{IsEquivalence}
use Rattle.std.specs.List.{AllByRecursion as Each, IsDistinct, cons_option}
use Rattle.std.specs.Set.{is_member}
use Rattle.std.proofs.lemmas.List.{length-map}
use Rattle.std.proofs.lemmas.Map.Made.{length-le_from_is_member}
use Rattle.std.proofs.lemmas.Bool.{eqb-true, or_left, or_right}
use Rattle.std.proofs.lemmas.Option.{IfSome_then}
use Rattle.jc_ranges.specs.Sets.{IsIncreasing}
use Rattle.jc_types.specs.declared.numbers.Uid.{Uid}
use Rattle.jc_types.specs.declared.objects.Entry.{Entry}
use Rattle.jc_types.specs.declared.objects.Entry.TheVariants.{JobPut, JobGone, PodPut, PodGone}
use Rattle.jc_types.specs.declared.objects.Job.{Job}
use Rattle.jc_types.specs.declared.objects.Pod.{Pod}
use Rattle.jc_log.specs.Deeds.{Deed}
use Rattle.jc_types.specs.Keys.{same_uid}
use Rattle.jc_log.specs.Log.{Life, Never, Live, Gone, life, upto, pods_of}
use Rattle.jc_states.specs.Conditions.{has_end}
use Rattle.jc_types.proofs.KeyFacts.{same_either_way, same_uid-eq, same_uid-itself, same_uid-either_way}
use Rattle.jc_types.proofs.ListFacts.{Each-weaker, Each-filter, Each-append, Each-map}
use Rattle.jc_log.proofs.PodFacts.{pods_of-live}
use Rattle.jc_account.specs.Modes.{indexes_of}
use Rattle.jc_account.specs.Judged.{is_fresh}
use Rattle.jc_account.specs.Rooms.{has_room}
use Rattle.jc_ledger.specs.Ledger.{is_within, kept, within, Record, Ledger, Judging, space, fresh, chosen, has_record, recorded, is_success, successes, entered, judged_by, judging_of, ledger_of}
use Rattle.jc_ledger.proofs.DoneFacts.{done-increases, indexes-each}
use Rattle.jc_account.proofs.IndexFacts.{each-join as each_join}

-- Equality of UIDs is an equivalence.
pub same_uid-laws : IsEquivalence same_uid
same_uid-laws = record {
  refl = same_uid-itself;
  symm = same_uid-either_way;
  congr = λ x y z h. ap (λ u. same_uid u z) (same_uid-eq x y h);
}

-- The UIDs of the pods that were put.
abbrev pub puts_of : List Entry → List Uid
puts_of [] = []
puts_of (JobPut job ∷ older) = puts_of older
puts_of (JobGone job ∷ older) = puts_of older
puts_of (PodPut pod ∷ older) = pod.uid ∷ puts_of older
puts_of (PodGone pod ∷ older) = puts_of older

-- They are at most as many as the entries.
length-puts : (log : List Entry) → length (puts_of log) ≤ length log
length-puts [] = omega arith
length-puts (JobPut job ∷ older) = omega (arith, length-puts older)
length-puts (JobGone job ∷ older) = omega (arith, length-puts older)
length-puts (PodPut pod ∷ older) = omega (arith, length-puts older)
length-puts (PodGone pod ∷ older) = omega (arith, length-puts older)

-- A pod of the UID was put.
abbrev pub is_put : Uid → List Entry → Bool
is_put u log = is_member same_uid (puts_of log) u

-- What was put stays put.
put_more : (u : Uid) (e : Entry) (older : List Entry) → is_put u older ≡ true → is_put u (e ∷ older) ≡ true
put_more u (JobPut job) older h = h
put_more u (JobGone job) older h = h
put_more u (PodPut pod) older h = or_right (same_uid u pod.uid) (is_put u older) h
put_more u (PodGone pod) older h = h

-- What was put among the first entries was put.
put_upto : (u : Uid) (n : ℕ) (log : List Entry) → is_put u (upto n log) ≡ true → is_put u log ≡ true
put_upto u n [] h = h
put_upto u n (e ∷ older) h = by (nat_lt (length older) n) (put_upto u n older) h
  where
    by : (b : Bool) → (is_put u (upto n older) ≡ true → is_put u older ≡ true) → is_put u (cond b (e ∷ older) (upto n older)) ≡ true → is_put u (e ∷ older) ≡ true
    by true ih g = g
    by false ih g = put_more u e older (ih g)

-- A pod that lives was put.
live_put : (u : Uid) (log : List Entry) (pod : Pod) → life u log ≡ Live pod → is_put u log ≡ true
live_put u [] pod h = cc
live_put u (JobPut job ∷ older) pod h = live_put u older pod h
live_put u (JobGone job ∷ older) pod h = live_put u older pod h
live_put u (PodPut new ∷ older) pod h = by (same_uid new.uid u) refl (live_put u older pod) h
  where
    by : (b : Bool) → same_uid new.uid u ≡ b → (life u older ≡ Live pod → is_put u older ≡ true) → cond b (Live new) (life u older) ≡ Live pod → is_put u (PodPut new ∷ older) ≡ true
    by true s ih g = ap (λ b. b || is_put u older) (same_uid-either_way u new.uid ∙ s)
    by false s ih g = or_right (same_uid u new.uid) (is_put u older) (ih g)
live_put u (PodGone gone ∷ older) pod h = by (same_uid gone.uid u) (live_put u older pod) h
  where
    by : (b : Bool) → (life u older ≡ Live pod → is_put u older ≡ true) → cond b Gone (life u older) ≡ Live pod → is_put u older ≡ true
    by true ih g = cc
    by false ih g = ih g

-- Each judged pod was put.
records_put : (j : Uid) (deeds : List Deed) (log : List Entry) → Each (λ (r : Record). is_put r.pod.uid log ≡ true) (ledger_of j deeds log).records
records_put j [] log = tt
records_put j (d ∷ past) log = by (judging_of d past log) (records_put j past log)
  where
    bumped : (job : Job) (seen at : ℕ) (ledger : Ledger) → Each (λ (r : Record). is_put r.pod.uid log ≡ true) ledger.records → Each (λ (r : Record). is_put r.pod.uid log ≡ true) (entered job (pods_of j (upto seen log)) seen at ledger).records
    bumped job seen at ledger ih =
        Each-append (λ (r : Record). is_put r.pod.uid log ≡ true) ledger.records (map (recorded job seen at) (chosen job ledger.records (pods_of j (upto seen log)))) ih
        (Each-map (recorded job seen at) (λ (r : Record). is_put r.pod.uid log ≡ true) (chosen job ledger.records (pods_of j (upto seen log)))
        (Each-filter (λ pod. is_put pod.uid log ≡ true) (has_room job.spec (space job ledger.records (pods_of j (upto seen log))) (fresh job ledger.records (pods_of j (upto seen log))))
        (fresh job ledger.records (pods_of j (upto seen log)))
        (Each-filter (λ pod. is_put pod.uid log ≡ true) (is_fresh job.spec (has_record ledger.records)) (pods_of j (upto seen log))
        (Each-weaker (λ pod. life pod.uid (upto seen log) ≡ Live pod) (λ pod. is_put pod.uid log ≡ true)
        (λ pod live. put_upto pod.uid seen log (live_put pod.uid (upto seen log) pod live)) (pods_of j (upto seen log))
        (pods_of-live j (upto seen log))))))

    chosen_by : (b : Bool) (judging : Judging) (ledger : Ledger) → Each (λ (r : Record). is_put r.pod.uid log ≡ true) ledger.records
        → Each (λ (r : Record). is_put r.pod.uid log ≡ true) (cond b (entered judging.job (pods_of j (upto judging.seen log)) judging.seen judging.at ledger) ledger).records
    chosen_by true judging ledger ih = bumped judging.job judging.seen judging.at ledger ih
    chosen_by false judging ledger ih = ih

    by : (o : Option Judging) → Each (λ (r : Record). is_put r.pod.uid log ≡ true) (ledger_of j past log).records → Each (λ (r : Record). is_put r.pod.uid log ≡ true) (judged_by j log o (ledger_of j past log)).records
    by None ih = ih
    by (Some judging) ih = chosen_by (same_uid judging.job.uid j) judging (ledger_of j past log) ih

-- A UID of a judged pod was put.
member_put : (log : List Entry) (records : List Record) (q : Uid) → Each (λ (r : Record). is_put r.pod.uid log ≡ true) records → is_member same_uid (map (λ (r : Record). r.pod.uid) records) q ≡ true → is_put q log ≡ true
member_put log [] q all h = cc
member_put log (r ∷ records) q all h = by (same_uid q r.pod.uid) refl (member_put log records q all.1) h
  where
    by : (b : Bool) → same_uid q r.pod.uid ≡ b → (is_member same_uid (map (λ (x : Record). x.pod.uid) records) q ≡ true → is_put q log ≡ true) → (b || is_member same_uid (map (λ (x : Record). x.pod.uid) records) q) ≡ true → is_put q log ≡ true
    by true s ih g = subst (λ u. is_put u log ≡ true) (sym (same_uid-eq q r.pod.uid s)) all.0
    by false s ih g = ih g

-- A ledger has at most as many records as the log has entries.
pub few_records : (j : Uid) (deeds : List Deed) (log : List Entry) → IsDistinct same_uid (map (λ (r : Record). r.pod.uid) (ledger_of j deeds log).records) → length (ledger_of j deeds log).records ≤ length log
few_records j deeds log once =
    let records = (ledger_of j deeds log).records in
    let few = length-le_from_is_member same_uid-laws (map (λ (r : Record). r.pod.uid) records) (puts_of log) once (λ q h. member_put log records q (records_put j deeds log) h) in
    let count = length-map records (λ (r : Record). r.pod.uid) in
    let puts = length-puts log in
    omega (arith, few, count, puts)

-- ---- indexes

-- The indexes of the pods that were put.
abbrev indexes_put : List Entry → List ℕ
indexes_put [] = []
indexes_put (JobPut job ∷ older) = indexes_put older
indexes_put (JobGone job ∷ older) = indexes_put older
indexes_put (PodPut pod ∷ older) = cons_option pod.index (indexes_put older)
indexes_put (PodGone pod ∷ older) = indexes_put older

-- They are at most as many as the entries.
length-indexes : (log : List Entry) → length (indexes_put log) ≤ length log
length-indexes [] = omega arith
length-indexes (JobPut job ∷ older) = omega (arith, length-indexes older)
length-indexes (JobGone job ∷ older) = omega (arith, length-indexes older)
length-indexes (PodPut pod ∷ older) = by pod.index (length-indexes older)
  where
    by : (o : Option ℕ) → length (indexes_put older) ≤ length older → length (cons_option o (indexes_put older)) ≤ suc (length older)
    by None h = omega (arith, h)
    by (Some n) h = omega (arith, h)
length-indexes (PodGone pod ∷ older) = omega (arith, length-indexes older)

-- The index was put.
abbrev is_index_put : ℕ → List Entry → Bool
is_index_put n log = is_member eqb (indexes_put log) n

-- What was put stays put.
index_more : (n : ℕ) (e : Entry) (older : List Entry) → is_index_put n older ≡ true → is_index_put n (e ∷ older) ≡ true
index_more n (JobPut job) older h = h
index_more n (JobGone job) older h = h
index_more n (PodPut pod) older h = by pod.index
  where
    by : (o : Option ℕ) → is_member eqb (cons_option o (indexes_put older)) n ≡ true
    by None = h
    by (Some m) = or_right (eqb n m) (is_index_put n older) h
index_more n (PodGone pod) older h = h

-- What was put among the first entries was put.
index_upto : (n m : ℕ) (log : List Entry) → is_index_put n (upto m log) ≡ true → is_index_put n log ≡ true
index_upto n m [] h = h
index_upto n m (e ∷ older) h = by (nat_lt (length older) m) (index_upto n m older) h
  where
    by : (b : Bool) → (is_index_put n (upto m older) ≡ true → is_index_put n older ≡ true) → is_index_put n (cond b (e ∷ older) (upto m older)) ≡ true → is_index_put n (e ∷ older) ≡ true
    by true ih g = g
    by false ih g = index_more n e older (ih g)

-- The index of a pod that lives was put.
live_index : (u : Uid) (log : List Entry) (pod : Pod) → life u log ≡ Live pod → IfSome pod.index (λ n. is_index_put n log ≡ true)
live_index u [] pod h = absurd (never h)
  where
    never : Never ≡ Live pod → ⊥
    never e = true≢false (sym (ap (λ (l : Life). elim l [ Never ↦ false | Live p ↦ true | Gone ↦ false ]) e))
live_index u (JobPut job ∷ older) pod h = live_index u older pod h
live_index u (JobGone job ∷ older) pod h = live_index u older pod h
live_index u (PodPut new ∷ older) pod h = by (same_uid new.uid u) (live_index u older pod) h
  where
    same : Live new ≡ Live pod → new ≡ pod
    same e = ap (λ (l : Life). elim l [ Never ↦ new | Live p ↦ p | Gone ↦ new ]) e

    own : (o : Option ℕ) → IfSome o (λ n. is_member eqb (cons_option o (indexes_put older)) n ≡ true)
    own None = tt
    own (Some n) = or_left (eqb n n) (is_index_put n older) (eq-eqb n n refl)

    by : (b : Bool) → (life u older ≡ Live pod → IfSome pod.index (λ n. is_index_put n older ≡ true)) → cond b (Live new) (life u older) ≡ Live pod → IfSome pod.index (λ n. is_index_put n (PodPut new ∷ older) ≡ true)
    by true ih g = subst (λ (p : Pod). IfSome p.index (λ n. is_index_put n (PodPut new ∷ older) ≡ true)) (same g) (own new.index)
    by false ih g = IfSome_then pod.index (ih g) (λ n i. index_more n (PodPut new) older i)
live_index u (PodGone gone ∷ older) pod h = by (same_uid gone.uid u) (live_index u older pod) h
  where
    never : Gone ≡ Live pod → ⊥
    never e = true≢false (sym (ap (λ (l : Life). elim l [ Never ↦ false | Live p ↦ true | Gone ↦ false ]) e))

    by : (b : Bool) → (life u older ≡ Live pod → IfSome pod.index (λ n. is_index_put n older ≡ true)) → cond b Gone (life u older) ≡ Live pod → IfSome pod.index (λ n. is_index_put n older ≡ true)
    by true ih g = absurd (never g)
    by false ih g = ih g

-- Each index that is done was put.
done_put : (j : Uid) (deeds : List Deed) (log : List Entry) → Each (λ n. is_index_put n log ≡ true) (ledger_of j deeds log).done
done_put j [] log = tt
done_put j (d ∷ past) log = by (judging_of d past log) (done_put j past log)
  where
    P : ℕ → Type 0
    P n = is_index_put n log ≡ true

    stay : (job : Job) (xs : List ℕ) → Each P xs → Each P (kept job xs)
    stay job xs all = either (has_end job.status.conditions)
      where
        either : (b : Bool) → Each P (cond b xs (within job.spec xs))
        either true = all
        either false = Each-filter P (is_within job.spec) xs all

    added : (job : Job) (seen : ℕ) (records : List Record) → Each P (within job.spec (indexes_of (successes job records (pods_of j (upto seen log)))))
    added job seen records =
        let own = pods_of j (upto seen log) in
        Each-filter P (is_within job.spec) (indexes_of (successes job records own))
        (indexes-each P (successes job records own)
        (Each-filter (λ pod. IfSome pod.index P) (is_success job records) own
        (Each-weaker (λ pod. life pod.uid (upto seen log) ≡ Live pod) (λ pod. IfSome pod.index P)
        (λ pod live. IfSome_then pod.index (live_index pod.uid (upto seen log) pod live) (λ n i. index_upto n seen log i)) own (pods_of-live j (upto seen log)))))

    judged : (b : Bool) (judging : Judging) (ledger : Ledger) → Each P ledger.done
        → Each P (cond b (entered judging.job (pods_of j (upto judging.seen log)) judging.seen judging.at ledger) ledger).done
    judged true judging ledger all =
        each_join P (kept judging.job ledger.done) (within judging.job.spec (indexes_of (successes judging.job ledger.records (pods_of j (upto judging.seen log))))) (stay judging.job ledger.done all)
        (added judging.job judging.seen ledger.records)
    judged false judging ledger all = all

    by : (o : Option Judging) → Each P (ledger_of j past log).done → Each P (judged_by j log o (ledger_of j past log)).done
    by None all = all
    by (Some judging) all = judged (same_uid judging.job.uid j) judging (ledger_of j past log) all

-- Increasing numbers are distinct.
increasing_distinct : (xs : List ℕ) → IsIncreasing xs → IsDistinct eqb xs
unfolding IsDistinct
increasing_distinct [] s = tt
increasing_distinct (x ∷ xs) s =
    (Each-weaker (λ y. x < y) (λ y. eqb x y ≡ false) (λ y h. ne_eqb x y (λ e. omega (arith, e, h))) xs s.0, increasing_distinct xs s.1)

-- Equality of numbers is an equivalence.
eqb-laws : IsEquivalence eqb
eqb-laws = record {
  refl = λ n. eq-eqb n n refl;
  symm = same_either_way eqb eqb-true (λ n. eq-eqb n n refl);
  congr = λ x y z h. ap (λ n. eqb n z) (eqb-true x y h);
}

-- A number that is among some was put, if each of them was.
member_index : (log : List Entry) (xs : List ℕ) (q : ℕ) → Each (λ n. is_index_put n log ≡ true) xs → is_member eqb xs q ≡ true → is_index_put q log ≡ true
member_index log [] q all h = absurd (true≢false (sym h))
member_index log (x ∷ xs) q all h = by (eqb q x) refl (member_index log xs q all.1) h
  where
    by : (b : Bool) → eqb q x ≡ b → (is_member eqb xs q ≡ true → is_index_put q log ≡ true) → (b || is_member eqb xs q) ≡ true → is_index_put q log ≡ true
    by true s ih g = subst (λ n. is_index_put n log ≡ true) (sym (eqb-true q x s)) all.0
    by false s ih g = ih g

-- A ledger has at most as many indexes as the log has entries.
pub few_done : (j : Uid) (deeds : List Deed) (log : List Entry) → length (ledger_of j deeds log).done ≤ length log
few_done j deeds log =
    let done = (ledger_of j deeds log).done in
    let few = length-le_from_is_member eqb-laws done (indexes_put log) (increasing_distinct done (done-increases j deeds log)) (λ q h. member_index log done q (done_put j deeds log) h) in
    let puts = length-indexes log in
    omega (arith, few, puts)
