-- The indexes that a ledger has done: they increase, so joining what is there changes nothing.
use Rattle.std.proofs.Common.{◌≡◌, ℕ, zero, suc, ◌<◌, ◌≤◌, Bool, true, false, cond, eqb, ltb, ◌||◌, List, [], ◌∷◌, length, get_or, filter, Option, Some, None, refl, sym, ap, ◌∙◌, arith, true≢false}
use Rattle.std.specs.Prelude.{IfSome}
use Rattle.std.specs.List.{AllByRecursion as Each, cons_option}
use Rattle.std.proofs.lemmas.Bool.{eqb-true, ltb-true}
use Rattle.jc_ranges.specs.Sets.{IsIncreasing, has, with_member}
use Rattle.jc_ranges.proofs.Order.{each_weaker, increasing_append, present}
use Rattle.jc_types.specs.declared.numbers.Uid.{Uid}
use Rattle.jc_types.specs.declared.objects.Entry.{Entry}
use Rattle.jc_types.specs.declared.objects.Job.{Job}
use Rattle.jc_types.specs.declared.objects.Pod.{Pod}
use Rattle.jc_log.specs.Deeds.{Deed}
use Rattle.jc_types.specs.Keys.{same_uid}
use Rattle.jc_log.specs.Log.{pods_of, upto}
use Rattle.jc_states.specs.Conditions.{has_end}
use Rattle.jc_states.specs.UidLists.{join}
use Rattle.jc_types.proofs.ListFacts.{Each-append, Each-filter, Each-passes, Each-weaker}
use Rattle.jc_account.specs.Modes.{indexes_of}
use Rattle.jc_ledger.specs.Ledger.{is_within, kept, within, Ledger, Judging, successes, entered, judged_by, judging_of, ledger_of}
use Rattle.jc_account.proofs.IndexFacts.{each-with as each_with}
use Rattle.jc_perindex.proofs.Sets.{increasing-filter as increases_filter, increasing-with as increases_with, increasing-join as increases_join}

-- ---- joins increase

-- What stays of them keeps the order.
pub increases_kept : (job : Job) (xs : List ℕ) → IsIncreasing xs → IsIncreasing (kept job xs)
increases_kept job xs s = by (has_end job.status.conditions)
  where
    by : (b : Bool) → IsIncreasing (cond b xs (within job.spec xs))
    by true = s
    by false = increases_filter (is_within job.spec) xs s

-- The indexes that a ledger has done increase.
pub done-increases : (j : Uid) (deeds : List Deed) (log : List Entry) → IsIncreasing (ledger_of j deeds log).done
done-increases j [] log = tt
done-increases j (d ∷ past) log = by (judging_of d past log) (ledger_of j past log) (done-increases j past log)
  where
    by : (o : Option Judging) (ledger : Ledger) → IsIncreasing ledger.done → IsIncreasing (judged_by j log o ledger).done
    by None ledger s = s
    by (Some judging) ledger s = either (same_uid judging.job.uid j)
      where
        either : (b : Bool) → IsIncreasing (cond b (entered judging.job (pods_of j (upto judging.seen log)) judging.seen judging.at ledger) ledger).done
        either true =
            let job = judging.job in
            increases_join (kept job ledger.done) (within job.spec (indexes_of (successes job ledger.records (pods_of j (upto judging.seen log))))) (increases_kept job ledger.done s)
        either false = s

-- ---- what each index has

-- What the index of each pod has, if it has one, each of their indexes has.
pub indexes-each : (P : ℕ → Type 0) (pods : List Pod) → Each (λ pod. IfSome pod.index P) pods → Each P (indexes_of pods)
indexes-each P [] all = tt
indexes-each P (pod ∷ pods) all = by pod.index all.0 (indexes-each P pods all.1)
  where
    by : (index : Option ℕ) → IfSome index P → Each P (indexes_of pods) → Each P (cons_option index (indexes_of pods))
    by None h rest = rest
    by (Some n) h rest = (h, rest)

-- ---- what is there may join

-- A number that is there has a place.
place_of : (n : ℕ) (xs : List ℕ) → has n xs ≡ true → (i : ℕ) × (i < length xs) × (get_or xs i 0 ≡ n)
place_of n [] h = absurd (true≢false (sym h))
place_of n (x ∷ xs) h = by (place_of n xs) (eqb x n) refl h
  where
    by : (has n xs ≡ true → (i : ℕ) × (i < length xs) × (get_or xs i 0 ≡ n)) → (b : Bool) → eqb x n ≡ b → (b || has n xs) ≡ true → (i : ℕ) × (i < length (x ∷ xs)) × (get_or (x ∷ xs) i 0 ≡ n)
    by ih true e g = (zero, omega arith, eqb-true x n e)
    by ih false e g = let at = ih g in (suc at.0, omega (arith, at.1), at.2)

-- A member that is there changes nothing.
pub with_known : (n : ℕ) (xs : List ℕ) → IsIncreasing xs → has n xs ≡ true → with_member n xs ≡ xs
with_known n xs s h = let at = place_of n xs h in sym (present n xs at.0 s at.1 at.2)

-- Others that are there change nothing.
pub join-known : (xs more : List ℕ) → IsIncreasing xs → Each (λ n. has n xs ≡ true) more → join xs more ≡ xs
join-known xs [] s all = refl
join-known xs (n ∷ more) s all =
    ap (with_member n) (join-known xs more s all.1) ∙ with_known n xs s all.0
