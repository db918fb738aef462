-- The indexes of the pods that are made.
use Rattle.std.proofs.Common.{◌≡◌, ℕ, zero, suc, ◌+◌, ◌<◌, ◌≤◌, Bool, true, false, cond, ◌||◌, List, [], ◌∷◌, map, replicate, take, Option, Some, None, IfSome, is_some, unwrap_or, refl, sym, ap, arith, true≢false}
use Rattle.std.specs.List.{All, AllByRecursion as Each, range_with_len}
use Rattle.std.proofs.lemmas.List.Elements.{All-from_recursion, recursion_from_All}
use Rattle.jc_types.specs.declared.objects.Job.{Job}
use Rattle.jc_types.specs.declared.objects.Pod.{Pod}
use Rattle.jc_types.specs.declared.specifications.Mode.{Mode}
use Rattle.jc_types.specs.declared.specifications.Mode.TheVariants.{NonIndexed, Indexed}
use Rattle.jc_types.specs.declared.syncs.CountIn.{CountIn}
use Rattle.jc_types.proofs.ListFacts.{Each-filter, Each-take, Each-weaker}
use Rattle.jc_manage.specs.Backoffs.{is_delayed_until}
use Rattle.jc_manage.specs.Creations.{creatable, creates, free, is_free, IsIndexFor, job_lacks, keepers, new_pods}

-- New pods have indexes as they should.
abbrev Numbers : Mode → ℕ → Option ℕ → Type 0
Numbers mode n index = (mode ≡ Indexed → is_some index ≡ true) × IfSome index (λ i. i < n)

new_pods-numbered : (mode : Mode) (n m : ℕ) (free : List ℕ) → Each (λ i. i < m) free → Each (Numbers mode m) (new_pods mode n free)
new_pods-numbered Indexed n m free below = some_all (take n free) (Each-take (λ i. i < m) n free below)
  where
    some_all : (ns : List ℕ) → Each (λ i. i < m) ns → Each (Numbers Indexed m) (map (λ index. Some index) ns)
    some_all [] h = tt
    some_all (i ∷ ns) h = (((λ e. refl), h.0), some_all ns h.1)
new_pods-numbered NonIndexed n m free below = each n
  where
    is_indexed : Mode → Bool
    is_indexed Indexed = true
    is_indexed NonIndexed = false

    each : (k : ℕ) → Each (Numbers NonIndexed m) (replicate k None)
    each zero = tt
    each (suc k) = (((λ e. absurd (true≢false (sym (ap is_indexed e)))), tt), each k)

-- The numbers from a start on are below their end.
below-range : (start n m : ℕ) → start + n ≤ m → Each (λ i. i < m) (range_with_len start n)
below-range start zero m le = tt
below-range start (suc n) m le = (omega (arith, le), below-range (start + 1) n m (omega (arith, le)))

pub creatable-numbered : (target : Bool) (job : Job) (own : List Pod) (counted : CountIn) → All (IsIndexFor job) (creatable target job own counted)
creatable-numbered target job own counted =
    All-from_recursion (IsIndexFor job) (creatable target job own counted)
    (Each-weaker (Numbers job.spec.mode limit) (IsIndexFor job) (λ index h. record { numbered = h.0; below = h.1 }) (creatable target job own counted)
    (none_or (target || job.spec.suspend)
    (new_pods-numbered job.spec.mode (job_lacks job own counted) limit frees
    (Each-filter (λ i. i < limit) (is_free counted (keepers job.spec.replacement own)) (range_with_len 0 limit) (below-range 0 limit limit (omega arith))))))
  where
    limit : ℕ
    limit = unwrap_or job.spec.completions 0

    frees : List ℕ
    frees = free limit counted (keepers job.spec.replacement own)

    none_or : (b : Bool) → Each (Numbers job.spec.mode limit) (new_pods job.spec.mode (job_lacks job own counted) frees) → Each (Numbers job.spec.mode limit) (cond b [] (new_pods job.spec.mode (job_lacks job own counted) frees))
    none_or true h = tt
    none_or false h = h

-- What is delayed keeps what holds of each.
pub creates-numbered : (job : Job) (opening : Option ℕ) (now : ℕ) (made : List (Option ℕ)) → All (IsIndexFor job) made → All (IsIndexFor job) (creates opening now made)
creates-numbered job opening now made h =
    All-from_recursion (IsIndexFor job) (creates opening now made) (by (is_delayed_until opening now) (recursion_from_All (IsIndexFor job) made h))
  where
    by : (b : Bool) → Each (IsIndexFor job) made → Each (IsIndexFor job) (cond b [] made)
    by true g = tt
    by false g = g
