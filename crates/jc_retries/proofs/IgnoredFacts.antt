-- New pods take along of the ends that are still to come.
use Rattle.std.proofs.Common.{◌≡◌, ℕ, zero, suc, ◌+◌, ◌≤◌, Bool, true, false, List, [], ◌∷◌, filter, length, drop, slice_get, Option, Some, None, IfSome, ap, subst, arith}
use Rattle.std.specs.List.{AllByRecursion as Each}
use Rattle.std.specs.Option.{option_map_or, option_or}
use Rattle.jc_types.specs.declared.actions.End.{End}
use Rattle.jc_types.specs.declared.objects.Job.{Job}
use Rattle.jc_types.specs.declared.objects.Pod.{Pod}
use Rattle.jc_making.specs.Grants.{AreNew, LooksNew, as_new}
use Rattle.jc_making.specs.Nodes.{end_at, last_end}
use Rattle.jc_making.proofs.Lists.{length-with, one_if}
use Rattle.jc_retries.specs.Retries.{CountsAtLast, is_ignored_end, will_be_ignored}

module _ (ends : List End) (job : Job) (last : CountsAtLast ends job.spec) where
  -- Behind the last of the ends it is not ignored.
  abbrev Counts : Option End → Type 0
  Counts o = IfSome o (λ end. (any : Pod) → is_ignored_end job.spec end (as_new job.spec.template any) ≡ false)

  -- One pod more.
  takes : (pod : Pod) → LooksNew job.spec.template pod → (some : List End) (k : ℕ) (o : Option End) → Counts o
      → one_if (option_map_or (λ end. is_ignored_end job.spec end pod) (option_or (slice_get some k) o) false) + length (drop (suc k) some) ≤ length (drop k some)
  takes pod new [] k None h = omega arith
  takes pod new [] k (Some end) h =
      let none = ap one_if (subst (λ p. is_ignored_end job.spec end p ≡ false) new (h pod)) in omega (arith, none)
  takes pod new (end ∷ some) zero o h = by (is_ignored_end job.spec end pod)
    where
      by : (b : Bool) → one_if b + length some ≤ suc (length some)
      by true = omega arith
      by false = omega arith
  takes pod new (end ∷ some) (suc k) o h = takes pod new some k o h

  pub new-ignored : (made : ℕ) (indexes : List (Option ℕ)) (pods : List Pod) → AreNew made indexes pods → Each (LooksNew job.spec.template) pods
      → length (filter (will_be_ignored ends job) pods) + length (drop (made + length indexes) ends) ≤ length (drop made ends)
  new-ignored made [] [] h looks =
      let same : made + 0 ≡ made = omega arith in
      let is = ap (λ n. length (drop n ends)) same in
      omega (arith, is)
  new-ignored made [] (p ∷ pods) h looks = absurd h
  new-ignored made (index ∷ indexes) [] h looks = absurd h
  new-ignored made (index ∷ indexes) (p ∷ pods) h looks =
      let same : made + suc (length indexes) ≡ suc made + length indexes = omega arith in
      let is = ap (λ n. length (drop n ends)) same in
      let first = takes p looks.0 ends made (last_end ends) last in
      let serial = ap (λ n. one_if (option_map_or (λ end. is_ignored_end job.spec end p) (end_at n ends) false)) h.0.serial_is in
      omega (arith, is, first, serial, length-with (will_be_ignored ends job) p pods, new-ignored (suc made) indexes pods h.1 looks.1)
