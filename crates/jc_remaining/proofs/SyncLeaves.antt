-- What a whole sync leaves to be written of pods, where it asks for one; and which Jobs are there after it.
use Rattle.std.proofs.Common.{◌≡◌, ℕ, ◌<◌, ◌≤◌, Bool, true, false, List, [], ◌∷◌, length, Option, Some, None, is_some, refl, sym, ap, ◌∙◌, subst, arith, true≢false}
use Rattle.std.specs.List.{list_any}
use Rattle.jc_types.proofs.KeyFacts.{same_key-eq}
use Rattle.jc_types.specs.declared.objects.KeyNames.{KeyNames as Key}
use Rattle.jc_types.specs.Keys.{same_key}
use Rattle.jc_types.specs.declared.actions.End.{End}
use Rattle.jc_types.specs.declared.objects.Entry.{Entry}
use Rattle.jc_types.specs.declared.objects.Job.{Job}
use Rattle.jc_states.specs.declared.bases.Basis.{Basis}
use Rattle.jc_log.specs.Log.{job_in, pods_in}
use Rattle.jc_plan.specs.Plans.{planned}
use Rattle.jc_calm.specs.SettleTurns.{pods_asked}
use Rattle.jc_bearing.specs.Whole.{DoesAll, SawLog}
use Rattle.jc_remaining.specs.Remaining.{FitsAll, HasEach, LastEndsCount, all_creations, all_left}
use Rattle.jc_remaining.proofs.SyncFacts.{sync-creations-fewer, sync-creations-most, sync-left-less}

-- Fewer pods may be made; or none is made, no more may be, and less is left of those that are there.
pub data LeavesLess (most : ℕ) (fates : Key → Option (List End)) (keys : List Key) (log new : List Entry) (basis : Basis) : Type 0 where
  Fewer : all_creations fates new keys < all_creations fates log keys → LeavesLess most fates keys log new basis
  Less : (planned basis).creates ≡ [] → all_creations fates new keys ≤ all_creations fates log keys → all_left most fates (pods_in new) < all_left most fates (pods_in log) → LeavesLess most fates keys log new basis

module _ (keys : List Key) (log new : List Entry) (basis : Basis) (saw : SawLog log basis) (all : DoesAll log basis new) (each : HasEach keys log) where
  pub sync-leaves : (most : ℕ) (fates : Key → Option (List End)) → LastEndsCount fates log → FitsAll log → 0 < pods_asked (planned basis) → LeavesLess most fates keys log new basis
  sync-leaves most fates lasts fits some = by (planned basis).creates refl
    where
      by : (creates : List (Option ℕ)) → (planned basis).creates ≡ creates → LeavesLess most fates keys log new basis
      by [] is = Less is (sync-creations-most fates log lasts new basis saw all fits keys) (sync-left-less log basis saw most fates new all is some)
      by (index ∷ more) is = Fewer (sync-creations-fewer fates log lasts new basis saw all fits keys each (let n = ap length is in omega (arith, n)))

  -- No Job is new.
  pub each-kept : HasEach keys new
  each-kept key job there = by (same_key basis.key key) refl
    where
      own : (o : Option Job) → job_in basis.key log ≡ o → job_in basis.key new ≡ Some job → list_any (same_key basis.key) keys ≡ true
      own None none is = absurd (true≢false (sym (ap is_some is) ∙ ap is_some (all.others.none (saw.job ∙ none))))
      own (Some old) was is = each basis.key old was

      by : (b : Bool) → same_key basis.key key ≡ b → list_any (same_key key) keys ≡ true
      by true s =
          let same = same_key-eq basis.key key s in
          subst (λ k. list_any (same_key k) keys ≡ true) same (own (job_in basis.key log) refl (ap (λ k. job_in k new) same ∙ there))
      by false s = each key job (sym (all.others.jobs key s) ∙ there)
