-- The last entry of the log of which a cache of pods tells the key: from it on the key's pods stay as they are.
use Rattle.std.proofs.Common.{◌≡◌, ℕ, suc, ◌≤◌, Bool, true, false, cond, List, [], ◌∷◌, length, refl, sym, ap, ◌∙◌, arith, nat_lt, ltb-true}
use Rattle.std.proofs.lemmas.Bool.{ltb-false}
use Rattle.jc_types.specs.declared.objects.Entry.{Entry}
use Rattle.jc_types.specs.declared.objects.Entry.TheVariants.{JobPut, JobGone, PodPut, PodGone}
use Rattle.jc_types.specs.declared.objects.KeyNames.{KeyNames as Key}
use Rattle.jc_types.specs.declared.objects.Kind.TheVariants.{Pods}
use Rattle.jc_log.specs.Log.{pods_under, upto}
use Rattle.jc_log.specs.Writes.{Stored}
use Rattle.jc_log.proofs.LogFacts.{upto-all, upto-fixed}
use Rattle.jc_control.specs.Caches.{owned_after}
use Rattle.jc_control.proofs.CacheFacts.{owner_stays}
use Rattle.jc_states.specs.PodLists.{drop_pod, put_pod}
use Rattle.jc_order.proofs.LastFacts.{last_told, tells}

pub pods-kept : (k : Key) (e : Entry) (older : List Entry) → Stored (e ∷ older) → tells Pods k e ≡ false → pods_under k (e ∷ older) ≡ pods_under k older
pods-kept k e older stored n = owner_stays k e older stored ∙ by e n
  where
    by : (e : Entry) → tells Pods k e ≡ false → owned_after k e (pods_under k older) ≡ pods_under k older
    by (JobPut job) n = refl
    by (JobGone job) n = refl
    by (PodPut pod) n = ap (λ b. cond b (put_pod pod (pods_under k older)) (pods_under k older)) n
    by (PodGone pod) n = ap (λ b. cond b (drop_pod pod.uid (pods_under k older)) (pods_under k older)) n

pub last-pods : (k : Key) (log : List Entry) → Stored log → (n : ℕ) → last_told Pods k log ≤ n → n ≤ length log → pods_under k (upto n log) ≡ pods_under k log
last-pods k [] stored n low high = ap (pods_under k) (let z : n ≡ 0 = omega (arith, high) in ap (λ n. upto n []) z)
last-pods k (e ∷ older) stored n low high = by (nat_lt (length older) n) refl (tells Pods k e) refl low (last-pods k older stored.1 n)
  where
    by : (x : Bool) → nat_lt (length older) n ≡ x → (t : Bool) → tells Pods k e ≡ t → cond t (suc (length older)) (last_told Pods k older) ≤ n
        → (last_told Pods k older ≤ n → n ≤ length older → pods_under k (upto n older) ≡ pods_under k older) → pods_under k (upto n (e ∷ older)) ≡ pods_under k (e ∷ older)
    by true s t i low ih = let lt = ltb-true (length older) n s in
        let same : n ≡ suc (length older) = omega (arith, lt, high) in
        ap (λ n. pods_under k (upto n (e ∷ older))) same
        ∙ ap (pods_under k) (upto-all (suc (length older)) (e ∷ older) (omega arith))
    by false s true i low ih = let le = ltb-false (length older) n s in absurd (omega (arith, le, low))
    by false s false i low ih = let le = ltb-false (length older) n s in ap (pods_under k) (upto-fixed n e older le) ∙ ih low le ∙ sym (pods-kept k e older stored i)
