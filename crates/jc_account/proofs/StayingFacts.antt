-- How many pods stay listed: as many as UIDs stay in the two lists.
use Rattle.std.proofs.Common.{◌≡◌, ℕ, ◌+◌, Bool, true, false, cond, ◌&&◌, ◌||◌, List, [], ◌∷◌, filter, length, refl, ap, sym, ◌∙◌, arith, true≢false}
use Rattle.std.proofs.lemmas.Bool.{and_from, eqb-true}
use Rattle.jc_types.specs.declared.numbers.Uid.{Uid}
use Rattle.jc_types.specs.declared.objects.Job.{Job}
use Rattle.jc_types.specs.declared.objects.Pod.{Pod}
use Rattle.jc_states.specs.Bases.{is_own, own_pods}
use Rattle.jc_types.specs.Keys.{same_uid}
use Rattle.jc_states.specs.PodLists.{IsRising, RisesFrom}
use Rattle.jc_states.specs.Pods.{is_tracked}
use Rattle.jc_states.specs.UidLists.{Ascends, AscendsFrom, is_in}
use Rattle.jc_types.proofs.KeyFacts.{same_uid-either_way}
use Rattle.jc_types.proofs.ListFacts.{filter_none, filter_same}
use Rattle.jc_states.proofs.PodListFacts.{rises_filter}
use Rattle.jc_states.proofs.UidPlaceFacts.{absent-below}
use Rattle.jc_account.specs.Judged.{has_tracked, is_staying, stayed, staying}
use Rattle.jc_account.proofs.ListedFacts.{each, none_below}

-- Where no element passes both tests, those that pass one are as many as pass each, together.
either_length : {X : Type 0} (a b : X → Bool) → ((x : X) → (a x && b x) ≡ false) → (xs : List X) → length (filter (λ x. a x || b x) xs) ≡ length (filter a xs) + length (filter b xs)
either_length a b apart [] = refl
either_length {X} a b apart (x ∷ xs) = by (a x) refl (b x) refl (either_length a b apart xs)
  where
    by : (p : Bool) → a x ≡ p → (q : Bool) → b x ≡ q → length (filter (λ y. a y || b y) xs) ≡ length (filter a xs) + length (filter b xs)
        → length (cond (p || q) (x ∷ filter (λ y. a y || b y) xs) (filter (λ y. a y || b y) xs)) ≡ length (cond p (x ∷ filter a xs) (filter a xs)) + length (cond q (x ∷ filter b xs) (filter b xs))
    by true e true g h = absurd (true≢false (sym (and_from (a x) (b x) e g) ∙ apart x))
    by true e false g h = omega (arith, h)
    by false e true g h = omega (arith, h)
    by false e false g h = h

-- A UID that is not in a list is the same as none there.
none_same : (u : Uid) (uids : List Uid) → is_in u uids ≡ false → filter (λ v. same_uid u v) uids ≡ []
none_same u [] h = refl
none_same u (v ∷ uids) h = by (same_uid v u) (is_in u uids) refl refl h (none_same u uids)
  where
    by : (s i : Bool) → same_uid v u ≡ s → is_in u uids ≡ i → (s || i) ≡ false → (is_in u uids ≡ false → filter (λ w. same_uid u w) uids ≡ []) → filter (λ w. same_uid u w) (v ∷ uids) ≡ []
    by true i e f g ih = absurd (true≢false g)
    by false i e f g ih =
        ap (λ b. cond b (v ∷ filter (λ w. same_uid u w) uids) (filter (λ w. same_uid u w) uids)) (same_uid-either_way u v ∙ e) ∙ ih (f ∙ g)

-- It is the same as one of ascending UIDs, where it is among them.
one_same : (low : ℕ) (u : Uid) (uids : List Uid) → AscendsFrom low uids → length (filter (λ v. same_uid u v) uids) ≡ cond (is_in u uids) 1 0
one_same low u [] r = refl
one_same low u (v ∷ uids) r =
    ap (λ b. length (cond b (v ∷ filter (λ w. same_uid u w) uids) (filter (λ w. same_uid u w) uids))) (same_uid-either_way u v)
    ∙ by (same_uid v u) refl (one_same (v.0 + 1) u uids r.1)
  where
    by : (s : Bool) → same_uid v u ≡ s → length (filter (λ w. same_uid u w) uids) ≡ cond (is_in u uids) 1 0
        → length (cond s (v ∷ filter (λ w. same_uid u w) uids) (filter (λ w. same_uid u w) uids)) ≡ cond (s || is_in u uids) 1 0
    by true e ih =
        let is = eqb-true v.0 u.0 e in
        let rest = none_same u uids (absent-below (v.0 + 1) u uids (omega (arith, is)) r.1) in
        omega (arith, ap length rest)
    by false e ih = ih

one_tracked : (tracked : Bool) (u : Uid) (uids : List Uid) → Ascends uids → length (filter (λ v. tracked && same_uid u v) uids) ≡ cond (tracked && is_in u uids) 1 0
one_tracked true u uids r = one_same 0 u uids r
one_tracked false u uids r = ap length (filter_none (λ (v : Uid). false) uids (each (λ (v : Uid). false ≡ false) (λ v. refl) uids))

-- As many tracked pods are listed as listed UIDs have a tracked pod.
tracked_length : (low : ℕ) (uids : List Uid) (own : List Pod) → Ascends uids → RisesFrom low own → length (filter (λ pod. is_tracked pod && is_in pod.uid uids) own) ≡ length (filter (has_tracked own) uids)
tracked_length low uids [] ascends rises = sym (ap length (filter_none (λ (v : Uid). false) uids (each (λ (v : Uid). false ≡ false) (λ v. refl) uids)))
tracked_length low uids (pod ∷ own) ascends rises =
    let here = one_tracked (is_tracked pod) pod.uid uids ascends in
    let both = either_length (λ u. is_tracked pod && same_uid pod.uid u) (has_tracked own) apart uids in
    by (is_tracked pod && is_in pod.uid uids) (tracked_length (pod.uid.0 + 1) uids own ascends rises.1) here ∙ sym both
  where
    no : (t h : Bool) → ((t && false) && h) ≡ false
    no true h = refl
    no false h = refl

    none : (t h : Bool) → h ≡ false → ((t && true) && h) ≡ false
    none true h e = e
    none false h e = refl

    apart : (u : Uid) → ((is_tracked pod && same_uid pod.uid u) && has_tracked own u) ≡ false
    apart u = at (same_uid pod.uid u) refl
      where
        at : (s : Bool) → same_uid pod.uid u ≡ s → ((is_tracked pod && s) && has_tracked own u) ≡ false
        at true e =
            let is = eqb-true pod.uid.0 u.0 e in
            none (is_tracked pod) (has_tracked own u) (none_below (pod.uid.0 + 1) u is_tracked own (omega (arith, is)) rises.1)
        at false e = no (is_tracked pod) (has_tracked own u)

    by : (b : Bool) → length (filter (λ p. is_tracked p && is_in p.uid uids) own) ≡ length (filter (has_tracked own) uids)
        → length (filter (λ u. is_tracked pod && same_uid pod.uid u) uids) ≡ cond b 1 0
        → length (cond b (pod ∷ filter (λ p. is_tracked p && is_in p.uid uids) own) (filter (λ p. is_tracked p && is_in p.uid uids) own)) ≡ length (filter (λ u. is_tracked pod && same_uid pod.uid u) uids) + length (filter (has_tracked own) uids)
    by true ih one = omega (arith, ih, one)
    by false ih one = omega (arith, ih, one)

pub staying-length : (job : Job) (pods : List Pod) → IsRising pods → Ascends job.status.uncounted_succeeded → Ascends job.status.uncounted_failed
    → ((u : Uid) → (is_in u job.status.uncounted_succeeded && is_in u job.status.uncounted_failed) ≡ false)
    → length (staying job (own_pods job pods)) ≡ length (stayed (own_pods job pods) job.status.uncounted_succeeded) + length (stayed (own_pods job pods) job.status.uncounted_failed)
staying-length job pods rises order_s order_f apart =
    let own = own_pods job pods in
    let status = job.status in
    let up = rises_filter 0 (is_own job) pods rises in
    let s = λ (pod : Pod). is_tracked pod && is_in pod.uid status.uncounted_succeeded in
    let f = λ (pod : Pod). is_tracked pod && is_in pod.uid status.uncounted_failed in
    let split = filter_same (is_staying job) (λ pod. s pod || f pod) own (each (λ pod. is_staying job pod ≡ (s pod || f pod)) (λ pod. shared (is_tracked pod) (is_in pod.uid status.uncounted_succeeded) (is_in pod.uid status.uncounted_failed)) own) in
    let both = either_length s f (λ pod. not_both (is_tracked pod) (is_in pod.uid status.uncounted_succeeded) (is_in pod.uid status.uncounted_failed) (apart pod.uid)) own in
    omega (arith, ap length split, both, tracked_length 0 status.uncounted_succeeded own order_s up, tracked_length 0 status.uncounted_failed own order_f up)
  where
    shared : (t a b : Bool) → (t && (a || b)) ≡ ((t && a) || (t && b))
    shared true a b = refl
    shared false a b = refl

    not_both : (t a b : Bool) → (a && b) ≡ false → ((t && a) && (t && b)) ≡ false
    not_both true a b h = h
    not_both false a b h = refl
