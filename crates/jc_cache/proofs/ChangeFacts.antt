-- What pods are once the changes that wait are made: under each UID its change, or else what was there.
use Rattle.std.proofs.Common.{◌≡◌, ℕ, suc, ◌+◌, nat_lt, Bool, true, false, cond, not, List, [], ◌∷◌, length, Option, None, Some, is_some, refl, sym, ap, subst, ◌∙◌, arith, true≢false, ltb-true, ltb-false, eqb-true}
use Rattle.std.specs.List.{AllByRecursion as Each, IsDistinct}
use Rattle.std.specs.Map.{keys_of}
use Rattle.std.specs.Borrow.{Bor}
use Rattle.std.specs.Option.{option_copied, option_map_or}
use Rattle.std.proofs.lemmas.Bool.{cond-true, cond-false, eqb-false}
use Rattle.indexmap.specs.IndexMap.{insert_entry}
use Rattle.jc_types.specs.declared.numbers.Uid.{Uid}
use Rattle.jc_types.specs.declared.objects.Pod.{Pod}
use Rattle.jc_types.specs.Keys.{same_uid}
use Rattle.jc_log.specs.Tables.{at, Sets}
use Rattle.jc_states.specs.PodLists.{RisesFrom, IsRising, put_pod, drop_pod}
use Rattle.jc_types.proofs.KeyFacts.{same_uid-eq, same_uid-itself, same_uid-either_way}
use Rattle.jc_states.proofs.PodListFacts.{pod_among, rises_put, rises_filter, among_none, among_put, among_drop, drop-absent}
use Rattle.jc_states.proofs.TallyFacts.{length-put, length-found}
use Rattle.jc_cache.specs.Changes.{IsOf, with_change, all_changed, AreNamed, KeepsChanges}

-- ---- one change

-- It leaves what it says under its UID, and every other pod as before.
pub among_change : (v u : Uid) (change : Option Pod) (pods : List Pod) → IsOf u change → pod_among v (with_change u change pods) ≡ cond (same_uid u v) change (pod_among v pods)
among_change v u None pods of = among_drop v u pods
among_change v u (Some pod) pods of = among_put v pod pods ∙ ap (λ (w : Uid). cond (same_uid w v) (Some pod) (pod_among v pods)) of

-- It keeps the order.
pub rises_change : (u : Uid) (change : Option Pod) (pods : List Pod) → IsRising pods → IsRising (with_change u change pods)
rises_change u None pods r = rises_filter 0 (λ pod. not (same_uid pod.uid u)) pods r
rises_change u (Some pod) pods r = rises_put 0 pod pods (omega arith) r

-- How many pods it leaves.
pub length_change : (u : Uid) (change : Option Pod) (pods : List Pod) → IsRising pods → IsOf u change
    → length (with_change u change pods) + cond (is_some (pod_among u pods)) 1 0 ≡ length pods + cond (is_some change) 1 0
length_change u None pods r of = by (pod_among u pods) refl
  where
    by : (found : Option Pod) → pod_among u pods ≡ found → length (drop_pod u pods) + cond (is_some found) 1 0 ≡ length pods + 0
    by None e = let same = ap length (drop-absent u pods e) in omega (arith, same)
    by (Some pod) e = let more = length-found 0 u pod pods r e in omega (arith, more)
length_change u (Some pod) pods r of = by (pod_among u pods) refl
  where
    put : length (put_pod pod pods) ≡ suc (length (drop_pod pod.uid pods))
    put = length-put 0 pod pods r

    by : (found : Option Pod) → pod_among u pods ≡ found → length (put_pod pod pods) + cond (is_some found) 1 0 ≡ length pods + 1
    by None e = let same = ap length (drop-absent pod.uid pods (ap (λ (w : Uid). pod_among w pods) of ∙ e)) in omega (arith, same, put)
    by (Some old) e = let more = length-found 0 pod.uid old pods r (ap (λ (w : Uid). pod_among w pods) of ∙ e) in omega (arith, more, put)

-- ---- all changes

-- The changes of UIDs.
module _ (rows : List (Uid × Option Pod)) (v : Uid) where
  -- What stands under the UID after them, where this was there before.
  abbrev pub later : Option Pod → Option Pod
  later before = option_map_or (λ change. change) (at same_uid rows v) before

-- They keep the order.
pub rises_all : (rows : List (Uid × Option Pod)) (pods : List Pod) → IsRising pods → IsRising (all_changed rows pods)
rises_all [] pods r = r
rises_all (row ∷ rows) pods r = rises_all rows (with_change row.0 row.1 pods) (rises_change row.0 row.1 pods r)

-- Nothing stands at a UID that none of the rows has.
absent : (u v : Uid) → u ≡ v → (rows : List (Uid × Option Pod)) → Each (λ q. same_uid u q ≡ false) (keys_of rows) → at same_uid rows v ≡ None
absent u v is [] far = refl
absent u v is (row ∷ rows) far =
    cond-false (same_uid v row.0) (Some row.1) (at same_uid rows v) (ap (λ (w : Uid). same_uid w row.0) (sym is) ∙ far.0) ∙ absent u v is rows far.1

-- They leave under each UID its change, or else what was there.
pub among_all : (v : Uid) (rows : List (Uid × Option Pod)) (pods : List Pod) → AreNamed rows → IsDistinct same_uid (keys_of rows)
    → pod_among v (all_changed rows pods) ≡ later rows v (pod_among v pods)
unfolding IsDistinct
among_all v [] pods named once = refl
among_all v (row ∷ rows) pods named once =
    among_all v rows (with_change row.0 row.1 pods) named.1 once.1
    ∙ ap (later rows v) (among_change v row.0 row.1 pods named.0)
    ∙ by (same_uid row.0 v) refl (same_uid v row.0) (same_uid-either_way v row.0)
  where
    by : (b : Bool) → same_uid row.0 v ≡ b → (c : Bool) → c ≡ b
        → later rows v (cond b row.1 (pod_among v pods)) ≡ option_map_or (λ change. change) (cond c (Some row.1) (at same_uid rows v)) (pod_among v pods)
    by true s true e = ap (λ found. option_map_or (λ change. change) found row.1) (absent row.0 v (same_uid-eq row.0 v s) rows once.0)
    by false s false e = refl
    by true s false e = absurd (true≢false (sym e))
    by false s true e = absurd (true≢false e)

-- ---- pods that are found alike

-- Ascending pods that are found alike under each UID are the same.
pub rising_same : (low : ℕ) (xs ys : List Pod) → RisesFrom low xs → RisesFrom low ys → ((v : Uid) → pod_among v xs ≡ pod_among v ys) → xs ≡ ys
rising_same low [] [] r s alike = refl
rising_same low [] (y ∷ ys) r s alike =
    absurd (true≢false (ap is_some (sym (cond-true (same_uid y.uid y.uid) (Some y) (pod_among y.uid ys) (same_uid-itself y.uid)) ∙ sym (alike y.uid))))
rising_same low (x ∷ xs) [] r s alike =
    absurd (true≢false (ap is_some (sym (cond-true (same_uid x.uid x.uid) (Some x) (pod_among x.uid xs) (same_uid-itself x.uid)) ∙ alike x.uid)))
rising_same low (x ∷ xs) (y ∷ ys) r s alike =
    by (rising_same (x.uid.0 + 1) xs ys r.1) (same_uid y.uid x.uid) refl (nat_lt x.uid.0 y.uid.0) refl
  where
    first : pod_among x.uid (x ∷ xs) ≡ Some x
    first = cond-true (same_uid x.uid x.uid) (Some x) (pod_among x.uid xs) (same_uid-itself x.uid)

    second : pod_among y.uid (y ∷ ys) ≡ Some y
    second = cond-true (same_uid y.uid y.uid) (Some y) (pod_among y.uid ys) (same_uid-itself y.uid)

    tails : x ≡ y → (v : Uid) → pod_among v xs ≡ pod_among v ys
    tails is v = at_uid (same_uid x.uid v) refl
      where
        at_uid : (b : Bool) → same_uid x.uid v ≡ b → pod_among v xs ≡ pod_among v ys
        at_uid true e =
            let here = eqb-true x.uid.0 v.0 e in
            let both = ap (λ (pod : Pod). pod.uid.0) is in
            among_none (x.uid.0 + 1) v xs (omega (arith, here)) r.1 ∙ sym (among_none (y.uid.0 + 1) v ys (omega (arith, here, both)) s.1)
        at_uid false e =
            sym (cond-false (same_uid x.uid v) (Some x) (pod_among v xs) e)
            ∙ alike v
            ∙ cond-false (same_uid y.uid v) (Some y) (pod_among v ys) (ap (λ (pod : Pod). same_uid pod.uid v) (sym is) ∙ e)

    by : (RisesFrom (x.uid.0 + 1) ys → ((v : Uid) → pod_among v xs ≡ pod_among v ys) → xs ≡ ys)
        → (b : Bool) → same_uid y.uid x.uid ≡ b → (l : Bool) → nat_lt x.uid.0 y.uid.0 ≡ l → x ∷ xs ≡ y ∷ ys
    by ih true e l t =
        let heads : Some x ≡ Some y = sym first ∙ alike x.uid ∙ cond-true (same_uid y.uid x.uid) (Some y) (pod_among x.uid ys) e in
        let is : x ≡ y = cc in
        let rest : xs ≡ ys = ih (subst (λ (pod : Pod). RisesFrom (pod.uid.0 + 1) ys) (sym is) s.1) (tails is) in
        cc
    by ih false e true t =
        let below = ltb-true x.uid.0 y.uid.0 t in
        absurd (true≢false (ap is_some (sym first ∙ alike x.uid ∙ among_none y.uid.0 x.uid (y ∷ ys) (omega (arith, below)) (omega arith, s.1))))
    by ih false e false t =
        let above = ltb-false x.uid.0 y.uid.0 t in
        let apart = eqb-false y.uid.0 x.uid.0 e in
        absurd (true≢false (ap is_some (sym second ∙ sym (alike y.uid) ∙ among_none x.uid.0 y.uid (x ∷ xs) (omega (arith, above, apart)) (omega arith, r.1))))

-- ---- what waits

-- A change that is put among those that wait is made last, whether or not it takes the place of another.
pub waits : (u : Uid) (change : Option Pod) (rows new : List (Uid × Option Pod)) (pods : List Pod) → IsRising pods → IsOf u change
    → AreNamed rows → IsDistinct same_uid (keys_of rows) → AreNamed new → IsDistinct same_uid (keys_of new) → Sets same_uid rows new u (Some change)
    → all_changed new pods ≡ with_change u change (all_changed rows pods)
waits u change rows new pods r of named once named_new once_new sets =
    rising_same 0 (all_changed new pods) (with_change u change (all_changed rows pods)) (rises_all new pods r) (rises_change u change (all_changed rows pods) (rises_all rows pods r))
    (λ v.
    among_all v new pods named_new once_new
    ∙ ap (λ found. option_map_or (λ change. change) found (pod_among v pods)) (sets v)
    ∙ by v (same_uid u v)
    ∙ ap (cond (same_uid u v) change) (sym (among_all v rows pods named once))
    ∙ sym (among_change v u change (all_changed rows pods) of))
  where
    by : (v : Uid) (b : Bool) → option_map_or (λ change. change) (cond b (Some change) (at same_uid rows v)) (pod_among v pods) ≡ cond b change (later rows v (pod_among v pods))
    by v true = refl
    by v false = refl

-- Changes of which some are made already lead to the same pods.
pub remade : (rows : List (Uid × Option Pod)) (old new : List Pod) → IsRising old → IsRising new → AreNamed rows → IsDistinct same_uid (keys_of rows)
    → ((v : Uid) → at same_uid rows v ≡ None → pod_among v new ≡ pod_among v old) → all_changed rows new ≡ all_changed rows old
remade rows old new r s named once kept =
    rising_same 0 (all_changed rows new) (all_changed rows old) (rises_all rows new s) (rises_all rows old r)
    (λ v. among_all v rows new named once ∙ by v (at same_uid rows v) refl ∙ sym (among_all v rows old named once))
  where
    by : (v : Uid) (found : Option (Option Pod)) → at same_uid rows v ≡ found
        → option_map_or (λ change. change) found (pod_among v new) ≡ option_map_or (λ change. change) found (pod_among v old)
    by v None e = kept v e
    by v (Some change) e = refl

-- The changes stay named when one more is put among them.
pub named_insert : (u : Uid) (change : Option Pod) (rows : List (Uid × Option Pod)) → IsOf u change → AreNamed rows → AreNamed (insert_entry same_uid rows u change)
named_insert u change [] of named = (of, tt)
named_insert u change (row ∷ rows) of named = by (same_uid u row.0) refl (named_insert u change rows of named.1)
  where
    by : (b : Bool) → same_uid u row.0 ≡ b → AreNamed (insert_entry same_uid rows u change) → AreNamed (cond b ((row.0, change) ∷ rows) (row ∷ insert_entry same_uid rows u change))
    by true s ih = (subst (λ (w : Uid). IsOf w change) (same_uid-eq u row.0 s) of, named.1)
    by false s ih = (named.0, ih)

-- ---- while the changes are made

-- Some of the changes are made, and these are left: what is still to come, and that no pod but theirs has changed.
pub record Making (rows left : List (Uid × Option Pod)) (old pods : List Pod) : Type 0 where
  pub rest : all_changed left pods ≡ all_changed rows old
  pub rising : IsRising pods
  pub named : AreNamed left
  pub within : (v : Uid) → at same_uid rows v ≡ None → at same_uid left v ≡ None
  pub others : (v : Uid) → at same_uid rows v ≡ None → pod_among v pods ≡ pod_among v old

-- At first all are left.
pub making-first : (rows : List (Uid × Option Pod)) (old : List Pod) → IsRising old → AreNamed rows → Making rows rows old old
making-first rows old r named = record { rest = refl; rising = r; named = named; within = λ v e. e; others = λ v e. refl }

-- The first of those that are left is made.
pub making-next : (rows next : List (Uid × Option Pod)) (u : Uid) (change : Option Pod) (old pods : List Pod) → Making rows ((u, change) ∷ next) old pods → Making rows next old (with_change u change pods)
making-next rows next u change old pods m = record {
  rest = m.rest;
  rising = rises_change u change pods m.rising;
  named = m.named.1;
  within = λ v e. (apart v e).1;
  others = λ v e.
      among_change v u change pods m.named.0
      ∙ cond-false (same_uid u v) change (pod_among v pods) (same_uid-either_way u v ∙ (apart v e).0)
      ∙ m.others v e;
}
  where
    by : (v : Uid) (b : Bool) → same_uid v u ≡ b → cond b (Some change) (at same_uid next v) ≡ None → (same_uid v u ≡ false) × (at same_uid next v ≡ None)
    by v true s h = absurd (true≢false (ap is_some h))
    by v false s h = (s, h)

    apart : (v : Uid) → at same_uid rows v ≡ None → (same_uid v u ≡ false) × (at same_uid next v ≡ None)
    apart v e = by v (same_uid v u) refl (m.within v e)

-- The same, where the changes and the pods are named otherwise.
pub making-step : (rows left next : List (Uid × Option Pod)) (u : Uid) (change : Option Pod) (old pods new : List Pod) → Making rows left old pods → left ≡ (u, change) ∷ next → new ≡ with_change u change pods
    → Making rows next old new
making-step rows left next u change old pods new m first made =
    subst (λ (all : List Pod). Making rows next old all) (sym made)
    (making-next rows next u change old pods (subst (λ (some : List (Uid × Option Pod)). Making rows some old pods) first m))

-- All changes lead from here to the pods to which they led before.
pub making-same : (rows left : List (Uid × Option Pod)) (old pods : List Pod) → Making rows left old pods → IsRising old → AreNamed rows → IsDistinct same_uid (keys_of rows)
    → all_changed rows pods ≡ all_changed rows old
making-same rows left old pods m r named once = remade rows old pods r m.rising named once m.others

-- ---- whether a pod is there

-- A change of the UID says it, and else the pods do.
pub has-changed : (u : Uid) (rows : List (Uid × Option Pod)) (pods : List Pod) (change : Option Pod) → AreNamed rows → IsDistinct same_uid (keys_of rows)
    → at same_uid rows u ≡ Some change → is_some change ≡ is_some (pod_among u (all_changed rows pods))
has-changed u rows pods change named once there =
    ap is_some (sym (among_all u rows pods named once ∙ ap (λ found. option_map_or (λ change. change) found (pod_among u pods)) there))

pub has-before : (u : Uid) (rows : List (Uid × Option Pod)) (pods : List Pod) → AreNamed rows → IsDistinct same_uid (keys_of rows)
    → at same_uid rows u ≡ None → is_some (pod_among u pods) ≡ is_some (pod_among u (all_changed rows pods))
has-before u rows pods named once there =
    ap is_some (sym (among_all u rows pods named once ∙ ap (λ found. option_map_or (λ change. change) found (pod_among u pods)) there))

-- A borrowed value is there where the value is.
pub copied_some : {X : Type 0} (found : Option (Bor X)) → is_some found ≡ is_some (option_copied found)
copied_some None = refl
copied_some (Some x) = refl

-- ---- how many pods there are

-- Where so many pods are kept, and those after all changes are seen.
module _ (rows : List (Uid × Option Pod)) (pods now : List Pod) (n : ℕ) (kept : KeepsChanges rows pods n) (seen : all_changed rows pods ≡ now) (u : Uid) (change : Option Pod) (of : IsOf u change) where
  -- How many there are after one more change, by whether one was there and whether one is.
  pub counts : (was is : Bool) → was ≡ is_some (pod_among u now) → is ≡ is_some change → length (with_change u change now) + cond was 1 0 ≡ n + cond is 1 0
  counts was is w i =
      ap (λ b. length (with_change u change now) + cond b 1 0) w
      ∙ length_change u change now (subst IsRising seen (rises_all rows pods kept.rising)) of
      ∙ ap (λ m. m + cond (is_some change) 1 0) (sym (kept.counted ∙ ap length seen))
      ∙ ap (λ b. n + cond b 1 0) (sym i)

  -- The change waits.
  module _ (new : List (Uid × Option Pod)) (entries : new ≡ insert_entry same_uid rows u change) (once : IsDistinct same_uid (keys_of new)) (sets : Sets same_uid rows new u (Some change)) where
    waits-named : AreNamed new
    waits-named = subst AreNamed (sym entries) (named_insert u change rows of kept.named)

    pub waits-made : all_changed new pods ≡ with_change u change now
    waits-made = waits u change rows new pods kept.rising of kept.named kept.once waits-named once sets ∙ ap (with_change u change) seen

    pub waits-kept : (count : ℕ) → count ≡ length (with_change u change now) → KeepsChanges new pods count
    waits-kept count is = record { rising = kept.rising; named = waits-named; once = once; counted = is ∙ ap length (sym waits-made) }

-- Where nothing waits the change is made of the pods themselves, and these are counted.
pub made-kept : (rows : List (Uid × Option Pod)) (pods new : List Pod) (n count : ℕ) → KeepsChanges rows pods n → length rows ≡ 0 → (u : Uid) (change : Option Pod)
    → new ≡ with_change u change pods → count ≡ length new → KeepsChanges rows new count
made-kept [] pods new n count kept none u change made is = record {
  rising = subst IsRising (sym made) (rises_change u change pods kept.rising);
  named = tt;
  once = kept.once;
  counted = is;
}
made-kept (row ∷ rows) pods new n count kept none u change made is = absurd (omega (arith, none))

-- Once all changes are made none waits, and the pods are as many as before.
pub emptied-kept : (rows left : List (Uid × Option Pod)) (pods new : List Pod) (n : ℕ) → KeepsChanges rows pods n → new ≡ all_changed rows pods → IsRising new → left ≡ [] → KeepsChanges left new n
unfolding IsDistinct
emptied-kept rows left pods new n kept made rising none =
    subst (λ (some : List (Uid × Option Pod)). KeepsChanges some new n) (sym none)
    (record { rising = rising; named = tt; once = tt; counted = kept.counted ∙ ap length (sym made) })
