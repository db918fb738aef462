-- What becomes of the pods that are there, where a sync writes some of them again and some go.
use Rattle.std.proofs.Common.{◌≡◌, ◌⊎◌, inl, inr, ℕ, ◌+◌, ◌≤◌, ◌==◌, nat_lt, Bool, true, false, not, cond, List, [], ◌∷◌, map, filter, Some, is_some, refl, sym, ap, ◌∙◌, subst, arith, ltb-true, eqb-true, ne_eqb, true≢false}
use Rattle.std.specs.List.{AllByRecursion as Each}
use Rattle.std.proofs.lemmas.Bool.{cond-false, eqb-false}
use Rattle.jc_types.proofs.KeyFacts.{same_uid-eq}
use Rattle.jc_types.proofs.ListFacts.{Each-weaker}
use Rattle.jc_types.specs.declared.objects.KeyNames.{KeyNames as Key}
use Rattle.jc_types.specs.Keys.{same_key, same_uid}
use Rattle.jc_types.specs.declared.numbers.Uid.{Uid}
use Rattle.jc_types.specs.declared.objects.Pod.{Pod}
use Rattle.jc_states.specs.PodLists.{RisesFrom, drop_pod, put_pod}
use Rattle.jc_states.specs.UidLists.{is_in}
use Rattle.jc_states.proofs.PodListFacts.{among_none, pod_among, rises-each}
use Rattle.jc_plan.specs.declared.plans.Planned.{Planned}
use Rattle.jc_making.specs.Grants.{AllBecome, Goes, Nothing, Stays, frees, concerns}
use Rattle.jc_bearing.specs.Served.{AllServed, IsGone, IsRewritten, IsServed, NonePod, Served}

-- ---- a pod in the place of that of its UID

abbrev pub replaced : Pod → Pod → Pod
replaced new p = cond (same_uid p.uid new.uid) new p

pub map-same : {X : Type 0} (f : X → X) (xs : List X) → Each (λ x. f x ≡ x) xs → map f xs ≡ xs
map-same f [] h = refl
map-same f (x ∷ xs) h = (λ i. h.0 i ∷ map-same f xs h.1 i)

pub put-replaced : (low : ℕ) (new : Pod) (pods : List Pod) → RisesFrom low pods → is_some (pod_among new.uid pods) ≡ true → put_pod new pods ≡ map (replaced new) pods
put-replaced low new [] r there = absurd (true≢false (sym there))
put-replaced low new (q ∷ pods) r there =
    by (nat_lt new.uid.0 q.uid.0) refl (new.uid.0 == q.uid.0) refl (same_uid q.uid new.uid) refl there (put-replaced (q.uid.0 + 1) new pods r.1)
  where
    behind : q.uid.0 ≡ new.uid.0 → map (replaced new) pods ≡ pods
    behind is =
        map-same (replaced new) pods
        (Each-weaker (λ p. q.uid.0 + 1 ≤ p.uid.0) (λ p. replaced new p ≡ p)
        (λ p above. cond-false (same_uid p.uid new.uid) new p (ne_eqb p.uid.0 new.uid.0 (λ e. omega (arith, e, is, above)))) pods (rises-each (q.uid.0 + 1) pods r.1))

    by : (lt : Bool) → nat_lt new.uid.0 q.uid.0 ≡ lt → (eq : Bool) → (new.uid.0 == q.uid.0) ≡ eq → (s : Bool) → same_uid q.uid new.uid ≡ s
        → is_some (cond s (Some q) (pod_among new.uid pods)) ≡ true
        → (is_some (pod_among new.uid pods) ≡ true → put_pod new pods ≡ map (replaced new) pods)
        → cond lt (new ∷ q ∷ pods) (cond eq (new ∷ pods) (q ∷ put_pod new pods)) ≡ cond s new q ∷ map (replaced new) pods
    by true l eq e true s h ih =
        let below = ltb-true new.uid.0 q.uid.0 l in
        let is = eqb-true q.uid.0 new.uid.0 s in
        absurd (omega (arith, below, is))
    by true l eq e false s h ih =
        let below = ltb-true new.uid.0 q.uid.0 l in
        absurd (true≢false (sym h ∙ ap is_some (among_none (q.uid.0 + 1) new.uid pods (omega (arith, below)) r.1)))
    by false l true e true s h ih = ap (λ ps. new ∷ ps) (sym (behind (eqb-true q.uid.0 new.uid.0 s)))
    by false l true e false s h ih = absurd (eqb-false q.uid.0 new.uid.0 s (sym (eqb-true new.uid.0 q.uid.0 e)))
    by false l false e true s h ih = absurd (eqb-false new.uid.0 q.uid.0 e (sym (eqb-true q.uid.0 new.uid.0 s)))
    by false l false e false s h ih = ap (λ ps. q ∷ ps) (ih h)

-- ---- what becomes of them

-- Such a change, and one behind it.
pub rewritten-itself : (pod : Pod) → IsRewritten pod pod
rewritten-itself pod = record { rest = refl; untracked = λ h. h; marked = λ h. h }

rewritten-twice : (old now new : Pod) → IsRewritten old now → IsRewritten now new → IsRewritten old new
rewritten-twice old now new first second = record {
  rest = second.rest ∙ ap (λ (p : Pod). record p { version = new.version; marked = new.marked; tracked = new.tracked }) first.rest;
  untracked = λ h. second.untracked (first.untracked h);
  marked = λ h. second.marked (first.marked h);
}

-- The pod is written again: its UID, its owner and its phase stay.
pub record IsChangeOf (was new : Pod) : Type 0 where
  pub rewritten : IsRewritten was new
  pub uid : new.uid ≡ was.uid
  pub phase : new.phase ≡ was.phase
  pub owner : new.owner ≡ was.owner
  pub owner_uid : new.owner_uid ≡ was.owner_uid

-- The plan of a sync of the key concerns the pod.
pub record IsTouched (plan : Planned) (k : Key) (pod : Pod) : Type 0 where
  pub touched : concerns plan pod.uid ≡ true
  pub under : same_key pod.owner k ≡ true

-- The pod is as it was, or it is one that the plan concerns.
pub record IsLike (plan : Planned) (k : Key) (old new : Pod) : Type 0 where
  pub change : IsChangeOf old new
  pub same : (new ≡ old) ⊎ IsTouched plan k old

-- Some are written again, and some that lose their finalizer go.
pub data Tracks (plan : Planned) (k : Key) : List Pod → List Pod → Type 0 where
  Empty : Tracks plan k [] []
  Kept : (old new : Pod) (olds news : List Pod) → IsLike plan k old new → Tracks plan k olds news → Tracks plan k (old ∷ olds) (new ∷ news)
  Left : (old : Pod) (olds news : List Pod) → frees plan old.uid ≡ true → same_key old.owner k ≡ true → Tracks plan k olds news → Tracks plan k (old ∷ olds) news

module _ (plan : Planned) (k : Key) where
  pub tracks-itself : (pods : List Pod) → Tracks plan k pods pods
  tracks-itself [] = Empty
  tracks-itself (p ∷ pods) = Kept p p pods pods (record { change = record { rewritten = rewritten-itself p; uid = refl; phase = refl; owner = refl; owner_uid = refl }; same = inl refl }) (tracks-itself pods)

  -- A pod of the UID is under the key.
  abbrev pub Under : Uid → List Pod → Type 0
  Under u pods = Each (λ (pod : Pod). same_uid pod.uid u ≡ true → same_key pod.owner k ≡ true) pods

  -- One of them is written again.
  module _ (was new : Pod) (change : IsChangeOf was new) (touched : concerns plan new.uid ≡ true) where
    one-more : (old now : Pod) → same_uid now.uid new.uid ≡ true → (same_uid old.uid new.uid ≡ true → same_key old.owner k ≡ true) → now ≡ was → IsLike plan k old now → IsLike plan k old new
    one-more old now same under is like = record {
      change = record {
        rewritten = rewritten-twice old was new (subst (IsRewritten old) is like.change.rewritten) change.rewritten;
        uid = change.uid ∙ ap (λ (p : Pod). p.uid) (sym is) ∙ like.change.uid;
        phase = change.phase ∙ ap (λ (p : Pod). p.phase) (sym is) ∙ like.change.phase;
        owner = change.owner ∙ ap (λ (p : Pod). p.owner) (sym is) ∙ like.change.owner;
        owner_uid = change.owner_uid ∙ ap (λ (p : Pod). p.owner_uid) (sym is) ∙ like.change.owner_uid;
      };
      same = inr (record {
        touched = ap (concerns plan) (sym like.change.uid ∙ same_uid-eq now.uid new.uid same) ∙ touched;
        under = under (ap (λ u. same_uid u new.uid) (sym like.change.uid) ∙ same);
      });
    }

    pub tracks-replaced : (olds news : List Pod) → Under new.uid olds → Each (λ (now : Pod). same_uid now.uid new.uid ≡ true → now ≡ was) news → Tracks plan k olds news → Tracks plan k olds (map (replaced new) news)
    tracks-replaced [] [] under is Empty = Empty
    tracks-replaced [] (now ∷ news) under is h = elim h [ ]
    tracks-replaced (old ∷ olds) (now ∷ news) under is (Kept _ _ _ _ like rest) =
        Kept old (replaced new now) olds (map (replaced new) news) (by (same_uid now.uid new.uid) refl) (tracks-replaced olds news under.1 is.1 rest)
      where
        by : (b : Bool) → same_uid now.uid new.uid ≡ b → IsLike plan k old (cond b new now)
        by true same = one-more old now same under.0 (is.0 same) like
        by false same = like
    tracks-replaced (old ∷ olds) news under is (Left _ _ _ freed under-it rest) = Left old olds (map (replaced new) news) freed under-it (tracks-replaced olds news under.1 is rest)

  -- One of them goes.
  module _ (u : Uid) (freed : frees plan u ≡ true) where
    pub tracks-dropped : (olds news : List Pod) → Under u olds → Tracks plan k olds news → Tracks plan k olds (drop_pod u news)
    tracks-dropped [] [] under Empty = Empty
    tracks-dropped [] (now ∷ news) under h = elim h [ ]
    tracks-dropped (old ∷ olds) (now ∷ news) under (Kept _ _ _ _ like rest) = by (same_uid now.uid u) refl (tracks-dropped olds news under.1 rest)
      where
        by : (b : Bool) → same_uid now.uid u ≡ b → Tracks plan k olds (drop_pod u news) → Tracks plan k (old ∷ olds) (cond (not b) (now ∷ drop_pod u news) (drop_pod u news))
        by true same ih =
            Left old olds (drop_pod u news) (ap (frees plan) (sym like.change.uid ∙ same_uid-eq now.uid u same) ∙ freed)
            (under.0 (ap (λ v. same_uid v u) (sym like.change.uid) ∙ same)) ih
        by false same ih = Kept old now olds (drop_pod u news) like ih
    tracks-dropped (old ∷ olds) news under (Left _ _ _ gone under-it rest) = Left old olds (drop_pod u news) gone under-it (tracks-dropped olds news under.1 rest)

  -- ---- those of one owner

  module _ (test : Pod → Bool) (respects : (old new : Pod) → IsChangeOf old new → test new ≡ test old) where
    pub tracks-filter : (olds news : List Pod) → Tracks plan k olds news → Tracks plan k (filter test olds) (filter test news)
    tracks-filter [] [] Empty = Empty
    tracks-filter [] (now ∷ news) h = elim h [ ]
    tracks-filter (old ∷ olds) (now ∷ news) (Kept _ _ _ _ like rest) =
        subst (λ b. Tracks plan k (filter test (old ∷ olds)) (cond b (now ∷ filter test news) (filter test news))) (sym (respects old now like.change)) (by (test old) (tracks-filter olds news rest))
      where
        by : (b : Bool) → Tracks plan k (filter test olds) (filter test news) → Tracks plan k (cond b (old ∷ filter test olds) (filter test olds)) (cond b (now ∷ filter test news) (filter test news))
        by true ih = Kept old now (filter test olds) (filter test news) like ih
        by false ih = ih
    tracks-filter (old ∷ olds) news (Left _ _ _ freed under-it rest) = by (test old) (tracks-filter olds news rest)
      where
        by : (b : Bool) → Tracks plan k (filter test olds) (filter test news) → Tracks plan k (cond b (old ∷ filter test olds) (filter test olds)) (filter test news)
        by true ih = Left old (filter test olds) (filter test news) freed under-it ih
        by false ih = ih

  -- Those of other keys are as they were.
  pub tracks-same : (olds news : List Pod) → Each (λ (pod : Pod). same_key pod.owner k ≡ false) olds → Tracks plan k olds news → news ≡ olds
  tracks-same [] [] others Empty = refl
  tracks-same [] (now ∷ news) others h = elim h [ ]
  tracks-same (old ∷ olds) (now ∷ news) others (Kept _ _ _ _ like rest) = (λ i. by like.same i ∷ tracks-same olds news others.1 rest i)
    where
      by : (now ≡ old) ⊎ IsTouched plan k old → now ≡ old
      by (inl same) = same
      by (inr touched) = absurd (true≢false (sym touched.under ∙ others.0))
  tracks-same (old ∷ olds) news others (Left _ _ _ freed under-it rest) = absurd (true≢false (sym under-it ∙ others.0))

  -- ---- once all is done

  pub tracks-follow : (olds news : List Pod) → Each (IsServed plan) news → Tracks plan k olds news → AllBecome plan olds news
  tracks-follow [] [] done Empty = Nothing
  tracks-follow [] (now ∷ news) done h = elim h [ ]
  tracks-follow (old ∷ olds) (now ∷ news) done (Kept _ _ _ _ like rest) = Stays old now olds news (record {
    phase = like.change.phase;
    same = λ untouched. by like.same untouched;
    freed = λ h. done.0.freed (ap (frees plan) like.change.uid ∙ h);
    marked = λ h. done.0.marked (ap (λ u. is_in u plan.marks) like.change.uid ∙ h);
  }) (tracks-follow olds news done.1 rest)
    where
      by : (now ≡ old) ⊎ IsTouched plan k old → concerns plan old.uid ≡ false → now ≡ old
      by (inl same) untouched = same
      by (inr touched) untouched = absurd (true≢false (sym touched.touched ∙ untouched))
  tracks-follow (old ∷ olds) news done (Left _ _ _ freed under-it rest) = Goes old olds news freed (tracks-follow olds news done rest)

  -- All of them, whosesoever they are.
  pub tracks-served : (olds news : List Pod) → Each (IsServed plan) news → Tracks plan k olds news → AllServed plan olds news
  tracks-served [] [] done Empty = NonePod
  tracks-served [] (now ∷ news) done h = elim h [ ]
  tracks-served (old ∷ olds) (now ∷ news) done (Kept _ _ _ _ like rest) = Served old now olds news like.change.rewritten done.0 (tracks-served olds news done.1 rest)
  tracks-served (old ∷ olds) news done (Left _ _ _ freed under-it rest) = IsGone old olds news freed (tracks-served olds news done rest)
