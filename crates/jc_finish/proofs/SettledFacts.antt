-- Which conditions stand after a sync.
use Rattle.std.proofs.Common.{◌≡◌, ◌≢◌, ◌⊎◌, inl, inr, ℕ, Bool, true, false, cond, not, ◌&&◌, ◌||◌, List, [], ◌∷◌, ◌++◌, map, find, Option, Some, None, IsSome, IfSome, is_some, option_map, refl, sym, ap, ◌∙◌, subst, true≢false}
use Rattle.std.specs.List.{list_any}
use Rattle.std.specs.Option.{option_map_or}
use Rattle.std.proofs.lemmas.Bool.{or_left, or_right}
use Rattle.jc_types.specs.declared.statuses.CondKind.{CondKind}
use Rattle.jc_types.specs.declared.statuses.CondKind.TheVariants.{Suspended, FailureTarget, SuccessCriteriaMet, Failed, Complete}
use Rattle.jc_types.specs.declared.statuses.Condition.{Condition}
use Rattle.jc_types.specs.declared.statuses.Reason.{Reason}
use Rattle.jc_states.specs.Conditions.{stands, has_target, has_end}
use Rattle.jc_types.specs.Equality.{same_bool, same_kind}
use Rattle.jc_types.proofs.EqualityFacts.{kind-exact, bool-exact}
use Rattle.jc_finish.specs.Settled.{true_since, suspension, is_suspension, in_place, with_suspension, settled_suspended, with_last, with_target, is_target_kind, is_target, end_kind, end_of, with_end, settled}

-- ---- tests

or_assoc : (a b c : Bool) → (a || (b || c)) ≡ ((a || b) || c)
or_assoc true b c = refl
or_assoc false b c = refl

pub or_false : (a : Bool) → (a || false) ≡ a
or_false true = refl
or_false false = refl

-- The condition stands and has the kind.
abbrev is_one : CondKind → Condition → Bool
is_one kind condition = same_kind condition.kind kind && condition.status

-- What has the kind Suspended has no other.
no_other : (kind other : CondKind) → kind ≢ Suspended → same_kind other Suspended ≡ true → same_kind other kind ≡ false
no_other kind other ne s = subst (λ a. same_kind a kind ≡ false) (sym ((kind-exact other Suspended).0 s)) (by kind ne)
  where
    by : (k : CondKind) → k ≢ Suspended → same_kind Suspended k ≡ false
    by Suspended n = absurd (n refl)
    by FailureTarget n = refl
    by SuccessCriteriaMet n = refl
    by Failed n = refl
    by Complete n = refl

-- ---- one more condition

-- What stands with one more condition at the end.
stands-last : (kind : CondKind) (conditions : List Condition) (last : Condition) → stands kind (conditions ++ last ∷ []) ≡ (stands kind conditions || is_one kind last)
stands-last kind [] last = or_false (is_one kind last)
stands-last kind (one ∷ rest) last =
    ap (λ b. is_one kind one || b) (stands-last kind rest last) ∙ or_assoc (is_one kind one) (stands kind rest) (is_one kind last)

-- The same, where it may be none.
stands-with_last : (kind : CondKind) (last : Option Condition) (conditions : List Condition) → stands kind (with_last last conditions) ≡ (stands kind conditions || option_map_or (is_one kind) last false)
stands-with_last kind None conditions = sym (or_false (stands kind conditions))
stands-with_last kind (Some last) conditions = stands-last kind conditions last

-- What stood stands.
stands-stays : (kind : CondKind) (last : Option Condition) (conditions : List Condition) → stands kind conditions ≡ true → stands kind (with_last last conditions) ≡ true
stands-stays kind last conditions h =
    stands-with_last kind last conditions ∙ or_left (stands kind conditions) (option_map_or (is_one kind) last false) h

-- ---- the Suspended condition

-- A new Suspended condition changes what stands of no other kind.
stands-in_place : (kind : CondKind) (new : Condition) (conditions : List Condition) → kind ≢ Suspended → is_suspension new ≡ true → stands kind (map (in_place new) conditions) ≡ stands kind conditions
stands-in_place kind new [] ne s = refl
stands-in_place kind new (one ∷ rest) ne s = by (stands-in_place kind new rest ne s) (is_suspension one) refl
  where
    by : stands kind (map (in_place new) rest) ≡ stands kind rest → (b : Bool) → is_suspension one ≡ b → (is_one kind (cond b new one) || stands kind (map (in_place new) rest)) ≡ (is_one kind one || stands kind rest)
    by ih true t =
        ap (λ p. (p && new.status) || stands kind (map (in_place new) rest)) (no_other kind new.kind ne s) ∙ ih
        ∙ sym (ap (λ p. (p && one.status) || stands kind rest) (no_other kind one.kind ne t))
    by ih false t = ap (λ r. is_one kind one || r) ih

-- In the place of an older one it stands where it is true.
suspended-in_place : (new : Condition) (conditions : List Condition) → is_suspension new ≡ true → stands Suspended (map (in_place new) conditions) ≡ (list_any is_suspension conditions && new.status)
suspended-in_place new [] s = refl
suspended-in_place new (one ∷ rest) s = by (suspended-in_place new rest s) (is_suspension one) refl
  where
    twice : (status more : Bool) → (status || (more && status)) ≡ status
    twice true more = refl
    twice false true = refl
    twice false false = refl

    by : stands Suspended (map (in_place new) rest) ≡ (list_any is_suspension rest && new.status) → (b : Bool)
        → is_suspension one ≡ b → (is_one Suspended (cond b new one) || stands Suspended (map (in_place new) rest))
        ≡ ((b || list_any is_suspension rest) && new.status)
    by ih true t =
        ap (λ p. (p && new.status) || stands Suspended (map (in_place new) rest)) s ∙ ap (λ r. new.status || r) ih
        ∙ twice new.status (list_any is_suspension rest)
    by ih false t = ap (λ p. (p && one.status) || stands Suspended (map (in_place new) rest)) t ∙ ih

-- Without a Suspended condition none stands.
none_stands : (conditions : List Condition) → list_any is_suspension conditions ≡ false → stands Suspended conditions ≡ false
none_stands [] h = refl
none_stands (one ∷ rest) h = by (none_stands rest) (is_suspension one) h
  where
    by : (list_any is_suspension rest ≡ false → stands Suspended rest ≡ false) → (b : Bool) → (b || list_any is_suspension rest) ≡ false → ((b && one.status) || stands Suspended rest) ≡ false
    by ih true g = absurd (true≢false g)
    by ih false g = ih g

module _ (new : Condition) (conditions : List Condition) (s : is_suspension new ≡ true) where
  stands-with_suspension : (kind : CondKind) → kind ≢ Suspended → stands kind (with_suspension new conditions) ≡ stands kind conditions
  stands-with_suspension kind ne = by (list_any is_suspension conditions)
    where
      by : (b : Bool) → stands kind (cond b (map (in_place new) conditions) (conditions ++ new ∷ [])) ≡ stands kind conditions
      by true = stands-in_place kind new conditions ne s
      by false =
          stands-last kind conditions new ∙ ap (λ p. stands kind conditions || (p && new.status)) (no_other kind new.kind ne s)
          ∙ or_false (stands kind conditions)

  suspended-with_suspension : stands Suspended (with_suspension new conditions) ≡ new.status
  suspended-with_suspension = by (list_any is_suspension conditions) refl
    where
      by : (b : Bool) → list_any is_suspension conditions ≡ b → stands Suspended (cond b (map (in_place new) conditions) (conditions ++ new ∷ [])) ≡ new.status
      by true t = suspended-in_place new conditions s ∙ ap (λ b. b && new.status) t
      by false t =
          stands-last Suspended conditions new ∙ ap (λ r. r || is_one Suspended new) (none_stands conditions t)
          ∙ ap (λ p. p && new.status) s

module _ (now : ℕ) (suspend : Bool) (conditions : List Condition) where
  -- What stands of the other kinds stays.
  stands-settled_suspended : (kind : CondKind) (is_decided : Bool) → kind ≢ Suspended → stands kind (settled_suspended now suspend is_decided conditions) ≡ stands kind conditions
  stands-settled_suspended kind is_decided ne = by (is_decided || has_target conditions || same_bool suspend (stands Suspended conditions))
    where
      by : (b : Bool) → stands kind (cond b conditions (with_suspension (suspension now suspend) conditions)) ≡ stands kind conditions
      by true = refl
      by false = stands-with_suspension (suspension now suspend) conditions refl kind ne

  -- While no target stands or is decided, it stands just where the Job is suspended.
  suspended-settled_suspended : has_target conditions ≡ false → stands Suspended (settled_suspended now suspend false conditions) ≡ suspend
  suspended-settled_suspended unsettled = by (has_target conditions) unsettled (same_bool suspend (stands Suspended conditions)) refl
    where
      by : (t : Bool) → t ≡ false → (b : Bool) → same_bool suspend (stands Suspended conditions) ≡ b → stands Suspended (cond (t || b) conditions (with_suspension (suspension now suspend) conditions)) ≡ suspend
      by true e b h = absurd (true≢false e)
      by false e true h = sym ((bool-exact suspend (stands Suspended conditions)).0 h)
      by false e false h = suspended-with_suspension (suspension now suspend) conditions refl

-- ---- targets and ends

-- A target is FailureTarget or SuccessCriteriaMet.
has_target-any : (conditions : List Condition) → has_target conditions ≡ list_any is_target conditions
has_target-any [] = refl
has_target-any (one ∷ rest) =
    mixed (is_one FailureTarget one) (stands FailureTarget rest) (is_one SuccessCriteriaMet one) (stands SuccessCriteriaMet rest)
    ∙ ap (λ b. b || has_target rest) (either one.kind one.status) ∙ ap (λ b. is_target one || b) (has_target-any rest)
  where
    mixed : (a b c d : Bool) → ((a || b) || (c || d)) ≡ ((a || c) || (b || d))
    mixed true b c d = refl
    mixed false true true d = refl
    mixed false true false d = refl
    mixed false false c d = refl

    either : (kind : CondKind) (status : Bool) → ((same_kind kind FailureTarget && status) || (same_kind kind SuccessCriteriaMet && status)) ≡ (is_target_kind kind && status)
    either Suspended status = refl
    either FailureTarget status = or_false status
    either SuccessCriteriaMet status = refl
    either Failed status = refl
    either Complete status = refl

-- What passes somewhere is found.
found-any : (test : Condition → Bool) (conditions : List Condition) → is_some (find test conditions) ≡ list_any test conditions
found-any test [] = refl
found-any test (one ∷ rest) = by (found-any test rest) (test one)
  where
    by : is_some (find test rest) ≡ list_any test rest → (b : Bool) → is_some (cond b (Some one) (find test rest)) ≡ (b || list_any test rest)
    by ih true = refl
    by ih false = ih

-- An end is no target and no Suspended condition.
no_end : (kind : CondKind) → (is_target_kind kind ≡ true) ⊎ (kind ≡ Suspended) → (now : ℕ) (target : CondKind) (reason : Reason) → is_one kind (true_since now (end_kind target) reason) ≡ false
no_end kind k now target reason = by kind k (same_kind target FailureTarget)
  where
    no : {A : Type 0} → false ≡ true → A
    no e = absurd (true≢false (sym e))

    by : (a : CondKind) → (is_target_kind a ≡ true) ⊎ (a ≡ Suspended) → (b : Bool) → (same_kind (cond b Failed Complete) a && true) ≡ false
    by Suspended k true = refl
    by Suspended k false = refl
    by FailureTarget k true = refl
    by FailureTarget k false = refl
    by SuccessCriteriaMet k true = refl
    by SuccessCriteriaMet k false = refl
    by Failed (inl t) b = no t
    by Failed (inr e) b = cc
    by Complete (inl t) b = no t
    by Complete (inr e) b = cc

module _ (now : ℕ) (due : Bool) (conditions : List Condition) where
  -- The end changes what stands of no other kind.
  stands-with_end : (kind : CondKind) → (is_target_kind kind ≡ true) ⊎ (kind ≡ Suspended) → stands kind (with_end now due conditions) ≡ stands kind conditions
  stands-with_end kind k = by (due && not (has_end conditions))
    where
      added : (o : Option Condition) → stands kind (with_last (option_map (λ target. true_since now (end_kind target.kind) target.reason) o) conditions) ≡ stands kind conditions
      added None = refl
      added (Some target) =
          stands-last kind conditions (true_since now (end_kind target.kind) target.reason)
          ∙ ap (λ b. stands kind conditions || b) (no_end kind k now target.kind target.reason) ∙ or_false (stands kind conditions)

      by : (b : Bool) → stands kind (cond b (with_last (end_of now conditions) conditions) conditions) ≡ stands kind conditions
      by true = added (find is_target conditions)
      by false = refl

  -- What stood stands.
  with_end-stays : (kind : CondKind) → stands kind conditions ≡ true → stands kind (with_end now due conditions) ≡ true
  with_end-stays kind h = by (due && not (has_end conditions))
    where
      by : (b : Bool) → stands kind (cond b (with_last (end_of now conditions) conditions) conditions) ≡ true
      by true = stands-stays kind (end_of now conditions) conditions h
      by false = h

-- After a target the end that is due stands.
ends : (now : ℕ) (conditions : List Condition) → has_target conditions ≡ true → has_end (with_end now true conditions) ≡ true
ends now conditions h = by (has_end conditions) refl
  where
    one_stands : (a : CondKind) → (a ≡ Failed) ⊎ (a ≡ Complete) → (reason : Reason) → has_end (conditions ++ true_since now a reason ∷ []) ≡ true
    one_stands Failed k reason =
        or_left (stands Failed (conditions ++ true_since now Failed reason ∷ [])) (stands Complete (conditions ++ true_since now Failed reason ∷ []))
        (stands-last Failed conditions (true_since now Failed reason) ∙ or_right (stands Failed conditions) true refl)
    one_stands Complete k reason =
        or_right (stands Failed (conditions ++ true_since now Complete reason ∷ [])) (stands Complete (conditions ++ true_since now Complete reason ∷ []))
        (stands-last Complete conditions (true_since now Complete reason) ∙ or_right (stands Complete conditions) true refl)
    one_stands Suspended (inl e) reason = cc
    one_stands Suspended (inr e) reason = cc
    one_stands FailureTarget (inl e) reason = cc
    one_stands FailureTarget (inr e) reason = cc
    one_stands SuccessCriteriaMet (inl e) reason = cc
    one_stands SuccessCriteriaMet (inr e) reason = cc

    which : (b : Bool) → (cond b Failed Complete ≡ Failed) ⊎ (cond b Failed Complete ≡ Complete)
    which true = inl refl
    which false = inr refl

    added : (o : Option Condition) → is_some o ≡ true → has_end (with_last (option_map (λ target. true_since now (end_kind target.kind) target.reason) o) conditions) ≡ true
    added None g = absurd (true≢false (sym g))
    added (Some target) g = one_stands (end_kind target.kind) (which (same_kind target.kind FailureTarget)) target.reason

    by : (e : Bool) → has_end conditions ≡ e → has_end (cond (not e) (with_last (end_of now conditions) conditions) conditions) ≡ true
    by true t = t
    by false t = added (find is_target conditions) (found-any is_target conditions ∙ sym (has_target-any conditions) ∙ h)

-- ---- all three

module _ (now : ℕ) (suspend : Bool) (target : Option (CondKind × Reason)) (due : Bool) (conditions : List Condition) where
  -- The conditions with the decided target, before the end.
  abbrev targeted : List Condition
  targeted = with_target now target (settled_suspended now suspend (is_some target) conditions)

  -- What stood stands, but for the Suspended condition.
  pub settled-keeps : (kind : CondKind) → kind ≢ Suspended → stands kind conditions ≡ true → stands kind (settled now suspend target due conditions) ≡ true
  settled-keeps kind ne h =
      with_end-stays now due targeted kind
      (stands-stays kind (option_map (λ pair. true_since now pair.0 pair.1) target) (settled_suspended now suspend (is_some target) conditions)
      (stands-settled_suspended now suspend conditions kind (is_some target) ne ∙ h))

-- The decided target stands.
pub settled-decided : (now : ℕ) (suspend : Bool) (target : CondKind × Reason) (due : Bool) (conditions : List Condition) → stands target.0 (settled now suspend (Some target) due conditions) ≡ true
settled-decided now suspend target due conditions =
    with_end-stays now due (before ++ new ∷ []) target.0
    (stands-last target.0 before new ∙ or_right (stands target.0 before) (is_one target.0 new) (ap (λ b. b && true) ((kind-exact target.0 target.0).1 refl)))
  where
    before : List Condition
    before = settled_suspended now suspend true conditions

    new : Condition
    new = true_since now target.0 target.1

-- Without a decided target none is new.
pub settled-target : (now : ℕ) (suspend due : Bool) (conditions : List Condition) (kind : CondKind) → is_target_kind kind ≡ true → stands kind (settled now suspend None due conditions) ≡ stands kind conditions
settled-target now suspend due conditions kind k =
    stands-with_end now due (settled_suspended now suspend false conditions) kind (inl k)
    ∙ stands-settled_suspended now suspend conditions kind false (λ e. absurd (true≢false (sym k ∙ ap is_target_kind e)))

-- While no target stands or is decided, the Suspended condition stands just where the Job is suspended.
pub settled-suspended : (now : ℕ) (suspend due : Bool) (conditions : List Condition) → has_target conditions ≡ false → stands Suspended (settled now suspend None due conditions) ≡ suspend
settled-suspended now suspend due conditions unsettled =
    stands-with_end now due (settled_suspended now suspend false conditions) Suspended (inr refl)
    ∙ suspended-settled_suspended now suspend conditions unsettled

-- The end that is due stands, where a target stands or is decided.
pub settled-ends : (now : ℕ) (suspend : Bool) (target : Option (CondKind × Reason)) (conditions : List Condition)
    → IfSome target (λ pair. is_target_kind pair.0 ≡ true) → (has_target conditions ≡ true) ⊎ IsSome target
    → has_end (settled now suspend target true conditions) ≡ true
settled-ends now suspend None conditions k (inl h) =
    ends now (settled_suspended now suspend false conditions) (kept h)
  where
    kept : has_target conditions ≡ true → has_target (settled_suspended now suspend false conditions) ≡ true
    kept h = (λ i. stands-settled_suspended now suspend conditions FailureTarget false (λ e. cc) i || stands-settled_suspended now suspend conditions SuccessCriteriaMet false (λ e. cc) i) ∙ h
settled-ends now suspend None conditions k (inr e) = absurd (true≢false (sym e))
settled-ends now suspend (Some target) conditions k h =
    ends now (before ++ new ∷ []) (by target.0 k)
  where
    before : List Condition
    before = settled_suspended now suspend true conditions

    new : Condition
    new = true_since now target.0 target.1

    by : (kind : CondKind) → is_target_kind kind ≡ true → has_target (before ++ true_since now kind target.1 ∷ []) ≡ true
    by kind t = has_target-any (before ++ true_since now kind target.1 ∷ []) ∙ last_is before
      where
        last_is : (some : List Condition) → list_any is_target (some ++ true_since now kind target.1 ∷ []) ≡ true
        last_is [] = or_left (is_target_kind kind && true) false (ap (λ b. b && true) t)
        last_is (one ∷ rest) = or_right (is_target one) (list_any is_target (rest ++ true_since now kind target.1 ∷ [])) (last_is rest)

-- No end is new where none is due.
pub settled-not_due : (now : ℕ) (suspend : Bool) (target : Option (CondKind × Reason)) (conditions : List Condition) → IfSome target (λ pair. is_target_kind pair.0 ≡ true) → has_end (settled now suspend target false conditions) ≡ has_end conditions
settled-not_due now suspend None conditions k =
    λ i. stands-settled_suspended now suspend conditions Failed false (λ e. cc) i || stands-settled_suspended now suspend conditions Complete false (λ e. cc) i
settled-not_due now suspend (Some target) conditions k = λ i. one Failed (λ e. cc) (no_target Failed (λ e. cc)) i || one Complete (λ e. cc) (no_target Complete (λ e. cc)) i
  where
    before : List Condition
    before = settled_suspended now suspend true conditions

    no_target : (kind : CondKind) → is_target_kind kind ≢ true → same_kind target.0 kind ≡ false
    no_target kind n = by (same_kind target.0 kind) refl
      where
        by : (b : Bool) → same_kind target.0 kind ≡ b → b ≡ false
        by false t = refl
        by true t = absurd (n (sym (ap is_target_kind ((kind-exact target.0 kind).0 t)) ∙ k))

    one : (kind : CondKind) → kind ≢ Suspended → same_kind target.0 kind ≡ false → stands kind (before ++ true_since now target.0 target.1 ∷ []) ≡ stands kind conditions
    one kind ne n =
        stands-last kind before (true_since now target.0 target.1) ∙ ap (λ b. stands kind before || (b && true)) n ∙ or_false (stands kind before)
        ∙ stands-settled_suspended now suspend conditions kind true ne
