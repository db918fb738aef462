-- How a sync goes on among its requests.
use Rattle.std.proofs.Common.{◌≡◌, ℕ, zero, suc, ◌<◌, ◌≤◌, nat_lt, Bool, true, false, cond, ◌||◌, List, [], ◌∷◌, ◌++◌, length, map, drop, slice_get, Option, Some, None, is_some, refl, sym, ap, ◌∙◌, subst, true≢false, arith, append_assoc}
use Rattle.std.proofs.Common.{ltb-true, ltb-false}
use Rattle.std.proofs.lemmas.List.{append-nil, length-append}
use Rattle.std.proofs.Math.Seq.{drop-append_seam}
use Rattle.std.specs.List.{AllByRecursion as Each, flat_map, cons_option}
use Rattle.std.specs.Option.{option_to_list}
use Rattle.jc_plan.specs.declared.plans.Planned.{Planned}
use Rattle.jc_types.specs.declared.numbers.Uid.{Uid}
use Rattle.jc_types.specs.declared.numbers.Version.{Version}
use Rattle.jc_types.specs.declared.objects.Entry.{Entry}
use Rattle.jc_types.specs.declared.replies.Answer.{Answer}
use Rattle.jc_types.specs.declared.replies.Request.{Request}
use Rattle.jc_types.specs.declared.statuses.JobStatus.{JobStatus}
use Rattle.jc_log.specs.Log.{is_lost, life}
use Rattle.jc_types.proofs.ListFacts.{Each-append, Each-weaker}
use Rattle.jc_asks.specs.declared.asks.Ask.{Ask}
use Rattle.jc_asks.specs.declared.asks.Ask.TheVariants.{MakePod, MarkPod, LetPodGo, WriteFirst, ReleasePod, WriteSecond}
use Rattle.jc_asks.specs.Asks.{as_request, is_gone}
use Rattle.jc_types.specs.declared.replies.Request.TheVariants as request
use Rattle.jc_types.specs.Keys.{same_uid}
use Rattle.jc_states.specs.UidLists.{is_in}
use Rattle.jc_asks.specs.Readings.{gone_in, gone_of}
use Rattle.jc_bounds.specs.RequestKinds.{lets_go_of, was_let_go, let_go_asks, asks, next_by_kind}
use Rattle.jc_bounds.specs.Order.{AreLost, Early, Idle, AsksReleasesOnly, Late, AtEnd, Progress, Rests, early, late, asks_left, second_writes}

-- ---- lists

module _ {X : Type 0} where
  cons-head : (x y : X) (xs ys : List X) → x ∷ xs ≡ y ∷ ys → x ≡ y
  cons-head x y xs ys h = ap (λ (l : List X). elim l [ [] ↦ x | z ∷ zs ↦ z ]) h

  cons-tail : (x y : X) (xs ys : List X) → x ∷ xs ≡ y ∷ ys → xs ≡ ys
  cons-tail x y xs ys h = ap (λ (l : List X). elim l [ [] ↦ xs | z ∷ zs ↦ zs ]) h

  abbrev is_cons : List X → Bool
  is_cons [] = false
  is_cons (x ∷ xs) = true

  no-cons : (x : X) (xs : List X) → [] ≡ x ∷ xs → ⊥
  no-cons x xs h = true≢false (sym (ap is_cons h))

  drop-head : (xs : List X) (n : ℕ) (x : X) → slice_get xs n ≡ Some x → drop n xs ≡ x ∷ drop (suc n) xs
  drop-head [] n x h = absurd (true≢false (sym (ap is_some h)))
  drop-head (y ∷ xs) zero x h = ap (λ z. z ∷ xs) (ap (λ (o : Option X). elim o [ None ↦ y | Some z ↦ z ]) h)
  drop-head (y ∷ xs) (suc n) x h = drop-head xs n x h

  pub each-slice : (P : X → Type 0) (xs : List X) (n : ℕ) (x : X) → Each P xs → slice_get xs n ≡ Some x → P x
  each-slice P [] n x h e = absurd (true≢false (sym (ap is_some e)))
  each-slice P (y ∷ xs) zero x h e = subst P (ap (λ (o : Option X). elim o [ None ↦ y | Some z ↦ z ]) e) h.0
  each-slice P (y ∷ xs) (suc n) x h e = each-slice P xs n x h.1 e

  each-front : (P : X → Type 0) (xs ys : List X) (n : ℕ) (x : X) → Each P xs → n < length xs → slice_get (xs ++ ys) n ≡ Some x → P x
  each-front P [] ys n x h lt e = absurd (omega (arith, lt))
  each-front P (y ∷ xs) ys zero x h lt e = subst P (ap (λ (o : Option X). elim o [ None ↦ y | Some z ↦ z ]) e) h.0
  each-front P (y ∷ xs) ys (suc n) x h lt e = each-front P xs ys n x h.1 (omega (arith, lt)) e

-- ---- the requests after one more answer

abbrev pub more : List (Request × Answer) → Request → Answer → List (Request × Answer)
more made asked given = (asked, given) ∷ made

longer : (made : List (Request × Answer)) (asked : Request) (given : Answer) → length (more made asked given) ≡ suc (length made)
longer made asked given = refl

-- A request that lets no pod of this UID go changes nothing of it, and what was let go stays so.
was-same : (made : List (Request × Answer)) (asked : Request) (given : Answer) (u : Uid) → lets_go_of u asked ≡ false → was_let_go u (more made asked given) ≡ was_let_go u made
was-same made asked given u h = by asked (is_gone given) h
  where
    by : (asked : Request) (t : Bool) → lets_go_of u asked ≡ false → is_in u (cons_option (gone_of asked t) (gone_in made)) ≡ is_in u (gone_in made)
    by (request.LetGo pod) true h = ap (λ b. b || is_in u (gone_in made)) h
    by (request.LetGo pod) false h = refl
    by other t h = refl

was-kept : (made : List (Request × Answer)) (asked : Request) (given : Answer) (u : Uid) → was_let_go u made ≡ true → was_let_go u (more made asked given) ≡ true
was-kept made asked given u h = by asked (is_gone given)
  where
    or-true : (b : Bool) → (b || true) ≡ true
    or-true true = refl
    or-true false = refl

    by : (asked : Request) (t : Bool) → is_in u (cons_option (gone_of asked t) (gone_in made)) ≡ true
    by (request.LetGo pod) true = ap (λ b. same_uid pod u || b) h ∙ or-true (same_uid pod u)
    by (request.LetGo pod) false = h
    by other t = h

lets-same : (made : List (Request × Answer)) (asked : Request) (given : Answer) → ((u : Uid) → lets_go_of u asked ≡ false) → (rows : List (Uid × Version)) → flat_map (let_go_asks (more made asked given)) rows ≡ flat_map (let_go_asks made) rows
lets-same made asked given none [] = refl
lets-same made asked given none (row ∷ rows) = λ i. (LetPodGo row.0 row.1 ∷ cond (same i) (MarkPod row.0 ∷ []) []) ++ lets-same made asked given none rows i
  where
    same : was_let_go row.0 (more made asked given) ≡ was_let_go row.0 made
    same = was-same made asked given row.0 (none row.0)

module _ (plan : Planned) (made : List (Request × Answer)) where
  asks-are : asks plan made ≡ early plan made ++ late plan
  asks-are = sym (append_assoc (map MakePod plan.creates)
      (map MarkPod plan.marks ++ flat_map (let_go_asks made) plan.let_goes) (late plan)
      ∙ ap (λ rest. map MakePod plan.creates ++ rest)
      (append_assoc (map MarkPod plan.marks) (flat_map (let_go_asks made) plan.let_goes) (late plan)))

  module _ (asked : Request) (given : Answer) where
    asks-same : ((u : Uid) → lets_go_of u asked ≡ false) → asks plan (more made asked given) ≡ asks plan made
    asks-same none = ap (λ some. map MakePod plan.creates ++ (map MarkPod plan.marks ++ (some ++ late plan))) (lets-same made asked given none plan.let_goes)

    left-same : ((u : Uid) → lets_go_of u asked ≡ false) → asks_left plan (more made asked given) ≡ drop (suc (length made)) (asks plan made)
    left-same none = λ i. drop (longer made asked given i) (asks-same none i)

    rows-longer : (rows : List (Uid × Version)) → length (flat_map (let_go_asks made) rows) ≤ length (flat_map (let_go_asks (more made asked given)) rows)
    rows-longer [] = omega arith
    rows-longer (row ∷ rows) = by (was_let_go row.0 made) refl (was_let_go row.0 (more made asked given)) refl (rows-longer rows)
      where
        kept : was_let_go row.0 made ≡ true → was_let_go row.0 (more made asked given) ≡ true
        kept h = was-kept made asked given row.0 h

        by : (a : Bool) → was_let_go row.0 made ≡ a → (b : Bool) → was_let_go row.0 (more made asked given) ≡ b → length (flat_map (let_go_asks made) rows) ≤ length (flat_map (let_go_asks (more made asked given)) rows)
            → length ((LetPodGo row.0 row.1 ∷ cond a (MarkPod row.0 ∷ []) []) ++ flat_map (let_go_asks made) rows) ≤ length ((LetPodGo row.0 row.1 ∷ cond b (MarkPod row.0 ∷ []) []) ++ flat_map (let_go_asks (more made asked given)) rows)
        by true e true f ih = omega (arith, ih)
        by true e false f ih = absurd (true≢false (sym (kept e) ∙ f))
        by false e true f ih = omega (arith, ih)
        by false e false f ih = omega (arith, ih)

    early-longer : length (early plan made) ≤ length (early plan (more made asked given))
    early-longer = omega (
      arith,
      rows-longer plan.let_goes,
      length-append (map MakePod plan.creates) (map MarkPod plan.marks ++ flat_map (let_go_asks made) plan.let_goes),
      length-append (map MarkPod plan.marks) (flat_map (let_go_asks made) plan.let_goes),
      length-append (map MakePod plan.creates) (map MarkPod plan.marks ++ flat_map (let_go_asks (more made asked given)) plan.let_goes),
      length-append (map MarkPod plan.marks) (flat_map (let_go_asks (more made asked given)) plan.let_goes),
    )

-- ---- which request is next

abbrev pub is_early : Ask → Bool
is_early (MakePod index) = true
is_early (MarkPod pod) = true
is_early (LetPodGo pod version) = true
is_early other = false

makes-early : (xs : List (Option ℕ)) → Each (λ ask. is_early ask ≡ true) (map MakePod xs)
makes-early [] = tt
makes-early (x ∷ xs) = (refl, makes-early xs)

marks-early : (xs : List Uid) → Each (λ ask. is_early ask ≡ true) (map MarkPod xs)
marks-early [] = tt
marks-early (x ∷ xs) = (refl, marks-early xs)

lets-early : (made : List (Request × Answer)) (rows : List (Uid × Version)) → Each (λ ask. is_early ask ≡ true) (flat_map (let_go_asks made) rows)
lets-early made [] = tt
lets-early made (row ∷ rows) = Each-append (λ ask. is_early ask ≡ true) (let_go_asks made row) (flat_map (let_go_asks made) rows) (refl, by (was_let_go row.0 made)) (lets-early made rows)
  where
    by : (b : Bool) → Each (λ ask. is_early ask ≡ true) (cond b (MarkPod row.0 ∷ []) [])
    by true = (refl, tt)
    by false = tt

pub data Where (log : List Entry) (plan : Planned) (made : List (Request × Answer)) (ask : Ask) : Type 0 where
  InEarly : length made < length (early plan made) → is_early ask ≡ true → Where log plan made ask
  AtFirst : ask ≡ WriteFirst → (status : JobStatus) → plan.first ≡ Some status → drop (suc (length made)) (asks plan made) ≡ map ReleasePod plan.releases ++ second_writes plan → Where log plan made ask
  AtRelease : (done : List Uid) (u : Uid) (rest : List Uid) → ask ≡ ReleasePod u → plan.releases ≡ done ++ u ∷ rest → drop (suc (length made)) (asks plan made) ≡ map ReleasePod rest ++ second_writes plan → AreLost log done → Where log plan made ask
  AtSecond : ask ≡ WriteSecond → (status : JobStatus) → plan.second ≡ Some status → drop (suc (length made)) (asks plan made) ≡ [] → AreLost log plan.releases → Where log plan made ask

module _ (log : List Entry) (plan : Planned) (made : List (Request × Answer)) (ask : Ask) (next : next_by_kind plan made ≡ Some ask) where
  pub head-left : asks_left plan made ≡ ask ∷ drop (suc (length made)) (asks plan made)
  head-left = drop-head (asks plan made) (length made) ask next

  at-late : (done rest : List Uid) → plan.releases ≡ done ++ rest → asks_left plan made ≡ map ReleasePod rest ++ second_writes plan → AreLost log done → Where log plan made ask
  at-late done (u ∷ rest) split is lost =
      let e = sym is ∙ head-left in
      AtRelease done u rest (sym (cons-head (ReleasePod u) ask (map ReleasePod rest ++ second_writes plan)
      (drop (suc (length made)) (asks plan made)) e)) split
      (sym (cons-tail (ReleasePod u) ask (map ReleasePod rest ++ second_writes plan)
      (drop (suc (length made)) (asks plan made)) e)) lost
  at-late done [] split is lost = by plan.second refl (sym is ∙ head-left)
    where
      by : (o : Option JobStatus) → plan.second ≡ o → map (λ status. WriteSecond) (option_to_list o) ≡ ask ∷ drop (suc (length made)) (asks plan made) → Where log plan made ask
      by None s e = absurd (no-cons ask (drop (suc (length made)) (asks plan made)) e)
      by (Some status) s e =
          AtSecond (sym (cons-head WriteSecond ask [] (drop (suc (length made)) (asks plan made)) e)) status s
          (sym (cons-tail WriteSecond ask [] (drop (suc (length made)) (asks plan made)) e))
          (subst (AreLost log) (sym (split ∙ append-nil done)) lost)

  pub where-is : Progress log plan made → Where log plan made ask
  where-is (AtEnd none) = absurd (no-cons ask (drop (suc (length made)) (asks plan made)) (sym none ∙ head-left))
  where-is (Late done rest split is lost) = at-late done rest split is lost
  where-is (Early le) = by (nat_lt (length made) (length (early plan made))) refl
    where
      is_late : length made ≡ length (early plan made) → asks_left plan made ≡ late plan
      is_late n = (λ i. drop (n i) (asks-are plan made i)) ∙ drop-append_seam (early plan made) (late plan)

      first : (o : Option JobStatus) → plan.first ≡ o → asks_left plan made ≡ map (λ status. WriteFirst) (option_to_list o) ++ (map ReleasePod plan.releases ++ second_writes plan) → Where log plan made ask
      first None f is = at-late [] plan.releases refl is tt
      first (Some status) f is =
          let e = sym is ∙ head-left in
          AtFirst (sym (cons-head WriteFirst ask (map ReleasePod plan.releases ++ second_writes plan)
          (drop (suc (length made)) (asks plan made)) e)) status f
          (sym (cons-tail WriteFirst ask (map ReleasePod plan.releases ++ second_writes plan)
          (drop (suc (length made)) (asks plan made)) e))

      by : (b : Bool) → nat_lt (length made) (length (early plan made)) ≡ b → Where log plan made ask
      by true t =
          let lt = ltb-true (length made) (length (early plan made)) t in
          InEarly lt (each-front (λ a. is_early a ≡ true) (early plan made) (late plan) (length made) ask
          (Each-append (λ a. is_early a ≡ true) (map MakePod plan.creates)
          (map MarkPod plan.marks ++ flat_map (let_go_asks made) plan.let_goes) (makes-early plan.creates)
          (Each-append (λ a. is_early a ≡ true) (map MarkPod plan.marks) (flat_map (let_go_asks made) plan.let_goes)
          (marks-early plan.marks) (lets-early made plan.let_goes)))
          lt (ap (λ some. slice_get some (length made)) (sym (asks-are plan made)) ∙ next))
      by false t = let ge = ltb-false (length made) (length (early plan made)) t in first plan.first refl (is_late (omega (arith, le, ge)))

  -- One more answer.
  module _ (log' : List Entry) (keep : (u : Uid) → is_lost (life u log) ≡ true → is_lost (life u log') ≡ true) (given : Answer) where
    keep-all : (uids : List Uid) → AreLost log uids → AreLost log' uids
    keep-all uids = Each-weaker (λ u. is_lost (life u log) ≡ true) (λ u. is_lost (life u log') ≡ true) keep uids

    pub progress-step : Where log plan made ask → ((u : Uid) → ask ≡ ReleasePod u → is_lost (life u log') ≡ true) → Progress log' plan (more made (as_request ask) given)
    progress-step (InEarly lt e) loses = Early (omega (arith, lt, early-longer plan made (as_request ask) given, longer made (as_request ask) given))
    progress-step (AtFirst a status f tail) loses = Late [] plan.releases refl (left-same plan made (as_request ask) given (λ u. ap (λ x. lets_go_of u (as_request x)) a) ∙ tail) tt
    progress-step (AtRelease done u rest a split tail lost) loses =
        Late (done ++ u ∷ []) rest (split ∙ sym (append_assoc done (u ∷ []) rest)) (left-same plan made (as_request ask) given (λ v. ap (λ x. lets_go_of v (as_request x)) a) ∙ tail)
        (Each-append (λ v. is_lost (life v log') ≡ true) done (u ∷ []) (keep-all done lost) (loses u a, tt))
    progress-step (AtSecond a status s tail lost) loses = AtEnd (left-same plan made (as_request ask) given (λ u. ap (λ x. lets_go_of u (as_request x)) a) ∙ tail)

pub progress-more : (log log' : List Entry) (plan : Planned) (made : List (Request × Answer)) → ((u : Uid) → is_lost (life u log) ≡ true → is_lost (life u log') ≡ true) → Progress log plan made → Progress log' plan made
progress-more log log' plan made keep (Early le) = Early le
progress-more log log' plan made keep (Late done rest split is lost) = Late done rest split is (Each-weaker (λ u. is_lost (life u log) ≡ true) (λ u. is_lost (life u log') ≡ true) keep done lost)
progress-more log log' plan made keep (AtEnd none) = AtEnd none

-- ---- a sync that has releases alone left to ask

abbrev pub is_quiet : Ask → Bool
is_quiet (MakePod index) = false
is_quiet WriteFirst = false
is_quiet WriteSecond = false
is_quiet other = true

releases-quiet : (xs : List Uid) → Each (λ ask. is_quiet ask ≡ true) (map ReleasePod xs)
releases-quiet [] = tt
releases-quiet (x ∷ xs) = (refl, releases-quiet xs)

marks-quiet : (xs : List Uid) → Each (λ ask. is_quiet ask ≡ true) (map MarkPod xs)
marks-quiet [] = tt
marks-quiet (x ∷ xs) = (refl, marks-quiet xs)

lets-quiet : (made : List (Request × Answer)) (rows : List (Uid × Version)) → Each (λ ask. is_quiet ask ≡ true) (flat_map (let_go_asks made) rows)
lets-quiet made [] = tt
lets-quiet made (row ∷ rows) = Each-append (λ ask. is_quiet ask ≡ true) (let_go_asks made row) (flat_map (let_go_asks made) rows) (refl, by (was_let_go row.0 made)) (lets-quiet made rows)
  where
    by : (b : Bool) → Each (λ ask. is_quiet ask ≡ true) (cond b (MarkPod row.0 ∷ []) [])
    by true = (refl, tt)
    by false = tt

module _ (plan : Planned) (made : List (Request × Answer)) (ask : Ask) (next : next_by_kind plan made ≡ Some ask) where
  tail-of : List Ask
  tail-of = drop (suc (length made)) (asks plan made)

  pub silent-quiet : AsksReleasesOnly plan made → is_quiet ask ≡ true
  silent-quiet (Idle c f s) = each-slice Q (asks plan made) (length made) ask all next
    where
      Q : Ask → Type 0
      Q a = is_quiet a ≡ true

      all : Each (λ a. is_quiet a ≡ true) (asks plan made)
      all =
          Each-append (λ a. is_quiet a ≡ true) (map MakePod plan.creates) _ (subst (λ (cs : List (Option ℕ)). Each (λ a. is_quiet a ≡ true) (map MakePod cs)) (sym c) tt)
          (Each-append (λ a. is_quiet a ≡ true) (map MarkPod plan.marks) _ (marks-quiet plan.marks)
          (Each-append (λ a. is_quiet a ≡ true) (flat_map (let_go_asks made) plan.let_goes) (late plan) (lets-quiet made plan.let_goes)
          (Each-append (λ a. is_quiet a ≡ true) (map (λ status. WriteFirst) (option_to_list plan.first)) _ (subst (λ (o : Option JobStatus). Each (λ a. is_quiet a ≡ true) (map (λ status. WriteFirst) (option_to_list o))) (sym f) tt)
          (Each-append (λ a. is_quiet a ≡ true) (map ReleasePod plan.releases) (second_writes plan)
          (releases-quiet plan.releases) (subst (λ (o : Option JobStatus). Each (λ a. is_quiet a ≡ true)
          (map (λ status. WriteSecond) (option_to_list o))) (sym s) tt)))))
  silent-quiet (Rests rest is) = by rest (sym is ∙ drop-head (asks plan made) (length made) ask next)
    where
      by : (rest : List Uid) → map ReleasePod rest ≡ ask ∷ drop (suc (length made)) (asks plan made) → is_quiet ask ≡ true
      by [] e = absurd (no-cons ask (drop (suc (length made)) (asks plan made)) e)
      by (u ∷ rest) e = ap is_quiet (sym (cons-head (ReleasePod u) ask (map ReleasePod rest) (drop (suc (length made)) (asks plan made)) e))

  pub silent-step : (given : Answer) → AsksReleasesOnly plan made → AsksReleasesOnly plan (more made (as_request ask) given)
  silent-step given (Idle c f s) = Idle c f s
  silent-step given (Rests rest is) = by rest (sym is ∙ drop-head (asks plan made) (length made) ask next)
    where
      by : (rest : List Uid) → map ReleasePod rest ≡ ask ∷ drop (suc (length made)) (asks plan made) → AsksReleasesOnly plan (more made (as_request ask) given)
      by [] e = absurd (no-cons ask (drop (suc (length made)) (asks plan made)) e)
      by (u ∷ rest) e =
          let a = cons-head (ReleasePod u) ask (map ReleasePod rest) (drop (suc (length made)) (asks plan made)) e in
          Rests rest (left-same plan made (as_request ask) given (λ v. ap (λ x. lets_go_of v (as_request x)) (sym a)) ∙ sym (cons-tail (ReleasePod u) ask (map ReleasePod rest) (drop (suc (length made)) (asks plan made)) e))

  -- Once the last request but for releases was made, the sync has releases alone left to ask.
  pub silent-after : (given : Answer) → ((u : Uid) → lets_go_of u (as_request ask) ≡ false) → (rest : List Uid) → drop (suc (length made)) (asks plan made) ≡ map ReleasePod rest → AsksReleasesOnly plan (more made (as_request ask) given)
  silent-after given none rest tail = Rests rest (left-same plan made (as_request ask) given none ∙ tail)
