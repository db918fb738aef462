-- Small facts on lists: what holds of each element, filters whose tests agree, and what a search finds.
-- `Each P xs` is P of each element, by recursion on the list.
use Rattle.std.proofs.Common.{◌≡◌, ℕ, zero, suc, Bool, true, false, cond, ◌&&◌, ◌||◌, List, [], ◌∷◌, ◌++◌, map, filter, find, take, Option, Some, None, refl, sym, ap, ◌∙◌, subst, true≢false}
use Rattle.std.specs.List.{AllByRecursion as Each, list_any}
use Rattle.std.proofs.lemmas.Bool.{or_left, or_right}
use Rattle.std.proofs.lemmas.List.Elements.{filter_agree}
use Rattle.std.proofs.Math.Bool.{and_comm}

-- Beside what is weaker a test says all.
pub and_weaker : (weaker test : Bool) → (test ≡ true → weaker ≡ true) → (weaker && test) ≡ test
and_weaker true test h = refl
and_weaker false true h = h refl
and_weaker false false h = refl

module _ {X : Type 0} where
  -- What is weaker holds of each, too.
  pub Each-weaker : (P Q : X → Type 0) → ((x : X) → P x → Q x) → (xs : List X) → Each P xs → Each Q xs
  Each-weaker P Q f [] h = tt
  Each-weaker P Q f (x ∷ xs) h = (f x h.0, Each-weaker P Q f xs h.1)

  -- Two facts of each are one of each.
  pub Each-both : (P Q : X → Type 0) (xs : List X) → Each P xs → Each Q xs → Each (λ x. P x × Q x) xs
  Each-both P Q [] h g = tt
  Each-both P Q (x ∷ xs) h g = ((h.0, g.0), Each-both P Q xs h.1 g.1)

  -- A filter keeps what holds of each.
  pub Each-filter : (P : X → Type 0) (test : X → Bool) (xs : List X) → Each P xs → Each P (filter test xs)
  Each-filter P test [] h = tt
  Each-filter P test (x ∷ xs) h = by (test x) (Each-filter P test xs h.1)
    where
      by : (b : Bool) → Each P (filter test xs) → Each P (cond b (x ∷ filter test xs) (filter test xs))
      by true rest = (h.0, rest)
      by false rest = rest

  -- What a filter keeps passes its test.
  pub Each-passes : (test : X → Bool) (xs : List X) → Each (λ x. test x ≡ true) (filter test xs)
  Each-passes test [] = tt
  Each-passes test (x ∷ xs) = by (test x) refl (Each-passes test xs)
    where
      by : (b : Bool) → test x ≡ b → Each (λ y. test y ≡ true) (filter test xs) → Each (λ y. test y ≡ true) (cond b (x ∷ filter test xs) (filter test xs))
      by true t rest = (t, rest)
      by false t rest = rest

  -- What holds of each of both parts holds of each of the whole.
  pub Each-append : (P : X → Type 0) (xs ys : List X) → Each P xs → Each P ys → Each P (xs ++ ys)
  Each-append P [] ys h g = g
  Each-append P (x ∷ xs) ys h g = (h.0, Each-append P xs ys h.1 g)

  -- A front part keeps what holds of each.
  pub Each-take : (P : X → Type 0) (n : ℕ) (xs : List X) → Each P xs → Each P (take n xs)
  Each-take P zero xs h = tt
  Each-take P (suc n) [] h = tt
  Each-take P (suc n) (x ∷ xs) h = (h.0, Each-take P n xs h.1)

  -- What holds of the image of each holds of each image.
  pub Each-map : {Y : Type 0} (f : Y → X) (P : X → Type 0) (ys : List Y) → Each (λ y. P (f y)) ys → Each P (map f ys)
  Each-map f P [] h = tt
  Each-map f P (y ∷ ys) h = (h.0, Each-map f P ys h.1)

  -- Tests that agree on each element keep the same ones.
  pub filter_same : (test other : X → Bool) (xs : List X) → Each (λ x. test x ≡ other x) xs → filter test xs ≡ filter other xs
  filter_same test other [] h = refl
  filter_same test other (x ∷ xs) h =
      ap (λ b. cond b (x ∷ filter test xs) (filter test xs)) h.0 ∙ ap (λ rest. cond (other x) (x ∷ rest) rest) (filter_same test other xs h.1)

  -- One filter after another keeps what passes both.
  pub filter_filter : (test other : X → Bool) (xs : List X) → filter test (filter other xs) ≡ filter (λ x. other x && test x) xs
  filter_filter test other [] = refl
  filter_filter test other (x ∷ xs) = by (other x) (filter_filter test other xs)
    where
      by : (b : Bool) → filter test (filter other xs) ≡ filter (λ y. other y && test y) xs → filter test (cond b (x ∷ filter other xs) (filter other xs)) ≡ cond (b && test x)
          (x ∷ filter (λ y. other y && test y) xs) (filter (λ y. other y && test y) xs)
      by true rest = ap (λ ys. cond (test x) (x ∷ ys) ys) rest
      by false rest = rest

  -- It does not matter which filter comes first.
  pub filter_swap : (test other : X → Bool) (xs : List X) → filter test (filter other xs) ≡ filter other (filter test xs)
  filter_swap test other xs =
      filter_filter test other xs
      ∙ filter_agree (λ x. other x && test x) (λ x. test x && other x) (λ x. and_comm (other x) (test x)) xs
      ∙ sym (filter_filter other test xs)

  -- A filter keeps the same of those that pass a weaker test as of all.
  pub filter_within : (test weaker : X → Bool) → ((x : X) → test x ≡ true → weaker x ≡ true) → (xs : List X) → filter test (filter weaker xs) ≡ filter test xs
  filter_within test weaker h xs =
      filter_filter test weaker xs ∙ filter_agree (λ x. weaker x && test x) test (λ x. and_weaker (weaker x) (test x) (h x)) xs

  -- A filter of images is the image of a filter.
  pub filter-map : {Y : Type 0} (f : Y → X) (test : X → Bool) (ys : List Y) → filter test (map f ys) ≡ map f (filter (λ y. test (f y)) ys)
  filter-map f test [] = refl
  filter-map f test (y ∷ ys) = by (test (f y)) (filter-map f test ys)
    where
      by : (b : Bool) → filter test (map f ys) ≡ map f (filter (λ z. test (f z)) ys) → cond b (f y ∷ filter test (map f ys)) (filter test (map f ys)) ≡ map f (cond b (y ∷ filter (λ z. test (f z)) ys) (filter (λ z. test (f z)) ys))
      by true rest = ap (λ zs. f y ∷ zs) rest
      by false rest = rest

  -- Where no element passes nothing is kept.
  pub filter_none : (test : X → Bool) (xs : List X) → Each (λ x. test x ≡ false) xs → filter test xs ≡ []
  filter_none test [] h = refl
  filter_none test (x ∷ xs) h = ap (λ b. cond b (x ∷ filter test xs) (filter test xs)) h.0 ∙ filter_none test xs h.1

  -- Where each element passes all are kept.
  pub filter_all : (test : X → Bool) (xs : List X) → Each (λ x. test x ≡ true) xs → filter test xs ≡ xs
  filter_all test [] h = refl
  filter_all test (x ∷ xs) h = ap (λ b. cond b (x ∷ filter test xs) (filter test xs)) h.0 ∙ ap (λ rest. x ∷ rest) (filter_all test xs h.1)

  -- What a search finds passes its test.
  pub find_passes : (test : X → Bool) (xs : List X) (x : X) → find test xs ≡ Some x → test x ≡ true
  find_passes test [] x h = absurd (none_some h)
    where
      none_some : None ≡ Some x → ⊥
      none_some e = true≢false (sym (ap (λ (o : Option X). elim o [ None ↦ false | Some y ↦ true ]) e))
  find_passes test (y ∷ ys) x h = by (find_passes test ys x) (test y) refl h
    where
      same_value : Some y ≡ Some x → y ≡ x
      same_value e = ap (λ (o : Option X). elim o [ None ↦ y | Some z ↦ z ]) e

      by : (find test ys ≡ Some x → test x ≡ true) → (b : Bool) → test y ≡ b → cond b (Some y) (find test ys) ≡ Some x → test x ≡ true
      by ih true t g = subst (λ z. test z ≡ true) (same_value g) t
      by ih false t g = ih g

  -- What a search finds has what each element has.
  pub find_each : (P : X → Type 0) (test : X → Bool) (xs : List X) (x : X) → Each P xs → find test xs ≡ Some x → P x
  find_each P test [] x all h = absurd (true≢false (sym (ap (λ (o : Option X). elim o [ None ↦ false | Some y ↦ true ]) h)))
  find_each P test (y ∷ ys) x all h = by (find_each P test ys x all.1) (test y) h
    where
      same_value : Some y ≡ Some x → y ≡ x
      same_value e = ap (λ (o : Option X). elim o [ None ↦ y | Some z ↦ z ]) e

      by : (find test ys ≡ Some x → P x) → (b : Bool) → cond b (Some y) (find test ys) ≡ Some x → P x
      by ih true g = subst P (same_value g) all.0
      by ih false g = ih g

  -- One that passes this test passes a weaker one.
  pub weaker_in : (test other : X → Bool) (xs : List X) → Each (λ x. test x ≡ true → other x ≡ true) xs → list_any test xs ≡ true → list_any other xs ≡ true
  weaker_in test other [] all h = h
  weaker_in test other (x ∷ xs) all h = by (weaker_in test other xs all.1) (test x) refl h
    where
      by : (list_any test xs ≡ true → list_any other xs ≡ true) → (b : Bool) → test x ≡ b → (b || list_any test xs) ≡ true → (other x || list_any other xs) ≡ true
      by ih true t g = or_left (other x) (list_any other xs) (all.0 t)
      by ih false t g = or_right (other x) (list_any other xs) (ih g)

  -- One of those that a filter keeps is one that passes both tests.
  pub any_filter : (test other : X → Bool) (xs : List X) → list_any test (filter other xs) ≡ list_any (λ x. other x && test x) xs
  any_filter test other [] = refl
  any_filter test other (x ∷ xs) = by (other x) (any_filter test other xs)
    where
      by : (b : Bool) → list_any test (filter other xs) ≡ list_any (λ y. other y && test y) xs → list_any test (cond b (x ∷ filter other xs) (filter other xs)) ≡ ((b && test x) || list_any (λ y. other y && test y) xs)
      by true rest = ap (λ t. test x || t) rest
      by false rest = rest

  -- One of those that pass a weaker test passes where one of all does.
  pub any_within : (test weaker : X → Bool) → ((x : X) → test x ≡ true → weaker x ≡ true) → (xs : List X) → list_any test (filter weaker xs) ≡ list_any test xs
  any_within test weaker h xs =
      any_filter test weaker xs ∙ (λ i. list_any (λ x. and_weaker (weaker x) (test x) (h x) i) xs)

  -- One of the images passes where one of the elements does whose image passes.
  pub any_map : {Y : Type 0} (f : Y → X) (test : X → Bool) (ys : List Y) → list_any test (map f ys) ≡ list_any (λ y. test (f y)) ys
  any_map f test [] = refl
  any_map f test (y ∷ ys) = ap (λ t. test (f y) || t) (any_map f test ys)

  -- An element that passes and is found in the list: some element passes.
  pub any_found : (test : X → Bool) (xs : List X) (x : X) → find test xs ≡ Some x → list_any test xs ≡ true
  any_found test [] x h = absurd (true≢false (sym (ap (λ (o : Option X). elim o [ None ↦ false | Some y ↦ true ]) h)))
  any_found test (y ∷ ys) x h = by (any_found test ys x) (test y) h
    where
      by : (find test ys ≡ Some x → list_any test ys ≡ true) → (b : Bool) → cond b (Some y) (find test ys) ≡ Some x → (b || list_any test ys) ≡ true
      by ih true g = refl
      by ih false g = ih g
