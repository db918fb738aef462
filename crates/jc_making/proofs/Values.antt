-- How many places there are that nobody runs towards, by the new successes and the active tracked pods alone; and what
-- becomes of them where one of these ends.
use Rattle.std.proofs.Common.{◌≡◌, ℕ, suc, ◌+◌, ◌-◌, ◌≤◌, ◌==◌, min, nat_lt, nat_le, Bool, true, false, cond, not, ◌&&◌, ◌||◌, List, [], ◌∷◌, ◌++◌, filter, length, Option, Some, None, IsSome, unwrap_or, refl, sym, ap, ◌∙◌, arith, true≢false}
use Rattle.std.specs.List.{AllByRecursion as Each, list_any, range_with_len}
use Rattle.std.specs.Option.{option_map_or}
use Rattle.std.proofs.lemmas.Bool.{eq-eqb, ltb-false, ne_eqb}
use Rattle.std.proofs.lemmas.List.Elements.{filter_agree}
use Rattle.jc_ranges.specs.Sets.{has}
use Rattle.jc_types.specs.declared.objects.Pod.{Pod}
use Rattle.jc_types.specs.declared.specifications.Mode.{Mode}
use Rattle.jc_types.specs.declared.specifications.Mode.TheVariants.{NonIndexed, Indexed}
use Rattle.jc_types.specs.declared.statuses.IndexCount.{IndexCount}
use Rattle.jc_types.proofs.ListFacts.{filter_all}
use Rattle.jc_states.specs.Indexes.{has_index}
use Rattle.jc_states.specs.PodLists.{RisesFrom}
use Rattle.jc_states.proofs.UidListFacts.{has-join}
use Rattle.jc_account.specs.Modes.{completed_after, indexes_below, indexes_of, kept_indexes}
use Rattle.jc_account.proofs.ListedFacts.{each, has-indexes}
use Rattle.jc_manage.specs.LetGoes.{is_earlier, is_spare, remaining}
use Rattle.jc_making.specs.Making.{places_of}
use Rattle.jc_making.proofs.ClosedFacts.{closed-stays, closed_by, past-closed}
use Rattle.jc_making.proofs.Lists.{any-mid, fewer, has-filter, length-mid, one_if}
use Rattle.jc_making.proofs.UseFacts.{is_of_use, open_in, use-kept}

-- Where places, and pods of use, become fewer, and so does something else.
pub falls : (p were are used now m n e : ℕ) → used + are ≤ now + were + e → are ≤ were → n + e ≤ m → (are - min now p) + n ≤ (were - min used p) + m
falls p were are used now m n e h l k = omega (arith, h, l, k)

-- The same of a Job that is not Indexed, where one more has succeeded.
plain-falls : (comps : Option ℕ) (p s : ℕ) (xs ys : List ℕ) (used now m n : ℕ) → used ≡ suc now → n ≤ m
    → (places_of NonIndexed comps p (suc s) xs - min now p) + n ≤ (places_of NonIndexed comps p s ys - min used p) + m
plain-falls (Some c) p s xs ys used now m n h l = omega (arith, h, l)
plain-falls None p s xs ys used now m n h l =
    let none : places_of NonIndexed None p (suc s) xs ≡ 0 = ap (λ b. cond b p 0) (ne_eqb (suc s) 0 (λ e. omega (arith, e))) in
    omega (arith, none, l)

-- All pods of a Job that is not Indexed are of use.
pub all-used : (closed : ℕ → Bool) (tracked : List Pod) → remaining NonIndexed closed tracked ≡ tracked
all-used closed tracked = filter_all (λ pod. not (is_spare NonIndexed closed tracked pod)) tracked (each (λ pod. not (is_spare NonIndexed closed tracked pod) ≡ true) (λ pod. refl) tracked)

pub length-one : (xs ys : List Pod) (x : Pod) → length (xs ++ x ∷ ys) ≡ suc (length (xs ++ ys))
length-one [] ys x = refl
length-one (z ∷ xs) ys x = ap suc (length-one xs ys x)

-- What is known of each pod is known of one in the middle.
pub each-mid : (P : Pod → Type 0) (xs ys : List Pod) (x : Pod) → Each P (xs ++ x ∷ ys) → P x
each-mid P [] ys x h = h.0
each-mid P (z ∷ xs) ys x h = each-mid P xs ys x h.1

any-rest : (f : Pod → Bool) (xs ys : List Pod) (x : Pod) → list_any f (xs ++ x ∷ ys) ≡ false → list_any f (xs ++ ys) ≡ false
any-rest f xs ys x h = by (f x) (list_any f (xs ++ ys)) (sym (any-mid f xs ys x) ∙ h)
  where
    by : (a b : Bool) → (a || b) ≡ false → b ≡ false
    by true b e = absurd (true≢false e)
    by false b e = e

module _ (comps : Option ℕ) (parallelism : ℕ) (limit : Option ℕ) (set : List ℕ) (counts : List IndexCount) (total : ℕ) where
  abbrev wanted_of : ℕ
  wanted_of = unwrap_or comps 0

  abbrev pub done : Mode → List Pod → List ℕ
  done mode news = completed_after mode false wanted_of set news

  abbrev pub closed : Mode → List Pod → ℕ → Bool
  closed mode news n = closed_by limit wanted_of (done mode news) counts n

  abbrev pub lacks : Mode → List Pod → ℕ
  lacks mode news = places_of mode comps parallelism (total + length news) (open_in (closed mode news) wanted_of)

  abbrev pub value : Mode → List Pod → List Pod → ℕ
  value mode news tracked = lacks mode news - min (length (remaining mode (closed mode news) tracked)) parallelism

  module _ (front back : List Pod) (x : Pod) where
    -- Where one fails, and something else becomes less, both together are no more.
    pub fail-lowers : (mode : Mode) (news : List Pod) (m n : ℕ) → n + 1 ≤ m → RisesFrom 0 (front ++ x ∷ back) → (mode ≡ Indexed → Each (λ pod. IsSome pod.index) (front ++ x ∷ back))
        → value mode news (front ++ back) + n ≤ value mode news (front ++ x ∷ back) + m
    fail-lowers NonIndexed news m n less up numbered =
        let c = closed NonIndexed news in
        omega (
          arith,
          ap length (all-used c (front ++ back)),
          ap length (all-used c (front ++ x ∷ back)),
          length-one front back x,
          less,
        )
    fail-lowers Indexed news m n less up numbered =
        falls parallelism (lacks Indexed news) (lacks Indexed news) (length (remaining Indexed c (front ++ x ∷ back))) (length (remaining Indexed c (front ++ back)))
        m n 1
        (use-kept c c (front ++ x ∷ back) (front ++ back) wanted_of 1 (λ n h. h) (λ n l. past-closed limit wanted_of n (done Indexed news) counts l) up (numbered refl) (λ n u h. any-rest (is_earlier n u) front back x h)
        (let mid = length-mid (is_of_use c (front ++ back)) front back x in let few = one-at-most (is_of_use c (front ++ back) x) in omega (arith, mid, few)))
        (omega arith) less
      where
        c : ℕ → Bool
        c = closed Indexed news

        one-at-most : (b : Bool) → one_if b ≤ 1
        one-at-most true = omega arith
        one-at-most false = omega arith

    module _ (front_news back_news : List Pod) (y : Pod) (same : y.index ≡ x.index) where
      abbrev before : List Pod
      before = front_news ++ back_news

      abbrev after : List Pod
      after = front_news ++ y ∷ back_news

      -- More indexes are completed.
      has-more : (n : ℕ) → has n (done Indexed after) ≡ (has n (kept_indexes false wanted_of set) || (nat_lt n wanted_of && (has_index n y || list_any (has_index n) before)))
      has-more n =
          has-join n (kept_indexes false wanted_of set) (indexes_below wanted_of after)
          ∙ ap (λ b. has n (kept_indexes false wanted_of set) || b) (has-filter (λ k. nat_lt k wanted_of) n (indexes_of after) ∙ ap (λ b. nat_lt n wanted_of && b) (has-indexes n after ∙ any-mid (has_index n) front_news back_news y))

      has-less : (n : ℕ) → has n (done Indexed before) ≡ (has n (kept_indexes false wanted_of set) || (nat_lt n wanted_of && list_any (has_index n) before))
      has-less n =
          has-join n (kept_indexes false wanted_of set) (indexes_below wanted_of before)
          ∙ ap (λ b. has n (kept_indexes false wanted_of set) || b) (has-filter (λ k. nat_lt k wanted_of) n (indexes_of before) ∙ ap (λ b. nat_lt n wanted_of && b) (has-indexes n before))

      grows : (n : ℕ) → has n (done Indexed before) ≡ true → has n (done Indexed after) ≡ true
      grows n h = has-more n ∙ by (has n (kept_indexes false wanted_of set)) (nat_lt n wanted_of) (has_index n y) (list_any (has_index n) before) (sym (has-less n) ∙ h)
        where
          by : (k l i b : Bool) → (k || (l && b)) ≡ true → (k || (l && (i || b))) ≡ true
          by true l i b h = refl
          by false l true b h = first l b h
            where
              first : (l b : Bool) → (l && b) ≡ true → (l && true) ≡ true
              first true b h = refl
              first false b h = h
          by false l false b h = h

      closes : (n : ℕ) → closed Indexed before n ≡ true → closed Indexed after n ≡ true
      closes n h = closed-stays limit wanted_of n (done Indexed before) (done Indexed after) counts counts (grows n) (λ most is over. over) h

      -- The index of the pod is closed.
      gone : IsSome x.index → is_of_use (closed Indexed after) (front ++ back) x ≡ false
      gone some = by x.index refl some
        where
          settled : (i : ℕ) → x.index ≡ Some i → (b : Bool) → nat_lt i wanted_of ≡ b → closed Indexed after i ≡ true
          settled i at true l =
              ap (λ b. (b || has i (Rattle.jc_making.specs.Making.failed_by limit wanted_of (done Indexed after) counts)) || nat_le wanted_of i)
              (has-more i ∙ ap (λ b. has i (kept_indexes false wanted_of set) || (nat_lt i wanted_of && (b || list_any (has_index i) before))) here
              ∙ ap (λ b. has i (kept_indexes false wanted_of set) || (b && true)) l ∙ or-true (has i (kept_indexes false wanted_of set)))
            where
              here : has_index i y ≡ true
              here = ap (λ o. option_map_or (λ m. m == i) o false) (same ∙ at) ∙ eq-eqb i i refl

              or-true : (b : Bool) → (b || true) ≡ true
              or-true true = refl
              or-true false = refl
          settled i at false l = past-closed limit wanted_of i (done Indexed after) counts (ltb-false i wanted_of l)

          by : (o : Option ℕ) → x.index ≡ o → IsSome o → not (option_map_or (closed Indexed after) o false || option_map_or (λ index. list_any (is_earlier index x.uid.0) (front ++ back)) o false) ≡ false
          by None at h = absurd (true≢false (sym h))
          by (Some i) at h = ap (λ b. not (b || list_any (is_earlier i x.uid.0) (front ++ back))) (settled i at (nat_lt i wanted_of) refl)

      -- One that succeeds takes a place along.
      pub success-lowers : (mode : Mode) (m n : ℕ) → n ≤ m → RisesFrom 0 (front ++ x ∷ back) → (mode ≡ Indexed → Each (λ pod. IsSome pod.index) (front ++ x ∷ back))
          → value mode after (front ++ back) + n ≤ value mode before (front ++ x ∷ back) + m
      success-lowers NonIndexed m n less up numbered =
          omega (
            arith,
            plain-falls comps parallelism (total + length before) (open_in (closed NonIndexed after) wanted_of)
                (open_in (closed NonIndexed before) wanted_of) (length (front ++ x ∷ back)) (length (front ++ back))
                m n (length-one front back x) less,
            ap (λ s. places_of NonIndexed comps parallelism s (open_in (closed NonIndexed after) wanted_of)) counted,
            ap length (all-used (closed NonIndexed after) (front ++ back)),
            ap length (all-used (closed NonIndexed before) (front ++ x ∷ back)),
          )
        where
          counted : total + length after ≡ suc (total + length before)
          counted = omega (arith, length-one front_news back_news y)
      success-lowers Indexed m n less up numbered =
          falls parallelism (lacks Indexed before) (lacks Indexed after) (length (remaining Indexed (closed Indexed before) (front ++ x ∷ back))) (length (remaining Indexed (closed Indexed after) (front ++ back)))
          m n 0
          (use-kept (closed Indexed before) (closed Indexed after) (front ++ x ∷ back) (front ++ back) wanted_of 0
          closes (λ n l. past-closed limit wanted_of n (done Indexed before) counts l) up (numbered refl)
          (λ n u h. any-rest (is_earlier n u) front back x h)
          (let mid = length-mid (is_of_use (closed Indexed after) (front ++ back)) front back x in let none = ap one_if (gone (each-mid (λ pod. IsSome pod.index) front back x (numbered refl))) in omega (arith, mid, none)))
          (fewer (λ n. not (closed Indexed after n)) (λ n. not (closed Indexed before n)) (range_with_len 0 wanted_of)
          (each (λ n. not (closed Indexed after n) ≡ true → not (closed Indexed before n) ≡ true)
          (λ n. other (closed Indexed before n) (closed Indexed after n) (closes n)) (range_with_len 0 wanted_of)))
          (omega (arith, less))
        where
          other : (a b : Bool) → (a ≡ true → b ≡ true) → not b ≡ true → not a ≡ true
          other true b h g = absurd (true≢false (sym g ∙ ap not (h refl)))
          other false b h g = refl

    -- One of which UID and index stay counts the same.
    module _ (y : Pod) (uid : y.uid ≡ x.uid) (index : y.index ≡ x.index) where
      any-same : (n u : ℕ) → list_any (is_earlier n u) (front ++ y ∷ back) ≡ list_any (is_earlier n u) (front ++ x ∷ back)
      any-same n u =
          any-mid (is_earlier n u) front back y
          ∙ (λ i. (option_map_or (λ m. m == n) (index i) false && nat_lt (uid i).0 u) || list_any (is_earlier n u) (front ++ back))
          ∙ sym (any-mid (is_earlier n u) front back x)

      spare-same : (mode : Mode) (c : ℕ → Bool) (p : Pod) → not (is_spare mode c (front ++ y ∷ back) p) ≡ not (is_spare mode c (front ++ x ∷ back) p)
      spare-same NonIndexed c p = refl
      spare-same Indexed c p = λ i. not (option_map_or c p.index false || option_map_or (λ n. any-same n p.uid.0 i) p.index false)

      spare-itself : (mode : Mode) (c : ℕ → Bool) (tracked : List Pod) → not (is_spare mode c tracked y) ≡ not (is_spare mode c tracked x)
      spare-itself NonIndexed c tracked = refl
      spare-itself Indexed c tracked = λ i. not (option_map_or c (index i) false || option_map_or (λ n. list_any (is_earlier n (uid i).0) tracked) (index i) false)

      used-same : (mode : Mode) (c : ℕ → Bool) → length (remaining mode c (front ++ y ∷ back)) ≡ length (remaining mode c (front ++ x ∷ back))
      used-same mode c =
          ap length (filter_agree (λ p. not (is_spare mode c (front ++ y ∷ back) p)) (λ p. not (is_spare mode c (front ++ x ∷ back) p)) (spare-same mode c) (front ++ y ∷ back))
          ∙ length-mid (λ p. not (is_spare mode c (front ++ x ∷ back) p)) front back y
          ∙ ap (λ b. one_if b + length (filter (λ p. not (is_spare mode c (front ++ x ∷ back) p)) (front ++ back))) (spare-itself mode c (front ++ x ∷ back))
          ∙ sym (length-mid (λ p. not (is_spare mode c (front ++ x ∷ back) p)) front back x)

      pub quiet-same : (mode : Mode) (news : List Pod) → value mode news (front ++ y ∷ back) ≡ value mode news (front ++ x ∷ back)
      quiet-same mode news = λ i. lacks mode news - min (used-same mode (closed mode news) i) parallelism
