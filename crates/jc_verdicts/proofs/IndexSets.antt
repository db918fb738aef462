-- In which order indexes are put in a set.
use Rattle.std.proofs.Common.{◌≡◌, ℕ, ◌<◌, nat_lt, Bool, true, false, cond, List, [], ◌∷◌, ◌++◌, filter, refl, sym, ap, ◌∙◌, arith, lt-ltb, ltb-true, ltb-false, le-ltb}
use Rattle.std.proofs.lemmas.List.{append-nil, append_assoc}
use Rattle.std.proofs.lemmas.List.Elements.{filter-append}
use Rattle.jc_ranges.specs.Sets.{with_member}
use Rattle.jc_types.proofs.ListFacts.{Each-passes, Each-weaker, filter_all, filter_none, filter_swap, filter_within}
use Rattle.jc_states.specs.UidLists.{join}

-- The number is kept where the test passes it.
kept-among : (test : ℕ → Bool) (n : ℕ) (xs ys : List ℕ) → test n ≡ true → filter test (xs ++ n ∷ ys) ≡ filter test xs ++ n ∷ filter test ys
kept-among test n xs ys is = filter-append test xs (n ∷ ys) ∙ ap (λ b. filter test xs ++ cond b (n ∷ filter test ys) (filter test ys)) is

-- It is left out where the test does not.
left-out : (test : ℕ → Bool) (n : ℕ) (xs ys : List ℕ) → test n ≡ false → filter test (xs ++ n ∷ ys) ≡ filter test xs ++ filter test ys
left-out test n xs ys is = filter-append test xs (n ∷ ys) ∙ ap (λ b. filter test xs ++ cond b (n ∷ filter test ys) (filter test ys)) is

-- No number is below one and above a greater one.
none-both : (test other : ℕ → Bool) (xs : List ℕ) → ((x : ℕ) → other x ≡ true → test x ≡ false) → filter test (filter other xs) ≡ []
none-both test other xs h = filter_none test (filter other xs) (Each-weaker (λ x. other x ≡ true) (λ x. test x ≡ false) h (filter other xs) (Each-passes other xs))

module _ (a b : ℕ) (lt : a < b) (xs : List ℕ) where
  abbrev lower : List ℕ
  lower = filter (λ x. nat_lt x a) xs

  abbrev greater : List ℕ
  greater = filter (λ x. nat_lt b x) xs

  abbrev below : List ℕ
  below = filter (λ x. nat_lt x b) xs

  abbrev above : List ℕ
  above = filter (λ x. nat_lt a x) xs

  abbrev between : List ℕ
  between = filter (λ x. nat_lt a x) below

  -- The lower one is put in after the greater one.
  low-last : with_member a (with_member b xs) ≡ lower ++ a ∷ between ++ b ∷ greater
  low-last = ap (λ low. low ++ a ∷ filter (λ x. nat_lt a x) (with_member b xs)) front ∙ ap (λ high. lower ++ a ∷ high) rest ∙ sym (append_assoc lower (a ∷ between) (b ∷ greater))
    where
      front : filter (λ x. nat_lt x a) (with_member b xs) ≡ lower
      front =
          left-out (λ x. nat_lt x a) b below greater (le-ltb b a (omega (arith, lt)))
          ∙ ap (λ end. filter (λ x. nat_lt x a) below ++ end) (none-both (λ x. nat_lt x a) (λ x. nat_lt b x) xs (λ x h. le-ltb x a (let more = ltb-true b x h in omega (arith, lt, more))))
          ∙ append-nil (filter (λ x. nat_lt x a) below)
          ∙ filter_within (λ x. nat_lt x a) (λ x. nat_lt x b) (λ x h. lt-ltb x b (let less = ltb-true x a h in omega (arith, lt, less))) xs

      rest : filter (λ x. nat_lt a x) (with_member b xs) ≡ between ++ b ∷ greater
      rest =
          kept-among (λ x. nat_lt a x) b below greater (lt-ltb a b lt)
          ∙ ap (λ end. between ++ b ∷ end) (filter_all (λ x. nat_lt a x) greater
          (Each-weaker (λ x. nat_lt b x ≡ true) (λ x. nat_lt a x ≡ true)
          (λ x h. lt-ltb a x (let more = ltb-true b x h in omega (arith, lt, more))) greater
          (Each-passes (λ x. nat_lt b x) xs)))

  -- The greater one is put in after the lower one.
  high-last : with_member b (with_member a xs) ≡ lower ++ a ∷ between ++ b ∷ greater
  high-last = ap (λ low. low ++ b ∷ filter (λ x. nat_lt b x) (with_member a xs)) front ∙ ap (λ high. lower ++ a ∷ between ++ b ∷ high) rest
    where
      front : filter (λ x. nat_lt x b) (with_member a xs) ≡ lower ++ a ∷ between
      front =
          kept-among (λ x. nat_lt x b) a lower above (lt-ltb a b lt)
          ∙ ap (λ low. low ++ a ∷ filter (λ x. nat_lt x b) above)
          (filter_all (λ x. nat_lt x b) lower (Each-weaker (λ x. nat_lt x a ≡ true) (λ x. nat_lt x b ≡ true)
          (λ x h. lt-ltb x b (let less = ltb-true x a h in omega (arith, lt, less))) lower
          (Each-passes (λ x. nat_lt x a) xs)))
          ∙ ap (λ high. lower ++ a ∷ high) (filter_swap (λ x. nat_lt x b) (λ x. nat_lt a x) xs)

      rest : filter (λ x. nat_lt b x) (with_member a xs) ≡ greater
      rest =
          left-out (λ x. nat_lt b x) a lower above (le-ltb b a (omega (arith, lt)))
          ∙ ap (λ low. low ++ filter (λ x. nat_lt b x) above) (none-both (λ x. nat_lt b x) (λ x. nat_lt x a) xs (λ x h. le-ltb b x (let less = ltb-true x a h in omega (arith, lt, less))))
          ∙ filter_within (λ x. nat_lt b x) (λ x. nat_lt a x) (λ x h. lt-ltb a x (let more = ltb-true b x h in omega (arith, lt, more))) xs

-- Two numbers are put in a set in either order.
with-swap : (a b : ℕ) (xs : List ℕ) → with_member a (with_member b xs) ≡ with_member b (with_member a xs)
with-swap a b xs = by_order (nat_lt a b) refl (nat_lt b a) refl
  where
    by_order : (l : Bool) → nat_lt a b ≡ l → (m : Bool) → nat_lt b a ≡ m → with_member a (with_member b xs) ≡ with_member b (with_member a xs)
    by_order true e m f = low-last a b (ltb-true a b e) xs ∙ sym (high-last a b (ltb-true a b e) xs)
    by_order false e true f = high-last b a (ltb-true b a f) xs ∙ sym (low-last b a (ltb-true b a f) xs)
    by_order false e false f =
        let at_most = ltb-false a b e in
        let at_least = ltb-false b a f in
        let same : a ≡ b = omega (arith, at_most, at_least) in
        ap (λ n. with_member n (with_member b xs)) same ∙ ap (λ n. with_member b (with_member n xs)) (sym same)

-- An index that is put in before the others is put in after them.
join-first : (index : ℕ) (xs more : List ℕ) → join (with_member index xs) more ≡ with_member index (join xs more)
join-first index xs [] = refl
join-first index xs (m ∷ more) = ap (with_member m) (join-first index xs more) ∙ with-swap m index (join xs more)

-- Indexes that are put in after others.
pub join-append : (set xs ys : List ℕ) → join set (xs ++ ys) ≡ join (join set xs) ys
join-append set [] ys = refl
join-append set (x ∷ xs) ys = ap (with_member x) (join-append set xs ys) ∙ sym (join-first x (join set xs) ys)
