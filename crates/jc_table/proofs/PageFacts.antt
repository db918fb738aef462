-- Values in pages: what a look-up, a write and a removal at a place are among the values under their numbers.
use Rattle.std.proofs.Common.{◌≡◌, ◌≢◌, ℕ, ◌+◌, ◌*◌, ◌/◌, ◌%◌, ◌^◌, ◌<◌, ◌≤◌, ◌==◌, nat_cmp, Less, Equal, Greater, Bool, true, false, cond, not, List, [], ◌∷◌, ◌++◌, length, Option, Some, None, IsSome, is_some, Vec, zero, suc}
use Rattle.std.proofs.Common.{slice_get, slice_set, refl, sym, ap, subst, ◌∙◌, arith, true≢false, eq-eqb, ne_eqb, append_assoc, append-nil, get_or, length-append}
use Rattle.std.proofs.Common.{inl, inr}
use Rattle.std.proofs.lemmas.List.{get_or-set_same}
use Rattle.std.proofs.lemmas.Option.{same_Some, slice_get_cases, slice_get_read}
use Rattle.std.proofs.Math.ListN.{length-set}
use Rattle.std.specs.BTreeMap.{insert_entry, is_at}
use Rattle.std.specs.Cmp.{nat_cmp_is}
use Rattle.std.specs.Int.{from_bool}
use Rattle.std.specs.Map.{lookup, remove_entry, set_value, values_of}
use Rattle.std.specs.Option.{option_flatten}
use Rattle.std.specs.Ordering.{match_ordering}
use Rattle.jc_table.specs.Pages.{here, places, paged, present, present_in, AreShort, ArePages}
use Rattle.jc_table.proofs.Numbers.{asks}

-- A place that a list does not have is not written.
set-beyond : {X : Type 0} (xs : List X) (i : ℕ) (x : X) → length xs ≤ i → slice_set xs i x ≡ xs
set-beyond [] i x h = refl
set-beyond (y ∷ xs) zero x h = absurd (omega (arith, h))
set-beyond (y ∷ xs) (suc i) x h = ap (λ all. y ∷ all) (set-beyond xs i x (omega (arith, h)))

-- A place that is written again.
set-again : {X : Type 0} (xs : List X) (i : ℕ) (x y : X) → slice_set (slice_set xs i x) i y ≡ slice_set xs i y
set-again [] i x y = refl
set-again (z ∷ xs) zero x y = refl
set-again (z ∷ xs) (suc i) x y = ap (λ all. z ∷ all) (set-again xs i x y)

-- The item that is read at a place.
pub item : {X : Type 0} (xs ys : List X) (i : ℕ) (x : X) → ys ≡ xs → i < length ys → x ≡ get_or ys i x → slice_get xs i ≡ Some x
item xs ys i x are within read = sym (ap (λ all. slice_get all i) are) ∙ slice_get_read ys (length ys) i x refl within read

-- ---- values under numbers, and what holds of each number

module _ {V : Type 0} where
  -- Each number is so.
  abbrev pub Each : (ℕ → Type 0) → List (ℕ × V) → Type 0
  Each P [] = Unit {0}
  Each P (row ∷ rows) = P row.0 × Each P rows

  each-append : (P : ℕ → Type 0) (rows more : List (ℕ × V)) → Each P rows → Each P more → Each P (rows ++ more)
  each-append P [] more a b = b
  each-append P (row ∷ rows) more a b = (a.0, each-append P rows more a.1 b)

  each-so : (P Q : ℕ → Type 0) (rows : List (ℕ × V)) → ((k : ℕ) → P k → Q k) → Each P rows → Each Q rows
  each-so P Q [] f a = tt
  each-so P Q (row ∷ rows) f a = (f row.0 a.0, each-so P Q rows f a.1)

  each-here : (P : ℕ → Type 0) (n : ℕ) (place : Option V) → P n → Each P (here n place)
  each-here P n None h = tt
  each-here P n (Some value) h = (h, tt)

  -- A place has one value or none.
  has-one : (n : ℕ) (place : Option V) → IsSome place → length (here n place) ≡ 1
  has-one n None some = absurd (true≢false (sym some))
  has-one n (Some v) some = refl

  pub one-more : (n : ℕ) (place : Option V) (none : Bool) (more : ℕ) → is_some place ≡ not none → more ≡ from_bool none → length (here n place) + more ≡ 1
  one-more n None true more is e = omega (arith, e)
  one-more n None false more is e = absurd (true≢false (sym is))
  one-more n (Some v) true more is e = absurd (true≢false is)
  one-more n (Some v) false more is e = omega (arith, e)

  pub no-value : (n : ℕ) (place : Option V) → length (here n place) ≡ 0 → place ≡ None
  no-value n None e = refl
  no-value n (Some v) e = absurd (omega (arith, e))

  -- ---- what is done under a number between those below it and those above it

  module _ (n : ℕ) where
    lookup-past : (rows more : List (ℕ × V)) → Each (λ k. k < n) rows → lookup (λ k. n == k) (rows ++ more) ≡ lookup (λ k. n == k) more
    lookup-past [] more a = refl
    lookup-past (row ∷ rows) more a =
        let below = a.0 in
        ap (λ b. cond b (Some row.1) (lookup (λ k. n == k) (rows ++ more))) (ne_eqb n row.0 (omega (arith, below))) ∙ lookup-past rows more a.1

    lookup-none : (rows : List (ℕ × V)) → Each (λ k. k ≢ n) rows → lookup (λ k. n == k) rows ≡ None
    lookup-none [] a = refl
    lookup-none (row ∷ rows) a =
        let other = a.0 in
        ap (λ b. cond b (Some row.1) (lookup (λ k. n == k) rows)) (ne_eqb n row.0 (λ e. other (sym e))) ∙ lookup-none rows a.1

    set-past : (rows more : List (ℕ × V)) (v : V) → Each (λ k. k < n) rows → set_value (λ k. n == k) (rows ++ more) v ≡ rows ++ set_value (λ k. n == k) more v
    set-past [] more v a = refl
    set-past (row ∷ rows) more v a =
        let below = a.0 in
        ap (λ b. cond b ((row.0, v) ∷ (rows ++ more)) (row ∷ set_value (λ k. n == k) (rows ++ more) v)) (ne_eqb n row.0 (omega (arith, below)))
        ∙ ap (λ all. row ∷ all) (set-past rows more v a.1)

    remove-past : (rows more : List (ℕ × V)) → Each (λ k. k < n) rows → remove_entry (λ k. n == k) (rows ++ more) ≡ rows ++ remove_entry (λ k. n == k) more
    remove-past [] more a = refl
    remove-past (row ∷ rows) more a =
        let below = a.0 in
        ap (λ b. cond b (rows ++ more) (row ∷ remove_entry (λ k. n == k) (rows ++ more))) (ne_eqb n row.0 (omega (arith, below)))
        ∙ ap (λ all. row ∷ all) (remove-past rows more a.1)

    remove-none : (rows : List (ℕ × V)) → Each (λ k. k ≢ n) rows → remove_entry (λ k. n == k) rows ≡ rows
    remove-none [] a = refl
    remove-none (row ∷ rows) a =
        let other = a.0 in
        ap (λ b. cond b rows (row ∷ remove_entry (λ k. n == k) rows)) (ne_eqb n row.0 (λ e. other (sym e)))
        ∙ ap (λ all. row ∷ all) (remove-none rows a.1)

    insert-past : (rows more : List (ℕ × V)) (v : V) → Each (λ k. k < n) rows → insert_entry nat_cmp (rows ++ more) n v ≡ rows ++ insert_entry nat_cmp more n v
    insert-past [] more v a = refl
    insert-past (row ∷ rows) more v a =
        ap (λ o. match_ordering o ((n, v) ∷ row ∷ (rows ++ more)) ((row.0, v) ∷ (rows ++ more)) (row ∷ insert_entry nat_cmp (rows ++ more) n v)) (sym (nat_cmp_is n row.0 Greater a.0))
        ∙ ap (λ all. row ∷ all) (insert-past rows more v a.1)

    insert-first : (rows : List (ℕ × V)) (v : V) → Each (λ k. n < k) rows → insert_entry nat_cmp rows n v ≡ (n, v) ∷ rows
    insert-first [] v a = refl
    insert-first (row ∷ rows) v a =
        ap (λ o. match_ordering o ((n, v) ∷ row ∷ rows) ((row.0, v) ∷ rows) (row ∷ insert_entry nat_cmp rows n v)) (sym (nat_cmp_is n row.0 Less a.0))

    apart : (rows : List (ℕ × V)) → Each (λ k. n < k) rows → Each (λ k. k ≢ n) rows
    apart rows a = each-so (λ k. n < k) (λ k. k ≢ n) rows (λ k f. omega (arith, f)) a

    module _ (front back : List (ℕ × V)) (before : Each (λ k. k < n) front) (after : Each (λ k. n < k) back) where
      lookup-between : (place : Option V) → lookup (λ k. n == k) (front ++ (here n place ++ back)) ≡ place
      lookup-between None = lookup-past front back before ∙ lookup-none back (apart back after)
      lookup-between (Some v) =
          lookup-past front ((n, v) ∷ back) before ∙ ap (λ b. cond b (Some v) (lookup (λ k. n == k) back)) (eq-eqb n n refl)

      set-between : (place : Option V) (v : V) → IsSome place → set_value (λ k. n == k) (front ++ (here n place ++ back)) v ≡ front ++ (here n (Some v) ++ back)
      set-between None v there = absurd (true≢false (sym there))
      set-between (Some old) v there =
          set-past front ((n, old) ∷ back) v before
          ∙ ap (λ b. front ++ cond b ((n, v) ∷ back) ((n, old) ∷ set_value (λ k. n == k) back v)) (eq-eqb n n refl)

      remove-between : (place : Option V) → remove_entry (λ k. n == k) (front ++ (here n place ++ back)) ≡ front ++ back
      remove-between None = remove-past front back before ∙ ap (λ all. front ++ all) (remove-none back (apart back after))
      remove-between (Some v) =
          remove-past front ((n, v) ∷ back) before
          ∙ ap (λ b. front ++ cond b back ((n, v) ∷ remove_entry (λ k. n == k) back)) (eq-eqb n n refl)

      insert-between : (place : Option V) (v : V) → insert_entry nat_cmp (front ++ (here n place ++ back)) n v ≡ front ++ (here n (Some v) ++ back)
      insert-between None v = insert-past front back v before ∙ ap (λ all. front ++ all) (insert-first back v after)
      insert-between (Some old) v =
          insert-past front ((n, old) ∷ back) v before
          ∙ ap (λ o. front ++ match_ordering o ((n, v) ∷ (n, old) ∷ back) ((n, v) ∷ back) ((n, old) ∷ insert_entry nat_cmp back n v)) (sym (nat_cmp_is n n Equal refl))

  -- ---- one page

  -- The numbers of a page lie from its first one on, as far as it has places.
  places-keys : (b c : ℕ) (page : List (Option V)) → b + length page ≤ c → Each (λ k. (b ≤ k) × (k < c)) (places b page)
  places-keys b c [] h = tt
  places-keys b c (place ∷ page) h =
      each-append (λ k. (b ≤ k) × (k < c)) (here b place) (places (b + 1) page)
      (each-here (λ k. (b ≤ k) × (k < c)) b place (omega arith, omega (arith, h)))
      (each-so (λ k. (b + 1 ≤ k) × (k < c)) (λ k. (b ≤ k) × (k < c)) (places (b + 1) page) (λ k f. (let from = f.0 in omega (arith, from), f.1))
      (places-keys (b + 1) c page (omega (arith, h))))

  -- A place among those before it and after it in its page.
  record InPage (n b i : ℕ) (page : List (Option V)) (place : Option V) : Type 0 where
    front : List (ℕ × V)
    back : List (ℕ × V)
    before : Each (λ k. k < n) front
    after : Each (λ k. n < k) back
    is : places b page ≡ front ++ (here n place ++ back)
    set : (x : Option V) → places b (slice_set page i x) ≡ front ++ (here n x ++ back)

  in-page : (n b i : ℕ) (page : List (Option V)) (place : Option V) → n ≡ b + i → slice_get page i ≡ Some place → InPage n b i page place
  in-page n b i [] place at there = absurd (true≢false (sym (ap is_some there)))
  in-page n b zero (first ∷ page) place at there =
      let same : b ≡ n = omega (arith, at) in
      record {
        front = [];
        back = places (b + 1) page;
        before = tt;
        after = each-so (λ k. (b + 1 ≤ k) × (k < b + 1 + length page)) (λ k. n < k) (places (b + 1) page) (λ k f. let from = f.0 in omega (arith, from, same)) (places-keys (b + 1) (b + 1 + length page) page (omega arith));
        is = ap (λ place. here b place ++ places (b + 1) page) (same_Some first place there) ∙ ap (λ n. here n place ++ places (b + 1) page) same;
        set = λ x. ap (λ n. here n x ++ places (b + 1) page) same;
      }
  in-page n b (suc i) (first ∷ page) place at there =
      let r = in-page n (b + 1) i page place (omega (arith, at)) there in
      record {
        front = here b first ++ r.front;
        back = r.back;
        before = each-append (λ k. k < n) (here b first) r.front (each-here (λ k. k < n) b first (omega (arith, at))) r.before;
        after = r.after;
        is = ap (λ all. here b first ++ all) r.is ∙ sym (append_assoc (here b first) r.front (here n place ++ r.back));
        set = λ x. ap (λ all. here b first ++ all) (r.set x) ∙ sym (append_assoc (here b first) r.front (here n x ++ r.back));
      }

  -- A place at the end that has no value.
  pub places-push : (b : ℕ) (page : List (Option V)) → places b (page ++ None ∷ []) ≡ places b page
  places-push b [] = refl
  places-push b (place ∷ page) = ap (λ all. here b place ++ all) (places-push (b + 1) page)

  -- Its place at the end among the values of a page.
  pub present-none : (page : List (Option V)) → present (page ++ None ∷ []) ≡ present page
  present-none [] = refl
  present-none (None ∷ page) = present-none page
  present-none (Some v ∷ page) = ap (λ all. v ∷ all) (present-none page)

  pub present-some : (page : List (Option V)) (v : V) → present (page ++ Some v ∷ []) ≡ present page ++ v ∷ []
  present-some [] v = refl
  present-some (None ∷ page) v = present-some page v
  present-some (Some w ∷ page) v = ap (λ all. w ∷ all) (present-some page v)

  -- The values of a page under their numbers are its values.
  values-places : (b : ℕ) (page : List (Option V)) → values_of (places b page) ≡ present page
  values-places b [] = refl
  values-places b (None ∷ page) = values-places (b + 1) page
  values-places b (Some v ∷ page) = ap (λ all. v ∷ all) (values-places (b + 1) page)

  values-append : (rows more : List (ℕ × V)) → values_of (rows ++ more) ≡ values_of rows ++ values_of more
  values-append [] more = refl
  values-append (row ∷ rows) more = ap (λ all. row.1 ∷ all) (values-append rows more)

  -- ---- the pages

  regroup : (a b c d : List (ℕ × V)) → (a ++ (b ++ c)) ++ d ≡ a ++ (b ++ (c ++ d))
  regroup a b c d = append_assoc a (b ++ c) d ∙ ap (λ all. a ++ all) (append_assoc b c d)

  module _ {A : Type 0} where
    paged-from : (b : ℕ) (pages : List (Vec (Option V) A)) → Each (λ k. b ≤ k) (paged b pages)
    paged-from b [] = tt
    paged-from b (page ∷ pages) =
        each-append (λ k. b ≤ k) (places b page.items) (paged (b + 64) pages)
        (each-so (λ k. (b ≤ k) × (k < b + length page.items)) (λ k. b ≤ k) (places b page.items) (λ k f. f.0) (places-keys b (b + length page.items) page.items (omega arith)))
        (each-so (λ k. b + 64 ≤ k) (λ k. b ≤ k) (paged (b + 64) pages) (λ k f. omega (arith, f)) (paged-from (b + 64) pages))

    paged-below : (b c : ℕ) (pages : List (Vec (Option V) A)) → AreShort pages → b + 64 * length pages ≤ c → Each (λ k. k < c) (paged b pages)
    paged-below b c [] short h = tt
    paged-below b c (page ∷ pages) short h =
        let few = short.0 in
        each-append (λ k. k < c) (places b page.items) (paged (b + 64) pages)
        (each-so (λ k. (b ≤ k) × (k < c)) (λ k. k < c) (places b page.items) (λ k f. f.1) (places-keys b c page.items (omega (arith, few, h))))
        (paged-below (b + 64) c pages short.1 (omega (arith, h)))

    -- A page at the end that has no place.
    pub paged-push : (b : ℕ) (pages : List (Vec (Option V) A)) (new : Vec (Option V) A) → new.items ≡ [] → paged b (pages ++ new ∷ []) ≡ paged b pages
    paged-push b [] new none = ap (λ page. places b page ++ []) none
    paged-push b (page ∷ pages) new none = ap (λ all. places b page.items ++ all) (paged-push (b + 64) pages new none)

    pub short-push : (pages : List (Vec (Option V) A)) (new : Vec (Option V) A) → AreShort pages → new.items ≡ [] → AreShort (pages ++ new ∷ [])
    short-push [] new short none = (omega (arith, ap length none), tt)
    short-push (page ∷ pages) new short none = (short.0, short-push pages new short.1 none)

    present_in-push : (pages : List (Vec (Option V) A)) (page : Vec (Option V) A) → present_in (pages ++ page ∷ []) ≡ present_in pages ++ present page.items
    present_in-push [] page = append-nil (present page.items)
    present_in-push (first ∷ pages) page =
        ap (λ all. present first.items ++ all) (present_in-push pages page) ∙ sym (append_assoc (present first.items) (present_in pages) (present page.items))

    -- The values of pages under their numbers are their values.
    pub values-paged : (b : ℕ) (pages : List (Vec (Option V) A)) → values_of (paged b pages) ≡ present_in pages
    values-paged b [] = refl
    values-paged b (page ∷ pages) =
        values-append (places b page.items) (paged (b + 64) pages)
        ∙ ap (λ all. all ++ values_of (paged (b + 64) pages)) (values-places b page.items)
        ∙ ap (λ all. present page.items ++ all) (values-paged (b + 64) pages)

    -- What is left once the back comes to the last page.
    pub last-page : (front : List V) (pages left : List (Vec (Option V) A)) (page : Vec (Option V) A) (back new : List (Option V)) (all : List V)
        → front ++ (present_in pages ++ present back) ≡ all → present back ≡ [] → pages ≡ left ++ page ∷ [] → new ≡ page.items
        → front ++ (present_in left ++ present new) ≡ all
    last-page front pages left page back new all whole none of is =
        ap (λ new. front ++ (present_in left ++ present new)) is ∙ ap (λ all. front ++ all) (sym (present_in-push left page))
        ∙ ap (λ pages. front ++ present_in pages) (sym of) ∙ ap (λ all. front ++ all) (sym (append-nil (present_in pages)))
        ∙ ap (λ back. front ++ (present_in pages ++ back)) (sym none) ∙ whole

    -- A page in the place of one of the same values.
    pub paged-same : (b p : ℕ) (pages : List (Vec (Option V) A)) (page new : Vec (Option V) A) → slice_get pages p ≡ Some page
        → ((m : ℕ) → places m new.items ≡ places m page.items) → paged b (slice_set pages p new) ≡ paged b pages
    paged-same b p [] page new among same = refl
    paged-same b zero (first ∷ pages) page new among same =
        ap (λ all. all ++ paged (b + 64) pages) (same b ∙ ap (λ (page : Vec (Option V) A). places b page.items) (sym (same_Some first page among)))
    paged-same b (suc p) (first ∷ pages) page new among same =
        ap (λ all. places b first.items ++ all) (paged-same (b + 64) p pages page new among same)

    -- A place among those before it and after it in all pages.
    record InPages (n b p i : ℕ) (pages : List (Vec (Option V) A)) (page : Vec (Option V) A) (place : Option V) : Type 0 where
      front : List (ℕ × V)
      back : List (ℕ × V)
      before : Each (λ k. k < n) front
      after : Each (λ k. n < k) back
      is : paged b pages ≡ front ++ (here n place ++ back)
      set : (x : Option V) (new : Vec (Option V) A) → ((m : ℕ) → places m new.items ≡ places m (slice_set page.items i x)) → paged b (slice_set pages p new) ≡ front ++ (here n x ++ back)

    in-pages : (n b p i : ℕ) (pages : List (Vec (Option V) A)) (page : Vec (Option V) A) (place : Option V) → n ≡ b + 64 * p + i → i < 64 → AreShort pages
        → slice_get pages p ≡ Some page → slice_get page.items i ≡ Some place → InPages n b p i pages page place
    in-pages n b p i [] page place at low short among there = absurd (true≢false (sym (ap is_some among)))
    in-pages n b zero i (first ∷ pages) page place at low short among there =
        let e : first ≡ page = same_Some first page among in
        let r = in-page n b i first.items place (omega (arith, at)) (ap (λ (page : Vec (Option V) A). slice_get page.items i) e ∙ there) in
        record {
          front = r.front;
          back = r.back ++ paged (b + 64) pages;
          before = r.before;
          after = each-append (λ k. n < k) r.back (paged (b + 64) pages) r.after
              (each-so (λ k. b + 64 ≤ k) (λ k. n < k) (paged (b + 64) pages) (λ k f. omega (arith, f, at, low)) (paged-from (b + 64) pages));
          is = ap (λ all. all ++ paged (b + 64) pages) r.is ∙ regroup r.front (here n place) r.back (paged (b + 64) pages);
          set = λ x new same.
              ap (λ all. all ++ paged (b + 64) pages) (same b ∙ ap (λ (page : Vec (Option V) A). places b (slice_set page.items i x)) (sym e) ∙ r.set x)
              ∙ regroup r.front (here n x) r.back (paged (b + 64) pages);
        }
    in-pages n b (suc p) i (first ∷ pages) page place at low short among there =
        let few = short.0 in
        let r = in-pages n (b + 64) p i pages page place (omega (arith, at)) low short.1 among there in
        record {
          front = places b first.items ++ r.front;
          back = r.back;
          before = each-append (λ k. k < n) (places b first.items) r.front
              (each-so (λ k. (b ≤ k) × (k < n)) (λ k. k < n) (places b first.items) (λ k f. f.1) (places-keys b n first.items (omega (arith, few, at))))
              r.before;
          after = r.after;
          is = ap (λ all. places b first.items ++ all) r.is ∙ sym (append_assoc (places b first.items) r.front (here n place ++ r.back));
          set = λ x new same.
              ap (λ all. places b first.items ++ all) (r.set x new same) ∙ sym (append_assoc (places b first.items) r.front (here n x ++ r.back));
        }

    -- A place that its page does not have has no value.
    missing : (n b p i : ℕ) (pages : List (Vec (Option V) A)) (page : Vec (Option V) A) → n ≡ b + 64 * p + i → i < 64 → AreShort pages → slice_get pages p ≡ Some page → length page.items ≤ i
        → Each (λ k. k ≢ n) (paged b pages)
    missing n b p i [] page at low short among past = tt
    missing n b zero i (first ∷ pages) page at low short among past =
        let few : length first.items ≤ i = subst (λ (page : Vec (Option V) A). length page.items ≤ i) (sym (same_Some first page among)) past in
        each-append (λ k. k ≢ n) (places b first.items) (paged (b + 64) pages)
        (each-so (λ k. (b ≤ k) × (k < n)) (λ k. k ≢ n) (places b first.items) (λ k f. let below = f.1 in omega (arith, below)) (places-keys b n first.items (omega (arith, few, at))))
        (each-so (λ k. b + 64 ≤ k) (λ k. k ≢ n) (paged (b + 64) pages) (λ k f. omega (arith, f, at, low)) (paged-from (b + 64) pages))
    missing n b (suc p) i (first ∷ pages) page at low short among past =
        let few = short.0 in
        each-append (λ k. k ≢ n) (places b first.items) (paged (b + 64) pages)
        (each-so (λ k. (b ≤ k) × (k < n)) (λ k. k ≢ n) (places b first.items) (λ k f. let below = f.1 in omega (arith, below)) (places-keys b n first.items (omega (arith, few, at))))
        (missing n (b + 64) p i pages page (omega (arith, at)) low short.1 among past)

    -- Pages are short where one of them has another in its place that is short.
    pub short-set : (p : ℕ) (pages : List (Vec (Option V) A)) (new : Vec (Option V) A) → AreShort pages → length new.items ≤ 64 → AreShort (slice_set pages p new)
    short-set p [] new short few = tt
    short-set zero (first ∷ pages) new short few = (few, short.1)
    short-set (suc p) (first ∷ pages) new short few = (short.0, short-set p pages new short.1 few)

    pub short-get : (p : ℕ) (pages : List (Vec (Option V) A)) (page : Vec (Option V) A) → AreShort pages → slice_get pages p ≡ Some page → length page.items ≤ 64
    short-get p [] page short among = absurd (true≢false (sym (ap is_some among)))
    short-get zero (first ∷ pages) page short among = subst (λ (page : Vec (Option V) A). length page.items ≤ 64) (same_Some first page among) short.0
    short-get (suc p) (first ∷ pages) page short among = short-get p pages page short.1 among

    -- ---- a number, its page and its place

    module _ (pages : List (Vec (Option V) A)) (short : AreShort pages) (n p i : ℕ) (page-is : p ≡ n / 64) (place-is : i ≡ n % 64) where
      at : n ≡ 0 + 64 * p + i
      at = omega (arith, page-is, place-is)

      low : i < 64
      low = omega (arith, place-is)

      none : Each (λ k. k ≢ n) (paged 0 pages) → lookup (is_at (nat_cmp n)) (paged 0 pages) ≡ None
      none apart = ap (λ test. lookup test (paged 0 pages)) (asks n) ∙ lookup-none n (paged 0 pages) apart

      past : length pages ≤ p → Each (λ k. k ≢ n) (paged 0 pages)
      past h =
          each-so (λ k. k < n) (λ k. k ≢ n) (paged 0 pages) (λ k f. omega (arith, f))
          (paged-below 0 n pages short (omega (arith, h, at)))

      -- Nothing is under a number without a page.
      pub get-none : length pages ≤ p → lookup (is_at (nat_cmp n)) (paged 0 pages) ≡ None
      get-none h = none (past h)

      pub remove-none-is : length pages ≤ p → remove_entry (is_at (nat_cmp n)) (paged 0 pages) ≡ paged 0 pages
      remove-none-is h = ap (λ test. remove_entry test (paged 0 pages)) (asks n) ∙ remove-none n (paged 0 pages) (past h)

      -- A number with a value has a page.
      pub has-page : IsSome (lookup (is_at (nat_cmp n)) (paged 0 pages)) → p < length pages
      has-page there =
          elim (slice_get_cases pages p).1 [
            | inl w ↦ w.1
            | inr w ↦ absurd (true≢false (sym there ∙ ap is_some (get-none w.0)))
          ]

      module _ (page : Vec (Option V) A) (among : slice_get pages p ≡ Some page) where
        -- Nothing is under a number without a place in its page.
        pub get-none-in : length page.items ≤ i → lookup (is_at (nat_cmp n)) (paged 0 pages) ≡ None
        get-none-in h = none (missing n 0 p i pages page at low short among h)

        pub remove-none-in : length page.items ≤ i → remove_entry (is_at (nat_cmp n)) (paged 0 pages) ≡ paged 0 pages
        remove-none-in h =
            ap (λ test. remove_entry test (paged 0 pages)) (asks n)
            ∙ remove-none n (paged 0 pages) (missing n 0 p i pages page at low short among h)

        -- A number with a value has a place in its page.
        pub has-place : IsSome (lookup (is_at (nat_cmp n)) (paged 0 pages)) → i < length page.items
        has-place there =
            elim (slice_get_cases page.items i).1 [
              | inl w ↦ w.1
              | inr w ↦ absurd (true≢false (sym there ∙ ap is_some (get-none-in w.0)))
            ]

        module _ (place : Option V) (there : slice_get page.items i ≡ Some place) where
          parts : InPages n 0 p i pages page place
          parts = in-pages n 0 p i pages page place at low short among there

          -- What is under a number is what is in its place.
          pub get-some : lookup (is_at (nat_cmp n)) (paged 0 pages) ≡ place
          get-some =
              ap (λ test. lookup test (paged 0 pages)) (asks n) ∙ ap (lookup (λ k. n == k)) parts.is
              ∙ lookup-between n parts.front parts.back parts.before parts.after place

          module _ (new : Vec (Option V) A) where
            -- A value that is written in the place.
            pub set-is : (v : V) → IsSome place → ((m : ℕ) → places m new.items ≡ places m (slice_set page.items i (Some v)))
                → paged 0 (slice_set pages p new) ≡ set_value (is_at (nat_cmp n)) (paged 0 pages) v
            set-is v some same =
                parts.set (Some v) new same
                ∙ sym
                (ap (λ test. set_value test (paged 0 pages) v) (asks n) ∙ ap (λ all. set_value (λ k. n == k) all v) parts.is
                ∙ set-between n parts.front parts.back parts.before parts.after place v some)

            pub insert-is : (v : V) → ((m : ℕ) → places m new.items ≡ places m (slice_set page.items i (Some v)))
                → paged 0 (slice_set pages p new) ≡ insert_entry nat_cmp (paged 0 pages) n v
            insert-is v same =
                parts.set (Some v) new same
                ∙ sym (ap (λ all. insert_entry nat_cmp all n v) parts.is ∙ insert-between n parts.front parts.back parts.before parts.after place v)

            -- A value that is taken out of the place.
            pub remove-is : ((m : ℕ) → places m new.items ≡ places m (slice_set page.items i None))
                → paged 0 (slice_set pages p new) ≡ remove_entry (is_at (nat_cmp n)) (paged 0 pages)
            remove-is same =
                parts.set None new same
                ∙ sym
                (ap (λ test. remove_entry test (paged 0 pages)) (asks n) ∙ ap (remove_entry (λ k. n == k)) parts.is
                ∙ remove-between n parts.front parts.back parts.before parts.after place)

            -- The number of values, once the place is written.
            pub count-is : (x : Option V) → ((m : ℕ) → places m new.items ≡ places m (slice_set page.items i x))
                → length (paged 0 (slice_set pages p new)) + length (here n place) ≡ length (paged 0 pages) + length (here n x)
            count-is x same =
                omega (
                  arith,
                  ap length (parts.set x new same),
                  ap length parts.is,
                  length-append parts.front (here n x ++ parts.back),
                  length-append (here n x) parts.back,
                  length-append parts.front (here n place ++ parts.back),
                  length-append (here n place) parts.back,
                )

    -- ---- what each function does

    module _ (pages : List (Vec (Option V) A)) (count : ℕ) (are : ArePages pages count) (now : List (ℕ × V)) (seen : paged 0 pages ≡ now) where
      module _ (n p i : ℕ) (page-is : p ≡ n / 64) (place-is : i ≡ n % 64) where
        -- A number with a value has a page.
        pub page-there : IsSome (lookup (is_at (nat_cmp n)) now) → p < length pages
        page-there some = has-page pages are.short n p i page-is place-is (subst (λ all. IsSome (lookup (is_at (nat_cmp n)) all)) (sym seen) some)

        module _ (page : Vec (Option V) A) (within : p < length pages) (read : page ≡ get_or pages p page) where
          among : slice_get pages p ≡ Some page
          among = slice_get_read pages (length pages) p page refl within read

          -- A number with a value has a place in its page.
          pub place-there : IsSome (lookup (is_at (nat_cmp n)) now) → i < length page.items
          place-there some = has-place pages are.short n p i page-is place-is page among (subst (λ all. IsSome (lookup (is_at (nat_cmp n)) all)) (sym seen) some)

          module _ (place : Option V) (inside : i < length page.items) (held : place ≡ get_or page.items i place) where
            there : slice_get page.items i ≡ Some place
            there = slice_get_read page.items (length page.items) i place refl inside held

            -- What is under a number is what is in its place.
            pub place-now : lookup (is_at (nat_cmp n)) now ≡ place
            place-now = ap (lookup (is_at (nat_cmp n))) (sym seen) ∙ get-some pages are.short n p i page-is place-is page among place there

            pub place-some : IsSome (lookup (is_at (nat_cmp n)) now) → IsSome place
            place-some some = ap is_some (sym place-now) ∙ some

            -- Once a value is written in the place.
            module _ (v : V) (new : Vec (Option V) A) (items : new.items ≡ slice_set page.items i (Some v)) where
              few : length new.items ≤ 64
              few = let old = short-get p pages page are.short among in omega (arith, old, ap length items, length-set page.items i (Some v))

              counts : length (paged 0 (slice_set pages p new)) + length (here n place) ≡ length (paged 0 pages) + 1
              counts = count-is pages are.short n p i page-is place-is page among place there new (Some v) (λ m. ap (places m) items)

              pub insert-are : (more : ℕ) → length (here n place) + more ≡ 1 → count + more < 2 ^ 63 → ArePages (slice_set pages p new) (count + more)
              insert-are more one fits =
                  record { short = short-set p pages new are.short few; counted = omega (arith, counts, are.counted, one); fits = fits }

              pub insert-now : paged 0 (slice_set pages p new) ≡ insert_entry nat_cmp now n v
              insert-now =
                  insert-is pages are.short n p i page-is place-is page among place there new v (λ m. ap (places m) items)
                  ∙ ap (λ all. insert_entry nat_cmp all n v) seen

              module _ (some : IsSome (lookup (is_at (nat_cmp n)) now)) where
                pub set-are : ArePages (slice_set pages p new) count
                set-are = record {
                  short = short-set p pages new are.short few;
                  counted = let one = has-one n place (place-some some) in omega (arith, counts, are.counted, one);
                  fits = are.fits;
                }

                pub set-now : paged 0 (slice_set pages p new) ≡ set_value (is_at (nat_cmp n)) now v
                set-now =
                    set-is pages are.short n p i page-is place-is page among place there new v (place-some some) (λ m. ap (places m) items)
                    ∙ ap (λ all. set_value (is_at (nat_cmp n)) all v) seen

          -- What is taken out of a page.
          module _ (new : Vec (Option V) A) (out : Option V) (value : out ≡ option_flatten (slice_get page.items i))
              (same : (m : ℕ) → places m new.items ≡ places m (slice_set page.items i None)) (shorter : length new.items ≤ length page.items) where
            record Taken : Type 0 where
              looked : lookup (is_at (nat_cmp n)) (paged 0 pages) ≡ out
              left : paged 0 (slice_set pages p new) ≡ remove_entry (is_at (nat_cmp n)) (paged 0 pages)
              counts : length (paged 0 (slice_set pages p new)) + length (here n out) ≡ length (paged 0 pages)

            taken : Taken
            taken = elim (slice_get_cases page.items i).1 [
              | inl w ↦
                  let is : out ≡ w.0 = value ∙ ap option_flatten w.2 in
                  record {
                    looked = get-some pages are.short n p i page-is place-is page among w.0 w.2 ∙ sym is;
                    left = remove-is pages are.short n p i page-is place-is page among w.0 w.2 new same;
                    counts = omega (arith, count-is pages are.short n p i page-is place-is page among w.0 w.2 new None same, ap (λ place. length (here n place)) is);
                  }
              | inr w ↦
                  let is : out ≡ None = value ∙ ap option_flatten w.1 in
                  let kept : paged 0 (slice_set pages p new) ≡ paged 0 pages =
                  paged-same 0 p pages page new among (λ m. same m ∙ ap (places m) (set-beyond page.items i None w.0)) in
                  record {
                    looked = get-none-in pages are.short n p i page-is place-is page among w.0 ∙ sym is;
                    left = kept ∙ sym (remove-none-in pages are.short n p i page-is place-is page among w.0);
                    counts = omega (arith, ap length kept, ap (λ place. length (here n place)) is);
                  }
            ]

            pub taken-value : out ≡ lookup (is_at (nat_cmp n)) now
            taken-value = sym taken.looked ∙ ap (lookup (is_at (nat_cmp n))) seen

            pub taken-now : paged 0 (slice_set pages p new) ≡ remove_entry (is_at (nat_cmp n)) now
            taken-now = taken.left ∙ ap (remove_entry (is_at (nat_cmp n))) seen

            pub taken-enough : length (here n out) ≤ count
            taken-enough = omega (arith, taken.counts, are.counted)

            pub taken-are : (less : ℕ) → less + length (here n out) ≡ count → ArePages (slice_set pages p new) less
            taken-are less e =
                let old = short-get p pages page are.short among in
                record {
                  short = short-set p pages new are.short (omega (arith, old, shorter));
                  counted = omega (arith, taken.counts, are.counted, e);
                  fits = omega (arith, are.fits, e);
                }

module _ {V A : Type 0} (pages : List (Vec (Option V) A)) (count : ℕ) (are : ArePages pages count) (now : List (ℕ × V)) (seen : paged 0 pages ≡ now) where
  -- Once pages have grown.
  pub grown-are : (new : List (Vec (Option V) A)) → AreShort new → paged 0 new ≡ paged 0 pages → ArePages new count
  grown-are new short same = record { short = short; counted = are.counted ∙ ap length (sym same); fits = are.fits }

  -- Once one page has grown.
  module _ (p : ℕ) (page grown : Vec (Option V) A) (within : p < length pages) (read : page ≡ get_or pages p page)
      (same : (m : ℕ) → places m grown.items ≡ places m page.items) (few : length grown.items ≤ 64) where
    left-same : paged 0 (slice_set pages p grown) ≡ paged 0 pages
    left-same = paged-same 0 p pages page grown (slice_get_read pages (length pages) p page refl within read) same

    pub page-are : ArePages (slice_set pages p grown) count
    page-are = grown-are (slice_set pages p grown) (short-set p pages grown are.short few) left-same

    pub page-seen : paged 0 (slice_set pages p grown) ≡ now
    page-seen = left-same ∙ seen

    module _ (n i : ℕ) (page-is : p ≡ n / 64) (place-is : i ≡ n % 64) (place : Option V) (inside : i < length grown.items) (held : place ≡ get_or grown.items i place) where
      there-still : p < length (slice_set pages p grown)
      there-still = omega (arith, within, length-set pages p grown)

      read-still : grown ≡ get_or (slice_set pages p grown) p grown
      read-still = sym (get_or-set_same pages p grown grown within)

      pub put-place : lookup (is_at (nat_cmp n)) now ≡ place
      put-place = place-now (slice_set pages p grown) count page-are now page-seen n p i page-is place-is grown there-still read-still place inside held

      module _ (v : V) (new : Vec (Option V) A) (items : new.items ≡ slice_set grown.items i (Some v)) where
        pub put-are : (more : ℕ) → length (here n place) + more ≡ 1 → count + more < 2 ^ 63 → ArePages (slice_set pages p new) (count + more)
        put-are more one fits =
            subst (λ pages. ArePages pages (count + more)) (set-again pages p grown new)
            (insert-are (slice_set pages p grown) count page-are now page-seen n p i page-is place-is grown there-still read-still place inside held v new items more one fits)

        pub put-now : paged 0 (slice_set pages p new) ≡ insert_entry nat_cmp now n v
        put-now =
            ap (paged 0) (sym (set-again pages p grown new))
            ∙ insert-now (slice_set pages p grown) count page-are now page-seen n p i page-is place-is grown there-still read-still place inside held v new items
