-- The pods that go by the oldest holders and the least rank are those that are spare or too many.
use Rattle.std.proofs.Common.{◌≡◌, ℕ, ◌-◌, Bool, true, false, cond, not, ◌||◌, nat_lt, List, [], ◌∷◌, map, filter, length, Option, Some, None, refl, sym, ap, ◌∙◌, arith}
use Rattle.std.specs.List.{count_by, list_any}
use Rattle.std.specs.Option.{option_map_or}
use Rattle.std.proofs.lemmas.List.{length-map}
use Rattle.std.proofs.lemmas.List.Elements.{filter_agree}
use Rattle.std.proofs.lemmas.List.Sums.{sum_by-cons}
use Rattle.jc_types.specs.declared.numbers.Uid.{Uid}
use Rattle.jc_types.specs.declared.objects.Pod.{Pod}
use Rattle.jc_types.specs.declared.specifications.Mode.{Mode}
use Rattle.jc_types.specs.declared.specifications.Mode.TheVariants.{NonIndexed, Indexed}
use Rattle.jc_states.specs.Pods.{is_pending}
use Rattle.jc_types.specs.Equality.{same_bool}
use Rattle.jc_manage.specs.declared.ranks.Rank.{Rank}
use Rattle.jc_manage.specs.declared.ranks.Rank.TheVariants.{Running, Pending}
use Rattle.jc_manage.specs.LetGoes.{is_earlier, is_spare, remaining, goes_before, is_one_of, is_let_go}
use Rattle.jc_manage.specs.Ranks.{has_older, is_spare_by, rank_of, is_below_rank, goes_by}

-- Of two pods the one of the greater rank goes first.
before-is : (mode : Mode) (p q : Pod) → is_below_rank (rank_of mode p) (rank_of mode q) ≡ goes_before mode q p
before-is Indexed p q = refl
before-is NonIndexed p q = by (is_pending p.phase) (is_pending q.phase)
  where
    by : (a b : Bool) → is_below_rank (cond a (Pending p.uid) (Running p.uid)) (cond b (Pending q.uid) (Running q.uid)) ≡ cond (same_bool b a) (nat_lt p.uid.0 q.uid.0) b
    by true true = refl
    by true false = refl
    by false true = refl
    by false false = refl

-- As many images pass as items whose image passes.
count-map : {X Y : Type 0} (f : X → Y) (test : Y → Bool) (xs : List X) → count_by test (map f xs) ≡ count_by (λ x. test (f x)) xs
count-map f test [] = refl
count-map f test (x ∷ xs) =
    omega (arith, sum_by-cons (λ y. cond (test y) 1 0) (f x) (map f xs), sum_by-cons (λ z. cond (test (f z)) 1 0) x xs, count-map f test xs)

-- As many ranks are above the one of p as pods go before it.
count-ranks : (mode : Mode) (p : Pod) (pods : List Pod) → count_by (λ other. is_below_rank (rank_of mode p) other) (map (rank_of mode) pods) ≡ count_by (λ q. goes_before mode q p) pods
count-ranks mode p pods =
    count-map (rank_of mode) (λ other. is_below_rank (rank_of mode p) other) pods ∙ (λ i. count_by (λ q. before-is mode p q i) pods)

module _ (mode : Mode) (needless : ℕ → Bool) (tracked : List Pod) (holder : ℕ → Option Uid) (told : mode ≡ Indexed → (index uid : ℕ) → has_older (holder index) uid ≡ list_any (is_earlier index uid) tracked) where
  -- The oldest holders tell which pods are spare.
  spare-is : (p : Pod) → is_spare_by mode needless holder p ≡ is_spare mode needless tracked p
  spare-is p = by mode refl
    where
      at : mode ≡ Indexed → (index : Option ℕ) → option_map_or (λ n. has_older (holder n) p.uid.0) index false ≡ option_map_or (λ n. list_any (is_earlier n p.uid.0) tracked) index false
      at indexed None = refl
      at indexed (Some n) = told indexed n p.uid.0

      by : (m : Mode) → mode ≡ m → is_spare_by m needless holder p ≡ is_spare m needless tracked p
      by NonIndexed same = refl
      by Indexed same = ap (λ b. option_map_or needless p.index false || b) (at same p.index)

  remaining-is : filter (λ p. not (is_spare_by mode needless holder p)) tracked ≡ remaining mode needless tracked
  remaining-is = filter_agree (λ p. not (is_spare_by mode needless holder p)) (λ p. not (is_spare mode needless tracked p)) (λ p. ap not (spare-is p)) tracked

  module _ (ranks : List Rank) (staying wanted : ℕ) (least : Option Rank) (listed : ranks ≡ map (rank_of mode) (filter (λ p. not (is_spare_by mode needless holder p)) tracked)) (stay : staying ≡ wanted)
      (sorted : (rank : Rank) → nat_lt (count_by (λ other. is_below_rank rank other) ranks) (length ranks - staying) ≡ option_map_or (λ other. not (is_below_rank rank other)) least false) where
    ranked : ranks ≡ map (rank_of mode) (remaining mode needless tracked)
    ranked = listed ∙ ap (map (rank_of mode)) remaining-is

    -- A pod is too many where its rank is not below the least.
    first-is : (p : Pod) → option_map_or (λ other. not (is_below_rank (rank_of mode p) other)) least false ≡ is_one_of (length (remaining mode needless tracked) - wanted) mode (remaining mode needless tracked) p
    first-is p =
        sym (sorted (rank_of mode p))
        ∙ ap (λ rs. nat_lt (count_by (λ other. is_below_rank (rank_of mode p) other) rs) (length rs - staying)) ranked
        ∙ ap (λ n. nat_lt n (length (map (rank_of mode) (remaining mode needless tracked)) - staying)) (count-ranks mode p (remaining mode needless tracked))
        ∙ ap (λ n. nat_lt (count_by (λ q. goes_before mode q p) (remaining mode needless tracked)) (n - staying)) (length-map (remaining mode needless tracked) (rank_of mode))
        ∙ ap (λ n. nat_lt (count_by (λ q. goes_before mode q p) (remaining mode needless tracked)) (length (remaining mode needless tracked) - n)) stay

    pub going-same : filter (goes_by mode needless holder least) tracked ≡ filter (is_let_go mode needless wanted tracked) tracked
    going-same =
        filter_agree (goes_by mode needless holder least) (is_let_go mode needless wanted tracked)
        (λ p. ap (λ b. b || option_map_or (λ other. not (is_below_rank (rank_of mode p) other)) least false) (spare-is p) ∙ ap (λ b. is_spare mode needless tracked p || b) (first-is p)) tracked
