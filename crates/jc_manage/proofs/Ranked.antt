-- The order of ranks.
use Rattle.std.proofs.Common.{◌≡◌, ℕ, Bool, true, false, cond, not, Less, Equal, Greater, nat_lt, ◌==◌, List, Option, Some, None, refl, subst}
use Rattle.std.specs.List.{count_by}
use Rattle.std.specs.Option.{option_map_or}
use Rattle.std.specs.Ordering.{is_lt, nat_cmp}
use Rattle.jc_manage.specs.contracts.ranks.RankOrd.TheImpl.{ghosts}
use Rattle.jc_manage.specs.declared.ranks.Rank.{Rank}
use Rattle.jc_manage.specs.declared.ranks.Rank.TheVariants.{Index, Running, Pending}
use Rattle.jc_manage.specs.Ranks.{is_below_rank}

-- What is said of a test is said of one that agrees with it.
pub told_alike : (f g : Rank → Rank → Bool) (same : (a b : Rank) → f a b ≡ g a b) (xs : List Rank) (n : ℕ) (o : Option Rank)
    → ((x : Rank) → nat_lt (count_by (λ y. f x y) xs) n ≡ option_map_or (λ least. not (f x least)) o false)
    → (x : Rank) → nat_lt (count_by (λ y. g x y) xs) n ≡ option_map_or (λ least. not (g x least)) o false
told_alike f g same xs n o h =
    subst (λ (t : Rank → Rank → Bool). (x : Rank) → nat_lt (count_by (λ y. t x y) xs) n ≡ option_map_or (λ least. not (t x least)) o false) (λ i a b. same a b i) h

nat-less : (m n : ℕ) → is_lt (nat_cmp m n) ≡ nat_lt m n
nat-less m n = by (nat_lt m n) (m == n)
  where
    by : (b e : Bool) → is_lt (cond b Less (cond e Equal Greater)) ≡ b
    by true e = refl
    by false true = refl
    by false false = refl

-- The derived order of ranks is that in which pods go.
pub less-is : (a b : Rank) → is_lt (ghosts.cmp a b) ≡ is_below_rank a b
less-is (Index None) (Index None) = refl
less-is (Index None) (Index (Some n)) = refl
less-is (Index (Some m)) (Index None) = refl
less-is (Index (Some m)) (Index (Some n)) = nat-less m n
less-is (Index m) (Running v) = refl
less-is (Index m) (Pending v) = refl
less-is (Running u) (Index n) = refl
less-is (Running u) (Running v) = nat-less u.0 v.0
less-is (Running u) (Pending v) = refl
less-is (Pending u) (Index n) = refl
less-is (Pending u) (Running v) = refl
less-is (Pending u) (Pending v) = nat-less u.0 v.0
