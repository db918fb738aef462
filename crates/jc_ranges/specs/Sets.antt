-- Sets of whole numbers below 100,000, as their members in increasing order.
use Rattle.std.specs.Prelude.{◌≡◌, ℕ, ◌<◌, ◌≤◌, Bool, true, false, List, [], ◌∷◌, ◌++◌, ◌==◌, nat_lt, count_by}
use Rattle.std.specs.List.{AllByRecursion, filter, list_any}
use Rattle.jc_ranges.specs.declared.bounds.TheConstants.{GREATEST_INDEX}

-- The numbers increase: each is below all that follow it.
abbrev pub IsIncreasing : List ℕ → Type 0
IsIncreasing [] = Unit {0}
IsIncreasing (x ∷ xs) = AllByRecursion (λ y. x < y) xs × IsIncreasing xs

-- The members of a set, in increasing order.
pub record IsSet (xs : List ℕ) : Type 0 where
  pub increasing : IsIncreasing xs
  pub small : AllByRecursion (λ x. x ≤ GREATEST_INDEX) xs

-- Whether n is a member.
abbrev pub has : ℕ → List ℕ → Bool
has n xs = list_any (λ x. x == n) xs

-- The set with n: the members below n, then n, then the members above it.
abbrev pub with_member : ℕ → List ℕ → List ℕ
with_member n xs = filter (λ x. nat_lt x n) xs ++ n ∷ filter (λ x. nat_lt n x) xs

-- How many members are below n.
abbrev pub count_below : ℕ → List ℕ → ℕ
count_below n xs = count_by (λ x. nat_lt x n) xs

-- n is the least number from `from` on that is not a member.
pub record IsFirstMissing (xs : List ℕ) (from n : ℕ) : Type 0 where
  pub above : from ≤ n
  pub missing : has n xs ≡ false
  pub least : (k : ℕ) → from ≤ k → k < n → has k xs ≡ true
