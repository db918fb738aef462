-- Values that their compact text tells: each number is a whole one of 64 bits, and the members of each object stand in
-- ascending order of their names.
--     IsAfter name ms     each of the members has a later name
--     IsTold d            the text of the value reads as the value
use Rattle.std.specs.Prelude.{◌≡◌, ℕ, ◌<◌, ◌^◌, pos, negsuc, List}
use Rattle.std.specs.Ordering.{nat_cmp}
use Rattle.std.specs.declared.cmp.Ordering.TheVariants.{Less}
use Rattle.std.specs.Cmp.Lexicographic.{slice_cmp}
use Rattle.serde_json.specs.Data.{Num, unsigned, negative, float, Data, null, boolean, number, string, array, object, Items, no_items, item, Members, no_members, member}

-- each of the members has a later name
abbrev pub IsAfter : List ℕ → Members → Type 0
IsAfter k no_members = Unit {0}
IsAfter k (member l d ms) = (slice_cmp nat_cmp k l ≡ Less) × IsAfter k ms

-- a whole number of 64 bits, with a sign only below 0
abbrev pub IsWholeNumber : Num → Type 0
IsWholeNumber (unsigned n) = n < 2 ^ 64
IsWholeNumber (negative (pos n)) = ⊥
IsWholeNumber (negative (negsuc n)) = n < 2 ^ 63
IsWholeNumber (float x) = ⊥

abbrev mutual
  pub IsTold : Data → Type 0
  IsTold null = Unit {0}
  IsTold (boolean b) = Unit {0}
  IsTold (number n) = IsWholeNumber n
  IsTold (string s) = Unit {0}
  IsTold (array ds) = AreTold ds
  IsTold (object ms) = HasTold ms

  pub AreTold : Items → Type 0
  AreTold no_items = Unit {0}
  AreTold (item d ds) = IsTold d × AreTold ds

  pub HasTold : Members → Type 0
  HasTold no_members = Unit {0}
  HasTold (member k d ms) = IsTold d × IsAfter k ms × HasTold ms
