-- What is kept under UIDs: of those below a bound in a list, under their numbers, and of others in a map.
--     places_at same lists k   the list of the key; none where it has no list
--     Adds same old new to n   the place comes to the lists of these keys, and to no other
--     places_under lists u          the list of the UID
--     owner_in owners u        the owner of the pod of the UID, if it has one
--     AreEmpty lists           each of the lists is empty
--     AddsTo old new to place  the place comes to the lists of these UIDs, and to no other
--     Sets old new pod owner   the pod has this owner, and every other pod the one that it had
use Rattle.std.specs.Prelude.{◌≡◌, ℕ, Bool, List, [], ◌∷◌, ◌++◌, Option, Vec, if◌then◌else◌, slice_get}
use Rattle.std.specs.Option.{option_map_or}
use Rattle.std.specs.declared.alloc.Global.{Global}
use Rattle.jc_types.specs.declared.numbers.Uid.{Uid}
use Rattle.jc_types.specs.Keys.{same_uid}
use Rattle.jc_log.specs.Tables.{at}
use Rattle.jc_verdicts.specs.declared.by_uid.Lists.{Lists}
use Rattle.jc_verdicts.specs.declared.by_uid.Owners.{Owners}

module _ {K : Type 0} (same : K → K → Bool) where
  -- The list of the key.
  abbrev pub places_at : List (K × Vec ℕ Global) → K → List ℕ
  places_at lists k =
      option_map_or (λ (places : Vec ℕ Global). places.items) (at same lists k) []

  -- The place comes to the lists of these keys, and to no other.
  abbrev pub Adds : List (K × Vec ℕ Global) → List (K × Vec ℕ Global) → (K → Bool) → ℕ → Type 0
  Adds old new to place =
      (k : K)
      → places_at new k ≡ (if to k then places_at old k ++ place ∷ [] else places_at old k)

-- The list of the UID.
abbrev pub places_under : Lists → Uid → List ℕ
places_under lists u =
    option_map_or (λ (list : Vec ℕ Global). list.items) (slice_get lists.near.items u.0)
    (places_at same_uid lists.far.entries u)

-- The owner of the pod of the UID, if it has one.
abbrev pub owner_in : Owners → Uid → Option Uid
owner_in owners u =
    option_map_or (λ (owner : Option Uid). owner) (slice_get owners.near.items u.0)
    (at same_uid owners.far.entries u)

-- Each of the lists is empty.
abbrev pub AreEmpty : List (Vec ℕ Global) → Type 0
AreEmpty lists = (i : ℕ)
    → option_map_or (λ (list : Vec ℕ Global). list.items) (slice_get lists i) [] ≡ []

-- The place comes to the lists of these UIDs, and to no other.
abbrev pub AddsTo : Lists → Lists → (Uid → Bool) → ℕ → Type 0
AddsTo old new to place = (u : Uid)
    → places_under new u ≡ (if to u then places_under old u ++ place ∷ [] else places_under old u)

-- The pod has this owner, and every other pod the one that it had.
abbrev pub Sets : Owners → Owners → Uid → Option Uid → Type 0
Sets old new pod owner = (u : Uid)
    → owner_in new u ≡ (if same_uid pod u then owner else owner_in old u)
