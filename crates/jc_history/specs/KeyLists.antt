-- Lists of keys with each key once.
--     once keys       each key once, at its first place
--     last_of keys    each key once, at its last place
use Rattle.std.specs.Prelude.{not, List, [], ◌∷◌, filter, if◌then◌else◌}
use Rattle.jc_types.specs.declared.objects.KeyNames.{KeyNames as Key}
use Rattle.jc_types.specs.Keys.{same_key}
use Rattle.jc_queue.specs.Queued.{has_key}

-- Each key once, at its first place.
abbrev pub once : List Key → List Key
once [] = []
once (k ∷ keys) = k ∷ filter (λ j. not (same_key k j)) (once keys)

-- Each key once, at its last place.
abbrev pub last_of : List Key → List Key
last_of [] = []
last_of (k ∷ keys) = if has_key k keys then last_of keys else k ∷ last_of keys
