-- The queue of a controller, as its notes tell it.
--     gets note k              the note gets the key
--     adds note older          the keys that the note adds, in their order
--     is_dirty k notes         the key was added since it was last got
--     is_processing k notes    a sync of the key began and has not ended
--     waits k notes            it is dirty and not processing
--     comers note older        the keys that come in by the note
--     comings notes            all keys that came in, the first one first
--     line notes               the keys that wait, in the order in which they came in
use Rattle.std.specs.Prelude.{◌≡◌, Bool, true, false, not, ◌&&◌, ◌||◌, List, [], ◌∷◌, ◌++◌, filter, if◌then◌else◌, Option, Some, None}
use Rattle.std.specs.Option.{option_to_list, unwrap_or}
use Rattle.jc_queue.specs.Queued.{has_key}
use Rattle.jc_types.specs.declared.objects.KeyNames.{KeyNames as Key}
use Rattle.jc_types.specs.Keys.{same_key}
use Rattle.jc_history.specs.Delays.{keys_due}
use Rattle.jc_history.specs.KeyLists.{once, last_of}
use Rattle.jc_history.specs.Notes.{Note, Listed, Told, Began, SentBack, Ended, Ticked, newest}

-- The note gets the key: its sync begins, or a cache is behind and the key is added again at once.
abbrev pub gets : Note → Key → Bool
gets (Began worker basis) k = same_key basis.key k
gets (SentBack first) k = same_key first k
gets note k = false

-- The keys that the note adds, in their order.
abbrev pub adds : Note → List Note → List Key
adds (Listed kind at keys) older = keys
adds (Told kind version key) older = option_to_list key
adds (SentBack first) older = first ∷ []
adds (Ticked now) older = keys_due now older
adds note older = []

-- The key was added since it was last got.
abbrev pub is_dirty : Key → List Note → Bool
is_dirty k [] = false
is_dirty k (note ∷ older) = has_key k (adds note older) || not (gets note k) && is_dirty k older

-- The note begins a sync of the key, or ends one.
abbrev pub begins_or_ends : Key → Note → Option Bool
begins_or_ends k (Began worker basis) = if same_key basis.key k then Some true else None
begins_or_ends k (Ended worker basis end now) = if same_key basis.key k then Some false else None
begins_or_ends k note = None

-- A sync of the key began and has not ended.
abbrev pub is_processing : Key → List Note → Bool
is_processing k notes = unwrap_or (newest (begins_or_ends k) notes) false

-- The key is dirty and not processing.
abbrev pub waits : Key → List Note → Bool
waits k notes = is_dirty k notes && not (is_processing k notes)

-- It is the first add of the key since it was last got, and no sync of it goes on.
abbrev pub comes : Note → List Note → Key → Bool
comes note older k = not (is_processing k older) && (gets note k || not (is_dirty k older))

-- The keys whose sync the note ends.
abbrev pub ends : Note → List Key
ends (Ended worker basis end now) = basis.key ∷ []
ends note = []

-- The keys that come in by the note: at the first add since they were last got, or at the end of their sync.
abbrev pub comers : Note → List Note → List Key
comers note older = once (filter (comes note older) (adds note older)) ++ filter (λ k. is_dirty k older) (ends note)

-- All keys that came in, the first one first.
abbrev pub comings : List Note → List Key
comings [] = []
comings (note ∷ older) = comings older ++ comers note older

-- The keys that wait, in the order in which they came in.
abbrev pub line : List Note → List Key
line notes = filter (λ k. waits k notes) (last_of (comings notes))

-- A note that adds keys, and gets and ends none.
pub record OnlyAdds (note : Note) (older : List Note) (keys : List Key) : Type 0 where
  pub added : adds note older ≡ keys
  pub got : (k : Key) → gets note k ≡ false
  pub neither : (k : Key) → begins_or_ends k note ≡ None
  pub ended : ends note ≡ []
