-- A work queue as a line, a set of dirty keys and the keys that are processing, and what each call leaves of
-- it. A set of keys is seen as its keys in ascending order, so that two sets with the same keys are equal.
--     Queued             the line, the set of the dirty keys and the keys that are processing
--     queue_of line dirty processing   the queue of these keys
--     RoomedQueue        a queue beside its room
--     has_key k keys     one of the keys is k
--     without k keys     the keys without k
--     key_order a b      the order of keys: by namespace and then by name
--     plus_key k keys    the set of keys with k
--     key_set keys       the set of the keys of a list
--     added q k          a key that is not dirty becomes dirty and, where it is not processing, goes last
--     got q              the first key of the line is processing, and dirty no more
--     finished q k       the key is processing no more; where it is dirty it goes last
--     sent_back q        the first key of the line goes last
--     retracted q k      the key is in line and dirty no more
--     IsQueue q          no key stands twice, and just the dirty keys that are not processing are in line
use Rattle.std.specs.BTreeSet.{insert_key}
use Rattle.std.specs.Cmp.Lexicographic.{slice_cmp}
use Rattle.std.specs.Prelude.{◌≡◌, ℕ, Bool, not, ◌&&◌, List, [], ◌∷◌, ◌++◌, if◌then◌else◌}
use Rattle.std.specs.List.{IsDistinct}
use Rattle.std.specs.List.Sorted.{IsStrictlySortedBy}
use Rattle.std.specs.Ordering.{nat_cmp, ordering_then}
use Rattle.std.specs.declared.cmp.Ordering.{Ordering}
use Rattle.std.specs.Set.{is_member, remove_key}
use Rattle.jc_types.specs.declared.objects.KeyNames.{KeyNames as Key}
use Rattle.jc_types.specs.Keys.{same_key}

-- The keys that wait in line, the set of those that were added since they were last got, and those that were
-- got and are not done.
pub record Queued : Type 0 where
  pub line : List Key
  pub dirty : List Key
  pub processing : List Key

-- The queue of these keys.
abbrev pub queue_of : List Key → List Key → List Key → Queued
queue_of line dirty processing = record { line = line; dirty = dirty; processing = processing }

-- A queue beside its room: so many more keys it takes with no memory.
pub record RoomedQueue : Type 0 where
  pub queue : Queued
  pub room : ℕ

-- One of the keys is k.
abbrev pub has_key : Key → List Key → Bool
has_key k keys = is_member same_key keys k

-- The keys without k.
abbrev pub without : Key → List Key → List Key
without k keys = remove_key (same_key k) keys

-- The order of keys: by namespace and then by name, byte by byte.
abbrev pub key_order : Key → Key → Ordering
key_order a b = ordering_then (slice_cmp nat_cmp a.namespace b.namespace) (slice_cmp nat_cmp a.name b.name)

-- The set of keys with k.
abbrev pub plus_key : Key → List Key → List Key
plus_key k keys = insert_key key_order keys k

-- The set of the keys of the list.
abbrev pub key_set : List Key → List Key
key_set [] = []
key_set (k ∷ keys) = plus_key k (key_set keys)

-- A key that is dirty changes nothing. Another becomes dirty and, where it is not processing, goes to the
-- line's end.
abbrev pub added : Queued → Key → Queued
added q k =
    if has_key k q.dirty then q
    else record {
      line = if has_key k q.processing then q.line else q.line ++ k ∷ [];
      dirty = plus_key k q.dirty;
      processing = q.processing;
    }

-- The first key of this line leaves it, is dirty no more, and is processing.
abbrev pub got_first : List Key → Queued → Queued
got_first [] q = q
got_first (k ∷ rest) q = record { line = rest; dirty = without k q.dirty; processing = q.processing ++ k ∷ [] }

-- The first key of the line is processing, and dirty no more. An empty line changes nothing.
abbrev pub got : Queued → Queued
got q = got_first q.line q

-- The key is processing no more; where it is dirty it goes to the line's end.
abbrev pub finished : Queued → Key → Queued
finished q k =
    record {
      line = if has_key k q.dirty then q.line ++ k ∷ [] else q.line;
      dirty = q.dirty;
      processing = without k q.processing;
    }

-- The first key of this line goes to the line's end.
abbrev pub sent_back_first : List Key → Queued → Queued
sent_back_first [] q = q
sent_back_first (k ∷ rest) q = record { line = rest ++ k ∷ []; dirty = q.dirty; processing = q.processing }

-- The first key of the line goes to the line's end; it stays dirty. An empty line changes nothing.
abbrev pub sent_back : Queued → Queued
sent_back q = sent_back_first q.line q

-- The key is in line and dirty no more.
abbrev pub retracted : Queued → Key → Queued
retracted q k = record { line = without k q.line; dirty = without k q.dirty; processing = q.processing }

-- No key stands twice, the dirty keys ascend as those of a set, and a key is in line just where it is dirty
-- and not processing.
pub record IsQueue (q : Queued) : Type 0 where
  pub line_once : IsDistinct same_key q.line
  pub dirty_ascends : IsStrictlySortedBy key_order q.dirty
  pub processing_once : IsDistinct same_key q.processing
  pub waiting : (k : Key) → has_key k q.line ≡ (has_key k q.dirty && not (has_key k q.processing))
