-- What a list of calls makes of a queue, and what it got.
--     called q call          the queue after the call
--     after q calls          the queue after all calls
--     gots_of q call         the key that the call gets, where it gets one, beside the processing keys
--     keys_got_by q call     the key alone
--     all_gots q calls       the same for all calls, in their order
--     GetsIdle q calls       none of these keys was processing then
--     keys_got q calls       the keys alone
--     StopsAfter q calls n   n is the queue after some of the calls, from the first on
use Rattle.std.specs.Prelude.{◌≡◌, ℕ, false, List, [], ◌∷◌, ◌++◌, map, take, if◌then◌else◌}
use Rattle.std.specs.List.{AllByRecursion as Each}
use Rattle.jc_types.specs.declared.objects.KeyNames.{KeyNames as Key}
use Rattle.jc_queue.specs.declared.calls.Call.{Call}
use Rattle.jc_queue.specs.declared.calls.Call.TheVariants.{Add, Get, Done, Finish, SendBack, Retract}
use Rattle.jc_queue.specs.Queued.{Queued, added, finished, got, has_key, retracted, sent_back}

-- The first of these keys is done, where there is one.
abbrev pub finished_first : List Key → Queued → Queued
finished_first [] q = q
finished_first (k ∷ rest) q = finished q k

-- The key that has been processing for longest is done, where there is one.
abbrev pub finished_oldest : Queued → Queued
finished_oldest q = finished_first q.processing q

-- The key is done, where it is processing.
abbrev pub finished_if_processing : Queued → Key → Queued
finished_if_processing q k = if has_key k q.processing then finished q k else q

-- The queue after the call.
abbrev pub called : Queued → Call → Queued
called q (Add k) = added q k
called q Get = got q
called q Done = finished_oldest q
called q (Finish k) = finished_if_processing q k
called q SendBack = sent_back q
called q (Retract k) = retracted q k

-- The queue after all calls.
abbrev pub after : Queued → List Call → Queued
after q [] = q
after q (call ∷ calls) = after (called q call) calls

-- The first key of the line, beside the keys that are processing.
abbrev pub got_beside : List Key → List Key → List (Key × List Key)
got_beside [] processing = []
got_beside (k ∷ rest) processing = (k, processing) ∷ []

-- The key that the call gets, where it gets one, beside the keys that were processing then.
abbrev pub gots_of : Queued → Call → List (Key × List Key)
gots_of q (Add k) = []
gots_of q Get = got_beside q.line q.processing
gots_of q Done = []
gots_of q (Finish k) = []
gots_of q SendBack = []
gots_of q (Retract k) = []

-- The key alone.
abbrev pub keys_got_by : Queued → Call → List Key
keys_got_by q call = map (λ got. got.0) (gots_of q call)

-- The keys that the calls get, in their order, each beside the keys that were processing then.
abbrev pub all_gots : Queued → List Call → List (Key × List Key)
all_gots q [] = []
all_gots q (call ∷ calls) = gots_of q call ++ all_gots (called q call) calls

-- None of the keys that the calls get is processing when it is got.
abbrev pub GetsIdle : Queued → List Call → Type 0
GetsIdle q calls = Each (λ got. has_key got.0 got.1 ≡ false) (all_gots q calls)

-- The keys that the calls get, in their order.
abbrev pub keys_got : Queued → List Call → List Key
keys_got q calls = map (λ got. got.0) (all_gots q calls)

-- The new queue is the old one after some of the calls, from the first on.
abbrev pub StopsAfter : Queued → List Call → Queued → Type 0
StopsAfter old calls new = (n : ℕ) × (new ≡ after old (take n calls))
