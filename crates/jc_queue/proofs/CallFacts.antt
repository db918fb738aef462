-- Calls keep a queue a queue, get no key that is processing, and may be made one by one.
use Rattle.std.proofs.Common.{◌≡◌, ℕ, ◌+◌, ◌<◌, get_or, length, take, Bool, true, false, cond, List, [], ◌∷◌, ◌++◌, Option, None, Some, is_some, slice_get, map, append_assoc, append-nil, refl, sym, ap, ◌∙◌, true≢false}
use Rattle.std.specs.List.{AllByRecursion as Each}
use Rattle.std.specs.Option.{option_to_list, unwrap_or}
use Rattle.std.proofs.lemmas.List.{map-append, take_more}
use Rattle.jc_types.specs.declared.objects.KeyNames.{KeyNames as Key}
use Rattle.jc_types.proofs.ListFacts.{Each-append}
use Rattle.jc_queue.specs.declared.calls.Call.{Call}
use Rattle.jc_queue.specs.declared.calls.Call.TheVariants.{Add, Get, Done, Finish, SendBack, Retract}
use Rattle.jc_queue.specs.QueueCalls.{GetsIdle, after, all_gots, called, finished_first, got_beside, gots_of, keys_got}
use Rattle.jc_queue.specs.Queued.{IsQueue, Queued, finished, has_key}
use Rattle.jc_queue.proofs.BackFacts.{retracted_is, sent_back_is}
use Rattle.jc_queue.proofs.KeyLists.{first_in}
use Rattle.jc_queue.proofs.QueueFacts.{added_is, finished_is, first_is_idle, got_first_is}

-- The first of the processing keys is processing.
pub first_is_busy : (k : Key) (keys : List Key) → Some k ≡ slice_get keys 0 → has_key k keys ≡ true
first_is_busy k [] e = absurd (true≢false (ap is_some e))
first_is_busy k (first ∷ rest) e = ap (λ j. has_key j (first ∷ rest)) (ap (λ o. unwrap_or o k) e) ∙ first_in first rest

-- The first of the processing keys is done.
pub finished_first-some : (q : Queued) (k : Key) (keys : List Key) → Some k ≡ slice_get keys 0 → finished q k ≡ finished_first keys q
finished_first-some q k [] e = absurd (true≢false (ap is_some e))
finished_first-some q k (first ∷ rest) e = ap (λ j. finished q j) (ap (λ o. unwrap_or o k) e)

pub finished_first-none : (q : Queued) (keys : List Key) → None ≡ slice_get keys 0 → q ≡ finished_first keys q
finished_first-none q [] e = refl
finished_first-none q (first ∷ rest) e = absurd (true≢false (ap is_some (sym e)))

-- Each call leaves a queue.
called_is : (q : Queued) (call : Call) → IsQueue q → IsQueue (called q call)
called_is q (Add k) s = added_is q k s
called_is q Get s = got_first_is q s
called_is q Done s = by q.processing refl
  where
    by : (keys : List Key) → q.processing ≡ keys → IsQueue (finished_first keys q)
    by [] e = s
    by (k ∷ rest) e = finished_is q k s (ap (λ keys. has_key k keys) e ∙ first_in k rest)
called_is q (Finish k) s = by (has_key k q.processing) refl
  where
    by : (b : Bool) → has_key k q.processing ≡ b → IsQueue (cond b (finished q k) q)
    by true e = finished_is q k s e
    by false e = s
called_is q SendBack s = sent_back_is q s
called_is q (Retract k) s = retracted_is q k s

-- What a call gets is not processing.
gots_idle : (q : Queued) (call : Call) → IsQueue q → Each (λ got. has_key got.0 got.1 ≡ false) (gots_of q call)
gots_idle q (Add k) s = tt
gots_idle q Get s = by q.line refl
  where
    by : (line : List Key) → q.line ≡ line → Each (λ got. has_key got.0 got.1 ≡ false) (got_beside line q.processing)
    by [] l = tt
    by (k ∷ rest) l = (first_is_idle q s k rest l, tt)
gots_idle q Done s = tt
gots_idle q (Finish k) s = tt
gots_idle q SendBack s = tt
gots_idle q (Retract k) s = tt

-- What calls get is not processing when it is got.
pub all_idle : (q : Queued) (calls : List Call) → IsQueue q → GetsIdle q calls
all_idle q [] s = tt
all_idle q (call ∷ calls) s =
    Each-append (λ (got : Key × List Key). has_key got.0 got.1 ≡ false) (gots_of q call) (all_gots (called q call) calls)
    (gots_idle q call s) (all_idle (called q call) calls (called_is q call s))

-- One call more.
pub after-more : (q : Queued) (calls : List Call) (call : Call) → after q (calls ++ call ∷ []) ≡ called (after q calls) call
after-more q [] call = refl
after-more q (first ∷ calls) call = after-more (called q first) calls call

pub all_gots-more : (q : Queued) (calls : List Call) (call : Call) → all_gots q (calls ++ call ∷ []) ≡ all_gots q calls ++ gots_of (after q calls) call
all_gots-more q [] call = append-nil (gots_of q call)
all_gots-more q (first ∷ calls) call =
    ap (λ gots. gots_of q first ++ gots) (all_gots-more (called q first) calls call)
    ∙ sym (append_assoc (gots_of q first) (all_gots (called q first) calls) (gots_of (after (called q first) calls) call))

-- The first i calls are made, and then the one at i.
pub stepped : (from q next : Queued) (calls : List Call) (i : ℕ) (call : Call) (keys more : List Key) (got : Option Key) → i < length calls → call ≡ get_or calls i call → q ≡ after from (take i calls)
    → keys ≡ keys_got from (take i calls) → next ≡ called q call → option_to_list got ≡ map (λ g. g.0) (gots_of q call) → more ≡ keys ++ option_to_list got → (next ≡ after from (take (i + 1) calls)) ×
    (more ≡ keys_got from (take (i + 1) calls))
stepped from q next calls i call keys more got within at state keys_are made gets pushed =
    let longer : take (i + 1) calls ≡ take i calls ++ call ∷ [] = take_more calls i call within ∙ ap (λ c. take i calls ++ c ∷ []) (sym at) in (
      made ∙ ap (λ q. called q call) state ∙ sym (after-more from (take i calls) call) ∙ sym (ap (λ calls. after from calls) longer),
      pushed ∙ ap (λ got. keys ++ got) gets ∙ (λ j. keys_are j ++ map (λ g. g.0) (gots_of (state j) call))
          ∙ sym (map-append (λ (g : Key × List Key). g.0) (all_gots from (take i calls)) (gots_of (after from (take i calls)) call))
          ∙ sym (ap (λ gots. map (λ g. g.0) gots) (all_gots-more from (take i calls) call))
          ∙ sym (ap (λ calls. keys_got from calls) longer),
    )
