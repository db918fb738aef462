-- What the turns of a controller make of its queue is what one more note says.
use Rattle.std.proofs.Common.{◌≡◌, ℕ, true, false, cond, not, ◌&&◌, ◌||◌, List, [], ◌∷◌, ◌++◌, filter, sym, ap, ◌∙◌, subst}
use Rattle.std.specs.List.{IsDistinct}
use Rattle.std.proofs.lemmas.List.Elements.{filter_agree}
use Rattle.jc_control.proofs.TurnFacts.{all_added-processing}
use Rattle.jc_control.specs.declared.ends.SyncEnd.{SyncEnd}
use Rattle.jc_control.specs.Schedules.{Schedule}
use Rattle.jc_control.specs.ControllerCalls.{all_added}
use Rattle.jc_queue.proofs.KeyLists.{is_in-last, is_in-without}
use Rattle.jc_queue.proofs.KeySets.{ascends-once}
use Rattle.jc_queue.proofs.QueueFacts.{first_is_dirty, first_is_idle}
use Rattle.jc_queue.specs.Queued.{IsQueue, Queued, finished, got, got_first, has_key, sent_back, sent_back_first, without}
use Rattle.jc_states.specs.declared.bases.Basis.{Basis}
use Rattle.jc_types.specs.declared.objects.KeyNames.{KeyNames as Key}
use Rattle.jc_types.specs.Keys.{same_key}
use Rattle.jc_types.proofs.KeyFacts.{same_key-itself, same_key-either_way}
use Rattle.jc_types.proofs.ListFacts.{Each-weaker, filter_same}
use Rattle.jc_history.specs.Agrees.{IsQueued}
use Rattle.jc_history.specs.KeyLists.{once}
use Rattle.jc_history.specs.Lines.{OnlyAdds, is_dirty, is_processing, line}
use Rattle.jc_history.specs.Notes.{Note, Began, SentBack, Ended}
use Rattle.jc_history.proofs.AddFacts.{all_added-dirty, all_added-line, is_fresh}
use Rattle.jc_history.proofs.KeyFacts.{filter-all}
use Rattle.jc_history.proofs.LineFacts.{dirty-added, dirty-sent, fresh, line-added, line-began, line-ended, line-sent, processing-added, processing-began, processing-ended}
use Rattle.jc_queue.proofs.BackFacts.{swapped as or-swapped}

-- ---- keys are added

-- Keys that are added one after the other: lists, deliveries and the clock.
pub queued-added : (note : Note) (older : List Note) (keys : List Key) (schedule new : Schedule) → OnlyAdds note older keys → IsQueued older schedule → new.queue ≡ all_added schedule.queue keys → IsQueued (note ∷ older) new
queued-added note older keys schedule new a q e = record {
  line_is = ap (λ (queue : Queued). queue.line) e ∙ all_added-line schedule.queue keys
      ∙ (λ i. q.line_is i ++ once (filter_agree (is_fresh schedule.queue) (fresh older) same keys i))
      ∙ sym (line-added note older keys a);
  dirty_is = λ k. ap (λ (queue : Queued). has_key k queue.dirty) e ∙ all_added-dirty k schedule.queue keys
      ∙ ap (λ b. has_key k keys || b) (q.dirty_is k) ∙ sym (dirty-added note older keys a k);
  processing_is = λ k. ap (λ (queue : Queued). has_key k queue.processing) e ∙ ap (has_key k) (all_added-processing schedule.queue keys)
      ∙ q.processing_is k ∙ sym (processing-added note older keys a k);
}
  where
    same : (k : Key) → is_fresh schedule.queue k ≡ fresh older k
    same k = λ i. not (q.processing_is k i) && not (q.dirty_is k i)

-- ---- the begin of a sync

-- Without its first key.
without-first : (k : Key) (rest : List Key) → IsDistinct same_key (k ∷ rest) → filter (λ j. not (same_key k j)) (k ∷ rest) ≡ rest
unfolding IsDistinct
without-first k rest d =
    ap (λ m. cond (not m) (k ∷ filter (λ j. not (same_key k j)) rest) (filter (λ j. not (same_key k j)) rest)) (same_key-itself k)
    ∙ filter_same (λ j. not (same_key k j)) (λ j. true) rest (Each-weaker (λ j. same_key k j ≡ false) (λ j. not (same_key k j) ≡ true) (λ j h. ap not h) rest d.0)
    ∙ filter-all rest

module _ (older : List Note) (schedule new : Schedule) (k : Key) (rest : List Key) (queue : IsQueue schedule.queue) (q : IsQueued older schedule) (first : line older ≡ k ∷ rest) where
  line-first : schedule.queue.line ≡ k ∷ rest
  line-first = q.line_is ∙ first

  once-first : IsDistinct same_key (k ∷ rest)
  once-first = subst (IsDistinct same_key) line-first queue.line_once

  shorter : filter (λ j. not (same_key k j)) (line older) ≡ rest
  shorter = ap (filter (λ j. not (same_key k j))) first ∙ without-first k rest once-first

  pub queued-began : (worker : ℕ) (basis : Basis) → basis.key ≡ k → new.queue ≡ got schedule.queue → IsQueued (Began worker basis ∷ older) new
  queued-began worker basis same e = record {
    line_is = ap (λ (queue : Queued). queue.line) after ∙ sym shorter ∙ ap (λ z. filter (λ j. not (same_key z j)) (line older)) (sym same) ∙ sym (line-began worker basis older);
    dirty_is = λ j. ap (λ (queue : Queued). has_key j queue.dirty) after ∙ is_in-without j k schedule.queue.dirty (ascends-once schedule.queue.dirty queue.dirty_ascends)
        ∙ (λ i. not (same_key (same-back i) j) && q.dirty_is j i);
    processing_is = λ j. ap (λ (queue : Queued). has_key j queue.processing) after ∙ is_in-last j k schedule.queue.processing
        ∙ or-swapped (has_key j schedule.queue.processing) (same_key j k) ∙ (λ i. (same_key-either_way j k ∙ ap (λ z. same_key z j) (sym same)) i || q.processing_is j i)
        ∙ sym (processing-began worker basis older j);
  }
    where
      same-back : k ≡ basis.key
      same-back = sym same

      after : new.queue ≡ record { line = rest; dirty = without k schedule.queue.dirty; processing = schedule.queue.processing ++ k ∷ [] }
      after = e ∙ ap (λ line. got_first line schedule.queue) line-first

  -- The first key is dirty and not processing.
  first-dirty : is_dirty k older ≡ true
  first-dirty = sym (q.dirty_is k) ∙ first_is_dirty schedule.queue queue k rest line-first

  first-idle : is_processing k older ≡ false
  first-idle = sym (q.processing_is k) ∙ first_is_idle schedule.queue queue k rest line-first

  pub queued-sent : new.queue ≡ sent_back schedule.queue → IsQueued (SentBack k ∷ older) new
  queued-sent e = record {
    line_is = ap (λ (queue : Queued). queue.line) after ∙ ap (λ some. some ++ k ∷ []) (sym shorter) ∙ sym (line-sent k older first-idle);
    dirty_is = λ j. ap (λ (queue : Queued). has_key j queue.dirty) after ∙ q.dirty_is j ∙ sym (dirty-sent k older j first-dirty);
    processing_is = λ j. ap (λ (queue : Queued). has_key j queue.processing) after ∙ q.processing_is j;
  }
    where
      after : new.queue ≡ record { line = rest ++ k ∷ []; dirty = schedule.queue.dirty; processing = schedule.queue.processing }
      after = e ∙ ap (λ line. sent_back_first line schedule.queue) line-first

-- ---- the end of a sync

pub queued-ended : (older : List Note) (schedule new : Schedule) (worker : ℕ) (basis : Basis) (end : SyncEnd) (now : ℕ)
    → IsQueue schedule.queue → IsQueued older schedule → has_key basis.key schedule.queue.processing ≡ true → new.queue
    ≡ finished schedule.queue basis.key
    → IsQueued (Ended worker basis end now ∷ older) new
queued-ended older schedule new worker basis end now queue q busy e = record {
  line_is = ap (λ (queue : Queued). queue.line) e ∙ (λ i. cond (q.dirty_is basis.key i) (q.line_is i ++ basis.key ∷ []) (q.line_is i))
      ∙ sym (line-ended worker basis end now older (sym (q.processing_is basis.key) ∙ busy));
  dirty_is = λ k. ap (λ (queue : Queued). has_key k queue.dirty) e ∙ q.dirty_is k;
  processing_is = λ k. ap (λ (queue : Queued). has_key k queue.processing) e ∙ is_in-without k basis.key schedule.queue.processing queue.processing_once
      ∙ ap (λ b. not (same_key basis.key k) && b) (q.processing_is k) ∙ sym (processing-ended worker basis end now older k);
}
