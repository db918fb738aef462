-- Which keys stay in a queue, and which come into it.
use Rattle.std.proofs.Common.{◌≡◌, ◌⊎◌, inl, inr, ℕ, ◌+◌, ◌<◌, ◌≤◌, ◌==◌, nat_lt, Bool, true, false, cond, not, ◌&&◌, List, [], ◌∷◌, ◌++◌, length, Option, Some, None, option_and_then}
use Rattle.std.proofs.Common.{refl, sym, ap, ◌∙◌, subst, arith, true≢false, ltb-true, ltb-false, leb-true, leb-false, nat_le, append_assoc}
use Rattle.std.specs.List.{AllByRecursion as Each}
use Rattle.std.specs.Option.{option_map, option_to_list}
use Rattle.std.proofs.lemmas.Bool.{or_left, or_right}
use Rattle.jc_types.proofs.KeyFacts.{same_key-itself}
use Rattle.jc_types.proofs.ListFacts.{Each-append}
use Rattle.jc_types.specs.declared.objects.KeyNames.{KeyNames as Key}
use Rattle.jc_types.specs.Keys.{same_key}
use Rattle.jc_types.specs.declared.numbers.Version.{Version}
use Rattle.jc_types.specs.declared.objects.Entry.{Entry}
use Rattle.jc_types.specs.declared.objects.Kind.{Kind}
use Rattle.jc_types.specs.declared.objects.Kind.TheVariants.{Jobs, Pods}
use Rattle.jc_types.specs.declared.objects.Pod.{Pod}
use Rattle.jc_types.specs.declared.replies.Answer.{Answer}
use Rattle.jc_types.specs.declared.replies.Reply.{Reply}
use Rattle.jc_types.specs.declared.replies.Reply.TheVariants as reply
use Rattle.jc_types.specs.declared.replies.Request.{Request}
use Rattle.jc_types.specs.declared.runs.Shape.{Shape}
use Rattle.jc_states.specs.declared.bases.Basis.{Basis}
use Rattle.jc_states.specs.PodLists.{put_pod}
use Rattle.jc_control.specs.ControllerCalls.{pod_owners, told}
use Rattle.jc_control.specs.Schedules.{log_end}
use Rattle.jc_control.specs.declared.ends.SyncEnd.{SyncEnd}
use Rattle.jc_control.specs.Queued.{has_key}
use Rattle.jc_log.specs.Acts as does
use Rattle.jc_log.specs.Acts.{Act}
use Rattle.jc_log.specs.Deeds.{Deed}
use Rattle.jc_log.specs.Log.{entry_at}
use Rattle.jc_log.proofs.LogFacts.{upto-all}
use Rattle.jc_history.specs.Diaries.{end_by, listed_keys, moment, notes_taken, on_answer, on_delivery, on_list, on_step, restarts}
use Rattle.jc_history.specs.Legal.{IsLegal}
use Rattle.jc_history.specs.Lines.{adds, gets, is_dirty, line}
use Rattle.jc_history.specs.Notes.{Note, Asked, Began, Ended, Expired, Faulted, Listed, SentBack, Ticked, Told}
use Rattle.jc_history.specs.Numbers.{number}
use Rattle.jc_history.specs.Registers.{asks_status, register}
use Rattle.jc_history.specs.Replies.{diary, log_given}
use Rattle.jc_history.proofs.LegalFacts.{legal-fit, notes-next}
use Rattle.jc_order.specs.Restless.{StoodBefore}
use Rattle.jc_order.proofs.ForgetFacts.{never-begins, notes-none}
use Rattle.jc_order.proofs.HonestFacts.{AreTrue, IsTrue, all-true}
use Rattle.jc_order.proofs.RestlessFacts.{none-dirty}
use Rattle.jc_settle.specs.Settles.{IsCalm, is_on_the_way, is_telling}

-- ---- notes that get no key

module _ (k : Key) where
  abbrev pub GetsNone : Note → Type 0
  GetsNone note = gets note k ≡ false

  stays : (note : Note) (older : List Note) → gets note k ≡ false → is_dirty k older ≡ true → is_dirty k (note ∷ older) ≡ true
  stays note older none dirty = or_right (has_key k (adds note older)) (not (gets note k) && is_dirty k older) ((λ i. not (none i) && is_dirty k older) ∙ dirty)

  pub all-stay : (new older : List Note) → Each GetsNone new → is_dirty k older ≡ true → is_dirty k (new ++ older) ≡ true
  all-stay [] older none dirty = dirty
  all-stay (note ∷ new) older none dirty = stays note (new ++ older) none.0 (all-stay new older none.1 dirty)

  if-none : (b : Bool) (new : List Note) → Each GetsNone new → Each GetsNone (cond b new [])
  if-none true new h = h
  if-none false new h = tt

  -- Lists, deliveries and steps get none.
  list-none : (kind : Kind) (log : List Entry) (r : Reply) → Each GetsNone (on_list kind log r)
  list-none kind log (reply.Listed at) = (refl, tt)
  list-none kind log other = tt

  delivery-none : (kind : Kind) (log : List Entry) (r : Reply) → Each GetsNone (on_delivery kind log r)
  delivery-none kind log (reply.Delivered version) = (refl, tt)
  delivery-none kind log (reply.Expired floor) = (refl, tt)
  delivery-none kind log other = tt

  answer-none : (w : ℕ) (basis : Basis) (now : ℕ) (asked : Request) (given : Answer) → Each GetsNone (on_answer w basis now asked given)
  answer-none w basis now asked given = by (end_by (asks_status asked) given)
    where
      by : (o : Option SyncEnd) → Each GetsNone (option_to_list (option_map (λ end. Ended w basis end now) o) ++ Asked w basis asked given ∷ [])
      by None = (refl, tt)
      by (Some end) = (refl, (refl, tt))

  step-none : (w now : ℕ) (o : Option Basis) (r : Reply) → Each GetsNone (on_step w now o r)
  step-none w now (Some basis) (reply.Stepped asked given) = answer-none w basis now asked given
  step-none w now (Some basis) reply.Ended = (refl, tt)
  step-none w now (Some basis) other = tt
  step-none w now None other = tt

  taken-none : (c : ℕ) (act : Act) (r : Reply) (now : ℕ) (log : List Entry) (older : List Note) → is_on_the_way act ≡ true → Each GetsNone (notes_taken c act r now log older)
  taken-none c (does.List e kind) r now log older h = if-none (e == c) (on_list kind log r) (list-none kind log r)
  taken-none c (does.Deliver e kind) r now log older h = if-none (e == c) (on_delivery kind log r) (delivery-none kind log r)
  taken-none c (does.Step e w) r now log older h = if-none (e == c) (on_step w now (register w older) r) (step-none w now (register w older) r)
  taken-none c other r now log older h = absurd (true≢false (sym h))

  none-restarts : (c : ℕ) (act : Act) → is_on_the_way act ≡ true → restarts c act ≡ false
  none-restarts c (does.List e kind) h = refl
  none-restarts c (does.Deliver e kind) h = refl
  none-restarts c (does.Step e w) h = refl
  none-restarts c other h = absurd (true≢false (sym h))

  way-stays : (shape : Shape) (c : ℕ) (past : List Deed) (d : Deed) → IsLegal shape past → is_on_the_way d.act ≡ true → is_dirty k (diary shape c past) ≡ true → is_dirty k (diary shape c (d ∷ past)) ≡ true
  way-stays shape c past d legal way dirty =
      ap (is_dirty k)
      (notes-next shape c past d legal
      ∙ ap (λ b. cond b [] (notes_taken c d.act d.reply (moment shape past) (log_given shape (d ∷ past)) (diary shape c past) ++ diary shape c past)) (none-restarts c d.act way))
      ∙ all-stay (notes_taken c d.act d.reply (moment shape past) (log_given shape (d ∷ past)) (diary shape c past)) (diary shape c past)
      (taken-none c d.act d.reply (moment shape past) (log_given shape (d ∷ past)) (diary shape c past) way) dirty

  -- A key that is in a queue stays there.
  pub run-stays : (shape : Shape) (c : ℕ) (run past : List Deed) → IsLegal shape (run ++ past) → Each (λ (d : Deed). is_on_the_way d.act ≡ true) run → is_dirty k (diary shape c past) ≡ true → is_dirty k (diary shape c (run ++ past)) ≡ true
  run-stays shape c [] past legal way dirty = dirty
  run-stays shape c (d ∷ run) past legal way dirty = way-stays shape c (run ++ past) d legal.1 way.0 (run-stays shape c run past legal.1 way.1 dirty)

-- ---- the notes of lists and deliveries

abbrev IsTelling : Note → Type 0
IsTelling (Listed kind at keys) = Unit {0}
IsTelling (Told kind version key) = Unit {0}
IsTelling (Expired kind) = Unit {0}
IsTelling other = ⊥

if-telling : (b : Bool) (new : List Note) → Each IsTelling new → Each IsTelling (cond b new [])
if-telling true new h = h
if-telling false new h = tt

taken-telling : (c : ℕ) (act : Act) (r : Reply) (now : ℕ) (log : List Entry) (older : List Note) → is_telling act ≡ true → Each IsTelling (notes_taken c act r now log older)
taken-telling c (does.List e kind) r now log older h = if-telling (e == c) (on_list kind log r) (by r)
  where
    by : (r : Reply) → Each IsTelling (on_list kind log r)
    by (reply.Listed at) = (tt, tt)
    by other = tt
taken-telling c (does.Deliver e kind) r now log older h = if-telling (e == c) (on_delivery kind log r) (by r)
  where
    by : (r : Reply) → Each IsTelling (on_delivery kind log r)
    by (reply.Delivered version) = (tt, tt)
    by (reply.Expired floor) = (tt, tt)
    by other = tt
taken-telling c other r now log older h = absurd (true≢false (sym h))

telling-restarts : (c : ℕ) (act : Act) → is_telling act ≡ true → restarts c act ≡ false
telling-restarts c (does.List e kind) h = refl
telling-restarts c (does.Deliver e kind) h = refl
telling-restarts c other h = absurd (true≢false (sym h))

-- What a run of these adds to the notes of a controller.
record AddsTelling (shape : Shape) (c : ℕ) (run past : List Deed) : Type 0 where
  new : List Note
  are : diary shape c (run ++ past) ≡ new ++ diary shape c past
  telling : Each IsTelling new

abbrev taken_by : Shape → ℕ → Deed → List Deed → List Note
taken_by shape c d past = notes_taken c d.act d.reply (moment shape past) (log_given shape (d ∷ past)) (diary shape c past)

run-telling : (shape : Shape) (c : ℕ) (run past : List Deed) → IsLegal shape (run ++ past) → Each (λ (d : Deed). is_telling d.act ≡ true) run → AddsTelling shape c run past
run-telling shape c [] past legal h = record { new = []; are = refl; telling = tt }
run-telling shape c (d ∷ run) past legal h = by (run-telling shape c run past legal.1 h.1)
  where
    by : AddsTelling shape c run past → AddsTelling shape c (d ∷ run) past
    by m = record {
      new = taken_by shape c d (run ++ past) ++ m.new;
      are =
          notes-next shape c (run ++ past) d legal.1
          ∙ ap (λ b. cond b [] (taken_by shape c d (run ++ past) ++ diary shape c (run ++ past))) (telling-restarts c d.act h.0)
          ∙ ap (λ l. taken_by shape c d (run ++ past) ++ l) m.are
          ∙ sym (append_assoc (taken_by shape c d (run ++ past)) m.new (diary shape c past));
      telling = Each-append IsTelling (taken_by shape c d (run ++ past)) m.new (taken-telling c d.act d.reply (moment shape (run ++ past)) (log_given shape (d ∷ run ++ past)) (diary shape c (run ++ past)) h.0) m.telling;
    }

-- ---- a cache that is told of a pod

abbrev pub IsAtMost : ℕ → Option Version → Type 0
IsAtMost n None = Unit {0}
IsAtMost n (Some version) = version.0 ≤ n

-- The log lists the key among the owners of its pods, and its last entry tells of it.
module _ (k : Key) (log : List Entry) (n : ℕ) (long : length log ≡ n + 1) (lists : has_key k (listed_keys Pods log) ≡ true) (tells : option_and_then (told Pods) (entry_at (n + 1) log) ≡ Some k) where
  abbrev Or : List Note → Type 0
  Or notes = IsAtMost n (number Pods notes) ⊎ (is_dirty k notes ≡ true)

  added : (note : Note) (older : List Note) → has_key k (adds note older) ≡ true → is_dirty k (note ∷ older) ≡ true
  added note older h = or_left (has_key k (adds note older)) (not (gets note k) && is_dirty k older) h

  keeps : (note : Note) (older : List Note) → gets note k ≡ false → number Pods (note ∷ older) ≡ number Pods older → Or older → Or (note ∷ older)
  keeps note older none same (inl h) = inl (subst (IsAtMost n) (sym same) h)
  keeps note older none same (inr h) = inr (stays k note older none h)

  one : (note : Note) (older : List Note) → IsTelling note → IsTrue log note older → Or older → Or (note ∷ older)
  one (Listed Jobs at keys) older t so h = keeps (Listed Jobs at keys) older refl refl h
  one (Listed Pods at keys) older t so h = by (nat_le at.0 n) refl
    where
      by : (b : Bool) → nat_le at.0 n ≡ b → Or (Listed Pods at keys ∷ older)
      by true l = inl (leb-true at.0 n l)
      by false l =
          inr (added (Listed Pods at keys) older (ap (has_key k) (so.1 ∙ ap (listed_keys Pods) (upto-all at.0 log (let more = leb-false at.0 n l in omega (arith, more, long)))) ∙ lists))
  one (Told Jobs version key) older t so h = keeps (Told Jobs version key) older refl refl h
  one (Told Pods version key) older t so (inr h) = inr (stays k (Told Pods version key) older refl h)
  one (Told Pods version key) older t so (inl h) = by (number Pods older) refl h so.0
    where
      by : (o : Option Version) → number Pods older ≡ o → IsAtMost n o → StoodBefore o version → Or (Told Pods version key ∷ older)
      by None is few stood = absurd stood
      by (Some before) is few stood = of (nat_le version.0 n) refl
        where
          of : (b : Bool) → nat_le version.0 n ≡ b → Or (Told Pods version key ∷ older)
          of true l = inl (leb-true version.0 n l)
          of false l =
              let more = leb-false version.0 n l in
              let last : version.0 ≡ n + 1 = omega (arith, more, few, stood) in
              inr (added (Told Pods version key) older (ap (λ o. has_key k (option_to_list o)) (so.2 ∙ ap (λ v. option_and_then (told Pods) (entry_at v log)) last ∙ tells) ∙ or_left (same_key k k) false (same_key-itself k)))
  one (Expired Jobs) older t so h = keeps (Expired Jobs) older refl refl h
  one (Expired Pods) older t so (inl h) = inl tt
  one (Expired Pods) older t so (inr h) = inr (stays k (Expired Pods) older refl h)
  one (Began w basis) older t so h = absurd t
  one (SentBack first) older t so h = absurd t
  one (Asked w basis asked given) older t so h = absurd t
  one (Ended w basis end now) older t so h = absurd t
  one (Faulted w fault) older t so h = absurd t
  one (Ticked now) older t so h = absurd t

  all-told : (new older : List Note) → Each IsTelling new → AreTrue log (new ++ older) → Or older → Or (new ++ older)
  all-told [] older t so h = h
  all-told (note ∷ new) older t so h = one note (new ++ older) t.0 so.0 (all-told new older t.1 so.1 h)

  -- Once the cache has seen the last entry, the key is in the queue.
  pub comes-in : (shape : Shape) (c : ℕ) (run past : List Deed) → IsLegal shape (run ++ past) → Each (λ (d : Deed). is_telling d.act ≡ true) run → log_given shape (run ++ past) ≡ log → IsAtMost n (number Pods (diary shape c past))
      → number Pods (diary shape c (run ++ past)) ≡ Some (log_end log) → is_dirty k (diary shape c (run ++ past)) ≡ true
  comes-in shape c run past legal h is before after = by (run-telling shape c run past legal h)
    where
      by : AddsTelling shape c run past → is_dirty k (diary shape c (run ++ past)) ≡ true
      by m = of (all-told m.new (diary shape c past) m.telling (subst (AreTrue log) m.are (subst (λ l. AreTrue l (diary shape c (run ++ past))) is (all-true shape c (run ++ past) legal))) (inl before))
        where
          of : Or (m.new ++ diary shape c past) → is_dirty k (diary shape c (run ++ past)) ≡ true
          of (inl few) =
              let least : length log ≤ n = subst (IsAtMost n) (ap (number Pods) (sym m.are) ∙ after) few in absurd (omega (arith, least, long))
          of (inr dirty) = ap (is_dirty k) m.are ∙ dirty

-- ---- where no key is in line

-- No key is in the queue of a controller that has none in line, in a calm state.
pub none-in-queue : (shape : Shape) (past : List Deed) → IsLegal shape past → IsCalm shape past → (c : ℕ) → c < shape.controllers → line (diary shape c past) ≡ [] → (k : Key) → is_dirty k (diary shape c past) ≡ false
none-in-queue shape past legal calm c lt none k = none-dirty (diary shape c past) (legal-fit shape c past legal) none free k
  where
    free : (w : ℕ) → register w (diary shape c past) ≡ None
    free w = by (nat_lt w shape.workers) refl
      where
        by : (t : Bool) → nat_lt w shape.workers ≡ t → register w (diary shape c past) ≡ None
        by true s = calm.free c lt w (ltb-true w shape.workers s)
        by false s = never-begins w (diary shape c past) (notes-none shape w (ltb-false w shape.workers s) c past (log_given shape past) legal)

-- ---- the owner of a pod that is put is listed

pub put-listed : (pod : Pod) (pods : List Pod) → has_key pod.owner (pod_owners (put_pod pod pods)) ≡ true
put-listed pod [] = or_left (same_key pod.owner pod.owner) false (same_key-itself pod.owner)
put-listed pod (q ∷ pods) = by (nat_lt pod.uid.0 q.uid.0) (pod.uid.0 == q.uid.0) (put-listed pod pods)
  where
    by : (lt eq : Bool) → has_key pod.owner (pod_owners (put_pod pod pods)) ≡ true → has_key pod.owner (pod_owners (cond lt (pod ∷ q ∷ pods) (cond eq (pod ∷ pods) (q ∷ put_pod pod pods)))) ≡ true
    by true eq rest = or_left (same_key pod.owner pod.owner) (has_key pod.owner (pod_owners (q ∷ pods))) (same_key-itself pod.owner)
    by false true rest = or_left (same_key pod.owner pod.owner) (has_key pod.owner (pod_owners pods)) (same_key-itself pod.owner)
    by false false rest = or_right (same_key pod.owner q.owner) (has_key pod.owner (pod_owners (put_pod pod pods))) rest
