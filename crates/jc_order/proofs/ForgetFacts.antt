-- At rest no ended pod of a Job that is there is forgotten, but where a sync that saw it succeeded.
use Rattle.std.proofs.Common.{◌≡◌, ℕ, suc, ◌≤◌, ◌<◌, ◌==◌, nat_lt, Bool, true, false, cond, ◌&&◌, ◌||◌, List, [], ◌∷◌, ◌++◌, length, map, Option, Some, None, option_and_then, refl, sym, ap, ◌∙◌, subst, arith, eq-eqb, eqb-true, ltb-true}
use Rattle.std.proofs.Common.{ltb-false, true≢false}
use Rattle.std.specs.List.{AllByRecursion as Each}
use Rattle.std.specs.Option.{option_map, option_map_or, option_or, option_to_list, unwrap_or}
use Rattle.jc_log.specs.Acts as does
use Rattle.jc_control.specs.declared.ends.SyncEnd.{SyncEnd}
use Rattle.jc_control.specs.ControllerCalls.{told}
use Rattle.jc_queue.specs.Queued.{has_key}
use Rattle.jc_types.specs.declared.numbers.Uid.{Uid}
use Rattle.jc_types.specs.declared.objects.Entry.{Entry}
use Rattle.jc_types.specs.declared.objects.Entry.TheVariants.{JobPut, JobGone, PodPut, PodGone}
use Rattle.jc_types.specs.declared.objects.Job.{Job}
use Rattle.jc_types.specs.declared.objects.Kind.{Kind}
use Rattle.jc_types.specs.declared.objects.Kind.TheVariants.{Jobs, Pods}
use Rattle.jc_types.specs.declared.objects.Pod.{Pod}
use Rattle.jc_types.specs.declared.replies.Answer.{Answer}
use Rattle.jc_types.specs.declared.replies.Reply.{Reply}
use Rattle.jc_types.specs.declared.replies.Reply.TheVariants as reply
use Rattle.jc_types.specs.declared.replies.Request.{Request}
use Rattle.jc_types.specs.declared.runs.Shape.{Shape}
use Rattle.jc_states.specs.declared.bases.Basis.{Basis}
use Rattle.jc_log.specs.Acts.{Act}
use Rattle.jc_log.specs.Deeds.{Deed}
use Rattle.jc_types.specs.declared.objects.KeyNames.{KeyNames as Key}
use Rattle.jc_types.specs.Keys.{same_key, same_uid}
use Rattle.jc_log.specs.Log.{Live, Gone, entry_at, jobs_in, life, living, pods_in, upto}
use Rattle.jc_states.specs.Pods.{is_final}
use Rattle.jc_log.specs.Tables.{puts, takes}
use Rattle.jc_types.proofs.KeyFacts.{same_key-either_way, same_key-eq}
use Rattle.jc_log.proofs.LogFacts.{entry_at-older, upto-all, upto-fixed}
use Rattle.jc_states.proofs.PodListFacts.{pod_among}
use Rattle.jc_log.proofs.PodFacts.{pods_in-among}
use Rattle.jc_history.specs.Available.{is_quiescent}
use Rattle.jc_history.specs.Diaries.{end_by, listed_keys, moment, notes_taken, notes, on_begin, on_clock, on_delivery, on_list, on_step, restarts, on_lag}
use Rattle.jc_history.specs.Legal.{IsLegal, IsOfShape}
use Rattle.jc_history.specs.Lines.{line}
use Rattle.jc_history.specs.Notes.{Note, Listed, Told, Expired, Began, SentBack, Asked, Ended, Faulted, Ticked, newest}
use Rattle.jc_history.specs.Registers.{AllFit, begins_for, asks_status, register, register_told}
use Rattle.jc_history.specs.Replies.{log_given}
use Rattle.jc_history.proofs.DiaryFacts.{either}
use Rattle.jc_history.proofs.LegalFacts.{legal-fit}
use Rattle.jc_order.specs.Rest.{HasNothingToDo}
use Rattle.jc_order.specs.Restless.{StandTogether, AllEndRestless, FailsIf, HasCacheSeen, Stands, has_forgotten, has_job_of, is_forgotten, point}
use Rattle.jc_order.proofs.HonestFacts.{honest}
use Rattle.jc_order.proofs.RestFacts.{at-rest}
use Rattle.jc_order.proofs.LastFacts.{last_told, last-from, last-told_at, last-within}
use Rattle.jc_order.proofs.RetryFacts.{all-well, none-retried}
use Rattle.jc_order.proofs.RestlessFacts.{busy, not-busy}
use Rattle.jc_types.proofs.ListFacts.{Each-append as each-append}

-- ---- since when it is so

pub record Since (P : List Entry → Bool) (log : List Entry) : Type 0 where
  pub from : ℕ
  pub within : from ≤ length log
  pub holds : (n : ℕ) → from ≤ n → n ≤ length log → P (upto n log) ≡ true
  pub entry : Entry
  pub before : List Entry
  pub is : entry_at from log ≡ Some entry
  pub was_not : P before ≡ false
  pub came : P (entry ∷ before) ≡ true

pub since : (P : List Entry → Bool) (log : List Entry) → P [] ≡ false → P log ≡ true → Since P log
since P [] none h = absurd (true≢false (sym h ∙ none))
since P (e ∷ older) none h = by (P older) refl (λ h. since P older none h)
  where
    whole : upto (suc (length older)) (e ∷ older) ≡ e ∷ older
    whole = upto-all (suc (length older)) (e ∷ older) (omega arith)

    at : (m : Since P older) (n : ℕ) → m.from ≤ n → (b : Bool) → nat_lt (length older) n ≡ b → n ≤ suc (length older) → P (upto n (e ∷ older)) ≡ true
    at m n low true t high = let lt = ltb-true (length older) n t in (let same : n ≡ suc (length older) = omega (arith, lt, high) in ap (λ n. P (upto n (e ∷ older))) same) ∙ ap P whole ∙ h
    at m n low false t high = let le = ltb-false (length older) n t in ap P (upto-fixed n e older le) ∙ m.holds n low le

    further : Since P older → Since P (e ∷ older)
    further m = record {
      from = m.from;
      within = let w = m.within in omega (arith, w);
      holds = λ n low high. at m n low (nat_lt (length older) n) refl high;
      entry = m.entry;
      before = m.before;
      is = entry_at-older m.from e older m.within ∙ m.is;
      was_not = m.was_not;
      came = m.came;
    }

    by : (b : Bool) → P older ≡ b → (P older ≡ true → Since P older) → Since P (e ∷ older)
    by true s more = further (more s)
    by false s more = record {
      from = suc (length older);
      within = omega arith;
      holds = λ n low high. (let same : n ≡ suc (length older) = omega (arith, low, high) in ap (λ n. P (upto n (e ∷ older))) same) ∙ ap P whole ∙ h;
      entry = e;
      before = older;
      is = ap (λ b. cond b (Some e) (entry_at (suc (length older)) older)) (eq-eqb (suc (length older)) (suc (length older)) refl);
      was_not = s;
      came = h;
    }

-- ---- the Job of the key

or-cases : (x y : Bool) → (x || y) ≡ true → y ≡ false → x ≡ true
or-cases true y e n = refl
or-cases false y e n = absurd (true≢false (sym e ∙ n))

abbrev keys-of : List (Key × Job) → List Key
keys-of rows = map (λ (job : Job). job.key) (map (λ (row : Key × Job). row.1) rows)

or-swap : (a b c : Bool) → (a || (b || c)) ≡ true → (b || (a || c)) ≡ true
or-swap true true c e = refl
or-swap true false c e = refl
or-swap false true c e = refl
or-swap false false c e = e

or-more : (a b c : Bool) → (b || c) ≡ true → (b || (a || c)) ≡ true
or-more a true c e = refl
or-more true false c e = refl
or-more false false c e = e

or-map : (a b c : Bool) → (a || b) ≡ true → (b ≡ true → c ≡ true) → (a || c) ≡ true
or-map true b c e f = refl
or-map false b c e f = f e

put-keys : (k : Key) (rows : List (Key × Job)) (job : Job) → has_key k (keys-of (puts same_key rows job.key job)) ≡ true → (same_key k job.key || has_key k (keys-of rows)) ≡ true
put-keys k [] job e = e
put-keys k (row ∷ rows) job e = by (same_key job.key row.0) e (put-keys k rows job)
  where
    by : (b : Bool) → has_key k (keys-of (cond b ((row.0, job) ∷ rows) (row ∷ puts same_key rows job.key job))) ≡ true → (has_key k (keys-of (puts same_key rows job.key job)) ≡ true → (same_key k job.key || has_key k (keys-of rows)) ≡ true)
        → (same_key k job.key || (same_key k row.1.key || has_key k (keys-of rows))) ≡ true
    by true e ih = or-more (same_key k row.1.key) (same_key k job.key) (has_key k (keys-of rows)) e
    by false e ih = or-swap (same_key k row.1.key) (same_key k job.key) (has_key k (keys-of rows)) (or-map (same_key k row.1.key) (has_key k (keys-of (puts same_key rows job.key job))) (same_key k job.key || has_key k (keys-of rows)) e ih)

take-keys : (k j : Key) (rows : List (Key × Job)) → has_key k (keys-of (takes same_key rows j)) ≡ true → has_key k (keys-of rows) ≡ true
take-keys k j [] e = e
take-keys k j (row ∷ rows) e = by (same_key j row.0) e (take-keys k j rows)
  where
    over : (a b : Bool) → b ≡ true → (a || b) ≡ true
    over true b e = refl
    over false b e = e

    by : (b : Bool) → has_key k (keys-of (cond b rows (row ∷ takes same_key rows j))) ≡ true → (has_key k (keys-of (takes same_key rows j)) ≡ true → has_key k (keys-of rows) ≡ true) → (same_key k row.1.key || has_key k (keys-of rows)) ≡ true
    by true e ih = over (same_key k row.1.key) (has_key k (keys-of rows)) e
    by false e ih = or-map (same_key k row.1.key) (has_key k (keys-of (takes same_key rows j))) (has_key k (keys-of rows)) e ih

-- The entry with which the key's Job came tells the key.
job-told : (k : Key) (e : Entry) (older : List Entry) → has_job_of k older ≡ false → has_job_of k (e ∷ older) ≡ true → told Jobs e ≡ Some k
job-told k (JobPut job) older n h = ap (λ k. Some k) (sym (same_key-eq k job.key (or-cases (same_key k job.key) (has_job_of k older) (put-keys k (jobs_in older) job h) n)))
job-told k (JobGone job) older n h = absurd (true≢false (sym (take-keys k job.key (jobs_in older) h) ∙ n))
job-told k (PodPut pod) older n h = absurd (true≢false (sym h ∙ n))
job-told k (PodGone pod) older n h = absurd (true≢false (sym h ∙ n))

-- ---- the pod

pod-told : (k : Key) (j u : Uid) (e : Entry) (older : List Entry) → has_forgotten k j u older ≡ false → has_forgotten k j u (e ∷ older) ≡ true → told Pods e ≡ Some k
pod-told k j u (JobPut job) older n h = absurd (true≢false (sym h ∙ n))
pod-told k j u (JobGone job) older n h = absurd (true≢false (sym h ∙ n))
pod-told k j u (PodPut pod) older n h = by (same_uid pod.uid u) h
  where
    owned : (b c : Bool) → (b && c) ≡ true → b ≡ true
    owned true c e = refl
    owned false c e = absurd (true≢false (sym e))

    by : (b : Bool) → option_map_or (is_forgotten k j) (living (cond b (Live pod) (life u older))) false ≡ true → Some pod.owner ≡ Some k
    by true h = ap (λ k. Some k) (same_key-eq pod.owner k (owned (same_key pod.owner k) (same_uid pod.owner_uid j && (pod.tracked && is_final pod.phase)) h))
    by false h = absurd (true≢false (sym h ∙ n))
pod-told k j u (PodGone pod) older n h = by (same_uid pod.uid u) h
  where
    by : (b : Bool) → option_map_or (is_forgotten k j) (living (cond b Gone (life u older))) false ≡ true → Some pod.owner ≡ Some k
    by true h = absurd (true≢false (sym h))
    by false h = absurd (true≢false (sym h ∙ n))

-- Its owner's key is among those of the pods.
pod-listed : (k : Key) (j u : Uid) (log : List Entry) → has_forgotten k j u log ≡ true → has_key k (listed_keys Pods log) ≡ true
pod-listed k j u log h = by (pods_in log) (ap (λ o. option_map_or (is_forgotten k j) o false) (pods_in-among u log) ∙ h)
  where
    owned : (b c : Bool) → (b && c) ≡ true → b ≡ true
    owned true c e = refl
    owned false c e = absurd (true≢false (sym e))

    left : (a b : Bool) → a ≡ true → (a || b) ≡ true
    left true b e = refl
    left false b e = absurd (true≢false (sym e))

    right : (a b : Bool) → b ≡ true → (a || b) ≡ true
    right true b e = refl
    right false b e = e

    at-test : (pod : Pod) (pods : List Pod) (b : Bool)
        → option_map_or (is_forgotten k j) (cond b (Some pod) (pod_among u pods)) false ≡ true
        → (option_map_or (is_forgotten k j) (pod_among u pods) false ≡ true
        → has_key k (map (λ (pod : Pod). pod.owner) pods) ≡ true)
        → (same_key k pod.owner || has_key k (map (λ (pod : Pod). pod.owner) pods)) ≡ true
    at-test pod pods true e ih = left (same_key k pod.owner) (has_key k (map (λ (pod : Pod). pod.owner) pods)) (same_key-either_way k pod.owner ∙ owned (same_key pod.owner k) (same_uid pod.owner_uid j && (pod.tracked && is_final pod.phase)) e)
    at-test pod pods false e ih = right (same_key k pod.owner) (has_key k (map (λ (pod : Pod). pod.owner) pods)) (ih e)

    by : (pods : List Pod) → option_map_or (is_forgotten k j) (pod_among u pods) false ≡ true → has_key k (map (λ (pod : Pod). pod.owner) pods) ≡ true
    by [] e = absurd (true≢false (sym e))
    by (pod ∷ pods) e = at-test pod pods (same_uid pod.uid u) e (by pods)

-- ---- both

pub both : (k : Key) (j u : Uid) (log : List Entry) → has_job_of k log ≡ true → has_forgotten k j u log ≡ true → StandTogether k j u log
both k j u log its p = record { job_from = job.from; pod_from = pod.from; job_by = job.within; pod_by = pod.within; job_since = job.holds; pod_since = pod.holds; stands = record { listed = listed; told_at = told-at } }
  where
    job : Since (has_job_of k) log
    job = since (has_job_of k) log refl its

    pod : Since (has_forgotten k j u) log
    pod = since (has_forgotten k j u) log refl p

    listed : (kind : Kind) (n : ℕ) → point kind job.from pod.from ≤ n → n ≤ length log → has_key k (listed_keys kind (upto n log)) ≡ true
    listed Jobs n low high = job.holds n low high
    listed Pods n low high = pod-listed k j u (upto n log) (pod.holds n low high)

    told-at : (kind : Kind) → point kind job.from pod.from ≤ length log → option_and_then (told kind) (entry_at (point kind job.from pod.from) log) ≡ Some k
    told-at Jobs w = ap (option_and_then (told Jobs)) job.is ∙ job-told k job.entry job.before job.was_not job.came
    told-at Pods w = ap (option_and_then (told Pods)) pod.is ∙ pod-told k j u pod.entry pod.before pod.was_not pod.came

-- ---- workers that are not of the shape

pub never-begins : (w : ℕ) (notes : List Note) → Each (λ note. begins_for w note ≡ false) notes → register w notes ≡ None
never-begins w [] h = refl
never-begins w (Began worker basis ∷ older) h = ap (λ t. unwrap_or (option_or (cond t (Some (Some basis)) None) (newest (register_told w) older)) None) h.0 ∙ never-begins w older h.1
never-begins w (Ended worker basis end now ∷ older) h = by (worker == w) (never-begins w older h.1)
  where
    by : (t : Bool) → register w older ≡ None → unwrap_or (option_or (cond t (Some None) None) (newest (register_told w) older)) None ≡ None
    by true e = refl
    by false e = e
never-begins w (Listed kind at keys ∷ older) h = never-begins w older h.1
never-begins w (Told kind version key ∷ older) h = never-begins w older h.1
never-begins w (Expired kind ∷ older) h = never-begins w older h.1
never-begins w (SentBack first ∷ older) h = never-begins w older h.1
never-begins w (Asked worker basis request given ∷ older) h = never-begins w older h.1
never-begins w (Faulted worker fault ∷ older) h = never-begins w older h.1
never-begins w (Ticked now ∷ older) h = never-begins w older h.1

module _ (shape : Shape) (w : ℕ) (beyond : shape.workers ≤ w) where
  abbrev pub None-begins : List Note → Type 0
  None-begins some = Each (λ note. begins_for w note ≡ false) some

  other : (worker : ℕ) → worker < shape.workers → (t : Bool) → (worker == w) ≡ t → t ≡ false
  other worker lt true s = let same = eqb-true worker w s in absurd (omega (arith, lt, beyond, same))
  other worker lt false s = refl

  noted-none : (c : ℕ) (act : Act) (r : Reply) (now : ℕ) (log : List Entry) (older : List Note) → IsOfShape shape act → None-begins (notes_taken c act r now log older)
  noted-none c (does.List controller kind) r now log older h = either (λ note. begins_for w note ≡ false) (controller == c) _ (by r)
    where
      by : (r : Reply) → None-begins (on_list kind log r)
      by (reply.Listed at) = (refl, tt)
      by other = tt
  noted-none c (does.Deliver controller kind) r now log older h = either (λ note. begins_for w note ≡ false) (controller == c) _ (by r)
    where
      by : (r : Reply) → None-begins (on_delivery kind log r)
      by (reply.Delivered version) = (refl, tt)
      by (reply.Expired floor) = (refl, tt)
      by other = tt
  noted-none c (does.Begin controller worker) r now log older h = either (λ note. begins_for w note ≡ false) (controller == c) _ (by r)
    where
      sent : (some : List Key) → None-begins (on_lag some)
      sent [] = tt
      sent (k ∷ rest) = (refl, tt)

      by : (r : Reply) → None-begins (on_begin worker now log older r)
      by (reply.Begun key jobs_at pods_at) = (other worker h.1 (worker == w) refl, tt)
      by (reply.Behind kind need have) = sent (line older)
      by other = tt
  noted-none c (does.Step controller worker) r now log older h = either (λ note. begins_for w note ≡ false) (controller == c) _ (by (register worker older) r)
    where
      ends : (o : Option SyncEnd) (basis : Basis) (asked : Request) (given : Answer) → None-begins (option_to_list (option_map (λ end. Ended worker basis end now) o) ++ Asked worker basis asked given ∷ [])
      ends None basis asked given = (refl, tt)
      ends (Some end) basis asked given = (refl, (refl, tt))

      by : (o : Option Basis) (r : Reply) → None-begins (on_step worker now o r)
      by (Some basis) (reply.Stepped asked given) = ends (end_by (asks_status asked) given) basis asked given
      by (Some basis) reply.Ended = (refl, tt)
      by o other = tt
  noted-none c (does.PutFault controller worker fault) r now log older h = either (λ note. begins_for w note ≡ false) (controller == c) _ (refl, tt)
  noted-none c (does.Clock add) r now log older h = by r
    where
      by : (r : Reply) → None-begins (on_clock r)
      by (reply.Now moment) = (refl, tt)
      by other = tt
  noted-none c other r now log older h = tt

  pub notes-none : (c : ℕ) (deeds : List Deed) (log : List Entry) → IsLegal shape deeds → None-begins (notes shape c deeds log)
  notes-none c [] log h = tt
  notes-none c (d ∷ past) log h = by (restarts c d.act) (notes-none c past log h.1)
    where
      by : (b : Bool) → None-begins (notes shape c past log) → None-begins (cond b [] (notes_taken c d.act d.reply (moment shape past) log (notes shape c past log) ++ notes shape c past log))
      by true ih = tt
      by false ih = each-append (λ note. begins_for w note ≡ false) _ _ (noted-none c d.act d.reply (moment shape past) log (notes shape c past log) h.0.within) ih

-- ---- at rest

pub not-forgotten : (shape : Shape) (deeds : List Deed) → IsLegal shape deeds → 0 < shape.workers → is_quiescent shape deeds (log_given shape deeds) ≡ true → (c : ℕ) → c < shape.controllers
    → (k : Key) (a b : ℕ) → a ≤ length (log_given shape deeds) → b ≤ length (log_given shape deeds) → Stands k a b (log_given shape deeds) → AllEndRestless k a b (notes shape c deeds (log_given shape deeds)) → ⊥
not-forgotten shape deeds legal some quiet c lt k a b job pod stands well =
    not-busy k a b (notes shape c deeds (log_given shape deeds)) fit idle.line free idle.delays
    (busy k a b (notes shape c deeds (log_given shape deeds)) fit (honest k a b shape c deeds legal stands well)
    (subst (λ o. HasCacheSeen o a) (sym (idle.caches Jobs)) job) (subst (λ o. HasCacheSeen o b) (sym (idle.caches Pods)) pod))
  where
    idle : HasNothingToDo (notes shape c deeds (log_given shape deeds)) (log_given shape deeds) shape.workers
    idle = (at-rest shape deeds legal some quiet).each c lt

    fit : AllFit (notes shape c deeds (log_given shape deeds))
    fit = legal-fit shape c deeds legal

    free : (w : ℕ) → register w (notes shape c deeds (log_given shape deeds)) ≡ None
    free w = by (nat_lt w shape.workers) refl
      where
        by : (t : Bool) → nat_lt w shape.workers ≡ t → register w (notes shape c deeds (log_given shape deeds)) ≡ None
        by true s = idle.registers w (ltb-true w shape.workers s)
        by false s = never-begins w _ (notes-none shape w (ltb-false w shape.workers s) c deeds (log_given shape deeds) legal)

-- Where no sync of the key that saw both succeeded: one that saw the last entry of the Job was told of no conflict.
pub no-rest : (shape : Shape) (deeds : List Deed) → IsLegal shape deeds → 0 < shape.workers → is_quiescent shape deeds (log_given shape deeds) ≡ true → (c : ℕ) → c < shape.controllers
    → (k : Key) (j u : Uid) (h : StandTogether k j u (log_given shape deeds)) → Each (FailsIf k h.job_from h.pod_from) (notes shape c deeds (log_given shape deeds)) → ⊥
no-rest shape deeds legal some quiet c lt k j u h fails =
    not-forgotten shape deeds legal some quiet c lt k last h.pod_from (last-within Jobs k (log_given shape deeds)) h.pod_by (record { listed = listed; told_at = told-at })
    (all-well k last h.job_from h.pod_from from.1 (notes shape c deeds (log_given shape deeds)) fails (none-retried k last shape c deeds legal (omega arith)))
  where
    last : ℕ
    last = last_told Jobs k (log_given shape deeds)

    from : (0 < h.job_from) × (h.job_from ≤ last_told Jobs k (log_given shape deeds))
    from = last-from Jobs k (log_given shape deeds) h.job_from (h.stands.told_at Jobs h.job_by)

    listed : (kind : Kind) (n : ℕ) → point kind (last_told Jobs k (log_given shape deeds)) h.pod_from ≤ n → n ≤ length (log_given shape deeds) → has_key k (listed_keys kind (upto n (log_given shape deeds))) ≡ true
    listed Jobs n low high = let le = from.1 in h.job_since n (omega (arith, le, low)) high
    listed Pods n low high = h.stands.listed Pods n low high

    told-at : (kind : Kind) → point kind (last_told Jobs k (log_given shape deeds)) h.pod_from ≤ length (log_given shape deeds)
        → option_and_then (told kind) (entry_at (point kind (last_told Jobs k (log_given shape deeds)) h.pod_from) (log_given shape deeds)) ≡ Some k
    told-at Jobs w = let some = from.0 in let le = from.1 in last-told_at Jobs k (log_given shape deeds) (omega (arith, some, le))
    told-at Pods w = h.stands.told_at Pods w
