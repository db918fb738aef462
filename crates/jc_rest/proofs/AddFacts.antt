-- A key that was added since the cache of Jobs had seen a version finds no rest, as long as each sync that saw this
-- version, and the last entry of a pod, fails. Each sync that begins after that sees the version; and whatever brings
-- the pod into the cache of pods adds the key.
use Rattle.std.proofs.Common.{◌≡◌, ℕ, ◌≤◌, ◌==◌, Bool, true, false, cond, ◌&&◌, ◌||◌, List, [], ◌∷◌, ◌++◌, length, Option, Some, None, is_some, option_and_then, refl, sym, ap, ◌∙◌, subst, arith, leb-true, true≢false, ◌⊎◌, inl, inr}
use Rattle.std.proofs.lemmas.Bool.{and_parts, or_left, or_right}
use Rattle.std.specs.Option.{option_map, option_or, option_to_list, unwrap_or}
use Rattle.jc_log.specs.Acts as does
use Rattle.jc_control.specs.declared.ends.SyncEnd.{SyncEnd}
use Rattle.jc_control.specs.ControllerCalls.{forgets_caches, told}
use Rattle.jc_control.specs.Queued.{has_key}
use Rattle.jc_control.specs.Schedules.{log_end}
use Rattle.jc_types.specs.declared.numbers.Version.{Version}
use Rattle.jc_types.specs.declared.objects.Entry.{Entry}
use Rattle.jc_types.specs.declared.objects.KeyNames.{KeyNames as Key}
use Rattle.jc_types.specs.declared.objects.Kind.{Kind}
use Rattle.jc_types.specs.declared.objects.Kind.TheVariants.{Jobs, Pods}
use Rattle.jc_types.specs.declared.objects.Pod.{Pod}
use Rattle.jc_types.specs.declared.replies.Reply.{Reply}
use Rattle.jc_types.specs.declared.replies.Reply.TheVariants as reply
use Rattle.jc_types.specs.declared.runs.Shape.{Shape}
use Rattle.jc_states.specs.declared.bases.Basis.{Basis}
use Rattle.jc_log.specs.Acts.{Act}
use Rattle.jc_log.specs.Deeds.{Deed}
use Rattle.jc_log.specs.Log.{entry_at, upto}
use Rattle.jc_history.specs.Diaries.{end_by, listed_keys, moment, notes, notes_taken, on_begin, on_clock, on_delivery, on_lag, on_list, on_step, restarts}
use Rattle.jc_history.specs.Legal.{IsLegal}
use Rattle.jc_history.specs.Lines.{adds, is_dirty, line}
use Rattle.jc_history.specs.Notes.{Note, Listed, Told, Expired, Began, SentBack, Asked, Ended, Faulted, Ticked, newest}
use Rattle.jc_history.specs.Numbers.{number, number_told}
use Rattle.jc_history.specs.Registers.{AllFit, asks_status, register}
use Rattle.jc_history.specs.Replies.{gives, log_given, reply_given}
use Rattle.jc_history.proofs.LegalFacts.{legal-fit, notes-next}
use Rattle.jc_order.specs.Restless.{Dirty, AllEndRestless, HasCacheSeen, IsBusy, StoodBefore}
use Rattle.jc_order.proofs.HonestFacts.{AreTrue, IsTrue, all-true}
use Rattle.jc_order.proofs.RestlessFacts.{began, ended, listed, same-busy, sent, ticked, told-more}
use Rattle.jc_rest.specs.Orphans.{has_reached, is_sure_of}

-- ---- where the cache of Jobs stood

-- Its number was so great after one of the notes.
abbrev WasAt : ℕ → List Note → Type 0
WasAt n [] = ⊥
WasAt n (note ∷ older) = HasCacheSeen (number Jobs (note ∷ older)) n ⊎ WasAt n older

-- A list is no earlier than where it stood before.
abbrev IsTimely : Note → List Note → Type 0
IsTimely (Listed Jobs at keys) older = (n : ℕ) → WasAt n older → n ≤ at.0
IsTimely note older = Unit {0}

abbrev AreTimely : List Note → Type 0
AreTimely [] = Unit {0}
AreTimely (note ∷ older) = IsTimely note older × AreTimely older

stands-at : (n : ℕ) (notes : List Note) → HasCacheSeen (number Jobs notes) n → WasAt n notes
stands-at n [] h = absurd h
stands-at n (note ∷ older) h = inl h

-- It stood within the log.
was-within : (log : List Entry) (notes : List Note) → AreTrue log notes → (n : ℕ) → WasAt n notes → n ≤ length log
was-within log [] so n h = absurd h
was-within log (note ∷ older) so n (inr h) = was-within log older so.1 n h
was-within log (note ∷ older) so n (inl h) = one note so.0 (λ h. was-within log older so.1 n (stands-at n older h)) h
  where
    one : (note : Note) → IsTrue log note older → (HasCacheSeen (number Jobs older) n → n ≤ length log) → HasCacheSeen (number Jobs (note ∷ older)) n → n ≤ length log
    one (Listed Jobs at keys) t before h = let w = t.0 in omega (arith, w, h)
    one (Listed Pods at keys) t before h = before h
    one (Told Jobs version key) t before h = let w = t.1 in omega (arith, w, h)
    one (Told Pods version key) t before h = before h
    one (Expired Jobs) t before h = absurd h
    one (Expired Pods) t before h = before h
    one (Began w basis) t before h = before h
    one (SentBack first) t before h = before h
    one (Asked w basis asked given) t before h = before h
    one (Faulted w fault) t before h = before h
    one (Ticked now) t before h = before h
    one (Ended w basis end now) t before h = by (forgets_caches end) h
      where
        by : (b : Bool) → HasCacheSeen (unwrap_or (option_or (cond b (Some None) None) (newest (number_told Jobs) older)) None) n → n ≤ length log
        by true h = absurd h
        by false h = before h

-- ---- lists are timely

module _ (older : List Note) (ih : AreTimely older) where
  list-timely : (kind : Kind) (log : List Entry) (at : Version) → ((n : ℕ) → WasAt n older → n ≤ at.0) → AreTimely (on_list kind log (reply.Listed at) ++ older)
  list-timely Jobs log at late = (late, ih)
  list-timely Pods log at late = (tt, ih)

  delivery-timely : (kind : Kind) (log : List Entry) (r : Reply) → AreTimely (on_delivery kind log r ++ older)
  delivery-timely kind log (reply.Delivered version) = (tt, ih)
  delivery-timely kind log (reply.Expired floor) = (tt, ih)
  delivery-timely kind log other = ih

  lag-timely : (keys : List Key) → AreTimely (on_lag keys ++ older)
  lag-timely [] = ih
  lag-timely (first ∷ rest) = (tt, ih)

  begin-timely : (worker now : ℕ) (log : List Entry) (r : Reply) → AreTimely (on_begin worker now log older r ++ older)
  begin-timely worker now log (reply.Begun key jobs_at pods_at) = (tt, ih)
  begin-timely worker now log (reply.Behind kind need have) = lag-timely (line older)
  begin-timely worker now log other = ih

  step-timely : (worker now : ℕ) (o : Option Basis) (r : Reply) → AreTimely (on_step worker now o r ++ older)
  step-timely worker now (Some basis) (reply.Stepped asked given) = by (end_by (asks_status asked) given)
    where
      by : (o : Option SyncEnd) → AreTimely ((option_to_list (option_map (λ end. Ended worker basis end now) o) ++ Asked worker basis asked given ∷ []) ++ older)
      by None = (tt, ih)
      by (Some end) = (tt, (tt, ih))
  step-timely worker now (Some basis) reply.Ended = (tt, ih)
  step-timely worker now o other = ih

  clock-timely : (r : Reply) → AreTimely (on_clock r ++ older)
  clock-timely (reply.Now moment) = (tt, ih)
  clock-timely other = ih

  either-timely : (t : Bool) (some : List Note) → AreTimely (some ++ older) → AreTimely (cond t some [] ++ older)
  either-timely true some h = h
  either-timely false some h = ih

all-timely : (shape : Shape) (c : ℕ) (deeds : List Deed) → IsLegal shape deeds → AreTimely (notes shape c deeds (log_given shape deeds))
unfolding gives
all-timely shape c [] legal = tt
all-timely shape c (d ∷ past) legal =
    subst AreTimely (sym (notes-next shape c past d legal.1)) (by (restarts c d.act) (all-timely shape c past legal.1))
  where
    now : List Entry
    now = log_given shape (d ∷ past)

    old : List Note
    old = notes shape c past (log_given shape past)

    act-timely : AreTimely old → (act : Act) → d.act ≡ act → AreTimely (notes_taken c act d.reply (moment shape past) now old ++ old)
    act-timely ih (does.List controller kind) e =
        either-timely old ih (controller == c) (on_list kind now d.reply)
        (subst (λ r. AreTimely (on_list kind now r ++ old)) (sym (legal.0.reply ∙ ap (reply_given shape past (log_given shape past)) e))
        (list-timely old ih kind now (log_end (log_given shape past)) (was-within (log_given shape past) old (all-true shape c past legal.1))))
    act-timely ih (does.Deliver controller kind) e = either-timely old ih (controller == c) (on_delivery kind now d.reply) (delivery-timely old ih kind now d.reply)
    act-timely ih (does.Begin controller worker) e =
        either-timely old ih (controller == c) (on_begin worker (moment shape past) now old d.reply) (begin-timely old ih worker (moment shape past) now d.reply)
    act-timely ih (does.Step controller worker) e =
        either-timely old ih (controller == c) (on_step worker (moment shape past) (register worker old) d.reply) (step-timely old ih worker (moment shape past) (register worker old) d.reply)
    act-timely ih (does.PutFault controller worker fault) e = either-timely old ih (controller == c) (Faulted worker fault ∷ []) (tt, ih)
    act-timely ih (does.Clock add) e = clock-timely old ih d.reply
    act-timely ih other e = ih

    by : (t : Bool) → AreTimely old → AreTimely (cond t [] (notes_taken c d.act d.reply (moment shape past) now old ++ old))
    by true ih = tt
    by false ih = act-timely ih d.act refl

-- ---- what a sync sees that begins after the key was added

module _ (pod : Pod) (a : ℕ) where
  split : (x y : Bool) → (x || y) ≡ true → (x ≡ true) ⊎ (y ≡ true)
  split true y h = inl refl
  split false y h = inr h

  seen-at : (o : Option Version) → has_reached a o ≡ true → HasCacheSeen o a
  seen-at None h = absurd (true≢false (sym h))
  seen-at (Some at) h = leb-true a at.0 h

  -- The cache of Jobs had seen the version.
  sure-was : (notes : List Note) → is_sure_of pod a notes ≡ true → WasAt a notes
  sure-was [] h = absurd (true≢false (sym h))
  sure-was (note ∷ older) h = by (split (has_key pod.owner (adds note older) && has_reached a (number Jobs (note ∷ older))) (is_sure_of pod a older) h) (sure-was older)
    where
      by : ((has_key pod.owner (adds note older) && has_reached a (number Jobs (note ∷ older))) ≡ true) ⊎ (is_sure_of pod a older ≡ true) → (is_sure_of pod a older ≡ true → WasAt a older) → WasAt a (note ∷ older)
      by (inl now) ih = inl (seen-at (number Jobs (note ∷ older)) (and_parts (has_key pod.owner (adds note older)) (has_reached a (number Jobs (note ∷ older))) now).1)
      by (inr before) ih = inr (ih before)

  -- It still has, if it has a number.
  sure-sees : (log : List Entry) (notes : List Note) → AreTrue log notes → AreTimely notes → is_sure_of pod a notes ≡ true → (v : Version) → number Jobs notes ≡ Some v → a ≤ v.0
  sure-sees log [] so timely h v is = absurd (true≢false (sym h))
  sure-sees log (note ∷ older) so timely h v is =
      by (split (has_key pod.owner (adds note older) && has_reached a (number Jobs (note ∷ older))) (is_sure_of pod a older) h) (λ before x n. sure-sees log older so.1 timely.1 before x n)
    where
      at-last : (o : Option Version) → o ≡ Some v → HasCacheSeen o a → a ≤ v.0
      at-last o is seen = subst (λ o. HasCacheSeen o a) is seen

      later : is_sure_of pod a older ≡ true → ((x : Version) → number Jobs older ≡ Some x → a ≤ x.0) → (note : Note) → IsTrue log note older → IsTimely note older → number Jobs (note ∷ older) ≡ Some v → a ≤ v.0
      later before ih (Listed Jobs at keys) t late is = let le = late a (sure-was older before) in let same = ap (λ (o : Option Version). (unwrap_or o at).0) is in omega (arith, le, same)
      later before ih (Listed Pods at keys) t late is = ih v is
      later before ih (Told Jobs version key) t late is = told-from (number Jobs older) refl t.0
        where
          told-from : (o : Option Version) → number Jobs older ≡ o → StoodBefore o version → a ≤ v.0
          told-from None n stood = absurd stood
          told-from (Some x) n stood = let le = ih x n in let same = ap (λ (o : Option Version). (unwrap_or o version).0) is in omega (arith, le, stood, same)
      later before ih (Told Pods version key) t late is = ih v is
      later before ih (Expired Jobs) t late is = absurd (true≢false (sym (ap is_some is)))
      later before ih (Expired Pods) t late is = ih v is
      later before ih (Began w basis) t late is = ih v is
      later before ih (SentBack first) t late is = ih v is
      later before ih (Asked w basis asked given) t late is = ih v is
      later before ih (Faulted w fault) t late is = ih v is
      later before ih (Ticked now) t late is = ih v is
      later before ih (Ended w basis end now) t late is = of (forgets_caches end) is
        where
          of : (b : Bool) → unwrap_or (option_or (cond b (Some None) None) (newest (number_told Jobs) older)) None ≡ Some v → a ≤ v.0
          of true is = absurd (true≢false (sym (ap is_some is)))
          of false is = ih v is

      by : ((has_key pod.owner (adds note older) && has_reached a (number Jobs (note ∷ older))) ≡ true) ⊎ (is_sure_of pod a older ≡ true) → (is_sure_of pod a older ≡ true → (x : Version) → number Jobs older ≡ Some x → a ≤ x.0) → a ≤ v.0
      by (inl now) ih = at-last (number Jobs (note ∷ older)) is (seen-at (number Jobs (note ∷ older)) (and_parts (has_key pod.owner (adds note older)) (has_reached a (number Jobs (note ∷ older))) now).1)
      by (inr before) ih = later before (ih before) note so.0 timely.0 is

  -- ---- so it is busy

  module _ (b : ℕ) (log : List Entry) (lists : (n : ℕ) → b ≤ n → n ≤ length log → has_key pod.owner (listed_keys Pods (upto n log)) ≡ true)
      (tells-it : option_and_then (told Pods) (entry_at b log) ≡ Some pod.owner) where
    busy-since : (notes : List Note) → AllFit notes → AreTrue log notes → AreTimely notes → AllEndRestless pod.owner a b notes → is_sure_of pod a notes ≡ true → HasCacheSeen (number Pods notes) b → IsBusy pod.owner a b notes
    busy-since [] fit so timely well sure p = absurd p
    busy-since (note ∷ older) fit so timely well sure p =
        by (split (has_key pod.owner (adds note older) && has_reached a (number Jobs (note ∷ older))) (is_sure_of pod a older) sure) (λ before seen. busy-since older fit.1 so.1 timely.1 well.1 before seen)
      where
        later : is_sure_of pod a older ≡ true → (HasCacheSeen (number Pods older) b → IsBusy pod.owner a b older)
            → (note : Note) → (AllFit (note ∷ older)) → IsTrue log note older → AllEndRestless pod.owner a b (note ∷ older)
            → HasCacheSeen (number Pods (note ∷ older)) b → IsBusy pod.owner a b (note ∷ older)
        later before was (Listed Jobs at keys) fit t well p = same-busy pod.owner a b (Listed Jobs at keys) older (or_right (has_key pod.owner keys) (is_dirty pod.owner older)) refl (λ w. refl) (was p)
        later before was (Listed Pods at keys) fit t well p = listed pod.owner a b Pods at keys older (ap (has_key pod.owner) t.1 ∙ lists at.0 p t.0)
        later before was (Told Jobs version key) fit t well p =
            same-busy pod.owner a b (Told Jobs version key) older (or_right (has_key pod.owner (option_to_list key)) (is_dirty pod.owner older)) refl (λ w. refl) (was p)
        later before was (Told Pods version key) fit t well p =
            told-more pod.owner a b Pods version key older (number Pods older) t.0 (λ is. t.2 ∙ ap (λ v. option_and_then (told Pods) (entry_at v log)) is ∙ tells-it) p was
        later before was (Expired Jobs) fit t well p = same-busy pod.owner a b (Expired Jobs) older (λ h. h) refl (λ w. refl) (was p)
        later before was (Expired Pods) fit t well p = absurd p
        later before was (Began w basis) fit t well p =
            began pod.owner a b w basis older fit.0.0 (sure-sees log older so.1 timely.1 before basis.jobs_at t.0) (subst (λ o. HasCacheSeen o b) t.1 p) (was p)
        later before was (SentBack first) fit t well p = sent pod.owner a b first older (was p)
        later before was (Asked w basis asked given) fit t well p = same-busy pod.owner a b (Asked w basis asked given) older (λ h. h) refl (λ v. refl) (was p)
        later before was (Faulted w fault) fit t well p = same-busy pod.owner a b (Faulted w fault) older (λ h. h) refl (λ v. refl) (was p)
        later before was (Ticked now) fit t well p = ticked pod.owner a b now older (was p)
        later before was (Ended w basis end now) fit t well p = of (forgets_caches end) refl p
          where
            of : (t : Bool) → forgets_caches end ≡ t → HasCacheSeen (unwrap_or (option_or (cond t (Some None) None) (newest (number_told Pods) older)) None) b → IsBusy pod.owner a b (Ended w basis end now ∷ older)
            of true s p = absurd p
            of false s p = ended pod.owner a b w basis end now older fit.0 s well.0 (was p)

        by : ((has_key pod.owner (adds note older) && has_reached a (number Jobs (note ∷ older))) ≡ true) ⊎ (is_sure_of pod a older ≡ true)
            → (is_sure_of pod a older ≡ true → HasCacheSeen (number Pods older) b → IsBusy pod.owner a b older) → IsBusy pod.owner a b (note ∷ older)
        by (inl now) ih = Dirty (or_left (has_key pod.owner (adds note older)) _ (and_parts (has_key pod.owner (adds note older)) (has_reached a (number Jobs (note ∷ older))) now).0)
        by (inr before) ih = later before (ih before) note fit so.0 well p

pub added-busy : (pod : Pod) (a b : ℕ) (shape : Shape) (c : ℕ) (deeds : List Deed) → IsLegal shape deeds
    → ((n : ℕ) → b ≤ n → n ≤ length (log_given shape deeds) → has_key pod.owner (listed_keys Pods (upto n (log_given shape deeds))) ≡ true)
    → option_and_then (told Pods) (entry_at b (log_given shape deeds)) ≡ Some pod.owner
    → AllEndRestless pod.owner a b (notes shape c deeds (log_given shape deeds)) → is_sure_of pod a (notes shape c deeds (log_given shape deeds)) ≡ true
    → HasCacheSeen (number Pods (notes shape c deeds (log_given shape deeds))) b → IsBusy pod.owner a b (notes shape c deeds (log_given shape deeds))
added-busy pod a b shape c deeds legal lists tells-it well sure p =
    busy-since pod a b (log_given shape deeds) lists tells-it (notes shape c deeds (log_given shape deeds)) (legal-fit shape c deeds legal) (all-true shape c deeds legal)
    (all-timely shape c deeds legal) well sure p
