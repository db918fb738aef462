-- What the notes of a controller are after one more deed, and that they stay as they are where the log grows.
use Rattle.std.proofs.Common.{◌≡◌, ℕ, ◌+◌, ◌-◌, ◌≤◌, ◌==◌, nat_lt, Bool, true, false, cond, List, [], ◌∷◌, ◌++◌, length, Option, Some, None, refl, sym, ap, ◌∙◌, subst, arith}
use Rattle.std.proofs.lemmas.Bool.{eqb-false}
use Rattle.std.specs.List.{AllByRecursion as Each}
use Rattle.std.specs.Option.{option_and_then, option_map, option_or, option_to_list, unwrap_or}
use Rattle.jc_log.specs.Acts as does
use Rattle.jc_control.specs.declared.begins.Lag.{Lag}
use Rattle.jc_control.specs.declared.ends.SyncEnd.{SyncEnd}
use Rattle.jc_control.specs.ControllerCalls.{forgets_caches, told}
use Rattle.jc_types.specs.declared.numbers.Version.{Version}
use Rattle.jc_types.specs.declared.objects.Entry.{Entry}
use Rattle.jc_types.specs.declared.objects.KeyNames.{KeyNames as Key}
use Rattle.jc_types.specs.declared.objects.Kind.{Kind}
use Rattle.jc_types.specs.declared.objects.Kind.TheVariants.{Jobs, Pods}
use Rattle.jc_types.specs.declared.replies.Answer.{Answer}
use Rattle.jc_types.specs.declared.replies.Reply.{Reply}
use Rattle.jc_types.specs.declared.replies.Reply.TheVariants as reply
use Rattle.jc_types.specs.declared.replies.Request.{Request}
use Rattle.jc_types.specs.declared.runs.Shape.{Shape}
use Rattle.jc_states.specs.declared.bases.Basis.{Basis}
use Rattle.jc_log.specs.Requests.{Answered, grown, refused}
use Rattle.jc_log.specs.Acts.{Act}
use Rattle.jc_log.specs.Deeds.{Deed}
use Rattle.jc_log.specs.Log.{job_in, pods_under}
use Rattle.jc_log.proofs.LogFacts.{entry_at-older, upto-fixed}
use Rattle.jc_history.specs.Bounds.{AreTold, TellsWithin, IsTold}
use Rattle.jc_history.specs.Diaries.{end_by, listed_keys, moment, notes_taken, notes, notes_after, on_begin, on_answer, on_clock, on_delivery, on_list, on_step, restarts, on_lag}
use Rattle.jc_history.specs.Fresh.{basis, begin as begin_of, begin_at, begin_first, begin_unless, cache_lag}
use Rattle.jc_history.specs.Legal.{IsLegal}
use Rattle.jc_history.specs.Lines.{line}
use Rattle.jc_history.specs.Notes.{Note, Listed, Told, Expired, Began, SentBack, Asked, Ended, Faulted, Ticked, newest}
use Rattle.jc_history.specs.Numbers.{number, number_told}
use Rattle.jc_history.specs.Registers.{backoff, asks_status, register}
use Rattle.jc_history.specs.Replies.{begin_gives, deliver_gives, gives, log_after, log_given, reply_of_begin, reply_given}
use Rattle.jc_types.proofs.ListFacts.{Each-append as each-append}

-- ---- bounds of notes

-- The version of a list or a delivery that was noted is at most n.
abbrev IsNoted : ℕ → Note → Type 0
IsNoted n (Listed kind at keys) = at.0 ≤ n
IsNoted n (Told kind version key) = version.0 ≤ n
IsNoted n note = Unit {0}

abbrev IsNumber : ℕ → Option Version → Type 0
IsNumber n None = Unit {0}
IsNumber n (Some version) = version.0 ≤ n

-- ---- the log grows

list-stays : (kind : Kind) (e : Entry) (log : List Entry) (r : Reply) → TellsWithin (length log) r → on_list kind (e ∷ log) r ≡ on_list kind log r
list-stays kind e log (reply.Listed at) w = ap (λ some. Listed kind at (listed_keys kind some) ∷ []) (upto-fixed at.0 e log w)
list-stays kind e log other w = refl

delivery-stays : (kind : Kind) (e : Entry) (log : List Entry) (r : Reply) → TellsWithin (length log) r → on_delivery kind (e ∷ log) r ≡ on_delivery kind log r
delivery-stays kind e log (reply.Delivered version) w = ap (λ o. Told kind version (option_and_then (told kind) o) ∷ []) (entry_at-older version.0 e log w)
delivery-stays kind e log other w = refl

begin-stays : (worker now : ℕ) (e : Entry) (log : List Entry) (older : List Note) (r : Reply) → TellsWithin (length log) r → on_begin worker now (e ∷ log) older r ≡ on_begin worker now log older r
begin-stays worker now e log older (reply.Begun key jobs_at pods_at) w =
    λ i. Began worker (record {
      key = key;
      job = job_in key (upto-fixed jobs_at.0 e log w.0 i);
      pods = pods_under key (upto-fixed pods_at.0 e log w.1 i);
      jobs_at = jobs_at;
      pods_at = pods_at;
      now = now;
      backoff = backoff key older;
    }) ∷ []
begin-stays worker now e log older other w = refl

noted-stays : (c : ℕ) (act : Act) (r : Reply) (now : ℕ) (e : Entry) (log : List Entry) (older : List Note) → IsTold (length log) act r → notes_taken c act r now (e ∷ log) older ≡ notes_taken c act r now log older
noted-stays c (does.List controller kind) r now e log older w = ap (λ some. cond (controller == c) some []) (list-stays kind e log r w)
noted-stays c (does.Deliver controller kind) r now e log older w = ap (λ some. cond (controller == c) some []) (delivery-stays kind e log r w)
noted-stays c (does.Begin controller worker) r now e log older w = ap (λ some. cond (controller == c) some []) (begin-stays worker now e log older r w)
noted-stays c other r now e log older w = refl

-- The notes stay where an entry is appended.
pub notes-stay : (shape : Shape) (c : ℕ) (deeds : List Deed) (e : Entry) (log : List Entry) → AreTold (length log) deeds → notes shape c deeds (e ∷ log) ≡ notes shape c deeds log
notes-stay shape c [] e log h = refl
notes-stay shape c (d ∷ past) e log h =
    ap (notes_after c d (moment shape past) (e ∷ log)) (notes-stay shape c past e log h.1)
    ∙ ap (λ new. cond (restarts c d.act) [] (new ++ notes shape c past log)) (noted-stays c d.act d.reply (moment shape past) e log (notes shape c past log) h.0)

-- ---- all numbers are places of the log

place-further : (m n : ℕ) (r : Reply) → m ≤ n → TellsWithin m r → TellsWithin n r
place-further m n (reply.Listed at) w h = omega (arith, w, h)
place-further m n (reply.Delivered version) w h = omega (arith, w, h)
place-further m n (reply.Begun key jobs_at pods_at) w h = (let a = h.0 in omega (arith, w, a), let b = h.1 in omega (arith, w, b))
place-further m n other w h = tt

told-further : (m n : ℕ) (act : Act) (r : Reply) → m ≤ n → IsTold m act r → IsTold n act r
told-further m n (does.List controller kind) r w h = place-further m n r w h
told-further m n (does.Deliver controller kind) r w h = place-further m n r w h
told-further m n (does.Begin controller worker) r w h = place-further m n r w h
told-further m n other r w h = tt

each-further : (m n : ℕ) (deeds : List Deed) → m ≤ n → AreTold m deeds → AreTold n deeds
each-further m n [] w h = tt
each-further m n (d ∷ deeds) w h = (told-further m n d.act d.reply w h.0, each-further m n deeds w h.1)

-- What was noted of a deed.
pub either : {A : Type 0} (P : A → Type 0) (b : Bool) (xs : List A) → Each P xs → Each P (cond b xs [])
either P true xs h = h
either P false xs h = tt

list-noted : (n : ℕ) (kind : Kind) (log : List Entry) (r : Reply) → TellsWithin n r → Each (IsNoted n) (on_list kind log r)
list-noted n kind log (reply.Listed at) w = (w, tt)
list-noted n kind log other w = tt

delivery-noted : (n : ℕ) (kind : Kind) (log : List Entry) (r : Reply) → TellsWithin n r → Each (IsNoted n) (on_delivery kind log r)
delivery-noted n kind log (reply.Delivered version) w = (w, tt)
delivery-noted n kind log (reply.Expired floor) w = (tt, tt)
delivery-noted n kind log other w = tt

begin-noted : (n worker now : ℕ) (log : List Entry) (older : List Note) (r : Reply) → Each (IsNoted n) (on_begin worker now log older r)
begin-noted n worker now log older (reply.Begun key jobs_at pods_at) = (tt, tt)
begin-noted n worker now log older (reply.Behind kind need have) = by (line older)
  where
    by : (some : List Key) → Each (IsNoted n) (on_lag some)
    by [] = tt
    by (k ∷ rest) = (tt, tt)
begin-noted n worker now log older other = tt

answer-noted : (n worker : ℕ) (basis : Basis) (now : ℕ) (asked : Request) (given : Answer) → Each (IsNoted n) (on_answer worker basis now asked given)
answer-noted n worker basis now asked given = by (end_by (asks_status asked) given)
  where
    by : (o : Option SyncEnd) → Each (IsNoted n) (option_to_list (option_map (λ end. Ended worker basis end now) o) ++ Asked worker basis asked given ∷ [])
    by None = (tt, tt)
    by (Some end) = (tt, (tt, tt))

step-noted : (n worker now : ℕ) (o : Option Basis) (r : Reply) → Each (IsNoted n) (on_step worker now o r)
step-noted n worker now (Some basis) (reply.Stepped asked given) = answer-noted n worker basis now asked given
step-noted n worker now (Some basis) reply.Ended = (tt, tt)
step-noted n worker now o other = tt

noted-within : (n c : ℕ) (act : Act) (r : Reply) (now : ℕ) (log : List Entry) (older : List Note) → IsTold n act r → Each (IsNoted n) (notes_taken c act r now log older)
noted-within n c (does.List controller kind) r now log older w = either (IsNoted n) (controller == c) _ (list-noted n kind log r w)
noted-within n c (does.Deliver controller kind) r now log older w = either (IsNoted n) (controller == c) _ (delivery-noted n kind log r w)
noted-within n c (does.Begin controller worker) r now log older w = either (IsNoted n) (controller == c) _ (begin-noted n worker now log older r)
noted-within n c (does.Step controller worker) r now log older w = either (IsNoted n) (controller == c) _ (step-noted n worker now (register worker older) r)
noted-within n c (does.PutFault controller worker fault) r now log older w = either (IsNoted n) (controller == c) _ (tt, tt)
noted-within n c (does.Clock add) r now log older w = clock r
  where
    clock : (r : Reply) → Each (IsNoted n) (on_clock r)
    clock (reply.Now moment) = (tt, tt)
    clock other = tt
noted-within n c other r now log older w = tt

pub notes-within : (n : ℕ) (shape : Shape) (c : ℕ) (deeds : List Deed) (log : List Entry) → AreTold n deeds → Each (IsNoted n) (notes shape c deeds log)
notes-within n shape c [] log h = tt
notes-within n shape c (d ∷ past) log h = by (notes-within n shape c past log h.1) (restarts c d.act)
  where
    by : Each (IsNoted n) (notes shape c past log) → (b : Bool) → Each (IsNoted n) (cond b [] (notes_taken c d.act d.reply (moment shape past) log (notes shape c past log) ++ notes shape c past log))
    by ih true = tt
    by ih false = each-append (IsNoted n) _ _ (noted-within n c d.act d.reply (moment shape past) log (notes shape c past log) h.0) ih

-- The number of a cache is a place of the log.
pub number-within : (n : ℕ) (kind : Kind) (notes : List Note) → Each (IsNoted n) notes → IsNumber n (number kind notes)
number-within n kind [] h = tt
number-within n kind (note ∷ older) h = by kind note h.0 (number-within n kind older h.1)
  where
    by : (kind : Kind) (note : Note) → IsNoted n note → IsNumber n (number kind older) → IsNumber n (unwrap_or (option_or (number_told kind note) (newest (number_told kind) older)) None)
    by Jobs (Listed Jobs at keys) w rest = w
    by Jobs (Listed Pods at keys) w rest = rest
    by Pods (Listed Jobs at keys) w rest = rest
    by Pods (Listed Pods at keys) w rest = w
    by Jobs (Told Jobs version key) w rest = w
    by Jobs (Told Pods version key) w rest = rest
    by Pods (Told Jobs version key) w rest = rest
    by Pods (Told Pods version key) w rest = w
    by Jobs (Expired Jobs) w rest = tt
    by Jobs (Expired Pods) w rest = rest
    by Pods (Expired Jobs) w rest = rest
    by Pods (Expired Pods) w rest = tt
    by kind (Ended worker basis end now) w rest = lost (forgets_caches end)
      where
        lost : (b : Bool) → IsNumber n (unwrap_or (option_or (cond b (Some None) None) (newest (number_told kind) older)) None)
        lost true = tt
        lost false = rest
    by kind (Began worker basis) w rest = rest
    by kind (SentBack first) w rest = rest
    by kind (Asked worker basis request answer) w rest = rest
    by kind (Faulted worker fault) w rest = rest
    by kind (Ticked now) w rest = rest

-- ---- what is answered is a place of the log

deliver-within : (log : List Entry) (window : ℕ) (o : Option Version) → IsNumber (length log) o → TellsWithin (length log) (deliver_gives log window o).reply
deliver-within log window None h = tt
deliver-within log window (Some version) h = by (nat_lt version.0 (length log - window)) (version.0 == length log) refl
  where
    by : (b e : Bool) → (version.0 == length log) ≡ e
        → TellsWithin (length log) (cond {A = Answered} b (refused (reply.Expired (record { 0 = length log - window })))
        (cond e (refused reply.UpToDate) (refused (reply.Delivered (record { 0 = version.0 + 1 }))))).reply
    by true e s = tt
    by false true s = tt
    by false false s = let other = eqb-false version.0 (length log) s in omega (arith, h, other)

begin-within : (n : ℕ) (notes : List Note) (log : List Entry) (now : ℕ) (a b : Option Version) → IsNumber n a → IsNumber n b → TellsWithin n (reply_of_begin (begin_at notes log now a b))
begin-within n notes log now None b h g = tt
begin-within n notes log now (Some j) None h g = tt
begin-within n notes log now (Some j) (Some p) h g = by (line notes)
  where
    unless : (k : Key) (o : Option Lag) → TellsWithin n (reply_of_begin (begin_unless (basis notes log now k j p) o))
    unless k None = (h, g)
    unless k (Some l) = tt

    by : (some : List Key) → TellsWithin n (reply_of_begin (begin_first notes log now j p some))
    by [] = tt
    by (k ∷ rest) = unless k (cache_lag notes log k j p)

reply-within : (shape : Shape) (past : List Deed) (log : List Entry) (act : Act) → AreTold (length log) past → IsTold (length log) act (reply_given shape past log act)
unfolding gives
reply-within shape past log (does.List controller kind) h = omega arith
reply-within shape past log (does.Deliver controller kind) h =
    deliver-within log shape.window (number kind (notes shape controller past log)) (number-within (length log) kind _ (notes-within (length log) shape controller past log h))
reply-within shape past log (does.Begin controller worker) h = by (register worker (notes shape controller past log))
  where
    all : Each (IsNoted (length log)) (notes shape controller past log)
    all = notes-within (length log) shape controller past log h

    by : (o : Option Basis) → TellsWithin (length log) (begin_gives o (begin_of (notes shape controller past log) log (moment shape past))).reply
    by (Some basis) = tt
    by None = begin-within (length log) (notes shape controller past log) log (moment shape past) _ _ (number-within (length log) Jobs _ all) (number-within (length log) Pods _ all)
reply-within shape past log other h = tt

-- The log does not shrink.
pub grown-longer : (log : List Entry) (o : Option Entry) → length log ≤ length (grown log o)
grown-longer log None = omega arith
grown-longer log (Some e) = omega arith

-- In a legal history all that was told is a place of the log.
pub legal-told : (shape : Shape) (deeds : List Deed) → IsLegal shape deeds → AreTold (length (log_given shape deeds)) deeds
unfolding log_given
legal-told shape [] h = tt
legal-told shape (d ∷ past) h = (
  subst (IsTold (length (log_given shape (d ∷ past))) d.act) (sym h.0.reply)
      (told-further _ _ d.act _ longer (reply-within shape past (log_given shape past) d.act (legal-told shape past h.1))),
  each-further _ _ past longer (legal-told shape past h.1),
)
  where
    longer : length (log_given shape past) ≤ length (log_given shape (d ∷ past))
    longer = grown-longer (log_given shape past) (gives shape past (log_given shape past) d.act).entry

-- So the notes of a legal history are the same in the log after its next deed.
pub legal-stay : (shape : Shape) (c : ℕ) (past : List Deed) (act : Act) → IsLegal shape past → notes shape c past (log_after shape past (log_given shape past) act) ≡ notes shape c past (log_given shape past)
legal-stay shape c past act h = by (gives shape past (log_given shape past) act).entry
  where
    by : (o : Option Entry) → notes shape c past (grown (log_given shape past) o) ≡ notes shape c past (log_given shape past)
    by None = refl
    by (Some e) = notes-stay shape c past e (log_given shape past) (legal-told shape past h)
