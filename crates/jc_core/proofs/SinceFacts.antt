-- A register stays where no event is of it: what its sync had begun with when the history had so many events is what it has now.
use Rattle.std.proofs.Common.{◌≡◌, ℕ, ◌+◌, ◌-◌, ◌==◌, ◌&&◌, Bool, true, false, cond, not, List, [], ◌∷◌, ◌++◌, length, map, min, take, drop, reverse, Option, Some, None, refl, sym, ap, ◌∙◌, subst, true≢false, arith}
use Rattle.std.specs.List.{list_any}
use Rattle.std.specs.Option.{option_map, option_or, option_to_list, unwrap_or}
use Rattle.std.proofs.Math.Seq.{drop-append_seam}
use Rattle.std.proofs.lemmas.Bool.{or_parts}
use Rattle.std.proofs.lemmas.List.{drop_min, length-drop, length-reverse, reverse-append, reverse-reverse, take-append-drop, take_all}
use Rattle.std.proofs.lemmas.List.Sorted.{IsPermutation-reverse, list_any-IsPermutation}
use Rattle.jc_types.specs.declared.actions.Command.{Command}
use Rattle.jc_types.specs.declared.actions.Script.{Script}
use Rattle.jc_types.specs.declared.objects.Entry.{Entry}
use Rattle.jc_types.specs.declared.objects.KeyNames.{KeyNames as Key}
use Rattle.jc_types.specs.declared.objects.Kind.{Kind}
use Rattle.jc_types.specs.declared.replies.Reply.{Reply}
use Rattle.jc_types.specs.declared.replies.Reply.TheVariants as reply
use Rattle.jc_types.specs.declared.runs.Past.{Past}
use Rattle.jc_types.specs.declared.runs.Shape.{Shape}
use Rattle.jc_control.specs.declared.ends.SyncEnd.{SyncEnd}
use Rattle.jc_runs.specs.Basis.{Basis}
use Rattle.jc_log.specs.Acts as does
use Rattle.jc_log.specs.Acts.{Act}
use Rattle.jc_log.specs.Deeds.{Deed, deed}
use Rattle.jc_history.specs.Diaries.{end_by, moment, notes, notes_taken, on_begin, on_clock, on_delivery, on_lag, on_list, on_step, restarts}
use Rattle.jc_history.specs.Legal.{IsLegal}
use Rattle.jc_history.specs.Lines.{line}
use Rattle.jc_history.specs.Notes.{Note, Asked, Ended, newest}
use Rattle.jc_history.specs.Registers.{asks_status, register, register_told}
use Rattle.jc_history.specs.Replies.{diary, log_after, log_given}
use Rattle.jc_history.proofs.DiaryFacts.{legal-stay}
use Rattle.jc_runs.specs.Seen.{Seen, deeds_seen}
use Rattle.jc_play.specs.DiariesSeen.{diary_seen}
use Rattle.jc_core.specs.RegisterChanges.{touch_of}
use Rattle.jc_core.specs.Since.{is_of_register, is_past_of, is_touch_of, seen_at}

-- ---- touches

-- An act is of a register as what it touches says.
pub touch-of : (c w : ℕ) (act : Act) → is_touch_of c w (touch_of act) ≡ is_of_register c w act
touch-of c w (does.Begin controller worker) = refl
touch-of c w (does.Step controller worker) = refl
touch-of c w (does.Restart controller) = refl
touch-of c w other = refl

-- ---- the notes of one act

either-stays : (w : ℕ) (b : Bool) (new older : List Note) → register w (new ++ older) ≡ register w older → register w (cond b new [] ++ older) ≡ register w older
either-stays w true new older e = e
either-stays w false new older e = refl

list-stays : (w : ℕ) (kind : Kind) (log : List Entry) (r : Reply) (older : List Note) → register w (on_list kind log r ++ older) ≡ register w older
list-stays w kind log (reply.Listed at) older = refl
list-stays w kind log other older = refl

delivery-stays : (w : ℕ) (kind : Kind) (log : List Entry) (r : Reply) (older : List Note) → register w (on_delivery kind log r ++ older) ≡ register w older
delivery-stays w kind log (reply.Delivered version) older = refl
delivery-stays w kind log (reply.Expired floor) older = refl
delivery-stays w kind log other older = refl

clock-stays : (w : ℕ) (r : Reply) (older : List Note) → register w (on_clock r ++ older) ≡ register w older
clock-stays w (reply.Now moment) older = refl
clock-stays w other older = refl

-- What tells of another worker tells nothing of this one.
other-told : (w worker : ℕ) (told : Option Basis) (older : List Note) → (worker == w) ≡ false → unwrap_or (option_or (cond (worker == w) (Some told) None) (newest (register_told w) older)) None ≡ register w older
other-told w worker told older e = ap (λ b. unwrap_or (option_or (cond b (Some told) None) (newest (register_told w) older)) None) e

lag-stays : (w : ℕ) (some : List Key) (older : List Note) → register w (on_lag some ++ older) ≡ register w older
lag-stays w [] older = refl
lag-stays w (k ∷ rest) older = refl

begin-stays : (w worker now : ℕ) (log : List Entry) (older : List Note) (r : Reply) → (worker == w) ≡ false → register w (on_begin worker now log older r ++ older) ≡ register w older
begin-stays w worker now log older (reply.Begun key jobs_at pods_at) e = other-told w worker _ older e
begin-stays w worker now log older (reply.Behind kind need have) e = lag-stays w (line older) older
begin-stays w worker now log older other e = refl

step-stays : (w worker now : ℕ) (o : Option Basis) (r : Reply) (older : List Note) → (worker == w) ≡ false → register w (on_step worker now o r ++ older) ≡ register w older
step-stays w worker now (Some b) (reply.Stepped asked given) older e = by (end_by (asks_status asked) given)
  where
    by : (o : Option SyncEnd) → register w ((option_to_list (option_map (λ end. Ended worker b end now) o) ++ Asked worker b asked given ∷ []) ++ older) ≡ register w older
    by None = refl
    by (Some end) = other-told w worker None (Asked worker b asked given ∷ older) e
step-stays w worker now (Some b) reply.Ended older e = other-told w worker None older e
step-stays w worker now o other older e = refl

-- One of the controller, but not of the worker, or one of another controller.
of-neither : (w : ℕ) (x y : Bool) (new older : List Note) → (x && y) ≡ false → (y ≡ false → register w (new ++ older) ≡ register w older) → register w (cond x new [] ++ older) ≡ register w older
of-neither w true y new older e stays = stays e
of-neither w false y new older e stays = refl

-- An act that is not of the register leaves it as it is.
act-stays : (c w now : ℕ) (act : Act) (r : Reply) (log : List Entry) (older : List Note) → is_of_register c w act ≡ false → register w (cond (restarts c act) [] (notes_taken c act r now log older ++ older)) ≡ register w older
act-stays c w now (does.List controller kind) r log older e = either-stays w (controller == c) (on_list kind log r) older (list-stays w kind log r older)
act-stays c w now (does.Deliver controller kind) r log older e = either-stays w (controller == c) (on_delivery kind log r) older (delivery-stays w kind log r older)
act-stays c w now (does.Begin controller worker) r log older e =
    of-neither w (controller == c) (worker == w) (on_begin worker now log older r) older e (begin-stays w worker now log older r)
act-stays c w now (does.Step controller worker) r log older e =
    of-neither w (controller == c) (worker == w) (on_step worker now (register worker older) r) older e (step-stays w worker now (register worker older) r older)
act-stays c w now (does.PutFault controller worker fault) r log older e = either-stays w (controller == c) _ older refl
act-stays c w now (does.Clock add) r log older e = clock-stays w r older
act-stays c w now (does.Restart controller) r log older e = ap (λ b. register w (cond b [] older)) e
act-stays c w now other r log older e = refl

-- ---- events

-- So does a deed of a legal history.
deed-stays : (shape : Shape) (c w : ℕ) (d : Deed) (past : List Deed) → IsLegal shape (d ∷ past) → is_of_register c w d.act ≡ false → register w (diary shape c (d ∷ past)) ≡ register w (diary shape c past)
unfolding log_given
deed-stays shape c w d past legal e =
    let log : List Entry = log_after shape past (log_given shape past) d.act in
    act-stays c w (moment shape past) d.act d.reply log (notes shape c past log) e
    ∙ ap (register w) (legal-stay shape c past d.act legal.1)

-- So do events.
events-stay : (script : Script) (shape : Shape) (c w : ℕ) (more old : List Past) → IsLegal shape (map (deed script) (more ++ old)) → list_any (is_past_of script.commands c w) more ≡ false
    → register w (diary shape c (map (deed script) (more ++ old))) ≡ register w (diary shape c (map (deed script) old))
events-stay script shape c w [] old legal e = refl
events-stay script shape c w (past ∷ more) old legal e =
    let none = or_parts (is_past_of script.commands c w past) (list_any (is_past_of script.commands c w) more) e in
    deed-stays shape c w (deed script past) (map (deed script) (more ++ old)) legal none.0
    ∙ events-stay script shape c w more old legal.1 none.1

-- ---- since then

none-of : (b : Bool) → not b ≡ true → b ≡ false
none-of true e = absurd (true≢false (sym e))
none-of false e = refl

same-reverse : {A : Type 0} (test : A → Bool) (xs : List A) → list_any test (reverse xs) ≡ list_any test xs
same-reverse test xs = sym (list_any-IsPermutation test xs (reverse xs) (IsPermutation-reverse xs))

-- The events that are left of a list from one on, where the last ones are taken.
all-left : (events : List Past) (from : ℕ) → take (length events - from) (drop from events) ≡ drop from events
all-left events from = let exactly = length-drop from events in take_all (length events - from) (drop from events) (omega (arith, exactly))

-- Whether none of the events since the history had so many is of the register.
pub since-told : (seen : Seen) (c w n from : ℕ) (events : List Past) (commands : List Command) (found : Bool) → reverse events ≡ seen.pasts → commands ≡ seen.script.commands → from ≡ min n (length events)
    → found ≡ list_any (is_past_of commands c w) (take (length events - from) (drop from events)) → not found ≡ not (list_any (is_past_of seen.script.commands c w) (drop n (reverse seen.pasts)))
since-told seen c w n from events commands found is script least at =
    ap not
    (at
    ∙ ap (list_any (is_past_of commands c w)) (all-left events from ∙ ap (λ k. drop k events) least ∙ drop_min n events ∙ ap (drop n) (sym (reverse-reverse events) ∙ ap reverse is))
    ∙ ap (λ cs. list_any (is_past_of cs c w) (drop n (reverse seen.pasts))) script)

-- The register is what it was when the history had so many events, where none since is of it.
pub since-stays : (seen : Seen) (c w n from : ℕ) (events : List Past) (commands : List Command) (found : Bool) → reverse events ≡ seen.pasts → commands ≡ seen.script.commands → IsLegal seen.shape (deeds_seen seen) → from ≡ min n (length events)
    → found ≡ list_any (is_past_of commands c w) (take (length events - from) (drop from events)) → not found ≡ true → register w (diary_seen seen c) ≡ register w (diary_seen (seen_at n seen) c)
since-stays seen c w n from events commands found is script legal least at none =
    ap of whole
    ∙ events-stay seen.script seen.shape c w more old (subst (λ ps. IsLegal seen.shape (map (deed seen.script) ps)) whole legal) untouched
    ∙ ap of (sym (drop-append_seam more old) ∙ ap (λ k. drop k (more ++ old)) count ∙ ap (drop (length seen.pasts - n)) (sym whole))
  where
    more : List Past
    more = reverse (drop from events)

    old : List Past
    old = reverse (take from events)

    of : List Past → Option Basis
    of ps = register w (diary seen.shape c (map (deed seen.script) ps))

    whole : seen.pasts ≡ more ++ old
    whole = sym is ∙ ap reverse (sym (take-append-drop from events)) ∙ reverse-append (take from events) (drop from events)

    left : length events - from ≡ length events - n
    left = omega (arith, least)

    count : length more ≡ length seen.pasts - n
    count = length-reverse (drop from events) ∙ length-drop from events ∙ left ∙ ap (λ k. k - n) (sym (length-reverse events) ∙ ap length is)

    test : Past → Bool
    test = is_past_of commands c w

    untouched : list_any (is_past_of seen.script.commands c w) more ≡ false
    untouched =
        ap (λ cs. list_any (is_past_of cs c w) more) (sym script)
        ∙ same-reverse test (drop from events)
        ∙ ap (list_any test) (sym (all-left events from))
        ∙ sym at
        ∙ none-of found none
