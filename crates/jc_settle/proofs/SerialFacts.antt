-- A settle is serial.
use Rattle.std.proofs.Common.{◌≡◌, ℕ, ◌<◌, ◌==◌, nat_lt, Bool, true, false, cond, List, [], ◌∷◌, ◌++◌, length, Option, Some, None, is_some, refl, sym, ap, ◌∙◌, subst, eqb-true, true≢false, append_assoc, ◌⊎◌, inl, inr, ◌-◌}
use Rattle.std.proofs.lemmas.Option.{none-some as none_some, same_Some as some_is}
use Rattle.std.specs.List.{AllByRecursion as Each}
use Rattle.std.specs.Option.{option_map, option_or, option_to_list, unwrap_or}
use Rattle.jc_log.specs.Acts as does
use Rattle.jc_control.specs.Schedules.{log_end}
use Rattle.jc_control.specs.declared.ends.SyncEnd.{SyncEnd}
use Rattle.jc_types.specs.declared.numbers.Version.{Version}
use Rattle.jc_types.specs.declared.objects.Entry.{Entry}
use Rattle.jc_types.specs.declared.objects.KeyNames.{KeyNames as Key}
use Rattle.jc_types.specs.declared.objects.Kind.{Kind}
use Rattle.jc_types.specs.declared.replies.Answer.{Answer}
use Rattle.jc_types.specs.declared.replies.Reply.{Reply}
use Rattle.jc_types.specs.declared.replies.Reply.TheVariants as reply
use Rattle.jc_types.specs.declared.replies.Request.{Request}
use Rattle.jc_types.specs.declared.runs.Event.TheVariants as event
use Rattle.jc_types.specs.declared.runs.Shape.{Shape}
use Rattle.jc_types.specs.declared.runs.Sys.{Sys}
use Rattle.jc_types.specs.declared.runs.Sys.TheVariants as sys
use Rattle.jc_states.specs.declared.bases.Basis.{Basis}
use Rattle.jc_log.specs.Acts.{Act}
use Rattle.jc_log.specs.Deeds.{Deed, act_of_system}
use Rattle.jc_log.specs.Requests.{Answered, grown, refused}
use Rattle.jc_history.specs.Available.{available}
use Rattle.jc_history.specs.Diaries.{end_by, moment, notes_taken, on_clock, on_delivery, on_list, on_step, restarts}
use Rattle.jc_history.specs.Fresh.{basis as basis_of}
use Rattle.jc_history.specs.Legal.{IsLegal, IsLegalNext, IsOfShape}
use Rattle.jc_history.specs.Lines.{line}
use Rattle.jc_history.specs.Notes.{Note, Listed, Told, Expired, Began, SentBack, Asked, Ended, Faulted, Ticked, newest}
use Rattle.jc_history.specs.Numbers.{number}
use Rattle.jc_history.specs.Play.{first_event}
use Rattle.jc_history.specs.Registers.{asks_status, begins_for, register, register_told}
use Rattle.jc_history.specs.Replies.{AppendsNothing, begin_gives, begin_now, deliver_gives, diary, gives, log_given, reply_of_begin}
use Rattle.jc_history.proofs.DiaryFacts.{either}
use Rattle.jc_history.proofs.LegalFacts.{notes-next}
use Rattle.jc_order.proofs.EndFacts.{end-begins}
use Rattle.jc_settle.specs.Comes.{AreUpToDate, Comes, NoSyncIsUnderWay, Lists, Delivers, Steps, Begins, Acts, Ticks}
use Rattle.jc_settle.specs.Serial.{IsAlone, IsFirst, IsOldOrAlone, IsSettling, RunsAlone, is_begin_of_any}
use Rattle.jc_settle.proofs.ComesFacts.{first-comes}

-- ---- registers

-- Notes that begin no sync of the worker.
abbrev pub NoneBegins : ℕ → List Note → Type 0
NoneBegins w some = Each (λ note. begins_for w note ≡ false) some

-- They leave its register, or free it.
kept-by : (w : ℕ) (new older : List Note) (basis : Basis) → NoneBegins w new → register w (new ++ older) ≡ Some basis → register w older ≡ Some basis
kept-by w [] older basis n e = e
kept-by w (Began worker b ∷ new) older basis n e = kept-by w new older basis n.1 (sym (ap (λ t. unwrap_or (option_or (cond t (Some (Some b)) None) (newest (register_told w) (new ++ older))) None) n.0) ∙ e)
kept-by w (Ended worker b end now ∷ new) older basis n e = by (worker == w) e (λ e. kept-by w new older basis n.1 e)
  where
    by : (t : Bool) → unwrap_or (option_or (cond t (Some None) None) (newest (register_told w) (new ++ older))) None ≡ Some basis → (register w (new ++ older) ≡ Some basis → register w older ≡ Some basis) → register w older ≡ Some basis
    by true e more = absurd (none_some basis e)
    by false e more = more e
kept-by w (Listed kind at keys ∷ new) older basis n e = kept-by w new older basis n.1 e
kept-by w (Told kind version key ∷ new) older basis n e = kept-by w new older basis n.1 e
kept-by w (Expired kind ∷ new) older basis n e = kept-by w new older basis n.1 e
kept-by w (SentBack first ∷ new) older basis n e = kept-by w new older basis n.1 e
kept-by w (Asked worker b request answer ∷ new) older basis n e = kept-by w new older basis n.1 e
kept-by w (Faulted worker fault ∷ new) older basis n e = kept-by w new older basis n.1 e
kept-by w (Ticked now ∷ new) older basis n e = kept-by w new older basis n.1 e

-- What an act is noted as that is no begin.
pub none-noted : (w c : ℕ) (act : Act) (r : Reply) (now : ℕ) (log : List Entry) (older : List Note) → is_begin_of_any act ≡ false → NoneBegins w (notes_taken c act r now log older)
none-noted w c (does.List controller kind) r now log older n = either (λ note. begins_for w note ≡ false) (controller == c) _ (by r)
  where
    by : (r : Reply) → NoneBegins w (on_list kind log r)
    by (reply.Listed at) = (refl, tt)
    by other = tt
none-noted w c (does.Deliver controller kind) r now log older n = either (λ note. begins_for w note ≡ false) (controller == c) _ (by r)
  where
    by : (r : Reply) → NoneBegins w (on_delivery kind log r)
    by (reply.Delivered version) = (refl, tt)
    by (reply.Expired floor) = (refl, tt)
    by other = tt
none-noted w c (does.Begin controller worker) r now log older n = absurd (true≢false n)
none-noted w c (does.Step controller worker) r now log older n = either (λ note. begins_for w note ≡ false) (controller == c) _ (by (register worker older) r)
  where
    ends : (o : Option SyncEnd) (basis : Basis) (asked : Request) (given : Answer) → NoneBegins w (option_to_list (option_map (λ end. Ended worker basis end now) o) ++ Asked worker basis asked given ∷ [])
    ends None basis asked given = (refl, tt)
    ends (Some end) basis asked given = (refl, (refl, tt))

    by : (o : Option Basis) (r : Reply) → NoneBegins w (on_step worker now o r)
    by (Some basis) (reply.Stepped asked given) = ends (end_by (asks_status asked) given) basis asked given
    by (Some basis) reply.Ended = (refl, tt)
    by o other = tt
none-noted w c (does.PutFault controller worker fault) r now log older n = either (λ note. begins_for w note ≡ false) (controller == c) _ (refl, tt)
none-noted w c (does.Clock add) r now log older n = by r
  where
    by : (r : Reply) → NoneBegins w (on_clock r)
    by (reply.Now moment) = (refl, tt)
    by other = tt
none-noted w c other r now log older n = tt

-- A deed that is no begin leaves each register, or frees it.
pub register-kept : (shape : Shape) (c w : ℕ) (d : Deed) (past : List Deed) (basis : Basis) → IsLegal shape past → is_begin_of_any d.act ≡ false → register w (diary shape c (d ∷ past)) ≡ Some basis → register w (diary shape c past) ≡ Some basis
register-kept shape c w d past basis legal n e = by (restarts c d.act) (ap (register w) (sym (notes-next shape c past d legal)) ∙ e)
  where
    new-notes : List Note
    new-notes = notes_taken c d.act d.reply (moment shape past) (log_given shape (d ∷ past)) (diary shape c past)

    by : (b : Bool) → register w (cond b [] (new-notes ++ diary shape c past)) ≡ Some basis → register w (diary shape c past) ≡ Some basis
    by true e = absurd (none_some basis e)
    by false e = kept-by w new-notes (diary shape c past) basis (none-noted w c d.act d.reply (moment shape past) (log_given shape (d ∷ past)) (diary shape c past) n) e

used : {A : Type 0} (o : Option A) → is_some o ≡ true → (x : A) × (o ≡ Some x)
used None e = absurd (true≢false (sym e))
used (Some x) e = (x, refl)

-- ---- what is first

pub first-of-act : (act : Act) (events : List Sys) → IsFirst act events → (x : Sys) × (first_event events ≡ Some (event.System x)) × (act_of_system x ≡ act)
first-of-act act [] h = absurd h
first-of-act act (x ∷ xs) h = (x, refl, h)

-- ---- deeds that write nothing

module _ (shape : Shape) (past : List Deed) (d : Deed) where
  pub listed-nothing : (c : ℕ) (kind : Kind) → d.act ≡ does.List c kind → AppendsNothing shape past d
  unfolding log_given gives
  listed-nothing c kind a = ap (λ act. grown (log_given shape past) (gives shape past (log_given shape past) act).entry) a

  pub told-nothing : (c : ℕ) (kind : Kind) → d.act ≡ does.Deliver c kind → AppendsNothing shape past d
  unfolding log_given gives
  told-nothing c kind a = ap (λ act. grown (log_given shape past) (gives shape past (log_given shape past) act).entry) a ∙ by (number kind (diary shape c past))
    where
      which : (b t : Bool) (x y z : Reply) → grown (log_given shape past) (cond {A = Answered} b (refused x) (cond t (refused y) (refused z))).entry ≡ log_given shape past
      which true t x y z = refl
      which false true x y z = refl
      which false false x y z = refl

      by : (o : Option Version) → grown (log_given shape past) (deliver_gives (log_given shape past) shape.window o).entry ≡ log_given shape past
      by None = refl
      by (Some version) = which (nat_lt version.0 (length (log_given shape past) - shape.window)) (version.0 == length (log_given shape past)) _ _ _

  module _ (c w : ℕ) (a : d.act ≡ does.Begin c w) (free : register w (diary shape c past) ≡ None) where
    begun-gives : gives shape past (log_given shape past) d.act ≡ begin_gives None (begin_now shape c past)
    unfolding gives
    begun-gives = ap (gives shape past (log_given shape past)) a ∙ ap (λ o. begin_gives o (begin_now shape c past)) free

    pub begun-nothing : AppendsNothing shape past d
    unfolding log_given
    begun-nothing = ap (λ (x : Answered). grown (log_given shape past) x.entry) begun-gives

-- ---- a begin

module _ (shape : Shape) (past : List Deed) (legal : IsLegal shape past) (d : Deed) (next : IsLegalNext shape past d) (up : AreUpToDate shape past (log_given shape past)) (free : NoSyncIsUnderWay shape past (log_given shape past))
    (c w : ℕ) (k : Key) (rest : List Key) (lt : c < shape.controllers) (less : w < shape.workers) (a : d.act ≡ does.Begin c w) (first : line (diary shape c past) ≡ k ∷ rest) where
  abbrev log : List Entry
  log = log_given shape past

  abbrev new : ℕ → Basis
  new e = basis_of (diary shape e past) log (moment shape past) k (log_end log) (log_end log)

  pub reply-is : d.reply ≡ reply.Begun k (log_end log) (log_end log)
  reply-is =
      next.reply ∙ ap (λ (x : Answered). x.reply) (begun-gives shape past d c w a (free c lt w less))
      ∙ ap reply_of_begin (end-begins shape c past legal (up c lt) (moment shape past) k rest first)

  pub notes-are : (e : ℕ) → diary shape e (d ∷ past) ≡ cond (c == e) (Began w (new e) ∷ []) [] ++ diary shape e past
  notes-are e =
      notes-next shape e past d legal
      ∙ (λ i. cond (restarts e (a i)) [] (notes_taken e (a i) (reply-is i) (moment shape past) (begun-nothing shape past d c w a (free c lt w less) i) (diary shape e past) ++ diary shape e past))

  -- It is the only sync that is under way then.
  pub only : (e v : ℕ) (b : Basis) → e < shape.controllers → v < shape.workers → register v (diary shape e (d ∷ past)) ≡ Some b → (c ≡ e) × (w ≡ v) × (new e ≡ b)
  only e v b lt' less' r = by (c == e) refl (sym (ap (register v) (notes-are e)) ∙ r)
    where
      by : (t : Bool) → (c == e) ≡ t → register v (cond t (Began w (new e) ∷ []) [] ++ diary shape e past) ≡ Some b → (c ≡ e) × (w ≡ v) × (new e ≡ b)
      by false s r = absurd (none_some b (sym (free e lt' v less') ∙ r))
      by true s r = here (w == v) refl r
        where
          here : (u : Bool) → (w == v) ≡ u → unwrap_or (option_or (cond u (Some (Some (new e))) None) (newest (register_told v) (diary shape e past))) None ≡ Some b → (c ≡ e) × (w ≡ v) × (new e ≡ b)
          here true q r = (eqb-true c e s, eqb-true w v q, some_is (new e) b r)
          here false q r = absurd (none_some b (sym (free e lt' v less') ∙ r))

  pub begun-alone : (e v : ℕ) (b : Basis) → e < shape.controllers → v < shape.workers → register v (diary shape e (d ∷ past)) ≡ Some b → IsAlone shape (d ∷ past) e v
  begun-alone e v b lt' less' r f u lt'' less'' s =
      let it = only e v b lt' less' r in let x = used (register u (diary shape f (d ∷ past))) s in let other = only f u x.0 lt'' less'' x.1 in
      (sym it.0 ∙ other.0, sym it.1 ∙ other.1)

-- ---- a settle

module _ (shape : Shape) (some : 0 < shape.workers) (past : List Deed) where
  -- What begins no sync, and writes nothing but by the sync that is alone.
  goes-on : (d : Deed) (run : List Deed) (c w : ℕ) (basis : Basis) → IsLegal shape (run ++ past) → is_begin_of_any d.act ≡ false
      → (RunsAlone shape run past c w basis → (d.act ≡ does.Step c w) ⊎ AppendsNothing shape (run ++ past) d) → IsOldOrAlone shape run past c w basis → IsOldOrAlone shape (d ∷ run) past c w basis
  goes-on d run c w basis legal n own (inl h) = inl ((n, h.0), h.1)
  goes-on d run c w basis legal n own (inr h) = inr (record {
    since = d ∷ h.since;
    begin = h.begin;
    before = h.before;
    parts = ap (λ l. d ∷ l) h.parts;
    act = h.act;
    reply = h.reply;
    none = h.none;
    saw = h.saw;
    own = (subst (λ l. (d.act ≡ does.Step c w) ⊎ AppendsNothing shape l d) place (own h), h.own);
    alone = λ e v lt less u. h.alone e v lt less (still e v (used (register v (diary shape e (d ∷ run ++ past))) u));
  })
    where
      place : run ++ past ≡ h.since ++ h.begin ∷ (h.before ++ past)
      place = ap (λ l. l ++ past) h.parts ∙ append_assoc h.since (h.begin ∷ h.before) past

      still : (e v : ℕ) → (b : Basis) × (register v (diary shape e (d ∷ run ++ past)) ≡ Some b) → is_some (register v (diary shape e (run ++ past))) ≡ true
      still e v x = ap is_some (register-kept shape e v d (run ++ past) x.0 legal n x.1)

  pub serial : (run : List Deed) → IsLegal shape (run ++ past) → IsSettling shape run past → (c w : ℕ) (basis : Basis)
      → c < shape.controllers → w < shape.workers → register w (diary shape c (run ++ past)) ≡ Some basis
      → IsOldOrAlone shape run past c w basis
  serial [] legal h c w basis lt less r = inl (tt, r)
  serial (d ∷ run) legal h c w basis lt less r =
      by (λ n. serial run legal.1 h.1 c w basis lt less (register-kept shape c w d (run ++ past) basis legal.1 n r)) (first-of-act d.act _ h.0)
    where
      never : is_begin_of_any d.act ≡ false → NoSyncIsUnderWay shape (run ++ past) (log_given shape (run ++ past)) → ⊥
      never n free = none_some basis (sym (free c lt w less) ∙ register-kept shape c w d (run ++ past) basis legal.1 n r)

      no-begin : (x y : Sys) → act_of_system x ≡ d.act → x ≡ y → is_begin_of_any (act_of_system y) ≡ false → is_begin_of_any d.act ≡ false
      no-begin x y a e n = ap is_begin_of_any (sym a ∙ ap act_of_system e) ∙ n

      act-is : (x y : Sys) → act_of_system x ≡ d.act → x ≡ y → d.act ≡ act_of_system y
      act-is x y a e = sym a ∙ ap act_of_system e

      case : (is_begin_of_any d.act ≡ false → IsOldOrAlone shape run past c w basis) → (x : Sys) → act_of_system x ≡ d.act → Comes shape (run ++ past) (log_given shape (run ++ past)) x → IsOldOrAlone shape (d ∷ run) past c w basis
      case before x a (Lists e kind lt' is n) =
          let q = no-begin x (sys.List e kind) a is refl in
          goes-on d run c w basis legal.1 q (λ it. inr (listed-nothing shape (run ++ past) d e kind (act-is x (sys.List e kind) a is))) (before q)
      case before x a (Delivers e kind version lt' is n less') =
          let q = no-begin x (sys.Deliver e kind) a is refl in
          goes-on d run c w basis legal.1 q (λ it. inr (told-nothing shape (run ++ past) d e kind (act-is x (sys.Deliver e kind) a is))) (before q)
      case before x a (Steps up e v begun lt' less' is reg) =
          let q = no-begin x (sys.Step e v) a is refl in
          goes-on d run c w basis legal.1 q (λ it. let same = it.alone e v lt' less' (ap is_some reg) in inl (act-is x (sys.Step e v) a is ∙ (λ i. does.Step (sym same.0 i) (sym same.1 i)))) (before q)
      case before x a (Begins up free e v k rest lt' is first) = inr (record {
        since = [];
        begin = d;
        before = run;
        parts = refl;
        act = act ∙ (λ i. does.Begin (it.0 i) (it.1 i));
        reply = reply-is shape (run ++ past) legal.1 d legal.0 up free e v k rest lt' less' act first ∙ ap (λ (b : Basis). reply.Begun b.key b.jobs_at b.pods_at) it.2;
        none = free;
        saw = sym it.2 ∙ ap (λ k. basis_of (diary shape c (run ++ past)) (log_given shape (run ++ past))
            (moment shape (run ++ past)) k (log_end (log_given shape (run ++ past)))
            (log_end (log_given shape (run ++ past)))) (ap (λ (b : Basis). b.key) it.2);
        own = tt;
        alone = begun-alone shape (run ++ past) legal.1 d legal.0 up free e v k rest lt' less' act first c w basis lt less r;
      })
        where
          act : d.act ≡ does.Begin e v
          act = act-is x (sys.Begin e v) a is

          less' : v < shape.workers
          less' = (subst (IsOfShape shape) act legal.0.within).1

          it : (e ≡ c) × (v ≡ w) × (basis_of (diary shape c (run ++ past)) (log_given shape (run ++ past)) (moment shape (run ++ past)) k (log_end (log_given shape (run ++ past))) (log_end (log_given shape (run ++ past))) ≡ basis)
          it = only shape (run ++ past) legal.1 d legal.0 up free e v k rest lt' less' act first c w basis lt less r
      case before x a (Acts up free none step is s) = absurd (never (no-begin x sys.Node a is refl) free)
      case before x a (Ticks up free none idle due is s) = absurd (never (no-begin x (sys.Clock (due - moment shape (run ++ past))) a is refl) free)

      by : (is_begin_of_any d.act ≡ false → IsOldOrAlone shape run past c w basis) → (x : Sys)
          × (first_event (available shape (run ++ past) (log_given shape (run ++ past))) ≡ Some (event.System x))
          × (act_of_system x ≡ d.act) → IsOldOrAlone shape (d ∷ run) past c w basis
      by before y = case before y.0 y.2 (first-comes shape (run ++ past) y.0 legal.1 some y.1)

  -- So of the registers that were free before it one at most is in use, and then no other is.
  pub one-at-most : (run : List Deed) → IsLegal shape (run ++ past) → IsSettling shape run past → (c w : ℕ)
      → c < shape.controllers → w < shape.workers → register w (diary shape c past) ≡ None
      → is_some (register w (diary shape c (run ++ past))) ≡ true → IsAlone shape (run ++ past) c w
  one-at-most run legal h c w lt less free u = by (used (register w (diary shape c (run ++ past))) u)
    where
      of : (basis : Basis) → IsOldOrAlone shape run past c w basis → IsAlone shape (run ++ past) c w
      of basis (inl g) = absurd (none_some basis (sym free ∙ g.1))
      of basis (inr g) = g.alone

      by : (b : Basis) × (register w (diary shape c (run ++ past)) ≡ Some b) → IsAlone shape (run ++ past) c w
      by x = of x.0 (serial run legal h c w x.0 lt less x.1)
