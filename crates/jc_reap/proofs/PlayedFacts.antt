-- The play of a reaper's commands: each delete and each mark finds what it is to find.
use Rattle.std.proofs.Common.{◌≡◌, ℕ, zero, suc, ◌+◌, ◌≤◌, Bool, true, false, cond, ◌||◌, nat_lt, List, [], ◌∷◌, ◌++◌, length, map, slice_get, Option, Some, refl, sym, ap, ◌∙◌, subst, arith, ne_eqb}
use Rattle.std.specs.List.{AllByRecursion as Each, Contains, list_any}
use Rattle.jc_types.specs.declared.actions.Action1.{Action1}
use Rattle.jc_types.specs.declared.actions.Action1.TheVariants as act
use Rattle.jc_types.specs.declared.actions.Command.{Command}
use Rattle.jc_types.specs.declared.actions.Script.{Script}
use Rattle.jc_types.specs.declared.numbers.Uid.{Uid}
use Rattle.jc_types.specs.declared.objects.Entry.{Entry}
use Rattle.jc_types.specs.declared.replies.Reply.{Reply}
use Rattle.jc_types.specs.declared.runs.Event.{Event}
use Rattle.jc_types.specs.declared.runs.Event.TheVariants as event
use Rattle.jc_types.specs.declared.runs.Shape.{Shape}
use Rattle.jc_types.specs.declared.runs.Sys.{Sys}
use Rattle.jc_types.specs.declared.runs.Sys.TheVariants as sys
use Rattle.jc_types.proofs.ListFacts.{Each-weaker}
use Rattle.jc_log.specs.Acts.{Act}
use Rattle.jc_log.specs.Acts as does
use Rattle.jc_log.specs.Deeds.{Deed, act_of_action, act_of_command, act_of_event, act_of_system, deed}
use Rattle.jc_runs.specs.Available.{available, is_quiescent}
use Rattle.jc_runs.specs.Legal.{IsLegalNext, IsOfShape, MaySettle}
use Rattle.jc_runs.specs.Play.{Playing, commanded, deeds_played, does_if, event_played, first_event, is_command, on_and_on, past_of, rest_played, settled_down, with_answer}
use Rattle.jc_runs.specs.Replies.{gives, log_after, log_given, reply_given}
use Rattle.jc_reap.specs.Finds.{AreDue, FindsDue}
use Rattle.jc_reap.specs.Reaping.{command, then_settle}
use Rattle.jc_reap.proofs.FindFacts.{Good, acts_of}

-- ---- acts that delete and mark nothing

abbrev pub IsCalm : Act → Type 0
IsCalm (does.Delete k) = ⊥
IsCalm (does.Mark u) = ⊥
IsCalm other = Unit {0}

calm-due : (ttl : Uid → Option ℕ) (shape : Shape) (past : List Deed) (reply : Reply) (act : Act) → IsCalm act → FindsDue ttl shape past act reply
calm-due ttl shape past reply (does.Create key spec) calm = tt
calm-due ttl shape past reply (does.Update key version change) calm = tt
calm-due ttl shape past reply (does.Delete key) calm = absurd calm
calm-due ttl shape past reply (does.Mark pod) calm = absurd calm
calm-due ttl shape past reply (does.Strip pod) calm = tt
calm-due ttl shape past reply (does.Finish pod exit) calm = tt
calm-due ttl shape past reply (does.Report pod change) calm = tt
calm-due ttl shape past reply (does.Fate key ends) calm = tt
calm-due ttl shape past reply (does.Clock add) calm = tt
calm-due ttl shape past reply (does.List c kind) calm = tt
calm-due ttl shape past reply (does.Deliver c kind) calm = tt
calm-due ttl shape past reply (does.Begin c w) calm = tt
calm-due ttl shape past reply (does.Step c w) calm = tt
calm-due ttl shape past reply does.Node calm = tt
calm-due ttl shape past reply (does.Restart c) calm = tt
calm-due ttl shape past reply (does.PutFault c w fault) calm = tt
calm-due ttl shape past reply does.Settle calm = tt
calm-due ttl shape past reply does.Unknown calm = tt

system-calm : (system : Sys) → IsCalm (act_of_system system)
system-calm (sys.List c kind) = tt
system-calm (sys.Deliver c kind) = tt
system-calm (sys.Begin c w) = tt
system-calm (sys.Step c w) = tt
system-calm sys.Node = tt
system-calm (sys.Clock add) = tt

-- ---- commands that are played as they stand

-- A mark, a clock or a delete.
abbrev pub IsPlain : Action1 → Type 0
IsPlain (act.Mark pod) = Unit {0}
IsPlain (act.Clock add) = Unit {0}
IsPlain (act.Delete key) = Unit {0}
IsPlain other = ⊥

-- It is played with nothing before and behind it, and asks nothing of the shape and of rest.
record Plays (script : Script) (shape : Shape) (action : Action1) (event : Event) (p : Playing) : Type 0 where
  same : commanded script shape action event p ≡ event_played script shape event p
  within : IsOfShape shape (act_of_action action)
  settled : (rests : Bool) → MaySettle (act_of_action action) rests

plain : (script : Script) (shape : Shape) (action : Action1) (event : Event) (p : Playing) → IsPlain action → Plays script shape action event p
plain script shape (act.Mark pod) event p is = record { same = refl; within = tt; settled = λ rests. tt }
plain script shape (act.Clock add) event p is = record { same = refl; within = tt; settled = λ rests. tt }
plain script shape (act.Delete key) event p is = record { same = refl; within = tt; settled = λ rests. tt }
plain script shape (act.Create key spec) event p is = absurd is
plain script shape (act.Update key version change) event p is = absurd is
plain script shape (act.Strip pod) event p is = absurd is
plain script shape (act.Finish pod exit) event p is = absurd is
plain script shape (act.Report pod change) event p is = absurd is
plain script shape (act.Fate key ends) event p is = absurd is
plain script shape (act.List c kind) event p is = absurd is
plain script shape (act.Deliver c kind) event p is = absurd is
plain script shape (act.Begin c w) event p is = absurd is
plain script shape (act.Sync c w) event p is = absurd is
plain script shape (act.Step c w) event p is = absurd is
plain script shape act.Node event p is = absurd is
plain script shape (act.Restart c) event p is = absurd is
plain script shape (act.PutFault c w fault) event p is = absurd is
plain script shape act.Settle event p is = absurd is

-- ---- one deed more

abbrev pub acts_in : List Deed → List Act
acts_in deeds = map (λ (d : Deed). d.act) deeds

-- What was there is there behind one more.
later : (a first : Act) (acts : List Act) → Contains acts a → Contains (first ∷ acts) a
later a first acts h = let below = h.1 in (suc h.0, omega (arith, below), h.2)

-- The acts of the commands, the last one first, before these.
abbrev pub onto : List Command → List Act → List Act
onto [] so = so
onto (c ∷ commands) so = onto commands (act_of_action c.action ∷ so)

pub each-onto : (P : Act → Type 0) (commands : List Command) (so : List Act) → Each P (onto commands so)
    → Each (λ (c : Command). P (act_of_action c.action)) commands × Each P so
each-onto P [] so h = (tt, h)
each-onto P (c ∷ commands) so h = let k = each-onto P commands (act_of_action c.action ∷ so) h in ((k.1.0, k.0), k.1.1)

-- What is asked of a play: all that came, unless it is full.
abbrev pub asked : Bool → List Act → List Act
asked true so = []
asked false so = so

module _ (ttl : Uid → Option ℕ) (shape : Shape) (start : List Deed) where
  -- The deeds went on from the start: each delete and each mark found what is due, and these acts are among them.
  pub record Came (so : List Act) (after : List Deed) : Type 0 where
    pub more : List Deed
    pub parts : after ≡ more ++ start
    pub due : AreDue ttl shape start more
    pub among : Each (λ (a : Act). Contains (acts_in more) a) so

  pub goes-nowhere : Came [] start
  goes-nowhere = record { more = []; parts = refl; due = tt; among = tt }

  -- Whatever is among them: a full play may have none.
  came-less : (so : List Act) (after : List Deed) → Came so after → Came [] after
  came-less so after c = record { more = c.more; parts = c.parts; due = c.due; among = tt }

  goes-on : (so : List Act) (past : List Deed) (d : Deed) → Came so past → FindsDue ttl shape past d.act d.reply → Came so (d ∷ past)
  goes-on so past d c finds = record {
    more = d ∷ c.more;
    parts = ap (λ (l : List Deed). d ∷ l) c.parts;
    due = (subst (λ (l : List Deed). FindsDue ttl shape l d.act d.reply) c.parts finds, c.due);
    among =
        Each-weaker (λ (a : Act). Contains (acts_in c.more) a) (λ (a : Act). Contains (acts_in (d ∷ c.more)) a)
        (λ a h. later a d.act (acts_in c.more) h) so c.among;
  }

  -- Its own act is among them then.
  goes-with : (act : Act) (so : List Act) (past : List Deed) (d : Deed) → d.act ≡ act → Came so past → FindsDue ttl shape past d.act d.reply
      → Came (act ∷ so) (d ∷ past)
  unfolding goes-on
  goes-with act so past d is c finds =
      let k = goes-on so past d c finds in
      record { more = d ∷ c.more; parts = k.parts; due = k.due; among = ((0, omega arith, is), k.among) }

  module _ (script : Script) where
    abbrev pub After : List Act → Playing → Type 0
    After so p = Came so (deeds_played script p)

    abbrev pub Ends : List Act → Playing → Type 0
    Ends so p = Came (asked p.full so) (deeds_played script p)

    ends : (so : List Act) (p : Playing) → After so p → Ends so p
    ends so p c = by p.full
      where
        by : (b : Bool) → Came (asked b so) (deeds_played script p)
        by true = came-less so (deeds_played script p) c
        by false = c

    ends-full : (so whole : List Act) (p : Playing) → p.full ≡ true → After so p → Ends whole p
    ends-full so whole p full c =
        subst (λ (b : Bool). Came (asked b whole) (deeds_played script p)) (sym full) (came-less so (deeds_played script p) c)

    -- An event that deletes and marks nothing.
    calm-event : (so : List Act) (event : Event) (p : Playing) → IsCalm (act_of_event script.commands event) → After so p → After so (event_played script shape event p)
    unfolding event_played
    calm-event so event p calm c = by (nat_lt (length p.pasts) shape.events)
      where
        by : (b : Bool) → After so (cond b (with_answer event (gives shape (deeds_played script p) p.log (act_of_event script.commands event)) p) (record p { full = true }))
        by true =
            let d = deed script (past_of event (gives shape (deeds_played script p) p.log (act_of_event script.commands event)) p.log) in
            goes-on so (deeds_played script p) d c (calm-due ttl shape (deeds_played script p) d.reply (act_of_event script.commands event) calm)
        by false = c

    -- What is available is done.
    turns : (so : List Act) (n : ℕ) (p : Playing) → After so p → After so (on_and_on script shape (λ q. first_event (available shape (deeds_played script q) q.log)) n p)
    turns so zero p c = c
    turns so (suc n) p c = by (available shape (deeds_played script p) p.log) (λ q a. turns so n q a)
      where
        by : (events : List Sys)
            → ((q : Playing) → After so q → After so (on_and_on script shape (λ q. first_event (available shape (deeds_played script q) q.log)) n q))
            → After so (does_if script shape (λ q. first_event (available shape (deeds_played script q) q.log)) (first_event events) (on_and_on script shape (λ q. first_event (available shape (deeds_played script q) q.log)) n) p)
        by [] more = c
        by (head ∷ events) more = on p.full
          where
            on : (b : Bool) → After so (cond b p (on_and_on script shape (λ q. first_event (available shape (deeds_played script q) q.log)) n (event_played script shape (event.System head) p)))
            on true = c
            on false = more (event_played script shape (event.System head) p) (calm-event so (event.System head) p (system-calm head) c)

    settles : (so : List Act) (p : Playing) → After so p → After so (settled_down script shape p)
    unfolding settled_down
    settles so p c = turns so (shape.events + 1) p c

    -- A full play stays as it is.
    full-rest : (commands : List Command) (place : ℕ) (p : Playing) → p.full ≡ true → rest_played script shape place commands p ≡ p
    full-rest [] place p full = refl
    full-rest (c ∷ commands) place p full =
        ap (λ (b : Bool). rest_played script shape (place + 1) commands
        (cond (b || list_any (is_command place) p.pasts) p (commanded script shape c.action (event.Command c.lane place) p))) full
        ∙ full-rest commands (place + 1) p full

    -- What comes last is a settle.
    last-settles : (so : List Act) (place : ℕ) (p : Playing) → slice_get script.commands place ≡ Some (command act.Settle) → After so p
        → After so (rest_played script shape place (command act.Settle ∷ []) p)
    last-settles so place p stands c = by (p.full || list_any (is_command place) p.pasts)
      where
        calm : IsCalm (act_of_command (slice_get script.commands place))
        calm = subst (λ (o : Option Command). IsCalm (act_of_command o)) (sym stands) tt

        by : (b : Bool) → After so (cond b p (event_played script shape (event.Command 0 place) (settled_down script shape p)))
        by true = c
        by false = calm-event so (event.Command 0 place) (settled_down script shape p) calm (settles so p c)

    -- ---- marks, clocks and deletes

    -- What is known before each.
    pub record IsAt (place : ℕ) (commands : List Command) (acts so : List Act) (p : Playing) : Type 0 where
      pub stands : (i : ℕ) → slice_get script.commands (place + i) ≡ slice_get commands i
      pub fresh : (n : ℕ) → place ≤ n → list_any (is_command n) p.pasts ≡ false
      pub log_is : p.log ≡ log_given shape (deeds_played script p)
      pub good : Good ttl shape (deeds_played script p) acts
      pub done : After so p

    module _ (c : Command) (commands : List Command) (acts so : List Act) (place : ℕ) (p : Playing) (is : IsPlain c.action)
        (h : IsAt place (c ∷ commands) (act_of_action c.action ∷ acts) so p) where
      abbrev own : Event
      own = event.Command c.lane place

      act-is : act_of_event script.commands own ≡ act_of_action c.action
      act-is = let here : place + 0 ≡ place = omega arith in ap act_of_command (ap (slice_get script.commands) (sym here) ∙ h.stands 0)

      abbrev its : Deed
      its = deed script (past_of own (gives shape (deeds_played script p) p.log (act_of_event script.commands own)) p.log)

      its-legal : IsLegalNext shape (deeds_played script p) its
      unfolding log_given
      its-legal =
          let k = plain script shape c.action own p is in
          record {
            within = subst (IsOfShape shape) (sym act-is) k.within;
            settled =
                subst (λ (a : Act). MaySettle a (is_quiescent shape (deeds_played script p) (log_given shape (deeds_played script p)))) (sym act-is)
                (k.settled (is_quiescent shape (deeds_played script p) (log_given shape (deeds_played script p))));
            reply = ap (λ (log : List Entry). reply_given shape (deeds_played script p) log (act_of_event script.commands own)) h.log_is;
            length = ap (λ (log : List Entry). length (log_after shape (deeds_played script p) log (act_of_event script.commands own))) h.log_is;
          }

      -- The play with it, where there is room.
      with-own : IsAt (place + 1) commands acts (act_of_action c.action ∷ so) (with_answer own (gives shape (deeds_played script p) p.log (act_of_event script.commands own)) p)
      unfolding log_given
      with-own =
          let found = h.good its act-is its-legal in
          record {
            stands = λ i. let next : place + 1 + i ≡ place + suc i = omega arith in ap (slice_get script.commands) next ∙ h.stands (suc i);
            fresh = λ n above.
                ap (λ (b : Bool). b || list_any (is_command n) p.pasts) (ne_eqb place n (λ e. omega (arith, e, above)))
                ∙ h.fresh n (omega (arith, above));
            log_is = ap (λ (log : List Entry). log_after shape (deeds_played script p) log (act_of_event script.commands own)) h.log_is;
            good = found.1;
            done =
                goes-with (act_of_action c.action) so (deeds_played script p) its act-is h.done
                (subst (λ (a : Act). FindsDue ttl shape (deeds_played script p) a its.reply) (sym act-is) found.0);
          }

    -- What the commands that are left are to come to.
    abbrev Next : List Command → List Command → List Act → List Act → ℕ → Type 0
    Next commands tail acts so place =
        (q : Playing) → IsAt place (commands ++ tail) (acts_of commands ++ acts) so q
        → Ends (onto commands so) (rest_played script shape place (commands ++ tail) q)

    plays : (commands : List Command) (tail : List Command) (acts so : List Act) (place : ℕ) (p : Playing)
        → Each (λ (c : Command). IsPlain c.action) commands
        → ((at : ℕ) (q : Playing) → IsAt at tail acts (onto commands so) q → Ends (onto commands so) (rest_played script shape at tail q))
        → IsAt place (commands ++ tail) (acts_of commands ++ acts) so p
        → Ends (onto commands so) (rest_played script shape place (commands ++ tail) p)
    unfolding event_played
    plays [] tail acts so place p all last h = last place p h
    plays (c ∷ commands) tail acts so place p all last h =
        by p.full refl (λ q g. plays commands tail acts (act_of_action c.action ∷ so) (place + 1) q all.1 last g)
      where
        room : (b : Bool) → Next commands tail acts (act_of_action c.action ∷ so) (place + 1)
            → Ends (onto commands (act_of_action c.action ∷ so)) (rest_played script shape (place + 1) (commands ++ tail)
            (cond b (with_answer (event.Command c.lane place) (gives shape (deeds_played script p) p.log (act_of_event script.commands (event.Command c.lane place))) p) (record p { full = true })))
        room true next = next _ (with-own c (commands ++ tail) (acts_of commands ++ acts) so place p all.0 h)
        room false next =
            subst (Ends (onto commands (act_of_action c.action ∷ so))) (sym (full-rest (commands ++ tail) (place + 1) (record p { full = true }) refl)) (came-less so (deeds_played script p) h.done)

        goes : Next commands tail acts (act_of_action c.action ∷ so) (place + 1)
            → Ends (onto commands (act_of_action c.action ∷ so)) (rest_played script shape (place + 1) (commands ++ tail) (event_played script shape (event.Command c.lane place) p))
        goes next = room (nat_lt (length p.pasts) shape.events) next

        at-test : (b : Bool) → b ≡ false → Next commands tail acts (act_of_action c.action ∷ so) (place + 1)
            → Ends (onto commands (act_of_action c.action ∷ so)) (rest_played script shape (place + 1) (commands ++ tail) (cond b p (commanded script shape c.action (event.Command c.lane place) p)))
        at-test b new next =
            subst (λ (b : Bool). Ends (onto commands (act_of_action c.action ∷ so)) (rest_played script shape (place + 1) (commands ++ tail) (cond b p (commanded script shape c.action (event.Command c.lane place) p)))) (sym new)
            (subst (λ (q : Playing). Ends (onto commands (act_of_action c.action ∷ so)) (rest_played script shape (place + 1) (commands ++ tail) q)) (sym (plain script shape c.action (event.Command c.lane place) p all.0).same) (goes next))

        by : (b : Bool) → p.full ≡ b → Next commands tail acts (act_of_action c.action ∷ so) (place + 1)
            → Ends (onto commands (act_of_action c.action ∷ so)) (rest_played script shape place (c ∷ (commands ++ tail)) p)
        by true full next = subst (Ends (onto commands (act_of_action c.action ∷ so))) (sym (full-rest (c ∷ (commands ++ tail)) place p full)) (ends-full so (onto commands (act_of_action c.action ∷ so)) p full h.done)
        by false full next =
            let here : place ≤ place = omega arith in
            at-test (p.full || list_any (is_command place) p.pasts)
            (ap (λ (b : Bool). b || list_any (is_command place) p.pasts) full ∙ h.fresh place here) next

    -- The whole list, with its settle.
    pub plays-all : (commands : List Command) (place : ℕ) (p : Playing) → Each (λ (c : Command). IsPlain c.action) commands
        → ((i : ℕ) → slice_get script.commands (place + i) ≡ slice_get (then_settle commands) i)
        → ((n : ℕ) → place ≤ n → list_any (is_command n) p.pasts ≡ false)
        → p.log ≡ log_given shape (deeds_played script p) → Good ttl shape (deeds_played script p) (acts_of commands ++ does.Settle ∷ []) → After [] p
        → Ends (onto commands []) (rest_played script shape place (then_settle commands) p)
    plays-all [] place p all stands fresh log_is good c = ends [] p c
    plays-all (first ∷ commands) place p all stands fresh log_is good c =
        plays (first ∷ commands) (command act.Settle ∷ []) (does.Settle ∷ []) [] place p all
        (λ at q h. let here : at + 0 ≡ at = omega arith in
        ends (onto (first ∷ commands) []) (rest_played script shape at (command act.Settle ∷ []) q)
        (last-settles (onto (first ∷ commands) []) at q (ap (slice_get script.commands) (sym here) ∙ h.stands 0) h.done))
        (record { stands = stands; fresh = fresh; log_is = log_is; good = good; done = c })
