-- The lines of a legal and orderly history of a script, whose commands are proper, are walked.
use Rattle.std.proofs.Common.{◌≡◌, ℕ, ◌<◌, ◌≤◌, List, [], ◌∷◌, ◌++◌, length, map, reverse, Option, Some, None, refl, sym, ap, ap₂, ◌∙◌, subst, arith, inl, inr}
use Rattle.std.proofs.lemmas.List.{length-map}
use Rattle.std.specs.List.{AllByRecursion as Each}
use Rattle.jc_types.specs.declared.actions.Command.{Command}
use Rattle.jc_types.specs.declared.actions.Script.{Script}
use Rattle.jc_types.specs.declared.runs.Event.{Event}
use Rattle.jc_types.specs.declared.runs.Event.TheVariants as event
use Rattle.jc_types.specs.declared.runs.Past.{Past}
use Rattle.jc_types.specs.declared.runs.Shape.{Shape}
use Rattle.jc_types.specs.declared.runs.Sys.{Sys}
use Rattle.jc_log.specs.Acts.{Act}
use Rattle.jc_log.specs.Deeds.{Deed, act_of_action, act_of_command, act_of_event, act_of_system, deed, lane_of}
use Rattle.jc_history.specs.Available.{IsOrderly, WasAvailable, available, is_quiescent}
use Rattle.jc_history.specs.Legal.{ComesNext, InLanes, IsLegal, IsLegalNext, IsOfShape, MaySettle, lane_count}
use Rattle.jc_history.specs.Replies.{log_given, next_deed}
use Rattle.jc_lines.specs.Events.{event_lines}
use Rattle.jc_reading.specs.Proper.{IsProperCommand}
use Rattle.jc_runs.specs.Seen.{Admits, IsDoable, Seen, act_seen, deeds_seen, happened}
use Rattle.jc_play.specs.Longer.{extended}
use Rattle.jc_play.proofs.LongerScripts.{same_deeds}
use Rattle.jc_audit.specs.Walks.{TakesLine, Walks, Begins, GoesOn, at_first, begun_command, line_of_last}
use Rattle.jc_audit.proofs.LastFacts.{begun_act, legal_is_next}
use Rattle.jc_lines.proofs.PlaceFacts.{IsAt, lane_at}
use Rattle.jc_log.proofs.LogFacts.{slice_get-after as get_last}
use Rattle.jc_audit.proofs.WalkFacts.{IsWalked, comes_next, line_more, walked}
use Rattle.jc_play.proofs.WholeFacts.{all-doable as doable}
use Rattle.jc_play.proofs.SystemFacts.{doable as system_doable}
use Rattle.jc_play.proofs.OrderFacts.{each-slice as each_at}

-- A walk that has come to these deeds.
pub record Comes (shape : Shape) (ds : List Deed) : Type 0 where
  pub seen : Seen
  pub walks : Walks shape seen (event_lines 1 (reverse ds))
  pub deeds : deeds_seen seen ≡ ds

-- The act may come after the deeds.
pub record MayCome (shape : Shape) (ds : List Deed) (a : Act) : Type 0 where
  pub within : IsOfShape shape a
  pub settled : MaySettle a (is_quiescent shape ds (log_given shape ds))

module _ (shape : Shape) (ds : List Deed) (c : Comes shape ds) where
  abbrev w : Seen
  w = c.seen

  abbrev so_far : List ℕ
  so_far = event_lines 1 (reverse ds)

  is : IsWalked shape c.seen (event_lines 1 (reverse ds))
  is = walked shape c.seen (event_lines 1 (reverse ds)) c.walks

  as_many : length c.seen.pasts ≡ length ds
  as_many = sym (length-map c.seen.pasts (deed c.seen.script)) ∙ ap length c.deeds

  -- The walk goes on to one deed more.
  on : (new : Seen) (d : Deed) → TakesLine c.seen new → deeds_seen new ≡ d ∷ ds → Comes shape (d ∷ ds)
  on new d t same = record {
    seen = new;
    walks = subst (λ (text : List ℕ). Walks shape new text) (ap (λ l. event_lines 1 (reverse ds) ++ line_of_last l) same ∙ line_more ds d) (GoesOn c.seen new (event_lines 1 (reverse ds)) c.walks t);
    deeds = same;
  }

  few_pasts : length ds < shape.events → length c.seen.pasts < c.seen.shape.events
  few_pasts few =
      let many = as_many in
      subst (λ (s : Shape). length c.seen.pasts < s.events) (sym is.of_shape) (omega (arith, many, few))

  -- A command.
  module _ (d : Deed) (few : length ds < shape.events) (legal : IsLegalNext shape ds d) (command : Command) (proper : IsProperCommand command) (lane : d.lane ≡ Some command.lane) (does : d.act ≡ act_of_action command.action) where
    abbrev ex : Seen
    ex = extended c.seen (begun_command command)

    abbrev e : Event
    e = event.Command command.lane (length c.seen.script.commands)

    same : deeds_seen ex ≡ ds
    same = same_deeds c.seen.script (begun_command command) c.seen.pasts is.lanes ∙ c.deeds

    acts : act_seen ex e ≡ d.act
    acts = ap act_of_command (get_last c.seen.script.commands (begun_command command)) ∙ begun_act command.action ∙ sym does

    may : MayCome ex.shape (deeds_seen ex) (act_seen ex e)
    may =
        let here : MayCome shape ds d.act = record { within = legal.within; settled = legal.settled } in
        subst (λ (s : Shape). MayCome s (deeds_seen ex) (act_seen ex e)) (sym is.of_shape)
        (subst (λ (l : List Deed). MayCome shape l (act_seen ex e)) (sym same)
        (subst (MayCome shape ds) (sym acts) here))

    admits : Admits ex e
    admits = record {
      next = comes_next c.seen.script.commands (begun_command command) c.seen.pasts (record { event = e; reply = d.reply; length = d.length }) refl is.lanes is.used;
      within = may.within;
      settled = may.settled;
      doable = subst IsDoable (sym (acts ∙ does)) (doable command.action);
    }

    pub on_command : Comes shape (d ∷ ds)
    on_command =
        on (happened ex e) d (record { few = few_pasts few; one = inl (record { command = command; proper = proper; admits = admits; is = refl }) })
        (ap (λ (s : Shape). next_deed s (deeds_seen ex) (Some command.lane) (act_seen ex e) ∷ deeds_seen ex) is.of_shape
        ∙ ap (λ (l : List Deed). next_deed shape l (Some command.lane) (act_seen ex e) ∷ l) same
        ∙ ap₂ (λ o a. next_deed shape ds o a ∷ ds) (sym lane) acts
        ∙ ap (λ x. x ∷ ds) (sym (legal_is_next shape ds d legal)))

  -- An event of the system.
  module _ (d : Deed) (few : length ds < shape.events) (legal : IsLegalNext shape ds d) (s : Sys) (lane : d.lane ≡ None) (does : d.act ≡ act_of_system s)
      (among : WasAvailable (act_of_system s) None (available shape ds (log_given shape ds))) where
    may_system : MayCome c.seen.shape (deeds_seen c.seen) (act_of_system s)
    may_system =
        let here : MayCome shape ds d.act = record { within = legal.within; settled = legal.settled } in
        subst (λ (t : Shape). MayCome t (deeds_seen c.seen) (act_of_system s)) (sym is.of_shape)
        (subst (λ (l : List Deed). MayCome shape l (act_of_system s)) (sym c.deeds)
        (subst (MayCome shape ds) does here))

    pub on_system : Comes shape (d ∷ ds)
    on_system =
        let admits : Admits c.seen (event.System s) = record { next = tt; within = may_system.within; settled = may_system.settled; doable = system_doable s } in
        let among_seen : WasAvailable (act_of_system s) None (available c.seen.shape (deeds_seen c.seen) (log_given c.seen.shape (deeds_seen c.seen))) =
        subst (λ (t : Shape). WasAvailable (act_of_system s) None (available t (deeds_seen c.seen) (log_given t (deeds_seen c.seen)))) (sym is.of_shape)
        (subst (λ (l : List Deed). WasAvailable (act_of_system s) None (available shape l (log_given shape l))) (sym c.deeds) among) in
        on (happened c.seen (event.System s)) d (record { few = few_pasts few; one = inr (record { system = s; admits = admits; among = among_seen; is = refl }) })
        (ap (λ (t : Shape). next_deed t (deeds_seen c.seen) None (act_of_system s) ∷ deeds_seen c.seen) is.of_shape
        ∙ ap (λ (l : List Deed). next_deed shape l None (act_of_system s) ∷ l) c.deeds
        ∙ ap₂ (λ o a. next_deed shape ds o a ∷ ds) (sym lane) (sym does)
        ∙ ap (λ x. x ∷ ds) (sym (legal_is_next shape ds d legal)))

-- ---- all deeds

module _ (script : Script) (shape : Shape) (proper : Each IsProperCommand script.commands) where
  pub comes_back : (pasts : List Past) → InLanes script.commands pasts → IsLegal shape (map (deed script) pasts) → IsOrderly shape (map (deed script) pasts) → length pasts ≤ shape.events
      → Comes shape (map (deed script) pasts)
  comes_back [] lanes legal orderly few = record { seen = at_first shape; walks = Begins; deeds = refl }
  comes_back (p ∷ pasts) lanes legal orderly few =
      by p.event refl lanes.0 orderly.0 (comes_back pasts lanes.1 legal.1 orderly.1 (omega (arith, few)))
    where
      many : length (map (deed script) pasts) ≡ length pasts
      many = length-map pasts (deed script)

      by : (e : Event) → p.event ≡ e → ComesNext script.commands pasts e
          → WasAvailable (deed script p).act (deed script p).lane (available shape (map (deed script) pasts) (log_given shape (map (deed script) pasts)))
          → Comes shape (map (deed script) pasts) → Comes shape (deed script p ∷ map (deed script) pasts)
      by (event.Command lane number) is next among c =
          let at : IsAt script.commands lane number = lane_at lane script.commands (lane_count lane pasts) number next in
          let lane_is : (deed script p).lane ≡ Some at.command.lane = ap lane_of is ∙ ap Some (sym at.of_lane) in
          let does : (deed script p).act ≡ act_of_action at.command.action = ap (act_of_event script.commands) is ∙ ap act_of_command at.found in
          on_command shape (map (deed script) pasts) c (deed script p) (omega (arith, few, many)) legal.0 at.command
          (each_at IsProperCommand script.commands number at.command proper at.found) lane_is does
      by (event.System s) is next among c =
          let lane_is : (deed script p).lane ≡ None = ap lane_of is in
          let does : (deed script p).act ≡ act_of_system s = ap (act_of_event script.commands) is in
          let all = available shape (map (deed script) pasts) (log_given shape (map (deed script) pasts)) in
          on_system shape (map (deed script) pasts) c (deed script p) (omega (arith, few, many)) legal.0 s lane_is does
          (subst (λ (a : Act). WasAvailable a None all) does (subst (λ (o : Option ℕ). WasAvailable (deed script p).act o all) lane_is among))
