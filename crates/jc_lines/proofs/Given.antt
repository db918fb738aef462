-- In a legal history what came before an event and a glimpse of it give all of it.
use Rattle.std.proofs.Common.{◌≡◌, ℕ, List, [], ◌∷◌, ◌++◌, length, map, reverse, Option, Some, None, refl, sym, ap, subst, ◌∙◌, append_assoc}
use Rattle.std.proofs.lemmas.Grind.{reverse_onto}
use Rattle.std.proofs.lemmas.List.{append-nil}
use Rattle.jc_history.specs.Legal.{ComesNext, InLanes, IsHistory, IsLegal, IsLegalNext, next_command}
use Rattle.jc_history.specs.Replies.{log_after, log_given, reply_given}
use Rattle.jc_lines.specs.Told.{Follow, Glimpse, OfLane, OfSystem, glimpse}
use Rattle.jc_log.specs.Deeds.{Deed, act_of_event, deed}
use Rattle.jc_types.specs.declared.actions.Command.{Command}
use Rattle.jc_types.specs.declared.actions.Script.{Script}
use Rattle.jc_types.specs.declared.replies.Reply.{Reply}
use Rattle.jc_types.specs.declared.runs.Event.{Event}
use Rattle.jc_types.specs.declared.runs.Event.TheVariants as event
use Rattle.jc_types.specs.declared.runs.History.{History}
use Rattle.jc_types.specs.declared.runs.Past.{Past}
use Rattle.jc_types.specs.declared.runs.Shape.{Shape}

-- The number that is there.
abbrev number_in : Option ℕ → ℕ
number_in None = 0
number_in (Some n) = n

-- The event that is glimpsed behind the events before.
abbrev event_given : List Command → List Past → Glimpse → Event
event_given commands before (OfLane lane) = event.Command lane (number_in (next_command commands lane before))
event_given commands before (OfSystem system) = event.System system

event_is_given : (commands : List Command) (before : List Past) (e : Event) → ComesNext commands before e
    → e ≡ event_given commands before (glimpse e)
event_is_given commands before (event.Command lane number) next = ap (λ o. event.Command lane (number_in o)) (sym next)
event_is_given commands before (event.System system) next = refl

-- An event with its answer and the log's length.
abbrev past_as : Event → Reply → ℕ → Past
past_as e r n = record { event = e; reply = r; length = record { 0 = n } }

past_is : (p : Past) (r : Reply) (n : ℕ) → p.reply ≡ r → p.length.0 ≡ n → p ≡ past_as p.event r n
past_is p r n same at = ap (λ (s : Reply). past_as p.event s p.length.0) same ∙ ap (past_as p.event r) at

module _ (script : Script) (shape : Shape) where
  -- What the event is answered behind the events before, newest first.
  abbrev answered : List Past → Event → Past
  answered before e =
      let past = map (deed script) before in
      let act = act_of_event script.commands e in
      past_as e (reply_given shape past (log_given shape past) act) (length (log_after shape past (log_given shape past) act))

  -- What a glimpse of an event gives.
  abbrev pub given : List Past → Glimpse → Past
  given before g = answered before (event_given script.commands before g)

  is_answered : (before : List Past) (p : Past) → IsLegalNext shape (map (deed script) before) (deed script p)
      → p ≡ answered before p.event
  unfolding log_given
  is_answered before p legal = past_is p _ _ legal.reply legal.length

  is_given : (before : List Past) (p : Past) → IsLegalNext shape (map (deed script) before) (deed script p)
      → ComesNext script.commands before p.event → p ≡ given before (glimpse p.event)
  is_given before p legal next =
      is_answered before p legal ∙ ap (answered before) (event_is_given script.commands before p.event next)

  older_are_legal : (newer before : List Past) → IsLegal shape (map (deed script) (newer ++ before))
      → IsLegal shape (map (deed script) before)
  older_are_legal [] before legal = legal
  older_are_legal (p ∷ newer) before legal = older_are_legal newer before legal.1

  older_are_in_lanes : (newer before : List Past) → InLanes script.commands (newer ++ before) → InLanes script.commands before
  older_are_in_lanes [] before lanes = lanes
  older_are_in_lanes (p ∷ newer) before lanes = older_are_in_lanes newer before lanes.1

  turned : (p : Past) (hs before : List Past) → reverse (p ∷ hs) ++ before ≡ reverse hs ++ (p ∷ before)
  turned p hs before =
      ap (λ l. l ++ before) (reverse_onto hs p []) ∙ append_assoc (reverse hs) (p ∷ []) before

  follow : (before hs : List Past) → IsLegal shape (map (deed script) (reverse hs ++ before))
      → InLanes script.commands (reverse hs ++ before) → Follow given before hs
  follow before [] legal lanes = tt
  follow before (p ∷ hs) legal lanes =
      let same = turned p hs before in
      let all = subst (λ (l : List Past). IsLegal shape (map (deed script) l)) same legal in
      let each = subst (λ (l : List Past). InLanes script.commands l) same lanes in
      let last = older_are_legal (reverse hs) (p ∷ before) all in
      let next = older_are_in_lanes (reverse hs) (p ∷ before) each in
      (is_given before p last.0 next.0, follow (p ∷ before) hs all each)

  -- The deeds of a history are those of its events, newest first.
  map_onto : (xs ys : List Past) → reverse (map (deed script) xs) ++ map (deed script) ys ≡ map (deed script) (reverse xs ++ ys)
  map_onto [] ys = refl
  map_onto (x ∷ xs) ys =
      ap (λ (l : List Deed). l ++ map (deed script) ys) (reverse_onto (map (deed script) xs) (deed script x) [])
      ∙ append_assoc (reverse (map (deed script) xs)) (deed script x ∷ []) (map (deed script) ys)
      ∙ map_onto xs (x ∷ ys)
      ∙ ap (map (deed script)) (sym (turned x xs ys))

  pub histories_follow : (h : History) → IsHistory script shape h → Follow given [] h.events.items
  histories_follow h legal =
      let items = h.events.items in
      follow [] items
      (subst (λ (l : List Deed). IsLegal shape l) (sym (append-nil _) ∙ map_onto items []) legal.legal)
      (subst (λ (l : List Past). InLanes script.commands l) (sym (append-nil _)) legal.lanes)
