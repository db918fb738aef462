-- What a walk has come to: a legal and orderly history of its script, whose commands are proper and all used.
use Rattle.std.proofs.Common.{◌≡◌, ℕ, suc, ◌+◌, ◌<◌, ◌≤◌, ◌==◌, Bool, true, false, cond, List, [], ◌∷◌, ◌++◌, length, reverse, drop, slice_get, Some, None, refl, sym, ap, ◌∙◌, subst, arith, eq-eqb, eqb-true, true≢false, ◌⊎◌, inl, inr}
use Rattle.std.proofs.Common.{append_assoc, append-nil}
use Rattle.std.proofs.lemmas.List.{length-reverse, reverse-append}
use Rattle.std.specs.List.{AllByRecursion as Each}
use Rattle.std.specs.Option.{option_or}
use Rattle.jc_types.specs.declared.actions.Command.{Command}
use Rattle.jc_types.specs.declared.runs.Event.{Event}
use Rattle.jc_types.specs.declared.runs.Event.TheVariants as event
use Rattle.jc_types.specs.declared.runs.Past.{Past}
use Rattle.jc_types.specs.declared.runs.Shape.{Shape}
use Rattle.jc_log.specs.Deeds.{Deed, act_of_system, deed}
use Rattle.jc_history.specs.Available.{IsOrderly, WasAvailable, available}
use Rattle.jc_history.specs.Legal.{InLanes, IsLegal, next_command, places_from}
use Rattle.jc_types.specs.declared.runs.Sys.{Sys}
use Rattle.jc_lines.specs.Events.{event_line, event_lines}
use Rattle.jc_reading.specs.Proper.{IsProperCommand}
use Rattle.jc_runs.specs.Seen.{Admits, Seen, deeds_seen, happened, log_seen, past_seen}
use Rattle.jc_play.specs.Longer.{extended}
use Rattle.jc_play.proofs.LaneFacts.{next_after, other_after}
use Rattle.jc_play.proofs.LongerScripts.{longer_next, same_deeds, still_in_lanes}
use Rattle.jc_audit.specs.Walks.{TakesLine, TakesCommand, TakesSystem, Walks, Begins, GoesOn, at_first, begun_command, last_line, line_of_last, with_command}
use Rattle.jc_audit.proofs.LastFacts.{begun_proper, each_more, happened_is_legal}
use Rattle.jc_lines.proofs.Texts.{event_lines-more as lines_more}

-- What holds after each line.
pub record IsWalked (shape : Shape) (seen : Seen) (text : List ℕ) : Type 0 where
  pub of_shape : seen.shape ≡ shape
  pub lanes : InLanes seen.script.commands seen.pasts
  pub used : (lane : ℕ) → next_command seen.script.commands lane seen.pasts ≡ None
  pub legal : IsLegal seen.shape (deeds_seen seen)
  pub orderly : IsOrderly seen.shape (deeds_seen seen)
  pub few : length seen.pasts ≤ seen.shape.events
  pub proper : Each IsProperCommand seen.script.commands
  pub lines : text ≡ event_lines 1 (reverse (deeds_seen seen))

-- ---- one line more

pub line_more : (past : List Deed) (d : Deed) → event_lines 1 (reverse past) ++ line_of_last (d ∷ past) ≡ event_lines 1 (reverse (d ∷ past))
line_more past d =
    ap (λ n. event_lines 1 (reverse past) ++ event_line (1 + n) d) (sym (length-reverse past))
    ∙ sym (lines_more 1 (reverse past) d) ∙ ap (event_lines 1) (sym (reverse-append (d ∷ []) past))

-- ---- lanes are used up

drop_past : {A : Type 0} (xs : List A) (x : A) → drop (length xs + 1) (xs ++ x ∷ []) ≡ []
drop_past [] x = refl
drop_past (y ∷ xs) x = let same : length (y ∷ xs) + 1 ≡ suc (length xs + 1) = omega arith in ap (λ n. drop n (y ∷ (xs ++ x ∷ []))) same ∙ drop_past xs x

module _ (commands : List Command) (command : Command) (before : List Past) (past : Past) (is : past.event ≡ event.Command command.lane (length commands)) (lanes : InLanes commands before)
    (used : (lane : ℕ) → next_command commands lane before ≡ None) where
  abbrev more : List Command
  more = commands ++ command ∷ []

  pub comes_next : next_command more command.lane before ≡ Some (length commands)
  comes_next =
      longer_next commands command command.lane before lanes
      ∙ ap (λ b. cond b (option_or (next_command commands command.lane before) (Some (length commands))) (next_command commands command.lane before)) (eq-eqb command.lane command.lane refl)
      ∙ ap (λ o. option_or o (Some (length commands))) (used command.lane)

  pub all_used : (lane : ℕ) → next_command more lane (past ∷ before) ≡ None
  all_used lane = decide (command.lane == lane) refl
    where
      decide : (b : Bool) → (command.lane == lane) ≡ b → next_command more lane (past ∷ before) ≡ None
      decide true same =
          let e : command.lane ≡ lane = eqb-true command.lane lane same in
          ap (λ l. next_command more l (past ∷ before)) (sym e)
          ∙ next_after more before command.lane (length commands) past comes_next is
          ∙ ap (λ cs. slice_get (places_from command.lane (length commands + 1) cs) 0) (drop_past commands command)
      decide false differ =
          other_after more before lane command.lane (length commands) past (λ e. true≢false (sym (eq-eqb command.lane lane e) ∙ differ)) is
          ∙ longer_next commands command lane before lanes
          ∙ ap (λ b. cond b (option_or (next_command commands lane before) (Some (length commands))) (next_command commands lane before)) differ
          ∙ used lane

-- ---- the steps of a walk

starts : (shape : Shape) → IsWalked shape (at_first shape) []
starts shape = record {
  of_shape = refl;
  lanes = tt;
  used = λ lane. refl;
  legal = tt;
  orderly = tt;
  few = omega arith;
  proper = tt;
  lines = refl;
}

module _ (shape : Shape) (seen : Seen) (text : List ℕ) (h : IsWalked shape seen text) (few : length seen.pasts < seen.shape.events) where
  by_command : (command : Command) → IsProperCommand command → Admits (extended seen (begun_command command)) (event.Command command.lane (length seen.script.commands))
      → IsWalked shape (with_command seen (begun_command command)) (text ++ last_line (with_command seen (begun_command command)))
  by_command command proper admits =
      let c = begun_command command in
      let ex = extended seen c in
      let e = event.Command command.lane (length seen.script.commands) in
      let same : deeds_seen ex ≡ deeds_seen seen = same_deeds seen.script c seen.pasts h.lanes in
      record {
        of_shape = h.of_shape;
        lanes = (admits.next, still_in_lanes seen.script.commands c seen.pasts h.lanes);
        used = all_used seen.script.commands c seen.pasts (past_seen ex e) refl h.lanes h.used;
        legal = happened_is_legal ex e admits (subst (λ (ds : List Deed). IsLegal seen.shape ds) (sym same) h.legal);
        orderly = (tt, subst (λ (ds : List Deed). IsOrderly seen.shape ds) (sym same) h.orderly);
        few = omega (arith, few);
        proper = each_more IsProperCommand seen.script.commands c h.proper (record { lane = proper.lane; action = begun_proper command.action proper.action });
        lines =
            ap (λ t. t ++ last_line (happened ex e)) (h.lines ∙ ap (λ (ds : List Deed). event_lines 1 (reverse ds)) (sym same))
            ∙ line_more (deeds_seen ex) (deed ex.script (past_seen ex e));
      }

  by_system : (e : Event) → (s : Sys) → e ≡ event.System s → Admits seen e → WasAvailable (act_of_system s) None (available seen.shape (deeds_seen seen) (log_seen seen))
      → IsWalked shape (happened seen (event.System s)) (text ++ last_line (happened seen (event.System s)))
  by_system e s is admits among =
      record {
        of_shape = h.of_shape;
        lanes = (tt, h.lanes);
        used = h.used;
        legal = happened_is_legal seen (event.System s) (subst (λ (x : Event). Admits seen x) is admits) h.legal;
        orderly = (among, h.orderly);
        few = omega (arith, few);
        proper = h.proper;
        lines = ap (λ t. t ++ last_line (happened seen (event.System s))) h.lines ∙ line_more (deeds_seen seen) (deed seen.script (past_seen seen (event.System s)));
      }

taken : (shape : Shape) (seen new : Seen) (text : List ℕ) → IsWalked shape seen text → TakesLine seen new → IsWalked shape new (text ++ last_line new)
taken shape seen new text h t = by t.one
  where
    by : TakesCommand seen new ⊎ TakesSystem seen new → IsWalked shape new (text ++ last_line new)
    by (inl c) = subst (λ (s : Seen). IsWalked shape s (text ++ last_line s)) (sym c.is) (by_command shape seen text h t.few c.command c.proper c.admits)
    by (inr s) = subst (λ (n : Seen). IsWalked shape n (text ++ last_line n)) (sym s.is) (by_system shape seen text h t.few (event.System s.system) s.system refl s.admits s.among)

pub walked : (shape : Shape) (seen : Seen) (text : List ℕ) → Walks shape seen text → IsWalked shape seen text
walked shape _ _ Begins = starts shape
walked shape _ _ (GoesOn seen new text before t) = taken shape seen new text (walked shape seen text before) t
