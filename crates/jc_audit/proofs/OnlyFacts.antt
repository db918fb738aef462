-- The line of an event that is taken begins with the front of what was read of it, and of nothing else.
use Rattle.std.proofs.Common.{◌≡◌, ℕ, ◌+◌, ◌<◌, ◌^◌, List, [], ◌∷◌, ◌++◌, length, map, codes, decimal, refl, sym, ap, ap₂, ◌∙◌, arith, append_assoc}
use Rattle.jc_types.specs.declared.actions.Script.{Script}
use Rattle.jc_types.specs.declared.runs.Event.TheVariants as event
use Rattle.jc_types.specs.declared.runs.Past.{Past}
use Rattle.jc_log.specs.Deeds.{Deed, act_of_command, deed}
use Rattle.jc_lines.specs.ActTexts.{act_text}
use Rattle.jc_lines.specs.Events.{event_line, tag_text}
use Rattle.jc_reading.specs.Reads.{BeginsWith, IsProperRead, act_of_line, front_text}
use Rattle.jc_reading.specs.declared.reads.LineRead.{LineRead}
use Rattle.jc_lines.specs.ReplyTexts.{reply_text}
use Rattle.jc_runs.specs.Seen.{Seen, deeds_seen, past_seen}
use Rattle.jc_play.specs.Longer.{extended}
use Rattle.jc_audit.specs.Walks.{TakesCommand, TakesSystem, begun_command, last_line, read_of_command, read_of_system}
use Rattle.jc_audit.proofs.LastFacts.{begun_act}
use Rattle.jc_log.proofs.LogFacts.{slice_get-after as get_last}
use Rattle.jc_audit.proofs.LastPlace.{lengths}

-- The line of an event is its front, its reply and a line feed.
front_of_line : (n : ℕ) (d : Deed) → event_line n d ≡ front_text n d.lane d.act ++ (reply_text d.reply ++ codes "\n")
front_of_line n d =
    let tail = reply_text d.reply ++ codes "\n" in
    sym (append_assoc (decimal n) (32 ∷ (tag_text d.lane ++ 32 ∷ (act_text d.act ++ 32 ∷ 45 ∷ 62 ∷ 32 ∷ []))) tail
    ∙ ap (λ l. decimal n ++ 32 ∷ l) (append_assoc (tag_text d.lane) (32 ∷ (act_text d.act ++ 32 ∷ 45 ∷ 62 ∷ 32 ∷ [])) tail
    ∙ ap (λ l. tag_text d.lane ++ 32 ∷ l) (append_assoc (act_text d.act) (32 ∷ 45 ∷ 62 ∷ 32 ∷ []) tail)))

begins : (n : ℕ) (d : Deed) (rest more : List ℕ) (read : LineRead) → n < 2 ^ 64 → d.lane ≡ read.lane → d.act ≡ act_of_line read.act → rest ≡ event_line n d ++ more → BeginsWith rest read
begins n d rest more read few lane does is = record {
  number = n;
  few = few;
  rest = (reply_text d.reply ++ codes "\n") ++ more;
  is = is ∙ ap (λ l. l ++ more) (front_of_line n d) ∙ append_assoc (front_text n d.lane d.act) (reply_text d.reply ++ codes "\n") more
      ∙ ap₂ (λ l a. front_text n l a ++ ((reply_text d.reply ++ codes "\n") ++ more)) lane does;
}

pub command_begins : (seen new : Seen) (t : TakesCommand seen new) (rest more : List ℕ) → length seen.pasts + 1 < 2 ^ 64 → rest ≡ last_line new ++ more → BeginsWith rest (read_of_command seen new t)
command_begins seen new t rest more few is =
    let c = begun_command t.command in
    let ex = extended seen c in
    let e = event.Command t.command.lane (length seen.script.commands) in
    let long = lengths ex.script seen.pasts in
    begins (1 + length (deeds_seen ex)) (deed ex.script (past_seen ex e)) rest more (read_of_command seen new t) (omega (arith, long, few)) refl
    (ap act_of_command (get_last seen.script.commands c) ∙ begun_act t.command.action)
    (is ∙ ap (λ (s : Seen). last_line s ++ more) t.is)

pub command_proper : (seen new : Seen) (t : TakesCommand seen new) → IsProperRead (read_of_command seen new t)
command_proper seen new t = (t.proper.lane, t.proper.action)

pub system_begins : (seen new : Seen) (t : TakesSystem seen new) (rest more : List ℕ) → length seen.pasts + 1 < 2 ^ 64 → rest ≡ last_line new ++ more → BeginsWith rest (read_of_system seen new t)
system_begins seen new t rest more few is =
    let e = event.System t.system in
    let long = lengths seen.script seen.pasts in
    begins (1 + length (deeds_seen seen)) (deed seen.script (past_seen seen e)) rest more (read_of_system seen new t) (omega (arith, long, few)) refl refl
    (is ∙ ap (λ (s : Seen). last_line s ++ more) t.is)
