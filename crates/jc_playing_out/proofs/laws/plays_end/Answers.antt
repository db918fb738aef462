-- The lemmas on the end of each play.
use Rattle.std.proofs.Common.{◌⊎◌, inl, inr, map, sym, ap, ◌∙◌, arith}
use Rattle.jc_types.specs.declared.actions.Script.{Script}
use Rattle.jc_types.specs.declared.runs.Shape.{Shape}
use Rattle.jc_log.specs.Deeds.{deed, deeds}
use Rattle.jc_history.specs.Play.{Playing, deeds_played}
use Rattle.jc_settle.specs.Settles.{ComesToRest}
use Rattle.jc_finite.specs.Finite.{FillsACount}
use Rattle.jc_order.specs.Plays.{IsScriptFor, PlayEnds, allowing}
use Rattle.jc_playing_out.specs.PlayingOut.{PlayFillsACount}
use Rattle.jc_playing_out.proofs.DoneFacts.{Good}
use Rattle.jc_playing_out.proofs.FateFacts.{fates-end-well, fates-stop-well, fates-succeed, successes-count, well-stops}
use Rattle.jc_playing_out.proofs.LateFacts.{pasts-late}
use Rattle.jc_playing_out.proofs.SameFacts.{quiescent-same, within-same}
use Rattle.jc_playing_out.proofs.WholeFacts.{GoesOn, play-ends, play-rests}
use Rattle.jc_playing_out.proofs.laws.plays_end.Goals as goal

pub returns-clause-ends : goal.returns-clause-ends
returns-clause-ends c =
    λ script shape valid proper some start fine. play-rests script shape
    (λ q good. c.settles_end.ensures.rests shape (deeds_played script q) good.legal (c.valid_scripts_ask_valid.ensures script q.pasts valid) some start
    (c.settles_end.ensures.succeeding (deeds_played script q) (c.settles_end.ensures.always (deeds_played script q) (fates-succeed script fine q.pasts))))
    proper

pub returns-clause-in_the_end : goal.returns-clause-in_the_end
returns-clause-in_the_end c =
    λ script shape valid proper some start fine. play-rests script shape
    (λ q good. c.settles_end.ensures.rests shape (deeds_played script q) good.legal (c.valid_scripts_ask_valid.ensures script q.pasts valid) some start
    (fates-end-well script fine q.pasts))
    proper

-- In the place of rest, a container has restarted as often as is counted.
abbrev Out : Script → Shape → Playing → Type 0
Out script shape q = FillsACount shape (deeds_played script q)

ends-or-out : (script : Script) (shape : Shape) → IsScriptFor script shape → ((q : Playing) → Good script shape q → ComesToRest shape (deeds_played script q) ⊎ Out script shape q)
    → PlayEnds script shape ⊎ PlayFillsACount script shape
ends-or-out script shape proper rests = by (play-ends script shape (Out script shape) rests proper)
  where
    by : PlayEnds script shape ⊎ GoesOn script shape (Out script shape) rests → PlayEnds script shape ⊎ PlayFillsACount script shape
    by (inl ends) = inl ends
    by (inr on) = inr (record {
      place = on.place;
      events = on.events;
      pasts = on.to.pasts;
      plays = λ n le. ap (λ (p : Playing). p.pasts) (on.plays n le);
      next = on.next;
      stands = on.stands;
      settles = on.settles;
      out = on.found;
    })

pub returns-clause-stops : goal.returns-clause-stops
returns-clause-stops c =
    λ script shape valid proper some start fine. ends-or-out script shape proper
    (λ q good. c.settles_end.ensures.stops shape (deeds_played script q) good.legal (c.valid_scripts_ask_valid.ensures script q.pasts valid) some start
    (c.settles_end.ensures.kept shape (deeds_played script q) (fates-stop-well script fine q.pasts)))

pub returns-clause-late : goal.returns-clause-late
returns-clause-late c =
    λ script shape it few.
    let full = c.settles_end.ensures.late shape (map (deed script) it.pasts) it.out in
    let late = pasts-late script few it.pasts in
    omega (arith, full, late)

pub returns-clause-succeeding : goal.returns-clause-succeeding
returns-clause-succeeding c = successes-count

pub returns-clause-weaker : goal.returns-clause-weaker
returns-clause-weaker c = well-stops

pub returns-clause-rests : goal.returns-clause-rests
returns-clause-rests c =
    λ script shape proper settles it history out.
    sym (quiescent-same out.allowed shape (deeds script history))
    ∙ c.settled_plays_are_at_rest.ensures script (allowing out.allowed shape) (within-same out.allowed shape script.commands proper) history out.plays
    (it.unfull out.allowed out.enough) settles
