-- One line more of a history goes out.
use Rattle.std.proofs.Common.{◌≡◌, ℕ, ◌+◌, ◌<◌, false, List, [], ◌∷◌, ◌++◌, length, map, take, drop, Option, refl, sym, ap, ◌∙◌, subst, append_assoc}
use Rattle.std.proofs.Math.Seq.{take-length}
use Rattle.jc_io.specs.Moved.{AppendsFront}
use Rattle.jc_log.specs.Deeds.{Deed, deed}
use Rattle.jc_types.specs.declared.actions.Script.{Script}
use Rattle.jc_types.specs.declared.runs.Past.{Past}
use Rattle.jc_lines.specs.LongLines.{long_end, long_line}
use Rattle.jc_lines.specs.Events.{event_line, event_lines}
use Rattle.jc_lines.specs.Short.{is_short}
use Rattle.jc_lines.proofs.Texts.{events-more}
use Rattle.jc_report.specs.Sent.{Sends}
use Rattle.jc_report.proofs.AheadFacts.{Ahead, Next, lines-front, next-ahead, rest-ahead}
use Rattle.jc_report.proofs.SendFacts.{both, both-front, front-longer}

module _ (script : Script) (events : List Past) (place : ℕ) (past : Past) where
  -- The line of the event at the place, and those behind it.
  abbrev line : List ℕ
  line = event_line (place + 1) (deed script past)

  abbrev behind : List Deed
  behind = map (deed script) (drop (place + 1) events)

  abbrev before : List ℕ
  before = event_lines 1 (map (deed script) (take place events))

  -- ---- of the lines that were put together

  pub ahead-from : (at count : ℕ) (long ends : List ℕ) → drop place events ≡ past ∷ drop (place + 1) events
      → Ahead (place + 1) (map (deed script) (drop place events)) at count long ends
      → Ahead (place + 1) (deed script past ∷ map (deed script) (drop (place + 1) events)) at count long ends
  ahead-from at count long ends split = subst (λ (ds : List Deed). Ahead (place + 1) ds at count long ends) (ap (map (deed script)) split)

  pub next-line : (at count : ℕ) (long ends : List ℕ) → drop place events ≡ past ∷ drop (place + 1) events
      → Ahead (place + 1) (map (deed script) (drop place events)) at count long ends → is_short (deed script past) ≡ false
      → Next (place + 1) (deed script past) at count long ends
  next-line at count long ends split ahead =
      next-ahead (place + 1) (deed script past) behind at count long ends (ahead-from at count long ends split ahead)

  pub rest-lines : (at count next next_count : ℕ) (long ends : List ℕ) → drop place events ≡ past ∷ drop (place + 1) events
      → Ahead (place + 1) (map (deed script) (drop place events)) at count long ends
      → next ≡ at + length (long_line (place + 1) (deed script past)) → next_count ≡ count + length (long_end 0 (deed script past))
      → Ahead (place + 1 + 1) (map (deed script) (drop (place + 1) events)) next next_count long ends
  rest-lines at count next next_count long ends split ahead =
      rest-ahead (place + 1) (deed script past) behind at count long ends next next_count (ahead-from at count long ends split ahead)

  -- ---- of those that go out

  up_to : place < length events → take (place + 1) events ≡ take place events ++ past ∷ []
      → before ++ line ≡ event_lines 1 (map (deed script) (take (place + 1) events))
  up_to within more = events-more script events place past before (before ++ line) within more refl refl

  module _ (a b c : Option (List ℕ)) (p q r : List ℕ) where
    pub line-sent : place < length events → take (place + 1) events ≡ take place events ++ past ∷ []
        → Sends a p b q (event_lines 1 (map (deed script) (take place events)))
        → Sends b q c r (event_line (place + 1) (deed script past))
        → Sends a p c r (event_lines 1 (map (deed script) (take (place + 1) events)))
    line-sent within more first next = subst (Sends a p c r) (up_to within more) (both a b c p q r before line first next)

    pub line-failed : place < length events → take (place + 1) events ≡ take place events ++ past ∷ []
        → Sends a p b q (event_lines 1 (map (deed script) (take place events)))
        → AppendsFront b c (q ++ event_line (place + 1) (deed script past))
        → AppendsFront a c (p ++ event_lines 1 (map (deed script) events))
    line-failed within more first next =
        let others = event_lines (1 + length (map (deed script) (take (place + 1) events))) behind in
        let whole : (p ++ (before ++ line)) ++ others ≡ p ++ event_lines 1 (map (deed script) events) =
        append_assoc p (before ++ line) others
        ∙ ap (λ (l : List ℕ). p ++ (l ++ others)) (up_to within more)
        ∙ ap (λ (l : List ℕ). p ++ l) (sym (lines-front script events (place + 1))) in
        subst (AppendsFront a c) whole (front-longer a c (p ++ (before ++ line)) others (both-front a b c p q before line first next))

-- All lines of a history went out.
pub lines-sent : (script : Script) (events : List Past) (a b : Option (List ℕ)) (p q : List ℕ)
    → Sends a p b q (event_lines 1 (map (deed script) (take (length events) events))) → Sends a p b q (event_lines 1 (map (deed script) events))
lines-sent script events a b p q = subst (λ (l : List Past). Sends a p b q (event_lines 1 (map (deed script) l))) (take-length events)
