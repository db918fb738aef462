-- The deeds of a history: one more event is one more deed in front, and every prefix is a tail.
use Rattle.std.proofs.Common.{◌≡◌, ℕ, [], ◌∷◌, ◌++◌, map, reverse, take, length, sym, ap, ◌∙◌}
use Rattle.std.proofs.lemmas.List.{map-append, reverse-append, take-map, length-reverse, length-map}
use Rattle.jc_types.specs.declared.actions.Script.{Script}
use Rattle.jc_types.specs.declared.runs.History.{History}
use Rattle.jc_types.specs.declared.runs.Past.{Past}
use Rattle.jc_log.specs.Deeds.{deed, deeds}
use Rattle.jc_log.specs.Log.{upto}
use Rattle.jc_log.proofs.LogFacts.{upto-reverse}

-- One more event is one more deed, in front.
pub deeds-more : (script : Script) (old new : History) (past : Past) → new.events.items ≡ old.events.items ++ past ∷ [] → deeds script new ≡ deed script past ∷ deeds script old
deeds-more script old new past added =
    ap (λ events. reverse (map (deed script) events)) added
    ∙ ap reverse (map-append (deed script) old.events.items (past ∷ []))
    ∙ reverse-append (map (deed script) old.events.items) (deed script past ∷ [])

-- The deeds of the first n events are the first n deeds.
pub deeds-upto : (script : Script) (whole front : History) (n : ℕ) → front.events.items ≡ take n whole.events.items → upto n (deeds script whole) ≡ deeds script front
deeds-upto script whole front n first =
    upto-reverse n (map (deed script) whole.events.items)
    ∙ ap reverse (take-map (deed script) n whole.events.items)
    ∙ ap (λ events. reverse (map (deed script) events)) (sym first)

-- There are as many deeds as events.
pub length-deeds : (script : Script) (history : History) → length (deeds script history) ≡ length history.events.items
length-deeds script history =
    length-reverse (map (deed script) history.events.items) ∙ length-map history.events.items (deed script)
