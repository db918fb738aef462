-- The deeds of a history whose events stand oldest first.
use Rattle.std.proofs.Common.{◌≡◌, List, [], ◌∷◌, ◌++◌, map, reverse, refl, sym, ap, ◌∙◌}
use Rattle.std.proofs.lemmas.List.{map-append, reverse-append}
use Rattle.jc_types.specs.declared.actions.Script.{Script}
use Rattle.jc_types.specs.declared.runs.Past.{Past}
use Rattle.jc_log.specs.Deeds.{deed}
use Rattle.jc_runs.specs.Seen.{deeds_in}

pub deeds-are : (script : Script) (items : List Past) → deeds_in script (reverse items) ≡ reverse (map (deed script) items)
deeds-are script [] = refl
deeds-are script (past ∷ items) =
    ap (map (deed script)) (reverse-append (past ∷ []) items)
    ∙ map-append (deed script) (reverse items) (past ∷ [])
    ∙ ap (λ some. some ++ deed script past ∷ []) (deeds-are script items)
    ∙ sym (reverse-append (deed script past ∷ []) (map (deed script) items))
