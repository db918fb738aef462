use Rattle.std.proofs.Common.{◌≡◌, Option, Some, None, option_map, refl, sym, ◌∙◌, rules, tests}
use Rattle.std.proofs.lemmas.Iterator.{YieldsList-from_slice}
use Rattle.std.proofs.lemmas.Iterator.Consumers.{nth_from_yields_List, YieldsList-at, YieldsList-from_copied, YieldsList-from_filter}
use Rattle.jc_account.specs.declared.judgements.Judgement.{Judgement}
use Rattle.jc_account.specs.Rooms.{joins_list}
use Rattle.jc_account.proofs.rooms.joining_row.Goals as goal

itself : (o : Option Judgement) → option_map (λ (row : Judgement). row) o ≡ o
itself None = refl
itself (Some row) = refl

-- The row at the place is that of the rows that join a list.
pub returns : goal.returns
returns c =
    sym (itself c.nth.result)
    ∙ nth_from_yields_List c.nth.result _ c.args.place c.nth.ensures.ran
    (YieldsList-from_filter _ (λ (row : Judgement). joins_list c.args.mode row.outcome)
    (YieldsList-at c.filter.ensures.source (YieldsList-from_copied (YieldsList-at c.copied.ensures.source (YieldsList-from_slice c.args.rows.now (cc)))))
    c.filter.ensures.closure (λ x r q k. search (rules, tests)))
