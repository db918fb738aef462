use Rattle.std.proofs.Common.{ap, length, sym, ◌∙◌}
use Rattle.std.proofs.lemmas.Bool.{eqb-true}
use Rattle.jc_types.specs.Keys.{same_uid}
use Rattle.jc_log.specs.Tables.{at}
use Rattle.jc_verdicts.proofs.FrontFacts.{front-none, front-short}
use Rattle.jc_verdicts.proofs.rows.first_rows.Goals as goal

-- No pod is still to be judged.
pub returns-then-is_empty : goal.returns-then-is_empty
returns-then-is_empty c =
    front-none c.args.spec.now (at same_uid c.args.known.now.entries) c.args.pods.now c.in_ok-rows.rows.items c.requires.mode c.requires.rising c.in_ok-rows.ensures
    (ap length (sym c.as_slice.ensures.value) ∙ eqb-true _ _ (sym c.is_empty.ensures ∙ c.if-is_empty.true))

-- The first for which there is room are judged.
pub returns : goal.returns
returns c =
    front-short c.args.spec.now (at same_uid c.args.known.now.entries) c.args.pods.now c.space-space.result c.in_ok-rows.rows.items c.truncate.new.self.items c.requires.mode c.requires.rising
    c.space-space.ensures c.in_ok-rows.ensures c.truncate.ensures.items
