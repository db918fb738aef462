use Rattle.std.proofs.Common.{◌∷◌, [], None, ap, arith, length, length-append, ◌∙◌}
use Rattle.jc_table.specs.Pages.{places}
use Rattle.jc_table.proofs.PageFacts.{places-push}
use Rattle.jc_table.proofs.numbered.grow_page.Goals as goal

-- One more place, which has no value.
pub loop-page-preserved : goal.loop-page-preserved
loop-page-preserved g c =
    let e = ap length c.in_ok-push.ensures.items in
    let more = length-append c.loop-page.page.items (None ∷ []) in
    record {
      same = λ n. ap (places n) c.in_ok-push.ensures.items ∙ places-push n c.loop-page.page.items ∙ c.loop-page.invariant.same n;
      short = omega (arith, e, more, c.loop-page.page.ok.0);
      grown = omega (arith, e, more);
    }
