use Rattle.std.proofs.Common.{◌≡◌, ◌-◌, ◌++◌, ◌∷◌, [], None, Some, ap, arith, get_or, length, length-append, sym, ◌∙◌}
use Rattle.std.specs.Option.{option_to_list}
use Rattle.jc_table.specs.Pages.{places}
use Rattle.jc_table.proofs.PageFacts.{places-push}
use Rattle.jc_table.proofs.numbered.trim.Goals as goal

-- One place less, which has no value.
pub loop-page-preserved : goal.loop-page-preserved
loop-page-preserved g c =
    let none : get_or c.loop-page.page.items (length c.loop-page.page.items - 1) None ≡ None =
    ap (λ page. get_or page (length page - 1) None) (sym c.deref.ensures.value) ∙ sym (c.in-Some-None.ensures.item.4 (omega arith) None) ∙ c.in-Some-None.field-0-is in
    let some = c.in-Some-None.ensures.item.3.0 in
    let out : c.pop.result ≡ Some None =
    c.pop.ensures.value None (omega (arith, some, c.loop-page.page.ok.0, ap length c.deref.ensures.value))
    ∙ ap (λ len. Some (get_or c.loop-page.page.items (len - 1) None)) c.loop-page.page.ok.0 ∙ ap Some none in
    let was : c.loop-page.page.items ≡ c.pop.new.self.items ++ None ∷ [] =
    c.pop.ensures.items ∙ ap (λ out. c.pop.new.self.items ++ option_to_list out) out in
    record {
      same = λ n. sym (places-push n c.pop.new.self.items) ∙ ap (places n) (sym was) ∙ c.loop-page.invariant.same n;
      shorter = omega (arith, ap length was, length-append c.pop.new.self.items (None ∷ []));
    }
