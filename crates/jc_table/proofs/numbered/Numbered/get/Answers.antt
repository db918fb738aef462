use Rattle.std.proofs.Common.{◌%◌, ◌≤◌, ap, length, nat_cmp, refl, subst, sym, ◌∙◌}
use Rattle.std.specs.BTreeMap.{is_at}
use Rattle.std.specs.Map.{lookup}
use Rattle.std.specs.Option.{option_copied}
use Rattle.jc_table.proofs.PageFacts.{get-none, get-none-in, get-some, item}
use Rattle.jc_table.proofs.numbered.Numbered.get.Goals as goal

-- The number has no page.
pub returns-in_err-page : goal.returns-in_err-page
returns-in_err-page g c =
    ap option_copied c.from_residual.ensures
    ∙ sym
    (get-none c.self.inside.pages.items c.self.invariant.short c.args.number c.page_of.result (c.args.number % 64) c.page_of.ensures refl
    (subst (λ pages. length pages ≤ c.page_of.result) c.deref.ensures.value c.in_err-page.ensures.lookup.3))
    ∙ ap (lookup (is_at (nat_cmp c.args.number))) c.self.view_is

-- Its page has no such place.
pub returns-in_err-get : goal.returns-in_err-get
returns-in_err-get g c =
    ap option_copied c.from_residual-in_err-get.ensures
    ∙ sym
    (get-none-in c.self.inside.pages.items c.self.invariant.short c.args.number c.page_of.result c.place_of.result c.page_of.ensures c.place_of.ensures c.in_ok-page.page.now
    (item c.self.inside.pages.items c.deref.result.now c.page_of.result c.in_ok-page.page.now c.deref.ensures.value c.in_ok-page.ensures.lookup.3.0 c.in_ok-page.ensures.lookup.1)
    (subst (λ page. length page ≤ c.place_of.result) c.deref-2.ensures.value c.in_err-get.ensures.lookup.3))
    ∙ ap (lookup (is_at (nat_cmp c.args.number))) c.self.view_is

pub returns : goal.returns
returns g c =
    c.as_ref.ensures.value
    ∙ sym
    (get-some c.self.inside.pages.items c.self.invariant.short c.args.number c.page_of.result c.place_of.result c.page_of.ensures c.place_of.ensures c.in_ok-page.page.now
    (item c.self.inside.pages.items c.deref.result.now c.page_of.result c.in_ok-page.page.now c.deref.ensures.value c.in_ok-page.ensures.lookup.3.0 c.in_ok-page.ensures.lookup.1)
    c.in_ok-get.field-0.now
    (item c.in_ok-page.page.now.items c.deref-2.result.now c.place_of.result c.in_ok-get.field-0.now c.deref-2.ensures.value c.in_ok-get.ensures.lookup.3.0 c.in_ok-get.ensures.lookup.1))
    ∙ ap (lookup (is_at (nat_cmp c.args.number))) c.self.view_is
