use Rattle.std.proofs.Common.{◌%◌, ◌≡◌, Some, ap, arith, is_some, nat_cmp, refl, slice_set, subst, sym, true≢false, ◌∙◌}
use Rattle.std.specs.BTreeMap.{is_at}
use Rattle.std.specs.Map.{set_value}
use Rattle.std.specs.Option.{IfSome}
use Rattle.std.specs.Vec.{with_item}
use Rattle.jc_table.specs.Pages.{paged}
use Rattle.jc_table.proofs.PageFacts.{page-there, place-now, place-some, place-there, set-are, set-now}
use Rattle.jc_table.proofs.numbered.Numbered+tuple2+K+V.set_second.Goals as goal

-- The number has a page.
pub index_mut-requires : goal.index_mut-requires
index_mut-requires g c =
    let h = page-there c.self.inside.pages.items c.self.inside.count c.self.invariant c.args.self.now c.self.view_is c.args.number c.page_of.result (c.args.number % 64) c.page_of.ensures refl c.requires in
    omega (arith, h, c.self.inside.pages.ok.0)

-- Its page has the place.
pub index_mut-place-requires : goal.index_mut-place-requires
index_mut-place-requires g c =
    let h = page-there c.self.inside.pages.items c.self.inside.count c.self.invariant c.args.self.now c.self.view_is c.args.number c.page_of.result c.place_of.result c.page_of.ensures c.place_of.ensures c.requires in
    let k = place-there c.self.inside.pages.items c.self.inside.count c.self.invariant c.args.self.now c.self.view_is c.args.number c.page_of.result c.place_of.result c.page_of.ensures
    c.place_of.ensures c.index_mut.result.now h c.index_mut.ensures.value c.requires in
    omega (arith, k, c.index_mut.result.now.ok.0)

-- The place has a value.
pub unreachable-requires : goal.unreachable-requires
unreachable-requires g c =
    let h = page-there c.self.inside.pages.items c.self.inside.count c.self.invariant c.args.self.now c.self.view_is c.args.number c.page_of.result c.place_of.result c.page_of.ensures c.place_of.ensures c.requires in
    let k = place-there c.self.inside.pages.items c.self.inside.count c.self.invariant c.args.self.now c.self.view_is c.args.number c.page_of.result c.place_of.result c.page_of.ensures
    c.place_of.ensures c.index_mut.result.now h c.index_mut.ensures.value c.requires in
    true≢false
    (sym (place-some c.self.inside.pages.items c.self.inside.count c.self.invariant c.args.self.now c.self.view_is c.args.number c.page_of.result c.place_of.result c.page_of.ensures
    c.place_of.ensures c.index_mut.result.now h c.index_mut.ensures.value c.index_mut-place.result.now k c.index_mut-place.ensures.value c.requires)
    ∙ ap is_some c.in_default.is)

pub invariant_of-self : goal.invariant_of-self
invariant_of-self g c =
    let h = page-there c.self.inside.pages.items c.self.inside.count c.self.invariant c.args.self.now c.self.view_is c.args.number c.page_of.result c.place_of.result c.page_of.ensures c.place_of.ensures c.requires in
    let k = place-there c.self.inside.pages.items c.self.inside.count c.self.invariant c.args.self.now c.self.view_is c.args.number c.page_of.result c.place_of.result c.page_of.ensures
    c.place_of.ensures c.index_mut.result.now h c.index_mut.ensures.value c.requires in
    set-are c.self.inside.pages.items c.self.inside.count c.self.invariant c.args.self.now c.self.view_is c.args.number c.page_of.result c.place_of.result c.page_of.ensures c.place_of.ensures
    c.index_mut.result.now h c.index_mut.ensures.value
    c.index_mut-place.result.now k c.index_mut-place.ensures.value (c.in-Some.value.0, c.args.second) _ refl c.requires

pub returns : goal.returns
returns g c =
    let h = page-there c.self.inside.pages.items c.self.inside.count c.self.invariant c.args.self.now c.self.view_is c.args.number c.page_of.result c.place_of.result c.page_of.ensures c.place_of.ensures c.requires in
    let k = place-there c.self.inside.pages.items c.self.inside.count c.self.invariant c.args.self.now c.self.view_is c.args.number c.page_of.result c.place_of.result c.page_of.ensures
    c.place_of.ensures c.index_mut.result.now h c.index_mut.ensures.value c.requires in
    let is = place-now c.self.inside.pages.items c.self.inside.count c.self.invariant c.args.self.now c.self.view_is c.args.number c.page_of.result c.place_of.result c.page_of.ensures
    c.place_of.ensures c.index_mut.result.now h c.index_mut.ensures.value c.index_mut-place.result.now k c.index_mut-place.ensures.value
    ∙ c.in-Some.is in
    subst
    (λ held.
    IfSome held
    (λ value.
    paged 0 (slice_set c.self.inside.pages.items c.page_of.result (with_item c.index_mut.result.now c.place_of.result (Some (c.in-Some.value.0, c.args.second))))
    ≡ set_value (is_at (nat_cmp c.args.number)) c.args.self.now (value.0, c.args.second)))
    (sym is)
    (set-now c.self.inside.pages.items c.self.inside.count c.self.invariant c.args.self.now c.self.view_is c.args.number c.page_of.result c.place_of.result c.page_of.ensures c.place_of.ensures
    c.index_mut.result.now h c.index_mut.ensures.value
    c.index_mut-place.result.now k c.index_mut-place.ensures.value (c.in-Some.value.0, c.args.second) _ refl c.requires)
