use Rattle.jc_table.proofs.PageFacts.{page-there, place-there, set-are, set-now}
use Rattle.jc_table.proofs.numbered.Numbered.set.Goals as goal
use Rattle.std.proofs.Common.{◌%◌, arith, refl}

-- The number has a page.
pub index_mut-requires : goal.index_mut-requires
index_mut-requires g c =
    let h = page-there c.self.inside.pages.items c.self.inside.count c.self.invariant c.args.self.now c.self.view_is c.args.number c.page_of.result (c.args.number % 64) c.page_of.ensures refl c.requires in
    omega (arith, h, c.self.inside.pages.ok.0)

-- Its page has the place.
pub index_mut-requires-2 : goal.index_mut-requires-2
index_mut-requires-2 g c =
    let h = page-there c.self.inside.pages.items c.self.inside.count c.self.invariant c.args.self.now c.self.view_is c.args.number c.page_of.result c.place_of.result c.page_of.ensures c.place_of.ensures c.requires in
    let k = place-there c.self.inside.pages.items c.self.inside.count c.self.invariant c.args.self.now c.self.view_is c.args.number c.page_of.result c.place_of.result c.page_of.ensures c.place_of.ensures
    c.index_mut.result.now h c.index_mut.ensures.value c.requires in
    omega (arith, k, c.index_mut.result.now.ok.0)

pub invariant_of-self : goal.invariant_of-self
invariant_of-self g c =
    let h = page-there c.self.inside.pages.items c.self.inside.count c.self.invariant c.args.self.now c.self.view_is c.args.number c.page_of.result c.place_of.result c.page_of.ensures c.place_of.ensures c.requires in
    let k = place-there c.self.inside.pages.items c.self.inside.count c.self.invariant c.args.self.now c.self.view_is c.args.number c.page_of.result c.place_of.result c.page_of.ensures c.place_of.ensures
    c.index_mut.result.now h c.index_mut.ensures.value c.requires in
    set-are c.self.inside.pages.items c.self.inside.count c.self.invariant c.args.self.now c.self.view_is c.args.number c.page_of.result c.place_of.result c.page_of.ensures c.place_of.ensures
    c.index_mut.result.now h c.index_mut.ensures.value c.index_mut-2.result.now k c.index_mut-2.ensures.value c.args.value _ refl c.requires

pub returns : goal.returns
returns g c =
    let h = page-there c.self.inside.pages.items c.self.inside.count c.self.invariant c.args.self.now c.self.view_is c.args.number c.page_of.result c.place_of.result c.page_of.ensures c.place_of.ensures c.requires in
    let k = place-there c.self.inside.pages.items c.self.inside.count c.self.invariant c.args.self.now c.self.view_is c.args.number c.page_of.result c.place_of.result c.page_of.ensures c.place_of.ensures
    c.index_mut.result.now h c.index_mut.ensures.value c.requires in
    set-now c.self.inside.pages.items c.self.inside.count c.self.invariant c.args.self.now c.self.view_is c.args.number c.page_of.result c.place_of.result c.page_of.ensures c.place_of.ensures
    c.index_mut.result.now h c.index_mut.ensures.value c.index_mut-2.result.now k c.index_mut-2.ensures.value c.args.value _ refl c.requires
