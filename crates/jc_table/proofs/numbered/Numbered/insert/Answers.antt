use Rattle.std.proofs.Common.{◌%◌, ◌≡◌, None, ap, arith, nat_cmp, refl, sym, ◌∙◌}
use Rattle.std.specs.BTreeMap.{is_at}
use Rattle.std.specs.Map.{lookup}
use Rattle.jc_table.specs.Pages.{ArePages}
use Rattle.jc_table.proofs.PageFacts.{get-none, get-none-in, grown-are, item, no-value, one-more, page-are, page-seen, put-are, put-now, put-place, short-get}
use Rattle.jc_table.proofs.ResultFacts.{on_err}
use Rattle.jc_table.proofs.numbered.Numbered.insert.Goals as goal

-- There is no page for the number.
pub returns-in_err-grow_pages-clause-absent : goal.returns-in_err-grow_pages-clause-absent
returns-in_err-grow_pages-clause-absent g c =
    on_err c.from_residual.result (lookup (is_at (nat_cmp c.args.number)) c.args.self.now ≡ None)
    (ap (lookup (is_at (nat_cmp c.args.number))) (sym c.self.view_is)
    ∙ get-none c.self.inside.pages.items c.self.invariant.short c.args.number c.page_of-page.result (c.args.number % 64) c.page_of-page.ensures refl c.in_err-grow_pages.ensures.missing)

pub grow_page-requires-clause-short : goal.grow_page-requires-clause-short
grow_page-requires-clause-short g c =
    short-get c.page_of-page.result c.grow_pages.new.pages.items c.index_mut-places.result.now c.grow_pages.ensures.short
    (item c.grow_pages.new.pages.items c.grow_pages.new.pages.items c.page_of-page.result c.index_mut-places.result.now refl c.in_ok-grow_pages.ensures.there c.index_mut-places.ensures.value)

-- There is no place for the number in its page.
pub invariant_of-self-in_err-grow_page : goal.invariant_of-self-in_err-grow_page
invariant_of-self-in_err-grow_page g c =
    let are : ArePages c.grow_pages.new.pages.items c.self.inside.count =
    grown-are c.self.inside.pages.items c.self.inside.count c.self.invariant c.args.self.now c.self.view_is c.grow_pages.new.pages.items c.grow_pages.ensures.short c.grow_pages.ensures.same in
    page-are c.grow_pages.new.pages.items c.self.inside.count are c.args.self.now (c.grow_pages.ensures.same ∙ c.self.view_is) c.page_of-page.result c.index_mut-places.result.now c.grow_page.new.page
    c.in_ok-grow_pages.ensures.there c.index_mut-places.ensures.value c.grow_page.ensures.same c.grow_page.ensures.short

pub returns-in_err-grow_page-clause-kept : goal.returns-in_err-grow_page-clause-kept
returns-in_err-grow_page-clause-kept g c =
    let are : ArePages c.grow_pages.new.pages.items c.self.inside.count =
    grown-are c.self.inside.pages.items c.self.inside.count c.self.invariant c.args.self.now c.self.view_is c.grow_pages.new.pages.items c.grow_pages.ensures.short c.grow_pages.ensures.same in
    on_err c.from_residual-in_err-grow_page.result _ (page-seen c.grow_pages.new.pages.items c.self.inside.count are c.args.self.now (c.grow_pages.ensures.same ∙ c.self.view_is) c.page_of-page.result
    c.index_mut-places.result.now c.grow_page.new.page c.in_ok-grow_pages.ensures.there c.index_mut-places.ensures.value c.grow_page.ensures.same c.grow_page.ensures.short)

pub returns-in_err-grow_page-clause-absent : goal.returns-in_err-grow_page-clause-absent
returns-in_err-grow_page-clause-absent g c =
    on_err c.from_residual-in_err-grow_page.result (lookup (is_at (nat_cmp c.args.number)) c.args.self.now ≡ None)
    (ap (lookup (is_at (nat_cmp c.args.number))) (sym (c.grow_pages.ensures.same ∙ c.self.view_is))
    ∙ get-none-in c.grow_pages.new.pages.items c.grow_pages.ensures.short c.args.number c.page_of-page.result c.place_of-place.result c.page_of-page.ensures c.place_of-place.ensures c.index_mut-places.result.now
    (item c.grow_pages.new.pages.items c.grow_pages.new.pages.items c.page_of-page.result c.index_mut-places.result.now refl c.in_ok-grow_pages.ensures.there c.index_mut-places.ensures.value)
    c.in_err-grow_page.ensures.missing)

-- There are as many values as there may be.
pub invariant_of-self-then-self-more-gt-MOST : goal.invariant_of-self-then-self-more-gt-MOST
invariant_of-self-then-self-more-gt-MOST g c =
    let are : ArePages c.grow_pages.new.pages.items c.self.inside.count =
    grown-are c.self.inside.pages.items c.self.inside.count c.self.invariant c.args.self.now c.self.view_is c.grow_pages.new.pages.items c.grow_pages.ensures.short c.grow_pages.ensures.same in
    page-are c.grow_pages.new.pages.items c.self.inside.count are c.args.self.now (c.grow_pages.ensures.same ∙ c.self.view_is) c.page_of-page.result c.index_mut-places.result.now c.grow_page.new.page
    c.in_ok-grow_pages.ensures.there c.index_mut-places.ensures.value c.grow_page.ensures.same c.grow_page.ensures.short

pub returns-then-self-more-gt-MOST-clause-kept : goal.returns-then-self-more-gt-MOST-clause-kept
returns-then-self-more-gt-MOST-clause-kept g c =
    let are : ArePages c.grow_pages.new.pages.items c.self.inside.count =
    grown-are c.self.inside.pages.items c.self.inside.count c.self.invariant c.args.self.now c.self.view_is c.grow_pages.new.pages.items c.grow_pages.ensures.short c.grow_pages.ensures.same in
    page-seen c.grow_pages.new.pages.items c.self.inside.count are c.args.self.now (c.grow_pages.ensures.same ∙ c.self.view_is) c.page_of-page.result c.index_mut-places.result.now
    c.grow_page.new.page c.in_ok-grow_pages.ensures.there c.index_mut-places.ensures.value c.grow_page.ensures.same c.grow_page.ensures.short

pub returns-then-self-more-gt-MOST-clause-absent : goal.returns-then-self-more-gt-MOST-clause-absent
returns-then-self-more-gt-MOST-clause-absent g c =
    let are : ArePages c.grow_pages.new.pages.items c.self.inside.count =
    grown-are c.self.inside.pages.items c.self.inside.count c.self.invariant c.args.self.now c.self.view_is c.grow_pages.new.pages.items c.grow_pages.ensures.short c.grow_pages.ensures.same in
    let one = one-more c.args.number c.index.result.now c.is_none.result c.from-more.result c.is_none.ensures c.from-more.ensures in
    put-place c.grow_pages.new.pages.items c.self.inside.count are c.args.self.now (c.grow_pages.ensures.same ∙ c.self.view_is) c.page_of-page.result c.index_mut-places.result.now
    c.grow_page.new.page c.in_ok-grow_pages.ensures.there c.index_mut-places.ensures.value c.grow_page.ensures.same c.grow_page.ensures.short
    c.args.number c.place_of-place.result c.page_of-page.ensures c.place_of-place.ensures c.index.result.now c.in_ok-grow_page.ensures.there c.index.ensures
    ∙ no-value c.args.number c.index.result.now (omega (arith, one, c.if-self-more-gt-MOST.true, c.self.invariant.fits))

-- The value is in its place.
pub invariant_of-self-2 : goal.invariant_of-self-2
invariant_of-self-2 g c =
    let are : ArePages c.grow_pages.new.pages.items c.self.inside.count =
    grown-are c.self.inside.pages.items c.self.inside.count c.self.invariant c.args.self.now c.self.view_is c.grow_pages.new.pages.items c.grow_pages.ensures.short c.grow_pages.ensures.same in
    put-are c.grow_pages.new.pages.items c.self.inside.count are c.args.self.now (c.grow_pages.ensures.same ∙ c.self.view_is) c.page_of-page.result c.index_mut-places.result.now c.grow_page.new.page
    c.in_ok-grow_pages.ensures.there c.index_mut-places.ensures.value c.grow_page.ensures.same c.grow_page.ensures.short
    c.args.number c.place_of-place.result c.page_of-page.ensures c.place_of-place.ensures c.index.result.now c.in_ok-grow_page.ensures.there c.index.ensures
    c.args.value _ refl c.from-more.result
    (one-more c.args.number c.index.result.now c.is_none.result c.from-more.result c.is_none.ensures c.from-more.ensures) (omega (arith, c.if-self-more-gt-MOST.false))

pub returns-clause-entries : goal.returns-clause-entries
returns-clause-entries g c =
    let are : ArePages c.grow_pages.new.pages.items c.self.inside.count =
    grown-are c.self.inside.pages.items c.self.inside.count c.self.invariant c.args.self.now c.self.view_is c.grow_pages.new.pages.items c.grow_pages.ensures.short c.grow_pages.ensures.same in
    put-now c.grow_pages.new.pages.items c.self.inside.count are c.args.self.now (c.grow_pages.ensures.same ∙ c.self.view_is) c.page_of-page.result c.index_mut-places.result.now c.grow_page.new.page
    c.in_ok-grow_pages.ensures.there c.index_mut-places.ensures.value c.grow_page.ensures.same c.grow_page.ensures.short
    c.args.number c.place_of-place.result c.page_of-page.ensures c.place_of-place.ensures c.index.result.now c.in_ok-grow_page.ensures.there c.index.ensures
    c.args.value _ refl
