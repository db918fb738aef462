use Rattle.std.proofs.Common.{◌%◌, ◌<◌, ◌≤◌, None, Some, ap, arith, length, nat_cmp, refl, sym, ◌∙◌}
use Rattle.std.specs.BTreeMap.{is_at}
use Rattle.std.specs.Map.{lookup, remove_entry}
use Rattle.jc_table.proofs.PageFacts.{get-none, remove-none-is, taken-are, taken-enough, taken-now, taken-value}
use Rattle.jc_table.proofs.numbered.Numbered.remove.Goals as goal

-- The number has no page.
pub returns-then-len-page-clause-value : goal.returns-then-len-page-clause-value
returns-then-len-page-clause-value g c =
    sym
    (get-none c.self.inside.pages.items c.self.invariant.short c.args.number c.page_of-page.result (c.args.number % 64) c.page_of-page.ensures refl
    (omega (arith, c.if-len-page.true, c.len.ensures, c.self.inside.pages.ok.0)))
    ∙ ap (lookup (is_at (nat_cmp c.args.number))) c.self.view_is

pub returns-then-len-page-clause-entries : goal.returns-then-len-page-clause-entries
returns-then-len-page-clause-entries g c =
    sym c.self.view_is
    ∙ sym
    (remove-none-is c.self.inside.pages.items c.self.invariant.short c.args.number c.page_of-page.result (c.args.number % 64) c.page_of-page.ensures refl
    (omega (arith, c.if-len-page.true, c.len.ensures, c.self.inside.pages.ok.0)))
    ∙ ap (remove_entry (is_at (nat_cmp c.args.number))) c.self.view_is

-- The number has no value.
pub invariant_of-self : goal.invariant_of-self
invariant_of-self g c =
    let h : c.page_of-page.result < length c.self.inside.pages.items = omega (arith, c.if-len-page.false, c.len.ensures, c.self.inside.pages.ok.0) in
    taken-are c.self.inside.pages.items c.self.inside.count c.self.invariant c.args.self.now c.self.view_is c.args.number c.page_of-page.result c.place_of.result c.page_of-page.ensures
    c.place_of.ensures c.index_mut.result.now h c.index_mut.ensures.value
    c.take.new.page None c.in_err-value.ensures.value c.in_err-value.ensures.places c.in_err-value.ensures.shorter c.self.inside.count (omega arith)

pub returns-in_err-value-clause-value : goal.returns-in_err-value-clause-value
returns-in_err-value-clause-value g c =
    let h : c.page_of-page.result < length c.self.inside.pages.items = omega (arith, c.if-len-page.false, c.len.ensures, c.self.inside.pages.ok.0) in
    c.from_residual.ensures
    ∙ taken-value c.self.inside.pages.items c.self.inside.count c.self.invariant c.args.self.now c.self.view_is c.args.number c.page_of-page.result c.place_of.result c.page_of-page.ensures
    c.place_of.ensures c.index_mut.result.now h c.index_mut.ensures.value
    c.take.new.page None c.in_err-value.ensures.value c.in_err-value.ensures.places c.in_err-value.ensures.shorter

pub returns-in_err-value-clause-entries : goal.returns-in_err-value-clause-entries
returns-in_err-value-clause-entries g c =
    let h : c.page_of-page.result < length c.self.inside.pages.items = omega (arith, c.if-len-page.false, c.len.ensures, c.self.inside.pages.ok.0) in
    taken-now c.self.inside.pages.items c.self.inside.count c.self.invariant c.args.self.now c.self.view_is c.args.number c.page_of-page.result c.place_of.result c.page_of-page.ensures
    c.place_of.ensures c.index_mut.result.now h c.index_mut.ensures.value
    c.take.new.page None c.in_err-value.ensures.value c.in_err-value.ensures.places c.in_err-value.ensures.shorter

-- The number has a value.
pub overflow_sub-self : goal.overflow_sub-self
overflow_sub-self g c =
    let h : c.page_of-page.result < length c.self.inside.pages.items = omega (arith, c.if-len-page.false, c.len.ensures, c.self.inside.pages.ok.0) in
    taken-enough c.self.inside.pages.items c.self.inside.count c.self.invariant c.args.self.now c.self.view_is c.args.number c.page_of-page.result c.place_of.result c.page_of-page.ensures
    c.place_of.ensures c.index_mut.result.now h c.index_mut.ensures.value
    c.take.new.page (Some c.in_ok-value.value) c.in_ok-value.ensures.value c.in_ok-value.ensures.places c.in_ok-value.ensures.shorter

pub invariant_of-self-2 : goal.invariant_of-self-2
invariant_of-self-2 g c =
    let h : c.page_of-page.result < length c.self.inside.pages.items = omega (arith, c.if-len-page.false, c.len.ensures, c.self.inside.pages.ok.0) in
    let enough : 1 ≤ c.self.inside.count =
    taken-enough c.self.inside.pages.items c.self.inside.count c.self.invariant c.args.self.now c.self.view_is c.args.number c.page_of-page.result c.place_of.result c.page_of-page.ensures
    c.place_of.ensures c.index_mut.result.now h c.index_mut.ensures.value
    c.take.new.page (Some c.in_ok-value.value) c.in_ok-value.ensures.value c.in_ok-value.ensures.places c.in_ok-value.ensures.shorter in
    taken-are c.self.inside.pages.items c.self.inside.count c.self.invariant c.args.self.now c.self.view_is c.args.number c.page_of-page.result c.place_of.result c.page_of-page.ensures
    c.place_of.ensures c.index_mut.result.now h c.index_mut.ensures.value
    c.take.new.page (Some c.in_ok-value.value) c.in_ok-value.ensures.value c.in_ok-value.ensures.places c.in_ok-value.ensures.shorter _ (omega (arith, enough))

pub returns-clause-value : goal.returns-clause-value
returns-clause-value g c =
    let h : c.page_of-page.result < length c.self.inside.pages.items = omega (arith, c.if-len-page.false, c.len.ensures, c.self.inside.pages.ok.0) in
    taken-value c.self.inside.pages.items c.self.inside.count c.self.invariant c.args.self.now c.self.view_is c.args.number c.page_of-page.result c.place_of.result c.page_of-page.ensures
    c.place_of.ensures c.index_mut.result.now h c.index_mut.ensures.value
    c.take.new.page (Some c.in_ok-value.value) c.in_ok-value.ensures.value c.in_ok-value.ensures.places c.in_ok-value.ensures.shorter

pub returns-clause-entries : goal.returns-clause-entries
returns-clause-entries g c =
    let h : c.page_of-page.result < length c.self.inside.pages.items = omega (arith, c.if-len-page.false, c.len.ensures, c.self.inside.pages.ok.0) in
    taken-now c.self.inside.pages.items c.self.inside.count c.self.invariant c.args.self.now c.self.view_is c.args.number c.page_of-page.result c.place_of.result c.page_of-page.ensures
    c.place_of.ensures c.index_mut.result.now h c.index_mut.ensures.value
    c.take.new.page (Some c.in_ok-value.value) c.in_ok-value.ensures.value c.in_ok-value.ensures.places c.in_ok-value.ensures.shorter
