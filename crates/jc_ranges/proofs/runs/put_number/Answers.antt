use Rattle.std.proofs.Common.{◌-◌, true, false, ap, sym, subst, arith, length}
use Rattle.jc_ranges.proofs.Puts.{Puts, place_some, before_is, after_is, found_after, case_between, case_before, case_after, case_alone}
use Rattle.jc_ranges.proofs.runs.put_number.Goals as goal

between : (c : goal.After-remove) → Puts 0 c.args.n c.args.runs.now.items c.remove.new.self.items
between c =
    let b = before_is c.args.n c.args.place _ _ true c.as_slice.ensures.value c.if-before.ensures in
    let some = place_some c.args.n _ c.args.place b in
    subst (λ z. Puts 0 c.args.n c.args.runs.now.items z) (sym c.remove.ensures.items)
    (case_between c.args.n c.args.runs.now.items c.args.place (c.args.place - 1) c.index_mut.result.now c.index.result.now (omega arith) c.requires.apart c.requires.parted b
    (after_is c.args.n c.args.place _ _ true c.as_slice-2.ensures.value c.if-after.ensures) c.index_mut.ensures.value c.index.ensures)

pub returns-then-after-clause-numbers : goal.returns-then-after-clause-numbers
returns-then-after-clause-numbers c = (between c).numbers

pub returns-then-after-clause-apart : goal.returns-then-after-clause-apart
returns-then-after-clause-apart c = (between c).apart

pub returns-then-before-clause-numbers : goal.returns-then-before-clause-numbers
returns-then-before-clause-numbers c =
    let b = before_is c.args.n c.args.place _ _ true c.as_slice.ensures.value c.if-before.ensures in
    let some = place_some c.args.n _ c.args.place b in
    (case_before c.args.n c.args.runs.now.items c.args.place (c.args.place - 1) c.index_mut-then-before.result.now (omega arith) c.requires.small c.requires.apart c.requires.parted c.requires.fresh b
    (after_is c.args.n c.args.place _ _ false c.as_slice-2.ensures.value c.if-after.ensures) c.index_mut-then-before.ensures.value).numbers

pub returns-then-before-clause-apart : goal.returns-then-before-clause-apart
returns-then-before-clause-apart c =
    let b = before_is c.args.n c.args.place _ _ true c.as_slice.ensures.value c.if-before.ensures in
    let some = place_some c.args.n _ c.args.place b in
    (case_before c.args.n c.args.runs.now.items c.args.place (c.args.place - 1) c.index_mut-then-before.result.now (omega arith) c.requires.small c.requires.apart c.requires.parted c.requires.fresh b
    (after_is c.args.n c.args.place _ _ false c.as_slice-2.ensures.value c.if-after.ensures) c.index_mut-then-before.ensures.value).apart

pub index_mut-requires-then-after-2 : goal.index_mut-requires-then-after-2
index_mut-requires-then-after-2 c =
    let found = found_after c.args.n c.args.runs.now.items c.args.place (after_is c.args.n c.args.place _ _ true c.as_slice-2.ensures.value c.if-after-2.ensures) in
    omega (arith, found, c.as_slice-2.ensures.len, ap length c.as_slice-2.ensures.value)

pub returns-then-after-2-clause-numbers : goal.returns-then-after-2-clause-numbers
returns-then-after-2-clause-numbers c =
    (case_after c.args.n c.args.runs.now.items c.args.place c.index_mut-then-after-2.result.now c.requires.apart c.requires.parted
    (before_is c.args.n c.args.place _ _ false c.as_slice.ensures.value c.if-before.ensures)
    (after_is c.args.n c.args.place _ _ true c.as_slice-2.ensures.value c.if-after-2.ensures) c.index_mut-then-after-2.ensures.value).numbers

pub returns-then-after-2-clause-apart : goal.returns-then-after-2-clause-apart
returns-then-after-2-clause-apart c =
    (case_after c.args.n c.args.runs.now.items c.args.place c.index_mut-then-after-2.result.now c.requires.apart c.requires.parted
    (before_is c.args.n c.args.place _ _ false c.as_slice.ensures.value c.if-before.ensures)
    (after_is c.args.n c.args.place _ _ true c.as_slice-2.ensures.value c.if-after-2.ensures) c.index_mut-then-after-2.ensures.value).apart

alone : (c : goal.In_ok-insert) → Puts 0 c.args.n c.args.runs.now.items c.insert.new.self.items
alone c =
    subst (λ z. Puts 0 c.args.n c.args.runs.now.items z) (sym c.in_ok-insert.ensures.items)
    (case_alone c.args.n c.args.runs.now.items c.args.place c.requires.small c.requires.apart c.requires.parted c.requires.fresh
    (before_is c.args.n c.args.place _ _ false c.as_slice.ensures.value c.if-before.ensures)
    (after_is c.args.n c.args.place _ _ false c.as_slice-2.ensures.value c.if-after-2.ensures))

pub returns-clause-numbers : goal.returns-clause-numbers
returns-clause-numbers c = (alone c).numbers

pub returns-clause-apart : goal.returns-clause-apart
returns-clause-apart c = (alone c).apart
