use Rattle.std.proofs.Common.{◌≡◌, ◌-◌, true, false, ap, sym, subst, arith, length}
use Rattle.jc_ranges.proofs.Puts.{Pushes, place_some, before_is, case_on, case_behind}
use Rattle.jc_ranges.proofs.runs.push_numbers.Goals as goal

pub returns-then-joins_before-clause-numbers : goal.returns-then-joins_before-clause-numbers
returns-then-joins_before-clause-numbers c =
    let long : c.len-len.result ≡ length c.args.runs.now.items = omega (arith, c.len-len.ensures, c.as_slice.ensures.len, ap length c.as_slice.ensures.value) in
    let b = before_is c.args.first c.len-len.result _ _ true c.as_slice.ensures.value c.if-joins_before.ensures in
    let some = place_some c.args.first _ c.len-len.result b in
    (case_on c.args.first c.args.last c.args.runs.now.items c.len-len.result (c.len-len.result - 1) c.index_mut.result.now (omega arith) long c.requires.ordered c.requires.small c.requires.apart c.requires.below b c.index_mut.ensures.value).numbers

pub returns-then-joins_before-clause-apart : goal.returns-then-joins_before-clause-apart
returns-then-joins_before-clause-apart c =
    let long : c.len-len.result ≡ length c.args.runs.now.items = omega (arith, c.len-len.ensures, c.as_slice.ensures.len, ap length c.as_slice.ensures.value) in
    let b = before_is c.args.first c.len-len.result _ _ true c.as_slice.ensures.value c.if-joins_before.ensures in
    let some = place_some c.args.first _ c.len-len.result b in
    (case_on c.args.first c.args.last c.args.runs.now.items c.len-len.result (c.len-len.result - 1) c.index_mut.result.now (omega arith) long c.requires.ordered c.requires.small c.requires.apart c.requires.below b c.index_mut.ensures.value).apart

pub returns-then-joins_before-clause-below : goal.returns-then-joins_before-clause-below
returns-then-joins_before-clause-below c =
    let long : c.len-len.result ≡ length c.args.runs.now.items = omega (arith, c.len-len.ensures, c.as_slice.ensures.len, ap length c.as_slice.ensures.value) in
    let b = before_is c.args.first c.len-len.result _ _ true c.as_slice.ensures.value c.if-joins_before.ensures in
    let some = place_some c.args.first _ c.len-len.result b in
    (case_on c.args.first c.args.last c.args.runs.now.items c.len-len.result (c.len-len.result - 1) c.index_mut.result.now (omega arith) long c.requires.ordered c.requires.small c.requires.apart c.requires.below b c.index_mut.ensures.value).below

behind : (c : goal.In_ok-push) → Pushes 0 c.args.first c.args.last c.args.runs.now.items c.push.new.self.items
behind c =
    let long : c.len-len.result ≡ length c.args.runs.now.items = omega (arith, c.len-len.ensures, c.as_slice.ensures.len, ap length c.as_slice.ensures.value) in
    subst (λ z. Pushes 0 c.args.first c.args.last c.args.runs.now.items z) (sym c.in_ok-push.ensures.items)
    (case_behind c.args.first c.args.last c.args.runs.now.items c.len-len.result long c.requires.ordered c.requires.small c.requires.apart c.requires.below
    (before_is c.args.first c.len-len.result _ _ false c.as_slice.ensures.value c.if-joins_before.ensures))

pub returns-clause-numbers : goal.returns-clause-numbers
returns-clause-numbers c = (behind c).numbers

pub returns-clause-apart : goal.returns-clause-apart
returns-clause-apart c = (behind c).apart

pub returns-clause-below : goal.returns-clause-below
returns-clause-below c = (behind c).below
