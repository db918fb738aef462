-- The UID is behind the place or before it.
use Rattle.std.proofs.Common.{◌≡◌, ◌-◌, ◌||◌, ℕ, List, drop, is_some, length, length-drop, take, ap, arith, sym, ◌∙◌}
use Rattle.std.proofs.lemmas.Bool.{or_left, or_right}
use Rattle.std.proofs.lemmas.List.{take_all}
use Rattle.jc_types.specs.declared.numbers.Uid.{Uid}
use Rattle.jc_states.specs.UidLists.{is_in}
use Rattle.jc_account.proofs.ShortFacts.{in-parts, place-there}
use Rattle.jc_account.proofs.uids.behind.Goals as goal

-- A slice that goes to the end is all that is behind the place.
rest : (n : ℕ) (uids : List Uid) → take (length uids - n) (drop n uids) ≡ drop n uids
rest n uids = take_all (length uids - n) (drop n uids) (omega (arith, length-drop n uids))

pub returns-in-Some-clause-found : goal.returns-in-Some-clause-found
returns-in-Some-clause-found c =
    let u = c.args.uid in
    let uids = c.args.uids.now in
    let front = take c.args.from uids in
    let back = drop c.args.from uids in
    sym (in-parts u uids c.args.from
    ∙ or_right (is_in u front) (is_in u back)
    (sym (ap (is_in u) (rest c.args.from uids))
    ∙ sym (place-there u (take (length uids - c.args.from) back))
    ∙ ap is_some (sym c.in-Some.ensures.place)))

pub returns-then-is_in-clause-found : goal.returns-then-is_in-clause-found
returns-then-is_in-clause-found c =
    let u = c.args.uid in
    let front = take c.args.from c.args.uids.now in
    let back = drop c.args.from c.args.uids.now in
    sym (in-parts u c.args.uids.now c.args.from ∙ or_left (is_in u front) (is_in u back) (sym c.is_in.ensures ∙ c.if-is_in.true))

pub returns-else-is_in-clause-found : goal.returns-else-is_in-clause-found
returns-else-is_in-clause-found c =
    let u = c.args.uid in
    let uids = c.args.uids.now in
    let back = drop c.args.from uids in
    sym (in-parts u uids c.args.from
    ∙ ap (λ b. b || is_in u back) (sym c.is_in.ensures ∙ c.if-is_in.false)
    ∙ sym (ap (is_in u) (rest c.args.from uids))
    ∙ sym (place-there u (take (length uids - c.args.from) back))
    ∙ ap is_some (sym c.in-None.ensures.place))
