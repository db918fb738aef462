use Rattle.std.proofs.lemmas.List.{take_rest}
use Rattle.jc_ranges.proofs.Rising.{read_first_broken, read_to_end, read_to_comma}
use Rattle.jc_ranges.proofs.parse.read_elements.Goals as goal

pub returns-in_default-clause-named : goal.returns-in_default-clause-named
returns-in_default-clause-named c =
    read_first_broken c.args.text.now c.loop-first.rest.now _ c.loop-first.low c.loop-first.at c.unwrap_or.result c.place_of-comma.result
    c.loop-first.invariant.0 c.place_of-comma.ensures c.unwrap_or.ensures c.in_default.ensures

pub returns-in_default-comma-clause-named : goal.returns-in_default-comma-clause-named
returns-in_default-comma-clause-named c =
    read_to_end c.args.text.now c.loop-first.rest.now _ _ c.loop-first.low c.loop-first.at c.unwrap_or.result c.place_of-comma.result
    (record { first = c.in-Some.first; last = c.in-Some.last })
    c.loop-first.invariant.0 c.in_default-comma.is c.place_of-comma.ensures c.unwrap_or.ensures c.in-Some.ensures c.in_ok-push_numbers.ensures.numbers

pub loop-first-preserved : goal.loop-first-preserved
loop-first-preserved c = (
  read_to_comma c.args.text.now c.loop-first.rest.now _ _ _ c.loop-first.low c.loop-first.at c.unwrap_or.result c.in-Some-comma.comma c.place_of-comma.result
      (record { first = c.in-Some.first; last = c.in-Some.last })
      c.loop-first.invariant.0 c.in-Some-comma.is c.place_of-comma.ensures c.unwrap_or.ensures (take_rest c.loop-first.rest.now _) c.in-Some.ensures c.in_ok-push_numbers.ensures.numbers,
  (c.in_ok-push_numbers.ensures.apart, c.in_ok-push_numbers.ensures.below),
)
