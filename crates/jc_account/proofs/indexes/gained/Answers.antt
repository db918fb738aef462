-- A set that has lost none is longer by what it gained.
use Rattle.std.proofs.Common.{arith}
use Rattle.jc_account.proofs.GainFacts.{gained-length}
use Rattle.jc_account.proofs.indexes.gained.Goals as goal

pub overflow_sub-result : goal.overflow_sub-result
overflow_sub-result c =
    let held = c.contains_all.ensures.0 c.if-contains_all.true in
    let more = gained-length c.args.before.now c.args.after.now c.len-then-contains_all.ensures.set.increasing c.len.ensures.set.increasing held in
    omega (arith, more, c.len.ensures.count, c.len-then-contains_all.ensures.count)

pub returns-then-contains_all : goal.returns-then-contains_all
returns-then-contains_all c =
    let held = c.contains_all.ensures.0 c.if-contains_all.true in
    let more = gained-length c.args.before.now c.args.after.now c.len-then-contains_all.ensures.set.increasing c.len.ensures.set.increasing held in
    omega (arith, more, c.len.ensures.count, c.len-then-contains_all.ensures.count)
