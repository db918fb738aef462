use Rattle.std.proofs.Common.{◌≡◌, ◌+◌, [], ◌∷◌, ◌++◌, take, ap, sym, subst, arith, rules}
use Rattle.std.proofs.lemmas.List.{length-take-le, take_all, take_more}
use Rattle.jc_types.specs.declared.actions.Command.{Command}
use Rattle.jc_lanes.specs.Places.{HasPlaces}
use Rattle.jc_lanes.proofs.lanes.Lanes.new.Goals as goal

pub loop-place-preserved : goal.loop-place-preserved
loop-place-preserved c =
    let i = c.loop-place.place in
    let commands = c.args.commands.now in
    let command = c.index-commands-place.result in
    let more : take (i + 1) commands ≡ take i commands ++ command ∷ [] = search (rules, take_more) in
    subst (λ front. HasPlaces front [] c.append.new.self) (sym more)
    (c.append.ensures (take i commands) command [] (ap (λ (command : Command). command.lane) c.index-commands-place.is) (length-take-le i commands (omega arith)) tt c.loop-place.invariant)

pub returns : goal.returns
returns c =
    subst (λ front. HasPlaces front [] c.loop-place.lanes) (take_all c.loop-place.place c.args.commands.now (omega arith)) c.loop-place.invariant
