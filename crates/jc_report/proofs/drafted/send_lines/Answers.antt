-- Of the lines that were put together the next one is that of the event, where it is not short.
use Rattle.std.proofs.Common.{rules, arith, ◌≡◌, ◌+◌, ◌++◌, ◌∷◌, [], drop, string_bytes, take, ◌∙◌}
use Rattle.std.proofs.lemmas.List.{drop_more, take_more}
use Rattle.jc_report.proofs.LineFacts.{line-failed, line-sent, next-line, rest-lines}
use Rattle.jc_report.proofs.drafted.send_lines.Goals as goal

pub send_line-requires-clause-end : goal.send_line-requires-clause-end
send_line-requires-clause-end g c long_one =
    let events = c.args.events.now in
    let place = c.loop-place.place in
    let past = c.index-events-place.result in
    let split : drop place events ≡ past ∷ drop (place + 1) events = search (rules, drop_more) in
    (next-line c.args.lines.now.script.now events place past _ _ _ _ split c.loop-place.invariant.ahead long_one).end

pub send_line-requires-clause-within : goal.send_line-requires-clause-within
send_line-requires-clause-within g c long_one =
    let events = c.args.events.now in
    let place = c.loop-place.place in
    let past = c.index-events-place.result in
    let split : drop place events ≡ past ∷ drop (place + 1) events = search (rules, drop_more) in
    (next-line c.args.lines.now.script.now events place past _ _ _ _ split c.loop-place.invariant.ahead long_one).within

pub send_line-requires-clause-line : goal.send_line-requires-clause-line
send_line-requires-clause-line g c long_one =
    let events = c.args.events.now in
    let place = c.loop-place.place in
    let past = c.index-events-place.result in
    let split : drop place events ≡ past ∷ drop (place + 1) events = search (rules, drop_more) in
    (next-line c.args.lines.now.script.now events place past _ _ _ _ split c.loop-place.invariant.ahead long_one).line

pub returns-in_err-send_line-clause-front : goal.returns-in_err-send_line-clause-front
returns-in_err-send_line-clause-front g c =
    let events = c.args.events.now in
    let place = c.loop-place.place in
    let past = c.index-events-place.result in
    let more : take (place + 1) events ≡ take place events ++ past ∷ [] = search (rules, take_more) in
    let front = line-failed c.args.lines.now.script.now events place past _ _ _ (string_bytes c.args.page.now) (string_bytes c.loop-place.page)
    (string_bytes c.loop-place.page) (omega arith) more c.loop-place.invariant.sends
    c.in_err-send_line.ensures.front in
    search (rules, front)

pub loop-place-preserved : goal.loop-place-preserved
loop-place-preserved g c =
    let script = c.args.lines.now.script.now in
    let events = c.args.events.now in
    let place = c.loop-place.place in
    let past = c.index-events-place.result in
    let more : take (place + 1) events ≡ take place events ++ past ∷ [] = search (rules, take_more) in
    let split : drop place events ≡ past ∷ drop (place + 1) events = search (rules, drop_more) in
    record {
      sends = line-sent script events place past _ _ _ _ _ _ (omega arith) more c.loop-place.invariant.sends c.in_ok-send_line.ensures.sends;
      ahead = rest-lines script events place past _ _ _ _ _ _ split c.loop-place.invariant.ahead
          c.in_ok-send_line.ensures.at c.in_ok-send_line.ensures.count;
      room = c.in_ok-send_line.ensures.room;
      later = grind arith;
      not_finished = c.in_ok-send_line.ensures.not_finished ∙ c.loop-place.invariant.not_finished;
    }
