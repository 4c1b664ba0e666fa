-- Turns, and their lines.
use Rattle.std.proofs.Common.{subst}
use Rattle.aom_run.specs.Calls.{natives_of}
use Rattle.aom_run.specs.Turns.{TakesTurns, observing}
use Rattle.aom_debug_stepping.specs.Runners.{outside_of}
use Rattle.aom_debug_stepping.proofs.Keeping.{keeps_with, went_if}
use Rattle.aom_debug_stepping.proofs.Sending.{breaks_turn, sends_turn, stands_turned, turn_cleared}
use Rattle.aom_debug_stepping.proofs.arriving.turn_until_dispatch.Goals as goal

pub returns-clause-takes : goal.returns-clause-takes
returns-clause-takes g c =
    let a = c.args.runner.now in
    let turns = c.take_turns in (
      turns.result,
      turns.new.lines,
      subst (λ es. TakesTurns a.machine (observing a.lines.refused a.limit (natives_of a.machine) es)
          turns.result a.lines turns.new.lines turns.new.machine) c.events-events.ensures turns.ensures.turns,
    )

pub returns-clause-keeps : goal.returns-clause-keeps
returns-clause-keeps g c =
    let a = c.args.runner.now in
    let ready = c.requires.ready in
    let turns = c.take_turns in
    let observed = observing a.lines.refused a.limit (natives_of a.machine) c.events-events.result.now in
    let same = turn_cleared a.machine turns.new.machine observed turns.result a.lines turns.new.lines ready.none turns.ensures.turns ready.stands
    c.send.new.lines c.send.ensures.clear in
    keeps_with a ready turns.new.machine c.send.new.lines c.send.new.page turns.ensures.image turns.ensures.natives same
    (stands_turned a.machine turns.new.machine observed turns.result a.lines turns.new.lines ready.none turns.ensures.turns ready.stands)

pub returns-clause-went : goal.returns-clause-went
returns-clause-went g c =
    let a = c.args.runner.now in
    let turns = c.take_turns in
    let new = record a { machine = turns.new.machine; lines = c.send.new.lines; page = c.send.new.page } in
    let before = g.W.Sink.out c.args.out.now in
    let out = g.W.Sink.out c.send.new.out in
    let takes = subst (λ es. TakesTurns a.machine (observing a.lines.refused a.limit
    (natives_of a.machine) es) turns.result a.lines turns.new.lines turns.new.machine) c.events-events.ensures turns.ensures.turns in
    went_if a new before out (g.W.Sink.failed c.send.new.out) c.progress-progress.result c.send.result
    c.then_some.result c.then_some.ensures c.progress-progress.ensures (λ all. sends_turn a.machine turns.new.machine
    (outside_of a) turns.result a.lines turns.new.lines c.requires.ready.none takes before out (c.send.ensures.whole all)) (λ part. (
      c.send.ensures.fails part,
      breaks_turn a.machine turns.new.machine
          (outside_of a) turns.result a.lines turns.new.lines c.requires.ready.none takes before out c.send.ensures.prefix.0 c.send.ensures.prefix.1,
    ))
