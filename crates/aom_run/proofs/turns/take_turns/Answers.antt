use Rattle.std.proofs.Common.{ap, arith, length, subst, sym, true, Some, ◌∙◌, ◌<◌}
use Rattle.aom_transcript.specs.declared.line.Ending.TheVariants.{Waiting}
use Rattle.aom_machine_state.specs.LineBuffer.{LineBuffer}
use Rattle.aom_run.specs.Calls.{Picked, natives_of}
use Rattle.aom_run.proofs.Keeping.{as_many}
use Rattle.aom_run.proofs.Serving.{cut_so, waited_so}
use Rattle.aom_run.specs.Turns.{ObservesAll, TakesTurns, observing, waiting}
use Rattle.aom_run.proofs.Resting.{dispatches_one, ends_reported, limit_cuts, no_earlier, none_picked, passed_far, passed_late, passed_stands, passed_to_come}
use Rattle.aom_run.proofs.Resting.{rests_on, reports_on, waits_on}
use Rattle.aom_run.proofs.turns.take_turns.Goals as goal

pub returns-then-dispatches-from-clause-turns : goal.returns-then-dispatches-from-clause-turns
returns-then-dispatches-from-clause-turns g c =
    let over = c.if-dispatches-from.true in
    let limit = c.from.ensures in
    let dispatches = c.dispatches.ensures ∙ ap (λ r. r.dispatches) c.rest.ensures in
    limit_cuts c.args.machine.now _ (omega (arith, over, limit, dispatches)) _ (record { core = c.cut.new.self; natives = c.args.machine.now.natives })
    (cut_so c.args.machine.now c.cut.new.self c.cut.ensures.image c.cut.ensures.cut)

pub returns-then-settle-clause-turns : goal.returns-then-settle-clause-turns
returns-then-settle-clause-turns g c =
    let under = c.if-dispatches-from.false in
    let limit = c.from.ensures in
    let dispatches = c.dispatches.ensures ∙ ap (λ r. r.dispatches) c.rest.ensures in
    ends_reported c.args.machine.now c.settle.new.machine c.args.events.now c.args.lines.now.refused c.args.limit c.args.lines.now c.settle.new.lines
    (omega (arith, under, limit, dispatches)) (subst
    (λ b. ObservesAll b c.args.events.now c.args.machine.now c.args.lines.now c.settle.new.lines c.settle.new.machine) c.if-settle.true c.settle.ensures.observed)

pub loop-limit-init : goal.loop-limit-init
loop-limit-init g c =
    let under = c.if-dispatches-from.false in
    let limit = c.from.ensures in
    let dispatches = c.dispatches.ensures ∙ ap (λ r. r.dispatches) c.rest.ensures in
    let done = c.settle.ensures in
    let quiet = c.if-settle.false in
    let all = subst (λ b. ObservesAll b c.args.events.now c.args.machine.now c.args.lines.now c.settle.new.lines c.settle.new.machine) quiet done.observed in
    record {
      rests = record {
        below = omega (arith, under, limit, dispatches);
        far = all.1;
        stands = done.kept.stands;
        between = done.kept.between;
        none_due = all.2;
        none_come = all.3;
        polled = done.polled quiet;
        image = done.kept.image;
        natives = done.kept.natives;
      };
      agree = done.agree;
      lines = all.0;
    }

pub pick-requires : goal.pick-requires
pick-requires g c =
    let i = c.loop-limit.invariant in
    record { agree = i.agree; between = i.rests.between; room = subst (λ (t : LineBuffer). length t.lines < t.room) (sym i.lines) c.requires.room }

pub returns-then-pick : goal.returns-then-pick
returns-then-pick g c =
    let i = c.loop-limit.invariant in
    let m = c.loop-limit.machine in
    let picked = subst (λ b. Picked m b c.loop-limit.lines c.pick.new.lines c.pick.new.self) c.if-pick.true c.pick.ensures.picked in
    record {
      agree = c.pick.ensures.agree;
      image = c.pick.ensures.image ∙ i.rests.image;
      natives = as_many m c.pick.new.self c.pick.ensures.natives ∙ i.rests.natives;
      turns = dispatches_one c.args.machine.now m c.args.events.now c.args.lines.now.refused c.args.limit i.rests c.args.lines.now c.pick.new.lines c.pick.new.self
          (subst (λ t. Picked m true t c.pick.new.lines c.pick.new.self) i.lines picked);
    }

pub wait-requires : goal.wait-requires
wait-requires g c = (none_picked c.args.machine.now c.loop-limit.machine
    c.pick.new.self c.loop-limit.lines c.pick.new.lines c.pick.result c.loop-limit.invariant.rests c.if-pick.false c.pick.ensures.picked).0.between

pub returns-in_default : goal.returns-in_default
returns-in_default g c =
    let i = c.loop-limit.invariant in
    let k = none_picked c.args.machine.now c.loop-limit.machine c.pick.new.self c.loop-limit.lines c.pick.new.lines c.pick.result c.loop-limit.invariant.rests
    c.if-pick.false c.pick.ensures.picked in
    let waited = waited_so c.pick.new.self c.wait.new.self c.wait.ensures.image c.wait.ensures.waited in
    let waits = waits_on c.args.machine.now c.pick.new.self c.args.events.now c.args.lines.now.refused c.args.limit k.0 k.2
    c.next_time.result c.next_time.ensures c.in_default.is c.args.lines.now (record { core = c.wait.new.self; natives = c.pick.new.self.natives }) waited in
    record {
      agree = c.pick.ensures.agree;
      image = c.wait.ensures.image ∙ k.0.image;
      natives = k.0.natives;
      turns = subst (λ t. TakesTurns c.args.machine.now (observing c.args.lines.now.refused c.args.limit (natives_of c.args.machine.now) c.args.events.now)
          (Some Waiting) c.args.lines.now t (record { core = c.wait.new.self; natives = c.pick.new.self.natives })) (sym (k.1 ∙ i.lines)) waits;
    }

pub set_clock-requires : goal.set_clock-requires
set_clock-requires g c = let k = none_picked c.args.machine.now
    c.loop-limit.machine c.pick.new.self c.loop-limit.lines c.pick.new.lines c.pick.result c.loop-limit.invariant.rests c.if-pick.false c.pick.ensures.picked in
    record {
      agree = c.pick.ensures.agree;
      between = k.0.between;
      later = no_earlier c.args.machine.now c.pick.new.self c.args.events.now c.args.lines.now.refused c.args.limit k.0 k.2 _ c.next_time.ensures _ c.in-Some.is;
    }

pub settle-requires-in-loop-limit : goal.settle-requires-in-loop-limit
settle-requires-in-loop-limit g c = let k = none_picked c.args.machine.now
    c.loop-limit.machine c.pick.new.self c.loop-limit.lines c.pick.new.lines c.pick.result c.loop-limit.invariant.rests c.if-pick.false c.pick.ensures.picked in
    let e = c.set_clock.ensures in
    record {
      agree = e.agree;
      rests = (
        passed_stands c.args.machine.now c.pick.new.self c.args.events.now c.args.lines.now.refused
            c.args.limit k.0 k.2 c.next_time.result c.next_time.ensures c.in-Some.time c.in-Some.is c.set_clock.new.self e.image e.passed,
        passed_far c.args.machine.now c.pick.new.self c.args.events.now c.args.lines.now.refused
            c.args.limit k.0 k.2 c.next_time.result c.next_time.ensures c.in-Some.time c.in-Some.is c.set_clock.new.self e.image e.passed,
      );
      can = (c.requires.ranged, subst (λ (t : LineBuffer). length t.lines < t.room) (sym (k.1 ∙ c.loop-limit.invariant.lines)) c.requires.room);
    }

pub returns-then-settle-2 : goal.returns-then-settle-2
returns-then-settle-2 g c =
    let i = c.loop-limit.invariant in
    let k = none_picked c.args.machine.now c.loop-limit.machine c.pick.new.self c.loop-limit.lines c.pick.new.lines c.pick.result c.loop-limit.invariant.rests
    c.if-pick.false c.pick.ensures.picked in
    let e = c.set_clock.ensures in
    let done = c.settle-in-loop-limit.ensures in
    let new = c.settle-in-loop-limit.new.machine in
    let now = c.settle-in-loop-limit.new.lines in
    let reports = subst (λ t. ObservesAll true c.args.events.now c.set_clock.new.self t now new)
    (k.1 ∙ i.lines) (subst (λ b. ObservesAll b c.args.events.now c.set_clock.new.self c.pick.new.lines now new) c.if-settle-2.true done.observed) in
    record {
      agree = done.agree;
      image = done.kept.image ∙ e.image ∙ k.0.image;
      natives = done.kept.natives ∙ as_many c.pick.new.self c.set_clock.new.self e.natives ∙ k.0.natives;
      turns = reports_on c.args.machine.now c.pick.new.self c.args.events.now
          c.args.lines.now.refused c.args.limit k.0 k.2 c.next_time.result c.next_time.ensures c.in-Some.time c.in-Some.is c.set_clock.new.self e.image e.passed
          (as_many c.pick.new.self c.set_clock.new.self e.natives) new c.args.lines.now now reports;
    }

pub loop-limit-smaller : goal.loop-limit-smaller
loop-limit-smaller g c = let k = none_picked c.args.machine.now
    c.loop-limit.machine c.pick.new.self c.loop-limit.lines c.pick.new.lines c.pick.result c.loop-limit.invariant.rests c.if-pick.false c.pick.ensures.picked in
    let e = c.set_clock.ensures in
    let late = passed_late c.args.machine.now c.pick.new.self c.args.events.now
    c.args.lines.now.refused c.args.limit k.0 k.2 c.next_time.result c.next_time.ensures c.in-Some.time c.in-Some.is c.set_clock.new.self e.image e.passed in
    let falls = c.settle-in-loop-limit.ensures.falls c.if-settle-2.false late in
    let events = passed_to_come c.args.machine.now c.pick.new.self c.args.events.now
    c.args.lines.now.refused c.args.limit k.0 k.2 c.next_time.result c.next_time.ensures c.in-Some.time c.in-Some.is c.set_clock.new.self e.image e.passed in
    let same = e.timers in
    let still = ap (waiting c.args.events.now) k.3 in
    omega (arith, falls, events, same, still)

pub loop-limit-preserved : goal.loop-limit-preserved
loop-limit-preserved g c =
    let i = c.loop-limit.invariant in
    let k = none_picked c.args.machine.now c.loop-limit.machine c.pick.new.self c.loop-limit.lines c.pick.new.lines c.pick.result c.loop-limit.invariant.rests
    c.if-pick.false c.pick.ensures.picked in
    let e = c.set_clock.ensures in
    let done = c.settle-in-loop-limit.ensures in
    let quiet = c.if-settle-2.false in
    let all = subst (λ b. ObservesAll b c.args.events.now c.set_clock.new.self c.pick.new.lines c.settle-in-loop-limit.new.lines c.settle-in-loop-limit.new.machine)
    quiet done.observed in
    record {
      rests = rests_on c.args.machine.now c.pick.new.self c.args.events.now c.args.lines.now.refused c.args.limit k.0 k.2 c.next_time.result
          c.next_time.ensures c.in-Some.time c.in-Some.is c.set_clock.new.self e.image e.passed (as_many c.pick.new.self c.set_clock.new.self e.natives)
          c.settle-in-loop-limit.new.machine all.1 done.kept.between all.2 all.3 (done.polled quiet) done.kept.image done.kept.natives;
      agree = done.agree;
      lines = all.0 ∙ k.1 ∙ i.lines;
    }
