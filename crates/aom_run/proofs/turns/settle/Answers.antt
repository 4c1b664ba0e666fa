-- All that is due by now is settled, or an event is told by a line.
use Rattle.std.proofs.Common.{ap, arith, subst}
use Rattle.aom_run.specs.Turns.{ObservesAll}
use Rattle.aom_run.proofs.Between.{completed_settles, kept_come, late_falls, rest_after, settles_both, reports_after}
use Rattle.aom_run.proofs.Keeping.{keeps_both}
use Rattle.aom_run.proofs.turns.settle.Goals as goal

pub observe_due-requires : goal.observe_due-requires
observe_due-requires g c =
    let done = c.complete_due.ensures in
    record { agree = done.agree; rests = (done.kept.stands, done.kept.between); none_due = done.none; can = c.requires.can }

pub returns-then-observe_due-clause-observed : goal.returns-then-observe_due-clause-observed
returns-then-observe_due-clause-observed g c =
    let done = c.complete_due.ensures in
    let events = c.args.events.now in
    reports_after _ c.args.machine.now c.complete_due.new.machine done.kept.image done.kept.natives
    (completed_settles _ c.args.machine.now c.complete_due.new.machine done.completed) _ _ c.observe_due.new.machine (subst (λ b. ObservesAll b c.args.events.now
    c.complete_due.new.machine c.args.lines.now c.observe_due.new.lines c.observe_due.new.machine) c.if-observe_due.true c.observe_due.ensures.observed)

pub returns-then-observe_due-clause-kept : goal.returns-then-observe_due-clause-kept
returns-then-observe_due-clause-kept g c = keeps_both c.complete_due.ensures.kept c.observe_due.ensures.kept

pub poll_all-requires : goal.poll_all-requires
poll_all-requires g c =
    let done = c.complete_due.ensures in
    let observed = c.observe_due.ensures in
    let all = subst (λ b. ObservesAll b c.args.events.now c.complete_due.new.machine c.args.lines.now c.observe_due.new.lines c.observe_due.new.machine)
    c.if-observe_due.false observed.observed in
    record {
      agree = observed.agree;
      rests = (observed.kept.stands, observed.kept.between);
      none_due = all.2;
    }

pub returns : goal.returns
returns g c =
    let done = c.complete_due.ensures in
    let observed = c.observe_due.ensures in
    let polled = c.poll_all.ensures in
    let quiet = c.if-observe_due.false in
    let all = subst (λ b. ObservesAll b c.args.events.now c.complete_due.new.machine c.args.lines.now c.observe_due.new.lines c.observe_due.new.machine) quiet observed.observed in
    let old = c.args.machine.now in
    let m = c.complete_due.new.machine in
    let k = c.observe_due.new.machine in
    let new = c.poll_all.new.machine in
    let events = c.args.events.now in
    let first = settles_both events old m done.kept.image done.kept.natives (completed_settles events old m done.completed) k all.1 in
    let kept = keeps_both done.kept observed.kept in
    record {
      agree = polled.agree;
      kept = keeps_both kept polled.kept;
      observed = (all.0, settles_both events old k kept.image kept.natives first new (polled.settled events all.3), polled.none_due, kept_come events k new polled.rest all.3);
      polled = λ e. polled.polled;
      falls = λ e late. let less = late_falls events old m k
          (rest_after old m done.completed c.requires.rests.0) done.implied done.falls observed.timers observed.implied (observed.falls quiet) late in
          let timers = polled.timers in
          let kept = ap (λ r. r.delivered) polled.rest in
          omega (arith, less, timers, kept);
    }
