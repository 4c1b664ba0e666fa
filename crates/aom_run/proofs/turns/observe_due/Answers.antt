-- Each event that has come is heard, up to one that is told by a line.
use Rattle.std.proofs.Common.{arith, false, inl, inr, length, refl, subst, sym, ◌<◌, ◌≡◌, ◌∙◌}
use Rattle.aom_machine_state.specs.LineBuffer.{LineBuffer}
use Rattle.aom_run.specs.Beside.{is_for_native}
use Rattle.aom_run.specs.Calls.{Delivered, EventInRange}
use Rattle.aom_run.specs.Turns.{ReportsEnd}
use Rattle.aom_run.proofs.Between.{at_most_to_come, come_within, had_come, observed_far, observed_fewer, observed_settles, observed_stands, observed_reports, less_to_come}
use Rattle.aom_run.proofs.Between.{none_settles, settles_both, reports_after}
use Rattle.aom_run.proofs.Gets.{all_got}
use Rattle.aom_run.proofs.Keeping.{keeps_on, times_all, times_on}
use Rattle.aom_run.proofs.turns.observe_due.Goals as goal

pub loop-event-init : goal.loop-event-init
loop-event-init g c = record {
  settled = none_settles c.args.events.now c.args.machine.now;
  kept = times_all c.args.machine.now c.requires.rests.0 c.requires.rests.1 c.requires.none_due;
  agree = c.requires.agree;
  unreported = λ k none. refl;
  lines = refl;
  fewer = inl refl;
}

pub deliver-requires-clause-few : goal.deliver-requires-clause-few
deliver-requires-clause-few g c =
    let within = come_within c.args.events.now c.loop-event.machine c.in-Some.ensures.some.0 in
    omega (arith, within)

pub deliver-requires-clause-room : goal.deliver-requires-clause-room
deliver-requires-clause-room g c = subst (λ (t : LineBuffer). length t.lines < t.room) (sym c.loop-event.invariant.lines) c.requires.can.1

pub deliver-requires-clause-ranged : goal.deliver-requires-clause-ranged
deliver-requires-clause-ranged g c =
    let come = c.in-Some.ensures.some in
    subst EventInRange come.1 (all_got (λ e. EventInRange e.event) c.args.events.now _ come.0.0 c.requires.can.0 come.0.1)

pub returns-then-deliver-clause-observed : goal.returns-then-deliver-clause-observed
returns-then-deliver-clause-observed g c =
    let i = c.loop-event.invariant in
    let m = c.loop-event.machine in
    let new = c.deliver.new.self in
    let now = c.deliver.new.lines in
    let e = c.deliver.ensures.delivered in
    let come = c.in-Some.ensures.some in
    let takes = subst (λ event. Delivered m event c.loop-event.lines now new) (sym come.1) e.delivered in
    subst (λ t. ReportsEnd c.args.events.now c.args.machine.now t now new) i.lines (reports_after _ c.args.machine.now m i.kept.keeps.image i.kept.keeps.natives
    i.settled _ now new (observed_reports _ m new _ now i.kept.none_due come.0 takes e.rest))

pub returns-then-deliver-clause-kept : goal.returns-then-deliver-clause-kept
returns-then-deliver-clause-kept g c =
    let i = c.loop-event.invariant in
    let m = c.loop-event.machine in
    let e = c.deliver.ensures.delivered in
    let come = c.in-Some.ensures.some in
    let takes = subst (λ event. Delivered m event c.loop-event.lines c.deliver.new.lines c.deliver.new.self) (sym come.1) e.delivered in
    let none = i.kept.none_due in
    let k = i.kept.keeps in
    keeps_on k (observed_stands c.args.events.now m c.deliver.new.self c.loop-event.lines c.deliver.new.lines none come.0 takes e.rest k.stands)
    (observed_far c.args.events.now m c.deliver.new.self c.loop-event.lines c.deliver.new.lines none come.0 takes e.rest k.stands) e.image e.natives.count

pub loop-event-smaller : goal.loop-event-smaller
loop-event-smaller g c =
    let i = c.loop-event.invariant in
    let m = c.loop-event.machine in
    let e = c.deliver.ensures.delivered in
    let come = c.in-Some.ensures.some in
    let takes = subst (λ event. Delivered m event c.loop-event.lines c.deliver.new.lines c.deliver.new.self) (sym come.1) e.delivered in
    observed_fewer c.args.events.now m c.deliver.new.self c.loop-event.lines c.deliver.new.lines i.kept.none_due come.0 takes e.rest

pub loop-event-preserved : goal.loop-event-preserved
loop-event-preserved g c =
    let i = c.loop-event.invariant in
    let k = i.kept.keeps in
    let none = i.kept.none_due in
    let old = c.args.machine.now in
    let m = c.loop-event.machine in
    let new = c.deliver.new.self in
    let reported = c.loop-event.lines in
    let now = c.deliver.new.lines in
    let e = c.deliver.ensures.delivered in
    let events = c.args.events.now in
    let come = c.in-Some.ensures.some in
    let takes = subst (λ event. Delivered m event reported now new) (sym come.1) e.delivered in
    let quiet = e.quiet c.if-deliver.false in
    record {
      settled = settles_both events old m k.image k.natives i.settled new (observed_settles events m new reported now none come.0 takes e.rest quiet);
      kept = times_on i.kept (keeps_on k (observed_stands events m new reported now none come.0 takes e.rest k.stands)
          (observed_far events m new reported now none come.0 takes e.rest k.stands) e.image e.natives.count) (e.none_due c.if-deliver.false none) e.timers;
      agree = c.deliver.ensures.agree;
      unreported = λ k none. e.natives.at k
          (subst (λ event. is_for_native event k ≡ false) come.1 (all_got (λ x. is_for_native x.event k ≡ false) _ _ _ none come.0.1)) ∙ i.unreported k none;
      lines = quiet ∙ i.lines;
      fewer = inr (less_to_come events old m new i.fewer (observed_fewer events m new reported now none come.0 takes e.rest));
    }

pub deliver-requires-clause-agree : goal.deliver-requires-clause-agree
deliver-requires-clause-agree g c = c.loop-event.invariant.agree

pub returns-then-deliver-clause-agree : goal.returns-then-deliver-clause-agree
returns-then-deliver-clause-agree g c = c.deliver.ensures.agree

pub returns-clause-agree : goal.returns-clause-agree
returns-clause-agree g c = c.loop-event.invariant.agree

pub returns-clause-kept : goal.returns-clause-kept
returns-clause-kept g c = c.loop-event.invariant.kept.keeps

pub returns-clause-observed : goal.returns-clause-observed
returns-clause-observed g c = (c.loop-event.invariant.lines, c.loop-event.invariant.settled, c.loop-event.invariant.kept.none_due, c.in_default.ensures.none)

pub returns-clause-timers : goal.returns-clause-timers
returns-clause-timers g c = c.loop-event.invariant.kept.timers

pub deliver-requires-clause-stands : goal.deliver-requires-clause-stands
deliver-requires-clause-stands g c = c.loop-event.invariant.kept.keeps.stands

pub deliver-requires-clause-between : goal.deliver-requires-clause-between
deliver-requires-clause-between g c = c.loop-event.invariant.kept.keeps.between

pub returns-then-deliver-clause-timers : goal.returns-then-deliver-clause-timers
returns-then-deliver-clause-timers g c = c.deliver.ensures.delivered.timers ∙ c.loop-event.invariant.kept.timers

pub returns-clause-implied : goal.returns-clause-implied
returns-clause-implied g c = at_most_to_come c.args.events.now c.args.machine.now c.loop-event.machine c.loop-event.invariant.fewer

pub returns-clause-falls : goal.returns-clause-falls
returns-clause-falls g c = λ is. had_come c.args.events.now c.args.machine.now c.loop-event.machine c.loop-event.invariant.fewer c.in_default.ensures.none

pub returns-then-deliver-clause-unreported : goal.returns-then-deliver-clause-unreported
returns-then-deliver-clause-unreported g c = λ k none.
    let come = c.in-Some.ensures.some in
    let apart = all_got (λ x. is_for_native x.event k ≡ false) c.args.events.now c.loop-event.machine.core.parts.rest.delivered come.0.0 none come.0.1 in
    c.deliver.ensures.delivered.natives.at k (subst (λ event. is_for_native event k ≡ false) come.1 apart) ∙ c.loop-event.invariant.unreported k none

pub returns-clause-unreported : goal.returns-clause-unreported
returns-clause-unreported g c = c.loop-event.invariant.unreported
