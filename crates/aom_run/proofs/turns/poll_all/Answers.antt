-- Each living native is polled.
use Rattle.std.proofs.Common.{refl, subst, sym, ◌∙◌}
use Rattle.aom_run.specs.Turns.{KeepsMachine, Settles}
use Rattle.aom_run.proofs.Between.{all_polled, kept_come, none_settles, polled_far, polled_settles, polled_so, polled_stands, settles_both, still_rest}
use Rattle.aom_run.proofs.Keeping.{keeps_on, times_all, times_on}
use Rattle.aom_run.proofs.turns.poll_all.Goals as goal

pub loop-init : goal.loop-init
loop-init g c = record {
  settled = λ events come. none_settles events c.args.machine.now;
  kept = times_all c.args.machine.now c.requires.rests.0 c.requires.rests.1 c.requires.none_due;
  agree = c.requires.agree;
  rest = refl;
}

pub poll-requires : goal.poll-requires
poll-requires g c = let k = c.loop.invariant.kept.keeps in record { agree = c.loop.invariant.agree; stands = k.stands; between = k.between }

pub loop-smaller : goal.loop-smaller
loop-smaller g c = c.poll.ensures.falls c.loop-test.true

pub loop-preserved : goal.loop-preserved
loop-preserved g c =
    let i = c.loop.invariant in
    let k = i.kept.keeps in
    let none = i.kept.none_due in
    let m = c.loop.machine in
    let new = c.poll.new.self in
    let e = c.poll.ensures in
    let polled = polled_so m new _ c.poll.result c.loop-test.true e.polled in
    record {
      settled = λ events come. settles_both events c.args.machine.now m k.image k.natives
          (i.settled events come) new (polled_settles events m new _ none (kept_come events c.args.machine.now m i.rest come) polled);
      kept = times_on i.kept (keeps_on k (polled_stands m new _ polled k.stands) (polled_far m new _ polled k.stands) e.image e.natives) (e.none_due none) e.timers;
      agree = e.agree;
      rest = still_rest c.args.machine.now m new i.rest e.rest;
    }

pub returns : goal.returns
returns g c =
    let i = c.loop.invariant in
    let e = c.poll.ensures in
    let last = all_polled c.loop.machine c.poll.new.self _ c.poll.result c.loop-test.false e.polled in
    record {
      agree = e.agree;
      kept = subst (λ x. KeepsMachine c.args.machine.now x) (sym last.0) i.kept.keeps;
      settled = λ events come. subst (λ x. Settles events c.args.machine.now x) (sym last.0) (i.settled events come);
      none_due = e.none_due i.kept.none_due;
      rest = still_rest c.args.machine.now c.loop.machine c.poll.new.self i.rest e.rest;
      polled = last.1;
      timers = e.timers ∙ i.kept.timers;
    }
