use Rattle.std.proofs.Common.{arith, refl, sym, ◌∙◌, rules}
use Rattle.aom_run.proofs.turns.next_due_event.Goals as goal

pub returns-in-Some-clause-some : goal.returns-in-Some-clause-some
returns-in-Some-clause-some g c =
    let test = c.if-event-clock.true in
    let clock = c.clock.ensures in
    ((c.in-Some.event, sym c.next_event.ensures ∙ c.in-Some.is, omega (arith, test, clock)), refl)

pub returns-in_default-clause-none : goal.returns-in_default-clause-none
returns-in_default-clause-none g c = search rules
