use Rattle.std.proofs.Common.{refl, subst}
use Rattle.std.specs.Prelude.{IfSome}
use Rattle.aom_natives.specs.Slots.{living_at}
use Rattle.aom_run.proofs.Ending.{owed_in, polled_so}
use Rattle.aom_run.proofs.machine.HostedMachine.poll.Goals as goal

-- what is completed was outstanding
pub polled-requires-clause-owed : goal.polled-requires-clause-owed
polled-requires-clause-owed g c = owed_in c.args.self.now c.requires.stands.0 c.requires.stands.1 c.in-Some.native _ _ c.poll-completion.ensures.ids

-- the next native is polled, as it stood
pub returns-clause-polled : goal.returns-clause-polled
returns-clause-polled g c = λ s st.
    let next = c.in-Some.ensures.some in
    let d = c.polled.ensures.polled s st.stands in
    let may = subst (λ t. IfSome (living_at c.args.self.now.natives.slots.items c.in-Some.native)
    (λ l. (g.dyn-1.0.entry l.native.vtable).1.poll_may l.native.value t c.poll-completion.result)) c.clock.ensures c.poll-completion.ensures.answer in (
      c.in-Some.native,
      c.poll-completion.result,
      d.0,
      next.3 s st,
      may,
      d.1,
      d.2,
      λ now. polled_so c.args.self.now
          (record { core = c.polled.new.self; natives = c.poll-completion.new.self }) c.polled.ensures.image c.in-Some.native c.poll-completion.result
          c.poll-completion.ensures.ids next.2 c.poll-completion.ensures.alive c.poll-completion.ensures.others s st d.0 d.1 d.2 now (d.3 now),
      c.poll-completion.ensures.others,
    )

pub returns-in_default-clause-agree : goal.returns-in_default-clause-agree
returns-in_default-clause-agree g c = c.requires.agree

pub returns-in_default-clause-image : goal.returns-in_default-clause-image
returns-in_default-clause-image g c = refl

pub returns-in_default-clause-natives : goal.returns-in_default-clause-natives
returns-in_default-clause-natives g c = refl

pub returns-in_default-clause-rest : goal.returns-in_default-clause-rest
returns-in_default-clause-rest g c = refl

pub returns-in_default-clause-timers : goal.returns-in_default-clause-timers
returns-in_default-clause-timers g c = refl

pub returns-in_default-clause-none_due : goal.returns-in_default-clause-none_due
returns-in_default-clause-none_due g c = λ is. is

pub poll-completion-requires-clause-agree : goal.poll-completion-requires-clause-agree
poll-completion-requires-clause-agree g c = c.requires.agree

pub polled-requires-clause-between : goal.polled-requires-clause-between
polled-requires-clause-between g c = c.requires.between

pub returns-clause-agree : goal.returns-clause-agree
returns-clause-agree g c = c.poll-completion.ensures.agree
