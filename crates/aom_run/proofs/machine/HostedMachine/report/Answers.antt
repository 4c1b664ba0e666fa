use Rattle.aom_semantics.specs.World.{Observes}
use Rattle.aom_run.proofs.Serving.{observed_plain, none_due_still, takes_plainly}
use Rattle.aom_run.proofs.machine.HostedMachine.report.Goals as goal

pub returns-clause-observed : goal.returns-clause-observed
returns-clause-observed g c = λ now s st. takes_plainly c.args.self.now (record { core = c.observe_event.new.self; natives = c.send_word.new.natives }) s st Observes
    (observed_plain s) tt tt c.send_word.ensures.same c.observe_event.ensures.image now now (c.observe_event.ensures.observed now s st.stands)

pub returns-clause-none_due : goal.returns-clause-none_due
returns-clause-none_due g c = none_due_still c.args.self.now.core c.observe_event.new.self _ c.observe_event.ensures.rest c.observe_event.ensures.back
