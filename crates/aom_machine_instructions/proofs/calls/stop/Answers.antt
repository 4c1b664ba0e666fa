use Rattle.aom_machine_instructions.proofs.CallActs.{stop_does}
use Rattle.aom_machine_instructions.proofs.calls.stop.Goals as goal

pub returns : goal.returns
returns c = λ refused. rw (c.next.ensures, c.stop.ensures) (stop_does c.args.parts.now refused)
