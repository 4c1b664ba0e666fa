use Rattle.std.proofs.Common.{refl}
use Rattle.aom_machine_state.proofs.stores.TaskStacks.begin.Goals as goal

pub returns-clause-tasks : goal.returns-clause-tasks
returns-clause-tasks c = rw (c.push-3.ensures, c.begin.ensures, c.push-2.ensures, c.push.ensures, c.in_ok-stack.ensures) refl

pub returns-clause-depth : goal.returns-clause-depth
returns-clause-depth c = rw (c.push-3.ensures, c.push-2.ensures, c.push.ensures, c.in_ok-stack.ensures) refl

pub returns-clause-entries : goal.returns-clause-entries
returns-clause-entries c = rw (c.mark.ensures, c.in_ok-entries.ensures) refl
