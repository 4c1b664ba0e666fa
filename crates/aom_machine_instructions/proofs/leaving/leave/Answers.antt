use Rattle.std.proofs.Common.{arith}
use Rattle.aom_machine_instructions.proofs.LeavingActs.{to_trap_shorter}
use Rattle.aom_machine_instructions.proofs.leaving.leave.Goals as goal

pub push-requires : goal.push-requires
push-requires c =
    let few = to_trap_shorter c.args.parts.now.stack.tasks c.requires.runs in
    let room = c.requires.room in
    rw c.leave_to_trap.ensures (omega (arith, few, room))
