use Rattle.std.proofs.Common.{sym}
use Rattle.aom_machine_instructions.proofs.RequestActs.{jump_active_does, jump_active_lives}
use Rattle.aom_machine_instructions.proofs.requests.jump_active.Goals as goal

pub cell-requires-clause-lives : goal.cell-requires-clause-lives
cell-requires-clause-lives c = jump_active_lives c.requires.0 c.args.parts.now c.args.place c.requires.1

pub returns : goal.returns
returns c = λ refused. rw c.jump_if.ensures
    (jump_active_does c.args.parts.now refused c.args.place c.is_busy-busy.result (rw c.cell.ensures at (sym c.is_busy-busy.ensures)))
