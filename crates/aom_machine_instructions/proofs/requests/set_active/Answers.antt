use Rattle.aom_machine_instructions.proofs.RequestActs.{set_active_does, set_active_issued, set_active_lives}
use Rattle.aom_machine_instructions.proofs.requests.set_active.Goals as goal

pub cell-id-requires-clause-lives : goal.cell-id-requires-clause-lives
cell-id-requires-clause-lives c = set_active_lives c.requires.0 c.args.parts.now c.requires.1

pub set_active-requires : goal.set_active-requires
set_active-requires c = rw c.cell-id.ensures (set_active_issued c.requires.0 c.args.parts.now c.requires.1)

pub returns : goal.returns
returns c = λ refused. rw c.next.ensures (set_active_does c.args.parts.now refused c.set_active.new.self (rw c.cell-id.ensures at c.set_active.ensures))
