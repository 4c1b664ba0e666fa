use Rattle.aom_machine_instructions.proofs.RequestActs.{abort_cancelling, abort_does, abort_lives}
use Rattle.aom_machine_instructions.proofs.requests.abort.Goals as goal

pub cell-id-requires-clause-lives : goal.cell-id-requires-clause-lives
cell-id-requires-clause-lives c = abort_lives c.requires.0 c.args.parts.now c.requires.1

pub abort-requires : goal.abort-requires
abort-requires c = rw c.cell-id.ensures (abort_cancelling c.requires.0 c.args.parts.now c.requires.1)

pub returns : goal.returns
returns c = λ refused. rw c.next.ensures (abort_does c.args.parts.now refused c.abort.new.self c.forget.new.self
    (rw c.cell-id.ensures at c.abort.ensures) c.forget.ensures.places (rw c.cell-id.ensures at c.forget.ensures.void))
