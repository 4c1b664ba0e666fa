use Rattle.aom_machine_instructions.proofs.NativeActs.{close_does, close_lives}
use Rattle.aom_machine_instructions.proofs.natives.close_session.Goals as goal

pub cell-own-requires-clause-lives : goal.cell-own-requires-clause-lives
cell-own-requires-clause-lives c = close_lives c.requires.0 c.args.parts.now c.requires.1

pub returns : goal.returns
returns c = λ refused. rw c.next.ensures (close_does c.args.parts.now refused c.close.new.self (rw c.cell-own.ensures at c.close.ensures))
