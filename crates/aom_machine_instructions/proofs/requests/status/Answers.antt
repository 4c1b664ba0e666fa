use Rattle.std.proofs.Common.{rules, FitsSigned}
use Rattle.std.specs.Int.{w32}
use Rattle.std.proofs.lemmas.Int.{to_z-of_z}
use Rattle.aom_machine_instructions.proofs.RequestActs.{status_does, status_lives}
use Rattle.aom_machine_instructions.proofs.requests.status.Goals as goal

pub cell-requires-clause-lives : goal.cell-requires-clause-lives
cell-requires-clause-lives c = status_lives c.requires.0 c.args.parts.now c.args.to c.requires.1

pub returns : goal.returns
returns c = λ refused.
    let fits : FitsSigned w32 c.last_status-status.result = search rules in
    let writes = rw (to_z-of_z w32 c.last_status-status.result fits, c.last_status-status.ensures, c.cell.ensures) at c.write_word.ensures in
    status_does c.args.parts.now refused c.write_word.new.self c.args.to writes
