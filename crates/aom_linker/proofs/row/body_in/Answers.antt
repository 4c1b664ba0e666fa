-- A row has a number for each method.
use Rattle.aom_linker.proofs.Standing.{read_row}
use Rattle.aom_linker.proofs.row.body_in.Goals as goal

pub returns-in-Some : goal.returns-in-Some
returns-in-Some c = λ p k row there. read_row p k c.args.row.now _ c.args.method _ c.in-Some.is c.body.ensures row there
