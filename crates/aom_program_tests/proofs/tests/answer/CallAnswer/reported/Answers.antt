-- An answer has the texts that it is told with.
use Rattle.std.proofs.Common.{rules}
use Rattle.aom_program_tests.proofs.tests.answer.CallAnswer.reported.Goals as goal

pub returns : goal.returns
returns g c = search rules
