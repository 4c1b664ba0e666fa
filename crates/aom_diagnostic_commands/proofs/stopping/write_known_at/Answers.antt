-- Parts that do not go together are no linked image.
use Rattle.std.proofs.lemmas.Result.{IfOk-weaker}
use Rattle.aom_diagnostic_commands.proofs.Knowing.{not_linked}
use Rattle.aom_diagnostic_commands.proofs.stopping.write_known_at.Goals as goal

pub returns-in-Err : goal.returns-in-Err
returns-in-Err c = IfOk-weaker c.not_linked.result _ _
    (λ done other. not_linked c.args.told.now c.args.image c.args.at.now.method c.args.at.now.place c.args.at.now.why c.args.out.now c.in-Err.fault c.in-Err.ensures.err other) c.not_linked.ensures
