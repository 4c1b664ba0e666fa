use Rattle.std.proofs.lemmas.Result.{IfErr-weaker, IfOk-weaker}
use Rattle.aom_debug.proofs.showing.show_cells.Goals as goal

pub returns-clause-ok : goal.returns-clause-ok
returns-clause-ok g c = IfOk-weaker c.report_cells.result _ _
    (λ done reports. reports c.args.machine.now.core.image) (rw (c.parts.ensures.parts, c.linked.ensures, c.accepted.ensures) at c.report_cells.ensures.ok)

pub returns-clause-err : goal.returns-clause-err
returns-clause-err g c = IfErr-weaker c.report_cells.result _ _
    (λ fault part. part c.args.machine.now.core.image) (rw (c.parts.ensures.parts, c.linked.ensures, c.accepted.ensures) at c.report_cells.ensures.err)
