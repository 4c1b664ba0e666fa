-- What waits at it in the machine's parts.
use Rattle.std.proofs.lemmas.Result.{IfErr-weaker, IfOk-weaker}
use Rattle.aom_debug.proofs.reaching.show_queue.Goals as goal

pub report_queue-requires-clause-lives : goal.report_queue-requires-clause-lives
report_queue-requires-clause-lives g c = rw c.parts.ensures.parts c.requires

pub returns-clause-ok : goal.returns-clause-ok
returns-clause-ok g c = IfOk-weaker c.report_queue.result _ _ (λ done reports. reports c.args.machine.now.core.image) (rw c.parts.ensures.parts at c.report_queue.ensures.ok)

pub returns-clause-err : goal.returns-clause-err
returns-clause-err g c =
    IfErr-weaker c.report_queue.result _ _ (λ fault part. part c.args.machine.now.core.image) (rw c.parts.ensures.parts at c.report_queue.ensures.err)
