-- The server is named by its cell.
use Rattle.aom_debug_paths.proofs.queue.report_queue.Goals as goal

pub returns-clause-ok : goal.returns-clause-ok
returns-clause-ok g c = rw c.number.ensures.value at c.report_waiting.ensures.ok

pub returns-clause-err : goal.returns-clause-err
returns-clause-err g c = rw c.number.ensures.value at c.report_waiting.ensures.err
