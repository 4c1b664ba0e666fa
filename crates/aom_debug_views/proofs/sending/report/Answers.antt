-- The bytes that are sent are those of the answer's line.
use Rattle.aom_debug_views.proofs.sending.report.Goals as goal

pub returns-clause-ok : goal.returns-clause-ok
returns-clause-ok g c = rw (c.as_bytes.ensures, c.line_of-line.ensures) at c.send.ensures.ok

pub returns-clause-err : goal.returns-clause-err
returns-clause-err g c = rw (c.as_bytes.ensures, c.line_of-line.ensures) at c.send.ensures.err
