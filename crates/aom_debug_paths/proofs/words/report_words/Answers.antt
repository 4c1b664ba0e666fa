-- As many as the class has.
use Rattle.aom_debug_paths.proofs.words.report_words.Goals as goal

pub returns-clause-ok : goal.returns-clause-ok
returns-clause-ok g c = rw c.word_count.ensures.value at c.report_count.ensures.ok

pub returns-clause-err : goal.returns-clause-err
returns-clause-err g c = rw c.word_count.ensures.value at c.report_count.ensures.err
