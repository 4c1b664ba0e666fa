-- Of the object that the innermost method works on.
use Rattle.aom_debug_paths.proofs.variable.variable_at.Goals as goal

pub returns-in-Word : goal.returns-in-Word
returns-in-Word c =
    let has = rw c.linked.ensures at c.receiver_word.ensures in
    rw c.in-Word.is (λ t strongest s st. has c.args.accepted.now s st)
