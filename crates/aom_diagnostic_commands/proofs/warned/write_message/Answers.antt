-- What is written is what the warning says.
use Rattle.std.proofs.Common.{◌∙◌, codes}
use Rattle.aom_diagnostic_commands.proofs.Warning.{numbered_behind}
use Rattle.aom_diagnostic_commands.proofs.warned.write_message.Goals as goal

pub returns-in-NeverRead : goal.returns-in-NeverRead
returns-in-NeverRead c = rw c.in-NeverRead.is
    (numbered_behind c.count.result c.args.out.now _ (codes ": nothing reads the field ") _ _ (c.from.ensures ∙ c.number.ensures.value) c.count.ensures)

pub returns-in-NeverCalled : goal.returns-in-NeverCalled
returns-in-NeverCalled c = rw c.in-NeverCalled.is c.words-in-NeverCalled.ensures

pub returns-in-NeverReached : goal.returns-in-NeverReached
returns-in-NeverReached c = rw c.in-NeverReached.is c.words-in-NeverReached.ensures

pub returns-in-NeverUsed : goal.returns-in-NeverUsed
returns-in-NeverUsed c = rw c.in-NeverUsed.is (numbered_behind c.count-in-NeverUsed.result c.args.out.now _ (codes ": nothing reads the word in r") _ _
    (c.from-in-NeverUsed.ensures ∙ c.number-in-NeverUsed.ensures.value) c.count-in-NeverUsed.ensures)
