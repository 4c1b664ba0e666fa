-- What was explored was so under what the text denotes. A text that is no script has a fault, and so has want of memory.
use Rattle.std.proofs.Common.{length, refl}
use Rattle.aom_fault_injection.specs.Expected.{exploration_of}
use Rattle.aom_commands.proofs.Acceptance.{accepts_of}
use Rattle.aom_commands.proofs.Reporting.{untried}
use Rattle.aom_commands.proofs.exploring.explore_text.Goals as goal

pub returns-in-Err : goal.returns-in-Err
returns-in-Err g c =
    let is = c.facts.ensures in
    λ bytes serialized errors status reported. untried bytes c.args.text.now c.args.limit (length c.args.kinds.now) (exploration_of c.args.options) c.in-Err.fault c.from.result _ errors
    status (accepts_of bytes c.args.accepted.now serialized is.linked is.typed is.budgets is.within is.high) c.in-Err.ensures.err refl c.from.ensures reported
