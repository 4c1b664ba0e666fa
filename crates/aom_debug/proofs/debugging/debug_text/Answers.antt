-- A script is heard as what its text denotes. A text that is no script has a fault, and so has want of memory.
use Rattle.std.proofs.Common.{length, refl}
use Rattle.aom_debug.proofs.CommandsLemmas.{accepts_of}
use Rattle.aom_debug.proofs.Statuses.{unscripted}
use Rattle.aom_debug.proofs.debugging.debug_text.Goals as goal

pub returns-in-Ok : goal.returns-in-Ok
returns-in-Ok g c = λ bytes serialized. c.debug_script.ensures bytes c.args.text.now serialized c.in-Ok.ensures.ok

pub returns-in-Err : goal.returns-in-Err
returns-in-Err g c = λ bytes serialized errors status reported. unscripted c.args.names bytes c.args.text.now c.args.limit
    (length c.args.boxes.items) c.args.reads _ _ errors status refl refl c.in-Err.fault c.from.result (accepts_of bytes c.args.accepted.now serialized
    c.facts.ensures.linked c.facts.ensures.typed c.facts.ensures.budgets c.facts.ensures.within c.facts.ensures.high) c.in-Err.ensures.err c.from.ensures reported
