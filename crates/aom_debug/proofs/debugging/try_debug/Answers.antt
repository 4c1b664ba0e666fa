-- The accepted image is the one that the bytes spell. Bytes that are none have a fault, and so has want of memory.
use Rattle.std.proofs.Common.{length, refl}
use Rattle.aom_debug.proofs.Statuses.{unaccepted}
use Rattle.aom_debug.proofs.debugging.try_debug.Goals as goal

pub returns-in-Ok : goal.returns-in-Ok
returns-in-Ok g c = c.debug_text.ensures c.args.image.now c.in-Ok.ensures.ok.0

pub returns-in-Err : goal.returns-in-Err
returns-in-Err g c = λ errors status reported. unaccepted c.args.names c.args.image.now c.args.script.now c.args.limit
    (length c.args.boxes.items) c.args.reads _ _ errors status refl refl c.in-Err.refusal c.in-Err.ensures.err c.in-Err.ensures.complete reported
