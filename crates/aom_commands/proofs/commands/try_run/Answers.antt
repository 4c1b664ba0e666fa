-- The accepted image is the one that the bytes spell. Bytes that are none have a fault, and so has want of memory.
use Rattle.std.proofs.Common.{length, refl}
use Rattle.aom_transcript.specs.Naming.{named_by}
use Rattle.aom_commands.proofs.Reporting.{accepted, unaccepted}
use Rattle.aom_commands.proofs.Untelling.{unreported_weaker}
use Rattle.aom_commands.proofs.commands.try_run.Goals as goal

pub returns-in-Ok : goal.returns-in-Ok
returns-in-Ok g c =
    unreported_weaker _ _ _ (λ errors status. accepted (named_by c.args.names) _ _ _ _ _ _ _) (c.run_text-ended.ensures c.args.image.now c.in-Ok.ensures.ok.0)

pub returns-in-Err : goal.returns-in-Err
returns-in-Err g c = λ errors status reported. unaccepted (named_by c.args.names) c.args.image.now c.args.script.now c.args.limit
    (length c.args.boxes.items) c.in-Err.refusal _ errors status c.in-Err.ensures.err c.in-Err.ensures.complete refl reported
