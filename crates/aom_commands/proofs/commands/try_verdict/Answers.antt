-- The image that is accepted is the one that the bytes spell. Bytes that are none have a fault, and so has want of memory.
use Rattle.std.proofs.Common.{refl}
use Rattle.aom_commands.specs.Headline.{Accepts}
use Rattle.aom_commands.proofs.Sending.{checked}
use Rattle.aom_commands.proofs.Reporting.{unchecked}
use Rattle.aom_commands.proofs.Untelling.{unreported_weaker}
use Rattle.aom_commands.proofs.commands.try_verdict.Goals as goal

pub returns-in-Ok : goal.returns-in-Ok
returns-in-Ok g c =
    let accepts : Accepts c.args.image.now = record { image = _; serialized = c.in-Ok.ensures.ok.0; acceptable = c.in-Ok.ensures.ok.1 } in
    unreported_weaker _ _ c.try_send.result (λ errors status sends. checked c.args.image.now _ errors status accepts sends) c.try_send.ensures

pub returns-in-Err : goal.returns-in-Err
returns-in-Err g c = λ errors status reported. unchecked c.args.image.now c.in-Err.refused _ errors status c.in-Err.ensures.err c.in-Err.ensures.complete refl reported
