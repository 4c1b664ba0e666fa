-- An image that is not drawn has a fault, and so has want of memory.
use Rattle.std.proofs.Common.{refl}
use Rattle.aom_commands.proofs.Translated.{drawn_by, undrawn}
use Rattle.aom_commands.proofs.Untelling.{unreported_weaker}
use Rattle.aom_commands.proofs.commands.try_draw.Goals as goal

pub returns-in-Ok : goal.returns-in-Ok
returns-in-Ok g c =
    unreported_weaker _ _ _ (λ errors status sends. drawn_by _ _ _ _ errors status (rw c.deref.ensures.value c.in-Ok.ensures.ok) sends) c.try_send.ensures

pub returns-in-Err : goal.returns-in-Err
returns-in-Err g c = λ errors status reported. undrawn c.args.names.now c.args.image.now c.in-Err.fault _ errors status c.in-Err.ensures.err refl reported
