-- What is written of the image goes out, or there is a first fault on the way.
use Rattle.std.proofs.Common.{refl}
use Rattle.aom_commands.proofs.Figuring.{shown, unpriced}
use Rattle.aom_commands.proofs.Untelling.{unreported_weaker}
use Rattle.aom_commands.proofs.pricing.try_prices.Goals as goal

pub returns-in-Ok : goal.returns-in-Ok
returns-in-Ok g c = unreported_weaker _ _ c.show.result
    (λ errors status shows. shown c.args.names.now c.args.image.now _ _ _ errors status c.in-Ok.ensures.ok shows) c.show.ensures

pub returns-in-Err : goal.returns-in-Err
returns-in-Err g c = λ errors status reported. unpriced c.args.names.now c.args.image.now c.in-Err.fault _ errors status c.in-Err.ensures.err refl reported
