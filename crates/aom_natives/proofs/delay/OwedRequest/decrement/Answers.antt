use Rattle.std.proofs.Common.{rules}
use Rattle.aom_natives.proofs.delay.OwedRequest.decrement.Goals as goal

pub returns : goal.returns
returns c = search rules
