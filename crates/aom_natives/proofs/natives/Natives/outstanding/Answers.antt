use Rattle.std.proofs.Common.{rules}
use Rattle.aom_natives.proofs.natives.Natives.outstanding.Goals as goal

pub returns-in-Some-Some : goal.returns-in-Some-Some
returns-in-Some-Some g c = search rules
