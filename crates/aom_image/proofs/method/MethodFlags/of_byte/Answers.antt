use Rattle.std.proofs.Common.{rules}
use Rattle.aom_image.proofs.method.MethodFlags.of_byte.Goals as goal

pub returns-clause-known : goal.returns-clause-known
returns-clause-known c = search rules
