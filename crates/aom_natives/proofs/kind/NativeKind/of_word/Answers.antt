use Rattle.std.proofs.Common.{rules}
use Rattle.aom_natives.proofs.kind.NativeKind.of_word.Goals as goal

pub returns-in-line-clause-some : goal.returns-in-line-clause-some
returns-in-line-clause-some c = search rules
