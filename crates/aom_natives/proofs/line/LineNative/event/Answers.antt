use Rattle.std.proofs.Common.{◌≡◌, length, rules}
use Rattle.aom_natives.proofs.Lines.{take-full}
use Rattle.aom_natives.proofs.line.LineNative.event.Goals as goal

pub returns-else-not-is_full-clause-words : goal.returns-else-not-is_full-clause-words
returns-else-not-is_full-clause-words c = let full : length c.args.self.now.words ≡ 16 = search rules in take-full 16 _ _ full
