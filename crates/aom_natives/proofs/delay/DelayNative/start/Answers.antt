use Rattle.std.proofs.Common.{rules}
use Rattle.aom_natives.proofs.delay.DelayNative.start.Goals as goal

pub returns-then-is_full-clause-answer : goal.returns-then-is_full-clause-answer
returns-then-is_full-clause-answer c = search rules

pub returns-then-is_full-clause-entry : goal.returns-then-is_full-clause-entry
returns-then-is_full-clause-entry c = search rules

pub returns-then-is_full-clause-taken : goal.returns-then-is_full-clause-taken
returns-then-is_full-clause-taken c = search rules
