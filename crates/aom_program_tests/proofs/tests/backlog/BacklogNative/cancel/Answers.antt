use Rattle.std.proofs.Common.{rules, Contains}
use Rattle.aom_program_tests.proofs.NativesLemmas.{owed-contains}
use Rattle.aom_program_tests.proofs.tests.backlog.BacklogNative.cancel.Goals as goal

pub unreachable-requires : goal.unreachable-requires
unreachable-requires c = let has : Contains c.args.self.now.ids.items c.args.id = owed-contains _ _ c.requires in search rules
