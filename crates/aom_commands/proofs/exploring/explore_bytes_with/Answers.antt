-- The accepted image is the one that the bytes spell.
use Rattle.std.proofs.Common.{length}
use Rattle.aom_fault_injection.specs.Expected.{exploration_of}
use Rattle.aom_commands.proofs.Reporting.{explores}
use Rattle.aom_commands.proofs.Untelling.{answered}
use Rattle.aom_commands.proofs.exploring.explore_bytes_with.Goals as goal

pub returns-in-Ok : goal.returns-in-Ok
returns-in-Ok g c = explores c.args.image.now c.args.script.now c.args.limit (length c.args.kinds.now) (exploration_of c.args.options) _ _ c.answer.result
    (answered _ c.explore_text-found.result _ c.answer.result (c.explore_text-found.ensures c.args.image.now c.in-Ok.ensures.ok.0) c.answer.ensures)
