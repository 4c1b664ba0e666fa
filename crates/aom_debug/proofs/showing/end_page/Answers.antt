-- The last line is that of the ending, with the cells that live.
use Rattle.std.proofs.Common.{◌∙◌, refl, sym}
use Rattle.aom_debug.proofs.Declining.{ended_by}
use Rattle.aom_debug.proofs.showing.end_page.Goals as goal

pub returns-in-Ended : goal.returns-in-Ended
returns-in-Ended g c = rw (
  c.add_end.ensures,
  c.new-page.ensures,
  c.count.ensures,
  ended_by c.args.machine.now.core.parts.rest.ended c.args.machine.now.core.parts.stack.tasks c.in-Ended.ending (sym c.progress.ensures ∙ c.in-Ended.is),
) refl
