use Rattle.std.proofs.Common.{sym, ◌∙◌}
use Rattle.aom_machine_instructions.proofs.Reclaiming.{goes_on}
use Rattle.aom_machine_instructions.proofs.servers.end_entries.Goals as goal

pub loop-taken-preserved : goal.loop-taken-preserved
loop-taken-preserved c = goes_on c.args.server c.args.parts.now c.loop-taken.parts c.end_entry.new.parts
    c.args.lines.now c.loop-taken.lines c.end_entry.new.lines c.in-Some.taken c.loop-taken.invariant (sym c.in-Some.is ∙ c.take_from_destroyed.ensures.taken)
    (rw c.take_from_destroyed.ensures.after at c.end_entry.ensures.rest) c.end_entry.ensures.messages c.end_entry.ensures.reported
