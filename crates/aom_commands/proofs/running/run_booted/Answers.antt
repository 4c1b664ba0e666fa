-- What the machine sent is what its outcome shows.
use Rattle.std.proofs.Common.{arith}
use Rattle.aom_transcript.specs.Naming.{named_by}
use Rattle.aom_commands.proofs.Reporting.{shown_by}
use Rattle.aom_commands.proofs.running.run_booted.Goals as goal

pub run_named-requires-clause-room : goal.run_named-requires-clause-room
run_named-requires-clause-room g c = rw (c.requires.fresh.0, c.in_ok-lines.ensures.room) (omega arith)

pub returns-clause-ok : goal.returns-clause-ok
returns-clause-ok g c = shown_by (named_by c.args.names) _ c.args.machine.now c.run_named.new.machine _ _ _ _ _ c.requires.fresh.0
    (rw c.in_ok-lines.ensures.refused at c.run_named.ensures.ran)
