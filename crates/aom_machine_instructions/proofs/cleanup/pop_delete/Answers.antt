use Rattle.aom_machine_instructions.proofs.DealActs.{deletes_entry, deletes_whole, pop_delete_does}
use Rattle.aom_machine_instructions.proofs.cleanup.pop_delete.Goals as goal

pub run_cleanup_entry-requires-clause-entry : goal.run_cleanup_entry-requires-clause-entry
run_cleanup_entry-requires-clause-entry c = deletes_entry c.args.linked.now c.args.parts.now c.requires

pub run_cleanup_entry-requires-clause-lives : goal.run_cleanup_entry-requires-clause-lives
run_cleanup_entry-requires-clause-lives c = deletes_whole c.args.linked.now c.args.parts.now c.requires

pub returns : goal.returns
returns c = λ refused. rw c.run_cleanup_entry.ensures (pop_delete_does c.args.linked.now c.args.parts.now refused)
