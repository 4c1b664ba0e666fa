use Rattle.std.proofs.Common.{rules}
use Rattle.std.proofs.lemmas.List.Sorted.{IsPartitionPoint-from_clause}
use Rattle.aom_scheduler.specs.Pending.{no_later}
use Rattle.aom_scheduler.proofs.Items.{searchable}
use Rattle.aom_scheduler.proofs.Timing.{by_due}
use Rattle.aom_scheduler.proofs.timers.place_for.Goals as goal

pub returns-clause-point : goal.returns-clause-point
returns-clause-point c =
    let sorted = searchable no_later by_due c.args.timer.now c.args.queue.now.items c.requires in
    IsPartitionPoint-from_clause (λ t. no_later t c.args.timer.now) _ _ c.partition_point.ensures.partitioned sorted (λ a r q k. search rules)
