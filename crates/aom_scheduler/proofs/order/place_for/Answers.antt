use Rattle.std.proofs.Common.{rules}
use Rattle.std.proofs.lemmas.List.Sorted.{IsPartitionPoint-from_clause}
use Rattle.aom_scheduler.specs.PriorityList.{before}
use Rattle.aom_scheduler.proofs.Items.{searchable}
use Rattle.aom_scheduler.proofs.Places.{by_priority}
use Rattle.aom_scheduler.proofs.order.place_for.Goals as goal

pub returns-clause-point : goal.returns-clause-point
returns-clause-point c =
    let sorted = searchable before by_priority c.args.entry.now c.args.entries.now.items c.requires in
    IsPartitionPoint-from_clause (λ e. before e c.args.entry.now) _ _ c.partition_point.ensures.partitioned sorted (λ a r q k. search rules)
