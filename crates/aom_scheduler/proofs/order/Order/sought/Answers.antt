use Rattle.std.proofs.Common.{◌≡◌, None, Some, sym, ap, ◌∙◌, slice_index_or, arith, rules}
use Rattle.std.proofs.lemmas.List.Sorted.{IsPartitionPoint-from_clause}
use Rattle.aom_scheduler.specs.PriorityList.{place}
use Rattle.aom_scheduler.specs.Keys.{precedes}
use Rattle.aom_scheduler.proofs.Keys.{place-by_key}
use Rattle.aom_scheduler.proofs.order.Order.sought.Goals as goal

pub returns : goal.returns
returns c =
    let keys = c.self.inside.keys.items in
    let key = c.in_ok-key.key in
    let own : slice_index_or keys c.args.id None ≡ Some key = search rules in
    sym (place-by_key c.self.inside.entries.items keys c.self.inside.next c.args.id c.partition_point.result key c.self.invariant.0 own
    (omega (arith, c.partition_point.ensures.bound, c.self.inside.entries.ok.0))
    (λ parted. IsPartitionPoint-from_clause (λ e. precedes (slice_index_or keys e.id None) (Some key)) _ _ c.partition_point.ensures.partitioned parted
    (λ a r q k. search rules))) ∙ ap (place c.args.id) c.self.view_is
