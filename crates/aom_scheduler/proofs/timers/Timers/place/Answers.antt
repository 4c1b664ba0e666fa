use Rattle.std.proofs.Common.{sym, subst, ap, ◌∙◌, rules}
use Rattle.std.specs.Prelude.{nat_lt}
use Rattle.std.proofs.lemmas.List.Sorted.{IsPartitionPoint-from_clause}
use Rattle.aom_scheduler.specs.Pending.{IsSet, due_of}
use Rattle.aom_scheduler.proofs.Timing.{stands-if_set, searchable-early, early-ends}
use Rattle.aom_scheduler.proofs.timers.Timers.place.Goals as goal

pub place_from-requires-clause-set : goal.place_from-requires-clause-set
place_from-requires-clause-set c = stands-if_set c.args.id c.self.inside.queue.items (subst (IsSet c.args.id) (sym c.self.view_is) c.requires)

pub place_from-requires-clause-later : goal.place_from-requires-clause-later
place_from-requires-clause-later c =
    let timers = c.self.inside.queue.items in
    let due = c.unwrap-due.result in
    let point = IsPartitionPoint-from_clause (λ t. nat_lt t.due due) _ _ c.partition_point-start.ensures.partitioned
    (searchable-early due timers c.self.invariant.0.ordered.sorted) (λ a r q k. search rules) in
    early-ends c.args.id due c.partition_point-start.result timers point
    (ap (λ p. due_of c.args.id p.timers) c.self.view_is ∙ sym c.due_time.ensures ∙ c.unwrap-due.ensures)
