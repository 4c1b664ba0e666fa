use Rattle.std.proofs.Common.{◌≡◌, ◌≤◌, ◌∙◌, length, subst, sym, take, arith, rules}
use Rattle.std.proofs.lemmas.List.Sorted.{IsPartitionPoint-from_clause}
use Rattle.aom_scheduler.specs.PriorityList.{PriorityList, ready_ids}
use Rattle.aom_scheduler.proofs.Ready.{is_in_front, none-among, stands-among}
use Rattle.aom_scheduler.proofs.schedule.Schedule.ready_before.Goals as goal

pub returns : goal.returns
returns c = subst (λ (r : PriorityList). c.partition_point.result ≡ length (ready_ids (take c.args.place r.entries))) c.self.view_is
    (stands-among c.self.inside.order _ c.args.place _ c.in_order.ensures c.self.invariant.0
    (subst (λ (r : PriorityList). c.args.place ≤ length r.entries) (sym c.self.view_is) c.requires) (omega arith)
    (λ parted. IsPartitionPoint-from_clause (is_in_front _ c.args.place) _ _ c.partition_point.ensures.partitioned parted (λ a r q k. search rules)))

pub returns-in_default : goal.returns-in_default
returns-in_default c = subst (λ (r : PriorityList). 0 ≡ length (ready_ids (take c.args.place r.entries))) c.self.view_is
    (none-among c.self.inside.order c.args.place c.in_order.ensures (subst (λ (r : PriorityList). c.args.place ≤ length r.entries) (sym c.self.view_is) c.requires)
    c.next_ready.result (rw c.self.view_is c.next_ready.ensures.value) (rw c.in_default.is tt))

pub returns-then-not-is_before : goal.returns-then-not-is_before
returns-then-not-is_before c = subst (λ (r : PriorityList). 0 ≡ length (ready_ids (take c.args.place r.entries))) c.self.view_is
    (none-among c.self.inside.order c.args.place c.in_order.ensures (subst (λ (r : PriorityList). c.args.place ≤ length r.entries) (sym c.self.view_is) c.requires)
    c.next_ready.result (rw c.self.view_is c.next_ready.ensures.value) (rw c.in-Some.is (sym c.is_before.ensures ∙ c.if-not-is_before.true)))
