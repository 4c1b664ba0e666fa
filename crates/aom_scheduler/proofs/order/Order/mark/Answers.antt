use Rattle.std.proofs.Common.{sym, subst, ap, ◌∙◌, arith}
use Rattle.aom_scheduler.specs.Keys.{IsKeyed}
use Rattle.aom_scheduler.specs.PriorityList.{place, marked}
use Rattle.aom_scheduler.proofs.Items.{at-within, place-at}
use Rattle.aom_scheduler.proofs.Places.{marked-in, same_priority_list, id_of}
use Rattle.aom_scheduler.proofs.Keys.{keyed-mark}
use Rattle.aom_scheduler.proofs.order.Order.mark.Goals as goal

pub index_mut-requires : goal.index_mut-requires
index_mut-requires c =
    let entries = c.self.inside.entries.items in
    let found = place-at id_of c.args.id entries c.args.at (ap (place c.args.id) c.self.view_is ∙ c.requires) in
    omega (arith, at-within id_of c.args.id entries c.args.at found, c.self.inside.entries.ok.0)

pub invariant_of-self : goal.invariant_of-self
invariant_of-self c =
    let entries = c.self.inside.entries.items in
    let found = place-at id_of c.args.id entries c.args.at (ap (place c.args.id) c.self.view_is ∙ c.requires) in
    let is = marked-in entries c.args.id c.args.at c.args.is_ready c.index_mut.result.now c.self.invariant.0.ordered.distinct found
    c.index_mut.ensures.value in (
      subst (λ xs. IsKeyed xs c.self.inside.keys.items c.self.inside.next) (sym is) (keyed-mark entries c.self.inside.keys.items c.self.inside.next c.args.id
          c.args.is_ready c.self.invariant.0),
      c.self.invariant.1,
      c.self.invariant.2,
    )

pub returns : goal.returns
returns c =
    let entries = c.self.inside.entries.items in
    let found = place-at id_of c.args.id entries c.args.at (ap (place c.args.id) c.self.view_is ∙ c.requires) in
    let is = marked-in entries c.args.id c.args.at c.args.is_ready c.index_mut.result.now c.self.invariant.0.ordered.distinct found
    c.index_mut.ensures.value in
    same_priority_list _ _ _ _ (is ∙ ap (λ r. marked c.args.id c.args.is_ready r.entries) c.self.view_is) (ap (λ r. r.limit) c.self.view_is)
