use Rattle.std.proofs.Common.{◌≡◌, Some, sym, subst, ap, ◌∙◌}
use Rattle.aom_clients.specs.Lists.{Table, with_list, list_at, first_of, IsFree}
use Rattle.aom_clients.proofs.CircularLists.{without-first, first-in, without-one, free-without}
use Rattle.aom_clients.proofs.lists.Lists.take_first.Goals as goal

pub unlink-requires : goal.unlink-requires
unlink-requires c =
    let first : first_of (list_at c.args.self.now c.args.list) ≡ Some c.in_ok-node.node = sym c.first.ensures ∙ c.in_ok-node.was in
    first-in (list_at c.args.self.now c.args.list) c.in_ok-node.node first

pub returns-clause-rest : goal.returns-clause-rest
returns-clause-rest c =
    let first : first_of (list_at c.args.self.now c.args.list) ≡ Some c.in_ok-node.node = sym c.first.ensures ∙ c.in_ok-node.was in
    c.unlink.ensures ∙ ap (λ xs. with_list c.args.list xs c.args.self.now) (without-first _ c.in_ok-node.node (c.in_order.ensures.once c.args.list) first)

pub returns-clause-free : goal.returns-clause-free
returns-clause-free c =
    let first : first_of (list_at c.args.self.now c.args.list) ≡ Some c.in_ok-node.node = sym c.first.ensures ∙ c.in_ok-node.was in
    let there = first-in (list_at c.args.self.now c.args.list) c.in_ok-node.node first in
    subst (λ (t : Table). IsFree t c.in_ok-node.node) (sym (c.unlink.ensures ∙ without-one c.args.self.now c.args.list _ c.in_order.ensures there))
    (free-without c.args.self.now c.in_ok-node.node)

pub returns-clause-below : goal.returns-clause-below
returns-clause-below c =
    let first : first_of (list_at c.args.self.now c.args.list) ≡ Some c.in_ok-node.node = sym c.first.ensures ∙ c.in_ok-node.was in
    c.in_order.ensures.below c.in_ok-node.node c.args.list (first-in (list_at c.args.self.now c.args.list) c.in_ok-node.node first)
