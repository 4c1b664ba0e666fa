use Rattle.std.proofs.Common.{◌<◌, ◌∙◌, sym, arith}
use Rattle.aom_link_conditions.proofs.RolesLemmas.{parent_below}
use Rattle.aom_link_conditions.specs.Calls.{GoesBelow}
use Rattle.aom_link_conditions.proofs.Ordering.{goes_none, goes_parent, least_at, least_max, least_same}
use Rattle.aom_link_conditions.proofs.orders.going.Goals as goal

pub returns-in-Some : goal.returns-in-Some
returns-in-Some c =
    let is = sym c.parent_of.ensures ∙ c.in-Some.is in
    let lower = parent_below c.args.image.now c.args.class c.in-Some.parent is in
    let lt : c.number.result < c.args.class = omega (arith, lower, c.number.ensures.value) in
    let line = least_at c.args.class _ (λ k m. GoesBelow c.args.image.now m k) c.in-Some.parent c.number.result c.requires c.number.ensures.value lt in
    rw c.max.ensures (least_same _ (least_max _ _ c.above_own-own.ensures line) (goes_parent c.args.image.now c.args.class c.in-Some.parent is))

pub returns-in-None : goal.returns-in-None
returns-in-None c = least_same _ c.above_own-own.ensures (goes_none c.args.image.now c.args.class (sym c.parent_of.ensures ∙ c.in-None.is))
