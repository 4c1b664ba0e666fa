use Rattle.std.proofs.Common.{◌<◌, ◌∙◌, slice_index_or, subst, sym, arith}
use Rattle.aom_image.specs.declared.method.Role.TheVariants.{Cancel}
use Rattle.aom_link_conditions.proofs.RolesLemmas.{parent_below}
use Rattle.aom_link_conditions.specs.Calls.{CancelsBelow}
use Rattle.aom_link_conditions.specs.Orders.{IsLeast}
use Rattle.aom_link_conditions.proofs.Keeping.{keeper_none, keeper_up}
use Rattle.aom_link_conditions.proofs.Ordering.{asked, asked_own, least_at, least_same, none_own}
use Rattle.aom_link_conditions.proofs.orders.cancelling.Goals as goal

pub returns-then-own-gt0 : goal.returns-then-own-gt0
returns-then-own-gt0 c = least_same _ c.above_own-own.ensures (asked_own c.args.image.now Cancel _ c.args.class c.above_own-own.ensures c.if-own-gt0.true)

pub returns-in-Some : goal.returns-in-Some
returns-in-Some c =
    let is = sym c.parent_of.ensures ∙ c.in-Some.is in
    let none = none_own c.args.image.now Cancel c.above_own-own.result c.args.class c.above_own-own.ensures (omega (arith, c.if-own-gt0.false)) in
    let lower = parent_below c.args.image.now c.args.class c.in-Some.parent is in
    let lt : c.number.result < c.args.class = omega (arith, lower, c.number.ensures.value) in
    let line = least_at c.args.class _ (λ k m. CancelsBelow c.args.image.now m k) c.in-Some.parent c.number.result c.requires c.number.ensures.value lt in
    subst (λ o. IsLeast (slice_index_or c.args.lines.now c.number.result 0) (λ m. asked c.args.image.now Cancel m o))
    (sym (keeper_up c.args.image.now Cancel c.args.class c.in-Some.parent none is)) line

pub returns-in-None : goal.returns-in-None
returns-in-None c =
    let none = none_own c.args.image.now Cancel c.above_own-own.result c.args.class c.above_own-own.ensures (omega (arith, c.if-own-gt0.false)) in
    subst (λ o. IsLeast 0 (λ m. asked c.args.image.now Cancel m o))
    (sym (keeper_none c.args.image.now Cancel c.args.class none (sym c.parent_of.ensures ∙ c.in-None.is))) (λ m. (λ le. tt, λ all. omega arith))
