-- Its own, or its parent's.
use Rattle.std.proofs.Common.{arith, length, sym, ◌<◌, ◌∙◌}
use Rattle.aom_link_conditions.proofs.Keeping.{kept_above, kept_nowhere, kept_own, no_method, read_kept}
use Rattle.aom_link_conditions.proofs.RolesLemmas.{parent_below}
use Rattle.aom_link_conditions.proofs.kept.keeps.Goals as goal

pub returns-then-is_some : goal.returns-then-is_some
returns-then-is_some c = kept_own c.args.image.now c.args.class c.args.role _ c.own_role.ensures (sym c.is_some.ensures ∙ c.if-is_some.true)

pub returns-in-Some : goal.returns-in-Some
returns-in-Some c =
    let p = c.args.image.now in
    let none = sym c.own_role.ensures ∙ no_method c.own_role.result (sym c.is_some.ensures ∙ c.if-is_some.false) in
    let is = sym c.parent_of.ensures ∙ c.in-Some.is in
    let lt : c.in-Some.parent < length c.args.flags.now = (let below = parent_below p c.args.class c.in-Some.parent is in let size = c.requires.class in omega (arith, below, size)) in
    kept_above p c.args.class c.in-Some.parent c.args.role _ none c.requires.role is
    (read_kept p c.args.flags.now c.in-Some.parent c.number.result c.args.role c.number.ensures.value lt c.requires.sofar)

pub returns-in-None : goal.returns-in-None
returns-in-None c =
    let none = sym c.own_role.ensures ∙ no_method c.own_role.result (sym c.is_some.ensures ∙ c.if-is_some.false) in
    kept_nowhere c.args.image.now c.args.class c.args.role none c.requires.role (sym c.parent_of.ensures ∙ c.in-None.is)
