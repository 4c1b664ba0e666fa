use Rattle.std.proofs.Common.{◌∙◌, ap, not, refl, sym}
use Rattle.aom_link_conditions.proofs.RolesLemmas.{parent_below}
use Rattle.aom_link_conditions.specs.Roles.{role_by}
use Rattle.aom_link_conditions.proofs.Keeping.{here_kept, keeper_none, keeper_up, no_method}
use Rattle.aom_link_conditions.proofs.roles.kept_role.Goals as goal

pub loop-found-init : goal.loop-found-init
loop-found-init c = record { kept = refl; found = c.own_role-found.ensures }

pub returns-in_default : goal.returns-in_default
returns-in_default c =
    let none = sym c.loop-found.invariant.found ∙ no_method c.loop-found.found (c.is_none.ensures ∙ ap not c.loop-found-test.true) in
    sym (c.loop-found.invariant.kept ∙ ap (role_by c.args.image.now c.args.role) (keeper_none _ _ _ none (sym c.parent_of.ensures ∙ c.in_default.is)))

pub loop-found-smaller : goal.loop-found-smaller
loop-found-smaller c = parent_below c.args.image.now c.loop-found.here c.in-Some.parent (sym c.parent_of.ensures ∙ c.in-Some.is)

pub loop-found-preserved : goal.loop-found-preserved
loop-found-preserved c =
    let none = sym c.loop-found.invariant.found ∙ no_method c.loop-found.found (c.is_none.ensures ∙ ap not c.loop-found-test.true) in
    record {
      kept = c.loop-found.invariant.kept ∙ ap (role_by c.args.image.now c.args.role)
          (keeper_up c.args.image.now c.args.role c.loop-found.here c.in-Some.parent none (sym c.parent_of.ensures ∙ c.in-Some.is));
      found = c.own_role-found-in-loop-found.ensures;
    }

pub returns : goal.returns
returns c = here_kept c.args.image.now c.args.role c.loop-found.here c.loop-found.found c.loop-found.invariant.found
    (c.is_none.ensures ∙ ap not c.loop-found-test.false) ∙ sym c.loop-found.invariant.kept
