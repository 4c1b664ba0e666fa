-- The first condition that is not kept is told, and where all are kept there is a main.
use Rattle.std.proofs.Common.{◌≡◌, ◌∙◌, ℕ, List, Option, position, rules, sym, ap}
use Rattle.std.proofs.lemmas.Bool.{false≢true}
use Rattle.aom_image.specs.Image.{Image}
use Rattle.aom_image.specs.declared.method.Method.{Method}
use Rattle.aom_link_conditions.specs.Faults.{Fails}
use Rattle.aom_link_conditions.specs.Roles.{is_main, main_of}
use Rattle.aom_link_conditions.proofs.Each.{refused}
use Rattle.aom_link_conditions.proofs.conditions.check_conditions.Goals as goal

-- what was tried before held
pub returns-then-not-classes_are_ordered-clause-err : goal.returns-then-not-classes_are_ordered-clause-err
unfolding Fails
returns-then-not-classes_are_ordered-clause-err c = search (rules, refused)

pub returns-then-not-calls_are_ordered-clause-err : goal.returns-then-not-calls_are_ordered-clause-err
unfolding Fails
returns-then-not-calls_are_ordered-clause-err c = search (rules, refused)

pub returns-then-not-needs_are_met-clause-err : goal.returns-then-not-needs_are_met-clause-err
unfolding Fails
returns-then-not-needs_are_met-clause-err c = search (rules, refused)

pub returns-then-not-roles_are_single-clause-err : goal.returns-then-not-roles_are_single-clause-err
unfolding Fails
returns-then-not-roles_are_single-clause-err c = search (rules, refused)

pub returns-then-not-all_are_shaped-clause-err : goal.returns-then-not-all_are_shaped-clause-err
unfolding Fails
returns-then-not-all_are_shaped-clause-err c = search (rules, refused)

pub returns-then-not-all_jumps_valid-clause-err : goal.returns-then-not-all_jumps_valid-clause-err
unfolding Fails
returns-then-not-all_jumps_valid-clause-err c = search (rules, refused)

pub returns-then-not-all_loops_nest-clause-err : goal.returns-then-not-all_loops_nest-clause-err
unfolding Fails
returns-then-not-all_loops_nest-clause-err c = search (rules, refused)

found_as : (p : Image) (ms : List Method) (o : Option ℕ) → o ≡ position is_main ms → ms ≡ p.methods → main_of p ≡ o
unfolding main_of
found_as p ms o e f = ap (position is_main) (sym f) ∙ sym e

pub returns-in_default-clause-err : goal.returns-in_default-clause-err
unfolding Fails
returns-in_default-clause-err c =
    let main = found_as c.args.image.now _ _ c.find_main.ensures (c.as_slice.ensures ∙ c.methods.ensures.value) ∙ c.in_default.is in
    rw main (search (rules, false≢true))

pub returns-then-not-all_continue-clause-err : goal.returns-then-not-all_continue-clause-err
unfolding Fails
returns-then-not-all_continue-clause-err c =
    let main = found_as c.args.image.now _ _ c.find_main.ensures (c.as_slice.ensures ∙ c.methods.ensures.value) ∙ c.in-Some.is in
    rw main (search (rules, refused))

pub returns-then-not-overriders_fit-clause-err : goal.returns-then-not-overriders_fit-clause-err
unfolding Fails
returns-then-not-overriders_fit-clause-err c =
    let main = found_as c.args.image.now _ _ c.find_main.ensures (c.as_slice.ensures ∙ c.methods.ensures.value) ∙ c.in-Some.is in
    rw main (search (rules, refused))

pub returns-clause-ok : goal.returns-clause-ok
returns-clause-ok c =
    let main = found_as c.args.image.now _ _ c.find_main.ensures (c.as_slice.ensures ∙ c.methods.ensures.value) ∙ c.in-Some.is in
    (search (rules, main), main)
