use Rattle.std.proofs.Common.{◌∙◌, subst, sym}
use Rattle.aom_link_conditions.specs.Jumps.{BadJumpOf, JumpIsValid}
use Rattle.aom_link_conditions.specs.Places.{AtJump, IsThere}
use Rattle.aom_link_conditions.proofs.Places.{jump_found, read_first}
use Rattle.aom_link_conditions.proofs.jumps.jump_place.Goals as goal

pub returns-in-Some : goal.returns-in-Some
returns-in-Some c =
    let p = c.args.image.now in
    let same = c.as_slice-methods.ensures ∙ c.methods.ensures.value in
    let found = read_first (λ _ d. JumpIsValid d.code) _ _ _ _ _ same c.first_jumping.ensures c.in-Some.is c.index-methods-number.is in
    let code = subst (λ code. BadJumpOf code c.bad_jump-place.result) c.as_slice.ensures c.bad_jump-place.ensures in
    subst (λ x. IsThere p x × AtJump p x) (sym c.in_method.ensures) (jump_found p _ _ _ found.0 found.1 code)
