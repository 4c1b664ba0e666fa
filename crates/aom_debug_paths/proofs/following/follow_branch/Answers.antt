-- What the place holds that a branch leads to.
use Rattle.std.proofs.Common.{subst}
use Rattle.aom_debug_views.specs.Holdings.{HoldsSo, place_of}
use Rattle.aom_debug_paths.specs.Paths.{IsHeld, branch_place}
use Rattle.aom_debug_paths.proofs.Onward.{held_so, is_alive, onward_object}
use Rattle.aom_debug_paths.proofs.following.follow_branch.Goals as goal

pub returns-in-Object-clause-held : goal.returns-in-Object-clause-held
returns-in-Object-clause-held c = λ s o st is.
    let h = c.held_at.result in
    let cell = c.in-Object.cell in
    onward_object s o cell _ c.args.branch h (subst (λ x. IsHeld s o x) c.in-Object.is is)
    (held_so s (branch_place cell c.args.branch) h (subst (λ r. HoldsSo s r h) c.branch_owner.ensures.place (c.held_at.ensures s st)))

pub returns-in-Object-clause-alive : goal.returns-in-Object-clause-alive
returns-in-Object-clause-alive c = let st = c.requires.stands in
    is_alive c.args.accepted.now c.args.parts.now st (place_of c.branch_owner.result) c.held_at.result (c.held_at.ensures st.0 st.1)
