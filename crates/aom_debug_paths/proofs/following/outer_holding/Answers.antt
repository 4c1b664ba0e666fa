-- What the place holds that is meant, or nothing where none is.
use Rattle.std.proofs.Common.{◌∙◌, ap, subst, sym}
use Rattle.std.specs.Prelude.{IfSome, option_map}
use Rattle.aom_debug_views.specs.Holdings.{IsOwner, place_of}
use Rattle.aom_debug_paths.specs.Paths.{held_in}
use Rattle.aom_debug_paths.proofs.Onward.{held_same, held_so, is_alive}
use Rattle.aom_debug_paths.proofs.following.outer_holding.Goals as goal

pub held_at-requires-clause-owner : goal.held_at-requires-clause-owner
held_at-requires-clause-owner c = subst (λ o. IfSome o (λ x. IsOwner x)) c.in-Some.is c.outer_owner.ensures.owner

pub returns-in-Some-clause-held : goal.returns-in-Some-clause-held
returns-in-Some-clause-held c = λ s st.
    let r = place_of c.in-Some.owner in
    held_same s _ _ c.held_at.result
    (ap (held_in s.cells) (ap (option_map (λ x. place_of x)) (sym c.in-Some.is) ∙ c.outer_owner.ensures.place c.args.accepted.now s st))
    (held_so s r c.held_at.result (c.held_at.ensures s st))

pub returns-in-None-clause-held : goal.returns-in-None-clause-held
returns-in-None-clause-held c =
    λ s st. ap (held_in s.cells) (sym (ap (option_map (λ x. place_of x)) (sym c.in-None.is) ∙ c.outer_owner.ensures.place c.args.accepted.now s st))

pub returns-in-Some-clause-alive : goal.returns-in-Some-clause-alive
returns-in-Some-clause-alive c = let st = c.requires.stands in
    is_alive c.args.accepted.now c.args.parts.now st (place_of c.in-Some.owner) c.held_at.result (c.held_at.ensures st.0 st.1)
