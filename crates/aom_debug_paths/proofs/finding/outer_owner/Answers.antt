-- Each place by its number.
use Rattle.std.proofs.Common.{◌∙◌, ap}
use Rattle.std.specs.Prelude.{option_map}
use Rattle.aom_semantics.specs.Places.{Entry, Going, Register}
use Rattle.aom_debug_paths.proofs.finding.outer_owner.Goals as goal

pub returns-in-Register-clause-place : goal.returns-in-Register-clause-place
returns-in-Register-clause-place c = λ p s st. rw c.in-Register.is
    (c.register_owner.ensures.place ∙ ap (λ o. option_map (λ d. Register d c.in-Register.register) o) (c.numbered_place.ensures p s st))

pub returns-in-Entry-clause-place : goal.returns-in-Entry-clause-place
returns-in-Entry-clause-place c =
    λ p s st. rw c.in-Entry.is (c.entry_owner.ensures.place ∙ ap (λ o. option_map (λ h. Entry h) o) (c.numbered_place-in-Entry.ensures p s st))

pub returns-in-Going-clause-place : goal.returns-in-Going-clause-place
returns-in-Going-clause-place c =
    λ p s st. rw c.in-Going.is (c.going_owner.ensures.place ∙ ap (λ o. option_map (λ d. Going d) o) (c.numbered_place-in-Going.ensures p s st))
