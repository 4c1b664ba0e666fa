-- The origin of what a need is about.
use Rattle.std.proofs.Common.{◌≡◌, ◌∙◌, ℕ, None, Option, Some, subst, sym}
use Rattle.std.specs.Prelude.{IfNone}
use Rattle.std.proofs.lemmas.Option.{same_Some}
use Rattle.aom_image.specs.Image.{Image}
use Rattle.aom_image.specs.Views.{instr_at}
use Rattle.aom_abstract_state.specs.AbstractState.{AbstractState}
use Rattle.aom_abstract_state.specs.declared.why.Reason.{Reason}
use Rattle.aom_static_bounds.specs.Shapes.{Shapes}
use Rattle.aom_origins.specs.Origins.{HasOrigin, IsOrigin, known_of}
use Rattle.aom_origins.specs.Subjects.{needed_subject}
use Rattle.aom_origins.specs.declared.subject.Subject.{Subject}

module _ (p : Image) (m : ℕ) (s : Shapes) (place : ℕ) (sh : AbstractState) (why : Reason) where
  pub past_end : instr_at p m place ≡ None → (origin : ℕ) → ¬ HasOrigin p m s place sh why origin
  past_end none origin has = let needed = rw none at has.needed in absurd cc

  pub of_subject : (subject : Subject) (found : Option ℕ) → Some subject ≡ needed_subject p m place sh why →
      IfNone found ((origin : ℕ) → ¬ IsOrigin p m s subject (known_of sh) origin) → IfNone found ((origin : ℕ) → ¬ HasOrigin p m s place sh why origin)
  of_subject subject None needed none = λ origin has.
      let same : has.subject ≡ subject = same_Some has.subject subject (sym has.needed ∙ sym needed) in
      none origin (subst (λ (x : Subject). IsOrigin p m s x (known_of sh) origin) same has.is)
  of_subject subject (Some origin) needed none = tt
