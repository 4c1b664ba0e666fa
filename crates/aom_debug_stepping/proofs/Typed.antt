-- What went so by each strongest typing went so by one, which each state that the machine stands for has.
use Rattle.std.proofs.Common.{◌≡◌, ℕ, Bool, List, Option, Some, None, subst, sym}
use Rattle.aom_image.specs.Image.{Image}
use Rattle.aom_semantics.specs.State.{State}
use Rattle.aom_static_bounds.specs.Strongest.{IsStrongest}
use Rattle.aom_typing_rules.specs.Typing.{Typing}
use Rattle.aom_machine_state.specs.declared.progress.Progress.{Progress}
use Rattle.aom_run.specs.Calls.{Stands}
use Rattle.aom_debug_protocol.specs.declared.spot.CodeLocation.{CodeLocation}
use Rattle.aom_debug_stepping.specs.RunGoals.{ByTyping, RunGoals}
use Rattle.aom_debug_stepping.specs.Runners.{KeepsRunner, Runner, Went}
use Rattle.aom_debug_stepping.specs.Sends.{Leads}

module _ {X : Type 0} {B : X → Type 0} where
  -- a move keeps the image, and so its strongest typing
  pub strongest_as : {a n : Runner X B} → KeepsRunner a n → (t : Typing) → IsStrongest a.machine.core.image t → IsStrongest n.machine.core.image t
  strongest_as keeps t strongest = subst (λ p. IsStrongest p t) (sym keeps.image) strongest

  pub went_typed : (leads : Typing → RunGoals) (may : Leads) (a n : Runner X B) → Stands a.machine → (old new : List CodeLocation) (before out : Option (List ℕ)) (failed : Bool)
      (result : Option Progress) → ((t : Typing) → IsStrongest a.machine.core.image t → Went (leads t old new) may a before out failed result n) →
      Went (ByTyping a.machine.core.image leads old new) may a before out failed result n
  went_typed leads may a n st old new before out failed None went = went st.1.stands.typing st.1.stands.sound.strongest
  went_typed leads may a n st old new before out failed (Some far) went = (
    (λ s stands.
        let t = stands.stands.typing in
        let strongest = stands.stands.sound.strongest in
        let f = (went t strongest).0 s stands in
        (f.0, f.1, (t, strongest, f.2), f.3, f.4)),
    (went st.1.stands.typing st.1.stands.sound.strongest).1,
  )
