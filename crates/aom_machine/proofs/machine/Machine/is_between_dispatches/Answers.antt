use Rattle.std.proofs.Common.{◌≡◌, refl, subst, sym, ◌∙◌}
use Rattle.std.proofs.lemmas.Bool.{false≢true}
use Rattle.aom_machine_state.specs.declared.progress.Progress.TheVariants.{Turned}
use Rattle.aom_machine_state.specs.Stands.{MachineModel}
use Rattle.aom_machine.specs.Steps.{progress}
use Rattle.aom_machine.proofs.machine.Machine.is_between_dispatches.Goals as goal

pub returns-in-Turned : goal.returns-in-Turned
returns-in-Turned c = (λ t. subst (λ (x : MachineModel). progress x ≡ Turned) c.self.view_is (sym c.progress.ensures ∙ c.in-Turned.is), λ e. refl)

pub returns-in_default : goal.returns-in_default
returns-in_default c = (λ f. absurd (false≢true f), λ e. absurd (c.in_default.not-Turned (c.progress.ensures ∙ subst (λ (x : MachineModel). progress x ≡ Turned) (sym c.self.view_is) e)))
