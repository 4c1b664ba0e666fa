-- What is so of a machine as it is seen is so of its parts, under the same image.
use Rattle.std.proofs.Common.{subst, sym, ◌≡◌}
use Rattle.aom_image.specs.Image.{Image}
use Rattle.aom_machine_state.specs.declared.parts.Parts.{Parts}
use Rattle.aom_machine_state.specs.declared.progress.Progress.TheVariants.{Turned}
use Rattle.aom_machine_state.specs.Stands.{MachineModel, Stands}
use Rattle.aom_machine.specs.Steps.{progress}

pub turned_seen : (p : Image) (m : Parts) (view : MachineModel) → record { image = p; parts = m } ≡ view → progress view ≡ Turned →
    progress (record { image = p; parts = m }) ≡ Turned
turned_seen p m view is turned = subst (λ (x : MachineModel). progress x ≡ Turned) (sym is) turned

pub stands_under : (p q : Image) (m : Parts) → q ≡ p → Stands (record { image = p; parts = m }) → Stands (record { image = q; parts = m })
stands_under p q m same stands = subst (λ (x : Image). Stands (record { image = x; parts = m })) (sym same) stands

-- what a call says under the image that it is given is so of what is seen
pub seen_as : (F : MachineModel → Image → Type 0) {p q : Image} {m : Parts} {view : MachineModel} → q ≡ p → record { image = p; parts = m } ≡ view →
    F (record { image = q; parts = m }) q → F view p
seen_as F {p} {q} {m} same is x = subst (λ (v : MachineModel). F v p) is (subst (λ (i : Image). F (record { image = i; parts = m }) i) same x)
