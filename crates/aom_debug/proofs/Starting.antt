-- A debugger of a machine that has booted has not gone on yet.
use Rattle.std.proofs.Common.{◌≡◌, ◌∙◌, ℕ, false, [], ap, refl, subst, sym}
use Rattle.aom_image.specs.Image.{Image}
use Rattle.aom_semantics.specs.World.{boot_state}
use Rattle.aom_machine_state.specs.LineBuffer.{LineBuffer}
use Rattle.aom_run.specs.Calls.{RefinesWithNatives, natives_of}
use Rattle.aom_run.specs.declared.machine.HostedMachine.{HostedMachine}
use Rattle.aom_script.specs.Script.{Script}
use Rattle.aom_debug_symbols.specs.NameLists.{NameLists}
use Rattle.aom_debug.specs.declared.debugger.Debugger.{Debugger}
use Rattle.aom_debug.proofs.CommandsLemmas.{has_enough}
use Rattle.aom_debug.specs.Beginning.{IsBegun}

module _ {X : Type 0} {B : X → Type 0} (ns : NameLists) (p : Image) (script : Script)
    (limit natives : ℕ) (m : HostedMachine X B) (image : m.core.image ≡ p) (stands : RefinesWithNatives m (boot_state p)) (count : natives_of m ≡ natives) where
  pub begun_of : (d : Debugger X B) (lines : LineBuffer) → d.runner.machine ≡ m → (d.runner.script ≡ script) × (d.runner.lines ≡ lines) × (d.runner.limit ≡ limit) →
      lines.refused ≡ script.refused → (d.breakpoints ≡ []) × (d.runner.recent ≡ []) × (d.has_failed ≡ false) → d.names ≡ ns → IsBegun ns p script limit natives d
  begun_of d lines same given refused marks names = record {
    image = ap (λ (n : HostedMachine X B). n.core.image) same ∙ image;
    stands = subst (λ (n : HostedMachine X B). RefinesWithNatives n (boot_state p)) (sym same) stands;
    outside = rw (same, given.0, given.1, given.2, refused, count) refl;
    spots = marks.0;
    recent = marks.1;
    names = names;
    well = marks.2;
    enough = has_enough p m natives image count stands;
  }
