-- A debugger that has not gone on yet.
use Rattle.std.specs.Prelude.{◌≡◌, ℕ, false, []}
use Rattle.aom_image.specs.Image.{Image}
use Rattle.aom_semantics.specs.World.{boot_state}
use Rattle.aom_run.specs.Calls.{RefinesWithNatives}
use Rattle.aom_script.specs.Script.{Script}
use Rattle.aom_debug.specs.Runners.{outside_of}
use Rattle.aom_debug_symbols.specs.NameLists.{NameLists}
use Rattle.aom_debug.specs.declared.debugger.Debugger.{Debugger}
use Rattle.aom_commands.specs.Headline.{HasNatives, outside_of as outside_by}

module _ {X : Type 0} {B : X → Type 0} where
  -- its machine has booted beside so many natives, which are enough, it hears what the script lets come, it has no breakpoint and no latest instruction, and it tells by these names
  pub record IsBegun (ns : NameLists) (p : Image) (script : Script) (limit natives : ℕ) (d : Debugger X B) : Type 0 where
    pub image : d.runner.machine.core.image ≡ p
    pub stands : RefinesWithNatives d.runner.machine (boot_state p)
    pub outside : outside_of d.runner ≡ outside_by script limit natives
    pub spots : d.breakpoints ≡ []
    pub recent : d.runner.recent ≡ []
    pub names : d.names ≡ ns
    pub well : d.has_failed ≡ false
    pub enough : HasNatives p natives
