-- What becomes of the requests of objects.
use Rattle.std.specs.Prelude.{◌≡◌, ℕ, ℤ, Option, None, Some, IsFalse, IsTrue}
use Rattle.aom_image.specs.Image.{Image}
use Rattle.aom_image.specs.Views.{method_role}
use Rattle.aom_image.specs.declared.class.ClassKind.{ClassKind}
use Rattle.aom_image.specs.declared.class.ClassKind.TheVariants.{Active as An_active}
use Rattle.aom_image.specs.declared.class.Provider.{Provider}
use Rattle.aom_image.specs.declared.class.Provider.TheVariants.{Native, Own, Timer, Token as A_token}
use Rattle.aom_image.specs.declared.method.Role.{Role}
use Rattle.aom_image.specs.declared.method.Role.TheVariants.{Cancel}
use Rattle.aom_roles.specs.Shapes.{kind_of}
use Rattle.aom_cells.specs.Heap.{Lives, class_at}
use Rattle.aom_scheduler.specs.Requests.{is_pending, request_at}
use Rattle.aom_active_objects.specs.Agrees.{Active}
use Rattle.aom_active_objects.specs.Meanings.{Makes, Times, begun_with, is_being_cancelled}
use Rattle.aom_semantics.specs.Requests.{cancelled, due_after, completed_at_once}
use Rattle.aom_semantics.specs.Natives.{started}
use Rattle.aom_cells.specs.Sessions.{Standing, is_killed, is_open}
use Rattle.aom_frames.specs.Tasks.{TopFrameIs, method_here}
use Rattle.aom_machine_state.specs.declared.parts.Parts.{Parts}
use Rattle.aom_machine_state.specs.Fields.{this}

-- a cancel may be over: the request is being cancelled, and is completed
abbrev pub IsCancelled : Role → Parts → Type 0
IsCancelled Cancel m =
    TopFrameIs m.stack.tasks × Lives m.cells (this m) × IsTrue (is_being_cancelled (request_at m.active.table (this m))) × IsFalse (is_pending (request_at m.active.table (this m)))
IsCancelled role m = Unit {0}

-- as a method of that role is over
abbrev pub EndsCancel : Role → Active → Active → ℕ → Type 0
EndsCancel Cancel old new id = Makes old new id cancelled
EndsCancel role old new id = new ≡ old

-- the cancel that the method at its end may have to end is over
pub record IsOver (p : Image) (m : Parts) (active : Active) : Type 0 where
  pub role : Role
  pub fills_role : method_role p (method_here m.stack.tasks) ≡ Some role
  pub was : IsCancelled role m
  pub ends : EndsCancel role m.active active (this m)

-- the kind of class of what a method works on
abbrev pub kind_here : Image → Parts → Option ClassKind
kind_here p m = kind_of p (class_at m.cells (this m))

-- what objects of a class of active objects make their requests of
abbrev pub provider_of : Option ClassKind → Option Provider
provider_of (Some (An_active provider)) = Some provider
provider_of _ = None

-- a request of an object is made of that provider, where sessions stand so and a native has answered that
abbrev pub Issues : Provider → Standing → (observed : ℤ) → (clock : ℕ) → ℤ → Active → Active → ℕ → Type 0
Issues Own w observed clock a old new id = Makes old new id (completed_at_once a)
Issues Timer w observed clock a old new id = Times old new id (due_after clock a)
Issues A_token w observed clock a old new id = Makes old new id (completed_at_once a)
Issues (Native n) w observed clock a old new id = Makes old new id (begun_with (started (is_killed w n) (is_open w id) observed))
