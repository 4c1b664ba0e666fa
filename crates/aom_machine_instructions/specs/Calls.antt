-- What a call is made on, and what it runs.
use Rattle.std.specs.Prelude.{ℕ, ◌==◌, ◌&&◌, Bool, true, false, is_some, cond, List, Option, Some, None}
use Rattle.aom_image.specs.Image.{Image}
use Rattle.aom_image.specs.Views.{method_class}
use Rattle.aom_link_conditions.specs.Overriding.{body_of}
use Rattle.aom_link_conditions.specs.Roles.{or_else}
use Rattle.aom_instructions.specs.declared.instr.Target.{Target}
use Rattle.aom_instructions.specs.declared.instr.Target.TheVariants.{This, Register, Field, Entry}
use Rattle.aom_cells.specs.Heap.{Heap, class_at, null}
use Rattle.aom_frames.specs.Tasks.{fresh, register_here, view_here, with_view}
use Rattle.aom_frames.specs.Views.{class_above, own}
use Rattle.aom_frames.specs.declared.frame.Frame.{Frame}
use Rattle.aom_frames.specs.declared.task.Task.{Task}
use Rattle.aom_frames.specs.declared.view.View.{View}
use Rattle.aom_machine_state.specs.declared.parts.Parts.{Parts}
use Rattle.aom_machine_state.specs.Fields.{this, field_here}
use Rattle.aom_machine_state.specs.Places.{entry_here}

-- the number of what a method of that class works on; a static method works on nothing
abbrev pub target_here : Target → Option ℕ → Parts → ℕ
target_here This None m = null
target_here This (Some c) m = this m
target_here (Register r) class m = register_here m.stack.tasks r
target_here (Field f) class m = field_here f m
target_here (Entry k) class m = entry_here k m

abbrev pub is_this : Target → Bool
is_this This = true
is_this (Register r) = false
is_this (Field f) = false
is_this (Entry k) = false

-- as what that counts: this method's object as it does for it, and another as its own class
abbrev pub view_on : Bool → List Task → View
view_on on_self us = cond on_self (view_here us) own

abbrev pub view_of : Target → Option ℕ → List Task → View
view_of target class us = view_on (is_this target && is_some class) us

-- what a call of the method runs on that cell, and on none the method itself
abbrev pub body_on : Image → ℕ → ℕ → View → Heap → ℕ
body_on p method n view cells = cond (n == null) method (body_of p method (or_else (class_above view) (class_at cells n)))

-- the frame in which it begins
abbrev pub callee_here : Image → Target → ℕ → Parts → Frame
callee_here p target method m =
    let n = target_here target (method_class p method) m in
    let view = view_of target (method_class p method) m.stack.tasks in
    with_view view (fresh (body_on p method n view m.cells) n)
