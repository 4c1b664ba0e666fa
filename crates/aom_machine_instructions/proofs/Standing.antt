-- A destruction of a cell that goes with nothing before it.
use Rattle.std.proofs.Common.{arith, ℕ, Bool, true, false, not, cond, is_some, List, ◌∷◌, Option, Some, None, ◌≡◌, ◌<◌, ◌∙◌, ap, subst}
use Rattle.aom_cells.specs.Heap.{null, class_at}
use Rattle.aom_link_conditions.specs.Roles.{role_of}
use Rattle.aom_frames.specs.Tasks.{on_top, register_here, with_register}
use Rattle.aom_frames.specs.declared.task.Task.{Task}
use Rattle.aom_frames.specs.declared.task.Task.TheVariants.{Closing, Destroy}
use Rattle.aom_image.specs.Image.{Image}
use Rattle.aom_image.specs.declared.method.Role.TheVariants.{Destruct}
use Rattle.aom_instructions.specs.Table.{action_of}
use Rattle.aom_instructions.specs.declared.action.Action.TheVariants as action
use Rattle.aom_instructions.specs.declared.instr.Instr.{Instr}
use Rattle.aom_machine_state.specs.declared.parts.Parts.{Parts}
use Rattle.aom_machine_state.specs.Places.{with_tasks}
use Rattle.aom_machine_instructions.proofs.GoingActs.{destroy_object_does}
use Rattle.aom_machine_instructions.specs.Acts.{DoesIn, going_at}
use Rattle.aom_machine_instructions.specs.declared.after.After.{After}
use Rattle.aom_machine_instructions.specs.declared.after.After.TheVariants.{CellGoes}
use Rattle.aom_roles.specs.Classes.{sessions_in, sessions_of}
use Rattle.aom_roles.specs.Shapes.{kind_of}
use Rattle.aom_image.specs.declared.class.ClassKind.{ClassKind}
use Rattle.aom_machine_instructions.specs.Going.{begun, destructed, dispatches, is_dispatched_class, is_server_class}

pub plain_where : (b : Bool) → not b ≡ true → b ≡ false
plain_where x is = grind arith

-- where no object of a class is dispatched, none is a server
unserved : (k : Option ClassKind) → dispatches k ≡ false → is_some (sessions_in k) ≡ false
unfolding sessions_in sessions_of
unserved x is = grind arith

pub no_server : (p : Image) (class : ℕ) → is_dispatched_class p (Some class) ≡ false → is_server_class p (Some class) ≡ false
no_server p class is = unserved (kind_of p (Some class)) is

pub begun_alone : (p : Image) (class : ℕ) → role_of p class Destruct ≡ None → is_server_class p (Some class) ≡ false → (n : ℕ) (ts : List Task)
    → begun p (Some class) n ts ≡ Destroy n ∷ ts
begun_alone p class none plain n ts =
    ap (λ b. cond b (Closing ∷ Destroy n ∷ ts) (destructed p (role_of p class Destruct) n (Destroy n ∷ ts))) plain
    ∙ ap (λ d. destructed p d n (Destroy n ∷ ts)) none

module _ (p : Image) (m : Parts) (refused : List ℕ) (i : Instr) (a : ℕ) where
  abbrev there : ℕ
  there = register_here m.stack.tasks a

  abbrev emptied : List Task
  emptied = on_top (with_register a null) m.stack.tasks

  pub destroy_alone_does : action_of i ≡ action.Destroy a → a < 16 → (there ≡ null → ⊥) → (class : ℕ) → class_at m.cells there ≡ Some class
      → begun p (Some class) there emptied ≡ Destroy there ∷ emptied → DoesIn p refused i m (going_at there (with_tasks emptied m))
  destroy_alone_does is small some class here alone = subst (λ ts. DoesIn p refused i m (with_tasks ts m))
      (ap (λ c. begun p c there emptied) here ∙ alone) (destroy_object_does p m refused i a is small some)

-- the same cell goes
pub same_cell : (k n : ℕ) → CellGoes k ≡ CellGoes n → k ≡ n
same_cell k n is = cc
