-- Runs over classes with parents: which method a call runs, and which destructors as an object goes.
use Rattle.std.specs.Prelude.{ℕ, pos, ◌≡◌, List, [], ◌∷◌, Some, None}
use Rattle.aom_image.specs.Image.{Image}
use Rattle.aom_image.specs.Small.{a_class, a_header}
use Rattle.aom_image.specs.declared.class.ClassDecl.{ClassDecl}
use Rattle.aom_image.specs.declared.class.ClassKind.TheVariants.{Active, Plain}
use Rattle.aom_image.specs.declared.class.Provider.TheVariants.{Own}
use Rattle.aom_instructions.specs.declared.version.Version.TheVariants.{Two}
use Rattle.aom_image.specs.declared.method.Argument.TheVariants.{Own as Takes_own}
use Rattle.aom_image.specs.declared.method.Gives.TheVariants.{Nothing}
use Rattle.aom_image.specs.declared.method.Method.{Method}
use Rattle.aom_image.specs.declared.method.Role.TheVariants.{Cancel as Cancels, Construct, Destruct, Do, Main as Is_main}
use Rattle.aom_image.specs.declared.method.Thing.TheVariants.{Object as An_object_of}
use Rattle.aom_instructions.specs.declared.instr.Instr.{Instr}
use Rattle.aom_instructions.specs.declared.instr.Instr.TheVariants.{Abort, Call, Cancel, Const, Delete, Enlist, Issue, NewOrLeave, Pop, Print, Push, Put, Return, SetActive, Stop, Take, Trap}
use Rattle.aom_instructions.specs.declared.instr.Target.TheVariants.{This, Register as On_register, Entry as On_entry}
use Rattle.aom_transcript.specs.declared.line.Ending.TheVariants.{Stopped}
use Rattle.aom_transcript.specs.declared.line.Line.TheVariants.{Gone, Main, Out}
use Rattle.aom_semantics.specs.Cases.Programs.{a_method}
use Rattle.aom_semantics.specs.Cases.Running.{RunsTo, Sticks, run_of}
use Rattle.aom_semantics.specs.State.{ActiveDestroyed, Orphan}

-- an image of the second version
abbrev pub a_family : List ClassDecl → List Method → Image
a_family classes methods = record { header = record (a_header 4 0 0 None 60) { version = Two }; classes = classes; methods = methods }

abbrev pub a_plain : ClassDecl
a_plain = a_class Plain 0 0 []

-- a class that descends from that one
abbrev pub from : ℕ → ClassDecl
from parent = record a_plain { parent = Some parent }

-- a method of a class that prints a number, and one that does so in the place of another
abbrev pub says : ℕ → ℕ → Method
says class n = a_method (Some class) Do [] Nothing (Const 0 (pos n) ∷ Print 0 ∷ Return 0 ∷ [])

abbrev pub says_over : ℕ → ℕ → ℕ → Method
says_over m class n = record (says class n) { over = Some m }

abbrev pub is_main : List Instr → Method
is_main code = a_method None Is_main [] Nothing code

-- an object of a class is made, that method is called on it, and it goes
abbrev pub tries : ℕ → ℕ → List Instr → List Instr
tries class m code = NewOrLeave 0 class ∷ Call (On_register 0) m 0 0 ∷ Delete 0 ∷ code

-- of the child the child's, and of the parent its own, also under a trap
abbrev pub overridden : Type 0
overridden =
    RunsTo 80
    (a_family (a_plain ∷ from 0 ∷ []) (
    says 0 1 ∷ says_over 0 1 2
    ∷ is_main (tries 1 0 (tries 0 0 (NewOrLeave 0 1 ∷ Trap (On_register 0) 0 1 2 ∷ Delete 0 ∷ Stop ∷ Return 0 ∷ [])))
    ∷ []))
    [] Stopped 0 (Out (pos 2) ∷ Gone 1 ∷ Out (pos 1) ∷ Gone 0 ∷ Out (pos 2) ∷ Gone 1 ∷ [])

-- of four classes in a line, the second and the third with one of their own, the nearest
abbrev pub nearest : Type 0
nearest =
    RunsTo 80
    (a_family (a_plain ∷ from 0 ∷ from 1 ∷ from 2 ∷ []) (
    says 0 1 ∷ says_over 0 1 2 ∷ says_over 0 2 3
    ∷ is_main (tries 3 0 (tries 1 0 (Stop ∷ Return 0 ∷ [])))
    ∷ []))
    [] Stopped 0 (Out (pos 3) ∷ Gone 3 ∷ Out (pos 2) ∷ Gone 1 ∷ [])

-- two overriders of a method, neither of the other: a call of the first runs the first on an object whose class has the second
abbrev pub no_slots : Type 0
no_slots =
    RunsTo 80
    (a_family (a_plain ∷ from 0 ∷ from 1 ∷ []) (
    says 0 1 ∷ says_over 0 1 2 ∷ says_over 0 2 3
    ∷ a_method None Do (Takes_own (An_object_of 1) ∷ []) Nothing (Call (On_register 0) 1 0 0 ∷ Call (On_register 0) 0 0 0 ∷ Delete 0 ∷ Return 0 ∷ [])
    ∷ is_main (NewOrLeave 0 2 ∷ Call This 3 0 0 ∷ Stop ∷ Return 0 ∷ [])
    ∷ []))
    [] Stopped 0 (Out (pos 2) ∷ Out (pos 3) ∷ Gone 2 ∷ [])

-- an overrider of an overrider is one, and the parent's method calls on its own object what the child has
abbrev pub on_self : Type 0
on_self =
    RunsTo 80
    (a_family (a_plain ∷ from 0 ∷ from 1 ∷ []) (
    says 0 1 ∷ says_over 0 1 2 ∷ says_over 1 2 3
    ∷ a_method (Some 0) Do [] Nothing (Call This 0 0 0 ∷ Return 0 ∷ [])
    ∷ is_main (tries 2 3 (tries 0 3 (Stop ∷ Return 0 ∷ [])))
    ∷ []))
    [] Stopped 0 (Out (pos 3) ∷ Gone 2 ∷ Out (pos 1) ∷ Gone 0 ∷ [])

-- each of these runs comes out so
pub record OverridersRun : Type 0 where
  pub child : overridden
  pub near : nearest
  pub slots : no_slots
  pub self : on_self

-- ---- lines of destructors

-- a destructor of a class, which prints a number first
abbrev pub ends_with : ℕ → ℕ → List Instr → Method
ends_with class n code = a_method (Some class) Destruct [] Nothing (Const 0 (pos n) ∷ Print 0 ∷ code)

-- a field is emptied, and what it owned goes
abbrev pub empties : ℕ → List Instr → List Instr
empties f code = Take 1 f ∷ Delete 1 ∷ code

-- the child's destructor, then that of the class two above: the one between has none
abbrev pub gap : Type 0
gap =
    RunsTo 40
    (a_family (a_plain ∷ from 0 ∷ from 1 ∷ []) (
    ends_with 2 3 (Return 0 ∷ []) ∷ ends_with 0 1 (Return 0 ∷ []) ∷ is_main (NewOrLeave 0 2 ∷ Delete 0 ∷ Stop ∷ Return 0 ∷ [])
    ∷ []))
    [] Stopped 0 (Out (pos 3) ∷ Out (pos 1) ∷ Gone 2 ∷ [])

-- a class that owns one, and its child that owns one more; both fields are filled, and each destructor empties its own class's
abbrev pub owning_family : List Instr → Image
owning_family code =
    a_family (a_plain ∷ a_class Plain 0 0 (An_object_of 0 ∷ []) ∷ record (a_class Plain 0 0 (An_object_of 0 ∷ An_object_of 0 ∷ [])) { parent = Some 1 } ∷ []) (
    ends_with 2 2 code ∷ ends_with 1 1 (empties 0 (Return 0 ∷ []))
    ∷ a_method (Some 2) Do [] Nothing (NewOrLeave 0 0 ∷ Put 0 0 ∷ NewOrLeave 0 0 ∷ Put 1 0 ∷ Return 0 ∷ [])
    ∷ is_main (tries 2 2 (Stop ∷ Return 0 ∷ []))
    ∷ [])

abbrev pub each_empties : Type 0
each_empties = RunsTo 60 (owning_family (empties 1 (Return 0 ∷ []))) [] Stopped 0 (Out (pos 2) ∷ Gone 0 ∷ Out (pos 1) ∷ Gone 0 ∷ Gone 2 ∷ [])

-- a field of the child's that is left is an orphan, as the child's destructor ends
abbrev pub left_over : Type 0
left_over = run_of 60 (owning_family (empties 0 (Return 0 ∷ []))) [] ≡ Sticks (Main 0 ∷ Out (pos 2) ∷ Gone 0 ∷ []) Orphan

-- under the parent's destructor the object counts as the parent
abbrev pub as_the_parent : Type 0
as_the_parent =
    RunsTo 60
    (a_family (a_plain ∷ from 0 ∷ []) (
    says 0 1 ∷ says_over 0 1 2
    ∷ a_method (Some 1) Destruct [] Nothing (Call This 0 0 0 ∷ Return 0 ∷ []) ∷ a_method (Some 0) Destruct [] Nothing (Call This 0 0 0 ∷ Return 0 ∷ [])
    ∷ is_main (NewOrLeave 0 1 ∷ Delete 0 ∷ Stop ∷ Return 0 ∷ [])
    ∷ []))
    [] Stopped 0 (Out (pos 2) ∷ Out (pos 1) ∷ Gone 1 ∷ [])

-- two classes of active objects, the second from the first, each with a cancel method of its own; the destructors cancel
abbrev pub waiting : List Method → Image
waiting destructors =
    record {
      header = record (a_header 1 0 0 (Some 1) 60) { version = Two };
      classes = a_class (Active Own) 30 0 [] ∷ record (a_class (Active Own) 30 0 []) { parent = Some 0 } ∷ [];
      methods =
          a_method (Some 0) Cancels [] Nothing (Const 0 (pos 1) ∷ Print 0 ∷ Abort ∷ Return 0 ∷ [])
          ∷ a_method (Some 1) Cancels [] Nothing (Const 0 (pos 2) ∷ Print 0 ∷ Abort ∷ Return 0 ∷ [])
          ∷ a_method (Some 0) Construct [] Nothing (Enlist (pos 0) ∷ Const 0 (pos 5) ∷ Issue 0 0 ∷ SetActive ∷ Return 0 ∷ [])
          ∷ is_main (NewOrLeave 0 1 ∷ Push 0 ∷ Call (On_entry 0) 2 0 0 ∷ Pop 0 ∷ Put 0 0 ∷ Stop ∷ Return 0 ∷ [])
          ∷ destructors;
    }

abbrev pub cancels : ℕ → Method
cancels class = a_method (Some class) Destruct [] Nothing (Cancel ∷ Return 0 ∷ [])

-- so the parent's destructor cancels as the parent does
abbrev pub parent_cancels : Type 0
parent_cancels = RunsTo 80 (waiting (cancels 0 ∷ [])) [] Stopped 0 (Out (pos 1) ∷ Gone 1 ∷ [])

-- and the child's as the child does, before the parent's
abbrev pub child_cancels : Type 0
child_cancels = RunsTo 80 (waiting (cancels 1 ∷ cancels 0 ∷ [])) [] Stopped 0 (Out (pos 2) ∷ Gone 1 ∷ [])

-- a child's destructor that leaves its object active is stuck as it ends, though the parent's would cancel
abbrev pub ends_active : Type 0
ends_active = run_of 80 (waiting (a_method (Some 1) Destruct [] Nothing (Return 0 ∷ []) ∷ cancels 0 ∷ [])) [] ≡ Sticks (Main 0 ∷ []) ActiveDestroyed

-- and so is one that leaves a request issued
abbrev pub ends_issued : Type 0
ends_issued =
    run_of 80 (waiting (a_method (Some 1) Destruct [] Nothing (Cancel ∷ Const 0 (pos 5) ∷ Issue 0 0 ∷ Return 0 ∷ []) ∷ cancels 0 ∷ [])) []
    ≡ Sticks (Main 0 ∷ Out (pos 2) ∷ []) ActiveDestroyed

-- each of these runs comes out so
pub record LinesRun : Type 0 where
  pub past_a_gap : gap
  pub emptied : each_empties
  pub left : left_over
  pub parent : as_the_parent
  pub above : parent_cancels
  pub below : child_cancels
  pub active : ends_active
  pub issued : ends_issued
