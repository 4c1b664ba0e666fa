-- Runs of construct methods over classes with parents: one that a child has from above, and one that calls its parent's on its own object.
use Rattle.std.specs.Prelude.{pos, ◌≡◌, List, [], ◌∷◌, Some, None}
use Rattle.aom_image.specs.Image.{Image}
use Rattle.aom_image.specs.Small.{a_class, a_header}
use Rattle.aom_image.specs.declared.class.ClassKind.TheVariants.{Plain}
use Rattle.aom_instructions.specs.declared.version.Version.TheVariants.{Two}
use Rattle.aom_image.specs.declared.method.Gives.TheVariants.{Nothing}
use Rattle.aom_image.specs.declared.method.Role.TheVariants.{Construct, Do, Main as Is_main}
use Rattle.aom_image.specs.declared.method.Thing.TheVariants.{Object as An_object_of}
use Rattle.aom_instructions.specs.declared.instr.Instr.{Instr}
use Rattle.aom_instructions.specs.declared.instr.Instr.TheVariants.{Call, Const, Delete, JumpEmpty, NewOrLeave, Print, Put, Return, Stop, Take}
use Rattle.aom_instructions.specs.declared.instr.Target.TheVariants.{This, Register as On_register}
use Rattle.aom_transcript.specs.declared.line.Ending.TheVariants.{Stopped}
use Rattle.aom_transcript.specs.declared.line.Line.TheVariants.{Gone, Main, Out}
use Rattle.aom_semantics.specs.Cases.Programs.{a_method}
use Rattle.aom_semantics.specs.Cases.Running.{RunsTo, Sticks, run_of}
use Rattle.aom_semantics.specs.State.{Orphan}

-- a class that owns nothing, one with a field, and its child with a field more: the first constructs with method 0, the child with method 1, and
-- method 2 of the child empties both fields
abbrev pub a_builder : List Instr → List Instr → Image
a_builder child code =
    record {
      header = record (a_header 4 0 0 None 90) { version = Two };
      classes =
          a_class Plain 0 0 []
          ∷ a_class Plain 0 0 (An_object_of 0 ∷ [])
          ∷ record (a_class Plain 0 0 (An_object_of 0 ∷ An_object_of 0 ∷ [])) { parent = Some 1 }
          ∷ [];
      methods =
          a_method (Some 1) Construct [] Nothing (Const 1 (pos 1) ∷ Print 1 ∷ NewOrLeave 0 0 ∷ Put 0 0 ∷ Return 0 ∷ [])
          ∷ a_method (Some 2) Construct [] Nothing child
          ∷ a_method (Some 2) Do [] Nothing (Take 0 0 ∷ Delete 0 ∷ Take 0 1 ∷ Delete 0 ∷ Return 0 ∷ [])
          ∷ a_method None Is_main [] Nothing code
          ∷ [];
    }

-- an object of the child is constructed and emptied, and it goes
abbrev pub builds : List Instr
builds = NewOrLeave 0 2 ∷ Call (On_register 0) 1 0 0 ∷ Call (On_register 0) 2 0 0 ∷ Delete 0 ∷ Stop ∷ Return 0 ∷ []

-- the parent's construct first, and the child's own field after it
abbrev pub parents_first : Type 0
parents_first =
    RunsTo 60 (a_builder (Call This 0 0 0 ∷ Const 1 (pos 2) ∷ Print 1 ∷ JumpEmpty 1 4 ∷ NewOrLeave 0 0 ∷ Put 1 0 ∷ Return 0 ∷ []) builds)
    [] Stopped 0 (Out (pos 1) ∷ Out (pos 2) ∷ Gone 0 ∷ Gone 0 ∷ Gone 2 ∷ [])

-- the child's own field may be filled before
abbrev pub own_first : Type 0
own_first =
    RunsTo 60 (a_builder (NewOrLeave 0 0 ∷ Put 1 0 ∷ Call This 0 0 0 ∷ Return 0 ∷ []) builds)
    [] Stopped 0 (Out (pos 1) ∷ Gone 0 ∷ Gone 0 ∷ Gone 2 ∷ [])

-- the parent's may not, nor is its construct called twice
abbrev pub parents_filled : Type 0
parents_filled = run_of 60 (a_builder (NewOrLeave 0 0 ∷ Put 0 0 ∷ Call This 0 0 0 ∷ Return 0 ∷ []) builds) [] ≡ Sticks (Main 0 ∷ []) Orphan

abbrev pub twice : Type 0
twice = run_of 60 (a_builder (Call This 0 0 0 ∷ Call This 0 0 0 ∷ Return 0 ∷ []) builds) [] ≡ Sticks (Main 0 ∷ Out (pos 1) ∷ []) Orphan

-- each of these runs comes out so
pub record ConstructsRun : Type 0 where
  pub parent : parents_first
  pub own : own_first
  pub filled : parents_filled
  pub again : twice
