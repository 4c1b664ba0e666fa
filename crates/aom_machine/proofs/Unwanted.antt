-- Where the image names no native, nothing is wanted of one.
use Rattle.std.proofs.lemmas.Bool.Decides.{nat_tests}
use Rattle.std.proofs.Common.{◌≡◌, ℕ, List, ◌∷◌, [], Option, Some, None, refl, length, slice_get, arith}
use Rattle.aom_image.specs.Image.{Image}
use Rattle.aom_image.specs.Views.{class_at, instr_at}
use Rattle.aom_image.specs.WellFormed.{ClassFits, KindFits, WellFormed}
use Rattle.aom_image.specs.declared.class.ClassDecl.{ClassDecl}
use Rattle.aom_image.specs.declared.class.ClassKind.{ClassKind}
use Rattle.aom_image.specs.declared.method.Thing.{Thing}
use Rattle.aom_image.specs.declared.method.Thing.TheVariants.{Object as An_object_of, Message}
use Rattle.aom_machine.proofs.LinkConditionsLemmas.{all_there}
use Rattle.aom_roles.specs.Classes.{kind_in}
use Rattle.aom_roles.specs.Shapes.{kind_of}
use Rattle.aom_semantics.specs.Requests.{thing_kind}
use Rattle.aom_semantics.specs.Natives.{native_of}
use Rattle.aom_semantics.specs.Places.{Going, Object, held}
use Rattle.aom_semantics.specs.State.{Destroy, Frame, Receiver, Run, State, Task}
use Rattle.aom_semantics.specs.NativeCall.{Exchange, exchange_at, wanted, wanted_by, wanted_gone, wanted_task}

module _ (p : Image) (none_named : p.header.natives ≡ 0) (formed : WellFormed p) where
  kind_no_native : (k : ClassKind) → KindFits p.header.version (length p.classes) p.header.natives k → native_of (Some k) ≡ None
  kind_no_native x fits = grind arith

  class_no_native : (class : Option ℕ) → native_of (kind_of p class) ≡ None
  unfolding kind_of kind_in class_at
  class_no_native None = refl
  class_no_native (Some c) = go (slice_get p.classes c) refl
    where
      go : (o : Option ClassDecl) → slice_get p.classes c ≡ o → native_of (kind_in o) ≡ None
      go None e = refl
      go (Some d) e = kind_no_native d.kind (all_there (ClassFits p.header.version (length p.classes) p.header.natives) p.classes c d formed.classes.each e).kind

  thing_no_native : (t : Thing) → native_of (thing_kind p t) ≡ None
  thing_no_native (An_object_of c) = class_no_native (Some c)
  thing_no_native Message = class_no_native None

  module _ (s : State) where
    none_at_receiver : (fr : Frame) (ts : List Task) (receiver : Receiver) (x : Exchange) → wanted_by s p fr ts receiver x ≡ None
    none_at_receiver fr ts x y = grind (arith, nat_tests, thing_no_native)

    none_gone : (o : Option Object) → wanted_gone s p o ≡ None
    none_gone x = grind (arith, nat_tests, thing_no_native)

    none_of_task : (ts : List Task) → wanted_task s p ts ≡ None
    none_of_task [] = refl
    none_of_task (Run fr ∷ ts) = none_at_receiver fr ts fr.receiver (exchange_at (instr_at p fr.method fr.place))
    none_of_task (Destroy ∷ ts) = none_gone (held s.cells (Going (length ts)))
    none_of_task (_ ∷ ts) = refl

    pub unwanted : wanted p s ≡ None
    unwanted = none_of_task s.tasks
