-- The boot state is well typed.
use Rattle.std.proofs.lemmas.Bool.Decides.{nat_tests}
use Rattle.std.proofs.Common.{List, None, Option, Some, [], ap, refl, subst, ℕ, ◌∷◌, ◌≡◌, arith}
use Rattle.std.specs.Prelude.{IsSome}
use Rattle.aom_link_conditions.specs.Roles.{main_of}
use Rattle.aom_image.specs.Image.{Image}
use Rattle.aom_image.specs.Views.{arguments_of, gives_of, method_role}
use Rattle.aom_image.specs.declared.method.Gives.TheVariants.{Nothing}
use Rattle.aom_image.specs.declared.method.Role.TheVariants.{Main}
use Rattle.aom_abstract_state.specs.Kinds.{register}
use Rattle.aom_abstract_state.specs.Order.{IsImpliedBy, Weaker}
use Rattle.aom_abstract_state.specs.AbstractState.{AbstractState}
use Rattle.aom_typing_rules.specs.Typing.{IsTyped, Typing, shape_at}
use Rattle.aom_abstract_state.specs.Arguments.{entry_shape}
use Rattle.aom_abstract_state.specs.declared.kind.Kind.TheVariants.{Unset}
use Rattle.aom_safety.proofs.Destroying.{entry_registers, unset_only}
use Rattle.aom_safety.proofs.ReceiverHolding.{counts_same, receiver_conforms_same}
use Rattle.aom_safety.specs.Claims.{Dispatching, Layer, Mark, Method, claim, declared}
use Rattle.aom_safety.specs.Laws.{IsWired}
use Rattle.aom_semantics.specs.Places.{Place, seen}
use Rattle.aom_semantics.specs.State.{A_mark, AtRoot, Frame, Of_main, State, frame_of}
use Rattle.aom_safety.specs.WellTyped.{Fits, Good, WellTyped}
use Rattle.aom_semantics.specs.World.{boot_state, main_tasks}
use Rattle.aom_safety.proofs.Attending.{plain_claim}

abbrev begins : ℕ → Frame
begins m = frame_of m AtRoot 1

-- main's root is null as it begins
module _ (p : Image) (m : ℕ) (after : AbstractState) (w : IsImpliedBy after (entry_shape p m)) (role : method_role p m ≡ Some Main) (arguments : arguments_of p m ≡ []) where
  unset : (i : ℕ) → register after i ≡ Unset
  unset i = unset_only (subst (λ k. Weaker (register after i) k) (entry_registers p m arguments i) (w.registers i))

  abbrev layers : List Layer
  layers = Method (begins m) after ∷ Mark Nothing ∷ Dispatching Of_main [] ∷ []

  fits : (r : Place) → Fits p (seen []) None (claim p (declared p []) layers r)
  fits x = grind (arith, nat_tests, unset, plain_claim)

  pub good : (t : Typing) → shape_at t m 0 ≡ Some after → gives_of p m ≡ Nothing → Good p t [] layers
  good t stands gives = record { stack = grind (arith, nat_tests, unset, receiver_conforms_same p, counts_same p AtRoot); fits = fits; conforms_to = λ o lives. cc; no_duplicates = tt }

-- main is typed, and stands where the typing begins
booted : (p : Image) (t : Typing) → IsWired p → IsTyped p t → (m : ℕ) → main_of p ≡ Some m → (s : State) → s.cells ≡ [] → s.tasks ≡ main_tasks (Some m) →
    s.items ≡ A_mark ∷ [] → WellTyped p t s
booted p t wired typed m e s cells tasks items = search (arith, nat_tests, wired.main m e, typed.entry m, good p m)

some_of : {A : Type 0} (x : Option A) → IsSome x → (y : A) × (x ≡ Some y)
some_of x s = grind arith

pub boot_keeps : (p : Image) (t : Typing) → IsWired p → IsTyped p t → WellTyped p t (boot_state p)
boot_keeps p t wired typed = let m = some_of (main_of p) wired.has_main in booted p t wired typed m.0 m.1 (boot_state p) refl (ap main_tasks m.1) refl
