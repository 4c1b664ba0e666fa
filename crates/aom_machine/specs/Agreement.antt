-- Agreement: which object's number, or which word, stands in each place of the machine.
use Rattle.std.specs.Prelude.{ℕ, ◌≡◌, ◌↔◌, ◌⊎◌, true, List, [], ◌∷◌, ◌++◌, length, Option, Some, None}
use Rattle.aom_cells.specs.Heap.{null}
use Rattle.aom_image.specs.Image.{Image}
use Rattle.aom_image.specs.Views.{instr_at}
use Rattle.aom_image.specs.declared.method.Thing.{Thing}
use Rattle.aom_abstract_state.specs.Kinds.{field, filled, register}
use Rattle.aom_abstract_state.specs.AbstractState.{AbstractState}
use Rattle.aom_roles.specs.Things.{Program, field_thing, holder_of, is_subtype}
use Rattle.aom_typing_rules.specs.Typing.{Typing, shape_at}
use Rattle.aom_abstract_state.specs.declared.kind.FieldState.TheVariants.{Perhaps}
use Rattle.aom_abstract_state.specs.declared.kind.Kind.{Kind}
use Rattle.aom_abstract_state.specs.declared.kind.Kind.TheVariants.{Maybe, Null, Own, Unset, Word}
use Rattle.aom_semantics.specs.Owned.{over}
use Rattle.aom_semantics.specs.Places.{Elsewhere, Entry, Field, Object, Place, Register, Root, held, named}
use Rattle.aom_semantics.specs.State.{An_object, Frame, Run, State, Task, field_place, thing_holder}
use Rattle.aom_static_bounds.specs.Strongest.{IsStrongest}
use Rattle.aom_machine_state.specs.declared.parts.Parts.{Parts}
use Rattle.aom_machine_state.specs.Agrees.{word_at}
use Rattle.aom_machine_state.specs.Places.{value}
use Rattle.aom_machine_state.specs.Stands.{MachineModel, Refines}
use Rattle.aom_machine_state.specs.Waits.{while_waiting}

-- the reserved number, where nothing is owned
pub record IsNull (n : ℕ) (o : Option Object) : Type 0 where
  pub number : n ≡ null
  pub none : o ≡ None

-- the number of the object that is owned, which may stand for that thing
pub record IsNumberOf (p : Image) (t : Thing) (n : ℕ) (o : Option Object) : Type 0 where
  pub object : Object
  pub owned : o ≡ Some object
  pub number : n ≡ object.name
  pub thing : is_subtype p object.thing t ≡ true

-- what a kind says of the number in a place, and of what the place owns
abbrev pub NumberSays : Image → Kind → ℕ → Option Object → Type 0
NumberSays p Unset n o = o ≡ None
NumberSays p Word n o = o ≡ None
NumberSays p Null n o = IsNull n o
NumberSays p (Own t a) n o = IsNumberOf p t n o
NumberSays p (Maybe t a) n o = IsNull n o ⊎ IsNumberOf p t n o

-- the state of a method by that of its place: once its operands have moved, where it waits for what stands over it
abbrev pub state_under : Image → List Task → Frame → AbstractState → AbstractState
state_under p [] fr sh = sh
state_under p (task ∷ above) fr sh = while_waiting p (instr_at p fr.method fr.place) sh

-- the registers of a method at that depth are as the typing says of its place
pub record RegistersAgree (p : Image) (t : Typing) (m : Parts) (s : State) (above : List Task) (fr : Frame) (depth : ℕ) : Type 0 where
  pub shape : AbstractState
  pub typed : shape_at t fr.method fr.place ≡ Some shape
  pub registers : (i : ℕ) → NumberSays p (register (state_under p above fr shape) i) (value m (Register depth i)) (held s.cells (Register depth i))

-- so are the fields that the method's class declares
pub record FieldsAgree (p : Image) (t : Typing) (m : Parts) (s : State) (fr : Frame) : Type 0 where
  pub shape : AbstractState
  pub typed : shape_at t fr.method fr.place ≡ Some shape
  pub fields : (f : ℕ) (thing : Thing) → field_thing p (holder_of p fr.method) f ≡ Some thing
      → NumberSays p (filled (Some thing) (field shape f)) (value m (field_place fr.receiver f)) (held s.cells (field_place fr.receiver f))

pub record Agreement (m : MachineModel) (s : State) : Type 0 where
  pub typing : Typing
  pub strongest : IsStrongest m.image typing
  -- a place owns an object just where it has its number, and not as a word
  pub owners : (r : Place) (x : Object) → named s.cells x.name ≡ Some x → (held s.cells r ≡ Some x) ↔ ((word_at s.tasks r ≡ None) × (value m.parts r ≡ x.name))
  -- and no two places do
  pub once : (q r : Place) (x : Object) → named s.cells x.name ≡ Some x → word_at s.tasks q ≡ None → word_at s.tasks r ≡ None → value m.parts q ≡ x.name → value m.parts r ≡ x.name → q ≡ r
  -- registers are as the strongest typing says, and the fields of the method that runs
  pub registers : (above : List Task) (fr : Frame) (below : List Task) → s.tasks ≡ above ++ Run fr ∷ below → RegistersAgree m.image typing m.parts s above fr (length below)
  pub own_fields : (fr : Frame) (below : List Task) → s.tasks ≡ Run fr ∷ below → FieldsAgree m.image typing m.parts s fr
  -- all fields and the root are as they are declared
  pub fields : (x : Object) (f : ℕ) → named s.cells x.name ≡ Some x
      → NumberSays m.image (filled (field_thing m.image (thing_holder x.thing) f) Perhaps) (value m.parts (Field x.name f)) (held s.cells (Field x.name f))
  pub root : NumberSays m.image (filled (field_thing m.image Program 0) Perhaps) (value m.parts (Elsewhere Root)) (held s.cells (Elsewhere Root))
  -- an object's cleanup entry has its number
  pub entries : (k : ℕ) → over s.items k ≡ Some An_object → (x : Object) × (held s.cells (Entry k) ≡ Some x) × (value m.parts (Entry k) ≡ x.name)

-- of each state that a machine stands for
abbrev pub AgreesInAll : MachineModel → Type 0
AgreesInAll m = (s : State) → Refines m s → Agreement m s
