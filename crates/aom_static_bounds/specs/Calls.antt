-- What an instruction may call, by what is known where it stands.
use Rattle.std.specs.Prelude.{ℕ, zero, suc, Bool, cond, length, ◌≡◌, ◌⊎◌, List, [], ◌∷◌, ◌++◌, Option, Some, None}
use Rattle.aom_image.specs.Image.{Image}
use Rattle.aom_image.specs.Views.{instr_at, method_class}
use Rattle.aom_instructions.specs.declared.instr.Instr.{Instr}
use Rattle.aom_image.specs.declared.method.Role.TheVariants as roles
use Rattle.aom_image.specs.declared.method.Thing.{Thing}
use Rattle.aom_image.specs.declared.method.Thing.TheVariants.{Object, Message}
use Rattle.aom_roles.specs.Classes.{sessions_at}
use Rattle.aom_link_conditions.specs.Roles.{own_role, role_of}
use Rattle.aom_roles.specs.Families.{descends, parent_of}
use Rattle.aom_link_conditions.specs.Overriding.{overrides}
use Rattle.aom_abstract_state.specs.Kinds.{register}
use Rattle.aom_abstract_state.specs.AbstractState.{AbstractState}
use Rattle.aom_roles.specs.Tables.{at}
use Rattle.aom_abstract_state.specs.declared.kind.Kind.{Kind}
use Rattle.aom_abstract_state.specs.declared.kind.Kind.TheVariants.{Unset, Word, Null, Own, Maybe}
use Rattle.aom_static_bounds.specs.Charges.{Charge, No_charge, A_call, An_operation, A_destruction, A_cancel, charge_of}
use Rattle.aom_static_bounds.specs.Shapes.{Shapes}
use Rattle.aom_static_bounds.specs.Strongest.{IsMethodStrongest}

-- one method, or none
abbrev pub listed : Option ℕ → List ℕ
listed None = []
listed (Some k) = k ∷ []

-- those of the numbers below one that count
abbrev pub each_of : (ℕ → Bool) → (ℕ → List ℕ) → ℕ → List ℕ
each_of counts f zero = []
each_of counts f (suc n) = cond (counts n) (f n) [] ++ each_of counts f n

-- what a call of a method may run: it, and what overrides it
abbrev pub bodies : Image → ℕ → List ℕ
bodies p m = m ∷ each_of (λ k. overrides p k m) (λ k. k ∷ []) (length p.methods)

-- of a class and those that descend from it
abbrev pub each_below : Image → (ℕ → List ℕ) → Option ℕ → List ℕ
each_below p f None = []
each_below p f (Some c) = f c ++ each_of (λ y. descends p y c) f (length p.classes)

-- the destructors of a class and of so many generations above it
abbrev pub lines : Image → ℕ → Option ℕ → List ℕ
lines p n None = []
lines p zero (Some c) = listed (own_role p c roles.Destruct)
lines p (suc n) (Some c) = listed (own_role p c roles.Destruct) ++ lines p n (parent_of p c)

abbrev pub lines_of : Image → Option ℕ → List ℕ
lines_of p None = []
lines_of p (Some c) = lines p c (Some c)

-- what runs as an object goes that is declared of a class: the destructors of its line, and those of its sessions
abbrev pub destructors : Image → Option ℕ → List ℕ
destructors p class = each_below p (λ c. lines_of p (Some c) ++ lines_of p (sessions_at p c)) class

abbrev pub cancels : Image → Option ℕ → List ℕ
cancels p class = each_below p (λ c. listed (role_of p c roles.Cancel)) class

abbrev pub thing_class : Thing → Option ℕ
thing_class (Object c) = Some c
thing_class Message = None

-- the class of the object that is there, or may be there
abbrev pub object_class : Kind → Option ℕ
object_class Unset = None
object_class Word = None
object_class Null = None
object_class (Own t a) = thing_class t
object_class (Maybe t a) = thing_class t

-- the methods that may run for what an instruction of a method sets going; an operation or an object that is pushed is called for, or goes, when it
-- leaves the cleanup stack
abbrev pub called_for : Image → ℕ → AbstractState → Charge → List ℕ
called_for p m sh No_charge = []
called_for p m sh (A_call k) = bodies p k
called_for p m sh (An_operation k) = k ∷ []
called_for p m sh (A_destruction r) = destructors p (object_class (register sh r))
called_for p m sh A_cancel = cancels p (method_class p m)

-- the methods that the instruction may call
abbrev pub callees : Image → ℕ → AbstractState → Instr → List ℕ
callees p m sh i = called_for p m sh (charge_of i)

abbrev pub Among : ℕ → List ℕ → Type 0
Among k [] = ⊥
Among k (x ∷ xs) = (k ≡ x) ⊎ Among k xs

-- an instruction at that place, reached with those states, may call a method
pub record CallsAt (p : Image) (m : ℕ) (s : Shapes) (pc k : ℕ) : Type 0 where
  pub shape : AbstractState
  pub there : at None s pc ≡ Some shape
  pub instr : Instr
  pub stands : instr_at p m pc ≡ Some instr
  pub calls : Among k (callees p m shape instr)

-- an instruction that the strongest typing reaches may call it
pub record MayCall (p : Image) (m k : ℕ) : Type 0 where
  pub states : Shapes
  pub strongest : IsMethodStrongest p m states
  pub place : ℕ
  pub calls : CallsAt p m states place k
