-- The shape that each role asks of a method.
use Rattle.std.specs.Prelude.{◌≡◌, ◌≢◌, ◌||◌, ℕ, Bool, true, false, length, All, Option, Some, None, IfSome, IsTrue, IsSome, is_none, nat_eq, bit_or}
use Rattle.std.specs.List.{list_all}
use Rattle.aom_image.specs.Image.{Image}
use Rattle.aom_image.specs.Views.{has, gives_of, method_role}
use Rattle.aom_image.specs.declared.class.ClassKind.{ClassKind}
use Rattle.aom_image.specs.declared.class.ClassKind.TheVariants as kinds
use Rattle.aom_instructions.specs.declared.instr.Instr.{Instr}
use Rattle.aom_instructions.specs.Table.{action_of}
use Rattle.aom_instructions.specs.declared.action.Action.{Action}
use Rattle.aom_instructions.specs.declared.action.Action.TheVariants as actions
use Rattle.aom_instructions.specs.declared.action.CallMode.TheVariants.{Plain, Trapped}
use Rattle.aom_image.specs.declared.method.Argument.{Argument}
use Rattle.aom_image.specs.declared.method.Argument.TheVariants as arguments
use Rattle.aom_image.specs.declared.method.Gives.{Gives}
use Rattle.aom_image.specs.declared.method.Gives.TheVariants as gives
use Rattle.aom_image.specs.declared.method.Method.{Method}
use Rattle.aom_image.specs.declared.method.Role.{Role}
use Rattle.aom_image.specs.declared.method.Role.TheVariants as roles
use Rattle.aom_image.specs.declared.method.Thing.{Thing}
use Rattle.aom_image.specs.declared.method.Thing.TheVariants.{Object, Message}
use Rattle.aom_roles.specs.Classes.{is_session_in, kind_at, sessions_in}
use Rattle.aom_roles.specs.Roles.{same_role}
use Rattle.aom_roles.specs.States.{no_state, idle, issued, active, cancel_open, cancel_done, server_states, active_states, states_of, first_of, last_of, IsPart}

-- ---- the parts of a shape

abbrev pub may_leave : Method → Bool
may_leave m = has m.flags.0 1

abbrev pub is_quiet : Method → Bool
is_quiet m = has m.flags.0 2

unfoldable pub is_word : Argument → Bool
is_word arguments.Word = true
is_word (arguments.Own t) = false

-- a method takes so many words, and nothing else
pub record TakesWords (n : ℕ) (m : Method) : Type 0 where
  pub count : length m.arguments ≡ n
  pub words : IsTrue (list_all is_word m.arguments)

unfoldable pub gives_nothing : Gives → Bool
gives_nothing gives.Nothing = true
gives_nothing _ = false

unfoldable pub gives_word : Gives → Bool
gives_word gives.Word = true
gives_word _ = false

unfoldable pub gives_left : Gives → Bool
gives_left (gives.Left c) = true
gives_left _ = false

-- whether it is an object of that class
unfoldable pub is_object : ℕ → Thing → Bool
is_object c (Object d) = nat_eq d c
is_object c Message = false

unfoldable pub gives_object : ℕ → Gives → Bool
gives_object c (gives.Own t) = is_object c t
gives_object c _ = false

unfoldable pub is_active_in : Option ClassKind → Bool
is_active_in (Some (kinds.Active provider)) = true
is_active_in _ = false

-- the kind of class whose objects a method works on, or none
unfoldable pub kind_of : Image → Option ℕ → Option ClassKind
kind_of p None = None
kind_of p (Some c) = kind_at p c

-- ---- a row for each role

-- it begins and ends in no state
pub record StandsStill (m : Method) : Type 0 where
  pub begins : m.before.0 ≡ no_state
  pub ends : m.after.0 ≡ no_state

pub record DoesActive (m : Method) : Type 0 where
  pub begins : m.before.0 ≢ no_state
  pub ends : m.after.0 ≢ no_state
  pub settled : has m.after.0 issued ≡ false

pub record DoesServer (m : Method) : Type 0 where
  pub begins : IsPart server_states m.before.0
  pub ends : IsPart server_states m.after.0

abbrev pub IsDo : Option ClassKind → Method → Type 0
IsDo None m = StandsStill m
IsDo (Some kinds.Plain) m = StandsStill m
IsDo (Some (kinds.Active provider)) m = DoesActive m
IsDo (Some (kinds.Server most session)) m = DoesServer m
IsDo (Some kinds.Session) m = StandsStill m

pub record IsMain (k : Option ClassKind) (m : Method) : Type 0 where
  pub of : IsTrue (is_none k)
  pub takes : TakesWords 0 m
  pub gives : IsTrue (gives_nothing m.gives)
  pub states : StandsStill m
  pub flags : is_quiet m ≡ false

pub record IsConstruct (k : Option ClassKind) (m : Method) : Type 0 where
  pub of : IsSome k
  pub gives : IsTrue (gives_nothing m.gives)
  pub begins : m.before.0 ≡ first_of k
  pub ends : IsPart (states_of k) m.after.0

pub record IsDestruct (k : Option ClassKind) (m : Method) : Type 0 where
  pub of : IsSome k
  pub takes : TakesWords 0 m
  pub gives : IsTrue (gives_nothing m.gives)
  pub begins : m.before.0 ≡ states_of k
  pub ends : m.after.0 ≡ last_of k
  pub flags : IsTrue (is_quiet m)

pub record IsRun (k : Option ClassKind) (m : Method) : Type 0 where
  pub of : IsTrue (is_active_in k)
  pub takes : TakesWords 0 m
  pub gives : IsTrue (gives_nothing m.gives)
  pub begins : m.before.0 ≡ idle
  pub ends : IsPart active_states m.after.0

pub record IsCancel (k : Option ClassKind) (m : Method) : Type 0 where
  pub of : IsTrue (is_active_in k)
  pub takes : TakesWords 0 m
  pub gives : IsTrue (gives_nothing m.gives)
  pub begins : m.before.0 ≡ cancel_open
  pub ends : m.after.0 ≡ cancel_done
  pub flags : IsTrue (is_quiet m)

pub record IsError (k : Option ClassKind) (m : Method) : Type 0 where
  pub of : IsTrue (is_active_in k)
  pub takes : TakesWords 1 m
  pub gives : IsTrue (gives_word m.gives)
  pub begins : m.before.0 ≡ bit_or idle active
  pub ends : IsPart active_states m.after.0
  pub flags : may_leave m ≡ false

-- it gives an object of the class of its server's sessions
pub record IsAccept (k : Option ClassKind) (m : Method) : Type 0 where
  pub of : IsSome (sessions_in k)
  pub takes : TakesWords 0 m
  pub gives : IfSome (sessions_in k) (λ c. IsTrue (gives_object c m.gives))
  pub begins : m.before.0 ≡ idle
  pub ends : IsPart server_states m.after.0

pub record IsService (k : Option ClassKind) (m : Method) : Type 0 where
  pub of : IsTrue (is_session_in k)
  pub takes : TakesWords 5 m
  pub gives : IsTrue (gives_nothing m.gives)
  pub states : StandsStill m

pub record IsUndo (k : Option ClassKind) (m : Method) : Type 0 where
  pub of : IsTrue (is_none k)
  pub takes : TakesWords 1 m
  pub gives : IsTrue (gives_nothing m.gives)
  pub states : StandsStill m
  pub flags : IsTrue (is_quiet m)

abbrev pub HasShape : Role → Option ClassKind → Method → Type 0
HasShape roles.Do k m = IsDo k m
HasShape roles.Main k m = IsMain k m
HasShape roles.Construct k m = IsConstruct k m
HasShape roles.Destruct k m = IsDestruct k m
HasShape roles.Run k m = IsRun k m
HasShape roles.Cancel k m = IsCancel k m
HasShape roles.Error k m = IsError k m
HasShape roles.Accept k m = IsAccept k m
HasShape roles.Service k m = IsService k m
HasShape roles.Undo k m = IsUndo k m

-- ---- the whole

-- no method is quiet and may leave; what gives a left object may leave
pub record FlagsFit (m : Method) : Type 0 where
  pub quiet : IsTrue (is_quiet m) → may_leave m ≡ false
  pub left : IsTrue (gives_left m.gives) → IsTrue (may_leave m)

unfoldable pub is_role : Role → Option Role → Bool
is_role r None = false
is_role r (Some s) = same_role s r

abbrev pub has_role : Image → ℕ → Role → Bool
has_role p m r = is_role r (method_role p m)

-- a method that is trapped
pub record IsTrapped (p : Image) (m : ℕ) : Type 0 where
  pub role : IsTrue (has_role p m roles.Do)
  pub gives : gives_left (gives_of p m) ≡ false

-- what an instruction calls or pushes is of a role that it may have
abbrev pub ActsOnRole : Image → Action → Type 0
ActsOnRole p (actions.Call Plain t m a r) = IsTrue (has_role p m roles.Do || has_role p m roles.Construct)
ActsOnRole p (actions.Call Trapped t m a r) = IsTrapped p m
ActsOnRole p (actions.PushOperation a m) = IsTrue (has_role p m roles.Undo)
ActsOnRole p _ = Unit {0}

abbrev pub NamesRoles : Image → Instr → Type 0
NamesRoles p i = ActsOnRole p (action_of i)

pub record IsShaped (p : Image) (m : Method) : Type 0 where
  pub flags : FlagsFit m
  pub role : HasShape m.role (kind_of p m.class) m
  pub code : All (NamesRoles p) m.code

-- each method has the shape of its role
abbrev pub AllShaped : Image → Type 0
AllShaped p = All (IsShaped p) p.methods
