-- The laws of the checked machine.
use Rattle.std.specs.Prelude.{IsSome, List, length, None, Some, [], bit_or, false, is_some, true, ℕ, ℤ, ◌<◌, ◌≤◌, ◌∷◌, ◌≡◌, ◌⊎◌, replicate}
use Rattle.aom_image.specs.Image.{Image}
use Rattle.aom_image.specs.Views.{action_at, instr_at, method_at, method_class, method_role, is_quiet, leaves, gives_of, arguments_of}
use Rattle.aom_instructions.specs.Fits.{InstrFits}
use Rattle.aom_instructions.specs.declared.action.Action.TheVariants.{Call, PushOperation}
use Rattle.aom_instructions.specs.declared.action.CallMode.TheVariants.{Plain, Trapped as Under_trap}
use Rattle.aom_image.specs.WellFormed.{WellFormed}
use Rattle.aom_instructions.specs.declared.instr.Instr.{Instr}
use Rattle.aom_instructions.specs.declared.instr.Target.{Target}
use Rattle.aom_instructions.specs.declared.limits.Limits.{Limits}
use Rattle.aom_image.specs.declared.method.Gives.TheVariants.{Nothing, Word as A_word, Own as An_own}
use Rattle.aom_image.specs.declared.method.Argument.TheVariants.{Word as Takes_word}
use Rattle.aom_image.specs.declared.method.Role.TheVariants.{Cancel, Do, Main, Construct, Destruct, Error, Run as Run_role, Accept, Service}
use Rattle.aom_image.specs.declared.method.Thing.{Thing}
use Rattle.aom_image.specs.declared.method.Thing.TheVariants.{Object as An_object_of}
use Rattle.aom_roles.specs.Kinds.{is_active_kind}
use Rattle.aom_roles.specs.Families.{descends}
use Rattle.aom_link_conditions.specs.Linked.{IsLinked}
use Rattle.aom_link_conditions.specs.Overriding.{AllMayOverride}
use Rattle.aom_link_conditions.specs.Roles.{role_of, main_of}
use Rattle.aom_roles.specs.Things.{Member, field_thing, holder_of, word_count}
use Rattle.aom_abstract_state.specs.Arguments.{after_of, before_of}
use Rattle.aom_typing_rules.specs.Requests.{unissued}
use Rattle.aom_roles.specs.Shapes.{kind_of}
use Rattle.aom_roles.specs.States.{active, cancel_open, first_of, idle, last_of, states_of}
use Rattle.aom_typing_rules.specs.Typing.{Typing, IsTyped}
use Rattle.aom_roles.specs.Classes.{is_session, sessions_at}
use Rattle.aom_semantics.specs.Places.{Cell, Elsewhere, Root, held, named}
use Rattle.aom_semantics.specs.State.{Dispatch, Frame, Task, Run, Destroy, Unwind, Dispatched, Item, A_mark, State, Choice, Goes}
use Rattle.aom_semantics.specs.Moves.{step, IsOpen}
use Rattle.aom_safety.specs.WellTyped.{IsOfFamily, LeavesNone, IsUndo, WellTyped, PreservesTyping}
use Rattle.aom_safety.specs.Kept.{ClientsFit, StateInvariant}
use Rattle.aom_semantics.specs.Owned.{Owned}
use Rattle.aom_safety.specs.Registers.{AllInRange}
use Rattle.aom_semantics.specs.World.{AllSettled, Observed, ObservesWell, boot_state, first_ready, has_signal, IsBetween, IsBusy, Reaches, Environment, ready_count, signal_count, turn}
use Rattle.aom_transcript.specs.declared.line.Line.{Line}
use Rattle.aom_transcript.specs.declared.line.Ending.TheVariants.{Stopped}

-- a method that is called is there, and it does or constructs
pub record IsCalled (p : Image) (m : ℕ) : Type 0 where
  pub there : IsSome (method_at p m)
  pub role : (method_role p m ≡ Some Do) ⊎ (method_role p m ≡ Some Construct)
  -- no request is issued as it ends, and a construct begins with an object that is not enlisted
  pub ends : unissued (after_of p m) ≡ true
  pub begins : method_role p m ≡ Some Construct → before_of p m ≡ first_of (kind_of p (method_class p m))

-- a method that is called under a trap does, and leaves no object on the cleanup stack
pub record IsTrapped (p : Image) (m : ℕ) : Type 0 where
  pub there : IsSome (method_at p m)
  pub role : method_role p m ≡ Some Do
  pub ends : unissued (after_of p m) ≡ true
  pub gives : LeavesNone (gives_of p m)

-- a method that is dispatched for its object: the object is idle as it begins
pub record IsHandler (p : Image) (c m : ℕ) : Type 0 where
  pub there : IsSome (method_at p m)
  pub role : method_role p m ≡ Some Run_role
  pub family : IsOfFamily p c m
  pub arguments : arguments_of p m ≡ []
  pub gives : gives_of p m ≡ Nothing
  pub begins : before_of p m ≡ idle

-- a method that answers a code: it does not leave, and its object is enlisted as it begins
pub record IsAnswerer (p : Image) (c m : ℕ) : Type 0 where
  pub there : IsSome (method_at p m)
  pub role : method_role p m ≡ Some Error
  pub family : IsOfFamily p c m
  pub arguments : arguments_of p m ≡ Takes_word ∷ []
  pub gives : gives_of p m ≡ A_word
  pub leaves : leaves p m ≡ false
  pub begins : before_of p m ≡ bit_or idle active

-- a method that gives a session to a client that connects: the server is idle as it begins
pub record IsAcceptor (p : Image) (c m session : ℕ) : Type 0 where
  pub there : IsSome (method_at p m)
  pub role : method_role p m ≡ Some Accept
  pub class : method_class p m ≡ Some c
  pub arguments : arguments_of p m ≡ []
  pub gives : gives_of p m ≡ An_own (An_object_of session)
  pub begins : before_of p m ≡ idle

-- a method that serves a message: of a session, with the five words
pub record IsServiceMethod (p : Image) (c m : ℕ) : Type 0 where
  pub session : is_session p c ≡ true
  pub there : IsSome (method_at p m)
  pub role : method_role p m ≡ Some Service
  pub class : method_class p m ≡ Some c
  pub arguments : arguments_of p m ≡ replicate 5 Takes_word
  pub gives : gives_of p m ≡ Nothing

-- what descends from a class is of its kind, and has its fields and its words; no session has descendants; and what a field may own, and a session of its server, is lighter
pub record IsFamily (p : Image) : Type 0 where
  pub kinds : (c d : ℕ) → descends p c d ≡ true → kind_of p (Some c) ≡ kind_of p (Some d)
  pub inherits : (c d f : ℕ) (t : Thing) → descends p c d ≡ true → field_thing p (Member d) f ≡ Some t → field_thing p (Member c) f ≡ Some t
  pub words : (c d : ℕ) → descends p c d ≡ true → word_count p (Member d) ≤ word_count p (Member c)
  pub alone : (c s x : ℕ) → sessions_at p c ≡ Some s → descends p x s ≡ true → x ≡ s
  pub weight : ℕ → ℕ
  pub lighter : (c d f x : ℕ) → field_thing p (Member c) f ≡ Some (An_object_of d) → descends p x d ≡ true → weight x < weight c
  pub served : (c s : ℕ) → sessions_at p c ≡ Some s → weight s < weight c
  pub few : (c : ℕ) → c < length p.classes → weight c < length p.classes

-- what linking has found, as far as the laws use it
pub record IsWired (p : Image) : Type 0 where
  pub has_main : IsSome (main_of p)
  pub main : (m : ℕ) → main_of p ≡ Some m → (IsSome (method_at p m)) × (method_role p m ≡ Some Main) × (gives_of p m ≡ Nothing) × (arguments_of p m ≡ [])
  pub destructor : (c m : ℕ) → role_of p c Destruct ≡ Some m → (IsSome (method_at p m)) × (method_role p m ≡ Some Destruct) × IsOfFamily p c m × (leaves p m ≡ false) × (is_quiet p m ≡ true) × (gives_of p m ≡ Nothing) × (arguments_of p m ≡ [])
  -- its class has all the fields
  pub empties : (c m : ℕ) → role_of p c Destruct ≡ Some m → (f : ℕ) → field_thing p (Member c) f ≡ field_thing p (holder_of p m) f
  -- a class of active objects has a method that cancels, which begins with its object being cancelled
  pub cancel : (c : ℕ) → is_active_kind (kind_of p (Some c)) ≡ true → (m : ℕ) × (role_of p c Cancel ≡ Some m)
  pub canceller : (c m : ℕ) → role_of p c Cancel ≡ Some m → (IsSome (method_at p m)) × (method_role p m ≡ Some Cancel) × IsOfFamily p c m × (arguments_of p m ≡ []) × (before_of p m ≡ cancel_open)
  -- and one that is dispatched for its objects; it may have one that answers
  pub handler : (c : ℕ) → is_active_kind (kind_of p (Some c)) ≡ true → (m : ℕ) × (role_of p c Run_role ≡ Some m)
  pub handles : (c m : ℕ) → role_of p c Run_role ≡ Some m → IsHandler p c m
  pub answers : (c m : ℕ) → role_of p c Error ≡ Some m → IsAnswerer p c m
  -- a method that cancels is quiet and gives nothing, and what is quiet does not leave
  pub cancels : (m : ℕ) → method_role p m ≡ Some Cancel → (is_quiet p m ≡ true) × (gives_of p m ≡ Nothing)
  pub quiets : (m : ℕ) → leaves p m ≡ true → is_quiet p m ≡ false
  -- a destructor begins in any state in which its object may rest, and an object that has none may rest as one ends
  pub destructs : (c m : ℕ) → role_of p c Destruct ≡ Some m → (before_of p m ≡ states_of (kind_of p (Some c))) × (after_of p m ≡ last_of (kind_of p (Some c)))
  pub undestructed : (c : ℕ) → role_of p c Destruct ≡ None → last_of (kind_of p (Some c)) ≡ states_of (kind_of p (Some c))
  pub static_main : (m : ℕ) → method_role p m ≡ Some Main → method_class p m ≡ None
  -- the operands of each instruction are in their ranges
  pub operands : (m place : ℕ) (i : Instr) → instr_at p m place ≡ Some i → (l : Limits) × InstrFits l i
  pub called : (m place : ℕ) (target : Target) (m' first c : ℕ) → action_at p m place ≡ Some (Call Plain target m' first c) → IsCalled p m'
  pub trapped : (m place : ℕ) (target : Target) (m' first c : ℕ) → action_at p m place ≡ Some (Call Under_trap target m' first c) → IsTrapped p m'
  pub pushed : (m place a m' : ℕ) → action_at p m place ≡ Some (PushOperation a m') → IsUndo p m'
  pub no_destructor : (c : ℕ) → role_of p c Destruct ≡ None → (f : ℕ) → field_thing p (Member c) f ≡ None
  -- a server has a method that accepts, and its sessions one that serves; what is a session is no server
  pub acceptor : (c session : ℕ) → sessions_at p c ≡ Some session → (m : ℕ) × (role_of p c Accept ≡ Some m)
  pub accepts : (c session m : ℕ) → sessions_at p c ≡ Some session → role_of p c Accept ≡ Some m → IsAcceptor p c m session
  pub attendant : (c session : ℕ) → sessions_at p c ≡ Some session → (m : ℕ) × (role_of p session Service ≡ Some m)
  pub attends : (c m : ℕ) → role_of p c Service ≡ Some m → IsServiceMethod p c m
  pub sessions : (c session : ℕ) → sessions_at p c ≡ Some session → sessions_at p session ≡ None
  -- classes and what descends from them
  pub family : IsFamily p
  -- what a class has for its construct is of the class, or of one that it descends from
  pub constructs : (c m : ℕ) → role_of p c Construct ≡ Some m → IsOfFamily p c m
  -- what overrides a method may stand in its place
  pub overriders : AllMayOverride p

-- the boot state is well typed
abbrev pub BootKeeps : Type 0
BootKeeps = (p : Image) (t : Typing) → IsWired p → IsTyped p t → WellTyped p t (boot_state p)

-- a move from a well-typed state is not stuck, and leads to a well-typed state
abbrev pub StepKeeps : Type 0
StepKeeps = (p : Image) (t : Typing) → IsWired p → IsTyped p t → (c : Choice) (s : State) → WellTyped p t s → named s.cells c.name ≡ None → PreservesTyping p t (step p c s)

-- only registers that a method has own, in each state of a run
pub record RegistersKeep : Type 0 where
  pub boot : (p : Image) → AllInRange (boot_state p).cells
  pub moves : (p : Image) → IsWired p → (c : Choice) (s u : State) → AllInRange s.cells → step p c s ≡ Goes u → AllInRange u.cells
  pub turns : (p : Image) (outside : Environment) (observed : Observed) (s u : State) → AllInRange s.cells → turn p outside observed s ≡ Goes u → AllInRange u.cells

-- a turn from a well-typed state between dispatches in which clients are kept is not stuck, whatever a native completes that it owes, and leads to a well-typed state
abbrev pub TurnGoesOn : Type 0
TurnGoesOn =
    (p : Image) (t : Typing) (outside : Environment) → IsWired p → IsTyped p t → (observed : Observed) (s : State) → WellTyped p t s → IsBetween s → ObservesWell p outside observed s → ClientsFit p s.clients s.cells →
    PreservesTyping p t (turn p outside observed s)

-- clients, and what they have at servers, say the same in each state of a run
pub record ClientsKeep : Type 0 where
  pub boot : (p : Image) → StateInvariant p (boot_state p)
  pub moves : (p : Image) (t : Typing) → IsWired p → IsTyped p t → (c : Choice) (s u : State) → WellTyped p t s → named s.cells c.name ≡ None → StateInvariant p s → step p c s ≡ Goes u → StateInvariant p u
  pub turns : (p : Image) (t : Typing) (outside : Environment) → IsWired p → IsTyped p t → (observed : Observed) (s u : State) → WellTyped p t s → IsBetween s → ObservesWell p outside observed s → StateInvariant p s → turn p outside observed s ≡ Goes u → StateInvariant p u

-- no request is made that is not waited for; as many signals are there as objects and servers that are ready, and one of these goes first where something signals
pub record AllRest (cs : List Cell) : Type 0 where
  pub settled : AllSettled cs
  pub count : signal_count cs ≡ ready_count cs
  pub first : has_signal cs ≡ is_some (first_ready cs)

-- so it is at a dispatch's end, whether `stop` was run or not, and between dispatches
abbrev pub SignalsAreReady : Type 0
SignalsAreReady = (p : Image) (t : Typing) (s : State) → WellTyped p t s → ((d : Dispatch) → s.tasks ≡ Dispatched d ∷ [] → AllRest s.cells) × (s.tasks ≡ [] → AllRest s.cells)

-- at a dispatch's end, and between dispatches, each cell has exactly one living owner
abbrev pub EndsOwned : Type 0
EndsOwned =
    (p : Image) (t : Typing) → IsWired p → (s : State) → WellTyped p t s → AllInRange s.cells →
    ((d : Dispatch) → s.tasks ≡ Dispatched d ∷ [] → Owned p s) × (s.tasks ≡ [] → Owned p s)

-- and where the root holds nothing then, no cell is left
abbrev pub EndsEmpty : Type 0
EndsEmpty = (p : Image) (t : Typing) → IsWired p → (s : State) → WellTyped p t s → s.tasks ≡ [] → held s.cells (Elsewhere Root) ≡ None → s.cells ≡ []

-- of each run of an image: it is never stuck, at each caught leave and each dispatch's end each cell has one living owner, and where it stopped no cell is left
pub record IsSound (p : Image) (outside : Environment) : Type 0 where
  pub goes_on : (lines : List Line) (s : State) → Reaches p outside (boot_state p) lines s → IsBusy s → (c : Choice) → IsOpen p outside.refused c s → (u : State) × (step p c s ≡ Goes u)
  -- each turn goes on: no signal is stray
  pub turns_on : (lines : List Line) (s : State) → Reaches p outside (boot_state p) lines s → IsBetween s → (observed : Observed) → ObservesWell p outside observed s → (u : State) × (turn p outside observed s ≡ Goes u)
  -- there are as many signals as objects and servers that are ready, between dispatches and at each dispatch's end
  pub rests : (lines : List Line) (s : State) → Reaches p outside (boot_state p) lines s → s.tasks ≡ [] → AllRest s.cells
  pub ends_at_rest : (lines : List Line) (s : State) (d : Dispatch) → Reaches p outside (boot_state p) lines s → s.tasks ≡ Dispatched d ∷ [] → AllRest s.cells
  -- a leave is caught once all that was pushed since its trap is dealt with
  pub caught : (lines : List Line) (s : State) (code : ℤ) (tasks : List Task) (items : List Item) → Reaches p outside (boot_state p) lines s → s.tasks ≡ Unwind code ∷ tasks → s.items ≡ A_mark ∷ items → Owned p s
  pub owned : (lines : List Line) (s : State) (d : Dispatch) → Reaches p outside (boot_state p) lines s → s.tasks ≡ Dispatched d ∷ [] → Owned p s
  pub stopped_empty : (lines : List Line) (s : State) → Reaches p outside (boot_state p) lines s → s.rest.ended ≡ Some Stopped → s.cells ≡ []

-- each linked image that has a typing is sound, whatever is outside
abbrev pub TypedIsSound : Type 0
TypedIsSound = (p : Image) (t : Typing) (outside : Environment) → IsWired p → IsTyped p t → IsSound p outside

-- what a linked image gives the laws
abbrev pub LinkedIsWired : Type 0
LinkedIsWired = (p : Image) → WellFormed p → IsLinked p → IsWired p

-- a move of a method, of a destruction, of an unwinding, and the end of a dispatch
abbrev pub InstructionKeeps : Type 0
InstructionKeeps = (p : Image) (t : Typing) → IsWired p → IsTyped p t → (c : Choice) (s : State) (fr : Frame) (tasks : List Task) → WellTyped p t s → s.tasks ≡ Run fr ∷ tasks → named s.cells c.name ≡ None → PreservesTyping p t (step p c s)

abbrev pub DestructionKeeps : Type 0
DestructionKeeps = (p : Image) (t : Typing) (c : Choice) (s : State) (tasks : List Task) → WellTyped p t s → s.tasks ≡ Destroy ∷ tasks → PreservesTyping p t (step p c s)

abbrev pub UnwindingKeeps : Type 0
UnwindingKeeps = (p : Image) (t : Typing) → IsWired p → IsTyped p t → (c : Choice) (s : State) (code : ℤ) (tasks : List Task) → WellTyped p t s → s.tasks ≡ Unwind code ∷ tasks → PreservesTyping p t (step p c s)

abbrev pub TurnKeeps : Type 0
TurnKeeps = (p : Image) (t : Typing) → IsWired p → IsTyped p t → (c : Choice) (s : State) (d : Dispatch) (tasks : List Task) → WellTyped p t s → s.tasks ≡ Dispatched d ∷ tasks → PreservesTyping p t (step p c s)
