-- What the cases are made of: a small image, states of it, and what comes of a case.
use Rattle.std.specs.Prelude.{ℕ, ◌+◌, ℤ, pos, Bool, true, false, cond, ◌&&◌, ◌≡◌, map, List, [], ◌∷◌, Option, Some, None}
use Rattle.aom_image.specs.Image.{Image}
use Rattle.aom_image.specs.Small.{a_class, a_header, a_method as a_method_with}
use Rattle.aom_image.specs.declared.class.ClassDecl.{ClassDecl}
use Rattle.aom_image.specs.declared.class.ClassKind.TheVariants.{Active, Plain, Server}
use Rattle.aom_image.specs.declared.class.Provider.TheVariants.{Native, Own, Token}
use Rattle.aom_instructions.specs.declared.instr.Instr.{Instr}
use Rattle.aom_image.specs.declared.method.Argument.{Argument}
use Rattle.aom_image.specs.declared.method.Gives.{Gives}
use Rattle.aom_image.specs.declared.method.Gives.TheVariants.{Nothing}
use Rattle.aom_image.specs.declared.method.Method.{Method}
use Rattle.aom_image.specs.declared.method.Role.{Role}
use Rattle.aom_image.specs.declared.method.Role.TheVariants.{Do, Main}
use Rattle.aom_link_conditions.specs.Roles.{or_else}
use Rattle.aom_image.specs.declared.method.Thing.{Thing}
use Rattle.aom_image.specs.declared.method.Thing.TheVariants.{Object as An_object_of, Message}
use Rattle.aom_semantics.specs.Places.{Place, Register, Elsewhere, Root, Cell, unserved}
use Rattle.aom_semantics.specs.State.{Receiver, Static, AtRoot, Inside, Frame, frame_of, Task, Run, Trapped, Dispatched, Of_main, Item, A_mark, State, Choice, Need, Outcome, Goes, IsStuck, Stuck, Unbalanced, PopUnder, PushNoTrap, LeaveNoTrap, AlreadyActive, ActiveDestroyed, Stray, AddedWrong, RequestOverlap, CancelHang, CompletedTwice, MessageLost, Orphan, NullOrDead, WrongKind, ClosedWhileOutstanding}
use Rattle.aom_semantics.specs.Moves.{needs, step}

-- ---- the image

-- a class that owns nothing, and one with a word whose fields may own an object of the first class and a message
abbrev pub leaf : Thing
leaf = An_object_of 0

abbrev pub pair : Thing
pair = An_object_of 1

-- one of active objects, and one of servers
abbrev pub waiter : Thing
waiter = An_object_of 2

abbrev pub keeper : Thing
keeper = An_object_of 3

-- and one of active objects that the first native serves
abbrev pub served : Thing
served = An_object_of 4

-- and a child of the second class, with a word and a field more
abbrev pub child : Thing
child = An_object_of 5

-- and one of active objects that hand out tokens
abbrev pub handing : Thing
handing = An_object_of 6

abbrev pub small_classes : List ClassDecl
small_classes =
    a_class Plain 0 0 []
    ∷ a_class Plain 0 1 (leaf ∷ Message ∷ [])
    ∷ a_class (Active Own) 1 0 []
    ∷ a_class (Server 1 0) 1 0 []
    ∷ a_class (Active (Native 0)) 1 0 []
    ∷ record (a_class Plain 0 2 (leaf ∷ Message ∷ leaf ∷ [])) { parent = Some 1 }
    ∷ a_class (Active Token) 1 0 []
    ∷ []

abbrev pub a_method : Option ℕ → List Argument → Gives → List Instr → Method
a_method class arguments gives code =
    a_method_with class Do 0 0 0 arguments gives code

-- of two methods: the one at hand, and the one that it calls
abbrev pub small_image : Method → Method → Image
small_image here called =
    record {
      header = a_header 8 0 1 (Some 1) 1;
      classes = small_classes;
      methods = here ∷ called ∷ [];
    }

-- ---- the states

abbrev pub seven : Option ℤ
seven = Some (pos 7)

abbrev pub a_cell : ℕ → Thing → Place → Cell
a_cell name thing owner = record { object = record { name = name; thing = thing }; words = []; request = None; session = false; service = unserved; owner = owner }

-- main's dispatch under its trap
abbrev pub at_bottom : List Task
at_bottom = Trapped ∷ Dispatched Of_main ∷ []

-- a register of the method that stands right over them
abbrev pub mine : ℕ → Place
mine r = Register 2 r

-- inside an object of that thing, which the root holds
abbrev pub inside : Thing → Receiver
inside thing = Inside (record { name = 9; thing = thing }) (Elsewhere Root)

-- over these tasks, cells and items, with that at hand
abbrev pub state_of : List Task → List Cell → List Item → State
state_of tasks cells items =
    record {
      cells = cells;
      tasks = tasks;
      items = items;
      rest = record { clock = 0; requests = 0; steps = 0; dispatches = 0; announced = true; stopped = false; delivered = 0; polled = 0; ended = None };
      killed = [];
      clients = [];
    }

-- ---- the cases

-- an instruction at which a method stands, the state round it, and the kinds of its needs that are not met, in their order
pub record Case : Type 0 where
  pub instr : Instr
  -- what the method's registers have
  pub words : List (Option ℤ)
  pub receiver : Receiver
  -- the tasks under the method
  pub below : List Task
  pub cells : List Cell
  pub items : List Item
  -- whether its request is refused
  pub refused : Bool
  pub role : Role
  -- the method's class, where it is not that of what it works on
  pub class : Option ℕ
  -- what the method gives
  pub gives : Gives
  -- the method that it calls
  pub called : Method
  pub unmet : List Stuck

-- a static method that gives nothing, with nulls in its registers, under the trap of main's dispatch
abbrev pub fails : Instr → List Stuck → Case
fails instr kinds =
    record {
      instr = instr;
      words = [];
      receiver = Static;
      below = at_bottom;
      cells = [];
      items = A_mark ∷ [];
      refused = false;
      role = Do;
      class = None;
      gives = Nothing;
      called = a_method None [] Nothing [];
      unmet = kinds;
    }

-- the class of what is worked on, and the role of what works there: main works on the root
abbrev pub thing_class : Thing → Option ℕ
thing_class (An_object_of c) = Some c
thing_class Message = None

abbrev pub class_there : Receiver → Option ℕ
class_there Static = None
class_there AtRoot = None
class_there (Inside o from) = thing_class o.thing

abbrev pub role_there : Receiver → Role → Role
role_there AtRoot r = Main
role_there _ r = r

abbrev pub image_of : Case → Image
image_of c = small_image (record (a_method (or_else c.class (class_there c.receiver)) [] c.gives (c.instr ∷ [])) { role = role_there c.receiver c.role }) c.called

abbrev pub frame_at : Case → Frame
frame_at c = record (frame_of 0 c.receiver 1) { words = c.words }

abbrev pub begins : Case → State
begins c = state_of (Run (frame_at c) ∷ c.below) c.cells c.items

abbrev pub choice_of : Case → Choice
choice_of c = record { name = 99; refused = c.refused; answer = pos 0 }

-- the kinds of the needs that are not met
abbrev pub unmet : List Need → List Stuck
unmet [] = []
unmet (need ∷ needs) = cond need.0 (unmet needs) (need.1 ∷ unmet needs)

-- whether two kinds are one
abbrev pub same_kind : Stuck → Stuck → Bool
same_kind Unbalanced Unbalanced = true
same_kind PopUnder PopUnder = true
same_kind PushNoTrap PushNoTrap = true
same_kind LeaveNoTrap LeaveNoTrap = true
same_kind AlreadyActive AlreadyActive = true
same_kind ActiveDestroyed ActiveDestroyed = true
same_kind Stray Stray = true
same_kind AddedWrong AddedWrong = true
same_kind RequestOverlap RequestOverlap = true
same_kind CancelHang CancelHang = true
same_kind CompletedTwice CompletedTwice = true
same_kind MessageLost MessageLost = true
same_kind Orphan Orphan = true
same_kind NullOrDead NullOrDead = true
same_kind WrongKind WrongKind = true
same_kind ClosedWhileOutstanding ClosedWhileOutstanding = true
same_kind _ _ = false

abbrev pub same_kinds : List Stuck → List Stuck → Bool
same_kinds [] [] = true
same_kinds (k ∷ ks) (x ∷ xs) = same_kind k x && same_kinds ks xs
same_kinds _ _ = false

-- stuck by the first of these kinds, or not stuck where there is none
abbrev pub is_stuck_by : List Stuck → Outcome → Bool
is_stuck_by [] (Goes s) = true
is_stuck_by [] (IsStuck kind) = false
is_stuck_by (k ∷ ks) (Goes s) = false
is_stuck_by (k ∷ ks) (IsStuck kind) = same_kind k kind

-- just those needs are not met, and the machine is stuck by the first of them
abbrev pub comes_out : Case → Bool
comes_out c =
    same_kinds (unmet (needs (image_of c) (choice_of c) (frame_at c) c.below (begins c) c.instr)) c.unmet
    && is_stuck_by c.unmet (step (image_of c) (choice_of c) (begins c))

-- the numbers of those in a table that come out otherwise, counted from there
abbrev pub missed : ℕ → List Bool → List ℕ
missed n [] = []
missed n (b ∷ bs) = cond b (missed (n + 1) bs) (n ∷ missed (n + 1) bs)

-- each case of a table comes out so
abbrev pub AllComeOut : List Case → Type 0
AllComeOut cases = missed 0 (map comes_out cases) ≡ []
