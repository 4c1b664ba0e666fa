-- The state of the checked machine.
use Rattle.std.specs.Prelude.{ℕ, suc, ℤ, Bool, cond, ◌+◌, ◌-◌, ◌^◌, min, List, [], ◌∷◌, Option, Some, None, FitsSigned}
use Rattle.std.specs.Int.{w32}
use Rattle.aom_image.specs.declared.method.Thing.{Thing}
use Rattle.aom_image.specs.declared.method.Thing.TheVariants.{Object as An_object_of, Message}
use Rattle.aom_clients.specs.declared.client.Client.{Client}
use Rattle.aom_roles.specs.Tables.{at, set_extending}
use Rattle.aom_roles.specs.Things.{Holder, Nobody, Program, Member}
use Rattle.aom_semantics.specs.Places.{Place, Field, Elsewhere, Root, Object, Cell}
use Rattle.aom_transcript.specs.declared.line.Ending.{Ending}

-- whose fields a frame works on: nobody's, the root as main's only field, or a cell's, with the place that held it when the frame was made
pub data Receiver : Type 0 where
  Static : Receiver
  AtRoot : Receiver
  Inside : (this : Object) (from : Place) → Receiver

pub record Frame : Type 0 where
  pub method : ℕ
  pub place : ℕ
  -- none where a register holds no word
  pub words : List (Option ℤ)
  -- how many rounds of each loop are left, the outermost first
  pub counters : List ℕ
  pub receiver : Receiver
  -- how many items the cleanup stack had as it began
  pub height : ℕ
  -- the class that its object counts as
  pub view : Option ℕ

-- an object, and the place that owns it
pub record OwnedObject : Type 0 where
  pub object : Object
  pub place : Place

-- how far the dispatch of a server has come with the first of its queue
pub data Stage : Type 0 where
  -- of a connect: its `accept` runs, has given a session, or has left with a code
  Accepts : Stage
  Accepted : Stage
  Accept_left : (code : ℤ) → Stage
  -- of a message: the `service` of that session runs, or has left with a code
  Serves : (session : Object) → Stage
  Service_left : (code : ℤ) → Stage
  -- of a close: the session goes, or is gone
  Disconnects : Stage

-- what stands below all else
pub data Dispatch : Type 0 where
  -- of main, and its end where main left with a code
  Of_main : Dispatch
  Main_left : (code : ℤ) → Dispatch
  -- the end of a stopped run, which destroys the root
  Of_root : Dispatch
  -- of an object, and its end where its method left with a code
  Of_object : OwnedObject → Dispatch
  Object_left : OwnedObject → (code : ℤ) → Dispatch
  -- its `error` method is asked, and has answered
  Asks : OwnedObject → Dispatch
  Answered : OwnedObject → (answer : ℤ) → Dispatch
  -- of a server, for that client; once all is served it is one of an object
  Of_server : OwnedObject → (client : ℕ) → Stage → Dispatch

-- what is at hand, the innermost first
pub data Task : Type 0 where
  Run : Frame → Task
  Trapped : Task
  Destroy : Task
  -- right over the going of a server: the sessions with it go first
  Closing : Task
  -- a leave with that code, until it arrives at its trap
  Unwind : (code : ℤ) → Task
  Dispatched : Dispatch → Task

-- an item of the cleanup stack: an object, which the item's place owns, a method to be called on a word, or the mark of a trap
pub data Item : Type 0 where
  An_object : Item
  An_operation : (method : ℕ) (word : ℤ) → Item
  A_mark : Item

-- what no place tells: the clock, counts, and how far the run has come
pub record Counters : Type 0 where
  pub clock : ℕ
  -- allocation requests so far
  pub requests : ℕ
  -- steps of the dispatch at hand
  pub steps : ℕ
  -- dispatches of objects that are over
  pub dispatches : ℕ
  -- main's line is written
  pub announced : Bool
  -- `stop` was run
  pub stopped : Bool
  -- events that are delivered
  pub delivered : ℕ
  -- the natives before this one are polled in the turn at hand
  pub polled : ℕ
  -- the run is over
  pub ended : Option Ending

pub record State : Type 0 where
  pub cells : List Cell
  pub tasks : List Task
  -- last first
  pub items : List Item
  pub rest : Counters
  -- the natives that are killed
  pub killed : List ℕ
  -- what each client is at; one past the end is unconnected
  pub clients : List Client

-- a word: from -2^31 to 2^31 - 1
abbrev pub FitsWord : ℤ → Type 0
FitsWord w = FitsSigned w32 w

-- what is left free, and what is heard at hand: the name of a new cell, whether the allocation request is refused, and what the native answers
pub record Choice : Type 0 where
  pub name : ℕ
  pub refused : Bool
  pub answer : ℤ

-- the kinds of stuck states
pub data Stuck : Type 0 where
  Unbalanced : Stuck
  PopUnder : Stuck
  PushNoTrap : Stuck
  LeaveNoTrap : Stuck
  AlreadyActive : Stuck
  ActiveDestroyed : Stuck
  Stray : Stuck
  AddedWrong : Stuck
  RequestOverlap : Stuck
  CancelHang : Stuck
  CompletedTwice : Stuck
  MessageLost : Stuck
  Orphan : Stuck
  NullOrDead : Stuck
  WrongKind : Stuck
  ClosedWhileOutstanding : Stuck

pub data Outcome : Type 0 where
  Goes : State → Outcome
  IsStuck : Stuck → Outcome

-- a need of the machine: a test, and the kind of its failure
abbrev pub Need : Type 0
Need = Bool × Stuck

abbrev pub guarded : List Need → State → Outcome
guarded [] s = Goes s
guarded (need ∷ needs) s = cond need.0 (guarded needs s) (IsStuck need.1)

-- counts and times stay at their greatest value
abbrev pub raised : ℕ → ℕ
raised n = min (n + 1) (2 ^ 64 - 1)

-- of a frame
abbrev pub word : Frame → ℕ → Option ℤ
word fr i = at None fr.words i

abbrev pub set_word : Frame → ℕ → Option ℤ → Frame
set_word fr i w = record fr { words = set_extending None fr.words i w }

abbrev pub counter : Frame → ℕ → ℕ
counter fr i = at 0 fr.counters i

abbrev pub set_counter : Frame → ℕ → ℕ → Frame
set_counter fr i n = record fr { counters = set_extending 0 fr.counters i n }

abbrev pub next : Frame → Frame
next fr = record fr { place = suc fr.place }

abbrev pub to_place : Frame → ℕ → Frame
to_place fr to = record fr { place = to }

-- an object counts as its class
abbrev pub thing_view : Thing → Option ℕ
thing_view (An_object_of c) = Some c
thing_view Message = None

abbrev pub receiver_view : Receiver → Option ℕ
receiver_view Static = None
receiver_view AtRoot = None
receiver_view (Inside o from) = thing_view o.thing

-- a method begins on what counts as that class
abbrev pub frame_as : ℕ → Receiver → Option ℕ → ℕ → Frame
frame_as m receiver view height = record { method = m; place = 0; words = []; counters = []; receiver = receiver; height = height; view = view }

abbrev pub frame_of : ℕ → Receiver → ℕ → Frame
frame_of m receiver height = frame_as m receiver (receiver_view receiver) height

-- the place of a field, and whose fields these are
abbrev pub field_place : Receiver → ℕ → Place
field_place Static f = Elsewhere Root
field_place AtRoot f = Elsewhere Root
field_place (Inside o from) f = Field o.name f

abbrev pub thing_holder : Thing → Holder
thing_holder (An_object_of c) = Member c
thing_holder Message = Nobody

abbrev pub receiver_holder : Receiver → Holder
receiver_holder Static = Nobody
receiver_holder AtRoot = Program
receiver_holder (Inside o from) = thing_holder o.thing

-- what was at hand is over, and the method below goes on
abbrev pub resumed : List Task → List Task
resumed [] = []
resumed (Run fr ∷ ts) = Run (next fr) ∷ ts
resumed (Trapped ∷ ts) = Trapped ∷ ts
resumed (Destroy ∷ ts) = Destroy ∷ ts
resumed (Closing ∷ ts) = Closing ∷ ts
resumed (Unwind code ∷ ts) = Unwind code ∷ ts
resumed (Dispatched d ∷ ts) = Dispatched d ∷ ts
