-- Calls, returns, and `stop`.
use Rattle.std.specs.Prelude.{ℕ, zero, suc, ◌+◌, ◌-◌, ℤ, pos, Bool, true, false, not, ◌&&◌, ◌==◌, nat_le, List, [], ◌∷◌, ◌++◌, Option, Some, None, is_some, is_none, length}
use Rattle.aom_image.specs.Image.{Image}
use Rattle.aom_image.specs.Views.{action_in, instr_at, arguments_of, gives_of, method_class, method_role}
use Rattle.aom_instructions.specs.declared.action.Action.{Action}
use Rattle.aom_instructions.specs.declared.action.Action.TheVariants.{Call}
use Rattle.aom_instructions.specs.declared.instr.Instr.{Instr}
use Rattle.aom_instructions.specs.declared.instr.Target.{Target}
use Rattle.aom_instructions.specs.declared.instr.Target.TheVariants.{This, Register as On_register, Field as On_field, Entry as On_entry}
use Rattle.aom_image.specs.declared.method.Argument.{Argument}
use Rattle.aom_image.specs.declared.method.Argument.TheVariants.{Word as Takes_word, Own as Takes_own}
use Rattle.aom_image.specs.declared.method.Gives.{Gives}
use Rattle.aom_image.specs.declared.method.Gives.TheVariants.{Nothing, Word as A_word, Own as An_own, Maybe as A_maybe, Left}
use Rattle.aom_image.specs.declared.method.Thing.{Thing}
use Rattle.aom_image.specs.declared.method.Thing.TheVariants.{Object as An_object_of, Message}
use Rattle.aom_roles.specs.Tests.{only_if}
use Rattle.aom_roles.specs.Roles.{is_construct}
use Rattle.aom_roles.specs.Tables.{is_among}
use Rattle.aom_roles.specs.Families.{fields_above, parent_above}
use Rattle.aom_link_conditions.specs.Overriding.{body_of}
use Rattle.aom_roles.specs.Things.{field_thing, holder_of, is_subtype}
use Rattle.aom_clients.specs.declared.client.Client.{Client}
use Rattle.aom_semantics.specs.Clients.{at_opening, client_at, with_client}
use Rattle.aom_semantics.specs.Servers.{without_queue, opened, reserved}
use Rattle.aom_semantics.specs.Places.{Object, Place, Register, Entry, Field, Going, Elsewhere, Cell, held, moved, Session, In_service}
use Rattle.aom_semantics.specs.State.{Receiver, Static, AtRoot, Inside, Frame, Dispatch, Asks, Answered, Task, Run, Trapped, Destroy, Unwind, Dispatched, Item, An_object, An_operation, A_mark, State, Need, Unbalanced, PopUnder, Orphan, NullOrDead, WrongKind, word, set_word, next, field_place, receiver_view, frame_as, Of_server, Of_object, Accepts, Accepted, Serves, MessageLost, CompletedTwice}
use Rattle.aom_semantics.specs.Destruction.{line_on, needs_past, needs_rest}
use Rattle.aom_semantics.specs.Requests.{needs_cancelled}
use Rattle.aom_semantics.specs.Tokens.{is_redeemable, token_of}
use Rattle.aom_semantics.specs.Words.{here, needs_word, word_or_zero}
use Rattle.aom_semantics.specs.Objects.{is_thing}

-- a method of that class may work on what counts as this, and a static one works on nothing
abbrev pub works_on : Image → Option ℕ → Option ℕ → Bool
works_on p None view = true
works_on p (Some c) None = false
works_on p (Some c) (Some x) = is_subtype p (An_object_of x) (An_object_of c)

-- a method of that class may work on this object
abbrev pub is_worked_on : Image → Option ℕ → Option Object → Bool
is_worked_on p None o = false
is_worked_on p (Some c) o = is_thing p (An_object_of c) o

abbrev pub needs_target_object : Image → Option ℕ → Option Object → List Need
needs_target_object p class o = (is_some o, NullOrDead) ∷ (is_worked_on p class o, WrongKind) ∷ []

-- what a place owns, as what a method works on
abbrev pub receiver_at : Option Object → Place → Receiver
receiver_at None from = Static
receiver_at (Some o) from = Inside o from

-- a static method works on nothing, another on what this one works on
abbrev pub own_receiver : Option ℕ → Receiver → Receiver
own_receiver None receiver = Static
own_receiver (Some c) receiver = receiver

-- which counts as it does for this one
abbrev pub own_view : Option ℕ → Option ℕ → Option ℕ
own_view None view = None
own_view (Some c) view = view

-- an entry counted from the last, with no mark over it
abbrev pub entry_at : List Item → ℕ → Option Item
entry_at [] k = None
entry_at (An_object ∷ items) zero = Some An_object
entry_at (An_object ∷ items) (suc k) = entry_at items k
entry_at (An_operation m w ∷ items) zero = Some (An_operation m w)
entry_at (An_operation m w ∷ items) (suc k) = entry_at items k
entry_at (A_mark ∷ items) k = None

-- an operation owns nothing on which a method could be called
abbrev pub is_no_operation : Option Item → Bool
is_no_operation None = true
is_no_operation (Some An_object) = true
is_no_operation (Some (An_operation m w)) = false
is_no_operation (Some A_mark) = true

-- its place
abbrev pub entry_place : List Item → ℕ → Place
entry_place items k = Entry (length items - suc k)

-- no field of what a method works on, of so many, owns
abbrev pub none_filled : List Cell → Receiver → ℕ → Bool
none_filled cs receiver zero = true
none_filled cs receiver (suc n) = is_none (held cs (field_place receiver n)) && none_filled cs receiver n

module _ (p : Image) (fr : Frame) (ts : List Task) (s : State) where
  -- a register owns what may stand for that thing
  abbrev pub needs_own : Thing → ℕ → List Need
  needs_own t a =
      (is_none (word fr a), WrongKind)
      ∷ (is_some (held s.cells (here fr ts s a)), NullOrDead)
      ∷ (is_thing p t (held s.cells (here fr ts s a)), WrongKind)
      ∷ []

  -- a register owns a message, which is completed with the word of another; what waits for a token is pending
  abbrev pub needs_reply : ℕ → ℕ → List Need
  needs_reply a b = needs_own Message a ++ (needs_word fr ts s b ∷ (is_redeemable (token_of s.cells (held s.cells (here fr ts s a))) s.cells, CompletedTwice) ∷ [])

  -- where a construct calls its parent's on its own object, no field that the parent declares owns
  abbrev pub parents_empty : ℕ → Need
  parents_empty m = (only_if (is_construct (method_role p m)) (none_filled s.cells fr.receiver (fields_above p (parent_above p fr.method))), Orphan)

  abbrev pub needs_target : Target → ℕ → Option ℕ → ℕ → ℕ → List Need
  needs_target This m class first count = (works_on p class fr.view, WrongKind) ∷ parents_empty m ∷ []
  needs_target (On_register r) m class first count =
      (is_none (word fr r), WrongKind)
      ∷ (needs_target_object p class (held s.cells (here fr ts s r))
      ++ ((not (is_among first count r), WrongKind)
      ∷ []))
  needs_target (On_field f) m class first count =
      (is_some (field_thing p (holder_of p fr.method) f), WrongKind)
      ∷ needs_target_object p class (held s.cells (field_place fr.receiver f))
  needs_target (On_entry k) m class first count =
      (is_some (entry_at s.items k), PopUnder)
      ∷ (is_no_operation (entry_at s.items k), WrongKind)
      ∷ needs_target_object p class (held s.cells (entry_place s.items k))

  abbrev pub target_receiver : Target → Option ℕ → Receiver
  target_receiver This class = own_receiver class fr.receiver
  target_receiver (On_register r) class = receiver_at (held s.cells (here fr ts s r)) (here fr ts s r)
  target_receiver (On_field f) class = receiver_at (held s.cells (field_place fr.receiver f)) (field_place fr.receiver f)
  target_receiver (On_entry k) class = receiver_at (held s.cells (entry_place s.items k)) (entry_place s.items k)

  -- what the object of the target counts as: its own class, where it is not this one's
  abbrev pub target_view : Target → Option ℕ → Option ℕ
  target_view This class = own_view class fr.view
  target_view (On_register r) class = receiver_view (target_receiver (On_register r) class)
  target_view (On_field f) class = receiver_view (target_receiver (On_field f) class)
  target_view (On_entry k) class = receiver_view (target_receiver (On_entry k) class)

  -- what a call of the method runs: the method, or what overrides it for what the target counts as
  abbrev pub run_by : Target → ℕ → ℕ
  run_by target m = body_of p m (target_view target (method_class p m))

  -- a register is passed on
  abbrev pub needs_argument : Argument → ℕ → List Need
  needs_argument Takes_word a = needs_word fr ts s a ∷ []
  needs_argument (Takes_own t) a = needs_own t a

  -- the arguments, from that register on
  abbrev pub needs_each : List Argument → ℕ → List Need
  needs_each [] first = []
  needs_each (x ∷ xs) first = needs_argument x first ++ needs_each xs (suc first)

  -- words are copied
  abbrev pub passed_words : List Argument → ℕ → List (Option ℤ)
  passed_words [] first = []
  passed_words (Takes_word ∷ xs) first = word fr first ∷ passed_words xs (suc first)
  passed_words (Takes_own t ∷ xs) first = None ∷ passed_words xs (suc first)

  -- objects move to the registers of a method at that depth, from the second number on
  abbrev pub passed_cells : ℕ → List Argument → ℕ → ℕ → List Cell → List Cell
  passed_cells depth [] first to cs = cs
  passed_cells depth (Takes_word ∷ xs) first to cs = passed_cells depth xs (suc first) (suc to) cs
  passed_cells depth (Takes_own t ∷ xs) first to cs = passed_cells depth xs (suc first) (suc to) (moved (here fr ts s first) (Register depth to) cs)

  -- what the result comes to owns nothing
  abbrev pub needs_result : Gives → List Cell → ℕ → List Need
  needs_result Nothing cs c = []
  needs_result A_word cs c = (is_none (held cs (here fr ts s c)), Orphan) ∷ []
  needs_result (An_own t) cs c = (is_none (held cs (here fr ts s c)), Orphan) ∷ []
  needs_result (A_maybe t) cs c = (is_none (held cs (here fr ts s c)), Orphan) ∷ []
  needs_result (Left x) cs c = []

  -- the tasks over which a called method stands, and those over which it stands under a trap
  abbrev pub over_caller : List Task
  over_caller = Run fr ∷ ts

  abbrev pub over_trap : List Task
  over_trap = Trapped ∷ Run fr ∷ ts

  -- the cells once the arguments of a method over these tasks are passed
  abbrev pub given_cells : List Task → ℕ → ℕ → List Cell
  given_cells over m first = passed_cells (length over) (arguments_of p m) first 0 s.cells

  -- the target, and the arguments
  abbrev pub needs_entering : Target → ℕ → ℕ → List Need → List Need
  needs_entering target m first more =
      needs_target target m (method_class p m) first (length (arguments_of p m))
      ++ ((nat_le (first + length (arguments_of p m)) 16, WrongKind)
      ∷ (needs_each (arguments_of p m) first
      ++ more))

  -- and once they are passed the register of the result
  abbrev pub needs_call : Target → ℕ → ℕ → ℕ → List Need
  needs_call target m first c = needs_entering target m first (needs_result (gives_of p m) (given_cells over_caller m first) c)

  -- under a trap the code has a register too
  abbrev pub needs_trap : Target → ℕ → ℕ → ℕ → List Need
  needs_trap target m first c =
      needs_entering target m first
      (needs_result (gives_of p m) (given_cells over_trap m first) c ++ ((is_none (held (given_cells over_trap m first) (here fr ts s (suc c))), Orphan) ∷ []))

  -- what the call runs, with the arguments of the method called in its first registers, at that height of the cleanup stack
  abbrev pub entered : Target → ℕ → ℕ → ℕ → Frame
  entered target m first height =
      record (frame_as (run_by target m) (target_receiver target (method_class p m)) (target_view target (method_class p m)) height) { words = passed_words (arguments_of p m) first }

-- the register of a call's result, and the method that is called
abbrev pub result_of : Option Action → ℕ
result_of (Some (Call manner target m first c)) = c
result_of _ = 0

abbrev pub callee_of : Option Action → Option ℕ
callee_of (Some (Call manner target m first c)) = Some m
callee_of _ = None

abbrev pub result_register : Option Instr → ℕ
result_register o = result_of (action_in o)

abbrev pub callee_in : Option Instr → Option ℕ
callee_in o = callee_of (action_in o)

-- what that method gives
abbrev pub given_by : Image → Option ℕ → Gives
given_by p None = Nothing
given_by p (Some m) = gives_of p m

abbrev pub called : Image → Option Instr → Gives
called p o = given_by p (callee_in o)

-- the register whose object goes with the result
abbrev pub result_source : Gives → ℕ → Option ℕ
result_source Nothing a = None
result_source A_word a = None
result_source (An_own t) a = Some a
result_source (A_maybe t) a = Some a
result_source (Left c) a = None

-- a register of that frame, other than the one that is spared
abbrev pub is_register_but : ℕ → Option ℕ → Place → Bool
is_register_but d None (Register f r) = f == d
is_register_but d (Some a) (Register f r) = (f == d) && not (r == a)
is_register_but d spared (Entry k) = false
is_register_but d spared (Field n f) = false
is_register_but d spared (Going k) = false
is_register_but d spared (Elsewhere o) = false

-- no register of that frame owns, but for the one that is spared
abbrev pub none_owns_but : List Cell → ℕ → Option ℕ → Bool
none_owns_but [] d spared = true
none_owns_but (c ∷ cs) d spared = not (is_register_but d spared c.owner) && none_owns_but cs d spared

abbrev pub below_top : List Item → List Item
below_top [] = []
below_top (i ∷ items) = items

-- the last item is the mark of a trap
abbrev pub top_matches_mark : List Item → Bool
top_matches_mark [] = false
top_matches_mark (An_object ∷ items) = false
top_matches_mark (An_operation m w ∷ items) = false
top_matches_mark (A_mark ∷ items) = true

-- ---- the answer of an `error` method

abbrev pub is_asked : Dispatch → Bool
is_asked (Asks x) = true
is_asked _ = false

-- the dispatch that asked has its answer
abbrev pub answered_by : ℤ → Dispatch → Dispatch
answered_by answer (Asks x) = Answered x answer
answered_by answer d = d

abbrev pub reported_answer : Gives → Frame → ℕ → ℤ
reported_answer A_word fr a = word_or_zero (word fr a)
reported_answer _ fr a = pos 0

-- what a destructor works on is a cell, no field of which owns past those of the parent of its class; what waits in its queue is none. Its request is at rest
-- as each destructor of the line ends
abbrev pub needs_destroyed : Image → ℕ → List Cell → Receiver → List Need
needs_destroyed p m cs Static = (false, Orphan) ∷ []
needs_destroyed p m cs AtRoot = (false, Orphan) ∷ []
needs_destroyed p m cs (Inside o from) = needs_past (fields_above p (parent_above p m)) (without_queue o.name cs) o.name ++ (needs_rest cs o.name ∷ [])

-- ---- the method that a dispatch runs under its trap

-- its return makes that of the dispatch: what has served a message ends as an object's does
abbrev pub ended_well : Dispatch → Dispatch
ended_well (Of_server x c Accepts) = Of_server x c Accepted
ended_well (Of_server x c (Serves o)) = Of_object x
ended_well d = d

-- what `accept` gives is the session of the client, which is the last of the server's
abbrev pub accepted_cells : Dispatch → Place → List Cell → List Cell
accepted_cells (Of_server x c Accepts) from cs = reserved (opened c) x.object.name (moved from (Elsewhere (Session x.object.name c)) cs)
accepted_cells d from cs = cs

-- its client has it open, and does not say which cell it is: its place tells that
abbrev pub accepted_clients : Dispatch → List Client → List Client
accepted_clients (Of_server x c Accepts) clients = with_client c (at_opening 0 (client_at clients c)) clients
accepted_clients d clients = clients

-- a session has a free place, and what served a message has taken it
abbrev pub needs_ended : Dispatch → List Cell → List Need
needs_ended (Of_server x c Accepts) cs = (is_none (held cs (Elsewhere (Session x.object.name c))), Orphan) ∷ []
needs_ended (Of_server x c (Serves o)) cs = (is_none (held cs (Elsewhere In_service)), MessageLost) ∷ []
needs_ended d cs = []

module _ (p : Image) (fr : Frame) (ts : List Task) (s : State) where
  abbrev pub result_needs : Gives → ℕ → List Need
  result_needs Nothing a = []
  result_needs A_word a = (is_some (word fr a), WrongKind) ∷ []
  result_needs (An_own t) a = needs_own p fr ts s t a
  result_needs (A_maybe t) a = (is_none (word fr a), WrongKind) ∷ (is_thing p t (held s.cells (here fr ts s a)), WrongKind) ∷ []
  result_needs (Left x) a = []

  -- the cells once the result has moved to that register of the frame below
  abbrev pub result_cells : Gives → ℕ → ℕ → List Task → List Cell
  result_cells Nothing a c below = s.cells
  result_cells A_word a c below = s.cells
  result_cells (An_own t) a c below = moved (here fr ts s a) (Register (length below) c) s.cells
  result_cells (A_maybe t) a c below = moved (here fr ts s a) (Register (length below) c) s.cells
  result_cells (Left x) a c below = s.cells

  abbrev pub received : Gives → ℕ → ℕ → Frame → Frame
  received Nothing a c caller = caller
  received A_word a c caller = set_word caller c (word fr a)
  received (An_own t) a c caller = set_word caller c None
  received (A_maybe t) a c caller = set_word caller c None
  received (Left x) a c caller = caller

  -- something waits for the method's end: where it is a trap, its mark is the last item, and a destructor leaves nothing in its cell
  abbrev pub end_needs : List Task → List Need
  end_needs (Run caller ∷ below) = []
  end_needs (Trapped ∷ Run caller ∷ below) = (top_matches_mark s.items, Unbalanced) ∷ []
  end_needs (Trapped ∷ Dispatched d ∷ below) = (top_matches_mark s.items, Unbalanced) ∷ needs_ended d s.cells
  end_needs (Destroy ∷ below) = needs_destroyed p fr.method s.cells fr.receiver
  end_needs (Unwind code ∷ below) = []
  end_needs (Dispatched d ∷ below) = (is_asked d, Unbalanced) ∷ []
  end_needs _ = (false, Unbalanced) ∷ []

  -- one more item lies there than at first, an object of that class
  abbrev pub leaves_object : ℕ → List Item → Bool
  leaves_object x [] = false
  leaves_object x (An_object ∷ items) = (length items == fr.height) && (is_some (held s.cells (Entry (length items))) && is_thing p (An_object_of x) (held s.cells (Entry (length items))))
  leaves_object x (An_operation m w ∷ items) = false
  leaves_object x (A_mark ∷ items) = false

  -- the cleanup stack has the height that it had, but for what the method leaves there
  abbrev pub is_level : Gives → Bool
  is_level Nothing = length s.items == fr.height
  is_level A_word = length s.items == fr.height
  is_level (An_own t) = length s.items == fr.height
  is_level (A_maybe t) = length s.items == fr.height
  is_level (Left x) = leaves_object x s.items

  -- the cleanup stack is level, and nothing but the result is owned
  abbrev pub needs_return : ℕ → List Need
  needs_return a =
      result_needs (gives_of p fr.method) a
      ++ ((is_level (gives_of p fr.method), Unbalanced)
      ∷ (none_owns_but s.cells (length ts) (result_source (gives_of p fr.method) a), Orphan)
      ∷ needs_cancelled p fr ts s
      ∷ end_needs ts)

  -- to the method that called, through its trap, to a destruction, to an unwinding, or to the dispatch, which hears its answer
  abbrev pub returned : Gives → ℕ → List Task → State
  returned g a (Run caller ∷ below) =
      let c = result_register (instr_at p caller.method caller.place) in
      record s { cells = result_cells g a c below; tasks = Run (next (received g a c caller)) ∷ below }
  returned g a (Trapped ∷ Run caller ∷ below) =
      let c = result_register (instr_at p caller.method caller.place) in
      record s {
        cells = result_cells g a c below;
        tasks = Run (next (set_word (received g a c caller) (suc c) (Some (pos 0)))) ∷ below;
        items = below_top s.items;
      }
  returned g a (Trapped ∷ Dispatched d ∷ below) =
      record s {
        cells = accepted_cells d (here fr ts s a) s.cells;
        tasks = Dispatched (ended_well d) ∷ below;
        items = below_top s.items;
        clients = accepted_clients d s.clients;
      }
  returned g a (Destroy ∷ below) = record s { tasks = line_on p fr.method fr.receiver fr.height below }
  returned g a (Unwind code ∷ below) = record s { tasks = Unwind code ∷ below }
  returned g a (Dispatched d ∷ below) = record s { tasks = Dispatched (answered_by (reported_answer g fr a) d) ∷ below }
  returned g a _ = s
