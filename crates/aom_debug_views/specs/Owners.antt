-- The map of owners: a line for each place that owns, and below it those of the fields of what it owns.
use Rattle.std.specs.Prelude.{◌≡◌, ◌-◌, ℕ, zero, suc, Bool, true, false, cond, nat_lt, List, [], ◌∷◌, ◌++◌, codes, length, Option, Some, None, slice_index_or}
use Rattle.std.specs.List.{flat_map}
use Rattle.aom_image.specs.declared.method.Thing.{Thing}
use Rattle.aom_image.specs.declared.method.Thing.TheVariants.{Object as An_object_of, Message}
use Rattle.aom_cells.specs.Heap.{null}
use Rattle.aom_clients.specs.Clients.{place_at}
use Rattle.aom_clients.specs.declared.place.MessagePlace.{MessagePlace}
use Rattle.aom_clients.specs.declared.place.MessagePlace.TheVariants.{Discarded, Free, Held, Queued}
use Rattle.aom_frames.specs.declared.item.Item.{Item as Machine_item}
use Rattle.aom_frames.specs.declared.item.Item.TheVariants.{Object as Holds_object, Operation as Holds_operation, Mark as Is_mark}
use Rattle.aom_frames.specs.declared.frame.Frame.{Frame as Machine_frame}
use Rattle.aom_frames.specs.declared.task.Task.{Task as Machine_task}
use Rattle.aom_frames.specs.declared.task.Task.TheVariants.{Run as Runs_frame, Destroy as Destroys}
use Rattle.aom_abstract_state.specs.Kinds.{register}
use Rattle.aom_abstract_state.specs.AbstractState.{AbstractState}
use Rattle.aom_abstract_state.specs.declared.kind.Kind.{Kind}
use Rattle.aom_abstract_state.specs.declared.kind.Kind.TheVariants.{Maybe, Own}
use Rattle.aom_transcript.specs.Text.{ended}
use Rattle.aom_semantics.specs.Owned.{over}
use Rattle.aom_semantics.specs.Places.{Cell, Elsewhere, Entry, Field, Going, In_service, Object, Place, Register, Root, Sender, Service, Session, Token, held, service_of}
use Rattle.aom_semantics.specs.State.{A_mark, An_object, An_operation, Destroy, Item, Run, State, Task}
use Rattle.aom_machine_state.specs.declared.parts.Parts.{Parts}
use Rattle.aom_cells.specs.Tokens.{class_at}
use Rattle.aom_debug_symbols.specs.NameLists.{NameLists, class_by}
use Rattle.aom_debug_symbols.specs.Answers.{observer_by}
use Rattle.aom_debug_protocol.specs.declared.answer.Source.{Source}
use Rattle.aom_debug_protocol.specs.declared.answer.Source.TheVariants as sources
pub use Rattle.aom_debug_protocol.specs.Ways.{Way, branch_text, further, outer_text, way_text}
pub use Rattle.aom_debug_protocol.specs.declared.way.Branch.{Branch}
pub use Rattle.aom_debug_protocol.specs.declared.way.Branch.TheVariants.{Field as By_field, Session as By_session}
pub use Rattle.aom_debug_protocol.specs.declared.way.Outer.{Outer}
pub use Rattle.aom_debug_protocol.specs.declared.way.Outer.TheVariants.{Entry as In_entry, Going as In_going, Register as In_register, Root as At_root, Service as At_service}
use Rattle.aom_machine_state.specs.Agrees.{number}
use Rattle.aom_machine_state.specs.Stands.{MachineModel, Refines}
use Rattle.aom_debug_views.specs.CellViews.{counted}
use Rattle.aom_debug_views.specs.Reporting.{gathered}

-- ---- who hears

-- who hears when a message is completed: the client that sent it, or else the object that handed it out, by its class
abbrev pub source_by : Option Sender → Option Token → Option Source
source_by (Some m) t = Some (sources.Client m.client)
source_by None (Some t) = Some (sources.Token t.class)
source_by None None = None

abbrev pub source_in : Service → Option Source
source_in v = source_by v.sender v.token

-- what is owned, by the way to it; of a message also who hears when it is completed
pub record Owned : Type 0 where
  pub way : Way
  pub object : Object
  pub source : Option Source

-- ---- how they are spelled

-- an object by its class, and a message by who hears when it is completed
abbrev pub thing_text : NameLists → Thing → Option Source → List ℕ
thing_text ns (An_object_of class) source = class_by ns class
thing_text ns Message (Some source) = observer_by ns source
thing_text ns Message None = codes "msg"

abbrev pub owned_line : NameLists → Owned → List ℕ
owned_line ns x = ended (way_text x.way ++ codes " " ++ thing_text ns x.object.thing x.source)

abbrev pub owners_text : NameLists → List Owned → List ℕ
owners_text ns xs = flat_map (owned_line ns) xs

-- ---- what hangs from a place

-- a message owns nothing
abbrev pub beneath : Thing → List Owned → List Owned
beneath (An_object_of class) xs = xs
beneath Message xs = []

-- nothing where it holds nothing, and else what it holds, and then what that owns, field by field, and session by session in the order in which they were connected
abbrev pub hanging : List Cell → (fields sessions : Object → ℕ → List Owned) → Way → Option Object → List Owned
hanging cs fields sessions w None = []
hanging cs fields sessions w (Some o) = record { way = w; object = o; source = source_in (service_of cs o.name) } ∷ beneath o.thing (gathered (fields o) 8 ++ flat_map (sessions o) (service_of cs o.name).sessions)

-- so many generations of it
abbrev pub tree : List Cell → ℕ → Way → Option Object → List Owned
tree cs zero w there = []
tree cs (suc n) w there = hanging cs (λ o f. tree cs n (further w (By_field f)) (held cs (Field o.name f))) (λ o c. tree cs n (further w (By_session c)) (held cs (Elsewhere (Session o.name c)))) w there

-- an object is of a higher class than an object that it owns, and a message owns nothing, so that there are less than 257 generations below one
unfoldable pub generations : ℕ
generations = 257

abbrev pub grown : List Cell → Outer → Place → List Owned
grown cs outer r = tree cs generations (record { outer = outer; branches = [] }) (held cs r)

-- ---- the places in their order

abbrev pub is_frame : Option Task → Bool
is_frame (Some (Run fr)) = true
is_frame _ = false

-- the first so many registers at a depth, by how many frames there are below
abbrev pub frame_registers : List Cell → (depth frames count : ℕ) → List Owned
frame_registers cs depth frames count = gathered (λ i. grown cs (In_register frames i) (Register depth i)) count

-- of the first so many tasks, the outermost first
abbrev pub registers_map : State → ℕ → List Owned
registers_map s n = gathered (λ depth. frame_registers s.cells depth (counted (λ k. is_frame (over s.tasks k)) depth) 16) n

-- marks aside
abbrev pub is_entry : Option Item → Bool
is_entry (Some An_object) = true
is_entry (Some (An_operation m w)) = true
is_entry (Some A_mark) = false
is_entry None = false

-- of the first so many items of the cleanup stack, the lowest first
abbrev pub entries_map : State → ℕ → List Owned
entries_map s n = gathered (λ height. grown s.cells (In_entry (counted (λ k. is_entry (over s.items k)) height)) (Entry height)) n

abbrev pub is_going : Option Task → Bool
is_going (Some Destroy) = true
is_going _ = false

-- of the first so many tasks, the outermost first
abbrev pub goings_map : State → ℕ → List Owned
goings_map s n = gathered (λ depth. grown s.cells (In_going (counted (λ k. is_going (over s.tasks k)) depth)) (Going depth)) n

-- all of them: the root, the registers, the cleanup stack, the message that is served and what goes. What waits in a queue has no line
abbrev pub owners : State → List Owned
owners s =
    grown s.cells At_root (Elsewhere Root)
    ++ (registers_map s (length s.tasks) ++ (entries_map s (length s.items) ++ (grown s.cells At_service (Elsewhere In_service) ++ goings_map s (length s.tasks))))

-- ---- what a machine shows of them

-- the line of a message at the end of a way, if there is one
abbrev pub message_text : NameLists → List ℕ → Option Source → List ℕ
message_text ns way None = []
message_text ns way (Some source) = ended (way ++ codes " " ++ observer_by ns source)

-- the client that sent what a message place has
abbrev pub sender_of : MessagePlace → Option Source
sender_of Free = None
sender_of (Queued client) = Some (sources.Client client)
sender_of (Held client) = Some (sources.Client client)
sender_of (Discarded client) = Some (sources.Client client)

-- a place that has a token has no client's message
abbrev pub source_of : Option ℕ → MessagePlace → Option Source
source_of (Some class) place = Some (sources.Token class)
source_of None place = sender_of place

-- and the message of that number, if there is one; the numbers of messages are those past the numbers of cells
abbrev pub source_at : Parts → ℕ → Option Source
source_at m n = cond (nat_lt n 4096) None (cond (nat_lt n 5120) (source_of (class_at m.tokens (n - 4096)) (place_at m.clients (n - 4096))) None)

-- the number of what a place owns, and null where it owns nothing
pub record Shows (m : MachineModel) (n : ℕ) (r : Place) : Type 0 where
  pub each : (s : State) → Refines m s → n ≡ number (held s.cells r)

-- a place owns nothing
pub record ShowsNone (m : MachineModel) (r : Place) : Type 0 where
  pub each : (s : State) → Refines m s → held s.cells r ≡ None

-- a register has a number, or else it owns nothing
abbrev pub ShowsIf : Bool → MachineModel → ℕ → Place → Type 0
ShowsIf true m n r = Shows m n r
ShowsIf false m n r = ShowsNone m r

-- whether something of that kind may own an object
abbrev pub may_own : Kind → Bool
may_own (Own t a) = true
may_own (Maybe t a) = true
may_own _ = false

-- so are the registers of a frame at that depth, by its abstract state
pub record ShowsAll (m : MachineModel) (sh : AbstractState) (registers : List ℕ) (depth : ℕ) : Type 0 where
  pub each : (i : ℕ) → ShowsIf (may_own (register sh i)) m (slice_index_or registers i null) (Register depth i)

-- the frame that a task of the machine is
abbrev pub frame_in : Machine_task → Option Machine_frame
frame_in (Runs_frame f) = Some f
frame_in _ = None

abbrev pub frame_over : Option Machine_task → Option Machine_frame
frame_over None = None
frame_over (Some t) = frame_in t

-- one for a destruction, and for a cleanup entry
abbrev pub goings_in : Machine_task → ℕ
goings_in (Destroys x) = 1
goings_in _ = 0

abbrev pub entries_of : Machine_item → ℕ
entries_of (Holds_object n) = 1
entries_of (Holds_operation m n) = 1
entries_of Is_mark = 0
