-- What is owned at a path of the map of owners, and what a debugger tells of it.
use Rattle.std.specs.Prelude.{◌≡◌, ◌==◌, ◌&&◌, ℕ, zero, suc, Bool, cond, List, [], ◌∷◌, map, Option, Some, None, option_map}
use Rattle.std.specs.List.{fold}
use Rattle.aom_image.specs.Image.{Image}
use Rattle.aom_image.specs.declared.method.Thing.{Thing}
use Rattle.aom_image.specs.declared.method.Thing.TheVariants.{Object as An_object_of, Message as A_message}
use Rattle.aom_link_conditions.specs.Roles.{or_else}
use Rattle.aom_roles.specs.Things.{words_of}
use Rattle.aom_clients.specs.declared.entry.QueueEntry.{QueueEntry}
use Rattle.aom_clients.specs.declared.entry.QueueEntry.TheVariants as entries
use Rattle.aom_clients.specs.declared.entry.TakenEntry.{TakenEntry}
use Rattle.aom_semantics.specs.Places.{Asked, Cell, Close_of, Connect_of, Elsewhere, Entry, Field, Going, In_service, Message_of, Object, Place, Register, Root, Session, held, service_of, word_field}
use Rattle.aom_semantics.specs.State.{State}
use Rattle.aom_cells.specs.Heap.{Lives}
use Rattle.aom_machine_state.specs.declared.parts.Parts.{Parts}
use Rattle.aom_debug_protocol.specs.declared.answer.Answer.{Answer}
use Rattle.aom_debug_protocol.specs.declared.answer.Answer.TheVariants.{Close, Connect, Message, Word}
use Rattle.aom_debug_protocol.specs.declared.way.Branch.{Branch}
use Rattle.aom_debug_protocol.specs.declared.way.Branch.TheVariants.{Field as By_field, Session as By_session}
use Rattle.aom_debug_protocol.specs.declared.way.Outer.{Outer}
use Rattle.aom_debug_protocol.specs.declared.way.Outer.TheVariants.{Entry as In_entry, Going as In_going, Register as In_register, Root as At_root, Service as At_service}
use Rattle.aom_debug_protocol.specs.Ways.{Way}
use Rattle.aom_debug_views.specs.Owners.{source_in}
use Rattle.aom_debug_views.specs.CellViews.{class_of, counted}
use Rattle.aom_debug_views.specs.Reporting.{gathered}
use Rattle.aom_debug_views.specs.SeriesMaps.{is_such, length_of}
use Rattle.aom_debug_views.specs.declared.series.Series.{Series}
use Rattle.aom_debug_views.specs.declared.series.Series.TheVariants as series
use Rattle.aom_debug_paths.specs.declared.following.Found.{Found}
use Rattle.aom_debug_views.specs.declared.holding.Holding.{Holding}
use Rattle.aom_debug_views.specs.declared.holding.Holding.TheVariants as holds

-- ---- places that are in no object

-- a number of which it holds, over so many others
abbrev pub at_count : (ℕ → Bool) → ℕ → ℕ → Option ℕ
at_count f k n = cond (f n && (counted f n == k)) (Some n) None

-- that one of the first so many
abbrev pub numbered : (ℕ → Bool) → ℕ → ℕ → Option ℕ
numbered f k zero = None
numbered f k (suc n) = or_else (numbered f k n) (at_count f k n)

-- of the one over so many others
abbrev pub place_in : Series → State → ℕ → Option ℕ
place_in a s k = numbered (is_such a s) k (length_of a s)

-- as the map of owners numbers them
abbrev pub outer_place : State → Outer → Option Place
outer_place s At_root = Some (Elsewhere Root)
outer_place s (In_register frame i) = option_map (λ d. Register d i) (place_in series.Frames s frame)
outer_place s (In_entry entry) = option_map (λ h. Entry h) (place_in series.Entries s entry)
outer_place s At_service = Some (Elsewhere In_service)
outer_place s (In_going going) = option_map (λ d. Going d) (place_in series.Goings s going)

abbrev pub held_in : List Cell → Option Place → Option Object
held_in cs None = None
held_in cs (Some r) = held cs r

-- ---- from object to object

abbrev pub branch_place : ℕ → Branch → Place
branch_place n (By_field f) = Field n f
branch_place n (By_session c) = Elsewhere (Session n c)

-- a message owns nothing
abbrev pub owned_by : Thing → Option Object → Option Object
owned_by (An_object_of class) o = o
owned_by A_message o = None

abbrev pub follow_branch : List Cell → Option Object → Branch → Option Object
follow_branch cs None b = None
follow_branch cs (Some o) b = owned_by o.thing (held cs (branch_place o.name b))

-- what is owned at a path
abbrev pub owned_at : State → Way → Option Object
owned_at s w = fold (follow_branch s.cells) (held_in s.cells (outer_place s w.outer)) w.branches

-- that, as a value
abbrev pub IsHeld : State → Option Object → Holding → Type 0
IsHeld s x holds.Nothing = x ≡ None
IsHeld s x (holds.Object cell class) = (o : Object) × (x ≡ Some o) × (o.thing ≡ An_object_of class) × (o.name ≡ cell)
IsHeld s x (holds.Message source) = (o : Object) × (x ≡ Some o) × (o.thing ≡ A_message) × (source_in (service_of s.cells o.name) ≡ Some source)

-- an object that is held lives in the machine
abbrev pub IsAlive : Parts → Holding → Type 0
IsAlive m (holds.Object cell class) = Lives m.cells cell
IsAlive m _ = Unit {0}

-- the object there, if it is one, by its cell and its class
abbrev pub IsFound : Option Object → Option Found → Type 0
IsFound x None = class_of x ≡ None
IsFound x (Some f) = (o : Object) × (x ≡ Some o) × (o.thing ≡ An_object_of f.class) × (o.name ≡ f.cell)

-- ---- words

-- the first so many words of the cell of that name
abbrev pub word_lines : List Cell → ℕ → ℕ → List Answer
word_lines cs n count = gathered (λ i. Word i (word_field cs n i) ∷ []) count

-- as many as the class has
abbrev pub object_words : Image → List Cell → ℕ → Thing → Option (List Answer)
object_words p cs n (An_object_of class) = Some (word_lines cs n (words_of p class))
object_words p cs n A_message = None

abbrev pub words_in : Image → List Cell → Option Object → Option (List Answer)
words_in p cs None = None
words_in p cs (Some o) = object_words p cs o.name o.thing

-- none where no object is owned there
abbrev pub words_answers : Image → State → Way → Option (List Answer)
words_answers p s w = words_in p s.cells (owned_at s w)

-- ---- queues

abbrev pub asked_answer : Asked → Answer
asked_answer (Connect_of c) = Connect c
asked_answer (Message_of c m) = Message c
asked_answer (Close_of c) = Close c

-- the first first
abbrev pub waiting_lines : List Asked → List Answer
waiting_lines queue = map asked_answer queue

abbrev pub object_queue : List Cell → ℕ → Thing → Option (List Answer)
object_queue cs n (An_object_of class) = Some (waiting_lines (service_of cs n).queue)
object_queue cs n A_message = None

abbrev pub queue_in : List Cell → Option Object → Option (List Answer)
queue_in cs None = None
queue_in cs (Some o) = object_queue cs o.name o.thing

-- an object that is no server has nothing that waits; none where no object is owned there
abbrev pub queue_answers : State → Way → Option (List Answer)
queue_answers s w = queue_in s.cells (owned_at s w)

-- an entry of the machine's queue, with the client that it is of
abbrev pub entry_answer : QueueEntry → ℕ → Answer
entry_answer (entries.Connect c) client = Connect client
entry_answer (entries.Message place) client = Message client
entry_answer (entries.Close c) client = Close client

abbrev pub taken_answer : TakenEntry → Answer
taken_answer t = entry_answer t.entry t.client
