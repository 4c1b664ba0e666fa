-- The number in each place of the machine.
use Rattle.std.specs.Prelude.{ℕ, ℤ, pos, Bool, false, cond, ◌==◌, List, [], ◌∷◌, length, Option, Some, None, ◌≡◌, suc, ◌<◌}
use Rattle.std.specs.List.{list_any}
use Rattle.aom_cells.specs.Heap.{Heap, null, field_at}
use Rattle.aom_semantics.specs.Places.{Place, Register, Entry, Field, Going, Elsewhere, Other, Root, Session, In_service, Queued}
use Rattle.aom_frames.specs.Tasks.{register_of, on_top, with_register, with_counter, with_place, place_here}
use Rattle.aom_frames.specs.declared.task.Task.{Task}
use Rattle.aom_frames.specs.declared.task.Task.TheVariants.{Run, Trapped, Destroy, Closing, Unwind, Dispatched}
use Rattle.aom_frames.specs.Items.{entry_in, item_at, owned_by}
use Rattle.aom_frames.specs.declared.item.Item.{Item}
use Rattle.aom_clients.specs.Clients.{client_at, queue_at}
use Rattle.aom_clients.specs.Clients as kept
use Rattle.aom_clients.specs.Table.{no_cell}
use Rattle.aom_clients.specs.declared.client.Client.{Client}
use Rattle.aom_clients.specs.declared.client.Client.TheVariants as client
use Rattle.aom_clients.specs.declared.entry.QueueEntry.{QueueEntry}
use Rattle.aom_clients.specs.declared.entry.QueueEntry.TheVariants as entry
use Rattle.aom_machine_state.specs.Serving.{message_name}
use Rattle.aom_machine_state.specs.declared.parts.Parts.{Parts}
use Rattle.std.specs.Int.{w32, cast_signed}

-- tasks are counted from the bottom
abbrev pub register_in : List Task → ℕ → ℕ → ℕ
register_in [] d i = null
register_in (t ∷ ts) d i = cond (length ts == d) (register_of t i) (register_in ts d i)

-- the cell that goes
abbrev pub going_of : Task → ℕ
going_of (Run f) = null
going_of Trapped = null
going_of (Destroy x) = x
going_of Closing = null
going_of (Unwind code) = null
going_of (Dispatched d) = null

abbrev pub going_in : List Task → ℕ → ℕ
going_in [] d = null
going_in (t ∷ ts) d = cond (length ts == d) (going_of t) (going_in ts d)

-- what no task, no entry and no cell has: the root, the message that is served, and what clients are at
pub record Others : Type 0 where
  pub root : ℕ
  pub served : ℕ
  pub clients : kept.ClientsState

-- the number of a session's cell, and null where it is at hand to go
abbrev pub session_number : ℕ → ℕ
session_number n = cond (n == no_cell) null n

-- the session of a client, if it is one with the server of that number
abbrev pub session_with : ℕ → Client → ℕ
session_with n (client.Open server session slots) = cond (server == n) (session_number session) null
session_with n (client.Closing server session) = cond (server == n) (session_number session) null
session_with n (client.Dying server session) = cond (server == n) (session_number session) null
session_with n other = null

-- the entry is the message of that number
abbrev pub is_numbered : ℕ → QueueEntry → Bool
is_numbered m (entry.Connect c) = false
is_numbered m (entry.Message place) = message_name place == m
is_numbered m (entry.Close c) = false

-- a message is its number where it waits
abbrev pub other_in : Others → Other → ℕ
other_in o Root = o.root
other_in o (Session n c) = session_with n (client_at o.clients c)
other_in o In_service = o.served
other_in o (Queued n m) = cond (list_any (is_numbered m) (queue_at o.clients n)) m null

-- the number in a place
abbrev pub value_in : List Task → Heap → List Item → Others → Place → ℕ
value_in tasks heap entries others (Register d i) = register_in tasks d i
value_in tasks heap entries others (Entry k) = entry_in entries k
value_in tasks heap entries others (Field n f) = field_at heap n f
value_in tasks heap entries others (Going k) = going_in tasks k
value_in tasks heap entries others (Elsewhere o) = other_in others o

abbrev pub others : Parts → Others
others m = record { root = m.root; served = m.served; clients = m.clients }

abbrev pub value : Parts → Place → ℕ
value m = value_in m.stack.tasks m.cells m.entries.items (others m)

-- the machine with other tasks
abbrev pub with_tasks : List Task → Parts → Parts
with_tasks ts m = record m { stack = record m.stack { tasks = ts } }

-- the innermost task is a destruction, of that cell
abbrev pub IsDestroying : List Task → Type 0
IsDestroying (Destroy x ∷ ts) = Unit {0}
IsDestroying other = ⊥

-- the innermost task is a trap
abbrev pub IsTrapped : List Task → Type 0
IsTrapped (Trapped ∷ ts) = Unit {0}
IsTrapped other = ⊥

-- the innermost task is right over the going of a server, whose sessions go first
abbrev pub IsClosing : List Task → Type 0
IsClosing (Closing ∷ ts) = Unit {0}
IsClosing other = ⊥

abbrev pub going_here : List Task → ℕ
going_here [] = null
going_here (t ∷ ts) = going_of t

-- the innermost task is the end of a dispatch
abbrev pub IsEnding : List Task → Type 0
IsEnding (Dispatched d ∷ ts) = Unit {0}
IsEnding other = ⊥

-- the innermost task is a leave that unwinds, and its code
abbrev pub IsUnwinding : List Task → Type 0
IsUnwinding (Unwind code ∷ ts) = Unit {0}
IsUnwinding other = ⊥

abbrev pub code_here : List Task → ℤ
code_here (Unwind code ∷ ts) = code
code_here other = pos 0

-- the machine with other items on its cleanup stack
abbrev pub with_items : List Item → Parts → Parts
with_items items m = record m { entries = record m.entries { items = items } }

-- what an entry owns, counted from the last
abbrev pub number_in : Option Item → ℕ
number_in None = null
number_in (Some i) = owned_by i

abbrev pub entry_here : ℕ → Parts → ℕ
entry_here k m = number_in (item_at m.entries.items k)

-- the machine with another number in a register of the method that runs
abbrev pub set_register : ℕ → ℕ → Parts → Parts
set_register r n m = with_tasks (on_top (with_register r n) m.stack.tasks) m

-- the machine with that many rounds of a loop left in the method that runs
abbrev pub set_counter : ℕ → ℕ → Parts → Parts
set_counter d n m = with_tasks (on_top (with_counter d n) m.stack.tasks) m

-- the machine whose method goes on at that place, and at its next one
abbrev pub to_place : ℕ → Parts → Parts
to_place n m = with_tasks (on_top (with_place n) m.stack.tasks) m

abbrev pub next : Parts → Parts
next m = to_place (suc (place_here m.stack.tasks)) m

-- a word is written in a register of the method that runs, and the method goes on
pub record WritesWord (a : ℕ) (w : ℤ) (old new : Parts) : Type 0 where
  pub number : ℕ
  pub word : cast_signed w32 number ≡ w
  pub small : a < 16
  pub written : new ≡ next (set_register a number old)
