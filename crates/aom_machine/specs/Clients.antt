-- What the commands of clients do to the parts of the machine.
use Rattle.std.specs.Prelude.{◌≡◌, ◌<◌, ◌≤◌, ◌+◌, nat_lt, ℕ, ℤ, true, false, IfSome, is_some, List, [], ◌∷◌, Option, Some, None, Result, length, option_map}
use Rattle.aom_image.specs.Image.{Image}
use Rattle.aom_roles.specs.Shapes.{kind_of}
use Rattle.aom_clients.specs.Clients as clients
use Rattle.aom_clients.specs.Clients.{ClientsState, answer, client_at}
use Rattle.aom_clients.specs.Nodes.{named_by}
use Rattle.aom_clients.specs.Table.{row}
use Rattle.aom_clients.specs.declared.client.Client.{Client}
use Rattle.aom_clients.specs.declared.place.MessagePlace.TheVariants.{Free}
use Rattle.aom_clients.specs.declared.server.Server.{Server}
use Rattle.aom_clients.specs.declared.refusal.CommandRefusal.{CommandRefusal}
use Rattle.aom_cells.specs.Store.{Changes, IsStored, Store, count, message_at}
use Rattle.aom_clients.specs.Lists.{Table, first_of, list_at}
use Rattle.aom_semantics.specs.Clients.{most_of}
use Rattle.aom_semantics.specs.Places.{named}
use Rattle.aom_semantics.specs.Servers.{is_among}
use Rattle.aom_semantics.specs.State.{State as Checked}
use Rattle.aom_semantics.specs.World.{Executes}
use Rattle.aom_transcript.specs.declared.event.ClientCommand.{ClientCommand}
use Rattle.aom_transcript.specs.declared.event.ClientCommand.TheVariants.{Connect, Send, Close, Die}
use Rattle.aom_machine_state.specs.LineBuffer.{LineBuffer}
use Rattle.aom_machine_state.specs.Stands.{MachineModel}
use Rattle.aom_machine.specs.Turns.{Takes}

-- the client does what it is told, with some name that is free for what it sends
abbrev pub Executed : MachineModel → Checked → (client : ℕ) → ClientCommand → LineBuffer → LineBuffer → MachineModel → Type 0
Executed old s client command reported now new = (name : ℕ) × (named s.cells name ≡ None) × Takes old s (Executes client command name) reported now new

-- a command as a script has it: a client asks for 64 slots at most
abbrev pub IsInRange : ClientCommand → Type 0
IsInRange (Connect class slots) = slots ≤ 64
IsInRange _ = Unit {0}

-- ---- whom a command asks

-- the server of that class that was enlisted first, and the most sessions that it takes
abbrev pub first_server : Image → Table → (class : ℕ) → Option Server
first_server p t class = option_map (λ n. record { cell = n; most = most_of (kind_of p (Some class)) }) (first_of (list_at t class))

abbrev pub asked_by : Image → Table → ClientCommand → Option Server
asked_by p t (Connect class slots) = first_server p t class
asked_by p t _ = None

-- whose queue may be another then: that of the server that is asked, or at which the client is
abbrev pub queue_changed : Option Server → Client → Option ℕ
queue_changed (Some server) client = Some server.cell
queue_changed None client = named_by client

-- ---- messages

-- each of these is kept, and stands there once
abbrev pub AreKept : Store → List ℕ → Type 0
AreKept s [] = Unit {0}
AreKept s (m ∷ ms) = IsStored s m × (is_among m ms ≡ false) × AreKept s ms

-- they are kept no more, and all others are
pub record Forgets (places : List ℕ) (old new : Store) : Type 0 where
  pub gone : (m : ℕ) → is_among m places ≡ true → message_at new m ≡ None
  pub others : (m : ℕ) → is_among m places ≡ false → message_at new m ≡ message_at old m
  pub count : count new + length places ≡ count old
  pub limit : new.limit ≡ old.limit

-- the same are kept
pub record SameKept (old new : Store) : Type 0 where
  pub all : (m : ℕ) → message_at new m ≡ message_at old m
  pub count : count new ≡ count old
  pub limit : new.limit ≡ old.limit

-- where the send is not refused the message is kept at that place
abbrev pub Keeps_sent : Option CommandRefusal → Option ℕ → List ℤ → Store → Store → Type 0
Keeps_sent None (Some place) words old new = Changes old new place (Some words) × (count new ≡ count old + 1)
Keeps_sent refusal place words old new = SameKept old new

-- a message is sent that has a place which was free, if there is one, and is kept there unless that is refused
pub record Sends (client : ℕ) (words : List ℤ) (old new : ClientsState) (before after : Store) (result : Result (Unit {0}) CommandRefusal) : Type 0 where
  pub place : Option ℕ
  pub free : IfSome place (λ m. (m < 1024) × (message_at before m ≡ None))
  pub found : is_some place ≡ nat_lt (count before) before.limit
  pub reported : result ≡ answer (clients.send_refusal client place old)
  pub after_it : new ≡ clients.after_send client place old
  pub kept : Keeps_sent (clients.send_refusal client place old) place words before after

-- ---- a command

-- what it needs: its slots are few, a place with no message is free, and what a client leaves is kept
abbrev pub CanAct : (client : ℕ) → ClientCommand → ClientsState → Store → Type 0
CanAct c (Connect class slots) s store = slots ≤ 64
CanAct c (Send words) s store = (m : ℕ) → message_at store m ≡ None → clients.place_at s m ≡ Free
CanAct c Close s store = AreKept store (clients.freed (row (client_at s c)).close c s)
CanAct c Die s store = AreKept store (clients.freed (row (client_at s c)).die c s)

-- what it does to what clients are at, and to the messages
abbrev pub Acts : (client : ℕ) → ClientCommand → Option Server → (old new : ClientsState) → (before after : Store) → Result (Unit {0}) CommandRefusal → Type 0
Acts c (Connect class slots) server old new before after result = (result ≡ answer (clients.connect_refusal c server old)) × (new ≡ clients.after_connect c server slots old) × (after ≡ before)
Acts c (Send words) server old new before after result = Sends c words old new before after result
Acts c Close server old new before after result = (result ≡ answer None) × (new ≡ clients.after_close c old) × Forgets (clients.freed (row (client_at old c)).close c old) before after
Acts c Die server old new before after result = (result ≡ answer None) × (new ≡ clients.after_die c old) × Forgets (clients.freed (row (client_at old c)).die c old) before after
