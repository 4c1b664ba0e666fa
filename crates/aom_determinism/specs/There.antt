-- That what clients and the dispatch at hand say of cells is of cells that are there.
use Rattle.std.specs.Prelude.{ℕ, Bool, true, false, ◌&&◌, ◌||◌, ◌==◌, ◌≡◌, List, [], ◌∷◌, Option, Some, None}
use Rattle.std.specs.List.{list_any}
use Rattle.aom_clients.specs.declared.client.Client.{Client}
use Rattle.aom_clients.specs.Nodes.{is_connecting_at}
use Rattle.aom_semantics.specs.Clients.{client_at}
use Rattle.aom_safety.specs.Kept.{is_connect_of}
use Rattle.aom_semantics.specs.Places.{Cell, Elsewhere, Session, held, service_of}
use Rattle.aom_semantics.specs.State.{Accept_left, Accepts, Dispatch, Dispatched, Of_server, Serves, State, Task}

-- the client's connect waits in the queue of that server
abbrev pub waits : List Cell → (server client : ℕ) → Bool
waits cs n c = list_any (is_connect_of c) (service_of cs n).queue

-- the dispatch that stands below all else
abbrev pub dispatch_of : List Task → Option Dispatch
dispatch_of [] = None
dispatch_of (Dispatched d ∷ ts) = Some d
dispatch_of (_ ∷ ts) = dispatch_of ts

-- the server accepts the client, or its `accept` was left
abbrev pub accepts : (server client : ℕ) → Option Dispatch → Bool
accepts n c (Some (Of_server x client Accepts)) = (x.object.name == n) && (client == c)
accepts n c (Some (Of_server x client (Accept_left code))) = (x.object.name == n) && (client == c)
accepts n c _ = false

-- the session that serves is at its place
abbrev pub IsAtPlace : List Cell → Option Dispatch → Type 0
IsAtPlace cs (Some (Of_server x client (Serves o))) = held cs (Elsewhere (Session x.object.name client)) ≡ Some o
IsAtPlace cs _ = Unit {0}

pub record AreThere (clients : List Client) (cs : List Cell) (d : Option Dispatch) : Type 0 where
  -- a client that connects waits in the queue of the server that it asked, or is accepted there
  pub asked : (n c : ℕ) → is_connecting_at n (client_at clients c) ≡ true → (waits cs n c || accepts n c d) ≡ true
  pub serves : IsAtPlace cs d

-- so it is in a state
abbrev pub AllThere : State → Type 0
AllThere s = AreThere s.clients s.cells (dispatch_of s.tasks)
