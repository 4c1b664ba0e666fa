-- Places, the cells with their owners, and what a place holds.
use Rattle.std.specs.Prelude.{ℕ, suc, ℤ, pos, Bool, false, cond, ◌&&◌, ◌==◌, ◌≡◌, List, [], ◌∷◌, Option, Some, None}
use Rattle.aom_image.specs.declared.method.Thing.{Thing}
use Rattle.aom_roles.specs.Things.{is_object}
use Rattle.aom_roles.specs.Tables.{at, set_extending}

-- places that are no method's, and no cell's fields
pub data Other : Type 0 where
  -- the root of the image
  Root : Other
  -- the session of a client at the server of that name
  Session : (server client : ℕ) → Other
  -- the message that is served
  In_service : Other
  -- a message, by its name, in the queue of the server of that name
  Queued : (server message : ℕ) → Other

-- where a cell can be owned
pub data Place : Type 0 where
  Register : (frame register : ℕ) → Place
  Entry : (index : ℕ) → Place
  Field : (cell field : ℕ) → Place
  Going : (index : ℕ) → Place
  Elsewhere : Other → Place

-- a place as four numbers, so that places are compared as numbers are: its kind, which of the other places it is, and two more
abbrev pub other_kind : Other → ℕ
other_kind Root = 0
other_kind (Session s c) = 1
other_kind In_service = 2
other_kind (Queued s m) = 3

abbrev pub other_outer : Other → ℕ
other_outer Root = 0
other_outer (Session s c) = s
other_outer In_service = 0
other_outer (Queued s m) = s

abbrev pub other_inner : Other → ℕ
other_inner Root = 0
other_inner (Session s c) = c
other_inner In_service = 0
other_inner (Queued s m) = m

abbrev pub place_kind : Place → ℕ
place_kind (Register f r) = 0
place_kind (Entry k) = 1
place_kind (Field n f) = 2
place_kind (Going k) = 3
place_kind (Elsewhere o) = 4

abbrev pub place_part : Place → ℕ
place_part (Register f r) = 0
place_part (Entry k) = 0
place_part (Field n f) = 0
place_part (Going k) = 0
place_part (Elsewhere o) = other_kind o

abbrev pub place_outer : Place → ℕ
place_outer (Register f r) = f
place_outer (Entry k) = k
place_outer (Field n f) = n
place_outer (Going k) = k
place_outer (Elsewhere o) = other_outer o

abbrev pub place_inner : Place → ℕ
place_inner (Register f r) = r
place_inner (Entry k) = 0
place_inner (Field n f) = f
place_inner (Going k) = 0
place_inner (Elsewhere o) = other_inner o

abbrev pub same_place : Place → Place → Bool
same_place p q = (place_kind p == place_kind q) && ((place_part p == place_part q) && ((place_outer p == place_outer q) && (place_inner p == place_inner q)))

-- the cell whose place it is
abbrev pub other_cell : Other → Option ℕ
other_cell Root = None
other_cell (Session s c) = Some s
other_cell In_service = None
other_cell (Queued s m) = Some s

-- a name, and what it is the name of
pub record Object : Type 0 where
  pub name : ℕ
  pub thing : Thing

-- how far the request of an enlisted object has come
pub data Phase : Type 0 where
  -- none is made
  Idle : Phase
  -- one is made, and the object does not wait for it yet
  Issued : Phase
  Active : Phase
  -- it is being cancelled, and may still be completed
  Cancelling : Phase
  -- it is being cancelled, and is completed
  Aborted : Phase

-- a timer that runs: when it is due, and how many were begun before it
pub record Timer : Type 0 where
  pub due : ℕ
  pub order : ℕ

-- of an enlisted object: how many were enlisted before it, its priority, and its request
pub record Request : Type 0 where
  pub order : ℕ
  pub priority : ℤ
  pub phase : Phase
  pub status : ℤ
  -- none where it waits for no time
  pub timer : Option Timer
  -- the order of the token that completes it, and none where it waits for none
  pub token : Option ℕ

-- what a client asked of a server: for a session, to serve the message of that name, or to close its session
pub data Asked : Type 0 where
  Connect_of : (client : ℕ) → Asked
  Message_of : (client message : ℕ) → Asked
  Close_of : (client : ℕ) → Asked

-- of a message: the client that sent it, whether it holds a slot of the client's session, and whether its completion is told
pub record Sender : Type 0 where
  pub client : ℕ
  pub holds_slot : Bool
  pub is_reported : Bool

-- of a message that an object has handed out: the class of the object, and how many were handed before it
pub record Token : Type 0 where
  pub class : ℕ
  pub order : ℕ

-- what clients have at a cell: of a server its queue, first in, first out, and the clients that have a session with it, in order of connection; of a message its sender, or of which object it is a token
pub record Service : Type 0 where
  pub queue : List Asked
  pub sessions : List ℕ
  pub sender : Option Sender
  pub token : Option Token

-- nothing
abbrev pub unserved : Service
unserved = record { queue = []; sessions = []; sender = None; token = None }

pub record Cell : Type 0 where
  pub object : Object
  pub words : List ℤ
  -- none where the object is not enlisted
  pub request : Option Request
  -- a session is open at the native of its class
  pub session : Bool
  pub service : Service
  pub owner : Place

-- what a place holds: the cell that it owns
abbrev pub held : List Cell → Place → Option Object
held [] p = None
held (c ∷ cs) p = cond (same_place c.owner p) (Some c.object) (held cs p)

-- the cell of that name
abbrev pub named : List Cell → ℕ → Option Object
named [] n = None
named (c ∷ cs) n = cond (c.object.name == n) (Some c.object) (named cs n)

-- the request of the cell of that name
abbrev pub requested : List Cell → ℕ → Option Request
requested [] n = None
requested (c ∷ cs) n = cond (c.object.name == n) c.request (requested cs n)

-- what the cells show: what each place holds, and the request of each name
pub record CellView : Type 0 where
  pub holds : Place → Option Object
  pub requests : ℕ → Option Request

abbrev pub seen : List Cell → CellView
seen cs = record { holds = held cs; requests = requested cs }

-- how many cells there are: a message counts for none
abbrev pub count_cells : List Cell → ℕ
count_cells [] = 0
count_cells (c ∷ cs) = cond (is_object c.object.thing) (suc (count_cells cs)) (count_cells cs)

-- whatever p owns is owned by q from then on
abbrev pub moved : Place → Place → List Cell → List Cell
moved p q [] = []
moved p q (c ∷ cs) = record c { owner = cond (same_place c.owner p) q c.owner } ∷ moved p q cs

-- whatever p owns goes
abbrev pub without : Place → List Cell → List Cell
without p [] = []
without p (c ∷ cs) = cond (same_place c.owner p) (without p cs) (c ∷ without p cs)

-- one more cell, with these words, which is not enlisted and has no session, and of which clients have nothing
abbrev pub with_new : ℕ → Thing → List ℤ → Place → List Cell → List Cell
with_new name thing words owner cs = record { object = record { name = name; thing = thing }; words = words; request = None; session = false; service = unserved; owner = owner } ∷ cs

-- a word of the cell of that name
abbrev pub word_field : List Cell → ℕ → ℕ → ℤ
word_field [] n w = pos 0
word_field (c ∷ cs) n w = cond (c.object.name == n) (at (pos 0) c.words w) (word_field cs n w)

-- the cell of that name has another word there
abbrev pub set_word_field : ℕ → ℕ → ℤ → List Cell → List Cell
set_word_field n w v [] = []
set_word_field n w v (c ∷ cs) = record c { words = cond (c.object.name == n) (set_extending (pos 0) c.words w v) c.words } ∷ set_word_field n w v cs

-- names and places stand once
abbrev pub NoDuplicates : List Cell → Type 0
NoDuplicates [] = Unit {0}
NoDuplicates (c ∷ cs) = (held cs c.owner ≡ None) × (named cs c.object.name ≡ None) × NoDuplicates cs

-- the cell of that name has another request
abbrev pub set_request : ℕ → Option Request → List Cell → List Cell
set_request n r [] = []
set_request n r (c ∷ cs) = record c { request = cond (c.object.name == n) r c.request } ∷ set_request n r cs

-- whether the cell of that name has a session
abbrev pub in_session : List Cell → ℕ → Bool
in_session [] n = false
in_session (c ∷ cs) n = cond (c.object.name == n) c.session (in_session cs n)

-- the session of the cell of that name is open or not
abbrev pub set_session : ℕ → Bool → List Cell → List Cell
set_session n session [] = []
set_session n session (c ∷ cs) = record c { session = cond (c.object.name == n) session c.session } ∷ set_session n session cs

-- what clients have at the cell of that name
abbrev pub service_of : List Cell → ℕ → Service
service_of [] n = unserved
service_of (c ∷ cs) n = cond (c.object.name == n) c.service (service_of cs n)

-- they have that at it from then on
abbrev pub set_service : ℕ → Service → List Cell → List Cell
set_service n v [] = []
set_service n v (c ∷ cs) = record c { service = cond (c.object.name == n) v c.service } ∷ set_service n v cs

-- a function of places with one value changed
abbrev pub changed : {A : Type 0} → (Place → A) → Place → A → Place → A
changed f p v r = cond (same_place p r) v (f r)
