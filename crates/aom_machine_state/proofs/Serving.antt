-- What stands for clients, queues and message places goes on standing for them through each command and each part of a service.
use Rattle.std.proofs.lemmas.Bool.Decides.{nat_tests}
use Rattle.std.proofs.Common.{Bool, List, None, Option, Some, [], ap, cond, false, length, refl, slice_index_or}
use Rattle.std.proofs.Common.{slice_set, subst, sym, true, ℕ, ℤ, ◌<◌, ◌++◌, ◌==◌, ◌∙◌, ◌∷◌, ◌≡◌, arith}
use Rattle.std.specs.List.{list_any}
use Rattle.std.specs.Prelude.{filter, is_some, map, not, ◌||◌}
use Rattle.std.proofs.lemmas.Bool.{eq-eqb, eqb-true, false≢true, ne_eqb}
use Rattle.std.proofs.Math.ListN.{get_or-map}
use Rattle.std.proofs.lemmas.List.{get_or-set_other, get_or-set_same, length-set, map-append}
use Rattle.std.proofs.lemmas.List.Folds.{list_any-append}
use Rattle.aom_image.specs.declared.method.Thing.TheVariants.{Message as A_message}
use Rattle.aom_clients.specs.Clients as kept
use Rattle.aom_clients.specs.declared.client.Client.{Client}
use Rattle.aom_clients.specs.declared.client.Client.TheVariants.{Connecting, Open, Unconnected}
use Rattle.aom_clients.specs.declared.entry.QueueEntry.{QueueEntry}
use Rattle.aom_clients.specs.declared.entry.QueueEntry.TheVariants.{Connect, Message, Close}
use Rattle.aom_clients.specs.declared.place.MessagePlace.{MessagePlace}
use Rattle.aom_clients.specs.declared.place.MessagePlace.TheVariants.{Free, Held, Queued}
use Rattle.aom_clients.specs.Table.{held_place, is_out_of, is_queued, sender}
use Rattle.aom_machine_state.proofs.SafetyLemmas.{by_server, named_served, service_moved, service_unnamed}
use Rattle.aom_machine_state.proofs.SemanticsLemmas.{Reads, at-set_extending, front_free, moving, read_kept, read_so, same_place_refl, serving}
use Rattle.aom_semantics.specs.Clients.{at_opening, client_at, with_client}
use Rattle.aom_safety.specs.Kept.{is_close_of, is_connect_of}
use Rattle.aom_semantics.specs.Places.{Cell, Close_of, Connect_of, Elsewhere, In_service, Message_of, Object, Place as Owner, Queued as Waits_at}
use Rattle.aom_semantics.specs.Places.{Service, moved, named, same_place, service_of, set_service, unserved}
use Rattle.aom_semantics.specs.Servers.{asked_last, holds_slot, is_among, is_message, opened, parted, reserved, rest_of, taken_first}
use Rattle.aom_machine_state.specs.Serving.{Once, SameClients, asked_by, holds, is_taken, message_name, owner_of, sent_by, sessionless, waits_in}

-- ---- lists with one place written

pub at_set : {A : Type 0} (none : A) (xs : List A) (i j : ℕ) (x : A) → i < length xs →
    slice_index_or (slice_set xs i x) j none ≡ cond (i == j) x (slice_index_or xs j none)
at_set none xs i j x small = grind (arith, nat_tests, eqb-true i j, get_or-set_same xs i x none small, get_or-set_other xs i j x none, eq-eqb i j)

or_false : (a : Bool) → (a || (false || false)) ≡ a
or_false a = grind arith

or_true : (a : Bool) → (a || (true || false)) ≡ true
or_true a = grind arith

pub front_false : (a b : Bool) → (a || b) ≡ false → (a ≡ false) × (b ≡ false)
front_false x b e = grind arith

-- a client is at something else on both sides
pub client_set : (xs clients : List Client) (c : ℕ) (to to' : Client) →
    c < length xs → sessionless to ≡ to' → ((d : ℕ) → sessionless (slice_index_or xs d Unconnected) ≡ client_at clients d) →
    (d : ℕ) → sessionless (slice_index_or (slice_set xs c to) d Unconnected) ≡ client_at (with_client c to' clients) d
client_set xs clients c to to' small here others d = grind (arith, nat_tests, at_set Unconnected xs c d to small, at-set_extending Unconnected clients c d to')

-- each is there once, and one more
once_last : (ms : List ℕ) (m : ℕ) → Once ms → is_among m ms ≡ false → Once (ms ++ m ∷ [])
once_last [] m once none = (refl, tt)
once_last (k ∷ ms) m once none = grind (arith, nat_tests, front_false (k == m), list_any-append, ne_eqb m k, eq-eqb k m, or_false, once_last ms m once.1)

-- where no connect of the client waits, none leaves the queue, and so of its close
no_connects : (places : List MessagePlace) (c : ℕ) (es : List QueueEntry) → list_any (is_connect_of c) (map (asked_by places) es) ≡ false →
    filter (kept.is_no_connect_of c) es ≡ es
no_connects places c [] none = refl
no_connects places c (Connect d ∷ es) none = grind (arith, nat_tests, front_false (d == c), no_connects places c es)
no_connects places c (Message m ∷ es) none = ap (λ l. Message m ∷ l) (no_connects places c es none)
no_connects places c (Close d ∷ es) none = ap (λ l. Close d ∷ l) (no_connects places c es none)

no_closes : (places : List MessagePlace) (c : ℕ) (es : List QueueEntry) → list_any (is_close_of c) (map (asked_by places) es) ≡ false →
    filter (kept.is_no_close_of c) es ≡ es
no_closes places c [] none = refl
no_closes places c (Connect d ∷ es) none = ap (λ l. Connect d ∷ l) (no_closes places c es none)
no_closes places c (Message m ∷ es) none = ap (λ l. Message m ∷ l) (no_closes places c es none)
no_closes places c (Close d ∷ es) none = grind (arith, nat_tests, front_false (d == c), no_closes places c es)

none_parted : (c : ℕ) (ds : List ℕ) → is_among c ds ≡ false → filter (λ d. not (d == c)) ds ≡ ds
none_parted c [] none = refl
none_parted c (d ∷ ds) none = grind (arith, nat_tests, front_false (d == c), none_parted c ds)

-- ---- the service of one cell changes

pub absent_served : (cs : List Cell) (n : ℕ) (v : Service) → named cs n ≡ None → set_service n v cs ≡ cs
absent_served [] n v e = refl
absent_served (c ∷ cs) n v e = grind (arith, nat_tests, front_free (c.object.name == n) c.object, absent_served cs n v)

abbrev pub owners : Reads owner_of
owners = record { of = λ c. Some c.owner; first = λ c cs n. refl }

owner_served : (cs : List Cell) (n : ℕ) (v : Service) (m : ℕ) → owner_of (set_service n v cs) m ≡ owner_of cs m
owner_served cs n v = read_kept (serving n v) owners (λ c. refl) cs

module _ (cs : List Cell) (o : Object) (lives : named cs o.name ≡ Some o) (f : Service → Service) where
  abbrev pub then : List Cell
  then = reserved f o.name cs

  -- lists by number, of which that of the server changes
  pub listed_then : {A B : Type 0} (lists : List (List A)) (entries : List A) (reported : List A → List B) (part : Service → List B) →
      o.name < length lists → reported entries ≡ part (f (service_of cs o.name)) → ((n : ℕ) → reported (slice_index_or lists n []) ≡ part (service_of cs n)) → (n : ℕ) →
      reported (slice_index_or (slice_set lists o.name entries) n []) ≡ part (service_of then n)
  listed_then lists entries reported part small here others n = by_server cs o lives f (λ n v. reported (slice_index_or (slice_set lists o.name entries) n []) ≡ part v)
      (ap reported (at_set [] lists o.name o.name entries small ∙ ap (λ b. cond b entries (slice_index_or lists o.name [])) (eq-eqb o.name o.name refl)) ∙ here)
      (λ n other. ap reported (at_set [] lists o.name n entries small ∙ ap (λ b. cond b entries (slice_index_or lists n [])) other) ∙ others n) n

  pub sender_then : ((v : Service) → (f v).sender ≡ v.sender) → (n : ℕ) → (service_of then n).sender ≡ (service_of cs n).sender
  sender_then sender n = by_server cs o lives f (λ n v. v.sender ≡ (service_of cs n).sender) (sender (service_of cs o.name)) (λ n other. refl) n

-- ---- the place of a message changes, and its sender is as it was

asked_placed : (places : List MessagePlace) (m : ℕ) (p : MessagePlace) → m < length places → sender p ≡ sender (slice_index_or places m Free) →
    (e : QueueEntry) → asked_by (slice_set places m p) e ≡ asked_by places e
asked_placed places m p small same x = grind (arith, nat_tests, at_set Free places m, eqb-true m)

map_alike : {A B : Type 0} (f g : A → B) → ((x : A) → f x ≡ g x) → (xs : List A) → map f xs ≡ map g xs
map_alike f g same [] = refl
map_alike f g same (x ∷ xs) = ap (λ y. y ∷ map f xs) (same x) ∙ ap (λ l. g x ∷ l) (map_alike f g same xs)

-- the numbers of two messages differ as their places do
pub names_apart : (m j : ℕ) → (m == j) ≡ false → (message_name m == message_name j) ≡ false
names_apart m j other = ne_eqb (message_name m) (message_name j) (λ same. false≢true (sym other ∙ eq-eqb m j (omega (arith, same))))

-- what waits in queues is of the same clients where no message of that place is among it
pub asked_apart : (places : List MessagePlace) (m : ℕ) (p : MessagePlace) → m < length places → (es : List QueueEntry) →
    list_any (is_message (message_name m)) (map (asked_by places) es) ≡ false → map (asked_by (slice_set places m p)) es ≡ map (asked_by places) es
asked_apart places m p small [] none = refl
asked_apart places m p small (Connect c ∷ es) none = ap (λ l. Connect_of c ∷ l) (asked_apart places m p small es none)
asked_apart places m p small (Close c ∷ es) none = ap (λ l. Close_of c ∷ l) (asked_apart places m p small es none)
asked_apart places m p small (Message j ∷ es) none =
    grind (arith, nat_tests, front_false, at_set Free places m j p small, asked_apart places m p small es, eq-eqb, eqb-true m j)

-- ---- cells move

abbrev pub moved_from : Owner → Owner → Option Owner → Option Owner
moved_from a b None = None
moved_from a b (Some p) = Some (cond (same_place p a) b p)

pub owner_moved : (cs : List Cell) (a b : Owner) (n : ℕ) → owner_of (moved a b cs) n ≡ moved_from a b (owner_of cs n)
owner_moved cs a b n = read_so (moving a b) owners n (moved_from a b) cs (λ c is here. refl) (λ none. refl)

-- ---- the places that are taken

taken_by : (slot : Bool) (x : MessagePlace) → is_some (sent_by slot x) ≡ is_taken x
taken_by slot x = grind arith

-- are those whose message has a sender
pub taken_sent : (s : kept.ClientsState) (cs : List Cell) (clients : List Client) → SameClients s cs clients → (m : ℕ) →
    is_taken (kept.place_at s m) ≡ is_some (service_of cs (message_name m)).sender
taken_sent s cs clients same m = sym (taken_by (holds s m) (kept.place_at s m)) ∙ ap is_some (same.senders m)

-- ---- the slots

-- a message is among its client's where it holds a slot
pub slots_of : (s : kept.ClientsState) (cs : List Cell) (clients : List Client) → SameClients s cs clients → (c m : ℕ) →
    is_among m (kept.sent_at s c) ≡ holds_slot c (service_of cs (message_name m)).sender
slots_of s cs clients same c m = grind (arith, nat_tests, eqb-true)

-- ---- a client is at something else, and nothing is asked

-- clients are at other things, and what waits is told alike
pub listed_as : (s : kept.ClientsState) (cs : List Cell) (clients after xs : List Client) (queues : List (List QueueEntry)) → SameClients s cs clients →
    ((c : ℕ) → sessionless (slice_index_or xs c Unconnected) ≡ client_at after c) → ((n : ℕ) → map (asked_by s.places) (slice_index_or queues n [])
    ≡ (service_of cs n).queue) → length xs ≡ length s.clients → SameClients (record s { clients = xs; queues = queues }) cs after
listed_as s cs clients after xs queues same at waits long = let many = long ∙ same.many in assumption many

pub same_client : (s : kept.ClientsState) (cs : List Cell) (clients : List Client) →
    SameClients s cs clients → (c : ℕ) → c < 64 → (to : Client) → SameClients (kept.with_client c to s) cs (with_client c (sessionless to) clients)
same_client s cs clients same c client to = grind (arith, nat_tests, listed_as s cs clients, client_set s.clients clients c to, length-set s.clients c to)

-- ---- a connect

module _ (s : kept.ClientsState) (cs : List Cell) (clients : List Client) (same : SameClients s cs clients) (o : Object) (lives : named cs o.name ≡ Some o)
    (c : ℕ) (client : c < 64) where
  numbered : c < length s.clients
  numbered = subst (λ n. c < n) (sym same.many) client

  -- what the server has changes, but not whose message it is
  served_as : (f : Service → Service) → ((v : Service) → (f v).sender ≡ v.sender) → (after xs : List Client)
      (queues : List (List QueueEntry)) (sessions : List (List ℕ)) → ((d : ℕ) → sessionless (slice_index_or xs d Unconnected) ≡ client_at after d) →
      ((n : ℕ) → map (asked_by s.places) (slice_index_or queues n []) ≡ (service_of (reserved f o.name cs) n).queue) →
      ((n : ℕ) → slice_index_or sessions n [] ≡ (service_of (reserved f o.name cs) n).sessions) → length xs ≡ length s.clients →
      SameClients (record s { clients = xs; queues = queues; sessions = sessions }) (reserved f o.name cs) after
  served_as f sender after xs queues sessions at waits listed long = record {
    at = at;
    queues = waits;
    sessions = listed;
    senders = λ m. same.senders m ∙ sym (sender_then cs o lives f sender (message_name m));
    waits = λ m. same.waits m ∙ ap waits_in (sym (owner_served cs o.name _ (message_name m)));
    out = same.out;
    slotted = same.slotted;
    once = same.once;
    silent = λ n d small. ap (holds_slot d) (sender_then cs o lives f sender n) ∙ same.silent n d small;
    many = long ∙ same.many;
    lists = same.lists;
  }

  module _ (slots : ℕ) (queue : o.name < length s.queues) where
    pub same_connecting : SameClients (kept.queued o.name (Connect c) (kept.with_client c (Connecting o.name slots) s))
        (reserved (asked_last (Connect_of c)) o.name cs) (with_client c (Connecting o.name slots) clients)
    same_connecting = served_as (asked_last (Connect_of c)) (λ v. refl) _ _ _ _ (client_set s.clients clients c (Connecting o.name slots)
        (Connecting o.name slots) numbered refl same.at) (listed_then cs o lives (asked_last (Connect_of c)) s.queues (kept.queue_at s o.name ++ Connect c ∷ [])
        (λ es. map (asked_by s.places) es) (λ v. v.queue) queue (map-append (asked_by s.places) (kept.queue_at s o.name) (Connect c ∷ [])
        ∙ ap (λ es. es ++ Connect_of c ∷ []) (same.queues o.name)) same.queues) (λ n. by_server cs o lives (asked_last (Connect_of c))
        (λ n v. kept.sessions_at s n ≡ v.sessions) (same.sessions o.name) (λ n other. same.sessions n) n) (length-set s.clients c (Connecting o.name slots))

  -- a close is asked for, and no client is at anything else
  module _ (queue : o.name < length s.queues) where
    pub same_closing : SameClients (kept.queued o.name (Close c) s) (reserved (asked_last (Close_of c)) o.name cs) clients
    same_closing = served_as (asked_last (Close_of c)) (λ v. refl) _ _ _ _ same.at (listed_then cs o lives
        (asked_last (Close_of c)) s.queues (kept.queue_at s o.name ++ Close c ∷ []) (λ es. map (asked_by s.places) es) (λ v. v.queue) queue
        (map-append (asked_by s.places) (kept.queue_at s o.name) (Close c ∷ []) ∙ ap (λ es. es ++ Close_of c ∷ []) (same.queues o.name)) same.queues) (λ n.
        by_server cs o lives (asked_last (Close_of c)) (λ n v. kept.sessions_at s n ≡ v.sessions) (same.sessions o.name) (λ n other. same.sessions n) n) refl

  -- ---- the first of a queue is taken

  -- a connect or a close; of a message its place changes too
  module _ (e : QueueEntry) (es : List QueueEntry) (at : kept.queue_at s o.name ≡ e ∷ es) (queue : o.name < length s.queues) where
    first_asked : (service_of cs o.name).queue ≡ asked_by s.places e ∷ map (asked_by s.places) es
    first_asked = sym (same.queues o.name) ∙ ap (λ l. map (asked_by s.places) l) at

    pub same_taken : SameClients (kept.with_queue o.name es s) (reserved taken_first o.name cs) clients
    same_taken = served_as taken_first (λ v. refl) _ _ _ _ same.at
        (listed_then cs o lives taken_first s.queues es (λ l. map (asked_by s.places) l) (λ v. v.queue) queue (sym (ap rest_of first_asked)) same.queues)
        (λ n. by_server cs o lives taken_first (λ n v. kept.sessions_at s n ≡ v.sessions) (same.sessions o.name) (λ n other. same.sessions n) n) refl

  -- ---- a session opens

  -- where no connect of the client waits any more
  module _ (slots session : ℕ) (at : kept.client_at s c ≡ Connecting o.name slots)
      (none : (n : ℕ) → list_any (is_connect_of c) (service_of cs n).queue ≡ false) (server : o.name < length s.sessions) where
    unqueued : (n : ℕ) → slice_index_or (map (λ es. filter (kept.is_no_connect_of c) es) s.queues) n [] ≡ kept.queue_at s n
    unqueued n = get_or-map (filter (kept.is_no_connect_of c)) s.queues n []
        ∙ no_connects s.places c (kept.queue_at s n) (ap (list_any (is_connect_of c)) (same.queues n) ∙ none n)

    own : client_at clients c ≡ Connecting o.name slots
    own = sym (same.at c) ∙ ap sessionless at

    pub same_opened : SameClients (kept.opened (Connecting o.name slots) (Some session) c s) (reserved (opened c) o.name cs)
        (with_client c (at_opening 0 (client_at clients c)) clients)
    same_opened = served_as (opened c) (λ v. refl) _ _ _ _ (subst (λ x. (d : ℕ) → sessionless
        (kept.client_at (kept.with_client c (Open o.name session slots) s) d) ≡ client_at (with_client c (at_opening 0 x) clients) d) (sym own) (client_set
        s.clients clients c (Open o.name session slots) (Open o.name 0 slots) numbered refl same.at)) (λ n. ap (λ l. map (asked_by s.places) l) (unqueued n)
        ∙ by_server cs o lives (opened c) (λ n v. map (asked_by s.places) (kept.queue_at s n) ≡ v.queue) (same.queues o.name) (λ n other. same.queues n) n)
        (listed_then cs o lives (opened c) s.sessions (kept.sessions_at s o.name ++ c ∷ [])
        (λ l. l) (λ v. v.sessions) server (ap (λ l. l ++ c ∷ []) (same.sessions o.name)) same.sessions) (length-set s.clients c (Open o.name session slots))

    -- or none does
    pub same_unopened : SameClients (kept.opened (Connecting o.name slots) None c s) cs (with_client c Unconnected clients)
    same_unopened = listed_as s cs clients (with_client c Unconnected clients) (slice_set s.clients c Unconnected)
        (map (λ es. filter (kept.is_no_connect_of c) es) s.queues) same (client_set s.clients clients c Unconnected Unconnected numbered refl same.at)
        (λ n. ap (λ l. map (asked_by s.places) l) (unqueued n) ∙ same.queues n) (length-set s.clients c Unconnected)

  -- ---- a session is closed

  -- of a client that has it with this server alone, and whose close waits no more
  module _ (next : Client) (plain : sessionless next ≡ next) (none : (n : ℕ) → list_any (is_close_of c) (service_of cs n).queue ≡ false)
      (only : (n : ℕ) → (o.name == n) ≡ false → is_among c (service_of cs n).sessions ≡ false) where
    unclosed : (n : ℕ) → slice_index_or (map (λ es. filter (kept.is_no_close_of c) es) s.queues) n [] ≡ kept.queue_at s n
    unclosed n = get_or-map (filter (kept.is_no_close_of c)) s.queues n []
        ∙ no_closes s.places c (kept.queue_at s n) (ap (list_any (is_close_of c)) (same.queues n) ∙ none n)

    pub same_parted : SameClients (kept.parted c next s) (reserved (parted c) o.name cs) (with_client c next clients)
    same_parted = served_as (parted c) (λ v. refl) _ _ _ _ (client_set s.clients clients c next next numbered plain same.at)
        (λ n. ap (λ l. map (asked_by s.places) l) (unclosed n) ∙ by_server cs o lives (parted c) (λ n v. map (asked_by s.places) (kept.queue_at s n) ≡ v.queue)
        (same.queues o.name) (λ n other. same.queues n) n) (λ n. get_or-map (filter (λ d. not (d == c))) s.sessions n [] ∙ by_server cs o lives (parted c)
        (λ n v. filter (λ d. not (d == c)) (kept.sessions_at s n) ≡ v.sessions) (ap (λ l. filter (λ d. not (d == c)) l) (same.sessions o.name)) (λ n other.
        ap (λ l. filter (λ d. not (d == c)) l) (same.sessions n) ∙ none_parted c (service_of cs n).sessions (only n other)) n) (length-set s.clients c next)

  -- ---- the first of a queue is a message, which is served

  module _ (m : ℕ) (es : List QueueEntry) (at : kept.queue_at s o.name ≡ Message m ∷ es)
      (queue : o.name < length s.queues) (place : m < length s.places) (by : ℕ) (waiting : kept.place_at s m ≡ Queued by) where
    abbrev from : Owner
    from = Elsewhere (Waits_at o.name (message_name m))

    abbrev taken : kept.ClientsState
    taken = kept.with_place m (held_place (kept.place_at s m)) (kept.with_queue o.name es s)

    abbrev cs' : List Cell
    cs' = reserved taken_first o.name cs

    held_now : held_place (kept.place_at s m) ≡ Held by
    held_now = ap held_place waiting

    of_same : (e : QueueEntry) → asked_by taken.places e ≡ asked_by s.places e
    of_same e = asked_placed s.places m (held_place (kept.place_at s m)) place (ap sender held_now ∙ sym (ap sender waiting)) e

    -- its cell moves, and no other
    module _ (there : owner_of cs (message_name m) ≡ Some from)
        (apart : (j : ℕ) → (m == j) ≡ false → (p : Owner) → owner_of cs (message_name j) ≡ Some p → same_place p from ≡ false) where
      waits_now : (j : ℕ) → is_queued (kept.place_at taken j) ≡ waits_in (owner_of (moved from (Elsewhere In_service) cs') (message_name j))
      waits_now j = grind (arith, nat_tests, at_set Free s.places m j, owner_moved, owner_served cs o.name, held_now, eqb-true m j, same_place_refl)

      senders_now : (j : ℕ) → sent_by (holds taken j) (kept.place_at taken j) ≡ sent_by (holds s j) (kept.place_at s j)
      senders_now j = grind (arith, nat_tests, at_set Free s.places m j, held_now, eqb-true m j)

      slotted_now : (j d : ℕ) → kept.place_at taken j ≡ Queued d → is_among j (kept.sent_at taken d) ≡ true
      slotted_now j d e = grind (arith, nat_tests, at_set Free s.places m j, held_now)

      out_now : (d j : ℕ) → is_among j (kept.sent_at taken d) ≡ true → is_out_of d (kept.place_at taken j) ≡ true
      out_now d j h = grind (arith, nat_tests, at_set Free s.places m j, held_now, same.out d j, eqb-true m j)

      pub same_served : SameClients taken (moved from (Elsewhere In_service) cs') clients
      same_served = record {
        at = same.at;
        queues = grind (arith, nat_tests, map_alike, of_same, same_taken (Message m) es at queue, service_moved);
        sessions = grind (arith, nat_tests, same_taken (Message m) es at queue, service_moved);
        senders = λ j. senders_now j ∙ (same_taken (Message m) es at queue).senders j
            ∙ sym (ap (λ (v : Service). v.sender) (service_moved cs' from (Elsewhere In_service) (message_name j)));
        waits = waits_now;
        out = out_now;
        slotted = slotted_now;
        once = same.once;
        silent = λ n d small. ap (λ (v : Service). holds_slot d v.sender) (service_moved cs' from (Elsewhere In_service) n)
            ∙ (same_taken (Message m) es at queue).silent n d small;
        many = same.many;
        lists = same.lists;
      }

  -- ---- a message is sent

  -- at a place that is free, with a number that is free, which is asked for nowhere
  module _ (m : ℕ) (words : List ℤ) (queue : o.name < length s.queues) (place : m < length s.places) (unused : named cs (message_name m) ≡ None)
      (nowhere : (n : ℕ) → list_any (is_message (message_name m)) (service_of cs n).queue ≡ false) where
    abbrev sent : kept.ClientsState
    sent = kept.queued o.name (Message m) (kept.with_sent c (kept.sent_at s c ++ m ∷ []) (kept.with_place m (Queued c) s))

    abbrev message : Cell
    message = record {
      object = record { name = message_name m; thing = A_message };
      words = words;
      request = None;
      session = false;
      service = record unserved { sender = Some (record { client = c; holds_slot = true; is_reported = true }) };
      owner = Elsewhere (Waits_at o.name (message_name m));
    }

    abbrev behind : List Cell
    behind = reserved (asked_last (Message_of c (message_name m))) o.name cs

    listed : c < length s.sent
    listed = subst (λ n. c < n) (sym same.lists) client

    places_at : (j : ℕ) → kept.place_at sent j ≡ cond (m == j) (Queued c) (kept.place_at s j)
    places_at j = at_set Free s.places m j (Queued c) place

    sent_of : (d : ℕ) → kept.sent_at sent d ≡ cond (c == d) (kept.sent_at s c ++ m ∷ []) (kept.sent_at s d)
    sent_of d = at_set [] s.sent c d (kept.sent_at s c ++ m ∷ []) listed

    -- what is told of the place that is taken, and of all others
    reported_new : {A B : Type 0} (f : MessagePlace → A) (g : B → A) (j : ℕ) (x y : B) →
        f (Queued c) ≡ g x → ((m == j) ≡ false → f (kept.place_at s j) ≡ g y) → f (kept.place_at sent j) ≡ g (cond (message_name m == message_name j) x y)
    reported_new f g j x y here others = grind (arith, nat_tests, places_at j, eq-eqb, eqb-true m j, names_apart m j)

    waits_then : (j : ℕ) → is_queued (kept.place_at sent j) ≡ waits_in (owner_of (message ∷ behind) (message_name j))
    waits_then j = reported_new is_queued waits_in j (Some message.owner) (owner_of behind (message_name j)) refl
        (λ e. same.waits j ∙ sym (ap waits_in (owner_served cs o.name (asked_last (Message_of c (message_name m)) (service_of cs o.name)) (message_name j))))

    senders_after : (j : ℕ) → sent_by (holds sent j) (kept.place_at sent j) ≡ (service_of (message ∷ behind) (message_name j)).sender
    senders_after j = ap (λ x. sent_by (is_among j (kept.sent_at sent (sender x))) x) (places_at j) ∙ go (m == j) refl
      where
        still : (x : MessagePlace) → (m == j) ≡ false → is_among j (kept.sent_at sent (sender x)) ≡ is_among j (kept.sent_at s (sender x))
        still x other = ap (λ l. is_among j l) (sent_of (sender x)) ∙ by (c == sender x) refl
          where
            by : (b : Bool) → (c == sender x) ≡ b →
                is_among j (cond b (kept.sent_at s c ++ m ∷ []) (kept.sent_at s (sender x))) ≡ is_among j (kept.sent_at s (sender x))
            by true e = list_any-append (λ d. d == j) (kept.sent_at s c) (m ∷ []) ∙ ap (λ b. is_among j (kept.sent_at s c) || (b || false)) other
                ∙ or_false (is_among j (kept.sent_at s c)) ∙ ap (λ i. is_among j (kept.sent_at s i)) (eqb-true c (sender x) e)
            by false e = refl

        go : (b : Bool) → (m == j) ≡ b → sent_by (is_among j (kept.sent_at sent (sender (cond b (Queued c) (kept.place_at s j)))))
            (cond b (Queued c) (kept.place_at s j)) ≡ (cond (message_name m == message_name j) message.service (service_of behind (message_name j))).sender
        go true e = ap (λ b. Some (record { client = c; holds_slot = b; is_reported = true }))
            (ap (λ l. is_among j l) (sent_of c ∙ ap (λ b. cond b (kept.sent_at s c ++ m ∷ []) (kept.sent_at s c)) (eq-eqb c c refl)) ∙ list_any-append
            (λ d. d == j) (kept.sent_at s c) (m ∷ []) ∙ ap (λ b. is_among j (kept.sent_at s c) || (b || false)) e ∙ or_true (is_among j (kept.sent_at s c)))
            ∙ sym (ap (λ b. (cond b message.service (service_of behind (message_name j))).sender)
            (eq-eqb (message_name m) (message_name j) (ap message_name (eqb-true m j e))))
        go false e = ap (λ b. sent_by b (kept.place_at s j)) (still (kept.place_at s j) e) ∙ same.senders j
            ∙ sym (ap (λ b. (cond b message.service (service_of behind (message_name j))).sender) (names_apart m j e)
            ∙ sender_then cs o lives (asked_last (Message_of c (message_name m))) (λ v. refl) (message_name j))

    -- what the new cell has is nothing, of those that have a queue
    other_service : (n : ℕ) →
        ((service_of (message ∷ behind) n).queue ≡ (service_of behind n).queue) × ((service_of (message ∷ behind) n).sessions ≡ (service_of behind n).sessions)
    other_service n = grind (arith, nat_tests, service_unnamed, named_served cs o.name, eqb-true)

    absent : (d : ℕ) → is_among m (kept.sent_at s d) ≡ false
    absent d = slots_of s cs clients same d m ∙ ap (λ (v : Service). holds_slot d v.sender) (service_unnamed cs (message_name m) unused)

    once_after : (d : ℕ) → Once (kept.sent_at sent d)
    once_after d = grind (arith, nat_tests, sent_of d, once_last, absent c)

    slotted_after : (j d : ℕ) → kept.place_at sent j ≡ Queued d → is_among j (kept.sent_at sent d) ≡ true
    slotted_after j d e = grind (arith, nat_tests, sent_of d, places_at j, list_any-append, eqb-true, eq-eqb, or_true)

    out_after : (d j : ℕ) → is_among j (kept.sent_at sent d) ≡ true → is_out_of d (kept.place_at sent j) ≡ true
    out_after d j h = grind (arith, nat_tests, sent_of d, places_at j, list_any-append, same.out d j, eqb-true c d, eqb-true m j, eq-eqb c d, absent d)

    silent_after : (n d : ℕ) → n < 4096 → holds_slot d (service_of (message ∷ behind) n).sender ≡ false
    silent_after n d small =
        ap (λ b. holds_slot d (cond b message.service (service_of behind n)).sender) (ne_eqb (message_name m) n (λ at. absurd (omega (arith, at, small))))
        ∙ ap (holds_slot d) (sender_then cs o lives (asked_last (Message_of c (message_name m))) (λ v. refl) n) ∙ same.silent n d small

    pub same_sent : SameClients sent (message ∷ behind) clients
    same_sent =
        let queues_after = λ (n : ℕ). queues n ∙ sym (other_service n).0 in
        let sessions_after : (n : ℕ) → kept.sessions_at s n ≡ (service_of (message ∷ behind) n).sessions =
        λ n. by_server cs o lives (asked_last (Message_of c (message_name m)))
        (λ n v. kept.sessions_at s n ≡ v.sessions) (same.sessions o.name) (λ n other. same.sessions n) n ∙ sym (other_service n).1 in
        let lists = length-set s.sent c (kept.sent_at s c ++ m ∷ []) ∙ same.lists in
        assumption (same.at, queues_after, sessions_after, senders_after, waits_then, out_after, slotted_after, once_after, silent_after, same.many, lists)
      where
        old : (n : ℕ) → map (asked_by sent.places) (kept.queue_at s n) ≡ (service_of cs n).queue
        old n = asked_apart s.places m (Queued c) place (kept.queue_at s n)
            (ap (λ l. list_any (is_message (message_name m)) l) (same.queues n) ∙ nowhere n) ∙ same.queues n

        own : asked_by sent.places (Message m) ≡ Message_of c (message_name m)
        own = ap (λ x. Message_of (sender x) (message_name m)) (places_at m ∙ ap (λ b. cond b (Queued c) (kept.place_at s m)) (eq-eqb m m refl))

        queues : (n : ℕ) → map (asked_by sent.places) (kept.queue_at sent n) ≡ (service_of behind n).queue
        queues n = listed_then cs o lives (asked_last (Message_of c (message_name m))) s.queues (kept.queue_at s o.name ++ Message m ∷ [])
            (λ l. map (asked_by sent.places) l) (λ v. v.queue) queue (map-append (asked_by sent.places) (kept.queue_at s o.name) (Message m ∷ [])
            ∙ ap (λ l. l ++ asked_by sent.places (Message m) ∷ []) (old o.name) ∙ ap (λ a. (service_of cs o.name).queue ++ a ∷ []) own) old n
