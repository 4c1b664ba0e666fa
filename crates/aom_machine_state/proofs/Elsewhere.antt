-- What the calls of clients make of the numbers in the places of servers: their sessions, and the messages in their queues.
use Rattle.std.proofs.lemmas.Bool.Decides.{nat_tests}
use Rattle.std.proofs.Common.{Bool, List, None, Some, [], ap, arith, cond, false, length, refl, sym, true, ℕ, ◌&&◌, ◌<◌, ◌==◌, ◌∙◌, ◌∷◌, ◌≡◌}
use Rattle.std.specs.List.{list_any}
use Rattle.std.specs.Prelude.{filter, map, ◌||◌}
use Rattle.std.proofs.lemmas.Bool.{eq-eqb, eqb-true, ne_eqb}
use Rattle.aom_cells.specs.Heap.{Heap, null}
use Rattle.aom_frames.specs.declared.item.Item.{Item}
use Rattle.aom_clients.specs.Clients as kept
use Rattle.aom_clients.specs.Clients.{client_at, queue_at}
use Rattle.aom_clients.specs.Nodes.{is_leaving}
use Rattle.aom_clients.specs.Table.{no_cell, server_of}
use Rattle.aom_clients.specs.declared.client.Client.{Client}
use Rattle.aom_clients.specs.declared.client.Client.TheVariants.{Closing, Connecting, Dead, Dying, Open, Unconnected}
use Rattle.aom_clients.specs.declared.entry.QueueEntry.{QueueEntry}
use Rattle.aom_clients.specs.declared.entry.QueueEntry.TheVariants.{Message}
use Rattle.aom_clients.specs.declared.place.MessagePlace.{MessagePlace}
use Rattle.aom_frames.specs.declared.task.Task.{Task as Machine_task}
use Rattle.aom_image.specs.Image.{Image}
use Rattle.aom_image.specs.declared.method.Thing.TheVariants.{Message as A_message}
use Rattle.aom_typing_rules.specs.Typing.{Typing}
use Rattle.aom_abstract_state.specs.declared.kind.InitState.TheVariants.{Ready}
use Rattle.aom_abstract_state.specs.declared.kind.Kind.{Kind}
use Rattle.aom_abstract_state.specs.declared.kind.Kind.TheVariants.{Null, Own}
use Rattle.aom_machine_state.proofs.SafetyLemmas.{fits_unowning, own_held, queued_claim, service_unnamed}
use Rattle.aom_machine_state.proofs.SemanticsLemmas.{named_name}
use Rattle.aom_safety.specs.Claims.{declared}
use Rattle.aom_safety.specs.Kept.{ClientsFit}
use Rattle.aom_semantics.specs.Places.{Cell, Elsewhere, Object, Other, Place, Queued, Session, changed, held, seen, service_of}
use Rattle.aom_semantics.specs.Servers.{has_message, is_message}
use Rattle.aom_semantics.specs.State.{State, Task}
use Rattle.aom_safety.specs.WellTyped.{Fits, WellTyped}
use Rattle.aom_machine_state.specs.Agrees.{Represents, number, word_at}
use Rattle.aom_machine_state.specs.Places.{Others, is_numbered, other_in, session_number, session_with, value_in}
use Rattle.aom_machine_state.specs.Serving.{SameClients, asked_by, message_name}
use Rattle.aom_machine_state.proofs.CellFields.{elsewhere_written}
use Rattle.aom_machine_state.proofs.Serving.{at_set}
use Rattle.std.proofs.Math.ListN.{get_or-map}

-- ---- what waits in a queue is told by what stands for the queues

numbered_asked : (places : List MessagePlace) (m : ℕ) (es : List QueueEntry) → list_any (is_numbered m) es ≡ list_any (is_message m) (map (asked_by places) es)
numbered_asked places m [] = refl
numbered_asked places m (Message k ∷ es) = ap (λ b. (message_name k == m) || b) (numbered_asked places m es)
numbered_asked places m (_ ∷ es) = numbered_asked places m es

-- the number of a message is where it waits, in each state that is well typed and in which what clients have is told
module _ (p : Image) (t : Typing) (s : State) (w : WellTyped p t s) (fit : ClientsFit p s.clients s.cells) where
  abbrev waiting : ℕ → ℕ → Place
  waiting n m = Elsewhere (Queued n m)

  waits_as : (n m : ℕ) (k : Kind) → declared p s.cells (waiting n m) ≡ k → Fits p (seen s.cells) (held s.cells (waiting n m)) k
  waits_as n m k e = grind (arith, nat_tests, queued_claim p)

  waits_well : (n m : ℕ) → has_message (service_of s.cells n) m ≡ true → (x : Object) × (held s.cells (waiting n m) ≡ Some x)
  waits_well n m has = grind (arith, nat_tests, own_held p, waits_as n m (Own A_message Ready), named_name s.cells n, service_unnamed s.cells n)

  pub queued_shows : (k : kept.ClientsState) → SameClients k s.cells s.clients → (n m : ℕ) →
      cond (list_any (is_numbered m) (queue_at k n)) m null ≡ number (held s.cells (Elsewhere (Queued n m)))
  queued_shows k same n m = grind (arith, nat_tests, numbered_asked k.places m, waits_well n m, fits_unowning p, waits_as n m Null)

-- ---- the sessions of clients

-- a client is at something else, and by that one place has another number
sessions_now : (s s' : kept.ClientsState) (c k x : ℕ) (to : Client) →
    ((d : ℕ) → client_at s' d ≡ cond (c == d) to (client_at s d)) → ((n : ℕ) → session_with n to ≡ cond (k == n) x (session_with n (client_at s c)))
    → (n d : ℕ) → session_with n (client_at s' d) ≡ cond ((k == n) && (c == d)) x (session_with n (client_at s d))
sessions_now s s' c k x to at here n d = grind (arith, nat_tests, eqb-true c d)

-- the queues show the same messages
abbrev pub ShowSame : kept.ClientsState → kept.ClientsState → Type 0
ShowSame s s' = (n m : ℕ) → list_any (is_numbered m) (queue_at s' n) ≡ list_any (is_numbered m) (queue_at s n)

-- so a place of a session alone has another number
session_written : (others : Others) (s' : kept.ClientsState) (c k x : ℕ) → ((n d : ℕ) → session_with n (client_at s' d)
    ≡ cond ((k == n) && (c == d)) x (session_with n (client_at others.clients d))) → ShowSame others.clients s' → (us : List Machine_task) (h : Heap)
    (es : List Item) (r : Place) → value_in us h es (record others { clients = s' }) r ≡ changed (value_in us h es others) (Elsewhere (Session k c)) x r
session_written others s' c k x sessions queues us h es r = elsewhere_written us h es others (record others { clients = s' }) (Session k c) x other r
  where
    other : (o : Other) → other_in (record others { clients = s' }) o ≡ changed (value_in us h es others) (Elsewhere (Session k c)) x (Elsewhere o)
    other (Session n d) = sessions n d
    other (Queued n m) = ap (λ b. cond b m null) (queues n m)
    other _ = refl

-- the same is shown where no message goes
shows_filtered : (stays : QueueEntry → Bool) (m : ℕ) → ((e : QueueEntry) → stays e ≡ false → is_numbered m e ≡ false) → (es : List QueueEntry) →
    list_any (is_numbered m) (filter stays es) ≡ list_any (is_numbered m) es
shows_filtered stays m apart [] = refl
shows_filtered stays m apart (e ∷ es) = grind (arith, nat_tests, shows_filtered stays m apart es)

-- no connect and no close is a message
no_connect_shows : (c m : ℕ) (e : QueueEntry) → kept.is_no_connect_of c e ≡ false → is_numbered m e ≡ false
no_connect_shows c m e gone = grind arith

no_close_shows : (c m : ℕ) (e : QueueEntry) → kept.is_no_close_of c e ≡ false → is_numbered m e ≡ false
no_close_shows c m e gone = grind arith

-- a client is at something else
client_now : (s : kept.ClientsState) (c : ℕ) (to : Client) → c < length s.clients → (d : ℕ) → client_at (kept.with_client c to s) d ≡ cond (c == d) to (client_at s d)
client_now s c to small d = at_set Unconnected s.clients c d to small

module _ (others : Others) (us : List Machine_task) (h : Heap) (es : List Item) (c k : ℕ) (client : c < length others.clients.clients) where
  abbrev s : kept.ClientsState
  s = others.clients

  abbrev before : Place → ℕ
  before = value_in us h es others

  abbrev after : kept.ClientsState → Place → ℕ
  after s' = value_in us h es (record others { clients = s' })

  -- a connect is served, with a session
  pub session_opened : (slots session : ℕ) → client_at s c ≡ Connecting k slots →
      session < no_cell → (r : Place) → after (kept.after_connected c (Some session) s) r ≡ changed before (Elsewhere (Session k c)) session r
  session_opened slots session was small r = ap (λ x. after (kept.opened x (Some session) c s) r) was ∙ session_written others then c k session
      (sessions_now s then c k session (Open k session slots) (client_now s c (Open k session slots) client) here) queues us h es r
    where
      then : kept.ClientsState
      then = kept.opened (Connecting k slots) (Some session) c s

      reported : session_number session ≡ session
      reported = ap (λ b. cond b null session) (ne_eqb session no_cell (λ e. absurd (omega (arith, small, e))))

      here : (n : ℕ) → session_with n (Open k session slots) ≡ cond (k == n) session (session_with n (client_at s c))
      here n = ap (λ x. cond (k == n) x null) reported ∙ ap (λ x. cond (k == n) session (session_with n x)) (sym was)

      queues : ShowSame s then
      queues n m = ap (list_any (is_numbered m)) (get_or-map (filter (kept.is_no_connect_of c)) s.queues n [])
          ∙ shows_filtered (kept.is_no_connect_of c) m (no_connect_shows c m) (queue_at s n)

  -- the cell of a session is at hand to go
  pub session_released : server_of (client_at s c) ≡ Some k → (r : Place) → after (kept.after_release c s) r ≡ changed before (Elsewhere (Session k c)) null r
  session_released with_it r = grind (arith, nat_tests, session_written, sessions_now, client_now)

  -- the same places have the same numbers
  unmoved : (s' : kept.ClientsState) → ((n d : ℕ) → session_with n (client_at s' d) ≡ session_with n (client_at s d)) → ShowSame s s' → (r : Place) → after s' r ≡ before r
  unmoved s' sessions queues (Elsewhere (Session n d)) = sessions n d
  unmoved s' sessions queues (Elsewhere (Queued n m)) = ap (λ b. cond b m null) (queues n m)
  unmoved s' sessions queues _ = refl

  -- a client is at something else, and has no cell of a session before or after, or the same one
  sessions_same : (s' : kept.ClientsState) (to : Client) → ((d : ℕ) → client_at s' d ≡ cond (c == d) to (client_at s d)) →
      ((n : ℕ) → session_with n to ≡ session_with n (client_at s c)) → (n d : ℕ) → session_with n (client_at s' d) ≡ session_with n (client_at s d)
  sessions_same s' to at here n d = grind (arith, nat_tests, eqb-true c d)

  -- a connect is left
  pub connect_left : (slots : ℕ) → client_at s c ≡ Connecting k slots → (r : Place) → after (kept.after_connected c None s) r ≡ before r
  connect_left slots was r = ap (λ x. after (kept.opened x None c s) r) was
      ∙ unmoved then (sessions_same then Unconnected (client_now s c Unconnected client) (λ n. ap (session_with n) (sym was))) queues r
    where
      then : kept.ClientsState
      then = kept.opened (Connecting k slots) None c s

      queues : ShowSame s then
      queues n m = ap (list_any (is_numbered m)) (get_or-map (filter (kept.is_no_connect_of c)) s.queues n [])
          ∙ shows_filtered (kept.is_no_connect_of c) m (no_connect_shows c m) (queue_at s n)

  -- a close is served, once the cell of the session is at hand to go
  pub session_closed : is_leaving k (client_at s c) ≡ true → session_with k (client_at s c) ≡ null → (r : Place) → after (kept.after_closed c s) r ≡ before r
  session_closed leaves none r = go (client_at s c) refl leaves none
    where
      queues : (to : Client) → ShowSame s (kept.parted c to s)
      queues to n m = ap (list_any (is_numbered m)) (get_or-map (filter (kept.is_no_close_of c)) s.queues n [])
          ∙ shows_filtered (kept.is_no_close_of c) m (no_close_shows c m) (queue_at s n)

      both_null : (b : Bool) → cond b null null ≡ null
      both_null true = refl
      both_null false = refl

      gone : (server session : ℕ) → (server == k) ≡ true → cond (server == k) (session_number session) null ≡ null → (n : ℕ) →
          null ≡ cond (server == n) (session_number session) null
      gone server session it e n = sym (ap (λ x. cond (server == n) x null) (sym (ap (λ b. cond b (session_number session) null) it) ∙ e) ∙ both_null (server == n))

      go : (x : Client) → client_at s c ≡ x → is_leaving k x ≡ true → session_with k x ≡ null → after (kept.ended x c s) r ≡ before r
      go (Closing server session) e it null_there = unmoved (kept.parted c Unconnected s) (sessions_same (kept.parted c Unconnected s) Unconnected
          (client_now s c Unconnected client) (λ n. gone server session it null_there n ∙ sym (ap (session_with n) e))) (queues Unconnected) r
      go (Dying server session) e it null_there = unmoved (kept.parted c Dead s) (sessions_same
          (kept.parted c Dead s) Dead (client_now s c Dead client) (λ n. gone server session it null_there n ∙ sym (ap (session_with n) e))) (queues Dead) r
      go _ e it null_there = cc

-- ---- a queue

-- the queue of a server is another, by which one message comes or goes
queue_written : (others : Others) (s' : kept.ClientsState) (k m x : ℕ) (to : List QueueEntry) → ((n d : ℕ) → session_with n (client_at s' d) ≡ session_with n
    (client_at others.clients d)) → ((n : ℕ) → queue_at s' n ≡ cond (k == n) to (queue_at others.clients n)) → ((j : ℕ) → cond (list_any (is_numbered j) to)
    j null ≡ cond (m == j) x (cond (list_any (is_numbered j) (queue_at others.clients k)) j null)) → (us : List Machine_task) (h : Heap) (es : List Item)
    (r : Place) → value_in us h es (record others { clients = s' }) r ≡ changed (value_in us h es others) (Elsewhere (Queued k m)) x r
queue_written others s' k m x to sessions at here us h es r = elsewhere_written us h es others (record others { clients = s' }) (Queued k m) x other r
  where
    number_at : List QueueEntry → ℕ → ℕ
    number_at entries j = cond (list_any (is_numbered j) entries) j null

    same : (b : Bool) (y : ℕ) → cond b x y ≡ cond (true && b) x y
    same true y = refl
    same false y = refl

    by : (n j : ℕ) (b : Bool) → (k == n) ≡ b → number_at (cond b to (queue_at others.clients n)) j ≡ cond (b && (m == j)) x (number_at (queue_at others.clients n) j)
    by n j true e = here j ∙ ap (λ i. cond (m == j) x (number_at (queue_at others.clients i) j)) (eqb-true k n e)
    by n j false e = refl

    other : (o : Other) → other_in (record others { clients = s' }) o ≡ changed (value_in us h es others) (Elsewhere (Queued k m)) x (Elsewhere o)
    other (Session n d) = sessions n d
    other (Queued n j) = ap (λ q. number_at q j) (at n) ∙ by n j (k == n) refl
    other _ = refl

-- the first of a queue is a message, which is taken
pub message_taken : (others : Others) (k m : ℕ) (rest : List QueueEntry) → k < length others.clients.queues → queue_at others.clients k ≡ Message m ∷ rest →
    list_any (is_numbered (message_name m)) rest ≡ false → (us : List Machine_task) (h : Heap) (es : List Item) (r : Place) → value_in us h es
    (record others { clients = kept.after_next k others.clients }) r ≡ changed (value_in us h es others) (Elsewhere (Queued k (message_name m))) null r
message_taken others k m rest small first once us h es r = grind (arith, nat_tests, queue_written others, at_set, eqb-true)

-- anything else that is first is no message
pub entry_taken : (others : Others) (k : ℕ) (e : QueueEntry) (rest : List QueueEntry) → k < length others.clients.queues →
    queue_at others.clients k ≡ e ∷ rest → ((j : ℕ) → is_numbered j e ≡ false) → (us : List Machine_task) (h : Heap) (es : List Item) (r : Place) →
    value_in us h es (record others { clients = kept.after_next k others.clients }) r ≡ value_in us h es others r
entry_taken others k e rest small first none us h es r = grind (arith, nat_tests, eq-eqb, eqb-true k, at_set)

-- ---- where many messages come or go at once: what is no message in a queue is as it was

-- the sessions have the same numbers
abbrev pub SessionsSame : kept.ClientsState → kept.ClientsState → Type 0
SessionsSame s s' = (n d : ℕ) → session_with n (client_at s' d) ≡ session_with n (client_at s d)

-- the number of any place but of those in queues
pub others_same : (others : Others) (s' : kept.ClientsState) → SessionsSame others.clients s' → (us : List Machine_task) (h : Heap) (es : List Item) (r : Place) →
    ((n m : ℕ) → r ≡ Elsewhere (Queued n m) → ⊥) → value_in us h es (record others { clients = s' }) r ≡ value_in us h es others r
others_same others s' sessions us h es x aside = grind arith

-- what places show goes on so where messages come and go in queues alone
pub shows_again : (p : Image) (t : Typing) (s : State) (others : Others) (s' : kept.ClientsState) (us : List Machine_task) (h : Heap) (es : List Item)
    (cs : List Cell) (ts : List Task) → WellTyped p t s → ClientsFit p s.clients s.cells → SameClients s' s.cells s.clients → SessionsSame others.clients s'
    → ((r : Place) → ((n m : ℕ) → r ≡ Elsewhere (Queued n m) → ⊥) → held s.cells r ≡ held cs r) → ((r : Place) → Represents (value_in us h es others r)
    (word_at ts r) (held cs r)) → (r : Place) → Represents (value_in us h es (record others { clients = s' }) r) (word_at ts r) (held s.cells r)
shows_again p t s others s' us h es cs ts w fit same sessions holds old r =
    grind (arith, nat_tests, others_same others s' sessions us h es r, queued_shows p t s w fit s' same)
