-- Renamings that change no name in use change nothing: so any free name may be put for any other, by changing the two.
use Rattle.std.proofs.Common.{Bool, List, None, Option, Some, [], ap, cond, false, refl, subst, suc}
use Rattle.std.proofs.Common.{sym, true, zero, ℕ, ⊎_elim, ◌&&◌, ◌==◌, ◌∙◌, ◌∷◌, ◌≡◌, ◌≢◌, arith}
use Rattle.std.proofs.lemmas.Bool.Decides.{nat_tests}
use Rattle.std.proofs.lemmas.Option.{same_Some}
use Rattle.std.proofs.lemmas.Bool.{cases_eq, eq-eqb, eqb-true, ne_eqb, true≢false}
use Rattle.std.specs.List.{list_any}
use Rattle.aom_clients.specs.Nodes.{is_connecting_at}
use Rattle.aom_clients.specs.Table.{server_of}
use Rattle.aom_clients.specs.declared.client.Client.{Client}
use Rattle.aom_clients.specs.declared.client.Client.TheVariants.{Closing as Closing_client, Connecting, Dying as Dying_client}
use Rattle.aom_clients.specs.declared.client.Client.TheVariants.{Open}
use Rattle.aom_image.specs.Image.{Image}
use Rattle.aom_typing_rules.specs.Typing.{Typing}
use Rattle.aom_abstract_state.specs.Kinds.{filled}
use Rattle.aom_abstract_state.specs.declared.kind.FieldState.TheVariants.{Full}
use Rattle.aom_abstract_state.specs.declared.kind.Kind.TheVariants.{Null}
use Rattle.aom_determinism.proofs.SafetyLemmas.{IsAt, claim_unnamed, fits_unowning, queued_claim, queued_well, server_lives, service_unnamed}
use Rattle.aom_determinism.proofs.SemanticsLemmas.{cond_same, held_named, same_place_refl}
use Rattle.aom_safety.specs.Claims.{Dispatching, Dying, Ending, Layer, Mark, Method, Unwinding, by_close, declared, tasks_of, claim}
use Rattle.aom_semantics.specs.Clients.{client_at}
use Rattle.aom_safety.specs.Kept.{ClientsFit, is_message_of}
use Rattle.aom_semantics.specs.Places.{Asked, Cell, Close_of, Connect_of, Elsewhere, Message_of, Place}
use Rattle.aom_semantics.specs.Places.{NoDuplicates, held, named, service_of, unserved, Other, Root, Session, In_service, Queued}
use Rattle.aom_semantics.specs.Servers.{has_session, session_thing}
use Rattle.aom_semantics.specs.State.{Dispatch, Dispatched, Receiver}
use Rattle.aom_semantics.specs.State.{Of_server, Disconnects, OwnedObject, Stage, State, Task}
use Rattle.aom_safety.specs.WellTyped.{IsOwnedChain, Back, Caught, Gone, Good, ReceiverIsHeld, Leaves, Now, Returns, OwnedFirst, Stack, WellTyped, owned_object_of}
use Rattle.aom_determinism.specs.Names.{IsOneToOne, renamed, renamed_asked, renamed_cells, renamed_client, renamed_clients, renamed_dispatch, renamed_receiver}
use Rattle.aom_determinism.specs.Names.{renamed_place, renamed_queue, renamed_task, renamed_tasks, renamed_other}
use Rattle.aom_determinism.specs.There.{AllThere, IsAtPlace, accepts, dispatch_of}

-- ---- two names change places

pub swapped : ℕ → ℕ → ℕ → ℕ
swapped a b n = cond (n == a) b (cond (n == b) a n)

pub swap_first : (a b : ℕ) → swapped a b a ≡ b
unfolding swapped
swap_first a b = rw (eq-eqb a a refl)

swap_second : (a b : ℕ) → swapped a b b ≡ a
unfolding swapped
swap_second a b = ⊎_elim (λ e. rw (eq-eqb b a e, e)) (λ ne. rw (ne_eqb b a ne, eq-eqb b b refl)) (cases_eq b a)

swap_other : (a b n : ℕ) → n ≢ a → n ≢ b → swapped a b n ≡ n
unfolding swapped
swap_other a b n e f = rw (ne_eqb n a e, ne_eqb n b f)

swap_twice : (a b n : ℕ) → swapped a b (swapped a b n) ≡ n
swap_twice a b n = grind (arith, nat_tests, swapped, swap_other, cases_eq, swap_first, swap_second)

pub swap_one_to_one : (a b : ℕ) → IsOneToOne (swapped a b)
swap_one_to_one a b n m e = sym (swap_twice a b n) ∙ ap (swapped a b) e ∙ swap_twice a b m

-- ---- of two tests

-- ---- one renaming after another

module _ (then first : ℕ → ℕ) where
  abbrev both : ℕ → ℕ
  both n = then (first n)

  place_twice : (q : Place) → renamed_place both q ≡ renamed_place then (renamed_place first q)
  place_twice x = grind (arith, nat_tests)

  asked_twice : (e : Asked) → renamed_asked both e ≡ renamed_asked then (renamed_asked first e)
  asked_twice x = grind arith

  queue_twice : (es : List Asked) → renamed_queue both es ≡ renamed_queue then (renamed_queue first es)
  queue_twice [] = refl
  queue_twice (e ∷ es) = rw (asked_twice e, queue_twice es)

  cells_twice : (cs : List Cell) → renamed_cells both cs ≡ renamed_cells then (renamed_cells first cs)
  cells_twice [] = refl
  cells_twice (c ∷ cs) = rw (place_twice c.owner, queue_twice c.service.queue, cells_twice cs)

  dispatch_twice : (d : Dispatch) → renamed_dispatch both d ≡ renamed_dispatch then (renamed_dispatch first d)
  dispatch_twice x = grind (arith, nat_tests)

  task_twice : (k : Task) → renamed_task both k ≡ renamed_task then (renamed_task first k)
  task_twice x = grind (arith, nat_tests, dispatch_twice)

  tasks_twice : (ts : List Task) → renamed_tasks both ts ≡ renamed_tasks then (renamed_tasks first ts)
  tasks_twice [] = refl
  tasks_twice (k ∷ ts) = rw (task_twice k, tasks_twice ts)

  client_twice : (x : Client) → renamed_client both x ≡ renamed_client then (renamed_client first x)
  client_twice x = grind arith

  clients_twice : (clients : List Client) → renamed_clients both clients ≡ renamed_clients then (renamed_clients first clients)
  clients_twice [] = refl
  clients_twice (x ∷ xs) = rw (client_twice x, clients_twice xs)

  pub renamed_twice : (s : State) → renamed both s ≡ renamed then (renamed first s)
  renamed_twice s = rw (cells_twice s.cells, tasks_twice s.tasks, clients_twice s.clients)

-- ---- names that nothing in a state says

module _ (names : ℕ → ℕ) where
  -- the names in use stay as they are
  abbrev Spares : List Cell → Type 0
  Spares cs = (n : ℕ) → named cs n ≢ None → names n ≡ n

  -- and so do the places that own
  abbrev SparesPlaces : List Cell → Type 0
  SparesPlaces cs = (q : Place) → held cs q ≢ None → renamed_place names q ≡ q

  -- the messages that wait in a queue stay too
  queue_spared : (es : List Asked) → ((c m : ℕ) → list_any (is_message_of c m) es ≡ true → names m ≡ m) → renamed_queue names es ≡ es
  queue_spared [] sent_so = refl
  queue_spared (Connect_of d ∷ es) sent_so = ap (λ l. Connect_of d ∷ l) (queue_spared es sent_so)
  queue_spared (Close_of d ∷ es) sent_so = ap (λ l. Close_of d ∷ l) (queue_spared es sent_so)
  queue_spared (Message_of d k ∷ es) sent_so = rw (sent_so d k (rw (eq-eqb d d refl, eq-eqb k k refl)), queue_spared es later)
    where
      later : (c m : ℕ) → list_any (is_message_of c m) es ≡ true → names m ≡ m
      later c m h = sent_so c m (grind arith)

  -- and those that wait anywhere
  abbrev SparesSent : List Cell → Type 0
  SparesSent cs = (n c m : ℕ) → list_any (is_message_of c m) (service_of cs n).queue ≡ true → names m ≡ m

  sent_first : (c : Cell) (cs : List Cell) → SparesSent (c ∷ cs) → (d m : ℕ) → list_any (is_message_of d m) c.service.queue ≡ true → names m ≡ m
  sent_first c cs sent_so d m h = sent_so c.object.name d m (grind (arith, nat_tests, eq-eqb))

  sent_on : (c : Cell) (cs : List Cell) → named cs c.object.name ≡ None → SparesSent (c ∷ cs) → SparesSent cs
  sent_on c cs alone sent_so n d m h = go (c.object.name == n) refl
    where
      go : (b : Bool) → (c.object.name == n) ≡ b → names m ≡ m
      go true e =
          let none = ap (λ k. service_of cs k) (sym (eqb-true c.object.name n e)) ∙ service_unnamed cs c.object.name alone in
          absurd (true≢false (sym h ∙ ap (λ v. list_any (is_message_of d m) v.queue) none))
      go false e = sent_so n d m (ap (λ b. list_any (is_message_of d m) (cond b c.service (service_of cs n)).queue) e ∙ h)

  cells_spared : (cs : List Cell) → NoDuplicates cs → Spares cs → SparesPlaces cs → SparesSent cs → renamed_cells names cs ≡ cs
  cells_spared [] no_duplicates named_so held_so sent_so = refl
  cells_spared (c ∷ cs) no_duplicates named_so held_so sent_so = rw (
    named_so c.object.name (grind (arith, nat_tests, eq-eqb)),
    held_so c.owner (grind (arith, nat_tests, same_place_refl)),
    queue_spared c.service.queue (sent_first c cs sent_so),
    cells_spared cs no_duplicates.2 (λ n some. named_so n (grind arith)) (λ q some. held_so q (grind arith)) (sent_on c cs no_duplicates.1 sent_so),
  )

  -- clients by what each is at
  clients_spared : (clients : List Client) → ((c : ℕ) → renamed_client names (client_at clients c) ≡ client_at clients c) → renamed_clients names clients ≡ clients
  clients_spared [] so = refl
  clients_spared (x ∷ xs) so = rw (so zero, clients_spared xs (λ c. so (suc c)))

  module _ (p : Image) (t : Typing) (cs : List Cell) (named_so : Spares cs) (held_so : SparesPlaces cs) where
    receiver_spared : (ls : List Layer) (h : Receiver) → ReceiverIsHeld p cs ls h → renamed_receiver names h ≡ h
    receiver_spared ls x receiver_held = grind arith

    -- the session that serves
    dispatch_spared : (d : Dispatch) (owned_chain : List OwnedObject) → IsOwnedChain cs owned_chain → OwnedFirst cs (owned_object_of d) owned_chain → IsAtPlace cs (Some d) → renamed_dispatch names d ≡ d
    dispatch_spared x owned_chain sit h at = grind (arith, nat_tests, held_named)

    tasks_spared : (ls : List Layer) (back : Back) → Stack p t cs back ls → IsAtPlace cs (dispatch_of (tasks_of ls)) →
        renamed_tasks names (tasks_of ls) ≡ tasks_of ls
    tasks_spared [] back k at = refl
    tasks_spared (Method fr sh ∷ ls) back k at = rw (receiver_spared ls fr.receiver k.2, tasks_spared ls (Returns fr.method fr.receiver) k.4 at)
    tasks_spared (Mark gv ∷ ls) back k at = rw (tasks_spared ls (Caught gv) k.1 at)
    tasks_spared (Dying o ∷ ls) back k at = rw (tasks_spared ls Gone k.2 at)
    tasks_spared (Ending o left ∷ ls) back k at = rw (tasks_spared ls Now k.3 at)
    tasks_spared (Unwinding code es ∷ ls) back k at = rw (tasks_spared ls Leaves k.1 at)
    tasks_spared (Dispatching d owned_chain ∷ ls) back k at = rw (dispatch_spared d owned_chain k.2 k.3 at, k.1)

-- the dispatch that stands below all is at hand
pub dispatch_at : (ts : List Task) (d : Dispatch) → dispatch_of ts ≡ Some d → IsAt d ts
dispatch_at [] d e = cc
dispatch_at (Dispatched x ∷ ts) d e = same_Some x d e
dispatch_at (_ ∷ ts) d e = dispatch_at ts d e

-- what accepts a client is the server of that name, with that client
pub record IsAccepting (n c : ℕ) (d : Option Dispatch) : Type 0 where
  pub owned_object : OwnedObject
  pub client : ℕ
  pub stage : Stage
  pub is : d ≡ Some (Of_server owned_object client stage)
  pub name : owned_object.object.name ≡ n

pub accepting : (n c : ℕ) (d : Option Dispatch) → accepts n c d ≡ true → IsAccepting n c d
accepting n c d h = grind (arith, nat_tests)

-- nor do its sessions and its queue
session_declared : (p : Image) (cs : List Cell) (n c : ℕ) → named cs n ≡ None → declared p cs (Elsewhere (Session n c)) ≡ Null
session_declared p cs n c e = ap (λ v. cond (has_session v c) (filled (session_thing p (named cs n)) Full) Null) (service_unnamed cs n e)

session_null : (p : Image) (t : Typing) (cs : List Cell) (ls : List Layer) (back : Back) (n c : ℕ) → Stack p t cs back ls → named cs n ≡ None →
    claim p (declared p cs) ls (Elsewhere (Session n c)) ≡ Null
session_null p t cs [] back n c k e = session_declared p cs n c e
session_null p t cs (Method fr sh ∷ ls) back n c k e = session_null p t cs ls (Returns fr.method fr.receiver) n c k.4 e
session_null p t cs (Mark gv ∷ ls) back n c k e = session_null p t cs ls (Caught gv) n c k.1 e
session_null p t cs (Dying o ∷ ls) back n c k e = ap (cond (o.name == n) Null) (session_null p t cs ls Gone n c k.2 e) ∙ cond_same (o.name == n) Null
session_null p t cs (Ending o left ∷ ls) back n c k e = grind (arith, nat_tests, ne_eqb o.name n, session_null p t cs ls Now n c k.3 e)
session_null p t cs (Unwinding code es ∷ ls) back n c k e = session_null p t cs ls Leaves n c k.1 e
session_null p t cs (Dispatching d owned_chain ∷ ls) back n c k e = by_dispatch d (grind (arith, nat_tests, session_declared))
  where
    by_dispatch : (d : Dispatch) → claim p (declared p cs) ls (Elsewhere (Session n c)) ≡ Null →
        by_close d n c (claim p (declared p cs) ls (Elsewhere (Session n c))) ≡ Null
    by_dispatch (Of_server x client Disconnects) null = ap (cond ((x.object.name == n) && (client == c)) Null) null
        ∙ cond_same ((x.object.name == n) && (client == c)) Null
    by_dispatch _ null = null

unclaimed_owns_nothing : (p : Image) (t : Typing) (cs : List Cell) (ls : List Layer) (o : Other) → Good p t cs ls →
    claim p (declared p cs) ls (Elsewhere o) ≡ Null → held cs (Elsewhere o) ≡ None
unclaimed_owns_nothing p t cs ls o good null = grind (arith, nat_tests, fits_unowning)

-- ---- a renaming of names that are not in use

module _ (p : Image) (t : Typing) (s : State) (names : ℕ → ℕ) (well : WellTyped p t s) (fit : ClientsFit p s.clients s.cells) (there : AllThere s)
    (named_so : (n : ℕ) → named s.cells n ≢ None → names n ≡ n) where
  -- what a place holds has a name
  waiting_so : (n m : ℕ) → held s.cells (Elsewhere (Queued n m)) ≢ None → names m ≡ m
  waiting_so n m some = grind (arith, nat_tests, held_named)

  other_so : (o : Other) → held s.cells (Elsewhere o) ≢ None → renamed_other names o ≡ o
  other_so Root some = refl
  other_so (Session n c) some = ap (λ k. Session k c) (named_so n
      (λ e. some (unclaimed_owns_nothing p t s.cells well.layers (Session n c) well.good (session_null p t s.cells well.layers Now n c well.good.stack e))))
  other_so In_service some = refl
  other_so (Queued n m) some = grind (arith, nat_tests, unclaimed_owns_nothing, waiting_so, queued_claim, service_unnamed)

  held_so : (q : Place) → held s.cells q ≢ None → renamed_place names q ≡ q
  held_so x some = grind (arith, nat_tests, claim_unnamed, fits_unowning, other_so)

  -- what a client sent waits under its name
  sent_so : (n c m : ℕ) → list_any (is_message_of c m) (service_of s.cells n).queue ≡ true → names m ≡ m
  sent_so n c m h = grind (arith, nat_tests, waiting_so n m, queued_well p t s well s.clients fit n c m h)

  -- of what clients have anything a cell has the name
  served_so : (n : ℕ) → (service_of s.cells n ≡ unserved → ⊥) → names n ≡ n
  served_so n some = named_so n (λ e. some (service_unnamed s.cells n e))

  session_so : (n c : ℕ) → server_of (client_at s.clients c) ≡ Some n → names n ≡ n
  session_so n c e = served_so n (λ none. true≢false (sym (fit.listed n c e) ∙ ap (λ v. has_session v c) none))

  accepted_so : (n c : ℕ) (ts : List Task) → s.tasks ≡ ts → accepts n c (dispatch_of ts) ≡ true → names n ≡ n
  accepted_so n c ts tasks h =
      let a = accepting n c (dispatch_of ts) h in
      let l = server_lives p t s.cells well.layers Now a.owned_object a.client a.stage well.good.stack
      (subst (λ l. IsAt (Of_server a.owned_object a.client a.stage) l) (sym tasks ∙ well.tasks) (dispatch_at ts (Of_server a.owned_object a.client a.stage) a.is)) in
      subst (λ k. names k ≡ k) a.name (named_so a.owned_object.object.name (λ none. let clash : Some a.owned_object.object ≡ None = sym l.0 ∙ none in cc))

  connect_so : (n c : ℕ) → is_connecting_at n (client_at s.clients c) ≡ true → names n ≡ n
  connect_so n c e = grind (arith, nat_tests, served_so n, accepted_so n c s.tasks)

  client_so : (c : ℕ) (x : Client) → client_at s.clients c ≡ x → renamed_client names x ≡ x
  client_so c (Connecting server slots) e = rw (connect_so server c (ap (is_connecting_at server) e ∙ eq-eqb server server refl))
  client_so c (Open server session slots) e = rw (session_so server c (ap server_of e))
  client_so c (Closing_client server session) e = rw (session_so server c (ap server_of e))
  client_so c (Dying_client server session) e = rw (session_so server c (ap server_of e))
  client_so c _ e = refl

  spared_tasks : renamed_tasks names s.tasks ≡ s.tasks
  spared_tasks = ap (renamed_tasks names) well.tasks
      ∙ tasks_spared names p t s.cells named_so held_so well.layers Now well.good.stack (grind (arith, nat_tests)) ∙ sym well.tasks

  pub spared : renamed names s ≡ s
  spared = rw (cells_spared names s.cells well.good.no_duplicates named_so held_so sent_so, spared_tasks, clients_spared names s.clients (λ c. client_so c (client_at s.clients c) refl))

-- two names that are free change places, and nothing changes
pub swapped_free : (p : Image) (t : Typing) (s : State) (a b : ℕ) →
    WellTyped p t s → ClientsFit p s.clients s.cells → AllThere s → named s.cells a ≡ None → named s.cells b ≡ None → renamed (swapped a b) s ≡ s
swapped_free p t s a b well fit there free_a free_b = grind (arith, nat_tests, spared p t s (swapped a b) well fit there, swapped a b, swap_other a b)
