-- A client that closes or dies leaves what is kept: its messages that wait go, and where its session was open a close is asked last.
use Rattle.std.proofs.lemmas.Bool.Decides.{nat_tests}
use Rattle.std.proofs.Math.Bool.{and-false}
use Rattle.std.proofs.Common.{[], Bool, List, None, Option, Some, ap, arith, false, refl, subst, sym, true, ℕ, ◌&&◌, ◌+◌, ◌==◌, ◌∙◌, ◌∷◌, ◌≡◌}
use Rattle.std.proofs.lemmas.Bool.{eq-eqb, eqb-true, ne_eqb}
use Rattle.std.specs.List.{list_any}
use Rattle.std.specs.Prelude.{filter, is_some}
use Rattle.aom_image.specs.Image.{Image}
use Rattle.aom_clients.specs.Nodes.{is_leaving}
use Rattle.aom_clients.specs.Table.{server_of}
use Rattle.aom_clients.specs.declared.client.Client.{Client}
use Rattle.aom_safety.proofs.ClientsAsk.{fit_asked}
use Rattle.aom_safety.proofs.ClientsFit.{Changes, listed_changed, sessions_changed}
use Rattle.aom_safety.proofs.ClientsSteady.{Carried, carried_filtered_cells, fit_eased, quiet_waiting}
use Rattle.aom_safety.proofs.Queues.{client_here, client_of, entry_other, is_of, none_stays, queue_other, queue_stays}
use Rattle.aom_safety.proofs.OwnedPlaced.{owned_objects_asked, owned_objects_left}
use Rattle.aom_safety.proofs.FilteredCells.{cell_of_filtered_cells, kept, cell_of, service_cell, service_gone, service_in, service_filtered_cells, filtered_cells, withdrawn_so}
use Rattle.aom_safety.proofs.Sources.{discarded_one, discarded_some}
use Rattle.aom_semantics.specs.Clients.{client_at, with_client}
use Rattle.aom_safety.specs.Kept.{ClientsFit, QueueFits, is_close_of, is_message_of, one_if_some}
use Rattle.aom_semantics.specs.Places.{Asked, Cell, Close_of, Elsewhere, Object, Place, Queued, Sender}
use Rattle.aom_semantics.specs.Places.{Service, NoDuplicates, held, named, service_of, unserved, requested}
use Rattle.aom_semantics.specs.Servers.{asked_last, discarded, reserved, is_from, is_queue, is_server, left_by, stays, withdrawn}

-- ---- lists

-- the messages of another stay, and are no more than there were
message_stays : (c d m : ℕ) (es : List Asked) → list_any (is_message_of d m) (filter (stays c) es) ≡ true →
    ((c == d) ≡ false) × (list_any (is_message_of d m) es ≡ true)
message_stays c d m [] h = cc
message_stays c d m (e ∷ es) h = grind (arith, nat_tests, message_stays c d m es)

-- a client that is leaving or at no server has nothing but its closes there
none_but_close : (c : ℕ) (es : List Asked) → list_any (is_close_of c) es ≡ false → list_any (is_of c) (filter (stays c) es) ≡ false
none_but_close c [] none = refl
none_but_close c (e ∷ es) none = grind (arith, nat_tests, none_but_close c es, is_of c e, ne_eqb c, eq-eqb, is_of c)

-- so that what is left of a queue fits whatever it is at then
pub queue_left : (clients : List Client) (c n : ℕ) (to : Client) (es : List Asked) → list_any (is_close_of c) es ≡ false → QueueFits clients n es →
    QueueFits (with_client c to clients) n (filter (stays c) es)
queue_left clients c n to es none fits = queue_other c n to clients (filter (stays c) es) (none_but_close c es none) (queue_stays clients n (stays c) es fits)

-- or where it is leaving still
pub queue_leaving : (clients : List Client) (c n : ℕ) (to : Client) → (is_leaving n (client_at clients c) ≡ true → is_leaving n to ≡ true) → (es : List Asked) →
    QueueFits clients n es → QueueFits (with_client c to clients) n (filter (stays c) es)
queue_leaving clients c n to still [] fits = tt
queue_leaving clients c n to still (e ∷ es) fits = grind (
  arith,
  nat_tests,
  queue_leaving clients c n to still es fits.1,
  client_of e,
  eq-eqb,
  client_here c to clients,
  is_of c e,
  eqb-true c (client_of e),
  entry_other c n to clients e,
  none_stays,
)

-- ---- the cells

from_kept : (c d : ℕ) (x : Option Sender) → is_from d x ≡ true → is_from d (discarded c x) ≡ true
from_kept c d x h = grind arith

from_other : (c d : ℕ) (x : Option Sender) → (c == d) ≡ false → is_from d x ≡ true → is_from c x ≡ false
from_other c d x other h = grind arith

module _ (p : Image) (clients : List Client) (cs : List Cell) (no_duplicates : NoDuplicates cs) (fit : ClientsFit p clients cs) (c : ℕ)
    (waiting : (n m : ℕ) (o : Object) → held cs (Elsewhere (Queued n m)) ≡ Some o → is_server p o.thing ≡ false) where
  abbrev drops : Cell → Bool
  drops x = is_queue x.owner && is_from c x.service.sender

  abbrev left : Cell → Service
  left x = left_by c x.service

  -- what goes is a message that waits, of which clients have nothing
  pub empty : (n : ℕ) (x : Cell) → cell_of cs n ≡ Some x → drops x ≡ true → (x.service.queue ≡ []) × (x.service.sessions ≡ [])
  empty n x e goes = go x.owner refl goes
    where
      go : (q : Place) → x.owner ≡ q → (is_queue q && is_from c x.service.sender) ≡ true → (x.service.queue ≡ []) × (x.service.sessions ≡ [])
      go (Elsewhere (Queued k m)) at g = quiet_waiting p clients cs no_duplicates fit waiting n x e k m at
      go _ at g = cc

  -- so that each queue loses its entries alone, and sessions stay
  pub service_left : (n : ℕ) → ((service_of (withdrawn c cs) n).queue ≡ filter (stays c) (service_of cs n).queue)
      × ((service_of (withdrawn c cs) n).sessions ≡ (service_of cs n).sessions)
  service_left n = go (cell_of cs n) refl
    where
      then : service_of (withdrawn c cs) n ≡ service_of (filtered_cells drops left cs) n
      then = ap (λ l. service_of l n) (withdrawn_so c cs)

      at : (x : Cell) → cell_of cs n ≡ Some x → (b : Bool) → drops x ≡ b → ((service_of (withdrawn c cs) n).queue ≡ filter (stays c) (service_of cs n).queue)
          × ((service_of (withdrawn c cs) n).sessions ≡ (service_of cs n).sessions)
      at x e true d =
          let none = empty n x e d in
          let was : service_of cs n ≡ x.service = service_cell cs n ∙ ap service_in e in
          let now : service_of (withdrawn c cs) n ≡ unserved = then ∙ service_gone drops left cs n no_duplicates x e d in (
            ap (λ v. v.queue) now ∙ sym (ap (λ q. filter (stays c) q) (ap (λ v. v.queue) was ∙ none.0)),
            ap (λ v. v.sessions) now ∙ sym (ap (λ v. v.sessions) was ∙ none.1),
          )
      at x e false d =
          let was : service_of cs n ≡ x.service = service_cell cs n ∙ ap service_in e in
          let now : service_of (withdrawn c cs) n ≡ left_by c x.service = then ∙ service_filtered_cells drops left cs no_duplicates n x e d in (
            ap (λ v. v.queue) now ∙ ap (λ v. filter (stays c) v.queue) (sym was),
            ap (λ v. v.sessions) now ∙ ap (λ v. v.sessions) (sym was),
          )

      go : (x : Option Cell) → cell_of cs n ≡ x → ((service_of (withdrawn c cs) n).queue ≡ filter (stays c) (service_of cs n).queue)
          × ((service_of (withdrawn c cs) n).sessions ≡ (service_of cs n).sessions)
      go None e =
          let was : service_of cs n ≡ unserved = service_cell cs n ∙ ap service_in e in
          let now : service_of (withdrawn c cs) n ≡ unserved = then ∙ service_cell (filtered_cells drops left cs) n
          ∙ ap service_in (cell_of_filtered_cells drops left cs n no_duplicates ∙ ap (λ y. kept drops left y) e) in
          (ap (λ v. v.queue) now ∙ sym (ap (λ v. filter (stays c) v.queue) was), ap (λ v. v.sessions) now ∙ sym (ap (λ v. v.sessions) was))
      go (Some x) e = at x e (drops x) refl

  -- a message of another client has its sender still
  sender_left : (d m : ℕ) → (c == d) ≡ false → is_from d (service_of cs m).sender ≡ true → is_from d (service_of (withdrawn c cs) m).sender ≡ true
  sender_left d m other h =
      grind (arith, nat_tests, cell_of cs m, service_cell cs m, service_in, from_other, and-false, withdrawn_so, service_filtered_cells, from_kept)

  -- the client is at something else then, and asks for nothing more
  module _ (to : Client) (session : server_of to ≡ server_of (client_at clients c))
      (queues : (n : ℕ) → QueueFits (with_client c to clients) n (filter (stays c) (service_of cs n).queue)) where
    pub fit_withdrawn : ClientsFit p (with_client c to clients) (withdrawn c cs)
    fit_withdrawn = fit_eased p clients (with_client c to clients) cs (withdrawn c cs) fit record {
      carried = subst (Carried cs) (sym (withdrawn_so c cs)) (carried_filtered_cells drops left
          (λ x. ap (λ k. k + one_if_some x.service.token) (discarded_one c x.service.sender)) (λ x. discarded_some c x.service.sender) cs no_duplicates);
      queues = λ n. subst (λ q. QueueFits (with_client c to clients) n q) (sym (service_left n).0) (queues n);
      sessions = sessions_changed p c to clients cs (withdrawn c cs) fit now;
      listed = listed_changed p c to clients cs (withdrawn c cs) fit now;
      senders = λ n d m h. let parts = message_stays c d m (service_of cs n).queue (ap (λ q. list_any (is_message_of d m) q) (sym (service_left n).0) ∙ h) in
          sender_left d m parts.0 (fit.senders n d m parts.1);
      quiet = λ n none. ((service_left n).0 ∙ ap (λ q. filter (stays c) q) none.0, (service_left n).1 ∙ none.1);
      owned_chain = λ n. owned_objects_left c (service_of (withdrawn c cs) n) (service_of cs n) (service_left n).0 (service_left n).1;
    }
      where
        now : Changes c to cs (withdrawn c cs)
        now = record {
          others = λ n d other. ap (λ xs. list_any (λ k. k == d) xs) (service_left n).1;
          has = λ n h. session ∙ fit.sessions n c (sym (ap (λ xs. list_any (λ k. k == c) xs) (service_left n).1) ∙ h);
          listed = λ n h. ap (λ xs. list_any (λ k. k == c) xs) (service_left n).1 ∙ fit.listed n c (sym session ∙ h);
        }

-- ---- a close is asked last

module _ (p : Image) (clients : List Client) (cs : List Cell) (fit : ClientsFit p clients cs) (o : Object) (lives : named cs o.name ≡ Some o)
    (serves : is_server p o.thing ≡ true) (listed : is_some (requested cs o.name) ≡ true) (c : ℕ) where
  pub fit_reported : is_leaving o.name (client_at clients c) ≡ true → list_any (is_close_of c) (service_of cs o.name).queue ≡ false →
      ClientsFit p clients (reserved (asked_last (Close_of c)) o.name cs)
  fit_reported leaves new = grind (arith, nat_tests, fit_asked p clients cs fit o lives serves listed (Close_of c) leaves new, owned_objects_asked (Close_of c))
