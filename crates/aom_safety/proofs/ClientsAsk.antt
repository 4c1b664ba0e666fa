-- What a client asks of a server, and what it sends, is kept: by the entry that is queued last.
use Rattle.std.proofs.lemmas.Bool.Decides.{nat_tests}
use Rattle.std.proofs.Math.Bool.{or-false}
use Rattle.std.proofs.Common.{[], Bool, List, None, Option, Some, ap, arith, cond, false, refl, sym, true, ℕ, ◌<◌, ◌∙◌, ◌∷◌, ◌≡◌, ◌≤◌}
use Rattle.std.proofs.lemmas.Bool.{eq-eqb, eqb-true, le-ltb, ne_eqb, ltb-true}
use Rattle.std.proofs.lemmas.List.Folds.{list_any-append}
use Rattle.std.specs.List.{list_any}
use Rattle.std.specs.Prelude.{is_some, nat_lt, ◌||◌}
use Rattle.aom_image.specs.Image.{Image}
use Rattle.aom_image.specs.declared.class.ClassKind.{ClassKind}
use Rattle.aom_image.specs.declared.method.Thing.{Thing}
use Rattle.aom_clients.specs.Nodes.{is_connecting_at, is_open_at}
use Rattle.aom_clients.specs.Table.{row, server_of}
use Rattle.aom_clients.specs.declared.client.Client.{Client}
use Rattle.aom_clients.specs.declared.client.Client.TheVariants.{Connecting}
use Rattle.aom_clients.specs.declared.refusal.CommandRefusal.{CommandRefusal}
use Rattle.aom_roles.specs.Classes.{sessions_in, sessions_of}
use Rattle.aom_roles.specs.Shapes.{kind_of}
use Rattle.aom_safety.proofs.ClientsFit.{Changes, IsFree, by_server, fit_reserved, listed_changed, none_of_free, sessions_changed}
use Rattle.aom_safety.proofs.Queues.{client_here, none_passes, queue_last, queue_other}
use Rattle.aom_safety.proofs.OwnedPlaced.{owned_objects_asked}
use Rattle.aom_semantics.specs.Clients.{Listed, among_listed, asked_of, asked_server, client_at, earlier, first_listed, is_of_class, most_of, with_client}
use Rattle.aom_semantics.specs.Requests.{thing_kind}
use Rattle.aom_safety.specs.Kept.{ClientsFit, EntryFits, QueueFits, is_connect_of, is_message_of, asked_again}
use Rattle.aom_semantics.specs.Places.{Asked, Cell, Connect_of, Message_of, Object, Request, Service, NoDuplicates, named, service_of, requested}
use Rattle.aom_semantics.specs.Servers.{asked_last, has_session, is_from, is_message, is_server, reserved, sessions_in_use}

-- ---- the server that is asked stands, and is one

abbrev pub IsListed : ℕ → List Cell → Listed → Type 0
IsListed class cs x = (o : Object) × (o.name ≡ x.name) × (named cs o.name ≡ Some o) × (is_of_class class o.thing ≡ true) × (is_some (requested cs o.name) ≡ true)

module _ (class : ℕ) (c : Cell) (cs : List Cell) (t : NoDuplicates (c ∷ cs)) (x : Listed) (rest : first_listed class cs ≡ Some x → IsListed class cs x) where
  later : IsListed class cs x → IsListed class (c ∷ cs) x
  later l = grind (arith, nat_tests, ne_eqb c.object.name l.0.name)

  among : (others : Option Listed) → first_listed class cs ≡ others → others ≡ Some x → IsListed class (c ∷ cs) x
  among others same e = later (rest (same ∙ e))

  abbrev me : ℕ → Listed
  me order = record { name = c.object.name; order = order }

  here : (order : ℕ) → is_of_class class c.object.thing ≡ true → is_some c.request ≡ true → me order ≡ x → IsListed class (c ∷ cs) x
  here order of listed same = (
    c.object,
    ap (λ y. y.name) same,
    ap (λ b. cond b (Some c.object) (named cs c.object.name)) (eq-eqb c.object.name c.object.name refl),
    of,
    ap (λ b. is_some (cond b c.request (requested cs c.object.name))) (eq-eqb c.object.name c.object.name refl) ∙ listed,
  )

  first : (order : ℕ) → is_of_class class c.object.thing ≡ true → is_some c.request ≡ true → (others : Option Listed) → first_listed class cs ≡ others →
      Some (earlier (me order) others) ≡ Some x → IsListed class (c ∷ cs) x
  first order of listed y same e = grind (arith, nat_tests, here order of listed, among)

  of_class : (order : ℕ) → is_some c.request ≡ true → (b : Bool) → is_of_class class c.object.thing ≡ b →
      cond b (Some (earlier (me order) (first_listed class cs))) (first_listed class cs) ≡ Some x → IsListed class (c ∷ cs) x
  of_class order listed true of e = first order of listed (first_listed class cs) refl e
  of_class order listed false of e = among (first_listed class cs) refl e

  of_request : (r : Option Request) → c.request ≡ r → among_listed class c.object r (first_listed class cs) ≡ Some x → IsListed class (c ∷ cs) x
  of_request y is e = grind (arith, nat_tests, among, of_class)

pub listed_there : (class : ℕ) (cs : List Cell) (x : Listed) → NoDuplicates cs → first_listed class cs ≡ Some x → IsListed class cs x
listed_there class [] x t e = cc
listed_there class (c ∷ cs) x t e = of_request class c cs t x (λ e. listed_there class cs x t.2 e) c.request refl e

-- who is asked is the first that is enlisted
asked_listed : (p : Image) (class : ℕ) (cs : List Cell) (x : Listed) → asked_server p class cs ≡ Some x → first_listed class cs ≡ Some x
asked_listed p class cs x = grind (arith, nat_tests)

pub asked_there : (p : Image) (class : ℕ) (cs : List Cell) (x : Listed) → NoDuplicates cs → asked_server p class cs ≡ Some x → IsListed class cs x
asked_there p class cs x t e = listed_there class cs x t (asked_listed p class cs x e)

-- a class that takes sessions is of servers
takes_some : (k : Option ClassKind) (n : ℕ) → nat_lt n (most_of k) ≡ true → is_some (sessions_in k) ≡ true
unfolding sessions_in sessions_of
takes_some x n e = grind (arith, nat_tests, le-ltb n 0)

pub listed_serves : (p : Image) (class n : ℕ) (x : Thing) → is_of_class class x ≡ true → nat_lt n (most_of (kind_of p (Some class))) ≡ true → is_server p x ≡ true
listed_serves p class n x of room = grind (arith, eqb-true, takes_some)

-- and so it has a seat left
pub listed_room : (p : Image) (class : ℕ) (v : Service) (x : Thing) → is_of_class class x ≡ true →
    nat_lt (sessions_in_use v) (most_of (kind_of p (Some class))) ≡ true → sessions_in_use v < most_of (thing_kind p x)
listed_room p class v x of room = grind (arith, eqb-true, ltb-true)

-- a connect that is not refused
pub asked_none : (r : Option CommandRefusal) (most : ℕ) (x : Listed) (cs : List Cell) → asked_of r most (Some x) cs ≡ None →
    (r ≡ None) × (nat_lt (sessions_in_use (service_of cs x.name)) most ≡ true)
asked_none y most x cs e = grind arith

pub connects_free : (k : Client) → (row k).connect ≡ None → IsFree k
connects_free x e = grind arith

-- ---- one more entry waits at a server

module _ (p : Image) (clients : List Client) (cs : List Cell) (fit : ClientsFit p clients cs) (o : Object) (lives : named cs o.name ≡ Some o) where
  -- which is of its sender, where it is a message
  senders_asked : (e : Asked) → ((d m : ℕ) → is_message_of d m e ≡ true → is_from d (service_of cs m).sender ≡ true) →
      (d m : ℕ) → list_any (is_message_of d m) (asked_last e (service_of cs o.name)).queue ≡ true → is_from d (service_of cs m).sender ≡ true
  senders_asked e own d m h = last d m (list_any (is_message_of d m) (service_of cs o.name).queue) refl
      (sym (list_any-append (is_message_of d m) (service_of cs o.name).queue (e ∷ [])) ∙ h)
    where
      last : (d m : ℕ) (b : Bool) → list_any (is_message_of d m) (service_of cs o.name).queue ≡ b → (b || (is_message_of d m e || false)) ≡ true →
          is_from d (service_of cs m).sender ≡ true
      last d m true at h = fit.senders o.name d m at
      last d m false at h = own d m (sym (or-false (is_message_of d m e)) ∙ h)

  -- with clients that are at what they were
  pub fit_asked : is_server p o.thing ≡ true → is_some (requested cs o.name) ≡ true → (e : Asked) → EntryFits clients o.name e →
      list_any (asked_again e) (service_of cs o.name).queue ≡ false → ((d m : ℕ) → is_message_of d m e ≡ true → is_from d (service_of cs m).sender ≡ true) →
      sessions_in_use (asked_last e (service_of cs o.name)) ≤ most_of (thing_kind p o.thing) → ClientsFit p clients (reserved (asked_last e) o.name cs)
  fit_asked serves listed e entry new own room = fit_reserved p clients cs fit o lives serves listed (asked_last e) clients refl refl (by_server cs o lives
      (asked_last e) (λ n v. QueueFits clients n v.queue) (queue_last clients o.name e (service_of cs o.name).queue entry new (fit.queues o.name))
      (λ n other. fit.queues n)) (by_server cs o lives (asked_last e) (λ n v. (d : ℕ) → has_session v d ≡ true → server_of (client_at clients d) ≡ Some n)
      (fit.sessions o.name) (λ n other. fit.sessions n)) (by_server cs o lives (asked_last e) (λ n v. (d : ℕ) → server_of (client_at clients d) ≡ Some n →
      has_session v d ≡ true) (fit.listed o.name) (λ n other. fit.listed n)) (senders_asked e own) room

module _ (p : Image) (clients : List Client) (cs : List Cell) (fit : ClientsFit p clients cs) (o : Object) (lives : named cs o.name ≡ Some o)
    (serves : is_server p o.thing ≡ true) (listed : is_some (requested cs o.name) ≡ true) (c : ℕ) where
  -- ---- a connect

  pub fit_connecting : (slots : ℕ) → IsFree (client_at clients c) → sessions_in_use (service_of cs o.name) < most_of (thing_kind p o.thing) →
      ClientsFit p (with_client c (Connecting o.name slots) clients) (reserved (asked_last (Connect_of c)) o.name cs)
  fit_connecting slots free room = fit_reserved p clients cs fit o lives serves listed (asked_last (Connect_of c)) (with_client c (Connecting o.name slots)
      clients) refl refl (by_server cs o lives (asked_last (Connect_of c)) (λ n v. QueueFits (with_client c (Connecting o.name slots) clients) n v.queue)
      (queue_last (with_client c (Connecting o.name slots) clients) o.name (Connect_of c) (service_of cs o.name).queue entry
      (none_passes (is_connect_of c) clients o.name never (service_of cs o.name).queue (fit.queues o.name)) (queues o.name)) (λ n e. queues n))
      (sessions_changed p c (Connecting o.name slots) clients cs (reserved (asked_last (Connect_of c)) o.name cs) fit now)
      (listed_changed p c (Connecting o.name slots) clients cs (reserved (asked_last (Connect_of c)) o.name cs) fit now) (senders_asked p clients cs fit o lives
      (Connect_of c) (λ d m h. cc)) (let one = owned_objects_asked (Connect_of c) (service_of cs o.name) in omega (arith, room, one))
    where
      queues : (n : ℕ) → QueueFits (with_client c (Connecting o.name slots) clients) n (service_of cs n).queue
      queues n = queue_other c n (Connecting o.name slots) clients (service_of cs n).queue
          (none_of_free clients c n free (service_of cs n).queue (fit.queues n)) (fit.queues n)

      entry : is_connecting_at o.name (client_at (with_client c (Connecting o.name slots) clients) c) ≡ true
      entry = ap (λ x. is_connecting_at o.name x) (client_here c (Connecting o.name slots) clients) ∙ eq-eqb o.name o.name refl

      never : (e : Asked) → is_connect_of c e ≡ true → EntryFits clients o.name e → ⊥
      never x at f = grind arith

      unlisted : (n : ℕ) → has_session (service_of cs n) c ≡ true → None ≡ Some n
      unlisted n h = sym free.alone ∙ fit.sessions n c h

      now : Changes c (Connecting o.name slots) cs (reserved (asked_last (Connect_of c)) o.name cs)
      now = record {
        others = λ n d e. by_server cs o lives (asked_last (Connect_of c)) (λ n v. has_session v d ≡ has_session (service_of cs n) d) refl (λ n other. refl) n;
        has = by_server cs o lives (asked_last (Connect_of c)) (λ n v. has_session v c ≡ true → server_of (Connecting o.name slots) ≡ Some n)
            (λ h. unlisted o.name h) (λ n other h. unlisted n h);
        listed = λ n h. cc;
      }

-- ---- a message

module _ (p : Image) (clients : List Client) (cs : List Cell) (fit : ClientsFit p clients cs) (o : Object) (lives : named cs o.name ≡ Some o)
    (serves : is_server p o.thing ≡ true) (listed : is_some (requested cs o.name) ≡ true) (c m : ℕ) where
  -- it is queued where its client has its session open, and stands already
  pub fit_sent : is_open_at o.name (client_at clients c) ≡ true → list_any (is_message m) (service_of cs o.name).queue ≡ false →
      is_from c (service_of cs m).sender ≡ true → ClientsFit p clients (reserved (asked_last (Message_of c m)) o.name cs)
  fit_sent open_there new from = grind (
    arith,
    nat_tests,
    fit_asked p clients cs fit o lives serves listed (Message_of c m) open_there new,
    owned_objects_asked (Message_of c m),
    eqb-true m,
    eqb-true c,
  )
