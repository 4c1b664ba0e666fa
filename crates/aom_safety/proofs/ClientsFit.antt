-- Clients and what they have at servers say the same where one client is at something else: by its entries, its session, and those of all others.
use Rattle.std.proofs.lemmas.Bool.Decides.{nat_tests}
use Rattle.std.proofs.Math.Bool.{or-false, or-true}
use Rattle.std.proofs.Common.{[], Bool, List, None, Some, ap, arith, false, refl, subst, sym, true, ℕ, ◌<◌, ◌==◌, ◌∙◌, ◌∷◌, ◌≡◌, ◌≤◌}
use Rattle.std.proofs.lemmas.Bool.{eq-eqb, eqb-true, ne_eqb, true≢false, or_parts}
use Rattle.std.proofs.lemmas.List.Folds.{list_any-append}
use Rattle.std.proofs.lemmas.Map.Views.{any-filter_same}
use Rattle.std.specs.List.{list_any}
use Rattle.std.specs.Prelude.{not, ◌++◌, ◌||◌, is_some}
use Rattle.aom_image.specs.Image.{Image}
use Rattle.aom_clients.specs.Nodes.{is_connecting_at, is_leaving, is_open_at}
use Rattle.aom_clients.specs.Table.{server_of}
use Rattle.aom_clients.specs.declared.client.Client.{Client}
use Rattle.aom_safety.proofs.Queues.{client_here, client_of, client_there, is_of, none_passes, queue_other}
use Rattle.aom_safety.proofs.OwnedPlaced.{owned_objects_opened, owned_objects_parted}
use Rattle.aom_safety.proofs.Services.{held_served, named_served, service_here, service_there, requested_served}
use Rattle.aom_safety.proofs.Sources.{has_sender, served_as, sources_as, sources_at}
use Rattle.aom_semantics.specs.Clients.{at_opening, at_parting, client_at, most_of, with_client}
use Rattle.aom_semantics.specs.Requests.{thing_kind}
use Rattle.aom_safety.specs.Kept.{ClientsFit, EntryFits, HasSources, QueueFits, ServesSent, TasksKept, is_close_of, is_connect_of, is_message_of, sources_of}
use Rattle.aom_semantics.specs.Places.{Asked, Cell, Elsewhere, Object, Queued, Service, held, named, service_of, requested}
use Rattle.aom_semantics.specs.Servers.{has_session, is_from, is_other, is_server, opened, parted, reserved, sessions_in_use}
use Rattle.aom_semantics.specs.State.{State}

-- what is kept of a state but for its tokens
pub record IsFit (p : Image) (s : State) : Type 0 where
  pub fit : ClientsFit p s.clients s.cells
  pub stage : TasksKept p s.clients s.cells s.tasks

-- ---- what a client that connects, closes or has its session open is not

pub connecting_only : (k n : ℕ) (x : Client) → is_connecting_at k x ≡ true →
    (is_open_at n x ≡ false) × (is_leaving n x ≡ false) × (server_of x ≡ None) × (is_connecting_at n x ≡ true → k ≡ n)
connecting_only k n x e = grind arith

pub leaving_only : (k n : ℕ) (x : Client) → is_leaving k x ≡ true → (is_open_at n x ≡ false) × (is_connecting_at n x ≡ false) × (server_of x ≡ Some k)
    × (is_leaving n x ≡ true → k ≡ n)
leaving_only k n x e = grind arith

-- a client that is at no server
pub record IsFree (x : Client) : Type 0 where
  pub connects : (n : ℕ) → is_connecting_at n x ≡ false
  pub opens : (n : ℕ) → is_open_at n x ≡ false
  pub leaves : (n : ℕ) → is_leaving n x ≡ false
  pub alone : server_of x ≡ None

-- the session is closed
pub parted_free : (k : ℕ) (x : Client) → is_leaving k x ≡ true → IsFree (at_parting x)
parted_free k x e = grind arith

-- ---- its entries

module _ (clients : List Client) (c n : ℕ) where
  -- where but such an entry of it would not fit, and none is there, none of it is
  pub only_own : (own : Asked → Bool) → ((e : Asked) → c ≡ client_of e → EntryFits clients n e → own e ≡ true) → (es : List Asked) → QueueFits clients n es →
      list_any own es ≡ false → list_any (is_of c) es ≡ false
  only_own own only [] fits none = refl
  only_own own only (e ∷ es) fits none = go (is_of c e) refl (only_own own only es fits.1 (or_parts (own e) (list_any own es) none).1)
    where
      go : (b : Bool) → is_of c e ≡ b → list_any (is_of c) es ≡ false → (is_of c e || list_any (is_of c) es) ≡ false
      go true at rest = absurd (true≢false (sym (only e (eqb-true c (client_of e) at) fits.0.0) ∙ (or_parts (own e) (list_any own es) none).0))
      go false at rest = ap (λ b. b || list_any (is_of c) es) at ∙ rest

  -- of a client that is at no server
  pub none_of_free : IsFree (client_at clients c) → (es : List Asked) → QueueFits clients n es → list_any (is_of c) es ≡ false
  none_of_free free es fits = grind (arith, nat_tests, none_passes (is_of c) clients n, is_of c, eqb-true c, client_of)

  -- of one whose only entries are its own at one server, none of which is there
  none_but_own : (is_own : Asked → Bool) (k : ℕ) → ((e : Asked) → c ≡ client_of e → EntryFits clients n e → (k ≡ n) × (is_own e ≡ true)) → (es : List Asked) →
      QueueFits clients n es → (k ≡ n → list_any is_own es ≡ false) → list_any (is_of c) es ≡ false
  none_but_own is_own k entry es fits none =
      grind (arith, nat_tests, is_of c, only_own is_own, eqb-true k n, none_passes (is_of c) clients n, eq-eqb k n, eqb-true c, client_of)

  -- of one that connects
  pub none_of_connecting : (k : ℕ) → is_connecting_at k (client_at clients c) ≡ true → (es : List Asked) → QueueFits clients n es →
      (k ≡ n → list_any (is_connect_of c) es ≡ false) → list_any (is_of c) es ≡ false
  none_of_connecting k at = none_but_own (is_connect_of c) k entry
    where
      entry : (e : Asked) → c ≡ client_of e → EntryFits clients n e → (k ≡ n) × (is_connect_of c e ≡ true)
      entry e same f = grind (arith, eq-eqb, connecting_only)

  -- of one that closes
  pub none_of_leaving : (k : ℕ) → is_leaving k (client_at clients c) ≡ true → (es : List Asked) → QueueFits clients n es →
      (k ≡ n → list_any (is_close_of c) es ≡ false) → list_any (is_of c) es ≡ false
  none_of_leaving k at = none_but_own (is_close_of c) k entry
    where
      entry : (e : Asked) → c ≡ client_of e → EntryFits clients n e → (k ≡ n) × (is_close_of c e ≡ true)
      entry e same f = grind (arith, eq-eqb, leaving_only)

-- ---- one client is at something else

pub record Changes (c : ℕ) (to : Client) (cs cs' : List Cell) : Type 0 where
  pub others : (n d : ℕ) → (c == d) ≡ false → has_session (service_of cs' n) d ≡ has_session (service_of cs n) d
  pub has : (n : ℕ) → has_session (service_of cs' n) c ≡ true → server_of to ≡ Some n
  pub listed : (n : ℕ) → server_of to ≡ Some n → has_session (service_of cs' n) c ≡ true

-- so that sessions are of clients as they are then
module _ (p : Image) (c : ℕ) (to : Client) (clients : List Client) (cs cs' : List Cell) (fit : ClientsFit p clients cs) (ch : Changes c to cs cs') where
  pub sessions_changed : (n d : ℕ) → has_session (service_of cs' n) d ≡ true → server_of (client_at (with_client c to clients) d) ≡ Some n
  sessions_changed n d = go (c == d) refl
    where
      go : (b : Bool) → (c == d) ≡ b → has_session (service_of cs' n) d ≡ true → server_of (client_at (with_client c to clients) d) ≡ Some n
      go true e h = grind (arith, nat_tests, eqb-true c d e, client_here c to clients)
      go false e h = ap server_of (client_there c d to clients e) ∙ fit.sessions n d (sym (ch.others n d e) ∙ h)

  pub listed_changed : (n d : ℕ) → server_of (client_at (with_client c to clients) d) ≡ Some n → has_session (service_of cs' n) d ≡ true
  listed_changed n d = go (c == d) refl
    where
      go : (b : Bool) → (c == d) ≡ b → server_of (client_at (with_client c to clients) d) ≡ Some n → has_session (service_of cs' n) d ≡ true
      go true e h = grind (arith, nat_tests, eqb-true c d e, client_here c to clients)
      go false e h = ch.others n d e ∙ fit.listed n d (sym (ap server_of (client_there c d to clients e)) ∙ h)

-- ---- the service of one server changes

-- what holds of what it is now, and of all others
pub by_server : (cs : List Cell) (o : Object) → named cs o.name ≡ Some o → (f : Service → Service) (P : ℕ → Service → Type 0) →
    P o.name (f (service_of cs o.name)) → ((n : ℕ) → (o.name == n) ≡ false → P n (service_of cs n)) → (n : ℕ) → P n (service_of (reserved f o.name cs) n)
by_server cs o lives f P here others n = go (o.name == n) refl
  where
    go : (b : Bool) → (o.name == n) ≡ b → P n (service_of (reserved f o.name cs) n)
    go true e = subst (λ k. P k (service_of (reserved f o.name cs) k)) (eqb-true o.name n e)
        (subst (λ v. P o.name v) (sym (service_here cs o.name (f (service_of cs o.name)) o lives)) here)
    go false e = subst (λ v. P n v) (sym (service_there cs o.name n (f (service_of cs o.name)) e)) (others n e)

module _ (p : Image) (cs : List Cell) (o : Object) (lives : named cs o.name ≡ Some o) (f : Service → Service) where
  abbrev then : List Cell
  then = reserved f o.name cs

  -- it is enlisted
  pub enlisted_then : is_some (requested cs o.name) ≡ true → (clients : List Client) → ClientsFit p clients cs → (x : Object) → named then x.name ≡ Some x →
      requested then x.name ≡ None → ((service_of then x.name).queue ≡ []) × ((service_of then x.name).sessions ≡ [])
  enlisted_then listed clients fit x there none =
      grind (arith, nat_tests, named_served cs o.name, requested_served cs o.name, ne_eqb o.name x.name, listed, service_there cs o.name x.name)

  -- as long as it has seats
  pub owned_objects_then : (clients : List Client) → ClientsFit p clients cs → sessions_in_use (f (service_of cs o.name)) ≤ most_of (thing_kind p o.thing) → (x : Object) →
      named then x.name ≡ Some x → sessions_in_use (service_of then x.name) ≤ most_of (thing_kind p x.thing)
  owned_objects_then clients fit room x there = by_server cs o lives f (λ n v. named cs n ≡ Some x → n ≡ x.name → sessions_in_use v ≤ most_of (thing_kind p x.thing)) here
      others x.name (sym (named_served cs o.name (f (service_of cs o.name)) x.name) ∙ there) refl
    where
      here : named cs o.name ≡ Some x → o.name ≡ x.name → sessions_in_use (f (service_of cs o.name)) ≤ most_of (thing_kind p x.thing)
      here at same = let one : Some o ≡ Some x = sym lives ∙ at in let equal : o ≡ x = cc in
          subst (λ y. sessions_in_use (f (service_of cs o.name)) ≤ most_of (thing_kind p y.thing)) equal room

      others : (n : ℕ) → (o.name == n) ≡ false → named cs n ≡ Some x → n ≡ x.name → sessions_in_use (service_of cs n) ≤ most_of (thing_kind p x.thing)
      others n other at same =
          subst (λ k. sessions_in_use (service_of cs k) ≤ most_of (thing_kind p x.thing)) (sym same) (fit.owned_chain x (ap (λ k. named cs k) (sym same) ∙ at))

  -- a message that waits is of its sender
  pub senders_then : (clients : List Client) → ClientsFit p clients cs →
      ((d : ℕ) → is_from d (service_of cs o.name).sender ≡ true → is_from d (f (service_of cs o.name)).sender ≡ true) →
      ((d m : ℕ) → list_any (is_message_of d m) (f (service_of cs o.name)).queue ≡ true → is_from d (service_of cs m).sender ≡ true) →
      (n d m : ℕ) → list_any (is_message_of d m) (service_of then n).queue ≡ true → is_from d (service_of then m).sender ≡ true
  senders_then clients fit keeps here n d m = by_server cs o lives f (λ n v. list_any (is_message_of d m) v.queue ≡ true →
      is_from d (service_of then m).sender ≡ true) (λ h. still (here d m h)) (λ n other h. still (fit.senders n d m h)) n
    where
      still : is_from d (service_of cs m).sender ≡ true → is_from d (service_of then m).sender ≡ true
      still = by_server cs o lives f (λ m v. is_from d (service_of cs m).sender ≡ true → is_from d v.sender ≡ true) (keeps d) (λ n other h. h) m

  -- and what had a sender, or was a token, has one or is one, and nothing else
  pub sources_then : sources_of (f (service_of cs o.name)) ≡ sources_of (service_of cs o.name) → HasSources cs → HasSources then
  sources_then keeps = sources_as cs then (by_server cs o lives f (λ n v. sources_of v ≡ sources_at cs n) keeps (λ n other. refl))
      (λ x there. sym (named_served cs o.name (f (service_of cs o.name)) x.name) ∙ there)

  module _ (keeps : is_some (f (service_of cs o.name)).sender ≡ is_some (service_of cs o.name).sender) where
    pub sent_then : (n : ℕ) → has_sender then n ≡ has_sender cs n
    sent_then = by_server cs o lives f (λ n v. is_some v.sender ≡ has_sender cs n) keeps (λ n other. refl)

    pub served_then : ServesSent cs → ServesSent then
    served_then = grind (arith, nat_tests, served_as cs, sent_then, held_served cs o.name)

  module _ (serves : is_server p o.thing ≡ true) (clients : List Client) (fit : ClientsFit p clients cs) where
    pub servers_then : (x : Object) → named then x.name ≡ Some x → is_server p x.thing ≡ false →
        ((service_of then x.name).queue ≡ []) × ((service_of then x.name).sessions ≡ [])
    servers_then x there plain = grind (arith, nat_tests, named_served cs o.name, ne_eqb o.name x.name, service_there cs o.name x.name)

    pub names_then : (n m : ℕ) (x : Object) → held then (Elsewhere (Queued n m)) ≡ Some x → x.name ≡ m
    names_then n m x e = fit.names n m x (sym (held_served cs o.name (f (service_of cs o.name)) (Elsewhere (Queued n m))) ∙ e)

-- ---- the service of an enlisted server changes, and no sender and no token does

module _ (p : Image) (clients : List Client) (cs : List Cell) (fit : ClientsFit p clients cs) (o : Object) (lives : named cs o.name ≡ Some o)
    (serves : is_server p o.thing ≡ true) (listed : is_some (requested cs o.name) ≡ true) (f : Service → Service) (clients' : List Client) where
  pub fit_reserved : (f (service_of cs o.name)).sender ≡ (service_of cs o.name).sender → (f (service_of cs o.name)).token ≡ (service_of cs o.name).token →
      ((n : ℕ) → QueueFits clients' n (service_of (reserved f o.name cs) n).queue) →
      ((n d : ℕ) → has_session (service_of (reserved f o.name cs) n) d ≡ true → server_of (client_at clients' d) ≡ Some n) →
      ((n d : ℕ) → server_of (client_at clients' d) ≡ Some n → has_session (service_of (reserved f o.name cs) n) d ≡ true) →
      ((d m : ℕ) → list_any (is_message_of d m) (f (service_of cs o.name)).queue ≡ true → is_from d (service_of cs m).sender ≡ true) →
      sessions_in_use (f (service_of cs o.name)) ≤ most_of (thing_kind p o.thing) → ClientsFit p clients' (reserved f o.name cs)
  fit_reserved sender token queues sessions has senders room = record {
    queues = queues;
    sessions = sessions;
    listed = has;
    servers = servers_then p cs o lives f serves clients fit;
    names = names_then p cs o lives f serves clients fit;
    senders = senders_then p cs o lives f clients fit (λ d h. ap (is_from d) sender ∙ h) senders;
    sources = sources_then p cs o lives f (grind (arith, nat_tests, sender, token)) fit.sources;
    served = served_then p cs o lives f (ap is_some sender) fit.served;
    enlisted = enlisted_then p cs o lives f listed clients fit;
    owned_chain = owned_objects_then p cs o lives f clients fit room;
  }

-- ---- `accept` has given a session

module _ (p : Image) (clients : List Client) (cs : List Cell) (fit : ClientsFit p clients cs) (o : Object) (lives : named cs o.name ≡ Some o)
    (serves : is_server p o.thing ≡ true) (listed : is_some (requested cs o.name) ≡ true) (c : ℕ) where
  abbrev own : Client
  own = client_at clients c

  eqb_same : (xs : List ℕ) → list_any (λ x. x == c) (xs ++ c ∷ []) ≡ true
  eqb_same xs = grind (arith, nat_tests, list_any-append, eq-eqb c c, or-true)

  module _ (session : ℕ) (at : is_connecting_at o.name own ≡ true) (none : list_any (is_connect_of c) (service_of cs o.name).queue ≡ false)
      (room : sessions_in_use (service_of cs o.name) < most_of (thing_kind p o.thing)) where
    is_open : (x : Client) → is_connecting_at o.name x ≡ true → server_of (at_opening session x) ≡ Some o.name
    is_open x e = grind arith

    pub fit_accepted : ClientsFit p (with_client c (at_opening session own) clients) (reserved (opened c) o.name cs)
    fit_accepted = fit_reserved p clients cs fit o lives serves listed (opened c) (with_client c (at_opening session own) clients) refl refl
        (by_server cs o lives (opened c) (λ n v. QueueFits (with_client c (at_opening session own) clients) n v.queue) (queues o.name) (λ n e. queues n))
        (sessions_changed p c (at_opening session own) clients cs (reserved (opened c) o.name cs) fit now) (listed_changed p c (at_opening session own) clients
        cs (reserved (opened c) o.name cs) fit now) (fit.senders o.name) (let one = owned_objects_opened c (service_of cs o.name) in omega (arith, room, one))
      where
        queues : (n : ℕ) → QueueFits (with_client c (at_opening session own) clients) n (service_of cs n).queue
        queues n = grind (arith, nat_tests, queue_other c n, none_of_connecting clients c n o.name at)

        now : Changes c (at_opening session own) cs (reserved (opened c) o.name cs)
        now = record {
          others = λ n d e. by_server cs o lives (opened c) (λ n v. has_session v d ≡ has_session (service_of cs n) d) (list_any-append
              (λ x. x == d) (service_of cs o.name).sessions (c ∷ []) ∙ ap (λ b. list_any (λ x. x == d) (service_of cs o.name).sessions || (b || false)) e
              ∙ or-false (list_any (λ x. x == d) (service_of cs o.name).sessions)) (λ n other. refl) n;
          has = by_server cs o lives (opened c) (λ n v. has_session v c ≡ true → server_of (at_opening session own) ≡ Some n)
              (λ h. is_open own at) (λ n other h. let clash : Some n ≡ None = sym (fit.sessions n c h) ∙ (connecting_only o.name n own at).2 in cc);
          listed = by_server cs o lives (opened c) (λ n v. server_of (at_opening session own) ≡ Some n → has_session v c ≡ true)
              (λ h. eqb_same (service_of cs o.name).sessions) (λ n other h.
              let same : Some o.name ≡ Some n = sym (is_open own at) ∙ h in
              absurd (true≢false (sym (eq-eqb o.name n cc) ∙ other)));
        }

  -- ---- a close is served

  module _ (at : is_leaving o.name own ≡ true) (none : list_any (is_close_of c) (service_of cs o.name).queue ≡ false) where
    free : IsFree (at_parting own)
    free = parted_free o.name own at

    other_stays : (d : ℕ) → (c == d) ≡ false → (k : ℕ) → (k == d) ≡ true → is_other c k ≡ true
    other_stays d other k e = ap not (ne_eqb k c (λ same. true≢false (sym (eq-eqb c d (sym same ∙ eqb-true k d e)) ∙ other)))

    pub fit_parted : ClientsFit p (with_client c (at_parting own) clients) (reserved (parted c) o.name cs)
    fit_parted = fit_reserved p clients cs fit o lives serves listed (parted c) (with_client c (at_parting own) clients) refl refl (by_server cs o lives
        (parted c) (λ n v. QueueFits (with_client c (at_parting own) clients) n v.queue) (queues o.name) (λ n e. queues n)) (sessions_changed p c
        (at_parting own) clients cs (reserved (parted c) o.name cs) fit now) (listed_changed p c (at_parting own) clients cs (reserved (parted c) o.name cs) fit
        now) (fit.senders o.name) (let less = owned_objects_parted c (service_of cs o.name) in let was = fit.owned_chain o lives in omega (arith, less, was))
      where
        queues : (n : ℕ) → QueueFits (with_client c (at_parting own) clients) n (service_of cs n).queue
        queues n = grind (arith, nat_tests, queue_other c n, none_of_leaving clients c n o.name at)

        now : Changes c (at_parting own) cs (reserved (parted c) o.name cs)
        now = record {
          others = λ n d e. by_server cs o lives (parted c) (λ n v. has_session v d ≡ has_session (service_of cs n) d)
              (any-filter_same (λ x. x == d) (is_other c) true (other_stays d e) (service_of cs o.name).sessions) (λ n other. refl) n;
          has = by_server cs o lives (parted c) (λ n v. has_session v c ≡ true → server_of (at_parting own) ≡ Some n)
              (λ h. absurd (true≢false (sym h ∙ any-filter_same (λ x. x == c) (is_other c) false (λ k e. ap not e) (service_of cs o.name).sessions)))
              (λ n other h. let same : Some o.name ≡ Some n = sym ((leaving_only o.name n own at).2) ∙ fit.sessions n c h in
              absurd (true≢false (sym (eq-eqb o.name n cc) ∙ other)));
          listed = λ n h. let clash : None ≡ Some n = sym free.alone ∙ h in cc;
        }
