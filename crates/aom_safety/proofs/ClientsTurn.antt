-- What is kept of clients stays so in each turn: as a server is picked, as a client does something, and in all others, where nothing of it changes.
use Rattle.std.proofs.lemmas.Bool.Decides.{nat_tests}
use Rattle.std.proofs.Common.{[], Bool, List, None, Option, Some, ap, cond, false, refl, subst, sym, true, ℕ, ◌∙◌, ◌∷◌, ◌≡◌, ◌<◌, arith, ◌==◌}
use Rattle.std.specs.List.{list_any}
use Rattle.std.specs.Prelude.{◌&&◌, ◌||◌, is_some}
use Rattle.aom_image.specs.Image.{Image}
use Rattle.aom_image.specs.declared.method.Role.TheVariants.{Accept as Accepts_role, Run as Handles, Service as Attends_role}
use Rattle.aom_abstract_state.specs.declared.kind.Kind.TheVariants.{Null}
use Rattle.aom_clients.specs.Table.{server_of}
use Rattle.aom_clients.specs.declared.client.Client.{Client}
use Rattle.aom_typing_rules.specs.Typing.{Typing}
use Rattle.aom_safety.proofs.ClientsCommand.{fit_commanded}
use Rattle.aom_safety.proofs.ClientsFacts.{waiting_well}
use Rattle.aom_safety.proofs.ClientsFit.{IsFit, by_server, fit_reserved, sent_then}
pub use Rattle.aom_safety.proofs.ClientsSteady.{Same, fit_same}
use Rattle.aom_safety.proofs.ClientsSteady.{fit_steady, steady_as}
use Rattle.aom_safety.proofs.SemanticsLemmas.{held_moved, named_moved, requested_moved, requested_unnamed}
use Rattle.aom_safety.proofs.Services.{held_served, service_asked, service_detached, service_here, service_moved}
use Rattle.aom_safety.proofs.Signals.{at_rest}
use Rattle.aom_safety.proofs.Storing.{detached_alike, request_updated_alike, requested_here, requested_there}
use Rattle.aom_safety.proofs.Straight.{fits_unowning}
use Rattle.aom_safety.proofs.Turned.{Polled, answers, commanded_kept, dispatched_so, nothing, polled_so}
use Rattle.aom_safety.proofs.Guarded.{goes_some, goes_same}
use Rattle.aom_safety.proofs.Turning.{found}
use Rattle.aom_safety.specs.Claims.{declared}
use Rattle.aom_semantics.specs.Clients.{client_at, most_of}
use Rattle.aom_semantics.specs.Destruction.{begun}
use Rattle.aom_semantics.specs.Requests.{completed_with, on_request, part_of, recorded, timed_out, thing_kind, taken_up}
use Rattle.aom_semantics.specs.Natives.{all_detached, is_served_by, terminated_request, is_owed, terminated}
use Rattle.aom_safety.specs.Kept.{ClientsFit, QueueFits, ServesSent, TasksKept, is_connect_of, is_message_of}
use Rattle.aom_safety.specs.Laws.{IsWired}
use Rattle.aom_semantics.specs.Places.{Asked, Cell, Close_of, Connect_of, Elsewhere, Going, In_service, Message_of, Object, Place, Queued}
use Rattle.aom_semantics.specs.Places.{Request, Root, Session, held, moved, named, requested, same_place, seen, service_of, set_request}
use Rattle.aom_semantics.specs.Servers.{has_session, is_server, reserved, rest_of as rest, taken_first, sessions_in_use}
use Rattle.aom_semantics.specs.State.{NullOrDead, WrongKind, Goes, Inside, OwnedObject, State, Task}
use Rattle.aom_safety.specs.WellTyped.{Fits, Good, WellTyped}
use Rattle.aom_semantics.specs.World.{Candidate, Completes, Completion, Cuts, Observed, Observes, Kills, Executes, Environment, Picks, Polls, Strays, Timed}
use Rattle.aom_semantics.specs.World.{Turning, accepting, attended, attending, by_event, by_timer, delivers, dispatched, first_ready, observed_one, lives}
use Rattle.aom_semantics.specs.World.{parting_with, picks, picked, polls, serves_first, taken_from, turn, turned, turning, with_request}
use Rattle.aom_transcript.specs.declared.event.Event.{Event}
use Rattle.aom_transcript.specs.declared.event.TimedEvent.{TimedEvent}
use Rattle.aom_safety.proofs.OwnedPlaced.{owned_objects_first, owned_objects_rest}
use Rattle.aom_safety.proofs.Sources.{from_some, has_sender}
use Rattle.std.proofs.lemmas.Bool.{eq-eqb, eqb-true}

-- ---- cells of which clients have the same

-- a request that changes is there still
pub on_none : (f : Request → Request) (r : Option Request) → on_request f r ≡ None → r ≡ None
on_none f x e = grind arith

pub listed_asked : (cs : List Cell) (m : ℕ) (r : Option Request) → (r ≡ None → requested cs m ≡ None) → (n : ℕ) →
    requested (set_request m r cs) n ≡ None → requested cs n ≡ None
listed_asked cs m r keeps n e = grind (arith, nat_tests, requested_unnamed cs m, requested_here cs m r, eqb-true m n, requested_there cs m n r)

listed_detached : (p : Image) (n : ℕ) (cs : List Cell) (m : ℕ) → requested (all_detached p n cs) m ≡ None → requested cs m ≡ None
listed_detached p n [] m e = e
listed_detached p n (c ∷ cs) m e = go (c.object.name == m) e (listed_detached p n cs m)
  where
    ends : (b : Bool) (r : Option Request) → cond b (terminated_request r) r ≡ None → r ≡ None
    ends true None e = refl
    ends true (Some r) e = owed (is_owed (Some r)) e
      where
        owed : (b : Bool) → cond b (on_request (completed_with terminated) (Some r)) (Some r) ≡ None → Some r ≡ None
        owed x e = grind arith
    ends false r e = e

    go : (b : Bool) → cond b (cond (is_served_by p n c.object.thing) (terminated_request c.request) c.request) (requested (all_detached p n cs) m) ≡ None →
        (requested (all_detached p n cs) m ≡ None → requested cs m ≡ None) → cond b c.request (requested cs m) ≡ None
    go true e rest = ends (is_served_by p n c.object.thing) c.request e
    go false e rest = rest e

pub same_requested : (cs : List Cell) (o : Object) (r : Option Request) → (r ≡ None → requested cs o.name ≡ None) → Same cs (set_request o.name r cs)
same_requested cs o r keeps =
    let like = request_updated_alike cs (Inside o (Elsewhere Root)) r in
    record { service_so = service_asked cs o.name r; named_so = like.named_so; held_so = like.held_so; listed_so = listed_asked cs o.name r keeps }

pub same_detached : (p : Image) (n : ℕ) (cs : List Cell) → Same cs (all_detached p n cs)
same_detached p n cs = let like = detached_alike p n cs in
    record { service_so = service_detached p n cs; named_so = like.named_so; held_so = like.held_so; listed_so = listed_detached p n cs }

-- what is owned elsewhere, but in no queue; what comes to be served has a sender
pub fit_moved : (p : Image) (clients : List Client) (cs : List Cell) (a b : Place) → held cs b ≡ None →
    ((n m : ℕ) → same_place b (Elsewhere (Queued n m)) ≡ false) → (same_place b (Elsewhere In_service) ≡ true → (o : Object) → held cs a ≡ Some o →
    has_sender cs o.name ≡ true) → ClientsFit p clients cs → ClientsFit p clients (moved a b cs)
fit_moved p clients cs a b free apart sent = fit_steady p clients cs (moved a b cs) (steady_as cs (moved a b cs) (service_moved cs a b)
    (named_moved cs a b) (λ n e. sym (requested_moved cs a b n) ∙ e) (λ n m. queued (Elsewhere (Queued n m)) (apart n m)) (λ was o h. same o.name
    ∙ served was o (same_place b (Elsewhere In_service)) refl (same_place a (Elsewhere In_service)) (sym (held_moved cs a b (Elsewhere In_service) free) ∙ h)))
  where
    same : (n : ℕ) → has_sender (moved a b cs) n ≡ has_sender cs n
    same n = ap (λ v. is_some v.sender) (service_moved cs a b n)

    served : ServesSent cs → (o : Object) (x : Bool) → same_place b (Elsewhere In_service) ≡ x → (y : Bool) →
        cond x (held cs a) (cond y None (held cs (Elsewhere In_service))) ≡ Some o → has_sender cs o.name ≡ true
    served was o x e y h = grind arith

    unless_moved : (o : Object) (x : Bool) (was : Option Object) → cond x None was ≡ Some o → was ≡ Some o
    unless_moved o x was h = grind arith

    queued : (q : Place) → same_place b q ≡ false → (o : Object) → held (moved a b cs) q ≡ Some o → held cs q ≡ Some o
    queued q other o h = unless_moved o (same_place a q) (held cs q)
        (sym (ap (λ x. cond x (held cs a) (cond (same_place a q) None (held cs q))) other) ∙ sym (held_moved cs a b q free) ∙ h)

-- what is asked of anything is a server
asked_serves : (p : Image) (clients : List Client) (cs : List Cell) → ClientsFit p clients cs → (o : Object) → named cs o.name ≡ Some o →
    (e : Asked) (es : List Asked) → (service_of cs o.name).queue ≡ e ∷ es → is_server p o.thing ≡ true
asked_serves p clients cs fit o lives e es queue = grind (arith, nat_tests)

-- the first of a queue is taken
pub fit_taken : (p : Image) (clients : List Client) (cs : List Cell) (o : Object) → named cs o.name ≡ Some o → is_some (requested cs o.name) ≡ true →
    (e : Asked) (es : List Asked) → (service_of cs o.name).queue ≡ e ∷ es → ClientsFit p clients cs → ClientsFit p clients (reserved taken_first o.name cs)
fit_taken p clients cs o lives listed e es queue fit = fit_reserved p clients cs fit o lives (asked_serves p clients cs fit o lives e es queue)
    listed taken_first clients refl refl (by_server cs o lives taken_first (λ n v. QueueFits clients n v.queue) (subst (λ q. QueueFits clients o.name (rest q))
    (sym queue) (subst (λ q. QueueFits clients o.name q) queue (fit.queues o.name)).1) (λ n other. fit.queues n)) (by_server cs o lives taken_first
    (λ n v. (d : ℕ) → has_session v d ≡ true → server_of (client_at clients d) ≡ Some n) (fit.sessions o.name) (λ n other. fit.sessions n)) (by_server cs
    o lives taken_first (λ n v. (d : ℕ) → server_of (client_at clients d) ≡ Some n → has_session v d ≡ true) (fit.listed o.name) (λ n other. fit.listed n)) (λ
    d m h. fit.senders o.name d m (ap (list_any (is_message_of d m)) queue ∙ or_right (is_message_of d m e) (list_any (is_message_of d m) es) (ap (λ q. list_any
    (is_message_of d m) (rest q)) (sym queue) ∙ h))) (let less = owned_objects_rest (service_of cs o.name) in let was = fit.owned_chain o lives in omega (arith, less, was))
  where
    or_right : (b x : Bool) → x ≡ true → (b || x) ≡ true
    or_right x y h = grind arith

-- a message that it is has a sender
pub first_sent : (p : Image) (clients : List Client) (cs : List Cell) (o : Object) →
    named cs o.name ≡ Some o → (c m : ℕ) (es : List Asked) → (service_of cs o.name).queue ≡ Message_of c m ∷ es → ClientsFit p clients cs → (x : Object) →
    held (reserved taken_first o.name cs) (Elsewhere (Queued o.name m)) ≡ Some x → has_sender (reserved taken_first o.name cs) x.name ≡ true
first_sent p clients cs o lives c m es queue fit x there =
    let was : held cs (Elsewhere (Queued o.name m)) ≡ Some x = grind (arith, nat_tests, held_served cs o.name) in
    let first : list_any (is_message_of c m) (service_of cs o.name).queue ≡ true = grind (arith, nat_tests) in
    sent_then p cs o lives taken_first refl x.name ∙ ap (has_sender cs) (fit.names o.name m x was)
    ∙ from_some c (service_of cs m).sender (fit.senders o.name c m first)
  where
    own : ((c == c) && (m == m)) ≡ true
    own = ap (λ b. b && (m == m)) (eq-eqb c c refl) ∙ eq-eqb m m refl

-- ---- tasks

pub tasks_begun : (p : Image) (clients : List Client) (cs : List Cell) (o : Object) (height : ℕ) (ts : List Task) → TasksKept p clients cs ts →
    TasksKept p clients cs (begun p o height ts)
tasks_begun p clients cs o height ts kept = grind (arith, nat_tests)

-- ---- turns

module _ (p : Image) (t : Typing) (wired : IsWired p) (s : State) (w : WellTyped p t s) (idle_now : s.tasks ≡ []) (kept : IsFit p s) where
  good : Good p t s.cells []
  good = subst (λ ls. Good p t s.cells ls) (at_rest p t s w idle_now) w.good

  stage_idle : (clients : List Client) (cs : List Cell) (ts : List Task) → ts ≡ [] → TasksKept p clients cs ts
  stage_idle clients cs ts e = subst (λ l. TasksKept p clients cs l) (sym e) tt

  empty_place : (q : Place) → declared p s.cells q ≡ Null → held s.cells q ≡ None
  empty_place q e = fits_unowning p (seen s.cells) _ Null refl (subst (λ k. Fits p (seen s.cells) (held s.cells q) k) e (good.fits q))

  -- ---- a pick

  module _ (x : OwnedObject) (there : named s.cells x.object.name ≡ Some x.object) (listed : is_some (requested s.cells x.object.name) ≡ true) (u : State) where
    abbrev n : ℕ
    n = x.object.name

    abbrev cs : List Cell
    cs = reserved taken_first n s.cells

    empty_now : (q : Place) → declared p s.cells q ≡ Null → held cs q ≡ None
    empty_now q e = held_served s.cells n (taken_first (service_of s.cells n)) q ∙ empty_place q e

    module _ (e : Asked) (es : List Asked) (queue : (service_of s.cells n).queue ≡ e ∷ es) where
      taken : ClientsFit p s.clients cs
      taken = fit_taken p s.clients s.cells x.object there listed e es queue kept.fit

      first_fits : QueueFits s.clients n (e ∷ es)
      first_fits = subst (λ q. QueueFits s.clients n q) queue (kept.fit.queues n)

      queue_now : (service_of cs n).queue ≡ es
      queue_now = ap (λ v. v.queue) (service_here s.cells n (taken_first (service_of s.cells n)) x.object there) ∙ ap rest queue

    connect_kept : (c : ℕ) (es : List Asked) → (service_of s.cells n).queue ≡ Connect_of c ∷ es → (m : Option ℕ) →
        accepting m x c (taken_from n s) ≡ Goes u → IsFit p u
    connect_kept c es queue m e =
        let first = first_fits (Connect_of c) es queue in
        let method = goes_some m (λ m. accepting m x c (taken_from n s)) WrongKind u refl e in
        subst (λ v. IsFit p v) (goes_same _ u method.2)
        (record { fit = taken (Connect_of c) es queue; stage = (first.0.0, ap (λ q. list_any (is_connect_of c) q) (queue_now (Connect_of c) es queue) ∙ first.0.1, room) })
      where
        room : sessions_in_use (service_of cs n) < most_of (thing_kind p x.object.thing)
        room = grind (arith, nat_tests, owned_objects_first, service_here s.cells)

    message_kept : (c m : ℕ) (es : List Asked) → (service_of s.cells n).queue ≡ Message_of c m ∷ es → (o : Option Object) →
        attended p x c o m (taken_from n s) ≡ Goes u → IsFit p u
    message_kept c m es queue o e =
        let session = goes_some o (λ o. attended p x c o m (taken_from n s)) NullOrDead u refl e in
        let method = goes_some (part_of p Attends_role session.0.thing) (λ k. attending k x c session.0 m (taken_from n s)) WrongKind u refl session.2 in
        subst (λ v. IsFit p v) (goes_same _ u method.2) (record {
          fit = fit_moved p s.clients cs (Elsewhere (Queued n m)) (Elsewhere In_service) (empty_now (Elsewhere In_service) refl) (λ i j. refl)
              (λ b. first_sent p s.clients s.cells x.object there c m es queue kept.fit) (taken (Message_of c m) es queue);
          stage = tt;
        })

    close_kept : (c : ℕ) (es : List Asked) → (service_of s.cells n).queue ≡ Close_of c ∷ es → (o : Option Object) →
        parting_with p x c o (taken_from n s) ≡ Goes u → IsFit p u
    close_kept c es queue o e =
        let first = first_fits (Close_of c) es queue in
        let then = moved (Elsewhere (Session n c)) (Going 1) cs in
        let session = goes_some o (λ o. parting_with p x c o (taken_from n s)) NullOrDead u refl e in
        subst (λ v. IsFit p v) (goes_same _ u session.2) (record {
          fit = fit_moved p s.clients cs (Elsewhere (Session n c)) (Going 1) (empty_now (Going 1) refl) (λ i j. refl) (λ b. cc) (taken (Close_of c) es queue);
          stage = grind (arith, nat_tests, tasks_begun p s.clients then session.0, service_moved, queue_now (Close_of c) es queue);
        })

    serves_kept : (queue : List Asked) → (service_of s.cells n).queue ≡ queue → serves_first p x queue s ≡ Goes u → IsFit p u
    serves_kept [] queue e = cc
    serves_kept (Connect_of c ∷ es) queue e = connect_kept c es queue (part_of p Accepts_role x.object.thing) e
    serves_kept (Message_of c m ∷ es) queue e = message_kept c m es queue (held s.cells (Elsewhere (Session n c))) e
    serves_kept (Close_of c ∷ es) queue e = close_kept c es queue (held s.cells (Elsewhere (Session n c))) e

    picked_kept : picked p x s ≡ Goes u → IsFit p u
    picked_kept e = go (is_server p x.object.thing) e
      where
        requested_fit : (o : Object) (f : Request → Request) → ClientsFit p s.clients (with_request f o s.cells)
        requested_fit o f = fit_same p s.clients s.cells (with_request f o s.cells)
            (same_requested s.cells o (on_request f (requested s.cells o.name)) (λ e. on_none f (requested s.cells o.name) e)) kept.fit

        go : (b : Bool) → cond b (serves_first p x (service_of s.cells n).queue s) (dispatched (part_of p Handles x.object.thing) x s) ≡ Goes u → IsFit p u
        go true e = serves_kept (service_of s.cells n).queue refl e
        go false e = let d = dispatched_so p s u x e in subst (λ v. IsFit p v) (sym d.2) (record { fit = requested_fit x.object taken_up; stage = tt })

  -- ---- the others

  -- what is picked stands, and the name that is heard is free
  abbrev pub IsFound : Turning → Type 0
  IsFound (Executes client command name) = named s.cells name ≡ None
  IsFound (Picks x) = (named s.cells x.object.name ≡ Some x.object) × (is_some (requested s.cells x.object.name) ≡ true)
  IsFound _ = Unit {0}

  same_kept : (u : State) → u.cells ≡ s.cells → u.clients ≡ s.clients → u.tasks ≡ [] → IsFit p u
  same_kept u cells clients tasks = record {
    fit = subst (λ l. ClientsFit p l u.cells) (sym clients) (subst (λ l. ClientsFit p s.clients l) (sym cells) kept.fit);
    stage = stage_idle u.clients u.cells u.tasks tasks;
  }

  requested_kept : (f : Request → Request) (o : Object) (u : State) → u.cells ≡ with_request f o s.cells → u.clients ≡ s.clients → u.tasks ≡ [] → IsFit p u
  requested_kept f o u cells clients tasks = record {
    fit = subst (λ l. ClientsFit p l u.cells) (sym clients) (subst (λ l. ClientsFit p s.clients l) (sym cells) (fit_same p s.clients s.cells (with_request
        f o s.cells) (same_requested s.cells o (on_request f (requested s.cells o.name)) (λ e. on_none f (requested s.cells o.name) e)) kept.fit));
    stage = stage_idle u.clients u.cells u.tasks tasks;
  }

  turned_kept : (k : Turning) → IsFound k → (u : State) → turned p s k ≡ Goes u → IsFit p u
  turned_kept Cuts f u e = subst (λ v. IsFit p v) (goes_same _ u e) (same_kept _ refl refl idle_now)
  turned_kept (Completes o) f u e = subst (λ v. IsFit p v) (goes_same _ u e) (requested_kept timed_out o _ refl refl idle_now)
  turned_kept Observes f u e = subst (λ v. IsFit p v) (goes_same _ u e) (same_kept _ refl refl idle_now)
  turned_kept (Kills n) f u e = subst (λ v. IsFit p v) (goes_same _ u e)
      (record { fit = fit_same p s.clients s.cells (all_detached p n s.cells) (same_detached p n s.cells) kept.fit; stage = stage_idle s.clients (all_detached p n s.cells) s.tasks idle_now })
  turned_kept (Polls n answer) f u e = go u (polled_so p s u n answer e)
    where
      go : (u : State) → Polled n s u → IsFit p u
      go u d = elim d as (λ v d. IsFit p v) [
        | nothing ↦ same_kept _ refl refl idle_now
        | answers o code ↦ requested_kept (completed_with (recorded code)) o _ refl refl idle_now
      ]
  turned_kept (Executes client command name) f u e = subst (λ v. IsFit p v) (goes_same _ u e) (record {
    fit = fit_commanded p client (observed_one s) good.no_duplicates kept.fit (waiting_well p t wired s w) command name f;
    stage = stage_idle _ _ _ ((commanded_kept p client (observed_one s) command name).1 ∙ idle_now);
  })
  turned_kept (Picks x) f u e = picked_kept x f.0 f.1 u e
  turned_kept Strays f u e = cc
  turned_kept _ f u e = subst (λ v. IsFit p v) (goes_same _ u e) (same_kept _ refl refl idle_now)

  -- each turn is such
  picks_found : (b : Bool) (y : Option Candidate) → first_ready s.cells ≡ y → (next : Option ℕ) → IsFound (picks b y next)
  picks_found true None e next = tt
  picks_found true (Some y) e next = let it_is = found s.cells good.no_duplicates y e in (it_is.lives, ap is_some it_is.asked)
  picks_found false y e None = tt
  picks_found false y e (Some time) = tt

  polls_found : (n : Option ℕ) (answer : Option Completion) (after : Turning) → IsFound after → IsFound (polls n answer after)
  polls_found x answer after f = grind arith

  delivers_found : (outside : Environment) (name : ℕ) (event : Event) → named s.cells name ≡ None → IsFound (delivers outside name s event)
  delivers_found outside name x free = grind arith

  event_found : (outside : Environment) (name : ℕ) (next : Option TimedEvent) (after : Turning) → named s.cells name ≡ None → IsFound after →
      IsFound (by_event outside name s next after)
  event_found outside name x after free f = grind (arith, nat_tests, delivers_found outside name)

  timer_found : (next : Option Timed) (after : Turning) → IsFound after → IsFound (by_timer s next after)
  timer_found None after f = f
  timer_found (Some x) after f = grind (arith, nat_tests)

  pub turning_found : (outside : Environment) (observed : Observed) → named s.cells observed.name ≡ None → IsFound (turning outside observed s)
  turning_found outside observed free = grind (arith, nat_tests, timer_found, event_found outside observed.name, polls_found, picks_found)

  pub turn_kept : (outside : Environment) (observed : Observed) (u : State) → named s.cells observed.name ≡ None → turn p outside observed s ≡ Goes u → IsFit p u
  turn_kept outside observed u free e = turned_kept (turning outside observed s) (turning_found outside observed free) u e
