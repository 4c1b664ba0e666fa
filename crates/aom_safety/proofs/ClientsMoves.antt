-- What is kept of clients stays so where a method moves: cells are made, move and change, and no queue and no session of a server does.
use Rattle.std.proofs.lemmas.Bool.Decides.{nat_tests}
use Rattle.std.proofs.Common.{[], Bool, List, None, Option, Some, ap, cond, false, length, refl, subst, suc, sym, true, ℕ, ℤ, ◌∙◌, ◌∷◌, ◌≡◌, arith}
use Rattle.std.proofs.lemmas.Bool.{true≢false}
use Rattle.std.specs.List.{list_any}
use Rattle.std.specs.Prelude.{is_some}
use Rattle.aom_image.specs.Image.{Image}
use Rattle.aom_image.specs.declared.method.Argument.{Argument}
use Rattle.aom_image.specs.declared.method.Argument.TheVariants.{Own as Takes_own, Word as Takes_word}
use Rattle.aom_image.specs.declared.method.Gives.{Gives}
use Rattle.aom_image.specs.declared.method.Thing.{Thing}
use Rattle.aom_image.specs.declared.method.Thing.TheVariants.{Object as An_object_of}
use Rattle.aom_roles.specs.Things.{is_object}
use Rattle.aom_clients.specs.Nodes.{is_connecting_at}
use Rattle.aom_clients.specs.declared.client.Client.{Client}
use Rattle.aom_clients.specs.declared.client.Client.TheVariants.{Unconnected}
use Rattle.aom_safety.proofs.SemanticsLemmas.{Alters, held_kept, named_kept, named_moved, opening, read_kept, requested_moved, requests, same_place-true}
use Rattle.aom_safety.proofs.SemanticsLemmas.{same_place_along, same_place_refl, services, storing}
use Rattle.aom_safety.proofs.ClientsFacts.{IsAt}
use Rattle.aom_safety.proofs.ClientsFit.{Changes, connecting_only, listed_changed, none_of_connecting, sessions_changed}
pub use Rattle.aom_safety.proofs.ClientsSteady.{Steady, fit_steady}
use Rattle.aom_safety.proofs.ClientsSteady.{carried_itself, fit_eased, steady_as, steady_itself, steady_more, steady_moved_then, steady_same}
use Rattle.aom_safety.proofs.ClientsTurn.{on_none, same_requested}
use Rattle.aom_safety.proofs.Queues.{queue_other}
use Rattle.aom_safety.proofs.Services.{service_moved}
use Rattle.aom_safety.proofs.Sources.{served_as}
use Rattle.aom_semantics.specs.Calls.{passed_cells, result_cells}
use Rattle.aom_semantics.specs.Cleanup.{top_place}
use Rattle.aom_semantics.specs.Clients.{client_at, with_client}
use Rattle.aom_safety.proofs.Redeeming.{redeeming, requested_redeemed}
use Rattle.aom_safety.proofs.Storing.{request_updated_alike}
use Rattle.aom_semantics.specs.Tokens.{all_redeemed, awaited, handed_cells, receiver_class, next_token, promised, redeemed_by, redeemed_request, with_token}
use Rattle.aom_semantics.specs.Effects.{Carried, Handed, In_field, In_register, Made, Popped, Pushed, Replied, Requested}
use Rattle.aom_semantics.specs.Effects.{Sessioned, The_message, Update, Written, cells_after, spot_place}
use Rattle.aom_semantics.specs.Requests.{ended_cells, on_request, own_request, request_updated}
use Rattle.aom_safety.specs.Kept.{ClientsFit, ConnectKept, StageKept, TasksKept, is_close_of, is_connect_of}
use Rattle.aom_semantics.specs.Natives.{session_updated}
use Rattle.aom_semantics.specs.Places.{Cell, Elsewhere, Entry, In_service, Object, Place, Queued, Request, Token, held}
use Rattle.aom_semantics.specs.Places.{moved, named, same_place, service_of, set_request, with_new, requested}
use Rattle.aom_semantics.specs.State.{Accept_left, Accepts, Dispatched, Frame, Receiver, Inside, Of_server, Disconnects, OwnedObject, Stage, State, Task, field_place}
use Rattle.aom_semantics.specs.Words.{here, stored}
use Rattle.aom_safety.proofs.OwnedPlaced.{owned_objects_same}

-- ---- tasks

-- what a stage has stays kept, so do tasks
pub tasks_staged : (p : Image) (clients clients' : List Client) (cs cs' : List Cell) (ts : List Task) →
    ((x : OwnedObject) (c : ℕ) (stage : Stage) → IsAt (Of_server x c stage) ts → StageKept p clients cs x.object c stage → StageKept p clients' cs' x.object c stage) →
    TasksKept p clients cs ts → TasksKept p clients' cs' ts
tasks_staged p clients clients' cs cs' [] still k = tt
tasks_staged p clients clients' cs cs' (Dispatched (Of_server x c stage) ∷ ts) still k = still x c stage refl k
tasks_staged p clients clients' cs cs' (Dispatched _ ∷ ts) still k = tt
tasks_staged p clients clients' cs cs' (_ ∷ ts) still k = tasks_staged p clients clients' cs cs' ts still k

module _ (p : Image) (clients : List Client) (cs cs' : List Cell) (queues : (n : ℕ) → (service_of cs' n).queue ≡ (service_of cs n).queue)
    (sessions : (n : ℕ) → (service_of cs' n).sessions ≡ (service_of cs n).sessions) where
  connect_queues : (o : Object) (c : ℕ) → ConnectKept p clients cs o c → ConnectKept p clients cs' o c
  connect_queues o c k = (
    k.0,
    ap (λ q. list_any (is_connect_of c) q) (queues o.name) ∙ k.1,
    grind (arith, nat_tests, owned_objects_same, queues o.name, sessions o.name),
  )

  pub stage_queues : (o : Object) (c : ℕ) (stage : Stage) → StageKept p clients cs o c stage → StageKept p clients cs' o c stage
  stage_queues o c Accepts k = connect_queues o c k
  stage_queues o c (Accept_left code) k = connect_queues o c k
  stage_queues o c Disconnects k = (k.0, ap (λ q. list_any (is_close_of c) q) (queues o.name) ∙ k.1)
  stage_queues o c _ k = tt

  pub tasks_queues : (ts : List Task) → TasksKept p clients cs ts → TasksKept p clients cs' ts
  tasks_queues ts k = tasks_staged p clients clients cs cs' ts (λ x c stage at. stage_queues x.object c stage) k

pub tasks_steady : (p : Image) (clients : List Client) (cs cs' : List Cell) → Steady cs cs' → (ts : List Task) → TasksKept p clients cs ts →
    TasksKept p clients cs' ts
tasks_steady p clients cs cs' still ts k = tasks_queues p clients cs cs' still.queues still.sessions ts k

-- ---- cells that move, or are made

-- what moves to another place is not in this one, whatever was there
pub held_elsewhere : (cs : List Cell) (a b r : Place) → same_place b r ≡ false → held (moved a b cs) r ≡ cond (same_place a r) None (held cs r)
held_elsewhere [] a b r apart = go (same_place a r)
  where
    go : (x : Bool) → held [] r ≡ cond x None (held [] r)
    go true = refl
    go false = refl
held_elsewhere (c ∷ cs) a b r apart = go (same_place c.owner a) refl (same_place a r) refl (held_elsewhere cs a b r apart)
  where
    go : (x : Bool) → same_place c.owner a ≡ x → (y : Bool) → same_place a r ≡ y → held (moved a b cs) r ≡ cond y None (held cs r) →
        cond (same_place (cond x b c.owner) r) (Some c.object) (held (moved a b cs) r) ≡ cond y None (cond (same_place c.owner r) (Some c.object) (held cs r))
    go true e true f ih = ap (λ z. cond z (Some c.object) (held (moved a b cs) r)) apart ∙ ih
    go true e false f ih = ap (λ z. cond z (Some c.object) (held (moved a b cs) r)) apart ∙ ih
        ∙ sym (ap (λ z. cond z (Some c.object) (held cs r)) (same_place_along c.owner a r e ∙ f))
    go false e true f ih = ap (λ z. cond z (Some c.object) (held (moved a b cs) r)) (ap (λ z. same_place c.owner z) (sym (same_place-true a r f)) ∙ e) ∙ ih
    go false e false f ih = ap (λ z. cond (same_place c.owner r) (Some c.object) z) ih

abbrev pub NoQueue : Place → Type 0
NoQueue b = (n m : ℕ) → same_place b (Elsewhere (Queued n m)) ≡ false

abbrev pub NoService : Place → Type 0
NoService b = same_place b (Elsewhere In_service) ≡ false

pub steady_moved : (cs : List Cell) (a b : Place) → NoQueue b → NoService b → Steady cs (moved a b cs)
steady_moved cs a b apart aside = steady_as cs (moved a b cs) (service_moved cs a b)
    (named_moved cs a b) (λ n e. sym (requested_moved cs a b n) ∙ e) (λ n m. stays (Elsewhere (Queued n m)) (apart n m))
    (served_as cs (moved a b cs) (λ n. ap (λ v. is_some v.sender) (service_moved cs a b n)) (stays (Elsewhere In_service) aside))
  where
    unless_moved : (o : Object) (x : Bool) (was : Option Object) → cond x None was ≡ Some o → was ≡ Some o
    unless_moved o x was h = grind arith

    stays : (q : Place) → same_place b q ≡ false → (o : Object) → held (moved a b cs) q ≡ Some o → held cs q ≡ Some o
    stays q other o h = unless_moved o (same_place a q) (held cs q) (sym (held_elsewhere cs a b q other) ∙ h)

no_queue : (owner : Place) → NoQueue owner → (name n m : ℕ) → owner ≡ Elsewhere (Queued n m) → name ≡ m
no_queue owner apart name n m e =
    absurd (true≢false (sym (same_place_refl (Elsewhere (Queued n m))) ∙ ap (λ q. same_place q (Elsewhere (Queued n m))) (sym e) ∙ apart n m))

pub steady_new : (cs : List Cell) (name : ℕ) (x : Thing) (ws : List ℤ) (owner : Place) →
    NoQueue owner → NoService owner → is_object x ≡ true → named cs name ≡ None → Steady cs (with_new name x ws owner cs)
steady_new cs name x ws owner apart aside object free = steady_more _ cs free refl refl (no_queue owner apart name) (sym (ap (λ b. cond b 0 1) object)) aside

pub steady_token : (cs : List Cell) (name : ℕ) (token : Token) (owner : Place) → NoQueue owner → NoService owner → named cs name ≡ None →
    Steady cs (with_token name token owner cs)
steady_token cs name token owner apart aside free = steady_more _ cs free refl refl (no_queue owner apart name) refl aside

-- ---- what an update changes

-- what becomes of a request waits for no new token
abbrev pub Fewer : Option Request → Option Request → Type 0
Fewer r old = (k : ℕ) → awaited r ≡ Some k → awaited old ≡ Some k

pub steady_asked : (cs : List Cell) (receiver : Receiver) (r : Option Request) → (r ≡ None → own_request cs receiver ≡ None) → Steady cs (request_updated cs receiver r)
steady_asked cs (Inside o from) r keeps = steady_same cs (set_request o.name r cs) (same_requested cs o r keeps)
steady_asked cs _ r keeps = steady_itself cs

-- a token is handed out
pub steady_handed : (cs : List Cell) (name : ℕ) (receiver : Receiver) (owner : Place) → NoQueue owner → NoService owner → named cs name ≡ None →
    Steady cs (handed_cells name receiver owner cs)
steady_handed cs name receiver owner apart aside free =
    let r = on_request (promised (next_token cs)) (own_request cs receiver) in
    let like = request_updated_alike cs receiver r in
    steady_moved_then cs (request_updated cs receiver r) _ (steady_asked cs receiver r (λ e. on_none (promised (next_token cs)) (own_request cs receiver) e)) (steady_token
    (request_updated cs receiver r) name (record { class = receiver_class receiver; order = next_token cs }) owner apart aside (like.named_so name ∙ free)) like.named_so

-- and replied to
listed_redeemed : (order : ℕ) (code : ℤ) (r : Option Request) → redeemed_request order code r ≡ None → r ≡ None
listed_redeemed order code r e = grind arith

pub steady_redeemed : (order : Option ℕ) (code : ℤ) (cs : List Cell) → Steady cs (redeemed_by order code cs)
steady_redeemed None code cs = steady_itself cs
steady_redeemed (Some order) code cs = steady_same cs (all_redeemed order code cs) (record {
  service_so = read_kept (redeeming order code) services (λ c. refl) cs;
  named_so = named_kept (redeeming order code) cs;
  held_so = held_kept (redeeming order code) (λ c. refl) cs;
  listed_so = λ n e. listed_redeemed order code (requested cs n) (sym (requested_redeemed order code cs n) ∙ e);
})

-- each cell is changed by itself, and stays in its place, with its request and for its clients
steady_altered : {change : List Cell → List Cell} (a : Alters change) → ((c : Cell) → (a.each c).owner ≡ c.owner) →
    ((c : Cell) → (a.each c).request ≡ c.request) → ((c : Cell) → (a.each c).service ≡ c.service) → (cs : List Cell) → Steady cs (change cs)
steady_altered {change = change} a stays asks serves cs = steady_same cs (change cs) (record {
  service_so = read_kept a services serves cs;
  named_so = named_kept a cs;
  held_so = held_kept a stays cs;
  listed_so = λ n e. sym (read_kept a requests asks cs n) ∙ e;
})

pub steady_opened : (cs : List Cell) (receiver : Receiver) (b : Bool) → Steady cs (session_updated cs receiver b)
steady_opened cs (Inside o from) b = steady_altered (opening o.name b) (λ c. refl) (λ c. refl) (λ c. refl) cs
steady_opened cs _ b = steady_itself cs

pub steady_stored : (cs : List Cell) (receiver : Receiver) (w : ℕ) (v : ℤ) → Steady cs (stored cs receiver w v)
steady_stored cs (Inside o from) w v = steady_altered (storing o.name w v) (λ c. refl) (λ c. refl) (λ c. refl) cs
steady_stored cs _ w v = steady_itself cs

pub steady_ended : (p : Image) (fr : Frame) (cs : List Cell) → Steady cs (ended_cells p fr cs)
steady_ended p fr cs = grind (arith, nat_tests, steady_asked cs fr.receiver, on_none, steady_itself cs)

module _ (fr : Frame) (s : State) where
  -- where it makes a cell its name is free, a request is not taken away and waits for no new token, nothing comes to be served, and a message that it completes
  -- is no matter of this lemma
  abbrev pub IsSteady : Update → Type 0
  IsSteady (Carried from The_message) = ⊥
  IsSteady (Made name class a) = named s.cells name ≡ None
  IsSteady (Requested r) = (r ≡ None → own_request s.cells fr.receiver ≡ None) × Fewer r (own_request s.cells fr.receiver)
  IsSteady (Replied a code) = ⊥
  IsSteady (Handed name a) = named s.cells name ≡ None
  IsSteady _ = Unit {0}

module _ (p : Image) (fr : Frame) (ts : List Task) (s : State) where
  field_apart : (receiver : Receiver) (f : ℕ) → NoQueue (field_place receiver f)
  field_apart x f n m = grind arith

  field_aside : (receiver : Receiver) (f : ℕ) → NoService (field_place receiver f)
  field_aside x f = grind arith

  pub steady_update : (u : Update) → IsSteady fr s u → Steady s.cells (cells_after p fr ts s u)
  steady_update (Carried from The_message) h = absurd h
  steady_update (Carried from (In_register a)) h = steady_moved s.cells (spot_place p fr ts s from) (here fr ts s a) (λ n m. refl) refl
  steady_update (Carried from (In_field f)) h =
      steady_moved s.cells (spot_place p fr ts s from) (field_place fr.receiver f) (field_apart fr.receiver f) (field_aside fr.receiver f)
  steady_update (Handed name a) h = steady_handed s.cells name fr.receiver (here fr ts s a) (λ n m. refl) refl h
  steady_update (Made name class a) h = steady_new s.cells name (An_object_of class) _ (here fr ts s a) (λ n m. refl) refl refl h
  steady_update (Written w v) h = steady_stored s.cells fr.receiver w v
  steady_update (Requested r) h = steady_asked s.cells fr.receiver r h.0
  steady_update (Sessioned b) h = steady_opened s.cells fr.receiver b
  steady_update (Pushed a) h = steady_moved s.cells (here fr ts s a) (Entry (length s.items)) (λ n m. refl) refl
  steady_update (Popped a) h = steady_moved s.cells (top_place s.items) (here fr ts s a) (λ n m. refl) refl
  steady_update (Replied a code) h = absurd h
  steady_update _ h = steady_itself s.cells

  -- arguments are passed, and a result is brought
  pub steady_passed : (depth : ℕ) (xs : List Argument) (first to : ℕ) (cs : List Cell) → Steady cs (passed_cells p fr ts s depth xs first to cs)
  steady_passed depth [] first to cs = steady_itself cs
  steady_passed depth (Takes_word ∷ xs) first to cs = steady_passed depth xs (suc first) (suc to) cs
  steady_passed depth (Takes_own t ∷ xs) first to cs = grind (arith, nat_tests, steady_moved_then cs, steady_moved cs, steady_passed depth xs, named_moved cs)

  pub steady_result : (g : Gives) (a c : ℕ) (below : List Task) → Steady s.cells (result_cells p fr ts s g a c below)
  steady_result x a c below = grind (arith, nat_tests, steady_itself s.cells, steady_moved s.cells)

-- ---- the end of a connect that was left: its client has no session

module _ (p : Image) (clients : List Client) (cs : List Cell) (fit : ClientsFit p clients cs) (n c : ℕ) (at : is_connecting_at n (client_at clients c) ≡ true)
    (none : list_any (is_connect_of c) (service_of cs n).queue ≡ false) where
  pub fit_unconnected : ClientsFit p (with_client c Unconnected clients) cs
  fit_unconnected = fit_eased p clients (with_client c Unconnected clients) cs cs fit record {
    carried = carried_itself cs;
    queues = λ k. queue_other c k Unconnected clients (service_of cs k).queue (none_of_connecting clients c k n at (service_of cs k).queue
        (fit.queues k) (λ same. subst (λ i. list_any (is_connect_of c) (service_of cs i).queue ≡ false) same none)) (fit.queues k);
    sessions = sessions_changed p c Unconnected clients cs cs fit now;
    listed = listed_changed p c Unconnected clients cs cs fit now;
    senders = fit.senders;
    quiet = λ k none. none;
    owned_chain = λ k. omega arith;
  }
    where
      now : Changes c Unconnected cs cs
      now = record {
        others = λ k d other. refl;
        has = λ k h. let clash : None ≡ Some k = sym (connecting_only n k (client_at clients c) at).2 ∙ fit.sessions k c h in cc;
        listed = λ k h. cc;
      }
