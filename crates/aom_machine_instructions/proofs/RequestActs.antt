-- Instructions on the request of what a method works on: the machine's table stands for the requests that the checked machine then has.
use Rattle.std.proofs.lemmas.Bool.Decides.{nat_tests}
use Rattle.aom_frames.specs.Views.{class_above}
use Rattle.std.proofs.Common.{◌≡◌, ◌≢◌, ◌<◌, ◌==◌, ℕ, ℤ, Bool, true, false, cond, length, List, ◌∷◌}
use Rattle.std.proofs.Common.{Option, Some, None, IsSome, refl, sym, ap, ◌∙◌, subst, arith}
use Rattle.std.specs.Prelude.{is_some, option_map}
use Rattle.std.specs.Int.{w32, cast_signed}
use Rattle.std.proofs.lemmas.Bool.{eq-eqb, false≢true}
use Rattle.std.proofs.lemmas.Option.{none-some, same_Some}
use Rattle.aom_machine_instructions.proofs.ImageLemmas.{some_given}
use Rattle.aom_image.specs.Image.{Image}
use Rattle.aom_image.specs.Views.{class_at as declared_at}
use Rattle.aom_image.specs.declared.class.ClassDecl.{ClassDecl}
use Rattle.aom_image.specs.declared.class.ClassKind.{ClassKind}
use Rattle.aom_image.specs.declared.class.ClassKind.TheVariants.{Active as An_active}
use Rattle.aom_image.specs.declared.class.Provider.{Provider}
use Rattle.aom_image.specs.declared.class.Provider.TheVariants.{Timer as A_timer, Native}
use Rattle.aom_image.specs.declared.method.Role.TheVariants.{Cancel as Cancels_role}
use Rattle.aom_image.specs.declared.method.Thing.{Thing}
use Rattle.aom_instructions.specs.declared.instr.Instr.{Instr}
use Rattle.aom_instructions.specs.declared.instr.Instr.TheVariants.{Abort, Cancel, Issue, JumpActive, JumpAdded, SetActive, Status}
use Rattle.aom_roles.specs.Things.{is_object}
use Rattle.aom_roles.specs.Tests.{AllTrue}
use Rattle.aom_roles.specs.Kinds.{is_active_kind, is_listed_kind}
use Rattle.aom_cells.specs.Sessions.{is_killed, is_open}
use Rattle.aom_semantics.specs.Natives.{is_served_by_dead, native_of, own_session, started}
use Rattle.aom_link_conditions.specs.Roles.{or_else, role_of}
use Rattle.aom_cells.specs.Heap.{null, Heap, Lives, cell_at, class_at, class_of}
use Rattle.aom_cells.specs.declared.cell.Cell.{Cell as Machine_cell}
use Rattle.aom_roles.specs.Classes.{kind_in, sessions_in, sessions_of}
use Rattle.aom_roles.specs.Shapes.{kind_of}
use Rattle.aom_scheduler.specs.Requests.{request_at, state_at, state_of, status_at}
use Rattle.aom_scheduler.specs.declared.request.RequestState.TheVariants.{Active as Machine_active}
use Rattle.aom_scheduler.specs.declared.request.Request.{Request as Machine_request}
use Rattle.aom_active_objects.specs.Agrees.{Active, RefinesRequests, queued}
use Rattle.aom_active_objects.specs.Meanings.{Enlists, Makes, Times, asked_anew, begun_with, is_being_cancelled, is_busy, is_waited_for}
use Rattle.aom_machine_instructions.proofs.ActiveObjectsLemmas.{asked_set, held_state, newest, newest_timer, queued_same, status_is_determined, reported_active, reported_busy}
use Rattle.aom_machine_instructions.proofs.ActiveObjectsLemmas.{reported_cancelling, reported_enlisted, reported_fresh, reported_state, reported_status}
use Rattle.aom_semantics.specs.Effects.{applied, cancels_if, jumps_if, updates, Cancels, Requested, writes as writes_word, asking_with, observed}
use Rattle.aom_machine_instructions.proofs.MachineStateLemmas.{cell_of, cells_asked, natives_request_updated, services_request_updated, services_request_updated_with}
use Rattle.aom_machine_instructions.proofs.MachineStateLemmas.{stands_here, tokens_forgotten}
use Rattle.aom_semantics.specs.Requests as enlisted
use Rattle.aom_semantics.specs.Requests.{aborted, begun_cells, cancel_method, cancel_of, cancelling, due_after, first_request, receiver_kind}
use Rattle.aom_semantics.specs.Requests.{in_phase, is_cancelling, is_idle, is_issued, issued_by, issued_of, next_order, next_timer, on_request}
use Rattle.aom_semantics.specs.Requests.{own_request, request_updated, status_of, thing_kind, waits, Asking, completed_at_once}
use Rattle.aom_semantics.specs.Places.{Register, Service, service_of, Cell, Idle, Issued, Object, Phase}
use Rattle.aom_semantics.specs.Places.{Place, Request, in_session, named, requested, set_request}
use Rattle.aom_semantics.specs.State.{Choice, Frame, Receiver, Inside, Run, State, Task, frame_as}
use Rattle.aom_semantics.specs.Moves.{needs}
use Rattle.aom_semantics.specs.Words.{read, word_or_zero}
use Rattle.aom_machine_instructions.proofs.SafetyLemmas.{active_listed, issuing_active, request_updated_alike, service_asked}
use Rattle.aom_safety.specs.Requests.{Known, ConformsTo}
use Rattle.aom_semantics.specs.Tokens.{awaited}
use Rattle.aom_clients.specs.Lists.{Table}
use Rattle.aom_machine_state.specs.Serving.{message_name}
use Rattle.aom_cells.specs.Tokens.{Kept, Sets}
use Rattle.aom_machine_state.specs.Services.{SameServices}
use Rattle.aom_frames.specs.Tasks.{with_view, view_here, fresh, register_here, this_here}
use Rattle.aom_frames.specs.declared.task.Task.TheVariants.{Run as Runs_frame}
use Rattle.aom_machine_state.specs.declared.parts.Parts.{Parts}
use Rattle.aom_machine_instructions.specs.Acts.{CurrentFrame, Does, DoesIn}
use Rattle.aom_machine_state.specs.Places.{others, WritesWord, value_in, with_tasks}
use Rattle.aom_machine_state.specs.Places as places
use Rattle.aom_machine_instructions.specs.Acts as acts
use Rattle.aom_machine_state.specs.Agrees.{SameFrame, viewed, Agrees, SameCells, SameRequests, Represents, receiver_number, thing_in, word_at, observed_by}
use Rattle.aom_machine_state.specs.Fields.{this}
use Rattle.aom_machine_instructions.specs.Next.{IsNext, counting}
use Rattle.aom_machine_instructions.specs.Requests.{Issues, kind_here, provider_of}
use Rattle.aom_machine_instructions.proofs.FieldActs.{receiver_held, inside_number, inside_object}
use Rattle.aom_machine_instructions.proofs.GoingActs.{fresh_as, fresh_with, thing_is}
use Rattle.aom_machine_instructions.proofs.GoingOn.{goes_on_as}
use Rattle.aom_machine_instructions.proofs.ReceiverHolding.{has_task, needs_met}
use Rattle.aom_machine_instructions.proofs.Running.{begun_as, by_top, free, object_class}
use Rattle.aom_machine_instructions.proofs.Stepping.{at_step}
use Rattle.aom_machine_instructions.proofs.WordActs.{observed_at, jumps, passes, plain_in, plain_does, word_put, word_read}

-- ---- the cells with another request of one of them

pub cells_request_updated : (p : Image) (h : Heap) (cs : List Cell) (receiver : Receiver) (r : Option Request) → SameCells p h cs → SameCells p h (request_updated cs receiver r)
cells_request_updated p h cs x r same = grind (arith, nat_tests, cells_asked p h cs)

-- the table that has that request under its name stands for them
pub requests_set : (p : Image) (old new : Active) (cs : List Cell) (o : Object) (r : Option Request) → named cs o.name ≡ Some o → new.table.limit
    ≡ old.table.limit → RefinesRequests new (asked_anew o.name r (requested cs)) (queued p cs) → SameRequests p old cs → SameRequests p new (set_request o.name r cs)
requests_set p old new cs o r lives limit stands same = record {
  stands = grind (
    arith,
    nat_tests,
    status_is_determined new,
    asked_set cs o.name r,
    queued_same p cs,
    request_updated_alike cs (Inside o (Register 0 0)) r,
    service_asked cs o.name r,
  );
  limit = limit ∙ same.limit;
}

-- ---- what a test of a phase tells

pub in_one : (test : Phase → Bool) (o : Option Request) → in_phase test o ≡ true → (r : Request) × (o ≡ Some r) × (test r.phase ≡ true)
in_one test x e = grind arith

pub idle_only : (x : Phase) → is_idle x ≡ true → x ≡ Idle
idle_only x e = grind arith

issued_only : (x : Phase) → is_issued x ≡ true → x ≡ Issued
issued_only x e = grind arith

-- an object that waits is active
pub waits_active : (h : Option Machine_request) → is_waited_for h ≡ true → state_of h ≡ Some Machine_active
waits_active h e = grind arith

-- a change that keeps the order of a request
order_kept : (f : Request → Request) → ((r : Request) → (f r).order ≡ r.order) → (o : Option Request) →
    option_map (λ x. x.order) (on_request f o) ≡ option_map (λ x. x.order) o
order_kept f same x = grind arith

-- and one that keeps what it waits for
pub token_kept : (f : Request → Request) → ((r : Request) → (f r).token ≡ r.token) → (o : Option Request) → awaited (on_request f o) ≡ awaited o
token_kept f same x = grind arith

-- a request that is made so waits for no token
issued_unreported : (q : Provider) (asking : Asking) (w : ℤ) (o : Option Request) → awaited (on_request (issued_by q asking w) o) ≡ None
issued_unreported q asking w o = grind arith

-- and one that is idle waits for none
unreported_idle : (k : Option ClassKind) (n : Known) (o : Option Request) → ConformsTo k n o → in_phase is_idle o ≡ true → awaited o ≡ None
unreported_idle k n o conforms_to idle = grind arith

issued_order : (q : Provider) (asking : Asking) (w : ℤ) (r : Request) → (issued_by q asking w r).order ≡ r.order
issued_order q asking w r = grind arith

-- ---- what a class of active objects makes its requests of

-- an active object is no server
unserving : (k k' : Option ClassKind) → k ≡ k' → is_active_kind k' ≡ true → is_some (sessions_in k) ≡ false
unfolding sessions_in sessions_of
unserving k k' e active = grind arith

-- the provider of a kind, and how a request is made of it
provided : (k : Option ClassKind) (q : Provider) → provider_of k ≡ Some q → k ≡ Some (An_active q)
provided x q e = grind (arith, nat_tests, same_Some)

issued_as : (k : Option ClassKind) (q : Provider) (asking : Asking) (w : ℤ) → provider_of k ≡ Some q → issued_of k asking w ≡ issued_by q asking w
issued_as k q asking w e = ap (λ k. issued_of k asking w) (provided k q e)

-- the native that serves the objects of a class is its provider
pub native_provided : (k : Option ClassKind) (n : ℕ) → provider_of k ≡ Some (Native n) → native_of k ≡ Some n
native_provided k n e = ap native_of (provided k (Native n) e)

-- what is of a class of active objects lives, and its class is declared
cell_there : (p : Image) (c : Option Machine_cell) → is_active_kind (kind_of p (class_of c)) ≡ true → IsSome c
unfolding kind_of
cell_there p c e = grind arith

pub kind_lives : (p : Image) (m : Parts) → is_active_kind (kind_here p m) ≡ true → Lives m.cells (this m)
kind_lives p m e = cell_there p (cell_at m.cells (this m)) e

class_there : (o : Option ClassDecl) → is_active_kind (kind_in o) ≡ true → IsSome o
unfolding kind_in
class_there o e = grind arith

pub kind_declared : (p : Image) (class : Option ℕ) (c : ℕ) → class ≡ Some c → is_active_kind (kind_of p class) ≡ true → IsSome (declared_at p c)
unfolding kind_of
kind_declared p class c is e = class_there (declared_at p c) (ap (λ k. is_active_kind (kind_of p k)) (sym is) ∙ e)

pub active_kind : (k : ClassKind) → is_active_kind (Some k) ≡ true → (q : Provider) × (k ≡ An_active q)
active_kind x e = grind arith

pub kind_found : (p : Image) (class : Option ℕ) (c : ℕ) (d : ClassDecl) → class ≡ Some c → declared_at p c ≡ Some d → kind_of p class ≡ Some d.kind
unfolding kind_of kind_in
kind_found p class c d is e = ap (kind_of p) is ∙ ap kind_in e

-- ---- the object of a method

pub record OnObject (p : Image) (m : Parts) (h : CurrentFrame p m) : Type 0 where
  pub object : Object
  pub from : Place
  pub receiver : h.frame.receiver ≡ Inside object from
  pub lives : named h.state.cells object.name ≡ Some object
  pub number : this m ≡ object.name
  pub cell : is_object object.thing ≡ true

-- the machine's cell is of the same kind
pub kind_same : (p : Image) (c : Option Machine_cell) (t : Thing) → thing_in c ≡ Some t → thing_kind p t ≡ kind_of p (class_of c)
kind_same p c t e = grind (arith, nat_tests, some_given, same_Some)

module _ (p : Image) (m : Parts) (h : CurrentFrame p m) where
  pub on_object : is_listed_kind (receiver_kind p h.frame.receiver) ≡ true → OnObject p m h
  on_object listed = go h.frame.receiver refl listed
    where
      go : (receiver : Receiver) → h.frame.receiver ≡ receiver → is_listed_kind (receiver_kind p receiver) ≡ true → OnObject p m h
      go (Inside o from) e listed = record { object = o; from = from; receiver = e; lives = receiver_held p m h o from e; number = inside_number p m h o from e; cell = inside_object p m h o from e }
      go _ e listed = absurd (false≢true listed)

  module _ (x : OnObject p m h) where
    pub object_lives : Lives m.cells (this m)
    object_lives = subst (Lives m.cells) (sym x.number) (ap is_some (cell_of p m.cells h.state.cells x.object.name x.object h.agrees.cells x.lives x.cell).1)

    -- its request stands under the machine's number
    pub own_reported : own_request h.state.cells h.frame.receiver ≡ requested h.state.cells (this m)
    own_reported = ap (own_request h.state.cells) x.receiver ∙ ap (requested h.state.cells) (sym x.number)

    pub named_here : named h.state.cells (this m) ≡ Some x.object
    named_here = ap (named h.state.cells) x.number ∙ x.lives

    pub thing_here : thing_in (cell_at m.cells (this m)) ≡ Some x.object.thing
    thing_here = ap (λ n. thing_in (cell_at m.cells n)) x.number ∙ object_class p m h.state h.agrees x.object x.lives x.cell

    pub kind_reported : receiver_kind p h.frame.receiver ≡ kind_here p m
    kind_reported = ap (receiver_kind p) x.receiver ∙ kind_same p _ x.object.thing thing_here

    -- the method that cancels is the one that the machine finds
    -- what it counts as for the method that runs
    pub counts_reported : (class counted : ℕ) → class_at m.cells (this m) ≡ Some class →
        Some counted ≡ or_else (class_above (view_here m.stack.tasks)) (Some class) → h.frame.view ≡ Some counted
    counts_reported class counted is counts = grind (arith, nat_tests, by_top p m h, thing_is x.object.thing class, thing_here)

    pub cancel_reported : (class counted : ℕ) → class_at m.cells (this m) ≡ Some class →
        Some counted ≡ or_else (class_above (view_here m.stack.tasks)) (Some class) → cancel_method p h.frame ≡ role_of p counted Cancels_role
    cancel_reported class counted is counts = ap (cancel_of p) (counts_reported class counted is counts)

    -- which is of the same kind
    pub counted_kind : (class counted : ℕ) → class_at m.cells (this m) ≡ Some class →
        Some counted ≡ or_else (class_above (view_here m.stack.tasks)) (Some class) → kind_of p (Some class) ≡ kind_of p (Some counted)
    counted_kind class counted is counts = grind (
      arith,
      nat_tests,
      stands_here p h.typing h.state h.frame h.below h.typed h.top,
      counts_reported class counted is counts,
      thing_is x.object.thing class,
      thing_here,
    )

    -- what the table tells of it
    pub active_reported : is_waited_for (request_at m.active.table (this m)) ≡ in_phase enlisted.is_active (own_request h.state.cells h.frame.receiver)
    active_reported = reported_active m.active (requested h.state.cells) (queued p h.state.cells) h.agrees.requests.stands (this m)
        ∙ sym (ap (in_phase enlisted.is_active) own_reported)

    pub busy_reported : is_busy (request_at m.active.table (this m)) ≡ in_phase enlisted.is_busy (own_request h.state.cells h.frame.receiver)
    busy_reported = reported_busy m.active (requested h.state.cells) (queued p h.state.cells) h.agrees.requests.stands (this m)
        ∙ sym (ap (in_phase enlisted.is_busy) own_reported)

    pub cancelling_reported : is_being_cancelled (request_at m.active.table (this m)) ≡ in_phase is_cancelling (own_request h.state.cells h.frame.receiver)
    cancelling_reported = reported_cancelling m.active (requested h.state.cells) (queued p h.state.cells) h.agrees.requests.stands (this m)
        ∙ sym (ap (in_phase is_cancelling) own_reported)

    pub added_reported : is_some (request_at m.active.table (this m)) ≡ is_some (own_request h.state.cells h.frame.receiver)
    added_reported = grind (arith, nat_tests, reported_enlisted m.active, own_reported)

    -- at an active object nothing waits
    active_unqueued : is_active_kind (receiver_kind p h.frame.receiver) ≡ true → queued p h.state.cells (this m) ≡ None
    active_unqueued active = grind (arith, nat_tests, named_here, unserving)

    pub state_reported : is_active_kind (receiver_kind p h.frame.receiver) ≡ true → (r : Request) → own_request h.state.cells h.frame.receiver ≡ Some r →
        state_at m.active.table (this m) ≡ Some (held_state r.phase)
    state_reported active r is =
        reported_state m.active (requested h.state.cells) (queued p h.state.cells) h.agrees.requests.stands (this m) r (sym own_reported ∙ is) (active_unqueued active)

    pub fresh_reported : own_request h.state.cells h.frame.receiver ≡ None → request_at m.active.table (this m) ≡ None
    fresh_reported none = grind (arith, nat_tests, reported_fresh m.active, own_reported)

    pub status_reported : is_active_kind (receiver_kind p h.frame.receiver) ≡ true →
        word_or_zero (status_at m.active.table (this m)) ≡ status_of (own_request h.state.cells h.frame.receiver)
    status_reported active = grind (arith, nat_tests, fresh_reported, reported_status m.active, own_reported, active_unqueued active)

    -- the requests with another one of this object
    requests_asked : (a : Active) (r : Option Request) → a.table.limit ≡ m.active.table.limit →
        RefinesRequests a (asked_anew (this m) r (requested h.state.cells)) (queued p h.state.cells) → SameRequests p a (request_updated h.state.cells h.frame.receiver r)
    requests_asked a r limit stands = subst (λ receiver. SameRequests p a (request_updated h.state.cells receiver r)) (sym x.receiver)
        (requests_set p m.active a h.state.cells x.object r x.lives limit
        (subst (λ n. RefinesRequests a (asked_anew n r (requested h.state.cells)) (queued p h.state.cells)) x.number stands) h.agrees.requests)

    -- it becomes this of it
    pub requests_become : (a : Active) (f : Request → Request) (r : Request) → own_request h.state.cells h.frame.receiver ≡ Some r →
        Makes m.active a (this m) f → SameRequests p a (request_updated h.state.cells h.frame.receiver (on_request f (own_request h.state.cells h.frame.receiver)))
    requests_become a f r is makes = subst (λ o. SameRequests p a (request_updated h.state.cells h.frame.receiver (on_request f o))) (sym is) (requests_asked a
        (Some (f r)) makes.limit (makes.stands (requested h.state.cells) (queued p h.state.cells) r h.agrees.requests.stands (sym own_reported ∙ is)))

    pub requests_enlisted : (a : Active) (priority : ℤ) (waits : Option Bool) → queued p h.state.cells (this m) ≡ waits →
        Enlists m.active a (this m) priority waits → SameRequests p a (request_updated h.state.cells h.frame.receiver (Some (first_request h.state.cells priority)))
    requests_enlisted a priority waits is enlists = requests_asked a (Some (first_request h.state.cells priority)) enlists.limit (enlists.stands
        (requested h.state.cells) (queued p h.state.cells) (next_order h.state.cells) h.agrees.requests.stands (newest h.state.cells h.typed.good.no_duplicates) is)

    -- the cells then
    abbrev pub become : (Request → Request) → List Cell
    become f = request_updated h.state.cells h.frame.receiver (on_request f (own_request h.state.cells h.frame.receiver))

    -- and so what clients have, where it keeps its order, and waits for a token as before
    pub services_become : (f : Request → Request) → ((r : Request) → (f r).order ≡ r.order) → awaited (on_request f (own_request h.state.cells h.frame.receiver))
        ≡ awaited (own_request h.state.cells h.frame.receiver) → SameServices p m.clients m.messages m.tokens m.listed (become f) h.state.clients
    services_become f same token = services_request_updated p h.state.cells h.frame.receiver (on_request f (own_request h.state.cells h.frame.receiver))
        (receiver_held p m h) (order_kept f same (own_request h.state.cells h.frame.receiver)) token h.agrees.services

    -- each request but its own is as it was
    own_asked : (r : Option Request) (n : ℕ) → requested (request_updated h.state.cells h.frame.receiver r) n ≡ cond (this m == n) r (requested h.state.cells n)
    own_asked r n = ap (λ receiver. requested (request_updated h.state.cells receiver r) n) x.receiver ∙ sym (asked_set h.state.cells x.object.name r (ap is_some x.lives) n)
        ∙ ap (λ i. cond (i == n) r (requested h.state.cells n)) (sym x.number)

    -- where it waits for no token any more
    pub services_forget : (w : Kept) (f : Request → Request) → ((r : Request) → (f r).order ≡ r.order) → ((r : Request) → (f r).token ≡ None) →
        w.places ≡ m.tokens.places → Sets m.tokens.living w.living (this m) None → SameServices p m.clients m.messages w m.listed (become f) h.state.clients
    services_forget w f same none places forgets =
        let own = own_request h.state.cells h.frame.receiver in
        services_request_updated_with p h.state.cells h.frame.receiver (on_request f own) (receiver_held p m h) (order_kept f same own) w
        (tokens_forgotten p m.tokens w h.state.cells (become f) h.agrees.services.tokens (this m)
        (λ n other. ap awaited (own_asked (on_request f own) n) ∙ ap (λ b. awaited (cond b (on_request f own) (requested h.state.cells n))) other)
        (ap awaited (own_asked (on_request f own) (this m)) ∙ ap (λ b. awaited (cond b (on_request f own) (requested h.state.cells (this m)))) (eq-eqb
        (this m) (this m) refl) ∙ over own) (λ n. ap (λ receiver. (service_of (request_updated h.state.cells receiver (on_request f own)) (message_name n)).token) x.receiver
        ∙ ap (λ (v : Service). v.token) (service_asked h.state.cells x.object.name (on_request f own) (message_name n))) places forgets) h.agrees.services
      where
        over : (o : Option Request) → awaited (on_request f o) ≡ None
        over None = refl
        over (Some r) = none r

    -- an idle request waits for none
    pub idle_unreported : in_phase is_idle (own_request h.state.cells h.frame.receiver) ≡ true → awaited (own_request h.state.cells h.frame.receiver) ≡ None
    idle_unreported idle = grind (arith, nat_tests, unreported_idle)

    -- what a request is made with, and with which status a native would begin it
    abbrev pub made_with : ℤ → Asking
    made_with started = record { clock = h.state.rest.clock; order = next_timer h.state.cells; started = started }

    pub requests_timed : (a : Active) (w started : ℤ) (r : Request) →
        own_request h.state.cells h.frame.receiver ≡ Some r → Times m.active a (this m) (due_after h.state.rest.clock w) → SameRequests p a
        (request_updated h.state.cells h.frame.receiver (on_request (issued_by A_timer (made_with started) w) (own_request h.state.cells h.frame.receiver)))
    requests_timed a w started r is times =
        subst (λ o. SameRequests p a (request_updated h.state.cells h.frame.receiver (on_request (issued_by A_timer (made_with started) w) o))) (sym is)
        (requests_asked a (Some (issued_by A_timer (made_with started) w r)) times.limit (times.stands (requested h.state.cells) (queued p h.state.cells) r
        (next_timer h.state.cells) h.agrees.requests.stands (sym own_reported ∙ is) (newest_timer h.state.cells h.typed.good.no_duplicates)))

  -- the object's request is another, and the method goes on
  pub asks_on : (a : Active) (w : Kept) (t : Table) (r : Option Request) → SameRequests p a (request_updated h.state.cells h.frame.receiver r) →
      SameServices p m.clients m.messages w t (request_updated h.state.cells h.frame.receiver r) h.state.clients →
      Agrees p (places.next (record m { active = a; tokens = w; listed = t })) (applied p h.frame h.below h.state (updates h.frame (Requested r)))
  asks_on a w t r requests services =
      let cs = request_updated h.state.cells h.frame.receiver r in
      goes_on_as p m h (record m { active = a; tokens = w; listed = t }) cs h.state.items h.state.rest (record {
        stack = refl;
        cells = cells_request_updated p m.cells h.state.cells h.frame.receiver r h.agrees.cells;
        entries = h.agrees.entries;
        requests = requests;
        natives = natives_request_updated p m.sessions h.state.killed h.state.cells h.frame.receiver r h.agrees.natives;
        services = services;
        rest = h.agrees.rest;
        room = h.agrees.entry_room;
      })
      (λ f ms e top q. subst (λ o. Represents (value_in (Runs_frame f ∷ ms) m.cells m.entries.items (others m) q) (word_at (Run h.frame ∷ h.below) q) o)
      (sym ((request_updated_alike h.state.cells h.frame.receiver r).held_so q)) (top.values q))

-- ---- what the code needs to know of an instruction that is next

module _ (p : Image) (m : Parts) (i : Instr) (next : IsNext p i m)
    (listed : (c : Choice) (fr : Frame) (ts : List Task) (s : State) → AllTrue (needs p c fr ts s i) → is_listed_kind (receiver_kind p fr.receiver) ≡ true) where
  abbrev before : Parts
  before = counting next.counts m

  abbrev hand : CurrentFrame p before
  hand = has_task p before next.stands next.runs

  pub finds_object : OnObject p before hand
  finds_object = let n = needs_met p m i next in on_object p before hand (listed n.0 hand.frame hand.below (acts.requested i (at_step hand.state)) n.1)

  pub finds_cell : Lives m.cells (this m)
  finds_cell = object_lives p before hand finds_object

module _ (p : Image) (m : Parts) where
  pub jump_active_lives : (to : ℕ) → IsNext p (JumpActive to) m → Lives m.cells (this m)
  jump_active_lives to next = finds_cell p m (JumpActive to) next (λ c fr ts s n. active_listed (receiver_kind p fr.receiver) n.0)

  pub jump_added_lives : (to : ℕ) → IsNext p (JumpAdded to) m → Lives m.cells (this m)
  jump_added_lives to next = finds_cell p m (JumpAdded to) next (λ c fr ts s n. n.0)

  pub status_lives : (a : ℕ) → IsNext p (Status a) m → Lives m.cells (this m)
  status_lives a next = finds_cell p m (Status a) next (λ c fr ts s n. active_listed (receiver_kind p fr.receiver) n.1.0)

  pub issue_lives : (a b : ℕ) → IsNext p (Issue a b) m → Lives m.cells (this m)
  issue_lives a b next = finds_cell p m (Issue a b) next (λ c fr ts s n. active_listed (receiver_kind p fr.receiver) (issuing_active (receiver_kind p fr.receiver) n.1.1.0))

  pub set_active_lives : IsNext p SetActive m → Lives m.cells (this m)
  set_active_lives next = finds_cell p m SetActive next (λ c fr ts s n. active_listed (receiver_kind p fr.receiver) n.0)

  pub cancel_lives : IsNext p Cancel m → Lives m.cells (this m)
  cancel_lives next = finds_cell p m Cancel next (λ c fr ts s n. active_listed (receiver_kind p fr.receiver) n.0)

  pub abort_lives : IsNext p Abort m → Lives m.cells (this m)
  abort_lives next = finds_cell p m Abort next (λ c fr ts s n. active_listed (receiver_kind p fr.receiver) n.0)

  -- one that makes a request is idle, and its class has a provider
  pub issue_idle : (a b : ℕ) → IsNext p (Issue a b) m → state_at m.active.table (this m) ≡ Some (held_state Idle)
  issue_idle a b next =
      let n = needs_met p m (Issue a b) next in
      let x = finds_object p m (Issue a b) next (λ c fr ts s n. active_listed (receiver_kind p fr.receiver) (issuing_active (receiver_kind p fr.receiver) n.1.1.0)) in
      let r = in_one is_idle _ n.1.1.1.1.1.0 in
      state_reported p _ _ x (issuing_active _ n.1.1.1.0) r.0 r.1 ∙ ap (λ x. Some (held_state x)) (idle_only r.0.phase r.2)

  pub issue_provided : (a b : ℕ) → IsNext p (Issue a b) m → is_active_kind (kind_here p m) ≡ true
  issue_provided a b next =
      grind (arith, nat_tests, needs_met p m (Issue a b) next, finds_object p m (Issue a b) next, active_listed, issuing_active, kind_reported p)

  -- one that waits from then on has a request
  pub set_active_issued : IsNext p SetActive m → state_at m.active.table (this m) ≡ Some (held_state Issued)
  set_active_issued next =
      let n = needs_met p m SetActive next in
      let x = finds_object p m SetActive next (λ c fr ts s n. active_listed (receiver_kind p fr.receiver) n.0) in
      let r = in_one is_issued _ n.1.1.1.1.0 in
      state_reported p _ _ x n.1.0 r.0 r.1 ∙ ap (λ x. Some (held_state x)) (issued_only r.0.phase r.2)

  -- the class of one that cancels has a method that does
  pub cancel_kind : IsNext p Cancel m → is_active_kind (kind_here p m) ≡ true
  cancel_kind next = grind (arith, nat_tests, needs_met p m Cancel next, finds_object p m Cancel next, active_listed, kind_reported p)

  pub cancel_there : (class counted : ℕ) → IsNext p Cancel m → class_at m.cells (this m) ≡ Some class →
      Some counted ≡ or_else (class_above (view_here m.stack.tasks)) (Some class) → role_of p counted Cancels_role ≡ None → ⊥
  cancel_there class counted next is counts none =
      let x = finds_object p m Cancel next (λ c fr ts s n. active_listed (receiver_kind p fr.receiver) n.0) in
      let kind = counted_kind p (counting next.counts m) _ x class counted is counts in
      let found = next.stands.1.sound.wired.cancel counted (ap is_active_kind (sym kind) ∙ ap (λ k. is_active_kind (kind_of p k)) (sym is) ∙ cancel_kind next) in
      none-some _ (sym none ∙ found.1)

  -- one that is aborted is being cancelled
  pub abort_cancelling : IsNext p Abort m → is_being_cancelled (request_at m.active.table (this m)) ≡ true
  abort_cancelling next = grind (arith, nat_tests, needs_met p m Abort next, finds_object p m Abort next, active_listed, cancelling_reported p)

-- ---- the instructions

module _ (m : Parts) (refused : List ℕ) where
  -- a jump by what the table tells of the request
  jumps_as : (p : Image) (h : CurrentFrame p m) (there here : Bool) (to : ℕ) →
      here ≡ there → Agrees p (cond there (places.to_place to m) (places.next m)) (applied p h.frame h.below h.state (jumps_if h.frame here to))
  jumps_as p h x here to e = grind (arith, nat_tests, jumps m refused p h to, passes m refused p h)

  pub jump_active_does : (to : ℕ) (b : Bool) → is_busy (request_at m.active.table (this m)) ≡ b →
      Does refused (JumpActive to) m (cond b (places.to_place to m) (places.next m))
  jump_active_does to b is =
      plain_does m _ refused (JumpActive to) refl (λ p h c met. jumps_as p h b _ to (sym (busy_reported p m h (on_object p m h (active_listed _ met.0))) ∙ is))

  pub jump_added_does : (to : ℕ) (b : Bool) → is_some (request_at m.active.table (this m)) ≡ b →
      Does refused (JumpAdded to) m (cond b (places.to_place to m) (places.next m))
  jump_added_does to b is = plain_does m _ refused (JumpAdded to) refl (λ p h c met. jumps_as p h b _ to (sym (added_reported p m h (on_object p m h met.0)) ∙ is))

  -- the status of the last request, and 0 where there was none
  pub status_does : (new : Parts) (a : ℕ) → WritesWord a (word_or_zero (status_at m.active.table (this m))) m new → Does refused (Status a) m new
  status_does new a x = plain_does m new refused (Status a) refl (λ p h c met. subst (λ v. Agrees p new (applied p h.frame h.below h.state
      (writes_word h.frame a v))) (status_reported p m h (on_object p m h (active_listed _ met.1.0)) met.1.0) (word_put p m new h a _ (free _ met.0) x))

module _ (m : Parts) (refused : List ℕ) (a : Active) where
  -- the request of the object that works becomes another at the same place of the list
  becomes : (test : Phase → Bool) (f : Request → Request) (w : Kept) → Makes m.active a (this m) f → (p : Image) (h : CurrentFrame p m) →
      ((on : OnObject p m h) → SameServices p m.clients m.messages w m.listed (become p m h on f) h.state.clients) → is_active_kind (receiver_kind p h.frame.receiver)
      ≡ true → in_phase test (own_request h.state.cells h.frame.receiver) ≡ true → Agrees p (places.next (record m { active = a; tokens = w }))
      (applied p h.frame h.below h.state (updates h.frame (Requested (on_request f (own_request h.state.cells h.frame.receiver)))))
  becomes test f w makes p h services kind phase =
      let r = in_one test _ phase in
      let on = on_object p m h (active_listed _ kind) in
      asks_on p m h a w m.listed _ (requests_become p m h on a f r.0 r.1 makes) (services on)

  pub set_active_does : Makes m.active a (this m) waits → Does refused SetActive m (places.next (record m { active = a }))
  set_active_does makes = plain_does m _ refused SetActive refl (λ p h c met. becomes is_issued waits m.tokens makes p h
      (λ on. services_become p m h on waits (λ r. refl) (token_kept waits (λ r. refl) (own_request h.state.cells h.frame.receiver))) met.0 met.1.1.1.0)

  -- its token, if it waits for one, is void
  pub abort_does : (w : Kept) → Makes m.active a (this m) aborted →
      w.places ≡ m.tokens.places → Sets m.tokens.living w.living (this m) None → Does refused Abort m (places.next (record m { active = a; tokens = w }))
  abort_does w makes places forgets = plain_does m _ refused Abort refl
      (λ p h c met. becomes is_cancelling aborted w makes p h (λ on. services_forget p m h on w aborted (λ r. refl) (λ r. refl) places forgets) met.0 met.1.0)

-- what a native has answered is what the checked machine hears
module _ (p : Image) (m : Parts) (h : CurrentFrame p m) (on : OnObject p m h) (n : ℕ) (serves : native_of (kind_here p m) ≡ Some n) where
  dead_reported : is_killed m.sessions n ≡ is_served_by_dead p h.frame h.below h.state
  dead_reported = grind (arith, nat_tests, kind_reported p m h on)

  session_reported : is_open m.sessions (this m) ≡ own_session h.state.cells h.frame.receiver
  session_reported = h.agrees.natives.sessions (this m) ∙ ap (in_session h.state.cells) on.number ∙ sym (ap (own_session h.state.cells) on.receiver)

  pub observed_reported : {A : Type 0} (f : Bool → Bool → ℤ → A) (c : Choice) →
      c.answer ≡ observed_by m → f (is_killed m.sessions n) (is_open m.sessions (this m)) (observed_by m) ≡ observed p c h.frame h.below h.state f
  observed_reported f c observes = grind (arith, nat_tests, dead_reported, session_reported)

-- a request is made of a provider
requests_made : (p : Image) (m : Parts) (h : CurrentFrame p m) (on : OnObject p m h) (a : Active) (q : Provider) (w status : ℤ) (r : Request) → own_request
    h.state.cells h.frame.receiver ≡ Some r → ((n : ℕ) → q ≡ Native n → started (is_killed m.sessions n) (is_open m.sessions (this m)) (observed_by m) ≡ status) →
    Issues q m.sessions (observed_by m) h.state.rest.clock w m.active a (this m) →
    SameRequests p a (request_updated h.state.cells h.frame.receiver (on_request (issued_by q (made_with p m h on status) w) (own_request h.state.cells h.frame.receiver)))
requests_made p m h on a A_timer w status r is begins issues = requests_timed p m h on a w status r is issues
requests_made p m h on a (Native n) w status r is begins issues =
    requests_become p m h on a (begun_with status) r is (subst (λ v. Makes m.active a (this m) (begun_with v)) (begins n refl) issues)
requests_made p m h on a _ w status r is begins issues = requests_become p m h on a (completed_at_once w) r is issues

pub issue_does : (p : Image) (m : Parts) (refused : List ℕ) (a : Active) (q : Provider) (b x : ℕ) →
    provider_of (kind_here p m) ≡ Some q → Issues q m.sessions (observed_by m) m.rest.clock (cast_signed w32 (register_here m.stack.tasks b)) m.active a (this m) →
    DoesIn p refused (Issue b x) m (places.next (record m { active = a }))
unfolding DoesIn
issue_does p m refused a q b x provider issues h here = observed_at p m _ refused (Issue b x) refl h (λ c observes met typed.
    let clock = h.state.rest.clock in
    let asking = asking_with p c h.frame h.below h.state in
    let w = read h.frame h.below h.state b in
    let on = on_object p m h (active_listed _ (issuing_active _ met.1.1.0)) in
    let r = in_one is_idle _ met.1.1.1.1.0 in
    let made = issued_as (receiver_kind p h.frame.receiver) q asking w (ap provider_of (kind_reported p m h on) ∙ provider) in
    let same : m.rest.clock ≡ clock = ap (λ r. r.clock) h.agrees.rest in
    let it = subst (λ n. Issues q m.sessions (observed_by m) n w m.active a (this m)) same
    (subst (λ v. Issues q m.sessions (observed_by m) m.rest.clock v m.active a (this m)) (word_read p m h b met.0) issues) in
    subst (λ f. Agrees p (places.next (record m { active = a }))
    (applied p h.frame h.below h.state (updates h.frame (Requested (on_request f (own_request h.state.cells h.frame.receiver)))))) (sym made)
    (asks_on p m h a m.tokens m.listed _ (requests_made p m h on a q w asking.started r.0 r.1 (λ n native. observed_reported p m h on n
    (native_provided (kind_here p m) n (provider ∙ ap (λ v. Some v) native)) started c observes) it) (services_become p m h on (issued_by q asking w)
    (issued_order q asking w) (issued_unreported q asking w (own_request h.state.cells h.frame.receiver) ∙ sym (idle_unreported p m h on met.1.1.1.1.0)))))

-- a request that is not active is left alone
pub cancel_idle_does : (m : Parts) (refused : List ℕ) → is_waited_for (request_at m.active.table (this m)) ≡ false → Does refused Cancel m (places.next m)
cancel_idle_does m refused idle = plain_does m _ refused Cancel refl (λ p h c met.
    let on = on_object p m h (active_listed _ met.0) in
    subst (λ b. Agrees p (places.next m) (applied p h.frame h.below h.state (cancels_if h.frame b (cancel_method p h.frame))))
    (sym (sym (active_reported p m h on) ∙ idle)) (passes m refused p h))

-- and else the method that cancels begins over the one that runs
module _ (p : Image) (m : Parts) (refused : List ℕ) (a : Active) (k : ℕ) where
  abbrev cancels : Parts
  cancels = with_tasks (Runs_frame (with_view (view_here m.stack.tasks) (fresh k (this m))) ∷ m.stack.tasks) (record m { active = a })

  cancel_begins : (h : CurrentFrame p m) → this m ≡ receiver_number h.frame.receiver → SameRequests p a (begun_cells h.frame h.state.cells) →
      Agrees p cancels (applied p h.frame h.below h.state (Cancels k))
  cancel_begins h number requests =
      let s = h.state in
      let fr = h.frame in
      let ts = h.below in
      let n = this m in
      let v = view_here m.stack.tasks in
      let seen : fr.view ≡ viewed v fr.receiver = by_top p m h (λ us. fr.view ≡ viewed (view_here us) fr.receiver) (λ f ms top. top.frame.view) in
      let r = on_request cancelling (own_request s.cells fr.receiver) in
      let cs = begun_cells fr s.cells in
      let called = frame_as k fr.receiver fr.view (length s.items) in
      let top_receiver_held = by_top p m h (λ us. this_here us ≢ null → this_here us < 4096) (λ f ms top. top.frame.receiver_held) in
      by_top p m h (λ us. Agrees p (record m { stack = record m.stack { tasks = Runs_frame (with_view v (fresh k n)) ∷ us }; active = a })
      (record s { cells = cs; tasks = Run called ∷ Run fr ∷ ts })) (λ f ms top. record {
        tasks =
            (subst (λ x. SameFrame (with_view v (fresh k n)) (frame_as k fr.receiver x (length s.items))) (sym seen) (begun_as k n fr.receiver v (length s.items) number top_receiver_held), (top.frame, top.below));
        values = grind (
          arith,
          nat_tests,
          fresh_with k n v (Runs_frame f ∷ ms) m.cells m.entries.items,
          fresh_as k fr.receiver fr.view,
          request_updated_alike s.cells fr.receiver r,
        );
        cells = cells_request_updated p m.cells s.cells fr.receiver r h.agrees.cells;
        entries = h.agrees.entries;
        requests = requests;
        natives = natives_request_updated p m.sessions s.killed s.cells fr.receiver r h.agrees.natives;
        services = services_request_updated p s.cells fr.receiver r (receiver_held p m h) (order_kept cancelling (λ r. refl) (own_request s.cells fr.receiver))
            (token_kept cancelling (λ r. refl) (own_request s.cells fr.receiver)) h.agrees.services;
        rest = h.agrees.rest;
        room = h.agrees.room;
        entry_room = h.agrees.entry_room;
      })

  pub cancel_does : (class counted : ℕ) → class_at m.cells (this m) ≡ Some class →
      Some counted ≡ or_else (class_above (view_here m.stack.tasks)) (Some class) → role_of p counted Cancels_role ≡ Some k →
      is_waited_for (request_at m.active.table (this m)) ≡ true → Makes m.active a (this m) cancelling → DoesIn p refused Cancel m cancels
  cancel_does class counted is counts role waited makes = plain_in p m _ refused Cancel refl (λ h c met typed.
      let on = on_object p m h (active_listed _ met.0) in
      let active = sym (active_reported p m h on) ∙ waited in
      let r = in_one enlisted.is_active _ active in
      subst (λ b. Agrees p cancels (applied p h.frame h.below h.state (cancels_if h.frame b (cancel_method p h.frame)))) (sym active)
      (subst (λ o. Agrees p cancels (applied p h.frame h.below h.state (cancels_if h.frame true o))) (sym (cancel_reported p m h on class counted is counts ∙ role))
      (cancel_begins h (on.number ∙ sym (ap receiver_number on.receiver)) (requests_become p m h on a cancelling r.0 r.1 makes))))
