-- The end of a stage of a server's dispatch: what becomes of its client, and of the message that a service left.
use Rattle.std.proofs.lemmas.Bool.Decides.{nat_tests}
use Rattle.std.proofs.Common.{List, None, Option, Some, [], ap, append-nil, arith, cond, length, refl, subst, sym, true, ℕ, ℤ, ◌&&◌, ◌++◌, ◌+◌, ◌<◌, ◌==◌, ◌∙◌}
use Rattle.std.proofs.Common.{◌∷◌, ◌≡◌, ◌≤◌}
use Rattle.std.specs.Prelude.{is_some}
use Rattle.std.proofs.lemmas.Bool.{eq-eqb}
use Rattle.aom_cells.specs.Heap.{null}
use Rattle.aom_clients.specs.Clients as kept
use Rattle.aom_clients.specs.Table.{completion}
use Rattle.aom_clients.specs.declared.place.Completion.{Completion}
use Rattle.aom_frames.specs.Tasks.{below_first}
use Rattle.aom_frames.specs.declared.dispatch.Dispatch.TheVariants.{Object as Of_one, Server as Of_one_served}
use Rattle.aom_frames.specs.declared.dispatch.Stage.{Stage as Machine_stage}
use Rattle.aom_frames.specs.declared.dispatch.Stage.TheVariants as stages
use Rattle.aom_frames.specs.declared.dispatch.Subject.{Subject}
use Rattle.aom_frames.specs.declared.task.Task.TheVariants.{Dispatched as Ends}
use Rattle.aom_image.specs.Image.{Image}
use Rattle.aom_image.specs.WellFormed.{WellFormed}
use Rattle.aom_image.specs.declared.method.Thing.TheVariants.{Message}
use Rattle.aom_machine_state.specs.LineBuffer.{LineBuffer}
use Rattle.aom_cells.specs.Store.{Store}
use Rattle.aom_typing_rules.specs.Typing.{Typing}
use Rattle.aom_machine_instructions.proofs.SafetyLemmas.{dispatch_layer, has_sender, held_served, own_held, stands_message}
use Rattle.aom_machine_instructions.proofs.SemanticsLemmas.{held_without}
use Rattle.aom_semantics.specs.Clients.{at_parting, client_at, with_client}
use Rattle.aom_clients.specs.declared.client.Client.{Client}
use Rattle.aom_clients.specs.declared.client.Client.TheVariants.{Unconnected}
use Rattle.aom_clients.specs.Nodes.{is_leaving}
use Rattle.aom_safety.specs.Kept.{StateInvariant, StageKept, TasksKept}
use Rattle.aom_safety.specs.Laws.{IsWired}
use Rattle.aom_semantics.specs.Lines.{message_line, stage_lines}
use Rattle.aom_semantics.specs.Moves.{needs_end, stage_ends, written_task}
use Rattle.aom_semantics.specs.Places.{Cell, Elsewhere, In_service, Object, Place, Session, held, named, seen, service_of, without}
use Rattle.aom_semantics.specs.Servers.{parted, reserved}
use Rattle.aom_semantics.specs.State.{Accept_left, Accepted, Accepts, Dispatched, Goes, Of_object, Of_server, OwnedObject, Service_left, State, Counters, guarded, CompletedTwice}
use Rattle.aom_semantics.specs.State as checked
use Rattle.aom_safety.specs.WellTyped.{Fits, Good, WellTyped}
use Rattle.aom_safety.specs.Claims.{claim, declared}
use Rattle.aom_abstract_state.specs.declared.kind.Kind.TheVariants.{Null}
use Rattle.aom_machine_instructions.proofs.MachineStateLemmas.{beside_served, cells_beside, cells_completed, completed_lines, completion_reported, connect_left}
use Rattle.aom_machine_instructions.proofs.MachineStateLemmas.{connecting_below, connecting_here, kept as stays, leaving_below, listed_beside, message_kept}
use Rattle.aom_machine_instructions.proofs.MachineStateLemmas.{message_reported, messages_served, natives_beside, natives_completed, place_below, place_of}
use Rattle.aom_machine_instructions.proofs.MachineStateLemmas.{requests_completed, requests_kept, same_closed, same_unaccepted, served_written}
use Rattle.aom_machine_instructions.proofs.MachineStateLemmas.{services_completed, session_closed, sized_closed, sized_connected, tokens_beside, reported_served}
use Rattle.aom_machine_instructions.proofs.MachineStateLemmas.{was_taken, writes}
use Rattle.aom_machine_state.specs.Agrees.{Agrees, SameCells, SameNatives, SameRequests, Represents, dispatch_of, number, owned_object_of, stage_of, subject_of, word_at}
use Rattle.aom_machine_state.specs.Places.{others, session_with, value_in, with_tasks}
use Rattle.aom_machine_state.specs.Serving.{message_name}
use Rattle.aom_machine_state.specs.Services.{SameServices}
use Rattle.aom_machine_state.specs.Stands.{Stands}
use Rattle.aom_machine_state.specs.declared.parts.Parts.{Parts}
use Rattle.aom_machine_instructions.proofs.CallActs.{fits_null}
use Rattle.aom_machine_instructions.proofs.Ends.{at_close, at_end, owned_object_lives, step_of_end, which}
use Rattle.aom_machine_instructions.proofs.GoingActs.{end_value, end_word}
use Rattle.aom_machine_instructions.proofs.OnTop.{ending_of}
use Rattle.aom_machine_instructions.proofs.ReturnActs.{lives_within}
use Rattle.aom_machine_instructions.proofs.Running.{an_open}
use Rattle.aom_machine_instructions.proofs.Stepping.{moved_so}
use Rattle.aom_machine_instructions.specs.Going.{ending_here}
use Rattle.aom_machine_instructions.specs.Moves.{Moves}
use Rattle.aom_machine_instructions.specs.Serving.{CanEndStage, Completes, EndsStage, IsTaken, completion_lines}

-- ---- what is known of a server's dispatch at its end

-- it is that of a server, at that stage
pub record AtStage (p : Image) (m : Parts) (s : State) (x : Subject) (c : ℕ) (stage : Machine_stage) : Type 0 where
  pub place : Place
  pub held_top : m.stack.tasks ≡ Ends (Of_one_served x c stage) ∷ []
  pub top : s.tasks ≡ Dispatched (Of_server (owned_object_of place x) c (stage_of stage)) ∷ []

pub at_stage : (p : Image) (t : Typing) (m : Parts) (s : State) → WellTyped p t s →
    Agrees p m s → (x : Subject) (c : ℕ) (stage : Machine_stage) → ending_here m.stack.tasks ≡ Some (Of_one_served x c stage) → AtStage p m s x c stage
at_stage p t m s typed agrees x c stage ending =
    let e = at_end p t m s typed agrees (ending_of m.stack.tasks ending) in
    let is = which m s e (Of_one_served x c stage) ending in
    record { place = e.place; held_top = e.held ∙ ap (λ y. Ends y ∷ []) is; top = e.state ∙ ap (λ y. Dispatched (dispatch_of e.place y) ∷ []) is }

-- the message that was served is there still
pub record InService (p : Image) (s : State) : Type 0 where
  pub object : Object
  pub there : held s.cells (Elsewhere In_service) ≡ Some object
  pub message : object.thing ≡ Message

pub in_service : (p : Image) (t : Typing) (s : State) (x : OwnedObject) (c : ℕ) (code : ℤ) → WellTyped p t s →
    s.tasks ≡ Dispatched (Of_server x c (Service_left code)) ∷ [] → InService p s
in_service p t s x c code typed top =
    dispatch_layer (Good p t s.cells) (Of_server x c (Service_left code)) [] typed.layers (sym typed.tasks ∙ top) typed.good (λ owned_chain ls _ good.
    let own = own_held p (seen s.cells) (held s.cells (Elsewhere In_service)) Message (good.fits (Elsewhere In_service)) in
    record { object = own.0; there = own.1; message = stands_message p own.0.thing own.2 })

-- the session of a client whose close was served is gone
session_gone : (p : Image) (t : Typing) (s : State) (x : OwnedObject) (c : ℕ) →
    WellTyped p t s → s.tasks ≡ Dispatched (Of_server x c checked.Disconnects) ∷ [] → held s.cells (Elsewhere (Session x.object.name c)) ≡ None
session_gone p t s x c typed top =
    dispatch_layer (Good p t s.cells) (Of_server x c checked.Disconnects) [] typed.layers (sym typed.tasks ∙ top) typed.good (λ owned_chain ls _ good.
    let q = Elsewhere (Session x.object.name c) in
    let old = claim p (declared p s.cells) ls q in
    let null_there : cond ((x.object.name == x.object.name) && (c == c)) Null old ≡ Null =
    grind (arith, nat_tests, eq-eqb x.object.name x.object.name, eq-eqb c c) in
    fits_null p (seen s.cells) (held s.cells q) (subst (Fits p (seen s.cells) (held s.cells q)) null_there (good.fits q)))

-- ---- what is left

module _ (p : Image) (formed : WellFormed p) (m : Parts) (announced : m.rest.announced ≡ true)
    (t : Typing) (s : State) (wired : IsWired p) (typed : WellTyped p t s) (fits : StateInvariant p s) (agrees : Agrees p m s) (x : Subject) (c : ℕ) where
  -- all of the machine but its tasks, with these cells and these clients
  record Left (k : kept.ClientsState) (store : Store) (served : ℕ) (cs : List Cell) (at : List Client) (owned_object : OwnedObject) : Type 0 where
    cells : SameCells p m.cells cs
    requests : SameRequests p m.active cs
    natives : SameNatives p m.sessions cs s.killed
    services : SameServices p k store m.tokens m.listed cs at
    values : (q : Place) → Represents (value_in (Ends (Of_one x) ∷ []) m.cells m.entries.items (record (others m) { clients = k; served = served }) q)
        (word_at (Dispatched (Of_object owned_object) ∷ []) q) (held cs q)

  -- the dispatch is one of an object then
  ends_so : (q : Place) (k : kept.ClientsState) (store : Store) (served : ℕ) (cs : List Cell) (at : List Client) → Left k store served cs at (owned_object_of q x)
      → Agrees p (record m { stack = record m.stack { tasks = Ends (Of_one x) ∷ [] }; clients = k; messages = store; served = served })
      (record (at_close s) { cells = cs; clients = at; tasks = Dispatched (Of_object (owned_object_of q x)) ∷ [] })
  ends_so q k store served cs at left = record {
    tasks = ((q, refl), tt);
    values = left.values;
    cells = left.cells;
    entries = agrees.entries;
    requests = left.requests;
    natives = left.natives;
    services = left.services;
    rest = agrees.rest ∙ ap (λ b. record s.rest { announced = b }) (sym (ap (λ (r : Counters). r.announced) agrees.rest) ∙ announced);
    room = agrees.room;
    entry_room = agrees.entry_room;
  }

  module _ (stage : Machine_stage) (e : AtStage p m s x c stage) where
    abbrev owned_object : OwnedObject
    owned_object = owned_object_of e.place x

    lives : named s.cells x.number ≡ Some (subject_of x)
    lives = owned_object_lives p t s typed (Of_server owned_object c (stage_of stage)) owned_object e.top refl

    below : x.number < p.header.cells
    below = lives_within p m s agrees (subject_of x) lives refl

    stage_kept : StageKept p s.clients s.cells (subject_of x) c (stage_of stage)
    stage_kept = subst (λ us. TasksKept p s.clients s.cells us) e.top fits.stage

    -- places of tasks show nothing
    base : (q : Place) →
        Represents (value_in (Ends (Of_one x) ∷ []) m.cells m.entries.items (others m) q) (word_at (Dispatched (Of_object owned_object) ∷ []) q) (held s.cells q)
    base q = grind (arith, nat_tests, end_value (Of_one_served x c stage) (Of_one x) m.cells m.entries.items, end_word)

    -- nothing else changes
    plain : Left m.clients m.messages m.served s.cells s.clients owned_object
    plain = record { cells = agrees.cells; requests = agrees.requests; natives = agrees.natives; services = agrees.services; values = base }

  -- a client whose connect was left has no session
  left_alone : (code : ℤ) (e : AtStage p m s x c (stages.AcceptLeft code)) →
      Left (kept.after_connected c None m.clients) m.messages m.served s.cells (with_client c Unconnected s.clients) (owned_object_of e.place x)
  left_alone code e =
      let stage = stages.AcceptLeft code in
      let same = agrees.services.clients in
      let connects = stage_kept stage e in
      let at = connecting_here m.clients s.cells s.clients same x.number c connects.0 in
      let client = connecting_below s.cells s.clients m.clients same c x.number connects.0 in
      record {
        cells = agrees.cells;
        requests = agrees.requests;
        natives = agrees.natives;
        services = record {
          clients = same_unaccepted p t wired s typed fits.fit m.clients same p.header.cells agrees.services.sized (owned_object_of e.place x) c (lives stage e)
              (below stage e) connects;
          sized = sized_connected p.header.cells m.clients agrees.services.sized c None;
          messages = agrees.services.messages;
          tokens = agrees.services.tokens;
          listed = agrees.services.listed;
        };
        values = λ q. subst (λ v. Represents v (word_at (Dispatched (Of_object (owned_object_of e.place x)) ∷ []) q) (held s.cells q)) (sym (connect_left
            (others m) (Ends (Of_one x) ∷ []) m.cells m.entries.items c x.number (subst (λ i. c < i) (sym same.many) client) at.0 at.1 q)) (base stage e q);
      }

  -- after a close there is no session
  parts_so : (e : AtStage p m s x c stages.Disconnects) → Left (kept.after_closed c m.clients) m.messages m.served
      (reserved (parted c) x.number s.cells) (with_client c (at_parting (client_at s.clients c)) s.clients) (owned_object_of e.place x)
  parts_so e =
      let stage = stages.Disconnects in
      let same = agrees.services.clients in
      let leaves = stage_kept stage e in
      let client = leaving_below s.cells s.clients m.clients same c x.number leaves.0 in
      let v = parted c (service_of s.cells x.number) in
      let beside = beside_served s.cells x.number v in
      let gone : kept_session ≡ null = agrees.values (Elsewhere (Session x.number c)) ∙ ap number (session_gone p t s (owned_object_of e.place x) c typed e.top) in
      let leaving : is_leaving x.number (kept.client_at m.clients c) ≡ true = grind (arith, nat_tests) in
      record {
        cells = cells_beside p m.cells s.cells _ beside agrees.cells;
        requests = requests_kept p m.active s.cells x.number v refl agrees.requests;
        natives = natives_beside p m.sessions s.killed s.cells _ formed.header.cells beside agrees.natives;
        services = record {
          clients = same_closed p t wired s typed fits.fit m.clients same p.header.cells agrees.services.sized (owned_object_of e.place x) c (lives stage e) leaves;
          sized = sized_closed p.header.cells m.clients agrees.services.sized c;
          messages = messages_served p m.messages s.cells x.number v agrees.services.messages;
          tokens = tokens_beside p m.tokens s.cells _ beside (reported_served s.cells x.number v refl) agrees.services.tokens;
          listed = listed_beside p m.listed s.cells _ beside agrees.services.listed;
        };
        values = λ q. subst (λ v. Represents v (word_at (Dispatched (Of_object (owned_object_of e.place x)) ∷ []) q) (held (reserved (parted c) x.number s.cells) q))
            (sym (session_closed (others m) (Ends (Of_one x) ∷ []) m.cells m.entries.items c x.number
            (subst (λ i. c < i) (sym same.many) client) leaving gone q)) (subst (λ o. Represents (value_in (Ends (Of_one x) ∷ []) m.cells m.entries.items
            (others m) q) (word_at (Dispatched (Of_object (owned_object_of e.place x)) ∷ []) q) o) (sym (held_served s.cells x.number v q)) (base stage e q));
      }
    where
      kept_session : ℕ
      kept_session = session_with x.number (kept.client_at m.clients c)

  -- the message of a service that was left is completed
  module _ (code : ℤ) (e : AtStage p m s x c (stages.ServiceLeft code)) where
    abbrev stage : Machine_stage
    stage = stages.ServiceLeft code

    its : InService p s
    its = in_service p t s (owned_object_of e.place x) c code typed e.top

    abbrev q : Place
    q = Elsewhere In_service

    number_is : m.served ≡ its.object.name
    number_is = agrees.values q ∙ ap number its.there

    -- what is served has a sender
    sent : has_sender s.cells its.object.name ≡ true
    sent = fits.fit.served its.object its.there

    module _ (mid : Parts) (now before : LineBuffer) (does : Completes m.served code (record m { served = null }) mid before now) where
      name : its.object.name ≡ message_name does.place
      name = sym number_is ∙ sym does.number

      abbrev k : kept.ClientsState
      k = kept.after_complete does.place m.clients

      completed : Left k mid.messages null (without q s.cells) s.clients (owned_object_of e.place x)
      completed = record {
        cells = cells_completed p t s typed q its.object its.there its.message does.place name m.cells agrees.cells;
        requests = requests_completed p t s typed q its.object its.there its.message does.place name m.active agrees.requests;
        natives = natives_completed p t s typed q its.object its.there its.message does.place name m.sessions formed.header.cells agrees.natives;
        services = services_completed p t s typed q its.object its.there
            its.message does.place name wired fits refl sent m.clients m.messages m.tokens m.listed agrees.services mid.messages does.released does.count;
        values = grind (arith, nat_tests, writes, base, served_written (Ends (Of_one x) ∷ []) m.cells m.entries.items, stays, held_without s.cells);
      }

      reported : completion_lines (completion (kept.place_at m.clients does.place)) code ≡ message_line s.cells (held s.cells q) code
      reported = same_lines (completion (kept.place_at m.clients does.place))
          ∙ sym (ap (λ o. message_line s.cells o code) its.there ∙ message_reported m.clients s.cells s.clients agrees.services.clients its.object does.place code
          name (was_taken p t s typed q its.object its.there its.message does.place name wired fits refl m.clients agrees.services.clients))
        where
          same_lines : (o : Option Completion) → completion_lines o code ≡ completed_lines code o
          same_lines None = refl
          same_lines (Some c) = refl

    taken : IsTaken m.served m
    taken =
        let at = place_of p t s typed q its.object its.there its.message m.messages agrees.services.messages in
        record {
          place = at.0;
          number = sym (number_is ∙ at.1);
          below = place_below p t s typed q its.object its.there its.message at.0 at.1 m.messages agrees.services.messages;
          kept = message_kept p t s typed q its.object its.there its.message at.0 at.1 m.messages agrees.services.messages;
          taken = completion_reported p t s typed q its.object its.there its.message at.0 at.1 wired fits refl m.clients agrees.services.clients sent;
        }

  -- ---- each stage

  abbrev then : Parts → Parts
  then mid = with_tasks (Ends (Of_one x) ∷ below_first mid.stack.tasks) mid

  abbrev Reported : List Cell → Machine_stage → LineBuffer → LineBuffer → Type 0
  Reported cs stage before now = now ≡ record before { lines = before.lines ++ stage_lines cs c (stage_of stage) }

  -- what is below goes on with it
  over : (k : kept.ClientsState) (store : Store) (served : ℕ) (stage : Machine_stage) (u : State) → AtStage p m s x c stage
      → Agrees p (record m { stack = record m.stack { tasks = Ends (Of_one x) ∷ [] }; clients = k; messages = store; served = served }) u →
      Agrees p (then (record m { clients = k; messages = store; served = served })) u
  over k store served _ u e h = grind (arith, nat_tests)

  ends_stage : (stage : Machine_stage) (mid : Parts) (before now : LineBuffer) (e : AtStage p m s x c stage) → EndsStage c stage m mid before now
      → Agrees p (then mid) (stage_ends (owned_object_of e.place x) c (stage_of stage) (at_close s)) × Reported s.cells stage before now
  ends_stage stages.Accepts mid before now e does = (
    subst (λ k. Agrees p (then k) (stage_ends (owned_object_of e.place x) c checked.Accepts (at_close s))) (sym does.0)
        (over m.clients m.messages m.served stages.Accepts _ e (ends_so e.place m.clients m.messages m.served s.cells s.clients (plain stages.Accepts e))),
    does.1 ∙ ap (λ ls. record before { lines = ls }) (sym (append-nil before.lines)),
  )
  ends_stage stages.Accepted mid before now e does = (
    subst (λ k. Agrees p (then k) (stage_ends (owned_object_of e.place x) c checked.Accepted (at_close s))) (sym does.0)
        (over m.clients m.messages m.served stages.Accepted _ e (ends_so e.place m.clients m.messages m.served s.cells s.clients (plain stages.Accepted e))),
    does.1,
  )
  ends_stage (stages.AcceptLeft code) mid before now e does = (grind (arith, nat_tests, at_close s, over, ends_so e.place, left_alone code e), does.1)
  ends_stage (stages.Serves o) mid before now e does = (
    subst (λ k. Agrees p (then k) (stage_ends (owned_object_of e.place x) c (checked.Serves (subject_of o)) (at_close s))) (sym does.0) (over
        m.clients m.messages m.served (stages.Serves o) _ e (ends_so e.place m.clients m.messages m.served s.cells s.clients (plain (stages.Serves o) e))),
    does.1 ∙ ap (λ ls. record before { lines = ls }) (sym (append-nil before.lines)),
  )
  ends_stage (stages.ServiceLeft code) mid before now e does = (
    grind (arith, nat_tests, at_close s, over, ends_so e.place, completed code e mid now before does),
    does.line ∙ ap (λ ls. record before { lines = before.lines ++ ls }) (reported code e mid now before does),
  )
  ends_stage stages.Disconnects mid before now e does = (
    grind (arith, nat_tests, at_close s, over, ends_so e.place, parts_so e),
    does.1 ∙ ap (λ ls. record before { lines = ls }) (sym (append-nil before.lines)),
  )

  -- what a service that left needs is met
  needs_met : (stage : Machine_stage) (e : AtStage p m s x c stage) (v : State) →
      guarded (needs_end (Of_server (owned_object_of e.place x) c (stage_of stage)) s.cells) v ≡ Goes v
  needs_met (stages.ServiceLeft code) e v = ap (λ o. guarded ((is_some o, CompletedTwice) ∷ []) v) (its code e).there
  needs_met _ e v = refl

  -- the client is one, and the message that a service left is still the one that is served
  can_end_stage : (stage : Machine_stage) → AtStage p m s x c stage → CanEndStage c stage m
  can_end_stage y e = grind (
    arith,
    nat_tests,
    stage_kept,
    connecting_below s.cells s.clients m.clients agrees.services.clients c x.number,
    taken,
    leaving_below s.cells s.clients m.clients agrees.services.clients c x.number,
  )

-- the end of a stage is a move
pub stage_moves : (p : Image) (m : Parts) (before now : LineBuffer) → m.rest.announced ≡ true → (x : Subject) (c : ℕ) (stage : Machine_stage) (mid : Parts) →
    ending_here m.stack.tasks ≡ Some (Of_one_served x c stage) → EndsStage c stage m mid before now
    → Moves p m before now (with_tasks (Ends (Of_one x) ∷ below_first mid.stack.tasks) mid)
stage_moves p m before now announced x c stage mid ending does t s sound typed fits agrees =
    let e = at_stage p t m s typed agrees x c stage ending in
    let o = an_open p before.refused m s agrees in
    let owned_object = owned_object_of e.place x in
    let after = stage_ends owned_object c (stage_of stage) (at_close s) in
    let is = step_of_end p o.0 s (Of_server owned_object c (stage_of stage)) e.top
    ∙ needs_met p sound.formed m announced t s sound.wired typed fits agrees x c stage e after in
    let ends = ends_stage p sound.formed m announced t s sound.wired typed fits agrees x c stage mid before now e does in (
      moved_so p m (with_tasks (Ends (Of_one x) ∷ below_first mid.stack.tasks) mid) before.refused t s after sound typed o is ends.0,
      ends.1 ∙ ap (λ ls. record before { lines = before.lines ++ ls }) (sym (ap (λ us. written_task p s us) e.top)),
    )

-- what its end requires of the code
pub stage_can : (p : Image) (m : Parts) → Stands (record { image = p; parts = m }) →
    m.rest.announced ≡ true → (x : Subject) (c : ℕ) (stage : Machine_stage) → ending_here m.stack.tasks ≡ Some (Of_one_served x c stage) → CanEndStage c stage m
stage_can p m st announced x c stage ending = grind (
  arith,
  nat_tests,
  at_stage p st.1.typing m st.0 st.1.typed st.1.agrees x c stage ending,
  can_end_stage p st.1.sound.formed m announced st.1.typing st.0 st.1.sound.wired st.1.typed st.1.kept st.1.agrees x c stage,
)

-- no task changes as a stage ends
pub stage_stack : (c : ℕ) (stage : Machine_stage) (old new : Parts) (reported now : LineBuffer) → EndsStage c stage old new reported now → new.stack ≡ old.stack
stage_stack c x old new _ _ does = grind arith

pub stage_room : (c : ℕ) (stage : Machine_stage) (old new : Parts) (reported now : LineBuffer) →
    EndsStage c stage old new reported now → (length old.stack.tasks + 1) < old.stack.depth → length new.stack.tasks ≤ new.stack.depth
stage_room c stage old new reported now does room = subst (λ k. length k.tasks ≤ k.depth) (sym (stage_stack c stage old new reported now does)) (omega (arith, room))
