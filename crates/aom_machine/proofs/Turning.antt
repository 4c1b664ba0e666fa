-- The parts of a turn: what the machine does between dispatches is what the checked machine does.
use Rattle.std.proofs.lemmas.Bool.Decides.{nat_tests}
use Rattle.std.proofs.Common.{ap, append-nil, arith, Bool, cond, false, length, List, None, Option, pos}
use Rattle.std.proofs.Common.{refl, Some, subst, suc, sym, true, ℕ, ◌<◌, ◌≤◌, ◌∙◌, ◌∷◌, ◌++◌, ◌≡◌, []}
use Rattle.std.specs.Prelude.{IfSome, IsSome, is_some, not, option_map, ◌||◌, ◌≢◌}
use Rattle.std.proofs.lemmas.Bool.{eq-eqb, true≢false}
use Rattle.std.proofs.lemmas.List.{nil_from_length}
use Rattle.std.proofs.lemmas.Option.{same_Some}
use Rattle.aom_image.specs.Image.{Image}
use Rattle.aom_image.specs.declared.method.Role.TheVariants.{Run as Handles}
use Rattle.aom_image.specs.declared.method.Thing.{Thing}
use Rattle.aom_image.specs.declared.method.Thing.TheVariants.{Object as An_object_of}
use Rattle.aom_roles.specs.Things.{is_object}
use Rattle.aom_typing_rules.specs.Typing.{Typing}
use Rattle.aom_roles.specs.Tables.{at}
use Rattle.aom_cells.specs.Heap.{Heap, cell_at, class_at, class_of, null}
use Rattle.aom_cells.specs.declared.cell.Cell.{Cell as Machine_cell}
use Rattle.aom_frames.specs.declared.item.Item.{Item as Machine_item}
use Rattle.aom_frames.specs.declared.item.Item.TheVariants.{Mark as Is_mark}
use Rattle.aom_frames.specs.Tasks.{fresh}
use Rattle.aom_frames.specs.declared.dispatch.Dispatch.{Dispatch as Machine_dispatch}
use Rattle.aom_frames.specs.declared.dispatch.Dispatch.TheVariants.{Object as Of_one}
use Rattle.aom_frames.specs.declared.dispatch.Subject.{Subject}
use Rattle.aom_frames.specs.declared.task.Task.{Task as Machine_task}
use Rattle.aom_frames.specs.declared.task.Task.TheVariants.{Dispatched as Ends, Run as Runs_frame, Trapped as Is_trap}
use Rattle.aom_machine_state.specs.LineBuffer.{LineBuffer}
use Rattle.aom_transcript.specs.declared.line.Ending.TheVariants.{Limit, Waiting}
use Rattle.aom_transcript.specs.declared.line.Line.TheVariants.{Run as Run_line}
use Rattle.aom_machine.proofs.ActiveObjectsLemmas.{are_wanted, asked_set, due_first, none_due, none_picked as none_chosen, picked as is_chosen, queued_same}
use Rattle.aom_machine.proofs.ActiveObjectsLemmas.{status_is_determined, reported_server, reported_state, reported_status}
use Rattle.aom_active_objects.specs.Agrees.{Active, RefinesRequests as Asks_for, queued, timer_in}
use Rattle.aom_active_objects.specs.Meanings.{IsFirstDue, IsFirstReady, Makes, asked_anew}
use Rattle.aom_active_objects.specs.Meanings as meanings
use Rattle.aom_scheduler.specs.Requests.{is_server as is_served, request_at}
use Rattle.aom_machine.proofs.SafetyLemmas.{Alike, apart_still, at_rest, comes_asked, completed, fit_same, on_none, picked, picked_well, request_updated_alike}
use Rattle.aom_machine.proofs.SafetyLemmas.{same_requested, signals_are_ready}
use Rattle.aom_safety.specs.Claims.{items_of}
use Rattle.aom_semantics.specs.Requests.{on_request, part_of, status_of, taken_up, timed_out}
use Rattle.aom_semantics.specs.Tokens.{awaited}
use Rattle.aom_semantics.specs.Servers.{has_more, is_server}
use Rattle.aom_semantics.specs.Places.{Cell, Elsewhere, Object, Place, Register, Request, Root, Timer, held, named, requested, service_of}
use Rattle.aom_semantics.specs.State.{Dispatch, Dispatched, Goes, Inside, Of_object, Counters, OwnedObject, State}
use Rattle.aom_safety.specs.WellTyped.{PreservesTyping}
use Rattle.aom_semantics.specs.World.{Candidate, Cuts, Observes, IsBetween, Passes, Picks, Timed, Turning, Waits, dispatched, serves_first, due_of, first_due}
use Rattle.aom_semantics.specs.World.{first_ready, is_ready, picked as any_picked, run_line, turned, with_request, written_by, ready_count, signal_count}
use Rattle.aom_machine.proofs.TerminationLemmas.{asked_same, picking}
use Rattle.aom_termination.specs.Left.{is_entry}
use Rattle.aom_termination.specs.BudgetOwners as budget_owners
use Rattle.aom_termination.specs.BudgetOwners.{declared_of, budget_owner, price_of}
use Rattle.aom_machine_state.specs.declared.parts.Parts.{Parts}
use Rattle.aom_machine_state.specs.declared.progress.Progress.TheVariants.{Turned}
use Rattle.aom_machine_state.specs.Agrees.{Agrees, SameCells, SameRequests, SameTasks, Represents, owned_object_of, thing_in, thing_of, word_at}
use Rattle.aom_machine_state.specs.Places.{Others, others, value, value_in}
use Rattle.aom_machine_state.specs.Progress.{progress_by}
use Rattle.aom_machine_state.specs.Stands.{KeepsWithin, MachineModel, Stands, Refines}
use Rattle.aom_machine.specs.Steps.{progress}
use Rattle.aom_machine.specs.Turns.{CanDispatch, Completed, Dispatches, Picked, TakesAll, running}
use Rattle.aom_machine.proofs.MachineStateLemmas.{at_depth, cells_asked, going_past, mark_shows_none, natives_asked, none_alike, over_value, over_words}
use Rattle.aom_machine.proofs.MachineStateLemmas.{register_past, same_items_length, services_asked}
use Rattle.aom_machine.proofs.MachineInstructionsLemmas.{agrees_rest, begun_frame, class_fits, dispatches_with_room, fresh_value, fresh_word, lives_below}
use Rattle.aom_machine.proofs.MachineInstructionsLemmas.{none_formed, room_rest, thing_is, typed_rest, within_rest}
use Rattle.aom_machine.proofs.Idle.{stands_idle}
use Rattle.aom_machine.proofs.Progressing.{between, is_as_far}
use Rattle.aom_machine.proofs.Served.{ticks_unreported}

-- ---- another request of a cell

module _ (cs : List Cell) (o : Object) (f : Request → Request) where
  pub alike : Alike cs (with_request f o cs)
  alike = request_updated_alike cs (Inside o (Elsewhere Root)) (on_request f (requested cs o.name))

  pub cells_then : (p : Image) (h : Heap) → SameCells p h cs → SameCells p h (with_request f o cs)
  cells_then p h same = cells_asked p h cs o.name (on_request f (requested cs o.name)) same

  pub requests_asked : (p : Image) (old new : Active) (r : Request) →
      named cs o.name ≡ Some o → requested cs o.name ≡ Some r → Makes old new o.name f → SameRequests p old cs → SameRequests p new (with_request f o cs)
  requests_asked p old new r lives is makes h = record {
    stands = status_is_determined new (asked_anew o.name (Some (f r)) (requested cs)) (requested (with_request f o cs)) (queued p cs)
        (queued p (with_request f o cs)) now
        (λ n there. sym (queued_same p cs (with_request f o cs) alike.named_so alike.queues_so n)) (makes.stands (requested cs) (queued p cs) r h.stands is);
    limit = makes.limit ∙ h.limit;
  }
    where
      now : (n : ℕ) → asked_anew o.name (Some (f r)) (requested cs) n ≡ requested (with_request f o cs) n
      now n = grind (arith, nat_tests, asked_set cs o.name)

-- where the request keeps its order
pub order_same : (f : Request → Request) → ((r : Request) → (f r).order ≡ r.order) → (q : Option Request) →
    option_map (λ x. x.order) (on_request f q) ≡ option_map (λ x. x.order) q
order_same f same x = grind arith

-- ---- nothing is at hand

pub machine_between : (m : MachineModel) (s : State) → Refines m s → progress m ≡ Turned → IsBetween s
machine_between m s st turned = between s (sym (is_as_far m s st) ∙ turned)

-- a turn that writes nothing
pub silent : (reported : LineBuffer) → reported ≡ record reported { lines = reported.lines ++ [] }
silent reported = ap (λ ls. record reported { lines = ls }) (sym (append-nil reported.lines))

-- what no place tells is another
pub stands_rest : (p : Image) (m : Parts) (s : State) (r r' : Counters) → r ≡ r' → r'.steps ≡ s.rest.steps →
    Refines (record { image = p; parts = m }) s → Refines (record { image = p; parts = record m { rest = r } }) (record s { rest = r' })
stands_rest p m s r r' same steps st = record {
  typing = st.typing;
  sound = st.sound;
  typed = typed_rest p st.typing s r' st.typed;
  only_quiet = st.only_quiet;
  traps = st.traps;
  room = room_rest p _ _ s r' st.room;
  waits = st.waits;
  kept = record { fit = st.kept.fit; stage = st.kept.stage; tokens = st.kept.tokens };
  within = within_rest p st.sound.prices (declared_of p (budget_owner s.tasks)) s r' steps st.within;
  agrees = agrees_rest p m s r r' same st.agrees;
}

-- a part that changes nothing but what no place tells, and writes nothing
pub rest_turns : (p : Image) (m : Parts) → progress_by m.rest.ended m.stack.tasks ≡ Turned →
    (part : Turning) (f : Counters → Counters) → ((s : State) → (turned p s part ≡ Goes (record s { rest = f s.rest })) × (written_by p s part ≡ [])) →
    ((r : Counters) → (f r).steps ≡ r.steps) → TakesAll (record { image = p; parts = m }) part (record { image = p; parts = record m { rest = f m.rest } })
rest_turns p m over part f goes steps reported s st = record {
  between = machine_between (record { image = p; parts = m }) s st over;
  state = record s { rest = f s.rest };
  goes = (goes s).0;
  lines = silent reported ∙ ap (λ ls. record reported { lines = reported.lines ++ ls }) (sym (goes s).1);
  stands = stands_rest p m s (f m.rest) (f s.rest) (ap f st.agrees.rest) (steps s.rest) st;
}

-- so it is of the machine as it is seen, which stands for a state again
module _ (p : Image) (m : Parts) (view : MachineModel) (is : record { image = p; parts = m } ≡ view) (over : progress view ≡ Turned)
    (stands : Stands (record { image = p; parts = m })) where
  seen_turns : (part : Turning) (f : Counters → Counters) →
      ((s : State) → (turned p s part ≡ Goes (record s { rest = f s.rest })) × (written_by p s part ≡ [])) → ((r : Counters) → (f r).steps ≡ r.steps) →
      TakesAll view part (record { image = p; parts = record m { rest = f m.rest } }) × Stands (record { image = p; parts = record m { rest = f m.rest } })
  seen_turns part f goes steps =
      let takes = rest_turns p m (subst (λ (x : MachineModel). progress x ≡ Turned) (sym is) over) part f goes steps in
      let t = takes (record { lines = []; refused = []; room = 0 }) stands.0 stands.1 in
      (subst (λ (x : MachineModel). TakesAll x part (record { image = p; parts = record m { rest = f m.rest } })) is takes, (t.state, t.stands))

  -- time passes
  pub passes_time : (time : ℕ) → TakesAll view (Passes time) (record { image = p; parts = record m { rest = record m.rest { clock = time; polled = 0 } } }) ×
      Stands (record { image = p; parts = record m { rest = record m.rest { clock = time; polled = 0 } } })
  passes_time time = seen_turns (Passes time) (λ r. record r { clock = time; polled = 0 }) (λ s. (refl, refl)) (λ r. refl)

  -- an event comes
  pub observes_one : TakesAll view Observes (record { image = p; parts = record m { rest = record m.rest { delivered = suc m.rest.delivered } } }) ×
      Stands (record { image = p; parts = record m { rest = record m.rest { delivered = suc m.rest.delivered } } })
  observes_one = seen_turns Observes (λ r. record r { delivered = suc r.delivered }) (λ s. (refl, refl)) (λ r. refl)

  -- and what the machine stands for then it stood for before it
  pub stands_back : (s : State) → Refines (record { image = p; parts = record m { rest = record m.rest { delivered = suc m.rest.delivered } } }) s →
      Refines view (record s { rest = view.parts.rest })
  stands_back s st = subst (λ (x : MachineModel). Refines x (record s { rest = x.parts.rest })) is (stands_rest p
      (record m { rest = record m.rest { delivered = suc m.rest.delivered } }) s m.rest m.rest refl (ap (λ (r : Counters). r.steps) st.agrees.rest) st)

  -- the run is over
  pub waits_ends : TakesAll view Waits (record { image = p; parts = record m { rest = record m.rest { ended = Some Waiting } } }) ×
      Stands (record { image = p; parts = record m { rest = record m.rest { ended = Some Waiting } } })
  waits_ends = seen_turns Waits (λ r. record r { ended = Some Waiting }) (λ s. (refl, refl)) (λ r. refl)

  pub cut_ends : TakesAll view Cuts (record { image = p; parts = record m { rest = record m.rest { ended = Some Limit } } }) ×
      Stands (record { image = p; parts = record m { rest = record m.rest { ended = Some Limit } } })
  cut_ends = seen_turns Cuts (λ r. record r { ended = Some Limit }) (λ s. (refl, refl)) (λ r. refl)

-- when the timer that is due first is due
due_same : (o : Option Timed) → option_map (λ x. x.timer.due) o ≡ due_of o
due_same x = grind arith

pub next_due_reported : (m : MachineModel) (due : Option ℕ) → meanings.IsNextDue m.parts.active due → (s : State) → Refines m s → due ≡ due_of (first_due s.cells)
next_due_reported m due next s st = next s.cells (queued m.image s.cells) st.typed.good.no_duplicates st.agrees.requests.stands ∙ due_same (first_due s.cells)

-- and it counts the signals of the checked machine
module _ (m : MachineModel) (count : ℕ) (counts : meanings.IsSignalCount m.parts.active count) (s : State) (st : Refines m s) where
  pub signals_reported : count ≡ signal_count s.cells
  signals_reported = counts s.cells (queued m.image s.cells) st.typed.good.no_duplicates
      (are_wanted m.image s.cells (λ o lives plain. (st.kept.fit.servers o lives plain).0)) st.agrees.requests.stands

  pub ready_between : s.tasks ≡ [] → count ≡ ready_count s.cells
  ready_between idle = signals_reported ∙ ((signals_are_ready m.image st.typing s st.typed).1 idle).count

  pub ready_at_end : (d : Dispatch) → s.tasks ≡ Dispatched d ∷ [] → count ≡ ready_count s.cells
  ready_at_end d ends = signals_reported ∙ ((signals_are_ready m.image st.typing s st.typed).0 d ends).count

-- ---- a timer completes a request

module _ (p : Image) (m : Parts) (a : Active) (turned : progress_by m.rest.ended m.stack.tasks ≡ Turned) where
  abbrev before : MachineModel
  before = record { image = p; parts = m }

  abbrev after : MachineModel
  after = record { image = p; parts = record m { active = a } }

  module _ (s : State) (st : Refines before s) (o : Object) (r : Request) (lives : named s.cells o.name ≡ Some o)
      (is : requested s.cells o.name ≡ Some r) (unreported : awaited (requested s.cells o.name) ≡ None) (makes : Makes m.active a o.name timed_out) where
    abbrev timed : State
    timed = record s { cells = with_request timed_out o s.cells }

    -- it waited for no token, and waits for none
    waits_for_none : awaited (on_request timed_out (requested s.cells o.name)) ≡ awaited (requested s.cells o.name)
    waits_for_none = ap (λ q. awaited (on_request timed_out q)) is ∙ sym unreported

    timed_agrees : Agrees p (record m { active = a }) timed
    timed_agrees = record {
      tasks = st.agrees.tasks;
      values = λ q. subst (λ h. Represents (value m q) (word_at s.tasks q) h) (sym ((alike s.cells o timed_out).held_so q)) (st.agrees.values q);
      cells = cells_then s.cells o timed_out p m.cells st.agrees.cells;
      entries = st.agrees.entries;
      requests = requests_asked s.cells o timed_out p m.active a r lives is makes st.agrees.requests;
      natives = natives_asked p m.sessions s.killed s.cells o.name _ st.agrees.natives;
      services = services_asked p s.cells o (on_request timed_out (requested s.cells o.name)) lives
          (order_same timed_out (λ r. refl) (requested s.cells o.name)) waits_for_none st.agrees.services;
      rest = st.agrees.rest;
      room = st.agrees.room;
      entry_room = st.agrees.entry_room;
    }

    timed_stands : Refines after timed
    timed_stands =
        let idle = (machine_between before s st turned).idle in
        let cs = with_request timed_out o s.cells in
        stands_idle p m s st idle (record m { active = a }) cs s.clients s.rest s.killed (completed p st.typing s st.typed idle (pos 0) refl o s.rest)
        (fit_same p s.clients s.cells cs
        (same_requested s.cells o (on_request timed_out (requested s.cells o.name)) (λ e. on_none timed_out (requested s.cells o.name) e)) st.kept.fit)
        (comes_asked s.cells o.name (on_request timed_out (requested s.cells o.name)) (λ k e. sym waits_for_none ∙ e))
        (asked_same st.sound.prices is_entry o.name (on_request timed_out (requested s.cells o.name)) s.cells) refl timed_agrees

  timer_completes : (id : ℕ) → Makes m.active a id timed_out → ((asked : ℕ → Option Request) (queues : ℕ → Option Bool) →
      Asks_for m.active asked queues → IsFirstDue m.rest.clock id asked) → Completed before true after
  timer_completes id makes first reported s st =
      let f = first (requested s.cells) (queued p s.cells) st.agrees.requests.stands in
      let d = due_first s.cells m.rest.clock id st.typed.good.no_duplicates f in
      let r = has_timer (requested s.cells id) f.timer f.runs in
      let o = d.0.object in
      let same : o.name ≡ id = d.2 in
      let lives : named s.cells o.name ≡ Some o = ap (named s.cells) same ∙ d.3 in
      let is : requested s.cells o.name ≡ Some r.0 = ap (requested s.cells) same ∙ r.1 in
      let unreported : awaited (requested s.cells o.name) ≡ None = grind (arith, nat_tests, ticks_unreported) in
      let made = subst (λ n. Makes m.active a n timed_out) (sym same) makes in (
        d.0,
        d.1,
        omega (arith, d.4, ap (λ (r : Counters). r.clock) st.agrees.rest),
        record {
          between = machine_between before s st turned;
          state = timed s st o r.0 lives is unreported made;
          goes = refl;
          lines = silent reported;
          stands = timed_stands s st o r.0 lives is unreported made;
        },
      )
    where
      has_timer : (q : Option Request) (t : Timer) → timer_in q ≡ Some t → (r : Request) × (q ≡ Some r)
      has_timer x t e = grind arith

  nothing_due : a ≡ m.active → ((asked : ℕ → Option Request) (queues : ℕ → Option Bool) → Asks_for m.active asked queues →
      meanings.NoneDue m.rest.clock asked) → Completed before false after
  nothing_due same none = (
    ap (λ x. record { image = p; parts = record m { active = x } }) same,
    λ s st x e.
        let now = none_due s.cells m.rest.clock st.typed.good.no_duplicates (none (requested s.cells) (queued p s.cells) st.agrees.requests.stands) x e in
        subst (λ n. n < x.timer.due) (ap (λ (r : Counters). r.clock) st.agrees.rest) now,
  )

  pub due_completes : (due : Option ℕ) → meanings.Completes m.rest.clock m.active a due → Completed before (is_some due) after
  due_completes None c = nothing_due c.0 c.1
  due_completes (Some id) c = timer_completes id c.0 c.1

-- and stands for a state again
pub completed_again : (first last : MachineModel) (b : Bool) → Completed first b last → Stands first → Stands last
completed_again first last true c st = let t = (c (record { lines = []; refused = []; room = 0 }) st.0 st.1).3 in (t.state, t.stands)
completed_again first last false c st = subst (λ m. Stands m) (sym c.0) st

-- ---- an object is dispatched

-- the class of a cell, by what it is
pub class_in : (c : Option Machine_cell) (class : ℕ) → thing_in c ≡ Some (An_object_of class) → class_of c ≡ Some class
class_in o class e = grind arith

-- its method that handles the signal is there, since the checked machine goes on with it
has_method : (p : Image) (t : Typing) (x : OwnedObject) (s : State) (o : Option ℕ) → PreservesTyping p t (dispatched o x s) → IsSome o
has_method p t x s y k = grind arith

has_class : (p : Image) (t : Thing) → IsSome (part_of p Handles t) → (class : ℕ) × (t ≡ An_object_of class)
has_class p x some = grind arith

-- the request of the object, once it is another
here : (n : ℕ) (q : Option Request) (asked : ℕ → Option Request) → asked_anew n q asked n ≡ q
here n q asked = ap (λ b. cond b q (asked n)) (eq-eqb n n refl)

-- the line of a dispatch, as the machine writes it
dispatch_line : (s : State) (o : Object) (class : ℕ) → o.thing ≡ An_object_of class →
    run_line s o ≡ Run_line s.rest.clock class (status_of (requested s.cells o.name)) ∷ []
dispatch_line s o class e = ap (λ (t : Thing). run_line s (record o { thing = t })) e

-- no task of a dispatch that begins shows anything, and nor does its mark
begun_value : (d : Machine_dispatch) (us : List Machine_task) (h : Heap) (es : List Machine_item) (others : Others) (q : Place) →
    value_in (Ends d ∷ us) h (Is_mark ∷ es) others q ≡ value_in us h es others q
begun_value d us h es others x = grind (arith, nat_tests, at_depth, register_past us, going_past us, mark_shows_none es)

no_word : (d : Dispatch) (q : Place) → word_at (Dispatched d ∷ []) q ≡ word_at [] q
no_word d (Register k i) = at_depth 0 k None None (λ e. refl)
no_word d _ = refl

module _ (p : Image) (m : Parts) (s : State) (st : Refines (record { image = p; parts = m }) s) (idle : s.tasks ≡ []) where
  -- nothing is on the cleanup stack
  pub none_pushed : s.items ≡ []
  none_pushed = none_formed s.items (st.typed.items ∙ ap items_of (at_rest p st.typing s st.typed idle))

  none_marked : m.entries.items ≡ []
  none_marked = nil_from_length m.entries.items (same_items_length m.entries.items s.items st.agrees.entries ∙ ap length none_pushed)

  pub none_running : m.stack.tasks ≡ []
  none_running = none_alike m.stack.tasks s.tasks st.agrees.tasks idle

  -- what is picked, as the checked machine finds it
  pub record Found (id : ℕ) : Type 0 where
    pub candidate : Candidate
    pub first : first_ready s.cells ≡ Some candidate
    pub name : candidate.owned_object.object.name ≡ id
    pub lives : named s.cells id ≡ Some candidate.owned_object.object
    pub holds : held s.cells candidate.owned_object.place ≡ Some candidate.owned_object.object
    pub asked : requested s.cells id ≡ Some candidate.request
    pub goes : meanings.goes candidate.request (queued p s.cells id) ≡ true
    pub keeps : PreservesTyping p st.typing (any_picked p candidate.owned_object s)

  -- the queues in which something waits are those of servers
  wanted : meanings.AreWanted (queued p s.cells) s.cells
  wanted = are_wanted p s.cells (λ o lives plain. (st.kept.fit.servers o lives plain).0)

  pub found_of : (id : ℕ) → IsFirstReady id (requested s.cells) (queued p s.cells) → Found id
  found_of id f =
      let x = is_chosen s.cells (queued p s.cells) id st.typed.good.no_duplicates wanted f in
      record {
        candidate = x.0;
        first = x.1;
        name = x.2;
        lives = x.3;
        holds = x.4;
        asked = x.5;
        goes = subst (λ r. meanings.goes r (queued p s.cells id) ≡ true) (same_Some _ _ (sym f.stands ∙ x.5)) f.ready;
        keeps = picked_well p st.typing s st.typed idle st.sound.wired st.sound.typed st.kept.fit x.0 x.1;
      }

  pub none_found : meanings.NoneReady (requested s.cells) (queued p s.cells) → first_ready s.cells ≡ None
  none_found none = none_chosen s.cells (queued p s.cells) st.typed.good.no_duplicates wanted none

  -- what waits at it
  queue_reported : (id : ℕ) (k : Found id) (b : Bool) → is_server p k.candidate.owned_object.object.thing ≡ b →
      queued p s.cells id ≡ cond b (Some (has_more (service_of s.cells id).queue)) None
  queue_reported id k b e = grind (arith, nat_tests)

  -- whether it is a server the table tells
  pub serving_reported : (id : ℕ) (k : Found id) → is_served (request_at m.active.table id) ≡ is_server p k.candidate.owned_object.object.thing
  serving_reported id k = reported_server m.active (requested s.cells) (queued p s.cells) st.agrees.requests.stands id k.candidate.request k.asked
      ∙ ap is_some (queue_reported id k (is_server p k.candidate.owned_object.object.thing) refl) ∙ some (is_server p k.candidate.owned_object.object.thing)
    where
      some : (b : Bool) → is_some (cond b (Some (has_more (service_of s.cells id).queue)) None) ≡ b
      some true = refl
      some false = refl

  -- and so it does once the pick has taken the signal of an object
  pub serving_after : (id : ℕ) (k : Found id) (a : Active) →
      meanings.TakesUp (is_served (request_at m.active.table id)) m.active a id → is_served (request_at a.table id) ≡ is_server p k.candidate.owned_object.object.thing
  serving_after id k a takes = go (is_served (request_at m.active.table id)) refl takes
    where
      go : (b : Bool) → is_served (request_at m.active.table id) ≡ b → meanings.TakesUp b m.active a id →
          is_served (request_at a.table id) ≡ is_server p k.candidate.owned_object.object.thing
      go true e same = ap (λ x. is_served (request_at x.table id)) same ∙ serving_reported id k
      go false e makes =
          let stands = makes.stands (requested s.cells) (queued p s.cells) k.candidate.request st.agrees.requests.stands k.asked in
          let then = here id (Some (taken_up k.candidate.request)) (requested s.cells) in
          let plain = sym (serving_reported id k) ∙ e in
          reported_server a (asked_anew id (Some (taken_up k.candidate.request)) (requested s.cells))
          (queued p s.cells) stands id (taken_up k.candidate.request) then ∙ ap is_some (queue_reported id k false plain) ∙ sym plain

  -- an object that is no server
  record Pick (id : ℕ) : Type 0 where
    found : Found id
    ready : is_ready found.candidate.request ≡ true
    plain : is_server p found.candidate.owned_object.object.thing ≡ false
    unqueued : queued p s.cells id ≡ None
    keeps : PreservesTyping p st.typing (dispatched (part_of p Handles found.candidate.owned_object.object.thing) found.candidate.owned_object s)

  -- what is taken up waits for the token that it waited for
  same_waits : (q : Option Request) → awaited (on_request taken_up q) ≡ awaited q
  same_waits x = grind arith

  or_false : (b : Bool) → (b || false) ≡ b
  or_false x = grind arith

  pick_of : (id : ℕ) (k : Found id) → is_server p k.candidate.owned_object.object.thing ≡ false → Pick id
  pick_of id k plain =
      let none = queue_reported id k false plain in
      record {
        found = k;
        ready = sym (or_false (is_ready k.candidate.request)) ∙ ap (λ q. meanings.goes k.candidate.request q) (sym none) ∙ k.goes;
        plain = plain;
        unqueued = none;
        keeps = subst (λ b. PreservesTyping p st.typing (cond b (serves_first p k.candidate.owned_object (service_of s.cells k.candidate.owned_object.object.name).queue s)
            (dispatched (part_of p Handles k.candidate.owned_object.object.thing) k.candidate.owned_object s))) plain k.keeps;
      }

  module _ (id : ℕ) (k : Pick id) where
    abbrev object : Object
    object = k.found.candidate.owned_object.object

    its_method : IsSome (part_of p Handles object.thing)
    its_method = has_method p st.typing k.found.candidate.owned_object s (part_of p Handles object.thing) k.keeps

    its_class : (c : ℕ) × (object.thing ≡ An_object_of c)
    its_class = has_class p object.thing its_method

    its_thing : thing_in (cell_at m.cells id) ≡ Some object.thing
    its_thing = st.agrees.cells.things id ∙ ap thing_of k.found.lives ∙ ap (λ b. cond b (Some object.thing) None) (ap is_object its_class.1)

    -- what the machine needs to know of it
    can_dispatch : (a : Active) → Makes m.active a id taken_up → CanDispatch p (record m { active = a }) id
    can_dispatch a makes = record {
      class = its_class.0;
      is = is;
      small = subst (λ o. IfSome o (λ c. c < 256)) is (class_fits p m s st.agrees id);
      handled = subst (λ t. IsSome (part_of p Handles t)) its_class.1 its_method;
      enlisted = ap is_some (reported_state a _ _ (makes.stands (requested s.cells) (queued p s.cells) k.found.candidate.request st.agrees.requests.stands
          k.found.asked) id (taken_up k.found.candidate.request) (here id (Some (taken_up k.found.candidate.request)) (requested s.cells)) k.unqueued);
      idle = none_running;
      bare = none_marked;
      room = (let deep = st.agrees.room in omega (arith, deep));
    }
      where
        is : class_at m.cells id ≡ Some its_class.0
        is = class_in (cell_at m.cells id) its_class.0 (its_thing ∙ ap Some its_class.1)

    -- the dispatch that the machine begins is that of the checked machine
    module _ (a : Active) (reported now : LineBuffer) (new : Parts) (makes : Makes m.active a id taken_up)
        (d : Dispatches p id (record m { active = a }) reported now new) where
      abbrev then : State
      then = picked d.method k.found.candidate.owned_object s

      name : id ≡ object.name
      name = sym k.found.name

      thing : object.thing ≡ An_object_of d.class
      thing = thing_is object.thing d.class (cell_at m.cells id) d.is its_thing

      method : part_of p Handles object.thing ≡ Some d.method
      method = ap (part_of p Handles) thing ∙ d.handles

      goes : turned p s (Picks k.found.candidate.owned_object) ≡ Goes then
      goes = grind (arith, nat_tests, method)

      lives : named s.cells object.name ≡ Some object
      lives = ap (named s.cells) k.found.name ∙ k.found.lives

      asked : requested s.cells object.name ≡ Some k.found.candidate.request
      asked = ap (requested s.cells) k.found.name ∙ k.found.asked

      -- its cell lives, below all messages
      small : id ≢ null → id < 4096
      small there = grind (arith, nat_tests, lives_below p m s st.sound.formed st.agrees id)

      made : Makes m.active a object.name taken_up
      made = subst (λ n. Makes m.active a n taken_up) name makes

      dispatch_agrees : Agrees p (running d.method d.class id (record m { active = a })) then
      dispatch_agrees = record {
        tasks = (
          begun_frame d.method id (Inside object k.found.candidate.owned_object.place) (length then.items) name small,
          (tt, ((k.found.candidate.owned_object.place, owned_object), subst (λ us. SameTasks us []) (sym none_running) tt)),
        );
        values = values;
        cells = cells_then s.cells object taken_up p m.cells st.agrees.cells;
        entries = (tt, st.agrees.entries);
        requests = requests_asked s.cells object taken_up p m.active a k.found.candidate.request lives asked made st.agrees.requests;
        natives = natives_asked p m.sessions s.killed s.cells object.name _ st.agrees.natives;
        services = services_asked p s.cells object (on_request taken_up (requested s.cells object.name)) lives
            (order_same taken_up (λ r. refl) (requested s.cells object.name)) (same_waits (requested s.cells object.name)) st.agrees.services;
        rest = ap (λ (r : Counters). record r { steps = 0; polled = 0 }) st.agrees.rest;
        room = st.agrees.room;
        entry_room = st.agrees.entry_room;
      }
        where
          subject : Subject
          subject = record { number = id; class = d.class }

          owned_object : Of_object (owned_object_of k.found.candidate.owned_object.place subject) ≡ Of_object k.found.candidate.owned_object
          owned_object = ap (λ n. Of_object (record { object = record { name = n; thing = An_object_of d.class }; place = k.found.candidate.owned_object.place })) name
              ∙ ap (λ t. Of_object (record { object = record { name = object.name; thing = t }; place = k.found.candidate.owned_object.place })) (sym thing)

          dispatch : List Machine_task
          dispatch = Ends (Of_one subject) ∷ m.stack.tasks

          shown : (q : Place) → value_in (Runs_frame (fresh d.method id) ∷ Is_trap ∷ dispatch) m.cells (Is_mark ∷ m.entries.items) (others m) q ≡ value m q
          shown q = fresh_value d.method id (Is_trap ∷ dispatch) m.cells (Is_mark ∷ m.entries.items) (others m) q ∙ over_value true dispatch m.cells
              (Is_mark ∷ m.entries.items) (others m) q ∙ begun_value (Of_one subject) m.stack.tasks m.cells m.entries.items (others m) q

          worded : (q : Place) → word_at then.tasks q ≡ word_at s.tasks q
          worded q = grind (arith, nat_tests, fresh_word d.method, over_words, no_word (Of_object k.found.candidate.owned_object) q)

          values : (q : Place) → Represents (value_in (Runs_frame (fresh d.method id) ∷ Is_trap ∷ dispatch) m.cells (Is_mark ∷ m.entries.items) (others m) q)
              (word_at then.tasks q) (held then.cells q)
          values q = grind (arith, nat_tests, shown q, worded q, alike s.cells)

      -- it costs no more than its class declares
      dispatch_within : KeepsWithin p st.sound.prices then
      dispatch_within = record {
        within = omega (
          arith,
          picking p st.typing st.sound.prices st.sound.wired.family st.sound.linked st.sound.affordable.priced s st.typed idle
              (Picks k.found.candidate.owned_object) lives refl then goes,
          affords,
        );
      }
        where
          affords : price_of p st.sound.prices (budget_owners.class_of object.thing) ≤ declared_of p (budget_owners.class_of object.thing)
          affords = grind (arith, nat_tests, thing)

      dispatch_stands : Refines (record { image = p; parts = running d.method d.class id (record m { active = a }) }) then
      dispatch_stands = record {
        typing = st.typing;
        sound = st.sound;
        typed = subst (λ h. PreservesTyping p st.typing (dispatched h k.found.candidate.owned_object s)) method k.keeps;
        only_quiet = (λ clearing. absurd (true≢false (sym clearing)), (refl, tt));
        traps = (tt, (tt, tt));
        room = dispatches_with_room p (at 0 st.sound.depths.depths) st.sound.heights then.cells d.method
            (Inside object k.found.candidate.owned_object.place) (Of_object k.found.candidate.owned_object) s.items then.rest s.killed s.clients none_pushed;
        waits = tt;
        kept = record {
          fit = fit_same p s.clients s.cells then.cells (same_requested s.cells object
              (on_request taken_up (requested s.cells object.name)) (λ e. on_none taken_up (requested s.cells object.name) e)) st.kept.fit;
          stage = tt;
          tokens = grind (arith, nat_tests, apart_still s.cells, comes_asked s.cells, same_waits);
        };
        within = dispatch_within;
        agrees = dispatch_agrees;
      }

      same_status : d.status ≡ status_of (requested s.cells object.name)
      same_status = same_Some _ _ (sym d.completed
          ∙ reported_status a _ _ (makes.stands (requested s.cells) (queued p s.cells) k.found.candidate.request st.agrees.requests.stands k.found.asked) id
          (taken_up k.found.candidate.request) (here id (Some (taken_up k.found.candidate.request)) (requested s.cells)) k.unqueued) ∙ sym (ap status_of asked)

      same_line : Run_line m.rest.clock d.class d.status ∷ [] ≡ run_line s object
      same_line = grind (arith, nat_tests, same_status, dispatch_line s, thing)

module _ (p : Image) (m : Parts) (turned : progress_by m.rest.ended m.stack.tasks ≡ Turned) where
  abbrev was : MachineModel
  was = record { image = p; parts = m }

  -- what is picked, in each state that the machine stands for
  pub found_in : (a : Active) (id : ℕ) → meanings.Picks m.active a (Some id) → (s : State) (st : Refines was s) →
      Found p m s st (machine_between was s st turned).idle id
  found_in a id c s st = found_of p m s st (machine_between was s st turned).idle id (c.1 (requested s.cells) (queued p s.cells) st.agrees.requests.stands)

  -- an object that is no server
  plain_in : (a : Active) (id : ℕ) (c : meanings.Picks m.active a (Some id)) →
      is_served (request_at a.table id) ≡ false → (s : State) (st : Refines was s) → is_server p (found_in a id c s st).candidate.owned_object.object.thing ≡ false
  plain_in a id c plain s st = sym (serving_after p m s st (machine_between was s st turned).idle id (found_in a id c s st) a c.0) ∙ plain

  -- the pick has taken its signal
  makes_in : (a : Active) (id : ℕ) (c : meanings.Picks m.active a (Some id)) → is_served (request_at a.table id) ≡ false → (s : State) (st : Refines was s) →
      Makes m.active a id taken_up
  makes_in a id c plain s st =
      let idle = (machine_between was s st turned).idle in
      subst (λ b. meanings.TakesUp b m.active a id) (serving_reported p m s st idle id (found_in a id c s st) ∙ plain_in a id c plain s st) c.0

  -- what the machine needs to know of the object that it picks
  pub picks_can : (a : Active) (id : ℕ) → Stands was → meanings.Picks m.active a (Some id) → is_served (request_at a.table id) ≡ false →
      CanDispatch p (record m { active = a }) id
  picks_can a id (s, st) c plain =
      let idle = (machine_between was s st turned).idle in
      can_dispatch p m s st idle id (pick_of p m s st idle id (found_in a id c s st) (plain_in a id c plain s st)) a (makes_in a id c plain s st)

  pub picks_one : (a : Active) (id : ℕ) (reported now : LineBuffer) (new : Parts) → meanings.Picks m.active a (Some id) → is_served
      (request_at a.table id) ≡ false → Dispatches p id (record m { active = a }) reported now new → Picked was true reported now (record { image = p; parts = new })
  picks_one a id reported now new c plain d s st =
      let idle = (machine_between was s st turned).idle in
      let k = pick_of p m s st idle id (found_in a id c s st) (plain_in a id c plain s st) in
      let makes = makes_in a id c plain s st in (
        k.found.candidate,
        k.found.first,
        ((signals_are_ready p st.typing s st.typed).1 idle).first ∙ ap is_some k.found.first,
        record {
          between = machine_between was s st turned;
          state = then p m s st idle id k a reported now new makes d;
          goes = goes p m s st idle id k a reported now new makes d;
          lines = grind (arith, nat_tests, same_line p m s st idle id k a reported now new makes d);
          stands = grind (arith, nat_tests, dispatch_stands p m s st idle id k a reported now new makes d);
        },
      )

  pub picks_none : (a : Active) (reported : LineBuffer) (o : Option ℕ) →
      ((id : ℕ) → o ≡ Some id → ⊥) → meanings.Picks m.active a o → Picked was false reported reported (record { image = p; parts = record m { active = a } })
  picks_none a reported (Some id) not c = absurd (not id refl)
  picks_none a reported None not c = (
    ap (λ x. record { image = p; parts = record m { active = x } }) c.0,
    refl,
    λ s st.
        let idle = (machine_between was s st turned).idle in
        ((signals_are_ready p st.typing s st.typed).1 idle).first
        ∙ ap is_some (none_found p m s st idle (c.1 (requested s.cells) (queued p s.cells) st.agrees.requests.stands)),
  )

-- and the machine stands for a state again
pub picked_again : (first last : MachineModel) (b : Bool) (reported now : LineBuffer) → Picked first b reported now last → Stands first → Stands last
picked_again first last true reported now c st = let t = (c st.0 st.1).3 in (t.state, t.stands)
picked_again first last false reported now c st = subst (λ m. Stands m) (sym c.0) st
