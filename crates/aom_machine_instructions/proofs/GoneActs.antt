-- A cell goes, and of a server all that clients have at it: its queue is completed, and the sessions with it end.
use Rattle.std.proofs.lemmas.Bool.Decides.{nat_tests}
use Rattle.std.proofs.Common.{Bool, inl, inr, not, List, None, Option, Some, [], ap, arith, cond, false, length}
use Rattle.std.proofs.Common.{refl, subst, suc, sym, true, ℕ, ◌++◌, ◌+◌, ◌<◌, ◌==◌, ◌||◌, ◌∙◌, ◌∷◌, ◌≡◌, ◌≤◌}
use Rattle.std.specs.Prelude.{IsSome, flat_map, is_some, map, slice_index_or}
use Rattle.std.proofs.lemmas.Bool.{and_parts, eq-eqb, eqb-true, false≢true, or_right}
use Rattle.std.proofs.lemmas.List.{append-nil, append_assoc, get_or_past, length-append}
use Rattle.aom_machine_instructions.proofs.ImageLemmas.{some_given}
use Rattle.aom_active_objects.specs.Agrees.{Active, RequestAgrees}
use Rattle.aom_scheduler.specs.declared.request.Request.{Request as Machine_request}
use Rattle.aom_clients.specs.Lists.{without as without_number}
use Rattle.aom_cells.specs.Heap.{Changes, Heap, Lives, cell_at, class_at, count, null}
use Rattle.aom_clients.specs.Clients as kept
use Rattle.aom_clients.specs.Table.{after_server_destroyed, server_of}
use Rattle.aom_clients.specs.declared.client.Client.{Client}
use Rattle.aom_clients.specs.declared.client.Client.TheVariants.{Unconnected}
use Rattle.aom_clients.specs.declared.entry.QueueEntry.{QueueEntry}
use Rattle.aom_clients.specs.declared.entry.QueueEntry.TheVariants.{Close, Connect, Message}
use Rattle.aom_frames.specs.Tasks.{below_first}
use Rattle.aom_frames.specs.declared.task.Task.{Task as Machine_task}
use Rattle.aom_frames.specs.declared.task.Task.TheVariants.{Destroy as Destroys}
use Rattle.aom_image.specs.Image.{Image}
use Rattle.aom_image.specs.declared.method.Thing.TheVariants.{Object as An_object_of}
use Rattle.aom_machine_state.specs.LineBuffer.{LineBuffer}
use Rattle.aom_cells.specs.Store.{Store, count as count_kept, message_at}
use Rattle.aom_cells.specs.Sessions.{Sets, Standing}
use Rattle.aom_machine_instructions.proofs.SemanticsLemmas.{held_lives, held_without, named_without, requested_without, unnamed}
use Rattle.aom_machine_instructions.proofs.SafetyLemmas.{Alike, cell_of, cell_of_filtered_cells, each_slot_released_alike, each_slot_released_requests, going_layer}
use Rattle.aom_machine_instructions.proofs.SafetyLemmas.{kept as left_of, named_cell, object_in, request_in, requested_cell, service_cell, service_in}
use Rattle.aom_machine_instructions.proofs.SafetyLemmas.{tidy_filtered_cells, unqueued_so}
use Rattle.aom_semantics.specs.Clients.{each_slot_released}
use Rattle.aom_semantics.specs.Destruction.{is_field_of, owns_nothing, reclaimed}
use Rattle.aom_safety.specs.Kept.{StateInvariant, QueueFits}
use Rattle.aom_semantics.specs.Lines.{queue_lines}
use Rattle.aom_semantics.specs.Moves.{goes_line}
use Rattle.aom_semantics.specs.Places.{Cell, Elsewhere, Field, Going, Object, Place, Queued, Request, Service}
use Rattle.aom_semantics.specs.Places.{Session, NoDuplicates, changed, held, named, requested, service_of, without}
use Rattle.aom_safety.specs.Requests.{ConformsTo, Known, resting_in, states_claim, thing_kind}
use Rattle.aom_semantics.specs.Servers.{is_among, is_queue, is_queue_of, without_queue}
use Rattle.aom_semantics.specs.State.{Destroy, State, Task, resumed}
use Rattle.aom_safety.specs.WellTyped.{Good, WellTyped}
use Rattle.aom_transcript.specs.declared.line.Line.TheVariants.{Gone}
use Rattle.aom_machine_instructions.proofs.MachineStateLemmas.{Beside, NamedBeside, SessionsSame, at_set_or, beside_unqueued, cells_beside, cells_slot_released}
use Rattle.aom_machine_instructions.proofs.MachineStateLemmas.{cells_without, connecting_here, destroys_value, destroys_word, going_past}
use Rattle.aom_machine_instructions.proofs.MachineStateLemmas.{gone_lines as lines_of_entry, holds_unqueued, listed_beside, listed_gone, messages_unqueued}
use Rattle.aom_machine_instructions.proofs.MachineStateLemmas.{messages_slot_released, messages_wait, messages_without, natives_beside, natives_gone}
use Rattle.aom_machine_instructions.proofs.MachineStateLemmas.{natives_slot_released, places_in, queue_reported, requests_beside, requests_gone, requests_slot_released}
use Rattle.aom_machine_instructions.proofs.MachineStateLemmas.{same_gone, shows_again, sized_gone, tokens_beside, tokens_slot_released, tokens_without}
use Rattle.aom_machine_instructions.proofs.MachineStateLemmas.{reported_unqueued, unowned, waiting_kept, waiting_once, writes}
use Rattle.aom_machine_state.specs.Agrees.{Agrees, Represents, number, word_at}
use Rattle.aom_machine_state.specs.Cells.{Delists, unlisted}
use Rattle.aom_machine_state.specs.Listing.{SameListed, lists, order_in}
use Rattle.aom_machine_state.specs.Messages.{SameMessages}
use Rattle.aom_machine_state.specs.Places as places
use Rattle.aom_machine_state.specs.Places.{going_here, others, session_number, session_with, value_in, with_tasks}
use Rattle.aom_machine_state.specs.Serving.{Once, SameClients, asked_by, sessionless}
use Rattle.aom_machine_state.specs.Stands.{Stands}
use Rattle.aom_machine_state.specs.Tokens.{SameTokens}
use Rattle.aom_image.specs.declared.class.ClassKind.{ClassKind}
use Rattle.aom_roles.specs.States.{last_of}
use Rattle.aom_semantics.specs.Tokens.{awaited}
use Rattle.std.proofs.lemmas.Option.{same_Some}
use Rattle.aom_roles.specs.Things.{is_object}
use Rattle.aom_machine_state.specs.declared.parts.Parts.{Parts}
use Rattle.aom_machine_instructions.proofs.GoingActs.{Ends_cell, by_going, fields_gone, going_object, going_on, going_small, line_of, nothing_owned}
use Rattle.aom_machine_instructions.proofs.GoingActs.{number_of, over, same_resumed, thing_of_it, value_resumed, word_resumed}
use Rattle.aom_machine_instructions.proofs.ReturnActs.{lives_within}
use Rattle.aom_machine_instructions.specs.Acts.{GoesAway, GoesAwayIn, In_going}
use Rattle.aom_machine_instructions.specs.Going.{dispatches, is_dispatched_class}
use Rattle.aom_machine_instructions.specs.Serving.{AllKept, CanReclaim, Drops, answers, count_messages, gone_lines, has_message}

-- ---- entries and the places of their messages

-- the same entries are messages
is_there : (es : List QueueEntry) (m : ℕ) → is_among m (places_in es) ≡ has_message m es
is_there [] m = refl
is_there (Message k ∷ es) m = ap (λ b. (k == m) || b) (is_there es m)
is_there (_ ∷ es) m = is_there es m

many_there : (es : List QueueEntry) → length (places_in es) ≡ count_messages es
many_there [] = refl
many_there (Message k ∷ es) = ap suc (many_there es)
many_there (_ ∷ es) = many_there es

-- what is kept, each once
all_kept : (store : Store) (es : List QueueEntry) → Once (places_in es) →
    ((m : ℕ) → is_among m (places_in es) ≡ true → is_some (message_at store m) ≡ true) → AllKept store es
all_kept store [] once there = tt
all_kept store (Connect c ∷ es) once there = (tt, tt, all_kept store es once there)
all_kept store (Message k ∷ es) once there = (
  there k (ap (λ b. b || is_among k (places_in es)) (eq-eqb k k refl)),
  sym (is_there es k) ∙ once.0,
  all_kept store es once.1 (λ m h. there m (or_right (k == m) (is_among m (places_in es)) h)),
)
all_kept store (Close c ∷ es) once there = (tt, tt, all_kept store es once there)

-- the lines of entries are told alike
lines_alike : (s : kept.ClientsState) (es : List QueueEntry) → flat_map (lines_of_entry s.places) es ≡ gone_lines s es
lines_alike s [] = refl
lines_alike s (Connect c ∷ es) = ap (λ ls. lines_of_entry s.places (Connect c) ++ ls) (lines_alike s es)
lines_alike s (Message k ∷ es) = ap (λ ls. lines_of_entry s.places (Message k) ++ ls) (lines_alike s es)
lines_alike s (Close c ∷ es) = lines_alike s es

-- ---- the numbers of sessions as a server goes, none of which is there

-- no number is there for that client
abbrev NoCell : kept.ClientsState → ℕ → Type 0
NoCell s c = (i : ℕ) → session_with i (kept.client_at s c) ≡ null

-- one that has none is at something else
set_same : (s s' : kept.ClientsState) (c : ℕ) (to : Client) → s'.clients ≡ (kept.with_client c to s).clients →
    (length s.clients ≤ c → to ≡ Unconnected) → NoCell s c → ((i : ℕ) → session_with i to ≡ null) → SessionsSame s s'
set_same s s' c to is past was none i d = grind (arith, nat_tests, at_set_or Unconnected s.clients c d to past, eqb-true c d)

none_then : (s s' : kept.ClientsState) → SessionsSame s s' → (c : ℕ) → NoCell s c → NoCell s' c
none_then s s' same c none i = same i c ∙ none i

-- clients that connect have none
abbrev Quiet : kept.ClientsState → List QueueEntry → Type 0
Quiet s [] = Unit {0}
Quiet s (Connect c ∷ es) = NoCell s c × Quiet s es
Quiet s (_ ∷ es) = Quiet s es

quiet_then : (s s' : kept.ClientsState) → SessionsSame s s' → (es : List QueueEntry) → Quiet s es → Quiet s' es
quiet_then s s' same [] quiet = tt
quiet_then s s' same (Connect c ∷ es) quiet = (none_then s s' same c quiet.0, quiet_then s s' same es quiet.1)
quiet_then s s' same (_ ∷ es) quiet = quiet_then s s' same es quiet

queue_same : (n : ℕ) (es : List QueueEntry) (s : kept.ClientsState) → Quiet s es → SessionsSame s (kept.queue_gone n es s)
queue_same n [] s quiet = λ i d. refl
queue_same n (e ∷ es) s quiet =
    λ i d. queue_same n es (kept.gone n (e ∷ es) s) (quiet_then s (kept.gone n (e ∷ es) s) (one e quiet) es (rest e quiet)) i d ∙ one e quiet i d
  where
    one : (e : QueueEntry) → Quiet s (e ∷ es) → SessionsSame s (kept.gone n (e ∷ es) s)
    one (Connect c) quiet = set_same s (kept.gone n (Connect c ∷ es) s) c Unconnected refl (λ large. refl) quiet.0 (λ i. refl)
    one _ quiet = λ i d. refl

    rest : (e : QueueEntry) → Quiet s (e ∷ es) → Quiet s es
    rest (Connect c) quiet = quiet.1
    rest _ quiet = quiet

-- so have those whose sessions end
abbrev NoneOf : kept.ClientsState → List ℕ → Type 0
NoneOf s [] = Unit {0}
NoneOf s (c ∷ cs) = NoCell s c × NoneOf s cs

none_of_then : (s s' : kept.ClientsState) → SessionsSame s s' → (cs : List ℕ) → NoneOf s cs → NoneOf s' cs
none_of_then s s' same [] none = tt
none_of_then s s' same (c ∷ cs) none = (none_then s s' same c none.0, none_of_then s s' same cs none.1)

gone_none : (x : Client) (i : ℕ) → session_with i x ≡ null → session_with i (after_server_destroyed x) ≡ null
gone_none x i e = grind arith

sessions_same : (n : ℕ) (cs : List ℕ) (s : kept.ClientsState) → NoneOf s cs → SessionsSame s (kept.sessions_gone n cs s)
sessions_same n [] s none = λ i d. refl
sessions_same n (c ∷ cs) s none =
    λ i d. sessions_same n cs (kept.session_gone n (c ∷ cs) s) (none_of_then s (kept.session_gone n (c ∷ cs) s) one cs none.1) i d ∙ one i d
  where
    one : SessionsSame s (kept.session_gone n (c ∷ cs) s)
    one = set_same s (kept.session_gone n (c ∷ cs) s) c (after_server_destroyed (kept.client_at s c)) refl
        (λ large. ap after_server_destroyed (get_or_past s.clients c Unconnected large)) none.0 (λ i. gone_none (kept.client_at s c) i (none.0 i))

-- what is about to go waits for no token
last_unreported : (k : Option ClassKind) (r : Option Request) → ConformsTo k (resting_in (last_of k)) r → awaited r ≡ None
unfolding last_of
last_unreported k r s = grind arith

-- ---- the going of a cell

module _ (p : Image) (m : Parts) (h : In_going p m)
    (o : Object) (holds : held h.state.cells (Going (length h.below)) ≡ Some o) (free : owns_nothing (without_queue o.name h.state.cells) o.name ≡ true) where
  abbrev s : State
  s = h.state

  abbrev ts : List Task
  ts = h.below

  abbrev g : Place
  g = Going (length h.below)

  abbrev n : ℕ
  n = o.name

  abbrev k : kept.ClientsState
  k = m.clients

  abbrev k' : kept.ClientsState
  k' = kept.server_gone o.name m.clients

  abbrev xs : List ℕ
  xs = (service_of h.state.cells o.name).sessions

  -- the cells once its queue is gone, once it is gone too, and once no message holds a slot of its sessions
  abbrev unqueued : List Cell
  unqueued = without_queue o.name h.state.cells

  abbrev gone : List Cell
  gone = without g unqueued

  abbrev after : List Cell
  after = each_slot_released xs gone

  same : SameClients m.clients h.state.cells h.state.clients
  same = h.agrees.services.clients

  lives : named h.state.cells o.name ≡ Some o
  lives = held_lives s.cells g o h.typed.good.no_duplicates holds

  beside : Beside s.cells unqueued
  beside = beside_unqueued p h.typing h.wired s h.typed h.kept.fit k same m.messages h.agrees.services.messages n

  unqueued_holds : (r : Place) → is_queue r ≡ false → held unqueued r ≡ held s.cells r
  unqueued_holds r apart = holds_unqueued p h.typing h.wired s h.typed h.kept.fit k same n r apart

  there : held unqueued g ≡ Some o
  there = unqueued_holds g refl ∙ holds

  no_duplicates : NoDuplicates unqueued
  no_duplicates = subst NoDuplicates (sym (unqueued_so n s.cells)) (tidy_filtered_cells (λ c. is_queue_of n c.owner) (λ c. c.service) s.cells h.typed.good.no_duplicates)

  lives_there : named unqueued o.name ≡ Some o
  lives_there = held_lives unqueued g o no_duplicates there

  -- it waits for no token
  going_unreported : awaited (requested s.cells o.name) ≡ None
  going_unreported = going_layer (λ ls. Good p h.typing s.cells ls) ts h.typed.layers (sym h.typed.tasks ∙ h.top) h.typed.good (λ x ls under good.
      let held_there : held s.cells g ≡ Some x = ap (λ us. held s.cells (Going (length us))) (sym under) ∙ good.stack.0.1 in
      let is : x ≡ o = same_Some x o (sym held_there ∙ holds) in
      let last = resting_in (last_of (thing_kind p x.thing)) in
      let conforms_to = subst (λ b. ConformsTo (thing_kind p x.thing) (cond b last (states_claim p x ls)) (requested s.cells x.name)) (eq-eqb x.name x.name refl)
      (good.conforms_to x good.stack.0.0) in
      ap (λ (y : Object). awaited (requested s.cells y.name)) (sym is) ∙ last_unreported (thing_kind p x.thing) (requested s.cells x.name) conforms_to)

  -- no session is there
  no_session_there : (c : ℕ) → held s.cells (Elsewhere (Session n c)) ≡ None
  no_session_there c = sym (unqueued_holds (Elsewhere (Session n c)) refl) ∙ unheld unqueued free
    where
      unheld : (cs : List Cell) → owns_nothing cs n ≡ true → held cs (Elsewhere (Session n c)) ≡ None
      unheld [] e = refl
      unheld (x ∷ cs) e =
          let both = and_parts (not (is_field_of n x.owner)) (owns_nothing cs n) e in
          unowned x cs (Elsewhere (Session n c)) (is_field_of n) (eq-eqb n n refl) both.0 (unheld cs both.1)

  none_at : (c : ℕ) → session_with n (kept.client_at k c) ≡ null
  none_at c = h.agrees.values (Elsewhere (Session n c)) ∙ ap number (no_session_there c)

  -- so those that have sessions with it, or connect, have no number
  other_null : (server i x : ℕ) → Some server ≡ Some n → cond (server == n) x null ≡ null → cond (server == i) x null ≡ null
  other_null server i x e none = grind (arith, nat_tests, eq-eqb server)

  none_with : (x : Client) → server_of x ≡ Some n → session_with n x ≡ null → (i : ℕ) → session_with i x ≡ null
  none_with x with_it none i = grind (arith, nat_tests, other_null)

  server_sessionless : (x : Client) → server_of (sessionless x) ≡ server_of x
  server_sessionless x = grind arith

  none_listed : (cs : List ℕ) → ((c : ℕ) → is_among c cs ≡ true → is_among c (kept.sessions_at k n) ≡ true) → NoneOf k cs
  none_listed [] listed = tt
  none_listed (c ∷ cs) listed = (
    grind (arith, nat_tests, none_with, server_sessionless, eq-eqb c c, none_at c),
    none_listed cs (λ d e. listed d (or_right (c == d) (is_among d cs) e)),
  )

  quiet_here : (es : List QueueEntry) → QueueFits s.clients n (map (asked_by k.places) es) → Quiet k es
  quiet_here [] fits = tt
  quiet_here (Connect c ∷ es) fits = grind (arith, nat_tests, connecting_here, same, quiet_here es fits.1)
  quiet_here (_ ∷ es) fits = quiet_here es fits.1

  sessions_stay : SessionsSame k k'
  sessions_stay i d =
      let queue = queue_same n (kept.queue_at k n) k
      (quiet_here (kept.queue_at k n) (subst (λ q. QueueFits s.clients n q) (sym (same.queues n)) (h.kept.fit.queues n))) in
      sessions_same n (kept.sessions_at k n) (kept.queue_gone n (kept.queue_at k n) k) (none_of_then k
      (kept.queue_gone n (kept.queue_at k n) k) queue (kept.sessions_at k n) (none_listed (kept.sessions_at k n) (λ c e. e))) i d ∙ queue i d

  -- what waits at others stays
  queue_stays : (i : ℕ) → is_some (requested s.cells i) ≡ true → (service_of unqueued i).queue ≡ (service_of s.cells i).queue
  queue_stays i asked = go (beside.names i) (cell_of s.cells i) refl
    where
      left : (x : Option Cell) → cell_of s.cells i ≡ x → cell_of unqueued i ≡ left_of (λ c. is_queue_of n c.owner) (λ c. c.service) x
      left x e = ap (λ cs. cell_of cs i) (unqueued_so n s.cells) ∙ cell_of_filtered_cells (λ c. is_queue_of n c.owner) (λ c. c.service) s.cells i h.typed.good.no_duplicates
          ∙ ap (left_of (λ c. is_queue_of n c.owner) (λ c. c.service)) e

      here : (c : Cell) → cell_of s.cells i ≡ Some c → named unqueued i ≡ named s.cells i → (b : Bool) → is_queue_of n c.owner ≡ b →
          (service_of unqueued i).queue ≡ (service_of s.cells i).queue
      here c e names true drops =
          let none : named unqueued i ≡ None =
          named_cell unqueued i ∙ ap object_in (left (Some c) e ∙ ap (λ b. cond b None (Some (record c { service = c.service }))) drops) in
          let some : named s.cells i ≡ Some c.object = named_cell s.cells i ∙ ap object_in e in
          (let clash : None ≡ Some c.object = sym none ∙ names ∙ some in cc)
      here c e names false drops = ap (λ (v : Service). v.queue) (service_cell unqueued i ∙ ap service_in
          (left (Some c) e ∙ ap (λ b. cond b None (Some (record c { service = c.service }))) drops) ∙ sym (service_cell s.cells i ∙ ap service_in e))

      go : NamedBeside s.cells unqueued i → (x : Option Cell) → cell_of s.cells i ≡ x → (service_of unqueued i).queue ≡ (service_of s.cells i).queue
      go (inr e) x at = absurd (false≢true (sym (ap is_some e.2) ∙ asked))
      go (inl e) None at = absurd (false≢true (sym (ap is_some (requested_cell s.cells i ∙ ap request_in at)) ∙ asked))
      go (inl e) (Some c) at = here c at e (is_queue_of n c.owner) refl

  -- the places show what they showed, but for what goes
  module _ (heap : Heap) (a : Active) (w : Standing) (store : Store) (cleared : Changes m.cells heap o.name None) (less : count heap + 1 ≡ count m.cells)
      (off : Delists m.active a o.name) (shut : Sets m.sessions w o.name false) (drops : Drops (kept.queue_at m.clients o.name) m.messages store)
      (typed : WellTyped p h.typing (reclaimed o h.below h.state)) (fits : StateInvariant p (reclaimed o h.below h.state)) (x : ℕ) (ms : List Machine_task)
      (top : Ends_cell m h.state x ms h.below) where
    object : is_object o.thing ≡ true
    object = going_object p m h o x ms top holds

    small : o.name < 4096
    small = going_small p m h o x ms top holds

    within : o.name < p.header.cells
    within = lives_within p m s h.agrees o lives object

    clients_gone : SameClients k' after (reclaimed o ts s).clients
    clients_gone = same_gone p h.typing h.wired s h.typed h.kept.fit k same p.header.cells h.agrees.services.sized g o holds refl small within

    held_after : (r : Place) → is_queue r ≡ false → held after r ≡ held (without g s.cells) r
    held_after r apart = (each_slot_released_alike xs gone).held_so r ∙ held_without unqueued g r ∙ ap (λ o. changed (λ q. o) g None r) (unqueued_holds r apart)
        ∙ sym (held_without s.cells g r)

    in_no_queue : (r : Place) → ((i j : ℕ) → r ≡ Elsewhere (Queued i j) → ⊥) → is_queue r ≡ false
    in_no_queue y aside = grind arith

    shows_before : (r : Place) → Represents (value_in (going_on ms) heap m.entries.items (others m) r) (word_at (resumed ts) r) (held (without g s.cells) r)
    shows_before =
        let d = length ts in
        let deep = top.deep in
        let before = value_in (Destroys x ∷ ms) m.cells m.entries.items (others m) in
        let under = value_in ms m.cells m.entries.items (others m) in
        writes before _ (word_at (Destroy ∷ ts)) _ (held s.cells) _ (Going d) null None None top.values refl
        (λ r. fields_gone (going_on ms) m.cells heap m.entries.items (others m) o.name
        (λ f. top.values (Field o.name f) ∙ ap number (sym (unqueued_holds (Field o.name f) refl) ∙ nothing_owned unqueued o.name f free)) cleared r
        ∙ value_resumed ms m.cells m.entries.items (others m) r
        ∙ sym (over before under (Going d) x null (destroys_value ms m.cells m.entries.items (others m) x d deep) (going_past ms d (omega arith)) r))
        (λ r. word_resumed ts r ∙ sym (over (word_at (Destroy ∷ ts)) (word_at ts) (Going d) None None (destroys_word ts d) refl r))
        (held_without s.cells (Going d))

    listed_so : SameListed p (unlisted n m.listed) after
    listed_so = listed_gone p m.listed unqueued after n (λ class. ap (λ o. lists p class o (requested after n))
        (each.named_so n ∙ unnamed unqueued g o no_duplicates there)) (λ i class other. ap (λ o. lists p class o (requested after i))
        (each.named_so i ∙ named_without unqueued g o i no_duplicates there other) ∙ ap (lists p class (named unqueued i)) (asked i other))
        (λ i other. ap order_in (asked i other)) (listed_beside p m.listed s.cells unqueued beside h.agrees.services.listed)
      where
        each : Alike gone after
        each = each_slot_released_alike xs gone

        asked : (i : ℕ) → (n == i) ≡ false → requested after i ≡ requested unqueued i
        asked i other = each_slot_released_requests xs gone i ∙ requested_without unqueued g o i no_duplicates there other

    messages_so : SameMessages p store after
    messages_so = messages_slot_released p store xs gone (messages_without p store unqueued g o no_duplicates there lives_there object small
        (messages_unqueued p h.typing h.wired s h.typed h.kept.fit k same n m.messages store
        (λ j e. drops.gone j (sym (is_there (kept.queue_at k n) j) ∙ e)) (λ j e. drops.others j (sym (is_there (kept.queue_at k n) j) ∙ e))
        drops.limit (ap (λ i. count_kept store + i) (many_there (kept.queue_at k n)) ∙ drops.count)
        h.agrees.services.messages))

    tokens_so : SameTokens p m.tokens after
    tokens_so = tokens_slot_released p m.tokens xs gone
        (tokens_without p m.tokens unqueued g o no_duplicates there small (ap awaited (beside.requests o.name) ∙ going_unreported) (tokens_beside p m.tokens s.cells unqueued
        beside (reported_unqueued p h.typing h.wired s h.typed h.kept.fit k same m.messages h.agrees.services.messages n) h.agrees.services.tokens))

    pub goes_away : Agrees p (places.next
        (record (with_tasks ms m) { cells = heap; active = a; sessions = w; clients = k'; messages = store; listed = unlisted n m.listed })) (reclaimed o ts s)
    goes_away = record {
      tasks = same_resumed ms ts top.below;
      values = shows_again p h.typing (reclaimed o ts s) (others m) k' (going_on ms) heap m.entries.items
          (without g s.cells) (resumed ts) typed fits.fit clients_gone sessions_stay (λ r aside. held_after r (in_no_queue r aside)) shows_before;
      cells = cells_slot_released p heap xs gone
          (cells_without p m.cells heap unqueued g o (cells_beside p m.cells s.cells unqueued beside h.agrees.cells) no_duplicates there object cleared less);
      entries = h.agrees.entries;
      requests = requests_slot_released p a xs gone
          (requests_gone p m.active a unqueued g o no_duplicates there off (requests_beside p m.active s.cells unqueued beside queue_stays h.agrees.requests));
      natives = natives_slot_released p w s.killed xs gone (natives_gone p m.sessions w s.killed unqueued g o no_duplicates there shut
          (natives_beside p m.sessions s.killed s.cells unqueued h.formed.header.cells beside h.agrees.natives));
      services = record {
        clients = clients_gone;
        sized = sized_gone p.header.cells k h.agrees.services.sized n;
        messages = messages_so;
        tokens = tokens_so;
        listed = listed_so;
      };
      rest = h.agrees.rest;
      room = h.agrees.room;
      entry_room = h.agrees.entry_room;
    }

    -- with its lines
    pub reported_away : (class : ℕ) (reported : LineBuffer) → o.thing ≡ An_object_of class →
        record reported { lines = (reported.lines ++ gone_lines k (kept.queue_at k n)) ++ Gone class ∷ [] }
        ≡ record reported { lines = reported.lines ++ (queue_lines s.cells (Some o) ++ goes_line (Some o)) }
    reported_away class reported is =
        let queue = queue_reported k s.cells s.clients same o (messages_wait p h.typing h.wired s h.typed s.clients h.kept.fit k same n)
        ∙ lines_alike k (kept.queue_at k n) in
        ap (λ ls. record reported { lines = ls }) (append_assoc reported.lines (gone_lines k (kept.queue_at k n)) (Gone class ∷ []) ∙ ap (λ ls. reported.lines
        ++ (ls ++ Gone class ∷ [])) (sym queue) ∙ ap (λ ls. reported.lines ++ (queue_lines s.cells (Some o) ++ ls)) (sym (line_of o class is)))

pub go_does : (m : Parts) (heap : Heap) (a : Active) (w : Standing) (store : Store) (n class : ℕ) (reported : LineBuffer) →
    n ≡ going_here m.stack.tasks → class_at m.cells n ≡ Some class → Changes m.cells heap n None → count heap + 1 ≡ count m.cells → Delists m.active a n →
    Sets m.sessions w n false → Drops (kept.queue_at m.clients n) m.messages store → GoesAway m (places.next (record (with_tasks (below_first m.stack.tasks) m)
    { cells = heap; active = a; sessions = w; clients = kept.server_gone n m.clients; messages = store; listed = unlisted n m.listed })) reported
    (record reported { lines = (reported.lines ++ gone_lines m.clients (kept.queue_at m.clients n)) ++ Gone class ∷ [] })
go_does m heap a w store n class reported which is gone less off shut drops p h o holds free typed fits =
    by_going p m h (λ us. n ≡ going_here us → Agrees p (places.next (record (with_tasks (below_first us) m)
    { cells = heap; active = a; sessions = w; clients = kept.server_gone n m.clients; messages = store; listed = unlisted n m.listed })) (reclaimed o h.below
    h.state) × (record reported { lines = (reported.lines ++ gone_lines m.clients (kept.queue_at m.clients n)) ++ Gone class ∷ [] } ≡ record reported {
      lines = reported.lines ++ (queue_lines h.state.cells (Some o) ++ goes_line (Some o));
    })) (λ x ms top which. let name : n ≡ o.name = which ∙ number_of p m h o x ms top holds in
    let gone = subst (λ k. Changes m.cells heap k None) name gone in
    let off = subst (λ k. Delists m.active a k) name off in
    let shut = subst (λ k. Sets m.sessions w k false) name shut in
    let drops = subst (λ k. Drops (kept.queue_at m.clients k) m.messages store) name drops in
    let thing = thing_of_it p m h o n class is name (held_lives h.state.cells _ o h.typed.good.no_duplicates holds) (going_object p m h o x ms top holds) in
    subst (λ i. Agrees p (places.next (record
    (with_tasks ms m) { cells = heap; active = a; sessions = w; clients = kept.server_gone i m.clients; messages = store; listed = unlisted i m.listed }))
    (reclaimed o h.below h.state)
    × (record reported { lines = (reported.lines ++ gone_lines m.clients (kept.queue_at m.clients i)) ++ Gone class ∷ [] } ≡ record reported
    { lines = reported.lines ++ (queue_lines h.state.cells (Some o) ++ goes_line (Some o)) })) (sym name) (
      goes_away p m h o holds free heap a w store gone less off shut drops typed fits x ms top,
      reported_away p m h o holds free heap a w store gone less off shut drops typed fits x ms top class reported thing,
    )) which

-- ---- a cell whose objects are not dispatched

-- what is dispatched never makes no request
unasked : (k : Option ClassKind) (known : Known) (r : Option Request) → dispatches k ≡ false → ConformsTo k known r → r ≡ None
unasked k known r quiet conforms = grind arith

unasked_here : (r : Option Machine_request) (q : Option Request) (w : Option Bool) → q ≡ None → RequestAgrees r q w → r ≡ None
unasked_here r q w none same = grind arith

unlisted_here : (p : Image) (class : ℕ) (x : Option Object) (r : Option Request) → r ≡ None → lists p class x r ≡ false
unlisted_here p class x r none = grind arith

-- nothing is taken out where it is not
without_none : (n : ℕ) (xs : List ℕ) → is_among n xs ≡ false → without_number n xs ≡ xs
without_none n [] none = refl
without_none n (x ∷ xs) none = grind (arith, nat_tests, without_none n xs)

all_without : (n : ℕ) (ls : List (List ℕ)) → ((class : ℕ) → is_among n (slice_index_or ls class []) ≡ false) → map (without_number n) ls ≡ ls
all_without n [] none = refl
all_without n (l ∷ ls) none =
    ap (λ x. x ∷ map (without_number n) ls) (without_none n l (none 0)) ∙ ap (λ xs. l ∷ xs) (all_without n ls (λ class. none (suc class)))

none_mapped : {A B : Type 0} (f : A → B) (xs : List A) → map f xs ≡ [] → xs ≡ []
none_mapped f [] none = refl
none_mapped f (x ∷ xs) none = cc

module _ (p : Image) (m : Parts) (h : In_going p m) (o : Object) (lives : named h.state.cells o.name ≡ Some o) (quiet : dispatches (thing_kind p o.thing) ≡ false) where
  not_asked : requested h.state.cells o.name ≡ None
  not_asked = unasked (thing_kind p o.thing) _ (requested h.state.cells o.name) quiet (h.typed.good.conforms_to o lives)

  not_delisted : Delists m.active m.active o.name
  not_delisted = inl (unasked_here _ _ _ not_asked (h.agrees.requests.stands.reports o.name), refl)

  not_listed : unlisted o.name m.listed ≡ m.listed
  not_listed = ap (λ ls. record m.listed { lists = ls }) (all_without o.name m.listed.lists (λ class. h.agrees.services.listed.there o.name class
      ∙ unlisted_here p class (named h.state.cells o.name) (requested h.state.cells o.name) not_asked))

  no_queue : kept.queue_at m.clients o.name ≡ []
  no_queue = none_mapped (asked_by m.clients.places) (kept.queue_at m.clients o.name)
      (h.agrees.services.clients.queues o.name ∙ (h.kept.fit.enlisted o lives not_asked).0)

  no_sessions : kept.sessions_at m.clients o.name ≡ []
  no_sessions = h.agrees.services.clients.sessions o.name ∙ (h.kept.fit.enlisted o lives not_asked).1

  clients_stay : kept.server_gone o.name m.clients ≡ m.clients
  clients_stay = ap (λ es. kept.sessions_gone o.name (kept.sessions_at m.clients o.name) (kept.queue_gone o.name es m.clients)) no_queue
      ∙ ap (λ cs. kept.sessions_gone o.name cs m.clients) no_sessions

  nothing_drops : Drops (kept.queue_at m.clients o.name) m.messages m.messages
  nothing_drops = subst (λ es. Drops es m.messages m.messages) (sym no_queue)
      (record { gone = λ j e. absurd (false≢true e); others = λ j e. refl; count = omega arith; limit = refl })

  no_lines : gone_lines m.clients (kept.queue_at m.clients o.name) ≡ []
  no_lines = ap (gone_lines m.clients) no_queue

-- it goes, and nothing with it but its session
pub go_alone_does : (p : Image) (m : Parts) (heap : Heap) (w : Standing) (n class : ℕ) (reported : LineBuffer) → n ≡ going_here m.stack.tasks →
    class_at m.cells n ≡ Some class → Changes m.cells heap n None → count heap + 1 ≡ count m.cells → Sets m.sessions w n false →
    is_dispatched_class p (class_at m.cells n) ≡ false → GoesAwayIn p m (places.next (record (with_tasks (below_first m.stack.tasks) m)
    { cells = heap; sessions = w })) reported (record reported { lines = reported.lines ++ Gone class ∷ [] })
go_alone_does p m heap w n class reported which is gone less shut quiet h o holds free typed fits =
    let s = h.state in
    let lives = held_lives s.cells _ o h.typed.good.no_duplicates holds in
    let found : (n ≡ o.name) × (o.thing ≡ An_object_of class) = by_going p m h (λ us. n ≡ going_here us → (n ≡ o.name) × (o.thing ≡ An_object_of class))
    (λ x ms top which. let name : n ≡ o.name = which ∙ number_of p m h o x ms top holds in
    (name, thing_of_it p m h o n class is name lives (going_object p m h o x ms top holds))) which in
    let name = found.0 in
    let alone : dispatches (thing_kind p o.thing) ≡ false = ap (λ t. dispatches (thing_kind p t)) found.1 ∙ ap (is_dispatched_class p) (sym is) ∙ quiet in
    let off = subst (λ k. Delists m.active m.active k) (sym name) (not_delisted p m h o lives alone) in
    let drops = subst (λ k. Drops (kept.queue_at m.clients k) m.messages m.messages) (sym name) (nothing_drops p m h o lives alone) in
    let clients : kept.server_gone n m.clients ≡ m.clients = ap (λ k. kept.server_gone k m.clients) name ∙ clients_stay p m h o lives alone in
    let listed : unlisted n m.listed ≡ m.listed = ap (λ k. unlisted k m.listed) name ∙ not_listed p m h o lives alone in
    let lines : gone_lines m.clients (kept.queue_at m.clients n) ≡ [] = ap (λ k. gone_lines m.clients (kept.queue_at m.clients k)) name ∙ no_lines p m h o lives alone in
    let done = go_does m heap m.active w m.messages n class reported which is gone less off shut drops p h o holds free typed fits in (
      subst (λ t. Agrees p (places.next (record (with_tasks (below_first m.stack.tasks) m) { cells = heap; sessions = w; listed = t })) (reclaimed o h.below s)) listed
          (subst (λ k. Agrees p (places.next (record (with_tasks (below_first m.stack.tasks) m) { cells = heap; sessions = w; clients = k; listed = unlisted n m.listed }))
          (reclaimed o h.below s)) clients done.0),
      ap (λ ls. record reported { lines = ls ++ Gone class ∷ [] }) (sym (append-nil reported.lines) ∙ ap (λ ls. reported.lines ++ ls) (sym lines)) ∙ done.1,
    )

-- what waits at a cell is kept, each once, so it can go
pub can_reclaim : (p : Image) (m : Parts) → Stands (record { image = p; parts = m }) → (n : ℕ) → Lives m.cells n → CanReclaim n m
can_reclaim p m st n lives =
    let s = st.0 in
    let fit = st.1.kept.fit in
    let same = st.1.agrees.services.clients in
    let once = waiting_once p st.1.typing st.1.sound.wired s st.1.typed fit m.clients same n in
    let there = waiting_kept p st.1.typing st.1.sound.wired s st.1.typed fit m.clients same n m.messages st.1.agrees.services.messages in
    let below = some_given (λ c. IsSome c) (cell_at m.cells n) lives (λ none. cc)
    (λ c is some. subst (λ k. n < k) st.1.agrees.cells.limit (st.1.agrees.cells.below n c is)) in
    let few = st.1.sound.formed.header.cells in
    record { small = omega (arith, below, few); within = subst (λ k. n < k) (sym st.1.agrees.services.sized.queues) below; kept = all_kept m.messages (kept.queue_at m.clients n) once there }

-- each entry is one line, or none
gone_counted : (s : kept.ClientsState) (es : List QueueEntry) → length (gone_lines s es) ≡ answers es
gone_counted s [] = refl
gone_counted s (Close c ∷ es) = gone_counted s es
gone_counted s (_ ∷ es) = ap suc (gone_counted s es)

-- so there is room for the cell's line
pub room_left : (reported : LineBuffer) (s : kept.ClientsState) (es : List QueueEntry) → (length reported.lines + answers es) < reported.room →
    length (reported.lines ++ gone_lines s es) < reported.room
room_left reported s es room = let many = length-append reported.lines (gone_lines s es) in let counted = gone_counted s es in omega (arith, room, many, counted)
