-- What the method of a server's dispatch makes of it once it has returned: what `accept` gave is the session of its client, and a message is served.
use Rattle.std.proofs.lemmas.Bool.Decides.{nat_tests}
use Rattle.std.proofs.Common.{arith, Bool, List, None, Some, [], ap, cond, false, refl, subst, sym, true, ℕ, ◌<◌, ◌==◌, ◌∙◌, ◌∷◌, ◌≡◌, ◌≤◌}
use Rattle.aom_image.specs.Image.{Image}
use Rattle.aom_cells.specs.Heap.{null}
use Rattle.aom_clients.specs.Clients as kept
use Rattle.aom_clients.specs.Table.{no_cell}
use Rattle.aom_frames.specs.Items.{Stack as Machine_items}
use Rattle.aom_frames.specs.declared.item.Item.TheVariants.{Mark as Is_mark}
use Rattle.aom_frames.specs.declared.dispatch.Dispatch.TheVariants.{Server as Of_one_served}
use Rattle.aom_frames.specs.declared.dispatch.Stage.TheVariants as stages
use Rattle.aom_frames.specs.declared.dispatch.Subject.{Subject}
use Rattle.aom_frames.specs.declared.task.Task.{Task as Machine_task}
use Rattle.aom_frames.specs.declared.task.Task.TheVariants.{Dispatched as Ends}
use Rattle.aom_machine_instructions.proofs.SemanticsLemmas.{cond_same, held_moved}
use Rattle.aom_machine_instructions.proofs.SafetyLemmas.{held_served}
use Rattle.aom_semantics.specs.Calls.{accepted_cells, accepted_clients, below_top}
use Rattle.aom_semantics.specs.Clients.{at_opening, client_at, with_client}
use Rattle.aom_safety.specs.Kept.{ClientsFit, StageKept}
use Rattle.aom_semantics.specs.Places.{Cell, Elsewhere, Entry, Field, Going, In_service, Place, Queued, Register}
use Rattle.aom_semantics.specs.Places.{Root, Session, NoDuplicates, held, moved, named, same_place, service_of}
use Rattle.aom_semantics.specs.Servers.{opened, reserved}
use Rattle.aom_semantics.specs.State.{Accepts, Accepted, Dispatched, Of_server, State, Task}
use Rattle.aom_machine_instructions.proofs.MachineStateLemmas.{beside_served, cells_beside, cells_moved, connecting_below, connecting_here, connects_nowhere}
use Rattle.aom_machine_instructions.proofs.MachineStateLemmas.{listed_beside, mark_shows_none, messages_moved, messages_served, natives_beside, natives_moved}
use Rattle.aom_machine_instructions.proofs.MachineStateLemmas.{requests_kept, requests_moved, reserved_moved, same_opened, same_still, services_moved}
use Rattle.aom_machine_instructions.proofs.MachineStateLemmas.{session_opened, sized_connected, still_moved, tokens_beside, reported_served, unmarked}
use Rattle.aom_machine_state.specs.Agrees.{Agrees, Represents, owned_object_of, subject_of, word_at}
use Rattle.aom_machine_state.specs.Places.{others, value_in}
use Rattle.aom_machine_state.specs.Serving.{SameClients}
use Rattle.aom_machine_state.specs.declared.parts.Parts.{Parts}
use Rattle.aom_machine_instructions.proofs.CallActs.{Closing, shows_null}

-- ---- what `accept` gave is the session of the client

module _ (p : Image) (few : p.header.cells ≤ 4096) (m : Parts) (s : State) (no_duplicates : NoDuplicates s.cells) (fit : ClientsFit p s.clients s.cells)
    (agrees : Agrees p m s) (x : Subject) (q : Place) (c : ℕ) (lives : named s.cells x.number ≡ Some (subject_of x)) (below : x.number < p.header.cells)
    (kept_so : StageKept p s.clients s.cells (subject_of x) c Accepts) where
  -- the place of the session
  abbrev to : Place
  to = Elsewhere (Session x.number c)

  -- from a register
  module _ (d a n : ℕ) (small : n < no_cell) (shows : Represents n None (held s.cells (Register d a))) (empty : held s.cells to ≡ None) where
    abbrev from : Place
    from = Register d a

    abbrev between : List Cell
    between = moved from to s.cells

    abbrev after : List Cell
    after = reserved (opened c) x.number between

    abbrev k : kept.ClientsState
    k = kept.after_connected c (Some n) m.clients

    same_clients : SameClients k after (with_client c (at_opening 0 (client_at s.clients c)) s.clients)
    same_clients =
        let same = agrees.services.clients in
        let at = connecting_here m.clients s.cells s.clients same x.number c kept_so.0 in
        let none = connects_nowhere p s.clients s.cells fit x.number c kept_so.0 kept_so.1 in
        let room = subst (λ i. x.number < i) (sym agrees.services.sized.sessions) below in
        let now : SameClients k (reserved (opened c) x.number s.cells) (with_client c (at_opening 0 (client_at s.clients c)) s.clients) =
        subst (λ y. SameClients (kept.opened y (Some n) c m.clients) (reserved (opened c) x.number s.cells)
        (with_client c (at_opening 0 (client_at s.clients c)) s.clients)) (sym at.1) (same_opened m.clients s.cells s.clients same (subject_of x) lives c
        (connecting_below s.cells s.clients m.clients same c x.number kept_so.0) at.0 n at.1 none room) in
        subst (λ l. SameClients k l (with_client c (at_opening 0 (client_at s.clients c)) s.clients)) (sym (reserved_moved (opened c) s.cells from to x.number))
        (same_still k (reserved (opened c) x.number s.cells) _ _ (still_moved (reserved (opened c) x.number s.cells) from to refl) now)

    holds : (r : Place) → held after r ≡ cond (same_place to r) (held s.cells from) (cond (same_place from r) None (held s.cells r))
    holds r = held_served between x.number (opened c (service_of between x.number)) r ∙ held_moved s.cells from to r empty

    -- the number of the client's session is what came
    values : (us : List Machine_task) (ts : List Task) (r : Place) →
        same_place from r ≡ false → Represents (value_in us m.cells m.entries.items (others m) r) (word_at ts r) (held s.cells r) → word_at ts to ≡ None
        → Represents (value_in us m.cells m.entries.items (record (others m) { clients = k }) r) (cond (same_place to r) None (word_at ts r)) (held after r)
    values us ts r apart old none =
        let at = connecting_here m.clients s.cells s.clients agrees.services.clients x.number c kept_so.0 in
        let client = connecting_below s.cells s.clients m.clients agrees.services.clients c x.number kept_so.0 in
        let many = agrees.services.clients.many in
        subst (λ v. Represents v (cond (same_place to r) None (word_at ts r)) (held after r))
        (sym (session_opened (others m) us m.cells m.entries.items c x.number (subst (λ i. c < i) (sym many) client) at.0 n at.1 small r))
        (subst (λ o. Represents (cond (same_place to r) n (value_in us m.cells m.entries.items (others m) r)) (cond (same_place to r) None (word_at ts r)) o)
        (sym (holds r ∙ ap (λ b. cond (same_place to r) (held s.cells from) (cond b None (held s.cells r))) apart)) (go (same_place to r)))
      where
        go : (b : Bool) →
            Represents (cond b n (value_in us m.cells m.entries.items (others m) r)) (cond b None (word_at ts r)) (cond b (held s.cells from) (held s.cells r))
        go true = shows
        go false = old

    -- all of the machine, once the method and its trap are gone
    pub accepts : (es : Machine_items) → m.entries ≡ record es { items = Is_mark ∷ es.items } → let u = record s {
      cells = accepted_cells (Of_server (owned_object_of q x) c Accepts) from s.cells;
      tasks = Dispatched (Of_server (owned_object_of q x) c Accepted) ∷ [];
      items = below_top s.items;
      clients = accepted_clients (Of_server (owned_object_of q x) c Accepts) s.clients;
    } in
        Closing u → Agrees p (record m { stack = record m.stack { tasks = Ends (Of_one_served x c stages.Accepted) ∷ [] }; entries = es; clients = k }) u
    accepts es marked shut = record {
      tasks = ((q, refl), tt);
      values = shown;
      cells = cells_beside p m.cells between after (beside_served between x.number (opened c (service_of between x.number)))
          (cells_moved p m.cells s.cells from to agrees.cells);
      entries = unmarked m.entries.items es.items s.items (ap (λ (e : Machine_items). e.items) marked) agrees.entries;
      requests = requests_kept p m.active between x.number (opened c (service_of between x.number)) refl (requests_moved p m.active s.cells from to agrees.requests);
      natives = natives_beside p m.sessions s.killed between after few
          (beside_served between x.number (opened c (service_of between x.number))) (natives_moved p m.sessions s.killed s.cells from to agrees.natives);
      services = record {
        clients = same_clients;
        sized = sized_connected p.header.cells m.clients agrees.services.sized c (Some n);
        messages = messages_served p m.messages between x.number (opened c (service_of between x.number))
            (messages_moved p m.messages s.cells from to agrees.services.messages);
        tokens = tokens_beside p m.tokens between after (beside_served between x.number (opened c (service_of between x.number)))
            (reported_served between x.number (opened c (service_of between x.number)) refl) ((services_moved p s.cells from to refl refl agrees.services).tokens);
        listed = listed_beside p m.listed between after (beside_served between x.number (opened c (service_of between x.number)))
            ((services_moved p s.cells from to refl refl agrees.services).listed);
      };
      rest = agrees.rest;
      room = agrees.room;
      entry_room = subst (λ n. 1024 ≤ n) (ap (λ (e : Machine_items). e.depth) marked) agrees.entry_room;
    }
      where
        shown : (r : Place) → Represents (value_in (Ends (Of_one_served x c stages.Accepted) ∷ []) m.cells es.items (record (others m) { clients = k }) r)
            (word_at (Dispatched (Of_server (owned_object_of q x) c Accepted) ∷ []) r) (held after r)
        shown (Register i j) = shows_null _ _ _ (cond_same (0 == i) null) (cond_same (0 == i) None) (shut.registers i j)
        shown (Entry i) = grind (arith, nat_tests, shows_null, mark_shows_none es.items i, holds (Entry i))
        shown (Going i) = shows_null _ _ _ (cond_same (0 == i) null) refl (shut.goings i)
        shown (Field i f) = values m.stack.tasks s.tasks (Field i f) refl (agrees.values (Field i f)) refl
        shown (Elsewhere Root) = values m.stack.tasks s.tasks (Elsewhere Root) refl (agrees.values (Elsewhere Root)) refl
        shown (Elsewhere (Session i j)) = subst (λ w. Represents (value_in m.stack.tasks m.cells m.entries.items (record (others m) { clients = k })
            (Elsewhere (Session i j))) w (held after (Elsewhere (Session i j)))) (cond_same (same_place to (Elsewhere (Session i j))) None)
            (values m.stack.tasks s.tasks (Elsewhere (Session i j)) refl (agrees.values (Elsewhere (Session i j))) refl)
        shown (Elsewhere In_service) = values m.stack.tasks s.tasks (Elsewhere In_service) refl (agrees.values (Elsewhere In_service)) refl
        shown (Elsewhere (Queued i j)) = values m.stack.tasks s.tasks (Elsewhere (Queued i j)) refl (agrees.values (Elsewhere (Queued i j))) refl
