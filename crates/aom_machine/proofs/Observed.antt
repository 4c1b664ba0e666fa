-- A command of a client as the machine hears it: from the parts that it leaves, with the line of a refusal.
use Rattle.std.proofs.lemmas.Bool.Decides.{nat_tests}
use Rattle.std.proofs.Common.{Bool, None, Option, Some, append-nil, ap, false, refl, subst, suc, sym, true, ℕ, ℤ, ◌++◌, ◌<◌, ◌≤◌, ◌∙◌, ◌∷◌, ◌≡◌, [], arith}
use Rattle.std.specs.Prelude.{Err, IfSome, Ok, Result, length}
use Rattle.aom_active_objects.specs.Agrees.{Active, queued}
use Rattle.aom_clients.specs.Clients as kept
use Rattle.aom_clients.specs.Table.{code_of}
use Rattle.aom_clients.specs.declared.refusal.CommandRefusal.{CommandRefusal}
use Rattle.aom_clients.specs.declared.server.Server.{Server}
use Rattle.aom_image.specs.Image.{Image}
use Rattle.aom_machine_state.specs.LineBuffer.{LineBuffer}
use Rattle.aom_cells.specs.Store.{Store}
use Rattle.aom_scheduler.specs.Requests.{is_server, request_at}
use Rattle.aom_semantics.specs.Places.{requested}
use Rattle.aom_semantics.specs.State.{State}
use Rattle.aom_transcript.specs.declared.event.ClientCommand.{ClientCommand}
use Rattle.aom_transcript.specs.declared.event.ClientCommand.TheVariants.{Close, Connect, Die, Send}
use Rattle.aom_transcript.specs.declared.line.Line.TheVariants.{Refuse}
use Rattle.aom_machine.proofs.MachineStateLemmas.{sized_close, sized_connect, sized_die, sized_send}
use Rattle.aom_machine_state.specs.Progress.{progress_by}
use Rattle.aom_machine_state.specs.Serving.{AreSized}
use Rattle.aom_machine_state.specs.Stands.{Stands, Refines}
use Rattle.aom_machine_state.specs.declared.parts.Parts.{Parts}
use Rattle.aom_machine_state.specs.declared.progress.Progress.TheVariants.{Turned}
use Rattle.aom_machine.specs.Clients.{Acts, Executed, asked_by, queue_changed}
use Rattle.aom_machine.specs.Servers.{NotesBy, NotesIf, is_queued}
use Rattle.aom_machine.proofs.Commands.{executes, reported_refusal}
use Rattle.aom_machine.proofs.Progressing.{between, is_as_far}
use Rattle.aom_machine.proofs.Timers.{timers_same}

-- ---- the line

pub reported_none : (c : ℕ) (reported : LineBuffer) (result : Result (Unit {0}) CommandRefusal) (u : Unit {0}) → result ≡ Ok u →
    reported ≡ record reported { lines = reported.lines ++ reported_refusal c result }
reported_none c reported result u is = ap (λ ls. record reported { lines = ls }) (sym (append-nil reported.lines) ∙ ap (λ r. reported.lines ++ reported_refusal c r) (sym is))

pub reported_one : (c : ℕ) (reported now : LineBuffer) (result : Result (Unit {0}) CommandRefusal) (r : CommandRefusal) (code : ℤ) → result ≡ Err r →
    code ≡ code_of r → now ≡ record reported { lines = reported.lines ++ Refuse c code ∷ [] } → now ≡ record reported { lines = reported.lines ++ reported_refusal c result }
reported_one c reported now result r code is coded wrote = grind (arith, nat_tests, reported_refusal c)

-- ---- the queue that is told of

-- there are as many queues as before
sized_alike : {cells : ℕ} (k new then : kept.ClientsState) → new ≡ then → AreSized cells k → AreSized cells then → length new.queues ≡ length k.queues
sized_alike k new then is sized now = ap (λ (x : kept.ClientsState). length x.queues) is ∙ now.queues ∙ sym sized.queues

pub sized_acts : (cells : ℕ) (k new : kept.ClientsState) → AreSized cells k → (c : ℕ) (command : ClientCommand) (asked : Option Server)
    (before after : Store) (result : Result (Unit {0}) CommandRefusal) → Acts c command asked k new before after result → length new.queues ≡ length k.queues
sized_acts cells k new sized c (Connect class slots) asked before after result acts = sized_alike k new _ acts.1 sized (sized_connect cells k sized c asked slots)
sized_acts cells k new sized c (Send words) asked before after result acts = sized_alike k new _ acts.after_it sized (sized_send cells k sized c acts.place)
sized_acts cells k new sized c Close asked before after result acts = sized_alike k new _ acts.1 sized (sized_close cells k sized c)
sized_acts cells k new sized c Die asked before after result acts = sized_alike k new _ acts.1 sized (sized_die cells k sized c)

-- the queue that is told of is one of them
pub small_queue : (queue : Option ℕ) (many now : ℕ) → IfSome queue (λ n. n < many) → many ≤ 4096 → now ≡ many → IfSome queue (λ n. (n < 4096) × (n < now))
small_queue x many now below few same = grind arith

-- no timer is another
pub observes_timers : (p : Image) (m : Parts) → Stands (record { image = p; parts = m }) →
    (queue : Option ℕ) (k : kept.ClientsState) (new : Active) → NotesIf queue k m.active new → new.pending.timers ≡ m.active.pending.timers
observes_timers p m stands None k new same = ap (λ (a : Active). a.pending.timers) same
observes_timers p m stands (Some n) k new notes = go (is_server (request_at m.active.table n)) notes
  where
    go : (b : Bool) → NotesBy b m.active new n (is_queued k n) → new.pending.timers ≡ m.active.pending.timers
    go false same = ap (λ (a : Active). a.pending.timers) same
    go true asks =
        let s = stands.0 in
        let st = stands.1.agrees.requests.stands in
        timers_same m.active new (requested s.cells) (requested s.cells) (queued p s.cells) _ (λ i. refl) st (asks.stands (requested s.cells) (queued p s.cells) st)

-- ---- all of it

module _ (p : Image) (m : Parts) (turned : progress_by m.rest.ended m.stack.tasks ≡ Turned) (c : ℕ) (one : c < 64) (command : ClientCommand) (asked : Option
    Server) (asks : asked ≡ asked_by p m.listed command) (queue : Option ℕ) (changed : queue ≡ queue_changed asked (kept.client_at m.clients c)) where
  pub observed : (k : kept.ClientsState) (store : Store) (a : Active) (reported now : LineBuffer) (result : Result (Unit {0}) CommandRefusal) → now ≡ record reported
      { lines = reported.lines ++ reported_refusal c result } → Acts c command asked m.clients k m.messages store result → NotesIf queue k m.active a →
      (s : State) → Refines (record { image = p; parts = m }) s → Executed (record { image = p; parts = m }) s c command reported now
      (record { image = p; parts = record m { clients = k; messages = store; active = a; rest = record m.rest { delivered = suc m.rest.delivered } } })
  observed k store a reported now result lines acts observes s st =
      let b = between s (sym (is_as_far (record { image = p; parts = m }) s st) ∙ turned) in
      executes p m s st b.idle c one b k store a reported now result lines command (subst (λ x. Acts c command x m.clients k m.messages store result) asks acts)
      (subst (λ x. NotesIf x k m.active a) (changed ∙ ap (λ x. queue_changed x (kept.client_at m.clients c)) asks) observes)
