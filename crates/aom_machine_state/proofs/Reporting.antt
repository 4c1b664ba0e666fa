-- What clients are told of messages is told on both sides alike: by the places of these messages.
use Rattle.std.proofs.lemmas.Bool.Decides.{nat_tests}
use Rattle.std.proofs.Common.{Bool, List, None, Option, Some, [], ap, cond, false, refl, slice_index_or, sym, true, ℕ, ℤ, ◌∙◌, ◌∷◌, ◌≡◌, arith}
use Rattle.std.specs.Prelude.{flat_map, map}
use Rattle.aom_clients.specs.Clients as kept
use Rattle.aom_clients.specs.Table.{code_of, completion, is_queued, sender}
use Rattle.aom_clients.specs.declared.client.Client.{Client}
use Rattle.aom_clients.specs.declared.entry.QueueEntry.{QueueEntry}
use Rattle.aom_clients.specs.declared.entry.QueueEntry.TheVariants.{Close, Connect, Message}
use Rattle.aom_clients.specs.declared.place.Completion.{Completion}
use Rattle.aom_clients.specs.declared.place.MessagePlace.{MessagePlace}
use Rattle.aom_clients.specs.declared.place.MessagePlace.TheVariants.{Free}
use Rattle.aom_clients.specs.declared.refusal.CommandRefusal.TheVariants.{ServerTerminated}
use Rattle.aom_semantics.specs.Lines.{ended_line, message_line, queue_lines, reported_line}
use Rattle.aom_semantics.specs.Places.{Cell, Object, service_of}
use Rattle.aom_transcript.specs.declared.line.Line.{Line}
use Rattle.aom_transcript.specs.declared.line.Line.TheVariants.{Discard, Reply}
use Rattle.aom_machine_state.proofs.Withdrawing.{AllWait}
use Rattle.aom_machine_state.specs.Serving.{SameClients, asked_by, message_name, sent_by}

-- the line of a message that is completed
abbrev pub completed_lines : ℤ → Option Completion → List Line
completed_lines code None = []
completed_lines code (Some c) = cond c.is_reported (Reply c.client code) (Discard c.client code) ∷ []

-- what a client is told of an entry as its server goes
abbrev pub gone_lines : List MessagePlace → QueueEntry → List Line
gone_lines places (Connect c) = Reply c (code_of ServerTerminated) ∷ []
gone_lines places (Message m) = Reply (sender (slice_index_or places m Free)) (code_of ServerTerminated) ∷ []
gone_lines places (Close c) = []

reported_place : (code : ℤ) (slot : Bool) (x : MessagePlace) → is_queued x ≡ false → reported_line code (sent_by slot x) ≡ completed_lines code (completion x)
reported_place code slot x e = grind arith

module _ (k : kept.ClientsState) (cs : List Cell) (clients : List Client) (same : SameClients k cs clients) where
  -- a message that was taken
  pub message_reported : (o : Object) (m : ℕ) (code : ℤ) →
      o.name ≡ message_name m → is_queued (kept.place_at k m) ≡ false → message_line cs (Some o) code ≡ completed_lines code (completion (kept.place_at k m))
  message_reported o m code name taken = grind (arith, nat_tests, reported_place code)

  waiting_reported : (m : ℕ) → is_queued (kept.place_at k m) ≡ true →
      reported_line (code_of ServerTerminated) (service_of cs (message_name m)).sender ≡ Reply (sender (kept.place_at k m)) (code_of ServerTerminated) ∷ []
  waiting_reported m waits = grind (arith, nat_tests)

  entries_reported : (es : List QueueEntry) → AllWait k.places es → flat_map (ended_line cs) (map (asked_by k.places) es) ≡ flat_map (gone_lines k.places) es
  entries_reported [] waits = refl
  entries_reported (Connect c ∷ es) waits = ap (λ l. Reply c (code_of ServerTerminated) ∷ l) (entries_reported es waits)
  entries_reported (Message m ∷ es) waits = grind (arith, nat_tests, waiting_reported m waits.0, entries_reported es waits.1)
  entries_reported (Close c ∷ es) waits = entries_reported es waits

  -- all that waits as its server goes
  pub queue_reported : (o : Object) → AllWait k.places (kept.queue_at k o.name) → queue_lines cs (Some o) ≡ flat_map (gone_lines k.places) (kept.queue_at k o.name)
  queue_reported o waits = ap (λ q. flat_map (ended_line cs) q) (sym (same.queues o.name)) ∙ entries_reported (kept.queue_at k o.name) waits
