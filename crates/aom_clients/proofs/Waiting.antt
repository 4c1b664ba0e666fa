-- What waits in a queue behind so many others is the entry of the node there, with the client that it is of.
use Rattle.std.proofs.Common.{◌≡◌, ◌∙◌, ℕ, List, Some, refl, sym, ap}
use Rattle.std.specs.Prelude.{option_map, slice_get}
use Rattle.std.proofs.lemmas.Option.{slice_get-map}
use Rattle.aom_clients.specs.Lists.{Table, list_at}
use Rattle.aom_clients.specs.declared.client.Client.{Client}
use Rattle.aom_clients.specs.declared.place.MessagePlace.{MessagePlace}
use Rattle.aom_clients.specs.declared.entry.QueueEntry.{QueueEntry}
use Rattle.aom_clients.specs.declared.entry.QueueEntry.TheVariants.{Connect, Message, Close}
use Rattle.aom_clients.specs.Table.{sender}
use Rattle.aom_clients.specs.Clients.{ClientsState, queue_at, taken_entry}
use Rattle.aom_clients.specs.Nodes.{ClientTablesAgree, entry_of, state_of}
use Rattle.aom_clients.specs.Parts.{client_in}
use Rattle.aom_clients.proofs.Steps.{place-is, queue-is}

module _ (cl : List Client) (pl : List MessagePlace) (q cn ss st : Table) (r : ClientTablesAgree cl pl q cn ss st) (s : ClientsState) (is : state_of cl pl q ss st ≡ s) where
  -- an entry is told with its client
  pub taken-reported : (e : QueueEntry) → Some (record { entry = e; client = client_in pl e }) ≡ Some (taken_entry s e)
  taken-reported (Message m) = ap (λ p. Some (record { entry = Message m; client = sender p })) (place-is cl pl q cn ss st r s is m)
  taken-reported (Connect c) = refl
  taken-reported (Close c) = refl

  -- the places of a queue are those of its nodes
  places-are : (k ahead : ℕ) → option_map entry_of (slice_get (list_at q k) ahead) ≡ slice_get (queue_at s k) ahead
  places-are k ahead = sym (slice_get-map entry_of (list_at q k) ahead) ∙ ap (λ es. slice_get es ahead) (queue-is cl pl q cn ss st r s is k)

  pub waits-there : (k ahead n : ℕ) → Some n ≡ slice_get (list_at q k) ahead →
      Some (record { entry = entry_of n; client = client_in pl (entry_of n) }) ≡ option_map (taken_entry s) (slice_get (queue_at s k) ahead)
  waits-there k ahead n there = taken-reported (entry_of n) ∙ ap (option_map (taken_entry s)) (ap (option_map entry_of) there ∙ places-are k ahead)
