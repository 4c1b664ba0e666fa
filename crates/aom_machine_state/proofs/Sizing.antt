-- Each change of clients leaves as many places, queues and lists of sessions as there were.
use Rattle.std.proofs.lemmas.Bool.Decides.{nat_tests}
use Rattle.std.proofs.Common.{arith, None, Option, Some, [], length, refl, ℕ, ◌≡◌, ◌∙◌, ◌∷◌, ◌++◌}
use Rattle.std.specs.Prelude.{filter, not, ◌==◌}
use Rattle.std.proofs.lemmas.List.{length-map, length-set}
use Rattle.aom_clients.specs.Clients as kept
use Rattle.aom_clients.specs.Table.{row}
use Rattle.aom_clients.specs.declared.client.Client.{Client}
use Rattle.aom_clients.specs.declared.client.Client.TheVariants.{Closing, Connecting, Dead, Dying, Open, Unconnected}
use Rattle.aom_clients.specs.declared.entry.QueueEntry.TheVariants.{Close}
use Rattle.aom_clients.specs.declared.place.MessagePlace.TheVariants.{Free}
use Rattle.aom_clients.specs.declared.server.Server.{Server}
use Rattle.aom_machine_state.proofs.Departing.{lengths_after_queue, lengths_after_sessions, sessions_after_queue, places_after_sessions, queues_after_sessions}
use Rattle.aom_machine_state.specs.Serving.{AreSized}

module _ (cells : ℕ) (k : kept.ClientsState) (sized : AreSized cells k) where
  sized_so : (k' : kept.ClientsState) → length k'.places ≡ length k.places → length k'.queues ≡ length k.queues → length k'.sessions ≡ length k.sessions → AreSized cells k'
  sized_so k' places queues sessions = record { places = places ∙ sized.places; queues = queues ∙ sized.queues; sessions = sessions ∙ sized.sessions }

  -- ---- a service

  pub sized_completed : (m : ℕ) → AreSized cells (kept.after_complete m k)
  sized_completed m = sized_so (kept.after_complete m k) (length-set k.places m Free) refl refl

  pub sized_connected : (c : ℕ) (session : Option ℕ) → AreSized cells (kept.after_connected c session k)
  sized_connected c session = go (kept.client_at k c) session
    where
      go : (x : Client) (session : Option ℕ) → AreSized cells (kept.opened x session c k)
      go (Connecting n slots) (Some session) = sized_so (kept.opened (Connecting n slots) (Some session) c k) refl
          (length-map k.queues (λ es. filter (kept.is_no_connect_of c) es)) (length-set k.sessions n (kept.sessions_at k n ++ c ∷ []))
      go (Connecting n slots) None = sized_so (kept.opened (Connecting n slots) None c k) refl (length-map k.queues (λ es. filter (kept.is_no_connect_of c) es)) refl
      go _ session = sized

  pub sized_closed : (c : ℕ) → AreSized cells (kept.after_closed c k)
  sized_closed c = go (kept.client_at k c)
    where
      parted : (next : Client) → AreSized cells (kept.parted c next k)
      parted next = sized_so (kept.parted c next k) refl (length-map k.queues (λ es. filter (kept.is_no_close_of c) es))
          (length-map k.sessions (λ cs. filter (λ d. not (d == c)) cs))

      go : (x : Client) → AreSized cells (kept.ended x c k)
      go (Closing n session) = parted Unconnected
      go (Dying n session) = parted Dead
      go _ = sized

  pub sized_released : (c : ℕ) → AreSized cells (kept.after_release c k)
  sized_released c = sized_so (kept.after_release c k) refl refl refl

  pub sized_next : (n : ℕ) → AreSized cells (kept.after_next n k)
  sized_next n = grind (arith, nat_tests, sized_so, length-set k.queues n, length-set k.places)

  pub sized_gone : (n : ℕ) → AreSized cells (kept.server_gone n k)
  sized_gone n = grind (
    arith,
    nat_tests,
    lengths_after_queue n,
    sized_so,
    places_after_sessions n,
    queues_after_sessions n,
    lengths_after_sessions n,
    sessions_after_queue n,
  )

  -- ---- commands

  pub sized_connect : (c : ℕ) (server : Option Server) (slots : ℕ) → AreSized cells (kept.after_connect c server slots k)
  sized_connect c server slots = grind (arith, nat_tests, sized_so, length-set k.queues)

  pub sized_send : (c : ℕ) (place : Option ℕ) → AreSized cells (kept.after_send c place k)
  sized_send c place = grind (arith, nat_tests, sized_so, length-set k.places, length-set k.queues)

  leaving_sized : (c : ℕ) (to : Option Client) → AreSized cells (kept.leaving to c k)
  leaving_sized c None = sized
  leaving_sized c (Some to) = go (kept.client_at k c)
    where
      places : length (kept.withdrawn c k).places ≡ length k.places
      places = length-map k.places (λ p. kept.left_place c p)

      queues : length (kept.withdrawn c k).queues ≡ length k.queues
      queues = length-map k.queues (λ es. filter (λ e. kept.stays c k.places e) es)

      plain : AreSized cells (kept.with_client c to (kept.withdrawn c k))
      plain = sized_so (kept.with_client c to (kept.withdrawn c k)) places queues refl

      go : (x : Client) → AreSized cells (kept.reported x c (kept.with_client c to (kept.withdrawn c k)))
      go (Open n session slots) = sized_so (kept.queued n (Close c) (kept.with_client c to (kept.withdrawn c k))) places
          (length-set (kept.withdrawn c k).queues n (kept.queue_at (kept.withdrawn c k) n ++ Close c ∷ []) ∙ queues) refl
      go _ = plain

  pub sized_close : (c : ℕ) → AreSized cells (kept.after_close c k)
  sized_close c = leaving_sized c (row (kept.client_at k c)).close

  pub sized_die : (c : ℕ) → AreSized cells (kept.after_die c k)
  sized_die c = leaving_sized c (row (kept.client_at k c)).die
