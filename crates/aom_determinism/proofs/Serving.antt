-- What clients are at, and what they have at servers, under other names: the same, renamed.
use Rattle.std.proofs.lemmas.Bool.Decides.{nat_tests}
use Rattle.aom_semantics.specs.Tokens.{token_of}
use Rattle.std.proofs.Common.{arith, List, Option, [], ap, refl, suc, zero, ℕ, ◌∙◌, ◌∷◌, ◌≡◌}
use Rattle.std.proofs.lemmas.List.{map-append}
use Rattle.std.specs.Prelude.{option_map}
use Rattle.aom_clients.specs.declared.client.Client.{Client}
use Rattle.aom_clients.specs.declared.client.Client.TheVariants.{Unconnected}
use Rattle.aom_clients.specs.Table.{after_server_destroyed}
use Rattle.aom_semantics.specs.Clients.{at_opening, at_parting, client_at, each_slot_released, queue_ended, sessions_ended, with_client}
use Rattle.aom_semantics.specs.Destruction.{first_session}
use Rattle.aom_semantics.specs.Places.{Asked, Cell, Connect_of, Elsewhere, Object, Service, Session, service_of, set_service}
use Rattle.aom_semantics.specs.Servers.{all_slot_released, asked_last, has_more, opened, parted}
use Rattle.aom_semantics.specs.Servers.{reserved, taken_first, without_queue}
use Rattle.aom_determinism.proofs.NamedCells.{cond_applied, held_renamed, same_name}
use Rattle.aom_determinism.specs.Names.{IsOneToOne, renamed_asked, renamed_cells, renamed_client, renamed_clients}
use Rattle.aom_determinism.specs.Names.{renamed_object, renamed_queue, renamed_owned_object, renamed_service}

module _ (names : ℕ → ℕ) where
  -- ---- what a client is at

  pub client_renamed : (clients : List Client) (c : ℕ) → client_at (renamed_clients names clients) c ≡ renamed_client names (client_at clients c)
  client_renamed [] c = refl
  client_renamed (x ∷ xs) zero = refl
  client_renamed (x ∷ xs) (suc c) = client_renamed xs c

  pub with_client_renamed : (c : ℕ) (x : Client) (clients : List Client) →
      with_client c (renamed_client names x) (renamed_clients names clients) ≡ renamed_clients names (with_client c x clients)
  with_client_renamed zero x [] = refl
  with_client_renamed (suc c) x [] = ap (λ l. Unconnected ∷ l) (with_client_renamed c x [])
  with_client_renamed zero x (y ∷ ys) = refl
  with_client_renamed (suc c) x (y ∷ ys) = ap (λ l. renamed_client names y ∷ l) (with_client_renamed c x ys)

  parting_renamed : (x : Client) → at_parting (renamed_client names x) ≡ renamed_client names (at_parting x)
  parting_renamed x = grind arith

  gone_renamed : (x : Client) → after_server_destroyed (renamed_client names x) ≡ renamed_client names (after_server_destroyed x)
  gone_renamed x = grind arith

  -- what becomes of what a client is at
  pub changed_client_renamed : (f : Client → Client) → ((x : Client) → f (renamed_client names x) ≡ renamed_client names (f x)) →
      (c : ℕ) (clients : List Client) → with_client c (f (client_at (renamed_clients names clients) c))
      (renamed_clients names clients) ≡ renamed_clients names (with_client c (f (client_at clients c)) clients)
  changed_client_renamed f same c clients = grind (arith, nat_tests, client_renamed clients c, with_client_renamed c)

  pub opened_client_renamed : (c : ℕ) (clients : List Client) → with_client c (at_opening 0 (client_at (renamed_clients names clients) c))
      (renamed_clients names clients) ≡ renamed_clients names (with_client c (at_opening 0 (client_at clients c)) clients)
  opened_client_renamed c clients = changed_client_renamed (at_opening 0) (grind arith) c clients

  pub parted_client_renamed : (c : ℕ) (clients : List Client) → with_client c (at_parting (client_at (renamed_clients names clients) c))
      (renamed_clients names clients) ≡ renamed_clients names (with_client c (at_parting (client_at clients c)) clients)
  parted_client_renamed c clients = changed_client_renamed at_parting parting_renamed c clients

  pub queue_ended_renamed : (es : List Asked) (clients : List Client) →
      queue_ended (renamed_queue names es) (renamed_clients names clients) ≡ renamed_clients names (queue_ended es clients)
  queue_ended_renamed [] clients = refl
  queue_ended_renamed (Connect_of c ∷ es) clients = grind (arith, nat_tests, with_client_renamed c Unconnected clients, queue_ended_renamed es)
  queue_ended_renamed (_ ∷ es) clients = queue_ended_renamed es clients

  pub sessions_ended_renamed : (cs : List ℕ) (clients : List Client) →
      sessions_ended cs (renamed_clients names clients) ≡ renamed_clients names (sessions_ended cs clients)
  sessions_ended_renamed [] clients = refl
  sessions_ended_renamed (c ∷ cs) clients = ap (sessions_ended cs) (changed_client_renamed after_server_destroyed gone_renamed c clients)
      ∙ sessions_ended_renamed cs (with_client c (after_server_destroyed (client_at clients c)) clients)

  -- ---- slots, which name nothing

  slot_released_renamed : (c : ℕ) (cs : List Cell) → all_slot_released c (renamed_cells names cs) ≡ renamed_cells names (all_slot_released c cs)
  slot_released_renamed c [] = refl
  slot_released_renamed c (x ∷ xs) = grind (arith, nat_tests, slot_released_renamed c xs)

  pub each_slot_released_renamed : (clients : List ℕ) (cs : List Cell) →
      each_slot_released clients (renamed_cells names cs) ≡ renamed_cells names (each_slot_released clients cs)
  each_slot_released_renamed [] cs = refl
  each_slot_released_renamed (c ∷ clients) cs = ap (each_slot_released clients) (slot_released_renamed c cs) ∙ each_slot_released_renamed clients (all_slot_released c cs)

  -- ---- a queue

  pub more_kept : (es : List Asked) → has_more (renamed_queue names es) ≡ has_more es
  more_kept [] = refl
  more_kept (e ∷ es) = refl

module _ (names : ℕ → ℕ) (one_to_one : IsOneToOne names) where
  -- ---- what clients have at a cell

  pub service_renamed : (cs : List Cell) (n : ℕ) → service_of (renamed_cells names cs) (names n) ≡ renamed_service names (service_of cs n)
  service_renamed [] n = refl
  service_renamed (c ∷ cs) n = grind (arith, nat_tests, same_name names one_to_one c.object.name n, service_renamed cs n, cond_applied)

  pub token_named : (cs : List Cell) (o : Option Object) → token_of (renamed_cells names cs) (option_map (renamed_object names) o) ≡ token_of cs o
  token_named cs x = grind (arith, nat_tests, service_renamed cs)

  set_service_renamed : (n : ℕ) (v : Service) (cs : List Cell) →
      set_service (names n) (renamed_service names v) (renamed_cells names cs) ≡ renamed_cells names (set_service n v cs)
  set_service_renamed n v [] = refl
  set_service_renamed n v (c ∷ cs) = grind (arith, nat_tests, same_name names one_to_one c.object.name n, cond_applied, set_service_renamed n v cs)

  -- where a change of it means the same under other names
  reserved_renamed : (f g : Service → Service) → ((v : Service) → g (renamed_service names v) ≡ renamed_service names (f v)) → (n : ℕ) (cs : List Cell) →
      reserved g (names n) (renamed_cells names cs) ≡ renamed_cells names (reserved f n cs)
  reserved_renamed f g same n cs = grind (arith, nat_tests, service_renamed cs n, set_service_renamed n)

  pub asks_renamed : (e : Asked) (n : ℕ) (cs : List Cell) →
      reserved (asked_last (renamed_asked names e)) (names n) (renamed_cells names cs) ≡ renamed_cells names (reserved (asked_last e) n cs)
  asks_renamed e n cs = reserved_renamed (asked_last e) (asked_last (renamed_asked names e)) (grind (arith, nat_tests, map-append)) n cs

  pub takes_renamed : (n : ℕ) (cs : List Cell) → reserved taken_first (names n) (renamed_cells names cs) ≡ renamed_cells names (reserved taken_first n cs)
  takes_renamed n cs = reserved_renamed taken_first taken_first (grind arith) n cs

  pub opens_renamed : (c n : ℕ) (cs : List Cell) → reserved (opened c) (names n) (renamed_cells names cs) ≡ renamed_cells names (reserved (opened c) n cs)
  opens_renamed c n cs = reserved_renamed (opened c) (opened c) (λ v. refl) n cs

  pub parts_renamed : (c n : ℕ) (cs : List Cell) → reserved (parted c) (names n) (renamed_cells names cs) ≡ renamed_cells names (reserved (parted c) n cs)
  parts_renamed c n cs = reserved_renamed (parted c) (parted c) (λ v. refl) n cs

  -- ---- what waits in a queue goes

  pub without_queue_renamed : (n : ℕ) (cs : List Cell) → without_queue (names n) (renamed_cells names cs) ≡ renamed_cells names (without_queue n cs)
  without_queue_renamed n [] = refl
  without_queue_renamed n (c ∷ cs) = grind (arith, nat_tests, without_queue_renamed n cs, cond_applied)

  -- ---- the first session that is there

  pub first_session_renamed : (cs : List Cell) (n : ℕ) (clients : List ℕ) →
      first_session (renamed_cells names cs) (names n) clients ≡ option_map (renamed_owned_object names) (first_session cs n clients)
  first_session_renamed cs n [] = refl
  first_session_renamed cs n (c ∷ clients) =
      grind (arith, nat_tests, held_renamed names one_to_one cs (Elsewhere (Session n c)), first_session_renamed cs n clients)
